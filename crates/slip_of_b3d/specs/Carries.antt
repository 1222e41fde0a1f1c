-- What holds of the slip of a file, in the words of 02. A slip is of what the lenient mode accepts.
use Rattle.std.specs.Prelude.{◌≡◌, ℕ, List, ◌∷◌}
use Rattle.layout.specs.Result.{accept, reject}
use Rattle.b3d_spec.specs.declared.Mode.{Mode}
use Rattle.b3d_spec.specs.declared.Mode.TheVariants.{Lenient}
use Rattle.b3d_spec.specs.Answers.{judge, room_for, read_answer}
use Rattle.b3d_spec.specs.Scene.{Scene}
use Rattle.slip.specs.Slips.{slip_for, read_slip}
use Rattle.slip_of_b3d.specs.FileSlips.{scene_numbers, file_slip}

-- E1's promises about the slip of the file s
pub record Carries (s : List ℕ) : Type 0 where
  -- a file that is refused by 1 to 10 is refused so, whatever the room
  pub first : (n p room : ℕ) → judge Lenient s ≡ reject n p → file_slip s room ≡ reject n p
  -- an accepted file has a slip
  pub slip : (t : Scene) → judge Lenient s ≡ accept t → List ℕ
  -- the slip is that of the file's own numbers, which are never refused by 13
  pub is : (t : Scene) (e : judge Lenient s ≡ accept t) → slip_for (scene_numbers t) ≡ accept (slip t e)
  -- 11 is given exactly when the output is shorter
  pub then : (t : Scene) (e : judge Lenient s ≡ accept t) (room : ℕ) → file_slip s room ≡ room_for room (slip t e)
  -- the slip read gives the file's twelve numbers
  pub numbers : (t : Scene) (e : judge Lenient s ≡ accept t) → read_slip (slip t e) ≡ accept (scene_numbers t)
  -- these are the reader's twelve numbers, whatever the reader's mode and the tables that it is lent, where it accepts
  pub reader : (mode : Mode) (rooms : ℕ → ℕ) → (read_answer mode rooms s).number ≡ 0 → (room : ℕ) (b : List ℕ) → file_slip s room ≡ accept b
      → read_slip b ≡ accept ((read_answer mode rooms s).version ∷ (read_answer mode rooms s).n_texs ∷ (read_answer mode rooms s).counts)
