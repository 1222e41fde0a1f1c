-- What holds of the slip of a file: `carries` has it all.
use mathlib.Core.Path.{◌≡◌, refl, sym, ◌∙◌}
use Prim.Native.Nat.{ℕ}
use native.Mathlib.Omega.{arith}
use mathlib.Core.List.{List, [], ◌∷◌}
use lib.ListN.{length, replicate}
use lib.Dec.{leb, leb→le}
use Rattle.wire.specs.Bytes.{AllBytes}
use Rattle.layout.specs.Result.{Result, accept, reject}
use Rattle.layout.proofs.ResultLaws.{by-check}
use Rattle.shared_seven_bit_groups.specs.Groups.{AtMost, write_numbers}
use Rattle.b3d_spec.specs.declared.Mode.{Mode}
use Rattle.b3d_spec.specs.declared.Mode.TheVariants.{Lenient}
use Rattle.b3d_spec.specs.Answers.{judge, read, answer, read_answer, room_for}
use Rattle.b3d_spec.specs.Rules.{row_limit}
use Rattle.b3d_spec.specs.Scene.{Scene}
use Rattle.b3d_spec.specs.Tables.{node_tables, tables, counts}
use Rattle.b3d_spec.proofs.AnswerLaws.{Small, judge_got, judge_lenient, read_got}
use Rattle.b3d_spec.proofs.Files.FileLaws.{parse-fine}
use Rattle.b3d_spec.proofs.RefusalLaws.{read_number}
use Rattle.b3d_spec.proofs.WellFormedLaws.{slots-few}
use Rattle.slip.specs.Slips.{limits, slip_for, read_slip, limits_within}
use Rattle.slip.proofs.SlipLaws.{written, one-slip}
use Rattle.slip_of_b3d.specs.FileSlips.{scene_numbers, file_slip}
use Rattle.slip_of_b3d.specs.Carries.{Carries}

-- ---- an accepted file's numbers are in their ranges

counts-low : (t : Scene) → Small t → AtMost (replicate 10 row_limit) (counts t)
unfolding counts tables node_tables
counts-low t h = h

twelve : (t : Scene) → length (scene_numbers t) ≡ 12
unfolding counts tables node_tables
twelve t = refl

module _ (s : List ℕ) (all : AllBytes s) where
  in_range : (t : Scene) → judge Lenient s ≡ accept t → AtMost limits (scene_numbers t)
  unfolding limits_within
  in_range t e =
      let j = judge_got Lenient s t e in
      let f = (parse-fine s t all j.0).0 in
      (leb→le t.version 99 f.version.1, (slots-few t.slots t.brushes f.slots, counts-low t j.1))

  the_slip : (t : Scene) (e : judge Lenient s ≡ accept t) → slip_for (scene_numbers t) ≡ accept (write_numbers (scene_numbers t) [])
  the_slip t e = written row_limit (scene_numbers t) (in_range t e)

  numbers : (t : Scene) (e : judge Lenient s ≡ accept t) → read_slip (write_numbers (scene_numbers t) []) ≡ accept (scene_numbers t)
  numbers t e = (one-slip row_limit).reads_back (scene_numbers t) (write_numbers (scene_numbers t) []) (twelve t) (the_slip t e)

  then : (t : Scene) (e : judge Lenient s ≡ accept t) (room : ℕ) → file_slip s room ≡ room_for room (write_numbers (scene_numbers t) [])
  unfolding file_slip
  then t e room = rw e ((one-slip row_limit).then (scene_numbers t) (write_numbers (scene_numbers t) []) room (the_slip t e))

  room_got : (room : ℕ) (b c : List ℕ) → room_for room b ≡ accept c → c ≡ b
  unfolding room_for
  room_got room b c e = by-check (leb (length b) room) 11 (length b) _ e (λ t e₁. cc)

  reader : (mode : Mode) (o : Result Scene) (rooms : ℕ → ℕ) → read mode rooms s ≡ o → (answer o).number ≡ 0 → (room : ℕ) (b : List ℕ) → file_slip s room ≡ accept b
      → read_slip b ≡ accept ((answer o).version ∷ (answer o).n_texs ∷ (answer o).counts)
  unfolding answer
  reader mode (accept t) rooms e z room b f =
      let j = judge_lenient mode s t (read_got mode rooms s t e).0 in
      let same : b ≡ write_numbers (scene_numbers t) [] = room_got room (write_numbers (scene_numbers t) []) b (sym (then t j room) ∙ f) in
      rw same (numbers t j)
  reader mode (reject n p) rooms e z room b f = absurd (omega (arith, read_number mode rooms s n p e, z))

pub carries : (s : List ℕ) → AllBytes s → Carries s
unfolding file_slip read_answer
carries s all =
    record {
      first = λ n p room e. rw e;
      slip = λ t e. write_numbers (scene_numbers t) [];
      is = the_slip s all;
      then = then s all;
      numbers = numbers s all;
      reader = λ mode rooms z room b f. reader s all mode (read mode rooms s) rooms refl z room b f;
    }
