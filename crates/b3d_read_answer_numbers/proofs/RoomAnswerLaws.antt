-- A law for each way through `accepted` and `with_room`.
use mathlib.Core.Path.{◌≡◌, ap, sym, ◌∙◌}
use Prim.Native.Nat.{ℕ, ◌<◌, ◌≤◌}
use native.Mathlib.Omega.{arith}
use mir.Syntax.{w32}
use mir.Val.{Fits}
use borrow.Author.Tests.{eq-eqb, ne_eqb}
use Rattle.wire.specs.Test.{if}
use Rattle.layout.specs.Result.{reject}
use Rattle.b3d_spec.specs.declared.Answer.{Answer}
use Rattle.b3d_spec.specs.Answers.{answer}
use Rattle.b3d_spec.specs.Rules.{row_limit}
use Rattle.b3d_spec.specs.Tables.{width, tables}
use Rattle.b3d_spec.proofs.Rows.TableNumberLaws.{each-table}
use Rattle.b3d_judge_tally.specs.declared.Tally.{Tally}
use Rattle.shared_room.specs.Rooms.{number_of, first_short}
use Rattle.shared_room.proofs.RoomLaws.{short-at-most}
use Rattle.b3d_judge_limits.specs.Rooms.{counts_in}
use Rattle.b3d_read_answer_numbers.specs.Answers.{accepted_as, room_answer}

-- a count within the limit fits a cell
pub cell_fits : {n : ℕ} → n ≤ row_limit → Fits w32 n
cell_fits h = record { fits = omega arith }

module _ (version slots : ℕ) (t : Tally) (room : ℕ → ℕ) (n : ℕ) (en : n ≡ first_short width (number_of (counts_in t)) room tables) where
  pub short-fits : n < 4294967296
  short-fits = let h = short-at-most width (number_of (counts_in t)) room 10 tables (each-table (λ k. k ≤ 10) (λ k a b. b)) in omega (arith, en)

  pub answer-short : (n ≡ 0 → ⊥) → (y : Answer) → y ≡ answer (reject 11 n) → y ≡ room_answer version slots t room
  unfolding room_answer if
  answer-short d y h = h ∙ ap (λ (i : ℕ). answer (reject 11 i)) en ∙ sym (rw (ne_eqb (first_short width (number_of (counts_in t)) room tables) 0 (λ z. d (en ∙ z))))

  pub answer-good : n ≡ 0 → (y : Answer) → y ≡ accepted_as version slots t → y ≡ room_answer version slots t room
  unfolding room_answer if
  answer-good z y h = h ∙ sym (rw (eq-eqb (first_short width (number_of (counts_in t)) room tables) 0 (sym en ∙ z)))

pub ruleset room_laws = (short-fits, answer-short, answer-good)
