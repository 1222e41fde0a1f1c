-- A body whose fixed data is one number that is not looked at.
use Rattle.std.specs.Prelude.{Some, None}
use Rattle.std.specs.Prelude as std
use Prim.Native.Nat.{ℕ}
use mathlib.Core.Path.{◌≡◌, ap, sym, ◌∙◌}
use mathlib.Core.List.{List, [], ◌∷◌}
use lib.ListN.{length}
use Rattle.wire.specs.Cursors.{Inside, left, number_at}
use Rattle.wire.specs.declared.Cursor.{Cursor}
use Rattle.layout.specs.Result.{accept, reject}
use Rattle.layout.specs.Parts.{row}
use Rattle.b3d_chunk_cursor_answers.specs.Answers.{number_says}
use Rattle.b3d_chunk_cursor_answers.proofs.AnswerLaws.{answered}
use Rattle.b3d_label_spec.specs.Walk.{one_number}

module _ (s : List ℕ) (b : Cursor) (i : Inside b (length s)) (r : std.Option (ℕ × Cursor)) (e : r ≡ number_at s b) where
  told : (n : std.Option (ℕ × Cursor)) → r ≡ n → row one_number b.at (left b s) ≡ number_says s b n
  told n w = (answered s b i).number ∙ ap (number_says s b) (sym e ∙ w)

  pub one-cut : r ≡ None → row one_number b.at (left b s) ≡ reject 5 b.at
  one-cut = told None

  pub one_got : (k : ℕ) (c : Cursor) → r ≡ Some (k, c) → row one_number b.at (left b s) ≡ accept (record { value = k ∷ []; place = c.at; left = left c s })
  one_got k c = told (Some (k, c))
