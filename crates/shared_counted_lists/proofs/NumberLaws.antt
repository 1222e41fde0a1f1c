-- An item that is one number against a rule: what the number that stands at a cursor says of it.
use Rattle.std.specs.Prelude.{Some, None}
use Rattle.std.specs.Prelude as std
use Prim.Native.Nat.{ℕ, ◌+◌, ◌<◌, ◌≤◌}
use native.Mathlib.Omega.{arith}
use mathlib.Core.Bool.{true, false}
use mathlib.Core.Path.{◌≡◌, sym, ◌∙◌}
use mathlib.Core.List.{List, [], ◌∷◌}
use lib.ListN.{length, get_or}
use borrow.Author.Tests.{le-leb, lt-leb}
use Rattle.wire.specs.Bytes.{word_at}
use Rattle.wire.specs.Cursors.{Inside, left, number_at}
use Rattle.wire.specs.declared.Cursor.{Cursor}
use Rattle.wire.proofs.AnswerLaws.{Numbered, numbered, number_cut, left-length, left-four}
use Rattle.layout.specs.Result.{accept, reject, check}
use Rattle.layout.specs.Parts.{words, judged, row}
use Rattle.layout.specs.Rules.{Rule, up_to, holds, refusal}
use Rattle.layout.proofs.StepLaws.{row-short}

module _ (s : List ℕ) (c : Cursor) (inside : Inside c (length s)) (r : std.Option (ℕ × Cursor)) (e : r ≡ number_at s c) where
  pub head_cut : (rule : Rule) → r ≡ None → row (rule ∷ []) c.at (left c s) ≡ reject 5 c.at
  head_cut rule w =
      let short = number_cut s c (sym e ∙ w) in
      row-short (rule ∷ []) c.at (left c s) (omega (arith, left-length s c inside))

  module _ (k : ℕ) (n : Cursor) (w : r ≡ Some (k, n)) where
    pub head-numbered : Numbered s c k n
    head-numbered = numbered s c k n (sym e ∙ w)

    bytes : left c s ≡ get_or s c.at 0 ∷ get_or s (c.at + 1) 0 ∷ get_or s (c.at + 2) 0 ∷ get_or s (c.at + 3) 0 ∷ left n s
    bytes = let f = head-numbered in left-four s c n inside f.room f.to f.same

    module _ (rule : Rule) where
      pub head-bad : holds rule k ≡ false → row (rule ∷ []) c.at (left c s) ≡ reject (refusal rule) c.at
      unfolding row words judged check word_at
      head-bad h = let g = rw head-numbered.is at h in rw (bytes, g)

      pub head_got : holds rule k ≡ true → row (rule ∷ []) c.at (left c s) ≡ accept (record { value = k ∷ []; place = n.at; left = left n s })
      unfolding row words judged check word_at
      head_got h = let f = head-numbered in let g = rw f.is at h in rw (f.is, bytes, g, ← f.to)

    -- of a range
    module _ (m : ℕ) where
      pub head_over : m < k → row (up_to m ∷ []) c.at (left c s) ≡ reject 6 c.at
      head_over h = head-bad (up_to m) (lt-leb k m h)

      pub head-within : k ≤ m → row (up_to m ∷ []) c.at (left c s) ≡ accept (record { value = k ∷ []; place = n.at; left = left n s })
      head-within h = head_got (up_to m) (le-leb k m h)
