-- Fixed data. A body whose fixed data is one number: what the number that stands there says of it, and where the items after it stand.
use Rattle.std.specs.Prelude.{Some, None}
use Rattle.std.specs.Prelude as std
use Prim.Native.Nat.{ℕ, ◌≤◌, ◌<◌, ◌+◌}
use native.Mathlib.Omega.{arith}
use mathlib.Core.Bool.{Bool, true, false, not}
use mathlib.Core.Path.{sym, ◌≡◌, ◌∙◌}
use mathlib.Core.List.{List, [], ◌∷◌}
use lib.ListN.{length, get_or, drop}
use borrow.Author.Tests.{le-leb, lt-leb, not-true, not-false}
use Rattle.wire.specs.Bytes.{word_at}
use Rattle.wire.specs.Cursors.{Inside, left, number_at}
use Rattle.wire.specs.declared.Cursor.{Cursor}
use Rattle.wire.proofs.AnswerLaws.{Numbered, numbered, number_cut, left-length, left-four}
use Rattle.layout.specs.Result.{accept, reject, check}
use Rattle.layout.specs.Parts.{words, judged, row, words_of}
use Rattle.layout.specs.Rules.{Rule, up_to, holds, refusal}
use Rattle.layout.proofs.StepLaws.{row-short, row_any}
use Rattle.b3d_spec_chunk_places.specs.Places.{Body}
use Rattle.b3d_spec.specs.Rules.{header}

module _ (s : List ℕ) (at : ℕ) (b : Cursor) (body : Body at b (length s)) where
  pub body-inside : Inside b (length s)
  body-inside = record { before = body.room; within = body.within }

  module _ (r : std.Option (ℕ × Cursor)) (e : r ≡ number_at s b) where
    pub head_cut : (rule : Rule) → r ≡ None → row (rule ∷ []) (at + 8) (left b s) ≡ reject 5 b.at
    head_cut rule w =
        let short = number_cut s b (sym e ∙ w) in
        rw (← body.head) (row-short (rule ∷ []) b.at (left b s) (omega (arith, left-length s b body-inside)))

    module _ (k : ℕ) (c : Cursor) (w : r ≡ Some (k, c)) where
      pub head-numbered : Numbered s b k c
      head-numbered = numbered s b k c (sym e ∙ w)

      pub head-before : c.at ≤ c.end
      head-before = let f = head-numbered in omega arith

      pub head-inside : Inside c (length s)
      head-inside = let f = head-numbered in record { before = head-before; within = omega arith }

      bytes : left b s ≡ get_or s b.at 0 ∷ get_or s (b.at + 1) 0 ∷ get_or s (b.at + 2) 0 ∷ get_or s (b.at + 3) 0 ∷ left c s
      bytes = let f = head-numbered in left-four s b c body-inside f.room f.to f.same

      -- by what the rule says of the number
      module _ (rule : Rule) where
        pub head-bad : holds rule k ≡ false → row (rule ∷ []) (at + 8) (left b s) ≡ reject (refusal rule) b.at
        unfolding row words judged check word_at
        head-bad h = let g = rw head-numbered.is at h in rw (← body.head, bytes, g)

        pub head_got : holds rule k ≡ true → row (rule ∷ []) (at + 8) (left b s) ≡ accept (record { value = k ∷ []; place = c.at; left = left c s })
        unfolding row words judged check word_at
        head_got h = let f = head-numbered in let g = rw f.is at h in rw (← body.head, f.is, bytes, g, ← f.to)

        -- by an answer to that
        module _ (ok : Bool) (a : ok ≡ holds rule k) where
          pub head-refused : not ok ≡ true → row (rule ∷ []) (at + 8) (left b s) ≡ reject (refusal rule) b.at
          head-refused h = head-bad (sym a ∙ not-true ok h)

          pub head-kept : not ok ≡ false → row (rule ∷ []) (at + 8) (left b s) ≡ accept (record { value = k ∷ []; place = c.at; left = left c s })
          head-kept h = head_got (sym a ∙ not-false ok h)

      -- of a range
      module _ (m : ℕ) where
        pub head_over : m < k → row (up_to m ∷ []) (at + 8) (left b s) ≡ reject 6 b.at
        head_over h = head-bad (up_to m) (lt-leb k m h)

        pub head-within : k ≤ m → row (up_to m ∷ []) (at + 8) (left b s) ≡ accept (record { value = k ∷ []; place = c.at; left = left c s })
        head-within h = head_got (up_to m) (le-leb k m h)

pub ruleset heads = (head-before, head-inside)

-- the header of a file: its two words, and what follows
pub head-is : (s : List ℕ) → 8 ≤ length s → row header 0 s ≡ accept (record { value = words_of 2 s; place = 8; left = drop 8 s })
head-is s h = row_any 2 0 s h
