-- Words written again are the bytes that they were read from.
use mathlib.Core.Path.{◌≡◌, refl, sym, ap, ◌∙◌}
use Prim.Native.Nat.{ℕ, zero, suc, ◌+◌, ◌*◌, ◌≤◌}
use native.Mathlib.Omega.{arith}
use mathlib.Core.List.{List, [], ◌∷◌}
use lib.ListN.{length, take, drop}
use lib.Seq.{take_all}
use Rattle.wire.specs.Bytes.{bytes, word, word_at, AllBytes}
use Rattle.wire.specs.Cursors.{Inside, left}
use Rattle.wire.specs.declared.Cursor.{Cursor}
use Rattle.wire.proofs.LeftLaws.{span, left-take, left-four, left-bytes, left-length}
use Rattle.layout.specs.Parts.{words_of}
use Rattle.layout.specs.Write.{write_words}
use Rattle.b3d_mend_spec.proofs.ExactLaws.{bytes-of}

pub words_slice : (n : ℕ) (s : List ℕ) → AllBytes s → 4 * n ≤ length s → write_words (words_of n s) [] ≡ take (4 * n) s
words_slice zero s h le = refl
words_slice (suc n) [] h le = absurd (omega arith)
words_slice (suc n) (a ∷ []) h le = absurd (omega arith)
words_slice (suc n) (a ∷ b ∷ []) h le = absurd (omega arith)
words_slice (suc n) (a ∷ b ∷ c ∷ []) h le = absurd (omega arith)
words_slice (suc n) (a ∷ b ∷ c ∷ d ∷ s) h le =
    let e : suc (suc (suc (suc (4 * n)))) ≡ 4 * suc n = omega arith in
    bytes-of a b c d (write_words (words_of n s) []) h.0 h.1.0 h.1.1.0 h.1.1.1.0
    ∙ ap (λ (l : List ℕ). a ∷ b ∷ c ∷ d ∷ l) (words_slice n s h.1.1.1.1 (omega arith))
    ∙ ap (λ (k : ℕ). take k (a ∷ b ∷ c ∷ d ∷ s)) e

-- all that follows a place
pub left-all : (s : List ℕ) (n : ℕ) → left (span n (length s)) s ≡ drop n s
unfolding left
left-all s n = ap (drop n) (take_all (length s) s (omega arith))

-- the first bytes that a cursor has left, in the file
pub left-first : (s : List ℕ) (c : Cursor) (k : ℕ) → Inside c (length s) → c.at + k ≤ c.end → take k (left c s) ≡ take k (drop c.at s)
left-first s c k i h =
    sym (left-take s c k (span c.at (c.at + k)) i h refl refl)
    ∙ left-take s (span c.at (length s)) k (span c.at (c.at + k)) (record { before = omega (arith, i.before, i.within); within = omega arith }) (omega (arith, i.within)) refl refl
    ∙ ap (take k) (left-all s c.at)

pub words_left : (s : List ℕ) (c : Cursor) (n : ℕ) → AllBytes s → Inside c (length s) → c.at + 4 * n ≤ c.end → write_words (words_of n (left c s)) [] ≡ take (4 * n) (drop c.at s)
words_left s c n h i le = words_slice n (left c s) (left-bytes s c h) (long s c n i le) ∙ left-first s c (4 * n) i le
  where
    long : (s : List ℕ) (c : Cursor) (n : ℕ) → Inside c (length s) → c.at + 4 * n ≤ c.end → 4 * n ≤ length (left c s)
    long s c n i le = omega (arith, left-length s c i)

-- the number at a place
pub word_slice : (s : List ℕ) (p : ℕ) → AllBytes s → p + 4 ≤ length s → bytes (word_at s p) [] ≡ take 4 (drop p s)
unfolding word_at
word_slice s p h le =
    let c = span p (length s) in
    let i : Inside c (length s) = record { before = omega arith; within = omega arith } in
    ap (λ (l : List ℕ). write_words (words_of 1 l) []) (sym (left-four s c (span (p + 4) (length s)) i le refl refl)) ∙ words_left s c 1 h i (omega arith)
