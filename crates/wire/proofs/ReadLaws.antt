-- What stands at a cursor, for each outcome of the tests that the code makes.
use Rattle.std.specs.Prelude.{Some, None}
use Prim.Native.Nat.{ℕ, zero, suc, ◌+◌, ◌-◌, ◌<◌, ◌≤◌}
use native.Mathlib.Omega.{arith}
use native.Mathlib.Nat.{le_refl}
use mathlib.Core.Path.{◌≡◌, refl, ◌∙◌}
use mathlib.Core.List.{List, [], ◌∷◌, ◌++◌}
use mathlib.Core.Option.{none, some}
use lib.ListN.{length, get_or}
use borrow.Author.Tests.{lt-ltb, le-ltb, le-leb, lt-leb}
use Rattle.wire.specs.Bytes.{word_at}
use Rattle.wire.specs.Test.{if}
use Rattle.wire.specs.Cursors.{Inside, left, number_at, zero_at, text_of, text_at, header_at}
use Rattle.wire.specs.declared.Cursor.{Cursor}
use Rattle.wire.specs.declared.Header.TheVariants as header
use Rattle.wire.proofs.LeftLaws.{span, NoZero, left-length, left-nil, left-cons, left_split}

no_zero : (l : List ℕ) → NoZero l → zero_at l ≡ none
unfolding zero_at
no_zero [] h = refl
no_zero (zero ∷ l) h = absurd (omega arith)
no_zero (suc b ∷ l) h = rw (no_zero l h.1)

first-zero : (a r : List ℕ) → NoZero a → zero_at (a ++ 0 ∷ r) ≡ some (length a)
unfolding zero_at
first-zero [] r h = refl
first-zero (zero ∷ a) r h = absurd (omega arith)
first-zero (suc b ∷ a) r h = rw (first-zero a r h.1)

nonzero_one : (a : List ℕ) (x : ℕ) → NoZero a → 0 < x → NoZero (a ++ x ∷ [])
nonzero_one [] x h k = (k, tt)
nonzero_one (y ∷ a) x h k = (h.0, nonzero_one a x h.1 k)

-- a cursor's bytes have been passed up to a place, and none of them is zero
pub record Passed (s : List ℕ) (c : Cursor) (at : ℕ) : Type 0 where
  pub from : c.at ≤ at
  pub to : at ≤ c.end
  pub within : c.end ≤ length s
  pub nonzero : NoZero (left (span c.at at) s)

module _ (s : List ℕ) (c : Cursor) where
  -- a number

  pub short_number : c.end - c.at < 4 → None ≡ number_at s c
  unfolding number_at if
  short_number h = simp (lt-ltb _ _ h)

  pub whole_number : (n : ℕ) → 4 ≤ c.end - c.at → n ≡ word_at s c.at → Some (n, record { at = c.at + 4; end = c.end }) ≡ number_at s c
  unfolding number_at if
  whole_number n h e = simp (le-ltb _ _ h, e)

  -- a text

  pub pass_none : Inside c (length s) → Passed s c c.at
  pass_none i = record { from = le_refl _; to = i.before; within = i.within; nonzero = rw (left-nil s (span c.at c.at) (le_refl _)) tt }

  module _ (at : ℕ) (p : Passed s c at) where
    pub pass_one : at < c.end → (get_or s at 0 ≡ 0 → ⊥) → Passed s c (at + 1)
    pass_one h z =
        let byte : left (span at (at + 1)) s ≡ get_or s at 0 ∷ [] =
        left-cons s (span at (at + 1)) (omega arith) (omega arith) ∙ rw (left-nil s (span (at + 1) (at + 1)) (le_refl _)) in
        record {
          from = omega arith;
          to = omega arith;
          within = p.within;
          nonzero = rw (left_split s (span c.at (at + 1)) at (omega arith) p.from (omega arith), byte)
              (nonzero_one (left (span c.at at) s) (get_or s at 0) p.nonzero (omega arith));
        }

    pub text_found : at < c.end → get_or s at 0 ≡ 0 → Some (at - c.at, record { at = at + 1; end = c.end }) ≡ text_at s c
    unfolding text_at text_of
    text_found h z =
        let to : c.at + (at - c.at) + 1 ≡ at + 1 = omega arith in
        rw (
          left_split s c at (omega arith) p.from p.to,
          left-cons s (span at c.end) (omega arith) h,
          z,
          first-zero _ _ p.nonzero,
          left-length s (span c.at at) (omega arith),
          to,
        )

    pub text_none : c.end ≤ at → None ≡ text_at s c
    unfolding text_at text_of
    text_none h = let same : at ≡ c.end = omega arith in rw (no_zero (left c s) (rw same at p.nonzero))

  -- a header

  pub no_header : c.end ≤ c.at → header.End ≡ header_at s c
  unfolding header_at if
  no_header h = simp (le-leb _ _ h)

  pub short_header : c.at < c.end → c.end - c.at < 8 → header.Cut ≡ header_at s c
  unfolding header_at if
  short_header h k = simp (lt-leb _ _ h, lt-ltb _ _ k)

  -- n is the length that the header says
  module _ (n k : ℕ) (h : c.at < c.end) (l : 8 ≤ c.end - c.at) (e : n ≡ k) (f : k ≡ word_at s (c.at + 4)) where
    pub over_header : c.end - (c.at + 8) < n → header.Cut ≡ header_at s c
    unfolding header_at if
    over_header o = simp (lt-leb _ _ h, le-ltb _ _ l, lt-ltb _ _ (rw (e, f) at o))

    pub whole_header : (t : ℕ) → n ≤ c.end - (c.at + 8) → t ≡ word_at s c.at → header.Whole t (record { at = c.at + 8; end = c.at + 8 + n }) (record { at = c.at + 8 + n; end = c.end }) ≡ header_at s c
    unfolding header_at if
    whole_header t o g = simp (lt-leb _ _ h, le-ltb _ _ l, le-ltb _ _ (rw (e, f) at o), e, f, g)

pub ruleset reading = (short_number, whole_number, pass_none, pass_one, text_found, text_none, no_header, short_header, over_header, whole_header)
