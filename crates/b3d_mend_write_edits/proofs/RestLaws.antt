-- What is put of all that a cursor has left.
use mathlib.Core.Path.{◌≡◌, sym, ap, ◌∙◌}
use Prim.Native.Nat.{ℕ, ◌+◌, ◌-◌, ◌<◌, ◌≤◌}
use native.Mathlib.Omega.{arith}
use mathlib.Core.Bool.{Bool}
use mathlib.Core.List.{List, [], ◌∷◌}
use lib.ListN.{length, take, drop}
use lib.Seq.{take_all}
use borrow.Author.Tests.{lt-ltb, le-ltb}
use Rattle.wire.specs.Test.{if}
use Rattle.wire.specs.Cursors.{Inside, left}
use Rattle.wire.specs.declared.Cursor.{Cursor}
use Rattle.wire.proofs.LeftLaws.{left-length}
use Rattle.layout.specs.Rows.{most_bytes}
use Rattle.b3d_mend_spec.specs.Edits.{keep, mend}
use Rattle.shared_put_or_count.specs.Emits.{RoomFrom, Emits}
use Rattle.b3d_mend_write_spec.specs.Shown.{shown}
use Rattle.shared_put_or_count.proofs.PutLaws.{fits-same, emits_same}
use Rattle.b3d_mend_write_edits.specs.Rests.{cut_shown}
use Rattle.b3d_mend_write_edits.proofs.SliceLaws.{left-first}

-- ---- all that a cursor has left

module _ (s : List ℕ) (c : Cursor) (i : Inside c (length s)) where
  pub whole-inside : c.at + (c.end - c.at) ≤ length s
  whole-inside = omega (arith, i.before, i.within)

  pub whole_order : c.at ≤ c.end
  whole_order = i.before

  pub left-whole : left c s ≡ take (c.end - c.at) (drop c.at s)
  left-whole = sym (take_all (c.end - c.at) (left c s) (omega (arith, left-length s c i))) ∙ left-first s c (c.end - c.at) i (omega (arith, i.before))

  module _ (report wet : Bool) (xs : List ℕ) (at : ℕ) where
    same : shown report c.at (keep (left c s) ∷ []) ≡ shown report c.at (keep (take (c.end - c.at) (drop c.at s)) ∷ [])
    same = ap (λ (l : List ℕ). shown report c.at (keep l ∷ [])) left-whole

    pub whole-fits : RoomFrom wet (shown report c.at (keep (left c s) ∷ [])) at xs → RoomFrom wet (shown report c.at (keep (take (c.end - c.at) (drop c.at s)) ∷ [])) at xs
    whole-fits f = fits-same same wet xs at f

    pub whole-done : (ys : List ℕ) (n : ℕ) → Emits wet (shown report c.at (keep (take (c.end - c.at) (drop c.at s)) ∷ [])) xs at ys n → Emits wet (shown report c.at (keep (left c s) ∷ [])) xs at ys n
    whole-done ys n e = emits_same same wet xs at ys n e

pub ruleset whole_laws = (whole-inside, whole_order, whole-fits, whole-done)

-- ---- where no chunk is

module _ (s : List ℕ) (c : Cursor) (i : Inside c (length s)) where
  pub rest-order : c.at ≤ c.end
  rest-order = i.before

  pub rest-inside : c.at + (c.end - c.at) ≤ length s
  rest-inside = omega (arith, i.before, i.within)

  pub rest-small : length s ≤ most_bytes → length s < 4294967296
  rest-small h = omega arith

  module _ (report wet : Bool) (xs : List ℕ) (at : ℕ) where
    module _ (h : c.end - c.at < 8) where
      spare : cut_shown report s c ≡ shown report c.at (mend 4 (take (c.end - c.at) (drop c.at s)) [] ∷ [])
      unfolding cut_shown if
      spare = rw (lt-ltb _ _ h) (ap (λ (l : List ℕ). shown report c.at (mend 4 l [] ∷ [])) (left-whole s c i))

      pub spare-fits : RoomFrom wet (cut_shown report s c) at xs → RoomFrom wet (shown report c.at (mend 4 (take (c.end - c.at) (drop c.at s)) [] ∷ [])) at xs
      spare-fits f = fits-same spare wet xs at f

      pub spare-done : (ys : List ℕ) (n : ℕ) → Emits wet (shown report c.at (mend 4 (take (c.end - c.at) (drop c.at s)) [] ∷ [])) xs at ys n → Emits wet (cut_shown report s c) xs at ys n
      spare-done ys n e = emits_same spare wet xs at ys n e

    module _ (h : 8 ≤ c.end - c.at) where
      past : cut_shown report s c ≡ shown report c.at (keep (left c s) ∷ [])
      unfolding cut_shown if
      past = rw (le-ltb _ _ h)

      pub past_fits : RoomFrom wet (cut_shown report s c) at xs → RoomFrom wet (shown report c.at (keep (left c s) ∷ [])) at xs
      past_fits f = fits-same past wet xs at f

      pub past-done : (ys : List ℕ) (n : ℕ) → Emits wet (shown report c.at (keep (left c s) ∷ [])) xs at ys n → Emits wet (cut_shown report s c) xs at ys n
      past-done ys n e = emits_same past wet xs at ys n e

pub ruleset rest_laws = (rest-order, rest-inside, rest-small, spare-fits, spare-done, past_fits, past-done)
