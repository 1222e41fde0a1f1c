-- The laws of reading a record from the row, and of writing it.
use mathlib.Core.Path.{◌≡◌, ◌∙◌}
use Prim.Native.Nat.{ℕ, suc, ◌+◌, ◌*◌}
use native.Mathlib.Omega.{arith}
use native.Mathlib.Numerals.{add-one, add-two, add-three, add-four, add_five, add_six, add_seven, add_eight}
use mathlib.Core.List.{List}
use lib.ListN.{get_or, set}
use lib.Dec.{eqb}
use Rattle.b3d_spec.specs.declared.Tag.{Tag}
use Rattle.b3d_pieces_spec.specs.declared.Open.{Open}
use Rattle.b3d_spec.specs.Tags.{tag_number}
use Rattle.b3d_pieces_spec.specs.Row.{tag_by, flag, open_at, put_open}

pub open_is : (row : List ℕ) (i : ℕ) (t : Tag) → t ≡ tag_by (get_or row (i * 11) 0) → (r : Open)
    → r ≡ record {
      tag = t;
      head = get_or row (i * 11 + 1) 0;
      end = get_or row (i * 11 + 2) 0;
      turn = get_or row (i * 11 + 3) 0;
      spent = eqb (get_or row (i * 11 + 4) 0) 1;
      level = get_or row (i * 11 + 5) 0;
      kept = record { first = get_or row (i * 11 + 6) 0; second = get_or row (i * 11 + 7) 0; third = get_or row (i * 11 + 8) 0 };
      count = get_or row (i * 11 + 9) 0;
      told = get_or row (i * 11 + 10) 0;
    }
    → r ≡ open_at row i
unfolding open_at
open_is row i t e r q = q ∙ rw e

-- ---- a chunk is put

pub put_is : (row : List ℕ) (i : ℕ) (f : Open) (t s : ℕ) → t ≡ tag_number f.tag → s ≡ flag f.spent → (x : List ℕ)
    → x ≡ set (set (set (set (set (set (set (set (set (set (set row (i * 11) t) (i * 11 + 1) f.head) (i * 11 + 2) f.end) (i * 11 + 3) f.turn) (i * 11 + 4) s) (i * 11 + 5) f.level) (i * 11 + 6) f.kept.first) (i * 11 + 7) f.kept.second) (i * 11 + 8) f.kept.third) (i * 11 + 9) f.count) (i * 11 + 10) f.told
    → x ≡ put_open row i f
unfolding put_open
put_is row i f t s et es x q = q ∙ rw (et, es) (simp (add-one, add-two, add-three, add-four, add_five, add_six, add_seven, add_eight, nine, ten))
  where
    nine : (n : ℕ) → n + 9 ≡ suc (suc (suc (suc (suc (suc (suc (suc (suc n))))))))
    nine n = omega arith

    ten : (n : ℕ) → n + 10 ≡ suc (suc (suc (suc (suc (suc (suc (suc (suc (suc n)))))))))
    ten n = omega arith
