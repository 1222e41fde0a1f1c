-- Items of the same shape: a law for each way through the functions.
use mathlib.Core.Path.{◌≡◌, sym, ◌∙◌}
use Prim.Native.Nat.{ℕ, ◌-◌, ◌/◌, ◌<◌}
use native.Mathlib.Omega.{arith}
use mathlib.Core.Bool.{Bool, true, false, not}
use lib.Dec.{eqb, eqb→eq, leb, leb→le}
use borrow.Author.Tests.{not-false}
use Rattle.b3d_rows_open_items.specs.declared.OpenItems.{OpenItems}
use Rattle.b3d_compare_shapes.specs.Shapes.{IsItems, HasItem, IsSameShape}

true-false : ◌≡◌ {A = Bool} false true → ⊥
true-false e = let z : ◌≡◌ {A = ℕ} 0 1 = cc in omega arith

-- ---- `is_items`

module _ (k : ℕ) where
  pub items_five : k ≡ 5 → IsItems k true
  items_five e = record { is = λ t. rw e (record { is = tt }) }

  pub items_seven : k ≡ 7 → IsItems k true
  items_seven e = record { is = λ t. rw e (record { is = tt }) }

  pub items-eight : k ≡ 8 → IsItems k true
  items-eight e = record { is = λ t. rw e (record { is = tt }) }

  pub items-last : (r : Bool) → r ≡ eqb k 10 → IsItems k r
  items-last r e = record { is = λ t. let z : eqb k 10 ≡ true = sym e ∙ t in rw (eqb→eq k 10 (rw z tt)) (record { is = tt }) }

pub ruleset items_laws = (items_five, items_seven, items-eight, items-last)

-- ---- `has_item`

module _ (i : OpenItems) where
  pub item-none : HasItem i false
  item-none = record { is = λ e. absurd (true-false e) }

  pub item-some : i.rest.at < i.rest.end → (r : Bool) → r ≡ leb i.words ((i.rest.end - i.rest.at) / 4) → HasItem i r
  item-some h r e = record { is = λ t. let z : leb i.words ((i.rest.end - i.rest.at) / 4) ≡ true = sym e ∙ t in let l = leb→le i.words ((i.rest.end - i.rest.at) / 4) (rw z tt) in omega arith }

pub ruleset item_laws = (item-none, item-some)

-- ---- `same_shape`

module _ (k : ℕ) (i j : OpenItems) where
  pub shape-not : IsSameShape k i j false
  shape-not = record { is = λ e. absurd (true-false e) }

  pub shape_is : (t : Bool) → IsItems k t → not t ≡ false → i.words ≡ j.words → i.flags ≡ j.flags → i.sets ≡ j.sets → i.size ≡ j.size
      → (m : Bool) → HasItem i m → not m ≡ false → (n : Bool) → HasItem j n → IsSameShape k i j n
  shape_is t s et ew ef es ez m hm em n hn =
      record {
        is = λ e. record {
          table = s.is (not-false t et);
          words = ew;
          flags = ef;
          sets = es;
          size = ez;
          first_some = hm.is (not-false m em);
          second_some = hn.is e;
        };
      }
