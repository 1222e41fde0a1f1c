-- What the tests of items tell: a law for each need.
use mathlib.Core.Path.{◌≡◌, refl, sym, subst, ◌∙◌}
use Prim.Native.Nat.{ℕ, ◌≤◌}
use native.Mathlib.Omega.{arith}
use mathlib.Core.Bool.{Bool, true, false, not}
use mathlib.Core.List.{List}
use lib.ListN.{length}
use lib.Dec.{T}
use Rattle.b3d_spec.specs.Mask.{ones, key_mask}
use Rattle.b3d_rows_open_items.specs.ItemsLeft.{ItemTable, OfVertex, Measured}
use Rattle.b3d_rows_open_items.specs.declared.OpenItems.{OpenItems}
use Rattle.b3d_rows_open_items.proofs.ItemsLeftLaws.{by-table}
use Rattle.b3d_rows_positions.specs.Positions.{MeshPosition, ItemPosition}
use Rattle.b3d_rows_positions.specs.declared.Position.{Position}
use Rattle.b3d_rows_valid_items.specs.Decides.{Decides}

-- ---- answers

pub no : {P : Type 0} → (P → ⊥) → Decides P false
no h = record { is = h }

pub yes : {P : Type 0} → P → Decides P true
yes p = record { is = p }

pub alike : {P Q : Type 0} (r : Bool) → Decides P r → (P → Q) → (Q → P) → Decides Q r
alike true t f g = record { is = f t.is }
alike false t f g = record { is = λ q. t.is (g q) }

pub told-yes : {P : Type 0} (ok : Bool) → Decides P ok → not ok ≡ false → P
told-yes true t e = t.is
told-yes false t e = absurd (subst T e tt)

pub told-no : {P : Type 0} (ok : Bool) → Decides P ok → not ok ≡ true → P → ⊥
told-no true t e p = subst T (sym e) tt
told-no false t e p = t.is p

-- ---- words

module _ (k : ℕ) (i : OpenItems) where
  module _ (some : 1 ≤ i.words) (most : i.words ≤ 42) where
    pub words-vertex : k ≡ 5 → (r : Bool) → Decides (OfVertex i) r → Decides (Measured k i) r
    words-vertex e r t =
        alike r t
        (λ v. record { some = some; most = most; vertex = λ q. v; key = λ q. absurd (omega arith); triangle = λ q. absurd (omega arith); weight = λ q. absurd (omega arith) })
        (λ m. m.vertex e)

  pub words-no-key : k ≡ 10 → (w : ℕ) → w ≡ ones (key_mask i.flags) → (i.words ≡ w → ⊥) → Decides (Measured k i) false
  words-no-key e w ew h = no (λ v. h ((v.key e).words ∙ sym ew))

  pub words-no-triangle : k ≡ 7 → (i.words ≡ 3 → ⊥) → Decides (Measured k i) false
  words-no-triangle e h = no (λ v. h (v.triangle e))

  pub words-no-weight : ItemTable k → (k ≡ 5 → ⊥) → (k ≡ 10 → ⊥) → (k ≡ 7 → ⊥) → (i.words ≡ 2 → ⊥) → Decides (Measured k i) false
  words-no-weight t n5 n10 n7 h = no (λ v. h (v.weight eight))
    where
      eight : k ≡ 8
      eight = by-table (λ j. j ≡ k → k ≡ 8) (λ e. absurd (n5 (sym e))) (λ e. absurd (n7 (sym e))) (λ e. sym e) (λ e. absurd (n10 (sym e))) k t refl

pub ruleset words_laws = (words-vertex, words-no-key, words-no-triangle, words-no-weight)

-- ---- tables 5, 7, 8 and 10

module _ (k : ℕ) (s : List ℕ) (x : Position) where
  module _ (ok : Bool) (t : Decides (MeshPosition s x) ok) where
    pub item-walk : not ok ≡ true → Decides (ItemPosition k s x) false
    item-walk e = no (λ v. told-no ok t e v.walk)

    pub item-yes : not ok ≡ false → x.items.rest.at ≤ x.items.rest.end → x.items.rest.end ≤ length s → (m : Bool) → Decides (Measured k x.items) m → not m ≡ false → Decides (ItemPosition k s x) true
    item-yes e before within m u f = yes (record { walk = told-yes ok t e; items = record { before = before; within = within }; measured = told-yes m u f })

  pub item-words : (m : Bool) → Decides (Measured k x.items) m → not m ≡ true → Decides (ItemPosition k s x) false
  item-words m u f = no (λ v. told-no m u f v.measured)

pub ruleset item_laws = (item-walk, item-yes, item-words)
