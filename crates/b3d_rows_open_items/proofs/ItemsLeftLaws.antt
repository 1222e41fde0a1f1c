-- Items that are still to come: the first and those behind it, or none; and how wide a row is.
use mathlib.Core.Path.{◌≡◌, refl, ap, sym, subst, ◌∙◌}
use Prim.Native.Nat.{ℕ, ◌+◌, ◌-◌, ◌*◌, ◌<◌, ◌≤◌}
use native.Mathlib.Nat.{div-eq_of_lt, div-eq-sub-div}
use native.Mathlib.Numerals.{add-one}
use native.Mathlib.Omega.{arith}
use mathlib.Core.Bool.{Bool, true, false, ◌||◌}
use mathlib.Core.List.{List, [], ◌∷◌, map}
use lib.ListN.{length, drop, length-drop}
use lib.Dec.{T, eqb, eqb→eq}
use Rattle.wire.specs.Test.{if}
use Rattle.wire.specs.Cursors.{Inside, left}
use Rattle.wire.proofs.LeftLaws.{span, left-length, left-drop}
use Rattle.layout.specs.Parts.{words_of}
use Rattle.layout.proofs.StepLaws.{length-words-of}
use Rattle.b3d_spec.specs.Mask.{mask, vertex_has, vertex_mask, key_has, key_mask}
use Rattle.b3d_spec.specs.Tables.{width}
use Rattle.b3d_spec.proofs.Rows.MaskLaws.{mask-length, spread_length}
use Rattle.b3d_spec_plain_rows.specs.Plain.{whole}
use Rattle.b3d_rows_open_items.specs.ItemsLeft.{ItemTable, item_row, item_rows, Measured}
use Rattle.b3d_rows_open_items.specs.declared.OpenItems.{OpenItems}

-- ---- the four tables

pub by-table : (P : ℕ → Type 0) → P 5 → P 7 → P 8 → P 10 → (k : ℕ) → ItemTable k → P k
by-table P a b c d k t = go (eqb k 5) (eqb k 7) (eqb k 8) (eqb k 10) refl refl refl refl t.is
  where
    go : (w x y z : Bool) → eqb k 5 ≡ w → eqb k 7 ≡ x → eqb k 8 ≡ y → eqb k 10 ≡ z → T (w || (x || (y || z))) → P k
    go true x y z ew ex ey ez h = subst P (sym (eqb→eq k 5 (subst T (sym ew) tt))) a
    go false true y z ew ex ey ez h = subst P (sym (eqb→eq k 7 (subst T (sym ex) tt))) b
    go false false true z ew ex ey ez h = subst P (sym (eqb→eq k 8 (subst T (sym ey) tt))) c
    go false false false true ew ex ey ez h = subst P (sym (eqb→eq k 10 (subst T (sym ez) tt))) d
    go false false false false ew ex ey ez h = absurd h

-- ---- items that are all there

pub whole-none : (w : ℕ) (l : List ℕ) → length l < 4 * w → whole w l ≡ []
unfolding whole
whole-none w l h = rw (div-eq_of_lt h)

pub whole-one : (w : ℕ) (l : List ℕ) → 1 ≤ w → 4 * w ≤ length l → whole w l ≡ words_of w l ∷ whole w (drop (4 * w) l)
unfolding whole
whole-one w l some h =
    let p : 0 < 4 * w = omega arith in
    rw (div-eq-sub-div p h, add-one, length-drop)

module _ (k : ℕ) (s : List ℕ) (i : OpenItems) (c : Inside i.rest (length s)) where
  pub items-none : i.rest.end - i.rest.at < 4 * i.words → item_rows k s i ≡ []
  unfolding item_rows
  items-none h = ap (map (item_row k i)) (whole-none i.words (left i.rest s) (omega (arith, left-length s i.rest c)))

  module _ (m : Measured k i) (h : 4 * i.words ≤ i.rest.end - i.rest.at) where
    -- those behind the first
    abbrev pub onward : OpenItems
    onward = record { rest = span (i.rest.at + 4 * i.words) i.rest.end; words = i.words; flags = i.flags; sets = i.sets; size = i.size }

    pub items-one : item_rows k s i ≡ item_row k i (words_of i.words (left i.rest s)) ∷ item_rows k s onward
    unfolding item_rows item_row
    items-one =
        ap (map (item_row k i)) (whole-one i.words (left i.rest s) m.some (omega (arith, left-length s i.rest c)))
        ∙ ap (λ l. item_row k i (words_of i.words (left i.rest s)) ∷ map (item_row k i) (whole i.words l)) (sym (left-drop s i.rest (4 * i.words) onward.rest refl refl))

    words_long : length (words_of i.words (left i.rest s)) ≡ i.words
    words_long = length-words-of i.words (left i.rest s) (omega (arith, left-length s i.rest c))

    pub item-wide : ItemTable k → length (item_row k i (words_of i.words (left i.rest s))) ≡ width k
    unfolding item_row width if vertex_mask key_mask
    item-wide t =
        by-table (λ j. j ≡ k → length (item_row j i (words_of i.words (left i.rest s))) ≡ width j)
        (λ e. spread_length (vertex_mask i.flags i.sets i.size) _ ∙ mask-length (vertex_has i.flags i.sets i.size) 42 0)
        (λ e. words_long ∙ m.triangle (sym e))
        (λ e. words_long ∙ m.weight (sym e))
        (λ e. spread_length (key_mask i.flags) _ ∙ mask-length (key_has i.flags) 11 0) k t refl

    pub onward-measured : Measured k onward
    onward-measured = record {
      some = m.some;
      most = m.most;
      vertex = λ q. record { flags = (m.vertex q).flags; sets = (m.vertex q).sets; size = (m.vertex q).size; words = (m.vertex q).words };
      key = λ q. record { words = (m.key q).words; few = (m.key q).few };
      triangle = m.triangle;
      weight = m.weight;
    }
