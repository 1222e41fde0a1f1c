-- What the tests on textures and brushes say: each row is that of the part that comes from it, and the part fits.
use mathlib.Core.Path.{◌≡◌, refl, ap, ap₂, sym, ◌∙◌, subst}
use Prim.Native.Nat.{ℕ, ◌-◌, ◌≤◌}
use native.Mathlib.Omega.{arith}
use mathlib.Core.Bool.{Bool, ◌&&◌}
use mathlib.Core.List.{List, [], ◌∷◌, ◌++◌, map}
use lib.ListN.{length, take, drop, get_or, replicate, length-drop, length-replicate, take-append-drop}
use lib.Seq.{drop_at, drop-drop}
use lib.Dec.{eqb, eqb-suc-zero}
use Rattle.wire.specs.Bytes.{IsWord, AllBytes}
use Rattle.wire.specs.Test.{if}
use Rattle.layout.specs.WellFormed.{all}
use Rattle.layout.specs.Parts.{Name}
use Rattle.layout.specs.Rules.{NONE, holds}
use Rattle.layout.proofs.WellFormedLaws.{Fits}
use Rattle.layout.proofs.AllLaws.{All, cons_head, cons_tail}
use Rattle.layout.proofs.TestLaws.{Tests, both, via, eq_is}
use Rattle.layout.specs.Rows.{name_cells}
use Rattle.b3d_spec.specs.Rebuild.{name_from, texture_from, brush_from}
use Rattle.b3d_spec.specs.Rules.{slots, brush_ids, brushes_head}
use Rattle.b3d_spec.specs.Scene.{Brush}
use Rattle.b3d_spec.specs.Tables.{texture_row, brush_row}
use Rattle.b3d_spec.proofs.WellFormedLaws.{FitTexture, FitBrush, FitSlots}
use Rattle.b3d_spec.proofs.Rows.RowPartLaws.{Stands}
use Rattle.b3d_check_spec.specs.Check.{keeps, name_valid, brush_valid, slots_valid}
use Rattle.b3d_check_spec.proofs.Check.TestLaws.{yes-if, same-is}
use Rattle.b3d_check_spec.proofs.Check.RowLaws.{Full, full-take, full-drop, cells, cells-front, keeps-is, one_is, any-fits}
use Rattle.b3d_check_spec.proofs.Check.KindLaws.{name_is}

-- a part of a row x that fits, stands in ns, and has that row
abbrev pub PartIs : {A : Type 0} → (A → Type 0) → (Name → Type 0) → (A → Name) → (A → List ℕ) → List ℕ → A → Type 0
PartIs Ok In name row x a = Ok a × In (name a) × (row a ≡ x)

pub texture_is : (ns x : List ℕ) → AllBytes ns → Full 9 x → Tests (name_valid ns x) (PartIs FitTexture (Stands ns) (λ t. t.name) texture_row x (texture_from ns x))
unfolding texture_from texture_row name_cells name_from cells
texture_is ns x wn w =
    via
    (λ h. ((h.0, any-fits 7 (drop 2 x) (full-drop 2 7 x w)), h.1, (λ i. get_or x 0 0 ∷ h.2 i ∷ drop 2 x) ∙ cells-front x 2 (omega (arith, w.0))))
    (λ h. (h.0.0, h.1, ap (λ (z : List ℕ). get_or z 1 0) h.2))
    (name_is ns x wn)

-- s ids, and NONE in the slots after them
ids-is : (s t : ℕ) (z : List ℕ) → s ≤ 8 → Full 8 z
    → Tests (keeps (brush_ids s t) (take s z) && all (λ i. eqb i NONE) (drop s z)) (Fits (brush_ids s t) (take s z) × (take s z ++ replicate (8 - length (take s z)) NONE ≡ z))
ids-is s t z le w =
    let ids = take s z in
    let wi : Full s ids = full-take s 8 z le w in
    let lr : length (drop s z) ≡ 8 - length ids = omega (arith, length-drop s z, w.0, wi.0) in
    let wr : length (brush_ids s t) ≡ s = length-replicate s _ in
    via
    (λ h. (h.0, ap (λ (r : List ℕ). ids ++ r) h.1 ∙ take-append-drop s z))
    (λ h. (h.0, sym (drop_at ids (replicate (8 - length ids) NONE) s wi.0) ∙ ap (λ (r : List ℕ). drop s r) h.1))
    (both (keeps-is (brush_ids s t) ids (subst (λ (k : ℕ). Full k ids) (sym wr) wi)) (same-is NONE (8 - length ids) (drop s z) lr))

pub brush-is : (ns : List ℕ) (s t : ℕ) (x : List ℕ) → s ≤ 8 → AllBytes ns → Full 17 x
    → Tests (brush_valid ns s t x) (PartIs (FitBrush s t) (Stands ns) (λ b. b.name) brush_row x (brush_from ns s x))
unfolding brush_valid brush_from brush_row name_cells name_from cells
brush-is ns s t x le wn w =
    let v = take 7 (drop 2 x) in
    let wv : Full 7 v = full-take 7 15 (drop 2 x) (omega arith) (full-drop 2 15 x w) in
    let split : v ++ drop 9 x ≡ drop 2 x = ap (λ (r : List ℕ). v ++ r) (sym (drop-drop 7 2 x)) ∙ take-append-drop 7 (drop 2 x) in
    via
    (λ h.
    let f = ap (λ (r : List ℕ). v ++ r) h.1.1 ∙ split in
    ((h.0.0, any-fits 7 v wv, h.1.0), h.0.1, (λ i. get_or x 0 0 ∷ h.0.2 i ∷ f i) ∙ cells-front x 2 (omega (arith, w.0))))
    (λ h. ((h.0.0, h.1, ap (λ (r : List ℕ). get_or r 1 0) h.2), (h.0.2, sym (drop_at v _ 7 wv.0) ∙ ap (λ (r : List ℕ). drop 9 r) h.2)))
    (both (name_is ns x wn) (ids-is s t (drop 9 x) le (full-drop 9 8 x w)))

pub slots-is : (s : ℕ) (bs : List Brush) → IsWord s → Tests (slots_valid s (length bs)) (FitSlots s bs)
unfolding slots_valid if
slots-is s [] w = eq_is s 0
slots-is s (b ∷ bs) w = subst (λ (c : Bool). Tests (if c (eqb s 0) (holds slots s)) (Fits brushes_head (s ∷ []))) (sym (eqb-suc-zero (length bs))) (one_is slots s w)

-- ---- all of a list

-- the facts of each, as lists of facts
module _ {A : Type 0} (Ok : A → Type 0) (In : Name → Type 0) (name : A → Name) (row : A → List ℕ) (read : List ℕ → A) where
  abbrev pub PartsAre : List (List ℕ) → Type 0
  PartsAre xs = All Ok (map read xs) × All In (map name (map read xs)) × (map row (map read xs) ≡ xs)

  pub parts_are : {f : List ℕ → Bool} (w : ℕ) → ((x : List ℕ) → Full w x → Tests (f x) (PartIs Ok In name row x (read x))) → (xs : List (List ℕ)) → All (Full w) xs → Tests (all f xs) (PartsAre xs)
  parts_are w is [] h = yes-if (tt, tt, refl)
  parts_are w is (x ∷ xs) h =
      via (λ k. ((k.0.0, k.1.0), (k.0.1, k.1.1), ap₂ ◌∷◌ k.0.2 k.1.2)) (λ k. ((k.0.0, k.1.0, cons_head k.2), (k.0.1, k.1.1, cons_tail k.2)))
      (both (is x h.0) (parts_are w is xs h.1))
