-- A brush by its cells: the name, the slots that are used, those that are not; and how many slots there are.
use mathlib.Core.Path.{◌≡◌, refl, ap, ap₂, sym, ◌∙◌}
use Prim.Native.Nat.{ℕ, zero, suc, ◌+◌, ◌-◌, ◌*◌, ◌≤◌}
use native.Mathlib.Omega.{arith}
use mathlib.Core.Bool.{Bool, true, false, ◌&&◌, ◌||◌}
use mathlib.Core.List.{List, [], ◌∷◌}
use lib.ListN.{take, drop, get_or, replicate}
use lib.Seq.{drop-drop, take-take}
use lib.Dec.{leb, eqb}
use borrow.Author.Tests.{eq-eqb, ne_eqb, le-ltb}
use Rattle.wire.specs.Test.{if}
use Rattle.layout.specs.WellFormed.{all}
use Rattle.layout.specs.Rules.{NONE, Rule, holds}
use Rattle.b3d_spec.specs.Rules.{texture_id}
use Rattle.b3d_check_spec.specs.Check.{keeps, name_valid, brush_valid, slots_valid}
use Rattle.b3d_check_rows.specs.Rows.{row_at}
use Rattle.b3d_check_rows.proofs.RowLaws.{name-cells}

-- ---- lists

drop-take : {A : Type 0} (n m : ℕ) (l : List A) → drop n (take (n + m) l) ≡ take m (drop n l)
drop-take zero m l = let e : 0 + m ≡ m = omega arith in rw e
drop-take (suc n) m [] = let e : suc n + m ≡ suc (n + m) = omega arith in rw e (empty m)
  where
    empty : {A : Type 0} (k : ℕ) → ◌≡◌ {A = List A} [] (take k [])
    empty zero = refl
    empty (suc k) = refl
drop-take (suc n) m (x ∷ l) = let e : suc n + m ≡ suc (n + m) = omega arith in rw e (drop-take n m l)

-- one rule for all
keeps-all : (r : Rule) (n : ℕ) (l : List ℕ) → keeps (replicate n r) (take n l) ≡ all (holds r) (take n l)
unfolding keeps
keeps-all r zero l = refl
keeps-all r (suc n) [] = refl
keeps-all r (suc n) (x ∷ l) = ap (λ (b : Bool). holds r x && b) (keeps-all r n l)

-- a cell that names one of no textures is NONE
or_false : (b : Bool) → (b || false) ≡ b
or_false true = refl
or_false false = refl

none-id : (x : ℕ) → holds (texture_id 0) x ≡ eqb x NONE
none-id x = rw (le-ltb x 0 (omega arith)) (or_false (eqb x NONE))

none-ids : (l : List ℕ) → all (holds (texture_id 0)) l ≡ all (λ w. eqb w NONE) l
none-ids [] = refl
none-ids (x ∷ l) = ap₂ ◌&&◌ (none-id x) (none-ids l)

-- ---- brushes

module _ (ns : List ℕ) (slots many textures i : ℕ) (ws : List ℕ) (few : slots ≤ 8) (e : many ≡ slots) where
  ids : drop 9 (row_at 17 i ws) ≡ take 8 (drop (17 * i + 9) ws)
  unfolding row_at
  ids = drop-take 9 8 (drop (17 * i) ws) ∙ ap (take 8) (drop-drop 9 (17 * i) ws)

  used : take many (drop 9 (row_at 17 i ws)) ≡ take many (drop (17 * i + 9) ws)
  used = rw ids (take-take many 8 (drop (17 * i + 9) ws) (omega arith))

  unused : drop many (drop 9 (row_at 17 i ws)) ≡ take (8 - many) (drop (17 * i + 9 + many) ws)
  unused =
      let d : 8 ≡ many + (8 - many) = omega arith in
      rw ids (ap (λ (k : ℕ). drop many (take k (drop (17 * i + 9) ws))) d ∙ drop-take many (8 - many) (drop (17 * i + 9) ws) ∙ ap (take (8 - many)) (drop-drop many (17 * i + 9) ws))

  pub brush-parts : (r : Bool)
      → r ≡ (name_valid ns (get_or ws (17 * i) 0 ∷ get_or ws (17 * i + 1) 0 ∷ [])
      && (all (holds (texture_id textures)) (take many (drop (17 * i + 9) ws)) && all (holds (texture_id 0)) (take (8 - many) (drop (17 * i + 9 + many) ws))))
      → r ≡ brush_valid ns slots textures (row_at 17 i ws)
  unfolding brush_valid
  brush-parts r h =
      rw (← e) (h ∙ ap₂ ◌&&◌ (name-cells ns 17 i ws (omega arith))
      (ap₂ ◌&&◌ (ap (all (holds (texture_id textures))) (sym used) ∙ sym (keeps-all (texture_id textures) many (drop 9 (row_at 17 i ws)))) (none-ids (take (8 - many) (drop (17 * i + 9 + many) ws)) ∙ ap (all (λ w. eqb w NONE)) (sym unused))))

-- ---- how many slots

module _ (many brushes : ℕ) where
  pub slots-none : brushes ≡ 0 → eqb many 0 ≡ slots_valid many brushes
  unfolding slots_valid if
  slots-none e = rw (eq-eqb brushes 0 e)

  pub slots-some : (brushes ≡ 0 → ⊥) → leb many 8 ≡ slots_valid many brushes
  unfolding slots_valid if
  slots-some h = rw (ne_eqb brushes 0 h)

pub ruleset slots_laws = (slots-none, slots-some)
