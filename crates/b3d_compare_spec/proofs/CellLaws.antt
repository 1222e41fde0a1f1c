-- Cells that are the same.
use mathlib.Core.Path.{◌≡◌, refl, ap, ap₂}
use Prim.Native.Nat.{ℕ}
use mathlib.Core.Bool.{not}
use mathlib.Core.List.{List, [], ◌∷◌}
use lib.Dec.{T, eqb, eqb→eq, T_not}
use mir.Facts.{and_yes, yes_and, yes_eqb}
use Rattle.b3d_spec.specs.Rebuild.{same}
use Rattle.b3d_compare_spec.specs.Changes.{Cell, number, text, told, same_cell}

pub same-is : (a b : List ℕ) → T (same a b) → a ≡ b
unfolding same
same-is [] [] h = refl
same-is [] (y ∷ b) h = absurd h
same-is (x ∷ a) [] h = absurd h
same-is (x ∷ a) (y ∷ b) h = let (p, q) = and_yes (eqb x y) (same a b) h in ap₂ ◌∷◌ (eqb→eq x y p) (same-is a b q)

pub same_self : (a : List ℕ) → T (same a a)
unfolding same
same_self [] = tt
same_self (x ∷ a) = yes_and (eqb x x) (same a a) (yes_eqb {a = x} refl) (same_self a)

pub cell_is : (x y : Cell) → T (same_cell x y) → x ≡ y
unfolding same_cell
cell_is (number a) (number b) h = ap number (eqb→eq a b h)
cell_is (number a) (text b) h = absurd h
cell_is (number a) told h = absurd h
cell_is (text a) (number b) h = absurd h
cell_is (text a) (text b) h = ap text (same-is a b h)
cell_is (text a) told h = absurd h
cell_is told (number b) h = absurd h
cell_is told (text b) h = absurd h
cell_is told told h = refl

pub cell_self : (x : Cell) → T (same_cell x x)
unfolding same_cell
cell_self (number a) = yes_eqb {a = a} refl
cell_self (text a) = same_self a
cell_self told = tt

pub cell_not : (x y : Cell) → T (not (same_cell x y)) → x ≡ y → ⊥
cell_not x y h e = T_not (same_cell x y) h (rw e (cell_self y))
