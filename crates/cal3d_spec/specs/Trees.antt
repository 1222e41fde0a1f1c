-- Child lists and parents tell the same trees: refusal 16. Bones are told by their parents `ps` and their lists `ls`, each in order.
use Rattle.std.specs.Prelude.{ℕ, zero, suc, ◌+◌, Bool, true, false, ◌&&◌, ◌||◌, List, [], ◌∷◌, map, length, get_or, eqb}
use Rattle.wire.specs.Test.{if}
use Rattle.layout.specs.Result.{Result, accept, check, ◌>>=◌}
use Rattle.layout.specs.Rules.{NONE}
use Rattle.layout.specs.Refusals as refusals
use Rattle.cal3d_spec.specs.Skeletons.{Bone, parent_of, list_of}

-- how often b occurs in a list
unfoldable pub occurs : ℕ → List ℕ → ℕ
occurs b [] = 0
occurs b (c ∷ l) = if (eqb c b) 1 0 + occurs b l

-- true if, of the lists of bones q, q + 1, .., that of b's parent p has b once and any other not at all
unfoldable pub listed : ℕ → ℕ → ℕ → List (List ℕ) → Bool
listed b p q [] = true
listed b p q (l ∷ ls) = eqb (occurs b l) (if (eqb q p) 1 0) && listed b p (q + 1) ls

-- true if bone b has no parent, or going up from parent to parent comes to a bone without one, after looking at no more than n bones
unfoldable pub ends : List ℕ → ℕ → ℕ → Bool
ends ps zero b = false
ends ps (suc n) b = let p = get_or ps b 0 in let above = ends ps n p in eqb p NONE || above

-- true if bone b is right: its parent lists it once and no other bone does, and its parents end. Parents that end do so after fewer steps than there are
-- bones
unfoldable pub stands : List ℕ → List (List ℕ) → ℕ → Bool
stands ps ls b = listed b (get_or ps b 0) 0 ls && ends ps (length ps) b

-- check 16: bones b, b + 1, .. are right; else 16 at the first byte of the lowest that is not
unfoldable pub standing : List ℕ → List (List ℕ) → ℕ → List Bone → Result (Unit {0})
standing ps ls b [] = accept tt
standing ps ls b (x ∷ xs) = do
  _ ← check (stands ps ls b) refusals.no_tree x.place
  standing ps ls (b + 1) xs

-- check 16 of all bones: child lists and parents tell the same trees
unfoldable pub trees : List Bone → Result (Unit {0})
trees bs = standing (map parent_of bs) (map list_of bs) 0 bs
