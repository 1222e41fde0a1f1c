-- Bones by scores: what one pass over the child lists leaves for each bone, and when a bone is right by it.
use Rattle.std.specs.Prelude.{ℕ, zero, suc, ◌+◌, ◌*◌, ◌<◌, ◌≤◌, Bool, true, ◌&&◌, ◌⊎◌, ◌≡◌, List, [], ◌∷◌, length, get_or, set, eqb, ltb}
use Rattle.wire.specs.Test.{if}
use Rattle.wire.specs.Bytes.{word_at}
use Rattle.layout.specs.Result.{Result, accept, reject}
use Rattle.layout.specs.Rules.{NONE}
use Rattle.layout.specs.Refusals as refusals
use Rattle.cal3d_spec.specs.Skeletons.{Bone}
use Rattle.cal3d_spec.specs.Trees.{occurs, ends}

-- what a bone's score grows by when bone q lists it: one if q is its parent, else two
unfoldable pub weight : ℕ → ℕ → ℕ
weight q parent = if (eqb parent q) 1 2

-- the score of bone b, whose parent is p, from the lists of bones q, q + 1, ..
unfoldable pub score : ℕ → ℕ → ℕ → List (List ℕ) → ℕ
score b p q [] = 0
score b p q (l ∷ ls) = occurs b l * weight q p + score b p (q + 1) ls

-- the score of a bone that its parent lists once, and no other bone: 1, or 0 without a parent
unfoldable pub wanted : ℕ → ℕ
wanted parent = if (eqb parent NONE) 0 1

-- true if bone b is right by its score, and its parents end
unfoldable pub sound : List ℕ → List ℕ → ℕ → Bool
sound ps scores b = eqb (get_or scores b 0) (wanted (get_or ps b 0)) && ends ps (length ps) b

-- the first of the given number of bones b, b + 1, .. of which the test does not hold; the one after them if it holds of all
unfoldable pub lowest : (ℕ → Bool) → ℕ → ℕ → ℕ
lowest ok zero b = b
lowest ok (suc n) b = let later = lowest ok n (b + 1) in if (ok b) later b

-- each parent is NONE, or one of the bones
pub record ParentsValid (ps : List ℕ) : Type 0 where
  pub named : (i : ℕ) → i < length ps → (get_or ps i 0 ≡ NONE) ⊎ (get_or ps i 0 < length ps)

-- the parents of bone b end
pub record ParentsEnd (ps : List ℕ) (b : ℕ) : Type 0 where
  pub kept : ends ps (length ps) b ≡ true

-- there is a mark for each bone, and the parents of a marked bone end
pub record Marked (ps marks : List ℕ) : Type 0 where
  -- there is a mark for each bone
  pub long : length marks ≡ length ps
  -- the parents of a marked bone end
  pub marked : (i : ℕ) → i < length ps → get_or marks i 0 ≡ 1 → ParentsEnd ps i

-- all marks are 0
pub record Zeros (marks : List ℕ) : Type 0 where
  pub none : (i : ℕ) → get_or marks i 0 ≡ 0

-- the scores after bone q's list, ps being the parents
unfoldable pub noted : List ℕ → ℕ → List ℕ → List ℕ → List ℕ
noted ps q scores [] = scores
noted ps q scores (c ∷ l) = noted ps q (set scores c (get_or scores c 0 + weight q (get_or ps c 0))) l

-- no score is above twice the number of entries
pub record Low (entries : ℕ) (scores : List ℕ) : Type 0 where
  pub low : (i : ℕ) → get_or scores i 0 ≤ 2 * entries

-- the `count` words at a place of the file s are each the id of one of the bones
pub record ChildIds (s : List ℕ) (at count bones : ℕ) : Type 0 where
  pub bone : (i : ℕ) → i < count → word_at s (at + 4 * i) < bones

-- the scores from the lists ls of the first bones, and from the first part l of the next bone's
pub record Scored (ps : List ℕ) (ls : List (List ℕ)) (l scores : List ℕ) : Type 0 where
  -- there is a score for each bone
  pub long : length scores ≡ length ps
  -- each is what these lists give
  pub each : (b : ℕ) → b < length ps → get_or scores b 0 ≡ score b (get_or ps b 0) 0 ls + occurs b l * weight (length ls) (get_or ps b 0)

-- the place of the first byte of bone i; 0 past the last
abbrev pub place_at : List Bone → ℕ → ℕ
place_at [] i = 0
place_at (x ∷ xs) zero = x.place
place_at (x ∷ xs) (suc i) = place_at xs i

-- 16 at the first byte of bone r, if there is such a bone
abbrev pub stray_at : ℕ → List Bone → Result (Unit {0})
stray_at r bs = if (ltb r (length bs)) (reject refusals.no_tree (place_at bs r)) (accept tt)
