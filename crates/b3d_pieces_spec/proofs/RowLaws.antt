-- A chunk put on top of the stack in a row is the one found there, and those below stay.
use mathlib.Core.Path.{◌≡◌, refl, ◌∙◌}
use Prim.Native.Nat.{ℕ, zero, suc, ◌+◌, ◌*◌, ◌<◌, ◌≤◌}
use native.Mathlib.Omega.{arith}
use mathlib.Core.Bool.{Bool, true, false}
use mathlib.Core.List.{List, [], ◌∷◌}
use lib.ListN.{length, get_or, set, length-set}
use lib.Seq.{sets, length-sets, get_or-set_same}
use lib.Dec.{eqb}
use Rattle.wire.specs.Test.{if}
use Rattle.layout.proofs.ListLaws.{sets_below}
use Rattle.b3d_spec.specs.declared.Tag.{Tag}
use Rattle.b3d_spec.specs.declared.Tag.TheVariants.{BB3D, TEXS, BRUS, NODE, MESH, VRTS, TRIS, BONE, KEYS, ANIM}
use Rattle.b3d_pieces_spec.specs.declared.Open.{Open}
use Rattle.b3d_spec.specs.Tags.{tag_number}
use Rattle.b3d_pieces_spec.specs.Row.{tag_by, flag, open_words, open_of, open_at, put_open}

-- ---- a run of stores

-- in it
sets-in : (vs l : List ℕ) (b k : ℕ) → k < length vs → b + length vs ≤ length l → get_or (sets l b vs) (b + k) 0 ≡ get_or vs k 0
sets-in [] l b k h e = absurd (omega arith)
sets-in (v ∷ vs) l b zero h e =
    let z : b + 0 ≡ b = omega arith in
    rw z (sets_below vs (set l b v) (suc b) b (omega arith) ∙ get_or-set_same l b v 0 (omega arith))
sets-in (v ∷ vs) l b (suc k) h e =
    let z : b + suc k ≡ suc b + k = omega arith in
    rw z (sets-in vs (set l b v) (suc b) k (omega arith) (let m = length-set l b v in omega arith))

-- ---- a chunk

pub tag_back : (t : Tag) → tag_by (tag_number t) ≡ t
unfolding tag_by if
tag_back BB3D = refl
tag_back TEXS = refl
tag_back BRUS = refl
tag_back NODE = refl
tag_back MESH = refl
tag_back VRTS = refl
tag_back TRIS = refl
tag_back BONE = refl
tag_back KEYS = refl
tag_back ANIM = refl

pub flag-back : (b : Bool) → eqb (flag b) 1 ≡ b
flag-back true = refl
flag-back false = refl

pub of_words : (f : Open) → open_of (tag_number f.tag) f.head f.end f.turn (flag f.spent) f.level f.kept.first f.kept.second f.kept.third f.count f.told ≡ f
of_words f = λ i. record { tag = tag_back f.tag i; head = f.head; end = f.end; turn = f.turn; spent = flag-back f.spent i; level = f.level; kept = f.kept; count = f.count; told = f.told }

pub open_put : (row : List ℕ) (i : ℕ) (f : Open) → i * 11 + 11 ≤ length row → open_at (put_open row i f) i ≡ f
unfolding open_at put_open
open_put row i f h =
    let b = i * 11 in
    let w = open_words f in
    let x : (k : ℕ) → k < 11 → get_or (sets row b w) (b + k) 0 ≡ get_or w k 0 = λ k l. sets-in w row b k l h in
    let z : b + 0 ≡ b = omega arith in
    let x0 : get_or (sets row b w) b 0 ≡ tag_number f.tag = rw z at (x 0 (omega arith)) in
    rw (x0, x 1 (omega arith), x 2 (omega arith), x 3 (omega arith), x 4 (omega arith), x 5 (omega arith), x 6 (omega arith), x 7 (omega arith), x 8 (omega arith), x 9 (omega arith), x 10 (omega arith)) (of_words f)

-- a chunk further down
pub open_below : (row : List ℕ) (i j : ℕ) (f : Open) → j < i → open_at (put_open row i f) j ≡ open_at row j
unfolding open_at put_open
open_below row i j f h =
    let b = i * 11 in
    let p = j * 11 in
    let w = open_words f in
    let x : (q : ℕ) → q < b → get_or (sets row b w) q 0 ≡ get_or row q 0 = λ q l. sets_below w row b q l in
    rw (x p (omega arith), x (p + 1) (omega arith), x (p + 2) (omega arith), x (p + 3) (omega arith), x (p + 4) (omega arith), x (p + 5) (omega arith), x (p + 6) (omega arith), x (p + 7) (omega arith), x (p + 8) (omega arith), x (p + 9) (omega arith), x (p + 10) (omega arith))

pub put-length : (row : List ℕ) (n : ℕ) (f : Open) → length (put_open row n f) ≡ length row
unfolding put_open
put-length row n f = length-sets row (n * 11) (open_words f)
