-- A skeleton file: from bytes to bones, or to the first refusal in reading order (1, 2, 5, 6, 7).
use Rattle.std.specs.Prelude.{ℕ, List, [], ◌∷◌, length, get_or, eqb}
use Rattle.layout.specs.Result.{Result, accept, check, ◌>>=◌}
use Rattle.layout.specs.Parts.{Name, Step, row, number}
use Rattle.layout.specs.Counted.{sized, times, at_end}
use Rattle.layout.specs.Rows.{joined, size_fits}
use Rattle.layout.specs.Rules.{any}
use Rattle.layout.specs.Refusals as refusals
use Rattle.cal3d_spec.specs.Rules.{skeleton_magic, skeleton_head, bone_numbers, parent_at, children_at, child_numbers}

-- a bone: the place of its first byte, its name, its 20 numbers, a row for each child
pub record Bone : Type 0 where
  pub place : ℕ
  pub name : Name
  pub numbers : List ℕ
  pub children : List (List ℕ)

-- a skeleton: the header's 5 numbers, and the bones
pub record Skeleton : Type 0 where
  pub head : List ℕ
  pub bones : List Bone

-- the bone that b says is its parent; NONE if it has none
unfoldable pub parent_of : Bone → ℕ
parent_of b = get_or b.numbers parent_at 0

-- the bones that b lists as its children
unfoldable pub list_of : Bone → List ℕ
list_of b = joined b.children

-- the bone at p of a skeleton with this number of bones: its name, its numbers, its children
unfoldable pub read_bone : ℕ → ℕ → List ℕ → Result (Step Bone)
read_bone bones p s = do
  n ← sized p s
  x ← row (bone_numbers bones) n.place n.left
  l ← times (number x children_at) (row (child_numbers bones)) x.place x.left
  accept (record { value = record { place = p; name = n.value; numbers = x.value; children = l.value }; place = l.place; left = l.left })

-- the skeleton after the magic: the header's numbers, as many bones as they say, and nothing more
unfoldable pub skeleton_from : ℕ → List ℕ → Result Skeleton
skeleton_from p s = do
  h ← row skeleton_head p s
  l ← times (number h 1) (read_bone (number h 1)) h.place h.left
  _ ← at_end l.place l.left
  accept (record { head = h.value; bones = l.value })

-- the skeleton of the file s, or the first of its refusals 1 to 7
unfoldable pub skeleton : List ℕ → Result Skeleton
skeleton s = do
  _ ← check (size_fits (length s)) refusals.file_size 0
  m ← row (any ∷ []) 0 s
  _ ← check (eqb (number m 0) skeleton_magic) refusals.first_tag 0
  skeleton_from m.place m.left
