-- What is counted of bones, and the parts of one.
use Rattle.std.specs.Prelude as std
use Rattle.cal3d_skeleton_bones.specs.declared.Laid.{Laid}
use Rattle.std.specs.Prelude.{ℕ, ◌+◌, ◌-◌, ◌*◌, ◌<◌, ◌≤◌, ◌≡◌, List, [], ◌∷◌, length, Some, None}
use Rattle.wire.specs.Bytes.{word_at}
use Rattle.wire.specs.Cursors.{left}
use Rattle.wire.specs.declared.Cursor.{Cursor}
use Rattle.layout.specs.Result.{Result, accept, reject, ◌>>=◌}
use Rattle.layout.specs.Parts.{Step, words_of, row, number}
use Rattle.layout.specs.Counted.{times}
use Rattle.layout.specs.Rows.{name_cells}
use Rattle.layout.specs.Lists.{All}
use Rattle.cal3d_spec.specs.Rules.{bone_numbers, children_at, child_numbers}
use Rattle.cal3d_spec.specs.Skeletons.{Bone, parent_of, list_of}
use Rattle.cal3d_spec.specs.Tables.{child_rows}

-- the numbers at p of a bone of a skeleton with this number of bones, and its children
unfoldable pub read_links : ℕ → ℕ → List ℕ → Result (Step (List ℕ × List (List ℕ)))
read_links bones p s = do
  x ← row (bone_numbers bones) p s
  l ← times (number x children_at) (row (child_numbers bones)) x.place x.left
  accept (record { value = (x.value, l.value); place = l.place; left = l.left })

-- how many children stand beside a bone's numbers
abbrev pub link_count : List ℕ × List (List ℕ) → ℕ
link_count x = length x.1

-- how many children the bone b has
abbrev pub child_count : Bone → ℕ
child_count b = length b.children

-- how many children the bones have together
unfoldable pub children_in : List Bone → ℕ
children_in bs = length (child_rows bs)

-- a bone was read at c: its numbers stand at `numbers`, after its name, and `count` children after them, up to `next`
pub record LaidAt (s : List ℕ) (bones : ℕ) (o : Result (Step Bone)) (c : Cursor) (numbers count : ℕ) (next : Cursor) : Type 0 where
  -- the bone
  pub bone : Bone
  -- the bone is what was read, and `next` is the cursor after it
  pub is : o ≡ accept (record { value = bone; place = next.at; left = left next s })
  -- the bone's first byte is at c
  pub place : bone.place ≡ c.at
  -- the bone's name stands after its length, up to its numbers
  pub label : name_cells bone.name ≡ (c.at + 4) ∷ (numbers - (c.at + 4)) ∷ []
  -- the bone's 20 numbers are the words at `numbers`
  pub words : bone.numbers ≡ words_of 20 (left (record { at = numbers; end = c.end }) s)
  -- the bone's parent is the word at byte 56 of its numbers
  pub parent : parent_of bone ≡ word_at s (numbers + 56)
  -- the bone has `count` children
  pub many : length bone.children ≡ count
  -- the children stand after the 80 bytes of numbers
  pub kids : list_of bone ≡ words_of count (left (record { at = numbers + 80; end = c.end }) s)
  -- each child is one of the bones
  pub named : All (λ (k : ℕ). k < bones) (list_of bone)
  -- the numbers are after the length of the name
  pub behind : c.at + 4 ≤ numbers
  -- numbers and children are before `next`
  pub room : numbers + 80 + 4 * count ≤ next.at
  -- `next` is not past its end
  pub inside : next.at ≤ next.end
  -- `next` has the end of c
  pub same : next.end ≡ c.end

-- no bone stands there
pub record NoBone (o : Result (Step Bone)) : Type 0 where
  -- o is a refusal
  pub none : (x : Step Bone) → o ≡ accept x → ⊥

-- what code answers for o, which was read at c: the parts of the bone, or that none stands there
abbrev pub Lays : List ℕ → ℕ → Result (Step Bone) → Cursor → std.Option Laid → Type 0
Lays s bones o c (Some f) = LaidAt s bones o c f.numbers f.children f.next
Lays s bones o c None = NoBone o

-- bones were read without a refusal
pub record BonesRead (o : Result (Step (List Bone))) : Type 0 where
  -- what was read
  pub read : Step (List Bone)
  -- o gives it
  pub is : o ≡ accept read

-- the bones that were read; none on a refusal
unfoldable pub bones_in : Result (Step (List Bone)) → List Bone
bones_in (accept x) = x.value
bones_in (reject n p) = []
