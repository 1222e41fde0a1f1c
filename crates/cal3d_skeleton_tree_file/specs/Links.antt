-- What the walks over good bones ask for, and the answer on their trees as code holds it.
use Rattle.layout.specs.Refused.{refusal_at}
use Rattle.std.specs.Prelude as std
use Rattle.layout.specs.declared.Refusal.{Refusal}
use Rattle.std.specs.Prelude.{ℕ, ◌≤◌, ◌≡◌, List, length, Ok, Err}
use Rattle.wire.specs.Cursors.{Inside, left}
use Rattle.wire.specs.declared.Cursor.{Cursor}
use Rattle.layout.specs.Result.{Result, accept, reject}
use Rattle.layout.specs.Counted.{times}
use Rattle.layout.specs.Rows.{most_bytes}
use Rattle.cal3d_spec.specs.Skeletons.{Bone, read_bone}
use Rattle.cal3d_skeleton_bones.specs.Bones.{BonesRead, bones_in}

-- a skeleton's bones, as many as `bones` says, stand at the cursor `from` in a file that was judged
pub record GoodBones (s : List ℕ) (from : Cursor) (bones : ℕ) : Type 0 where
  -- the cursor lies in the file
  pub inside : Inside from (length s)
  -- the cursor's end is the file's
  pub last : from.end ≡ length s
  -- the file is not over the size limit
  pub small : length s ≤ most_bytes
  -- the bones are not over the row limit
  pub few : bones ≤ 16383
  -- the bones are read without a refusal
  pub whole : BonesRead (times bones (read_bone bones) from.at (left from s))

-- the bones of a skeleton, as many as `bones` says, from the cursor `from` on; none if they are refused
abbrev pub bones_at : List ℕ → Cursor → ℕ → List Bone
bones_at s from bones = bones_in (times bones (read_bone bones) from.at (left from s))

-- the answer on the trees as code holds it
unfoldable pub told_of : Result (Unit {0}) → std.Result (Unit {0}) Refusal
told_of (accept x) = Ok tt
told_of (reject n p) = Err (refusal_at n p)
