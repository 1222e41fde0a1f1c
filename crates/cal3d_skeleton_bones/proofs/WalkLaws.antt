-- So many bones: how their children are counted.
use Prim.Native.Nat.{ℕ, ◌+◌}
use mathlib.Core.Path.{◌≡◌, refl}
use mathlib.Core.List.{List, [], ◌∷◌, map}
use lib.ListN.{length, length-append}
use Rattle.layout.specs.Rows.{joined}
use Rattle.shared_counted_lists.proofs.SumLaws.{Adds}
use Rattle.cal3d_spec.specs.Skeletons.{Bone, read_bone}
use Rattle.cal3d_spec.specs.Tables.{child_rows}
use Rattle.cal3d_skeleton_bones.specs.Bones.{child_count, children_in}
use Rattle.cal3d_skeleton_bones.proofs.BoneLaws.{bone-moves}

pub none_in : children_in [] ≡ 0
unfolding children_in child_rows joined
none_in = refl

pub one_in : (b : Bone) (l : List Bone) → children_in (b ∷ l) ≡ length b.children + children_in l
unfolding children_in child_rows joined
one_in b l = length-append b.children (joined (map (λ (x : Bone). x.children) l))

pub bone_adds : (bones : ℕ) → Adds (read_bone bones) child_count children_in
bone_adds bones = record { moves = bone-moves bones; one = one_in }
