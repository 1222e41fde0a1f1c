-- The first byte of a bone: what each turn of `bone_at` passes.
use Rattle.std.specs.Prelude.{Some, None}
use Rattle.std.specs.Prelude as std
use Rattle.cal3d_skeleton_bones.specs.declared.Laid.{Laid}
use Prim.Native.Nat.{ℕ, suc, ◌+◌, ◌-◌, ◌<◌, ◌≤◌}
use native.Mathlib.Omega.{arith}
use mathlib.Core.Path.{◌≡◌, refl, ap, sym, ◌∙◌}
use mathlib.Core.List.{List, [], ◌∷◌, ◌++◌}
use lib.ListN.{length}
use Rattle.wire.specs.Cursors.{Inside, left}
use Rattle.wire.specs.declared.Cursor.{Cursor}
use Rattle.layout.specs.Result.{accept}
use Rattle.layout.specs.Parts.{Step, row, number}
use Rattle.layout.specs.Counted.{sized, before, times}
use Rattle.layout.proofs.ResultLaws.{by_got, got_inj}
use Rattle.layout.proofs.CountLaws.{times_got}
use Rattle.cal3d_spec.specs.Rules.{bone_numbers, children_at, child_numbers}
use Rattle.cal3d_spec.specs.Skeletons.{Bone, read_bone}
use Rattle.cal3d_skeleton_bones.specs.Bones.{LaidAt, NoBone, Lays}
use Rattle.cal3d_skeleton_bones.proofs.BoneWalkLaws.{Walked, walked_start, walked-gone, walked_next}
use Rattle.cal3d_skeleton_tree_check.specs.Scores.{place_at}
use Rattle.cal3d_skeleton_tree_file.specs.Links.{GoodBones, bones_at}

place_after : (l m : List Bone) (b : Bone) → place_at (l ++ b ∷ m) (length l) ≡ b.place
place_after [] m b = refl
place_after (x ∷ l) m b = place_after l m b

bone-place : (bones p : ℕ) (s : List ℕ) (y : Step Bone) → read_bone bones p s ≡ accept y → y.value.place ≡ p
unfolding read_bone
bone-place bones p s y e =
    by_got (sized p s) _ e (λ n en e₁.
    by_got (row (bone_numbers bones) n.place n.left) _ e₁ (λ x ex e₂.
    by_got (times (number x children_at) (row (child_numbers bones)) x.place x.left) _ e₂ (λ l el e₃. sym (ap (λ (z : Step Bone). z.value.place) (got_inj e₃)))))

-- i bones are passed
pub record Placing (s : List ℕ) (bones : ℕ) (all : List Bone) (c : Cursor) (i : ℕ) : Type 0 where
  pub done : List Bone
  pub rest : Step (List Bone)
  pub walked : Walked s bones all c i done rest

module _ (s : List ℕ) (bones : ℕ) where
  pub place_start : (from : Cursor) → GoodBones s from bones → Placing s bones (bones_at s from bones) from 0
  place_start from g = record { done = []; rest = g.whole.read; walked = walked_start s bones from g.inside g.whole }

  module _ (all : List Bone) (c : Cursor) (i which : ℕ) (g : Placing s bones all c i) (few : which < bones) where
    pub place_inside : Inside c (length s)
    place_inside = g.walked.inside

    pub place_small : c.at ≤ length s
    place_small = let h = g.walked.inside in omega arith

    pub place_done : which ≤ i → i ≤ which → c.at ≡ place_at all which
    unfolding before
    place_done h k =
        let w = g.walked in
        let less : bones - i ≡ suc (bones - (i + 1)) = omega arith in
        times_got (read_bone bones) (bones - (i + 1)) c.at (left c s) g.rest (rw less at w.is) (λ y l ey el q.
        let v : y.value ∷ l.value ≡ g.rest.value = ap (λ (z : Step (List Bone)). z.value) q in
        let j : g.done ++ y.value ∷ l.value ≡ all = ap (λ (z : List Bone). g.done ++ z) v ∙ w.joins in
        let n : length g.done ≡ which = w.many ∙ omega arith in
        sym (bone-place bones c.at (left c s) y ey) ∙ sym (place_after g.done l.value y.value) ∙ rw (j, n))

    module _ (h : i < which) (r : std.Option Laid) (u : Lays s bones (read_bone bones c.at (left c s)) c r) where
      pub place_gone : r ≡ None → c.at ≡ place_at all which
      place_gone w = let n : NoBone (read_bone bones c.at (left c s)) = rw w at u in walked-gone s bones all c i g.done g.rest g.walked (omega arith) n

      pub place_next : (f : Laid) → r ≡ Some f → Placing s bones all f.next (i + 1)
      place_next f w =
          let b : LaidAt s bones (read_bone bones c.at (left c s)) c f.numbers f.children f.next = rw w at u in
          walked_next s bones all c i g.done g.rest g.walked (omega arith) f.numbers f.children f.next b (λ l q k.
          record { done = g.done ++ b.bone ∷ []; rest = l; walked = k })

pub ruleset places = (place_start, place_inside, place_small, place_done, place_gone, place_next)
