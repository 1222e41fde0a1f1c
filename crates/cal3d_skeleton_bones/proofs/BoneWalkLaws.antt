-- A walk over bones that are known to be good, bone by bone: those that are done, and the others.
use Prim.Native.Nat.{ℕ, suc, ◌+◌, ◌-◌, ◌<◌, ◌≤◌}
use native.Mathlib.Omega.{arith}
use mathlib.Core.Path.{◌≡◌, refl, ap, sym, ◌∙◌}
use mathlib.Core.List.{List, [], ◌∷◌, ◌++◌, append_assoc}
use lib.ListN.{length, length-append}
use Rattle.wire.specs.Cursors.{Inside, left}
use Rattle.wire.specs.declared.Cursor.{Cursor}
use Rattle.layout.specs.Result.{accept}
use Rattle.layout.specs.Parts.{Step}
use Rattle.layout.specs.Counted.{before, times}
use Rattle.layout.proofs.ResultLaws.{got_inj}
use Rattle.layout.proofs.CountLaws.{times_none, times_got}
use Rattle.cal3d_spec.specs.Skeletons.{Bone, read_bone}
use Rattle.cal3d_skeleton_bones.specs.Bones.{LaidAt, NoBone, BonesRead, bones_in}

-- i of so many bones are passed, up to c: those are `done`, `rest` are the others
pub record Walked (s : List ℕ) (bones : ℕ) (all : List Bone) (c : Cursor) (i : ℕ) (done : List Bone) (rest : Step (List Bone)) : Type 0 where
  pub inside : Inside c (length s)
  pub upto : i ≤ bones
  pub is : times (bones - i) (read_bone bones) c.at (left c s) ≡ accept rest
  pub joins : done ++ rest.value ≡ all
  pub many : length done ≡ i

module _ (s : List ℕ) (bones : ℕ) where
  pub walked_start : (from : Cursor) → Inside from (length s) → (w : BonesRead (times bones (read_bone bones) from.at (left from s)))
      → Walked s bones (bones_in (times bones (read_bone bones) from.at (left from s))) from 0 [] w.read
  unfolding bones_in
  walked_start from i w =
      let z : bones - 0 ≡ bones = omega arith in
      record { inside = i; upto = omega arith; is = rw z w.is; joins = sym (ap bones_in w.is); many = refl }

  module _ (all : List Bone) (c : Cursor) (i : ℕ) (done : List Bone) (rest : Step (List Bone)) (w : Walked s bones all c i done rest) where
    -- none are left
    pub walked_none : bones ≤ i → rest.value ≡ []
    walked_none h =
        let z : bones - i ≡ 0 = omega arith in
        let e = sym (times_none (read_bone bones) c.at (left c s)) ∙ rw z at w.is in
        sym (ap (λ (x : Step (List Bone)). x.value) (got_inj e))

    module _ (h : i < bones) where
      first : times (suc (bones - (i + 1))) (read_bone bones) c.at (left c s) ≡ accept rest
      first = let less : bones - i ≡ suc (bones - (i + 1)) = omega arith in rw less at w.is

      -- one is there
      pub walked-gone : {P : Type 0} → NoBone (read_bone bones c.at (left c s)) → P
      walked-gone n = times_got (read_bone bones) (bones - (i + 1)) c.at (left c s) rest first (λ y l ey el e. absurd (n.none y ey))

      pub walked_next : {P : Type 0} (numbers count : ℕ) (next : Cursor) (b : LaidAt s bones (read_bone bones c.at (left c s)) c numbers count next)
          → ((l : Step (List Bone)) → rest.value ≡ b.bone ∷ l.value → Walked s bones all next (i + 1) (done ++ b.bone ∷ []) l → P) → P
      unfolding before
      walked_next numbers count next b f =
          times_got (read_bone bones) (bones - (i + 1)) c.at (left c s) rest first (λ y l ey el q.
          let k = w.inside in
          let same : y ≡ record { value = b.bone; place = next.at; left = left next s } = got_inj (sym ey ∙ b.is) in
          let vals : rest.value ≡ b.bone ∷ l.value = sym (ap (λ (z : Step Bone). z.value ∷ l.value) (sym same) ∙ ap (λ (z : Step (List Bone)). z.value) q) in
          let long = length-append done (b.bone ∷ []) in
          let m = w.many in
          let e = b.inside in
          let g = b.same in
          f l vals (record {
            inside = record { before = e; within = omega arith };
            upto = omega arith;
            is = ap (λ (z : Step Bone). times (bones - (i + 1)) (read_bone bones) z.place z.left) (sym same) ∙ el;
            joins = append_assoc done (b.bone ∷ []) l.value ∙ ap (λ (z : List Bone). done ++ z) (sym vals) ∙ w.joins;
            many = omega arith;
          }))
