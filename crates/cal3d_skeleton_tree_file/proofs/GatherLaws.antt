-- The parents of good bones: what each turn of `gather` stores.
use Rattle.std.specs.Prelude.{Some, None}
use Rattle.std.specs.Prelude as std
use Rattle.cal3d_skeleton_bones.specs.declared.Laid.{Laid}
use Prim.Native.Nat.{ℕ, suc, ◌+◌, ◌<◌, ◌≤◌}
use native.Mathlib.Omega.{arith}
use mathlib.Core.Path.{◌≡◌, ap, sym, ◌∙◌}
use mathlib.Core.List.{List, [], ◌∷◌, ◌++◌, map, append-nil}
use lib.ListN.{length, set, length-map}
use Rattle.wire.specs.Bytes.{word_at}
use Rattle.wire.specs.Cursors.{Inside, left}
use Rattle.wire.specs.declared.Cursor.{Cursor}
use Rattle.layout.specs.Parts.{Step}
use Rattle.shared_table_words.proofs.StoreLaws.{Storing, store_none, store_one, store_done, store_whole}
use Rattle.cal3d_spec.specs.Skeletons.{Bone, parent_of, read_bone}
use Rattle.cal3d_skeleton_bones.specs.Bones.{LaidAt, NoBone, Lays}
use Rattle.cal3d_skeleton_bones.proofs.BoneWalkLaws.{Walked, walked_start, walked_none, walked-gone, walked_next}
use Rattle.cal3d_skeleton_tree_file.specs.Links.{GoodBones, bones_at}

-- the parents of the bones before i are stored
pub record Gathering (s : List ℕ) (bones : ℕ) (all : List Bone) (out₀ : List ℕ) (c : Cursor) (i : ℕ) (out : List ℕ) : Type 0 where
  pub done : List Bone
  pub rest : Step (List Bone)
  pub walked : Walked s bones all c i done rest
  pub stores : Storing out₀ 0 (map parent_of all) out (0 + i) (map parent_of rest.value)

module _ (s : List ℕ) (bones : ℕ) (out₀ : List ℕ) where
  pub gather_start : (from : Cursor) → GoodBones s from bones → Gathering s bones (bones_at s from bones) out₀ from 0 out₀
  gather_start from g =
      let w = walked_start s bones from g.inside g.whole in
      record { done = []; rest = g.whole.read; walked = w; stores = rw w.joins (store_none {out₀ = out₀} {base = 0} {all = map parent_of (bones_at s from bones)}) }

  module _ (all : List Bone) (c : Cursor) (i : ℕ) (out : List ℕ) (g : Gathering s bones all out₀ c i out) where
    pub gather_inside : Inside c (length s)
    gather_inside = g.walked.inside

    pub gather_done : bones ≤ i → length out₀ ≡ bones → out ≡ map parent_of all
    gather_done h m =
        let w = g.walked in
        let e = walked_none s bones all c i g.done g.rest w h in
        let j : g.done ≡ all = sym (append-nil g.done) ∙ ap (λ (z : List Bone). g.done ++ z) (sym e) ∙ w.joins in
        let u = w.upto in
        let k = w.many in
        let n : length (map parent_of all) ≡ length out₀ = length-map all parent_of ∙ ap length (sym j) ∙ omega arith in
        store_done g.stores (ap (map parent_of) e) ∙ store_whole out₀ (map parent_of all) n

    module _ (h : i < bones) (r : std.Option Laid) (u : Lays s bones (read_bone bones c.at (left c s)) c r) where
      pub gather_gone : r ≡ None → out ≡ map parent_of all
      gather_gone w = let n : NoBone (read_bone bones c.at (left c s)) = rw w at u in walked-gone s bones all c i g.done g.rest g.walked h n

      module _ (f : Laid) (w : r ≡ Some f) where
        b : LaidAt s bones (read_bone bones c.at (left c s)) c f.numbers f.children f.next
        b = rw w at u

        pub gather_room : f.numbers + 56 + 4 ≤ length s
        gather_room = let k = g.walked.inside in let a = b in omega arith

        pub gather_next : (v : ℕ) → v ≡ word_at s (f.numbers + 56) → Gathering s bones all out₀ f.next (i + 1) (set out i v)
        gather_next v e =
            walked_next s bones all c i g.done g.rest g.walked h f.numbers f.children f.next b (λ l q k.
            let z : map parent_of g.rest.value ≡ v ∷ map parent_of l.value = ap (map parent_of) q ∙ ap (λ (x : ℕ). x ∷ map parent_of l.value) (b.parent ∙ sym e) in
            let n : 0 + (i + 1) ≡ suc (0 + i) = omega arith in
            let o : 0 + i ≡ i = omega arith in
            record { done = g.done ++ b.bone ∷ []; rest = l; walked = k; stores = rw o at (store_one g.stores z n) })

pub ruleset gathers = (gather_start, gather_inside, gather_done, gather_gone, gather_room, gather_next)
