-- The scores that lists give: what each turn of `tell` adds.
use Rattle.std.specs.Prelude.{Some, None}
use Rattle.std.specs.Prelude as std
use Rattle.cal3d_skeleton_bones.specs.declared.Laid.{Laid}
use Prim.Native.Nat.{ℕ, zero, suc, ◌+◌, ◌*◌, ◌<◌, ◌≤◌}
use native.Mathlib.Omega.{arith}
use mathlib.Core.Path.{◌≡◌, refl, ap, sym, ◌∙◌}
use mathlib.Core.List.{List, [], ◌∷◌, ◌++◌, map, append-nil}
use lib.ListN.{length, drop, get_or, length-map}
use lib.Seq.{take_all}
use Rattle.wire.specs.Cursors.{Inside, left}
use Rattle.wire.specs.declared.Cursor.{Cursor}
use Rattle.wire.proofs.LeftLaws.{span, left-length}
use Rattle.layout.specs.Parts.{Step, words_of}
use Rattle.layout.proofs.AllLaws.{All}
use Rattle.layout.proofs.StepLaws.{length-words-of}
use Rattle.shared_ids.proofs.IdLaws.{word-at}
use Rattle.cal3d_spec.specs.Skeletons.{Bone, list_of, read_bone}
use Rattle.cal3d_spec.specs.Trees.{occurs}
use Rattle.cal3d_skeleton_bones.specs.Bones.{LaidAt, NoBone, Lays}
use Rattle.cal3d_skeleton_bones.proofs.BoneWalkLaws.{Walked, walked_start, walked_none, walked-gone, walked_next}
use Rattle.cal3d_skeleton_tree_check.specs.Scores.{score, Zeros, Scored, Low, ChildIds, noted}
use Rattle.cal3d_skeleton_tree_scores.proofs.ScoreLaws.{scored_next}
use Rattle.cal3d_skeleton_tree_scores.proofs.NoteLaws.{noted_scored}
use Rattle.cal3d_skeleton_tree_file.specs.Links.{GoodBones, bones_at}

left-last : (s : List ℕ) (p e : ℕ) → e ≡ length s → left (span p e) s ≡ drop p s
unfolding left
left-last s p e h = ap (drop p) (take_all e s (omega arith))

all-at : (P : ℕ → Type 0) (l : List ℕ) (i : ℕ) → All P l → i < length l → P (get_or l i 0)
all-at P [] i a h = absurd (omega arith)
all-at P (x ∷ l) zero a h = a.0
all-at P (x ∷ l) (suc i) a h = all-at P l i a.1 (omega arith)

map_last : {A B : Type 0} (f : A → B) (l : List A) (x : A) → map f (l ++ x ∷ []) ≡ map f l ++ f x ∷ []
map_last f [] x = refl
map_last f (y ∷ l) x = ap (λ (r : List _). f y ∷ r) (map_last f l x)

-- the lists of the bones before i are noted
pub record Telling (s : List ℕ) (bones : ℕ) (all : List Bone) (ps : List ℕ) (c : Cursor) (i entries : ℕ) (scores : List ℕ) : Type 0 where
  pub done : List Bone
  pub rest : Step (List Bone)
  pub walked : Walked s bones all c i done rest
  pub last : c.end ≡ length s
  pub few : 4 * entries ≤ c.at
  pub low : Low entries scores
  pub long : length ps ≡ bones
  pub same : length scores ≡ bones
  pub scored : Scored ps (map list_of done) [] scores

module _ (s : List ℕ) (bones : ℕ) (ps : List ℕ) where
  pub tell_start : (from : Cursor) (scores : List ℕ) → GoodBones s from bones → length ps ≡ bones → length scores ≡ bones → Zeros scores
      → Telling s bones (bones_at s from bones) ps from 0 0 scores
  unfolding score occurs
  tell_start from scores g l m z =
      record {
        done = [];
        rest = g.whole.read;
        walked = walked_start s bones from g.inside g.whole;
        last = g.last;
        few = omega arith;
        low = record { low = λ i. let e = z.none i in omega arith };
        long = l;
        same = m;
        scored = record { long = m ∙ sym l; each = λ b h. let e = z.none b in omega arith };
      }

  module _ (all : List Bone) (c : Cursor) (i entries : ℕ) (scores : List ℕ) (t : Telling s bones all ps c i entries scores) where
    pub tell_inside : Inside c (length s)
    tell_inside = t.walked.inside

    pub tell_done : bones ≤ i → Scored ps (map list_of all) [] scores
    tell_done h =
        let w = t.walked in
        let e = walked_none s bones all c i t.done t.rest w h in
        let j : t.done ≡ all = sym (append-nil t.done) ∙ ap (λ (z : List Bone). t.done ++ z) (sym e) ∙ w.joins in
        rw j at t.scored

    module _ (h : i < bones) (r : std.Option Laid) (u : Lays s bones (read_bone bones c.at (left c s)) c r) where
      pub tell_gone : r ≡ None → Scored ps (map list_of all) [] scores
      tell_gone w = let n : NoBone (read_bone bones c.at (left c s)) = rw w at u in walked-gone s bones all c i t.done t.rest t.walked h n

      module _ (g : Laid) (w : r ≡ Some g) where
        b : LaidAt s bones (read_bone bones c.at (left c s)) c g.numbers g.children g.next
        b = rw w at u

        pub tell_room : g.numbers + 80 + 4 * g.children ≤ length s
        tell_room = let k = t.last in let a = b in omega arith

        pub tell_entries : length s ≤ 16777216 → entries + g.children ≤ 1000000000
        tell_entries k = let q = t.few in let a = b in let l = t.last in omega arith

        kids : list_of b.bone ≡ words_of g.children (drop (g.numbers + 80) s)
        kids = b.kids ∙ ap (words_of g.children) (left-last s (g.numbers + 80) c.end t.last)

        pub tell_listed : ChildIds s (g.numbers + 80) g.children (length ps)
        tell_listed =
            let at = span (g.numbers + 80) c.end in
            let l = t.last in
            let a = b in
            let p = t.walked.inside in
            let inside : Inside at (length s) = record { before = omega arith; within = omega arith } in
            let long = length-words-of g.children (left at s) (omega (arith, left-length s at inside)) in
            let named = rw b.kids at b.named in
            record {
              bone = λ k q. rw (t.long, ← word-at s at g.children k inside (omega arith) q)
                  (all-at (λ (x : ℕ). x < bones) (words_of g.children (left at s)) k named (omega (arith, long)));
            }

        pub tell_next : (q : ℕ) → q ≡ i → (new : List ℕ) → new ≡ noted ps q scores (words_of g.children (drop (g.numbers + 80) s)) → Low (entries + g.children) new
            → Telling s bones all ps g.next (i + 1) (entries + g.children) new
        tell_next q eq new e low =
            walked_next s bones all c i t.done t.rest t.walked h g.numbers g.children g.next b (λ l v k.
            let n : length (map list_of t.done) ≡ i = length-map t.done list_of ∙ t.walked.many in
            let named : All (λ (x : ℕ). x < length ps) (list_of b.bone) = rw t.long b.named in
            let one = noted_scored ps (map list_of t.done) [] (list_of b.bone) scores named t.scored in
            let f : noted ps (length (map list_of t.done)) scores (list_of b.bone) ≡ new = ap (λ (k : ℕ). noted ps k scores (list_of b.bone)) (n ∙ sym eq) ∙ ap (noted ps q scores) kids ∙ sym e in
            let two : Scored ps (map list_of t.done) (list_of b.bone) new = rw f at one in
            let three = scored_next ps (map list_of t.done) (list_of b.bone) new two in
            let x = t.few in
            let a = b in
            record {
              done = t.done ++ b.bone ∷ [];
              rest = l;
              walked = k;
              last = b.same ∙ t.last;
              few = omega arith;
              low = low;
              long = t.long;
              same = three.long ∙ t.long;
              scored = rw (map_last list_of t.done b.bone) three;
            })

pub ruleset tells = (tell_start, tell_inside, tell_done, tell_gone, tell_room, tell_entries, tell_listed, tell_next)
