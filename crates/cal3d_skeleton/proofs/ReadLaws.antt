-- The tables of a skeleton file: what each way through `read_skeleton` says of them.
use Rattle.std.specs.Prelude.{Ok, Err}
use Rattle.std.specs.Prelude as std
use Rattle.layout.specs.declared.Refusal.{Refusal}
use Prim.Native.Nat.{ℕ, ◌*◌, ◌/◌, ◌<◌, ◌≤◌}
use native.Mathlib.Omega.{arith}
use mathlib.Core.Bool.{Bool, true, false}
use mathlib.Core.Path.{◌≡◌, refl, ap, sym, ◌∙◌}
use mathlib.Core.List.{List}
use lib.ListN.{length, get_or}
use lib.Dec.{leb}
use borrow.Author.Tests.{le-leb, lt-leb}
use Rattle.wire.specs.Test.{if}
use Rattle.wire.specs.Bytes.{over}
use Rattle.layout.specs.Result.{Result, accept, reject, check, ◌>>=◌}
use Rattle.layout.specs.Rows.{joined, each_of}
use Rattle.cal3d_spec.specs.Skeletons.{Bone, Skeleton}
use Rattle.cal3d_spec.specs.Tables.{bone_rows, child_rows, skeleton_file_width, skeleton_rows}
use Rattle.cal3d_spec.specs.Answers.{judge_skeleton, read_skeleton, skeleton_room, skeleton_answer, skeleton_table}
use Rattle.cal3d_spec.specs.declared.SkeletonAnswer.{SkeletonAnswer}
use Rattle.cal3d_skeleton_bones.specs.Bones.{children_in}
use Rattle.cal3d_skeleton_limits.specs.Verdicts.{verdict_of}
use Rattle.cal3d_skeleton_limits.specs.declared.SkeletonSummary.{SkeletonSummary}
use Rattle.cal3d_skeleton_limits.proofs.FileLaws.{bone-rows}
use Rattle.cal3d_skeleton_limits.proofs.GoodLaws.{BonesStand}
use Rattle.cal3d_skeleton_tree_file.specs.Links.{GoodBones, bones_at}
use Rattle.cal3d_skeleton.specs.Skeletons.{accepted_as, ReadsSkeleton}
use Rattle.cal3d_skeleton.proofs.JudgeLaws.{bones-good, bones_are, judged-limited, refused-bad, accepted-good, accepted-answer}

-- table k of an accepted file
table-first : (t : Skeleton) (xs : List ℕ) → skeleton_table 1 (accept t) xs ≡ over (joined (bone_rows 0 t.bones)) xs
unfolding skeleton_table skeleton_rows if
table-first t xs = refl

table-second : (t : Skeleton) (xs : List ℕ) → skeleton_table 2 (accept t) xs ≡ over (joined (child_rows t.bones)) xs
unfolding skeleton_table skeleton_rows if
table-second t xs = refl

refused_as : (s b k : List ℕ) (n p : ℕ) (r : SkeletonAnswer) → read_skeleton (skeleton_room (length b) (length k)) s ≡ reject n p → r ≡ skeleton_answer (reject n p) → ReadsSkeleton s b k b k r
unfolding skeleton_table
refused_as s b k n p r e q =
    record {
      answer = q ∙ ap skeleton_answer (sym e);
      first = sym (ap (λ (o : Result Skeleton). skeleton_table 1 o b) e);
      second = sym (ap (λ (o : Result Skeleton). skeleton_table 2 o k) e);
    }

abbrev fine : Result (Unit {0})
fine = accept tt

both-rooms : (t : Skeleton) (p q : Bool) → ((check p 11 1 >>= λ _. (check q 11 2 >>= λ _. fine)) >>= λ _. accept t) ≡ (check p 11 1 >>= λ _. (check q 11 2 >>= λ _. accept t))
unfolding check
both-rooms t true true = refl
both-rooms t true false = refl
both-rooms t false q = refl

module _ (s b k : List ℕ) (v : std.Result SkeletonSummary Refusal) (e : v ≡ verdict_of (judge_skeleton s)) where
  pub read-refused : (n : Refusal) → v ≡ Err n → (r : SkeletonAnswer) → r ≡ skeleton_answer (reject n.number n.place) → ReadsSkeleton s b k b k r
  unfolding read_skeleton
  read-refused n w r q = refused_as s b k n.number n.place r (rw (refused-bad s v e n w)) q

  module _ (x : SkeletonSummary) (w : v ≡ Ok x) where
    t : Skeleton
    t = (accepted-good s v e x w).0

    is : judge_skeleton s ≡ accept t
    unfolding t
    is = (accepted-good s v e x w).1

    limited : BonesStand s t
    limited = judged-limited s t is

    many : x.bones ≡ get_or t.head 1 0
    unfolding t
    many = ap (λ (y : SkeletonSummary). y.bones) (accepted-good s v e x w).2

    kids : x.children ≡ children_in t.bones
    unfolding t
    kids = ap (λ (y : SkeletonSummary). y.children) (accepted-good s v e x w).2

    told : (r : SkeletonAnswer) → r ≡ accepted_as x → r ≡ skeleton_answer (accept t)
    unfolding t
    told r q = accepted-answer s v e x w r q

    rooms : read_skeleton (skeleton_room (length b) (length k)) s
        ≡ (check (leb (23 * length (bone_rows 0 t.bones)) (length b)) 11 1 >>= λ _. (check (leb (1 * children_in t.bones) (length k)) 11 2 >>= λ _. accept t))
    unfolding read_skeleton each_of skeleton_file_width skeleton_rows children_in if
    rooms = rw is (both-rooms t (leb (23 * length (bone_rows 0 t.bones)) (length b)) (leb (1 * length (child_rows t.bones)) (length k)))

    module _ (count : ℕ) (ec : count ≡ x.bones) where
      same : count ≡ get_or t.head 1 0
      same = ec ∙ many

      rows : length (bone_rows 0 t.bones) ≡ count
      rows = bone-rows 0 t.bones ∙ limited.bones ∙ sym same

      pub read-short-first : length b / 23 < count → (r : SkeletonAnswer) → r ≡ skeleton_answer (reject 11 1) → ReadsSkeleton s b k b k r
      unfolding check
      read-short-first h r q =
          let m : length b < 23 * length (bone_rows 0 t.bones) = omega (arith, rows) in
          refused_as s b k 11 1 r (rooms ∙ rw (lt-leb (23 * length (bone_rows 0 t.bones)) (length b) m)) q

      module _ (h : count ≤ length b / 23) where
        enough : 23 * length (bone_rows 0 t.bones) ≤ length b
        enough = omega (arith, rows)

        pub read-short-second : length k < x.children → (r : SkeletonAnswer) → r ≡ skeleton_answer (reject 11 2) → ReadsSkeleton s b k b k r
        unfolding check
        read-short-second g r q =
            let m : length k < 1 * children_in t.bones = omega (arith, kids) in
            refused_as s b k 11 2 r (rooms ∙ rw (le-leb (23 * length (bone_rows 0 t.bones)) (length b) enough, lt-leb (1 * children_in t.bones) (length k) m)) q

        pub read-room : 23 * count ≤ length b
        read-room = omega arith

        pub read-good : GoodBones s (record { at = 24; end = length s }) count
        read-good = rw same (bones-good s t limited)

        bones : bones_at s (record { at = 24; end = length s }) count ≡ t.bones
        bones = rw same (bones_are s t limited)

        pub read-few : children_in (bones_at s (record { at = 24; end = length s }) count) ≤ 16383
        read-few = rw bones limited.kids

        pub read-kids : x.children ≤ length k → children_in (bones_at s (record { at = 24; end = length s }) count) ≤ length k
        read-kids g = rw (bones, ← kids) g

        pub read_done : x.children ≤ length k → (b' k' : List ℕ)
            → b' ≡ over (joined (bone_rows 0 (bones_at s (record { at = 24; end = length s }) count))) b
            → k' ≡ over (joined (child_rows (bones_at s (record { at = 24; end = length s }) count))) k
            → (r : SkeletonAnswer) → r ≡ accepted_as x → ReadsSkeleton s b k b' k' r
        unfolding check
        read_done g b' k' eb ek r q =
            let m : 1 * children_in t.bones ≤ length k = omega (arith, kids) in
            let o : read_skeleton (skeleton_room (length b) (length k)) s ≡ accept t = rooms ∙ rw (le-leb (23 * length (bone_rows 0 t.bones)) (length b) enough, le-leb (1 * children_in t.bones) (length k) m) in
            record {
              answer = told r q ∙ ap skeleton_answer (sym o);
              first = eb ∙ ap (λ (l : List Bone). over (joined (bone_rows 0 l)) b) bones ∙ sym (ap (λ (z : Result Skeleton). skeleton_table 1 z b) o ∙ table-first t b);
              second = ek ∙ ap (λ (l : List Bone). over (joined (child_rows l)) k) bones ∙ sym (ap (λ (z : Result Skeleton). skeleton_table 2 z k) o ∙ table-second t k);
            }

pub ruleset reads = (read-refused, read-short-first, read-short-second, read-room, read-good, read-few, read-kids, read_done)
