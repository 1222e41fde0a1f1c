-- A skeleton file with 16: what each way through `judge` says of it.
use Rattle.std.specs.Prelude.{Ok, Err}
use Rattle.std.specs.Prelude as std
use Rattle.layout.specs.declared.Refusal.{Refusal}
use Prim.Native.Nat.{ℕ, ◌≤◌}
use native.Mathlib.Omega.{arith}
use mathlib.Core.Path.{◌≡◌, refl, ap, sym, ◌∙◌}
use mathlib.Core.List.{List, [], ◌∷◌}
use lib.ListN.{length, get_or}
use Rattle.wire.specs.Test.{if}
use Rattle.wire.proofs.LeftLaws.{span}
use Rattle.layout.specs.Result.{Result, accept, reject}
use Rattle.layout.proofs.ResultLaws.{by_got, got_inj}
use Rattle.cal3d_spec.specs.Skeletons.{Skeleton}
use Rattle.cal3d_spec.specs.Trees.{trees}
use Rattle.cal3d_spec.specs.Tables.{skeleton_rows}
use Rattle.cal3d_spec.specs.Answers.{limited_skeleton, judge_skeleton, skeleton_answer}
use Rattle.cal3d_spec.specs.declared.SkeletonAnswer.{SkeletonAnswer}
use Rattle.cal3d_skeleton_bones.specs.Bones.{bones_in, children_in}
use Rattle.cal3d_skeleton_limits.specs.Verdicts.{verdict_of}
use Rattle.cal3d_skeleton_limits.specs.declared.SkeletonSummary.{SkeletonSummary}
use Rattle.cal3d_skeleton_limits.proofs.FileLaws.{bone-rows, place-fits}
use Rattle.cal3d_skeleton_limits.proofs.GoodLaws.{BonesStand, limited-good}
use Rattle.cal3d_skeleton_tree_file.specs.Links.{GoodBones, bones_at, told_of}
use Rattle.cal3d_skeleton.specs.Skeletons.{accepted_as}

verdict_bad : (o : Result Skeleton) (n : Refusal) → Err n ≡ verdict_of o → o ≡ reject n.number n.place
unfolding verdict_of
verdict_bad (accept t) n e = let z : ◌≡◌ {A = ℕ} 0 1 = cc in absurd (omega arith)
verdict_bad (reject m q) n e = let a : m ≡ n.number = cc in let b : q ≡ n.place = cc in rw (a, b)

pub verdict_good : (o : Result Skeleton) (x : SkeletonSummary) → Ok x ≡ verdict_of o
    → (t : Skeleton) × (o ≡ accept t) × (x ≡ record { bones = get_or t.head 1 0; red = get_or t.head 2 0; green = get_or t.head 3 0; blue = get_or t.head 4 0; children = children_in t.bones })
unfolding verdict_of
verdict_good (accept t) x e = (t, refl, cc)
verdict_good (reject m q) x e = let z : ◌≡◌ {A = ℕ} 0 1 = cc in absurd (omega arith)

told-bad : (o : Result (Unit {0})) (n : Refusal) → Err n ≡ told_of o → o ≡ reject n.number n.place
unfolding told_of
told-bad (accept t) n e = let z : ◌≡◌ {A = ℕ} 0 1 = cc in absurd (omega arith)
told-bad (reject m q) n e = let a : m ≡ n.number = cc in let b : q ≡ n.place = cc in rw (a, b)

told_same : (o : Result (Unit {0})) → (Ok tt) ≡ told_of o → o ≡ accept tt
unfolding told_of
told_same (accept tt) e = refl
told_same (reject m q) e = let z : ◌≡◌ {A = ℕ} 0 1 = cc in absurd (omega arith)

-- the bones of a file, by the number that its header says
module _ (s : List ℕ) (t : Skeleton) (l : BonesStand s t) where
  pub bones-good : GoodBones s (span 24 (length s)) (get_or t.head 1 0)
  bones-good =
      record {
        inside = record { before = let h = l.long in omega arith; within = omega arith };
        last = refl;
        small = l.small;
        few = l.few;
        whole = record { read = l.read; is = l.is };
      }

  pub bones_are : bones_at s (span 24 (length s)) (get_or t.head 1 0) ≡ t.bones
  unfolding bones_in
  bones_are = ap bones_in l.is ∙ l.same

-- the answer for an accepted file
pub answer-good : (t : Skeleton) (s : List ℕ) → BonesStand s t
    → skeleton_answer (accept t) ≡ record {
      number = 0;
      place = 0;
      head = 1300 ∷ get_or t.head 1 0 ∷ get_or t.head 2 0 ∷ get_or t.head 3 0 ∷ get_or t.head 4 0 ∷ [];
      counts = get_or t.head 1 0 ∷ children_in t.bones ∷ [];
    }
unfolding skeleton_answer skeleton_rows children_in if
answer-good t s l = rw (← l.numbers, bone-rows 0 t.bones, l.bones)

module _ (s : List ℕ) (v : std.Result SkeletonSummary Refusal) (e : v ≡ verdict_of (limited_skeleton s)) where
  pub judge-limited : (n : Refusal) → v ≡ Err n → Err n ≡ verdict_of (judge_skeleton s)
  unfolding judge_skeleton verdict_of
  judge-limited n w = rw (verdict_bad (limited_skeleton s) n (sym w ∙ e))

  module _ (x : SkeletonSummary) (w : v ≡ Ok x) where
    found : (t : Skeleton) × (limited_skeleton s ≡ accept t) × (x ≡ record { bones = get_or t.head 1 0; red = get_or t.head 2 0; green = get_or t.head 3 0; blue = get_or t.head 4 0; children = children_in t.bones })
    found = verdict_good (limited_skeleton s) x (sym w ∙ e)

    module _ (k : ℕ) (ek : k ≡ x.bones) where
      same : k ≡ get_or found.0.head 1 0
      same = ek ∙ ap (λ (y : SkeletonSummary). y.bones) found.2

      pub judge-good : GoodBones s (record { at = 24; end = length s }) k
      judge-good = rw same (bones-good s found.0 (limited-good s found.0 found.1))

      module _ (u : std.Result (Unit {0}) Refusal) (eu : u ≡ told_of (trees (bones_at s (record { at = 24; end = length s }) k))) where
        bones : bones_at s (record { at = 24; end = length s }) k ≡ found.0.bones
        bones = rw same (bones_are s found.0 (limited-good s found.0 found.1))

        pub judge_stray : (n : Refusal) → u ≡ Err n → Err n ≡ verdict_of (judge_skeleton s)
        unfolding judge_skeleton verdict_of
        judge_stray n q =
            let z : trees found.0.bones ≡ reject n.number n.place = ap trees (sym bones) ∙ told-bad (trees (bones_at s (record { at = 24; end = length s }) k)) n (sym q ∙ eu) in
            rw (found.1, z)

        pub judge-same : u ≡ (Ok tt) → Ok x ≡ verdict_of (judge_skeleton s)
        unfolding judge_skeleton verdict_of
        judge-same q =
            let z : trees found.0.bones ≡ accept tt = ap trees (sym bones) ∙ told_same (trees (bones_at s (record { at = 24; end = length s }) k)) (sym q ∙ eu) in
            let j : judge_skeleton s ≡ accept found.0 = rw (found.1, z) in
            ap (λ (y : SkeletonSummary). Ok y) found.2 ∙ ap verdict_of (sym j)

pub ruleset judges = (place-fits, judge-limited, judge-good, judge_stray, judge-same)

-- ---- an accepted file

-- a judged file is limited
pub judged-limited : (s : List ℕ) (t : Skeleton) → judge_skeleton s ≡ accept t → BonesStand s t
unfolding judge_skeleton
judged-limited s t e =
    by_got (limited_skeleton s) _ e (λ u eu e₁.
    by_got (trees u.bones) _ e₁ (λ _ _ e₂. rw (got_inj e₂) at (limited-good s u eu)))

module _ (s : List ℕ) (v : std.Result SkeletonSummary Refusal) (e : v ≡ verdict_of (judge_skeleton s)) where
  pub refused-bad : (n : Refusal) → v ≡ Err n → judge_skeleton s ≡ reject n.number n.place
  refused-bad n w = verdict_bad (judge_skeleton s) n (sym w ∙ e)

  pub answer-bad : (n : Refusal) → v ≡ Err n → (r : SkeletonAnswer) → r ≡ skeleton_answer (reject n.number n.place) → r ≡ skeleton_answer (judge_skeleton s)
  answer-bad n w r q = q ∙ ap skeleton_answer (sym (refused-bad n w))

  module _ (x : SkeletonSummary) (w : v ≡ Ok x) where
    pub accepted-good : (t : Skeleton) × (judge_skeleton s ≡ accept t) × (x ≡ record { bones = get_or t.head 1 0; red = get_or t.head 2 0; green = get_or t.head 3 0; blue = get_or t.head 4 0; children = children_in t.bones })
    accepted-good = verdict_good (judge_skeleton s) x (sym w ∙ e)

    pub accepted-kids : x.children ≤ 16383
    accepted-kids = rw (ap (λ (y : SkeletonSummary). y.children) accepted-good.2) (judged-limited s accepted-good.0 accepted-good.1).kids

    pub accepted-answer : (r : SkeletonAnswer) → r ≡ accepted_as x → r ≡ skeleton_answer (accept accepted-good.0)
    accepted-answer r f = f ∙ ap accepted_as accepted-good.2 ∙ sym (answer-good accepted-good.0 s (judged-limited s accepted-good.0 accepted-good.1))

    pub answer-accepted : (r : SkeletonAnswer) → r ≡ accepted_as x → r ≡ skeleton_answer (judge_skeleton s)
    answer-accepted r f = accepted-answer r f ∙ ap skeleton_answer (sym accepted-good.1)

pub ruleset answering = (place-fits, answer-bad, accepted-kids, answer-accepted)
