-- What the lowest bone that does not stand right says of the trees of good bones.
use Rattle.layout.specs.Refused.{refusal_at}
use Rattle.std.specs.Prelude.{Ok, Err}
use Prim.Native.Nat.{ℕ, zero, suc, ◌<◌, ◌≤◌}
use native.Mathlib.Omega.{arith}
use mathlib.Core.Logic.{◌⊎◌}
use mathlib.Core.Path.{◌≡◌, refl, ap, sym, ◌∙◌}
use mathlib.Core.List.{List, [], ◌∷◌, map}
use lib.ListN.{length, take, get_or, length-map}
use borrow.Author.Tests.{lt-ltb, le-ltb}
use Rattle.wire.specs.Test.{if}
use Rattle.wire.specs.Cursors.{left}
use Rattle.wire.specs.declared.Cursor.{Cursor}
use Rattle.layout.specs.Result.{accept}
use Rattle.layout.specs.Parts.{Step, row, number}
use Rattle.layout.specs.Rules.{NONE}
use Rattle.layout.specs.Counted.{sized, before, times}
use Rattle.layout.proofs.ResultLaws.{by_got, got_inj}
use Rattle.layout.proofs.CountLaws.{times_got, times-length}
use Rattle.cal3d_spec.specs.Rules.{bone_numbers, children_at, child_numbers}
use Rattle.cal3d_spec.specs.Skeletons.{Bone, parent_of, list_of, read_bone}
use Rattle.cal3d_spec.specs.Trees.{occurs, trees}
use Rattle.cal3d_skeleton_bones.specs.Bones.{bones_in}
use Rattle.cal3d_skeleton_bones.proofs.LinkLaws.{numbers-parent}
use Rattle.cal3d_skeleton_tree_check.specs.Scores.{score, sound, lowest, ParentsValid, Scored, Zeros, place_at, stray_at}
use Rattle.cal3d_skeleton_tree_scores.proofs.ScoreLaws.{trees_stray}
use Rattle.cal3d_skeleton_tree_file.specs.Links.{GoodBones, bones_at, told_of}

-- a bone, or none
abbrev OneOf : ℕ → ℕ → Type 0
OneOf bones p = (p ≡ NONE) ⊎ (p < bones)

bone-parent : (bones p : ℕ) (s : List ℕ) (y : Step Bone) → read_bone bones p s ≡ accept y → OneOf bones (parent_of y.value)
unfolding read_bone parent_of
bone-parent bones p s y e =
    by_got (sized p s) _ e (λ n en e₁.
    by_got (row (bone_numbers bones) n.place n.left) _ e₁ (λ x ex e₂.
    by_got (times (number x children_at) (row (child_numbers bones)) x.place x.left) _ e₂ (λ l el e₃.
    let q : x.value ≡ y.value.numbers = ap (λ (z : Step Bone). z.value.numbers) (got_inj e₃) in
    rw q at (numbers-parent bones n.place n.left x ex))))

parents_named : (bones n p : ℕ) (s : List ℕ) (x : Step (List Bone)) → times n (read_bone bones) p s ≡ accept x
    → (i : ℕ) → i < length (map parent_of x.value) → OneOf bones (get_or (map parent_of x.value) i 0)
unfolding times before
parents_named bones zero p s x e i h = let v : x.value ≡ [] = sym (ap (λ (y : Step (List Bone)). y.value) (got_inj e)) in let k = rw v at h in absurd (omega arith)
parents_named bones (suc n) p s x e i h =
    times_got (read_bone bones) n p s x e (λ y l ey el q.
    let v : y.value ∷ l.value ≡ x.value = ap (λ (z : Step (List Bone)). z.value) q in
    rw (← v) (go y l i (rw (← v) at h) (bone-parent bones p s y ey) (parents_named bones n y.place y.left l el)))
  where
    go : (y : Step Bone) (l : Step (List Bone)) (i : ℕ) → i < length (map parent_of (y.value ∷ l.value)) → OneOf bones (parent_of y.value)
        → ((i : ℕ) → i < length (map parent_of l.value) → OneOf bones (get_or (map parent_of l.value) i 0))
        → OneOf bones (get_or (map parent_of (y.value ∷ l.value)) i 0)
    go y l zero h f g = f
    go y l (suc i) h f g = g i (omega arith)

module _ (s : List ℕ) (from : Cursor) (bones : ℕ) (g : GoodBones s from bones) where
  bone-count : length (bones_at s from bones) ≡ bones
  unfolding bones_in
  bone-count = rw g.whole.is (times-length (read_bone bones) bones from.at (left from s) g.whole.read g.whole.is)

  named : ParentsValid (map parent_of (bones_at s from bones))
  unfolding bones_in
  named =
      let l = length-map (bones_at s from bones) parent_of ∙ bone-count in
      record { named = λ i h. rw l (rw g.whole.is (parents_named bones bones from.at (left from s) g.whole.read g.whole.is i (rw g.whole.is at h))) }

  module _ (ps : List ℕ) (e : ps ≡ map parent_of (bones_at s from bones)) where
    pub parents_many : length ps ≡ bones
    parents_many = rw e (length-map (bones_at s from bones) parent_of ∙ bone-count)

    pub parents_few : length ps ≤ 16383
    parents_few = let k = g.few in omega (arith, parents_many)

    pub parents_are : ParentsValid ps
    parents_are = rw e named

    module _ (scores : List ℕ) (t : Scored ps (map list_of (bones_at s from bones)) [] scores) (r : ℕ) (er : r ≡ lowest (sound ps scores) (length ps) 0) where
      same : trees (bones_at s from bones) ≡ stray_at r (bones_at s from bones)
      unfolding occurs
      same =
          let k = g.few in
          let each : (b : ℕ) → b < length (bones_at s from bones) → get_or scores b 0 ≡ score b (get_or ps b 0) 0 (map list_of (bones_at s from bones)) =
          λ b h. let x = t.each b (omega (arith, parents_many, bone-count)) in omega arith in
          rw er (rw (← e) at (trees_stray (bones_at s from bones) scores named (omega (arith, bone-count)) (rw e at each)))

      pub stray_found : r < bones → (p : ℕ) → p ≡ place_at (bones_at s from bones) r → Err (refusal_at 16 p) ≡ told_of (trees (bones_at s from bones))
      unfolding told_of if
      stray_found h p q = rw (same, lt-ltb r (length (bones_at s from bones)) (omega (arith, bone-count)), q)

      pub stray_nowhere : bones ≤ r → (Ok tt) ≡ told_of (trees (bones_at s from bones))
      unfolding told_of if
      stray_nowhere h = rw (same, le-ltb r (length (bones_at s from bones)) (omega (arith, bone-count)))

pub ruleset answers = (parents_many, parents_few, parents_are, stray_found, stray_nowhere)

-- the front of zeros
pub zeros_front : (n : ℕ) (l : List ℕ) → Zeros l → n ≤ length l → Zeros (take n l)
zeros_front n l z h = record { none = λ i. go n l i (z.none i) z }
  where
    go : (n : ℕ) (l : List ℕ) (i : ℕ) → get_or l i 0 ≡ 0 → Zeros l → get_or (take n l) i 0 ≡ 0
    go zero l i e z = refl
    go (suc n) [] i e z = refl
    go (suc n) (x ∷ l) zero e z = e
    go (suc n) (x ∷ l) (suc i) e z = go n l i e (record { none = λ j. z.none (suc j) })
