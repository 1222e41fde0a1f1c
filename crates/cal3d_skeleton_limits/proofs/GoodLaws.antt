-- What a skeleton file without the faults 1 to 10 is: where its bones stand, and how many rows it has.
use Prim.Native.Nat.{ℕ, ◌≤◌}
use native.Mathlib.Omega.{arith}
use mathlib.Core.Path.{◌≡◌, refl, ap, sym, ◌∙◌}
use mathlib.Core.List.{List, [], ◌∷◌}
use lib.ListN.{length, get_or}
use lib.Dec.{leb, leb→le}
use Rattle.wire.specs.Test.{if}
use Rattle.wire.specs.Cursors.{Inside, left}
use Rattle.wire.proofs.LeftLaws.{span, left-length}
use Rattle.shared_ids.proofs.IdLaws.{word-at}
use Rattle.cal3d_header.specs.Heads.{read_head}
use Rattle.cal3d_header.proofs.HeadLaws.{head_of, HeadAt, head_at}
use Rattle.layout.specs.Result.{accept, check, ◌>>=◌}
use Rattle.layout.specs.Parts.{Step, number}
use Rattle.layout.specs.Counted.{times, at_end}
use Rattle.layout.specs.Rows.{each_of}
use Rattle.layout.proofs.ResultLaws.{by_got, by-check, got_inj}
use Rattle.layout.proofs.StepLaws.{length-words-of}
use Rattle.layout.proofs.CountLaws.{times-length}
use Rattle.cal3d_spec.specs.Rules.{skeleton_magic}
use Rattle.cal3d_spec.specs.Skeletons.{Bone, Skeleton, read_bone}
use Rattle.cal3d_spec.specs.Tables.{skeleton_rows, most_rows}
use Rattle.cal3d_spec.specs.Answers.{limited_skeleton}
use Rattle.cal3d_skeleton_bones.specs.Bones.{children_in}
use Rattle.cal3d_skeleton_limits.proofs.FileLaws.{bone-rows, limits, ended, skeleton-head}

-- where the bones of a file stand
pub record BonesStand (s : List ℕ) (t : Skeleton) : Type 0 where
  pub small : length s ≤ 16777216
  pub long : 24 ≤ length s
  pub read : Step (List Bone)
  pub is : times (get_or t.head 1 0) (read_bone (get_or t.head 1 0)) 24 (left (span 24 (length s)) s) ≡ accept read
  pub same : read.value ≡ t.bones
  pub numbers : t.head ≡ 1300 ∷ get_or t.head 1 0 ∷ get_or t.head 2 0 ∷ get_or t.head 3 0 ∷ get_or t.head 4 0 ∷ []
  pub bones : length t.bones ≡ get_or t.head 1 0
  pub few : get_or t.head 1 0 ≤ 16383
  pub kids : children_in t.bones ≤ 16383

five : (l : List ℕ) → length l ≡ 5 → l ≡ get_or l 0 0 ∷ get_or l 1 0 ∷ get_or l 2 0 ∷ get_or l 3 0 ∷ get_or l 4 0 ∷ []
five [] e = absurd (omega arith)
five (a ∷ []) e = absurd (omega arith)
five (a ∷ b ∷ []) e = absurd (omega arith)
five (a ∷ b ∷ c ∷ []) e = absurd (omega arith)
five (a ∷ b ∷ c ∷ d ∷ []) e = absurd (omega arith)
five (a ∷ b ∷ c ∷ d ∷ f ∷ []) e = refl
five (a ∷ b ∷ c ∷ d ∷ f ∷ g ∷ l) e = absurd (omega arith)

limits-good : (t u : Skeleton) → (each_of 10 (λ k. leb (length (skeleton_rows k t)) most_rows) (1 ∷ 2 ∷ []) >>= λ _. accept t) ≡ accept u
    → (t ≡ u) × (length (skeleton_rows 1 t) ≤ 16383) × (length (skeleton_rows 2 t) ≤ 16383)
unfolding each_of most_rows
limits-good t u e =
    by_got (check (leb (length (skeleton_rows 1 t)) 16383) 10 1 >>= λ _. (check (leb (length (skeleton_rows 2 t)) 16383) 10 2 >>= λ _. accept tt)) _ e (λ _ el e₁.
    by-check (leb (length (skeleton_rows 1 t)) 16383) 10 1 _ el (λ a el₁.
    by-check (leb (length (skeleton_rows 2 t)) 16383) 10 2 _ el₁ (λ b _.
    (got_inj e₁, leb→le (length (skeleton_rows 1 t)) 16383 a, leb→le (length (skeleton_rows 2 t)) 16383 b))))

-- behind the header
from-good : (s : List ℕ) (t : Skeleton) (k : ℕ) → HeadAt s 4608835 1300 3 k
    → ended (head_of 3 s) (times (get_or (head_of 3 s) 1 0) (read_bone (get_or (head_of 3 s) 1 0)) 24 (left (span 24 (length s)) s)) ≡ accept t → BonesStand s t
unfolding skeleton_rows children_in if
from-good s t k a e =
    by_got (times (get_or (head_of 3 s) 1 0) (read_bone (get_or (head_of 3 s) 1 0)) 24 (left (span 24 (length s)) s) >>= λ l. at_end l.place l.left >>= λ _. accept (record { head = head_of 3 s; bones = l.value })) limits e (λ u eu e₁.
    by_got (times (get_or (head_of 3 s) 1 0) (read_bone (get_or (head_of 3 s) 1 0)) 24 (left (span 24 (length s)) s)) _ eu (λ l el e₂.
    by_got (at_end l.place l.left) _ e₂ (λ _ _ e₃.
    let g = limits-good u t e₁ in
    let q = got_inj e₃ ∙ g.0 in
    let head : head_of 3 s ≡ t.head = ap (λ (z : Skeleton). z.head) q in
    let all : l.value ≡ t.bones = ap (λ (z : Skeleton). z.bones) q in
    let room = a.room in
    let i : Inside (span 4 (length s)) (length s) = record { before = omega arith; within = omega arith } in
    let long : length t.head ≡ 5 = sym (ap length head) ∙ length-words-of 5 (left (span 4 (length s)) s) (omega (arith, left-length s (span 4 (length s)) i)) in
    let version : get_or t.head 0 0 ≡ 1300 = sym (ap (λ (ws : List ℕ). get_or ws 0 0) head) ∙ word-at s (span 4 (length s)) 5 0 i (omega arith) (omega arith) ∙ a.first in
    let is = rw head at el in
    let many = times-length (read_bone (get_or t.head 1 0)) (get_or t.head 1 0) 24 (left (span 24 (length s)) s) l is in
    let bones : length t.bones ≡ get_or t.head 1 0 = rw all at many in
    let few = rw g.0 at g.1 in
    record {
      small = a.small;
      long = room;
      read = l;
      is = is;
      same = all;
      numbers = five t.head long ∙ ap (λ (x : ℕ). x ∷ get_or t.head 1 0 ∷ get_or t.head 2 0 ∷ get_or t.head 3 0 ∷ get_or t.head 4 0 ∷ []) version;
      bones = bones;
      few = omega (arith, bone-rows 0 t.bones, bones);
      kids = rw g.0 at g.2;
    })))

pub limited-good : (s : List ℕ) (t : Skeleton) → limited_skeleton s ≡ accept t → BonesStand s t
limited-good s t e =
    by_got (read_head skeleton_magic 1300 3 s) _ (sym (skeleton-head s) ∙ e) (λ h eh e₁.
    let a = head_at 4608835 1300 3 s h eh in
    let same : h ≡ record { value = head_of 3 s; place = 24; left = left (span 24 (length s)) s } = got_inj (sym eh ∙ a.is) in
    from-good s t (number h 1) a (rw same at e₁))
