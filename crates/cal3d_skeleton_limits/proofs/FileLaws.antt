-- A skeleton file: what each way through `limited` says of it.
use Rattle.layout.specs.Refused.{refusal_at}
use Rattle.std.specs.Prelude.{Ok, Err}
use Rattle.std.specs.Prelude as std
use Rattle.layout.specs.declared.Refusal.{Refusal}
use Prim.Native.Nat.{ℕ, suc, ◌+◌, ◌-◌, ◌*◌, ◌<◌, ◌≤◌}
use native.Mathlib.Omega.{arith}
use mathlib.Core.Path.{◌≡◌, refl, ap, sym, ◌∙◌}
use mathlib.Core.List.{List, [], ◌∷◌}
use lib.ListN.{length, get_or}
use lib.Dec.{leb}
use borrow.Author.Tests.{le-leb, lt-leb}
use Rattle.wire.specs.Test.{if}
use Rattle.wire.specs.Bytes.{word_at}
use Rattle.wire.specs.Cursors.{Inside, left}
use Rattle.wire.specs.declared.Cursor.{Cursor}
use Rattle.layout.specs.Result.{Result, accept, reject, check, ◌>>=◌}
use Rattle.layout.specs.Parts.{Step, number}
use Rattle.layout.specs.Counted.{times, at_end}
use Rattle.layout.specs.Rows.{each_of}
use Rattle.layout.proofs.CountLaws.{times-moves, times-length}
use Rattle.shared_ids.proofs.IdLaws.{word-at}
use Rattle.cal3d_spec.specs.Rules.{skeleton_magic}
use Rattle.layout.proofs.ResultLaws.{bind_bind}
use Rattle.cal3d_spec.specs.Skeletons.{Bone, Skeleton, read_bone, skeleton_from, skeleton}
use Rattle.cal3d_spec.specs.Tables.{bone_rows, child_rows, skeleton_rows, most_rows}
use Rattle.cal3d_spec.specs.Answers.{limited_skeleton}
use Rattle.shared_counted_lists.specs.Sums.{Sums}
use Rattle.cal3d_skeleton_bones.specs.Bones.{children_in}
use Rattle.cal3d_skeleton_limits.specs.Verdicts.{verdict_of}
use Rattle.cal3d_skeleton_bones.proofs.BoneLaws.{bone-moves}
use Rattle.cal3d_header.specs.Heads.{read_head, opened_of}
use Rattle.cal3d_header.proofs.HeadLaws.{head_of, HeadAt, head-then, opened-bad, opened-at}
pub use Rattle.cal3d_header.proofs.HeadLaws.{place-fits}
use Rattle.cal3d_header.proofs.FileEndLaws.{to_end, ended-bad, ended-spare, ended-done, left_over}
use Rattle.shared_counted_lists.proofs.SumLaws.{summed_bad, summed_got, summed_place}

-- a row for each bone
pub bone-rows : (n : ℕ) (l : List Bone) → length (bone_rows n l) ≡ length l
unfolding bone_rows
bone-rows n [] = refl
bone-rows n (b ∷ l) = ap suc (bone-rows (n + length b.children) l)

-- the file from a place on
abbrev from : List ℕ → ℕ → Cursor
from s p = record { at = p; end = length s }

-- the row limits, of a skeleton with so many bones and children
abbrev pub limits : Skeleton → Result Skeleton
limits t = each_of 10 (λ k. leb (length (skeleton_rows k t)) most_rows) (1 ∷ 2 ∷ []) >>= λ _. accept t

module _ (t : Skeleton) where
  first-limit : most_rows < length t.bones → limits t ≡ reject 10 1
  unfolding each_of skeleton_rows if check
  first-limit h = rw (bone-rows 0 t.bones, lt-leb (length t.bones) most_rows h)

  second-limit : length t.bones ≤ most_rows → most_rows < children_in t.bones → limits t ≡ reject 10 2
  unfolding each_of skeleton_rows if check children_in
  second-limit h k = rw (bone-rows 0 t.bones, le-leb (length t.bones) most_rows h, lt-leb (length (child_rows t.bones)) most_rows k)

  no-limit : length t.bones ≤ most_rows → children_in t.bones ≤ most_rows → limits t ≡ accept t
  unfolding each_of skeleton_rows if check children_in
  no-limit h k = rw (bone-rows 0 t.bones, le-leb (length t.bones) most_rows h, le-leb (length (child_rows t.bones)) most_rows k)

-- a skeleton of these numbers and bones
abbrev made_of : List ℕ → List Bone → Skeleton
made_of ws l = record { head = ws; bones = l }

-- bones to the end of the file, under this header
abbrev pub ended : List ℕ → Result (Step (List Bone)) → Result Skeleton
ended ws o = to_end (made_of ws) o >>= limits

-- a refusal, as the judge answers it
refused : (o : Result Skeleton) (e : Refusal) → o ≡ reject e.number e.place → Err e ≡ verdict_of o
unfolding verdict_of
refused o e q = rw q

accepted : (o : Result Skeleton) (t : Skeleton) (b x y z j : ℕ) → o ≡ accept t → b ≡ get_or t.head 1 0 → x ≡ get_or t.head 2 0 → y ≡ get_or t.head 3 0 → z ≡ get_or t.head 4 0
    → j ≡ children_in t.bones → Ok (record { bones = b; red = x; green = y; blue = z; children = j }) ≡ verdict_of o
unfolding verdict_of
accepted o t b x y z j q eb ex ey ez ej = rw (q, eb, ex, ey, ez, ej)

-- the file by its head
pub skeleton-head : (s : List ℕ) → limited_skeleton s ≡ (read_head skeleton_magic 1300 3 s >>= λ h. ended h.value (times (number h 1) (read_bone (number h 1)) h.place h.left))
unfolding limited_skeleton skeleton skeleton_from
skeleton-head s =
    let rest : Step (List ℕ) → Result Skeleton = λ h. times (number h 1) (read_bone (number h 1)) h.place h.left >>= λ l. at_end l.place l.left >>= λ _. accept (record { head = h.value; bones = l.value }) in
    ap (λ (o : Result Skeleton). o >>= limits) (head-then skeleton_magic 1300 3 s rest) ∙ bind_bind (read_head skeleton_magic 1300 3 s) rest limits

module _ (s : List ℕ) (x : std.Result ℕ Refusal) (ex : x ≡ opened_of (read_head 4608835 1300 3 s)) where
  pub file-head : (e : Refusal) → x ≡ Err e → Err e ≡ verdict_of (limited_skeleton s)
  file-head e w = refused (limited_skeleton s) e (rw (skeleton-head s, opened-bad (read_head 4608835 1300 3 s) e (sym w ∙ ex)))

  module _ (bones : ℕ) (w : x ≡ Ok bones) where
    head : HeadAt s 4608835 1300 3 bones
    head = opened-at 4608835 1300 3 s bones (sym w ∙ ex)

    pub file-inside : Inside (record { at = 24; end = length s }) (length s)
    file-inside = let h = head.room in record { before = omega arith; within = omega arith }

    pub file-small : length s ≤ 16777216
    file-small = head.small

    pub file_red : 12 + 4 ≤ length s
    file_red = let h = head.room in omega arith

    pub file_green : 16 + 4 ≤ length s
    file_green = let h = head.room in omega arith

    pub file_blue : 20 + 4 ≤ length s
    file_blue = let h = head.room in omega arith

    in4 : Inside (from s 4) (length s)
    in4 = let h = head.room in record { before = omega arith; within = omega arith }

    -- a number of the header
    number_at : (i : ℕ) → i < 5 → get_or (head_of 3 s) i 0 ≡ word_at s (4 + 4 * i)
    number_at i h = let r = head.room in word-at s (from s 4) 5 i in4 (omega arith) h

    module _ (k : ℕ) (ek : k ≡ bones) where
      walked : limited_skeleton s ≡ ended (head_of 3 s) (times k (read_bone k) 24 (left (from s 24) s))
      walked =
          let n : get_or (head_of 3 s) 1 0 ≡ k = number_at 1 (omega arith) ∙ head.second ∙ sym ek in
          rw (skeleton-head s, head.is, n)

      module _ (r : std.Result (ℕ × Cursor) Refusal) (b : Sums children_in (times k (read_bone k) 24 (left (record { at = 24; end = length s }) s)) (record { at = 24; end = length s }) (k * 84) r) where
        pub walk-place : (e : Refusal) → r ≡ Err e → e.place < 4294967296
        walk-place e q = let h = summed_place children_in (times k (read_bone k) 24 (left (from s 24) s)) (from s 24) (k * 84) r b e q in let m = file-small in omega arith

        pub walk_refused : (e : Refusal) → r ≡ Err e → Err e ≡ verdict_of (limited_skeleton s)
        walk_refused e q =
            refused (limited_skeleton s) e
            (walked ∙ ended-bad (made_of (head_of 3 s)) limits (times k (read_bone k) 24 (left (from s 24) s)) e.number e.place (summed_bad children_in (length s) (times k (read_bone k) 24 (left (from s 24) s)) e (sym q ∙ b.is)))

        module _ (j : ℕ) (n : Cursor) (u : r ≡ Ok (j, n)) where
          read : (x : Step (List Bone)) × (times k (read_bone k) 24 (left (from s 24) s) ≡ accept x) × (j ≡ children_in x.value) × (n ≡ record { at = x.place; end = length s })
          read = summed_got children_in (length s) (times k (read_bone k) 24 (left (from s 24) s)) j n (sym u ∙ b.is)

          place : n.at ≡ read.0.place
          place = ap (λ (z : Cursor). z.at) read.3

          over : length read.0.left ≡ length s - n.at
          over = left_over (times k (read_bone k)) (times-moves (read_bone k) (bone-moves k) k) s (from s 24) file-inside read.0 read.1 ∙ ap (λ (p : ℕ). length s - p) (sym place)

          pub walk_end : n.at < 4294967296
          walk_end = let h = rw u at b.passes in let m = file-small in let p = h.1 in let q = h.2 in omega arith

          pub file-spare : n.at < length s → Err (refusal_at 5 n.at) ≡ verdict_of (limited_skeleton s)
          file-spare h =
              refused (limited_skeleton s) (refusal_at 5 n.at)
              (walked ∙ ended-spare (made_of (head_of 3 s)) limits (times k (read_bone k) 24 (left (from s 24) s)) read.0 read.1 (omega (arith, over)) ∙ ap (λ (p : ℕ). reject 5 p) (sym place))

          module _ (h : length s ≤ n.at) where
            made : Skeleton
            made = record { head = head_of 3 s; bones = read.0.value }

            whole-file : limited_skeleton s ≡ limits made
            unfolding made
            whole-file = walked ∙ ended-done (made_of (head_of 3 s)) limits (times k (read_bone k) 24 (left (from s 24) s)) read.0 read.1 (omega (arith, over))

            bone-count : length made.bones ≡ bones
            unfolding made
            bone-count = times-length (read_bone k) k 24 (left (from s 24) s) read.0 read.1 ∙ ek

            child-count : j ≡ children_in made.bones
            unfolding made
            child-count = read.2

            pub many-bones : 16383 < bones → Err (refusal_at 10 1) ≡ verdict_of (limited_skeleton s)
            unfolding most_rows
            many-bones q = refused (limited_skeleton s) (refusal_at 10 1) (whole-file ∙ first-limit made (omega (arith, bone-count)))

            module _ (few : bones ≤ 16383) where
              pub many-children : 16383 < j → Err (refusal_at 10 2) ≡ verdict_of (limited_skeleton s)
              unfolding most_rows
              many-children q = refused (limited_skeleton s) (refusal_at 10 2) (whole-file ∙ second-limit made (omega (arith, bone-count)) (omega (arith, child-count)))

              pub file-good : j ≤ 16383 → (x₂ x₃ x₄ : ℕ) → x₂ ≡ word_at s 12 → x₃ ≡ word_at s 16 → x₄ ≡ word_at s 20
                  → Ok (record { bones = bones; red = x₂; green = x₃; blue = x₄; children = j }) ≡ verdict_of (limited_skeleton s)
              unfolding most_rows made
              file-good q x₂ x₃ x₄ e₂ e₃ e₄ =
                  accepted (limited_skeleton s) made bones x₂ x₃ x₄ j
                  (whole-file ∙ no-limit made (omega (arith, bone-count)) (omega (arith, child-count)))
                  (sym (number_at 1 (omega arith) ∙ head.second))
                  (e₂ ∙ sym (number_at 2 (omega arith)))
                  (e₃ ∙ sym (number_at 3 (omega arith)))
                  (e₄ ∙ sym (number_at 4 (omega arith)))
                  child-count

pub ruleset file = (place-fits, walk_end, file-head, file-inside, file_red, file_green, file_blue, walk-place, walk_refused, file-spare, many-bones, many-children, file-good)
