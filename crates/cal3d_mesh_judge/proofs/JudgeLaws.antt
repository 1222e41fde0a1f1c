-- A mesh file: what each way through `judge` says of it.
use Rattle.std.specs.Prelude.{Ok, Err}
use Rattle.std.specs.Prelude as std
use Rattle.layout.specs.declared.Refusal.{Refusal}
use Prim.Native.Nat.{ℕ, zero, suc, ◌-◌, ◌<◌, ◌≤◌}
use native.Mathlib.Omega.{arith}
use mathlib.Core.Path.{◌≡◌, refl, ap, sym, ◌∙◌}
use mathlib.Core.List.{List, [], ◌∷◌}
use lib.ListN.{length, get_or}
use lib.Dec.{leb}
use borrow.Author.Tests.{lt-ltb, le-ltb}
use Rattle.wire.specs.Test.{if}
use Rattle.wire.specs.Cursors.{Inside, left}
use Rattle.wire.specs.declared.Cursor.{Cursor}
use Rattle.wire.proofs.LeftLaws.{span, left-length}
use Rattle.layout.specs.Result.{Result, accept, reject, ◌>>=◌}
use Rattle.layout.specs.Parts.{Step, number}
use Rattle.layout.specs.Counted.{times}
use Rattle.layout.specs.Rows.{each_of}
use Rattle.layout.proofs.StepLaws.{length-words-of}
use Rattle.layout.proofs.CountLaws.{times-moves, times-length}
use Rattle.shared_ids.proofs.IdLaws.{word-at}
use Rattle.cal3d_spec.specs.Rules.{mesh_magic, named_bones}
use Rattle.cal3d_spec.specs.Meshes.{Submesh, Mesh, read_submesh, mesh_from, mesh}
use Rattle.cal3d_spec.specs.Tables.{mesh_tables, mesh_rows, most_rows}
use Rattle.cal3d_spec.specs.Answers.{judge_mesh, mesh_answer}
use Rattle.cal3d_spec.specs.declared.MeshAnswer.{MeshAnswer}
use Rattle.cal3d_header.specs.Heads.{read_head, opened_of}
use Rattle.cal3d_header.proofs.HeadLaws.{head_of, HeadAt, head-then, opened-bad, opened-at, place-fits}
use Rattle.cal3d_header.proofs.FileEndLaws.{to_end, ended-bad, ended-spare, ended-done, left_over}
use Rattle.cal3d_mesh_submesh_lists.specs.Contents.{contents_in, Contains}
use Rattle.cal3d_mesh_submesh_lists.specs.declared.Contents.{Contents}
use Rattle.cal3d_mesh_submeshes.proofs.SubmeshLaws.{submesh_moves}
use Rattle.cal3d_mesh_submeshes.proofs.TotalLaws.{contained-bad, contained_got}
use Rattle.cal3d_mesh_judge.specs.Limits.{row_counts, first_over, accepted_as, over_as, limited_as}
use Rattle.cal3d_mesh_judge.proofs.LimitLaws.{counts_of, counts_are, over_out, limits_are}

-- ---- the bones that ids can name

pub named-most : (n : ℕ) → 2147483648 < n → 2147483648 ≡ named_bones n
unfolding if named_bones
named-most n h = simp (lt-ltb 2147483648 n h)

pub named-all : (n r : ℕ) → n ≤ 2147483648 → r ≡ n → r ≡ named_bones n
unfolding if named_bones
named-all n r h e = simp (le-ltb 2147483648 n h) e

pub ruleset bones-named = (named-most, named-all)

-- ---- the file by its head

-- a mesh of these numbers and submeshes
abbrev made_of : List ℕ → List Submesh → Mesh
made_of ws l = record { head = ws; submeshes = l }

-- the row limits
abbrev limits : Mesh → Result Mesh
limits t = each_of 10 (λ k. leb (length (mesh_rows k t)) most_rows) mesh_tables >>= λ _. accept t

mesh-head : (bones : ℕ) (s : List ℕ) → mesh bones s ≡ (read_head mesh_magic 700 0 s >>= λ h. to_end (made_of h.value) (times (number h 1) (read_submesh (named_bones bones)) h.place h.left))
unfolding mesh mesh_from
mesh-head bones s = head-then mesh_magic 700 0 s (λ h. to_end (made_of h.value) (times (number h 1) (read_submesh (named_bones bones)) h.place h.left))

-- ---- the limits of a mesh

-- as they are answered
limits-answer : (t : Mesh) (k n : ℕ) (x : Contents) → first_over 1 (counts_of t) ≡ k → mesh_answer (accept t) ≡ accepted_as n x → mesh_answer (limits t) ≡ over_as k n x
unfolding over_out over_as
limits-answer t zero n x e q = rw (limits_are t, e) q
limits-answer t (suc k) n x e q = rw (limits_are t, e)

two : (l : List ℕ) → length l ≡ 2 → l ≡ get_or l 0 0 ∷ get_or l 1 0 ∷ []
two [] e = absurd (omega arith)
two (a ∷ []) e = absurd (omega arith)
two (a ∷ b ∷ []) e = refl
two (a ∷ b ∷ d ∷ l) e = absurd (omega arith)

-- ---- the ways through `judge`

-- a refusal, as it is answered
answer-bad : (o : Result Mesh) (n p : ℕ) → o ≡ reject n p → (a : MeshAnswer) → a ≡ mesh_answer (reject n p) → a ≡ mesh_answer o
answer-bad o n p e a q = q ∙ ap mesh_answer (sym e)

module _ (bones : ℕ) (s : List ℕ) (r : std.Result ℕ Refusal) (e : r ≡ opened_of (read_head 4607299 700 0 s)) where
  pub judge-head : (n : Refusal) → r ≡ Err n → (a : MeshAnswer) → a ≡ mesh_answer (reject n.number n.place) → a ≡ mesh_answer (judge_mesh bones s)
  unfolding judge_mesh
  judge-head n w = answer-bad (judge_mesh bones s) n.number n.place (rw (mesh-head bones s, opened-bad (read_head 4607299 700 0 s) n (sym w ∙ e)))

  module _ (k : ℕ) (w : r ≡ Ok k) where
    head : HeadAt s 4607299 700 0 k
    head = opened-at 4607299 700 0 s k (sym w ∙ e)

    pub judge-inside : Inside (record { at = 12; end = length s }) (length s)
    judge-inside = let h = head.room in record { before = omega arith; within = omega arith }

    pub judge-small : length s ≤ 16777216
    judge-small = head.small

    number_is : get_or (head_of 0 s) 1 0 ≡ k
    number_is = let h = head.room in word-at s (span 4 (length s)) 2 1 (record { before = omega arith; within = omega arith }) (omega arith) (omega arith) ∙ head.second

    head-is : head_of 0 s ≡ 700 ∷ k ∷ []
    head-is =
        let h = head.room in
        let i : Inside (span 4 (length s)) (length s) = record { before = omega arith; within = omega arith } in
        let l = length-words-of 2 (left (span 4 (length s)) s) (omega (arith, left-length s (span 4 (length s)) i)) in
        let v : get_or (head_of 0 s) 0 0 ≡ 700 = word-at s (span 4 (length s)) 2 0 i (omega arith) (omega arith) ∙ head.first in
        two (head_of 0 s) l ∙ rw (v, number_is)

    module _ (x : ℕ) (ex : x ≡ k) (b : ℕ) (eb : b ≡ named_bones bones) (y : std.Result (Contents × Cursor) Refusal)
        (v : Contains contents_in (times x (read_submesh b) 12 (left (record { at = 12; end = length s }) s)) (record { at = 12; end = length s }) 0 y) where
      walked : judge_mesh bones s ≡ (to_end (made_of (head_of 0 s)) (times x (read_submesh b) 12 (left (span 12 (length s)) s)) >>= limits)
      unfolding judge_mesh
      walked =
          let n : get_or (head_of 0 s) 1 0 ≡ x = number_is ∙ sym ex in
          rw (mesh-head bones s, head.is, n, eb)

      pub judge-place : (n : Refusal) → y ≡ Err n → n.place < 4294967296
      judge-place n z = let h : n.place ≤ length s = rw z at v.passes in let m = judge-small in omega arith

      pub judge-walk : (n : Refusal) → y ≡ Err n → (a : MeshAnswer) → a ≡ mesh_answer (reject n.number n.place) → a ≡ mesh_answer (judge_mesh bones s)
      judge-walk n z =
          answer-bad (judge_mesh bones s) n.number n.place
          (walked ∙ ended-bad (made_of (head_of 0 s)) limits (times x (read_submesh b) 12 (left (span 12 (length s)) s)) n.number n.place (contained-bad contents_in (length s) (times x (read_submesh b) 12 (left (span 12 (length s)) s)) n (sym z ∙ v.is)))

      module _ (t : Contents) (c : Cursor) (z : y ≡ Ok (t, c)) where
        read : (l : Step (List Submesh)) × (times x (read_submesh b) 12 (left (span 12 (length s)) s) ≡ accept l) × (t ≡ contents_in l.value) × (c ≡ record { at = l.place; end = length s })
        read = contained_got contents_in (length s) (times x (read_submesh b) 12 (left (span 12 (length s)) s)) t c (sym z ∙ v.is)

        place : c.at ≡ read.0.place
        place = ap (λ (q : Cursor). q.at) read.3

        over : length read.0.left ≡ length s - c.at
        over = left_over (times x (read_submesh b)) (times-moves (read_submesh b) (submesh_moves b) x) s (span 12 (length s)) judge-inside read.0 read.1 ∙ ap (λ (p : ℕ). length s - p) (sym place)

        pub judge-end : c.at < 4294967296
        judge-end = let h = rw z at v.passes in let m = judge-small in let p = h.before in let q = h.same in omega arith

        pub judge-spare : c.at < length s → (a : MeshAnswer) → a ≡ mesh_answer (reject 5 c.at) → a ≡ mesh_answer (judge_mesh bones s)
        judge-spare h =
            answer-bad (judge_mesh bones s) 5 c.at
            (walked ∙ ended-spare (made_of (head_of 0 s)) limits (times x (read_submesh b) 12 (left (span 12 (length s)) s)) read.0 read.1 (omega (arith, over)) ∙ ap (λ (p : ℕ). reject 5 p) (sym place))

        module _ (h : length s ≤ c.at) where
          made : Mesh
          made = record { head = head_of 0 s; submeshes = read.0.value }

          whole : judge_mesh bones s ≡ limits made
          unfolding made
          whole = walked ∙ ended-done (made_of (head_of 0 s)) limits (times x (read_submesh b) 12 (left (span 12 (length s)) s)) read.0 read.1 (omega (arith, over))

          counts : counts_of made ≡ row_counts k t
          unfolding made
          counts =
              let n : length read.0.value ≡ k = times-length (read_submesh b) x 12 (left (span 12 (length s)) s) read.0 read.1 ∙ ex in
              ap (λ (i : ℕ). row_counts i (contents_in read.0.value)) n ∙ ap (row_counts k) (sym read.2)

          answer : mesh_answer (accept made) ≡ accepted_as k t
          unfolding mesh_answer made
          answer = rw (counts_are made, counts, head-is)

          pub judge-limited : (a : MeshAnswer) → a ≡ limited_as k t → a ≡ mesh_answer (judge_mesh bones s)
          unfolding limited_as
          judge-limited a q = q ∙ sym (limits-answer made (first_over 1 (row_counts k t)) k t (ap (first_over 1) counts) answer) ∙ ap mesh_answer (sym whole)

pub ruleset judges = (judge-head, place-fits, judge-inside, judge-place, judge-walk, judge-spare, judge-limited)
