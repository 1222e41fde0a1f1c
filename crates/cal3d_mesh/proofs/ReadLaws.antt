-- A law for each way through `read_mesh`.
use mathlib.Core.Path.{◌≡◌, ap, sym, subst, ◌∙◌}
use Prim.Native.Nat.{ℕ, ◌*◌, ◌≤◌}
use native.Mathlib.Omega.{arith}
use mathlib.Core.List.{List, [], ◌∷◌}
use lib.ListN.{length}
use lib.Seq.{sets}
use lib.Dec.{T, leb, leb→le}
use Rattle.layout.specs.Result.{Result, accept, reject}
use Rattle.layout.specs.Rows.{each_of}
use Rattle.layout.proofs.AllLaws.{All, all-zip}
use Rattle.layout.proofs.ResultLaws.{by_got, got_inj, each_got}
use Rattle.shared_table_words.proofs.JoinedLaws.{over-all}
use Rattle.cal3d_spec.specs.Meshes.{Mesh, mesh}
use Rattle.cal3d_spec.specs.Tables.{mesh_tables, mesh_file_width, mesh_rows}
use Rattle.cal3d_spec.specs.Answers.{judge_mesh, read_mesh, mesh_answer, mesh_table}
use Rattle.cal3d_spec.specs.declared.MeshAnswer.{MeshAnswer}
use Rattle.cal3d_mesh_plain_spec.specs.Plain.{plain_mesh}
use Rattle.cal3d_mesh_plain_spec.proofs.MeshReadingLaws.{Plainly, mesh_plain}
use Rattle.cal3d_mesh_plain_spec.proofs.WidthLaws.{tables-wide}
use Rattle.cal3d_mesh_fill.specs.Fills.{file_words, MeshFit, MeshFilled}
use Rattle.shared_room.specs.Rooms.{number_of}
use Rattle.cal3d_mesh_answer_numbers.specs.Rooms.{WithRoom}
use Rattle.cal3d_mesh_answer_numbers.proofs.RefusalLaws.{read_number}
use Rattle.cal3d_mesh_answer_numbers.proofs.RoomLaws.{number-of, accepted}
use Rattle.cal3d_mesh.specs.Meshes.{read_into, ReadsMesh}

-- ---- what was read

-- a mesh that is read keeps the rules, and its rows have room
record Given (room : ℕ → ℕ) (bones : ℕ) (s : List ℕ) (t : Mesh) : Type 0 where
  is : mesh bones s ≡ accept t
  fits : All (λ (k : ℕ). T (leb (mesh_file_width k * length (mesh_rows k t)) (room k))) mesh_tables

judge_got : (bones : ℕ) (s : List ℕ) (t : Mesh) → judge_mesh bones s ≡ accept t → mesh bones s ≡ accept t
unfolding judge_mesh
judge_got bones s t e = by_got (mesh bones s) _ e (λ u eu e₁. by_got (each_of 10 _ mesh_tables) _ e₁ (λ y ey e₂. eu ∙ e₂))

read-given : (room : ℕ → ℕ) (bones : ℕ) (s : List ℕ) (t : Mesh) → read_mesh room bones s ≡ accept t → Given room bones s t
unfolding read_mesh
read-given room bones s t e =
    by_got (judge_mesh bones s) _ e (λ u eu e₁.
    by_got (each_of 11 (λ (k : ℕ). leb (mesh_file_width k * length (mesh_rows k u)) (room k)) mesh_tables) _ e₁ (λ y ey e₂.
    subst (λ (z : Mesh). Given room bones s z) (got_inj e₂) (record { is = judge_got bones s u eu; fits = each_got 11 _ mesh_tables ey })))

-- ---- `read_mesh`

-- where it is refused, a table stays
stays : (k : ℕ) (o : Result Mesh) (n p : ℕ) (xs : List ℕ) → o ≡ reject n p → xs ≡ mesh_table k o xs
unfolding mesh_table
stays k o n p xs e = rw e

-- where it is accepted, it has the words of its bytes
holds : (k : ℕ) (o : Result Mesh) (s : List ℕ) (t : Mesh) (xs ys : List ℕ) → o ≡ accept t → plain_mesh s ≡ t → length (file_words k s) ≤ length xs → ys ≡ sets xs 0 (file_words k s) → ys ≡ mesh_table k o xs
unfolding mesh_table
holds k o s t xs ys e f h g = g ∙ over-all xs (file_words k s) h ∙ rw (e, ← f)

-- with tables of these lengths
module _ (bones : ℕ) (s : List ℕ) (l1 l2 l3 l4 l5 l6 : ℕ) (judged : MeshAnswer) (ej : judged ≡ mesh_answer (judge_mesh bones s)) (r : MeshAnswer)
    (w : WithRoom judged (l1 ∷ l2 ∷ l3 ∷ l4 ∷ l5 ∷ l6 ∷ []) r) where
  abbrev room : ℕ → ℕ
  room = number_of (l1 ∷ l2 ∷ l3 ∷ l4 ∷ l5 ∷ l6 ∷ [])

  answers : r ≡ mesh_answer (read_mesh room bones s)
  answers = w.answer bones s ej

  by-refusal : (r.number ≡ 0 → ⊥) → {P : Type 0} → ((n p : ℕ) → read_mesh room bones s ≡ reject n p → P) → P
  by-refusal d f = number-of (read_mesh room bones s) (λ z. d (ap (λ (a : MeshAnswer). a.number) answers ∙ z)) f

  module _ (z : r.number ≡ 0) where
    by-mesh : {P : Type 0} → ((t : Mesh) → read_mesh room bones s ≡ accept t → Plainly s t → P) → P
    by-mesh f =
        accepted (read_mesh room bones s) (read_number room bones s) (sym (ap (λ (a : MeshAnswer). a.number) answers) ∙ z) (λ t e. f t e (mesh_plain s bones t (read-given room bones s t e).is))

    -- each table has room for the words of its bytes
    rooms : (t : Mesh) → read_mesh room bones s ≡ accept t → plain_mesh s ≡ t → All (λ (k : ℕ). length (file_words k s) ≤ room k) mesh_tables
    rooms t e f =
        all-zip (λ (k : ℕ). length (file_words k s) ≡ mesh_file_width k * length (mesh_rows k (plain_mesh s))) (λ (k : ℕ). T (leb (mesh_file_width k * length (mesh_rows k t)) (room k))) (λ (k : ℕ). length (file_words k s) ≤ room k)
        (λ k a b. let c = leb→le (mesh_file_width k * length (mesh_rows k t)) (room k) b in
        let d : mesh_file_width k * length (mesh_rows k (plain_mesh s)) ≡ mesh_file_width k * length (mesh_rows k t) = ap (λ (m : Mesh). mesh_file_width k * length (mesh_rows k m)) f in
        omega arith)
        mesh_tables (tables-wide s) (read-given room bones s t e).fits

    pub read-fit : MeshFit s l1 l2 l3 l4 l5 l6
    read-fit =
        by-mesh (λ t e p. let h = rooms t e p.is in
        record {
          small = omega (arith, p.small);
          head = p.head;
          within = p.within;
          room1 = h.0;
          room2 = h.1.0;
          room3 = h.1.1.0;
          room4 = h.1.1.1.0;
          room5 = h.1.1.1.1.0;
          room6 = h.1.1.1.1.1.0;
        })

module _ (bones : ℕ) (s t1 t2 t3 t4 t5 t6 : List ℕ) (judged : MeshAnswer) (ej : judged ≡ mesh_answer (judge_mesh bones s)) (r : MeshAnswer)
    (w : WithRoom judged (length t1 ∷ length t2 ∷ length t3 ∷ length t4 ∷ length t5 ∷ length t6 ∷ []) r) where
  abbrev given : Result Mesh
  given = read_into t1 t2 t3 t4 t5 t6 bones s

  answer-is : r ≡ mesh_answer given
  answer-is = w.answer bones s ej

  pub read-refused : (r.number ≡ 0 → ⊥) → ReadsMesh bones s t1 t2 t3 t4 t5 t6 t1 t2 t3 t4 t5 t6 r
  read-refused d =
      by-refusal bones s _ _ _ _ _ _ judged ej r w d (λ n p e. record {
        answer = answer-is;
        submeshes = stays 1 given n p t1 e;
        vertices = stays 2 given n p t2 e;
        maps = stays 3 given n p t3 e;
        influences = stays 4 given n p t4 e;
        springs = stays 5 given n p t5 e;
        faces = stays 6 given n p t6 e;
      })

  pub read-filled : r.number ≡ 0 → (u1 u2 u3 u4 u5 u6 : List ℕ) → MeshFilled s t1 t2 t3 t4 t5 t6 u1 u2 u3 u4 u5 u6 → ReadsMesh bones s t1 t2 t3 t4 t5 t6 u1 u2 u3 u4 u5 u6 r
  read-filled z u1 u2 u3 u4 u5 u6 f =
      let h = read-fit bones s _ _ _ _ _ _ judged ej r w z in
      by-mesh bones s _ _ _ _ _ _ judged ej r w z (λ t e p. record {
        answer = answer-is;
        submeshes = holds 1 given s t t1 u1 e p.is h.room1 f.rows1;
        vertices = holds 2 given s t t2 u2 e p.is h.room2 f.rows2;
        maps = holds 3 given s t t3 u3 e p.is h.room3 f.rows3;
        influences = holds 4 given s t t4 u4 e p.is h.room4 f.rows4;
        springs = holds 5 given s t t5 u5 e p.is h.room5 f.rows5;
        faces = holds 6 given s t t6 u6 e p.is h.room6 f.rows6;
      })
