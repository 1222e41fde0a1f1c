-- Which of the lent tables is too short, and what the definition says of that.
use mathlib.Core.Path.{◌≡◌, refl, ap, sym, ◌∙◌}
use Prim.Native.Nat.{ℕ, ◌*◌, ◌<◌, ◌≤◌}
use native.Mathlib.Omega.{arith}
use mathlib.Core.List.{List, [], ◌∷◌}
use lib.ListN.{length, get_or}
use lib.Dec.{ltb}
use Rattle.wire.specs.Test.{if}
use Rattle.layout.specs.Result.{Result, accept, reject}
use Rattle.shared_room.specs.Rooms.{number_of, first_short}
use Rattle.shared_room.proofs.RoomLaws.{short-at-most, each-short, each_room}
use Rattle.cal3d_spec.specs.Meshes.{Mesh}
use Rattle.cal3d_spec.specs.Tables.{mesh_tables, mesh_file_width, mesh_rows}
use Rattle.cal3d_spec.specs.Answers.{judge_mesh, read_mesh, mesh_answer}
use Rattle.cal3d_spec.specs.declared.MeshAnswer.{MeshAnswer}
use Rattle.cal3d_mesh_answer_numbers.specs.Rooms.{WithRoom}
use Rattle.cal3d_mesh_answer_numbers.proofs.RefusalLaws.{judge-number}

-- the six one after the other, from the last to the first
module _ (counts : List ℕ) (l1 l2 l3 l4 l5 l6 n1 n2 n3 n4 n5 n6 r1 r2 r3 r4 r5 r6 : ℕ)
    (e1 : r1 ≡ if (ltb l1 (9 * n1)) 1 r2) (f1 : n1 ≡ get_or counts 0 0)
    (e2 : r2 ≡ if (ltb l2 (12 * n2)) 2 r3) (f2 : n2 ≡ get_or counts 1 0)
    (e3 : r3 ≡ if (ltb l3 (2 * n3)) 3 r4) (f3 : n3 ≡ get_or counts 2 0)
    (e4 : r4 ≡ if (ltb l4 (2 * n4)) 4 r5) (f4 : n4 ≡ get_or counts 3 0)
    (e5 : r5 ≡ if (ltb l5 (4 * n5)) 5 r6) (f5 : n5 ≡ get_or counts 4 0)
    (e6 : r6 ≡ if (ltb l6 (3 * n6)) 6 0) (f6 : n6 ≡ get_or counts 5 0) where
  pub short_six : r1 ≡ first_short mesh_file_width (number_of counts) (number_of (l1 ∷ l2 ∷ l3 ∷ l4 ∷ l5 ∷ l6 ∷ [])) mesh_tables
  unfolding first_short mesh_file_width if
  short_six = rw (e1, e2, e3, e4, e5, e6, f1, f2, f3, f4, f5, f6)

  pub six_few : r1 ≤ 6
  six_few = rw short_six (short-at-most mesh_file_width (number_of counts) (number_of (l1 ∷ l2 ∷ l3 ∷ l4 ∷ l5 ∷ l6 ∷ [])) 6 mesh_tables (omega arith, (omega arith, (omega arith, (omega arith, (omega arith, (omega arith, tt)))))))

-- ---- `with_room`

-- what a judge's answer says of what was read
pub number-of : (o : Result Mesh) → ((mesh_answer o).number ≡ 0 → ⊥) → {P : Type 0} → ((n p : ℕ) → o ≡ reject n p → P) → P
unfolding mesh_answer
number-of (accept t) d f = absurd (d refl)
number-of (reject n p) d f = f n p refl

pub accepted : (o : Result Mesh) → ((n p : ℕ) → o ≡ reject n p → 0 < n) → (mesh_answer o).number ≡ 0 → {P : Type 0} → ((t : Mesh) → o ≡ accept t → P) → P
unfolding mesh_answer
accepted (accept t) h e f = f t refl
accepted (reject n p) h e f = absurd (omega (arith, h n p refl))

-- the counts of the answer are those of what was read
counts_of : (t : Mesh) (room : ℕ → ℕ) → first_short mesh_file_width (number_of (mesh_answer (accept t)).counts) room mesh_tables ≡ first_short mesh_file_width (λ (k : ℕ). length (mesh_rows k t)) room mesh_tables
unfolding mesh_answer first_short
counts_of t room = refl

module _ (room : ℕ → ℕ) (bones : ℕ) (s : List ℕ) (t : Mesh) (f : judge_mesh bones s ≡ accept t) where
  read_short : (n : ℕ) → first_short mesh_file_width (λ (k : ℕ). length (mesh_rows k t)) room mesh_tables ≡ n → (n ≡ 0 → ⊥) → read_mesh room bones s ≡ reject 11 n
  unfolding read_mesh
  read_short n e d = rw (f, each-short mesh_file_width (λ (k : ℕ). length (mesh_rows k t)) room 11 mesh_tables (λ q. d (sym e ∙ q)), e)

  read-room : first_short mesh_file_width (λ (k : ℕ). length (mesh_rows k t)) room mesh_tables ≡ 0 → read_mesh room bones s ≡ accept t
  unfolding read_mesh
  read-room e = rw (f, each_room mesh_file_width (λ (k : ℕ). length (mesh_rows k t)) room 11 mesh_tables (omega arith, (omega arith, (omega arith, (omega arith, (omega arith, (omega arith, tt)))))) e)

module _ (judged : MeshAnswer) (rooms : List ℕ) where
  pub room-refused : (judged.number ≡ 0 → ⊥) → WithRoom judged rooms judged
  unfolding read_mesh
  room-refused d = record {
    answer = λ bones s e. number-of (judge_mesh bones s) (λ z. d (ap (λ (a : MeshAnswer). a.number) e ∙ z)) (λ n p f. e ∙ rw f);
  }

  module _ (z : judged.number ≡ 0) (n : ℕ) (en : n ≡ first_short mesh_file_width (number_of judged.counts) (number_of rooms) mesh_tables) where
    short-of : (bones : ℕ) (s : List ℕ) (t : Mesh) → judged ≡ mesh_answer (judge_mesh bones s) → judge_mesh bones s ≡ accept t
        → first_short mesh_file_width (λ (k : ℕ). length (mesh_rows k t)) (number_of rooms) mesh_tables ≡ n
    short-of bones s t e f = sym (counts_of t (number_of rooms)) ∙ ap (λ (a : MeshAnswer). first_short mesh_file_width (number_of a.counts) (number_of rooms) mesh_tables) (sym (e ∙ ap mesh_answer f)) ∙ sym en

    pub room-short : (n ≡ 0 → ⊥) → (r : MeshAnswer) → r ≡ mesh_answer (reject 11 n) → WithRoom judged rooms r
    room-short d r er = record {
      answer = λ bones s e. accepted (judge_mesh bones s) (judge-number bones s) (sym (ap (λ (a : MeshAnswer). a.number) e) ∙ z) (λ t f.
          er ∙ ap mesh_answer (sym (read_short (number_of rooms) bones s t f n (short-of bones s t e f) d)));
    }

    pub room-enough : n ≡ 0 → WithRoom judged rooms judged
    room-enough d = record {
      answer = λ bones s e. accepted (judge_mesh bones s) (judge-number bones s) (sym (ap (λ (a : MeshAnswer). a.number) e) ∙ z) (λ t f.
          e ∙ ap mesh_answer (f ∙ sym (read-room (number_of rooms) bones s t f (short-of bones s t e f ∙ d))));
    }

pub ruleset room_laws = (room-refused, room-short, room-enough)
