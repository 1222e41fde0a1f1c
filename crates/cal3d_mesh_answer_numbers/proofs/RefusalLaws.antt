-- No refusal of a mesh has the number 0, so that 0 can say that a file is accepted.
use Prim.Native.Nat.{ℕ, zero, suc, ◌<◌}
use native.Mathlib.Omega.{arith}
use mathlib.Core.Bool.{Bool, true, false}
use mathlib.Core.Path.{◌≡◌}
use mathlib.Core.List.{List, [], ◌∷◌}
use Rattle.layout.specs.Result.{Result, accept, reject, check, ◌>>=◌}
use Rattle.layout.specs.Parts.{Step, row, number}
use Rattle.layout.specs.Counted.{times, at_end}
use Rattle.layout.specs.Rows.{each_of}
use Rattle.layout.proofs.RefusalLaws.{Fair, bind_fair, check_fair, row_fair}
use Rattle.cal3d_spec.specs.Meshes.{read_cloth, read_vertex, read_submesh, mesh_from, mesh}
use Rattle.cal3d_spec.specs.Answers.{judge_mesh, read_mesh}

times_fair : {A : Type 0} (read : ℕ → List ℕ → Result (Step A)) → ((p : ℕ) (s : List ℕ) → Fair (read p s)) → (n p : ℕ) (s : List ℕ) → Fair (times n read p s)
unfolding times
times_fair read f zero p s = tt
times_fair read f (suc n) p s = bind_fair _ (read p s) _ (f p s) (λ x. bind_fair _ (times n read x.place x.left) _ (times_fair read f n x.place x.left) (λ l. tt))

end_fair : (p : ℕ) (s : List ℕ) → Fair (at_end p s)
unfolding at_end
end_fair p [] = tt
end_fair p (c ∷ s) = (omega arith, omega arith)

cloth_fair : (springs p : ℕ) (s : List ℕ) → Fair (read_cloth springs p s)
unfolding read_cloth
cloth_fair zero p s = tt
cloth_fair (suc springs) p s = bind_fair _ (row _ p s) _ (row_fair _ p s) (λ w. tt)

vertex_fair : (bones vertices springs maps p : ℕ) (s : List ℕ) → Fair (read_vertex bones vertices springs maps p s)
unfolding read_vertex
vertex_fair bones vertices springs maps p s =
    bind_fair _ (row _ p s) _ (row_fair _ p s) (λ x.
    bind_fair _ (times maps (row _) x.place x.left) _ (times_fair (row _) (row_fair _) maps x.place x.left) (λ m.
    bind_fair _ (row _ m.place m.left) _ (row_fair _ m.place m.left) (λ k.
    bind_fair _ (times (number k 0) (row _) k.place k.left) _ (times_fair (row _) (row_fair _) (number k 0) k.place k.left) (λ i.
    bind_fair _ (read_cloth springs i.place i.left) _ (cloth_fair springs i.place i.left) (λ w. tt)))))

submesh_fair : (bones p : ℕ) (s : List ℕ) → Fair (read_submesh bones p s)
unfolding read_submesh
submesh_fair bones p s =
    bind_fair _ (row _ p s) _ (row_fair _ p s) (λ x.
    bind_fair _ (times (number x 1) (read_vertex bones (number x 1) (number x 4) (number x 5)) x.place x.left) _
    (times_fair (read_vertex bones (number x 1) (number x 4) (number x 5)) (vertex_fair bones (number x 1) (number x 4) (number x 5)) (number x 1) x.place x.left) (λ v.
    bind_fair _ (times (number x 4) (row _) v.place v.left) _ (times_fair (row _) (row_fair _) (number x 4) v.place v.left) (λ g.
    bind_fair _ (times (number x 2) (row _) g.place g.left) _ (times_fair (row _) (row_fair _) (number x 2) g.place g.left) (λ f. tt))))

from_fair : (bones p : ℕ) (s : List ℕ) → Fair (mesh_from bones p s)
unfolding mesh_from
from_fair bones p s =
    bind_fair _ (row _ p s) _ (row_fair _ p s) (λ h.
    bind_fair _ (times (number h 1) (read_submesh bones) h.place h.left) _ (times_fair (read_submesh bones) (submesh_fair bones) (number h 1) h.place h.left) (λ l.
    bind_fair _ (at_end l.place l.left) _ (end_fair l.place l.left) (λ u. tt)))

mesh_fair : (bones : ℕ) (s : List ℕ) → Fair (mesh bones s)
unfolding mesh
mesh_fair bones s =
    bind_fair _ (check _ 1 0) _ (check_fair _ 1 0 (omega arith, omega arith)) (λ u.
    bind_fair _ (row _ 0 s) _ (row_fair _ 0 s) (λ m.
    bind_fair _ (check _ 2 0) _ (check_fair _ 2 0 (omega arith, omega arith)) (λ v. from_fair _ m.place m.left)))

-- a value, or a refusal that is not 0
abbrev Told : {A : Type 0} → Result A → Type 0
Told (accept a) = Unit {0}
Told (reject n p) = 0 < n

bind_told : {A B : Type 0} (m : Result A) (k : A → Result B) → Told m → ((a : A) → Told (k a)) → Told (m >>= k)
bind_told (accept a) k h f = f a
bind_told (reject n p) k h f = h

check-told : (b : Bool) (n p : ℕ) → 0 < n → Told (check b n p)
unfolding check
check-told true n p h = tt
check-told false n p h = h

each-told : (n : ℕ) → 0 < n → (ok : ℕ → Bool) (ks : List ℕ) → Told (each_of n ok ks)
unfolding each_of
each-told n h ok [] = tt
each-told n h ok (k ∷ ks) = bind_told (check (ok k) n k) _ (check-told (ok k) n k h) (λ u. each-told n h ok ks)

fair_told : {A : Type 0} (o : Result A) → Fair o → Told o
fair_told (accept a) h = tt
fair_told (reject n p) h = h.0

judge-told : (bones : ℕ) (s : List ℕ) → Told (judge_mesh bones s)
unfolding judge_mesh
judge-told bones s = bind_told (mesh bones s) _ (fair_told (mesh bones s) (mesh_fair bones s)) (λ t. bind_told (each_of 10 _ _) _ (each-told 10 (omega arith) _ _) (λ u. tt))

read_told : (room : ℕ → ℕ) (bones : ℕ) (s : List ℕ) → Told (read_mesh room bones s)
unfolding read_mesh
read_told room bones s = bind_told (judge_mesh bones s) _ (judge-told bones s) (λ t. bind_told (each_of 11 _ _) _ (each-told 11 (omega arith) _ _) (λ u. tt))

pub judge-number : (bones : ℕ) (s : List ℕ) (n p : ℕ) → judge_mesh bones s ≡ reject n p → 0 < n
judge-number bones s n p e = rw e at (judge-told bones s)

pub read_number : (room : ℕ → ℕ) (bones : ℕ) (s : List ℕ) (n p : ℕ) → read_mesh room bones s ≡ reject n p → 0 < n
read_number room bones s n p e = rw e at (read_told room bones s)
