-- The row limits: what each step of `first_over` says of six counts, and the counts of a mesh.
use Prim.Native.Nat.{ℕ, zero, suc, ◌+◌, ◌<◌, ◌≤◌}
use native.Mathlib.Omega.{arith}
use mathlib.Core.Bool.{Bool, true, false}
use mathlib.Core.Path.{◌≡◌, refl, ap, sym, ◌∙◌}
use mathlib.Core.List.{List, [], ◌∷◌, map}
use lib.ListN.{length}
use lib.Dec.{leb, leb→le, nleb→lt}
use borrow.Author.Tests.{le-leb, lt-leb}
use Rattle.wire.specs.Test.{if}
use Rattle.layout.specs.Result.{Result, accept, reject, check, ◌>>=◌}
use Rattle.layout.specs.Rows.{each_of}
use Rattle.layout.proofs.ResultLaws.{by_test}
use Rattle.cal3d_spec.specs.Meshes.{Submesh, Mesh}
use Rattle.cal3d_spec.specs.Tables.{mesh_tables, submesh_rows, vertices_of, mesh_rows, most_rows}
use Rattle.cal3d_spec.specs.Answers.{mesh_answer}
use Rattle.cal3d_spec.specs.declared.MeshAnswer.{MeshAnswer}
use Rattle.cal3d_mesh_plain_spec.proofs.WidthLaws.{vertex-rows-length}
use Rattle.cal3d_mesh_vertices.specs.Vertices.{maps_in, influences_in}
use Rattle.cal3d_mesh_submesh_lists.specs.Contents.{contents_in, CountsWithin}
use Rattle.cal3d_mesh_submesh_lists.specs.declared.Contents.{Contents}
use Rattle.cal3d_mesh_judge.specs.Limits.{row_counts, first_over, accepted_as, over_as, limited_as}

-- ---- the steps

module _ (n : ℕ) (t : Contents) where
  pub over_1 : 16383 < n → 1 ≡ first_over 1 (row_counts n t)
  unfolding first_over if most_rows
  over_1 h = rw (lt-leb n 16383 h)

  module _ (h₁ : n ≤ 16383) where
    pub over_2 : 16383 < t.vertices → 2 ≡ first_over 1 (row_counts n t)
    unfolding first_over if most_rows
    over_2 h = rw (le-leb n 16383 h₁, lt-leb t.vertices 16383 h)

    module _ (h₂ : t.vertices ≤ 16383) where
      pub over_3 : 16383 < t.maps → 3 ≡ first_over 1 (row_counts n t)
      unfolding first_over if most_rows
      over_3 h = rw (le-leb n 16383 h₁, le-leb t.vertices 16383 h₂, lt-leb t.maps 16383 h)

      module _ (h₃ : t.maps ≤ 16383) where
        pub over_4 : 16383 < t.influences → 4 ≡ first_over 1 (row_counts n t)
        unfolding first_over if most_rows
        over_4 h = rw (le-leb n 16383 h₁, le-leb t.vertices 16383 h₂, le-leb t.maps 16383 h₃, lt-leb t.influences 16383 h)

        module _ (h₄ : t.influences ≤ 16383) where
          pub over_5 : 16383 < t.springs → 5 ≡ first_over 1 (row_counts n t)
          unfolding first_over if most_rows
          over_5 h = rw (le-leb n 16383 h₁, le-leb t.vertices 16383 h₂, le-leb t.maps 16383 h₃, le-leb t.influences 16383 h₄, lt-leb t.springs 16383 h)

          module _ (h₅ : t.springs ≤ 16383) where
            pub over_6 : 16383 < t.faces → 6 ≡ first_over 1 (row_counts n t)
            unfolding first_over if most_rows
            over_6 h = rw (le-leb n 16383 h₁, le-leb t.vertices 16383 h₂, le-leb t.maps 16383 h₃, le-leb t.influences 16383 h₄, le-leb t.springs 16383 h₅, lt-leb t.faces 16383 h)

            pub over_none : t.faces ≤ 16383 → 0 ≡ first_over 1 (row_counts n t)
            unfolding first_over if most_rows
            over_none h = rw (le-leb n 16383 h₁, le-leb t.vertices 16383 h₂, le-leb t.maps 16383 h₃, le-leb t.influences 16383 h₄, le-leb t.springs 16383 h₅, le-leb t.faces 16383 h)

pub ruleset over = (over_1, over_2, over_3, over_4, over_5, over_6, over_none)

-- ---- no table is over

-- the first is not, and neither is one of the others
none_over : {P : Type 0} (k n : ℕ) (l : List ℕ) → 0 < k → first_over k (n ∷ l) ≡ 0 → (n ≤ 16383 → first_over (k + 1) l ≡ 0 → P) → P
unfolding first_over if most_rows
none_over k n l h e f =
    by_test (leb n 16383)
    (λ t. let g = leb→le n 16383 t in f g (rw (le-leb n 16383 g) at e))
    (λ t. let g = rw (lt-leb n 16383 (nleb→lt n 16383 t)) at e in absurd (omega arith))

few : (n : ℕ) (t : Contents) → first_over 1 (row_counts n t) ≡ 0 → CountsWithin t 16383
few n t e =
    none_over 1 n _ (omega arith) e (λ _ e₁.
    none_over 2 t.vertices _ (omega arith) e₁ (λ v e₂.
    none_over 3 t.maps _ (omega arith) e₂ (λ m e₃.
    none_over 4 t.influences _ (omega arith) e₃ (λ i e₄.
    none_over 5 t.springs _ (omega arith) e₄ (λ g e₅.
    none_over 6 t.faces _ (omega arith) e₅ (λ f _.
    record { vertices = v; maps = m; influences = i; springs = g; faces = f }))))))

-- the answer by the first table that is over
over-answer : (k n : ℕ) (t : Contents) → (k ≡ 0 → ⊥) → mesh_answer (reject 10 k) ≡ over_as k n t
unfolding over_as
over-answer zero n t h = absurd (h refl)
over-answer (suc k) n t h = refl

module _ (n : ℕ) (t : Contents) (o : ℕ) (eo : o ≡ first_over 1 (row_counts n t)) where
  pub limited-over : (o ≡ 0 → ⊥) → (a : MeshAnswer) → a ≡ mesh_answer (reject 10 o) → a ≡ limited_as n t
  unfolding limited_as
  limited-over h a q = rw (← eo) (q ∙ over-answer o n t h)

  pub limited-few : o ≡ 0 → CountsWithin t 16383
  limited-few h = few n t (sym eo ∙ h)

  pub limited-good : o ≡ 0 → (a : MeshAnswer) → a ≡ accepted_as n t → a ≡ limited_as n t
  unfolding limited_as over_as
  limited-good h a q = rw (sym eo ∙ h) q

pub ruleset limited = (limited-over, limited-few, limited-good)

-- ---- a mesh

-- a row for each submesh and each vertex
submesh-rows : (v g f : ℕ) (l : List Submesh) → length (submesh_rows v g f l) ≡ length l
unfolding submesh_rows
submesh-rows v g f [] = refl
submesh-rows v g f (x ∷ l) = ap suc (submesh-rows (v + length x.vertices) (g + length x.springs) (f + length x.faces) l)

-- the counts of a mesh
abbrev pub counts_of : Mesh → List ℕ
counts_of t = row_counts (length t.submeshes) (contents_in t.submeshes)

pub counts_are : (t : Mesh) → map (λ (k : ℕ). length (mesh_rows k t)) mesh_tables ≡ counts_of t
unfolding mesh_rows if contents_in maps_in influences_in
counts_are t = rw (submesh-rows 0 0 0 t.submeshes, vertex-rows-length 0 0 (vertices_of t.submeshes))

-- 10 at the first table that is over
unfoldable pub over_out : ℕ → Result (Unit {0})
over_out zero = accept tt
over_out (suc k) = reject 10 (suc k)

over_cases : (a b c d e f : Bool)
    → (check a 10 1 >>= λ _. check b 10 2 >>= λ _. check c 10 3 >>= λ _. check d 10 4 >>= λ _. check e 10 5 >>= λ _. check f 10 6 >>= λ _. accept tt)
    ≡ over_out (if a (if b (if c (if d (if e (if f 0 6) 5) 4) 3) 2) 1)
unfolding check if over_out
over_cases false b c d e f = refl
over_cases true false c d e f = refl
over_cases true true false d e f = refl
over_cases true true true false e f = refl
over_cases true true true true false f = refl
over_cases true true true true true false = refl
over_cases true true true true true true = refl

pub limits_are : (t : Mesh) → each_of 10 (λ k. leb (length (mesh_rows k t)) most_rows) mesh_tables ≡ over_out (first_over 1 (counts_of t))
unfolding each_of first_over mesh_rows if contents_in maps_in influences_in
limits_are t =
    rw (submesh-rows 0 0 0 t.submeshes, vertex-rows-length 0 0 (vertices_of t.submeshes))
    (over_cases
    (leb (length t.submeshes) most_rows)
    (leb (contents_in t.submeshes).vertices most_rows)
    (leb (contents_in t.submeshes).maps most_rows)
    (leb (contents_in t.submeshes).influences most_rows)
    (leb (contents_in t.submeshes).springs most_rows)
    (leb (contents_in t.submeshes).faces most_rows))
