-- The chunks inside a MESH that was read are a VRTS and then TRIS: what holds of no TRIS, and with one before TRIS of which it holds, holds of them all; and
-- so what holds with a VRTS before those.
use mathlib.Core.Path.{◌≡◌, ap, subst, ◌∙◌}
use Prim.Native.Nat.{ℕ}
use mathlib.Core.Bool.{true, false}
use mathlib.Core.List.{List, [], ◌∷◌}
use lib.ListN.{length}
use Rattle.wire.specs.Test.{if}
use Rattle.layout.specs.Chunks.{done, stop, chunk}
use Rattle.layout.specs.Result.{accept}
use Rattle.layout.proofs.ResultLaws.{by_got, bad_got, got_inj}
use Rattle.b3d_spec.specs.declared.Mode.{Mode}
use Rattle.b3d_spec.specs.declared.Tag.TheVariants.{MESH, VRTS, TRIS}
use Rattle.b3d_spec.specs.Nesting.{start, next, onward, order, reached_at}
use Rattle.b3d_spec.specs.Parse.{read_one, Vertices, no_vertices, read_vertices, read_triangles, read_sets}
use Rattle.b3d_spec.specs.Scene.{TriangleSet}
use Rattle.b3d_spec.specs.Tags.{Chunks, Found}
use Rattle.b3d_spec.proofs.Files.EntryLaws.{◌▸◌, by-entry}

-- S cs l: the chunks cs have the sets l; M cs v l: they have the vertices v and the sets l
pub record ByShape (mode : Mode) (brushes : ℕ) (S : Chunks → List TriangleSet → Type 0) (M : Chunks → Vertices → List TriangleSet → Type 0) : Type 0 where
  pub none : S done []
  pub sets : (vertices p : ℕ) (b : List ℕ) (r : Chunks) (x : TriangleSet) (l : List TriangleSet) → read_triangles brushes vertices p b ≡ accept x → S r l → S (chunk TRIS p b r) (x ∷ l)
  pub shape : (p : ℕ) (b : List ℕ) (r : Chunks) (v : Vertices) (l : List TriangleSet) → read_vertices mode p b ≡ accept v → S r l → M (chunk VRTS p b r) v l

module _ (mode : Mode) (brushes : ℕ) (S : Chunks → List TriangleSet → Type 0) (M : Chunks → Vertices → List TriangleSet → Type 0) (by : ByShape mode brushes S M) (head : ℕ) where
  module _ (vertices : ℕ) where
    one_set : (p : ℕ) (b : List ℕ) (r o : Chunks) → ((m : List TriangleSet) → read_sets brushes vertices o ≡ accept m → S r m)
        → (l : List TriangleSet) → read_sets brushes vertices (chunk TRIS p b o) ≡ accept l → S (chunk TRIS p b r) l
    unfolding read_sets
    one_set p b r o more l e =
        by_got (read_triangles brushes vertices p b) _ e (λ x ex e₁.
        by_got (read_sets brushes vertices o) _ e₁ (λ m em e₂. subst (S (chunk TRIS p b r)) (got_inj e₂) (by.sets vertices p b r x m ex (more m em))))

    sets_more : (cs : Chunks) (l : List TriangleSet) → read_sets brushes vertices (order MESH head (reached_at 2 false) cs) ≡ accept l → S cs l
    unfolding read_sets order onward next if
    sets_more done l e = subst (S done) (got_inj e) by.none
    sets_more (stop i p) l e = bad_got e
    sets_more (chunk t p b r) l e =
        by-entry MESH head (reached_at 2 false) p b r (λ u o. read_sets brushes vertices o ≡ accept l → S (chunk u p b r) l) (λ u e. bad_got e)
        (tt
        ▸ (λ e. one_set p b r (order MESH head (reached_at 2 false) r) (λ m em. sets_more r m em) l e) ▸ tt) t e

    sets_first : (cs : Chunks) (l : List TriangleSet) → read_sets brushes vertices (order MESH head (reached_at 1 true) cs) ≡ accept l → S cs l
    unfolding read_sets order onward next if
    sets_first done l e = bad_got e
    sets_first (stop i p) l e = bad_got e
    sets_first (chunk t p b r) l e =
        by-entry MESH head (reached_at 1 true) p b r (λ u o. read_sets brushes vertices o ≡ accept l → S (chunk u p b r) l) (λ u e. bad_got e)
        (tt
        ▸ (λ e. one_set p b r (order MESH head (reached_at 2 false) r) (λ m em. sets_more r m em) l e) ▸ tt) t e

  pub shape_read : (cs : Chunks) (v : Found Vertices) → read_one VRTS no_vertices (read_vertices mode) (order MESH head start cs) ≡ accept v
      → (l : List TriangleSet) → read_sets brushes (length v.value.items) v.rest ≡ accept l → M cs v.value l
  unfolding read_one order onward next if
  shape_read done v e l f = bad_got e
  shape_read (stop i p) v e l f = bad_got e
  shape_read (chunk t p b r) v e l f =
      by-entry MESH head start p b r (λ u o. read_one VRTS no_vertices (read_vertices mode) o ≡ accept v → M (chunk u p b r) v.value l) (λ u e. bad_got e)
      ((λ e. by_got (read_vertices mode p b) _ e (λ x ex e₁.
      let g = got_inj e₁ in
      let sets = sets_first (length v.value.items) r l (ap (λ (y : Found Vertices). read_sets brushes (length v.value.items) y.rest) g ∙ f) in
      subst (λ (y : Found Vertices). M (chunk VRTS p b r) y.value l) g (by.shape p b r x l ex sets))) ▸ tt ▸ tt) t e
