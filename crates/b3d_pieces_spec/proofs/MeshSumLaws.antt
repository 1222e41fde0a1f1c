-- A MESH as Parse reads it is a MESH as it is counted.
use mathlib.Core.Path.{◌≡◌, refl, ap, sym, ◌∙◌}
use Prim.Native.Nat.{ℕ, ◌+◌}
use mathlib.Core.Bool.{true, false}
use mathlib.Core.List.{List, ◌∷◌}
use lib.ListN.{length}
use Rattle.wire.specs.Test.{if}
use Rattle.layout.specs.Result.{Result, accept, reject, ◌>>=◌}
use Rattle.layout.specs.Parts.{number, row}
use Rattle.layout.specs.Chunks.{done, stop, chunk}
use Rattle.layout.proofs.ResultLaws.{bind_bind}
use Rattle.b3d_spec.specs.declared.Tag.TheVariants.{MESH, VRTS, TRIS}
use Rattle.b3d_spec.specs.declared.Mode.TheVariants.{Strict}
use Rattle.b3d_spec.specs.Tags.{Chunks, split}
use Rattle.b3d_spec.specs.Rules.{mesh_head}
use Rattle.b3d_spec.specs.Nesting.{start, next, order, inside, reached_at}
use Rattle.b3d_spec.specs.Parse.{read_one, no_vertices, read_vertices, read_triangles, read_sets, read_mesh}
use Rattle.b3d_spec.proofs.Files.EntryLaws.{◌▸◌, by-entry}
use Rattle.b3d_pieces_spec.specs.declared.Totals.{Totals}
use Rattle.b3d_pieces_spec.specs.Bodies.{none_kept, closed}
use Rattle.b3d_pieces_spec.proofs.CountLaws.{chunks_out, in_mesh, mesh_out}
use Rattle.b3d_pieces_spec.proofs.SumLaws.{sets_totals, mesh_totals, vrts_out, tris_out}

-- ---- binds

-- a value x counted as f x, then the rest
pub cons-out : {X Y Z : Type 0} (o : Result X) (f : X → Totals) (C : Totals → Result Totals) (S : X → Result Y) (J : X → Y → Z) (K : Z → Totals)
    → ((x : X) → C (f x) ≡ (S x >>= λ y. accept (K (J x y)))) → ((o >>= λ x. accept (f x)) >>= C) ≡ ((o >>= λ x. S x >>= λ y. accept (J x y)) >>= λ z. accept (K z))
cons-out (accept x) f C S J K h = h x ∙ sym (bind_bind (S x) (λ y. accept (J x y)) (λ z. accept (K z)))
cons-out (reject n p) f C S J K h = refl

pub two_out : {X Y Z : Type 0} (o : Result X) (f : X → Totals) (C : Totals → Result Z) (k : X → Y) (D : Y → Result Z)
    → ((x : X) → C (f x) ≡ D (k x)) → ((o >>= λ x. accept (f x)) >>= C) ≡ ((o >>= λ x. accept (k x)) >>= D)
two_out (accept x) f C k D h = h x
two_out (reject n p) f C k D h = refl

pub through : {A B C : Type 0} (m : Result A) (f : A → Result C) (g : A → Result B) (k : B → Result C) → ((a : A) → f a ≡ (g a >>= k)) → (m >>= f) ≡ ((m >>= g) >>= k)
through (accept a) f g k h = h a
through (reject n p) f g k h = refl

two_same : {A B C D Z : Type 0} (o : Result A) (S : A → Result B) (T : A → B → C) (K : C → Z) (M : A → B → D) (L : D → Z)
    → ((a : A) (b : B) → K (T a b) ≡ L (M a b)) → ((o >>= λ a. S a >>= λ b. accept (T a b)) >>= λ c. accept (K c)) ≡ ((o >>= λ a. S a >>= λ b. accept (M a b)) >>= λ d. accept (L d))
two_same (accept a) S T K M L h = go (S a)
  where
    go : (s : Result _) → ((s >>= λ b. accept (T a b)) >>= λ c. accept (K c)) ≡ ((s >>= λ b. accept (M a b)) >>= λ d. accept (L d))
    go (accept b) = ap accept (h a b)
    go (reject n p) = refl
two_same (reject n p) S T K M L h = refl

-- ---- the chunks

-- chunks counted and read alike
abbrev Sets : Chunks → Totals → Type 0
Sets cs g = chunks_out in_mesh cs g ≡ (read_sets g.brushes g.own cs >>= λ l. accept (sets_totals l g))

one_set : (g : Totals) (p : ℕ) (b : List ℕ) (cs : Chunks) → ((x : Totals) → Sets cs x) → Sets (chunk TRIS p b cs) g
unfolding chunks_out read_sets
one_set g p b cs ih =
    ap (λ (o : Result Totals). o >>= λ x. chunks_out in_mesh cs x) (tris_out g p b)
    ∙ cons-out (read_triangles g.brushes g.own p b) (λ x. closed TRIS (length x.triangles) none_kept 0 g) (chunks_out in_mesh cs) (λ x. read_sets g.brushes g.own cs) (λ x l. x ∷ l) (λ l. sets_totals l g)
    (λ x. ih (closed TRIS (length x.triangles) none_kept 0 g))

-- after a TRIS, and before the first
sets-out : (cs : Chunks) (head : ℕ) (g : Totals) → Sets (order MESH head (reached_at 2 false) cs) g
unfolding order next if chunks_out read_sets
sets-out done head g = refl
sets-out (stop n p) head g = refl
sets-out (chunk t p b r) head g = by-entry MESH head (reached_at 2 false) p b r (λ u o. Sets o g) (λ u. refl) (tt ▸ one_set g p b (order MESH head (reached_at 2 false) r) (sets-out r head) ▸ tt) t

sets_first : (cs : Chunks) (head : ℕ) (g : Totals) → Sets (order MESH head (reached_at 1 true) cs) g
unfolding order next if chunks_out read_sets
sets_first done head g = refl
sets_first (stop n p) head g = refl
sets_first (chunk t p b r) head g = by-entry MESH head (reached_at 1 true) p b r (λ u o. Sets o g) (λ u. refl) (tt ▸ one_set g p b (order MESH head (reached_at 2 false) r) (sets-out r head) ▸ tt) t

-- a MESH's chunks
abbrev Meshes : Chunks → Totals → Type 0
Meshes cs g =
    chunks_out in_mesh cs g
    ≡ (read_one VRTS no_vertices (read_vertices Strict) cs >>= λ v. read_sets g.brushes (length v.value.items) v.rest >>= λ l. accept (sets_totals l (closed VRTS (length v.value.items) none_kept 0 g)))

mesh-chunks : (cs : Chunks) (head : ℕ) (g : Totals) → Meshes (order MESH head start cs) g
unfolding order next if chunks_out read_one
mesh-chunks done head g = refl
mesh-chunks (stop n p) head g = refl
mesh-chunks (chunk t p b r) head g =
    by-entry MESH head start p b r (λ u o. Meshes o g) (λ u. refl)
    ((ap (λ (o : Result Totals). o >>= λ x. chunks_out in_mesh (order MESH head (reached_at 1 true) r) x) (vrts_out g p b)
    ∙ two_out (read_vertices Strict p b) (λ x. closed VRTS (length x.items) none_kept 0 g) _ _ _ (λ x. sets_first r head (closed VRTS (length x.items) none_kept 0 g)))
    ▸ tt ▸ tt) t

pub mesh-out : (g : Totals) (p : ℕ) (b : List ℕ) → mesh_out g p b ≡ (read_mesh Strict g.brushes p b >>= λ m. accept (mesh_totals m g))
unfolding mesh_out read_mesh inside
mesh-out g p b =
    through (row (mesh_head g.brushes) (p + 8) b) _ _ _ (λ h.
    ap (λ (o : Result Totals). o >>= λ x. accept (closed MESH 0 none_kept 0 x)) (mesh-chunks (split h.place h.left) p g)
    ∙ two_same (read_one VRTS no_vertices (read_vertices Strict) (inside MESH p h.place h.left)) (λ v. read_sets g.brushes (length v.value.items) v.rest)
    (λ v l. sets_totals l (closed VRTS (length v.value.items) none_kept 0 g)) (λ x. closed MESH 0 none_kept 0 x)
    (λ v l. record { brush = number h 0; flags = v.value.flags; sets = v.value.sets; size = v.value.size; vertices = v.value.items; triangle_sets = l }) (λ m. mesh_totals m g) (λ v l. refl))
