-- Runs over a MESH, over a NODE by the levels left, and over a BB3D's body.
use mathlib.Core.Path.{◌≡◌, refl, ap, sym, ◌∙◌}
use Prim.Native.Nat.{ℕ, zero, suc, ◌+◌}
use native.Mathlib.Omega.{arith}
use mathlib.Core.Bool.{true, false}
use mathlib.Core.Option.{Option, none, some}
use mathlib.Core.List.{List, [], ◌∷◌}
use lib.ListN.{length}
use Rattle.wire.specs.Test.{if}
use Rattle.layout.specs.Result.{Result}
use Rattle.layout.specs.Parts.{row, named}
use Rattle.b3d_spec.specs.declared.Tag.{Tag}
use Rattle.b3d_spec.specs.declared.Tag.TheVariants.{BB3D, TEXS, BRUS, NODE, MESH, VRTS, TRIS, BONE, KEYS, ANIM}
use Rattle.b3d_spec.specs.Rules.{file_head, node_row, mesh_head, levels}
use Rattle.b3d_spec.specs.Nesting.{nesting, Reached, start, next, inside}
use Rattle.b3d_pieces_spec.specs.declared.Totals.{Totals}
use Rattle.b3d_pieces_spec.specs.declared.Open.{Open}
use Rattle.b3d_pieces_spec.specs.Bodies.{headed, entered}
use Rattle.b3d_pieces_spec.specs.Machine.{State, over, fresh, numbered, reaching, edge, fixed_done, enter, enter_node, opened, row_done, run}
use Rattle.b3d_pieces_spec.specs.Close.{nothing, body}
use Rattle.b3d_pieces_spec.proofs.RunLaws.{after, after_bind, after_cong, run-fault, kept_of, named-run}
use Rattle.b3d_pieces_spec.proofs.ItemRunLaws.{row_goes, named-goes}
use Rattle.b3d_pieces_spec.proofs.CountLaws.{chunks_out, in_mesh, mesh_out, in_node, node_out, body_out}
use Rattle.b3d_pieces_spec.proofs.LeafRunLaws.{fixed_run, leaf-run, anim-run, texs_leaf, brus_leaf, vrts_leaf, tris_leaf, bone-leaf, keys-leaf}
use Rattle.b3d_pieces_spec.proofs.NestedRunLaws.{Holds, chunks-run}

none-some : {A B : Type 0} {a : A} → ◌≡◌ {A = Option A} none (some a) → B
none-some e = let z : ◌≡◌ {A = ℕ} 0 1 = cc in absurd (omega arith)

mesh-holds : Holds MESH
mesh-holds = record { deep = refl; no_text = refl; heads = λ k g. refl }

node-holds : Holds NODE
node-holds = record { deep = refl; no_text = refl; heads = λ k g. refl }

file-holds : Holds BB3D
file-holds = record { deep = refl; no_text = refl; heads = λ k g. refl }

-- what the body of a chunk does under the chunk f
abbrev Ran : State → List ℕ → Result Totals → ℕ → List Open → Type 0
Ran st b o e F = run st b ≡ after o (λ x. edge e x F)

-- ---- MESH

in-mesh : (f : Open) (R : List Open) (t : Tag) (r q : Reached) → next (nesting MESH) (nesting MESH) r t ≡ some q → (p : ℕ) (b : List ℕ) (g : Totals) (e : ℕ) → p + 8 + length b ≡ e
    → Ran (opened t p e (p + 8) g (reaching f q) R) b (in_mesh t g p b) e (reaching f q ∷ R)
unfolding opened next if
in-mesh f R BB3D r q w p b g e h = none-some w
in-mesh f R TEXS r q w p b g e h = leaf-run TEXS texs_leaf f.level p b g (reaching f q ∷ R) e h
in-mesh f R BRUS r q w p b g e h = leaf-run BRUS brus_leaf f.level p b g (reaching f q ∷ R) e h
in-mesh f R NODE r q w p b g e h = none-some w
in-mesh f R MESH r q w p b g e h = none-some w
in-mesh f R VRTS r q w p b g e h = leaf-run VRTS vrts_leaf f.level p b g (reaching f q ∷ R) e h
in-mesh f R TRIS r q w p b g e h = leaf-run TRIS tris_leaf f.level p b g (reaching f q ∷ R) e h
in-mesh f R BONE r q w p b g e h = leaf-run BONE bone-leaf f.level p b g (reaching f q ∷ R) e h
in-mesh f R KEYS r q w p b g e h = leaf-run KEYS keys-leaf f.level p b g (reaching f q ∷ R) e h
in-mesh f R ANIM r q w p b g e h = anim-run f.level p b g (reaching f q ∷ R) e h

pub mesh-run : (l p : ℕ) (b : List ℕ) (g : Totals) (R : List Open) (e : ℕ) → p + 8 + length b ≡ e
    → Ran (enter false (p + 8) g (fresh MESH p e l 0) R) b (mesh_out g p b) e R
unfolding enter fixed_done mesh_out inside
mesh-run l p b g R e n =
    fixed_run g (fresh MESH p e l 0) R (λ x y. refl) (p + 8) b n
    ∙ after_cong (row (mesh_head g.brushes) (p + 8) b) (λ h eh.
    let f = numbered (fresh MESH p e l 0) (kept_of h.value) in
    chunks-run f R mesh-holds in_mesh (in-mesh f R) start h.place h.left g (row_goes (mesh_head g.brushes) (p + 8) b h eh ∙ n)
    ∙ sym (after_bind (chunks_out in_mesh (inside MESH p h.place h.left) g) _ _))
    ∙ sym (after_bind (row (mesh_head g.brushes) (p + 8) b) _ _)

-- ---- NODE

abbrev Nodes : ℕ → Type 0
Nodes l = (p : ℕ) (b : List ℕ) (g : Totals) (R : List Open) (e : ℕ) → p + 8 + length b ≡ e → Ran (enter_node l p e (p + 8) g R) b (node_out l g p b) e R

-- a chunk in a NODE or a BB3D
in-node : (l : ℕ) → Nodes l → (f : Open) (R : List Open) → f.level ≡ l → (t : Tag) → (t ≡ BB3D → ⊥) → (p : ℕ) (b : List ℕ) (g : Totals) (e : ℕ) → p + 8 + length b ≡ e
    → Ran (opened t p e (p + 8) g f R) b (in_node (node_out l) t g p b) e (f ∷ R)
unfolding opened
in-node l ih f R k BB3D w p b g e h = absurd (w refl)
in-node l ih f R k TEXS w p b g e h = leaf-run TEXS texs_leaf f.level p b g (f ∷ R) e h
in-node l ih f R k BRUS w p b g e h = leaf-run BRUS brus_leaf f.level p b g (f ∷ R) e h
in-node l ih f R k NODE w p b g e h = ap (λ (z : ℕ). run (enter_node z p e (p + 8) g (f ∷ R)) b) k ∙ ih p b g (f ∷ R) e h
in-node l ih f R k MESH w p b g e h = mesh-run f.level p b g (f ∷ R) e h
in-node l ih f R k VRTS w p b g e h = leaf-run VRTS vrts_leaf f.level p b g (f ∷ R) e h
in-node l ih f R k TRIS w p b g e h = leaf-run TRIS tris_leaf f.level p b g (f ∷ R) e h
in-node l ih f R k BONE w p b g e h = leaf-run BONE bone-leaf f.level p b g (f ∷ R) e h
in-node l ih f R k KEYS w p b g e h = leaf-run KEYS keys-leaf f.level p b g (f ∷ R) e h
in-node l ih f R k ANIM w p b g e h = anim-run f.level p b g (f ∷ R) e h

not_in_node : (r q : Reached) (t : Tag) → next (nesting NODE) (nesting NODE) r t ≡ some q → t ≡ BB3D → ⊥
unfolding next if
not_in_node r q t w z =
    let w₁ : next (nesting NODE) (nesting NODE) r BB3D ≡ some q = rw z at w in
    none-some w₁

not_in_file : (r q : Reached) (t : Tag) → next (nesting BB3D) (nesting BB3D) r t ≡ some q → t ≡ BB3D → ⊥
unfolding next if
not_in_file r q t w z =
    let w₁ : next (nesting BB3D) (nesting BB3D) r BB3D ≡ some q = rw z at w in
    none-some w₁

pub node-run : (l : ℕ) → Nodes l
unfolding enter_node enter node_out row_done fixed_done inside
node-run zero p b g R e n = run-fault 9 p b
node-run (suc l) p b g R e n =
    let x = entered g in
    named-run true (p + 8) x (fresh NODE p e l g.below) R b n
    ∙ after_cong (named node_row (p + 8) b) (λ h eh.
    let f = numbered (fresh NODE p e l g.below) (kept_of h.value.1) in
    chunks-run f R node-holds (in_node (node_out l)) (λ t r q w. in-node l (node-run l) (reaching f q) R refl t (not_in_node r q t w)) start h.place h.left x (named-goes node_row (p + 8) b h eh ∙ n)
    ∙ sym (after_bind (chunks_out (in_node (node_out l)) (inside NODE p h.place h.left) x) _ _))
    ∙ sym (after_bind (named node_row (p + 8) b) _ _)

-- ---- BB3D

pub body_run : (b : List ℕ) → run (body (length b)) b ≡ after (body_out levels nothing 8 b) over
unfolding body enter fixed_done body_out inside edge
body_run b =
    let e = 8 + length b in
    let f₀ = fresh BB3D 0 e levels 0 in
    fixed_run nothing f₀ [] (λ x y. refl) 8 b refl
    ∙ after_cong (row file_head 8 b) (λ h eh.
    let f = numbered f₀ (kept_of h.value) in
    chunks-run f [] file-holds (in_node (node_out levels)) (λ t r q w. in-node levels (node-run levels) (reaching f q) [] refl t (not_in_file r q t w)) start h.place h.left (headed BB3D (kept_of h.value) nothing) (row_goes file_head 8 b h eh))
    ∙ sym (after_bind (row file_head 8 b) _ _)
