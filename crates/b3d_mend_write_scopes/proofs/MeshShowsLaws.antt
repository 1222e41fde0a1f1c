-- What the walk over a MESH shows is what its edits show.
use mathlib.Core.Path.{◌≡◌, refl, ap, ap₂, sym, ◌∙◌, subst}
use Prim.Native.Nat.{ℕ, zero, suc, ◌+◌}
use native.Mathlib.Omega.{arith}
use mathlib.Core.Bool.{Bool, true, false}
use mathlib.Core.List.{List, [], ◌∷◌, ◌++◌}
use lib.ListN.{length, drop, length-append, length-drop}
use Rattle.wire.specs.Test.{if}
use Rattle.layout.specs.Chunks.{done, stop, chunk}
use Rattle.layout.specs.Result.{Result, accept}
use Rattle.layout.specs.Parts.{Step, words, words_of}
use Rattle.layout.proofs.StepLaws.{words-enough}
use Rattle.layout.proofs.ResultLaws.{by_got, bad_got, got_inj}
use Rattle.b3d_spec.specs.declared.Mode.TheVariants.{Lenient}
use Rattle.b3d_spec.specs.declared.Tag.{Tag}
use Rattle.b3d_spec.specs.declared.Tag.TheVariants.{MESH, VRTS, TRIS}
use Rattle.b3d_spec.specs.Nesting.{start, next, onward, order, reached_at}
use Rattle.b3d_spec.specs.Parse.{Vertices, no_vertices, read_vertices}
use Rattle.b3d_spec.specs.Rules.{mesh_head}
use Rattle.b3d_spec.specs.Scene.{TriangleSet, Mesh}
use Rattle.b3d_spec.specs.Tags.{Chunks}
use Rattle.b3d_spec.proofs.Files.TagCodeLaws.{by-tag}
use Rattle.b3d_spec.proofs.Files.TagLaws.{Only}
use Rattle.b3d_mend_spec.specs.Edits.{Edit, keep, before}
use Rattle.b3d_mend_spec.specs.Mend.{Mended, mend_words, mend_row, as_read, mend_triangles, Taken, found, mend_one, mend_sets, mesh_of, mend_mesh}
use Rattle.b3d_mend_spec.specs.Pieces.{pieces, chunks_of, woven}
use Rattle.b3d_mend_spec.specs.Trees.{vertices_of}
use Rattle.b3d_mend_spec.specs.Walks.{word_edits, tris_edits}
use Rattle.b3d_mend_spec.proofs.WalkLaws.{word-edits, tris-edits}
use Rattle.b3d_mend_spec.proofs.LeafLaws.{plain, vertices-mend}
use Rattle.b3d_mend_spec.proofs.PartLaws.{row-good}
use Rattle.b3d_mend_spec.proofs.PieceLaws.{Fine, within, within-fine, order-kept}
use Rattle.b3d_mend_spec.proofs.StageLaws.{left-fine, one_stage, sets_stage}
use Rattle.b3d_mend_spec.proofs.StepLaws.{left_in}
use Rattle.b3d_mend_spec.proofs.PiecePlaceLaws.{pieces-placed}
use Rattle.b3d_mend_write_spec.specs.Shown.{shown}
use Rattle.b3d_mend_write_spec.proofs.ShowsLaws.{shown-append}
use Rattle.b3d_mend_write_scopes.specs.Shown.{ChunkShown, walked, next_scope, mesh_scope, BodiesShown, walk_chunks, shown_pieces, walk_inside, walk_leaf, walk_chunk}
use Rattle.b3d_mend_write_scopes.specs.declared.Scope.{Scope}
use Rattle.b3d_mend_write_scopes.proofs.PieceShowsLaws.{shown_bodies, woven-shown}

-- ---- which tags come: a VRTS, then only TRIS

-- the first is a VRTS, the others are TRIS
abbrev pub MeshTags : Chunks → Type 0
MeshTags done = Unit {0}
MeshTags (stop n p) = Unit {0}
MeshTags (chunk t p b r) = (t ≡ VRTS) × Only TRIS r

tris_more : (head : ℕ) (cs : Chunks) → Only TRIS (order MESH head (reached_at 2 false) cs)
unfolding order onward next if
tris_more head done = tt
tris_more head (stop n p) = tt
tris_more head (chunk t p b r) =
    by-tag (λ k. Only TRIS (order MESH head (reached_at 2 false) (chunk k p b r))) (tt, tt, tt, tt, tt, tt, (refl, tris_more head r), tt, tt, tt) t

tris_first : (head : ℕ) (cs : Chunks) → Only TRIS (order MESH head (reached_at 1 true) cs)
unfolding order onward next if
tris_first head done = tt
tris_first head (stop n p) = tt
tris_first head (chunk t p b r) =
    by-tag (λ k. Only TRIS (order MESH head (reached_at 1 true) (chunk k p b r))) (tt, tt, tt, tt, tt, tt, (refl, tris_more head r), tt, tt, tt) t

pub mesh-tags : (head : ℕ) (cs : Chunks) → MeshTags (order MESH head start cs)
unfolding order onward next if
mesh-tags head done = tt
mesh-tags head (stop n p) = tt
mesh-tags head (chunk t p b r) =
    by-tag (λ k. MeshTags (order MESH head start (chunk k p b r))) (tt, tt, tt, tt, tt, (refl, tris_first head r), tt, tt, tt, tt) t

-- ---- TRIS to the end

tris_walk : (report : Bool) (lv : ℕ) (c : Scope) (p : ℕ) (b : List ℕ) → walk_chunk report lv c TRIS p b ≡ walked (shown report (p + 8) (tris_edits c.brushes c.own b)) 0
unfolding walk_chunk walk_leaf
tris_walk report zero c p b = refl
tris_walk report (suc lv) c p b = refl

pub sets-walk : (report : Bool) (lv : ℕ) (c : Scope) (cs : Chunks) (l : List TriangleSet × List (List Edit)) → Only TRIS cs → mend_sets c.brushes c.own cs ≡ accept l
    → walk_chunks (walk_chunk report lv) c cs ≡ record { bodies = shown_bodies report cs l.1; own = c.own }
unfolding walk_chunks mend_sets next_scope
sets-walk report lv c done l k e = refl
sets-walk report lv c (stop n p) l k e = bad_got e
sets-walk report lv c (chunk t p b r) l k e =
    by_got (mend_triangles c.brushes c.own p b) _ e (λ x ex e₁.
    by_got (mend_sets c.brushes c.own r) _ e₁ (λ y ey e₂.
    let ih = sets-walk report lv c r y k.1 ey in
    let first : walk_chunk report lv c TRIS p b ≡ walked (shown report (p + 8) x.edits) 0 =
    tris_walk report lv c p b ∙ ap (λ (z : List Edit). walked (shown report (p + 8) z) 0) (sym (tris-edits c.brushes c.own p b x ex)) in
    subst (λ (u : Tag). walk_chunks (walk_chunk report lv) c (chunk u p b r) ≡ record { bodies = shown_bodies report (chunk u p b r) l.1; own = c.own }) (sym k.0)
    (subst (λ (z : List TriangleSet × List (List Edit)). walk_chunks (walk_chunk report lv) c (chunk TRIS p b r) ≡ record { bodies = shown_bodies report (chunk TRIS p b r) z.1; own = c.own }) (got_inj e₂)
    (ap₂ (λ (w : ChunkShown) (z : BodiesShown). record { bodies = w.bytes ∷ z.bodies; own = z.own }) first ih))))

-- ---- a VRTS, then TRIS

vrts_walk : (report : Bool) (lv : ℕ) (c : Scope) (p : ℕ) (b : List ℕ) → walk_chunk report lv c VRTS p b ≡ walked (shown report (p + 8) (keep b ∷ [])) (vertices_of (read_vertices Lenient p b))
unfolding walk_chunk walk_leaf
vrts_walk report zero c p b = refl
vrts_walk report (suc lv) c p b = refl

-- a scope with these vertices
abbrev with_own : Scope → ℕ → Scope
with_own c n = record { textures = c.textures; brushes = c.brushes; top = c.top; root = c.root; bones = c.bones; own = n; told = c.told }

module _ (report : Bool) (lv : ℕ) (c : Scope) (none : c.own ≡ 0) where
  abbrev Shows : Chunks → Taken Vertices → List TriangleSet × List (List Edit) → Type 0
  Shows cs v l = walk_chunks (walk_chunk report lv) c cs ≡ record { bodies = shown_bodies report cs (v.bodies ++ l.1); own = length v.value.items }

  vrts_shows : (p : ℕ) (b : List ℕ) (r : Chunks) (l : List TriangleSet × List (List Edit)) (u : Vertices) → Only TRIS r → read_vertices Lenient p b ≡ accept u → mend_sets c.brushes (length u.items) r ≡ accept l
      → walk_chunks (walk_chunk report lv) c (chunk VRTS p b r) ≡ record { bodies = shown report (p + 8) (keep b ∷ []) ∷ shown_bodies report r l.1; own = length u.items }
  unfolding walk_chunks next_scope vertices_of
  vrts_shows p b r l u k eu el =
      let w : walk_chunk report lv c VRTS p b ≡ walked (shown report (p + 8) (keep b ∷ [])) (length u.items) = vrts_walk report lv c p b ∙ ap (λ (o : Result Vertices). walked (shown report (p + 8) (keep b ∷ [])) (vertices_of o)) eu in
      let s = sets-walk report lv (with_own c (length u.items)) r l k el in
      ap (λ (x : ChunkShown). record { bodies = x.bytes ∷ (walk_chunks (walk_chunk report lv) (with_own c x.count) r).bodies; own = (walk_chunks (walk_chunk report lv) (with_own c x.count) r).own }) w
      ∙ ap (λ (x : BodiesShown). record { bodies = shown report (p + 8) (keep b ∷ []) ∷ x.bodies; own = x.own }) s

  pub mesh-inside : (cs : Chunks) (v : Taken Vertices) (l : List TriangleSet × List (List Edit)) → MeshTags cs → mend_one VRTS no_vertices (as_read (read_vertices Lenient)) cs ≡ accept v
      → mend_sets c.brushes (length v.value.items) v.rest ≡ accept l → Shows cs v l
  unfolding mend_one found as_read if walk_chunks
  mesh-inside done v l k e el = subst (λ (z : Taken Vertices). Shows done z l) (got_inj e) (ap (λ (n : ℕ). record { bodies = []; own = n }) none)
  mesh-inside (stop n p) v l k e el = bad_got e
  mesh-inside (chunk t p b r) v l k e el = go t k.0 e
    where
      go : (u : Tag) → u ≡ VRTS → mend_one VRTS no_vertices (as_read (read_vertices Lenient)) (chunk u p b r) ≡ accept v → Shows (chunk u p b r) v l
      go u q f = subst (λ (y : Tag). mend_one VRTS no_vertices (as_read (read_vertices Lenient)) (chunk y p b r) ≡ accept v → Shows (chunk y p b r) v l) (sym q)
          (λ f. by_got (as_read (read_vertices Lenient) p b) _ f (λ x ex f₁. by_got (read_vertices Lenient p b) _ ex (λ w ew f₂.
          let ev : found (λ (z : Vertices). z) x r ≡ v = got_inj f₁ in
          let eb : v.bodies ≡ (keep b ∷ []) ∷ [] = ap (λ (z : Taken Vertices). z.bodies) (sym ev) ∙ ap (λ (z : Mended Vertices). z.edits ∷ []) (sym (got_inj f₂)) in
          let ew₁ : v.value ≡ w = ap (λ (z : Taken Vertices). z.value) (sym ev) ∙ ap (λ (z : Mended Vertices). z.value) (sym (got_inj f₂)) in
          let er : v.rest ≡ r = ap (λ (z : Taken Vertices). z.rest) (sym ev) in
          let el₁ : mend_sets c.brushes (length w.items) r ≡ accept l = ap₂ (λ (z : Vertices) (y : Chunks). mend_sets c.brushes (length z.items) y) (sym ew₁) (sym er) ∙ el in
          vrts_shows p b r l w k.1 ew el₁ ∙ sym (ap₂ (λ (z : List (List Edit)) (y : Vertices). record { bodies = shown_bodies report (chunk VRTS p b r) (z ++ l.1); own = length y.items }) eb ew₁)))) f

-- ---- a MESH

pub mesh-walk : (report : Bool) (lv : ℕ) (c : Scope) (p : ℕ) (b : List ℕ) (m : Mended Mesh) → Fine b → mend_mesh c.brushes p b ≡ accept m
    → walk_chunk report (suc lv) c MESH p b ≡ walked (shown report (p + 8) m.edits) (length m.value.vertices)
unfolding mend_mesh mend_row mesh_of walk_chunk walk_inside mesh_scope
mesh-walk report lv c p b m f e =
    let brushes = c.brushes in
    by_got (mend_row (mesh_head brushes) (p + 8) b) _ e (λ h eh e₁.
    let g = row-good (mesh_head brushes) (p + 8) b h f.0 eh in
    let fl = left-fine (before h.value.edits) h.left b g.given g.bytes f.1 in
    let cs = within MESH p h.place h.left in
    by_got (mend_one VRTS no_vertices (as_read (read_vertices Lenient)) cs) _ e₁ (λ v ev e₂.
    by_got (mend_sets brushes (length v.value.items) v.rest) _ e₂ (λ l el e₃.
    by_got (words (p + 8) 1 (p + 8) b) _ eh (λ y ey e₄.
    by_got (mend_words (mesh_head brushes) (p + 8) y.value) _ e₄ (λ w ew e₅.
    let st = one_stage plain VRTS no_vertices (read_vertices Lenient) (as_read (read_vertices Lenient)) (λ q c n k. vertices-mend q c n k.0) cs v (within-fine MESH p h.place h.left fl) ev in
    let se = sets_stage brushes (length v.value.items) v.rest l st.rest-fine el in
    let P = pieces h.place h.left in
    let xs = v.bodies ++ l.1 in
    let kept = order-kept MESH p start (chunks_of P) xs (st.fill l.1 se.fill) in
    let lb = left_in (p + 8) 1 (p + 8) b y ey in
    let whole = got_inj (sym ey ∙ words-enough (p + 8) 1 (p + 8) b (omega (arith, lb))) in
    let q = sym (got_inj e₅) in
    let ep : h.place ≡ p + 8 + 4 = ap (λ (z : Step (Mended (List ℕ))). z.place) q ∙ ap (λ (z : Step (List ℕ)). z.place) whole in
    let eleft : h.left ≡ drop 4 b = ap (λ (z : Step (Mended (List ℕ))). z.left) q ∙ ap (λ (z : Step (List ℕ)). z.left) whole in
    let eh₁ : h.value.edits ≡ word_edits (mesh_head brushes) (words_of 1 b) =
    ap (λ (z : Step (Mended (List ℕ))). z.value.edits) q ∙ word-edits (mesh_head brushes) (p + 8) y.value w ew ∙ ap (λ (z : Step (List ℕ)). word_edits (mesh_head brushes) z.value) whole in
    let lh : p + 8 + length (before h.value.edits) ≡ h.place =
    omega (arith, ep, ap (λ (z : List ℕ). length z) g.given, length-append (before h.value.edits) h.left, ap (λ (z : List ℕ). length z) eleft, length-drop 4 b, lb) in
    let in_scope = mesh-inside report lv (mesh_scope c) refl cs v l (mesh-tags p (chunks_of P)) ev el in
    let walk : walk_chunks (walk_chunk report lv) (mesh_scope c) (chunks_of P) ≡ record { bodies = shown_bodies report (chunks_of P) xs; own = length v.value.items } =
    subst (λ (z : Chunks). walk_chunks (walk_chunk report lv) (mesh_scope c) z ≡ record { bodies = shown_bodies report z xs; own = length v.value.items }) kept.same in_scope in
    let inner : shown report h.place (woven P xs) ≡ shown_pieces report P (walk_chunks (walk_chunk report lv) (mesh_scope c) (chunks_of P)).bodies =
    woven-shown report P h.place (h.place + length h.left) xs (pieces-placed h.place _ h.left refl) kept.fill ∙ ap (λ (z : BodiesShown). shown_pieces report P z.bodies) (sym walk) in
    let all : shown report (p + 8) (h.value.edits ++ woven P xs) ≡ shown report (p + 8) (word_edits (mesh_head brushes) (words_of 1 b)) ++ shown_pieces report P (walk_chunks (walk_chunk report lv) (mesh_scope c) (chunks_of P)).bodies =
    (shown-append report (p + 8) h.value.edits (woven P xs)).is
    ∙ ap₂ (λ (z : List Edit) (k : ℕ). shown report (p + 8) z ++ shown report k (woven P xs)) eh₁ lh
    ∙ ap (λ (z : List ℕ). shown report (p + 8) (word_edits (mesh_head brushes) (words_of 1 b)) ++ z) inner in
    ap₂ (λ (k : ℕ) (s : List ℕ). walked (shown report (p + 8) (word_edits (mesh_head brushes) (words_of 1 b)) ++ shown_pieces report (pieces k s) (walk_chunks (walk_chunk report lv) (mesh_scope c) (chunks_of (pieces k s))).bodies)
    (walk_chunks (walk_chunk report lv) (mesh_scope c) (chunks_of (pieces k s))).own) (sym ep) (sym eleft)
    ∙ ap₂ walked (sym all) (ap (λ (z : BodiesShown). z.own) walk)
    ∙ ap (λ (z : Mended Mesh). walked (shown report (p + 8) z.edits) (length z.value.vertices)) (got_inj e₃))))))
