-- Where the mending read gives a value, the walk over the file gives its edits: what is written once the file is judged.
use mathlib.Core.Path.{◌≡◌, refl, ap, ap₂, sym, ◌∙◌, subst}
use Prim.Native.Nat.{ℕ}
use native.Mathlib.Omega.{arith}
use mathlib.Core.Option.{none}
use mathlib.Core.List.{List, [], ◌∷◌, ◌++◌, append-nil}
use lib.ListN.{length}
use lib.Dec.{eqb}
use Rattle.wire.specs.Bytes.{bytes, AllBytes}
use Rattle.layout.specs.Chunks.{done, stop, chunk}
use Rattle.layout.specs.Result.{Result, accept}
use Rattle.layout.specs.Parts.{row, number}
use Rattle.layout.specs.Rows.{size_fits}
use Rattle.layout.proofs.ChunkLaws.{ended-fine}
use Rattle.layout.proofs.ResultLaws.{by_got, by-if, by-check, if_yes, if_no, bad_got, got_inj}
use Rattle.b3d_spec.specs.declared.Mode.TheVariants.{Lenient}
use Rattle.b3d_spec.specs.Nesting.{start}
use Rattle.b3d_spec.specs.Parse.{read_textures, read_brushes, read_root}
use Rattle.b3d_spec.specs.Rules.{levels, header, file_head}
use Rattle.b3d_spec.specs.Scene.{Texture, Brush, Forest, no_nodes, Scene}
use Rattle.b3d_spec.specs.Tags.{code, is, Chunks}
use Rattle.b3d_spec.specs.declared.Tag.TheVariants.{BB3D, TEXS, BRUS, NODE}
use Rattle.b3d_mend_spec.specs.Edits.{Edit, keep, after, file_length}
use Rattle.b3d_mend_spec.specs.Mend.{Mended, as_read, mend_brushes, Taken, found, mend_one, mend_node, mend_root, mend_body, mend_file}
use Rattle.b3d_mend_spec.specs.Pieces.{pieces, chunks_of, woven}
use Rattle.b3d_mend_spec.specs.Trees.{node_edits, textures_of, brushes_of, root_bodies, brus_bodies, texs_bodies, body_of, file_of, file_edits}
use Rattle.b3d_mend_spec.proofs.FileLaws.{opened, high}
use Rattle.b3d_mend_spec.proofs.FileTagLaws.{file-end}
use Rattle.b3d_mend_spec.proofs.LeafLaws.{bare_textures, bare_brushes, textures-mend, brushes-mend}
use Rattle.b3d_mend_spec.proofs.NodeLaws.{bare_forest, root-mend}
use Rattle.b3d_mend_spec.proofs.PieceLaws.{Fine, FineC, Fill, within, within-fine, order-kept}
use Rattle.b3d_mend_spec.proofs.QuietStageLaws.{row-left}
use Rattle.b3d_mend_spec.proofs.StageLaws.{one_stage}
use Rattle.b3d_mend_spec.proofs.TreeLaws.{node-edits, read-edits}
use Rattle.b3d_mend_spec.proofs.WalkLaws.{brus-edits}

root-edits : (brushes p : ℕ) (b : List ℕ) (m : Mended Forest) → Fine b → mend_root brushes p b ≡ accept m → m.edits ≡ node_edits levels brushes none p b
unfolding mend_root
root-edits brushes p b m f e =
    by_got (mend_node levels brushes none p b) _ e (λ x ex e₁. ap (λ (z : Mended Forest). z.edits) (sym (got_inj e₁)) ∙ node-edits levels brushes none p b x f ex)

abbrev Rooted : ℕ → Chunks → Taken Forest → Type 0
Rooted brushes cs r = r.bodies ≡ root_bodies brushes cs

root-bodies : (brushes : ℕ) (cs : Chunks) (r : Taken Forest) → FineC cs → mend_one NODE no_nodes (mend_root brushes) cs ≡ accept r → Rooted brushes cs r
unfolding mend_one found root_bodies
root-bodies brushes done r f e = subst (Rooted brushes done) (got_inj e) refl
root-bodies brushes (stop n p) r f e = bad_got e
root-bodies brushes (chunk t p b z) r f e =
    by-if (is t NODE) _ _ e
    (λ u e₁. by_got (mend_root brushes p b) _ e₁ (λ m em e₂.
    subst (Rooted brushes (chunk t p b z)) (got_inj e₂) (ap (λ (x : List Edit). x ∷ []) (root-edits brushes p b m f.0 em) ∙ sym (if_yes (is t NODE) _ _ u))))
    (λ u e₁. subst (Rooted brushes (chunk t p b z)) (got_inj e₁) (sym (if_no (is t NODE) _ _ u)))

abbrev BrushesMended : ℕ → Chunks → Taken (ℕ × List Brush) → Type 0
BrushesMended textures cs u = (n : List (List Edit)) → n ≡ root_bodies (length u.value.1) u.rest → u.bodies ++ n ≡ brus_bodies textures cs

brus-bodies : (textures : ℕ) (cs : Chunks) (u : Taken (ℕ × List Brush)) → mend_one BRUS (0, []) (mend_brushes textures) cs ≡ accept u → BrushesMended textures cs u
unfolding mend_one found brus_bodies root_bodies brushes_of
brus-bodies textures done u e = subst (BrushesMended textures done) (got_inj e) (λ n h. h)
brus-bodies textures (stop i p) u e = bad_got e
brus-bodies textures (chunk t p b z) u e =
    by-if (is t BRUS) _ _ e
    (λ w e₁. by_got (mend_brushes textures p b) _ e₁ (λ m em e₂.
    subst (BrushesMended textures (chunk t p b z)) (got_inj e₂) (λ n h.
    ap₂ ◌∷◌ (brus-edits textures p b m em) (h ∙ ap (λ (o : Result (Mended (ℕ × List Brush))). root_bodies (brushes_of o) z) (sym em)) ∙ sym (if_yes (is t BRUS) _ _ w))))
    (λ w e₁. subst (BrushesMended textures (chunk t p b z)) (got_inj e₁) (λ n h. h ∙ sym (if_no (is t BRUS) _ _ w)))

abbrev Textured : Chunks → Taken (List Texture) → Type 0
Textured cs t = (n : List (List Edit)) → n ≡ brus_bodies (length t.value) t.rest → t.bodies ++ n ≡ texs_bodies cs

texs-bodies : (cs : Chunks) (t : Taken (List Texture)) → mend_one TEXS [] (as_read read_textures) cs ≡ accept t → Textured cs t
unfolding mend_one found as_read texs_bodies brus_bodies textures_of
texs-bodies done t e = subst (Textured done) (got_inj e) (λ n h. h)
texs-bodies (stop i p) t e = bad_got e
texs-bodies (chunk k p b z) t e =
    by-if (is k TEXS) _ _ e
    (λ w e₁. by_got (as_read read_textures p b) _ e₁ (λ m em e₂. by_got (read_textures p b) _ em (λ l el e₃.
    subst (Textured (chunk k p b z)) (got_inj e₂) (λ n h.
    ap₂ ◌∷◌ (read-edits read_textures p b m em)
    (h ∙ ap (λ (x : Mended (List Texture)). brus_bodies (length x.value) z) (sym (got_inj e₃)) ∙ ap (λ (o : Result (List Texture)). brus_bodies (textures_of o) z) (sym el)) ∙ sym (if_yes (is k TEXS) _ _ w)))))
    (λ w e₁. subst (Textured (chunk k p b z)) (got_inj e₁) (λ n h. h ∙ sym (if_no (is k TEXS) _ _ w)))

body-edits : (p : ℕ) (b : List ℕ) (m : Mended Scene) → Fine b → mend_body p b ≡ accept m → m.edits ≡ body_of (row file_head p b)
unfolding mend_body body_of
body-edits p b m f e =
    by_got (row file_head p b) _ e (λ h eh e₁.
    let fl = row-left file_head p b h f eh in
    let cs = within BB3D 0 h.place h.left in
    by_got (mend_one TEXS [] (as_read read_textures) cs) _ e₁ (λ t et e₂.
    by_got (mend_one BRUS (0, []) (mend_brushes (length t.value)) t.rest) _ e₂ (λ u eu e₃.
    by_got (mend_one NODE no_nodes (mend_root (length u.value.1)) u.rest) _ e₃ (λ r er e₄.
    let st = one_stage bare_textures TEXS [] read_textures (as_read read_textures) (λ q c x k. textures-mend q c x k.0) cs t (within-fine BB3D 0 h.place h.left fl) et in
    let su = one_stage bare_brushes BRUS (0, []) (read_brushes Lenient (length t.value)) (mend_brushes (length t.value)) (λ q c x k. brushes-mend (length t.value) q c x k.0) t.rest u st.rest-fine eu in
    let sr = one_stage bare_forest NODE no_nodes (read_root Lenient (length u.value.1)) (mend_root (length u.value.1)) (root-mend (length u.value.1)) u.rest r su.rest-fine er in
    let fin = file-end [] (0, []) no_nodes (as_read read_textures) (mend_brushes (length t.value)) (mend_root (length u.value.1)) _ t u r et eu er _ m e₄ in
    let fr : Fill u.rest r.bodies = subst (Fill u.rest) (append-nil r.bodies) (sr.fill [] (subst (λ (c : Chunks). Fill c []) (sym fin) tt)) in
    let xs = t.bodies ++ (u.bodies ++ r.bodies) in
    let kept = order-kept BB3D 0 start (chunks_of (pieces h.place h.left)) xs (st.fill (u.bodies ++ r.bodies) (su.fill r.bodies fr)) in
    let ex : xs ≡ texs_bodies (chunks_of (pieces h.place h.left)) =
    texs-bodies cs t et (u.bodies ++ r.bodies) (brus-bodies (length t.value) t.rest u eu r.bodies (root-bodies (length u.value.1) u.rest r su.rest-fine er)) ∙ ap texs_bodies kept.same in
    ap (λ (z : Mended Scene). z.edits) (sym (ended-fine r.rest _ m e₄))
    ∙ ap (λ (z : List (List Edit)). keep (bytes (number h 0) []) ∷ woven (pieces h.place h.left) z) ex
    ∙ sym (ap body_of eh)))))

pub file-edits : (s : List ℕ) (m : Mended Scene) → AllBytes s → mend_file s ≡ accept m → m.edits ≡ file_edits s
unfolding mend_file file_edits file_of
file-edits s m a e =
    by-check (size_fits (length s)) 1 0 _ e (λ z e₁.
    by_got (row header 0 s) _ e₁ (λ h eh e₂.
    by-check (eqb (number h 0) (code BB3D)) 2 0 _ e₂ (λ t e₃.
    by_got (mend_body h.place h.left) _ e₃ (λ x ex e₄.
    let o = opened s h a eh in
    let q = body-edits h.place h.left x (o.bytes_left, omega (arith, high (length s) z, ap (λ (l : List ℕ). length l) o.is-file)) ex in
    ap (λ (y : Mended Scene). y.edits) (sym (got_inj e₄))
    ∙ ap (λ (l : List Edit). keep (bytes (code BB3D) []) ∷ file_length (number h 1) (length h.left) (length (after l)) ∷ l) q
    ∙ sym (ap file_of eh)))))
