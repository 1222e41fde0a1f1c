-- What the walk over the chunks of a file shows is what its edits show.
use mathlib.Core.Path.{◌≡◌, refl, ap, ap₂, sym, ◌∙◌, subst}
use Prim.Native.Nat.{ℕ, ◌+◌, ◌≤◌}
use native.Mathlib.Omega.{arith}
use mathlib.Core.Bool.{Bool, true, false}
use mathlib.Core.Option.{none}
use mathlib.Core.List.{List, [], ◌∷◌, ◌++◌, append-nil}
use lib.ListN.{length, drop, get_or, length-append, length-drop}
use lib.Dec.{T, leb, eqb, leb→le}
use mir.Facts.{and_yes}
use Rattle.wire.specs.Bytes.{bytes, AllBytes}
use Rattle.wire.proofs.WordLaws.{drop-bytes}
use Rattle.wire.specs.Test.{if}
use Rattle.layout.specs.Chunks.{done, stop, chunk}
use Rattle.layout.specs.Result.{Result, accept, reject}
use Rattle.layout.specs.Parts.{Step, words, words_of, row, number}
use Rattle.layout.specs.Rows.{size_fits, most_bytes}
use Rattle.layout.proofs.ChunkLaws.{ended-fine}
use Rattle.layout.proofs.ResultLaws.{by_got, by-check, bad_got, got_inj}
use Rattle.layout.proofs.StepLaws.{words-enough, row_any, judged_got}
use Rattle.b3d_spec.specs.declared.Mode.TheVariants.{Lenient}
use Rattle.b3d_spec.specs.declared.Tag.{Tag}
use Rattle.b3d_spec.specs.declared.Tag.TheVariants.{BB3D, TEXS, BRUS, NODE}
use Rattle.b3d_spec.specs.Nesting.{start}
use Rattle.b3d_spec.specs.Parse.{read_textures, read_brushes, read_root}
use Rattle.b3d_spec.specs.Rules.{levels, header, file_head}
use Rattle.b3d_spec.specs.Scene.{Texture, Brush, Forest, no_nodes, Scene}
use Rattle.b3d_spec.specs.Tags.{is, code, Chunks}
use Rattle.b3d_spec.proofs.Files.TagCodeLaws.{by-tag}
use Rattle.b3d_spec.proofs.Files.TagLaws.{Nothing}
use Rattle.b3d_mend_spec.specs.Edits.{Edit, keep, follow, mend, was, becomes, before, after, file_length}
use Rattle.b3d_mend_spec.specs.Mend.{Mended, as_read, mend_brushes, Taken, found, mend_one, mend_node, mend_root, mend_body, mend_file}
use Rattle.b3d_mend_spec.specs.Pieces.{pieces, chunks_of, woven}
use Rattle.b3d_mend_spec.specs.Trees.{textures_of}
use Rattle.b3d_mend_spec.specs.Walks.{brus_edits}
use Rattle.b3d_mend_spec.proofs.PieceLaws.{Fine, FineC, Fill, within, within-fine, order-kept}
use Rattle.b3d_mend_spec.proofs.FileLaws.{high}
use Rattle.b3d_mend_spec.proofs.FileTagLaws.{Then, Root, Rest, file-order, file-end}
use Rattle.b3d_mend_spec.proofs.LeafLaws.{bare_textures, bare_brushes, textures-mend, brushes-mend}
use Rattle.b3d_mend_spec.proofs.NodeLaws.{bare_forest, root-mend}
use Rattle.b3d_mend_spec.proofs.QuietStageLaws.{row-left}
use Rattle.b3d_mend_spec.proofs.StageLaws.{one_stage}
use Rattle.b3d_mend_spec.proofs.WalkLaws.{brus-edits}
use Rattle.b3d_mend_spec.proofs.PiecePlaceLaws.{pieces-placed}
use Rattle.b3d_mend_write_spec.specs.Shown.{shown}
use Rattle.b3d_mend_write_spec.proofs.ShowsLaws.{shown-append}
use Rattle.b3d_mend_judge_items.specs.Lax.{every}
use Rattle.b3d_mend_judge_items.proofs.AlikeLaws.{Alike}
use Rattle.b3d_mend_judge_items.proofs.LaxFileLaws.{SameBrushes, brus_alike}
use Rattle.b3d_mend_write_scopes.specs.Shown.{ChunkShown, walked, next_scope, walk_chunks, shown_pieces, walk_inside, brush_count, walk_leaf, walk_chunk, walk_levels, file_scope, number_of, walk_body, walk_file}
use Rattle.b3d_mend_write_scopes.specs.declared.Scope.{Scope}
use Rattle.b3d_mend_write_scopes.proofs.NodeShowsLaws.{Tells, node-walk}
use Rattle.b3d_mend_write_scopes.proofs.PieceShowsLaws.{shown_bodies, woven-shown}

-- ---- the chunks

never : {A B : Type 0} → ⊥ → A → B
never h a = absurd h

-- in BB3D, with so many textures and brushes read
pub record Top (textures brushes : ℕ) (e : Scope) : Type 0 where
  pub texture : e.textures ≡ textures
  pub brush : e.brushes ≡ brushes
  pub tells : Tells e none

module _ (report : Bool) where
  abbrev walk : Scope → Chunks → List (List ℕ)
  walk e cs = (walk_chunks (walk_chunk report 17) e cs).bodies

  nothing_walk : (e : Scope) (cs : Chunks) → Nothing cs → walk e cs ≡ shown_bodies report cs []
  unfolding walk_chunks
  nothing_walk e done h = refl
  nothing_walk e (stop n p) h = refl
  nothing_walk e (chunk t p b r) h = absurd h

  pub root_walk : (textures brushes : ℕ) (cs : Chunks) (n : Taken Forest) (e : Scope) → Root cs → FineC cs → Top textures brushes e → mend_one NODE no_nodes (mend_root brushes) cs ≡ accept n → walk e cs ≡ shown_bodies report cs n.bodies
  unfolding mend_one mend_root found walk_chunks if
  root_walk textures brushes done n e g f m q = refl
  root_walk textures brushes (stop i p) n e g f m q = bad_got q
  root_walk textures brushes (chunk t p b r) n e g f m q =
      let P : Tag → Type 0 = λ u. Root (chunk u p b r) → mend_one NODE no_nodes (mend_root brushes) (chunk u p b r) ≡ accept n → walk e (chunk u p b r) ≡ shown_bodies report (chunk u p b r) n.bodies in
      let nodes : P NODE = λ g q. by_got (mend_root brushes p b) _ q (λ x ex q₁. by_got (mend_node levels brushes none p b) _ ex (λ y ey q₂.
      let w : walk_chunk report 17 e NODE p b ≡ walked (shown report (p + 8) y.edits) 0 =
      node-walk report 16 e none m.tells p b y f.0 (subst (λ (i : ℕ). mend_node 16 i none p b ≡ accept y) (sym m.brush) ey) in
      let ee : y.edits ∷ [] ≡ n.bodies = ap (λ (z : Mended Forest). z.edits ∷ []) (got_inj q₂) ∙ ap (λ (z : Taken Forest). z.bodies) (got_inj q₁) in
      ap (λ (z : ChunkShown). z.bytes ∷ (walk_chunks (walk_chunk report 17) (next_scope e NODE z.count) r).bodies) w
      ∙ ap (λ (z : List (List ℕ)). shown report (p + 8) y.edits ∷ z) (nothing_walk (next_scope e NODE 0) r g)
      ∙ ap (shown_bodies report (chunk NODE p b r)) ee)) in
      by-tag P (never, never, never, nodes, never, never, never, never, never, never) t g q

  module _ (ys : List (List Edit)) where
    abbrev GoesRoot : ℕ → Taken (ℕ × List Brush) → Type 0
    GoesRoot textures u = (e : Scope) → Top textures (length u.value.1) e → Root u.rest → walk e u.rest ≡ shown_bodies report u.rest ys

    abbrev ShownBrushes : ℕ → Scope → Chunks → Taken (ℕ × List Brush) → Type 0
    ShownBrushes textures e cs u = GoesRoot textures u → walk e cs ≡ shown_bodies report cs (u.bodies ++ ys)

    count_same : (o : Result (ℕ × List Brush)) (q : Result (Mended (ℕ × List Brush))) (x : Mended (ℕ × List Brush)) → Alike (λ (a : ℕ × List Brush) (m : Mended (ℕ × List Brush)). SameBrushes a m.value) o q → q ≡ accept x → brush_count o ≡ length x.value.1
    unfolding brush_count
    count_same (accept a) (accept y) x h e = h.1 ∙ ap (λ (z : Mended (ℕ × List Brush)). length z.value.1) (got_inj e)
    count_same (accept a) (reject n p) x h e = absurd h
    count_same (reject n p) (accept y) x h e = absurd h
    count_same (reject n p) (reject m q) x h e = bad_got e

    pub brus_walk : (textures : ℕ) (cs : Chunks) (u : Taken (ℕ × List Brush)) (e : Scope) → Rest cs → FineC cs → Top textures 0 e → mend_one BRUS (0, []) (mend_brushes textures) cs ≡ accept u → ShownBrushes textures e cs u
    unfolding mend_one found walk_chunks walk_chunk walk_leaf next_scope if
    brus_walk textures done u e g f m q = subst (ShownBrushes textures e done) (got_inj q) (λ h. h e m tt)
    brus_walk textures (stop i p) u e g f m q = bad_got q
    brus_walk textures (chunk t p b r) u e g f m q =
        let P : Tag → Type 0 = λ k. Rest (chunk k p b r) → mend_one BRUS (0, []) (mend_brushes textures) (chunk k p b r) ≡ accept u → ShownBrushes textures e (chunk k p b r) u in
        let nodes : P NODE = λ g q. subst (ShownBrushes textures e (chunk NODE p b r)) (got_inj q) (λ h. h e m g) in
        let brushes : P BRUS = λ g q. by_got (mend_brushes textures p b) _ q (λ x ex q₁.
        subst (ShownBrushes textures e (chunk BRUS p b r)) (got_inj q₁) (λ h.
        let n = length x.value.1 in
        let w : walk_chunk report 17 e BRUS p b ≡ walked (shown report (p + 8) x.edits) n =
        ap₂ (λ (i j : ℕ). walked (shown report (p + 8) (brus_edits i p b)) j) m.texture (count_same (read_brushes Lenient every p b) (mend_brushes textures p b) x (brus_alike textures p b f.0.0) ex)
        ∙ ap (λ (z : List Edit). walked (shown report (p + 8) z) n) (sym (brus-edits textures p b x ex)) in
        ap (λ (z : ChunkShown). z.bytes ∷ (walk_chunks (walk_chunk report 17) (next_scope e BRUS z.count) r).bodies) w
        ∙ ap (λ (z : List (List ℕ)). shown report (p + 8) x.edits ∷ z) (h (next_scope e BRUS n) (record { texture = m.texture; brush = refl; tells = m.tells }) g))) in
        by-tag P (never, never, brushes, nodes, never, never, never, never, never, never) t g q

    abbrev GoesRest : Taken (List Texture) → Type 0
    GoesRest t = (e : Scope) → Top (length t.value) 0 e → Rest t.rest → walk e t.rest ≡ shown_bodies report t.rest ys

    abbrev ShownTextures : Scope → Chunks → Taken (List Texture) → Type 0
    ShownTextures e cs t = GoesRest t → walk e cs ≡ shown_bodies report cs (t.bodies ++ ys)

    pub texs_walk : (cs : Chunks) (t : Taken (List Texture)) (e : Scope) → Then TEXS Rest cs → Top 0 0 e → mend_one TEXS [] (as_read read_textures) cs ≡ accept t → ShownTextures e cs t
    unfolding mend_one found as_read walk_chunks walk_chunk walk_leaf next_scope textures_of if
    texs_walk done t e g m q = subst (ShownTextures e done) (got_inj q) (λ h. h e m tt)
    texs_walk (stop i p) t e g m q = bad_got q
    texs_walk (chunk k p b r) t e g m q =
        let P : Tag → Type 0 = λ u. Then TEXS Rest (chunk u p b r) → mend_one TEXS [] (as_read read_textures) (chunk u p b r) ≡ accept t → ShownTextures e (chunk u p b r) t in
        let as_it_is : (u : Tag) → Rest (chunk u p b r) → ◌≡◌ {A = Result (Taken (List Texture))} (accept (record { value = []; bodies = []; rest = chunk u p b r })) (accept t) → ShownTextures e (chunk u p b r) t =
        (λ u g q. subst (ShownTextures e (chunk u p b r)) (got_inj q) (λ h. h e m g)) in
        let textures : P TEXS = λ g q. by_got (as_read read_textures p b) _ q (λ x ex q₁. by_got (read_textures p b) _ ex (λ l el q₂.
        subst (ShownTextures e (chunk TEXS p b r)) (got_inj q₁) (λ h.
        let n = length x.value in
        let w : walk_chunk report 17 e TEXS p b ≡ walked (shown report (p + 8) x.edits) n =
        ap (λ (o : Result (List Texture)). walked (shown report (p + 8) (keep b ∷ [])) (textures_of o)) el ∙ ap (λ (z : Mended (List Texture)). walked (shown report (p + 8) z.edits) (length z.value)) (got_inj q₂) in
        ap (λ (z : ChunkShown). z.bytes ∷ (walk_chunks (walk_chunk report 17) (next_scope e TEXS z.count) r).bodies) w
        ∙ ap (λ (z : List (List ℕ)). shown report (p + 8) x.edits ∷ z) (h (next_scope e TEXS n) (record { texture = refl; brush = m.brush; tells = m.tells }) g)))) in
        by-tag P (never, textures, as_it_is BRUS, as_it_is NODE, never, never, never, never, never, never) k g q

-- ---- the file

-- what stands first: a letter code, a length, a version
file-numbers : (s : List ℕ) → 12 ≤ length s → (get_or (words_of 2 s) 1 0 ≡ number_of 1 s) × (get_or (words_of 1 (drop 8 s)) 0 0 ≡ number_of 2 s) × (drop 4 (drop 8 s) ≡ drop 12 s)
file-numbers [] n = absurd (omega arith)
file-numbers (a ∷ []) n = absurd (omega arith)
file-numbers (a ∷ b ∷ []) n = absurd (omega arith)
file-numbers (a ∷ b ∷ c ∷ []) n = absurd (omega arith)
file-numbers (a ∷ b ∷ c ∷ d ∷ []) n = absurd (omega arith)
file-numbers (a ∷ b ∷ c ∷ d ∷ e ∷ []) n = absurd (omega arith)
file-numbers (a ∷ b ∷ c ∷ d ∷ e ∷ f ∷ []) n = absurd (omega arith)
file-numbers (a ∷ b ∷ c ∷ d ∷ e ∷ f ∷ g ∷ []) n = absurd (omega arith)
file-numbers (a ∷ b ∷ c ∷ d ∷ e ∷ f ∷ g ∷ h ∷ []) n = absurd (omega arith)
file-numbers (a ∷ b ∷ c ∷ d ∷ e ∷ f ∷ g ∷ h ∷ i ∷ []) n = absurd (omega arith)
file-numbers (a ∷ b ∷ c ∷ d ∷ e ∷ f ∷ g ∷ h ∷ i ∷ j ∷ []) n = absurd (omega arith)
file-numbers (a ∷ b ∷ c ∷ d ∷ e ∷ f ∷ g ∷ h ∷ i ∷ j ∷ k ∷ []) n = absurd (omega arith)
file-numbers (a ∷ b ∷ c ∷ d ∷ e ∷ f ∷ g ∷ h ∷ i ∷ j ∷ k ∷ l ∷ s) n = (refl, refl, refl)

top_start : Top 0 0 file_scope
top_start = record { texture = refl; brush = refl; tells = (refl, refl) }

-- a body that was mended: the version, and what the walk over its chunks shows
pub record BodyShown (p : ℕ) (b : List ℕ) (m : Mended Scene) : Type 0 where
  pub head : Step (List ℕ)
  pub read : row file_head p b ≡ accept head
  pub rest : List Edit
  pub is : m.edits ≡ keep (bytes (number head 0) []) ∷ rest
  pub shows : (report : Bool) → shown report head.place rest ≡ (walk_inside report (walk_chunk report walk_levels) file_scope head.place head.left).bytes

pub body-walk : (p : ℕ) (b : List ℕ) (m : Mended Scene) → Fine b → mend_body p b ≡ accept m → BodyShown p b m
unfolding mend_body walk_inside
body-walk p b m f e =
    by_got (row file_head p b) _ e (λ h eh e₁.
    let fl = row-left file_head p b h f eh in
    let cs = within BB3D 0 h.place h.left in
    let fc = within-fine BB3D 0 h.place h.left fl in
    by_got (mend_one TEXS [] (as_read read_textures) cs) _ e₁ (λ t et e₂.
    by_got (mend_one BRUS (0, []) (mend_brushes (length t.value)) t.rest) _ e₂ (λ u eu e₃.
    by_got (mend_one NODE no_nodes (mend_root (length u.value.1)) u.rest) _ e₃ (λ r er e₄.
    let st = one_stage bare_textures TEXS [] read_textures (as_read read_textures) (λ q c x k. textures-mend q c x k.0) cs t fc et in
    let su = one_stage bare_brushes BRUS (0, []) (read_brushes Lenient (length t.value)) (mend_brushes (length t.value)) (λ q c x k. brushes-mend (length t.value) q c x k.0) t.rest u st.rest-fine eu in
    let sr = one_stage bare_forest NODE no_nodes (read_root Lenient (length u.value.1)) (mend_root (length u.value.1)) (root-mend (length u.value.1)) u.rest r su.rest-fine er in
    let fin = file-end [] (0, []) no_nodes (as_read read_textures) (mend_brushes (length t.value)) (mend_root (length u.value.1)) _ t u r et eu er _ m e₄ in
    let fr : Fill u.rest r.bodies = subst (Fill u.rest) (append-nil r.bodies) (sr.fill [] (subst (λ (c : Chunks). Fill c []) (sym fin) tt)) in
    let xs = t.bodies ++ (u.bodies ++ r.bodies) in
    let P = pieces h.place h.left in
    let kept = order-kept BB3D 0 start (chunks_of P) xs (st.fill (u.bodies ++ r.bodies) (su.fill r.bodies fr)) in
    let walk₁ : (report : Bool) → (walk_chunks (walk_chunk report 17) file_scope cs).bodies ≡ shown_bodies report cs xs = (λ report.
    texs_walk report (u.bodies ++ r.bodies) cs t file_scope (file-order 0 (chunks_of P)) top_start et (λ e' top tags.
    brus_walk report r.bodies (length t.value) t.rest u e' tags st.rest-fine top eu (λ e'' top' tags'.
    root_walk report (length t.value) (length u.value.1) u.rest r e'' tags' su.rest-fine top' er))) in
    record {
      head = h;
      read = eh;
      rest = woven P xs;
      is = ap (λ (z : Mended Scene). z.edits) (sym (ended-fine r.rest _ m e₄));
      shows = λ report.
          let walk₂ : (walk_chunks (walk_chunk report 17) file_scope (chunks_of P)).bodies ≡ shown_bodies report (chunks_of P) xs =
          subst (λ (z : Chunks). (walk_chunks (walk_chunk report 17) file_scope z).bodies ≡ shown_bodies report z xs) kept.same (walk₁ report) in
          woven-shown report P h.place (h.place + length h.left) xs (pieces-placed h.place _ h.left refl) kept.fill ∙ ap (shown_pieces report P) (sym walk₂);
    }))))

length-four : (said is new : ℕ) → length (was (file_length said is new)) ≡ 4
unfolding file_length was if
length-four said is new = go (eqb said is)
  where
    go : (b : Bool) → length (was (if b (follow is new) (mend 1 (bytes said []) (bytes new [])))) ≡ 4
    go true = refl
    go false = refl

three-long : (a v : ℕ) (e : Edit) → length (was e) ≡ 4 → 0 + length (before (keep (bytes a []) ∷ e ∷ keep (bytes v []) ∷ [])) ≡ 12
unfolding before was
three-long a v e h = omega (arith, length-append (was e) (bytes v [] ++ []))

fixed_head : (s : List ℕ) → 12 ≤ length s → (h : Step (List ℕ)) → row file_head 8 (drop 8 s) ≡ accept h → (number h 0 ≡ get_or (words_of 1 (drop 8 s)) 0 0) × (h.place ≡ 12) × (h.left ≡ drop 4 (drop 8 s))
unfolding row
fixed_head s n h e =
    by_got (words 8 1 8 (drop 8 s)) _ e (λ y ey e₁.
    let l = length-drop 8 s in
    let w = got_inj (sym ey ∙ words-enough 8 1 8 (drop 8 s) (omega arith)) in
    let q = sym (judged_got file_head 8 y.value y h e₁) ∙ w in
    (ap (λ (z : Step (List ℕ)). get_or z.value 0 0) q, ap (λ (z : Step (List ℕ)). z.place) q, ap (λ (z : Step (List ℕ)). z.left) q))

after_long : (v : ℕ) (rest : List Edit) → length (after (keep (bytes v []) ∷ rest)) ≡ 4 + length (after rest)
unfolding after becomes
after_long v rest = omega arith

file_is : (l : List Edit) → after l ≡ shown false 12 l
unfolding shown
file_is l = refl

-- for a file that can be mended, what the walk shows is its mended file, and its report
pub file-walk : (s : List ℕ) (m : Mended Scene) → AllBytes s → mend_file s ≡ accept m → (report : Bool) → walk_file report (length (walk_body false s)) s ≡ shown report 0 m.edits
unfolding mend_file walk_file walk_body
file-walk s m a e report =
    by-check (size_fits (length s)) 1 0 _ e (λ z e₁.
    by_got (row header 0 s) _ e₁ (λ h eh e₂.
    by-check (eqb (number h 0) (code BB3D)) 2 0 _ e₂ (λ t e₃.
    by_got (mend_body h.place h.left) _ e₃ (λ x ex e₄.
    let lo = low (length s) z in
    let hi = high (length s) z in
    let eh₁ = got_inj (sym eh ∙ row_any 2 0 s (omega arith)) in
    let left₁ : h.left ≡ drop 8 s = ap (λ (y : Step (List ℕ)). y.left) eh₁ in
    let ex₁ : mend_body 8 (drop 8 s) ≡ accept x = ap₂ mend_body (sym (ap (λ (y : Step (List ℕ)). y.place) eh₁)) (sym left₁) ∙ ex in
    let B = body-walk 8 (drop 8 s) x (drop-bytes 8 s a, omega (arith, length-drop 8 s)) ex₁ in
    let F = fixed_head s lo B.head B.read in
    let N = file-numbers s lo in
    let v : number B.head 0 ≡ number_of 2 s = F.0 ∙ N.1 in
    let n₁ : number h 1 ≡ number_of 1 s = ap (λ (y : Step (List ℕ)). get_or y.value 1 0) eh₁ ∙ N.0 in
    let shows : (r : Bool) → shown r 12 B.rest ≡ (walk_inside r (walk_chunk r walk_levels) file_scope 12 (drop 12 s)).bytes =
    (λ r. ap₂ (λ (i : ℕ) (l : List ℕ). shown r i B.rest) (sym F.1) (sym left₁) ∙ B.shows r ∙ ap₂ (λ (i : ℕ) (l : List ℕ). (walk_inside r (walk_chunk r walk_levels) file_scope i l).bytes) F.1 (F.2 ∙ N.2)) in
    let size : length (after x.edits) ≡ 4 + length (walk_inside false (walk_chunk false walk_levels) file_scope 12 (drop 12 s)).bytes =
    ap (λ (l : List Edit). length (after l)) B.is ∙ after_long (number B.head 0) B.rest ∙ ap (λ (l : List ℕ). 4 + length l) (file-shown B.rest ∙ shows false) in
    let L = file_length (number h 1) (length h.left) (length (after x.edits)) in
    let K = keep (bytes (code BB3D) []) in
    let W = keep (bytes (number B.head 0) []) in
    let parts : shown report 0 (K ∷ L ∷ (W ∷ B.rest)) ≡ shown report 0 (K ∷ L ∷ W ∷ []) ++ shown report 12 B.rest =
    (shown-append report 0 (K ∷ L ∷ W ∷ []) B.rest).is ∙ ap (λ (i : ℕ). shown report 0 (K ∷ L ∷ W ∷ []) ++ shown report i B.rest) (three-long (code BB3D) (number B.head 0) L (length-four (number h 1) (length h.left) (length (after x.edits)))) in
    let same : shown report 0 (K ∷ L ∷ W ∷ []) ≡ shown report 0 (K ∷ file_length (number_of 1 s) (length (drop 8 s)) (4 + length (walk_inside false (walk_chunk false walk_levels) file_scope 12 (drop 12 s)).bytes) ∷ keep (bytes (number_of 2 s) []) ∷ []) =
    ap₂ (λ (i : ℕ) (l : List ℕ). shown report 0 (K ∷ file_length i (length l) (length (after x.edits)) ∷ W ∷ [])) n₁ left₁
    ∙ ap₂ (λ (i j : ℕ). shown report 0 (K ∷ file_length (number_of 1 s) (length (drop 8 s)) i ∷ keep (bytes j []) ∷ [])) size v in
    ap₂ ◌++◌ (sym same) (sym (shows report)) ∙ sym parts
    ∙ ap (λ (l : List Edit). shown report 0 (K ∷ L ∷ l)) (sym B.is)
    ∙ ap (λ (y : Mended Scene). shown report 0 y.edits) (got_inj e₄)))))
  where
    low : (n : ℕ) → T (size_fits n) → 12 ≤ n
    low n t = let (p, q) = and_yes (leb 12 n) (leb n most_bytes) t in leb→le 12 n p

    file-shown : (l : List Edit) → after l ≡ shown false 12 l
    file-shown l = file_is l
