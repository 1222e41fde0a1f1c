-- The chunks of a file that was read are a TEXS, a BRUS and a NODE, or some of them, in this order: what holds of no chunk, and with each of these before
-- chunks of which it holds, holds of them.
use mathlib.Core.Path.{◌≡◌, refl, ap, sym, subst, ◌∙◌}
use Prim.Native.Nat.{ℕ, ◌≤◌}
use native.Mathlib.Omega.{arith}
use mathlib.Core.Bool.{true}
use mathlib.Core.List.{List, []}
use lib.ListN.{length, drop, get_or, length-drop}
use lib.Seq.{drop-drop}
use lib.Dec.{eqb}
use Rattle.wire.specs.Test.{if}
use Rattle.layout.specs.Chunks.{done, stop, chunk, ended}
use Rattle.layout.specs.Result.{accept}
use Rattle.layout.specs.Parts.{Step, words_of, row, number}
use Rattle.layout.specs.Rows.{size_fits}
use Rattle.layout.proofs.ChunkLaws.{ended-fine}
use Rattle.layout.proofs.ResultLaws.{by_got, by-check, bad_got, got_inj}
use Rattle.layout.proofs.StepLaws.{row-enough, judged_got}
use Rattle.b3d_spec.specs.declared.Mode.{Mode}
use Rattle.b3d_spec.specs.declared.Tag.TheVariants.{BB3D, TEXS, BRUS, NODE}
use Rattle.b3d_spec.specs.Nesting.{start, next, onward, order, inside, reached_at}
use Rattle.b3d_spec.specs.Parse.{read_one, read_textures, read_brushes, read_root, slots_of, read_body, parse}
use Rattle.b3d_spec.specs.Rules.{header, file_head}
use Rattle.b3d_spec.specs.Scene.{Texture, Brush, Forest, no_nodes, Scene}
use Rattle.b3d_spec.specs.Tags.{Chunks, Found, split, code}
use Rattle.b3d_spec.proofs.Files.FileLaws.{size_low}
use Rattle.b3d_spec.proofs.Files.EntryLaws.{◌▸◌, by-entry}
use Rattle.b3d_spec_chunk_places.proofs.HeadLaws.{head-is}

pub parse-low : (mode : Mode) (s : List ℕ) (t : Scene) → parse mode s ≡ accept t → 12 ≤ length s
unfolding parse
parse-low mode s t e = by-check (size_fits (length s)) 1 0 _ e (λ z _. size_low (length s) z)

-- no chunk comes after the nodes
last-read : (t u : Scene) (cs : Chunks) → ended (order BB3D 0 (reached_at 3 true) cs) t ≡ accept u → cs ≡ done
unfolding ended order onward next if
last-read t u done e = refl
last-read t u (stop i p) e = bad_got e
last-read t u (chunk k p b r) e =
    by-entry BB3D 0 (reached_at 3 true) p b r (λ v o. ended o t ≡ accept u → chunk v p b r ≡ done) (λ v e. bad_got e)
    (tt ▸ tt ▸ tt ▸ tt) k e

-- H cs ts slots bs f: the chunks cs have the textures ts, the brushes bs of so many slots, and the nodes f
pub record ByChunks (mode : Mode) (H : Chunks → List Texture → ℕ → List Brush → Forest → Type 0) : Type 0 where
  pub none : H done [] 0 [] no_nodes
  pub root : (brushes p : ℕ) (b : List ℕ) (f : Forest) → read_root mode brushes p b ≡ accept f → H (chunk NODE p b done) [] 0 [] f
  pub brus : (textures p : ℕ) (b : List ℕ) (r : Chunks) (f : Forest) (v : ℕ × List Brush) → read_brushes mode textures p b ≡ accept v → H r [] 0 [] f
      → H (chunk BRUS p b r) [] (slots_of v.0 v.1) v.1 f
  pub texs : (p : ℕ) (b : List ℕ) (r : Chunks) (slots : ℕ) (bs : List Brush) (f : Forest) (l : List Texture) → read_textures p b ≡ accept l → H r [] slots bs f
      → H (chunk TEXS p b r) l slots bs f

module _ (mode : Mode) (H : Chunks → List Texture → ℕ → List Brush → Forest → Type 0) (steps : ByChunks mode H) where
  module _ (t u : Scene) where
    -- ---- nodes

    root_read : (brushes : ℕ) (cs : Chunks) (x : Found Forest) → read_one NODE no_nodes (read_root mode brushes) (order BB3D 0 (reached_at 2 true) cs) ≡ accept x → ended x.rest t ≡ accept u
        → H cs [] 0 [] x.value
    unfolding read_one order onward next if
    root_read brushes done x e z = subst (λ (y : Found Forest). H done [] 0 [] y.value) (got_inj e) steps.none
    root_read brushes (stop i p) x e z = bad_got e
    root_read brushes (chunk k p b r) x e z =
        by-entry BB3D 0 (reached_at 2 true) p b r (λ v o. read_one NODE no_nodes (read_root mode brushes) o ≡ accept x → H (chunk v p b r) [] 0 [] x.value) (λ v e. bad_got e)
        (tt ▸ tt
        ▸ (λ e. by_got (read_root mode brushes p b) _ e (λ f ef e₁.
        let last = last-read t u r (ap (λ (y : Found Forest). ended y.rest t) (got_inj e₁) ∙ z) in
        subst (λ (y : Found Forest). H (chunk NODE p b r) [] 0 [] y.value) (got_inj e₁)
        (subst (λ (y : Chunks). H (chunk NODE p b y) [] 0 [] f) (sym last) (steps.root brushes p b f ef)))) ▸ tt) k e

    -- ---- brushes, then nodes

    abbrev FromBrus : Chunks → Found (ℕ × List Brush) → Found Forest → Type 0
    FromBrus cs v x = H cs [] (slots_of v.value.0 v.value.1) v.value.1 x.value

    abbrev ReadsRoot : Found (ℕ × List Brush) → Found Forest → Type 0
    ReadsRoot v x = read_one NODE no_nodes (read_root mode (length v.value.1)) v.rest ≡ accept x

    no_brus : (cs rest : Chunks) (v : Found (ℕ × List Brush)) → accept (record { value = (0, []); rest = rest }) ≡ accept v → order BB3D 0 (reached_at 2 true) cs ≡ rest
        → (x : Found Forest) → ReadsRoot v x → ended x.rest t ≡ accept u → FromBrus cs v x
    unfolding slots_of
    no_brus cs rest v e same x ex z =
        let g = got_inj e in
        subst (λ (y : Found (ℕ × List Brush)). FromBrus cs y x) g
        (root_read 0 cs x (ap (read_one NODE no_nodes (read_root mode 0)) same ∙ ap (λ (y : Found (ℕ × List Brush)). read_one NODE no_nodes (read_root mode (length y.value.1)) y.rest) g ∙ ex) z)

    brus_read : (textures : ℕ) (cs : Chunks) (v : Found (ℕ × List Brush)) → read_one BRUS (0, []) (read_brushes mode textures) (order BB3D 0 (reached_at 1 true) cs) ≡ accept v
        → (x : Found Forest) → ReadsRoot v x → ended x.rest t ≡ accept u → FromBrus cs v x
    unfolding read_one order onward next if
    brus_read textures done v e x ex z = no_brus done done v e refl x ex z
    brus_read textures (stop i p) v e x ex z = bad_got e
    brus_read textures (chunk k p b r) v e x ex z =
        by-entry BB3D 0 (reached_at 1 true) p b r (λ w o. read_one BRUS (0, []) (read_brushes mode textures) o ≡ accept v → FromBrus (chunk w p b r) v x) (λ w e. bad_got e)
        (tt
        ▸ (λ e. by_got (read_brushes mode textures p b) _ e (λ w ew e₁.
        let g = got_inj e₁ in
        subst (λ (y : Found (ℕ × List Brush)). FromBrus (chunk BRUS p b r) y x) g
        (steps.brus textures p b r x.value w ew
        (root_read (length w.1) r x (ap (λ (y : Found (ℕ × List Brush)). read_one NODE no_nodes (read_root mode (length y.value.1)) y.rest) g ∙ ex) z))))
        ▸ (λ e. no_brus (chunk NODE p b r) _ v e refl x ex z) ▸ tt) k e

    -- ---- textures, then the others

    abbrev FromTexs : Chunks → Found (List Texture) → Found (ℕ × List Brush) → Found Forest → Type 0
    FromTexs cs w v x = H cs w.value (slots_of v.value.0 v.value.1) v.value.1 x.value

    abbrev ReadsBrus : Found (List Texture) → Found (ℕ × List Brush) → Type 0
    ReadsBrus w v = read_one BRUS (0, []) (read_brushes mode (length w.value)) w.rest ≡ accept v

    no_texs : (cs rest : Chunks) (w : Found (List Texture)) → accept (record { value = []; rest = rest }) ≡ accept w → order BB3D 0 (reached_at 1 true) cs ≡ rest
        → (v : Found (ℕ × List Brush)) → ReadsBrus w v → (x : Found Forest) → ReadsRoot v x → ended x.rest t ≡ accept u → FromTexs cs w v x
    no_texs cs rest w e same v ev x ex z =
        let g = got_inj e in
        subst (λ (y : Found (List Texture)). FromTexs cs y v x) g
        (brus_read 0 cs v (ap (read_one BRUS (0, []) (read_brushes mode 0)) same ∙ ap (λ (y : Found (List Texture)). read_one BRUS (0, []) (read_brushes mode (length y.value)) y.rest) g ∙ ev) x ex z)

    texs_read : (cs : Chunks) (w : Found (List Texture)) → read_one TEXS [] read_textures (order BB3D 0 start cs) ≡ accept w
        → (v : Found (ℕ × List Brush)) → ReadsBrus w v → (x : Found Forest) → ReadsRoot v x → ended x.rest t ≡ accept u → FromTexs cs w v x
    unfolding read_one order onward next if
    texs_read done w e v ev x ex z = no_texs done done w e refl v ev x ex z
    texs_read (stop i p) w e v ev x ex z = bad_got e
    texs_read (chunk k p b r) w e v ev x ex z =
        by-entry BB3D 0 start p b r (λ y o. read_one TEXS [] read_textures o ≡ accept w → FromTexs (chunk y p b r) w v x) (λ y e. bad_got e)
        ((λ e. by_got (read_textures p b) _ e (λ l el e₁.
        let g = got_inj e₁ in
        subst (λ (y : Found (List Texture)). FromTexs (chunk TEXS p b r) y v x) g
        (steps.texs p b r _ _ x.value l el
        (brus_read (length l) r v (ap (λ (y : Found (List Texture)). read_one BRUS (0, []) (read_brushes mode (length y.value)) y.rest) g ∙ ev) x ex z))))
        ▸ (λ e. no_texs (chunk BRUS p b r) _ w e refl v ev x ex z)
        ▸ (λ e. no_texs (chunk NODE p b r) _ w e refl v ev x ex z) ▸ tt) k e

  -- ---- the body of BB3D, and the file

  -- t was read from a body whose version and chunks these are
  pub record FileHas (version : ℕ) (cs : Chunks) (t : Scene) : Type 0 where
    pub first : t.version ≡ version
    pub chunks : H cs t.textures t.slots t.brushes t.nodes

  pub body-read : (p : ℕ) (b : List ℕ) (t : Scene) → read_body mode p b ≡ accept t → (h : Step (List ℕ)) → row file_head p b ≡ accept h → FileHas (number h 0) (split h.place h.left) t
  unfolding read_body inside
  body-read p b t e g eg =
      by_got (row file_head p b) _ e (λ h eh e₁.
      by_got (read_one TEXS [] read_textures (inside BB3D 0 h.place h.left)) _ e₁ (λ w ew e₂.
      by_got (read_one BRUS (0, []) (read_brushes mode (length w.value)) w.rest) _ e₂ (λ v ev e₃.
      by_got (read_one NODE no_nodes (read_root mode (length v.value.1)) v.rest) _ e₃ (λ x ex e₄.
      let scene : Scene = record { version = number h 0; textures = w.value; slots = slots_of v.value.0 v.value.1; brushes = v.value.1; nodes = x.value } in
      let has : FileHas (number h 0) (split h.place h.left) scene = record { first = refl; chunks = texs_read scene t (split h.place h.left) w ew v ev x ex e₄ } in
      subst (λ (y : Step (List ℕ)). FileHas (number y 0) (split y.place y.left) t) (got_inj (sym eh ∙ eg))
      (subst (FileHas (number h 0) (split h.place h.left)) (ended-fine x.rest scene t e₄) has)))))

  -- the version and the chunks of a file
  head_read : (s : List ℕ) → 12 ≤ length s → (t : Scene) → read_body mode 8 (drop 8 s) ≡ accept t → FileHas (get_or (words_of 1 (drop 8 s)) 0 0) (split 12 (drop 12 s)) t
  unfolding read_body
  head_read s lo t e =
      by_got (row file_head 8 (drop 8 s)) _ e (λ h eh _.
      let n : 4 ≤ length (drop 8 s) = simp length-drop (omega arith) in
      let same = judged_got file_head 8 (words_of 1 (drop 8 s)) (record { value = words_of 1 (drop 8 s); place = 12; left = drop 4 (drop 8 s) }) h (sym (row-enough file_head 8 (drop 8 s) n) ∙ eh) in
      let has = subst (λ (y : Step (List ℕ)). FileHas (number y 0) (split y.place y.left) t) (sym same) (body-read 8 (drop 8 s) t e h eh) in
      subst (λ (l : List ℕ). FileHas (get_or (words_of 1 (drop 8 s)) 0 0) (split 12 l) t) (drop-drop 4 8 s) has)

  pub file-read : (s : List ℕ) (t : Scene) → parse mode s ≡ accept t → FileHas (get_or (words_of 1 (drop 8 s)) 0 0) (split 12 (drop 12 s)) t
  unfolding parse
  file-read s t e =
      by-check (size_fits (length s)) 1 0 _ e (λ z e₁.
      let lo = size_low (length s) z in
      by_got (row header 0 s) _ e₁ (λ x ex e₂.
      let q = got_inj (sym ex ∙ head-is s (omega arith)) in
      by-check (eqb (get_or x.value 0 0) (code BB3D)) 2 0 _ e₂ (λ _ e₃.
      by-check (eqb (get_or x.value 1 0) (length x.left)) 2 4 _ e₃ (λ _ e₄.
      head_read s lo t (subst (λ (y : Step (List ℕ)). read_body mode y.place y.left ≡ accept t) q e₄)))))
