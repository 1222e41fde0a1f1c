-- Back and fine for the file: what `encode` writes of a scene that fits, `parse` reads, name places aside; what `parse` reads
-- fits, and `encode` writes it in no more bytes.
use mathlib.Core.Path.{◌≡◌, refl, ap, sym, ◌∙◌, subst}
use Prim.Native.Nat.{ℕ, ◌+◌, ◌-◌, ◌<◌, ◌≤◌}
use native.Mathlib.Omega.{arith}
use mathlib.Core.Bool.{Bool, true, false, not, ◌&&◌}
use mathlib.Core.Option.{none}
use mathlib.Core.List.{List, [], ◌∷◌, map}
use lib.ListN.{length, get_or, length-map}
use lib.Dec.{T, eqb, leb, eqb_refl, leb→le, le→leb}
use Rattle.wire.specs.Bytes.{AllBytes}
use Rattle.wire.specs.Test.{if}
use Rattle.layout.specs.Chunks.{done, stop, chunk, ended}
use Rattle.layout.specs.Result.{Result, accept}
use Rattle.layout.specs.Parts.{row}
use Rattle.layout.specs.Write.{write_words, write_items, write_chunks as write_chunks_of}
use Rattle.layout.proofs.ChunkLaws.{length-chunk, lay, Of, ended-fine}
use Rattle.layout.proofs.WellFormedLaws.{Fits}
use Rattle.layout.proofs.AllLaws.{All}
use Rattle.layout.proofs.ResultLaws.{check-yes, by-check, if_no, by-if, by_got, bad_got, got_inj}
use Rattle.layout.proofs.PartLaws.{length-words, length-fits, row_back, row_fine}
use Rattle.layout.specs.Rows.{size_fits}
use Rattle.b3d_spec.specs.declared.Mode.TheVariants.{Lenient}
use Rattle.b3d_spec.specs.Encode.{write_texture, write_brush, write_node, node_chunks, texture_chunks, brush_chunks, write_scene, encode}
use Rattle.b3d_spec.specs.Names.{rename_texture, rename_brush, rename_forest, rename, bare_name, without_places}
use Rattle.b3d_spec.specs.Nesting.{inside}
use Rattle.b3d_spec.specs.Parse.{read_textures, read_brushes, Inner, read_node, read_root, read_one, slots_of, read_body, parse}
use Rattle.b3d_spec.specs.Rules.{version, bone_limit_below, levels, header, file_head}
use Rattle.b3d_spec.specs.Scene.{Texture, Brush, Data, Forest, no_nodes, node, Scene}
use Rattle.b3d_spec.specs.declared.Tag.{Tag}
use Rattle.b3d_spec.specs.declared.Tag.TheVariants.{BB3D, TEXS, BRUS, NODE}
use Rattle.b3d_spec.specs.Tags.{code, is, Chunks, Found, Chunk, write_chunks}
use Rattle.b3d_spec.proofs.WellFormedLaws.{FitTexture, FitBrush, FitNodes, OneRoot, FitSlots, WellFormed}
use Rattle.b3d_spec.proofs.Files.LeafLaws.{head-one, textures-back, textures-fine, brushes-back, BrushesOK, brushes-fine}
use Rattle.b3d_spec.proofs.Files.NestingLaws.{file-keeps, inside_back, inside-fine}
use Rattle.b3d_spec.proofs.Files.NodeLaws.{node-back, nodes-back, BackNode, NodeOK, node-fine, FineS, below-short}
use Rattle.b3d_spec.proofs.Files.TagCodeLaws.{code-word}
use mir.Facts.{and_yes}

-- ---- back

-- no chunks, or a first one of another kind
abbrev Not : Tag → List Chunk → Type 0
Not k [] = Unit {0}
Not k (c ∷ l) = T (not (is c.tag k))

one_none : {A : Type 0} (k : Tag) (a : A) (one : ℕ → List ℕ → Result A) (l : List Chunk) (p : ℕ) → Not k l
    → read_one k a one (lay p l) ≡ accept (record { value = a; rest = lay p l })
unfolding read_one
one_none k a one [] p h = refl
one_none k a one (c ∷ l) p h = if_no (is c.tag k) _ _ h

abbrev TexturesBack : List Texture → List Chunk → ℕ → Type 0
TexturesBack l r p =
    (m : List Texture) × (q : ℕ) × (read_one TEXS [] read_textures (lay p (texture_chunks l r)) ≡ accept (record { value = m; rest = lay q r }))
    × (map (rename_texture bare_name) m ≡ map (rename_texture bare_name) l)

one-textures : (l : List Texture) → All FitTexture l → (r : List Chunk) → Not TEXS r → (p : ℕ) → TexturesBack l r p
unfolding read_one if
one-textures [] h r n p = ([], p, one_none TEXS [] read_textures r p n, refl)
one-textures (t ∷ l) h r n p =
    let x = textures-back (t ∷ l) h p in
    (x.0, p + 8 + length (write_items write_texture (t ∷ l)), rw x.1, x.2)

slots-some : (n : ℕ) (m : List Brush) → 0 < length m → slots_of n m ≡ n
unfolding slots_of
slots-some n [] h = absurd (omega arith)
slots-some n (b ∷ m) h = refl

slots-none : (n : ℕ) → slots_of n [] ≡ 0
unfolding slots_of
slots-none n = refl

same_length : {A : Type 0} (f : A → A) (l m : List A) → map f l ≡ map f m → length l ≡ length m
same_length {A} f l m e = sym (length-map l f) ∙ ap (λ (v : List A). length v) e ∙ length-map m f

abbrev BrushesBack : ℕ → ℕ → List Brush → List Chunk → ℕ → Type 0
BrushesBack n textures l r p =
    (x : ℕ × List Brush) × (q : ℕ) × (read_one BRUS (0, []) (read_brushes Lenient textures) (lay p (brush_chunks n l r)) ≡ accept (record { value = x; rest = lay q r }))
    × (slots_of x.0 x.1 ≡ n) × (map (rename_brush bare_name) x.1 ≡ map (rename_brush bare_name) l)

one-brushes : (n textures : ℕ) (l : List Brush) → FitSlots n l → All (FitBrush n textures) l → (r : List Chunk) → Not BRUS r → (p : ℕ) → BrushesBack n textures l r p
unfolding read_one if
one-brushes n textures [] hn h r k p = ((0, []), p, one_none BRUS (0, []) (read_brushes Lenient textures) r p k, slots-none 0 ∙ sym hn, refl)
one-brushes n textures (b ∷ l) hn h r k p =
    let x = brushes-back n textures (b ∷ l) hn h p in
    let s = same_length (rename_brush bare_name) x.0 (b ∷ l) x.2 in
    ((n, x.0), p + 8 + length (write_words (n ∷ []) (write_items write_brush (b ∷ l))), rw x.1, slots-some n x.0 (omega arith), x.2)

abbrev RootBack : ℕ → Forest → ℕ → Type 0
RootBack brushes f p =
    (g : Forest) × (read_one NODE no_nodes (read_root Lenient brushes) (lay p (node_chunks f)) ≡ accept (record { value = g; rest = done })) × (rename_forest bare_name g ≡ rename_forest bare_name f)

root-of : (brushes : ℕ) (d : Data) (f : Forest) (p : ℕ) → BackNode (read_node Lenient levels brushes none p (write_node d (node_chunks f))) d f → RootBack brushes (node d f no_nodes) p
unfolding read_one read_root if node_chunks
root-of brushes d f p x =
    (node x.inner.self x.inner.below no_nodes, rw x.is_got, cc (x.self, x.below))

one-root : (brushes : ℕ) (f : Forest) → FitNodes levels brushes none f → OneRoot f → length (write_chunks (node_chunks f)) < 4294967296 → (p : ℕ) → RootBack brushes f p
unfolding read_one node_chunks write_chunks_of
one-root brushes no_nodes h o n p = (no_nodes, refl, refl)
one-root brushes (node d f no_nodes) h o n p =
    let lc = length-chunk code NODE (write_node d (node_chunks f)) (write_chunks (node_chunks no_nodes)) in
    let lb = below-short d (node_chunks f) in
    root-of brushes d f p (node-back 15 brushes none d f h.0 (omega arith) (nodes-back 15 brushes (bone_limit_below none d) f h.1 (omega arith)) p)
one-root brushes (node d f (node e g i)) h o n p = absurd o

not_texs : (n : ℕ) (l : List Brush) (f : Forest) → Not TEXS (brush_chunks n l (node_chunks f))
unfolding node_chunks
not_texs n (b ∷ l) f = tt
not_texs n [] no_nodes = tt
not_texs n [] (node d f g) = tt

not_brus : (f : Forest) → Not BRUS (node_chunks f)
unfolding node_chunks
not_brus no_nodes = tt
not_brus (node d f g) = tt

nodes-short : (n : ℕ) (ts : List Texture) (bs : List Brush) (l : List Chunk) → length (write_chunks l) ≤ length (write_chunks (texture_chunks ts (brush_chunks n bs l)))
unfolding write_chunks_of
nodes-short n [] [] l = omega arith
nodes-short n (t ∷ ts) [] l = omega (arith, length-chunk code TEXS (write_items write_texture (t ∷ ts)) (write_chunks l))
nodes-short n [] (b ∷ bs) l = omega (arith, length-chunk code BRUS (write_words (n ∷ []) (write_items write_brush (b ∷ bs))) (write_chunks l))
nodes-short n (t ∷ ts) (b ∷ bs) l =
    omega (arith, length-chunk code TEXS (write_items write_texture (t ∷ ts)) (write_chunks (brush_chunks n (b ∷ bs) l)), length-chunk code BRUS (write_words (n ∷ []) (write_items write_brush (b ∷ bs))) (write_chunks l))

abbrev SceneBack : Result Scene → Scene → Type 0
SceneBack o t = (u : Scene) × (o ≡ accept u) × (without_places u ≡ without_places t)

body_back : (t : Scene) → WellFormed t → length (write_scene t) < 4294967296 → (p : ℕ) → SceneBack (read_body Lenient p (write_scene t)) t
unfolding read_body write_scene ended without_places rename
body_back t h n p =
    let ns = node_chunks t.nodes in
    let bs = brush_chunks t.slots t.brushes ns in
    let cs = texture_chunks t.textures bs in
    let le = nodes-short t.slots t.textures t.brushes ns in
    let lw = length-words (t.version ∷ []) (write_chunks cs) in
    let v = row_back file_head (t.version ∷ []) h.version p (write_chunks cs) in
    let x = one-textures t.textures h.textures bs (not_texs t.slots t.brushes t.nodes) v.0 in
    let lx : length t.textures ≡ length x.0 = sym (same_length (rename_texture bare_name) x.0 t.textures x.3) in
    let y = one-brushes t.slots (length x.0) t.brushes h.slots (subst (λ (k : ℕ). All (FitBrush t.slots k) t.brushes) lx h.brushes) ns (not_brus t.nodes) x.1 in
    let ly : length t.brushes ≡ length y.0.1 = sym (same_length (rename_brush bare_name) y.0.1 t.brushes y.4) in
    let z = one-root (length y.0.1) t.nodes (subst (λ (k : ℕ). FitNodes levels k none t.nodes) ly h.nodes) h.root (omega arith) y.1 in (
      record { version = t.version; textures = x.0; slots = slots_of y.0.0 y.0.1; brushes = y.0.1; nodes = z.0 },
      rw (v.1, inside_back BB3D 0 v.0 cs (file-keeps t.textures t.slots t.brushes t.nodes h.root) (omega arith), x.2, y.2, z.1),
      cc (x.3, y.3, y.4, z.2),
    )

and_both : (a b : Bool) → T a → T b → T (a && b)
and_both true b s t = t
and_both false b s t = absurd s

and_left : (a b : Bool) → T (a && b) → T a
and_left true b t = tt
and_left false b t = absurd t

pub size-yes : (n : ℕ) → 12 ≤ n → n ≤ 16777216 → T (size_fits n)
size-yes n a b = and_both (leb 12 n) (leb n 16777216) (le→leb 12 n a) (le→leb n 16777216 b)

pub size_low : (n : ℕ) → T (size_fits n) → 12 ≤ n
size_low n t = leb→le 12 n (and_left (leb 12 n) (leb n 16777216) t)

pub size_bound : (n : ℕ) → T (size_fits n) → n ≤ 16777216
size_bound n t = leb→le n 16777216 (and_yes (leb 12 n) (leb n 16777216) t).1

pub length-encode : (t : Scene) → length (encode t) ≡ 8 + length (write_scene t)
unfolding encode
length-encode t = omega arith

scene-long : (t : Scene) → 4 ≤ length (write_scene t)
unfolding write_scene
scene-long t = omega arith

pub parse-back : (t : Scene) → WellFormed t → length (encode t) ≤ 16777216 → (u : Scene) × (parse Lenient (encode t) ≡ accept u) × (without_places u ≡ without_places t)
unfolding parse encode
parse-back t h n =
    let b = write_scene t in
    let lo = scene-long t in
    let x = row_back header (code BB3D ∷ length b ∷ []) (code-word BB3D, tt, (omega arith, tt, tt)) 0 b in
    let y = body_back t h (omega arith) x.0 in (
      y.0,
      rw (
        check-yes (size_fits (length (encode t))) 1 0 (size-yes (length (encode t)) (omega arith) n),
        x.1,
        check-yes (eqb (code BB3D) (code BB3D)) 2 0 tt,
        check-yes (eqb (length b) (length b)) 2 4 (eqb_refl (length b)),
      ) y.1,
      y.2,
    )

-- ---- fine

module _ {A : Type 0} (Ok : A → Type 0) (put : A → List Chunk → List Chunk) (a : A) (ok-none : Ok a) (put-none : (l : List Chunk) → put a l ≡ l) where
  one-fine : (k : Tag) (one : ℕ → List ℕ → Result A)
      → ((p : ℕ) (b : List ℕ) (x : A) → AllBytes b → one p b ≡ accept x → Ok x × ((l : List Chunk) → length (write_chunks (put x l)) ≤ 8 + length b + length (write_chunks l)))
      → (n : ℕ) (cs : Chunks) (x : Found A) → Of n cs → read_one k a one cs ≡ accept x → FineS Ok put n x
  unfolding read_one
  one-fine k one go n done x h e = subst (FineS Ok put n) (got_inj e) (record { ok = ok-none; size = n; of = tt; short = λ l. rw (put-none l) (omega arith) })
  one-fine k one go n (stop i p) x h e = bad_got e
  one-fine k one go n (chunk t p b r) x h e =
      by-if (is t k) _ _ e
      (λ u e₁. by_got (one p b) _ e₁ (λ y ey e₂. let f = go p b y h.0 ey in
      subst (FineS Ok put n) (got_inj e₂) (record { ok = f.0; size = n - (8 + length b); of = h.2; short = λ l. omega (arith, h.1, f.1 l) })))
      (λ u e₁. subst (FineS Ok put n) (got_inj e₁) (record { ok = ok-none; size = n; of = h; short = λ l. rw (put-none l) (omega arith) }))

texture-chunks : (l : List Texture) (r : List Chunk) → length (write_chunks (texture_chunks l r)) ≤ 8 + length (write_items write_texture l) + length (write_chunks r)
unfolding write_chunks_of
texture-chunks [] r = omega arith
texture-chunks (t ∷ l) r = omega (arith, length-chunk code TEXS (write_items write_texture (t ∷ l)) (write_chunks r))

textures-found : (n : ℕ) (cs : Chunks) (x : Found (List Texture)) → Of n cs → read_one TEXS [] read_textures cs ≡ accept x → FineS (All FitTexture) texture_chunks n x
textures-found =
    one-fine (All FitTexture) texture_chunks [] tt (λ l. refl) TEXS read_textures
    (λ p b x h e. let f = textures-fine p b x h e in (f.0, λ l. omega (arith, f.1, texture-chunks x l)))

-- the slots of brushes that were read
abbrev Slots : ℕ × List Brush → ℕ
Slots x = slots_of x.0 x.1

abbrev FitBrushes : ℕ → ℕ × List Brush → Type 0
FitBrushes textures x = FitSlots (Slots x) x.1 × All (FitBrush (Slots x) textures) x.1

abbrev put_brushes : ℕ × List Brush → List Chunk → List Chunk
put_brushes x l = brush_chunks (Slots x) x.1 l

brushes_ok : (textures m n : ℕ) (l : List Brush) → BrushesOK textures m (n, l)
    → FitBrushes textures (n, l) × ((r : List Chunk) → length (write_chunks (put_brushes (n, l) r)) ≤ 8 + m + length (write_chunks r))
unfolding slots_of write_chunks_of
brushes_ok textures m n [] h = ((refl, tt), λ r. omega arith)
brushes_ok textures m n (b ∷ l) h = ((h.0, h.1), λ r. omega (arith, h.2, length-chunk code BRUS (write_words (n ∷ []) (write_items write_brush (b ∷ l))) (write_chunks r)))

brushes-found : (textures n : ℕ) (cs : Chunks) (x : Found (ℕ × List Brush)) → Of n cs → read_one BRUS (0, []) (read_brushes Lenient textures) cs ≡ accept x
    → FineS (FitBrushes textures) put_brushes n x
brushes-found textures =
    one-fine (FitBrushes textures) put_brushes (0, []) (slots-none 0, tt) (λ l. refl) BRUS (read_brushes Lenient textures)
    (λ p b x h e. brushes_ok textures (length b) x.0 x.1 (brushes-fine textures p b x h e))

abbrev FitRoot : ℕ → Forest → Type 0
FitRoot brushes f = FitNodes levels brushes none f × OneRoot f

-- the first node's chunk, before what follows
abbrev put_root : Forest → List Chunk → List Chunk
put_root no_nodes l = l
put_root (node d f g) l = record { tag = NODE; body = write_node d (node_chunks f) } ∷ l

root-chunks : (f : Forest) → OneRoot f → put_root f [] ≡ node_chunks f
unfolding node_chunks
root-chunks no_nodes o = refl
root-chunks (node d f no_nodes) o = refl
root-chunks (node d f (node e g h)) o = absurd o

root_ok : (brushes m : ℕ) (x : Inner) → NodeOK levels brushes none m x
    → FitRoot brushes (node x.self x.below no_nodes) × ((l : List Chunk) → length (write_chunks (put_root (node x.self x.below no_nodes) l)) ≤ 8 + m + length (write_chunks l))
unfolding write_chunks_of
root_ok brushes m x h =
    (((h.0, h.1, tt), tt), λ l. omega (arith, h.2, length-chunk code NODE (write_node x.self (node_chunks x.below)) (write_chunks l)))

root-found : (brushes n : ℕ) (cs : Chunks) (x : Found Forest) → Of n cs → read_one NODE no_nodes (read_root Lenient brushes) cs ≡ accept x → FineS (FitRoot brushes) put_root n x
unfolding read_root
root-found brushes =
    one-fine (FitRoot brushes) put_root no_nodes (tt, tt) (λ l. refl) NODE (read_root Lenient brushes)
    (λ p b f h e. by_got (read_node Lenient levels brushes none p b) _ e (λ x ex e₁.
    subst (λ (g : Forest). FitRoot brushes g × ((l : List Chunk) → length (write_chunks (put_root g l)) ≤ 8 + length b + length (write_chunks l))) (got_inj e₁)
    (root_ok brushes (length b) x (node-fine levels brushes none p b x h ex))))

abbrev SceneOK : ℕ → Scene → Type 0
SceneOK n t = WellFormed t × (length (write_scene t) ≤ n)

body-fine : (p : ℕ) (s : List ℕ) (t : Scene) → AllBytes s → read_body Lenient p s ≡ accept t → SceneOK (length s) t
unfolding read_body write_scene write_chunks_of
body-fine p s t h e =
    by_got (row file_head p s) _ e (λ v ev e₁. let f = row_fine file_head p s v h ev in
    let one = head-one version v.value f.ok in
    let cs = inside BB3D 0 v.place v.left in
    by_got (read_one TEXS [] read_textures cs) _ e₁ (λ x ex e₂. let g = textures-found (length v.left) cs x (inside-fine BB3D 0 v.place v.left f.bytes) ex in
    by_got (read_one BRUS (0, []) (read_brushes Lenient (length x.value)) x.rest) _ e₂ (λ y ey e₃. let i = brushes-found (length x.value) g.size x.rest y g.of ey in
    by_got (read_one NODE no_nodes (read_root Lenient (length y.value.1)) y.rest) _ e₃ (λ z ez e₄. let j = root-found (length y.value.1) i.size y.rest z i.of ez in
    let ns = node_chunks z.value in
    let bs = brush_chunks (Slots y.value) y.value.1 ns in
    let k₀ = f.short (write_chunks (texture_chunks x.value bs)) in
    let k₁ = length-words v.value (write_chunks (texture_chunks x.value bs)) in
    let k₂ = ap (λ (w : List ℕ). length w) one in
    let k₃ = g.short bs in
    let k₄ = i.short ns in
    let k₅ = subst (λ (l : List Chunk). length (write_chunks l) + j.size ≤ i.size + 0) (root-chunks z.value j.ok.1) (j.short []) in
    subst (SceneOK (length s)) (ended-fine z.rest _ t e₄)
    (record { version = subst (Fits file_head) one f.ok; textures = g.ok; slots = i.ok.0; brushes = i.ok.1; nodes = j.ok.0; root = j.ok.1 }, omega arith)))))

pub parse-fine : (s : List ℕ) (t : Scene) → AllBytes s → parse Lenient s ≡ accept t → WellFormed t × (length (encode t) ≤ length s)
unfolding parse
parse-fine s t h e =
    by-check (size_fits (length s)) 1 0 _ e (λ z e₁. let lo = size_low (length s) z in
    by_got (row header 0 s) _ e₁ (λ x ex e₂. let f = row_fine header 0 s x h ex in
    by-check (eqb (get_or x.value 0 0) (code BB3D)) 2 0 _ e₂ (λ u e₃.
    by-check (eqb (get_or x.value 1 0) (length x.left)) 2 4 _ e₃ (λ v e₄. let g = body-fine x.place x.left t f.bytes e₄ in
    let n = length-fits header x.value f.ok in
    (g.0, omega (arith, g.1, f.short [], length-words x.value [], length-encode t))))))

pub parse-size : (s : List ℕ) (t : Scene) → parse Lenient s ≡ accept t → length s ≤ 16777216
unfolding parse
parse-size s t e = by-check (size_fits (length s)) 1 0 _ e (λ u e₁. size_bound (length s) u)
