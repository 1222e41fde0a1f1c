-- Names: `encode` does not look at their places; a scene without names fits, and its file is no longer. So the copy is read again.
use mathlib.Core.Path.{◌≡◌, refl, ap, ap₂, sym, ◌∙◌, subst}
use Prim.Native.Nat.{ℕ, zero, suc, ◌≤◌}
use native.Mathlib.Omega.{arith}
use mathlib.Core.Option.{Option, none, some}
use mathlib.Core.List.{List, [], ◌∷◌, map}
use lib.ListN.{length, length-map}
use Rattle.wire.specs.Bytes.{AllBytes}
use Rattle.layout.specs.Result.{accept}
use Rattle.layout.specs.Parts.{Name}
use Rattle.layout.specs.Write.{write_words, write_items, write_chunks as write_chunks_of}
use Rattle.layout.proofs.ChunkLaws.{length-chunk}
use Rattle.layout.proofs.AllLaws.{All}
use Rattle.layout.proofs.ResultLaws.{got_inj}
use Rattle.layout.proofs.PartLaws.{length-words, length-text}
use Rattle.b3d_spec.specs.declared.Mode.TheVariants.{Lenient}
use Rattle.b3d_spec.specs.Encode.{write_texture, write_brush, write_mesh, write_keys, kind_chunks, key_chunks, anim_chunks, write_node, node_chunks, texture_chunks, brush_chunks, write_scene, encode}
use Rattle.b3d_spec.specs.Names.{rename_texture, rename_brush, rename_data, rename_forest, rename, bare_name, no_name, without_places, cleared}
use Rattle.b3d_spec.specs.Parse.{parse}
use Rattle.b3d_spec.specs.Rules.{bone_limit, bone_limit_below, levels}
use Rattle.b3d_spec.specs.Scene.{Texture, Brush, Kind, pivot, mesh, bone, Keys, Anim, no_anim, anim, Data, Forest, no_nodes, node, Scene}
use Rattle.b3d_spec.specs.declared.Tag.TheVariants.{TEXS, BRUS, NODE, MESH, BONE, KEYS, ANIM}
use Rattle.b3d_spec.specs.Tags.{Chunk, write_chunks, code}
use Rattle.b3d_spec.proofs.Files.FileLaws.{parse-back, parse-fine, parse-size}
use Rattle.b3d_spec.proofs.WellFormedLaws.{FitTexture, FitBrush, FitData, FitNodes, OneRoot, FitSlots, WellFormed}

-- ---- one change of names after another

module _ (f g : Name → Name) where
  twice_textures : (l : List Texture) → map (rename_texture f) (map (rename_texture g) l) ≡ map (rename_texture (λ n. f (g n))) l
  twice_textures [] = refl
  twice_textures (t ∷ l) = ap (λ (m : List Texture). rename_texture (λ n. f (g n)) t ∷ m) (twice_textures l)

  twice_brushes : (l : List Brush) → map (rename_brush f) (map (rename_brush g) l) ≡ map (rename_brush (λ n. f (g n))) l
  twice_brushes [] = refl
  twice_brushes (b ∷ l) = ap (λ (m : List Brush). rename_brush (λ n. f (g n)) b ∷ m) (twice_brushes l)

  twice_forest : (t : Forest) → rename_forest f (rename_forest g t) ≡ rename_forest (λ n. f (g n)) t
  twice_forest no_nodes = refl
  twice_forest (node d t u) = ap₂ (node (rename_data (λ n. f (g n)) d)) (twice_forest t) (twice_forest u)

  pub rename_twice : (t : Scene) → rename f (rename g t) ≡ rename (λ n. f (g n)) t
  unfolding rename
  rename_twice t = rw (twice_textures t.textures, twice_brushes t.brushes, twice_forest t.nodes)

pub bare_cleared : (t : Scene) → without_places (cleared t) ≡ cleared t
unfolding without_places cleared
bare_cleared t = rename_twice bare_name no_name t

pub cleared_bare : (t : Scene) → cleared (without_places t) ≡ cleared t
unfolding without_places cleared
cleared_bare t = rename_twice no_name bare_name t

pub cleared_twice : (t : Scene) → cleared (cleared t) ≡ cleared t
unfolding cleared
cleared_twice t = rename_twice no_name no_name t

-- ---- places are not written

bare-textures : (l : List Texture) → write_items write_texture (map (rename_texture bare_name) l) ≡ write_items write_texture l
bare-textures [] = refl
bare-textures (t ∷ l) = ap (write_texture t) (bare-textures l)

bare-brushes : (l : List Brush) → write_items write_brush (map (rename_brush bare_name) l) ≡ write_items write_brush l
bare-brushes [] = refl
bare-brushes (b ∷ l) = ap (write_brush b) (bare-brushes l)

bare_nodes : (f : Forest) → node_chunks (rename_forest bare_name f) ≡ node_chunks f
unfolding node_chunks write_node
bare_nodes no_nodes = refl
bare_nodes (node d f g) = rw (bare_nodes f, bare_nodes g)

bare_texture_chunks : (l : List Texture) (r : List Chunk) → texture_chunks (map (rename_texture bare_name) l) r ≡ texture_chunks l r
bare_texture_chunks [] r = refl
bare_texture_chunks (t ∷ l) r = ap (λ (b : List ℕ). record { tag = TEXS; body = b } ∷ r) (bare-textures (t ∷ l))

bare_brush-chunks : (n : ℕ) (l : List Brush) (r : List Chunk) → brush_chunks n (map (rename_brush bare_name) l) r ≡ brush_chunks n l r
bare_brush-chunks n [] r = refl
bare_brush-chunks n (t ∷ l) r = ap (λ (b : List ℕ). record { tag = BRUS; body = write_words (n ∷ []) b } ∷ r) (bare-brushes (t ∷ l))

pub encode_bare : (t : Scene) → encode (without_places t) ≡ encode t
unfolding encode write_scene without_places rename
encode_bare t =
    rw (bare_nodes t.nodes, bare_brush-chunks t.slots t.brushes (node_chunks t.nodes), bare_texture_chunks t.textures (brush_chunks t.slots t.brushes (node_chunks t.nodes)))

-- ---- a scene without names fits

clear-textures : (l : List Texture) → All FitTexture l → All FitTexture (map (rename_texture no_name) l)
clear-textures [] h = tt
clear-textures (t ∷ l) h = ((tt, h.0.1), clear-textures l h.1)

clear-brushes : (n textures : ℕ) (l : List Brush) → All (FitBrush n textures) l → All (FitBrush n textures) (map (rename_brush no_name) l)
clear-brushes n textures [] h = tt
clear-brushes n textures (b ∷ l) h = ((tt, h.0.1, h.0.2), clear-brushes n textures l h.1)

clear-slots : (n : ℕ) (l : List Brush) → FitSlots n l → FitSlots n (map (rename_brush no_name) l)
clear-slots n [] h = h
clear-slots n (b ∷ l) h = h

clear-bones : (above : Option ℕ) (d : Data) → bone_limit_below above (rename_data no_name d) ≡ bone_limit_below above d
clear-bones none d = refl
clear-bones (some n) d = refl

clear_data : (brushes n : ℕ) (d : Data) → FitData brushes n d → FitData brushes n (rename_data no_name d)
clear_data brushes n d h = record { name = tt; words = h.words; kind = h.kind; keys = h.keys; anim = h.anim }

clear-nodes : (l brushes : ℕ) (above : Option ℕ) (f : Forest) → FitNodes l brushes above f → FitNodes l brushes above (rename_forest no_name f)
clear-nodes zero brushes above no_nodes h = tt
clear-nodes zero brushes above (node d f g) h = absurd h
clear-nodes (suc l) brushes above no_nodes h = tt
clear-nodes (suc l) brushes above (node d f g) h = (
  clear_data brushes (bone_limit above) d h.0,
  rw (clear-bones above d) (clear-nodes l brushes (bone_limit_below above d) f h.1),
  clear-nodes (suc l) brushes above g h.2,
)

clear-root : (f : Forest) → OneRoot f → OneRoot (rename_forest no_name f)
clear-root no_nodes o = tt
clear-root (node d f no_nodes) o = tt
clear-root (node d f (node e g h)) o = absurd o

pub cleared-fits : (t : Scene) → WellFormed t → WellFormed (cleared t)
unfolding cleared rename
cleared-fits t h = record {
  version = h.version;
  textures = clear-textures t.textures h.textures;
  slots = clear-slots t.slots t.brushes h.slots;
  brushes = rw (length-map t.textures (rename_texture no_name)) (clear-brushes t.slots (length t.textures) t.brushes h.brushes);
  nodes = rw (length-map t.brushes (rename_brush no_name)) (clear-nodes levels (length t.brushes) none t.nodes h.nodes);
  root = clear-root t.nodes h.root;
}

-- ---- and its file is no longer

short-textures : (l : List Texture) → length (write_items write_texture (map (rename_texture no_name) l)) ≤ length (write_items write_texture l)
short-textures [] = omega arith
short-textures (t ∷ l) =
    let u = write_items write_texture (map (rename_texture no_name) l) in
    let v = write_items write_texture l in
    omega (arith, short-textures l, length-words t.words u, length-words t.words v, length-text t.name.bytes (write_words t.words v))

short-brushes : (l : List Brush) → length (write_items write_brush (map (rename_brush no_name) l)) ≤ length (write_items write_brush l)
short-brushes [] = omega arith
short-brushes (b ∷ l) =
    let u = write_items write_brush (map (rename_brush no_name) l) in
    let v = write_items write_brush l in
    omega (
      arith,
      short-brushes l,
      length-words b.words (write_words b.ids u),
      length-words b.words (write_words b.ids v),
      length-words b.ids u,
      length-words b.ids v,
      length-text b.name.bytes (write_words b.words (write_words b.ids v)),
    )

-- chunks l are written in no more bytes than chunks m
abbrev Shorter : List Chunk → List Chunk → Type 0
Shorter l m = length (write_chunks l) ≤ length (write_chunks m)

short-keys : (ks : List Keys) (l m : List Chunk) → Shorter l m → Shorter (key_chunks ks l) (key_chunks ks m)
unfolding write_chunks_of
short-keys [] l m h = h
short-keys (k ∷ ks) l m h =
    omega (arith, short-keys ks l m h, length-chunk code KEYS (write_keys k) (write_chunks (key_chunks ks l)), length-chunk code KEYS (write_keys k) (write_chunks (key_chunks ks m)))

short-anim : (a : Anim) (l m : List Chunk) → Shorter l m → Shorter (anim_chunks a l) (anim_chunks a m)
unfolding write_chunks_of
short-anim no_anim l m h = h
short-anim (anim ws) l m h =
    omega (arith, length-chunk code ANIM (write_words ws []) (write_chunks l), length-chunk code ANIM (write_words ws []) (write_chunks m))

short-kind : (k : Kind) (l m : List Chunk) → Shorter l m → Shorter (kind_chunks k l) (kind_chunks k m)
unfolding write_chunks_of
short-kind pivot l m h = h
short-kind (mesh x) l m h = omega (arith, length-chunk code MESH (write_mesh x) (write_chunks l), length-chunk code MESH (write_mesh x) (write_chunks m))
short-kind (bone ws) l m h =
    omega (arith, length-chunk code BONE (write_items write_words ws) (write_chunks l), length-chunk code BONE (write_items write_words ws) (write_chunks m))

short-node : (d : Data) (l m : List Chunk) → Shorter l m → length (write_node (rename_data no_name d) l) ≤ length (write_node d m)
unfolding write_node
short-node d l m h =
    let cs = kind_chunks d.kind (key_chunks d.keys (anim_chunks d.anim l)) in
    let ds = kind_chunks d.kind (key_chunks d.keys (anim_chunks d.anim m)) in
    let k : Shorter cs ds = short-kind d.kind _ _ (short-keys d.keys _ _ (short-anim d.anim l m h)) in
    omega (arith, length-words d.words (write_chunks cs), length-words d.words (write_chunks ds), length-text d.name.bytes (write_words d.words (write_chunks ds)))

short-nodes : (f : Forest) → Shorter (node_chunks (rename_forest no_name f)) (node_chunks f)
unfolding node_chunks write_chunks_of
short-nodes no_nodes = omega arith
short-nodes (node d f g) =
    let f' = node_chunks (rename_forest no_name f) in
    let g' = node_chunks (rename_forest no_name g) in
    omega (arith, short-node d f' (node_chunks f) (short-nodes f), short-nodes g, length-chunk code NODE (write_node (rename_data no_name d) f') (write_chunks g'), length-chunk code NODE (write_node d (node_chunks f)) (write_chunks (node_chunks g)))

short-brush-chunks : (n : ℕ) (l : List Brush) (r s : List Chunk) → Shorter r s → Shorter (brush_chunks n (map (rename_brush no_name) l) r) (brush_chunks n l s)
unfolding write_chunks_of
short-brush-chunks n [] r s h = h
short-brush-chunks n (b ∷ l) r s h =
    omega (
      arith,
      short-brushes (b ∷ l),
      length-chunk code BRUS (write_words (n ∷ []) (write_items write_brush (map (rename_brush no_name) (b ∷ l)))) (write_chunks r),
      length-chunk code BRUS (write_words (n ∷ []) (write_items write_brush (b ∷ l))) (write_chunks s),
    )

short_texture_chunks : (l : List Texture) (r s : List Chunk) → Shorter r s → Shorter (texture_chunks (map (rename_texture no_name) l) r) (texture_chunks l s)
unfolding write_chunks_of
short_texture_chunks [] r s h = h
short_texture_chunks (t ∷ l) r s h =
    omega (
      arith,
      short-textures (t ∷ l),
      length-chunk code TEXS (write_items write_texture (map (rename_texture no_name) (t ∷ l))) (write_chunks r),
      length-chunk code TEXS (write_items write_texture (t ∷ l)) (write_chunks s),
    )

pub cleared-short : (t : Scene) → length (encode (cleared t)) ≤ length (encode t)
unfolding encode write_scene cleared rename
cleared-short t =
    let k = short_texture_chunks t.textures _ _ (short-brush-chunks t.slots t.brushes _ _ (short-nodes t.nodes)) in
    omega arith

-- ---- the copy of an accepted file is accepted, holds the scene without names, and cleared again is itself

pub record Copied (t : Scene) : Type 0 where
  pub scene : Scene
  pub accepted : parse Lenient (encode (cleared t)) ≡ accept scene
  pub is_cleared : without_places scene ≡ cleared t
  pub again : encode (cleared scene) ≡ encode (cleared t)

pub copy-back : (s : List ℕ) (t : Scene) → AllBytes s → parse Lenient s ≡ accept t → Copied t
copy-back s t h e =
    let f = parse-fine s t h e in
    let n = parse-size s t e in
    let k = cleared-short t in
    let x = parse-back (cleared t) (cleared-fits t f.0) (omega arith) in
    let b : without_places x.0 ≡ cleared t = x.2 ∙ bare_cleared t in
    record {
      scene = x.0;
      accepted = x.1;
      is_cleared = b;
      again = ap (λ (u : Scene). encode u) (sym (cleared_bare x.0) ∙ ap (λ (u : Scene). cleared u) b ∙ cleared_twice t);
    }

-- the copy is no longer than the file
pub copy-short : (s : List ℕ) (t : Scene) → AllBytes s → parse Lenient s ≡ accept t → length (encode (cleared t)) ≤ length s
copy-short s t h e = let f = parse-fine s t h e in omega (arith, f.1, cleared-short t)

-- two scenes that fit have one copy exactly where they differ in names alone
pub same_copy : (t u : Scene) → WellFormed t → WellFormed u → length (encode (cleared t)) ≤ 16777216 → encode (cleared t) ≡ encode (cleared u) → cleared t ≡ cleared u
same_copy t u ht hu n e =
    let x = parse-back (cleared t) (cleared-fits t ht) n in
    let y = parse-back (cleared u) (cleared-fits u hu) (subst (λ (l : List ℕ). length l ≤ 16777216) e n) in
    let z : x.0 ≡ y.0 = got_inj (sym x.1 ∙ ap (λ (l : List ℕ). parse Lenient l) e ∙ y.1) in
    sym (bare_cleared t) ∙ sym x.2 ∙ ap (λ (v : Scene). without_places v) z ∙ y.2 ∙ bare_cleared u

-- no file that holds this scene, name places aside, is shorter than what `encode` writes
pub shortest : (s : List ℕ) (t u : Scene) → AllBytes s → parse Lenient s ≡ accept u → without_places u ≡ without_places t → length (encode t) ≤ length s
shortest s t u h e b =
    let f = parse-fine s u h e in
    subst (λ (l : List ℕ). length l ≤ length s) (sym (encode_bare u) ∙ ap (λ (v : Scene). encode v) b ∙ encode_bare t) f.1
