-- The copy of an accepted file, from its bytes, is the copy of the scene that it holds.
use mathlib.Core.Path.{◌≡◌, refl, ap, ap₂, sym, ◌∙◌}
use Prim.Native.Nat.{ℕ, ◌+◌, ◌-◌}
use native.Mathlib.Omega.{arith}
use mathlib.Core.Option.{none}
use mathlib.Core.List.{List, [], ◌++◌, append-nil}
use lib.ListN.{length, drop, get_or}
use lib.Seq.{take_all}
use Rattle.wire.specs.Test.{if}
use Rattle.wire.specs.Bytes.{bytes, word_at, AllBytes}
use Rattle.wire.specs.Cursors.{left}
use Rattle.wire.specs.declared.Cursor.{Cursor}
use Rattle.wire.proofs.WordLaws.{drop-bytes}
use Rattle.layout.specs.Chunks.{done, chunk}
use Rattle.layout.specs.Result.{accept}
use Rattle.layout.specs.Parts.{words_of}
use Rattle.layout.specs.Write.{write_chunks as write_chunks_of}
use Rattle.layout.proofs.ChunkLaws.{Of, split-fine}
use Rattle.layout.proofs.ResultLaws.{by_got, got_inj}
use Rattle.b3d_spec.specs.declared.Mode.TheVariants.{Lenient}
use Rattle.b3d_spec.specs.declared.Tag.TheVariants.{BB3D, TEXS, BRUS, NODE}
use Rattle.b3d_spec.specs.Answers.{copy}
use Rattle.b3d_spec.specs.Encode.{node_chunks, write_scene, encode}
use Rattle.b3d_spec.specs.Names.{rename_forest, no_name, rename, cleared}
use Rattle.b3d_spec.specs.Parse.{read_textures, read_brushes, read_node, read_root, slots_of, parse}
use Rattle.b3d_spec.specs.Rules.{levels}
use Rattle.b3d_spec.specs.Scene.{Texture, Brush, Forest, no_nodes, Scene}
use Rattle.b3d_spec.specs.Tags.{Chunks, split, tag_of, code}
use Rattle.shared_ids.proofs.IdLaws.{word-at}
use Rattle.b3d_spec_chunk_places.proofs.FileChunkLaws.{ByChunks, parse-low, file-read}
use Rattle.b3d_clear_spec.specs.Copies.{chunk_of, each, texs_copy, brus_copy, node_copy, in_file, file_copy}
use Rattle.b3d_clear_spec.proofs.MaterialLaws.{texs_copied, brus_copied}
use Rattle.b3d_clear_spec.proofs.NodeLaws.{node_copied}
use Rattle.b3d_clear_spec.proofs.PartLaws.{texs_bytes, texs_written, brus_bytes, brus_written, nodes_bytes, node-written}

-- among these chunks are these textures, brushes and nodes
record Has (cs : Chunks) (ts : List Texture) (slots : ℕ) (bs : List Brush) (f : Forest) : Type 0 where
  texs : each TEXS texs_copy cs ≡ texs_bytes ts
  brus : each BRUS brus_copy cs ≡ brus_bytes slots bs
  nodes : each NODE (node_copy levels) cs ≡ nodes_bytes f

leaf-none : nodes_bytes no_nodes ≡ []
unfolding nodes_bytes node_chunks write_chunks_of
leaf-none = refl

nothing : Has done [] 0 [] no_nodes
unfolding each texs_bytes brus_bytes
nothing = record { texs = refl; brus = refl; nodes = sym leaf-none }

-- every byte of the chunks is a byte
abbrev Copied : Chunks → List Texture → ℕ → List Brush → Forest → Type 0
Copied cs ts slots bs f = (n : ℕ) → Of n cs → Has cs ts slots bs f

one-root : (brushes p : ℕ) (b : List ℕ) (f : Forest) → read_root Lenient brushes p b ≡ accept f → Copied (chunk NODE p b done) [] 0 [] f
unfolding read_root each if
one-root brushes p b f e n h =
    by_got (read_node Lenient levels brushes none p b) _ e (λ x ex e₁.
    record {
      texs = nothing.texs;
      brus = nothing.brus;
      nodes =
          ap₂ ◌++◌ (node_copied levels brushes none p b x h.0 ex) nothing.nodes ∙ sym (node-written x.self x.below no_nodes) ∙ ap nodes_bytes (got_inj e₁);
    })

one_brus : (textures p : ℕ) (b : List ℕ) (r : Chunks) (f : Forest) (v : ℕ × List Brush) → read_brushes Lenient textures p b ≡ accept v → Copied r [] 0 [] f
    → Copied (chunk BRUS p b r) [] (slots_of v.0 v.1) v.1 f
unfolding each if brus_bytes
one_brus textures p b r f v e more n h =
    let rest = more (n - (8 + length b)) h.2 in
    record { texs = rest.texs; brus = ap₂ ◌++◌ (brus_copied textures p b v h.0 e) rest.brus ∙ append-nil _; nodes = rest.nodes }

one_texs : (p : ℕ) (b : List ℕ) (r : Chunks) (slots : ℕ) (bs : List Brush) (f : Forest) (l : List Texture) → read_textures p b ≡ accept l → Copied r [] slots bs f
    → Copied (chunk TEXS p b r) l slots bs f
unfolding each if texs_bytes
one_texs p b r slots bs f l e more n h =
    let rest = more (n - (8 + length b)) h.2 in
    record { texs = ap₂ ◌++◌ (texs_copied p b l h.0 e) rest.texs ∙ append-nil _; brus = rest.brus; nodes = rest.nodes }

copied : ByChunks Lenient Copied
copied = record { none = λ n h. nothing; root = one-root; brus = one_brus; texs = one_texs }

-- ---- the file

scene-written : (t : Scene) → write_scene (cleared t) ≡ bytes t.version (texs_bytes t.textures ++ (brus_bytes t.slots t.brushes ++ nodes_bytes t.nodes))
unfolding write_scene cleared rename nodes_bytes
scene-written t =
    ap (bytes t.version)
    (texs_written t.textures _ ∙ ap (λ (x : List ℕ). texs_bytes t.textures ++ x) (brus_written t.slots t.brushes (node_chunks (rename_forest no_name t.nodes))))

-- the cursor at a place of a file
abbrev from : ℕ → List ℕ → Cursor
from at s = record { at = at; end = length s }

from-left : (at : ℕ) (s : List ℕ) → left (from at s) s ≡ drop at s
unfolding left
from-left at s = ap (drop at) (take_all (length s) s (omega arith))

pub file_copied : (s : List ℕ) (t : Scene) → AllBytes s → parse Lenient s ≡ accept t → file_copy s ≡ copy t
unfolding copy encode
file_copied s t all e =
    let lo = parse-low Lenient s t e in
    let read = file-read Lenient Copied copied s t e in
    let has = read.chunks (length (drop 12 s)) (split-fine tag_of 12 (drop 12 s) (drop-bytes 12 s all)) in
    let version : word_at s 8 ≡ t.version =
    sym (ap (λ (l : List ℕ). get_or (words_of 1 l) 0 0) (sym (from-left 8 s)) ∙ word-at s (from 8 s) 1 0 (record { before = omega arith; within = omega arith }) (omega arith) (omega arith))
    ∙ sym read.first in
    let inner : in_file (split 12 (drop 12 s)) ≡ texs_bytes t.textures ++ (brus_bytes t.slots t.brushes ++ nodes_bytes t.nodes) = ap₂ ◌++◌ has.texs (ap₂ ◌++◌ has.brus has.nodes) in
    ap₂ (λ (k : ℕ) (l : List ℕ). chunk_of (code BB3D) (bytes k (in_file (split 12 l)))) version (from-left 12 s)
    ∙ ap (λ (y : List ℕ). chunk_of (code BB3D) (bytes t.version y)) inner
    ∙ ap (chunk_of (code BB3D)) (sym (scene-written t))
