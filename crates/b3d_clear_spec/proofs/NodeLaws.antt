-- A NODE that was read becomes what the copy has of it.
use mathlib.Core.Path.{◌≡◌, refl, ap, ap₂, sym, ◌∙◌}
use Prim.Native.Nat.{ℕ, zero, suc, ◌+◌, ◌-◌}
use mathlib.Core.Option.{Option}
use mathlib.Core.List.{List, [], ◌∷◌, ◌++◌, append_assoc, append-nil}
use lib.ListN.{length}
use Rattle.wire.specs.Test.{if}
use Rattle.wire.specs.Bytes.{AllBytes}
use Rattle.layout.specs.Chunks.{done, chunk}
use Rattle.layout.specs.Result.{Result, accept}
use Rattle.layout.specs.Parts.{named}
use Rattle.layout.specs.Write.{write_words, write_chunks as write_chunks_of}
use Rattle.layout.proofs.ChunkLaws.{Of, split-fine}
use Rattle.layout.proofs.ResultLaws.{by_got, bad_got, got_inj}
use Rattle.layout.proofs.PartLaws.{named-fine, words_append}
use Rattle.b3d_spec.specs.declared.Mode.TheVariants.{Lenient}
use Rattle.b3d_spec.specs.declared.Tag.TheVariants.{NODE, MESH, BONE, KEYS, ANIM}
use Rattle.b3d_spec.specs.Encode.{node_chunks}
use Rattle.b3d_spec.specs.Nesting.{inside}
use Rattle.b3d_spec.specs.Parse.{read_mesh, read_bone, read_keys, read_anim, read_kind, read_animation, Inner, read_nodes, read_below, read_node}
use Rattle.b3d_spec.specs.Rules.{node_row, bone_limit, bone_limit_below}
use Rattle.b3d_spec.specs.Scene.{Mesh, Kind, pivot, mesh, bone, Keys, Anim, no_anim, anim, Data, Forest, no_nodes, node}
use Rattle.b3d_spec.specs.Tags.{Chunks, split, tag_of, code}
use Rattle.b3d_spec_chunk_places.proofs.NodeChunkLaws.{ByParts, parts-read}
use Rattle.b3d_clear_spec.specs.Copies.{chunk_of, each, as_is, mesh_copy, own_copy, node_of, node_copy}
use Rattle.b3d_clear_spec.proofs.LeafLaws.{bone_exact, keys_exact, anim_exact}
use Rattle.b3d_clear_spec.proofs.MeshLaws.{mesh_copied}
use Rattle.b3d_clear_spec.proofs.PartLaws.{mesh_bytes, bone_bytes, keys_bytes, anim_bytes, nodes_bytes, node_bytes, node-written}

-- among these chunks are this kind, these KEYS, this ANIM and these nodes
record Has (one : ℕ → List ℕ → List ℕ) (cs : Chunks) (k : Kind) (ks : List Keys) (a : Anim) (f : Forest) : Type 0 where
  meshes : each MESH mesh_copy cs ≡ mesh_bytes k
  bones : each BONE (as_is BONE) cs ≡ bone_bytes k
  keys : each KEYS (as_is KEYS) cs ≡ keys_bytes ks
  anims : each ANIM (as_is ANIM) cs ≡ anim_bytes a
  nodes : each NODE one cs ≡ nodes_bytes f

module _ (one : ℕ → List ℕ → List ℕ) where
  -- in chunks of bytes
  abbrev Copied : Chunks → Kind → List Keys → Anim → Forest → Type 0
  Copied cs k ks a f = (n : ℕ) → Of n cs → Has one cs k ks a f

  none_copied : Copied done pivot [] no_anim no_nodes
  unfolding each mesh_bytes bone_bytes keys_bytes anim_bytes nodes_bytes node_chunks write_chunks_of
  none_copied n h = record { meshes = refl; bones = refl; keys = refl; anims = refl; nodes = refl }

  node_before : (p : ℕ) (b : List ℕ) (r : Chunks) (x : Inner) (f : Forest) → (AllBytes b → one p b ≡ node_bytes x.self x.below) → Copied r pivot [] no_anim f
      → Copied (chunk NODE p b r) pivot [] no_anim (node x.self x.below f)
  unfolding each if
  node_before p b r x f same more n h =
      let rest = more (n - (8 + length b)) h.2 in
      record {
        meshes = rest.meshes;
        bones = rest.bones;
        keys = rest.keys;
        anims = rest.anims;
        nodes = ap₂ ◌++◌ (same h.0) rest.nodes ∙ sym (node-written x.self x.below f);
      }

  keys_before : (p : ℕ) (b : List ℕ) (r : Chunks) (k : Keys) (ks : List Keys) (a : Anim) (f : Forest) → read_keys p b ≡ accept k → Copied r pivot ks a f → Copied (chunk KEYS p b r) pivot (k ∷ ks) a f
  unfolding each keys_bytes if
  keys_before p b r k ks a f e more n h =
      let rest = more (n - (8 + length b)) h.2 in
      record {
        meshes = rest.meshes;
        bones = rest.bones;
        keys = ap₂ (λ (x y : List ℕ). chunk_of (code KEYS) x ++ y) (sym (keys_exact p b h.0 k e)) rest.keys;
        anims = rest.anims;
        nodes = rest.nodes;
      }

  anim_before : (p : ℕ) (b : List ℕ) (r : Chunks) (ws : List ℕ) (ks : List Keys) (f : Forest) → read_anim p b ≡ accept ws → Copied r pivot ks no_anim f → Copied (chunk ANIM p b r) pivot ks (anim ws) f
  unfolding each anim_bytes if
  anim_before p b r ws ks f e more n h =
      let rest = more (n - (8 + length b)) h.2 in
      record {
        meshes = rest.meshes;
        bones = rest.bones;
        keys = rest.keys;
        anims = ap₂ (λ (k l : List ℕ). chunk_of (code ANIM) k ++ l) (sym (anim_exact p b h.0 ws e)) rest.anims ∙ append-nil (chunk_of (code ANIM) (write_words ws []));
        nodes = rest.nodes;
      }

  mesh_before : (brushes p : ℕ) (b : List ℕ) (r : Chunks) (m : Mesh) (ks : List Keys) (a : Anim) (f : Forest) → read_mesh Lenient brushes p b ≡ accept m → Copied r pivot ks a f → Copied (chunk MESH p b r) (mesh m) ks a f
  unfolding each mesh_bytes bone_bytes if
  mesh_before brushes p b r m ks a f e more n h =
      let rest = more (n - (8 + length b)) h.2 in
      record {
        meshes = ap₂ ◌++◌ (mesh_copied brushes p b m h.0 e) rest.meshes ∙ append-nil _;
        bones = rest.bones;
        keys = rest.keys;
        anims = rest.anims;
        nodes = rest.nodes;
      }

  bone_before : (vertices p : ℕ) (b : List ℕ) (r : Chunks) (ws : List (List ℕ)) (ks : List Keys) (a : Anim) (f : Forest) → read_bone vertices p b ≡ accept ws → Copied r pivot ks a f → Copied (chunk BONE p b r) (bone ws) ks a f
  unfolding each mesh_bytes bone_bytes if
  bone_before vertices p b r ws ks a f e more n h =
      let rest = more (n - (8 + length b)) h.2 in
      record {
        meshes = rest.meshes;
        bones = ap₂ (λ (k l : List ℕ). chunk_of (code BONE) k ++ l) (sym (bone_exact p b h.0 vertices ws e)) rest.bones ∙ append-nil _;
        keys = rest.keys;
        anims = rest.anims;
        nodes = rest.nodes;
      }

  copied : (brushes vertices : ℕ) (read : ℕ → List ℕ → Result Inner) → ((p : ℕ) (b : List ℕ) (x : Inner) → AllBytes b → read p b ≡ accept x → one p b ≡ node_bytes x.self x.below)
      → ByParts Lenient brushes vertices read Copied
  copied brushes vertices read same = record {
    none = none_copied;
    nodes = λ p b r x f e. node_before p b r x f (λ h. same p b x h e);
    keys = keys_before;
    anims = anim_before;
    meshes = mesh_before brushes;
    bones = bone_before vertices;
  }

-- ---- a node

-- the parts one after the other
joined : (ws m b k a n : List ℕ) → ((0 ∷ write_words ws []) ++ (m ++ (b ++ (k ++ a)))) ++ n ≡ 0 ∷ write_words ws (m ++ (b ++ (k ++ (a ++ n))))
joined ws m b k a n =
    append_assoc (0 ∷ write_words ws []) (m ++ (b ++ (k ++ a))) n
    ∙ ap (λ (x : List ℕ). 0 ∷ (write_words ws [] ++ x)) (append_assoc m (b ++ (k ++ a)) n ∙ ap (λ (x : List ℕ). m ++ x) (append_assoc b (k ++ a) n ∙ ap (λ (x : List ℕ). b ++ x) (append_assoc k a n)))
    ∙ ap (λ (x : List ℕ). 0 ∷ x) (sym (words_append ws (m ++ (b ++ (k ++ (a ++ n))))))

own-written : (one : ℕ → List ℕ → List ℕ) (cs : Chunks) (d : Data) (f : Forest) → Has one cs d.kind d.keys d.anim f → chunk_of (code NODE) (own_copy d.words cs ++ each NODE one cs) ≡ node_bytes d f
unfolding node_bytes
own-written one cs d f h =
    ap (chunk_of (code NODE))
    (ap₂ (λ (x y : List ℕ). ((0 ∷ write_words d.words []) ++ x) ++ y)
    (ap₂ ◌++◌ h.meshes (ap₂ ◌++◌ h.bones (ap₂ ◌++◌ h.keys h.anims))) h.nodes
    ∙ joined d.words (mesh_bytes d.kind) (bone_bytes d.kind) (keys_bytes d.keys) (anim_bytes d.anim) (nodes_bytes f))

pub node_copied : (l brushes : ℕ) (above : Option ℕ) (p : ℕ) (b : List ℕ) (x : Inner) → AllBytes b → read_node Lenient l brushes above p b ≡ accept x → node_copy l p b ≡ node_bytes x.self x.below
unfolding read_node read_below inside node_copy node_of
node_copied zero brushes above p b x all e = bad_got e
node_copied (suc l) brushes above p b x all e =
    by_got (named node_row (p + 8) b) _ e (λ h eh e₁.
    by_got (read_kind Lenient brushes (bone_limit above) (inside NODE p h.place h.left)) _ e₁ (λ k ek e₂.
    by_got (read_animation no_anim k.rest) _ e₂ (λ m em e₃.
    let d : Data = record { name = h.value.0; words = h.value.1; kind = k.value; keys = m.value.keys; anim = m.value.anim } in
    by_got (read_nodes (read_node Lenient l brushes (bone_limit_below above d)) m.rest) _ e₃ (λ f ef e₄.
    let cs = split h.place h.left in
    let fine = split-fine tag_of h.place h.left (named-fine node_row (p + 8) b h all eh).bytes in
    let read = read_node Lenient l brushes (bone_limit_below above d) in
    let parts = copied (node_copy l) brushes (bone_limit above) read (λ q c y. node_copied l brushes (bone_limit_below above d) q c y) in
    let has = parts-read Lenient brushes (bone_limit above) read (Copied (node_copy l)) parts p cs k ek m em f ef (length h.left) fine in
    ap (node_of (node_copy l)) eh
    ∙ own-written (node_copy l) cs d f has
    ∙ ap (λ (y : Inner). node_bytes y.self y.below) (got_inj e₄)))))
