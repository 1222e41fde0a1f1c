-- A law for each way through `put_lists` and `write_file`.
use mathlib.Core.Path.{◌≡◌, refl, ap, sym, ◌∙◌, subst}
use Prim.Native.Nat.{ℕ, ◌+◌, ◌-◌, ◌/◌, ◌<◌, ◌≤◌}
use native.Mathlib.Omega.{arith}
use mathlib.Core.List.{List, [], ◌∷◌, ◌++◌, append_assoc}
use lib.ListN.{length, take, drop}
use Rattle.wire.specs.Bytes.{bytes}
use Rattle.shared_output.specs.Writing.{Wrote, Room, Put, head, chunk}
use Rattle.shared_output.proofs.AppendLaws.{chunks-append}
use Rattle.shared_output.proofs.PartLaws.{Both, Begins, both-begins, chunk-fits, two_room, two_inside, two_room_2, two_long, two_small, two_done}
use Rattle.b3d_spec.specs.declared.Tag.TheVariants.{BB3D}
use Rattle.b3d_spec.specs.Encode.{node_chunks, texture_chunks, brush_chunks, write_scene, encode}
use Rattle.b3d_spec.specs.Rebuild.{Rows}
use Rattle.b3d_spec.specs.Scene.{Texture, Brush, Scene}
use Rattle.b3d_spec.specs.Tags.{Chunk, write_chunks, code}
use Rattle.b3d_write_row_runs.specs.Lent.{rows_in}
use Rattle.b3d_write_materials.specs.Lists.{textures_bytes, brushes_bytes}
use Rattle.b3d_write_materials.specs.Named.{NamesThere}
use Rattle.b3d_write_nodes.specs.Walk.{nodes_bytes}
use Rattle.b3d_write_file.specs.Whole.{OfNodes, OfAll, OfScene, lists_bytes, all_bytes, Some, Each}

-- ---- the bytes by their parts

brushes-first : (slots : ℕ) (l : List Brush) (r : List Chunk) → brush_chunks slots l r ≡ brush_chunks slots l [] ++ r
brushes-first slots [] r = refl
brushes-first slots (b ∷ l) r = refl

textures-first : (l : List Texture) (r : List Chunk) → texture_chunks l r ≡ texture_chunks l [] ++ r
textures-first [] r = refl
textures-first (t ∷ l) r = refl

module _ (ns t₁ t₂ : List ℕ) (R : Rows) (slots : ℕ) (t : Scene) (h : OfAll ns t₁ t₂ R slots t) where
  all_both : Both (all_bytes t) (lists_bytes ns slots t₁ t₂) (nodes_bytes t.nodes)
  unfolding all_bytes lists_bytes textures_bytes brushes_bytes nodes_bytes
  all_both =
      let texs = texture_chunks t.textures [] in
      let brus = brush_chunks t.slots t.brushes [] in
      let nodes = node_chunks t.nodes in
      record {
        is =
            ap write_chunks (textures-first t.textures (brush_chunks t.slots t.brushes nodes))
            ∙ ap (λ (l : List Chunk). write_chunks (texs ++ l)) (brushes-first t.slots t.brushes nodes)
            ∙ chunks-append code texs (brus ++ nodes)
            ∙ ap (λ (l : List ℕ). write_chunks texs ++ l) (chunks-append code brus nodes)
            ∙ sym (append_assoc (write_chunks texs) (write_chunks brus) (write_chunks nodes))
            ∙ (λ i. (write_chunks (texture_chunks (sym h.textures i) []) ++ write_chunks (brush_chunks (h.rest.slots_are i) (sym h.rest.brushes i) [])) ++ write_chunks nodes);
      }

encode-chunk : (t : Scene) → encode t ≡ chunk (code BB3D) (bytes t.version []) (all_bytes t)
unfolding encode write_scene all_bytes chunk head
encode-chunk t =
    let e : length (bytes t.version (all_bytes t)) ≡ 4 + length (all_bytes t) = omega arith in
    ap (λ (m : ℕ). bytes (code BB3D) (bytes m (bytes t.version (all_bytes t)))) e

-- ---- `put_lists`

module _ (ns : List ℕ) (slots : ℕ) (t₁ t₂ : List ℕ) where
  pub lists-both : Both (lists_bytes ns slots t₁ t₂) (textures_bytes ns (rows_in 9 t₁)) (brushes_bytes ns slots (rows_in 17 t₂))
  unfolding lists_bytes
  lists-both = record { is = refl }

  pub lists-begin : Begins (lists_bytes ns slots t₁ t₂) (textures_bytes ns (rows_in 9 t₁))
  lists-begin = both-begins lists-both

pub ruleset lists_laws = (lists-both, lists-begin)

-- ---- `write_file`

module _ (ns t₁ t₂ : List ℕ) (R : Rows) (version slots : ℕ) (out : List ℕ) where
  as-chunk : (t : Scene) → OfScene ns t₁ t₂ R version slots t → Room (encode t) out → Room (chunk (code BB3D) (bytes version []) (all_bytes t)) out
  as-chunk t h r = subst (λ (v : ℕ). Room (chunk (code BB3D) (bytes v []) (all_bytes t)) out) h.version_is (rw (encode-chunk t) at r)

  module _ (s : Some (OfScene ns t₁ t₂ R version slots) encode out) where
    s_room : Room (chunk (code BB3D) (bytes version []) (all_bytes s.value)) out
    s_room = as-chunk s.value s.is s.room

    abbrev lists : List ℕ
    lists = lists_bytes ns slots t₁ t₂

    both : Both (all_bytes s.value) lists (nodes_bytes s.value.nodes)
    both = all_both ns t₁ t₂ R slots s.value s.is.all

    pub file-fits : 12 ≤ length out
    file-fits = chunk-fits (code BB3D) (bytes version []) (all_bytes s.value) out 12 s_room refl

    pub file-few : slots ≤ 8
    file-few = s.is.all.rest.few

    pub file-textures : NamesThere ns (rows_in 9 t₁)
    file-textures = s.is.all.there

    pub file-brushes : NamesThere ns (rows_in 17 t₂)
    file-brushes = s.is.all.rest.there

    pub file-room : Room (lists_bytes ns slots t₁ t₂) (take (length out - 12) (drop 12 out))
    file-room = two_room (code BB3D) (bytes version []) (all_bytes s.value) out 12 s_room refl lists (both-begins both)

    module _ (ys : List ℕ) (n : ℕ) (w : Put (lists_bytes ns slots t₁ t₂) (take (length out - 12) (drop 12 out)) ys n) where
      -- the output with the lists
      abbrev mid : List ℕ
      mid = take 12 out ++ (ys ++ drop (length out - 12) (drop 12 out))

      pub file-inside : n + 12 ≤ length (take 12 out ++ (ys ++ drop (length out - 12) (drop 12 out)))
      file-inside = two_inside (code BB3D) (bytes version []) (all_bytes s.value) out 12 s_room refl lists ys n w (both-begins both)

      room-nodes : (t : Scene) → OfScene ns t₁ t₂ R version slots t → Room (encode t) out → Room (nodes_bytes t.nodes) (take (length mid - (n + 12)) (drop (n + 12) mid))
      room-nodes t i r = two_room_2 (code BB3D) (bytes version []) (all_bytes t) out 12 (as-chunk t i r) refl lists ys n w (nodes_bytes t.nodes) (all_both ns t₁ t₂ R slots t i.all)

      pub file-some : Some (OfNodes ns R (length t₂ / 17)) nodes_bytes (take (length mid - (n + 12)) (drop (n + 12) mid))
      file-some = record { value = s.value.nodes; is = s.is.all.rest.nodes; room = room-nodes s.value s.is s.room }

      module _ (us : List ℕ) (m : ℕ) (q : Each (OfNodes ns R (length t₂ / 17)) nodes_bytes (take (length mid - (n + 12)) (drop (n + 12) mid)) us m) where
        -- the output with the nodes too
        abbrev last : List ℕ
        last = take (n + 12) mid ++ (us ++ drop (length mid - (n + 12)) (drop (n + 12) mid))

        s_put : Put (nodes_bytes s.value.nodes) (take (length mid - (n + 12)) (drop (n + 12) mid)) us m
        s_put = q.bytes s.value.nodes s.is.all.rest.nodes (room-nodes s.value s.is s.room)

        pub file_asks : (12 ≤ length last) × (n + m < 4294967292)
        file_asks = (two_long (code BB3D) (bytes version []) (all_bytes s.value) out 12 s_room refl lists ys n w (nodes_bytes s.value.nodes) both us m s_put, two_small (code BB3D) (bytes version []) (all_bytes s.value) out 12 s_room refl lists ys n w (nodes_bytes s.value.nodes) both us m s_put 4294967292 refl)

        file-put : (zs : List ℕ) → Wrote last (head 0x44334242 (n + m) (bytes version [])) zs → (t : Scene) → OfScene ns t₁ t₂ R version slots t → Room (encode t) out → Put (encode t) out zs (n + m + 12)
        file-put zs h t i r =
            let d = two_done (code BB3D) (bytes version []) (all_bytes t) out 12 (as-chunk t i r) refl lists ys n w (nodes_bytes t.nodes) (all_both ns t₁ t₂ R slots t i.all) us m (q.bytes t.nodes i.all.rest.nodes (room-nodes t i r)) zs h in
            rw (encode-chunk t) (subst (λ (v : ℕ). Put (chunk (code BB3D) (bytes v []) (all_bytes t)) out zs (n + m + 12)) (sym i.version_is) d)

        pub file-each : (zs : List ℕ) → Wrote last (head 0x44334242 (n + m) (bytes version [])) zs → Each (OfScene ns t₁ t₂ R version slots) encode out zs (n + m + 12)
        file-each zs h = record { small = (file-put zs h s.value s.is s.room).small; bytes = file-put zs h }
