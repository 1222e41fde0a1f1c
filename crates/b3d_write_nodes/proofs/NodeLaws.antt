-- A law for each way through `write_node`: what is the node's own and the nodes below, behind the eight bytes of the header.
use mathlib.Core.Path.{◌≡◌, refl, ap, sym, ◌∙◌, subst}
use Prim.Native.Nat.{ℕ, ◌+◌, ◌-◌, ◌*◌, ◌<◌, ◌≤◌}
use native.Mathlib.Omega.{arith}
use mathlib.Core.List.{List, [], ◌++◌}
use mir.Syntax.{w64}
use mir.Val.{Fits}
use lib.ListN.{length, take, drop, get_or}
use Rattle.wire.specs.Test.{if}
use Rattle.layout.specs.Rows.{name_cells}
use Rattle.shared_output.specs.Writing.{Wrote, Room, Put, head, chunk}
use Rattle.shared_output.proofs.PartLaws.{Both, both-begins, chunk-fits, two_room, two_inside, two_room_2, two_long, two_small, two_done}
use Rattle.b3d_spec.specs.declared.Counts.{Counts}
use Rattle.b3d_spec.specs.declared.Tag.TheVariants.{NODE}
use Rattle.b3d_spec.specs.Encode.{write_node}
use Rattle.b3d_spec.specs.Rebuild.{Rows, data_from}
use Rattle.b3d_spec.specs.Rules.{bone_limit_below, bone_limit}
use Rattle.b3d_spec.specs.Scene.{Data}
use Rattle.b3d_spec.specs.Tables.{node_row, with_node, with_forest, node_width, nodes_in}
use Rattle.b3d_spec.specs.Tags.{code}
use Rattle.b3d_spec.proofs.Rows.NodeRowLaws.{nodes-step}
use Rattle.b3d_check_spec.specs.CellCounts.{cell_counts}
use Rattle.b3d_check_spec.proofs.BelowLaws.{here-more, here_data, here-counts}
use Rattle.b3d_check_rows.specs.Rows.{row_at}
use Rattle.b3d_check_spec.specs.Rooms.{Limited}
use Rattle.b3d_check_node_counts.specs.Parts.{part_rows, Below}
use Rattle.b3d_write_node.specs.Own.{table_rows, own_bytes, OwnThere}
use Rattle.b3d_write_nodes.specs.Walk.{nodes_bytes, body_bytes, node_bytes, TablesSized, Stand, NodePlaced, Writable, WritesNodes, WritableFirst, WritesFirst}
use Rattle.b3d_write_nodes.proofs.NodeByteLaws.{body-both, node-chunk}
use Rattle.b3d_write_nodes.proofs.StandingLaws.{later, placed-levels, placed_below, placed-fits, placed-name, placed-there}
use Rattle.b3d_write_nodes.proofs.TableLaws.{first_of, limited, below_all, counts_same, own-there}

-- sizes of four bytes can be added
pub sum_fits : (o size : ℕ) → o < 4294967296 → size < 4294967296 → Fits w64 (o + size)
sum_fits o size h k = record { fits = omega arith }

pub size_fits : (o size : ℕ) → o < 4294967296 → size < 4294967296 → Fits w64 (o + size + 8)
size_fits o size h k = record { fits = omega arith }

module _ (a : Counts) (t₃ t₄ t₅ t₆ t₇ t₈ t₉ t₁₀ : List ℕ) (z : TablesSized a t₃ t₄ t₅ t₆ t₇ t₈ t₉ t₁₀) where
  pub room-nodes : node_width * a.nodes ≤ length t₃
  room-nodes = omega (arith, z.nodes)

  pub room-meshes : 9 * a.meshes ≤ length t₄
  room-meshes = omega (arith, z.meshes)

  pub room-sets : 4 * a.sets ≤ length t₆
  room-sets = omega (arith, z.sets)

  pub room-lists : 4 * a.lists ≤ length t₉
  room-lists = omega (arith, z.lists)

  pub node-limited : Limited a
  node-limited = limited a t₃ t₄ t₅ t₆ t₇ t₈ t₉ t₁₀ z

module _ (ns : List ℕ) (a : Counts) (t₃ t₄ t₅ t₆ t₇ t₈ t₉ t₁₀ : List ℕ) (z : TablesSized a t₃ t₄ t₅ t₆ t₇ t₈ t₉ t₁₀) (l : ℕ) (n : Counts) where
  abbrev R : Rows
  R = table_rows t₃ t₄ t₅ t₆ t₇ t₈ t₉ t₁₀

  abbrev own : List ℕ
  own = own_bytes ns t₃ t₄ t₅ t₆ t₇ t₈ t₉ t₁₀ n

  -- the counts after the node, by its cells
  abbrev after : Counts
  after = cell_counts (part_rows a t₄ [] t₆ [] [] t₉ []) (row_at node_width n.nodes t₃) n

  -- ---- a node that stands after n rows

  module _ (x : NodePlaced ns R l n) where
    abbrev row : List ℕ
    row = node_row x.own x.parent (nodes_in x.children) n

    abbrev body : List ℕ
    body = body_bytes x.own x.children

    row_is : get_or (R 3) n.nodes [] ≡ row
    row_is = sym (first_of n.nodes (R 3)) ∙ (here-more R x.own x.children x.siblings x.parent n x.after x.stand.here).0

    counts_are : with_node x.own n ≡ cell_counts R row n
    counts_are = here-counts R x.own x.children x.siblings x.parent n x.after x.stand.here ns x.brushes (bone_limit x.above) (placed-fits ns R l n x) (placed-name ns R l n x)

    after-below : Below (with_node x.own n) a
    after-below = below_all a t₃ t₄ t₅ t₆ t₇ t₈ t₉ t₁₀ z (with_node x.own n) (placed-there ns R l n x)

    before-below : Below n a
    before-below = below_all a t₃ t₄ t₅ t₆ t₇ t₈ t₉ t₁₀ z n x.stand.there

    one-node : n.nodes < a.nodes
    one-node = omega (arith, after-below.nodes, nodes-step x.own n)

    name_fits : get_or row 0 0 + get_or row 1 0 ≤ length ns
    unfolding node_row name_cells
    name_fits = (placed-name ns R l n x).0

    is-there : OwnThere ns t₃ t₄ t₅ t₆ t₇ t₈ t₉ t₁₀ n
    is-there = own-there a t₃ t₄ t₅ t₆ t₇ t₈ t₉ t₁₀ z n row one-node row_is before-below (subst (λ (c : Counts). Below c a) counts_are after-below) ns name_fits

    own_is : own ≡ write_node x.own []
    unfolding own_bytes table_rows if
    own_is =
        ap (λ (r : List ℕ). write_node (data_from ns R r n) []) row_is
        ∙ ap (λ (e : Data). write_node e []) (here_data R x.own x.children x.siblings x.parent n x.after x.stand.here ns x.brushes (bone_limit x.above) (placed-fits ns R l n x) (placed-name ns R l n x))

    counted : after ≡ with_node x.own n
    counted = counts_same a t₃ t₄ t₅ t₆ t₇ t₈ t₉ t₁₀ z n row one-node row_is ∙ sym counts_are

    both : Both body own (nodes_bytes x.children)
    both = record { is = body-both x.own x.children ∙ ap (λ (w : List ℕ). w ++ nodes_bytes x.children) (sym own_is) }

    -- a node with room is a chunk with room
    as-chunk : (out : List ℕ) → Room (node_bytes x.own x.children) out → Room (chunk (code NODE) [] body) out
    as-chunk out r = rw (node-chunk x.own x.children) at r

  -- ---- `write_node`

  module _ (out : List ℕ) (w : WritableFirst ns R l n out) where
    pub node-fits : 8 ≤ length out
    node-fits = chunk-fits (code NODE) [] (body w.placed) out 8 (as-chunk w.placed out w.room) refl

    pub node-there : OwnThere ns t₃ t₄ t₅ t₆ t₇ t₈ t₉ t₁₀ n
    node-there = is-there w.placed

    pub node-room : Room (own_bytes ns t₃ t₄ t₅ t₆ t₇ t₈ t₉ t₁₀ n) (take (length out - 8) (drop 8 out))
    node-room = two_room (code NODE) [] (body w.placed) out 8 (as-chunk w.placed out w.room) refl own (both-begins (both w.placed))

    pub node-levels : 1 ≤ l
    node-levels = placed-levels ns R l n w.placed

    -- the measure of the nodes below is less
    pub node-falls : (t : ℕ) → 2 * l ≡ t → 2 * (l - 1) + 1 < t
    node-falls t e = let h = node-levels in omega arith

    pub node_before : Below n a
    node_before = before-below w.placed

    pub node-one : n.nodes < a.nodes
    node-one = one-node w.placed

    pub node-after : Below (cell_counts (part_rows a t₄ [] t₆ [] [] t₉ []) (row_at node_width n.nodes t₃) n) a
    node-after = subst (λ (c : Counts). Below c a) (sym (counted w.placed)) (after-below w.placed)

    module _ (ys : List ℕ) (o : ℕ) (po : Put (own_bytes ns t₃ t₄ t₅ t₆ t₇ t₈ t₉ t₁₀ n) (take (length out - 8) (drop 8 out)) ys o) where
      -- the output with what is the node's own
      abbrev mid : List ℕ
      mid = take 8 out ++ (ys ++ drop (length out - 8) (drop 8 out))

      pub node-inside : o + 8 ≤ length (take 8 out ++ (ys ++ drop (length out - 8) (drop 8 out)))
      node-inside = two_inside (code NODE) [] (body w.placed) out 8 (as-chunk w.placed out w.room) refl own ys o po (both-begins (both w.placed))

      module _ (m : Counts) (em : m ≡ cell_counts (part_rows a t₄ [] t₆ [] [] t₉ []) (row_at node_width n.nodes t₃) n) where
        -- the nodes below any that stands there
        module _ (x : NodePlaced ns R l n) where
          below-stand : Stand ns R (l - 1) x.brushes (bone_limit_below x.above x.own) x.children n.nodes m (later ns R l n x)
          below-stand = rw (em ∙ counted x) (placed_below ns R l n x)

          below-room : Room (node_bytes x.own x.children) out → Room (nodes_bytes x.children) (take (length mid - (o + 8)) (drop (o + 8) mid))
          below-room r = two_room_2 (code NODE) [] (body x) out 8 (as-chunk x out r) refl own ys o po (nodes_bytes x.children) (both x)

        pub node-below : Writable ns R (l - 1) n.nodes m (take (length mid - (o + 8)) (drop (o + 8) mid))
        node-below =
            let x = w.placed in
            record { brushes = x.brushes; above = bone_limit_below x.above x.own; forest = x.children; after = later ns R l n x; stand = below-stand x; room = below-room x w.room }

        module _ (us : List ℕ) (k : ℕ) (c : Counts) (pb : WritesNodes ns R (l - 1) n.nodes m (take (length mid - (o + 8)) (drop (o + 8) mid)) us k c) where
          -- the output with the nodes below too
          abbrev last : List ℕ
          last = take (o + 8) mid ++ (us ++ drop (length mid - (o + 8)) (drop (o + 8) mid))

          below_put : (x : NodePlaced ns R l n) → Room (node_bytes x.own x.children) out → Put (nodes_bytes x.children) (take (length mid - (o + 8)) (drop (o + 8) mid)) us k
          below_put x r = pb.bytes x.brushes (bone_limit_below x.above x.own) x.children (later ns R l n x) (below-stand x) (below-room x r)

          pub node_asks : (8 ≤ length last) × (o + k < 4294967296)
          node_asks =
              let x = w.placed in
              let r = as-chunk x out w.room in
              let p = below_put x w.room in
              (two_long (code NODE) [] (body x) out 8 r refl own ys o po (nodes_bytes x.children) (both x) us k p, two_small (code NODE) [] (body x) out 8 r refl own ys o po (nodes_bytes x.children) (both x) us k p 4294967296 refl)

          node-put : (zs : List ℕ) → Wrote last (head 0x45444F4E (o + k) []) zs → (x : NodePlaced ns R l n) → Room (node_bytes x.own x.children) out → Put (node_bytes x.own x.children) out zs (o + k + 8)
          node-put zs h x r =
              rw (node-chunk x.own x.children)
              (two_done (code NODE) [] (body x) out 8 (as-chunk x out r) refl own ys o po (nodes_bytes x.children) (both x) us k (below_put x r) zs h)

          pub node_done : (zs : List ℕ) → Wrote last (head 0x45444F4E (o + k) []) zs → WritesFirst ns R l n out zs (o + k + 8) c
          node_done zs h = record {
            small = (node-put zs h w.placed w.room).small;
            bytes = node-put zs h;
            counts = λ x r.
                pb.counts x.brushes (bone_limit_below x.above x.own) x.children (later ns R l n x) (below-stand x) (below-room x r)
                ∙ ap (with_forest x.children) (em ∙ counted x);
          }

-- what `node_counts` asks for
pub ruleset count_laws = (room-nodes, room-meshes, room-sets, room-lists, node-limited, node_before, node-one, node-after)
