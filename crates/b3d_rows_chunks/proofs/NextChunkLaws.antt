-- The next mesh and the next key list: a law for each need.
use Rattle.std.specs.Prelude.{Some, None}
use Rattle.std.specs.Prelude as std
use Rattle.b3d_rows_positions.specs.declared.FoundChunk.{FoundChunk}
use mathlib.Core.Path.{◌≡◌, refl, ap₂, sym, subst, ◌∙◌}
use Prim.Native.Nat.{ℕ, ◌+◌, ◌-◌, ◌<◌, ◌≤◌}
use native.Mathlib.Omega.{arith}
use mathlib.Core.Bool.{true}
use mathlib.Core.List.{List, [], ◌∷◌, ◌++◌}
use mir.Syntax.{w64}
use mir.Val.{Fits}
use lib.ListN.{length}
use lib.Seq.{sets as stored}
use Rattle.wire.specs.Test.{if}
use Rattle.wire.specs.Cursors.{Inside, left}
use Rattle.wire.proofs.LeftLaws.{left-most}
use Rattle.b3d_spec.specs.declared.Counts.{Counts}
use Rattle.b3d_spec.specs.declared.Tag.TheVariants.{MESH, KEYS}
use Rattle.b3d_spec.specs.Tables.{width, with_meshes}
use Rattle.b3d_spec_plain_rows.specs.Flat.{flat_at}
use Rattle.b3d_spec_plain_rows.specs.Plain.{plain_mesh, plain_keys}
use Rattle.b3d_spec_plain_rows.specs.Rows.{counted, add_keys, flat_rows, list_row}
use Rattle.b3d_chunk_walk.specs.Walks.{BodyAt}
use Rattle.b3d_chunk_walk.proofs.MeshLaws.{mesh-inside}
use Rattle.b3d_read_item_rows.proofs.GroupLaws.{group-few}
use Rattle.b3d_read_mesh_rows.specs.Meshes.{mesh_cells, MeshPut}
use Rattle.b3d_read_mesh_rows.specs.declared.Added.{Added}
use Rattle.b3d_rows_positions.specs.FindChunk.{ChunkFound, ChunkFinds}
use Rattle.b3d_rows_positions.proofs.FindChunkLaws.{chunk-none, chunk-at}
use Rattle.b3d_read_meshes.proofs.TableLaws.{meshes}
use Rattle.b3d_read_animation.proofs.TableLaws.{lists}
use Rattle.b3d_rows_positions.specs.declared.Position.{Position}
use Rattle.b3d_rows_positions.proofs.PositionLaws.{owns-only}
use Rattle.b3d_rows_positions.proofs.CountLaws.{mesh-alike, list-alike}
use Rattle.b3d_rows_chunks.specs.NextChunk.{chunks_ahead, ChunkPosition, ChunkNexts}

module _ (s : List ℕ) (x : Position) (v : ChunkPosition s x) where
  pub chunk-run : x.at ≤ length s
  chunk-run = v.run

  pub chunk_small : length s < 0x100000000
  chunk_small = v.small

  pub chunk-nodes : x.counts.nodes ≤ x.at
  chunk-nodes = v.nodes

  pub vertices-small : x.counts.vertices < 0x100000000
  vertices-small = omega (arith, v.vertices, v.run, v.small)

  pub sets_small : x.counts.sets < 0x100000000
  sets_small = omega (arith, v.sets, v.run, v.small)

  pub keys-small : x.counts.keys < 0x100000000
  keys-small = omega (arith, v.keys, v.run, v.small)

  -- ---- a mesh

  module _ (r : std.Option FoundChunk) (m : ChunkFinds s x.at MESH x.counts.nodes r) where
    pub mesh-none : r ≡ None → (row : List ℕ) → ChunkNexts 4 s x row row None
    unfolding chunks_ahead
    mesh-none w row = record { is = record { none = (chunk-none s x.at MESH x.counts.nodes r m w).rows 4 (owns-only meshes) x.counts refl; same = refl } }

    module _ (f : FoundChunk) (w : r ≡ Some f) where
      mesh-at : ChunkFound s x.at MESH x.counts.nodes f.at f.body f.next f.nodes
      mesh-at = chunk-at s x.at MESH x.counts.nodes r m f w

      pub mesh-body : BodyAt s f.at f.body
      mesh-body = mesh-at.body

      pub mesh-node : (node : ℕ) → node ≡ f.nodes - 1 → node < 0x100000000
      mesh-node node e = omega (arith, mesh-at.few, mesh-at.behind, mesh-at.to, v.small)

      module _ (node : ℕ) (en : node ≡ f.nodes - 1) (row put : List ℕ) (a : Added) (g : MeshPut s f.at f.body node x.counts.vertices x.counts.sets 0 row put a) where
        past : f.body.end ≤ f.next
        past = mesh-at.past tt

        more-vertices : x.counts.vertices + a.vertices ≤ f.next
        more-vertices = omega (arith, v.vertices, mesh-at.since, mesh-at.body.head, mesh-at.body.room, past, g.few_vertices)

        more-sets : x.counts.sets + a.sets ≤ f.next
        more-sets = omega (arith, v.sets, mesh-at.since, mesh-at.body.head, mesh-at.body.room, past, g.few_sets)

        pub mesh-vertices : Fits w64 (x.counts.vertices + a.vertices)
        mesh-vertices = record { fits = omega (arith, more-vertices, mesh-at.to, v.small) }

        pub mesh-sets : Fits w64 (x.counts.sets + a.sets)
        mesh-sets = record { fits = omega (arith, more-sets, mesh-at.to, v.small) }

        abbrev after : Counts
        after = record {
          nodes = f.nodes;
          meshes = x.counts.meshes;
          vertices = x.counts.vertices + a.vertices;
          sets = x.counts.sets + a.sets;
          triangles = x.counts.triangles;
          weights = x.counts.weights;
          lists = x.counts.lists;
          keys = x.counts.keys;
        }

        mesh-rows : flat_rows 4 x.counts (flat_at s x.at) ≡ mesh_cells node x.counts.vertices x.counts.sets (plain_mesh f.at (left f.body s)) ∷ flat_rows 4 after (flat_at s f.next)
        unfolding with_meshes
        mesh-rows =
            let y = mesh-at.rows 4 (owns-only meshes) x.counts refl in
            let n = y.counts in
            let e₁ : n.nodes - 1 ≡ node = omega (arith, y.later.nodes_are) in
            let e₂ : n.vertices ≡ x.counts.vertices = y.later.vertices tt in
            let e₃ : n.sets ≡ x.counts.sets = y.later.sets tt in
            let c = plain_mesh f.at (left f.body s) in
            let e : ◌≡◌ {A = List (List ℕ)} (mesh_cells (n.nodes - 1) n.vertices n.sets c ∷ []) (mesh_cells node x.counts.vertices x.counts.sets c ∷ []) = rw (e₁, e₂, e₃) in
            y.rows
            ∙ ap₂ ◌++◌ (meshes.own MESH f.at (left f.body s) n tt ∙ e)
            (mesh-alike (flat_at s f.next) (counted MESH f.at (left f.body s) n) after
            (record {
              nodes = y.later.nodes_are;
              vertices = ap₂ ◌+◌ e₂ (sym g.vertices_are);
              sets = ap₂ ◌+◌ e₃ (sym g.sets_are);
            }))

        pub mesh-next : (y : Position) → y ≡ record { at = f.next; inner = x.inner; items = x.items; counts = after } → ChunkNexts 4 s x row put (Some y)
        unfolding chunks_ahead width if mesh_cells
        mesh-next y ey =
            subst (λ (z : Position). ChunkNexts 4 s x row put (Some z)) (sym ey)
            (record {
              is = record {
                comes = record { cells = mesh_cells node x.counts.vertices x.counts.sets (plain_mesh f.at (left f.body s)); is = mesh-rows; wide = refl; stores = g.stores };
                position = record {
                  run = mesh-at.to;
                  small = v.small;
                  nodes = omega (arith, mesh-at.few, mesh-at.behind);
                  vertices = more-vertices;
                  sets = more-sets;
                  keys = omega (arith, v.keys, mesh-at.since, mesh-at.behind);
                };
              };
            })

  -- ---- a key list

  module _ (r : std.Option FoundChunk) (m : ChunkFinds s x.at KEYS x.counts.nodes r) where
    pub list-none : r ≡ None → (row : List ℕ) → ChunkNexts 9 s x row row None
    unfolding chunks_ahead
    list-none w row = record { is = record { none = (chunk-none s x.at KEYS x.counts.nodes r m w).rows 9 (owns-only lists) x.counts refl; same = refl } }

    module _ (f : FoundChunk) (w : r ≡ Some f) where
      list_at : ChunkFound s x.at KEYS x.counts.nodes f.at f.body f.next f.nodes
      list_at = chunk-at s x.at KEYS x.counts.nodes r m f w

      pub list-body : Inside f.body (length s)
      list-body = mesh-inside s f.at f.body list_at.body

      pub list-node : (node : ℕ) → node ≡ f.nodes - 1 → node < 0x100000000
      list-node node e = omega (arith, list_at.few, list_at.behind, list_at.to, v.small)

      module _ (n : ℕ) (en : n ≡ length (plain_keys (left f.body s)).items) where
        more-keys : x.counts.keys + n ≤ f.next
        more-keys =
            let k : f.body.end ≤ f.next = list_at.past tt in
            omega (arith, v.keys, list_at.since, list_at.body.head, list_at.body.room, group-few true (left f.body s), left-most s f.body)

        pub list-keys : Fits w64 (x.counts.keys + n)
        list-keys = record { fits = omega (arith, more-keys, list_at.to, v.small) }

        abbrev listed : Counts
        listed = record {
          nodes = f.nodes;
          meshes = x.counts.meshes;
          vertices = x.counts.vertices;
          sets = x.counts.sets;
          triangles = x.counts.triangles;
          weights = x.counts.weights;
          lists = x.counts.lists;
          keys = x.counts.keys + n;
        }

        module _ (node : ℕ) (ei : node ≡ f.nodes - 1) where
          list-rows : flat_rows 9 x.counts (flat_at s x.at) ≡ list_row node x.counts.keys (plain_keys (left f.body s)) ∷ flat_rows 9 listed (flat_at s f.next)
          unfolding add_keys
          list-rows =
              let y = list_at.rows 9 (owns-only lists) x.counts refl in
              let i = y.counts in
              let e₁ : i.nodes - 1 ≡ node = omega (arith, y.later.nodes_are) in
              let e₂ : i.keys ≡ x.counts.keys = y.later.keys tt in
              let c = plain_keys (left f.body s) in
              let e : ◌≡◌ {A = List (List ℕ)} (list_row (i.nodes - 1) i.keys c ∷ []) (list_row node x.counts.keys c ∷ []) = rw (e₁, e₂) in
              y.rows
              ∙ ap₂ ◌++◌ (lists.own KEYS f.at (left f.body s) i tt ∙ e)
              (list-alike (flat_at s f.next) (counted KEYS f.at (left f.body s) i) listed (record { nodes = y.later.nodes_are; keys = ap₂ ◌+◌ e₂ (sym en) }))

          pub list-next : (row put : List ℕ) → put ≡ stored row 0 (list_row node x.counts.keys (plain_keys (left f.body s)))
              → (y : Position) → y ≡ record { at = f.next; inner = x.inner; items = x.items; counts = listed } → ChunkNexts 9 s x row put (Some y)
          unfolding chunks_ahead width if list_row
          list-next row put e y ey =
              subst (λ (z : Position). ChunkNexts 9 s x row put (Some z)) (sym ey)
              (record {
                is = record {
                  comes = record { cells = list_row node x.counts.keys (plain_keys (left f.body s)); is = list-rows; wide = refl; stores = e };
                  position = record {
                    run = list_at.to;
                    small = v.small;
                    nodes = omega (arith, list_at.few, list_at.behind);
                    vertices = omega (arith, v.vertices, list_at.since, list_at.behind);
                    sets = omega (arith, v.sets, list_at.since, list_at.behind);
                    keys = more-keys;
                  };
                };
              })

pub ruleset mesh_laws = (chunk-run, chunk_small, chunk-nodes, vertices-small, sets_small, mesh-none, mesh-body, mesh-node, mesh-vertices, mesh-sets, mesh-next)

pub ruleset list_laws = (chunk-run, chunk_small, chunk-nodes, keys-small, list-none, list-body, list-node, list-keys, list-next)
