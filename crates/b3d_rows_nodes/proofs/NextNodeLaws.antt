-- The next row of table 3: a law for each need.
use Rattle.std.specs.Prelude.{Some, None}
use Rattle.std.specs.Prelude as std
use Rattle.b3d_rows_nodes.specs.declared.FoundNode.{FoundNode}
use mathlib.Core.Path.{◌≡◌, refl, ap, ap₂, sym, subst, ◌∙◌}
use Prim.Native.Nat.{ℕ, ◌+◌, ◌<◌, ◌≤◌}
use native.Mathlib.Omega.{arith}
use mathlib.Core.Bool.{Bool, true, false, not}
use mathlib.Core.List.{List, [], ◌∷◌}
use mir.Syntax.{w64}
use mir.Val.{Fits}
use lib.ListN.{length}
use lib.Seq.{sets}
use lib.Dec.{T, leb, nleb→lt}
use borrow.Author.Tests.{le-leb, lt-leb}
use Rattle.wire.specs.Test.{if}
use Rattle.wire.specs.Cursors.{left}
use Rattle.wire.proofs.LeftLaws.{left-length}
use Rattle.layout.specs.Parts.{named}
use Rattle.layout.proofs.ResultLaws.{if_yes, if_no}
use Rattle.b3d_spec.specs.declared.Counts.{Counts}
use Rattle.b3d_spec.specs.declared.Tag.TheVariants.{NODE}
use Rattle.b3d_spec.specs.Rules.{node_row}
use Rattle.b3d_spec.specs.Tables.{width}
use Rattle.b3d_spec_plain_rows.specs.Flat.{flat_at}
use Rattle.b3d_spec_plain_rows.specs.Rows.{Open, add_node, parent_at, opened, row_of, counted}
use Rattle.b3d_chunk_walk.specs.Walks.{BodyAt}
use Rattle.b3d_read_node_cells.specs.Parts.{told}
use Rattle.b3d_read_nodes.proofs.NodeRowLaws.{row_told, row-of}
use Rattle.b3d_rows_nodes.specs.NodeStack.{open_at, stack_of, OpenNodesAt, NodesOpenAt, Enters}
use Rattle.b3d_rows_nodes.specs.declared.OpenNodes.{OpenNodes}
use Rattle.b3d_rows_nodes.specs.declared.EnteredNode.{EnteredNode}
use Rattle.b3d_rows_nodes.proofs.NodeStackLaws.{stack-long, path-deep}
use Rattle.b3d_rows_positions.specs.declared.Position.{Position}
use Rattle.b3d_rows_nodes.specs.NextNode.{shallow_rows, NodeFound, NoNode, NodeFoundIs, NodeFinds, nodes_ahead, NodePosition, NodeNexts}
use Rattle.b3d_rows_nodes.specs.declared.NextCursor.{NextCursor}
use Rattle.b3d_rows_nodes.proofs.FlatNodeLaws.{shallow-alike}

module _ (s : List ℕ) (x : Position) (path : OpenNodes) (v : NodePosition s x path) where
  pub node-run : x.at ≤ length s
  node-run = v.run

  pub node-small : length s < 0x100000000
  node-small = v.small

  pub node-meshes : x.counts.meshes ≤ x.at
  node-meshes = v.meshes

  pub node-weights : x.counts.weights ≤ x.at
  node-weights = v.weights

  pub node-path : OpenNodesAt path
  node-path = v.path_at

  pub node_cell : x.counts.nodes < 0x100000000
  node_cell = omega (arith, v.nodes, v.run, v.small)

  pub node-fits : Fits w64 (x.counts.nodes + 1)
  node-fits = record { fits = omega (arith, v.nodes, v.run, v.small) }

  module _ (r : std.Option FoundNode) (m : NodeFinds s x.at x.counts.meshes x.counts.weights r) where
    ends : nodes_ahead s x path ≡ [] → (row : List ℕ) (a : NextCursor) → a ≡ record { given = false; cursor = record { position = x; path = path } } → NodeNexts s x path row row a
    ends e row a ea = subst (NodeNexts s x path row row) (sym ea) (record { is = record { ended = record { none = e; same = refl }; still = refl } })

    pub node-none : r ≡ None → (row : List ℕ) (a : NextCursor) → a ≡ record { given = false; cursor = record { position = x; path = path } } → NodeNexts s x path row row a
    unfolding nodes_ahead
    node-none w =
        let n : NoNode s x.at x.counts.meshes x.counts.weights = subst (NodeFoundIs s x.at x.counts.meshes x.counts.weights) w m.is in
        ends (n.rows (stack_of path) x.counts refl refl)

    module _ (f : FoundNode) (w : r ≡ Some f) where
      it : NodeFound s x.at x.counts.meshes x.counts.weights f.at f.body f.next f.meshes f.weights
      it = subst (NodeFoundIs s x.at x.counts.meshes x.counts.weights) w m.is

      pub node-body : BodyAt s f.at f.body
      node-body = it.body

      pub node-next : f.next ≤ length s
      node-next = it.to

      pub meshes-small : f.meshes < 0x100000000
      meshes-small = omega (arith, it.few_meshes, it.behind, it.to, v.small)

      pub weights-small : f.weights < 0x100000000
      weights-small = omega (arith, it.few_weights, it.behind, it.to, v.small)

      module _ (full : Bool) (ef : full ≡ leb 16 (length (open_at f.at (stack_of path)))) where
        pub node-full : full ≡ true → (row : List ℕ) (a : NextCursor) → a ≡ record { given = false; cursor = record { position = x; path = path } } → NodeNexts s x path row row a
        unfolding nodes_ahead
        node-full z =
            let g = it.rows (stack_of path) x.counts refl refl in
            ends (g.rows ∙ if_yes (leb 16 (length (open_at f.at (stack_of path)))) [] _ (subst T (sym z ∙ ef) tt))

        not_full : full ≡ false → T (not (leb 16 (length (open_at f.at (stack_of path)))))
        not_full z = subst (λ (y : Bool). T (not y)) (sym z ∙ ef) tt

        pub node-room : full ≡ false → length (open_at f.at (stack_of path)) < 16
        node-room z = nleb→lt 16 (length (open_at f.at (stack_of path))) (not_full z)

      end_is : f.at + 8 + length (left f.body s) ≡ f.body.end
      end_is = omega (arith, left-length s f.body (record { before = it.body.room; within = it.body.within }), it.body.head, it.body.room)

      module _ (i : ℕ) (ei : i ≡ x.counts.nodes) (e : EnteredNode) (n : Enters path f.at f.body.end i e) where
        stack_is : opened f.at (left f.body s) x.counts.nodes (open_at f.at (stack_of path)) ≡ stack_of e.path
        stack_is = ap₂ (λ (a c : ℕ). record { end = a; index = c } ∷ open_at f.at (stack_of path)) end_is (sym ei) ∙ sym n.stack

        abbrev after : Counts
        after = record {
          nodes = x.counts.nodes + 1;
          meshes = f.meshes;
          vertices = x.counts.vertices;
          sets = x.counts.sets;
          triangles = x.counts.triangles;
          weights = f.weights;
          lists = x.counts.lists;
          keys = x.counts.keys;
        }

        abbrev cells : List ℕ
        cells = row_of (named node_row (f.at + 8) (left f.body s)) (flat_at s f.next) e.parent f.body.end (told f.meshes f.weights)

        rows_are : T (not (leb 16 (length (open_at f.at (stack_of path))))) → shallow_rows (stack_of path) x.counts (flat_at s x.at) ≡ cells ∷ shallow_rows (stack_of e.path) after (flat_at s f.next)
        unfolding add_node
        rows_are room =
            let g = it.rows (stack_of path) x.counts refl refl in
            let o = named node_row (f.at + 8) (left f.body s) in
            let first : row_of o (flat_at s f.next) (parent_at f.at (stack_of path)) (f.at + 8 + length (left f.body s)) g.counts ≡ cells =
            row_told o (flat_at s f.next) (parent_at f.at (stack_of path)) (f.at + 8 + length (left f.body s)) g.counts
            ∙ ap₂ (λ (a c : ℕ). row_of o (flat_at s f.next) (parent_at f.at (stack_of path)) (f.at + 8 + length (left f.body s)) (told a c)) g.meshes_are g.weights_are
            ∙ ap₂ (λ (a c : ℕ). row_of o (flat_at s f.next) a c (told f.meshes f.weights)) (sym n.parent) end_is in
            let later : shallow_rows (opened f.at (left f.body s) g.counts.nodes (open_at f.at (stack_of path))) (counted NODE f.at (left f.body s) g.counts) (flat_at s f.next) ≡ shallow_rows (stack_of e.path) after (flat_at s f.next) =
            ap (λ (a : ℕ). shallow_rows (opened f.at (left f.body s) a (open_at f.at (stack_of path))) (counted NODE f.at (left f.body s) g.counts) (flat_at s f.next)) g.nodes_are
            ∙ shallow-alike (flat_at s f.next) (opened f.at (left f.body s) x.counts.nodes (open_at f.at (stack_of path)))
            (counted NODE f.at (left f.body s) g.counts) after (record { nodes = ap (λ (a : ℕ). a + 1) g.nodes_are; meshes = g.meshes_are; weights = g.weights_are })
            ∙ ap (λ (l : List Open). shallow_rows l after (flat_at s f.next)) stack_is in
            g.rows ∙ if_no (leb 16 (length (open_at f.at (stack_of path)))) [] _ room ∙ ap₂ (λ (a : List ℕ) (l : List (List ℕ)). a ∷ l) first later

        pub node_row_is : (full : Bool) → full ≡ leb 16 (length (open_at f.at (stack_of path))) → full ≡ false → (row put : List ℕ) → put ≡ sets row 0 (row_of (named node_row (f.at + 8) (left f.body s)) (flat_at s f.next) e.parent f.body.end (told f.meshes f.weights))
            → (a : NextCursor) → a ≡ record { given = true; cursor = record { position = record { at = f.next; inner = x.inner; items = x.items; counts = after }; path = e.path } } → NodeNexts s x path row put a
        unfolding nodes_ahead width if
        node_row_is full ef z row put ep a ea =
            subst (NodeNexts s x path row put) (sym ea)
            (record {
              is = record {
                comes = record { cells = cells; is = rows_are (not_full full ef z); wide = (row-of s f.at f.body it.node (flat_at s f.next) e.parent f.body.end (told f.meshes f.weights)).long; stores = ep };
                position = record {
                  run = it.to;
                  small = v.small;
                  path_at = n.path;
                  nodes = omega (arith, v.nodes, it.since, it.behind);
                  meshes = omega (arith, it.few_meshes, it.behind);
                  weights = omega (arith, it.few_weights, it.behind);
                };
              };
            })

-- ---- 16 of them

module _ (path : OpenNodes) (p d : ℕ) (c : NodesOpenAt path.ends path.depth p d) where
  long-is : d ≡ length (open_at p (stack_of path))
  long-is = sym (stack-long path.ends path.nodes d) ∙ ap length (c.is path.nodes)

  pub full-yes : 16 ≤ d → true ≡ leb 16 (length (open_at p (stack_of path)))
  full-yes h = sym (le-leb 16 (length (open_at p (stack_of path))) (omega (arith, long-is)))

  pub full-no : d < 16 → false ≡ leb 16 (length (open_at p (stack_of path)))
  full-no h = sym (lt-leb 16 (length (open_at p (stack_of path))) (omega (arith, long-is)))

pub ruleset full_laws = (path-deep, full-yes, full-no)

pub ruleset node_laws = (node-run, node-small, node-meshes, node-weights, node-path, node_cell, node-fits, node-none, node-body, node-next, meshes-small, weights-small, node-full, node-room, node_row_is)
