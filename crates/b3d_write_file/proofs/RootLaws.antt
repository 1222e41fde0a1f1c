-- A law for each way through `put_root`.
use mathlib.Core.Path.{◌≡◌, refl, ap, sym, ◌∙◌, subst}
use Prim.Native.Nat.{ℕ, ◌<◌}
use native.Mathlib.Omega.{arith}
use mathlib.Core.Option.{none}
use mathlib.Core.List.{List, []}
use lib.ListN.{length}
use Rattle.wire.specs.Test.{if}
use Rattle.layout.specs.Rules.{NONE}
use Rattle.layout.specs.Write.{write_chunks as write_chunks_of}
use Rattle.shared_output.specs.Writing.{Room, Put}
use Rattle.shared_output.proofs.PartLaws.{none-put}
use Rattle.b3d_spec.specs.declared.Counts.{Counts}
use Rattle.b3d_spec.specs.Encode.{node_chunks}
use Rattle.b3d_spec.specs.Rebuild.{Rows}
use Rattle.b3d_spec.specs.Scene.{Data, Forest, no_nodes, node}
use Rattle.b3d_spec.specs.Tables.{start, reached, own_rows, forest_rows, node_tables, node_width, no_rows}
use Rattle.b3d_spec.proofs.Rows.RowListLaws.{cut-length}
use Rattle.b3d_check_spec.proofs.BelowLaws.{here-scene, here-root}
use Rattle.b3d_write_node.specs.Own.{table_rows}
use Rattle.b3d_write_nodes.specs.Walk.{nodes_bytes, node_bytes, TablesSized, There, First, NodePlaced, WritableFirst, WritesFirst}
use Rattle.b3d_write_nodes.proofs.TableLaws.{rows_3}
use Rattle.b3d_write_file.specs.Whole.{OfNodes, Some, Each}

there-none : (R : Rows) → There R no_rows
unfolding node_tables reached if
there-none R = (omega arith, (omega arith, (omega arith, (omega arith, (omega arith, (omega arith, (omega arith, (omega arith, tt))))))))

-- the first node row
root-rows : (d : Data) (ch : Forest) → 0 < length (forest_rows 3 (node d ch no_nodes) NONE start)
unfolding forest_rows own_rows if
root-rows d ch = omega arith

module _ (ns : List ℕ) (a : Counts) (t₃ t₄ t₅ t₆ t₇ t₈ t₉ t₁₀ : List ℕ) (z : TablesSized a t₃ t₄ t₅ t₆ t₇ t₈ t₉ t₁₀) (b : ℕ) (out : List ℕ) where
  abbrev R : Rows
  R = table_rows t₃ t₄ t₅ t₆ t₇ t₈ t₉ t₁₀

  many-nodes : (f : Forest) → OfNodes ns R b f → length (forest_rows 3 f NONE start) ≡ a.nodes
  unfolding node_tables
  many-nodes f h = ap length (sym h.rows.0) ∙ ap length (rows_3 a t₃ t₄ t₅ t₆ t₇ t₈ t₉ t₁₀ z) ∙ cut-length node_width a.nodes t₃

  -- without a node row there is no node
  no-root : a.nodes ≡ 0 → (f : Forest) → OfNodes ns R b f → nodes_bytes f ≡ []
  unfolding nodes_bytes node_chunks write_chunks_of
  no-root e no_nodes h = refl
  no-root e (node d ch no_nodes) h = absurd (omega (arith, many-nodes (node d ch no_nodes) h, root-rows d ch))
  no-root e (node d ch (node c g i)) h = absurd h.root

  pub root_none : a.nodes ≡ 0 → Each (OfNodes ns R b) nodes_bytes out out 0
  root_none e = record { small = omega arith; bytes = λ f h r. none-put (nodes_bytes f) out (no-root e f h) }

  -- the root stands at the start of its tables
  root-first : (d : Data) (ch : Forest) → OfNodes ns R b (node d ch no_nodes) → First ns R 16 b none d ch no_nodes NONE no_rows (λ k. [])
  unfolding start forest_rows
  root-first d ch h =
      let g = here-scene R (node d ch no_nodes) h.rows in
      record { here = g; there = there-none R; below = here-root R d ch g; fits = h.fits; names = h.names }

  -- with a node row there is a root
  record Root (f : Forest) : Type 0 where
    own : Data
    children : Forest
    is : f ≡ node own children no_nodes

  a_root : (a.nodes ≡ 0 → ⊥) → (f : Forest) → OfNodes ns R b f → Root f
  unfolding forest_rows
  a_root n no_nodes h = absurd (n (sym (many-nodes no_nodes h)))
  a_root n (node d ch no_nodes) h = record { own = d; children = ch; is = refl }
  a_root n (node d ch (node c g i)) h = absurd h.root

  abbrev placed : (f : Forest) (x : Root f) → OfNodes ns R b f → NodePlaced ns R 16 no_rows
  placed f x h = record {
    brushes = b;
    above = none;
    own = x.own;
    children = x.children;
    siblings = no_nodes;
    parent = NONE;
    after = λ k. [];
    stand = root-first x.own x.children (subst (OfNodes ns R b) x.is h);
  }

  module _ (n : a.nodes ≡ 0 → ⊥) (w : Some (OfNodes ns R b) nodes_bytes out) where
    pub root_ready : WritableFirst ns R 16 no_rows out
    unfolding node_bytes
    root_ready =
        let x = a_root n w.value w.is in
        record { placed = placed w.value x w.is; room = subst (λ (f : Forest). Room (nodes_bytes f) out) x.is w.room }

    pub root-done : (put : List ℕ) (size : ℕ) (m : Counts) → WritesFirst ns R 16 no_rows out put size m → Each (OfNodes ns R b) nodes_bytes out put size
    unfolding node_bytes
    root-done put size m p = record {
      small = p.small;
      bytes = λ f h r.
          let x = a_root n f h in
          let k = p.bytes (placed f x h) (subst (λ (g : Forest). Room (nodes_bytes g) out) x.is r) in
          subst (λ (g : Forest). Put (nodes_bytes g) out put size) (sym x.is) k;
    }

pub ruleset root_laws = (root_none, root_ready, root-done)
