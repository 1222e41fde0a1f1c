-- E7's law: on each file with a node that the lenient mode accepts the label is what the tables say, and on each without one it is 14. What the strict mode
-- accepts the lenient one accepts.
use Prim.Native.Nat.{ℕ, suc, ◌+◌}
use native.Mathlib.Omega.{arith}
use mathlib.Core.Path.{◌≡◌, ap}
use mathlib.Core.List.{List, [], ◌∷◌, ◌++◌}
use lib.ListN.{length, get_or}
use lib.Dec.{eqb}
use Rattle.wire.specs.Test.{if}
use Rattle.layout.specs.Result.{Result, accept}
use Rattle.layout.specs.Rules.{NONE}
use Rattle.layout.specs.Rows.{name_cells}
use Rattle.b3d_spec.specs.declared.Mode.TheVariants.{Lenient}
use Rattle.b3d_spec.specs.Rules.{own_vertices}
use Rattle.b3d_spec.specs.Scene.{Kind, pivot, mesh, bone, Data, Forest, no_nodes, node, Scene}
use Rattle.b3d_spec.specs.Tables.{start, meshes_of, kind_cells, anim_cells, node_row, mesh_row, mesh_rows, own_rows, with_node, with_forest, forest_rows, rows, nodes_in}
use Rattle.b3d_spec.specs.Answers.{judge}
use Rattle.b3d_spec.proofs.AnswerLaws.{judge_got}
use Rattle.b3d_label_spec.specs.Walk.{Printed, label_walk, no_label, labelled, label_of, label_in}
use Rattle.b3d_label_spec.proofs.WalkLaws.{printed_of, Tells, walk_same}

-- a cell behind others
cell_after : (ws r : List ℕ) (i : ℕ) → get_or (ws ++ r) (length ws + i) 0 ≡ get_or r i 0
cell_after [] r i = let e : 0 + i ≡ i = omega arith in rw e
cell_after (w ∷ ws) r i = let e : suc (length ws) + i ≡ suc (length ws + i) = omega arith in rw e (cell_after ws r i)

-- a root's vertices by its row: name, parent, ten numbers, kind; and by the mesh that it names first
module _ (ws : List ℕ) (w : length ws ≡ 10) (a : List ℕ) (p l : ℕ) (others : List (List ℕ)) where
  abbrev row : Kind → List ℕ
  row k = p ∷ l ∷ NONE ∷ (ws ++ (kind_cells k start ++ a))

  abbrev meshes : Kind → List (List ℕ)
  meshes k = mesh_rows 4 (meshes_of k) start ++ others

  cell : (k : Kind) (i : ℕ) → get_or (ws ++ (kind_cells k start ++ a)) (10 + i) 0 ≡ get_or (kind_cells k start ++ a) i 0
  cell k i = rw (← w) (cell_after ws (kind_cells k start ++ a) i)

  vertices_cell : (k : Kind) → own_vertices k ≡ if (eqb (get_or (row k) 13 0) 1) (get_or (get_or (meshes k) (get_or (row k) 14 0) []) 6 0) 0
  unfolding kind_cells if start mesh_rows meshes_of mesh_row
  vertices_cell pivot = rw (cell pivot 0)
  vertices_cell (mesh m) = rw (cell (mesh m) 0, cell (mesh m) 1)
  vertices_cell (bone b) = rw (cell (bone b) 0)

-- the tables of a scene with a node tell what the label has of it
tables_tell : (d : Data) (f g : Forest) → length d.words ≡ 10 → labelled (accept (printed_of d)) ≡ label_in (node_row d NONE (nodes_in f) start) (forest_rows 4 (node d f g) NONE start)
unfolding labelled label_in node_row name_cells forest_rows own_rows if
tables_tell d f g w =
    let others = forest_rows 4 f start.nodes (with_node d start) ++ forest_rows 4 g NONE (with_forest f (with_node d start)) in
    ap (λ (n : ℕ). record { number = 0; place = 0; name_place = d.name.place; name_length = length d.name.bytes; vertices = n })
    (vertices_cell d.words w (anim_cells d.anim ++ (nodes_in f ∷ [])) d.name.place (length d.name.bytes) others d.kind)

-- by the nodes of an accepted file
of-nodes : (o : Result Printed) (n : Forest) → Tells o n → (root : List ℕ) (others : List (List ℕ)) → forest_rows 3 n NONE start ≡ root ∷ others
    → labelled o ≡ label_in root (forest_rows 4 n NONE start)
unfolding forest_rows own_rows if
of-nodes o no_nodes h root others q = let z : ◌≡◌ {A = ℕ} 0 1 = cc in absurd (omega arith)
of-nodes o (node d f g) h root others q = let z : node_row d NONE (nodes_in f) start ≡ root = cc in rw (h.is, ← z) (tables_tell d f g h.ten)

of_none : (o : Result Printed) (n : Forest) → Tells o n → forest_rows 3 n NONE start ≡ [] → labelled o ≡ no_label
unfolding forest_rows own_rows if labelled
of_none o no_nodes h q = rw h.2
of_none o (node d f g) h q = let z : ◌≡◌ {A = ℕ} 0 1 = cc in absurd (omega arith)

module _ (s : List ℕ) (t : Scene) (e : judge Lenient s ≡ accept t) where
  tells : Tells (label_walk s) t.nodes
  tells = walk_same s t (judge_got Lenient s t e).0

  pub with-node : (root : List ℕ) (others : List (List ℕ)) → rows 3 t ≡ root ∷ others → label_of s ≡ label_in root (rows 4 t)
  unfolding label_of rows if
  with-node root others q = of-nodes (label_walk s) t.nodes tells root others q

  pub without_node : rows 3 t ≡ [] → label_of s ≡ no_label
  unfolding label_of rows if
  without_node q = of_none (label_walk s) t.nodes tells q
