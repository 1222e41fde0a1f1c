-- Which lent tables are sound, as code finds it: row by row with running counts, each cell against what it must be. What sound means is said by `rebuild`;
-- proofs/Check has that the verdict is the same.
use Rattle.std.specs.Prelude.{ℕ, ◌+◌, Bool, true, false, ◌&&◌, List, [], ◌∷◌, length, take, drop, get_or, leb, ltb, eqb}
use Rattle.std.proofs.Math.Option.{none}
use Rattle.wire.specs.Test.{if}
use Rattle.layout.specs.WellFormed.{all}
use Rattle.layout.specs.Rules.{NONE, Rule, holds}
use Rattle.b3d_spec.specs.Colours.{passes}
use Rattle.b3d_spec.specs.Mask.{vertex_mask, key_mask}
use Rattle.b3d_spec.specs.Rebuild.{Lent, lent_rows, has_counted_rows, owned_by, Rows}
use Rattle.b3d_spec.specs.Rules.{version, slots, vertex_flags, sets, set_size, key_flags, brush_id, brush_ids, triangle_row, weight_row, bone_limit, levels}
use Rattle.b3d_spec.specs.Tables.{start, reached, part_tables, tables}
use Rattle.b3d_spec.specs.declared.Counts.{Counts}
use Rattle.b3d_spec.specs.declared.Mode.{Mode}
use Rattle.b3d_spec.specs.Columns as columns
use Rattle.b3d_check_spec.specs.CellCounts.{cell_counts, cell_bone_limit}

-- ---- rows

-- each word of a row keeps its rule; words or rules left over at the end are not looked at
unfoldable pub keeps : List Rule → List ℕ → Bool
keeps [] ws = true
keeps (r ∷ rs) [] = true
keeps (r ∷ rs) (w ∷ ws) = holds r w && keeps rs ws

-- each cell that the mask leaves out is 0
unfoldable pub clean : List Bool → List ℕ → Bool
clean [] r = true
clean (b ∷ m) [] = true
clean (true ∷ m) (x ∷ r) = clean m r
clean (false ∷ m) (x ∷ r) = eqb x 0 && clean m r

-- rs has at least c rows, and f holds of each of the first c
unfoldable pub rows_valid : (List ℕ → Bool) → ℕ → List (List ℕ) → Bool
rows_valid f c rs = leb c (length rs) && all f (take c rs)

-- each row owns a group of items in another table: cell 2 is the group's first row (the groups follow each other from r on), cell 3 its length. True if all
-- cells say so, `is` has these items, and f holds of each row and its group
unfoldable pub groups_valid : (List ℕ → List (List ℕ) → Bool) → ℕ → List (List ℕ) → List (List ℕ) → Bool
groups_valid f r [] is = true
groups_valid f r (x ∷ xs) is =
    let c = get_or x columns.group_count 0 in
    eqb (get_or x columns.group_first 0) r && (leb c (length is) && (f x (take c is) && groups_valid f (r + c) xs (drop c is)))

-- ---- textures and brushes

-- the name that row x begins with lies in ns, with no zero inside
unfoldable pub name_valid : List ℕ → List ℕ → Bool
name_valid ns x =
    leb (get_or x columns.name_place 0 + get_or x columns.name_length 0) (length ns)
    && all (λ b. ltb 0 b) (take (get_or x columns.name_length 0) (drop (get_or x columns.name_place 0) ns))

-- brush row x has its name in ns, `many` slots that are NONE or name one of `textures` textures, and NONE in the unused slots
unfoldable pub brush_valid : List ℕ → ℕ → ℕ → List ℕ → Bool
brush_valid ns many textures x =
    let ids = drop columns.brush_textures x in
    name_valid ns x && (keeps (brush_ids many textures) (take many ids) && all (λ i. eqb i NONE) (drop many ids))

-- n_texs (`many`) is 0 without a brush, else in its range
unfoldable pub slots_valid : ℕ → ℕ → Bool
slots_valid many brushes = if (eqb brushes 0) (eqb many 0) (holds slots many)

-- ---- meshes

-- x is the row of a triangle set of mesh i, its brush is NONE or below `brushes`, and its triangles ts name vertices below v
unfoldable pub set_valid : ℕ → ℕ → ℕ → List ℕ → List (List ℕ) → Bool
set_valid brushes v i x ts =
    eqb (get_or x columns.triangle_set_mesh 0) i && (holds (brush_id brushes) (get_or x columns.triangle_set_brush 0) && all (keeps (triangle_row v)) ts)

-- x is a mesh row that comes after the counts n, with the vertices vs, triangle sets ss and triangles ts from its first ones on
unfoldable pub mesh_valid : ℕ → Counts → List ℕ → List (List ℕ) → List (List ℕ) → List (List ℕ) → Bool
mesh_valid brushes n x vs ss ts =
    eqb (get_or x columns.mesh_node 0) n.nodes
    && (holds (brush_id brushes) (get_or x columns.mesh_brush 0)
    && (holds vertex_flags (get_or x columns.mesh_flags 0) && (holds sets (get_or x columns.mesh_sets 0) && (holds set_size (get_or x columns.mesh_set_size 0)
    && (eqb (get_or x columns.mesh_first_vertex 0) n.vertices
    && (rows_valid (clean (vertex_mask (get_or x columns.mesh_flags 0) (get_or x columns.mesh_sets 0) (get_or x columns.mesh_set_size 0)))
    (get_or x columns.mesh_vertices 0) vs
    && (eqb (get_or x columns.mesh_first_triangle_set 0) n.sets
    && (ltb 0 (get_or x columns.mesh_triangle_sets 0)
    && (leb (get_or x columns.mesh_triangle_sets 0) (length ss)
    && groups_valid (set_valid brushes (get_or x columns.mesh_vertices 0) n.meshes) n.triangles (take (get_or x columns.mesh_triangle_sets 0) ss) ts)))))))))

-- ---- nodes

-- kind, first and count in y are sound after the counts n; a weight may name a vertex below `bones`
unfoldable pub kind_valid : ℕ → ℕ → Rows → Counts → List ℕ → Bool
kind_valid brushes bones R n y =
    if (eqb (get_or y 0 0) 1)
    (eqb (get_or y 1 0) n.meshes
    && (eqb (get_or y 2 0) 1
    && (ltb 0 (length (drop n.meshes (R 4)))
    && mesh_valid brushes n (get_or (drop n.meshes (R 4)) 0 []) (drop n.vertices (R 5)) (drop n.sets (R 6)) (drop n.triangles (R 7)))))
    (if (eqb (get_or y 0 0) 2)
    (eqb (get_or y 1 0) n.weights && rows_valid (keeps (weight_row bones)) (get_or y 2 0) (drop n.weights (R 8)))
    (eqb (get_or y 0 0) 0 && (eqb (get_or y 1 0) 0 && eqb (get_or y 2 0) 0)))

-- x is the row of a key list, with flags in their range, and its keys ks are 0 where the flags leave cells out
unfoldable pub key_list_valid : List ℕ → List (List ℕ) → Bool
key_list_valid x ks = holds key_flags (get_or x columns.key_list_flags 0) && all (clean (key_mask (get_or x columns.key_list_flags 0))) ks

-- y holds whether there is an ANIM, 1 or 0, and its three values, which are 0 without it
unfoldable pub anim_valid : List ℕ → Bool
anim_valid y = if (eqb (get_or y 0 0) 1) true (all (λ x. eqb x 0) y)

-- node row x is sound after the counts n, with all rows that are its own; a weight of it may name a vertex below `bones`
unfoldable pub node_valid : List ℕ → ℕ → ℕ → Rows → List ℕ → Counts → Bool
node_valid ns brushes bones R x n =
    let y = drop columns.node_kind x in
    name_valid ns x
    && (kind_valid brushes bones R n y
    && (groups_valid key_list_valid n.keys (owned_by n.nodes (drop n.lists (R 9))) (drop n.keys (R 10)) && anim_valid (take 4 (drop 3 y))))

-- the counts n reach the end of each of tables 4 to 10: no row is left over
unfoldable pub spent : Rows → Counts → Bool
spent R n = all (λ (k : ℕ). leb (length (R k)) (reached k n)) part_tables

-- ---- all nodes

-- a node on the path up to the root
pub record Level : Type 0 where
  -- its row in table 3
  pub node : ℕ
  -- the row behind it and the nodes below it
  pub end : ℕ
  -- its bone limit, by 02's E3: how many vertices a weight below it may name
  pub bones : ℕ

-- the path from node p up, at row i; empty where p is not on it, or where a node that is left does not end at row i
unfoldable pub up_to : ℕ → ℕ → List Level → List Level
up_to i p [] = []
up_to i p (q ∷ qs) = if (eqb p q.node) (q ∷ qs) (if (eqb q.end i) (up_to i p qs) [])

-- every node of the path ends at row i
unfoldable pub all_end : ℕ → List Level → Bool
all_end i path = all (λ (q : Level). eqb q.end i) path

-- the row behind node i and the nodes below it, by cell 20 of its row x, the branch word of 02's E4
abbrev pub end_from : ℕ → List ℕ → ℕ
end_from i x = i + 1 + get_or x columns.node_below 0

-- the bone limit of the path's first node; 0 where the path is empty
unfoldable pub bone_limit_of : List Level → ℕ
bone_limit_of [] = 0
bone_limit_of (q ∷ qs) = q.bones

-- the node rows are sound after the counts n, each with what is its own. Its parent is the node before it or one above that, all of which the path has. A
-- node that is left, or that no row follows, ends where its row says
unfoldable pub nodes_valid : List ℕ → ℕ → Rows → List Level → List (List ℕ) → Counts → Bool
nodes_valid ns brushes R path [] n = all_end n.nodes path && spent R n
nodes_valid ns brushes R path (x ∷ xs) n =
    let q = up_to n.nodes (get_or x columns.node_parent 0) path in
    ltb 0 (length q)
    && (ltb (length q) levels
    && (node_valid ns brushes (bone_limit_of q) R x n && nodes_valid ns brushes R (record { node = n.nodes; end = end_from n.nodes x; bones = cell_bone_limit (bone_limit_of q) R x n } ∷ q) xs (cell_counts R x n)))

-- the node rows are sound: the root first, whose parent is NONE and which hands down its own vertices as the bone limit, then those below it. Without a node
-- no row of tables 4 to 10 may be left
unfoldable pub tree_valid : List ℕ → ℕ → Rows → List (List ℕ) → Bool
tree_valid ns brushes R [] = spent R start
tree_valid ns brushes R (x ∷ xs) =
    eqb (get_or x columns.node_parent 0) NONE
    && (node_valid ns brushes (bone_limit none) R x start
    && nodes_valid ns brushes R (record { node = 0; end = end_from 0 x; bones = (cell_counts R x start).vertices } ∷ []) xs (cell_counts R x start))

-- ---- the verdict

-- the lent tables T with names in ns are those of an accepted file under the lenient mode. Lengths come first, so that the counted rows are there
unfoldable pub check : Lent → List ℕ → Bool
check T ns =
    all (has_counted_rows T) tables
    && (holds version T.version
    && (slots_valid T.slots (T.count 2)
    && (all (name_valid ns) (lent_rows T 1)
    && (all (brush_valid ns T.slots (T.count 1)) (lent_rows T 2) && tree_valid ns (T.count 2) (lent_rows T) (lent_rows T 3)))))

-- the lent tables T with names in ns are those of an accepted file in a mode: the check, then the colours in tables 2 and 5
unfoldable pub check_in : Mode → Lent → List ℕ → Bool
check_in mode T ns = check T ns && passes mode (lent_rows T)
