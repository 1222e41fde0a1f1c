-- The check of a tree looks at the rows of the tables 4 to 10 and at no others.
use mathlib.Core.Path.{◌≡◌, ap, ap₂, ◌∙◌}
use Prim.Native.Nat.{ℕ}
use mathlib.Core.Bool.{Bool, ◌&&◌}
use mathlib.Core.Option.{none}
use mathlib.Core.List.{List, [], ◌∷◌}
use lib.ListN.{length, get_or}
use lib.Dec.{ltb, eqb}
use Rattle.layout.specs.Rules.{NONE}
use Rattle.b3d_spec.specs.Rebuild.{Rows}
use Rattle.b3d_spec.specs.Rules.{bone_limit, levels}
use Rattle.b3d_spec.specs.Tables.{start}
use Rattle.b3d_spec.specs.declared.Counts.{Counts}
use Rattle.b3d_check_spec.specs.CellCounts.{kind_counts, cell_counts, cell_bone_limit}
use Rattle.b3d_check_spec.specs.Check.{kind_valid, node_valid, spent, Level, up_to, bone_limit_of, nodes_valid, tree_valid, all_end, end_from}

pub record Agree (R S : Rows) : Type 0 where
  pub meshes : R 4 ≡ S 4
  pub vertices : R 5 ≡ S 5
  pub sets : R 6 ≡ S 6
  pub triangles : R 7 ≡ S 7
  pub weights : R 8 ≡ S 8
  pub lists : R 9 ≡ S 9
  pub keys : R 10 ≡ S 10

module _ (R S : Rows) (e : Agree R S) (ns : List ℕ) where
  same_node : (brushes bones : ℕ) (x : List ℕ) (n : Counts) → node_valid ns brushes bones R x n ≡ node_valid ns brushes bones S x n
  unfolding node_valid kind_valid
  same_node brushes bones x n = rw (e.meshes, e.vertices, e.sets, e.triangles, e.weights, e.lists, e.keys)

  same_counts : (x : List ℕ) (n : Counts) → cell_counts R x n ≡ cell_counts S x n
  unfolding cell_counts kind_counts
  same_counts x n = rw (e.meshes, e.sets, e.lists)

  same_bones : (told : ℕ) (x : List ℕ) (n : Counts) → cell_bone_limit told R x n ≡ cell_bone_limit told S x n
  unfolding cell_bone_limit
  same_bones told x n = rw (same_counts x n)

  same_spent : (n : Counts) → spent R n ≡ spent S n
  unfolding spent
  same_spent n = rw (e.meshes, e.vertices, e.sets, e.triangles, e.weights, e.lists, e.keys)

  same_nodes : (brushes : ℕ) (path : List Level) (xs : List (List ℕ)) (n : Counts) → nodes_valid ns brushes R path xs n ≡ nodes_valid ns brushes S path xs n
  unfolding nodes_valid
  same_nodes brushes path [] n = ap (λ (b : Bool). all_end n.nodes path && b) (same_spent n)
  same_nodes brushes path (x ∷ xs) n =
      let q = up_to n.nodes (get_or x 2 0) path in
      let told = bone_limit_of q in
      let level : ℕ → Level = λ v. record { node = n.nodes; end = end_from n.nodes x; bones = v } in
      ap₂ (λ (a b : Bool). ltb 0 (length q) && (ltb (length q) levels && (a && b))) (same_node brushes told x n)
      (ap₂ (λ (v : ℕ) (m : Counts). nodes_valid ns brushes R (level v ∷ q) xs m) (same_bones told x n) (same_counts x n) ∙ same_nodes brushes (level (cell_bone_limit told S x n) ∷ q) xs (cell_counts S x n))

  pub same_tree : (brushes : ℕ) (xs : List (List ℕ)) → tree_valid ns brushes R xs ≡ tree_valid ns brushes S xs
  unfolding tree_valid
  same_tree brushes [] = same_spent start
  same_tree brushes (x ∷ xs) =
      let path : Counts → List Level = λ m. record { node = 0; end = end_from 0 x; bones = m.vertices } ∷ [] in
      ap₂ (λ (a b : Bool). eqb (get_or x 2 0) NONE && (a && b)) (same_node brushes (bone_limit none) x start)
      (ap (λ (m : Counts). nodes_valid ns brushes R (path m) xs m) (same_counts x start) ∙ same_nodes brushes (path (cell_counts S x start)) xs (cell_counts S x start))
