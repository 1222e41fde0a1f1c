-- The law: for an accepted file the rows that its bytes have are those of its tables.
use mathlib.Core.Path.{◌≡◌, refl, ap, sym, subst, ◌∙◌}
use Prim.Native.Nat.{ℕ, ◌+◌, ◌≤◌}
use native.Mathlib.Omega.{arith}
use mathlib.Core.Bool.{not}
use mathlib.Core.Option.{none}
use mathlib.Core.List.{List, [], ◌++◌, append_assoc}
use lib.ListN.{length, drop_of_length-le}
use lib.Dec.{T}
use Rattle.wire.specs.Test.{if}
use Rattle.layout.specs.Chunks.{done, chunk}
use Rattle.layout.specs.Result.{accept}
use Rattle.layout.specs.Rules.{NONE}
use Rattle.layout.proofs.ChunkLaws.{split-none}
use Rattle.b3d_spec.specs.declared.Mode.TheVariants.{Lenient}
use Rattle.b3d_spec.specs.declared.Counts.{Counts}
use Rattle.b3d_spec.specs.declared.Tag.{Tag}
use Rattle.b3d_spec.specs.declared.Tag.TheVariants.{TEXS, BRUS, NODE}
use Rattle.b3d_spec.specs.Answers.{judge}
use Rattle.b3d_spec.specs.Parse.{read_node, parse, Inner}
use Rattle.b3d_spec.specs.Rules.{levels}
use Rattle.b3d_spec.specs.Scene.{Forest, no_nodes, node, Scene}
use Rattle.b3d_spec.specs.Tables.{start, nodes_in, own_rows, with_node, with_forest, forest_rows, rows, tables}
use Rattle.b3d_spec.specs.Tags.{Chunks, split, tag_of, is}
use Rattle.b3d_spec.proofs.AnswerLaws.{judge_got}
use Rattle.b3d_spec_plain_rows.specs.Flat.{rest, flat_at, flat}
use Rattle.b3d_spec_plain_rows.specs.Rows.{Open, parent_at, kind_of, anim_of, node_rows, flat_rows, file_rows}
use Rattle.b3d_spec_plain_rows.proofs.FileLaws.{Says, Has, file-flat}
use Rattle.b3d_spec_plain_rows.proofs.NodeLaws.{past, node-flat}
use Rattle.b3d_spec_plain_rows.proofs.TreeLaws.{Clean, done-clean, node-flat as tree-flat}
use Rattle.layout.proofs.AllLaws.{All}
use Rattle.b3d_spec.proofs.Rows.TableNumberLaws.{ten-tables, table-each}
use Rattle.b3d_spec_plain_rows.proofs.FlatRunLaws.{Here, run-done, run_past}

-- nothing stands at the end of a file
pub end_done : (s : List ℕ) (at : ℕ) → rest s at ≡ rest s (length s) → flat_at s at ≡ done
unfolding rest
end_done s at e =
    run-done s at (e ∙ ap (split (length s)) (drop_of_length-le s {i = length s} (omega arith)) ∙ split-none tag_of (length s))

module _ (s : List ℕ) (k : ℕ) (lo : 4 ≤ k) (hi : k ≤ 10) where
  abbrev Part : ℕ → Forest → Type 0
  Part at f = (n : Counts) → flat_rows k n (flat_at s at) ≡ forest_rows k f NONE n

  no-parts : (at : ℕ) → rest s at ≡ rest s (length s) → Part at no_nodes
  unfolding flat_rows forest_rows
  no-parts at e n = ap (flat_rows k n) (end_done s at e)

  root-part : (brushes at p : ℕ) (b : List ℕ) (x : Inner) → Here s at NODE p b → read_node Lenient levels brushes none p b ≡ accept x → Part (p + 8 + length b) no_nodes → Part at (node x.self x.below no_nodes)
  unfolding forest_rows
  root-part brushes at p b x h e more n =
      node-flat s k lo hi levels brushes none p b x e at h n NONE
      ∙ ap (λ (l : List (List ℕ)). own_rows k x.self NONE (nodes_in x.below) n ++ (forest_rows k x.below n.nodes (with_node x.self n) ++ l)) (more (with_forest x.below (with_node x.self n)))

  says : Says s Part
  says = record {
    at-end = no-parts;
    texs = λ at p b f h more n. past s k at TEXS p b h (run_past s at TEXS p b h tt) n ∙ more n;
    brus = λ at p b f h more n. past s k at BRUS p b h (run_past s at BRUS p b h tt) n ∙ more n;
    root = root-part;
  }

  pub parts_law : (t : Scene) → parse Lenient s ≡ accept t → flat_rows k start (flat_at s 12) ≡ forest_rows k t.nodes NONE start
  parts_law t e = (file-flat s Part says t e).nodes start

-- ---- table 3

module _ (s : List ℕ) where
  -- no node is open from a place on
  abbrev Outside : ℕ → List Open → Type 0
  Outside at l = (p : ℕ) → at ≤ p → parent_at p l ≡ NONE

  record Tree (at : ℕ) (f : Forest) : Type 0 where
    rows : (l : List Open) (n : Counts) → Outside at l → node_rows l n (flat_at s at) ≡ forest_rows 3 f NONE n
    clean : f ≡ no_nodes → Clean (flat_at s at)

  no-tree : (at : ℕ) → rest s at ≡ rest s (length s) → Tree at no_nodes
  unfolding node_rows forest_rows
  no-tree at e = record { rows = λ l n h. ap (node_rows l n) (end_done s at e); clean = λ _. subst Clean (sym (end_done s at e)) done-clean }

  -- past a chunk that says nothing of nodes
  past-chunk : (t : Tag) → T (not (is t NODE)) → ((p : ℕ) (b : List ℕ) (r : Chunks) → kind_of (chunk t p b r) ≡ kind_of r) → ((p : ℕ) (b : List ℕ) (r : Chunks) → anim_of (chunk t p b r) ≡ anim_of r)
      → ((p : ℕ) (b : List ℕ) (r : Chunks) (l : List Open) (n : Counts) → node_rows l n (chunk t p b r) ≡ node_rows l n r) → (at p : ℕ) (b : List ℕ) (f : Forest) → Here s at t p b → Tree (p + 8 + length b) f → Tree at f
  past-chunk t other kinds anims nodes at p b f h more =
      let r = run_past s at t p b h other in
      record {
        rows = λ l n o. ap (node_rows l n) r ∙ nodes p b _ l n ∙ more.rows l n (λ q k. o q (omega (arith, h.from)));
        clean = λ e. let c = more.clean e in record { kind = ap kind_of r ∙ kinds p b _ ∙ c.kind; anim = ap anim_of r ∙ anims p b _ ∙ c.anim };
      }

  root-tree : (brushes at p : ℕ) (b : List ℕ) (x : Inner) → Here s at NODE p b → read_node Lenient levels brushes none p b ≡ accept x → Tree (p + 8 + length b) no_nodes → Tree at (node x.self x.below no_nodes)
  unfolding forest_rows
  root-tree brushes at p b x h e more = record {
    rows = λ l n o.
        let w = tree-flat s levels brushes none p b x e at h (more.clean refl) l n NONE (o p h.from) in
        let own = own_rows 3 x.self NONE (nodes_in x.below) n in
        let below = forest_rows 3 x.below n.nodes (with_node x.self n) in
        w.is ∙ ap (λ (y : List (List ℕ)). (own ++ below) ++ y) (more.rows w.now (with_forest x.below (with_node x.self n)) (λ q k. w.closed q k ∙ o q (omega (arith, h.from)))) ∙ append_assoc own below [];
    clean = λ z. let y : ◌≡◌ {A = ℕ} 0 1 = cc in absurd (omega arith);
  }

  tree-says : Says s Tree
  unfolding node_rows kind_of anim_of if
  tree-says = record {
    at-end = no-tree;
    texs = past-chunk TEXS tt (λ p b r. refl) (λ p b r. refl) (λ p b r l n. refl);
    brus = past-chunk BRUS tt (λ p b r. refl) (λ p b r. refl) (λ p b r l n. refl);
    root = root-tree;
  }

  none_open : Outside 12 []
  unfolding parent_at
  none_open p h = refl

  pub tree_law : (t : Scene) → parse Lenient s ≡ accept t → node_rows [] start (flat_at s 12) ≡ forest_rows 3 t.nodes NONE start
  tree_law t e = (file-flat s Tree tree-says t e).nodes.rows [] start none_open

-- ---- the ten

abbrev Law : List ℕ → Scene → ℕ → Type 0
Law s t k = file_rows k s ≡ rows k t

module _ (s : List ℕ) (t : Scene) (e : parse Lenient s ≡ accept t) where
  has : Has s (Part s 4 (omega arith) (omega arith)) (says s 4 (omega arith) (omega arith)) 12 (rest s 12) t.textures t.brushes t.nodes
  has = file-flat s (Part s 4 (omega arith) (omega arith)) (says s 4 (omega arith) (omega arith)) t e

  laws : All (Law s t) tables
  unfolding file_rows flat rows if
  laws =
      ten-tables (Law s t) has.texs has.brus (tree_law s t e) (parts_law s 4 (omega arith) (omega arith) t e) (parts_law s 5 (omega arith) (omega arith) t e) (parts_law s 6 (omega arith) (omega arith) t e)
      (parts_law s 7 (omega arith) (omega arith) t e) (parts_law s 8 (omega arith) (omega arith) t e) (parts_law s 9 (omega arith) (omega arith) t e) (parts_law s 10 (omega arith) (omega arith) t e)

-- table k, from 1 to 10, of an accepted file
pub rows_law : (s : List ℕ) (t : Scene) → judge Lenient s ≡ accept t → (k : ℕ) → 1 ≤ k → k ≤ 10 → file_rows k s ≡ rows k t
rows_law s t e k lo hi = table-each (Law s t) (laws s t (judge_got Lenient s t e).0) k lo hi
