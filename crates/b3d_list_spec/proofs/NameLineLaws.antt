-- The rows of the table of nodes give the nodes' lines; and how many nodes a file has at most.
use mathlib.Core.Path.{◌≡◌, refl, ap, ap₂, sym, ◌∙◌}
use Prim.Native.Nat.{ℕ, zero, suc, ◌+◌, ◌-◌, ◌*◌, ◌≤◌}
use native.Mathlib.Omega.{arith}
use mathlib.Core.Option.{Option, none}
use mathlib.Core.List.{List, [], ◌∷◌, ◌++◌, append_assoc, append-nil}
use lib.ListN.{length, drop, length-append, length-drop}
use lib.Seq.{take-append_seam, drop_at}
use borrow.Author.Tests.{le-leb, lt-ltb}
use Rattle.wire.specs.Test.{if}
use Rattle.wire.specs.Bytes.{AllBytes, over}
use Rattle.layout.specs.Result.{accept}
use Rattle.layout.specs.Rules.{NONE}
use Rattle.layout.proofs.PlaceLaws.{At, NameIn}
use Rattle.layout.proofs.ListLaws.{joined-append}
use Rattle.layout.specs.Rows.{name_cells, joined}
use Rattle.b3d_spec.specs.Parse.{parse}
use Rattle.b3d_spec.specs.declared.Mode.TheVariants.{Strict}
use Rattle.b3d_spec.specs.Rules.{bone_limit, bone_limit_below, levels}
use Rattle.b3d_spec.specs.Scene.{Data, Forest, no_nodes, node, Scene}
use Rattle.b3d_spec.specs.Sizes.{nodes_size, size_of}
use Rattle.b3d_spec.specs.Tables.{width, tables, node_tables, node_row, start, own_rows, with_node, with_forest, forest_rows, rows, table, node_width, nodes_in}
use Rattle.b3d_spec.specs.declared.Counts.{Counts}
use Rattle.b3d_spec.proofs.WellFormedLaws.{WellFormed, FitNodes}
use Rattle.b3d_spec.proofs.Laws.{fine, file-length, names_stand}
use Rattle.b3d_spec.proofs.Files.PlaceLaws.{NodeNames}
use Rattle.b3d_spec.proofs.Rows.CountLaws.{table_length}
use Rattle.b3d_spec.proofs.Rows.RowPartLaws.{node_wide}
use Rattle.b3d_list_name.specs.Name.{name_or}
use Rattle.b3d_list_text.specs.Text.{text_line}
use Rattle.b3d_list_spec.specs.Listing.{most_listed, name_or_word, node_lines}
use Rattle.b3d_list_lines.specs.Lines.{unnamed, row_line, row_lines}

-- a name that stands in the file is found there
name-found : (s : List ℕ) (p : ℕ) (b : List ℕ) → At s p (b ++ 0 ∷ []) → name_or s unnamed p (length b) ≡ name_or_word b
unfolding name_or name_or_word if
name-found s p [] h = refl
name-found s p (c ∷ b) h =
    let e : drop p s ≡ (c ∷ b) ++ (0 ∷ h.after) = h.stands ∙ append_assoc (c ∷ b) (0 ∷ []) h.after in
    let l : length s - p ≡ length (c ∷ b) + suc (length h.after) = sym (length-drop p s) ∙ ap length e ∙ length-append (c ∷ b) (0 ∷ h.after) in
    rw (lt-ltb 0 (length (c ∷ b)) (omega arith), le-leb (p + length (c ∷ b)) (length s) (omega arith), e) (take-append_seam (c ∷ b) (0 ∷ h.after))

-- the line of a node's row, with what follows the row
row_first : (s : List ℕ) (d : Data) (p below : ℕ) (n : Counts) (more : List ℕ) → NameIn s d.name → row_line s (node_row d p below n ++ more) ≡ text_line (name_or_word d.name.bytes)
unfolding row_line node_row name_cells
row_first s d p below n more h = ap text_line (name-found s d.name.place d.name.bytes h)

lines_next : (s r more : List ℕ) (k : ℕ) → length r ≡ node_width → row_lines s (r ++ more) (suc k) ≡ row_line s (r ++ more) ++ row_lines s more k
unfolding row_lines
lines_next s r more k e = rw (drop_at r more node_width e)

-- the lines of the rows of nodes, before those of rows that follow
forest_lines : (s : List ℕ) (l brushes : ℕ) (above : Option ℕ) (f : Forest) (p : ℕ) (n : Counts) (rest : List ℕ) (m : ℕ) → NodeNames s f → FitNodes l brushes above f
    → row_lines s (joined (forest_rows 3 f p n) ++ rest) (length (forest_rows 3 f p n) + m) ≡ node_lines f ++ row_lines s rest m
unfolding forest_rows own_rows if joined node_lines
forest_lines s zero brushes above no_nodes p n rest m h k = let z : 0 + m ≡ m = omega arith in rw z
forest_lines s zero brushes above (node d f g) p n rest m h k = absurd k
forest_lines s (suc l) brushes above no_nodes p n rest m h k = let z : 0 + m ≡ m = omega arith in rw z
forest_lines s (suc l) brushes above (node d f g) p n rest m h k =
    let r = node_row d p (nodes_in f) n in
    let a = forest_rows 3 f n.nodes (with_node d n) in
    let b = forest_rows 3 g p (with_forest f (with_node d n)) in
    let more = joined a ++ (joined b ++ rest) in
    let e : (r ++ joined (a ++ b)) ++ rest ≡ r ++ more = rw joined-append (simp append_assoc) in
    let c : suc (length (a ++ b)) + m ≡ suc (length a + (length b + m)) = omega (arith, length-append a b) in
    ap₂ (row_lines s) e c
    ∙ lines_next s r more (length a + (length b + m)) (node_wide brushes (bone_limit above) d p (nodes_in f) n k.0)
    ∙ ap₂ ◌++◌ (row_first s d p (nodes_in f) n more h.0)
    (forest_lines s l brushes (bone_limit_below above d) f n.nodes (with_node d n) (joined b ++ rest) (length b + m) h.1 k.1
    ∙ ap (λ (w : List ℕ). node_lines f ++ w) (forest_lines s (suc l) brushes above g p (with_forest f (with_node d n)) rest m h.2 k.2))
    ∙ simp append_assoc

-- a node takes 49 bytes of the file or more, and those of its name
forest-count : (f : Forest) (p : ℕ) (n : Counts) → 49 * length (forest_rows 3 f p n) ≤ nodes_size f
unfolding forest_rows own_rows if
forest-count no_nodes p n = omega arith
forest-count (node d f g) p n =
    let a = forest_rows 3 f n.nodes (with_node d n) in
    let b = forest_rows 3 g p (with_forest f (with_node d n)) in
    omega (arith, length-append a b, forest-count f n.nodes (with_node d n), forest-count g p (with_forest f (with_node d n)))

module _ (s : List ℕ) (t : Scene) (h : AllBytes s) (e : parse Strict s ≡ accept t) where
  pub fits : WellFormed t
  fits = (fine Strict s t h e).0

  -- the nodes in bytes of the file
  pub nodes-bytes : nodes_size t.nodes + 12 ≤ length s
  unfolding size_of
  nodes-bytes = let l = (fine Strict s t h e).1 in omega (arith, file-length t fits)

  pub nodes-count : 49 * length (rows 3 t) ≤ length s
  unfolding rows if
  nodes-count = omega (arith, nodes-bytes, forest-count t.nodes NONE start)

  pub table_room : length s ≤ most_listed → length (table 3 t) ≤ 28077
  unfolding tables node_tables width if
  table_room k = omega (arith, (table_length t fits).1.1.0, nodes-count)

  -- the table of the nodes gives their lines
  pub table_lines : (xs : List ℕ) → row_lines s (over (table 3 t) xs) (length (rows 3 t)) ≡ node_lines t.nodes
  unfolding over table rows if row_lines
  table_lines xs =
      let r = forest_rows 3 t.nodes NONE start in
      let z : length r ≡ length r + 0 = omega arith in
      ap (row_lines s (joined r ++ drop (length (joined r)) xs)) z
      ∙ forest_lines s levels (length t.brushes) none t.nodes NONE start (drop (length (joined r)) xs) 0 (names_stand Strict s t e).nodes fits.nodes
      ∙ append-nil (node_lines t.nodes)
