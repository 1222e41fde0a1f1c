-- Rows of table 3, some of which have their last cell, the branch word, still to come: 0 stands there.
use Rattle.std.specs.Prelude.{◌≡◌, ℕ, zero, suc, ◌+◌, ◌-◌, ◌<◌, ◌≤◌, List, [], ◌∷◌, ◌++◌, length, get_or, drop, leb}
use Rattle.wire.specs.Test.{if}
use Rattle.wire.specs.Bytes.{word_at}
use Rattle.b3d_spec.specs.Tables.{node_width}

-- a node: the place of its header, the place behind its last byte, and the cells of its row before the branch word
pub record Mark : Type 0 where
  pub head : ℕ
  pub end : ℕ
  pub cells : List ℕ

-- the node m stands in the file s
pub record MarkAt (s : List ℕ) (m : Mark) : Type 0 where
  -- its row has one cell more, the branch word
  pub long : length m.cells + 1 ≡ node_width
  -- its first cell is the place behind the header
  pub name : get_or m.cells 0 0 ≡ m.head + 8
  -- its end is given by the length in the header
  pub end_is : m.end ≡ m.head + 8 + word_at s (m.head + 4)
  -- it ends in the file
  pub within : m.end ≤ length s

-- each of the nodes stands in the file s
abbrev pub MarksAt : List ℕ → List Mark → Type 0
MarksAt s [] = Unit {0}
MarksAt s (m ∷ l) = MarkAt s m × MarksAt s l

-- how many of the nodes come before the first one that begins at place e or later
unfoldable pub marks_before : ℕ → List Mark → ℕ
marks_before e [] = 0
marks_before e (m ∷ l) = if (leb e m.head) 0 (suc (marks_before e l))

-- the cells of the nodes' rows: 0 for the branch words of the first i, the others as they are
unfoldable pub rows_after : ℕ → List Mark → List ℕ
rows_after i [] = []
rows_after zero (m ∷ l) = m.cells ++ (marks_before m.end l ∷ rows_after zero l)
rows_after (suc i) (m ∷ l) = m.cells ++ (0 ∷ rows_after i l)

-- the table `rows` begins with the rows of the nodes l, the first i of them without their branch words, and goes on with `others`
pub record RowsAfter (s : List ℕ) (i : ℕ) (l : List Mark) (others rows : List ℕ) : Type 0 where
  pub is : rows ≡ rows_after i l ++ others
  pub all : MarksAt s l
  pub small : length s < 0x100000000

-- what `store_branch_words` asks: `nodes` rows stand in the table, none with its branch word
pub record Branchless (s rows : List ℕ) (nodes : ℕ) : Type 0 where
  pub marks : List Mark
  pub others : List ℕ
  pub long : length marks ≡ nodes
  pub few : nodes < 0x100000000
  pub rows_are : RowsAfter s nodes marks others rows

-- what `end_of` asks: a node with its name at the place `name` ends in the file s, whose places fit a word
pub record NameAt (s : List ℕ) (name : ℕ) : Type 0 where
  pub behind : 4 ≤ name
  pub before : name ≤ length s
  pub within : name + word_at s (name - 4) ≤ length s
  pub small : length s < 0x100000000

-- what `below` asks: of the rows of `nodes` nodes those behind the node i have their branch words
pub record Halfway (s rows : List ℕ) (nodes i : ℕ) : Type 0 where
  pub marks : List Mark
  pub others : List ℕ
  pub long : length marks ≡ nodes
  pub few : nodes < 0x100000000
  pub low : i < nodes
  pub rows_are : RowsAfter s (suc i) marks others rows

-- the branch word of the first of the nodes, 0 where there is none
abbrev pub first_branch : List Mark → ℕ
first_branch [] = 0
first_branch (m ∷ l) = marks_before m.end l

-- what `below` promises of its answer r
pub record BranchIs (s rows : List ℕ) (nodes i r : ℕ) : Type 0 where
  -- whatever nodes l the rows stand for, r is the branch word of the node i
  pub is : (l : List Mark) (others : List ℕ) → length l ≡ nodes → RowsAfter s (suc i) l others rows → r ≡ first_branch (drop i l)
  -- it is a cell of a table
  pub small : r < 0x100000000

-- what `store_branch_words` does to the table `rows`
pub record Branched (s rows : List ℕ) (nodes : ℕ) (put : List ℕ) : Type 0 where
  -- whatever nodes l the rows stand for, each has its branch word, and the others stay
  pub is : (l : List Mark) (others : List ℕ) → length l ≡ nodes → RowsAfter s nodes l others rows → put ≡ rows_after zero l ++ others
