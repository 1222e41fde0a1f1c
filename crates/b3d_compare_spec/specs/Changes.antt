-- What differs between two scenes: cell by cell of their tables, names by their texts. A row is its words and the file that holds its name.
use Rattle.std.specs.Prelude.{ℕ, zero, suc, ◌+◌, Bool, true, false, List, [], ◌∷◌, ◌++◌, get_or, eqb}
use Rattle.wire.specs.Test.{if}
use Rattle.b3d_spec.specs.Rebuild.{same, name_from}
use Rattle.b3d_spec.specs.Scene.{Scene}
use Rattle.b3d_spec.specs.Tables.{rows, tables, counts}
use Rattle.b3d_compare_spec.specs.declared.WordKind.{WordKind}
use Rattle.b3d_compare_spec.specs.declared.WordKind.TheVariants.{Whole, Float, Name, Length}
use Rattle.b3d_compare_spec.specs.Words.{kind_at, words_of}

-- ---- cells

pub data Cell : Type 0 where
  -- a whole number, or a float by its bits
  number : ℕ → Cell
  -- a name by its bytes, as word 0
  text : List ℕ → Cell
  -- a name's length, as word 1: it is told with the name
  told : Cell

unfoldable pub same_cell : Cell → Cell → Bool
same_cell (number a) (number b) = eqb a b
same_cell (number a) (text b) = false
same_cell (number a) told = false
same_cell (text a) (number b) = false
same_cell (text a) (text b) = same a b
same_cell (text a) told = false
same_cell told (number b) = false
same_cell told (text b) = false
same_cell told told = true

-- word w of the row x, of file s
unfoldable pub cell_of : WordKind → List ℕ → List ℕ → ℕ → Cell
cell_of Whole s x w = number (get_or x w 0)
cell_of Float s x w = number (get_or x w 0)
cell_of Name s x w = text (name_from s x).bytes
cell_of Length s x w = told

-- of table k
unfoldable pub cell_at : ℕ → List ℕ → List ℕ → ℕ → Cell
cell_at k s x w = cell_of (kind_at k w) s x w

-- ---- what differs

-- a cell that differs: its table, row and word, and the two cells, the first file's first
pub record Change : Type 0 where
  pub table : ℕ
  pub row : ℕ
  pub word : ℕ
  pub first : Cell
  pub second : Cell

-- rows x and y of table k, of files a and b, are both row r
module _ (k : ℕ) (a b : List ℕ) where
  -- n words from w on
  unfoldable pub word_changes : ℕ → List ℕ → List ℕ → ℕ → ℕ → List Change
  word_changes r x y w zero = []
  word_changes r x y w (suc n) =
      let rest = word_changes r x y (w + 1) n in
      if (same_cell (cell_at k a x w) (cell_at k b y w)) rest (record { table = k; row = r; word = w; first = cell_at k a x w; second = cell_at k b y w } ∷ rest)

  unfoldable pub row_changes : ℕ → List ℕ → List ℕ → List Change
  row_changes r x y = word_changes r x y 0 (words_of k)

  -- rows xs and ys, from row r on
  unfoldable pub table_changes : ℕ → List (List ℕ) → List (List ℕ) → List Change
  table_changes r [] ys = []
  table_changes r (x ∷ xs) [] = []
  table_changes r (x ∷ xs) (y ∷ ys) = row_changes r x y ++ table_changes (r + 1) xs ys

-- version, n_texs and the ten counts
unfoldable pub twelve : Scene → List ℕ
twelve t = t.version ∷ t.slots ∷ counts t

-- the rows of table k; table 0 has one, the twelve
unfoldable pub rows_of : ℕ → Scene → List (List ℕ)
rows_of k t = if (eqb k 0) (twelve t ∷ []) (rows k t)

-- the first list, if there is anything in it; else the second
unfoldable pub first_or : List Change → List Change → List Change
first_or [] l = l
first_or (c ∷ cs) l = c ∷ cs

-- the scenes t and u of files a and b
module _ (a b : List ℕ) (t u : Scene) where
  -- in these tables
  unfoldable pub changes_in : List ℕ → List Change
  changes_in [] = []
  changes_in (k ∷ ks) = table_changes k a b 0 (rows_of k t) (rows_of k u) ++ changes_in ks

  -- those of the twelve and no more; where there are none, those of all cells
  unfoldable pub changes : List Change
  changes = first_or (changes_in (0 ∷ [])) (changes_in tables)
