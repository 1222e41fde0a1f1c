-- Lines that the lister prints, from the rows of a table of nodes.
use Rattle.std.specs.Prelude.{ℕ, zero, suc, List, [], ◌∷◌, ◌++◌, drop, get_or}
use Rattle.b3d_spec.specs.Tables.{node_width}
use Rattle.b3d_spec.specs.Columns as columns
use Rattle.b3d_list_name.specs.Name.{name_or}
use Rattle.b3d_list_text.specs.Text.{text_line}

-- the word `unnamed`, which 01 prints for an empty name
abbrev pub unnamed : List ℕ
unnamed = 117 ∷ 110 ∷ 110 ∷ 97 ∷ 109 ∷ 101 ∷ 100 ∷ []

-- the line of the node row that the words ws begin with: its first two cells are place and length of a name in s
unfoldable pub row_line : List ℕ → List ℕ → List ℕ
row_line s ws = text_line (name_or s unnamed (get_or ws columns.name_place 0) (get_or ws columns.name_length 0))

-- the lines of the first n node rows of the words ws, with names in s
unfoldable pub row_lines : List ℕ → List ℕ → ℕ → List ℕ
row_lines s ws zero = []
row_lines s ws (suc n) = row_line s ws ++ row_lines s (drop node_width ws) n
