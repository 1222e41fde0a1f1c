-- The bytes of a row, by groups of cells: the words that are there, from a word of the table on.
use Rattle.std.specs.Prelude.{ℕ, ◌+◌, List, [], ◌++◌, take, drop}
use Rattle.layout.specs.Write.{write_words}
use Rattle.b3d_spec.specs.Rebuild.{cut}
use Rattle.b3d_rule_row_masks.specs.declared.RowRuns.{RowRuns}
use Rattle.b3d_write_row_runs.specs.Lent.{each_row}

-- the first `size` words of each of `sets` sets of four cells, from word `base` of ws on
unfoldable pub sets_bytes : ℕ → ℕ → List ℕ → ℕ → List ℕ
sets_bytes sets size ws base = each_row (λ x. write_words (take size x) []) (cut 4 sets (drop base ws))

-- the first two groups of the row at word `base` of ws: `head` words, then `three` of three cells
unfoldable pub front_bytes : ℕ → ℕ → List ℕ → ℕ → List ℕ
front_bytes head three ws base = write_words (take head (drop base ws)) [] ++ write_words (take three (drop (base + head) ws)) []

-- the groups of g after the first two, from word `base` of ws on: `some` words of `wide` cells, then the sets
unfoldable pub back_bytes : RowRuns → List ℕ → ℕ → List ℕ
back_bytes g ws base = write_words (take g.some (drop base ws)) [] ++ sets_bytes g.sets g.size ws (base + g.wide)

-- the bytes of the row at word `base` of ws, as the groups g have it
unfoldable pub row_bytes : RowRuns → List ℕ → ℕ → List ℕ
row_bytes g ws base = front_bytes g.head g.three ws base ++ back_bytes g ws (base + g.head + 3)
