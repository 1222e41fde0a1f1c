-- Table 3 before its branch words are stored.
use Rattle.std.specs.Prelude.{◌≡◌, ℕ, zero, ◌<◌, ◌≤◌, List, length}
use Rattle.std.proofs.lemmas.List.Edits.{sets}
use Rattle.layout.specs.Rows.{joined}
use Rattle.b3d_spec_plain_rows.specs.Rows.{file_rows}
use Rattle.b3d_read_branch_words.specs.Marks.{Mark, MarksAt, rows_after}

-- what `store_bare_rows` does to a table out₀ for the file s: `nodes` rows stand in it, with 0 for their branch words
pub record Bare (s out₀ out : List ℕ) (nodes : ℕ) : Type 0 where
  -- the nodes of the file
  pub marks : List Mark
  -- they are `nodes` nodes
  pub long : length marks ≡ nodes
  -- their number fits a word
  pub few : nodes < 0x100000000
  -- as places in the file do
  pub small : length s < 0x100000000
  -- each stands in the file
  pub all : MarksAt s marks
  -- the table has room for their rows
  pub room : length (joined (file_rows 3 s)) ≤ length out₀
  -- with their branch words the rows are those of table 3
  pub rows : joined (file_rows 3 s) ≡ rows_after zero marks
  -- without them they are stored
  pub stores : out ≡ sets out₀ 0 (rows_after nodes marks)
