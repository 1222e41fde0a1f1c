-- The row that an item of a text and words makes, and the first chunk of a tag in a file.
use Rattle.std.specs.Prelude as std
use Rattle.b3d_chunk_walk.specs.declared.Sought.{Sought}
use Rattle.std.specs.Prelude.{◌≡◌, ℕ, List, ◌++◌, replicate, Some}
use Rattle.layout.specs.Parts.{Name}
use Rattle.layout.specs.Rules.{NONE}
use Rattle.layout.specs.Rows.{name_cells}
use Rattle.wire.specs.declared.Cursor.{Cursor}
use Rattle.b3d_spec.specs.declared.Tag.{Tag}
use Rattle.b3d_spec_plain_rows.specs.Flat.{rest}
use Rattle.b3d_chunk_walk.specs.Seeks.{seek_of, sought_of}
use Rattle.b3d_chunk_walk.specs.Walks.{BodyAt}

-- the row of an item x: its name's place and length, its words, and `rest` cells of NONE
unfoldable pub named_row : ℕ → Name × List ℕ → List ℕ
named_row rest x = name_cells x.0 ++ (x.1 ++ replicate rest NONE)

-- what `first_chunk` promises of its answer r for tag k in the file s
pub record FirstIs (s : List ℕ) (k : Tag) (r : std.Option Sought) : Type 0 where
  -- r is the first chunk of tag k from place 12 on, and what stands after it
  pub says : seek_of k (rest s 12) ≡ sought_of s k r
  -- the body of the chunk found lies in the file
  pub body : (f : Sought) → r ≡ Some f → BodyAt s f.at f.body
