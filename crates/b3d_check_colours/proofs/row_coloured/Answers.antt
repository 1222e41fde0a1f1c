-- `row_coloured` answers `coloured` of the row by its cells.
use Rattle.b3d_check_colours.proofs.ColourRowLaws.{coloured-row}
use borrow.Author.Rules.{rules}
use Rattle.b3d_check_colours.proofs.row_coloured.Goals as goal

pub returns : goal.returns
returns c = search (coloured-row, rules)
