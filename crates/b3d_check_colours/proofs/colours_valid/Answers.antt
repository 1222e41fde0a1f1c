-- `colours_valid` answers what the mode asks of brushes and vertices.
use Rattle.b3d_check_colours.proofs.ColourModeLaws.{colours_laws}
use borrow.Author.Rules.{rules}
use Rattle.b3d_check_colours.proofs.colours_valid.Goals as goal

pub returns-then-not-rows_coloured : goal.returns-then-not-rows_coloured
returns-then-not-rows_coloured c = search (colours_laws, rules)

pub returns-in-Lenient : goal.returns-in-Lenient
returns-in-Lenient c = search (colours_laws, rules)

pub returns-else-not-rows_coloured : goal.returns-else-not-rows_coloured
returns-else-not-rows_coloured c = search (colours_laws, rules)
