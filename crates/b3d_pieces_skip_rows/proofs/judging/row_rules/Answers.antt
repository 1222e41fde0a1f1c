-- `row_rules` says what a row asks.
use borrow.Author.Rules.{rules}
use Rattle.b3d_pieces_skip_rows.proofs.JudgedLaws.{rules_are}
use Rattle.b3d_pieces_skip_rows.proofs.judging.row_rules.Goals as goal

pub returns : goal.returns
returns c = search (rules_are, rules)
