-- `every` lets no number be passed over.
use borrow.Author.Rules.{rules}
use Rattle.b3d_pieces_skip_rows.proofs.JudgedLaws.{every-row}
use Rattle.b3d_pieces_skip_rows.proofs.judging.every.Goals as goal

pub returns : goal.returns
returns c = search (every-row, rules)
