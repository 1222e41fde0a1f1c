-- `pass_live` takes bytes by the part that stands there.
use borrow.Author.Rules.{rules}
use Rattle.b3d_pieces_skip.proofs.PassLaws.{from-part}
use Rattle.b3d_pieces_skip.proofs.passing.pass_live.Goals as goal

pub pass_text-requires : goal.pass_text-requires
pass_text-requires c = search (from-part, rules)

pub pass_rows-requires : goal.pass_rows-requires
pass_rows-requires c = search (from-part, rules)

pub pass_skip-requires : goal.pass_skip-requires
pass_skip-requires c = search (from-part, rules)
