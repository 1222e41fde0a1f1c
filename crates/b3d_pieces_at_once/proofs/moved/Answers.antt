-- `moved` takes bytes by what stands in the state.
use borrow.Author.Rules.{rules}
use Rattle.b3d_pieces_at_once.proofs.OnceLaws.{any_laws}
use Rattle.b3d_pieces_at_once.proofs.moved.Goals as goal

pub returns-then-n-eq0 : goal.returns-then-n-eq0
returns-then-n-eq0 c = search (any_laws, rules)

pub text_on-requires : goal.text_on-requires
text_on-requires c = search (any_laws, rules)

pub row_on-requires : goal.row_on-requires
row_on-requires c = search (any_laws, rules)

pub skip_on-requires : goal.skip_on-requires
skip_on-requires c = search (any_laws, rules)

pub counted-requires : goal.counted-requires
counted-requires c = search (any_laws, rules)

pub returns-in_default : goal.returns-in_default
returns-in_default c = search (any_laws, rules)
