-- `tag_by` is the tag by its number.
use Rattle.b3d_pieces_state.proofs.RecordLaws.{tag_laws}
use borrow.Author.Rules.{rules}
use Rattle.b3d_pieces_state.proofs.records.tag_by.Goals as goal

pub returns-in-0 : goal.returns-in-0
returns-in-0 c = search (tag_laws, rules)

pub returns-in-1 : goal.returns-in-1
returns-in-1 c = search (tag_laws, rules)

pub returns-in-2 : goal.returns-in-2
returns-in-2 c = search (tag_laws, rules)

pub returns-in-3 : goal.returns-in-3
returns-in-3 c = search (tag_laws, rules)

pub returns-in-4 : goal.returns-in-4
returns-in-4 c = search (tag_laws, rules)

pub returns-in-5 : goal.returns-in-5
returns-in-5 c = search (tag_laws, rules)

pub returns-in-6 : goal.returns-in-6
returns-in-6 c = search (tag_laws, rules)

pub returns-in-7 : goal.returns-in-7
returns-in-7 c = search (tag_laws, rules)

pub returns-in-8 : goal.returns-in-8
returns-in-8 c = search (tag_laws, rules)

pub returns-in_default : goal.returns-in_default
returns-in_default c = search (tag_laws, rules)
