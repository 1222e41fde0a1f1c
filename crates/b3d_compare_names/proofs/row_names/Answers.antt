-- `row_names` by its ways.
use borrow.Author.Rules.{rules}
use Rattle.b3d_compare_names.proofs.NameLaws.{names_laws}
use Rattle.b3d_compare_names.proofs.row_names.Goals as goal

pub bounds-x-0 : goal.bounds-x-0
bounds-x-0 c = search (names_laws, rules)

pub bounds-x-1 : goal.bounds-x-1
bounds-x-1 c = search (names_laws, rules)

pub span_of-s-requires : goal.span_of-s-requires
span_of-s-requires c = search (names_laws, rules)

pub bounds-y-0 : goal.bounds-y-0
bounds-y-0 c = search (names_laws, rules)

pub bounds-y-1 : goal.bounds-y-1
bounds-y-1 c = search (names_laws, rules)

pub span_of-t-requires : goal.span_of-t-requires
span_of-t-requires c = search (names_laws, rules)

pub same_text-requires : goal.same_text-requires
same_text-requires c = search (names_laws, rules)

pub returns-then-same_text : goal.returns-then-same_text
returns-then-same_text c = search (names_laws, rules)

pub returns : goal.returns
returns c = search (names_laws, rules)
