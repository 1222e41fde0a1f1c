-- `first_word` reads the number that a body begins with.
use Rattle.b3d_chunk_walk.proofs.FirstWordLaws.{head_laws}
use borrow.Author.Rules.{rules}
use Rattle.b3d_chunk_walk.proofs.first_word.Goals as goal

pub overflow_sub-end : goal.overflow_sub-end
overflow_sub-end c = search (head_laws, rules)

pub returns-then-end-at-lt4 : goal.returns-then-end-at-lt4
returns-then-end-at-lt4 c = search (head_laws, rules)

pub number_at-requires : goal.number_at-requires
number_at-requires c = search (head_laws, rules)

pub overflow_add-result : goal.overflow_add-result
overflow_add-result c = search (head_laws, rules)

pub returns : goal.returns
returns c = search (head_laws, rules)
