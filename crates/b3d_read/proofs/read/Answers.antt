-- `read` answers, and leaves in the tables, what the definition says. Facts that lie far back are named.
use Rattle.b3d_read.proofs.ReadLaws.{read_laws}
use borrow.Author.Rules.{rules}
use Rattle.b3d_read.proofs.read.Goals as goal

pub answer_for-answer-requires : goal.answer_for-answer-requires
answer_for-answer-requires c = search (read_laws, rules)

pub returns-then-answer-ne0 : goal.returns-then-answer-ne0
returns-then-answer-ne0 c = search (read_laws, rules)

pub are_bytes-requires : goal.are_bytes-requires
are_bytes-requires c = search (read_laws, rules)

pub store_tables-requires : goal.store_tables-requires
store_tables-requires c = let answered = c.answer_for-answer.ensures in let accepted = c.if-answer-ne0.false in let bytes = c.are_bytes.ensures in search read_laws

pub shape_of-t1 : goal.shape_of-t1
shape_of-t1 c = search

pub shape_of-t2 : goal.shape_of-t2
shape_of-t2 c = search

pub shape_of-t3 : goal.shape_of-t3
shape_of-t3 c = search

pub shape_of-t4 : goal.shape_of-t4
shape_of-t4 c = search

pub shape_of-t5 : goal.shape_of-t5
shape_of-t5 c = search

pub shape_of-t6 : goal.shape_of-t6
shape_of-t6 c = search

pub shape_of-t7 : goal.shape_of-t7
shape_of-t7 c = search

pub shape_of-t8 : goal.shape_of-t8
shape_of-t8 c = search

pub shape_of-t9 : goal.shape_of-t9
shape_of-t9 c = search

pub shape_of-t10 : goal.shape_of-t10
shape_of-t10 c = search

pub returns : goal.returns
returns c = let answered = c.answer_for-answer.ensures in let accepted = c.if-answer-ne0.false in let bytes = c.are_bytes.ensures in let filled = c.store_tables.ensures in search read_laws
