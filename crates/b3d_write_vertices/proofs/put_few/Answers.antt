-- `put_few` writes so many words, by their number.
use Rattle.shared_output.proofs.PartLaws.{same_laws}
use Rattle.b3d_write_row_runs.proofs.PresentWordLaws.{few_laws}
use Rattle.b3d_write_vertices.proofs.VertexLaws.{four_laws}
use borrow.Author.Rules.{rules}
use Rattle.b3d_write_vertices.proofs.put_few.Goals as goal

pub put_words-requires : goal.put_words-requires
put_words-requires c = search (same_laws, few_laws, four_laws, rules)

pub put_words-requires-in-1 : goal.put_words-requires-in-1
put_words-requires-in-1 c = search (same_laws, few_laws, four_laws, rules)

pub put_words-requires-in-2 : goal.put_words-requires-in-2
put_words-requires-in-2 c = search (same_laws, few_laws, four_laws, rules)

pub put_words-requires-in-3 : goal.put_words-requires-in-3
put_words-requires-in-3 c = search (same_laws, few_laws, four_laws, rules)

pub put_words-requires-in_default : goal.put_words-requires-in_default
put_words-requires-in_default c = search (same_laws, few_laws, four_laws, rules)

pub shape_of-out-in-0 : goal.shape_of-out-in-0
shape_of-out-in-0 c = search (same_laws, few_laws, four_laws, rules)

pub returns-in-0 : goal.returns-in-0
returns-in-0 c = search (same_laws, few_laws, four_laws, rules)

pub shape_of-out-in-1 : goal.shape_of-out-in-1
shape_of-out-in-1 c = search (same_laws, few_laws, four_laws, rules)

pub returns-in-1 : goal.returns-in-1
returns-in-1 c = search (same_laws, few_laws, four_laws, rules)

pub shape_of-out-in-2 : goal.shape_of-out-in-2
shape_of-out-in-2 c = search (same_laws, few_laws, four_laws, rules)

pub returns-in-2 : goal.returns-in-2
returns-in-2 c = search (same_laws, few_laws, four_laws, rules)

pub shape_of-out-in-3 : goal.shape_of-out-in-3
shape_of-out-in-3 c = search (same_laws, few_laws, four_laws, rules)

pub returns-in-3 : goal.returns-in-3
returns-in-3 c = search (same_laws, few_laws, four_laws, rules)

pub shape_of-out-in_default : goal.shape_of-out-in_default
shape_of-out-in_default c = search (same_laws, few_laws, four_laws, rules)

pub returns-in_default : goal.returns-in_default
returns-in_default c = search (same_laws, few_laws, four_laws, rules)
