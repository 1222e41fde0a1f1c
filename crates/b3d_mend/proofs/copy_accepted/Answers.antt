-- `copy_accepted` looks whether both have room, and copies the file.
use Rattle.b3d_mend.proofs.MendLaws.{copy_laws}
use borrow.Author.Rules.{rules}
use Rattle.b3d_mend.proofs.copy_accepted.Goals as goal

pub answer_of_both-answer-requires : goal.answer_of_both-answer-requires
answer_of_both-answer-requires c = search (copy_laws, rules)

pub returns-then-answer-ne0 : goal.returns-then-answer-ne0
returns-then-answer-ne0 c = search (copy_laws, rules)

pub copy_bytes-requires : goal.copy_bytes-requires
copy_bytes-requires c = search (copy_laws, rules)

pub returns : goal.returns
returns c = search (copy_laws, rules)
