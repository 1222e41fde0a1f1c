-- `judge_body` judges what follows a file's header.
use Rattle.b3d_judge_file_body.proofs.BodyLaws.{body_laws}
use borrow.Author.Rules.{rules}
use Rattle.b3d_judge_file_body.proofs.judge_body.Goals as goal

pub number-requires : goal.number-requires
number-requires c = search (body_laws, rules)

pub returns-then-version-gt-HIGHEST_VERSION : goal.returns-then-version-gt-HIGHEST_VERSION
returns-then-version-gt-HIGHEST_VERSION c = search (body_laws, rules)

pub judge_chunks-requires : goal.judge_chunks-requires
judge_chunks-requires c = search (body_laws, rules)

pub returns-in_default : goal.returns-in_default
returns-in_default c = search (body_laws, rules)

pub returns : goal.returns
returns c = search (body_laws, rules)
