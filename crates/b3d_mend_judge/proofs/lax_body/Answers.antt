-- `lax_body` judges what follows a file's header, as it is mended.
use Rattle.b3d_mend_judge.proofs.BodyLaws.{body_laws}
use borrow.Author.Rules.{rules}
use Rattle.b3d_mend_judge.proofs.lax_body.Goals as goal

pub number-requires : goal.number-requires
number-requires c = search (body_laws, rules)

pub returns-then-version-gt-HIGHEST_VERSION : goal.returns-then-version-gt-HIGHEST_VERSION
returns-then-version-gt-HIGHEST_VERSION c = search (body_laws, rules)

pub trimmed-d-requires : goal.trimmed-d-requires
trimmed-d-requires c = search (body_laws, rules)

pub lax_chunks-requires : goal.lax_chunks-requires
lax_chunks-requires c = search (body_laws, rules)

pub returns-in_default : goal.returns-in_default
returns-in_default c = search (body_laws, rules)

pub returns : goal.returns
returns c = search (body_laws, rules)
