-- `mend_faults` judges the file, and writes where it can be mended.
use Rattle.b3d_mend.proofs.MendLaws.{mend_laws}
use borrow.Author.Rules.{rules}
use Rattle.b3d_mend.proofs.mend_faults.Goals as goal

pub cell-requires : goal.cell-requires
cell-requires c = search (mend_laws, rules)

pub put_both-requires : goal.put_both-requires
put_both-requires c = search (mend_laws, rules)

pub returns-in-Err-clause-value : goal.returns-in-Err-clause-value
returns-in-Err-clause-value c = search (mend_laws, rules)

pub returns-in-Err-clause-out_after : goal.returns-in-Err-clause-out_after
returns-in-Err-clause-out_after c = search (mend_laws, rules)

pub returns-in-Err-clause-report_after : goal.returns-in-Err-clause-report_after
returns-in-Err-clause-report_after c = search (mend_laws, rules)
