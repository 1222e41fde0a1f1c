-- `copy_bytes` writes byte by byte. The loop has written i of them.
use Rattle.shared_output.proofs.OutputLaws.{copy_laws}
use borrow.Author.Rules.{rules}
use Rattle.shared_output.proofs.copy_bytes.Goals as goal

pub loop-i-init : goal.loop-i-init
loop-i-init c = search (copy_laws, rules)

pub overflow_add-out : goal.overflow_add-out
overflow_add-out c = search (copy_laws, rules)

pub bounds-src-from : goal.bounds-src-from
bounds-src-from c = search (copy_laws, rules)

pub bounds-out-i : goal.bounds-out-i
bounds-out-i c = search (copy_laws, rules)

pub loop-i-preserved : goal.loop-i-preserved
loop-i-preserved c = search (copy_laws, rules)

pub shape_of-out : goal.shape_of-out
shape_of-out c = search (copy_laws, rules)

pub returns : goal.returns
returns c = search (copy_laws, rules)
