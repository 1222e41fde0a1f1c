-- `groups_valid` looks at each row with its items. The loop has passed those before i.
use Rattle.std.proofs.Common.{ap, not, eq-eqb}
use Rattle.b3d_check_row_runs.proofs.GroupLaws.{runs_next, runs_laws}
use borrow.Author.Rules.{rules}
use Rattle.b3d_check_row_runs.proofs.groups_valid.Goals as goal

pub overflow_add-i-end : goal.overflow_add-i-end
overflow_add-i-end c = search (runs_laws, rules)

pub loop-i-init : goal.loop-i-init
loop-i-init c = search (runs_laws, rules)

pub overflow_mul-i : goal.overflow_mul-i
overflow_mul-i c = search (runs_laws, rules)

pub cell-to-requires : goal.cell-to-requires
cell-to-requires c = search (runs_laws, rules)

pub overflow_mul-i-in-loop-i : goal.overflow_mul-i-in-loop-i
overflow_mul-i-in-loop-i c = search (runs_laws, rules)

pub overflow_add-i-in-loop-i : goal.overflow_add-i-in-loop-i
overflow_add-i-in-loop-i c = search (runs_laws, rules)

pub cell-many-requires : goal.cell-many-requires
cell-many-requires c = search (runs_laws, rules)

pub returns-then-not-to-r : goal.returns-then-not-to-r
returns-then-not-to-r c = search (runs_laws, rules)

pub overflow_sub-total : goal.overflow_sub-total
overflow_sub-total c = search (runs_laws, rules)

pub returns-then-total-r : goal.returns-then-total-r
returns-then-total-r c = search (runs_laws, rules)

pub group_valid-requires : goal.group_valid-requires
group_valid-requires c = search (runs_laws, rules)

pub returns-then-not-group_valid : goal.returns-then-not-group_valid
returns-then-not-group_valid c = search (runs_laws, rules)

pub overflow_add-r : goal.overflow_add-r
overflow_add-r c = search (runs_laws, rules)

pub loop-i-preserved : goal.loop-i-preserved
loop-i-preserved c = runs_next _ _ _ _ _ _ _ _ _ _ _ c.loop-i.invariant c.loop-i-test.true _ _
    c.cell-to.ensures c.cell-many.ensures (ap not (eq-eqb _ _ c.if-not-to-r.false)) c.if-total-r.false _
    c.group_valid.ensures (ap not c.if-not-group_valid.false)

pub returns : goal.returns
returns c = search (runs_laws, rules)
