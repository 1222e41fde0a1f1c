-- `parent_at` goes up from the last row to one that is open. Its measure is how many rows are left.
use Rattle.b3d_read_node_parents.proofs.ParentLaws.{climb_less, climb_fits, climb_up, climb_laws}
use borrow.Author.Rules.{rules}
use Rattle.b3d_read_node_parents.proofs.parent_at.Goals as goal

pub loop-i-init : goal.loop-i-init
loop-i-init c = search (climb_laws, rules)

pub overflow_sub-row : goal.overflow_sub-row
overflow_sub-row c = search (climb_laws, rules)

pub overflow_mul-row : goal.overflow_mul-row
overflow_mul-row c = search (climb_laws, rules)

pub offset_bounds-rows-row : goal.offset_bounds-rows-row
offset_bounds-rows-row c = search (climb_laws, rules)

pub bounds-rows-row : goal.bounds-rows-row
bounds-rows-row c = search (climb_laws, rules)

pub size-name-requires : goal.size-name-requires
size-name-requires c = search (climb_laws, rules)

pub overflow_sub-name : goal.overflow_sub-name
overflow_sub-name c = search (climb_laws, rules)

pub number_at-requires : goal.number_at-requires
number_at-requires c = search (climb_laws, rules)

pub size-long-requires : goal.size-long-requires
size-long-requires c = search (climb_laws, rules)

pub overflow_add-name : goal.overflow_add-name
overflow_add-name c = search (climb_laws, rules)

pub overflow_sub-i : goal.overflow_sub-i
overflow_sub-i c = search (climb_laws, rules)

pub cell-requires : goal.cell-requires
cell-requires c = search (climb_laws, rules)

pub returns-then-p-name : goal.returns-then-p-name
returns-then-p-name c = search (climb_laws, rules)

pub overflow_add-above : goal.overflow_add-above
overflow_add-above c = search (climb_laws, rules)

pub offset_bounds-rows-row-in-loop-i : goal.offset_bounds-rows-row-in-loop-i
offset_bounds-rows-row-in-loop-i c = search (climb_laws, rules)

pub bounds-rows-row-in-loop-i : goal.bounds-rows-row-in-loop-i
bounds-rows-row-in-loop-i c = search (climb_laws, rules)

pub returns-then-above : goal.returns-then-above
returns-then-above c = search (climb_laws, rules)

pub size-i-requires : goal.size-i-requires
size-i-requires c = search (climb_laws, rules)

pub overflow_add-i : goal.overflow_add-i
overflow_add-i c = search (climb_fits)

pub loop-i-smaller : goal.loop-i-smaller
loop-i-smaller c = search (climb_less)

pub loop-i-preserved : goal.loop-i-preserved
loop-i-preserved c = search (climb_up)

pub returns : goal.returns
returns c = search (climb_laws, rules)
