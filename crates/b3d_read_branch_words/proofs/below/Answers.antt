-- `below` passes nodes until one begins at the end or behind it. Its measure is how many are left.
use Prim.Native.Nat.{◌-◌}
use Rattle.b3d_read_branch_words.proofs.BranchLaws.{turn_name, turn_one, jump_fits, jump_to, turn_jump, below_laws}
use borrow.Author.Rules.{rules}
use Rattle.b3d_read_branch_words.proofs.below.Goals as goal

pub overflow_mul-i : goal.overflow_mul-i
overflow_mul-i c = search (below_laws, rules)

pub offset_bounds-rows-i : goal.offset_bounds-rows-i
offset_bounds-rows-i c = search (below_laws, rules)

pub bounds-rows-i : goal.bounds-rows-i
bounds-rows-i c = search (below_laws, rules)

pub size-requires : goal.size-requires
size-requires c = search (below_laws, rules)

pub end_of-end-requires : goal.end_of-end-requires
end_of-end-requires c = search (below_laws, rules)

pub overflow_add-j : goal.overflow_add-j
overflow_add-j c = search (below_laws, rules)

pub loop-j-init : goal.loop-j-init
loop-j-init c = search (below_laws, rules)

pub overflow_mul-row : goal.overflow_mul-row
overflow_mul-row c = search (below_laws, rules)

pub offset_bounds-rows-row : goal.offset_bounds-rows-row
offset_bounds-rows-row c = search (below_laws, rules)

pub bounds-rows-row : goal.bounds-rows-row
bounds-rows-row c = search (below_laws, rules)

pub size-name-requires : goal.size-name-requires
size-name-requires c = search (below_laws, rules)

pub overflow_add-end : goal.overflow_add-end
overflow_add-end c = search (below_laws, rules)

pub overflow_add-result : goal.overflow_add-result
overflow_add-result c = search (below_laws, rules)

pub overflow_sub-result : goal.overflow_sub-result
overflow_sub-result c = search (below_laws, rules)

pub returns-then-end-name : goal.returns-then-end-name
returns-then-end-name c = search (below_laws, rules)

pub overflow_add-row : goal.overflow_add-row
overflow_add-row c = search (below_laws, rules)

pub offset_bounds-rows-row-in-loop-j : goal.offset_bounds-rows-row-in-loop-j
offset_bounds-rows-row-in-loop-j c = search (below_laws, rules)

pub bounds-rows-row-in-loop-j : goal.bounds-rows-row-in-loop-j
bounds-rows-row-in-loop-j c = search (below_laws, rules)

pub size-word-requires : goal.size-word-requires
size-word-requires c = search (below_laws, rules)

pub overflow_add-j-then-word-eq0 : goal.overflow_add-j-then-word-eq0
overflow_add-j-then-word-eq0 c = search (below_laws, rules)

pub loop-j-smaller-then-word-eq0 : goal.loop-j-smaller-then-word-eq0
loop-j-smaller-then-word-eq0 c = search (below_laws, rules)

pub loop-j-preserved-then-word-eq0 : goal.loop-j-preserved-then-word-eq0
loop-j-preserved-then-word-eq0 c = turn_one _ _ _ _ _ _ c.loop-j.invariant c.loop-j-test.true _ c.size-name.ensures c.if-end-name.false

pub end_of-requires : goal.end_of-requires
end_of-requires c = turn_name _ _ _ _ _ _ c.loop-j.invariant c.loop-j-test.true _ c.size-name.ensures

pub overflow_add-j-then-end-end_of : goal.overflow_add-j-then-end-end_of
overflow_add-j-then-end-end_of c = search (below_laws, rules)

pub loop-j-smaller-then-end-end_of : goal.loop-j-smaller-then-end-end_of
loop-j-smaller-then-end-end_of c = search (below_laws, rules)

pub loop-j-preserved-then-end-end_of : goal.loop-j-preserved-then-end-end_of
loop-j-preserved-then-end-end_of c = turn_one _ _ _ _ _ _ c.loop-j.invariant c.loop-j-test.true _ c.size-name.ensures c.if-end-name.false

pub overflow_add-j-else-end-end_of : goal.overflow_add-j-else-end-end_of
overflow_add-j-else-end-end_of c = jump_fits _ _ _ _ _ _ c.loop-j.invariant c.loop-j-test.true _ c.size-name.ensures c.if-end-name.false _ c.end_of.ensures c.if-end-end_of.false _ c.size-word.ensures

pub overflow_add-j-else-end-end_of-2 : goal.overflow_add-j-else-end-end_of-2
overflow_add-j-else-end-end_of-2 c = jump_to _ _ _ _ _ _ c.loop-j.invariant c.loop-j-test.true _ c.size-name.ensures c.if-end-name.false _ c.end_of.ensures c.if-end-end_of.false _ c.size-word.ensures

pub loop-j-smaller : goal.loop-j-smaller
loop-j-smaller c = search (below_laws, rules)

pub loop-j-preserved : goal.loop-j-preserved
loop-j-preserved c = turn_jump _ _ _ _ _ _ c.loop-j.invariant c.loop-j-test.true _ c.size-name.ensures c.if-end-name.false _ c.end_of.ensures c.if-end-end_of.false _ c.size-word.ensures

pub overflow_add-result-2 : goal.overflow_add-result-2
overflow_add-result-2 c = search (below_laws, rules)

pub overflow_sub-result-2 : goal.overflow_sub-result-2
overflow_sub-result-2 c = search (below_laws, rules)

pub returns : goal.returns
returns c = search (below_laws, rules)
