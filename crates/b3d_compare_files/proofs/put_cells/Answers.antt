-- `put_cells` puts or counts the entries of one table a turn: those from k on are left.
use native.Mathlib.Omega.{arith}
use Rattle.b3d_compare_files.proofs.FileLaws.{tables_start, index_low, tables_first, tables_second, tables_few, tables_fit, tables_next, tables_same, tables_done}
use borrow.Author.Rules.{rules}
use Rattle.b3d_compare_files.proofs.put_cells.Goals as goal

pub loop-k-init : goal.loop-k-init
loop-k-init c = search (tables_start, rules)

pub bounds-x-i : goal.bounds-x-i
bounds-x-i c = search (index_low, rules)

pub put_table-next-requires : goal.put_table-next-requires
put_table-next-requires c = let g = c.loop-k.invariant in let h = c.loop-k-test.true in let e = c.size-i.ensures in (tables_first _ _ _ _ _ _ _ _ _ g h _ e, tables_second _ _ _ _ _ _ _ _ _ g h _ e, tables_few _ _ _ _ _ _ _ _ _ g h _ e, search rules, search rules, tables_fit _ _ _ _ _ _ _ _ _ g h)

pub loop-k-preserved : goal.loop-k-preserved
loop-k-preserved c = let h = c.loop-k-test.true in tables_next _ _ _ _ _ _ _ _ _ c.loop-k.invariant h _ _ c.put_table-next.ensures

pub shape_of-out : goal.shape_of-out
shape_of-out c = search (tables_same, rules)

pub returns : goal.returns
returns c = search (tables_done, rules)
