-- `clear_items` goes from item to item. Its measure is what is left.
use Prim.Native.Nat.{◌-◌}
use Rattle.b3d_clear_materials.proofs.ItemLaws.{item_laws}
use borrow.Author.Rules.{rules}
use Rattle.b3d_clear_materials.proofs.clear_items.Goals as goal

pub loop-row-init : goal.loop-row-init
loop-row-init c = search (item_laws, rules)

pub named_row-requires : goal.named_row-requires
named_row-requires c = search (item_laws, rules)

pub slice_bounds-put_unnamed-count : goal.slice_bounds-put_unnamed-count
slice_bounds-put_unnamed-count c = search (item_laws, rules)

pub slice_bounds-put_unnamed-start : goal.slice_bounds-put_unnamed-start
slice_bounds-put_unnamed-start c = search (item_laws, rules)

pub slice_bounds-put_unnamed-end : goal.slice_bounds-put_unnamed-end
slice_bounds-put_unnamed-end c = search (item_laws, rules)

pub put_unnamed-size-requires : goal.put_unnamed-size-requires
put_unnamed-size-requires c = search (item_laws, rules)

pub overflow_add-n : goal.overflow_add-n
overflow_add-n c = search (item_laws, rules)

pub loop-row-smaller : goal.loop-row-smaller
loop-row-smaller c = search (item_laws, rules)

pub loop-row-preserved : goal.loop-row-preserved
loop-row-preserved c = search (item_laws, rules)

pub returns-in_default : goal.returns-in_default
returns-in_default c = search (item_laws, rules)
