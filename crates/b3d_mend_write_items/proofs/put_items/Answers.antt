-- `put_items` puts or counts items to the end. The loop has put those before a place; its measure is what is left.
use Prim.Native.Nat.{◌-◌}
use Rattle.b3d_mend_write_items.proofs.ItemPutLaws.{items_laws, out_fits, out_next}
use borrow.Author.Rules.{rules}
use Rattle.b3d_mend_write_items.proofs.put_items.Goals as goal

pub overflow_mul-size : goal.overflow_mul-size
overflow_mul-size c = search (items_laws, rules)

pub loop-p-init : goal.loop-p-init
loop-p-init c = search (items_laws, rules)

pub kept_bytes-kept-requires : goal.kept_bytes-kept-requires
kept_bytes-kept-requires c = search (items_laws, rules)

pub put_kept-at-requires : goal.put_kept-at-requires
put_kept-at-requires c = search (items_laws, rules)

pub overflow_add-p : goal.overflow_add-p
overflow_add-p c = search (items_laws, rules)

pub overflow_sub-end : goal.overflow_sub-end
overflow_sub-end c = search (items_laws, rules)

pub shape_of-out-then-end-p : goal.shape_of-out-then-end-p
shape_of-out-then-end-p c = search (items_laws, rules)

pub returns-then-end-p : goal.returns-then-end-p
returns-then-end-p c = search (items_laws, rules)

pub put_taken-at-requires : goal.put_taken-at-requires
put_taken-at-requires c = record { count_in_bounds = search (items_laws, rules); room_from = search (out_fits, rules) }

pub overflow_add-p-in-loop-p : goal.overflow_add-p-in-loop-p
overflow_add-p-in-loop-p c = search (items_laws, rules)

pub loop-p-smaller : goal.loop-p-smaller
loop-p-smaller c = search (items_laws, rules)

pub loop-p-preserved : goal.loop-p-preserved
loop-p-preserved c = let taken = c in
    let put = taken in
    let kept = put in
    let start = kept in
    out_next _ _ _ _ _ _ _ _ _ _ _ _ kept.loop-p.invariant _ kept.kept_bytes-kept.ensures _ _ put.put_kept-at.ensures (search rules) (search rules) (search rules) c.requires.file_len_bound.1 _ _ taken.put_taken-at.ensures
