-- `store_animation` goes once over the flat run. Its measure is what is left of the file.
use Prim.Native.Nat.{◌-◌}
use Rattle.b3d_chunk_walk.proofs.TableLaws.{any-counts, table_start, table_small, table_inside, table_long, table_done, table_less, table_body, table_room, plain_own, plain_other}
use Rattle.b3d_read_animation.proofs.TableLaws.{bones, lists, keys}
use Rattle.b3d_read_animation.proofs.KeyListLaws.{bones_keys, bones_node, lists_laws}
use borrow.Author.Rules.{rules}
use Rattle.b3d_read_animation.proofs.store_animation.Goals as goal

pub returns-then-file-lt12 : goal.returns-then-file-lt12
returns-then-file-lt12 c = (search (table_small bones, rules), search (table_small lists, rules), search (table_small keys, rules))

pub loop-chunk-init : goal.loop-chunk-init
loop-chunk-init c = (search (table_start bones, any-counts, rules), search (lists_laws, rules), search (table_start keys, any-counts, rules))

pub flat_next-requires : goal.flat_next-requires
flat_next-requires c = search (table_inside lists, rules)

pub enum_told-1 : goal.enum_told-1
enum_told-1 c = search (lists_laws, rules)

pub shape_of-weights-in_default : goal.shape_of-weights-in_default
shape_of-weights-in_default c = search (table_long bones, rules)

pub shape_of-lists-in_default : goal.shape_of-lists-in_default
shape_of-lists-in_default c = search (table_long lists, rules)

pub shape_of-keys-in_default : goal.shape_of-keys-in_default
shape_of-keys-in_default c = search (table_long keys, rules)

pub returns-in_default : goal.returns-in_default
returns-in_default c = (search (table_done bones, rules), search (table_done lists, rules), search (table_done keys, rules))

pub same-requires : goal.same-requires
same-requires c = search (lists_laws, rules)

pub store_keys-to10-requires : goal.store_keys-to10-requires
store_keys-to10-requires c = search (table_body keys, table_room keys, rules)

pub current-node-requires : goal.current-node-requires
current-node-requires c = search (lists_laws, rules)

pub store_group-count-requires : goal.store_group-count-requires
store_group-count-requires c = (search (table_body lists, rules), search rules, search (lists_laws, rules), search (lists_laws, rules), search (lists_laws, rules))

pub overflow_add-count : goal.overflow_add-count
overflow_add-count c = search (lists_laws, rules)

pub overflow_add-to9 : goal.overflow_add-to9
overflow_add-to9 c = search (lists_laws, rules)

pub same-requires-else-same : goal.same-requires-else-same
same-requires-else-same c = search (lists_laws, rules)

pub overflow_add-nodes : goal.overflow_add-nodes
overflow_add-nodes c = search (lists_laws, rules)

pub same-requires-else-same-2 : goal.same-requires-else-same-2
same-requires-else-same-2 c = search (lists_laws, rules)

pub store_items-to8-requires : goal.store_items-to8-requires
store_items-to8-requires c = search (table_body bones, table_room bones, rules)

pub loop-chunk-smaller-then-same : goal.loop-chunk-smaller-then-same
loop-chunk-smaller-then-same c = search (table_less lists, rules)

pub loop-chunk-preserved-then-same : goal.loop-chunk-preserved-then-same
loop-chunk-preserved-then-same c = (search (bones_keys, rules), search (lists_laws, rules), search (plain_own keys, rules))

pub loop-chunk-smaller-then-same-2 : goal.loop-chunk-smaller-then-same-2
loop-chunk-smaller-then-same-2 c = search (table_less lists, rules)

pub loop-chunk-preserved-then-same-2 : goal.loop-chunk-preserved-then-same-2
loop-chunk-preserved-then-same-2 c = (search (bones_node, rules), search (lists_laws, rules), search (plain_other keys, rules))

pub loop-chunk-smaller-then-same-3 : goal.loop-chunk-smaller-then-same-3
loop-chunk-smaller-then-same-3 c = search (table_less lists, rules)

pub loop-chunk-preserved-then-same-3 : goal.loop-chunk-preserved-then-same-3
loop-chunk-preserved-then-same-3 c = (search (plain_own bones, rules), search (lists_laws, rules), search (plain_other keys, rules))

pub loop-chunk-smaller : goal.loop-chunk-smaller
loop-chunk-smaller c = search (table_less lists, rules)

pub loop-chunk-preserved : goal.loop-chunk-preserved
loop-chunk-preserved c = (search (plain_other bones, rules), search (lists_laws, rules), search (plain_other keys, rules))
