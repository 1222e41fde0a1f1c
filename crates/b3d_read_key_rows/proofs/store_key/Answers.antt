-- `store_key` stores the parts of a key one after the other.
use Rattle.b3d_read_row_runs.proofs.RunLaws.{room_1, room_2, room_3, row_put, part_1, part_2, part_3, part_4}
use borrow.Author.Rules.{rules}
use Rattle.b3d_read_key_rows.proofs.store_key.Goals as goal

pub put_piece-requires : goal.put_piece-requires
put_piece-requires c = search (part_1 1, rules)

pub overflow_add-at : goal.overflow_add-at
overflow_add-at c = search (part_1 1, part_2 1, part_3 1, rules)

pub overflow_add-base : goal.overflow_add-base
overflow_add-base c = search (part_1 1, part_2 1, part_3 1, rules)

pub put_three-requires : goal.put_three-requires
put_three-requires c = search (room_1 1 3 4, part_2 1, rules)

pub overflow_add-at-2 : goal.overflow_add-at-2
overflow_add-at-2 c = search (part_1 1, part_2 1, part_3 1, rules)

pub overflow_mul-a : goal.overflow_mul-a
overflow_mul-a c = search (part_1 1, part_2 1, part_3 1, rules)

pub overflow_add-at-3 : goal.overflow_add-at-3
overflow_add-at-3 c = search (part_1 1, part_2 1, part_3 1, rules)

pub overflow_add-base-2 : goal.overflow_add-base-2
overflow_add-base-2 c = search (part_1 1, part_2 1, part_3 1, rules)

pub put_three-requires-2 : goal.put_three-requires-2
put_three-requires-2 c = search (room_2 1 3 4, part_3 1, rules)

pub overflow_add-at-4 : goal.overflow_add-at-4
overflow_add-at-4 c = search (part_1 1, part_2 1, part_3 1, rules)

pub overflow_mul-a-2 : goal.overflow_mul-a-2
overflow_mul-a-2 c = search (part_1 1, part_2 1, part_3 1, rules)

pub overflow_add-at-5 : goal.overflow_add-at-5
overflow_add-at-5 c = search (part_1 1, part_2 1, part_3 1, rules)

pub overflow_mul-b : goal.overflow_mul-b
overflow_mul-b c = search (part_1 1, part_2 1, part_3 1, rules)

pub overflow_add-at-6 : goal.overflow_add-at-6
overflow_add-at-6 c = search (part_1 1, part_2 1, part_3 1, rules)

pub overflow_add-base-3 : goal.overflow_add-base-3
overflow_add-base-3 c = search (part_1 1, part_2 1, part_3 1, rules)

pub put_four-requires : goal.put_four-requires
put_four-requires c = (search (part_4 1, rules), search rules, search (room_3 1 3 4, rules))

pub shape_of-out : goal.shape_of-out
shape_of-out c = search (part_1 1, part_2 1, part_3 1, rules)

pub returns : goal.returns
returns c = search (row_put 1 3 4, rules)
