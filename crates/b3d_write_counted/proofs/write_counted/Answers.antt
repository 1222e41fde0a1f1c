-- `write_counted` cuts each table and writes the file of what is left.
use mathlib.Core.Path.{sym}
use lib.Seq.{length-take-le}
use Rattle.b3d_write_counted.proofs.SizeLaws.{are_sized}
use borrow.Author.Rules.{rules}
use Rattle.b3d_write_counted.proofs.write_counted.Goals as goal

pub overflow_mul-t1 : goal.overflow_mul-t1
overflow_mul-t1 c = let h = c.requires.rooms.few₁ in search rules

pub slice_bounds-t1-end : goal.slice_bounds-t1-end
slice_bounds-t1-end c = sym (length-take-le _ _ c.requires.rooms.room₁)

pub overflow_mul-t2 : goal.overflow_mul-t2
overflow_mul-t2 c = let h = c.requires.rooms.few₂ in search rules

pub slice_bounds-t2-end : goal.slice_bounds-t2-end
slice_bounds-t2-end c = sym (length-take-le _ _ c.requires.rooms.room₂)

pub overflow_mul-t3 : goal.overflow_mul-t3
overflow_mul-t3 c = let h = c.requires.rooms.limited.nodes in search rules

pub slice_bounds-t3-end : goal.slice_bounds-t3-end
slice_bounds-t3-end c = sym (length-take-le _ _ c.requires.rooms.room₃)

pub overflow_mul-t4 : goal.overflow_mul-t4
overflow_mul-t4 c = let h = c.requires.rooms.limited.meshes in search rules

pub slice_bounds-t4-end : goal.slice_bounds-t4-end
slice_bounds-t4-end c = sym (length-take-le _ _ c.requires.rooms.kinds.room₄)

pub overflow_mul-t5 : goal.overflow_mul-t5
overflow_mul-t5 c = let h = c.requires.rooms.limited.vertices in search rules

pub slice_bounds-t5-end : goal.slice_bounds-t5-end
slice_bounds-t5-end c = sym (length-take-le _ _ c.requires.rooms.kinds.room₅)

pub overflow_mul-t6 : goal.overflow_mul-t6
overflow_mul-t6 c = let h = c.requires.rooms.limited.sets in search rules

pub slice_bounds-t6-end : goal.slice_bounds-t6-end
slice_bounds-t6-end c = sym (length-take-le _ _ c.requires.rooms.kinds.room₆)

pub overflow_mul-t7 : goal.overflow_mul-t7
overflow_mul-t7 c = let h = c.requires.rooms.limited.triangles in search rules

pub slice_bounds-t7-end : goal.slice_bounds-t7-end
slice_bounds-t7-end c = sym (length-take-le _ _ c.requires.rooms.kinds.room₇)

pub overflow_mul-t8 : goal.overflow_mul-t8
overflow_mul-t8 c = let h = c.requires.rooms.limited.weights in search rules

pub slice_bounds-t8-end : goal.slice_bounds-t8-end
slice_bounds-t8-end c = sym (length-take-le _ _ c.requires.rooms.kinds.room₈)

pub overflow_mul-t9 : goal.overflow_mul-t9
overflow_mul-t9 c = let h = c.requires.rooms.limited.lists in search rules

pub slice_bounds-t9-end : goal.slice_bounds-t9-end
slice_bounds-t9-end c = sym (length-take-le _ _ c.requires.rooms.lists.room₉)

pub overflow_mul-t10 : goal.overflow_mul-t10
overflow_mul-t10 c = let h = c.requires.rooms.limited.keys in search rules

pub slice_bounds-t10-end : goal.slice_bounds-t10-end
slice_bounds-t10-end c = sym (length-take-le _ _ c.requires.rooms.lists.room₁₀)

pub write_file-requires : goal.write_file-requires
write_file-requires c = let h = c.requires in record { tables_sized = are_sized _ _ _ _ _ _ _ _ _ _ _ _ _ h.rooms; some = h.some }
