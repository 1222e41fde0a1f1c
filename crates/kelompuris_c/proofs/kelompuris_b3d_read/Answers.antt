-- `kelompuris_b3d_read` answers, and leaves in the tables, what `b3d_read::read` does.
use Rattle.kelompuris_c.proofs.Laws.{mode_reads}
use Rattle.kelompuris_c.proofs.kelompuris_b3d_read.Goals as goal

pub shape_of-t1 : goal.shape_of-t1
shape_of-t1 c = search

pub shape_of-t2 : goal.shape_of-t2
shape_of-t2 c = search

pub shape_of-t3 : goal.shape_of-t3
shape_of-t3 c = search

pub shape_of-t4 : goal.shape_of-t4
shape_of-t4 c = search

pub shape_of-t5 : goal.shape_of-t5
shape_of-t5 c = search

pub shape_of-t6 : goal.shape_of-t6
shape_of-t6 c = search

pub shape_of-t7 : goal.shape_of-t7
shape_of-t7 c = search

pub shape_of-t8 : goal.shape_of-t8
shape_of-t8 c = search

pub shape_of-t9 : goal.shape_of-t9
shape_of-t9 c = search

pub shape_of-t10 : goal.shape_of-t10
shape_of-t10 c = search

pub returns : goal.returns
returns c = mode_reads _ _ c.mode_of-m.ensures _ _ _ _ c.read.ensures
