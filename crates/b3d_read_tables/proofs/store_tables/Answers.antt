-- `store_tables` fills one table after the other.
use Rattle.b3d_read_tables.proofs.EachTableLaws.{all-filled}
use native.Mathlib.Omega.{arith}
use Rattle.b3d_read_tables.proofs.store_tables.Goals as goal

pub one_table-requires : goal.one_table-requires
one_table-requires c = let pre = c.requires in (omega arith, omega arith, pre.small, pre.rows 1 (omega arith) (omega arith), pre.room 1 (omega arith) (omega arith))

pub one_table-requires-2 : goal.one_table-requires-2
one_table-requires-2 c = let pre = c.requires in (omega arith, omega arith, pre.small, pre.rows 2 (omega arith) (omega arith), pre.room 2 (omega arith) (omega arith))

pub one_table-requires-3 : goal.one_table-requires-3
one_table-requires-3 c = let pre = c.requires in (omega arith, omega arith, pre.small, pre.rows 3 (omega arith) (omega arith), pre.room 3 (omega arith) (omega arith))

pub meshes-requires : goal.meshes-requires
meshes-requires c = let pre = c.requires in (pre.small, pre.rows 4 (omega arith) (omega arith), pre.room 4 (omega arith) (omega arith), pre.room 5 (omega arith) (omega arith), pre.room 6 (omega arith) (omega arith), pre.room 7 (omega arith) (omega arith))

pub moves-requires : goal.moves-requires
moves-requires c = let pre = c.requires in (pre.small, pre.rows 8 (omega arith) (omega arith), pre.rows 9 (omega arith) (omega arith), pre.room 8 (omega arith) (omega arith), pre.room 9 (omega arith) (omega arith), pre.room 10 (omega arith) (omega arith))

pub shape_of-table1 : goal.shape_of-table1
shape_of-table1 c = search

pub shape_of-table2 : goal.shape_of-table2
shape_of-table2 c = search

pub shape_of-table3 : goal.shape_of-table3
shape_of-table3 c = search

pub shape_of-table4 : goal.shape_of-table4
shape_of-table4 c = search

pub shape_of-table5 : goal.shape_of-table5
shape_of-table5 c = search

pub shape_of-table6 : goal.shape_of-table6
shape_of-table6 c = search

pub shape_of-table7 : goal.shape_of-table7
shape_of-table7 c = search

pub shape_of-table8 : goal.shape_of-table8
shape_of-table8 c = search

pub shape_of-table9 : goal.shape_of-table9
shape_of-table9 c = search

pub shape_of-table10 : goal.shape_of-table10
shape_of-table10 c = search

pub returns : goal.returns
returns c = all-filled _ _ _ _ _ _ _ _ _ _ _ _ _ _ _ _ _ _ _ _ _ c.one_table.ensures c.one_table-2.ensures c.one_table-3.ensures c.meshes.ensures.0 c.meshes.ensures.1 c.meshes.ensures.2 c.meshes.ensures.3 c.moves.ensures.0 c.moves.ensures.1 c.moves.ensures.2
