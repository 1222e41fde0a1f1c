-- `put_brushes` writes a chunk where there is a row.
use Rattle.shared_output.proofs.PartLaws.{same_laws}
use Rattle.b3d_write_row_runs.specs.Lent.{rows_in}
use Rattle.b3d_write_materials.proofs.MaterialLaws.{list_shapes}
use borrow.Author.Rules.{rules}
use Rattle.b3d_write_materials.proofs.put_brushes.Goals as goal

pub returns-then-count-eq0 : goal.returns-then-count-eq0
unfolding rows_in
returns-then-count-eq0 c = search (same_laws, list_shapes, rules)

pub put_brus-requires : goal.put_brus-requires
unfolding rows_in
put_brus-requires c = search (same_laws, list_shapes, rules)

pub shape_of-out : goal.shape_of-out
unfolding rows_in
shape_of-out c = search (same_laws, list_shapes, rules)

pub returns : goal.returns
unfolding rows_in
returns c = search (same_laws, list_shapes, rules)
