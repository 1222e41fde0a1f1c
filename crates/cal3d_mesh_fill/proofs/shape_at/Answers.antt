-- `shape_at` reads four counts.
use Rattle.cal3d_mesh_fill.proofs.SubmeshLaws.{shape_read}
use Rattle.cal3d_mesh_fill.proofs.shape_at.Goals as goal

pub returns : goal.returns
returns c = shape_read _ _ _ _ _ _ _ _ _ _
    c.number_at.ensures c.size.ensures
    c.number_at-2.ensures c.size-2.ensures
    c.number_at-3.ensures c.size-3.ensures
    c.number_at-4.ensures c.size-4.ensures
