-- `part_cells` puts the cells of kind and ANIM together, and how many nodes are below.
use Rattle.b3d_read_node_cells.proofs.CellLaws.{parts_are}
use Rattle.b3d_read_node_cells.proofs.part_cells.Goals as goal

pub kind_cells-k-requires : goal.kind_cells-k-requires
kind_cells-k-requires c = search

pub anim_cells-a-requires : goal.anim_cells-a-requires
anim_cells-a-requires c = search

pub returns : goal.returns
returns c = search parts_are
