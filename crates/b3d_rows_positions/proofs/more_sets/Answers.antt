-- `more_sets` goes from TRIS to TRIS, then to the next MESH.
use Rattle.b3d_rows_positions.proofs.PositionLaws.{sets_laws}
use borrow.Author.Rules.{rules}
use Rattle.b3d_rows_positions.proofs.more_sets.Goals as goal

pub seek-requires : goal.seek-requires
seek-requires c = search (sets_laws, rules)

pub enum_told-1 : goal.enum_told-1
enum_told-1 c = search (sets_laws, rules)

pub open_mesh-requires : goal.open_mesh-requires
open_mesh-requires c = search (sets_laws, rules)

pub open_items-items-requires : goal.open_items-items-requires
open_items-items-requires c = search (sets_laws, rules)

pub returns-in_default : goal.returns-in_default
returns-in_default c = search (sets_laws, rules)

pub returns : goal.returns
returns c = search (sets_laws, rules)
