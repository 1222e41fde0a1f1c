-- `read_mesh` answers, and leaves in the tables, what the definition says.
use Rattle.cal3d_mesh.proofs.ReadLaws.{read-refused, read-fit, read-filled}
use Rattle.cal3d_mesh.proofs.read_mesh.Goals as goal

pub returns-then-answer-ne0 : goal.returns-then-answer-ne0
returns-then-answer-ne0 c = read-refused _ _ _ _ _ _ _ _ _ c.judge-judged.ensures _ c.with_room-answer.ensures c.if-answer-ne0.true

pub fill_mesh-requires : goal.fill_mesh-requires
fill_mesh-requires c = read-fit _ _ _ _ _ _ _ _ _ c.judge-judged.ensures _ c.with_room-answer.ensures c.if-answer-ne0.false

pub shape_of-submeshes : goal.shape_of-submeshes
shape_of-submeshes c = search

pub shape_of-vertices : goal.shape_of-vertices
shape_of-vertices c = search

pub shape_of-maps : goal.shape_of-maps
shape_of-maps c = search

pub shape_of-influences : goal.shape_of-influences
shape_of-influences c = search

pub shape_of-springs : goal.shape_of-springs
shape_of-springs c = search

pub shape_of-faces : goal.shape_of-faces
shape_of-faces c = search

pub returns : goal.returns
returns c = read-filled _ _ _ _ _ _ _ _ _ c.judge-judged.ensures _ c.with_room-answer.ensures c.if-answer-ne0.false _ _ _ _ _ _ c.fill_mesh.ensures
