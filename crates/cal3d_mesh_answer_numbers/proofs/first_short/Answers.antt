-- `first_short` finds the first table that is too short.
use Rattle.cal3d_mesh_answer_numbers.proofs.RoomLaws.{short_six, six_few}
use Rattle.cal3d_mesh_answer_numbers.proofs.first_short.Goals as goal

pub returns : goal.returns
returns c = (search short_six, search six_few)
