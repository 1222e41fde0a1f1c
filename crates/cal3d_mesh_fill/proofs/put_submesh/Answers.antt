-- `put_submesh` stores a submesh's numbers, and behind them what stands before.
use borrow.Author.Rules.{rules}
use Rattle.cal3d_mesh_fill.proofs.SubmeshLaws.{submesh_put}
use Rattle.cal3d_mesh_fill.proofs.put_submesh.Goals as goal

pub returns : goal.returns
returns c = search (submesh_put, rules)
