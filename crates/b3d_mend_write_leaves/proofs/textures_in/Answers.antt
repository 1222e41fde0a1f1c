-- `textures_in` counts what the definition counts.
use Rattle.b3d_mend_write_leaves.proofs.CountLaws.{count_laws}
use borrow.Author.Rules.{rules}
use Rattle.b3d_mend_write_leaves.proofs.textures_in.Goals as goal

pub judge_textures-requires : goal.judge_textures-requires
judge_textures-requires c = search (count_laws, rules)

pub enum_told-1 : goal.enum_told-1
enum_told-1 c = search (count_laws, rules)

pub enum_known-t : goal.enum_known-t
enum_known-t c = search (count_laws, rules)

pub returns-in-Err : goal.returns-in-Err
returns-in-Err c = search (count_laws, rules)

pub returns-in-Ok : goal.returns-in-Ok
returns-in-Ok c = search (count_laws, rules)
