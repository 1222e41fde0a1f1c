-- `judge_textures` answers `read_textures`. The loop has passed whole textures; its measure is what is left.
use Prim.Native.Nat.{◌-◌}
use borrow.Author.Rules.{rules}
use Rattle.b3d_chunk_cursor.proofs.NamedLaws.{named-rows}
use Rattle.b3d_judge_materials.proofs.TextureLaws.{textures}
use Rattle.b3d_judge_materials.proofs.judge_textures.Goals as goal

pub loop-c-init : goal.loop-c-init
loop-c-init c = search (textures, rules)

pub loop-c-smaller : goal.loop-c-smaller
loop-c-smaller c = search (named-rows, rules)

pub loop-c-preserved : goal.loop-c-preserved
loop-c-preserved c = search (textures, rules)

pub returns : goal.returns
returns c = search (textures, rules)

pub returns-in_default : goal.returns-in_default
returns-in_default c = search (textures, rules)
