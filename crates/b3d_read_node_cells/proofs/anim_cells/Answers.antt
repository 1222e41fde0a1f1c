-- `anim_cells` passes own chunks until an ANIM. Its measure is what is left of the file.
use Prim.Native.Nat.{◌-◌}
use Rattle.b3d_read_node_cells.proofs.OwnChunkLaws.{anim_laws}
use borrow.Author.Rules.{rules}
use Rattle.b3d_read_node_cells.proofs.anim_cells.Goals as goal

pub loop-chunk-init : goal.loop-chunk-init
loop-chunk-init c = search (anim_laws, rules)

pub own_next-requires : goal.own_next-requires
own_next-requires c = search (anim_laws, rules)

pub enum_told-1 : goal.enum_told-1
enum_told-1 c = search (anim_laws, rules)

pub returns-in_default : goal.returns-in_default
returns-in_default c = search (anim_laws, rules)

pub same-requires : goal.same-requires
same-requires c = search (anim_laws, rules)

pub three_words-v-requires : goal.three_words-v-requires
three_words-v-requires c = search (anim_laws, rules)

pub returns-then-same : goal.returns-then-same
returns-then-same c = search (anim_laws, rules)

pub loop-chunk-smaller : goal.loop-chunk-smaller
loop-chunk-smaller c = search (anim_laws, rules)

pub loop-chunk-preserved : goal.loop-chunk-preserved
loop-chunk-preserved c = search (anim_laws, rules)
