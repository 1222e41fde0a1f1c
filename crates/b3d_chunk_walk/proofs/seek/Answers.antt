-- `seek` passes chunks until it finds one of the tag. Its measure is what is left.
use Prim.Native.Nat.{◌-◌}
use Rattle.b3d_chunk_walk.proofs.SeekLaws.{seek_laws}
use borrow.Author.Rules.{rules}
use Rattle.b3d_chunk_walk.proofs.seek.Goals as goal

pub loop-t-init : goal.loop-t-init
loop-t-init c = search (seek_laws, rules)

pub next_chunk-requires : goal.next_chunk-requires
next_chunk-requires c = search (seek_laws, rules)

pub enum_told-1 : goal.enum_told-1
enum_told-1 c = search (seek_laws, rules)

pub returns-in-Done : goal.returns-in-Done
returns-in-Done c = search (seek_laws, rules)

pub enum_told-in-Cut : goal.enum_told-in-Cut
enum_told-in-Cut c = search (seek_laws, rules)

pub returns-in-Cut : goal.returns-in-Cut
returns-in-Cut c = search (seek_laws, rules)

pub enum_known-t : goal.enum_known-t
enum_known-t c = search (seek_laws, rules)

pub same-requires : goal.same-requires
same-requires c = search (seek_laws, rules)

pub returns-then-same : goal.returns-then-same
returns-then-same c = search (seek_laws, rules)

pub loop-t-smaller : goal.loop-t-smaller
loop-t-smaller c = search (seek_laws, rules)

pub loop-t-preserved : goal.loop-t-preserved
loop-t-preserved c = search (seek_laws, rules)
