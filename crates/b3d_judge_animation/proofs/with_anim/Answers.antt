-- `with_anim` adds an ANIM's bytes where one was seen.
use Rattle.b3d_judge_animation.proofs.MoveLaws.{anim_laws}
use borrow.Author.Rules.{rules}
use Rattle.b3d_judge_animation.proofs.with_anim.Goals as goal

pub bytes-requires : goal.bytes-requires
bytes-requires c = search (anim_laws, rules)

pub plus-requires : goal.plus-requires
plus-requires c = search (anim_laws, rules)

pub returns-then-seen : goal.returns-then-seen
returns-then-seen c = search (anim_laws, rules)

pub none-requires : goal.none-requires
none-requires c = search (anim_laws, rules)

pub plus-requires-2 : goal.plus-requires-2
plus-requires-2 c = search (anim_laws, rules)

pub returns : goal.returns
returns c = search (anim_laws, rules)
