-- `put_anim` writes an ANIM where there is one.
use Rattle.shared_output.proofs.PartLaws.{same_laws}
use Rattle.b3d_write_animation.proofs.MoveLaws.{anim_laws}
use borrow.Author.Rules.{rules}
use Rattle.b3d_write_animation.proofs.put_anim.Goals as goal

pub offset_bounds-nodes-at : goal.offset_bounds-nodes-at
offset_bounds-nodes-at c = search (same_laws, anim_laws, rules)

pub bounds-nodes-at : goal.bounds-nodes-at
bounds-nodes-at c = search (same_laws, anim_laws, rules)

pub overflow_add-at : goal.overflow_add-at
overflow_add-at c = search (same_laws, anim_laws, rules)

pub put_values-requires : goal.put_values-requires
put_values-requires c = search (same_laws, anim_laws, rules)

pub shape_of-out-then-nodes-at-eq1 : goal.shape_of-out-then-nodes-at-eq1
shape_of-out-then-nodes-at-eq1 c = search (same_laws, anim_laws, rules)

pub returns-then-nodes-at-eq1 : goal.returns-then-nodes-at-eq1
returns-then-nodes-at-eq1 c = search (same_laws, anim_laws, rules)

pub returns : goal.returns
returns c = search (same_laws, anim_laws, rules)
