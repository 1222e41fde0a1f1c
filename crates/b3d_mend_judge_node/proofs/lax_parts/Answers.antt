-- `lax_parts` judges the chunks inside a node up to the nodes below it.
use Rattle.std.proofs.lemmas.Result.{err_from_is_err_and}
use Rattle.b3d_mend_judge_node.proofs.OwnLaws.{parts_laws}
use borrow.Author.Rules.{rules}
use Rattle.b3d_mend_judge_node.proofs.lax_parts.Goals as goal

pub bone_vertices-requires : goal.bone_vertices-requires
bone_vertices-requires c = search (parts_laws, rules)

pub lax_kind-requires : goal.lax_kind-requires
lax_kind-requires c = search (parts_laws, rules)

pub enum_known-own : goal.enum_known-own
enum_known-own c = search (parts_laws, rules)

pub judge_animation-requires : goal.judge_animation-requires
judge_animation-requires c = search (parts_laws, rules)

pub enum_known-anim : goal.enum_known-anim
enum_known-anim c = search (parts_laws, rules)

pub bones_below-requires : goal.bones_below-requires
bones_below-requires c = search (parts_laws, rules)

pub own_rows-requires : goal.own_rows-requires
own_rows-requires c = let h₁ = c.in_ok-own.was in let h₂ = c.in_ok-anim.was in search (parts_laws, rules)

pub returns-in_err-own : goal.returns-in_err-own
returns-in_err-own c = let h = c.in_err-own.was in let p = err_from_is_err_and c.from_residual.result c.from_residual.ensures.1 in rw (p.1, p.2) (search (parts_laws, rules))

pub returns-in_err-anim : goal.returns-in_err-anim
returns-in_err-anim c = let h₁ = c.in_ok-own.was in let h₂ = c.in_err-anim.was in let p = err_from_is_err_and c.from_residual-in_err-anim.result c.from_residual-in_err-anim.ensures.1 in rw (p.1, p.2) (search (parts_laws, rules))

pub returns : goal.returns
returns c = let h₁ = c.in_ok-own.was in let h₂ = c.in_ok-anim.was in search (parts_laws, rules)
