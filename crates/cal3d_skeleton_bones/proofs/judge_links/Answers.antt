-- `judge_links` answers `read_links`.
use Rattle.std.proofs.lemmas.Result.{err_from_is_err_and}
use borrow.Author.Rules.{rules}
use Rattle.cal3d_skeleton_bones.proofs.LinkLaws.{links}
use Rattle.cal3d_skeleton_bones.proofs.judge_links.Goals as goal

pub number_at-requires : goal.number_at-requires
number_at-requires c = search (links, rules)

pub id_rows-requires : goal.id_rows-requires
id_rows-requires c = search (links, rules)

pub returns-in_err-children : goal.returns-in_err-children
returns-in_err-children c = let h = c.in_err-children.was in let p = err_from_is_err_and c.from_residual.result c.from_residual.ensures.1 in rw (p.1, p.2) (search (links, rules))

pub returns-in_err-next : goal.returns-in_err-next
returns-in_err-next c = let h₁ = c.in_ok-children.was in let h₂ = c.in_err-next.was in let p = err_from_is_err_and c.from_residual-in_err-next.result c.from_residual-in_err-next.ensures.1 in rw (p.1, p.2) (search (links, rules))

pub returns : goal.returns
returns c = let h₁ = c.in_ok-children.was in let h₂ = c.in_ok-next.was in search (links, rules)
