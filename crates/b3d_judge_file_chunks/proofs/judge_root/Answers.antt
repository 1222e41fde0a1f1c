-- `judge_root` judges the nodes, if NODE comes first.
use Rattle.std.proofs.lemmas.Result.{err_from_is_err_and}
use Rattle.b3d_judge_file_chunks.proofs.FileLaws.{root_laws}
use borrow.Author.Rules.{rules}
use Rattle.b3d_judge_file_chunks.proofs.judge_root.Goals as goal

pub next_chunk-found-requires : goal.next_chunk-found-requires
next_chunk-found-requires c = search (root_laws, rules)

pub next_inside-requires : goal.next_inside-requires
next_inside-requires c = search (root_laws, rules)

pub none-requires : goal.none-requires
none-requires c = search (root_laws, rules)

pub judge_node-requires : goal.judge_node-requires
judge_node-requires c = search (root_laws, rules)

pub enum_known-t : goal.enum_known-t
enum_known-t c = search (root_laws, rules)

pub returns-in_err-at : goal.returns-in_err-at
returns-in_err-at c = let h = c.in_err-at.was in let p = err_from_is_err_and c.from_residual.result c.from_residual.ensures.1 in rw (p.1, p.2) (search (root_laws, rules))

pub returns-in_default : goal.returns-in_default
returns-in_default c = let h = c.in_ok-at.was in let w = rw c.in_default.is at h in search (root_laws, rules)

pub returns-in_err-t : goal.returns-in_err-t
returns-in_err-t c = let h₁ = c.in_ok-at.was in let h₂ = c.in_err-t.was in let w = rw c.in-Some.is at h₁ in let p = err_from_is_err_and c.from_residual-in_err-t.result c.from_residual-in_err-t.ensures.1 in rw (p.1, p.2) (search (root_laws, rules))

pub returns : goal.returns
returns c =
    let h₁ = c.in_ok-at.was in let w = rw c.in-Some.is at h₁ in let h₂ = c.in_ok-t.was in search (root_laws, rules)
