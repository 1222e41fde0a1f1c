-- `judge_rest` judges the brushes and the nodes.
use Rattle.std.proofs.lemmas.Result.{err_from_is_err_and}
use Rattle.b3d_judge_file_chunks.proofs.RestLaws.{rest_laws}
use borrow.Author.Rules.{rules}
use Rattle.b3d_judge_file_chunks.proofs.judge_rest.Goals as goal

pub judge_brus_chunk-requires : goal.judge_brus_chunk-requires
judge_brus_chunk-requires c = search (rest_laws, rules)

pub enum_known-slots : goal.enum_known-slots
enum_known-slots c = search (rest_laws, rules)

pub judge_last-requires : goal.judge_last-requires
judge_last-requires c = search (rest_laws, rules)

pub enum_known-f : goal.enum_known-f
enum_known-f c = search (rest_laws, rules)

pub plus-requires : goal.plus-requires
plus-requires c = search (rest_laws, rules)

pub returns-in_err-slots : goal.returns-in_err-slots
returns-in_err-slots c = let h = c.in_err-slots.was in let p = err_from_is_err_and c.from_residual.result c.from_residual.ensures.1 in rw (p.1, p.2) (search (rest_laws, rules))

pub returns-in_err-f : goal.returns-in_err-f
returns-in_err-f c = let h₁ = c.in_ok-slots.was in let h₂ = c.in_err-f.was in let p = err_from_is_err_and c.from_residual-in_err-f.result c.from_residual-in_err-f.ensures.1 in rw (p.1, p.2) (search (rest_laws, rules))

pub returns : goal.returns
returns c = let h₁ = c.in_ok-slots.was in let h₂ = c.in_ok-f.was in search (rest_laws, rules)
