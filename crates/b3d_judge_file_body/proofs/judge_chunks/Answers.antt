-- `judge_chunks` judges the chunks of a file.
use Rattle.std.proofs.lemmas.Result.{err_from_is_err_and}
use Rattle.b3d_judge_file_body.proofs.ChunksLaws.{chunks_laws}
use borrow.Author.Rules.{rules}
use Rattle.b3d_judge_file_body.proofs.judge_chunks.Goals as goal

pub judge_texs_chunk-requires : goal.judge_texs_chunk-requires
judge_texs_chunk-requires c = search (chunks_laws, rules)

pub judge_rest-requires : goal.judge_rest-requires
judge_rest-requires c = search (chunks_laws, rules)

pub enum_known-slots : goal.enum_known-slots
enum_known-slots c = search (chunks_laws, rules)

pub file_rows-requires : goal.file_rows-requires
file_rows-requires c = let h₁ = c.in_ok-t.was in let h₂ = c.in_ok-slots.was in search (chunks_laws, rules)

pub returns-in_err-t : goal.returns-in_err-t
returns-in_err-t c = let h = c.in_err-t.was in let p = err_from_is_err_and c.from_residual.result c.from_residual.ensures.1 in rw (p.1, p.2) (search (chunks_laws, rules))

pub returns-in_err-slots : goal.returns-in_err-slots
returns-in_err-slots c = let h₁ = c.in_ok-t.was in let h₂ = c.in_err-slots.was in let p = err_from_is_err_and c.from_residual-in_err-slots.result c.from_residual-in_err-slots.ensures.1 in rw (p.1, p.2) (search (chunks_laws, rules))

pub returns : goal.returns
returns c = let h₁ = c.in_ok-t.was in let h₂ = c.in_ok-slots.was in search (chunks_laws, rules)
