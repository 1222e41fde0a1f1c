-- `judge_triangles` answers what `read_triangles` reads.
use Rattle.std.proofs.lemmas.Result.{err_from_is_err_and}
use borrow.Author.Rules.{rules}
use Rattle.b3d_spec_chunk_places.proofs.HeadLaws.{heads}
use Rattle.b3d_judge_bodies.proofs.IdLaws.{set_laws}
use Rattle.b3d_judge_bodies.proofs.AnswerLaws.{counted-few}
use Rattle.b3d_judge_bodies.proofs.judge_triangles.Goals as goal

pub returns-then-not-id_valid : goal.returns-then-not-id_valid
returns-then-not-id_valid c = search (set_laws, rules)

pub id_items-requires : goal.id_items-requires
id_items-requires c = search (heads, rules)

pub triangles-requires : goal.triangles-requires
triangles-requires c = let h = c.in_ok-count.was in search (counted-few, heads, rules)

pub returns-in_default : goal.returns-in_default
returns-in_default c = search (set_laws, rules)

pub returns-in_err-count : goal.returns-in_err-count
returns-in_err-count c = let h = c.in_err-count.was in let p = err_from_is_err_and c.from_residual.result c.from_residual.ensures.1 in rw (p.1, p.2) (search (set_laws, rules))

pub returns : goal.returns
returns c = let h = c.in_ok-count.was in search (set_laws, rules)
