-- `lax_triangles` answers what `lax_triangles` reads.
use Rattle.std.proofs.lemmas.Result.{err_from_is_err_and}
use Rattle.b3d_spec_chunk_places.proofs.HeadLaws.{heads}
use Rattle.b3d_judge_bodies.proofs.AnswerLaws.{counted-few}
use Rattle.b3d_mend_judge_items.proofs.KeptLaws.{set_laws}
use borrow.Author.Rules.{rules}
use Rattle.b3d_mend_judge_items.proofs.lax_triangles.Goals as goal

pub number-requires : goal.number-requires
number-requires c = search (set_laws, counted-few, heads, rules)

pub kept_items-requires : goal.kept_items-requires
kept_items-requires c = search (set_laws, counted-few, heads, rules)

pub enum_known-count : goal.enum_known-count
enum_known-count c = search (set_laws, counted-few, heads, rules)

pub triangles-requires : goal.triangles-requires
triangles-requires c = let h = c.in_ok-count.was in search (set_laws, counted-few, heads, rules)

pub returns-in_default : goal.returns-in_default
returns-in_default c = search (set_laws, counted-few, heads, rules)

pub returns-in_err-count : goal.returns-in_err-count
returns-in_err-count c = let h = c.in_err-count.was in let p = err_from_is_err_and c.from_residual.result c.from_residual.ensures.1 in rw (p.1, p.2) (search (set_laws, counted-few, heads, rules))

pub returns : goal.returns
returns c = let h = c.in_ok-count.was in search (set_laws, counted-few, heads, rules)
