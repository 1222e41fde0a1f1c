-- `judge_vertices` answers what `read_vertices` reads.
use Rattle.std.proofs.lemmas.Result.{err_from_is_err_and}
use borrow.Author.Rules.{rules}
use Rattle.b3d_judge_bodies.proofs.VertexLaws.{words-room, vertex_laws}
use Rattle.b3d_judge_bodies.proofs.judge_vertices.Goals as goal

pub returns-then-end-start-lt12 : goal.returns-then-end-start-lt12
returns-then-end-start-lt12 c = search (vertex_laws, rules)

pub returns-then-flags-gt-HIGHEST_VERTEX_FLAGS : goal.returns-then-flags-gt-HIGHEST_VERTEX_FLAGS
returns-then-flags-gt-HIGHEST_VERTEX_FLAGS c = search (vertex_laws, rules)

pub returns-then-sets-gt-MOST_SETS : goal.returns-then-sets-gt-MOST_SETS
returns-then-sets-gt-MOST_SETS c = search (vertex_laws, rules)

pub returns-then-size-gt-LARGEST_SET : goal.returns-then-size-gt-LARGEST_SET
returns-then-size-gt-LARGEST_SET c = search (vertex_laws, rules)

pub vertex_items-requires : goal.vertex_items-requires
vertex_items-requires c = (search rules, search rules, search rules, search rules, words-room _ _ _ _ _ c.vertex_words-words.ensures.0)

pub returns-in_err-count : goal.returns-in_err-count
returns-in_err-count c = let h = c.in_err-count.was in let p = err_from_is_err_and c.from_residual.result c.from_residual.ensures.1 in rw (p.1, p.2) (search (vertex_laws, rules))

pub returns : goal.returns
returns c = let h = c.in_ok-count.was in search (vertex_laws, rules)
