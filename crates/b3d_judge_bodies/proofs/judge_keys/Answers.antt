-- `judge_keys` answers what `read_keys` reads.
use Rattle.std.proofs.lemmas.Result.{err_from_is_err_and}
use borrow.Author.Rules.{rules}
use Rattle.b3d_spec_chunk_places.proofs.HeadLaws.{heads}
use Rattle.b3d_judge_bodies.proofs.KeyLaws.{key_laws}
use Rattle.b3d_judge_bodies.proofs.AnswerLaws.{counted-few}
use Rattle.b3d_judge_bodies.proofs.judge_keys.Goals as goal

pub returns-then-flags-gt-HIGHEST_KEY_FLAGS : goal.returns-then-flags-gt-HIGHEST_KEY_FLAGS
returns-then-flags-gt-HIGHEST_KEY_FLAGS c = search (key_laws, rules)

pub whole_items-requires : goal.whole_items-requires
whole_items-requires c = search (heads, rules)

pub keys-requires : goal.keys-requires
keys-requires c = let h = c.in_ok-count.was in search (counted-few, heads, rules)

pub returns-in_default : goal.returns-in_default
returns-in_default c = search (key_laws, rules)

pub returns-in_err-count : goal.returns-in_err-count
returns-in_err-count c = let h = c.in_err-count.was in let p = err_from_is_err_and c.from_residual.result c.from_residual.ensures.1 in rw (p.1, p.2) (search (key_laws, rules))

pub returns : goal.returns
returns c = let h = c.in_ok-count.was in search (key_laws, rules)
