-- `run` takes the piece's bytes.
use borrow.Author.Rules.{rules}
use Rattle.b3d_pieces_words_loop.proofs.LoopLaws.{run_laws}
use Rattle.b3d_pieces_words_loop.proofs.run.Goals as goal

pub begin-requires : goal.begin-requires
begin-requires c = search (run_laws, rules)

pub pass-t-requires : goal.pass-t-requires
pass-t-requires c = search (run_laws, rules)

pub loop-t-init : goal.loop-t-init
loop-t-init c = search (run_laws, rules)

pub open_at-top-requires : goal.open_at-top-requires
open_at-top-requires c = search (run_laws, rules)

pub bounds-piece-at : goal.bounds-piece-at
bounds-piece-at c = search (run_laws, rules)

pub step-s-requires : goal.step-s-requires
step-s-requires c = search (run_laws, rules)

pub put_open-requires : goal.put_open-requires
put_open-requires c = search (run_laws, rules)

pub pass-t-requires-in-loop-t : goal.pass-t-requires-in-loop-t
pass-t-requires-in-loop-t c = search (run_laws, rules)

pub loop-t-smaller : goal.loop-t-smaller
loop-t-smaller c = search (run_laws, rules)

pub loop-t-preserved : goal.loop-t-preserved
loop-t-preserved c = search (run_laws, rules)

pub shape_of-row : goal.shape_of-row
shape_of-row c = search (run_laws, rules)

pub returns : goal.returns
returns c = search (run_laws, rules)
