-- `closing_of` comes to what the definition's close does.
use Rattle.std.proofs.lemmas.Result.{err_from_is_err_and}
use Rattle.b3d_pieces_answers.proofs.ClosingLaws.{close_laws}
use borrow.Author.Rules.{rules}
use Rattle.b3d_pieces_answers.proofs.closing_of.Goals as goal

pub returns-then-size-lt-FEWEST_BYTES : goal.returns-then-size-lt-FEWEST_BYTES
returns-then-size-lt-FEWEST_BYTES c = search (close_laws, rules)

pub returns-then-size-gt-MOST_BYTES : goal.returns-then-size-gt-MOST_BYTES
returns-then-size-gt-MOST_BYTES c = search (close_laws, rules)

pub returns-then-j-ne-OPENING : goal.returns-then-j-ne-OPENING
returns-then-j-ne-OPENING c = search (close_laws, rules)

pub returns-then-j-size : goal.returns-then-j-size
returns-then-j-size c = search (close_laws, rules)

pub returns-then-k-eq0 : goal.returns-then-k-eq0
returns-then-k-eq0 c = let h = c.in_ok-g.was in search (close_laws, rules)

pub returns-in_err-g : goal.returns-in_err-g
returns-in_err-g c = let h = c.in_err-g.was in let p = err_from_is_err_and c.from_residual.result c.from_residual.ensures.1 in rw (p.1, p.2) (search (close_laws, rules))

pub returns : goal.returns
returns c = let h = c.in_ok-g.was in search (close_laws, rules)
