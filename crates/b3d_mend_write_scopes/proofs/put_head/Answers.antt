-- `put_head` puts the header of a chunk.
use borrow.Author.Rules.{rules}
use Rattle.b3d_mend_write_scopes.proofs.HeadLaws.{head_laws}
use Rattle.b3d_mend_write_scopes.proofs.put_head.Goals as goal

pub returns-then-report : goal.returns-then-report
returns-then-report c = search (head_laws, rules)

pub returns-then-not-wet : goal.returns-then-not-wet
returns-then-not-wet c = search (head_laws, rules)

pub slice_bounds-put_header-count : goal.slice_bounds-put_header-count
slice_bounds-put_header-count c = search (head_laws, rules)

pub slice_bounds-put_header-start : goal.slice_bounds-put_header-start
slice_bounds-put_header-start c = search (head_laws, rules)

pub slice_bounds-put_header-end : goal.slice_bounds-put_header-end
slice_bounds-put_header-end c = search (head_laws, rules)

pub letters-requires : goal.letters-requires
letters-requires c = search (head_laws, rules)

pub put_header-requires : goal.put_header-requires
put_header-requires c = search (head_laws, rules)

pub shape_of-out : goal.shape_of-out
shape_of-out c = search (head_laws, rules)

pub returns : goal.returns
returns c = search (head_laws, rules)
