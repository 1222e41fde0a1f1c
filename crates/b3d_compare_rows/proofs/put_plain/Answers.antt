-- `put_plain` puts one word a turn: those from w on are left.
use borrow.Author.Rules.{rules}
use Rattle.b3d_compare_rows.proofs.PutLaws.{plain_laws}
use Rattle.b3d_compare_rows.proofs.put_plain.Goals as goal

pub words_of-n-requires : goal.words_of-n-requires
words_of-n-requires c = search (plain_laws, rules)

pub loop-w-init : goal.loop-w-init
loop-w-init c = search (plain_laws, rules)

pub offset_bounds-x-w : goal.offset_bounds-x-w
offset_bounds-x-w c = search (plain_laws, rules)

pub bounds-x-w : goal.bounds-x-w
bounds-x-w c = search (plain_laws, rules)

pub offset_bounds-y-w : goal.offset_bounds-y-w
offset_bounds-y-w c = search (plain_laws, rules)

pub bounds-y-w : goal.bounds-y-w
bounds-y-w c = search (plain_laws, rules)

pub put_word-next-requires : goal.put_word-next-requires
put_word-next-requires c = record { k_bound = search rules; w_bound = search (plain_laws, rules); room_from = search (plain_laws, rules) }

pub loop-w-preserved : goal.loop-w-preserved
loop-w-preserved c = search (plain_laws, rules)

pub shape_of-out : goal.shape_of-out
shape_of-out c = search (plain_laws, rules)

pub returns : goal.returns
returns c = search (plain_laws, rules)
