-- `put_item_words` puts one word a turn: those from i on are left.
use Rattle.b3d_compare_item_words.proofs.WordEntryLaws.{words_laws}
use borrow.Author.Rules.{rules}
use Rattle.b3d_compare_item_words.proofs.put_item_words.Goals as goal

pub loop-i-init : goal.loop-i-init
loop-i-init c = search (words_laws, rules)

pub overflow_mul-i : goal.overflow_mul-i
overflow_mul-i c = search (words_laws, rules)

pub overflow_add-p : goal.overflow_add-p
overflow_add-p c = search (words_laws, rules)

pub number_at-x-requires : goal.number_at-x-requires
number_at-x-requires c = search (words_laws, rules)

pub overflow_mul-i-in-loop-i : goal.overflow_mul-i-in-loop-i
overflow_mul-i-in-loop-i c = search (words_laws, rules)

pub overflow_add-q : goal.overflow_add-q
overflow_add-q c = search (words_laws, rules)

pub number_at-y-requires : goal.number_at-y-requires
number_at-y-requires c = search (words_laws, rules)

pub offset_bounds-cols-i : goal.offset_bounds-cols-i
offset_bounds-cols-i c = search (words_laws, rules)

pub bounds-cols-i : goal.bounds-cols-i
bounds-cols-i c = search (words_laws, rules)

pub item_float-float-requires : goal.item_float-float-requires
item_float-float-requires c = search (words_laws, rules)

pub put_pair-next-requires : goal.put_pair-next-requires
put_pair-next-requires c = search (words_laws, rules)

pub loop-i-preserved : goal.loop-i-preserved
loop-i-preserved c = search (words_laws, rules)

pub shape_of-out : goal.shape_of-out
shape_of-out c = search (words_laws, rules)

pub returns : goal.returns
returns c = search (words_laws, rules)
