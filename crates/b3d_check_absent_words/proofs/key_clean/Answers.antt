-- `key_clean` looks at the runs that are left out.
use Rattle.b3d_check_absent_words.proofs.CleanRowLaws.{place_laws}
use borrow.Author.Rules.{rules}
use Rattle.b3d_check_absent_words.proofs.key_clean.Goals as goal

pub overflow_add-p : goal.overflow_add-p
overflow_add-p c = search (place_laws, rules)

pub overflow_add-q : goal.overflow_add-q
overflow_add-q c = search (place_laws, rules)

pub overflow_add-s : goal.overflow_add-s
overflow_add-s c = search (place_laws, rules)

pub overflow_add-p-2 : goal.overflow_add-p-2
overflow_add-p-2 c = search (place_laws, rules)

pub overflow_sub-g : goal.overflow_sub-g
overflow_sub-g c = search (place_laws, rules)

pub full_zeros-a-requires : goal.full_zeros-a-requires
full_zeros-a-requires c = search (place_laws, rules)

pub overflow_add-q-2 : goal.overflow_add-q-2
overflow_add-q-2 c = search (place_laws, rules)

pub overflow_sub-g-2 : goal.overflow_sub-g-2
overflow_sub-g-2 c = search (place_laws, rules)

pub full_zeros-b-requires : goal.full_zeros-b-requires
full_zeros-b-requires c = search (place_laws, rules)

pub overflow_add-s-2 : goal.overflow_add-s-2
overflow_add-s-2 c = search (place_laws, rules)

pub overflow_sub-g-3 : goal.overflow_sub-g-3
overflow_sub-g-3 c = search (place_laws, rules)

pub full_zeros-c-requires : goal.full_zeros-c-requires
full_zeros-c-requires c = search (place_laws, rules)

pub returns : goal.returns
returns c = search (place_laws, rules)
