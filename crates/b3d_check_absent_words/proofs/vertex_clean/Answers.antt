-- `vertex_clean` looks at the runs that are left out.
use Rattle.b3d_check_absent_words.proofs.CleanRowLaws.{place_laws}
use borrow.Author.Rules.{rules}
use Rattle.b3d_check_absent_words.proofs.vertex_clean.Goals as goal

pub overflow_add-p : goal.overflow_add-p
overflow_add-p c = search (place_laws, rules)

pub overflow_add-q : goal.overflow_add-q
overflow_add-q c = search (place_laws, rules)

pub overflow_add-s : goal.overflow_add-s
overflow_add-s c = search (place_laws, rules)

pub overflow_mul-e : goal.overflow_mul-e
overflow_mul-e c = search (place_laws, rules)

pub overflow_add-e : goal.overflow_add-e
overflow_add-e c = search (place_laws, rules)

pub overflow_add-p-2 : goal.overflow_add-p-2
overflow_add-p-2 c = search (place_laws, rules)

pub overflow_sub-g : goal.overflow_sub-g
overflow_sub-g c = search (place_laws, rules)

pub full_zeros-a-requires : goal.full_zeros-a-requires
full_zeros-a-requires c = search (place_laws, rules)

pub overflow_add-q-2 : goal.overflow_add-q-2
overflow_add-q-2 c = search (place_laws, rules)

pub overflow_sub-g-2 : goal.overflow_sub-g-2
overflow_sub-g-2 c = search (place_laws, rules)

pub full_zeros-b-requires : goal.full_zeros-b-requires
full_zeros-b-requires c = search (place_laws, rules)

pub sets_clean-c-requires : goal.sets_clean-c-requires
sets_clean-c-requires c = search (place_laws, rules)

pub full_zeros-d-requires : goal.full_zeros-d-requires
full_zeros-d-requires c = search (place_laws, rules)

pub returns : goal.returns
returns c = search (place_laws, rules)
