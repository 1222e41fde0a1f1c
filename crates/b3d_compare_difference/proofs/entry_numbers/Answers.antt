-- `entry_numbers` by the cases of a difference.
use borrow.Author.Rules.{rules}
use Rattle.b3d_compare_difference.proofs.ValueLaws.{entry_laws}
use Rattle.b3d_compare_difference.proofs.entry_numbers.Goals as goal

pub float_to_bits-first : goal.float_to_bits-first
float_to_bits-first c = search (entry_laws, rules)

pub float_to_bits-second : goal.float_to_bits-second
float_to_bits-second c = search (entry_laws, rules)

pub returns-in-Wholes : goal.returns-in-Wholes
returns-in-Wholes c = search (entry_laws, rules)

pub returns-in-Floats : goal.returns-in-Floats
returns-in-Floats c = search (entry_laws, rules)

pub returns-in-Texts : goal.returns-in-Texts
returns-in-Texts c = search (entry_laws, rules)
