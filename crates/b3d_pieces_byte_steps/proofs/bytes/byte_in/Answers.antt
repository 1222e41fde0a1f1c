-- `byte_in` comes to the machine's state, whatever chunks stand around.
use Rattle.b3d_pieces_byte_steps.proofs.ByteLaws.{byte_laws}
use borrow.Author.Rules.{rules}
use Rattle.b3d_pieces_byte_steps.proofs.bytes.byte_in.Goals as goal

pub text_byte-requires : goal.text_byte-requires
text_byte-requires c = search (byte_laws, rules)

pub gathered-v-requires : goal.gathered-v-requires
gathered-v-requires c = search (byte_laws, rules)

pub word_done-requires : goal.word_done-requires
word_done-requires c = search (byte_laws, rules)

pub returns-then-j-eq3 : goal.returns-then-j-eq3
returns-then-j-eq3 c = search (byte_laws, rules)

pub overflow_add-result : goal.overflow_add-result
overflow_add-result c = search (byte_laws, rules)

pub skip_from-requires : goal.skip_from-requires
skip_from-requires c = search (byte_laws, rules)

pub returns-in-Text : goal.returns-in-Text
returns-in-Text c = search (byte_laws, rules)

pub returns-else-j-eq3 : goal.returns-else-j-eq3
returns-else-j-eq3 c = search (byte_laws, rules)

pub returns-in-Skip : goal.returns-in-Skip
returns-in-Skip c = search (byte_laws, rules)
