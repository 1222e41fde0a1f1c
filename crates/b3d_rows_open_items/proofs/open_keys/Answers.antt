-- `open_keys` reads the flags of a KEYS.
use Rattle.b3d_rows_open_items.proofs.OpeningLaws.{open_laws}
use borrow.Author.Rules.{rules}
use Rattle.b3d_rows_open_items.proofs.open_keys.Goals as goal

pub first_word-head-requires : goal.first_word-head-requires
first_word-head-requires c = search (open_laws, rules)

pub key_words-words-requires : goal.key_words-words-requires
key_words-words-requires c = search (open_laws, rules)

pub returns : goal.returns
returns c = search (open_laws, rules)
