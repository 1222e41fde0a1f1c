-- `three_words` reads one number after the other.
use borrow.Author.Rules.{rules}
use Rattle.b3d_chunk_walk.proofs.FirstWordLaws.{three_laws}
use Rattle.b3d_chunk_walk.proofs.three_words.Goals as goal

pub first_word-a-requires : goal.first_word-a-requires
first_word-a-requires c = search (three_laws, rules)

pub first_word-b-requires : goal.first_word-b-requires
first_word-b-requires c = search (three_laws, rules)

pub first_word-c-requires : goal.first_word-c-requires
first_word-c-requires c = search (three_laws, rules)

pub returns : goal.returns
returns c = search (three_laws, rules)
