-- `same` compares letters.
use Rattle.b3d_chunk_cursor.proofs.TagLaws.{same_letters}
use borrow.Author.Rules.{rules}
use Rattle.b3d_chunk_cursor.proofs.same.Goals as goal

pub returns : goal.returns
returns c = search (same_letters, rules)
