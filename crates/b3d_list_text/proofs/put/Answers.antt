-- `put` stores the byte where there is room.
use Rattle.b3d_list_text.proofs.PutLaws.{put_laws}
use borrow.Author.Rules.{rules}
use Rattle.b3d_list_text.proofs.put.Goals as goal

pub returns-then-at-out : goal.returns-then-at-out
returns-then-at-out c = search (put_laws, rules)

pub returns : goal.returns
returns c = search (put_laws, rules)
