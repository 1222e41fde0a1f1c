-- `put_line` puts the text, then the end of the line.
use Rattle.b3d_list_text.proofs.TextLaws.{line_laws}
use borrow.Author.Rules.{rules}
use Rattle.b3d_list_text.proofs.put_line.Goals as goal

pub put-requires : goal.put-requires
put-requires c = search (line_laws, rules)

pub returns : goal.returns
returns c = search (line_laws, rules)
