-- `put_shown` puts one byte a turn: those behind the index are left.
use Rattle.b3d_list_text.proofs.TextLaws.{shows_laws}
use borrow.Author.Rules.{rules}
use Rattle.b3d_list_text.proofs.put_shown.Goals as goal

pub loop-byte-init : goal.loop-byte-init
loop-byte-init c = search (shows_laws, rules)

pub put-next-requires : goal.put-next-requires
put-next-requires c = search (shows_laws, rules)

pub loop-byte-preserved : goal.loop-byte-preserved
loop-byte-preserved c = search (shows_laws, rules)

pub returns : goal.returns
returns c = search (shows_laws, rules)
