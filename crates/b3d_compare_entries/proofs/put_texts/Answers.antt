-- `put_texts` by the cases of a difference.
use borrow.Author.Rules.{rules}
use Rattle.b3d_compare_entries.proofs.EntryLaws.{texts_laws}
use Rattle.b3d_compare_entries.proofs.put_texts.Goals as goal

pub put_span-next-requires : goal.put_span-next-requires
put_span-next-requires c = search (texts_laws, rules)

pub put_span-requires : goal.put_span-requires
put_span-requires c = search (texts_laws, rules)

pub returns-in-Wholes : goal.returns-in-Wholes
returns-in-Wholes c = search (texts_laws, rules)

pub returns-in-Floats : goal.returns-in-Floats
returns-in-Floats c = search (texts_laws, rules)

pub returns-in-Texts : goal.returns-in-Texts
returns-in-Texts c = search (texts_laws, rules)
