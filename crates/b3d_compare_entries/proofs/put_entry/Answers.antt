-- `put_entry` puts the numbers, then the texts.
use borrow.Author.Rules.{rules}
use Rattle.b3d_compare_entries.proofs.EntryLaws.{entry_laws}
use Rattle.b3d_compare_entries.proofs.put_entry.Goals as goal

pub entry_numbers-ns-requires : goal.entry_numbers-ns-requires
entry_numbers-ns-requires c = search (entry_laws, rules)

pub put_numbers-next-requires : goal.put_numbers-next-requires
put_numbers-next-requires c = search (entry_laws, rules)

pub put_texts-requires : goal.put_texts-requires
put_texts-requires c = search (entry_laws, rules)

pub returns : goal.returns
returns c = search (entry_laws, rules)
