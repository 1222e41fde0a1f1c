-- `put_span` puts or counts the span's bytes.
use borrow.Author.Rules.{rules}
use Rattle.b3d_compare_entries.proofs.EntryLaws.{span_laws}
use Rattle.b3d_compare_entries.proofs.put_span.Goals as goal

pub put_copy-requires : goal.put_copy-requires
put_copy-requires c = record { count_in_bounds = search (span_laws, rules); room_from = search (span_laws, rules) }

pub returns : goal.returns
returns c = search (span_laws, rules)
