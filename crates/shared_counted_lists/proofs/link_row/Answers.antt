-- `link_row` answers where a row with an id or NONE and a count ends.
use borrow.Author.Rules.{rules}
use Rattle.shared_counted_lists.proofs.LinkLaws.{links}
use Rattle.shared_counted_lists.proofs.link_row.Goals as goal

pub returns-then-end-at : goal.returns-then-end-at
returns-then-end-at c = search (links, rules)

pub returns-then-not-id_valid : goal.returns-then-not-id_valid
returns-then-not-id_valid c = search (links, rules)

pub returns-then-number_at-gt2147483647 : goal.returns-then-number_at-gt2147483647
returns-then-number_at-gt2147483647 c = search (links, rules)

pub returns : goal.returns
returns c = search (links, rules)
