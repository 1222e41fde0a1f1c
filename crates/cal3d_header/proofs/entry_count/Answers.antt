-- `entry_count` answers how many entries a file says it has.
use borrow.Author.Rules.{rules}
use Rattle.cal3d_header.proofs.HeadLaws.{head}
use Rattle.cal3d_header.proofs.entry_count.Goals as goal

pub returns-then-n-lt-FEWEST_BYTES : goal.returns-then-n-lt-FEWEST_BYTES
returns-then-n-lt-FEWEST_BYTES c = search (head, rules)

pub returns-then-number_at-magic : goal.returns-then-number_at-magic
returns-then-number_at-magic c = search (head, rules)

pub returns-then-n-more : goal.returns-then-n-more
returns-then-n-more c = search (head, rules)

pub returns-then-number_at-version : goal.returns-then-number_at-version
returns-then-number_at-version c = search (head, rules)

pub returns-then-count-gt2147483647 : goal.returns-then-count-gt2147483647
returns-then-count-gt2147483647 c = search (head, rules)

pub returns : goal.returns
returns c = search (head, rules)
