-- `named_row` answers what `named_at` finds.
use Rattle.b3d_chunk_cursor.proofs.NamedLaws.{naming}
use borrow.Author.Rules.{rules}
use Rattle.b3d_chunk_cursor.proofs.named_row.Goals as goal

pub overflow_sub-end : goal.overflow_sub-end
overflow_sub-end c = search (naming, rules)

pub returns-then-end-at : goal.returns-then-end-at
returns-then-end-at c = search (naming, rules)

pub returns-in_default : goal.returns-in_default
returns-in_default c = search (naming, rules)

pub returns : goal.returns
returns c = search (naming, rules)
