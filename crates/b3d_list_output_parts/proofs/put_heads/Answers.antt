-- `put_heads` puts the first three lines, one after the other.
use Rattle.b3d_list_output_parts.proofs.PartLaws.{heads_laws}
use borrow.Author.Rules.{rules}
use Rattle.b3d_list_output_parts.proofs.put_heads.Goals as goal

pub put_pair-second-requires : goal.put_pair-second-requires
put_pair-second-requires c = search (heads_laws, rules)

pub put_counts-requires : goal.put_counts-requires
put_counts-requires c = search (heads_laws, rules)

pub returns : goal.returns
returns c = search (heads_laws, rules)
