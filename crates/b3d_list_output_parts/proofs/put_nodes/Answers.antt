-- `put_nodes` fills a table of its own with the nodes' rows, and puts their lines.
use Rattle.b3d_list_output_parts.proofs.PartLaws.{nodes_laws}
use borrow.Author.Rules.{rules}
use Rattle.b3d_list_output_parts.proofs.put_nodes.Goals as goal

pub store_nodes-requires : goal.store_nodes-requires
store_nodes-requires c = search (nodes_laws, rules)

pub put_names-requires : goal.put_names-requires
put_names-requires c = search (nodes_laws, rules)

pub returns : goal.returns
returns c = search (nodes_laws, rules)
