-- `root_label` answers the label of a root.
use Rattle.b3d_label.proofs.RootLaws.{root-label_laws}
use borrow.Author.Rules.{rules}
use Rattle.b3d_label.proofs.root_label.Goals as goal

pub root_vertices-requires : goal.root_vertices-requires
root_vertices-requires c = search (root-label_laws, rules)

pub returns-in_default : goal.returns-in_default
returns-in_default c = search (root-label_laws, rules)

pub returns-in_default-root_vertices : goal.returns-in_default-root_vertices
returns-in_default-root_vertices c = search (root-label_laws, rules)

pub returns : goal.returns
returns c = search (root-label_laws, rules)
