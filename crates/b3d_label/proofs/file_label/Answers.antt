-- `file_label` answers the label of a BB3D.
use Rattle.b3d_label.proofs.RootLaws.{file_laws}
use borrow.Author.Rules.{rules}
use Rattle.b3d_label.proofs.file_label.Goals as goal

pub seek-requires : goal.seek-requires
seek-requires c = search (file_laws, rules)

pub root_label-requires : goal.root_label-requires
root_label-requires c = search (file_laws, rules)

pub returns-in_default : goal.returns-in_default
returns-in_default c = search (file_laws, rules)

pub returns-in_default-seek : goal.returns-in_default-seek
returns-in_default-seek c = search (file_laws, rules)

pub returns : goal.returns
returns c = search (file_laws, rules)
