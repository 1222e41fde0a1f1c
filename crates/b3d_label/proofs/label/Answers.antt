-- `label` answers the label of a file.
use Rattle.b3d_label.proofs.FileLaws.{label_laws}
use borrow.Author.Rules.{rules}
use Rattle.b3d_label.proofs.label.Goals as goal

pub returns-then-tag-ne-BB3D : goal.returns-then-tag-ne-BB3D
returns-then-tag-ne-BB3D c = search (label_laws, rules)

pub file_label-requires : goal.file_label-requires
file_label-requires c = search (label_laws, rules)

pub returns-in-End : goal.returns-in-End
returns-in-End c = search (label_laws, rules)

pub returns-in-Cut : goal.returns-in-Cut
returns-in-Cut c = search (label_laws, rules)

pub returns-else-tag-ne-BB3D : goal.returns-else-tag-ne-BB3D
returns-else-tag-ne-BB3D c = search (label_laws, rules)
