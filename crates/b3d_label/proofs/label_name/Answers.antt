-- `label_name` gives the part of the file that the label names.
use Rattle.b3d_label.proofs.FileLaws.{label_laws}
use borrow.Author.Rules.{rules}
use Rattle.b3d_label.proofs.label_name.Goals as goal

pub returns : goal.returns
returns c = search (label_laws, rules)
