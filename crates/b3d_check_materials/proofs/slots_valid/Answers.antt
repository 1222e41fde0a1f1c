-- `slots_valid` answers `slots_valid`.
use Rattle.b3d_check_materials.proofs.BrushLaws.{slots_laws}
use borrow.Author.Rules.{rules}
use Rattle.b3d_check_materials.proofs.slots_valid.Goals as goal

pub returns-then-brushes-eq0 : goal.returns-then-brushes-eq0
returns-then-brushes-eq0 c = search (slots_laws, rules)

pub returns : goal.returns
returns c = search (slots_laws, rules)
