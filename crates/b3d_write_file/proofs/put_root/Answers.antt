-- `put_root` writes the root and all below it.
use Rattle.b3d_write_file.proofs.RootLaws.{root_laws}
use borrow.Author.Rules.{rules}
use Rattle.b3d_write_file.proofs.put_root.Goals as goal

pub returns-then-all-eq0 : goal.returns-then-all-eq0
returns-then-all-eq0 c = search (root_laws, rules)

pub write_node-root-requires : goal.write_node-root-requires
write_node-root-requires c = search (root_laws, rules)

pub returns : goal.returns
returns c = search (root_laws, rules)
