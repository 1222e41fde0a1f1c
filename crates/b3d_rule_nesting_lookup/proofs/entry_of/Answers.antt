-- `entry_of` picks the entry in the row.
use borrow.Author.Rules.{rules}
use Rattle.b3d_spec.specs.declared.Tag.TheVariants.{BB3D, TEXS, BRUS, NODE, MESH, VRTS, TRIS, BONE, KEYS, ANIM}
use Rattle.b3d_rule_nesting_lookup.proofs.LookupLaws.{entry_picked}
use Rattle.b3d_rule_nesting_lookup.proofs.entry_of.Goals as goal

pub returns-in-BB3D : goal.returns-in-BB3D
returns-in-BB3D c = entry_picked BB3D c.args.tag c.args.enclosing _ c.row_of-row.ensures (search rules)

pub returns-in-TEXS : goal.returns-in-TEXS
returns-in-TEXS c = entry_picked TEXS c.args.tag c.args.enclosing _ c.row_of-row.ensures (search rules)

pub returns-in-BRUS : goal.returns-in-BRUS
returns-in-BRUS c = entry_picked BRUS c.args.tag c.args.enclosing _ c.row_of-row.ensures (search rules)

pub returns-in-NODE : goal.returns-in-NODE
returns-in-NODE c = entry_picked NODE c.args.tag c.args.enclosing _ c.row_of-row.ensures (search rules)

pub returns-in-MESH : goal.returns-in-MESH
returns-in-MESH c = entry_picked MESH c.args.tag c.args.enclosing _ c.row_of-row.ensures (search rules)

pub returns-in-VRTS : goal.returns-in-VRTS
returns-in-VRTS c = entry_picked VRTS c.args.tag c.args.enclosing _ c.row_of-row.ensures (search rules)

pub returns-in-TRIS : goal.returns-in-TRIS
returns-in-TRIS c = entry_picked TRIS c.args.tag c.args.enclosing _ c.row_of-row.ensures (search rules)

pub returns-in-BONE : goal.returns-in-BONE
returns-in-BONE c = entry_picked BONE c.args.tag c.args.enclosing _ c.row_of-row.ensures (search rules)

pub returns-in-KEYS : goal.returns-in-KEYS
returns-in-KEYS c = entry_picked KEYS c.args.tag c.args.enclosing _ c.row_of-row.ensures (search rules)

pub returns-in-ANIM : goal.returns-in-ANIM
returns-in-ANIM c = entry_picked ANIM c.args.tag c.args.enclosing _ c.row_of-row.ensures (search rules)
