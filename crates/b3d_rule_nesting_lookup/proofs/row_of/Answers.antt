-- `row_of` picks the row of the table, which is the definition's.
use borrow.Author.Rules.{rules}
use Rattle.b3d_spec.specs.declared.Tag.TheVariants.{BB3D, TEXS, BRUS, NODE, MESH, VRTS, TRIS, BONE, KEYS, ANIM}
use Rattle.b3d_rule_nesting_lookup.proofs.LookupLaws.{row_picked}
use Rattle.b3d_rule_nesting_lookup.proofs.row_of.Goals as goal

pub returns-in-BB3D : goal.returns-in-BB3D
returns-in-BB3D c = row_picked BB3D c.args.enclosing _ c.nesting_table-table.ensures (search rules)

pub returns-in-TEXS : goal.returns-in-TEXS
returns-in-TEXS c = row_picked TEXS c.args.enclosing _ c.nesting_table-table.ensures (search rules)

pub returns-in-BRUS : goal.returns-in-BRUS
returns-in-BRUS c = row_picked BRUS c.args.enclosing _ c.nesting_table-table.ensures (search rules)

pub returns-in-NODE : goal.returns-in-NODE
returns-in-NODE c = row_picked NODE c.args.enclosing _ c.nesting_table-table.ensures (search rules)

pub returns-in-MESH : goal.returns-in-MESH
returns-in-MESH c = row_picked MESH c.args.enclosing _ c.nesting_table-table.ensures (search rules)

pub returns-in-VRTS : goal.returns-in-VRTS
returns-in-VRTS c = row_picked VRTS c.args.enclosing _ c.nesting_table-table.ensures (search rules)

pub returns-in-TRIS : goal.returns-in-TRIS
returns-in-TRIS c = row_picked TRIS c.args.enclosing _ c.nesting_table-table.ensures (search rules)

pub returns-in-BONE : goal.returns-in-BONE
returns-in-BONE c = row_picked BONE c.args.enclosing _ c.nesting_table-table.ensures (search rules)

pub returns-in-KEYS : goal.returns-in-KEYS
returns-in-KEYS c = row_picked KEYS c.args.enclosing _ c.nesting_table-table.ensures (search rules)

pub returns-in-ANIM : goal.returns-in-ANIM
returns-in-ANIM c = row_picked ANIM c.args.enclosing _ c.nesting_table-table.ensures (search rules)
