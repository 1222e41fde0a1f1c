-- `fill_named` stores a row for each text with its words. The loop has stored those before c; its measure is what is left.
use Prim.Native.Nat.{◌-◌}
use Rattle.b3d_chunk_cursor.proofs.NamedLaws.{row_inside, row_room, after_less}
use Rattle.b3d_read_materials.proofs.NamedRowLaws.{texts_laws}
use borrow.Author.Rules.{rules}
use Rattle.b3d_read_materials.proofs.fill_named.Goals as goal

pub loop-length-init : goal.loop-length-init
loop-length-init c = search (texts_laws, row_inside, row_room, after_less, rules)

pub named_row-requires : goal.named_row-requires
named_row-requires c = search (texts_laws, row_inside, row_room, after_less, rules)

pub put_row-base-requires : goal.put_row-base-requires
put_row-base-requires c = search (texts_laws, row_inside, row_room, after_less, rules)

pub loop-length-smaller : goal.loop-length-smaller
loop-length-smaller c = search (texts_laws, row_inside, row_room, after_less, rules)

pub loop-length-preserved : goal.loop-length-preserved
loop-length-preserved c = search (texts_laws, row_inside, row_room, after_less, rules)

pub returns-in_default : goal.returns-in_default
returns-in_default c = search (texts_laws, row_inside, row_room, after_less, rules)
