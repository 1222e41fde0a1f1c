-- `sound` gives the verdict of the check, test by test, which is that of `rebuild`: the words and bytes that are lent are words and bytes.
use mathlib.Core.Path.{ap}
use mathlib.Core.Bool.{false, not}
use borrow.Author.Tests.{lt-leb, le-leb}
use Rattle.b3d_check_table_lengths.proofs.RoomLaws.{rooms-true}
use Rattle.b3d_check.proofs.CheckLaws.{slots-eight, no-rooms, no-version, no-slots, no-textures, no-brushes, no-tree, by-colours}
use Rattle.b3d_check.proofs.VerdictLaws.{lent_says}
use Rattle.b3d_check.proofs.sound.Goals as goal

pub returns-then-not-tables_have_rows : goal.returns-then-not-tables_have_rows
returns-then-not-tables_have_rows c = lent_says _ _ _ _ _ _ _ _ _ _ _ _ _ _ _ c.ranges.version c.ranges.slots c.type_inv.t1 c.type_inv.t2 c.type_inv.t3 c.type_inv.t4 c.type_inv.t5 c.type_inv.t6 c.type_inv.t7 c.type_inv.t8 c.type_inv.t9 c.type_inv.t10 c.type_inv.names false (no-rooms _ _ _ _ _ _ _ _ _ _ _ _ _ _ _ _ _ _ c.size-n1.ensures c.size-n2.ensures c.sizes-all.ensures _ c.tables_have_rows.ensures (ap not c.if-not-tables_have_rows.true))

pub returns-then-not-version : goal.returns-then-not-version
returns-then-not-version c = lent_says _ _ _ _ _ _ _ _ _ _ _ _ _ _ _ c.ranges.version c.ranges.slots c.type_inv.t1 c.type_inv.t2 c.type_inv.t3 c.type_inv.t4 c.type_inv.t5 c.type_inv.t6 c.type_inv.t7 c.type_inv.t8 c.type_inv.t9 c.type_inv.t10 c.type_inv.names false (no-version _ _ _ _ _ _ _ _ _ _ _ _ _ _ _ _ _ _ c.size-n1.ensures c.size-n2.ensures c.sizes-all.ensures _ c.tables_have_rows.ensures (ap not c.if-not-tables_have_rows.false) (ap not (lt-leb _ _ c.if-not-version.true)))

pub returns-then-not-slots_valid : goal.returns-then-not-slots_valid
returns-then-not-slots_valid c = lent_says _ _ _ _ _ _ _ _ _ _ _ _ _ _ _ c.ranges.version c.ranges.slots c.type_inv.t1 c.type_inv.t2 c.type_inv.t3 c.type_inv.t4 c.type_inv.t5 c.type_inv.t6 c.type_inv.t7 c.type_inv.t8 c.type_inv.t9 c.type_inv.t10 c.type_inv.names false (no-slots _ _ _ _ _ _ _ _ _ _ _ _ _ _ _ _ _ _ c.size-n1.ensures c.size-n2.ensures c.sizes-all.ensures _ c.tables_have_rows.ensures (ap not c.if-not-tables_have_rows.false) (ap not (le-leb _ _ c.if-not-version.false)) _ c.slots_valid.ensures (ap not c.if-not-slots_valid.true))

pub textures_valid-requires : goal.textures_valid-requires
textures_valid-requires c = (rooms-true _ _ _ _ _ _ _ _ _ _ _ _ _ _ c.tables_have_rows.ensures (ap not c.if-not-tables_have_rows.false)).room₁

pub returns-then-not-textures_valid : goal.returns-then-not-textures_valid
returns-then-not-textures_valid c = lent_says _ _ _ _ _ _ _ _ _ _ _ _ _ _ _ c.ranges.version c.ranges.slots c.type_inv.t1 c.type_inv.t2 c.type_inv.t3 c.type_inv.t4 c.type_inv.t5 c.type_inv.t6 c.type_inv.t7 c.type_inv.t8 c.type_inv.t9 c.type_inv.t10 c.type_inv.names false (no-textures _ _ _ _ _ _ _ _ _ _ _ _ _ _ _ _ _ _ c.size-n1.ensures c.size-n2.ensures c.sizes-all.ensures _ c.tables_have_rows.ensures (ap not c.if-not-tables_have_rows.false) (ap not (le-leb _ _ c.if-not-version.false)) _ c.slots_valid.ensures (ap not c.if-not-slots_valid.false) _ c.textures_valid.ensures (ap not c.if-not-textures_valid.true))

pub brushes_valid-requires : goal.brushes_valid-requires
brushes_valid-requires c = (slots-eight _ _ _ c.slots_valid.ensures (ap not c.if-not-slots_valid.false), (rooms-true _ _ _ _ _ _ _ _ _ _ _ _ _ _ c.tables_have_rows.ensures (ap not c.if-not-tables_have_rows.false)).room₂)

pub returns-then-not-brushes_valid : goal.returns-then-not-brushes_valid
returns-then-not-brushes_valid c = lent_says _ _ _ _ _ _ _ _ _ _ _ _ _ _ _ c.ranges.version c.ranges.slots c.type_inv.t1 c.type_inv.t2 c.type_inv.t3 c.type_inv.t4 c.type_inv.t5 c.type_inv.t6 c.type_inv.t7 c.type_inv.t8 c.type_inv.t9 c.type_inv.t10 c.type_inv.names false (no-brushes _ _ _ _ _ _ _ _ _ _ _ _ _ _ _ _ _ _ c.size-n1.ensures c.size-n2.ensures c.sizes-all.ensures _ c.tables_have_rows.ensures (ap not c.if-not-tables_have_rows.false) (ap not (le-leb _ _ c.if-not-version.false)) _ c.slots_valid.ensures (ap not c.if-not-slots_valid.false) _ c.textures_valid.ensures (ap not c.if-not-textures_valid.false) _ c.brushes_valid.ensures (ap not c.if-not-brushes_valid.true))

pub tree_valid-requires : goal.tree_valid-requires
tree_valid-requires c = let h = (rooms-true _ _ _ _ _ _ _ _ _ _ _ _ _ _ c.tables_have_rows.ensures (ap not c.if-not-tables_have_rows.false)) in record { limited = (h.limited, h.kinds); nodes_in_bounds = (h.room₃, h.lists) }

pub returns-then-not-tree_valid : goal.returns-then-not-tree_valid
returns-then-not-tree_valid c = lent_says _ _ _ _ _ _ _ _ _ _ _ _ _ _ _ c.ranges.version c.ranges.slots c.type_inv.t1 c.type_inv.t2 c.type_inv.t3 c.type_inv.t4 c.type_inv.t5 c.type_inv.t6 c.type_inv.t7 c.type_inv.t8 c.type_inv.t9 c.type_inv.t10 c.type_inv.names false (no-tree _ _ _ _ _ _ _ _ _ _ _ _ _ _ _ _ _ _ c.size-n1.ensures c.size-n2.ensures c.sizes-all.ensures _ c.tables_have_rows.ensures (ap not c.if-not-tables_have_rows.false) (ap not (le-leb _ _ c.if-not-version.false)) _ c.slots_valid.ensures (ap not c.if-not-slots_valid.false) _ c.textures_valid.ensures (ap not c.if-not-textures_valid.false) _ c.brushes_valid.ensures (ap not c.if-not-brushes_valid.false) _ c.tree_valid.ensures (ap not c.if-not-tree_valid.true))

pub colours_valid-requires : goal.colours_valid-requires
colours_valid-requires c = let h = (rooms-true _ _ _ _ _ _ _ _ _ _ _ _ _ _ c.tables_have_rows.ensures (ap not c.if-not-tables_have_rows.false)) in (h.room₂, h.kinds.room₅)

pub returns : goal.returns
returns c = lent_says _ _ _ _ _ _ _ _ _ _ _ _ _ _ _ c.ranges.version c.ranges.slots c.type_inv.t1 c.type_inv.t2 c.type_inv.t3 c.type_inv.t4 c.type_inv.t5 c.type_inv.t6 c.type_inv.t7 c.type_inv.t8 c.type_inv.t9 c.type_inv.t10 c.type_inv.names _ (by-colours _ _ _ _ _ _ _ _ _ _ _ _ _ _ _ _ _ _ c.size-n1.ensures c.size-n2.ensures c.sizes-all.ensures _ c.tables_have_rows.ensures (ap not c.if-not-tables_have_rows.false) (ap not (le-leb _ _ c.if-not-version.false)) _ c.slots_valid.ensures (ap not c.if-not-slots_valid.false) _ c.textures_valid.ensures (ap not c.if-not-textures_valid.false) _ c.brushes_valid.ensures (ap not c.if-not-brushes_valid.false) _ c.tree_valid.ensures (ap not c.if-not-tree_valid.false) _ c.colours_valid.ensures)
