-- `put_bone` stores a bone's row: its label, its numbers, and what came before.
use Prim.Native.Nat.{◌-◌}
use Rattle.wire.specs.Cursors.{left}
use Rattle.layout.specs.Parts.{words_of}
use Rattle.cal3d_skeleton_rows.proofs.FillLaws.{bone-put, words_long}
use Rattle.cal3d_skeleton_rows.proofs.put_bone.Goals as goal

pub returns : goal.returns
returns c = let a = c.args in
    let p = c.requires.inside in
    bone-put a.out.now a.base a.name (a.numbers.at - a.name) (words_of 20 (left a.numbers a.s.now)) a.before _ _ _
    c.put_cells.ensures c.copy_words.ensures c.put_cells-2.ensures (words_long 20 a.numbers a.s.now p.0 p.1)
