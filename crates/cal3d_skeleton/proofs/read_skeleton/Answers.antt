-- `read_skeleton` answers and leaves what the definition says.
use Rattle.cal3d_skeleton.proofs.JudgeLaws.{accepted-kids}
use Rattle.cal3d_skeleton.proofs.ReadLaws.{read-refused, read-short-first, read-short-second, read-room, read-good, read-few, read-kids, read_done}
use Rattle.cal3d_skeleton.proofs.read_skeleton.Goals as goal

pub returns-then-bones-count : goal.returns-then-bones-count
returns-then-bones-count c = read-short-first _ _ _ _ c.judged.ensures.value _ c.in-Ok.is _ c.size-count.ensures c.if-bones-count.true _ c.refused-then-bones-count.ensures

pub returns-then-children-x : goal.returns-then-children-x
returns-then-children-x c = read-short-second _ _ _ _ c.judged.ensures.value _ c.in-Ok.is _ c.size-count.ensures c.if-bones-count.false c.if-children-x.true _ c.refused-then-children-x.ensures

pub fill-requires : goal.fill-requires
fill-requires c = let a = c.args in
    let h = c.if-bones-count.false in record { good_bones = (read-good a.file.now a.bones.now a.children.now _ c.judged.ensures.value _ c.in-Ok.is _ c.size-count.ensures h, read-room a.file.now a.bones.now a.children.now _ c.judged.ensures.value _ c.in-Ok.is _ c.size-count.ensures h); count_in_bounds = (read-kids a.file.now a.bones.now a.children.now _ c.judged.ensures.value _ c.in-Ok.is _ c.size-count.ensures h c.if-children-x.false, read-few a.file.now a.bones.now a.children.now _ c.judged.ensures.value _ c.in-Ok.is _ c.size-count.ensures h) }

pub accepted-requires : goal.accepted-requires
accepted-requires c = accepted-kids _ _ c.judged.ensures.value _ c.in-Ok.is

pub returns-in-Err : goal.returns-in-Err
returns-in-Err c = read-refused _ _ _ _ c.judged.ensures.value _ c.in-Err.is _ c.refused.ensures

pub returns-else-children-x : goal.returns-else-children-x
returns-else-children-x c = read_done _ _ _ _ c.judged.ensures.value _ c.in-Ok.is _ c.size-count.ensures c.if-bones-count.false c.if-children-x.false _ _ c.fill.ensures.bones_after c.fill.ensures.children_after _ c.accepted.ensures
