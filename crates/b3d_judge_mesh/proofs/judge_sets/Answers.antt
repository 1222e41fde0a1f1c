-- `judge_sets` judges the TRIS of a mesh. The loop is at a cursor, with how far the chunks have come and the tally of the sets before; its measure is what is left.
use Rattle.std.proofs.lemmas.Result.{err_from_is_err_and}
use Prim.Native.Nat.{◌-◌}
use Rattle.b3d_judge_mesh.proofs.SetLaws.{setting}
use borrow.Author.Rules.{rules}
use Rattle.b3d_judge_mesh.proofs.judge_sets.Goals as goal

pub none-m-requires : goal.none-m-requires
none-m-requires c = search (setting, rules)

pub loop-p-init : goal.loop-p-init
loop-p-init c = search (setting, rules)

pub next_chunk-found-requires : goal.next_chunk-found-requires
next_chunk-found-requires c = search (setting, rules)

pub next_inside-requires : goal.next_inside-requires
next_inside-requires c = search (setting, rules)

pub judge_triangles-requires : goal.judge_triangles-requires
judge_triangles-requires c = search (setting, rules)

pub enum_known-t : goal.enum_known-t
enum_known-t c = search (setting, rules)

pub plus-m-requires : goal.plus-m-requires
plus-m-requires c = search (setting, rules)

pub loop-p-smaller : goal.loop-p-smaller
loop-p-smaller c = search (setting, rules)

pub loop-p-preserved : goal.loop-p-preserved
loop-p-preserved c = let h = c.in_ok-p.was in let w = rw c.in-Some.is at h in let k = c.in_ok-t.was in search (setting, rules)

pub returns-in_err-p : goal.returns-in_err-p
returns-in_err-p c = let h = c.in_err-p.was in let p = err_from_is_err_and c.from_residual.result c.from_residual.ensures.1 in rw (p.1, p.2) (search (setting, rules))

pub returns-in_default : goal.returns-in_default
returns-in_default c = let h = c.in_ok-p.was in search (setting, rules)

pub returns-in_err-t : goal.returns-in_err-t
returns-in_err-t c = let h = c.in_err-t.was in let p = err_from_is_err_and c.from_residual-in_err-t.result c.from_residual-in_err-t.ensures.1 in rw (p.1, p.2) (search (setting, rules))
