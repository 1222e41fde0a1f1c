-- `first_short` finds the first table that is too short.
use Rattle.b3d_judge_limits.proofs.RoomLaws.{short-ten}
use Rattle.b3d_judge_limits.proofs.first_short.Goals as goal

pub returns : goal.returns
returns c = let c9 = c in
    let c8 = c9 in
    let c7 = c8 in
    let c6 = c7 in
    let c5 = c6 in
    let c4 = c5 in
    let c3 = c4 in
    let c2 = c3 in
    let c1 = c2 in
    rw (
      c.short_table_or.ensures,
      c9.short_table_or-from2.ensures,
      c8.short_table_or-from3.ensures,
      c7.short_table_or-from4.ensures,
      c6.short_table_or-from5.ensures,
      c5.short_table_or-from6.ensures,
      c4.short_table_or-from7.ensures,
      c3.short_table_or-from8.ensures,
      c2.short_table_or-from9.ensures,
      c1.short_table_or-from10.ensures,
      short-ten,
    )
