-- `colour_ok` answers the rule of a colour.
use Rattle.b3d_rule_colour.proofs.UnitRangeLaws.{no_nan, law, law_nan}
use Rattle.b3d_rule_colour.proofs.colour_ok.Goals as goal

pub returns-then-m-gt2139095040 : goal.returns-then-m-gt2139095040
returns-then-m-gt2139095040 c = law_nan c.args.bits c.if-m-gt2139095040.true

pub float_from_bits-x : goal.float_from_bits-x
float_from_bits-x c = no_nan c.args.bits c.if-m-gt2139095040.false

pub returns-then-x : goal.returns-then-x
returns-then-x c = rw c.if-x.true at (law c.args.bits c.ranges.bits.fits c.if-m-gt2139095040.false)

pub returns-else-x : goal.returns-else-x
returns-else-x c = rw c.if-x.false (rw c.if-x.false at (law c.args.bits c.ranges.bits.fits c.if-m-gt2139095040.false))
