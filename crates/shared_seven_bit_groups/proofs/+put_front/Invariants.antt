-- `put_front` puts the groups above the lowest first: the number is the measure.
use Rattle.shared_seven_bit_groups.proofs.+put_front.Given as goal

abbrev pub decreases-put_front : goal.decreases-put_front
decreases-put_front l = l.w
