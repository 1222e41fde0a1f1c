-- `put_decimal` puts the digits of a tenth of the number first: the number is the measure.
use Rattle.b3d_list_text.proofs.+put_decimal.Given as goal

abbrev pub decreases-put_decimal : goal.decreases-put_decimal
decreases-put_decimal l = l.n
