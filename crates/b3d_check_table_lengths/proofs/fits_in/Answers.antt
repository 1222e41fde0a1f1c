-- `fits_in` answers `fits_in`.
use Rattle.b3d_check_table_lengths.proofs.RoomLaws.{fits_laws}
use borrow.Author.Rules.{rules}
use Rattle.b3d_check_table_lengths.proofs.fits_in.Goals as goal

pub returns-then-n-gt-ROW_LIMIT : goal.returns-then-n-gt-ROW_LIMIT
returns-then-n-gt-ROW_LIMIT c = search (fits_laws, rules)

pub overflow_mul-result : goal.overflow_mul-result
overflow_mul-result c = search (fits_laws, rules)

pub returns : goal.returns
returns c = search (fits_laws, rules)
