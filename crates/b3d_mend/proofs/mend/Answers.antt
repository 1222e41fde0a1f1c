-- `mend` copies a file that the reader accepts, and mends any other.
use Rattle.b3d_mend.proofs.MendLaws.{is-accepted}
use borrow.Author.Rules.{rules}
use Rattle.b3d_mend.proofs.mend.Goals as goal

pub copy_accepted-requires : goal.copy_accepted-requires
copy_accepted-requires c = search (is-accepted, rules)
