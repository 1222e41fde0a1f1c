-- `keys_valid` looks at rows by the runs of a key.
use Rattle.b3d_rule_row_masks.proofs.MaskLaws.{known_runs}
use Rattle.b3d_check_absent_words.proofs.CleanRowLaws.{clean-known}
use borrow.Author.Rules.{rules}
use Rattle.b3d_check_absent_words.proofs.keys_valid.Goals as goal

pub key_runs-g-requires : goal.key_runs-g-requires
key_runs-g-requires c = search (known_runs, clean-known, rules)

pub keys_clean-requires : goal.keys_clean-requires
keys_clean-requires c = search (known_runs, clean-known, rules)

pub returns : goal.returns
returns c = search (known_runs, clean-known, rules)
