-- `key_words` answers `key_words`, and how many words the mask of a key has.
use borrow.Author.Rules.{rules}
use Rattle.b3d_spec.specs.Rules.{key_words}
use Rattle.b3d_rule_widths.proofs.WidthLaws.{width_is}
use Rattle.b3d_rule_widths.proofs.key_words.Goals as goal

pub overflow_mul-flags : goal.overflow_mul-flags
unfolding key_words
overflow_mul-flags c = search rules

pub overflow_add-flags : goal.overflow_add-flags
unfolding key_words
overflow_add-flags c = search rules

pub overflow_mul-flags-2 : goal.overflow_mul-flags-2
unfolding key_words
overflow_mul-flags-2 c = search rules

pub overflow_add-flags-2 : goal.overflow_add-flags-2
unfolding key_words
overflow_add-flags-2 c = search rules

pub overflow_mul-flags-3 : goal.overflow_mul-flags-3
unfolding key_words
overflow_mul-flags-3 c = search rules

pub overflow_add-flags-3 : goal.overflow_add-flags-3
unfolding key_words
overflow_add-flags-3 c = search rules

pub size-requires : goal.size-requires
unfolding key_words
size-requires c = search rules

pub returns : goal.returns
unfolding key_words
returns c = search (width_is, rules)
