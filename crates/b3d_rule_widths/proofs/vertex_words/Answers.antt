-- `vertex_words` answers `vertex_words`.
use native.Mathlib.Omega.{arith}
use native.Mathlib.Nat.{mul-le-mul}
use borrow.Author.Rules.{rules}
use Rattle.b3d_spec.specs.Rules.{vertex_words}
use Rattle.b3d_rule_widths.proofs.vertex_words.Goals as goal

pub overflow_mul-flags : goal.overflow_mul-flags
unfolding vertex_words
overflow_mul-flags c = search rules

pub overflow_add-flags : goal.overflow_add-flags
unfolding vertex_words
overflow_add-flags c = search rules

pub overflow_mul-flags-2 : goal.overflow_mul-flags-2
unfolding vertex_words
overflow_mul-flags-2 c = search rules

pub overflow_add-flags-2 : goal.overflow_add-flags-2
unfolding vertex_words
overflow_add-flags-2 c = search rules

pub overflow_mul-sets : goal.overflow_mul-sets
unfolding vertex_words
overflow_mul-sets c = omega (arith, mul-le-mul c.requires.1 c.requires.2)

pub overflow_add-flags-3 : goal.overflow_add-flags-3
unfolding vertex_words
overflow_add-flags-3 c = omega (arith, mul-le-mul c.requires.1 c.requires.2)

pub size-requires : goal.size-requires
unfolding vertex_words
size-requires c = search rules

pub returns : goal.returns
unfolding vertex_words
returns c = let m = mul-le-mul c.requires.1 c.requires.2 in search rules
