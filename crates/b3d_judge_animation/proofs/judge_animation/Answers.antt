-- `judge_animation` judges KEYS and ANIM. The loop is at a cursor, with how far the chunks have come and the tally of the keys before; its measure is what is left.
use Rattle.std.proofs.lemmas.Result.{err_from_is_err_and}
use Prim.Native.Nat.{◌-◌}
use Rattle.b3d_judge_animation.proofs.AnimationLaws.{moving_laws}
use borrow.Author.Rules.{rules}
use Rattle.b3d_judge_animation.proofs.judge_animation.Goals as goal

pub none-m-requires : goal.none-m-requires
none-m-requires c = search (moving_laws, rules)

pub loop-tag-init : goal.loop-tag-init
loop-tag-init c = search (moving_laws, rules)

pub next_chunk-found-requires : goal.next_chunk-found-requires
next_chunk-found-requires c = search (moving_laws, rules)

pub next_inside-requires : goal.next_inside-requires
next_inside-requires c = search (moving_laws, rules)

pub enum_told-1 : goal.enum_told-1
enum_told-1 c = search (moving_laws, rules)

pub with_anim-requires : goal.with_anim-requires
with_anim-requires c = search (moving_laws, rules)

pub judge_keys-requires : goal.judge_keys-requires
judge_keys-requires c = search (moving_laws, rules)

pub enum_known-t : goal.enum_known-t
enum_known-t c = search (moving_laws, rules)

pub plus-m-requires : goal.plus-m-requires
plus-m-requires c = search (moving_laws, rules)

pub enum_told-in-ANIM : goal.enum_told-in-ANIM
enum_told-in-ANIM c = search (moving_laws, rules)

pub overflow_sub-body : goal.overflow_sub-body
overflow_sub-body c = search (moving_laws, rules)

pub returns-then-body-ne12 : goal.returns-then-body-ne12
returns-then-body-ne12 c = search (moving_laws, rules)

pub loop-tag-smaller : goal.loop-tag-smaller
loop-tag-smaller c = search (moving_laws, rules)

pub loop-tag-preserved : goal.loop-tag-preserved
loop-tag-preserved c = let h = c.in_ok-tag.was in let w = rw c.in-Some.is at h in search (moving_laws, rules)

pub returns-in_default : goal.returns-in_default
returns-in_default c = let h = c.in_ok-tag.was in let w = rw c.in_default.is at h in search (moving_laws, rules)

pub returns-in_err-tag : goal.returns-in_err-tag
returns-in_err-tag c = let h = c.in_err-tag.was in let p = err_from_is_err_and c.from_residual.result c.from_residual.ensures.1 in rw (p.1, p.2) (search (moving_laws, rules))

pub returns-in_err-t-in-KEYS : goal.returns-in_err-t-in-KEYS
returns-in_err-t-in-KEYS c = let h₁ = c.in_ok-tag.was in let h₂ = c.in_err-t-in-KEYS.was in let w = rw c.in-Some.is at h₁ in let p = err_from_is_err_and c.from_residual-in_err-t-in-KEYS.result c.from_residual-in_err-t-in-KEYS.ensures.1 in rw (p.1, p.2) (search (moving_laws, rules))

pub loop-tag-preserved-in-KEYS : goal.loop-tag-preserved-in-KEYS
loop-tag-preserved-in-KEYS c =
    let h₁ = c.in_ok-tag.was in let w = rw c.in-Some.is at h₁ in let h₂ = c.in_ok-t-in-KEYS.was in search (moving_laws, rules)

pub with_anim-requires-in_default-tag : goal.with_anim-requires-in_default-tag
with_anim-requires-in_default-tag c = search (moving_laws, rules)

pub returns-in_default-tag : goal.returns-in_default-tag
returns-in_default-tag c =
    let h = c.in_ok-tag.was in let w = rw c.in-Some.is at h in search (moving_laws, c.in_default-tag.not-KEYS, c.in_default-tag.not-ANIM, rules)
