-- How many words an item has: a law for each way through `key_words` and `item_width`.
use mathlib.Core.Path.{◌≡◌, refl, ap, sym, ◌∙◌}
use Prim.Native.Nat.{ℕ, zero, suc, ◌+◌, ◌*◌, ◌/◌, ◌%◌, ◌<◌}
use native.Mathlib.Nat.{zero-mul}
use native.Mathlib.Omega.{arith}
use mathlib.Core.Bool.{Bool, true, false}
use mathlib.Core.List.{[], ◌∷◌}
use lib.Dec.{eqb}
use Rattle.wire.specs.Test.{if}
use Rattle.b3d_spec.specs.Mask.{mask, ones, key_has, key_mask}
use Rattle.b3d_rule_widths.specs.Widths.{group_width}

times : Bool → ℕ → ℕ
times true n = n
times false n = 0

parts : (a b c : Bool) → 1 + times a 3 + times b 3 + times c 4 ≡ ones (true ∷ a ∷ a ∷ a ∷ b ∷ b ∷ b ∷ c ∷ c ∷ c ∷ c ∷ [])
unfolding times ones
parts true true true = refl
parts true true false = refl
parts true false true = refl
parts true false false = refl
parts false true true = refl
parts false true false = refl
parts false false true = refl
parts false false false = refl

bit : (x n : ℕ) → x < 2 → x * n ≡ times (eqb x 1) n
unfolding times
bit zero n h = zero-mul n
bit (suc zero) n h = let e : 1 * n ≡ n = omega arith in e
bit (suc (suc x)) n h = absurd (omega arith)

pub width_is : (flags r : ℕ) → r ≡ 1 + flags / 1 % 2 * 3 + flags / 2 % 2 * 3 + flags / 4 % 2 * 4 → r ≡ ones (key_mask flags)
unfolding key_mask mask key_has if
width_is flags r e =
    let a = bit (flags % 2) 3 (omega arith) in
    let b = bit (flags / 2 % 2) 3 (omega arith) in
    let c = bit (flags / 4 % 2) 4 (omega arith) in
    let w : r ≡ 1 + times (eqb (flags % 2) 1) 3 + times (eqb (flags / 2 % 2) 1) 3 + times (eqb (flags / 4 % 2) 1) 4 = omega arith in
    w ∙ parts (eqb (flags % 2) 1) (eqb (flags / 2 % 2) 1) (eqb (flags / 4 % 2) 1)

module _ (keys : Bool) (flags : ℕ) where
  pub key-wide : (r : ℕ) → keys ≡ true → r ≡ group_width true flags → r ≡ group_width keys flags
  key-wide r k e = e ∙ ap (λ (y : Bool). group_width y flags) (sym k)

  pub three-wide : keys ≡ false → 3 ≡ group_width keys flags
  three-wide k = ap (λ (y : Bool). group_width y flags) (sym k)

pub ruleset width_laws = (key-wide, three-wide)
