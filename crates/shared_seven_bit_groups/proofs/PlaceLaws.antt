-- Where reading leaves off, and that no refusal stands further on than a number's groups.
use mathlib.Core.Path.{◌≡◌, refl, ◌∙◌}
use Prim.Native.Nat.{ℕ, zero, suc, ◌+◌, ◌-◌, ◌*◌, ◌≤◌}
use native.Mathlib.Omega.{arith}
use mathlib.Core.Bool.{Bool, true, false}
use mathlib.Core.List.{List, [], ◌∷◌}
use lib.ListN.{length, drop}
use lib.Dec.{ltb}
use Rattle.wire.specs.Test.{if}
use Rattle.layout.specs.Result.{Result, accept, reject, check, ◌>>=◌}
use Rattle.layout.specs.Parts.{Step}
use Rattle.layout.proofs.ResultLaws.{by_got}
use Rattle.shared_seven_bit_groups.specs.Groups.{groups_of, last, read_in, read_number, read_numbers}

-- reading went on from place p over some of the bytes s, at most k of them
pub record Moved (p k : ℕ) (s : List ℕ) (x : Step ℕ) : Type 0 where
  pub from : p ≤ x.place
  pub few : x.place ≤ p + k
  pub left : x.left ≡ drop (x.place - p) s
  pub to : x.place + length x.left ≡ p + length s

abbrev pub Placed : ℕ → ℕ → List ℕ → Result (Step ℕ) → Type 0
Placed p k s (accept x) = Moved p k s x
Placed p k s (reject n q) = (n ≡ 13) × (q ≤ p + k)

-- both ways of a test
held-if : {A : Type 0} (P : A → Type 0) (b : Bool) (x y : A) → P x → P y → P (if b x y)
unfolding if
held-if P true x y h k = h
held-if P false x y h k = k

held-check : {A : Type 0} (P : Result A → Type 0) (b : Bool) (n p : ℕ) (o : Result A) → P o → P (reject n p) → P (check b n p >>= λ _. o)
unfolding check
held-check P true n p o h k = h
held-check P false n p o h k = k

module _ (start most : ℕ) where
  moved_more : (k p b : ℕ) (s : List ℕ) (o : Result (Step ℕ)) → Placed (p + 1) k s o → Placed p (suc k) (b ∷ s) o
  moved_more k p b s (accept x) m =
      let next : x.place - p ≡ suc (x.place - (p + 1)) = omega (arith, m.from) in
      record { from = omega (arith, m.from); few = omega (arith, m.few); left = m.left ∙ rw next; to = omega (arith, m.to) }
  moved_more k p b s (reject n q) m = (m.0, omega (arith, m.1))

  pub read-placed : (k v p : ℕ) (s : List ℕ) → start ≤ p → Placed p k s (read_in start most k v p s)
  unfolding read_in last
  read-placed zero v p s h = (refl, omega arith)
  read-placed (suc k) v p [] h = (refl, omega arith)
  read-placed (suc k) v p (b ∷ s) h =
      let one : p + 1 - p ≡ 1 = omega arith in
      let w = v * 128 + (b - 128) in
      let P = Placed p (suc k) (b ∷ s) in
      let wrong : P (reject 13 start) = (refl, omega arith) in
      held-if P (ltb b 128) _ _
      (held-check P _ 13 start _ (record { from = omega arith; few = omega arith; left = rw one; to = omega arith }) wrong)
      (held-check P _ 13 start _ (moved_more k p b s (read_in start most k w (p + 1) s) (read-placed k w (p + 1) s (omega arith))) wrong)

pub number-placed : (most p : ℕ) (s : List ℕ) → Placed p (groups_of most) s (read_number most p s)
unfolding read_number
number-placed most p s = read-placed p most (groups_of most) 0 p s (omega arith)

-- numbers one after the other
pub numbers-to : (ms : List ℕ) (p : ℕ) (s : List ℕ) (x : Step (List ℕ)) → read_numbers ms p s ≡ accept x → x.place + length x.left ≡ p + length s
unfolding read_numbers
numbers-to [] p s x e = let g : x ≡ record { value = []; place = p; left = s } = cc in rw g
numbers-to (m ∷ ms) p s x e =
    by_got (read_number m p s) _ e
    (λ y e₁ e₂. by_got (read_numbers ms y.place y.left) _ e₂
    (λ z e₃ e₄. let g : x ≡ record { value = y.value ∷ z.value; place = z.place; left = z.left } = cc in
    let first : Moved p (groups_of m) s y = rw e₁ at (number-placed m p s) in
    let rest = numbers-to ms y.place y.left z e₃ in
    rw g (omega (arith, first.to))))
