-- What is written in groups reads back as that number; what reads as a number is how that number is written. So for a list of numbers.
use mathlib.Core.Path.{◌≡◌, refl, ap, sym, ◌∙◌}
use mathlib.Core.Logic.{◌⊎◌, inl, inr}
use Prim.Native.Nat.{ℕ, zero, suc, ◌+◌, ◌-◌, ◌*◌, ◌/◌, ◌%◌, ◌<◌, ◌≤◌}
use native.Mathlib.Omega.{arith}
use mathlib.Core.List.{List, [], ◌∷◌}
use lib.Dec.{T, leb, ltb, leb→le, ltb→lt, nltb→le}
use borrow.Author.Tests.{lt-ltb, le-ltb, le-leb, lt-leb}
use mir.Facts.{and_yes}
use Rattle.wire.specs.Test.{if}
use Rattle.wire.specs.Bytes.{AllBytes}
use Rattle.layout.specs.Result.{Result, accept, reject, check, ◌>>=◌}
use Rattle.layout.specs.Parts.{Step}
use Rattle.layout.proofs.ResultLaws.{by-if, by-check, by_got, bad_got}
use Rattle.shared_seven_bit_groups.specs.Groups.{AtMost, front, groups, groups_of, write_numbers, goes_on, last, read_in, read_number, read_numbers}
use Rattle.shared_seven_bit_groups.proofs.GroupLaws.{front-none, front-more, front_of, count_none, count_more, count_is, groups_up}

-- ---- one group

module _ (start most k v p b : ℕ) (s : List ℕ) where
  pub read-last : b < 128 → read_in start most (suc k) v p (b ∷ s) ≡ last start most (v * 128 + b) (p + 1) s
  unfolding read_in if
  read-last h = rw (lt-ltb b 128 h)

  pub read_more : 128 ≤ b → read_in start most (suc k) v p (b ∷ s)
      ≡ (check (goes_on most (v * 128 + (b - 128))) 13 start >>= λ _. read_in start most k (v * 128 + (b - 128)) (p + 1) s)
  unfolding read_in if
  read_more h = rw (le-ltb b 128 h)

pub last_fits : (start most n p : ℕ) (s : List ℕ) → n ≤ most → last start most n p s ≡ accept (record { value = n; place = p; left = s })
unfolding last check
last_fits start most n p s h = rw (le-leb n most h)

pub goes_on_is : (start most w : ℕ) → 0 < w → w * 128 ≤ most → check (goes_on most w) 13 start ≡ accept tt
unfolding goes_on check
goes_on_is start most w h i = rw (lt-ltb 0 w h, le-leb (w * 128) most i)

pub last-over : (start most n p : ℕ) (s : List ℕ) → most < n → last start most n p s ≡ reject 13 start
unfolding last check
last-over start most n p s h = rw (lt-leb n most h)

-- an empty first group, or one that no group can bring into range
pub goes-not : {A : Type 0} (start most w : ℕ) (o : Result A) → (w ≡ 0) ⊎ (most < w * 128) → (check (goes_on most w) 13 start >>= λ _. o) ≡ reject 13 start
unfolding goes_on check
goes-not start most w o (inl e) = rw (le-ltb 0 w (omega arith))
goes-not start most w o (inr h) = rw (lt-ltb 0 w (omega arith), lt-leb (w * 128) most h)

pub goes_some : (most w : ℕ) → T (goes_on most w) → 0 < w
unfolding goes_on
goes_some most w t = ltb→lt 0 w (and_yes (ltb 0 w) (leb (w * 128) most) t).0

pub goes-low : (most w : ℕ) → T (goes_on most w) → w * 128 ≤ most
unfolding goes_on
goes-low most w t = leb→le (w * 128) most (and_yes (ltb 0 w) (leb (w * 128) most) t).1

-- ---- written, then read

module _ (start most : ℕ) where
  none : (j p : ℕ) (r : List ℕ) → read_in start most (front_of 0 + j) 0 p (front 0 r) ≡ read_in start most j 0 (p + front_of 0) r
  none j p r =
      let c = count_none in
      let left : front_of 0 + j ≡ j = omega arith in
      let to : p + front_of 0 ≡ p = omega arith in
      rw (left, to, front-none r)

  -- the groups before the last are read as the number that they make
  front-back : (k w : ℕ) → w ≤ k → w * 128 ≤ most → (j p : ℕ) (r : List ℕ) → read_in start most (front_of w + j) 0 p (front w r) ≡ read_in start most j w (p + front_of w) r
  front-back zero zero h i j p r = none j p r
  front-back zero (suc w) h i j p r = absurd (omega arith)
  front-back (suc k) zero h i j p r = none j p r
  front-back (suc k) (suc w) h i j p r =
      let u = suc w / 128 in
      let b = suc w % 128 + 128 in
      let c = count_more (suc w) (omega arith) in
      let left : front_of (suc w) + j ≡ front_of u + suc j = omega arith in
      let to : p + front_of (suc w) ≡ p + front_of u + 1 = omega arith in
      let is : u * 128 + (b - 128) ≡ suc w = omega arith in
      rw (left, to, front-more (suc w) r (omega arith))
      (front-back k u (omega arith) (omega arith) (suc j) p (b ∷ r) ∙ read_more start most j u (p + front_of u) b r (omega arith)
      ∙ rw (is, goes_on_is start most (suc w) (omega arith) i))

pub number-back : (most n p : ℕ) (r : List ℕ) → n ≤ most → read_number most p (groups n r) ≡ accept (record { value = n; place = p + groups_of n; left = r })
unfolding read_number groups
number-back most n p r h =
    let w = n / 128 in
    let j = groups_of most - groups_of n in
    let c = count_is n in
    let left : groups_of most ≡ front_of w + suc j = omega (arith, groups_up n most h) in
    let to : p + front_of w + 1 ≡ p + groups_of n = omega arith in
    let is : w * 128 + n % 128 ≡ n = omega arith in
    rw left
    (front-back p most w w (omega arith) (omega arith) (suc j) p (n % 128 ∷ r) ∙ read-last p most j w (p + front_of w) (n % 128) r (omega arith)
    ∙ rw (is, to) (last_fits p most n (p + groups_of n) r h))

pub numbers-back : (ms ns : List ℕ) → AtMost ms ns → (p : ℕ) (r : List ℕ)
    → (q : ℕ) × (read_numbers ms p (write_numbers ns r) ≡ accept (record { value = ns; place = q; left = r }))
unfolding read_numbers write_numbers
numbers-back [] [] h p r = (p, refl)
numbers-back [] (n ∷ ns) h p r = absurd h
numbers-back (m ∷ ms) [] h p r = absurd h
numbers-back (m ∷ ms) (n ∷ ns) h p r =
    let (q, e) = numbers-back ms ns h.1 (p + groups_of n) r in
    (q, rw (number-back m n p (write_numbers ns r) h.0, e))

-- ---- read, then written

-- of a number that was read the groups before, which made v, and the bytes from there on: they are its groups, and then what is left
pub record One (most v : ℕ) (s : List ℕ) (x : Step ℕ) : Type 0 where
  pub is : front v s ≡ groups x.value x.left
  pub fits : x.value ≤ most
  pub bytes : AllBytes x.left

module _ (start most : ℕ) where
  last_one : (v b p : ℕ) (s : List ℕ) (x : Step ℕ) → b < 128 → AllBytes s → last start most (v * 128 + b) p s ≡ accept x → One most v (b ∷ s) x
  unfolding last groups
  last_one v b p s x h l e =
      let n = v * 128 + b in
      let high : n / 128 ≡ v = omega arith in
      let low : n % 128 ≡ b = omega arith in
      by-check (leb n most) 13 start _ e
      (λ t e₁. let g : x ≡ record { value = n; place = p; left = s } = cc in
      rw g (record { is = rw (high, low); fits = leb→le n most t; bytes = l }))

  pub read_one : (k v p : ℕ) (s : List ℕ) (x : Step ℕ) → AllBytes s → read_in start most k v p s ≡ accept x → One most v s x
  unfolding read_in
  read_one zero v p s x l e = bad_got e
  read_one (suc k) v p [] x l e = bad_got e
  read_one (suc k) v p (b ∷ s) x l e =
      by-if (ltb b 128) _ _ e
      (λ t e₁. last_one v b (p + 1) s x (ltb→lt b 128 t) l.1 e₁)
      (λ t e₁. by-check _ 13 start _ e₁
      (λ g e₂. let w = v * 128 + (b - 128) in
      let y = read_one k w (p + 1) s x l.1 e₂ in
      let some = goes_some most w g in
      let big = nltb→le b 128 t in
      let high : w / 128 ≡ v = omega (arith, l.0) in
      let low : w % 128 + 128 ≡ b = omega (arith, l.0) in
      record { is = sym (front-more w s some ∙ rw (high, low)) ∙ y.is; fits = y.fits; bytes = y.bytes }))

pub number-one : (most p : ℕ) (s : List ℕ) (x : Step ℕ) → AllBytes s → read_number most p s ≡ accept x → One most 0 s x
unfolding read_number
number-one most p s x l e = read_one p most (groups_of most) 0 p s x l e

-- numbers that were read: they are in their ranges, and were written so
pub record Several (ms s : List ℕ) (x : Step (List ℕ)) : Type 0 where
  pub is : s ≡ write_numbers x.value x.left
  pub fits : AtMost ms x.value
  pub bytes : AllBytes x.left

pub numbers-one : (ms : List ℕ) (p : ℕ) (s : List ℕ) (x : Step (List ℕ)) → AllBytes s → read_numbers ms p s ≡ accept x → Several ms s x
unfolding read_numbers write_numbers
numbers-one [] p s x l e = let g : x ≡ record { value = []; place = p; left = s } = cc in rw g (record { is = refl; fits = tt; bytes = l })
numbers-one (m ∷ ms) p s x l e =
    by_got (read_number m p s) _ e
    (λ y e₁ e₂. by_got (read_numbers ms y.place y.left) _ e₂
    (λ z e₃ e₄. let a = number-one m p s y l e₁ in
    let b = numbers-one ms y.place y.left z a.bytes e₃ in
    let g : x ≡ record { value = y.value ∷ z.value; place = z.place; left = z.left } = cc in
    rw g (record { is = sym (front-none s) ∙ a.is ∙ ap (groups y.value) b.is; fits = (a.fits, b.fits); bytes = b.bytes })))
