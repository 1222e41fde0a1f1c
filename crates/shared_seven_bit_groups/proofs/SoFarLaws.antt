-- A number is refused as soon as its bytes so far make it wrong, and no sooner: where they do, no bytes after them help; where a number is cut, there
-- are bytes after which all is read.
use mathlib.Core.Path.{◌≡◌, refl, sym, subst, ◌∙◌}
use mathlib.Core.Logic.{◌⊎◌, inl, inr}
use Prim.Native.Nat.{ℕ, zero, suc, ◌+◌, ◌-◌, ◌*◌, ◌<◌, ◌≤◌}
use native.Mathlib.Omega.{arith}
use mathlib.Core.Bool.{Bool, true, false, not}
use mathlib.Core.List.{List, [], ◌∷◌, ◌++◌, append_assoc}
use lib.ListN.{length, replicate}
use lib.Dec.{T, leb, ltb, leb→le, ltb→lt, nltb→le}
use Rattle.layout.specs.Result.{Result, accept, reject, check, ◌>>=◌}
use Rattle.layout.specs.Parts.{Step}
use Rattle.layout.proofs.ResultLaws.{by_test}
use Rattle.shared_seven_bit_groups.specs.Groups.{AtMost, groups_of, write_numbers, goes_on, last, read_in, read_number, read_numbers}
use Rattle.shared_seven_bit_groups.proofs.GroupLaws.{count_is}
use Rattle.shared_seven_bit_groups.proofs.Laws.{read-last, read_more, last_fits, goes-low, numbers-back}
use Rattle.shared_seven_bit_groups.proofs.PlaceLaws.{Placed, number-placed}

module _ {A : Type 0} (f : List ℕ → Result (Step A)) (s : List ℕ) (end q : ℕ) where
  -- refused at q before the end of the bytes, whatever comes after them
  pub record Wrong : Type 0 where
    pub before : q < end
    pub stays : (r : List ℕ) → f (s ++ r) ≡ reject 13 q

  -- refused at the end of the bytes, and with others after them all is read
  pub record Short : Type 0 where
    pub at : q ≡ end
    pub rest : List ℕ
    pub value : A
    pub place : ℕ
    pub goes : f (s ++ rest) ≡ accept (record { value = value; place = place; left = [] })

-- what was made of the bytes s, which end at `end`, says of those and more
abbrev pub SoFar : {A : Type 0} → (List ℕ → Result (Step A)) → List ℕ → ℕ → Result (Step A) → Type 0
SoFar f s end (accept x) = (r : List ℕ) → f (s ++ r) ≡ accept (record { value = x.value; place = x.place; left = x.left ++ r })
SoFar f s end (reject n q) = (n ≡ 13) × (Wrong f s end q ⊎ Short f s end q)

so_far_same : {A : Type 0} (f g : List ℕ → Result (Step A)) (s t : List ℕ) → ((r : List ℕ) → f (s ++ r) ≡ g (t ++ r)) → (m n : ℕ) → m ≡ n
    → (o : Result (Step A)) → SoFar g t m o → SoFar f s n o
so_far_same f g s t e m n h (accept x) k = λ r. e r ∙ k r
so_far_same f g s t e m n h (reject a q) k = (k.0, turn k.1)
  where
    turn : Wrong g t m q ⊎ Short g t m q → Wrong f s n q ⊎ Short f s n q
    turn (inl w) = inl (record { before = omega (arith, w.before); stays = λ r. e r ∙ w.stays r })
    turn (inr c) = inr (record { at = c.at ∙ h; rest = c.rest; value = c.value; place = c.place; goes = e c.rest ∙ c.goes })

check-not : {A : Type 0} (b : Bool) (n p : ℕ) (o : Result A) → T (not b) → (check b n p >>= λ _. o) ≡ reject n p
unfolding check
check-not true n p o t = absurd t
check-not false n p o t = refl

check_so : {A : Type 0} (b : Bool) (n p : ℕ) (o : Result A) → T b → (check b n p >>= λ _. o) ≡ o
unfolding check
check_so true n p o t = refl
check_so false n p o t = absurd t

last-not : (start most n p : ℕ) (s : List ℕ) → T (not (leb n most)) → last start most n p s ≡ reject 13 start
unfolding last
last-not start most n p s t = check-not (leb n most) 13 start _ t

module _ (start most : ℕ) where
  read_so_far : (k v p : ℕ) (s : List ℕ) → start < p + k → start ≤ p → v * 128 ≤ most → SoFar (read_in start most k v p) s (p + length s) (read_in start most k v p s)
  unfolding read_in
  read_so_far zero v p s h i j = (refl, inl (record { before = omega arith; stays = λ r. refl }))
  read_so_far (suc k) v p [] h i j =
      let zero-last : 0 < 128 = omega arith in
      let low : v * 128 + 0 ≤ most = omega arith in (
        refl,
        inr
            (record {
              at = omega arith;
              rest = 0 ∷ [];
              value = v * 128 + 0;
              place = p + 1;
              goes = read-last start most k v p 0 [] zero-last ∙ last_fits start most (v * 128 + 0) (p + 1) [] low;
            }),
      )
  read_so_far (suc k) v p (b ∷ s) h i j =
      let n = v * 128 + b in
      let w = v * 128 + (b - 128) in
      let end = p + suc (length s) in
      let f = read_in start most (suc k) v p in
      let P = SoFar f (b ∷ s) end in
      by_test (ltb b 128)
      (λ t. let small = ltb→lt b 128 t in
      let step : (r : List ℕ) → f (b ∷ r) ≡ last start most n (p + 1) r = λ r. read-last start most k v p b r small in
      subst P (sym (step s))
      (by_test (leb n most)
      (λ u. let fits = leb→le n most u in
      subst P (sym (last_fits start most n (p + 1) s fits)) (λ r. step (s ++ r) ∙ last_fits start most n (p + 1) (s ++ r) fits))
      (λ u. subst P (sym (last-not start most n (p + 1) s u))
      (refl, inl (record { before = omega arith; stays = λ r. step (s ++ r) ∙ last-not start most n (p + 1) (s ++ r) u })))))
      (λ t. let big = nltb→le b 128 t in
      let step : (r : List ℕ) → f (b ∷ r) ≡ (check (goes_on most w) 13 start >>= λ _. read_in start most k w (p + 1) r) = λ r. read_more start most k v p b r big in
      subst P (sym (step s))
      (by_test (goes_on most w)
      (λ u. let on : (r : List ℕ) → f (b ∷ r) ≡ read_in start most k w (p + 1) r = λ r. step r ∙ check_so (goes_on most w) 13 start _ u in
      subst P (sym (check_so (goes_on most w) 13 start (read_in start most k w (p + 1) s) u))
      (so_far_same f (read_in start most k w (p + 1)) (b ∷ s) s (λ r. on (s ++ r)) (p + 1 + length s) end (omega arith) (read_in start most k w (p + 1) s)
      (read_so_far k w (p + 1) s (omega arith) (omega arith) (goes-low most w u))))
      (λ u. subst P (sym (check-not (goes_on most w) 13 start (read_in start most k w (p + 1) s) u))
      (refl, inl (record { before = omega arith; stays = λ r. step (s ++ r) ∙ check-not (goes_on most w) 13 start _ u })))))

pub number_so_far : (most p : ℕ) (s : List ℕ) → SoFar (read_number most p) s (p + length s) (read_number most p s)
unfolding read_number
number_so_far most p s = read_so_far p most (groups_of most) 0 p s (omega (arith, count_is most)) (omega arith) (omega arith)

-- ---- a list of numbers

zeros_fit : (ms : List ℕ) → AtMost ms (replicate (length ms) 0)
zeros_fit [] = tt
zeros_fit (m ∷ ms) = (omega arith, zeros_fit ms)

module _ (m : ℕ) (ms : List ℕ) (p : ℕ) (s : List ℕ) where
  abbrev all : List ℕ → Result (Step (List ℕ))
  all = read_numbers (m ∷ ms) p

  -- the number is cut: its own bytes, then the lowest others
  number_short : (q : ℕ) → Short (read_number m p) s (p + length s) q → Short all s (p + length s) q
  unfolding read_numbers
  number_short q c =
      let zeros = write_numbers (replicate (length ms) 0) [] in
      let (to, back) = numbers-back ms (replicate (length ms) 0) (zeros_fit ms) c.place [] in
      let first = subst (SoFar (read_number m p) (s ++ c.rest) (p + length (s ++ c.rest))) c.goes (number_so_far m p (s ++ c.rest)) in
      record {
        at = c.at;
        rest = c.rest ++ zeros;
        value = c.value ∷ replicate (length ms) 0;
        place = to;
        goes = rw (← append_assoc s c.rest zeros, first zeros, back);
      }

  -- the number is read, and the others from there on
  module _ (x : Step ℕ) (e : read_number m p s ≡ accept x) (h : SoFar (read_number m p) s (p + length s) (accept x)) where
    others : (o : Result (Step (List ℕ))) → SoFar (read_numbers ms x.place) x.left (p + length s) o
        → SoFar all s (p + length s) (o >>= λ l. accept (record { value = x.value ∷ l.value; place = l.place; left = l.left }))
    unfolding read_numbers
    others (accept l) k = λ r. rw (h r, k r)
    others (reject n q) (z, inl w) = (z, inl (record { before = w.before; stays = λ r. rw (h r, w.stays r) }))
    others (reject n q) (z, inr c) = (z, inr (record { at = c.at; rest = c.rest; value = x.value ∷ c.value; place = c.place; goes = rw (h c.rest, c.goes) }))

  -- from what the others say, whatever was read before them
  first : (o : Result (Step ℕ)) → read_number m p s ≡ o → SoFar (read_number m p) s (p + length s) o → Placed p (groups_of m) s o
      → ((q : ℕ) (l : List ℕ) → SoFar (read_numbers ms q) l (q + length l) (read_numbers ms q l)) → SoFar all s (p + length s) (all s)
  unfolding read_numbers
  first (accept x) e h k rest = rw e (others x e h (read_numbers ms x.place x.left) (rw (← k.to) (rest x.place x.left)))
  first (reject n q) e (z, inl w) k rest = rw e (z, inl (record { before = w.before; stays = λ r. rw (w.stays r) }))
  first (reject n q) e (z, inr c) k rest = rw e (z, inr (number_short q c))

pub numbers_so_far : (ms : List ℕ) (p : ℕ) (s : List ℕ) → SoFar (read_numbers ms p) s (p + length s) (read_numbers ms p s)
unfolding read_numbers
numbers_so_far [] p s = λ r. refl
numbers_so_far (m ∷ ms) p s = first m ms p s (read_number m p s) refl (number_so_far m p s) (number-placed m p s) (λ q l. numbers_so_far ms q l)
