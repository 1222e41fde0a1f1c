-- A law for each way through `read_slip`.
use Rattle.std.specs.Prelude.{Ok, Err}
use Rattle.std.specs.Prelude as std
use Rattle.layout.specs.declared.Refusal.{Refusal}
use mathlib.Core.Path.{◌≡◌, refl, ap, sym, ◌∙◌}
use Prim.Native.Nat.{ℕ, ◌+◌, ◌-◌, ◌*◌, ◌<◌, ◌≤◌}
use native.Mathlib.Numerals.{add-one}
use native.Mathlib.Omega.{arith}
use mathlib.Core.List.{List, [], ◌∷◌, ◌++◌, append_assoc, append-nil}
use lib.ListN.{length, take, drop, set, length-set, length-drop, drop_of_length-le}
use lib.Seq.{take_all, take-suc-set, drop-drop}
use lib.Dec.{leb}
use borrow.Author.Tests.{lt-leb}
use Rattle.layout.specs.Result.{Result, accept, reject, check, ◌>>=◌}
use Rattle.layout.specs.Parts.{Step}
use Rattle.layout.proofs.AnswerLaws.{pair_inj}
use Rattle.shared_seven_bit_groups.specs.Groups.{groups_of, read_number, read_numbers, grouped}
use Rattle.shared_seven_bit_groups.proofs.NumberLaws.{word-groups}
use Rattle.shared_seven_bit_groups.proofs.PlaceLaws.{Moved, Placed, number-placed}
use Rattle.slip.specs.Slips.{limits, limit_at, read_slip, slip_of, read_slip_answer, read_within}
use Rattle.slip.specs.declared.Slip.{Slip}
use Rattle.slip.proofs.SlipWriteLaws.{limit-word, limits-next, limits-end}

-- numbers that were read before others
abbrev ahead : List ℕ → Result (Step (List ℕ)) → Result (Step (List ℕ))
ahead vs (accept l) = accept (record { value = vs ++ l.value; place = l.place; left = l.left })
ahead vs (reject n p) = reject n p

ahead_none : (o : Result (Step (List ℕ))) → o ≡ ahead [] o
ahead_none (accept l) = refl
ahead_none (reject n p) = refl

ahead-one : (vs : List ℕ) (n : ℕ) (ws : List ℕ) → ws ≡ vs ++ (n ∷ []) → (o : Result (Step (List ℕ)))
    → ahead vs (o >>= λ l. accept (record { value = n ∷ l.value; place = l.place; left = l.left })) ≡ ahead ws o
ahead-one vs n ws e (accept l) = rw (e, append_assoc vs (n ∷ []) l.value)
ahead-one vs n ws e (reject k p) = refl

module _ (m : ℕ) (ms : List ℕ) (p : ℕ) (s vs : List ℕ) where
  first-invalid : (n q : ℕ) → read_number m p s ≡ reject n q → ahead vs (read_numbers (m ∷ ms) p s) ≡ reject n q
  unfolding read_numbers
  first-invalid n q e = rw e

  first_is : (x : Step ℕ) → read_number m p s ≡ accept x
      → ahead vs (read_numbers (m ∷ ms) p s) ≡ ahead vs (read_numbers ms x.place x.left >>= λ l. accept (record { value = x.value ∷ l.value; place = l.place; left = l.left }))
  unfolding read_numbers
  first_is x e = rw e

-- what an answer says of what was read
record Was (o : Result (Step ℕ)) (n q : ℕ) : Type 0 where
  step : Step ℕ
  is : o ≡ accept step
  value : step.value ≡ n
  place : step.place ≡ q

was-number : (o : Result (Step ℕ)) (n q : ℕ) → grouped o ≡ Ok (n, q) → Was o n q
was-number (accept x) n q e = let h = pair_inj _ _ _ _ e in record { step = x; is = refl; value = h.0; place = h.1 }
was-number (reject k p) n q e = let z : ◌≡◌ {A = ℕ} 0 1 = cc in absurd (omega arith)

was-refused : (o : Result (Step ℕ)) (k : Refusal) → grouped o ≡ Err k → o ≡ reject k.number k.place
was-refused (accept x) k e = let z : ◌≡◌ {A = ℕ} 0 1 = cc in absurd (omega arith)
was-refused (reject n q) k e = cc

-- ---- the loop: the numbers from i on are left, at `at`; those before are held

pub record SlipLeft (s numbers : List ℕ) (at i : ℕ) : Type 0 where
  pub long : length numbers ≡ 12
  pub few : i ≤ 12
  pub near : at ≤ 5 * i
  pub rest : read_numbers limits 0 s ≡ ahead (take i numbers) (read_numbers (drop i limits) at (drop at s))

module _ (s : List ℕ) where
  pub left_start : (numbers : List ℕ) → length numbers ≡ 12 → SlipLeft s numbers 0 0
  left_start numbers l = record { long = l; few = omega arith; near = omega arith; rest = ahead_none (read_numbers limits 0 s) }

  answers : (o : Result (List ℕ)) → read_slip s ≡ o → (r : Slip) → r ≡ slip_of o → r ≡ read_slip_answer s
  unfolding read_slip_answer
  answers o e r h = h ∙ ap slip_of (sym e)

  read_bad : (n p : ℕ) → read_numbers limits 0 s ≡ reject n p → read_slip s ≡ reject n p
  unfolding read_within
  read_bad n p e = rw e

  read_all : (x : Step (List ℕ)) → read_numbers limits 0 s ≡ accept x → read_slip s ≡ (check (leb (length x.left) 0) 13 x.place >>= λ _. accept x.value)
  unfolding read_within
  read_all x e = rw e

  module _ (numbers : List ℕ) (at i : ℕ) (g : SlipLeft s numbers at i) where
    module _ (h : i < 12) (m : ℕ) (e : m ≡ limit_at i) (r : std.Result (ℕ × ℕ) Refusal) (f : r ≡ grouped (read_number m at (drop at s))) where
      here : read_numbers limits 0 s ≡ ahead (take i numbers) (read_numbers (m ∷ drop (i + 1) limits) at (drop at s))
      here = g.rest ∙ rw (limits-next i h, e)

      groups_few : groups_of m ≤ 5
      groups_few = word-groups m (omega (arith, e, limit-word i))

      -- refused
      module _ (k : Refusal) (z : r ≡ Err k) where
        refused : read_number m at (drop at s) ≡ reject k.number k.place
        refused = was-refused (read_number m at (drop at s)) k (sym f ∙ z)

        placed : Placed at (groups_of m) (drop at s) (reject k.number k.place)
        placed = rw refused at (number-placed m at (drop at s))

        pub place_near : k.place ≤ 60
        place_near = omega (arith, placed.1, groups_few, g.near)

        pub slip_refused : (a : Slip) → a ≡ slip_of (reject 13 k.place) → a ≡ read_slip_answer s
        slip_refused a j =
            let n : k.number ≡ 13 = placed.0 in
            answers (reject 13 k.place) (read_bad 13 k.place (here ∙ first-invalid m (drop (i + 1) limits) at (drop at s) (take i numbers) 13 k.place (rw n at refused))) a j

      -- a number
      module _ (n q : ℕ) (z : r ≡ Ok (n, q)) where
        was : Was (read_number m at (drop at s)) n q
        was = was-number (read_number m at (drop at s)) n q (sym f ∙ z)

        moved : Moved at (groups_of m) (drop at s) was.step
        moved = rw was.is at (number-placed m at (drop at s))

        pub left_next : SlipLeft s (set numbers i n) q (i + 1)
        left_next =
            let x = was.step in
            let to : at + (x.place - at) ≡ q = omega (arith, moved.from, was.place) in
            let left : x.left ≡ drop q s = moved.left ∙ drop-drop (x.place - at) at s ∙ ap (λ (k : ℕ). drop k s) to in
            let held : take (i + 1) (set numbers i n) ≡ take i numbers ++ (n ∷ []) = rw add-one (take-suc-set numbers i n (omega (arith, g.long))) in
            record {
              long = length-set numbers i n ∙ g.long;
              few = omega arith;
              near = omega (arith, moved.few, was.place, groups_few, g.near);
              rest = here ∙ first_is m (drop (i + 1) limits) at (drop at s) (take i numbers) x was.is
                  ∙ rw (was.value, was.place, left) (ahead-one (take i numbers) n (take (i + 1) (set numbers i n)) held (read_numbers (drop (i + 1) limits) q (drop q s)));
            }

    -- all numbers are read
    module _ (h : 12 ≤ i) where
      all : read_numbers limits 0 s ≡ accept (record { value = numbers; place = at; left = drop at s })
      unfolding read_numbers
      all =
          g.rest
          ∙ rw (limits-end i h, take_all i numbers (omega (arith, g.long)), append-nil numbers)

      pub at_near : at ≤ 60
      at_near = omega (arith, g.near, g.few)

      pub slip_spare : at < length s → (a : Slip) → a ≡ slip_of (reject 13 at) → a ≡ read_slip_answer s
      unfolding check
      slip_spare k a j = answers (reject 13 at) (read_all _ all ∙ rw (length-drop, lt-leb (length s - at) 0 (omega arith))) a j

      pub slip_read : length s ≤ at → record { number = 0; place = 0; numbers = numbers } ≡ read_slip_answer s
      unfolding check slip_of
      slip_read k = answers (accept numbers) (read_all _ all ∙ rw (drop_of_length-le s k)) _ refl

pub ruleset read_laws = (left_start, place_near, slip_refused, left_next, at_near, slip_spare, slip_read)
