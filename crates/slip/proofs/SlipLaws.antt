-- What holds of slips: `one-slip` has it all.
use mathlib.Core.Path.{◌≡◌, refl, ap, sym, subst, ◌∙◌}
use mathlib.Core.Logic.{◌⊎◌, inl, inr}
use Prim.Native.Nat.{ℕ, zero, suc, ◌+◌, ◌*◌, ◌<◌, ◌≤◌}
use native.Mathlib.Omega.{arith}
use mathlib.Core.List.{List, [], ◌∷◌, ◌++◌, map}
use lib.ListN.{length, take, get_or, replicate, length-append}
use lib.Dec.{leb, ltb, leb→le, ltb→lt, nltb→le}
use borrow.Author.Tests.{le-leb, lt-leb, le-ltb}
use Rattle.wire.specs.Bytes.{AllBytes}
use Rattle.wire.specs.Test.{if}
use Rattle.layout.specs.Result.{Result, accept, reject, check}
use Rattle.layout.specs.Parts.{Step}
use Rattle.layout.specs.Rules.{up_to}
use Rattle.layout.proofs.ResultLaws.{by_test, by-check, by_got, bad_got, got_inj, if_yes, if_no}
use Rattle.shared_seven_bit_groups.specs.Groups.{AtMost, front_in, front, groups, groups_of, write_numbers, read_numbers}
use Rattle.shared_seven_bit_groups.proofs.GroupLaws.{count_is, groups_up, groups-length, numbers-bytes}
use Rattle.shared_seven_bit_groups.proofs.Laws.{numbers-back, numbers-one}
use Rattle.shared_seven_bit_groups.proofs.PlaceLaws.{numbers-to}
use Rattle.shared_seven_bit_groups.proofs.SoFarLaws.{SoFar, numbers_so_far}
use Rattle.b3d_spec.specs.Rules.{version, slots, row_limit}
use Rattle.b3d_spec.specs.Answers.{room_for}
use Rattle.slip.specs.Slips.{limits_within, limits, first_over, slip_within, write_within, read_within}
use Rattle.slip.specs.OneSlip.{Wrong, Cut, FirstOut, OneSlip}
use Rattle.slip.specs.Raised.{Raised}

-- ---- ranges

-- each number obeys the range that 01 gives it
pub ranges : map up_to limits ≡ version ∷ slots ∷ replicate 10 (up_to row_limit)
unfolding limits_within
ranges = refl

over_none : (ms ns : List ℕ) → AtMost ms ns → first_over ms ns ≡ length ms
unfolding first_over if
over_none [] [] h = refl
over_none [] (n ∷ ns) h = absurd h
over_none (m ∷ ms) [] h = absurd h
over_none (m ∷ ms) (n ∷ ns) h = rw (le-ltb m n h.0, over_none ms ns h.1)

none_over : (ms ns : List ℕ) → length ns ≡ length ms → length ms ≤ first_over ms ns → AtMost ms ns
unfolding first_over
none_over [] [] l h = tt
none_over [] (n ∷ ns) l h = absurd (omega arith)
none_over (m ∷ ms) [] l h = absurd (omega arith)
none_over (m ∷ ms) (n ∷ ns) l h =
    by_test (ltb m n)
    (λ t. absurd (omega (arith, h, if_yes (ltb m n) 0 (suc (first_over ms ns)) t)))
    (λ t. (nltb→le m n t, none_over ms ns (omega arith) (omega (arith, h, if_no (ltb m n) 0 (suc (first_over ms ns)) t))))

-- the first that is over
record Over (ms ns : List ℕ) (d i : ℕ) : Type 0 where
  out : get_or ms i d < get_or ns i 0
  before : AtMost (take i ms) (take i ns)

some-over : (d : ℕ) (ms ns : List ℕ) → length ns ≡ length ms → first_over ms ns < length ms → Over ms ns d (first_over ms ns)
unfolding first_over
some-over d [] ns l h = absurd (omega arith)
some-over d (m ∷ ms) [] l h = absurd (omega arith)
some-over d (m ∷ ms) (n ∷ ns) l h =
    by_test (ltb m n)
    (λ t. rw (if_yes (ltb m n) 0 (suc (first_over ms ns)) t) (record { out = ltb→lt m n t; before = tt }))
    (λ t. let e = if_no (ltb m n) 0 (suc (first_over ms ns)) t in
    let x = some-over d ms ns (omega arith) (omega (arith, h)) in
    rw e (record { out = x.out; before = (nltb→le m n t, x.before) }))

same-bad : (A : Type 0) (m p n q : ℕ) → ◌≡◌ {A = Result A} (reject m p) (reject n q) → (n ≡ m) × (q ≡ p)
same-bad A m p n q e = (cc, cc)

at-most-length : (ms ns : List ℕ) → AtMost ms ns → length ns ≡ length ms
at-most-length [] [] h = refl
at-most-length [] (n ∷ ns) h = absurd h
at-most-length (m ∷ ms) [] h = absurd h
at-most-length (m ∷ ms) (n ∷ ns) h = ap suc (at-most-length ms ns h.1)

empty : (l : List ℕ) → length l ≤ 0 → l ≡ []
empty [] h = refl
empty (x ∷ l) h = absurd (omega arith)

-- ---- how long a slip is

-- so many bytes at most
unfoldable pub longest : List ℕ → ℕ
longest [] = 0
longest (m ∷ ms) = groups_of m + longest ms

-- each number takes a byte at least, and no more groups than the most that it may be
pub numbers-length : (ms ns : List ℕ) → AtMost ms ns → (length ms ≤ length (write_numbers ns [])) × (length (write_numbers ns []) ≤ longest ms)
unfolding write_numbers longest
numbers-length [] [] h = (omega arith, omega arith)
numbers-length [] (n ∷ ns) h = absurd h
numbers-length (m ∷ ms) [] h = absurd h
numbers-length (m ∷ ms) (n ∷ ns) h =
    let l = groups-length n (write_numbers ns []) in
    let (low, high) = numbers-length ms ns h.1 in
    (omega (arith, count_is n), omega (arith, groups_up n m h.0))

-- one byte each for version and n_texs, and for each count as many as the most rows take
same_longest : (k m : ℕ) → longest (replicate k m) ≡ k * groups_of m
unfolding longest
same_longest zero m = omega arith
same_longest (suc k) m = omega (arith, same_longest k m)

first_two : groups_of 99 + groups_of 8 ≡ 2
unfolding groups_of groups front front_in
first_two = refl

longest_is : (rows : ℕ) → longest (limits_within rows) ≡ 2 + 10 * groups_of rows
unfolding longest limits_within
longest_is rows = omega (arith, first_two, same_longest 10 rows)

-- so a slip has at most 32 bytes today, and had 22 before
pub longest_today : 2 + 10 * groups_of row_limit ≡ 32
unfolding groups_of groups front front_in
longest_today = refl

-- where a table has so many rows at most
module _ (rows : ℕ) where
  -- ---- writing

  twelve-limits : length (limits_within rows) ≡ 12
  unfolding limits_within
  twelve-limits = refl

  module _ (ns b : List ℕ) (e : slip_within rows ns ≡ accept b) where
    bytes_are : b ≡ write_numbers ns []
    unfolding slip_within
    bytes_are = by-check _ 13 _ _ e (λ t e₁. cc)

    pub obeys : length ns ≡ 12 → AtMost (limits_within rows) ns
    unfolding slip_within
    obeys l = by-check (leb 12 (first_over (limits_within rows) ns)) 13 _ _ e
        (λ t e₁. let h = leb→le 12 (first_over (limits_within rows) ns) t in none_over (limits_within rows) ns (omega (arith, twelve-limits)) (omega (arith, twelve-limits)))

  slip_got : (ns : List ℕ) → 12 ≤ first_over (limits_within rows) ns → slip_within rows ns ≡ accept (write_numbers ns [])
  unfolding slip_within check
  slip_got ns h = rw (le-leb 12 (first_over (limits_within rows) ns) h)

  slip-bad : (ns : List ℕ) → first_over (limits_within rows) ns < 12 → slip_within rows ns ≡ reject 13 (first_over (limits_within rows) ns)
  unfolding slip_within check
  slip-bad ns h = rw (lt-leb 12 (first_over (limits_within rows) ns) h)

  pub written : (ns : List ℕ) → AtMost (limits_within rows) ns → slip_within rows ns ≡ accept (write_numbers ns [])
  written ns h = slip_got ns (omega (arith, over_none (limits_within rows) ns h, twelve-limits))

  out_of : (ns : List ℕ) (n i : ℕ) → length ns ≡ 12 → slip_within rows ns ≡ reject n i → (n ≡ 13) × FirstOut rows ns i
  out_of ns n i l e =
      let k = first_over (limits_within rows) ns in
      by_test (ltb k 12)
      (λ t. let small = ltb→lt k 12 t in
      let same = same-bad (List ℕ) 13 k n i (sym (slip-bad ns small) ∙ e) in
      let x = some-over rows (limits_within rows) ns (omega (arith, twelve-limits)) (omega (arith, twelve-limits)) in
      (same.0, rw same.1 (record { one = small; out = x.out; before = x.before })))
      (λ t. bad_got (sym e ∙ slip_got ns (nltb→le k 12 t)))

  first : (ns : List ℕ) (n i room : ℕ) → slip_within rows ns ≡ reject n i → write_within rows ns room ≡ reject n i
  unfolding write_within
  first ns n i room e = rw e

  then : (ns b : List ℕ) (room : ℕ) → slip_within rows ns ≡ accept b → write_within rows ns room ≡ room_for room b
  unfolding write_within
  then ns b room e = rw e

  -- ---- reading

  module _ (s : List ℕ) where
    -- a slip that was read
    record Whole (ns : List ℕ) : Type 0 where
      place : ℕ
      is : read_numbers (limits_within rows) 0 s ≡ accept (record { value = ns; place = place; left = [] })

    whole : (ns : List ℕ) → read_within rows s ≡ accept ns → Whole ns
    unfolding read_within
    whole ns e =
        by_got (read_numbers (limits_within rows) 0 s) _ e
        (λ x e₁ e₂. by-check (leb (length x.left) 0) 13 x.place _ e₂
        (λ t e₃. let g : x.value ≡ ns = cc in record { place = x.place; is = e₁ ∙ rw (← g, ← empty x.left (leb→le (length x.left) 0 t)) refl }))

    read_whole : (ns : List ℕ) (q : ℕ) → read_numbers (limits_within rows) 0 s ≡ accept (record { value = ns; place = q; left = [] }) → read_within rows s ≡ accept ns
    unfolding read_within check
    read_whole ns q e = rw e

    several : (ns : List ℕ) → AllBytes s → (e : read_within rows s ≡ accept ns) → (s ≡ write_numbers ns []) × AtMost (limits_within rows) ns
    several ns h e =
        let w = whole ns e in
        let x = numbers-one (limits_within rows) 0 s _ h w.is in
        (x.is, x.fits)

  reads_back : (ns b : List ℕ) → length ns ≡ 12 → slip_within rows ns ≡ accept b → read_within rows b ≡ accept ns
  reads_back ns b l e =
      let (q, back) = numbers-back (limits_within rows) ns (obeys ns b e l) 0 [] in
      read_whole b ns q (ap (read_numbers (limits_within rows) 0) (bytes_are ns b e) ∙ back)

  -- ---- as soon as its bytes make it wrong

  still-bad : (s : List ℕ) (n p : ℕ) → read_numbers (limits_within rows) 0 s ≡ reject n p → read_within rows s ≡ reject n p
  unfolding read_within
  still-bad s n p e = rw e

  spare-is : (s v : List ℕ) (q : ℕ) (l : List ℕ) → read_numbers (limits_within rows) 0 s ≡ accept (record { value = v; place = q; left = l }) → 0 < length l → read_within rows s ≡ reject 13 q
  unfolding read_within check
  spare-is s v q l e h = rw (e, lt-leb (length l) 0 h)

  module _ (s : List ℕ) where
    refused : (o : Result (Step (List ℕ))) → read_numbers (limits_within rows) 0 s ≡ o → SoFar (read_numbers (limits_within rows) 0) s (0 + length s) o
        → (n p : ℕ) → read_within rows s ≡ reject n p → (n ≡ 13) × (Wrong rows s p ⊎ Cut rows s p)
    refused (accept x) e h n p f =
        by_test (ltb 0 (length x.left))
        (λ t. let some = ltb→lt 0 (length x.left) t in
        let same = same-bad (List ℕ) 13 x.place n p (sym (spare-is s x.value x.place x.left e some) ∙ f) in (
          same.0,
          inl
              (rw same.1
              (record {
                before = omega (arith, numbers-to (limits_within rows) 0 s x e);
                stays = λ r. spare-is (s ++ r) x.value x.place (x.left ++ r) (h r) (omega (arith, length-append x.left r));
              })),
        ))
        (λ t. let none = empty x.left (nltb→le 0 (length x.left) t) in
        bad_got (sym f ∙ read_whole s x.value x.place (e ∙ rw (← none))))
    refused (reject k q) e (z, inl w) n p f =
        let same = same-bad (List ℕ) k q n p (sym (still-bad s k q e) ∙ f) in
        (same.0 ∙ z, inl (rw same.1 (record { before = omega (arith, w.before); stays = λ r. still-bad (s ++ r) 13 q (w.stays r) })))
    refused (reject k q) e (z, inr c) n p f =
        let same = same-bad (List ℕ) k q n p (sym (still-bad s k q e) ∙ f) in (
          same.0 ∙ z,
          inr
              (rw same.1
              (record { at = omega (arith, c.at); rest = c.rest; numbers = c.value; whole = read_whole (s ++ c.rest) c.value c.place c.goes })),
        )

  pub one-slip : OneSlip rows
  one-slip =
      record {
        reads_back = reads_back;
        one = λ s ns h e. let x = several s ns h e in written ns x.1 ∙ ap accept (sym x.0);
        twelve = λ s ns h e. at-most-length (limits_within rows) ns (several s ns h e).1 ∙ twelve-limits;
        least = λ ns b l e. let x = numbers-length (limits_within rows) ns (obeys ns b e l) in omega (arith, ap length (bytes_are ns b e), twelve-limits);
        most = λ ns b l e. let x = numbers-length (limits_within rows) ns (obeys ns b e l) in omega (arith, ap length (bytes_are ns b e), longest_is rows);
        bytes = λ ns b e. rw (bytes_are ns b e) (numbers-bytes ns [] tt);
        obeys = λ ns b l e. obeys ns b e l;
        written = λ ns h. (write_numbers ns [], written ns h);
        out = out_of;
        first = first;
        then = then;
        refused = λ s n p e. refused s (read_numbers (limits_within rows) 0 s) refl (numbers_so_far (limits_within rows) 0 s) n p e;
      }

-- ---- a raised row limit

module _ (low high : ℕ) (more : low ≤ high) where
  up_counts : (k : ℕ) (ns : List ℕ) → AtMost (replicate k low) ns → AtMost (replicate k high) ns
  up_counts zero [] h = tt
  up_counts zero (n ∷ ns) h = absurd h
  up_counts (suc k) [] h = absurd h
  up_counts (suc k) (n ∷ ns) h = (omega (arith, h.0), up_counts k ns h.1)

  up : (ns : List ℕ) → AtMost (limits_within low) ns → AtMost (limits_within high) ns
  unfolding limits_within
  up [] h = absurd h
  up (v ∷ []) h = absurd h.1
  up (v ∷ n ∷ ns) h = (h.0, (h.1.0, up_counts 10 ns h.1.1))

  same-reading : (s ns : List ℕ) → AllBytes s → read_within low s ≡ accept ns → read_within high s ≡ accept ns
  same-reading s ns h e =
      let x = several low s ns h e in
      reads_back high ns s (at-most-length (limits_within low) ns x.1 ∙ twelve-limits low) (written high ns (up ns x.1) ∙ ap accept (sym x.0))

  too_much : (ns b : List ℕ) → length ns ≡ 12 → slip_within high ns ≡ accept b → (AtMost (limits_within low) ns → ⊥) → (p : ℕ) × (read_within low b ≡ reject 13 p)
  too_much ns b l e d = go (read_within low b) refl
    where
      all : AllBytes b
      all = (one-slip high).bytes ns b e

      go : (o : Result (List ℕ)) → read_within low b ≡ o → (p : ℕ) × (read_within low b ≡ reject 13 p)
      go (accept ms) f =
          let same : ms ≡ ns = got_inj (sym (same-reading b ms all f) ∙ reads_back high ns b l e) in
          absurd (d (subst (AtMost (limits_within low)) same (several low b ms all f).1))
      go (reject n p) f = (p, f ∙ ap (λ (k : ℕ). reject k p) ((one-slip low).refused b n p f).0)

  pub raised : Raised low high
  raised =
      record {
        bytes = λ ns b l e. written high ns (up ns (obeys low ns b e l)) ∙ ap accept (sym (bytes_are low ns b e));
        reading = same-reading;
        refused = too_much;
      }

-- 02, E12: slips of tables of 16,383 rows and of today's
pub older_slips : Raised 16383 row_limit
older_slips = raised 16383 row_limit (omega arith)
