-- A law for each way through the functions that write a slip.
use mathlib.Core.Path.{◌≡◌, refl, ap, sym, ◌∙◌}
use Prim.Native.Nat.{ℕ, zero, suc, ◌+◌, ◌*◌, ◌<◌, ◌≤◌}
use native.Mathlib.Numerals.{add-one}
use native.Mathlib.Omega.{arith}
use mathlib.Core.List.{List, [], ◌∷◌, ◌++◌}
use lib.ListN.{length, drop, get_or, replicate, length-append, drop_of_length-le}
use lib.Seq.{sets, sets-eq, drop-cons}
use borrow.Author.Tests.{lt-ltb, le-ltb}
use Rattle.wire.specs.Bytes.{over}
use Rattle.wire.specs.Test.{if}
use Rattle.shared_seven_bit_groups.specs.Groups.{groups, groups_of, write_numbers}
use Rattle.shared_seven_bit_groups.specs.Puts.{PutAt}
use Rattle.shared_seven_bit_groups.proofs.GroupLaws.{groups-append, groups-length}
use Rattle.b3d_spec.specs.Rules.{row_limit}
use Rattle.shared_table_words.proofs.StoreLaws.{sets-append}
use Rattle.slip.specs.Slips.{limits, limit_at, first_over, limits_within}

-- ---- `most`

all_same : (k i a : ℕ) → get_or (replicate k a) i a ≡ a
all_same zero i a = refl
all_same (suc k) zero a = refl
all_same (suc k) (suc i) a = all_same k i a

pub limit-version : (i : ℕ) → i ≡ 0 → 99 ≡ limit_at i
unfolding limits_within
limit-version i e = rw e

pub limit-slots : (i : ℕ) → i ≡ 1 → 8 ≡ limit_at i
unfolding limits_within
limit-slots i e = rw e

pub limit-count : (i : ℕ) → (i ≡ 0 → ⊥) → (i ≡ 1 → ⊥) → row_limit ≡ limit_at i
unfolding limits_within
limit-count zero d e = absurd (d refl)
limit-count (suc zero) d e = absurd (e refl)
limit-count (suc (suc i)) d e = sym (all_same 10 i row_limit)

-- a number of four bytes
pub limit-word : (i : ℕ) → limit_at i < 4294967296
unfolding limits_within
limit-word zero = omega arith
limit-word (suc zero) = omega arith
limit-word (suc (suc i)) = omega (arith, all_same 10 i row_limit)

pub ruleset limit_laws = (limit-version, limit-slots, limit-count)

-- ---- the numbers from i on

pub limits-next : (i : ℕ) → i < 12 → drop i limits ≡ limit_at i ∷ drop (i + 1) limits
unfolding limits_within
limits-next i h = rw add-one (drop-cons limits i row_limit h)

pub limits-end : (i : ℕ) → 12 ≤ i → drop i limits ≡ []
unfolding limits_within
limits-end i h = drop_of_length-le limits h

numbers_next : (ns : List ℕ) (i : ℕ) → length ns ≡ 12 → i < 12 → drop i ns ≡ get_or ns i 0 ∷ drop (i + 1) ns
numbers_next ns i l h = rw add-one (drop-cons ns i 0 (omega arith))

numbers-end : (ns : List ℕ) (i : ℕ) → length ns ≡ 12 → 12 ≤ i → drop i ns ≡ []
numbers-end ns i l h = drop_of_length-le ns {i = i} (omega arith)

-- ---- `first_over`: the first from i on

pub record Looking (ns : List ℕ) (i : ℕ) : Type 0 where
  pub long : length ns ≡ 12
  pub few : i ≤ 12
  pub is : i + first_over (drop i limits) (drop i ns) ≡ first_over limits ns

module _ (ns : List ℕ) where
  pub looking_start : length ns ≡ 12 → Looking ns 0
  looking_start l = record { long = l; few = omega arith; is = omega arith }

  module _ (i : ℕ) (g : Looking ns i) where
    module _ (h : i < 12) (m : ℕ) (e : m ≡ limit_at i) where
      here : first_over (drop i limits) (drop i ns) ≡ first_over (m ∷ drop (i + 1) limits) (get_or ns i 0 ∷ drop (i + 1) ns)
      here = rw (limits-next i h, numbers_next ns i g.long h, e)

      pub looking_found : m < get_or ns i 0 → i ≡ first_over limits ns
      unfolding first_over if
      looking_found k = let z : first_over (drop i limits) (drop i ns) ≡ 0 = here ∙ rw (lt-ltb m (get_or ns i 0) k) in omega (arith, g.is)

      pub looking_next : get_or ns i 0 ≤ m → Looking ns (i + 1)
      unfolding first_over if
      looking_next k =
          let z : first_over (drop i limits) (drop i ns) ≡ suc (first_over (drop (i + 1) limits) (drop (i + 1) ns)) = here ∙ rw (le-ltb m (get_or ns i 0) k) in
          record { long = g.long; few = omega arith; is = omega (arith, g.is) }

    pub looking_done : 12 ≤ i → 12 ≡ first_over limits ns
    unfolding first_over
    looking_done h = let z : first_over (drop i limits) (drop i ns) ≡ 0 = rw (limits-end i h) in omega (arith, g.is, g.few)

pub ruleset looking_laws = (looking_start, looking_found, looking_next, looking_done)

-- ---- `slip_size`: those from i on are to be added

pub record Adding (ns : List ℕ) (size i : ℕ) : Type 0 where
  pub long : length ns ≡ 12
  pub few : size ≤ 5 * i
  pub before : i ≤ 12
  pub is : size + length (write_numbers (drop i ns) []) ≡ length (write_numbers ns [])

module _ (ns : List ℕ) where
  pub adding_start : length ns ≡ 12 → Adding ns 0 0
  adding_start l = record { long = l; few = omega arith; before = omega arith; is = omega arith }

  module _ (size i : ℕ) (g : Adding ns size i) where
    pub adding_next : i < 12 → (k : ℕ) → k ≡ groups_of (get_or ns i 0) → k ≤ 5 → Adding ns (size + k) (i + 1)
    unfolding write_numbers
    adding_next h k e f =
        let next : length (write_numbers (drop i ns) []) ≡ groups_of (get_or ns i 0) + length (write_numbers (drop (i + 1) ns) []) =
        ap (λ (l : List ℕ). length (write_numbers l [])) (numbers_next ns i g.long h) ∙ groups-length (get_or ns i 0) (write_numbers (drop (i + 1) ns) []) in
        record { long = g.long; few = omega (arith, g.few); before = omega arith; is = omega (arith, g.is) }

    pub adding_done : 12 ≤ i → size ≡ length (write_numbers ns [])
    unfolding write_numbers
    adding_done h = let z : length (write_numbers (drop i ns) []) ≡ 0 = rw (numbers-end ns i g.long h) in omega (arith, g.is)

    pub adding_most : size ≤ 60
    adding_most = omega (arith, g.few, g.before)

pub ruleset adding_laws = (adding_start, adding_next, adding_done, adding_most)

-- ---- `put_slip`: those from i on are to be put at `at`

pub record NumbersLeft (ns xs ys : List ℕ) (at i : ℕ) : Type 0 where
  pub long : length ns ≡ 12
  pub same : length ys ≡ length xs
  pub room : at + length (write_numbers (drop i ns) []) ≤ length ys
  pub is : sets ys at (write_numbers (drop i ns) []) ≡ sets xs 0 (write_numbers ns [])

module _ (ns xs : List ℕ) (r : length (write_numbers ns []) ≤ length xs) where
  pub putting_start : length ns ≡ 12 → NumbersLeft ns xs xs 0 0
  putting_start l = record { long = l; same = refl; room = omega arith; is = refl }

  module _ (ys : List ℕ) (at i : ℕ) (g : NumbersLeft ns xs ys at i) where
    module _ (h : i < 12) where
      next : write_numbers (drop i ns) [] ≡ groups (get_or ns i 0) [] ++ write_numbers (drop (i + 1) ns) []
      unfolding write_numbers
      next = ap (λ (l : List ℕ). write_numbers l []) (numbers_next ns i g.long h) ∙ groups-append (get_or ns i 0) (write_numbers (drop (i + 1) ns) [])

      both : length (write_numbers (drop i ns) []) ≡ groups_of (get_or ns i 0) + length (write_numbers (drop (i + 1) ns) [])
      unfolding groups_of
      both = ap length next ∙ length-append (groups (get_or ns i 0) []) (write_numbers (drop (i + 1) ns) [])

      pub putting_room : at + groups_of (get_or ns i 0) ≤ length ys
      putting_room = omega (arith, g.room, both)

      pub putting_next : (zs : List ℕ) (p : ℕ) → PutAt (groups (get_or ns i 0) []) ys at zs p → NumbersLeft ns xs zs p (i + 1)
      unfolding groups_of
      putting_next zs p k =
          record {
            long = g.long;
            same = k.long ∙ g.same;
            room = omega (arith, g.room, both, k.to, k.long);
            is =
                rw (k.is, k.to)
                (sym (sets-append (groups (get_or ns i 0) []) (write_numbers (drop (i + 1) ns) []) ys at) ∙ rw (← next) g.is);
          }

    pub putting_done : 12 ≤ i → ys ≡ over (write_numbers ns []) xs
    unfolding write_numbers over
    putting_done h =
        let z : sets ys at (write_numbers (drop i ns) []) ≡ ys = rw (numbers-end ns i g.long h) in
        let e : 0 + length (write_numbers ns []) ≡ length (write_numbers ns []) = omega arith in
        sym z ∙ g.is ∙ sets-eq (write_numbers ns []) xs 0 (omega arith) ∙ ap (λ (n : ℕ). write_numbers ns [] ++ drop n xs) e

pub ruleset putting_laws = (putting_start, putting_room, putting_next, putting_done)
