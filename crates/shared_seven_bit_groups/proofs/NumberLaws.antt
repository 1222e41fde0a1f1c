-- A law for each way through the functions.
use Rattle.layout.specs.Refused.{refusal_at}
use Rattle.std.specs.Prelude.{Ok, Err}
use Rattle.std.specs.Prelude as std
use Rattle.layout.specs.declared.Refusal.{Refusal}
use mathlib.Core.Path.{◌≡◌, refl, ap, sym, ◌∙◌}
use mathlib.Core.Logic.{inl, inr}
use Prim.Native.Nat.{ℕ, suc, ◌+◌, ◌-◌, ◌*◌, ◌/◌, ◌%◌, ◌<◌, ◌≤◌}
use native.Mathlib.Numerals.{add-one}
use native.Mathlib.Nat.{add-zero, add-suc, suc-add}
use native.Mathlib.Omega.{arith}
use mathlib.Core.List.{List, [], ◌∷◌, ◌++◌}
use lib.ListN.{length, drop, get_or, set, length-set, length-append, drop_of_length-le}
use lib.Seq.{sets, drop-cons}
use Rattle.layout.specs.Result.{Result, reject, check, ◌>>=◌}
use Rattle.layout.specs.Parts.{Step}
use Rattle.shared_seven_bit_groups.specs.Groups.{front, groups, groups_of, goes_on, last, read_in, read_number, grouped}
use Rattle.shared_seven_bit_groups.specs.Puts.{PutAt}
use Rattle.shared_seven_bit_groups.proofs.GroupLaws.{front-none, front-more, front-append, front_of, count_none, count_more, count_is, groups-most}
use Rattle.shared_seven_bit_groups.proofs.Laws.{read-last, read_more, last_fits, last-over, goes_on_is, goes-not}

-- ---- `groups_of`: those above are left

-- a number of four bytes takes five groups at most
pub word-groups : (n : ℕ) → n < 4294967296 → groups_of n ≤ 5
word-groups n h = groups-most 4 n (omega arith)

pub record Counting (n count above : ℕ) : Type 0 where
  pub is : count + front_of above ≡ groups_of n
  pub few : groups_of n ≤ 5

module _ (n : ℕ) where
  pub counting_start : n < 4294967296 → Counting n 1 (n / 128)
  counting_start h = record { is = omega (arith, count_is n); few = word-groups n h }

  module _ (count above : ℕ) (g : Counting n count above) where
    pub counting_small : count + 1 < 18446744073709551616
    counting_small = omega (arith, g.is, g.few)

    pub counting_next : 0 < above → Counting n (count + 1) (above / 128)
    counting_next h = record { is = omega (arith, g.is, count_more above h); few = g.few }

    pub counting_done : above ≤ 0 → count ≡ groups_of n
    counting_done h = let z : above ≡ 0 = omega arith in omega (arith, rw z at g.is, count_none)

    pub counting_most : above ≤ 0 → count ≤ 5
    counting_most h = omega (arith, counting_done h, g.few)

pub ruleset counting_laws = (counting_start, counting_small, counting_next, counting_done, counting_most)

-- ---- `put_front`, `put_groups`: one byte more

sets-one : (w xs : List ℕ) (at b : ℕ) → sets xs at (w ++ (b ∷ [])) ≡ set (sets xs at w) (at + length w) b
sets-one [] xs at b = rw add-zero
sets-one (v ∷ w) xs at b = sets-one w (set xs at v) (suc at) b ∙ rw (add-suc, suc-add)

put_one : (w xs : List ℕ) (at : ℕ) (ys : List ℕ) (p b : ℕ) → PutAt w xs at ys p → PutAt (w ++ (b ∷ [])) xs at (set ys p b) (p + 1)
put_one w xs at ys p b h =
    record {
      is = sym (sets-one w xs at b ∙ rw (h.is, h.to));
      long = length-set ys p b ∙ h.long;
      to = omega (arith, h.to, length-append w (b ∷ []));
    }

front-last : (w : ℕ) → 0 < w → front w [] ≡ front (w / 128) [] ++ ((w % 128 + 128) ∷ [])
front-last w h = front-more w [] h ∙ front-append (w / 128) ((w % 128 + 128) ∷ [])

groups-last : (n : ℕ) → groups n [] ≡ front (n / 128) [] ++ (n % 128 ∷ [])
unfolding groups
groups-last n = front-append (n / 128) (n % 128 ∷ [])

module _ (xs : List ℕ) (at : ℕ) where
  pub front-zero : (w : ℕ) → w ≡ 0 → PutAt (front w []) xs at xs at
  front-zero w e = rw (e, front-none []) (record { is = refl; long = refl; to = omega arith })

  module _ (w : ℕ) (d : w ≡ 0 → ⊥) (h : at + length (front w []) ≤ length xs) where
    pub front_fits : at + length (front (w / 128) []) ≤ length xs
    front_fits = omega (arith, count_more w (omega arith))

    module _ (ys : List ℕ) (p : ℕ) (k : PutAt (front (w / 128) []) xs at ys p) where
      pub front_slot : p < length ys
      front_slot = omega (arith, count_more w (omega arith), k.to, k.long)

      pub front-done : PutAt (front w []) xs at (set ys p (w % 128 + 128)) (p + 1)
      front-done = rw (front-last w (omega arith)) (put_one (front (w / 128) []) xs at ys p (w % 128 + 128) k)

  module _ (n : ℕ) (h : at + groups_of n ≤ length xs) where
    pub groups-fit : at + length (front (n / 128) []) ≤ length xs
    groups-fit = omega (arith, count_is n)

    module _ (ys : List ℕ) (p : ℕ) (k : PutAt (front (n / 128) []) xs at ys p) where
      pub groups_slot : p < length ys
      groups_slot = omega (arith, count_is n, k.to, k.long)

      pub groups-done : PutAt (groups n []) xs at (set ys p (n % 128)) (p + 1)
      groups-done = rw (groups-last n) (put_one (front (n / 128) []) xs at ys p (n % 128) k)

pub ruleset front_laws = (front-zero, front_fits, front_slot, front-done)

pub ruleset groups_laws = (groups-fit, groups_slot, groups-done)

-- ---- `read_number`: what the groups from p on give is what was to be read from the start

-- k groups are read, which make the number v
pub record GroupsLeft (s : List ℕ) (at most k v p : ℕ) : Type 0 where
  pub rest : read_in at most (groups_of most - k) v p (drop p s) ≡ read_number most at (drop at s)
  pub low : v * 128 ≤ most

module _ (s : List ℕ) (at most : ℕ) where
  pub groups_start : GroupsLeft s at most 0 0 at
  unfolding read_number
  groups_start = let e : groups_of most - 0 ≡ groups_of most = omega arith in record { rest = rw e; low = omega arith }

  module _ (k v p : ℕ) (g : GroupsLeft s at most k v p) (n : ℕ) (e : n ≡ groups_of most) where
    gives : (o : Result (Step ℕ)) → read_in at most (groups_of most - k) v p (drop p s) ≡ o → (r : std.Result (ℕ × ℕ) Refusal) → r ≡ grouped o → r ≡ grouped (read_number most at (drop at s))
    gives o f r h = h ∙ ap grouped (sym f ∙ g.rest)

    pub no_group : n ≤ k → Err (refusal_at 13 at) ≡ grouped (read_number most at (drop at s))
    unfolding read_in
    no_group h = let z : groups_of most - k ≡ 0 = omega (arith, e) in gives (reject 13 at) (rw z) (Err (refusal_at 13 at)) refl

    module _ (h : k < n) where
      one : groups_of most - k ≡ suc (groups_of most - (k + 1))
      one = omega (arith, e)

      pub bytes_end : length s ≤ p → Err (refusal_at 13 p) ≡ grouped (read_number most at (drop at s))
      unfolding read_in
      bytes_end i = gives (reject 13 p) (rw (one, drop_of_length-le s i)) (Err (refusal_at 13 p)) refl

      module _ (i : p < length s) where
        abbrev b : ℕ
        b = get_or s p 0

        here : read_in at most (groups_of most - k) v p (drop p s) ≡ read_in at most (suc (groups_of most - (k + 1))) v p (b ∷ drop (p + 1) s)
        here = rw (add-one p, ← one, ← drop-cons s p 0 i)

        module _ (j : get_or s p 0 < 128) where
          is_last : read_in at most (groups_of most - k) v p (drop p s) ≡ last at most (v * 128 + b) (p + 1) (drop (p + 1) s)
          is_last = here ∙ read-last at most (groups_of most - (k + 1)) v p b (drop (p + 1) s) j

          pub number_over : most < v * 128 + get_or s p 0 → Err (refusal_at 13 at) ≡ grouped (read_number most at (drop at s))
          number_over o = gives (reject 13 at) (is_last ∙ last-over at most (v * 128 + b) (p + 1) (drop (p + 1) s) o) (Err (refusal_at 13 at)) refl

          pub number_is : v * 128 + get_or s p 0 ≤ most → Ok (v * 128 + get_or s p 0, p + 1) ≡ grouped (read_number most at (drop at s))
          number_is o = gives _ (is_last ∙ last_fits at most (v * 128 + b) (p + 1) (drop (p + 1) s) o) (Ok (v * 128 + b, p + 1)) refl

        module _ (j : 128 ≤ get_or s p 0) where
          abbrev w : ℕ
          w = v * 128 + (b - 128)

          is_more : read_in at most (groups_of most - k) v p (drop p s) ≡ (check (goes_on most w) 13 at >>= λ _. read_in at most (groups_of most - (k + 1)) w (p + 1) (drop (p + 1) s))
          is_more = here ∙ read_more at most (groups_of most - (k + 1)) v p b (drop (p + 1) s) j

          pub number_empty : v * 128 + (get_or s p 0 - 128) ≡ 0 → Err (refusal_at 13 at) ≡ grouped (read_number most at (drop at s))
          number_empty o = gives (reject 13 at) (is_more ∙ goes-not at most w _ (inl o)) (Err (refusal_at 13 at)) refl

          pub number_far : most / 128 < v * 128 + (get_or s p 0 - 128) → Err (refusal_at 13 at) ≡ grouped (read_number most at (drop at s))
          number_far o = gives (reject 13 at) (is_more ∙ goes-not at most w _ (inr (omega arith))) (Err (refusal_at 13 at)) refl

          pub groups_next : (v * 128 + (get_or s p 0 - 128) ≡ 0 → ⊥) → v * 128 + (get_or s p 0 - 128) ≤ most / 128
              → GroupsLeft s at most (k + 1) (v * 128 + (get_or s p 0 - 128)) (p + 1)
          groups_next o l =
              let low : w * 128 ≤ most = omega arith in
              record { rest = sym (is_more ∙ rw (goes_on_is at most w (omega arith) low)) ∙ g.rest; low = low }

pub ruleset reading_laws = (groups_start, no_group, bytes_end, number_over, number_is, number_empty, number_far, groups_next)
