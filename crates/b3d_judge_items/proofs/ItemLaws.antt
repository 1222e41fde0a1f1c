-- Items with words under one rule: what each turn of `id_items` and of `colour_items` makes of those that are left.
use Rattle.layout.specs.Refused.{refusal_at}
use Rattle.std.specs.Prelude.{Ok, Err}
use Rattle.std.specs.Prelude as std
use Rattle.layout.specs.declared.Refusal.{Refusal}
use Prim.Native.Nat.{ℕ, ◌+◌, ◌-◌, ◌*◌, ◌<◌, ◌≤◌}
use native.Mathlib.Omega.{arith}
use native.Mathlib.Nat.{add-mul, zero-mul}
use mathlib.Core.Path.{◌≡◌, refl, sym, ap, ◌∙◌}
use mathlib.Core.List.{List, ◌∷◌, ◌++◌}
use lib.ListN.{length, drop, replicate, length-append, length-replicate, length-drop}
use Rattle.wire.specs.Cursors.{Inside, left}
use Rattle.wire.specs.declared.Cursor.{Cursor}
use Rattle.wire.proofs.LeftLaws.{span, left-length, left-nil, left-drop}
use Rattle.layout.specs.Result.{Result, accept, reject, ◌>>=◌}
use Rattle.layout.specs.Parts.{words_of, judged, row}
use Rattle.layout.specs.Rules.{Rule, any, names, unit, refusal}
use Rattle.layout.proofs.StepLaws.{length-words-of, judged-any, row-enough, row-short, row_shrinks, items-none, items-step, Shrinks, words-add}
use Rattle.shared_ids.specs.Ids.{first_bad}
use Rattle.shared_ids.proofs.IdLaws.{any-pass, ids-pass, ids-stop}
use Rattle.b3d_judge_items.specs.Items.{part_row, part_items, id_items, colour_items, counted}

-- ---- a row

module _ {A : Type 0} (r : Rule) (k n j p : ℕ) (l : List ℕ) (a : A) (h : 4 * (k + n) ≤ length l) where
  abbrev here : List ℕ
  here = drop (4 * k) l

  room : 4 * n ≤ length here
  room = omega (arith, length-drop (4 * k) l)

  before : judged (part_row r k n j) p (words_of (k + (n + j)) l) a ≡ judged (replicate n r ++ replicate j any) (p + 4 * k) (words_of n here ++ words_of j (drop (4 * n) here)) a
  before =
      rw (words-add k (n + j) l (omega arith), words-add n j here room)
      (any-pass k p (words_of k l) (words_of n here ++ words_of j (drop (4 * n) here)) (replicate n r ++ replicate j any) a (length-words-of k l (omega arith)))

  part-good : first_bad r (words_of n here) ≡ n → judged (part_row r k n j) p (words_of (k + (n + j)) l) a ≡ accept a
  part-good e =
      before ∙ ids-pass r n (p + 4 * k) (words_of n here) (words_of j (drop (4 * n) here)) (replicate j any) a (length-words-of n here room) e
      ∙ judged-any j (p + 4 * k + 4 * n) (words_of j (drop (4 * n) here)) a

  part-bad : first_bad r (words_of n here) < n → judged (part_row r k n j) p (words_of (k + (n + j)) l) a ≡ reject (refusal r) (p + 4 * k + 4 * first_bad r (words_of n here))
  part-bad e = before ∙ ids-stop r n (p + 4 * k) (words_of n here) (words_of j (drop (4 * n) here)) (replicate j any) a (length-words-of n here room) e

-- ---- items

-- so many items before others
abbrev counted_from : ℕ → Result (List (List ℕ)) → std.Result ℕ Refusal
counted_from k (accept l) = Ok (k + length l)
counted_from k (reject n p) = Err (refusal_at n p)

from-none : (o : Result (List (List ℕ))) → counted o ≡ counted_from 0 o
from-none (accept l) = let e : length l ≡ 0 + length l = omega arith in ap Ok e
from-none (reject n p) = refl

from_one : (k : ℕ) (v : List ℕ) (o : Result (List (List ℕ))) → counted_from k (o >>= λ l. accept (v ∷ l)) ≡ counted_from (k + 1) o
from_one k v (accept l) = let e : k + length (v ∷ l) ≡ k + 1 + length l = omega arith in ap Ok e
from_one k v (reject n p) = refl

-- so many items have been passed, from `from` up to a place; x is the answer
pub record Counting (s : List ℕ) (words : ℕ) (r : Rule) (k n j : ℕ) (from : Cursor) (x : std.Result ℕ Refusal) (at count : ℕ) : Type 0 where
  pub to : at ≤ from.end
  pub within : from.end ≤ length s
  pub few : from.at + count ≤ at
  pub passed : from.at + count * (4 * words) ≡ at
  pub rest : x ≡ counted_from count (part_items r k n j at (left (span at from.end) s))

module _ (words : ℕ) (r : Rule) (k n j : ℕ) (pos : 0 < words) (sum : k + (n + j) ≡ words) where
  long : length (part_row r k n j) ≡ words
  long = simp (length-append, length-replicate) (omega arith)

  less : Shrinks (row (part_row r k n j))
  less = row_shrinks (part_row r k n j) (omega (arith, long))

  -- an item that is all there
  one : (at : ℕ) (l : List ℕ) → 4 * words ≤ length l
      → row (part_row r k n j) at l ≡ judged (part_row r k n j) at (words_of (k + (n + j)) l) (record { value = words_of words l; place = at + 4 * words; left = drop (4 * words) l })
  one at l h = rw sum (rw long at (row-enough (part_row r k n j) at l (omega (arith, long))))

module _ (s : List ℕ) (words : ℕ) (r : Rule) (k n j : ℕ) (from : Cursor) (x : std.Result ℕ Refusal) where
  count_none : Inside from (length s) → x ≡ counted (part_items r k n j from.at (left from s)) → Counting s words r k n j from x from.at 0
  count_none i e = record {
    to = i.before;
    within = i.within;
    few = omega arith;
    passed = omega (arith, zero-mul (4 * words));
    rest = e ∙ from-none (part_items r k n j from.at (left from s));
  }

  module _ (at count : ℕ) (c : Counting s words r k n j from x at count) (pos : 0 < words) (sum : k + (n + j) ≡ words) where
    left_here : length (left (span at from.end) s) ≡ from.end - at
    left_here = left-length s (span at from.end) (record { before = c.to; within = c.within })

    count_done : from.end ≤ at → Ok count ≡ x
    count_done h =
        let e : count + 0 ≡ count = omega arith in
        sym (c.rest ∙ rw (left-nil s (span at from.end) h, items-none (row (part_row r k n j)) (less words r k n j pos sum) at, e))

    module _ (h : at < from.end) where
      step : part_items r k n j at (left (span at from.end) s)
          ≡ (row (part_row r k n j) at (left (span at from.end) s) >>= λ v. part_items r k n j v.place v.left >>= λ l. accept (v.value ∷ l))
      step = items-step (row (part_row r k n j)) (less words r k n j pos sum) at (left (span at from.end) s) (omega (arith, left_here))

      count_cut : from.end - at < 4 * words → Err (refusal_at 5 at) ≡ x
      count_cut q = sym (c.rest ∙ rw (step, row-short (part_row r k n j) at (left (span at from.end) s) (omega (arith, left_here, long words r k n j pos sum))))

      module _ (whole : 4 * words ≤ from.end - at) (first : ℕ) (d : first ≡ at + 4 * k) (g : ℕ) (e : g ≡ first_bad r (words_of n (left (record { at = first; end = from.end }) s))) where
        -- the words under the rule, in what the item has left
        there : g ≡ first_bad r (words_of n (drop (4 * k) (left (span at from.end) s)))
        there = e ∙ ap (λ (l : List ℕ). first_bad r (words_of n l)) (left-drop s (span at from.end) (4 * k) (span first from.end) d refl)

        count_bad : g < n → Err (refusal_at (refusal r) (first + 4 * g)) ≡ x
        count_bad q =
            let l = left (span at from.end) s in
            sym (c.rest ∙ rw (step, one words r k n j pos sum at l (omega (arith, left_here)), part-bad r k n j at l _ (omega (arith, left_here)) (omega (arith, there)), ← there, ← d))

        count_one : n ≤ g → g ≤ n → Counting s words r k n j from x (at + 4 * words) (count + 1)
        count_one q i =
            let l = left (span at from.end) s in
            let m = add-mul count 1 (4 * words) in
            record {
              to = omega arith;
              within = c.within;
              few = omega arith;
              passed = omega arith;
              rest = c.rest ∙ rw (
                step,
                one words r k n j pos sum at l (omega (arith, left_here)),
                part-good r k n j at l _ (omega (arith, left_here)) (omega (arith, there)),
                left-drop s (span at from.end) (4 * words) (span (at + 4 * words) from.end) refl refl,
              ) (from_one count (words_of words l) (part_items r k n j (at + 4 * words) (drop (4 * words) l)));
            }

-- ---- ids from the first word on

module _ (s : List ℕ) (words ids limit : ℕ) (from : Cursor) (x : std.Result ℕ Refusal) where
  pub id_items_none : Inside from (length s) → x ≡ counted (id_items ids (words - ids) limit from.at (left from s)) → Counting s words (names limit) 0 ids (words - ids) from x from.at 0
  id_items_none = count_none s words (names limit) 0 ids (words - ids) from x

  module _ (at count : ℕ) (c : Counting s words (names limit) 0 ids (words - ids) from x at count) (pos : 0 < words) (le : ids ≤ words) where
    id_items_sum : 0 + (ids + (words - ids)) ≡ words
    id_items_sum = omega arith

    pub id_items_done : from.end ≤ at → Ok count ≡ x
    id_items_done = count_done s words (names limit) 0 ids (words - ids) from x at count c pos id_items_sum

    module _ (h : at < from.end) where
      pub id_items_cut : from.end - at < 4 * words → Err (refusal_at 5 at) ≡ x
      id_items_cut = count_cut s words (names limit) 0 ids (words - ids) from x at count c pos id_items_sum h

      module _ (whole : 4 * words ≤ from.end - at) (g : ℕ) (e : g ≡ first_bad (names limit) (words_of ids (left (record { at = at; end = from.end }) s))) where
        first_is : at ≡ at + 4 * 0
        first_is = omega arith

        pub id_items_bad : g < ids → Err (refusal_at 7 (at + 4 * g)) ≡ x
        id_items_bad = count_bad s words (names limit) 0 ids (words - ids) from x at count c pos id_items_sum h whole at first_is g e

        pub id_items_one : ids ≤ g → g ≤ ids → Counting s words (names limit) 0 ids (words - ids) from x (at + 4 * words) (count + 1)
        id_items_one = count_one s words (names limit) 0 ids (words - ids) from x at count c pos id_items_sum h whole at first_is g e

pub ruleset id-counting = (id_items_none, id_items_done, id_items_cut, id_items_bad, id_items_one)

-- ---- colours behind so many words

module _ (s : List ℕ) (words k n : ℕ) (from : Cursor) (x : std.Result ℕ Refusal) where
  pub colour_items_none : Inside from (length s) → x ≡ counted (colour_items k n (words - (k + n)) from.at (left from s)) → Counting s words unit k n (words - (k + n)) from x from.at 0
  colour_items_none = count_none s words unit k n (words - (k + n)) from x

  module _ (at count : ℕ) (c : Counting s words unit k n (words - (k + n)) from x at count) (pos : 0 < words) (le : k + n ≤ words) where
    colour_items_sum : k + (n + (words - (k + n))) ≡ words
    colour_items_sum = omega arith

    pub colour_items_done : from.end ≤ at → Ok count ≡ x
    colour_items_done = count_done s words unit k n (words - (k + n)) from x at count c pos colour_items_sum

    module _ (h : at < from.end) where
      pub colour_items_cut : from.end - at < 4 * words → Err (refusal_at 5 at) ≡ x
      colour_items_cut = count_cut s words unit k n (words - (k + n)) from x at count c pos colour_items_sum h

      module _ (whole : 4 * words ≤ from.end - at) (first : ℕ) (d : first ≡ at + 4 * k) (g : ℕ) (e : g ≡ first_bad unit (words_of n (left (record { at = first; end = from.end }) s))) where
        pub colour_items_bad : g < n → Err (refusal_at 6 (first + 4 * g)) ≡ x
        colour_items_bad = count_bad s words unit k n (words - (k + n)) from x at count c pos colour_items_sum h whole first d g e

        pub colour_items_one : n ≤ g → g ≤ n → Counting s words unit k n (words - (k + n)) from x (at + 4 * words) (count + 1)
        colour_items_one = count_one s words unit k n (words - (k + n)) from x at count c pos colour_items_sum h whole first d g e

pub ruleset colour-counting = (colour_items_none, colour_items_done, colour_items_cut, colour_items_bad, colour_items_one)
