-- Items that stay: what each turn of `kept_items` makes of those that are left.
use Rattle.layout.specs.Refused.{refusal_at}
use Rattle.std.specs.Prelude.{Ok, Err}
use Rattle.std.specs.Prelude as std
use Rattle.layout.specs.declared.Refusal.{Refusal}
use Prim.Native.Nat.{ℕ, zero, suc, ◌+◌, ◌-◌, ◌*◌, ◌<◌, ◌≤◌}
use native.Mathlib.Omega.{arith}
use native.Mathlib.Nat.{add-mul, zero-mul}
use mathlib.Core.Path.{◌≡◌, refl, sym, ap, ◌∙◌}
use mathlib.Core.Bool.{Bool, true, false}
use mathlib.Core.List.{List, [], ◌∷◌, ◌++◌}
use lib.ListN.{length, drop, replicate, length-append, length-replicate}
use Rattle.wire.specs.Test.{if}
use Rattle.wire.specs.Cursors.{Inside, left}
use Rattle.wire.specs.declared.Cursor.{Cursor}
use Rattle.wire.proofs.LeftLaws.{span, left-length, left-nil, left-drop}
use Rattle.layout.specs.Result.{Result, accept, reject, ◌>>=◌}
use Rattle.layout.specs.Parts.{words_of, row, items}
use Rattle.layout.specs.Rules.{Rule, any, names, holds}
use Rattle.layout.proofs.StepLaws.{length-words-of, row_any, any-short, row_shrinks, items-none, items-step, Shrinks, words-add}
use Rattle.shared_ids.specs.Ids.{first_bad, id_row}
use Rattle.b3d_judge_items.specs.Items.{counted}
use Rattle.b3d_mend_spec.specs.Mend.{all_hold}
use Rattle.b3d_mend_judge_items.specs.Lax.{kept, lax_items}
use Rattle.b3d_mend_judge_items.specs.Ones.{one_if}

-- ---- one item

by_bool : {P : Type 0} (b : Bool) → (b ≡ true → P) → (b ≡ false → P) → P
by_bool true f g = f refl
by_bool false f g = g refl

any-holds : (k : ℕ) (ws : List ℕ) → all_hold (replicate k any) ws ≡ true
unfolding all_hold
any-holds zero ws = refl
any-holds (suc k) [] = refl
any-holds (suc k) (w ∷ ws) = any-holds k ws

module _ (r : Rule) where
  hold_all : (n : ℕ) (ws vs : List ℕ) (rs : List Rule) → length ws ≡ n → n ≤ first_bad r ws → all_hold (replicate n r ++ rs) (ws ++ vs) ≡ all_hold rs vs
  unfolding all_hold first_bad if
  hold_all zero [] vs rs l e = refl
  hold_all zero (w ∷ ws) vs rs l e = absurd (omega arith)
  hold_all (suc n) [] vs rs l e = absurd (omega arith)
  hold_all (suc n) (w ∷ ws) vs rs l e =
      by_bool (holds r w)
      (λ h. let f = rw h at e in rw h (hold_all n ws vs rs (omega arith) (omega arith)))
      (λ h. let f = rw h at e in absurd (omega arith))

  hold_not : (n : ℕ) (ws vs : List ℕ) (rs : List Rule) → length ws ≡ n → first_bad r ws < n → all_hold (replicate n r ++ rs) (ws ++ vs) ≡ false
  unfolding all_hold first_bad if
  hold_not zero ws vs rs l e = absurd (omega arith)
  hold_not (suc n) [] vs rs l e = absurd (omega arith)
  hold_not (suc n) (w ∷ ws) vs rs l e =
      by_bool (holds r w)
      (λ h. let f = rw h at e in rw h (hold_not n ws vs rs (omega arith) (omega arith)))
      (λ h. rw h)

module _ (s : List ℕ) (c : Cursor) (words ids limit : ℕ) (i : Inside c (length s)) (whole : c.at + 4 * words ≤ c.end) (le : ids ≤ words)
    (g : ℕ) (e : g ≡ first_bad (names limit) (words_of ids (left c s))) where
  apart : words_of words (left c s) ≡ words_of ids (left c s) ++ words_of (words - ids) (drop (4 * ids) (left c s))
  apart =
      let n = left-length s c i in
      let q : words ≡ ids + (words - ids) = omega arith in
      ap (λ (k : ℕ). words_of k (left c s)) q ∙ words-add ids (words - ids) (left c s) (omega arith)

  long : length (words_of ids (left c s)) ≡ ids
  long = let n = left-length s c i in length-words-of ids (left c s) (omega arith)

  pub one_out : g < ids → 0 ≡ one_if (all_hold (id_row ids (words - ids) limit) (words_of words (left c s)))
  one_out h = rw (apart, hold_not (names limit) ids (words_of ids (left c s)) _ (replicate (words - ids) any) long (omega arith))

  pub one_kept : ids ≤ g → 1 ≡ one_if (all_hold (id_row ids (words - ids) limit) (words_of words (left c s)))
  one_kept h =
      rw (
        apart,
        hold_all (names limit) ids (words_of ids (left c s)) (words_of (words - ids) (drop (4 * ids) (left c s))) (replicate (words - ids) any) long (omega arith),
        any-holds (words - ids) (words_of (words - ids) (drop (4 * ids) (left c s))),
      )

pub ruleset one_laws = (one_out, one_kept)

-- ---- items

-- so many items before others
abbrev counted_from : ℕ → Result (List (List ℕ)) → std.Result ℕ Refusal
counted_from k (accept l) = Ok (k + length l)
counted_from k (reject n p) = Err (refusal_at n p)

from-none : (o : Result (List (List ℕ))) → counted o ≡ counted_from 0 o
from-none (accept l) = let e : length l ≡ 0 + length l = omega arith in ap Ok e
from-none (reject n p) = refl

kept_more : (rs : List Rule) (v : List ℕ) (l : List (List ℕ)) → length (kept rs (v ∷ l)) ≡ one_if (all_hold rs v) + length (kept rs l)
unfolding kept if
kept_more rs v l = go (all_hold rs v)
  where
    go : (b : Bool) → length (if b (v ∷ kept rs l) (kept rs l)) ≡ one_if b + length (kept rs l)
    go true = omega arith
    go false = omega arith

from_one : (k : ℕ) (rs : List Rule) (v : List ℕ) (o : Result (List (List ℕ)))
    → counted_from k (o >>= (λ l. accept (v ∷ l)) >>= λ l. accept (kept rs l)) ≡ counted_from (k + one_if (all_hold rs v)) (o >>= λ l. accept (kept rs l))
from_one k rs v (accept l) =
    let q = kept_more rs v l in
    let e : k + length (kept rs (v ∷ l)) ≡ k + one_if (all_hold rs v) + length (kept rs l) = omega arith in
    ap Ok e
from_one k rs v (reject n p) = refl

one-times : (g k : ℕ) → g ≤ 1 → g * k ≤ k
one-times zero k h = omega (arith, zero-mul k)
one-times (suc zero) k h = omega arith
one-times (suc (suc g)) k h = absurd (omega arith)

-- items have been passed from `from` up to a place, and so many stay; x is the answer
pub record Keeping (s : List ℕ) (words : ℕ) (rs : List Rule) (from : Cursor) (x : std.Result ℕ Refusal) (at count : ℕ) : Type 0 where
  pub to : at ≤ from.end
  pub within : from.end ≤ length s
  pub few : from.at + count ≤ at
  pub passed : from.at + count * (4 * words) ≤ at
  pub rest : x ≡ counted_from count (lax_items rs at (left (span at from.end) s))

module _ (s : List ℕ) (words : ℕ) (rs : List Rule) (from : Cursor) (x : std.Result ℕ Refusal) where
  pub keep_none : Inside from (length s) → x ≡ counted (lax_items rs from.at (left from s)) → Keeping s words rs from x from.at 0
  keep_none i e = record {
    to = i.before;
    within = i.within;
    few = omega arith;
    passed = omega (arith, zero-mul (4 * words));
    rest = e ∙ from-none (lax_items rs from.at (left from s));
  }

  module _ (at count : ℕ) (c : Keeping s words rs from x at count) (pos : 0 < words) (sum : length rs ≡ words) where
    left_here : length (left (span at from.end) s) ≡ from.end - at
    left_here = left-length s (span at from.end) (record { before = c.to; within = c.within })

    less : Shrinks (row (replicate (length rs) any))
    less = row_shrinks (replicate (length rs) any) (omega (arith, length-replicate (length rs) any))

    pub keep_done : from.end ≤ at → Ok count ≡ x
    unfolding lax_items kept
    keep_done h =
        let e : count + 0 ≡ count = omega arith in
        sym (c.rest ∙ rw (left-nil s (span at from.end) h, items-none (row (replicate (length rs) any)) less at, e))

    module _ (h : at < from.end) where
      step : items (row (replicate (length rs) any)) at (left (span at from.end) s)
          ≡ (row (replicate (length rs) any) at (left (span at from.end) s) >>= λ v. items (row (replicate (length rs) any)) v.place v.left >>= λ l. accept (v.value ∷ l))
      step = items-step (row (replicate (length rs) any)) less at (left (span at from.end) s) (omega (arith, left_here))

      pub keep_cut : from.end - at < 4 * words → Err (refusal_at 5 at) ≡ x
      unfolding lax_items
      keep_cut q = sym (c.rest ∙ rw (step, any-short (length rs) at (left (span at from.end) s) (omega (arith, left_here, sum))))

      pub keep_one : 4 * words ≤ from.end - at → (g : ℕ) → g ≡ one_if (all_hold rs (words_of words (left (span at from.end) s))) → g ≤ 1
          → Keeping s words rs from x (at + 4 * words) (count + g)
      unfolding lax_items
      keep_one whole g e small =
          let l = left (span at from.end) s in
          let m = add-mul count g (4 * words) in
          let z = one-times g (4 * words) small in
          record {
            to = omega arith;
            within = c.within;
            few = omega arith;
            passed = omega arith;
            rest = c.rest ∙ rw (
              step,
              row_any (length rs) at l (omega (arith, left_here, sum)),
              sum,
              left-drop s (span at from.end) (4 * words) (span (at + 4 * words) from.end) refl refl,
              e,
            ) (from_one count rs (words_of words l) (items (row (replicate words any)) (at + 4 * words) (drop (4 * words) l)));
          }

pub id-row-length : (words ids limit : ℕ) → ids ≤ words → length (id_row ids (words - ids) limit) ≡ words
id-row-length words ids limit le = simp (length-append, length-replicate) (omega arith)

pub ruleset keeping = (keep_none, keep_done, keep_cut, keep_one, id-row-length)
