-- Rows by count that begin with ids: what each turn of `id_rows` makes of those that are left.
use Rattle.layout.specs.Refused.{refusal_at}
use Rattle.std.specs.Prelude.{Ok, Err}
use Prim.Native.Nat.{ℕ, suc, ◌+◌, ◌-◌, ◌*◌, ◌<◌, ◌≤◌}
use native.Mathlib.Numerals.{add-one}
use native.Mathlib.Omega.{arith}
use native.Mathlib.Nat.{suc-mul, zero-mul}
use mathlib.Core.Path.{◌≡◌, refl, sym, ap, ◌∙◌}
use mathlib.Core.List.{List}
use lib.ListN.{length, drop, length-append, length-replicate}
use Rattle.wire.specs.Cursors.{Inside, left}
use Rattle.wire.specs.declared.Cursor.{Cursor}
use Rattle.wire.proofs.LeftLaws.{span, left-length, left-drop}
use Rattle.layout.specs.Result.{Result, accept, reject, ◌>>=◌}
use Rattle.layout.specs.Parts.{Step, words_of, judged, row}
use Rattle.layout.specs.Counted.{before, times}
use Rattle.layout.specs.Rules.{names}
use Rattle.layout.proofs.StepLaws.{row-enough, row-short}
use Rattle.layout.proofs.CountLaws.{times_none, times-one, times-bad}
use Rattle.shared_ids.specs.Ids.{first_bad, id_row}
use Rattle.shared_counted_lists.specs.Runs.{ran_of, Runs}
use Rattle.shared_ids.proofs.IdLaws.{row-good, row-bad}

-- the rows from a place on
abbrev pub rows_at : List ℕ → ℕ → ℕ → ℕ → ℕ → ℕ → ℕ → Result (Step (List (List ℕ)))
rows_at s words ids limit end n at = times n (row (id_row ids (words - ids) limit)) at (left (span at end) s)

-- a value before others does not change where they end
ran_before : {A : Type 0} (end : ℕ) (a : A) (o : Result (Step (List A))) → ran_of end (o >>= λ l. accept (before a l)) ≡ ran_of end o
unfolding before
ran_before end a (accept l) = refl
ran_before end a (reject n p) = refl

-- i of so many rows have been passed, up to a place
pub record Passing (s : List ℕ) (words ids limit : ℕ) (from : Cursor) (count at i : ℕ) : Type 0 where
  pub upto : i ≤ count
  pub before : at ≤ from.end
  pub within : from.end ≤ length s
  pub passed : at ≡ from.at + i * (4 * words)
  pub rest : ran_of from.end (times count (row (id_row ids (words - ids) limit)) from.at (left from s))
      ≡ ran_of from.end (rows_at s words ids limit from.end (count - i) at)

module _ (words ids limit : ℕ) (pos : 0 < words) (le : ids ≤ words) where
  long : length (id_row ids (words - ids) limit) ≡ words
  long = simp (length-append, length-replicate) (omega arith)

  -- a row that is all there
  one : (at : ℕ) (l : List ℕ) → 4 * words ≤ length l
      → row (id_row ids (words - ids) limit) at l
      ≡ judged (id_row ids (words - ids) limit) at (words_of (ids + (words - ids)) l) (record { value = words_of words l; place = at + 4 * words; left = drop (4 * words) l })
  one at l h =
      let all : ids + (words - ids) ≡ words = omega arith in
      rw all (rw long at (row-enough (id_row ids (words - ids) limit) at l (omega (arith, long))))

module _ (s : List ℕ) (words ids limit : ℕ) (from : Cursor) (count : ℕ) where
  pub rows_all : Inside from (length s) → Passing s words ids limit from count from.at 0
  rows_all inside =
      let e : count ≡ count - 0 = omega arith in
      record {
        upto = omega arith;
        before = inside.before;
        within = inside.within;
        passed = omega (arith, zero-mul (4 * words));
        rest = ap (λ (n : ℕ). ran_of from.end (rows_at s words ids limit from.end n from.at)) e;
      }

  module _ (at i : ℕ) (c : Passing s words ids limit from count at i) where
    here : length (left (span at from.end) s) ≡ from.end - at
    here = left-length s (span at from.end) (record { before = c.before; within = c.within })

    pub rows_done : count ≤ i → Runs (times count (row (id_row ids (words - ids) limit)) from.at (left from s)) from (count * (4 * words)) (Ok (record { at = at; end = from.end }))
    rows_done h =
        let z : count - i ≡ 0 = omega arith in
        let u = c.upto in
        let e : i ≡ count = omega arith in
        let p = rw e at c.passed in
        record {
          is = sym (c.rest ∙ rw (z, times_none (row (id_row ids (words - ids) limit)) at (left (span at from.end) s)));
          passes = (omega arith, c.before, refl);
        }

    module _ (h : i < count) (pos : 0 < words) (le : ids ≤ words) where
      some : 0 < count - i
      some = omega arith

      pub rows_cut : from.end - at < 4 * words
          → Runs (times count (row (id_row ids (words - ids) limit)) from.at (left from s)) from (count * (4 * words)) (Err (refusal_at 5 at))
      rows_cut k =
          let l = left (span at from.end) s in
          let short = row-short (id_row ids (words - ids) limit) at l (omega (arith, here, long words ids limit pos le)) in
          record { is = sym (c.rest ∙ rw (times-bad (row (id_row ids (words - ids) limit)) at l (count - i) 5 at some short)); passes = c.before }

      module _ (k : 4 * words ≤ from.end - at) (g : ℕ) (e : g ≡ first_bad (names limit) (words_of ids (left (record { at = at; end = from.end }) s))) where
        pub rows_bad : g < ids → Runs (times count (row (id_row ids (words - ids) limit)) from.at (left from s)) from (count * (4 * words)) (Err (refusal_at 7 (at + 4 * g)))
        rows_bad q =
            let l = left (span at from.end) s in
            let wrong = one words ids limit pos le at l (omega (arith, here)) ∙ row-bad limit ids (words - ids) at l _ (omega (arith, here)) (omega arith) in
            record { is = sym (c.rest ∙ rw (times-bad (row (id_row ids (words - ids) limit)) at l (count - i) 7 _ some wrong, ← e)); passes = omega arith }

        pub rows_next : ids ≤ g → g ≤ ids → Passing s words ids limit from count (at + 4 * words) (i + 1)
        rows_next q r =
            let l = left (span at from.end) s in
            let m : count - i ≡ suc (count - (i + 1)) = omega arith in
            let t : (i + 1) * (4 * words) ≡ i * (4 * words) + 4 * words = rw add-one (suc-mul i (4 * words)) in
            let p = c.passed in
            let good = one words ids limit pos le at l (omega (arith, here)) ∙ row-good limit ids (words - ids) at l _ (omega (arith, here)) (omega arith) in
            record {
              upto = omega arith;
              before = omega arith;
              within = c.within;
              passed = omega arith;
              rest = c.rest ∙ ap (λ (n : ℕ). ran_of from.end (rows_at s words ids limit from.end n at)) m ∙ rw (
                times-one (row (id_row ids (words - ids) limit)) at l (count - (i + 1)),
                good,
                left-drop s (span at from.end) (4 * words) (span (at + 4 * words) from.end) refl refl,
              ) (ran_before from.end (words_of words l) (times (count - (i + 1)) (row (id_row ids (words - ids) limit)) (at + 4 * words) (drop (4 * words) l)));
            }

pub ruleset rows = (rows_all, rows_done, rows_cut, rows_bad, rows_next)
