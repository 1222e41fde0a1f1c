-- How many entries of a kind: what an answer says of the reading, and so many items one after the other with their sum.
use Rattle.std.specs.Prelude.{Ok, Err}
use Rattle.std.specs.Prelude as std
use Rattle.layout.specs.declared.Refusal.{Refusal}
use Prim.Native.Nat.{ℕ, suc, ◌+◌, ◌-◌, ◌*◌, ◌<◌, ◌≤◌}
use native.Mathlib.Numerals.{add-one}
use native.Mathlib.Omega.{arith}
use native.Mathlib.Nat.{suc-mul, zero-mul}
use mathlib.Core.Path.{◌≡◌, refl, ap, sym, ◌∙◌}
use mathlib.Core.List.{List, [], ◌∷◌}
use lib.ListN.{length}
use Rattle.wire.specs.Cursors.{Inside, left}
use Rattle.wire.specs.declared.Cursor.{Cursor}
use Rattle.wire.proofs.LeftLaws.{left-drop}
use Rattle.layout.specs.Result.{Result, accept, reject}
use Rattle.layout.specs.Parts.{Step}
use Rattle.layout.specs.Counted.{times}
use Rattle.layout.proofs.AnswerLaws.{pair_inj}
use Rattle.layout.proofs.CountLaws.{Advances}
use Rattle.shared_counted_lists.specs.Sums.{summed_of, SumPasses, Sums}
use Rattle.shared_counted_lists.proofs.RunLaws.{same_step}
use Rattle.shared_counted_lists.proofs.WalkLaws.{mapped, Walk, walk_start, walk_none, walk_refused, walk-on}

-- ---- answers

pub summed_bad : {A : Type 0} (f : A → ℕ) (end : ℕ) (o : Result (Step A)) (e : Refusal) → Err e ≡ summed_of f end o → o ≡ reject e.number e.place
summed_bad f end (accept x) e q = let z : ◌≡◌ {A = ℕ} 0 1 = cc in absurd (omega arith)
summed_bad f end (reject n m) e q = let a : n ≡ e.number = cc in let b : m ≡ e.place = cc in rw (a, b)

pub summed_got : {A : Type 0} (f : A → ℕ) (end : ℕ) (o : Result (Step A)) (j : ℕ) (n : Cursor) → Ok (j, n) ≡ summed_of f end o
    → (x : Step A) × (o ≡ accept x) × (j ≡ f x.value) × (n ≡ record { at = x.place; end = end })
summed_got f end (accept x) j n q = let z = pair_inj j (f x.value) n (record { at = x.place; end = end }) q in (x, refl, z.0, z.1)
summed_got f end (reject m p) j n q = let z : ◌≡◌ {A = ℕ} 0 1 = cc in absurd (omega arith)

pub summed_place : {A : Type 0} (f : A → ℕ) (o : Result (Step A)) (c : Cursor) (k : ℕ) (r : std.Result (ℕ × Cursor) Refusal) → Sums f o c k r → (e : Refusal) → r ≡ Err e → e.place ≤ c.end
summed_place f o c k r b e q = rw q at b.passes

-- what was read up to n, with so many entries
pub record SumRead {A : Type 0} (count : A → ℕ) (s : List ℕ) (o : Result (Step A)) (j : ℕ) (n : Cursor) : Type 0 where
  pub value : A
  pub is : o ≡ accept (record { value = value; place = n.at; left = left n s })
  pub many : j ≡ count value

module _ {A : Type 0} (count : A → ℕ) (read : ℕ → List ℕ → Result (Step A)) (moves : Advances read) (s : List ℕ) (c : Cursor) (k : ℕ) (r : std.Result (ℕ × Cursor) Refusal)
    (v : Sums count (read c.at (left c s)) c k r) (j : ℕ) (n : Cursor) (w : r ≡ Ok (j, n)) where
  pub summed_passed : SumPasses c k (Ok (j, n))
  summed_passed = rw w at v.passes

  pub summed_read : SumRead count s (read c.at (left c s)) j n
  summed_read =
      let g = summed_got count c.end (read c.at (left c s)) j n (sym w ∙ v.is) in
      let x = g.0 in
      let m = moves c.at (left c s) x g.1 in
      let a : n.at ≡ x.place = ap (λ (z : Cursor). z.at) g.3 in
      let e : n.end ≡ c.end = ap (λ (z : Cursor). z.end) g.3 in
      let l : left n s ≡ x.left = left-drop s c m.by n (a ∙ m.to) e ∙ sym m.rest in
      record { value = x.value; is = g.1 ∙ same_step A x.value x.place n.at x.left (left n s) (sym a) (sym l); many = g.2 }

-- ---- items

-- how the entries that items hold are counted
pub record Adds {A : Type 0} (item : ℕ → List ℕ → Result (Step A)) (count : A → ℕ) (total : List A → ℕ) : Type 0 where
  pub moves : Advances item
  pub one : (a : A) (l : List A) → total (a ∷ l) ≡ count a + total l

-- i of n items have been passed, of at least k bytes each, up to c, with so many entries
pub record Summing {A : Type 0} (item : ℕ → List ℕ → Result (Step A)) (total : List A → ℕ) (k : ℕ) (s : List ℕ) (n : ℕ) (from c : Cursor) (i sum : ℕ) : Type 0 where
  pub upto : i ≤ n
  pub walk : Walk item (λ j l. j + total l) s n from c 0 (n - i) sum
  pub passed : from.at + i * k + 4 * sum ≤ c.at

from-none : {A : Type 0} (total : A → ℕ) (end : ℕ) (o : Result (Step A)) → summed_of total end o ≡ summed_of (λ j. j) end (mapped (λ a. 0 + total a) o)
from-none total end (accept x) = let e : total x.value ≡ 0 + total x.value = omega arith in ap (λ (j : ℕ). Ok (j, record { at = x.place; end = end })) e
from-none total end (reject n p) = refl

module _ {A : Type 0} (item : ℕ → List ℕ → Result (Step A)) (total : List A → ℕ) (k : ℕ) (s : List ℕ) (n : ℕ) (from : Cursor) where
  pub sums_start : Inside from (length s) → Summing item total k s n from from 0 0
  sums_start inside =
      let e : n - 0 ≡ n = omega arith in
      record { upto = omega arith; walk = rw e (walk_start item (λ j l. j + total l) s n from 0 inside); passed = omega (arith, zero-mul k) }

  module _ (c : Cursor) (i sum : ℕ) (w : Summing item total k s n from c i sum) where
    pub sums_done : total [] ≡ 0 → n ≤ i → Sums total (times n item from.at (left from s)) from (n * k) (Ok (sum, c))
    sums_done zero h =
        let inside = w.walk.inside in
        let u = w.upto in
        let e : i ≡ n = omega arith in
        let f = rw e at w.passed in
        let none : n - i ≤ 0 = omega arith in
        let z : sum + total [] ≡ sum = omega (arith, zero) in
        record {
          is = sym (from-none total from.end (times n item from.at (left from s)) ∙ rw (walk_none item (λ j l. j + total l) s n from c 0 (n - i) sum w.walk none, z, ← w.walk.same));
          passes = (omega arith, inside.before, w.walk.same);
        }

    module _ (h : i < n) (count : A → ℕ) (a : Adds item count total) (r : std.Result (ℕ × Cursor) Refusal) (b : Sums count (item c.at (left c s)) c k r) where
      pub sums_bad : (e : Refusal) → r ≡ Err e → Sums total (times n item from.at (left from s)) from (n * k) (Err e)
      sums_bad e q =
          let o = summed_bad count c.end (item c.at (left c s)) e (sym q ∙ b.is) in
          let m : e.place ≤ c.end = rw q at b.passes in
          let g = w.walk.same in
          let some : 0 < n - i = omega arith in
          record {
            is = sym (from-none total from.end (times n item from.at (left from s)) ∙ rw (walk_refused item (λ j l. j + total l) s n from c 0 (n - i) sum w.walk some e.number e.place o));
            passes = omega arith;
          }

      module _ (j : ℕ) (m : Cursor) (q : r ≡ Ok (j, m)) where
        went : SumPasses c k (Ok (j, m))
        went = rw q at b.passes

        turn : (i + 1) * k ≡ i * k + k
        turn = rw add-one (suc-mul i k)

        pub sums_room : sum + j ≤ c.end
        sums_room = let p = went in let f = w.passed in omega arith

        pub sums_next : Summing item total k s n from m (i + 1) (sum + j)
        sums_next =
            let p = went in
            let g = summed_got count c.end (item c.at (left c s)) j m (sym q ∙ b.is) in
            let x = g.0 in
            let at : m.at ≡ x.place = ap (λ (z : Cursor). z.at) g.3 in
            let e : sum + count x.value ≡ sum + j = omega (arith, g.2) in
            let f = w.passed in
            let t = turn in
            let some : 0 < n - i = omega arith in
            let less : n - i ≡ suc (n - (i + 1)) = omega arith in
            let one : (t : ℕ) (y : A) (l : List A) → t + total (y ∷ l) ≡ t + count y + total l = λ t y l. omega (arith, a.one y l) in
            record {
              upto = omega arith;
              walk = rw e at (walk-on item (λ j l. j + total l) s n from c 0 (n - i) sum w.walk some a.moves (λ t y. t + count y) one x g.1 m at p.2 p.1 (n - (i + 1)) less);
              passed = omega arith;
            }

pub ruleset sums = (sums_start, sums_done, sums_bad, sums_next)
