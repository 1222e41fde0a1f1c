-- What an answer says of the reading that it ends: where it leaves off, and what is left there.
use Rattle.std.specs.Prelude.{Ok, Err}
use Rattle.std.specs.Prelude as std
use Rattle.layout.specs.declared.Refusal.{Refusal}
use Prim.Native.Nat.{ℕ, ◌+◌, ◌≤◌}
use native.Mathlib.Omega.{arith}
use mathlib.Core.Path.{◌≡◌, refl, ap, sym, ◌∙◌}
use mathlib.Core.List.{List}
use lib.ListN.{length}
use Rattle.wire.specs.Cursors.{Inside, left}
use Rattle.wire.specs.declared.Cursor.{Cursor}
use Rattle.wire.proofs.LeftLaws.{left-drop}
use Rattle.layout.specs.Result.{Result, accept, reject, ◌>>=◌}
use Rattle.layout.specs.Parts.{Step}
use Rattle.layout.proofs.CountLaws.{Advances}
use Rattle.shared_counted_lists.specs.Runs.{ran_of, Passes, Runs}

-- what was read up to n, the end being c's
pub record Read {A : Type 0} (s : List ℕ) (o : Result (Step A)) (c n : Cursor) : Type 0 where
  pub value : A
  pub is : o ≡ accept (record { value = value; place = n.at; left = left n s })

pub ran_bad : {A : Type 0} (end : ℕ) (o : Result (Step A)) (e : Refusal) → ran_of end o ≡ Err e → o ≡ reject e.number e.place
ran_bad end (accept x) e q = let z : ◌≡◌ {A = ℕ} 0 1 = cc in absurd (omega arith)
ran_bad end (reject n m) e q = let a : n ≡ e.number = cc in let b : m ≡ e.place = cc in rw (a, b)

ran_got : {A : Type 0} (end : ℕ) (o : Result (Step A)) (n : Cursor) → ran_of end o ≡ Ok n → (x : Step A) × (o ≡ accept x) × (record { at = x.place; end = end } ≡ n)
ran_got end (accept x) n q = (x, refl, cc)
ran_got end (reject m p) n q = let z : ◌≡◌ {A = ℕ} 0 1 = cc in absurd (omega arith)

module _ {A : Type 0} (o : Result (Step A)) (c : Cursor) (k : ℕ) (r : std.Result Cursor Refusal) (v : Runs o c k r) where
  pub runs_bad : (e : Refusal) → r ≡ Err e → o ≡ reject e.number e.place
  runs_bad e w = ran_bad c.end o e (sym v.is ∙ w)

  pub runs_place : (e : Refusal) → r ≡ Err e → e.place ≤ c.end
  runs_place e w = rw w at v.passes

  module _ (n : Cursor) (w : r ≡ Ok n) where
    pub runs_passed : Passes c k (Ok n)
    runs_passed = rw w at v.passes

    pub runs_inside : (l : ℕ) → Inside c l → Inside n l
    runs_inside l i = let h = runs_passed in record { before = h.1; within = omega arith }

-- more bytes passed on the way
pub passes_then : (c n : Cursor) (k j : ℕ) (r : std.Result Cursor Refusal) → Passes c k (Ok n) → Passes n j r → Passes c (k + j) r
passes_then c n k j (Ok m) h p = (omega arith, p.1, p.2 ∙ h.2)
passes_then c n k j (Err e) h p = omega arith

-- another value does not change where a reading ends
pub ran_as : {A B : Type 0} (end : ℕ) (f : A → B) (o : Result (Step A)) → ran_of end (o >>= λ x. accept (record { value = f x.value; place = x.place; left = x.left })) ≡ ran_of end o
ran_as end f (accept x) = refl
ran_as end f (reject n p) = refl

pub same_step : (A : Type 0) (a : A) (p q : ℕ) (s t : List ℕ) → p ≡ q → s ≡ t → ◌≡◌ {A = Result (Step A)} (accept (record { value = a; place = p; left = s })) (accept (record { value = a; place = q; left = t }))
same_step A a p q s t e f = rw (e, f)

-- the same of a reading at a cursor
module _ {A : Type 0} (read : ℕ → List ℕ → Result (Step A)) (moves : Advances read) (s : List ℕ) (c : Cursor) (inside : Inside c (length s)) (k : ℕ) (r : std.Result Cursor Refusal)
    (v : Runs (read c.at (left c s)) c k r) (n : Cursor) (w : r ≡ Ok n) where
  pub runs_read : Read s (read c.at (left c s)) c n
  runs_read =
      let g = ran_got c.end (read c.at (left c s)) n (sym v.is ∙ w) in
      let x = g.0 in
      let m = moves c.at (left c s) x g.1 in
      let a : n.at ≡ x.place = ap (λ (z : Cursor). z.at) (sym g.2) in
      let e : n.end ≡ c.end = ap (λ (z : Cursor). z.end) (sym g.2) in
      let l : left n s ≡ x.left = left-drop s c m.by n (a ∙ m.to) e ∙ sym m.rest in
      record { value = x.value; is = g.1 ∙ same_step A x.value x.place n.at x.left (left n s) (sym a) (sym l) }

pub ruleset runs = (runs_inside, runs_place)
