-- The laws of a turn, in the words of the code.
use mathlib.Core.Path.{◌≡◌, refl, ap, ap₂, sym, ◌∙◌}
use Prim.Native.Nat.{ℕ, zero, suc, ◌+◌, ◌-◌, ◌<◌, ◌≤◌}
use native.Mathlib.Omega.{arith}
use native.Mathlib.Numerals.{add-one}
use mathlib.Core.Bool.{Bool, true, false}
use mathlib.Core.List.{List, ◌∷◌}
use lib.ListN.{length}
use borrow.Author.Tests.{eq-eqb, ne_eqb}
use Rattle.wire.specs.Test.{if}
use Rattle.b3d_pieces_spec.specs.declared.Totals.{Totals}
use Rattle.b3d_pieces_spec.specs.declared.Open.{Open}
use Rattle.b3d_pieces_spec.specs.declared.Part.{Part}
use Rattle.b3d_pieces_spec.specs.declared.Part.TheVariants.{Text, Row, Skip}
use Rattle.b3d_pieces_spec.specs.Machine.{edge, enter, byte_in, step}
use Rattle.b3d_pieces_spec.specs.Good.{sum, Off}
use Rattle.b3d_pieces_spec.proofs.DepthLaws.{bound_most}
use Rattle.b3d_pieces_item_steps.specs.declared.Now.{Now}
use Rattle.b3d_pieces_item_steps.specs.declared.Now.TheVariants.{Live, Push, Pop, Fault, Over}
use Rattle.b3d_pieces_item_steps.specs.Nows.{state_with, GoodNow, NothingToEnter, Ready, Gives, edge_here, texted}
use Rattle.b3d_pieces_byte_steps.specs.Bytes.{came_of, spare_of}
use Rattle.b3d_pieces_step.specs.declared.Turned.{Turned}
use Rattle.b3d_pieces_step.specs.Turns.{stack_by, slot_of, pend_of, ReadyNow, Rows, TurnIs}

pub slot_none : (n r : ℕ) → n ≡ 0 → r ≡ 0 → r ≡ slot_of n
unfolding slot_of if
slot_none n r e q = rw (eq-eqb n 0 e) q

pub slot_some : (n r : ℕ) → (n ≡ 0 → ⊥) → r ≡ n - 1 → r ≡ slot_of n
unfolding slot_of if
slot_some n r e q = rw (ne_eqb n 0 e) q

pub ruleset slot_laws = (slot_none, slot_some)

slot_suc : (n : ℕ) → slot_of (suc n) ≡ n
slot_suc n = let e : n ≡ suc n - 1 = omega arith in sym (slot_some (suc n) n (λ z. omega arith) e)

slot_zero : slot_of 0 ≡ 0
slot_zero = sym (slot_none 0 0 refl refl)

-- ---- rows

pub stack-ext : (rs rs' : ℕ → Open) (n : ℕ) → ((j : ℕ) → j < n → rs' j ≡ rs j) → stack_by rs' n ≡ stack_by rs n
stack-ext rs rs' zero h = refl
stack-ext rs rs' (suc n) h = ap₂ ◌∷◌ (h n (omega arith)) (stack-ext rs rs' n (λ j l. h j (omega arith)))

pub stack-length : (rs : ℕ → Open) (n : ℕ) → length (stack_by rs n) ≡ n
stack-length rs zero = refl
stack-length rs (suc n) = ap suc (stack-length rs n)

-- the record lent is written back
pub same-stack : (rs rs' : ℕ → Open) (n p : ℕ) (rec : Open) → p ≡ slot_of n → ((n ≡ 0 → ⊥) → rs (n - 1) ≡ rec) → rs' p ≡ rec → ((j : ℕ) → j < p → rs' j ≡ rs j) → stack_by rs' n ≡ stack_by rs n
same-stack rs rs' zero p rec e t w o = refl
same-stack rs rs' (suc n) p rec e t w o =
    let q = e ∙ slot_suc n in
    let m : suc n - 1 ≡ n = omega arith in
    let a : rs' n ≡ rec = rw q at w in
    let b : rs n ≡ rec = rw m at (t (λ z. omega arith)) in
    ap₂ ◌∷◌ (a ∙ sym b) (stack-ext rs rs' n (λ j l. o j (omega arith)))

pub stack_pop : (rs : ℕ → Open) (n : ℕ) (rec : Open) → (n ≡ 0 → ⊥) → rs (n - 1) ≡ rec → stack_by rs n ≡ rec ∷ stack_by rs (n - 1)
stack_pop rs zero rec z e = absurd (z refl)
stack_pop rs (suc n) rec z e =
    let m : suc n - 1 ≡ n = omega arith in
    let b : rs n ≡ rec = rw m at e in
    rw (m, b)

stack_push : (rs : ℕ → Open) (n : ℕ) → stack_by rs (n + 1) ≡ rs n ∷ stack_by rs n
stack_push rs n = rw (add-one n)

pub slot_most : (n p : ℕ) → p ≡ slot_of n → n ≤ 18 → p ≤ 18
slot_most zero p e h = let q = e ∙ slot_zero in omega arith
slot_most (suc n) p e h = let q = e ∙ slot_suc n in omega arith

calm_pend : (x : Now) (n : ℕ) → NothingToEnter x → pend_of x n ≤ n + 1
calm_pend (Live at m g f) n c = omega arith
calm_pend (Push at g f o) n c = absurd c
calm_pend (Pop at g) n c = omega arith
calm_pend (Fault m p) n c = omega arith
calm_pend (Over g) n c = omega arith

pub none : {B : Type 0} → ◌≡◌ {A = Bool} false true → B
none e = let z : ◌≡◌ {A = ℕ} 0 1 = cc in absurd (omega arith)

-- ---- bytes

pub off_came : (m : Part) (at k : ℕ) → Off m at k → k ≡ came_of m at
unfolding came_of
off_came (Text fixed start) at k h = sym h
off_came (Row fixed start i j acc w) at k h = sym h.0
off_came (Skip until) at k h = sym h

pub came_spare : (m : Part) (at : ℕ) → came_of m at ≡ at + spare_of m
unfolding came_of spare_of
came_spare (Text fixed start) at = omega arith
came_spare (Row fixed start i j acc w) at = refl
came_spare (Skip until) at = omega arith

module _ (at : ℕ) (m : Part) (g : Totals) (f : Open) (n : ℕ) (rec : Open) (b : ℕ) (x : Now) (q : Gives (spare_of m + 1) (came_of m at + 1) g f x (byte_in m b at g f)) (p : ℕ) (ep : p ≡ slot_of n) (l : n ≤ 18) where
  abbrev on : Turned
  on = record { now = x; depth = n; put = p; rec = rec }

  live-turn : TurnIs (Live at m g f) n rec b on
  unfolding step
  live-turn = record {
    is = λ rs rs' o. ap (λ (R : List Open). state_with R x) (same-stack rs rs' n p rec ep o.top o.new o.old) ∙ q.is (stack_by rs n);
    good = λ rs rs' o k h.
        let e = off_came m at k h.1 in
        let s = came_spare m at in
        let u = h.0.1 in
        let v : GoodNow (came_of m at + 1) (stack_by rs n) x = q.good (stack_by rs n) h.0.0 (omega arith) in
        rw (same-stack rs rs' n p rec ep o.top o.new o.old, e) v;
    less = λ z. none z;
    put = slot_most n p ep l;
    deep = λ rs k h. l;
  }

module _ (at : ℕ) (g : Totals) (f o : Open) (n : ℕ) (rec : Open) (b : ℕ) (x : Now) (q : Gives 0 at g f x (enter (texted f.tag) at g f)) (l : n ≤ 18) where
  abbrev into : Turned
  into = record { now = x; depth = n + 1; put = n; rec = o }

  pushed : (rs rs' : ℕ → Open) → Rows rs rs' n rec into → stack_by rs' (n + 1) ≡ o ∷ stack_by rs n
  pushed rs rs' r = stack_push rs' n ∙ ap₂ ◌∷◌ r.new (stack-ext rs rs' n r.old)

  push_turn : TurnIs (Push at g f o) n rec b into
  push_turn = record {
    is = λ rs rs' r. ap (λ (R : List Open). state_with R x) (pushed rs rs' r) ∙ q.is (o ∷ stack_by rs n);
    good = λ rs rs' r k h.
        let e : at ≡ k + 0 = omega (arith, h.1) in
        let v : GoodNow at (o ∷ stack_by rs n) x = q.good (o ∷ stack_by rs n) h.0.0 (omega (arith, h.0.1)) in
        rw (pushed rs rs' r, sym e) v;
    less = λ z. let c = calm_pend x (n + 1) (q.calm refl) in omega arith;
    put = l;
    deep = λ rs k h. let y = bound_most f.tag f.level (suc (length (stack_by rs n))) h.0.0.0 in let z = stack-length rs n in omega arith;
  }

module _ (at : ℕ) (g : Totals) (n : ℕ) (rec : Open) (b : ℕ) (l : n ≤ 18) where
  end-turn : n ≡ 0 → TurnIs (Pop at g) n rec b (record { now = Over g; depth = 0; put = 0; rec = rec })
  unfolding edge
  end-turn z = record {
    is = λ rs rs' r. rw z;
    good = λ rs rs' r k h. let u = ended rs k h in omega arith;
    less = λ y. omega arith;
    put = omega arith;
    deep = λ rs k h. omega arith;
  }
    where
      ended : (rs : ℕ → Open) (k : ℕ) → GoodNow k (stack_by rs n) (Pop at g) → sum g ≤ k
      ended rs k h = omega (arith, h.0.1, h.1)

  module _ (x : Now) (q : Gives 0 at g rec x (edge_here at g rec)) (z : n ≡ 0 → ⊥) where
    abbrev out : Turned
    out = record { now = x; depth = n - 1; put = n - 1; rec = rec }

    pop_turn : TurnIs (Pop at g) n rec b out
    unfolding edge_here
    pop_turn = record {
      is = λ rs rs' r.
          ap (λ (R : List Open). state_with R x) (stack-ext rs rs' (n - 1) r.old)
          ∙ q.is (stack_by rs (n - 1))
          ∙ ap (edge at g) (sym (stack_pop rs n rec z (r.top z)));
      good = λ rs rs' r k h.
          let e : at ≡ k + 0 = omega (arith, h.1) in
          let d : (GoodNow k (rec ∷ stack_by rs (n - 1)) (Pop at g)) = rw (stack_pop rs n rec z (r.top z)) at h in
          let v : GoodNow at (stack_by rs (n - 1)) x = q.good (stack_by rs (n - 1)) d.0.0 (omega (arith, d.0.1)) in
          rw (stack-ext rs rs' (n - 1) r.old, sym e) v;
      less = λ y. let c = calm_pend x (n - 1) (q.calm refl) in omega arith;
      put = omega arith;
      deep = λ rs k h. omega arith;
    }

module _ (n : ℕ) (rec : Open) (b : ℕ) (p : ℕ) (ep : p ≡ slot_of n) (l : n ≤ 18) where
  fault-turn : (m k : ℕ) → TurnIs (Fault m k) n rec b (record { now = Fault m k; depth = n; put = p; rec = rec })
  unfolding step
  fault-turn m k = record { is = λ rs rs' r. refl; good = λ rs rs' r j h. tt; less = λ z. none z; put = slot_most n p ep l; deep = λ rs k h. l }

  over-turn : (g : Totals) → TurnIs (Over g) n rec b (record { now = Over g; depth = n; put = p; rec = rec })
  unfolding step
  over-turn g = record { is = λ rs rs' r. refl; good = λ rs rs' r j h. omega arith; less = λ z. none z; put = slot_most n p ep l; deep = λ rs k h. l }

-- ---- in the words of the code

module _ (now : Now) (n : ℕ) (rec : Open) (b : ℕ) (r : Turned) (h : n ≤ 18) where
  pub turn-live : (at : ℕ) (m : Part) (g : Totals) (f : Open) → now ≡ Live at m g f → (x : Now) → Gives (spare_of m + 1) (came_of m at + 1) g f x (byte_in m b at g f) → (p : ℕ) → p ≡ slot_of n
      → r ≡ record { now = x; depth = n; put = p; rec = rec } → TurnIs now n rec b r
  turn-live at m g f e x q p ep w = rw (e, w) (live-turn at m g f n rec b x q p ep h)

  pub turn_push : (at : ℕ) (g : Totals) (f o : Open) → now ≡ Push at g f o → (x : Now) → Gives 0 at g f x (enter (texted f.tag) at g f)
      → r ≡ record { now = x; depth = n + 1; put = n; rec = o } → TurnIs now n rec b r
  turn_push at g f o e x q w = rw (e, w) (push_turn at g f o n rec b x q h)

  pub turn_end : (at : ℕ) (g : Totals) → now ≡ Pop at g → n ≡ 0 → r ≡ record { now = Over g; depth = 0; put = 0; rec = rec } → TurnIs now n rec b r
  turn_end at g e z w = rw (e, w) (end-turn at g n rec b h z)

  pub turn_pop : (at : ℕ) (g : Totals) → now ≡ Pop at g → (n ≡ 0 → ⊥) → (x : Now) → Gives 0 at g rec x (edge_here at g rec) → r ≡ record { now = x; depth = n - 1; put = n - 1; rec = rec } → TurnIs now n rec b r
  turn_pop at g e z x q w = rw (e, w) (pop_turn at g n rec b h x q z)

  pub turn-fault : (m k : ℕ) → now ≡ Fault m k → (p : ℕ) → p ≡ slot_of n → r ≡ record { now = Fault m k; depth = n; put = p; rec = rec } → TurnIs now n rec b r
  turn-fault m k e p ep w = rw (e, w) (fault-turn n rec b p ep h m k)

  pub turn-over : (g : Totals) → now ≡ Over g → (p : ℕ) → p ≡ slot_of n → r ≡ record { now = Over g; depth = n; put = p; rec = rec } → TurnIs now n rec b r
  turn-over g e p ep w = rw (e, w) (over-turn n rec b p ep h g)

module _ (now : Now) (n : ℕ) (rec : Open) where
  pub asks_off : (at : ℕ) (m : Part) (g : Totals) (f : Open) → now ≡ Live at m g f → ReadyNow now n rec → Off m at (came_of m at)
  asks_off at m g f e h = let y : ReadyNow (Live at m g f) n rec = rw e at h in y.0

  pub asks_byte : (at : ℕ) (m : Part) (g : Totals) (f : Open) → now ≡ Live at m g f → ReadyNow now n rec → Ready 1 (came_of m at + 1) g f
  asks_byte at m g f e h = let y : ReadyNow (Live at m g f) n rec = rw e at h in y.1

  pub asks_place : (at : ℕ) (m : Part) (g : Totals) (f : Open) → now ≡ Live at m g f → ReadyNow now n rec → at ≤ 16777216
  asks_place at m g f e h = let y : ReadyNow (Live at m g f) n rec = rw e at h in y.2

  pub asks_push : (at : ℕ) (g : Totals) (f o : Open) → now ≡ Push at g f o → ReadyNow now n rec → Ready 0 at g f
  asks_push at g f o e h = rw e at h

  pub asks_pop : (at : ℕ) (g : Totals) → now ≡ Pop at g → (n ≡ 0 → ⊥) → ReadyNow now n rec → Ready 0 at g rec
  asks_pop at g e z h = let y : ReadyNow (Pop at g) n rec = rw e at h in y z

pub ruleset turn_laws = (asks_off, asks_byte, asks_place, asks_push, asks_pop, turn-live, turn_push, turn_end, turn_pop, turn-fault, turn-over)
