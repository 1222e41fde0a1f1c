-- All that a proof of a loop over a piece's bytes asks of a turn, over any row: a row is known by the record at each place.
use mathlib.Core.Path.{◌≡◌, refl, ap, sym, subst, ◌∙◌}
use Prim.Native.Nat.{ℕ, ◌+◌, ◌-◌, ◌*◌, ◌<◌, ◌≤◌}
use native.Mathlib.Omega.{arith}
use native.Mathlib.Numerals.{add-one}
use mathlib.Core.Bool.{Bool, true, false}
use mathlib.Core.List.{List, ◌∷◌}
use lib.ListN.{length, get_or, drop, drop_of_length-le}
use lib.Seq.{drop-cons}
use lib.Dec.{ltb}
use borrow.Author.Tests.{ltb-true, ltb-false}
use Rattle.b3d_pieces_spec.specs.declared.Open.{Open}
use Rattle.b3d_pieces_spec.specs.Close.{Held, byte, piece}
use Rattle.b3d_pieces_spec.specs.Good.{Off}
use Rattle.b3d_pieces_item_steps.specs.declared.Now.{Now}
use Rattle.b3d_pieces_item_steps.specs.declared.Now.TheVariants.{Live, Push, Pop, Fault, Over}
use Rattle.b3d_pieces_item_steps.specs.Nows.{GoodNow}
use Rattle.b3d_pieces_step.specs.Turns.{stack_by, slot_of, pends, pend_of, ReadyNow}
use Rattle.b3d_pieces_step.proofs.TurnLaws.{stack_pop, off_came, came_spare, none, slot_some}
use Rattle.b3d_pieces_judge_step.specs.declared.Judge.{Judge}
use Rattle.b3d_pieces_judge_step.specs.Takes.{held_of, GoodJudge, TakeReady, Changes, after_take}
use Rattle.b3d_pieces_judge_step.specs.declared.Turn.{Turn}
use Rattle.b3d_pieces_judge_step.specs.Loops.{Begins, next_at, StepIs, wait, left_of, rest_at, rest_of, Going}

-- ---- what is good is ready for a turn

ready_now : (now : Now) (k n : ℕ) (rec : Open) (rs : ℕ → Open) → GoodNow k (stack_by rs n) now → k ≤ 16777217 → (pends now ≡ false → k ≤ 16777216) → ((n ≡ 0 → ⊥) → rs (n - 1) ≡ rec) → ReadyNow now n rec
ready_now (Live at m g f) k n rec rs h l u t =
    let e = off_came m at k h.1 in
    let s = came_spare m at in
    let v = u refl in
    let w = h.0.1 in
    (subst (λ (x : ℕ). Off m at x) e h.1, record { few = omega arith; place = omega arith; words = h.0.0.1 }, omega arith)
ready_now (Push at g f o) k n rec rs h l u t = let w = h.0.1 in let e = h.1 in record { few = omega arith; place = omega arith; words = h.0.0.1 }
ready_now (Pop at g) k n rec rs h l u t = λ z.
    let d : GoodNow k (rec ∷ stack_by rs (n - 1)) (Pop at g) = rw (stack_pop rs n rec z (t z)) at h in
    let w = d.0.1 in
    let e = d.1 in
    record { few = omega arith; place = omega arith; words = d.0.0.1 }
ready_now (Fault m p) k n rec rs h l u t = tt
ready_now (Over g) k n rec rs h l u t = tt

pub good_ready : (j : Judge) (rs : ℕ → Open) (rec : Open) → GoodJudge j rs → ((j.depth ≡ 0 → ⊥) → rs (j.depth - 1) ≡ rec) → TakeReady j rec
good_ready j rs rec g t = record {
  size = g.size;
  depth = g.depth;
  calm = g.calm;
  head = g.head;
  wait = λ e. ready_now j.now j.size j.depth rec rs (g.body (large e)) g.size (λ z. none (sym z ∙ e)) t;
  byte = λ e l m. ready_now j.now j.size j.depth rec rs (g.body l) g.size (λ z. m) t;
}
  where
    large : pends j.now ≡ true → 8 ≤ j.size
    large e = go (ltb j.size 8) refl
      where
        go : (x : Bool) → ltb j.size 8 ≡ x → 8 ≤ j.size
        go true y = none (sym (g.calm (ltb-true j.size 8 y)) ∙ e)
        go false y = ltb-false j.size 8 y

-- ---- the number that falls at each turn

pend_some : (x : Now) (n : ℕ) → pends x ≡ true → 0 < pend_of x n
pend_some (Live at m g f) n e = none e
pend_some (Push at g f o) n e = omega arith
pend_some (Pop at g) n e = omega arith
pend_some (Fault m p) n e = none e
pend_some (Over g) n e = none e

pend_most : (x : Now) (n : ℕ) → pend_of x n ≤ n + 3
pend_most (Live at m g f) n = omega arith
pend_most (Push at g f o) n = omega arith
pend_most (Pop at g) n = omega arith
pend_most (Fault m p) n = omega arith
pend_most (Over g) n = omega arith

falls : (p q : Bool) (e a x y : ℕ) → a < e → (p ≡ true → 0 < x) → (p ≡ true → y < x) → y ≤ 21 → 32 * (e - next_at q a) + wait q y < 32 * (e - a) + wait p x
falls true true e a x y l u v m = let w = v refl in omega arith
falls true false e a x y l u v m = let w = u refl in omega arith
falls false true e a x y l u v m = omega arith
falls false false e a x y l u v m = omega arith

-- ---- what is still to come

get-top : (n g : ℕ) (rs : ℕ → Open) (rec : Open) → g ≡ slot_of n → rec ≡ rs g → (n ≡ 0 → ⊥) → rs (n - 1) ≡ rec
get-top n g rs rec e r z = sym (r ∙ ap rs (e ∙ sym (slot_some n (n - 1) z refl)))

rest-next : (q : Bool) (a : ℕ) → rest_at q (next_at q a) ≡ a + 1
rest-next true a = refl
rest-next false a = refl

took-rest : (pt : Bool) (h : Held) (b a : ℕ) (p : List ℕ) → a < length p → b ≡ get_or p a 0 → piece h (drop (rest_at pt a) p) ≡ piece (after_take pt h b) (drop (a + 1) p)
took-rest true h b a p l e = refl
took-rest false h b a p l e = rw (drop-cons p a 0 l) (rw (← e, add-one a))

module _ (t : Turn) (rs rs' : ℕ → Open) (p : List ℕ) (g : Going t rs p) (l : t.at < t.end) (rec : Open) (er : rec ≡ rs t.get) where
  top-is : (t.judge.depth ≡ 0 → ⊥) → rs (t.judge.depth - 1) ≡ rec
  top-is z = get-top t.judge.depth t.get rs rec g.get er z

  pub turn_ready : TakeReady t.judge rec
  turn_ready = good_ready t.judge rs rec g.good top-is

  module _ (b : ℕ) (eb : b ≡ get_or p t.at 0) (r : Turn) (s : StepIs t rec b r) (new : rs' r.put ≡ r.rec) (old : (j : ℕ) → j < r.put → rs' j ≡ rs j) where
    changes : Changes rs rs' t.judge.depth rec r.put r.rec
    changes = record { top = top-is; new = new; old = old }

    next-good : GoodJudge r.judge rs'
    next-good = s.took.good rs rs' changes g.good

    pub turn-less : left_of r < left_of t
    unfolding left_of
    turn-less =
        let m = pend_most r.judge.now r.judge.depth in
        let d = next-good.depth in
        rw (s.at, s.end) (falls (pends t.judge.now) (pends r.judge.now) t.end t.at (pend_of t.judge.now t.judge.depth) (pend_of r.judge.now r.judge.depth) l (pend_some t.judge.now t.judge.depth) s.took.less (omega arith))

    pub turn-going : Going r rs' p
    turn-going =
        let e = s.end in
        let ge = g.end in
        record {
          good = next-good;
          get = s.get;
          end = s.end ∙ g.end;
          within = rw (s.at, s.end) (next-most (pends r.judge.now));
          calm = λ z. rw (s.at, s.end) (next-some (pends r.judge.now) z);
        }
      where
        next-most : (q : Bool) → next_at q t.at ≤ t.end
        next-most true = omega arith
        next-most false = omega arith

        next-some : (q : Bool) → q ≡ true → next_at q t.at < t.end
        next-some true z = l
        next-some false z = none z

    pub turn-rest : rest_of r rs' p ≡ rest_of t rs p
    unfolding rest_of
    turn-rest =
        let ge = g.end in
        ap (λ (x : ℕ). piece (held_of r.judge rs') (drop (rest_at (pends r.judge.now) x) p)) s.at
        ∙ ap (λ (x : ℕ). piece (held_of r.judge rs') (drop x p)) (rest-next (pends r.judge.now) t.at)
        ∙ ap (λ (x : Held). piece x (drop (t.at + 1) p)) (s.took.is rs rs' changes)
        ∙ sym (took-rest (pends t.judge.now) (held_of t.judge rs) b t.at p (omega arith) eb)

-- ---- at first, and at the end

module _ (j : Judge) (rs : ℕ → Open) (p : List ℕ) (t : Turn) (b : Begins j (length p) t) (c : pends j.now ≡ false) where
  pub first-going : GoodJudge j rs → Going t rs p
  first-going g = record {
    good = subst (λ (x : Judge). GoodJudge x rs) (sym b.judge) g;
    get = b.get ∙ ap (λ (x : Judge). slot_of x.depth) (sym b.judge);
    end = b.end;
    within = let a = b.at in omega arith;
    calm = λ z. none (sym c ∙ ap (λ (x : Judge). pends x.now) (sym b.judge) ∙ z);
  }

  pub first_rest : rest_of t rs p ≡ piece (held_of j rs) p
  unfolding rest_of
  first_rest = rw (b.judge, b.at, c)

pub last_rest : (t : Turn) (rs : ℕ → Open) (p : List ℕ) → Going t rs p → t.end ≤ t.at → rest_of t rs p ≡ held_of t.judge rs
unfolding rest_of
last_rest t rs p g h = rw (drop_of_length-le p {i = rest_at (pends t.judge.now) t.at} (far (pends t.judge.now)))
  where
    far : (q : Bool) → length p ≤ rest_at q t.at
    far true = let e = g.end in omega arith
    far false = let e = g.end in omega arith

pub last-calm : (t : Turn) (rs : ℕ → Open) (p : List ℕ) → Going t rs p → t.end ≤ t.at → pends t.judge.now ≡ false
last-calm t rs p g h = go (pends t.judge.now) refl
  where
    go : (q : Bool) → pends t.judge.now ≡ q → pends t.judge.now ≡ false
    go true e = absurd (let l = g.calm e in omega arith)
    go false e = e

pub last_less : (t r : Turn) (rs : ℕ → Open) (p : List ℕ) → Going r rs p → r.end ≤ r.at → t.at < t.end → left_of r < left_of t
unfolding left_of
last_less t r rs p g h l = rw (last-calm r rs p g h) (omega arith)
