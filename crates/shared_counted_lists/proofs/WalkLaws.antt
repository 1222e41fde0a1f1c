-- So many items one after the other, with a total of what they hold: those that a loop has passed, and those that are left.
use Prim.Native.Nat.{ℕ, suc, ◌<◌, ◌≤◌}
use native.Mathlib.Omega.{arith}
use mathlib.Core.Path.{◌≡◌, refl, ap, sym, ◌∙◌}
use mathlib.Core.List.{List, [], ◌∷◌}
use lib.ListN.{length}
use Rattle.wire.specs.Cursors.{Inside, left}
use Rattle.wire.specs.declared.Cursor.{Cursor}
use Rattle.wire.proofs.LeftLaws.{left-drop}
use Rattle.layout.specs.Result.{Result, accept, reject, ◌>>=◌}
use Rattle.layout.specs.Parts.{Step}
use Rattle.layout.specs.Counted.{before, times}
use Rattle.layout.proofs.CountLaws.{Advances, times_none, times-one, times-bad}

-- the same reading with another value
abbrev pub mapped : {A B : Type 0} → (A → B) → Result (Step A) → Result (Step B)
mapped f (accept x) = accept (record { value = f x.value; place = x.place; left = x.left })
mapped f (reject n p) = reject n p

module _ {A T : Type 0} (item : ℕ → List ℕ → Result (Step A)) (after : T → List A → T) where
  -- items have been passed up to c, and make a total; so many are left. `after` is the total of items behind a total
  pub record Walk (s : List ℕ) (n : ℕ) (from c : Cursor) (start : T) (more : ℕ) (total : T) : Type 0 where
    pub inside : Inside c (length s)
    pub same : c.end ≡ from.end
    pub rest : mapped (after start) (times n item from.at (left from s)) ≡ mapped (after total) (times more item c.at (left c s))

  pub walk_start : (s : List ℕ) (n : ℕ) (from : Cursor) (start : T) → Inside from (length s) → Walk s n from from start n start
  walk_start s n from start i = record { inside = i; same = refl; rest = refl }

  module _ (s : List ℕ) (n : ℕ) (from c : Cursor) (start : T) (more : ℕ) (total : T) (w : Walk s n from c start more total) where
    pub walk_none : more ≤ 0 → mapped (after start) (times n item from.at (left from s)) ≡ accept (record { value = after total []; place = c.at; left = left c s })
    walk_none h = let e : more ≡ 0 = omega arith in w.rest ∙ rw (e, times_none item c.at (left c s))

    module _ (h : 0 < more) where
      pub walk_refused : (e p : ℕ) → item c.at (left c s) ≡ reject e p → mapped (after start) (times n item from.at (left from s)) ≡ reject e p
      walk_refused e p q = w.rest ∙ rw (times-bad item c.at (left c s) more e p h q)

      module _ (moves : Advances item) (add : T → A → T) (one : (t : T) (a : A) (l : List A) → after t (a ∷ l) ≡ after (add t a) l) where
        behind : (a : A) (o : Result (Step (List A))) → mapped (after total) (o >>= λ l. accept (before a l)) ≡ mapped (after (add total a)) o
        unfolding before
        behind a (accept x) = ap (λ (t : T). accept (record { value = t; place = x.place; left = x.left })) (one total a x.value)
        behind a (reject e p) = refl

        pub walk-on : (x : Step A) → item c.at (left c s) ≡ accept x → (m : Cursor) → m.at ≡ x.place → m.end ≡ c.end → m.at ≤ m.end
            → (others : ℕ) → more ≡ suc others → Walk s n from m start others (add total x.value)
        walk-on x q m at end room others k =
            let i = w.inside in
            let v = moves c.at (left c s) x q in
            let l : left m s ≡ x.left = left-drop s c v.by m (at ∙ v.to) end ∙ sym v.rest in
            let first : mapped (after total) (times (suc others) item c.at (left c s)) ≡ mapped (after (add total x.value)) (times others item x.place x.left) = rw (times-one item c.at (left c s) others, q) (behind x.value (times others item x.place x.left)) in
            record {
              inside = record { before = room; within = omega arith };
              same = end ∙ w.same;
              rest = w.rest ∙ ap (λ (j : ℕ). mapped (after total) (times j item c.at (left c s))) k
                  ∙ first
                  ∙ rw (l, at);
            }
