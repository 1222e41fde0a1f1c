-- From state to state: a law for each need.
use mathlib.Core.Path.{◌≡◌, refl, ap, sym, subst, ◌∙◌}
use Prim.Native.Nat.{ℕ, ◌<◌, ◌≤◌}
use native.Mathlib.Omega.{arith}
use mathlib.Core.Bool.{Bool, true, false, not}
use mathlib.Core.List.{List}
use lib.ListN.{length}
use lib.Dec.{T}
use Rattle.b3d_rows_nodes.specs.declared.NextCursor.{NextCursor}
use Rattle.b3d_rows_nodes.specs.declared.RowCursor.{RowCursor}
use Rattle.b3d_rows.specs.NextRow.{RowCursorAt, Begins, RowNextIs, RowNexts}
use Rattle.b3d_rows_valid_items.specs.Decides.{Decides}
use Rattle.b3d_rows_valid_items.proofs.ItemTestLaws.{alike, told-yes, told-no}
use Rattle.b3d_rows_state.specs.declared.RowState.{RowState}
use Rattle.b3d_rows_state.specs.declared.RowGiven.{RowGiven}
use Rattle.b3d_rows_state.specs.States.{cursor_of, state_of, no_state, CursorOf, CanGoOn, Startable, StateStarts, GivenIs, StateNexts}

-- ---- the start

module _ (k : ℕ) (s : List ℕ) (r : RowState) where
  nothing : (Startable k s → ⊥) → r ≡ no_state → StateStarts k s r
  nothing h e = record { starts = λ g. absurd (h g); none = λ _. e }

  pub start-low : k < 1 → r ≡ no_state → StateStarts k s r
  start-low h = nothing (λ g. omega (arith, g.low))

  pub start-high : 10 < k → r ≡ no_state → StateStarts k s r
  start-high h = nothing (λ g. omega (arith, g.high))

  pub start-short : length s < 12 → r ≡ no_state → StateStarts k s r
  start-short h = nothing (λ g. omega (arith, g.long))

  pub start_large : 16777216 < length s → r ≡ no_state → StateStarts k s r
  start_large h = nothing (λ g. omega (arith, g.small))

  pub start_is : 1 ≤ k → k ≤ 10 → 12 ≤ length s → length s ≤ 16777216 → (x : RowCursor) → Begins k s x → r ≡ state_of k x → StateStarts k s r
  start_is lo hi long small x b e =
      subst (StateStarts k s) (sym e)
      (record {
        starts = λ g. record { table_is = refl; can = record { low = lo; high = hi; small = small; at = b.at }; rows = b.rows };
        none = λ n. absurd (n (record { low = lo; high = hi; long = long; small = small }));
      })

pub ruleset start_laws = (start-low, start-high, start-short, start_large, start_is)

-- ---- the test

module _ (s : List ℕ) (t : RowState) where
  module _ (x : RowCursor) (c : CursorOf t x) where
    pub test_is : 1 ≤ t.table → t.table ≤ 10 → length s ≤ 16777216 → (r : Bool) → Decides (RowCursorAt t.table s x) r → Decides (CanGoOn s t) r
    test_is lo hi small r u =
        alike r u
        (λ v. record { low = lo; high = hi; small = small; at = subst (RowCursorAt t.table s) c.is v })
        (λ v. subst (RowCursorAt t.table s) (sym c.is) v.at)

-- ---- the answer

module _ (t : RowState) (n : NextCursor) (r : RowGiven) where
  pub given-none : not n.given ≡ true → r ≡ record { number = 0; place = 0; rows = 0; state = t } → GivenIs t n r
  given-none h e = record { row = λ q. absurd (clash n.given h q); none = λ q. e }
    where
      clash : (b : Bool) → not b ≡ true → b ≡ true → ⊥
      clash true h q = subst T (sym h) tt
      clash false h q = subst T (sym q) tt

  pub given-row : not n.given ≡ false → (x : RowState) → x ≡ state_of t.table n.cursor → r ≡ record { number = 0; place = 0; rows = 1; state = x } → GivenIs t n r
  given-row h x ex e = record { row = λ q. rw ex at e; none = λ q. absurd (clash n.given h q) }
    where
      clash : (b : Bool) → not b ≡ false → b ≡ false → ⊥
      clash true h q = subst T q tt
      clash false h q = subst T h tt

pub ruleset given_laws = (given-none, given-row)

-- ---- the next row

module _ (s : List ℕ) (t : RowState) where
  pub next-short : (row : List ℕ) → length row < 42 → (r : RowGiven) → r ≡ record { number = 11; place = 42; rows = 0; state = t } → StateNexts s t row row r
  next-short row h r e = record {
    short = λ _. record { answer = e; same = refl };
    other = λ l. absurd (omega arith);
    row_comes = λ l. absurd (omega arith);
    none = λ l. absurd (omega arith);
  }

  module _ (ok : Bool) (u : Decides (CanGoOn s t) ok) where
    pub next-other : not ok ≡ true → (row : List ℕ) → 42 ≤ length row → (r : RowGiven) → r ≡ record { number = 15; place = 0; rows = 0; state = t } → StateNexts s t row row r
    next-other z row h r e = record {
      short = λ l. absurd (omega arith);
      other = λ _ _. record { answer = e; same = refl };
      row_comes = λ _ g. absurd (told-no ok u z g);
      none = λ _ g. absurd (told-no ok u z g);
    }

    module _ (z : not ok ≡ false) where
      can : CanGoOn s t
      can = told-yes ok u z

      pub next-high : t.table ≤ 10
      next-high = can.high

      module _ (x : RowCursor) (c : CursorOf t x) where
        pub next-at : RowCursorAt t.table s x
        next-at = subst (RowCursorAt t.table s) (sym c.is) can.at

        pub next-is : (row put : List ℕ) → 42 ≤ length row → (n : NextCursor) → RowNexts t.table s x row put n → (r : RowGiven) → GivenIs t n r → StateNexts s t row put r
        next-is row put h n m r g = go n.given refl (subst (λ (y : RowCursor). RowNextIs t.table s y row put n.given n.cursor) c.is m.is)
          where
            go : (b : Bool) → n.given ≡ b → RowNextIs t.table s (cursor_of t) row put b n.cursor → StateNexts s t row put r
            go true q v =
                subst (StateNexts s t row put) (sym (g.row q))
                (record {
                  short = λ l. absurd (omega arith);
                  other = λ _ d. absurd (d can);
                  row_comes = λ _ _ _. record {
                    number_is = refl;
                    place_is = refl;
                    rows_are = refl;
                    comes = v.comes;
                    can = record { low = can.low; high = can.high; small = can.small; at = v.at };
                    table_is = refl;
                  };
                  none = λ _ _ e. absurd (omega (arith, ap length (sym v.comes.is ∙ e)));
                })
            go false q v =
                subst (StateNexts s t row put) (sym (g.none q))
                (record {
                  short = λ l. absurd (omega arith);
                  other = λ _ d. absurd (d can);
                  row_comes = λ _ _ d. absurd (d v.ended.none);
                  none = λ _ _ _. record { answer = refl; same = v.ended.same };
                })

pub ruleset next_laws = (next-short, next-other, next-high, next-at, next-is)
