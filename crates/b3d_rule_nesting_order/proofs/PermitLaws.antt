-- What the rule says of a tag is what it says of its entry in the table; a law for each way through `is_between` and `is_permitted`.
use Rattle.std.specs.Prelude.{Some, None}
use Rattle.std.specs.Prelude as std
use mathlib.Core.Path.{◌≡◌, refl, ap, sym, ◌∙◌}
use Prim.Native.Nat.{ℕ, ◌<◌, ◌≤◌}
use native.Mathlib.Omega.{arith}
use mathlib.Core.Bool.{Bool, true, false, not, ◌||◌}
use mathlib.Core.Option.{Option, none, some}
use mathlib.Core.List.{List, [], ◌∷◌, map}
use lib.Dec.{ltb}
use lib.ListN.{get_or}
use borrow.Author.Tests.{lt-ltb, le-ltb, eq-eqb, ne_eqb}
use Rattle.wire.specs.Test.{if}
use Rattle.b3d_spec.specs.declared.Tag.{Tag}
use Rattle.b3d_spec.specs.Tags.{is, tag_number}
use Rattle.b3d_spec.specs.Nesting.{entry, nesting, required_between, next, needed, repeats, may, after}
use Rattle.b3d_spec.specs.Nesting as nest
use Rattle.b3d_spec.proofs.Files.TagCodeLaws.{by-tag}
use Rattle.b3d_rule_nesting_table.specs.declared.Entry.{Entry}
use Rattle.b3d_rule_nesting_order.specs.declared.Reached.{Reached}
use Rattle.b3d_rule_nesting_table.specs.Table.{tags, denied, entry_in, entry_for, nesting_table, entry_at}
use Rattle.b3d_rule_nesting_order.specs.Turns.{between, reached_of, permit_of}
use Rattle.b3d_rule_nesting_lookup.specs.Entries.{entry_of}
use Rattle.b3d_rule_nesting_order.specs.ByTable.{permitted_by, after_by}

-- ---- an entry that must stand, between two turns

module _ (e : Entry) (lo hi : ℕ) where
  pub between-late : e.must ≡ true → lo < e.turn → ltb e.turn hi ≡ between e lo hi
  between-late m h = rw (m, lt-ltb lo e.turn h)

  pub between_early : e.must ≡ true → e.turn ≤ lo → false ≡ between e lo hi
  between_early m h = rw (m, le-ltb lo e.turn h)

  pub between_free : e.must ≡ false → false ≡ between e lo hi
  between_free m = rw m

pub ruleset between_laws = (between-late, between_early, between_free)

-- ---- the entry of two tags

column : {A : Type 0} (f : Tag → A) (d : A) (t : Tag) → get_or (map f tags) (tag_number t) d ≡ f t
column f d t = by-tag (λ t. get_or (map f tags) (tag_number t) d ≡ f t) (refl, refl, refl, refl, refl, refl, refl, refl, refl, refl) t

pub entry_is : (k t : Tag) → entry_of k t ≡ entry_for k t
unfolding entry_at nesting_table
entry_is k t = ap (λ (l : List Entry). get_or l (tag_number t) denied) (column (λ k. map (λ t. entry_for k t) tags) [] k) ∙ column (λ t. entry_for k t) denied t

-- ---- the rule by an entry

abbrev pub next_by : List nest.Entry → nest.Reached → Entry → Option nest.Reached
next_by all r e = if (permitted_by (required_between all r.turn e.turn) r e) (some (after_by r e)) none

or_false : (b : Bool) → b || false ≡ b
or_false true = refl
or_false false = refl

pub next-by : (all l : List nest.Entry) (r : nest.Reached) (t : Tag) → next all l r t ≡ next_by all r (entry_in l t)
unfolding next entry_in if
next-by all [] r t = refl
next-by all (entry k turn often ∷ l) r t = go (is t k) (next-by all l r t)
  where
    go : (b : Bool) → next all l r t ≡ next_by all r (entry_in l t) → if b (if (may all r turn often) (some (after r turn often)) none) (next all l r t)
        ≡ next_by all r (if b (record { allowed = true; turn = turn; must = needed often; again = repeats often }) (entry_in l t))
    go true h = refl
    go false h = h

-- ---- the ways of `is_permitted`

module _ (k t : Tag) (e : Entry) (here : e ≡ entry_of k t) (r : Reached) where
  abbrev Right : std.Option Reached → Type 0
  Right x = x ≡ permit_of (next (nesting k) (nesting k) (reached_of r) t)

  right-by-entry : (x : std.Option Reached) → x ≡ permit_of (next_by (nesting k) (reached_of r) e) → Right x
  right-by-entry x h = h ∙ ap (λ (y : Entry). permit_of (next_by (nesting k) (reached_of r) y)) (here ∙ entry_is k t) ∙ ap permit_of (sym (next-by (nesting k) (nesting k) (reached_of r) t))

  pub stand_never : e.allowed ≡ false → Right None
  unfolding if
  stand_never a = right-by-entry None (rw a)

  module _ (a : e.allowed ≡ true) where
    module _ (l : r.turn < e.turn) (b : Bool) (o : b ≡ required_between (nesting k) r.turn e.turn) where
      pub stand_owed : b ≡ true → Right None
      unfolding if
      stand_owed y = right-by-entry None (rw (a, lt-ltb r.turn e.turn l, ← o, y, ne_eqb r.turn e.turn (λ q. omega arith)))

      pub stand-later : b ≡ false → Right (Some (record { turn = e.turn; spent = not e.again }))
      unfolding if
      stand-later y = right-by-entry (Some (record { turn = e.turn; spent = not e.again })) (rw (a, lt-ltb r.turn e.turn l, ← o, y, ne_eqb r.turn e.turn (λ q. omega arith)))

    pub stand-past : e.turn < r.turn → Right None
    unfolding if
    stand-past l = right-by-entry None (rw (a, le-ltb r.turn e.turn (omega arith), ne_eqb r.turn e.turn (λ q. omega arith)))

    module _ (l : e.turn ≤ r.turn) (m : r.turn ≤ e.turn) where
      same : r.turn ≡ e.turn
      same = omega arith

      pub stand-again : e.again ≡ true → Right (Some r)
      unfolding if
      stand-again g =
          right-by-entry (Some r)
          (rw (a, le-ltb r.turn e.turn (omega arith), eq-eqb r.turn e.turn same, g) (λ i. Some (record { turn = same i; spent = sym (or_false r.spent) i })))

      pub stand-spent : e.again ≡ false → r.spent ≡ true → Right None
      unfolding if
      stand-spent g s = right-by-entry None (rw (a, le-ltb r.turn e.turn (omega arith), eq-eqb r.turn e.turn same, g, s))

      pub stand-first : e.again ≡ false → r.spent ≡ false → Right (Some (record { turn = e.turn; spent = true }))
      unfolding if
      stand-first g s = right-by-entry (Some (record { turn = e.turn; spent = true })) (rw (a, le-ltb r.turn e.turn (omega arith), eq-eqb r.turn e.turn same, g, s))

pub ruleset may-stand_laws = (stand_never, stand_owed, stand-later, stand-past, stand-again, stand-spent, stand-first)
