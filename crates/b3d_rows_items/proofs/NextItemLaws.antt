-- From item to item: a law for each need.
use Rattle.std.specs.Prelude.{Some, None}
use Rattle.std.specs.Prelude as std
use mathlib.Core.Path.{◌≡◌, refl, ap, sym, subst, ◌∙◌}
use Prim.Native.Nat.{ℕ, ◌+◌, ◌-◌, ◌*◌, ◌<◌, ◌≤◌}
use native.Mathlib.Omega.{arith}
use mathlib.Core.List.{List, [], ◌++◌}
use mir.Syntax.{w64}
use mir.Val.{Fits}
use lib.ListN.{length}
use lib.Seq.{sets}
use Rattle.wire.specs.Cursors.{Inside, left}
use Rattle.wire.proofs.LeftLaws.{span}
use Rattle.layout.specs.Parts.{words_of}
use Rattle.b3d_rows_open_items.specs.ItemsLeft.{ItemTable, item_row, item_rows, Measured}
use Rattle.b3d_rows_open_items.proofs.ItemsLeftLaws.{items-none, items-one, item-wide, onward-measured}
use Rattle.b3d_rows_positions.specs.Positions.{items_later, items_ahead, left_over, ItemPosition, ItemsOn, NoItems, ItemsMoreIs, ItemsMore, ItemFound, NoItemFound, ItemFoundIs, ItemFinds}
use Rattle.b3d_rows_positions.specs.declared.Position.{Position}
use Rattle.b3d_rows_items.specs.NextItem.{ItemNexts}

pub seven : (k : ℕ) (s : List ℕ) (x : Position) → k ≡ 7 → ItemPosition k s x → ItemPosition 7 s x
seven k s x e v = rw e at v

pub seven_more : (k : ℕ) (s : List ℕ) (x : Position) (r : std.Option Position) → k ≡ 7 → ItemsMore 7 s x r → ItemsMore k s x r
seven_more k s x r e v = rw e v

pub ruleset more_laws = (seven, seven_more)

-- ---- the loop of `find_item`

-- the rows from y on are those from x on
pub record FindLeft (k : ℕ) (s : List ℕ) (x y : Position) : Type 0 where
  pub rows : items_ahead k s x ≡ items_ahead k s y
  pub position : ItemPosition k s y

module _ (k : ℕ) (s : List ℕ) (x : Position) where
  pub find_start : ItemPosition k s x → FindLeft k s x x
  find_start v = record { rows = refl; position = v }

  module _ (y : Position) (v : FindLeft k s x y) where
    pub find_position : ItemPosition k s y
    find_position = v.position

    pub find_before : y.items.rest.at ≤ y.items.rest.end
    find_before = v.position.items.before

    pub find_fits : Fits w64 (4 * y.items.words)
    find_fits = record { fits = omega (arith, v.position.measured.most) }

    pub find_there : 4 * y.items.words ≤ y.items.rest.end - y.items.rest.at → ItemFinds k s x (Some y)
    find_there h = record { is = record { rows = v.rows; position = v.position; there = h } }

    module _ (h : y.items.rest.end - y.items.rest.at < 4 * y.items.words) (r : std.Option Position) (m : ItemsMore k s y r) where
      none : item_rows k s y.items ≡ []
      none = items-none k s y.items v.position.items h

      behind : items_ahead k s y ≡ items_later k s y
      unfolding items_ahead
      behind = ap (λ l. l ++ items_later k s y) none

      pub find_none : r ≡ None → ItemFinds k s x None
      find_none w =
          let e : NoItems k s y = subst (ItemsMoreIs k s y) w m.is in
          record { is = record { rows = v.rows ∙ behind ∙ e.rows } }

      module _ (z : Position) (w : r ≡ Some z) where
        on : ItemsOn k s y z
        on = subst (ItemsMoreIs k s y) w m.is

        pub find_on : FindLeft k s x z
        find_on = record { rows = v.rows ∙ behind ∙ on.rows none; position = on.position }

        pub find_less : left_over s z < left_over s y
        find_less = on.less

pub ruleset find_laws = (find_start, find_position, find_before, find_fits, find_there, find_none, find_on, find_less)

-- ---- the row

pub row-none : (k : ℕ) (s : List ℕ) (x : Position) (r : std.Option Position) → ItemFinds k s x r → r ≡ None → (row : List ℕ) → ItemNexts k s x row row None
row-none k s x r u w row = let e : NoItemFound k s x = subst (ItemFoundIs k s x) w u.is in record { is = record { none = e.rows; same = refl } }

module _ (k : ℕ) (t : ItemTable k) (s : List ℕ) (x : Position) (r : std.Option Position) (u : ItemFinds k s x r) (y : Position) (w : r ≡ Some y) where
  v : ItemFound k s x y
  v = subst (ItemFoundIs k s x) w u.is

  pub row_inside : Inside y.items.rest (length s)
  row_inside = v.position.items

  pub row-place : y.items.rest.at + 4 * y.items.words ≤ y.items.rest.end
  row-place = omega (arith, v.there, v.position.items.before)

  pub row-measured : Measured k y.items
  row-measured = v.position.measured

  pub row_words : Fits w64 (4 * y.items.words)
  row_words = record { fits = omega (arith, v.position.measured.most) }

  pub row_fits : length s * 1 < 0x8000000000000000 → Fits w64 (y.items.rest.at + 4 * y.items.words)
  row_fits small = record { fits = omega (arith, v.there, v.position.items.before, v.position.items.within) }

  pub row_next : (row put : List ℕ) → put ≡ sets row 0 (item_row k y.items (words_of y.items.words (left y.items.rest s)))
      → (z : Position) → z ≡ record {
        at = y.at;
        inner = y.inner;
        items = record { rest = span (y.items.rest.at + 4 * y.items.words) y.items.rest.end; words = y.items.words; flags = y.items.flags; sets = y.items.sets; size = y.items.size };
        counts = y.counts;
      }
      → ItemNexts k s x row put (Some z)
  unfolding items_ahead items_later
  row_next row put e z ez =
      let i = y.items in
      let c = v.position.items in
      let m = v.position.measured in
      subst (λ (n : Position). ItemNexts k s x row put (Some n)) (sym ez)
      (record {
        is = record {
          comes = record {
            cells = item_row k i (words_of i.words (left i.rest s));
            is = v.rows ∙ ap (λ l. l ++ items_later k s y) (items-one k s i c m v.there);
            wide = item-wide k s i c m v.there t;
            stores = e;
          };
          position = record {
            walk = record { run = v.position.walk.run; inside = v.position.walk.inside; nodes = v.position.walk.nodes; meshes = v.position.walk.meshes };
            items = record { before = omega (arith, v.there, c.before); within = c.within };
            measured = onward-measured k s i c m v.there;
          };
        };
      })

pub ruleset row_laws = (row-none, row_inside, row-place, row-measured, row_words, row_fits, row_next)
