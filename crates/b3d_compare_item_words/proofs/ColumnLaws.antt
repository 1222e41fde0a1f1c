-- Which words of an item's row are there: a law for each way through the functions.
use mathlib.Core.Path.{◌≡◌, refl, ◌∙◌}
use Prim.Native.Nat.{ℕ, suc, ◌+◌, ◌-◌, ◌/◌, ◌%◌, ◌<◌, ◌≤◌}
use native.Mathlib.Omega.{arith}
use mathlib.Core.Bool.{Bool, true, false, not}
use mathlib.Core.List.{List, [], ◌∷◌}
use lib.ListN.{length, set, drop}
use lib.Seq.{sets-eq}
use lib.Dec.{eqb, ltb}
use borrow.Author.Tests.{ne_eqb, lt-ltb, le-ltb, not-true, not-false}
use Rattle.wire.specs.Test.{if}
use Rattle.shared_table_words.proofs.StoreLaws.{Storing, store_one, store_done}
use Rattle.b3d_spec.specs.Mask.{mask, vertex_has, key_has}
use Rattle.b3d_spec.proofs.Rows.MaskLaws.{mask-length}
use Rattle.b3d_compare_item_words.specs.ItemWords.{item_has, columns, ItemColumns}

-- ---- `vertex_has`

module _ (flags sets size w : ℕ) where
  pub vertex-position : w < 3 → true ≡ vertex_has flags sets size w
  unfolding vertex_has if
  vertex-position h = rw (lt-ltb w 3 h)

  module _ (h₃ : 3 ≤ w) where
    pub vertex-normal : w < 6 → eqb (flags % 2) 1 ≡ vertex_has flags sets size w
    unfolding vertex_has if
    vertex-normal h = rw (le-ltb w 3 h₃, lt-ltb w 6 h)

    module _ (h₆ : 6 ≤ w) where
      pub vertex-colour : w < 10 → eqb (flags / 2 % 2) 1 ≡ vertex_has flags sets size w
      unfolding vertex_has if
      vertex-colour h = rw (le-ltb w 3 h₃, le-ltb w 6 h₆, lt-ltb w 10 h)

      module _ (h₁₀ : 10 ≤ w) where
        pub vertex_beyond : sets ≤ (w - 10) / 4 → false ≡ vertex_has flags sets size w
        unfolding vertex_has if
        vertex_beyond h = rw (le-ltb w 3 h₃, le-ltb w 6 h₆, le-ltb w 10 h₁₀, le-ltb ((w - 10) / 4) sets h)

        pub vertex_coordinate : (w - 10) / 4 < sets → ltb ((w - 10) % 4) size ≡ vertex_has flags sets size w
        unfolding vertex_has if
        vertex_coordinate h = rw (le-ltb w 3 h₃, le-ltb w 6 h₆, le-ltb w 10 h₁₀, lt-ltb ((w - 10) / 4) sets h)

pub ruleset vertex_laws = (vertex-position, vertex-normal, vertex-colour, vertex_beyond, vertex_coordinate)

-- ---- `key_has`

module _ (flags w : ℕ) where
  pub key-frame : w < 1 → true ≡ key_has flags w
  unfolding key_has if
  key-frame h = rw (lt-ltb w 1 h)

  module _ (h₁ : 1 ≤ w) where
    pub key-position : w < 4 → eqb (flags % 2) 1 ≡ key_has flags w
    unfolding key_has if
    key-position h = rw (le-ltb w 1 h₁, lt-ltb w 4 h)

    module _ (h₄ : 4 ≤ w) where
      pub key-scale : w < 7 → eqb (flags / 2 % 2) 1 ≡ key_has flags w
      unfolding key_has if
      key-scale h = rw (le-ltb w 1 h₁, le-ltb w 4 h₄, lt-ltb w 7 h)

      pub key-rotation : 7 ≤ w → eqb (flags / 4 % 2) 1 ≡ key_has flags w
      unfolding key_has if
      key-rotation h = rw (le-ltb w 1 h₁, le-ltb w 4 h₄, le-ltb w 7 h)

pub ruleset key_laws = (key-frame, key-position, key-scale, key-rotation)

-- ---- `item_has`

module _ (k flags sets size w : ℕ) where
  pub has-vertex : k ≡ 5 → (r : Bool) → r ≡ vertex_has flags sets size w → r ≡ item_has k flags sets size w
  unfolding item_has if
  has-vertex e r h = rw e h

  module _ (n : k ≡ 5 → ⊥) where
    pub has_key : k ≡ 10 → (r : Bool) → r ≡ key_has flags w → r ≡ item_has k flags sets size w
    unfolding item_has if
    has_key e r h = rw e h

    pub has-each : (k ≡ 10 → ⊥) → true ≡ item_has k flags sets size w
    unfolding item_has if
    has-each m = rw (ne_eqb k 5 n, ne_eqb k 10 m)

pub ruleset has_laws = (has-vertex, has_key, has-each)

-- ---- `columns`: the words from w on are left

pub record ColumnsLeft (f : ℕ → Bool) (out₀ out : List ℕ) (n w : ℕ) : Type 0 where
  pub high : w ≤ 42
  pub few : n ≤ w
  pub long : length out₀ ≡ 42
  pub stores : Storing out₀ 0 (columns 0 (mask f 42 0)) out n (columns w (mask f (42 - w) w))

columns-few : (m : List Bool) (w : ℕ) → length (columns w m) ≤ length m
unfolding columns
columns-few [] w = omega arith
columns-few (true ∷ m) w = let h = columns-few m (w + 1) in omega arith
columns-few (false ∷ m) w = let h = columns-few m (w + 1) in omega arith

module _ (k flags sets size : ℕ) (out₀ : List ℕ) where
  abbrev f : ℕ → Bool
  f = item_has k flags sets size

  pub columns-start : length out₀ ≡ 42 → ColumnsLeft (item_has k flags sets size) out₀ out₀ 0 0
  columns-start l = record { high = omega arith; few = omega arith; long = l; stores = record { long = refl; same = refl } }

  module _ (out : List ℕ) (n w : ℕ) (g : ColumnsLeft (item_has k flags sets size) out₀ out n w) where
    none_left : 42 ≤ w → columns w (mask f (42 - w) w) ≡ []
    unfolding columns mask
    none_left h = let z : w ≡ 42 = omega (arith, g.high) in rw z

    pub columns-done : 42 ≤ w → ItemColumns k flags sets size out
    columns-done h =
        let all = columns 0 (mask f 42 0) in
        record {
          long = g.stores.long ∙ g.long;
          rest = drop (0 + length all) out₀;
          is = store_done g.stores (none_left h) ∙ sets-eq all out₀ 0 (omega (arith, columns-few (mask f 42 0) 0, mask-length f 42 0, g.long));
        }

    module _ (h : w < 42) where
      pub columns-room : n < length out
      columns-room = omega (arith, g.few, g.long, g.stores.long)

      here : mask f (42 - w) w ≡ f w ∷ mask f (42 - (w + 1)) (w + 1)
      unfolding mask
      here = let z : 42 - w ≡ suc (42 - (w + 1)) = omega arith in rw z

      module _ (b : Bool) (e : b ≡ item_has k flags sets size w) where
        pub columns_skip : not b ≡ true → ColumnsLeft (item_has k flags sets size) out₀ out n (w + 1)
        unfolding columns
        columns_skip t =
            let z : columns w (mask f (42 - w) w) ≡ columns (w + 1) (mask f (42 - (w + 1)) (w + 1)) = rw (here, ← e, not-true b t) in
            record { high = omega arith; few = omega (arith, g.few); long = g.long; stores = rw z at g.stores }

        pub columns-next : not b ≡ false → ColumnsLeft (item_has k flags sets size) out₀ (set out n w) (n + 1) (w + 1)
        unfolding columns
        columns-next t =
            let z : columns w (mask f (42 - w) w) ≡ w ∷ columns (w + 1) (mask f (42 - (w + 1)) (w + 1)) = rw (here, ← e, not-false b t) in
            record { high = omega arith; few = omega (arith, g.few); long = g.long; stores = store_one g.stores z (omega arith) }

pub ruleset columns_laws = (columns-start, columns-done, columns-room, columns_skip, columns-next)
