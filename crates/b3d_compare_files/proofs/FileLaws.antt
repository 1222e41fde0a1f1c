-- A law for each way through `put_cells` and `put_list`.
use mathlib.Core.Path.{◌≡◌, ap, sym, ◌∙◌, subst}
use Prim.Native.Nat.{ℕ, ◌+◌, ◌<◌, ◌≤◌}
use native.Mathlib.Omega.{arith}
use mathlib.Core.Bool.{Bool, true, false}
use mathlib.Core.List.{List, ◌++◌}
use lib.ListN.{length, get_or}
use Rattle.shared_output.proofs.PartLaws.{Both}
use Rattle.shared_put_or_count.specs.Emits.{RoomFrom, Emits}
use Rattle.shared_put_or_count.proofs.PutLaws.{fits-second, emits_both, fits-same, emits_same, Left, left-none, left-done, left-fits, left_next}
use Rattle.b3d_spec.specs.Tables.{tables}
use Rattle.b3d_compare_spec.specs.Changes.{row_changes}
use Rattle.b3d_compare_spec.specs.List.{list_bytes}
use Rattle.b3d_compare_tables.specs.Tables.{Comparable, table_bytes}
use Rattle.b3d_compare_files.specs.Files.{AcceptedFile, tables_bytes, files_bytes}
use Rattle.b3d_compare_files.proofs.AcceptedPairLaws.{rows-known, rows_few, tables_from, from_first, from_step, from_end, or_some, or_none, by_length, by_none, same_numbers}

-- ---- `put_cells`: the tables from k on are left

module _ (a b : List ℕ) where
  abbrev pub rest : ℕ → List ℕ
  rest k = tables_bytes a b (tables_from k)

  -- two accepted files with the same numbers, before table k
  pub record TablesLeft (x : List ℕ) (wet : Bool) (xs : List ℕ) (at : ℕ) (ys : List ℕ) (next k : ℕ) : Type 0 where
    pub first : AcceptedFile a x
    pub second : AcceptedFile b x
    pub low : 1 ≤ k
    pub most : k ≤ 11
    pub wide : length x ≡ 12
    pub left : Left wet (tables_bytes a b tables) xs at ys next (rest k)

  module _ (x : List ℕ) (wet : Bool) (xs : List ℕ) (at : ℕ) where
    pub tables_start : AcceptedFile a x → AcceptedFile b x → length x ≡ 12 → RoomFrom wet (tables_bytes a b tables) at xs → TablesLeft x wet xs at xs at 1
    tables_start v w l f =
        record {
          first = v;
          second = w;
          low = omega arith;
          most = omega arith;
          wide = l;
          left = rw from_first (left-none wet (tables_bytes a b tables) xs at f);
        }

    module _ (ys : List ℕ) (next k : ℕ) (g : TablesLeft x wet xs at ys next k) where
      pub tables_same : length ys ≡ length xs
      tables_same = g.left.put.long

      pub tables_done : 10 < k → Emits wet (tables_bytes a b tables) xs at ys next
      unfolding tables_bytes
      tables_done h = left-done wet (tables_bytes a b tables) xs at ys next (rest k) g.left (ap (tables_bytes a b) (from_end k h))

      module _ (h : k < 11) where
        two : Both (rest k) (table_bytes k a b) (rest (k + 1))
        unfolding tables_bytes
        two = record { is = ap (tables_bytes a b) (from_step k (omega arith)) }

        pub tables_fit : RoomFrom wet (table_bytes k a b) next ys
        tables_fit = left-fits wet (tables_bytes a b tables) xs at ys next (rest k) g.left (table_bytes k a b) (rest (k + 1)) two

        pub tables_next : (zs : List ℕ) (n : ℕ) → Emits wet (table_bytes k a b) ys next zs n → TablesLeft x wet xs at zs n (k + 1)
        tables_next zs n e =
            record {
              first = g.first;
              second = g.second;
              low = omega (arith, g.low);
              most = omega arith;
              wide = g.wide;
              left = left_next wet (tables_bytes a b tables) xs at ys next (rest k) g.left (table_bytes k a b) (rest (k + 1)) two zs n e;
            }

        module _ (kk : ℕ) (ek : kk ≡ k) where
          pub index_low : kk + 1 < length x
          index_low = omega (arith, g.wide)

          pub tables_first : Comparable k (get_or x (kk + 1) 0) a
          tables_first = rows-known a x g.first k g.low (omega arith) kk ek

          pub tables_second : Comparable k (get_or x (kk + 1) 0) b
          tables_second = rows-known b x g.second k g.low (omega arith) kk ek

          pub tables_few : get_or x (kk + 1) 0 ≤ 2097151
          tables_few = rows_few a x g.first k g.low (omega arith) kk ek

-- ---- `put_list`

nothing-fits : (wet : Bool) (w xs : List ℕ) → length w ≡ 0 → RoomFrom wet w 0 xs
nothing-fits true w xs e = record { room = omega arith; small = omega arith }
nothing-fits false w xs e = record { room = omega arith; small = omega arith }

module _ (a b x y : List ℕ) (v : AcceptedFile a x) (w : AcceptedFile b y) (wet : Bool) (xs : List ℕ) (f : RoomFrom wet (files_bytes a b x y) 0 xs) where
  abbrev numbers : List ℕ
  numbers = list_bytes (row_changes 0 a b 0 x y)

  numbers_are : (length numbers ≡ 0 → ⊥) → files_bytes a b x y ≡ numbers
  unfolding files_bytes
  numbers_are h = or_some numbers (tables_bytes a b tables) h

  pub numbers_fit : RoomFrom wet (list_bytes (row_changes 0 a b 0 x y)) 0 xs
  numbers_fit = by_length numbers (λ z. nothing-fits wet numbers xs z) (λ h. fits-same (numbers_are (λ z. omega arith)) wet xs 0 f)

  module _ (ys : List ℕ) (n : ℕ) (e : Emits wet (list_bytes (row_changes 0 a b 0 x y)) xs 0 ys n) where
    pub numbers-put : (n ≡ 0 → ⊥) → Emits wet (files_bytes a b x y) xs 0 ys n
    numbers-put h = emits_same (numbers_are (λ z. h (omega (arith, e.to)))) wet xs 0 ys n e

    module _ (h : n ≡ 0) where
      none : length numbers ≡ 0
      none = omega (arith, e.to)

      two_parts : Both (files_bytes a b x y) numbers (tables_bytes a b tables)
      unfolding files_bytes
      two_parts = record { is = or_none numbers (tables_bytes a b tables) none ∙ ap (λ (l : List ℕ). l ++ tables_bytes a b tables) (sym (by_none numbers none)) }

      pub cells-second : AcceptedFile b x
      cells-second = subst (λ (l : List ℕ). AcceptedFile b l) (sym (same_numbers a b x y v w none)) w

      pub cells_fit : RoomFrom wet (tables_bytes a b tables) n ys
      cells_fit = fits-second two_parts wet xs 0 ys n e f

      pub cells-put : (zs : List ℕ) (m : ℕ) → Emits wet (tables_bytes a b tables) ys n zs m → Emits wet (files_bytes a b x y) xs 0 zs m
      cells-put zs m g = emits_both two_parts wet xs 0 ys n e zs m g

pub ruleset list_laws = (numbers_fit, numbers-put, cells-second, cells_fit, cells-put)
