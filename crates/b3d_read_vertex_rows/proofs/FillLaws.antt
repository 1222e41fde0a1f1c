-- Rows of vertices one after the other, with the byte and the cell at which the next begins.
use Prim.Native.Nat.{ℕ, suc, ◌+◌, ◌*◌, ◌<◌, ◌≤◌}
use native.Mathlib.Nat.{suc-mul}
use native.Mathlib.Omega.{arith}
use mathlib.Core.Path.{◌≡◌}
use mathlib.Core.List.{List}
use lib.ListN.{length}
use lib.Seq.{sets as stored}
use Rattle.b3d_read_row_runs.specs.Pieces.{rows_at}
use Rattle.b3d_read_row_runs.proofs.RunLaws.{Wide, RowsFrom, rows_none, rows_done, rows_take, rows_room, rows_on}

-- the first i of `count` rows are stored; the next one's words are from byte `at` on, its cells from cell o on
pub record Filling (row : List ℕ → ℕ → List ℕ) (width : ℕ) (s : List ℕ) (words base : ℕ) (out₀ : List ℕ) (count from : ℕ) (out : List ℕ) (i at o : ℕ) : Type 0 where
  pub place : at ≡ from + i * (4 * words)
  pub cell : o ≡ base + i * width
  pub rows : RowsFrom row width s words base out₀ count from out i

module _ (row : List ℕ → ℕ → List ℕ) (width : ℕ) (s : List ℕ) (words base : ℕ) (out₀ : List ℕ) (count from : ℕ) where
  pub filling_none : from + count * (4 * words) ≤ length s → base + count * width ≤ length out₀ → Filling row width s words base out₀ count from out₀ 0 from base
  filling_none h r = record { place = omega arith; cell = omega arith; rows = rows_none row width s words base out₀ count from h r }

  module _ (out : List ℕ) (i at o : ℕ) (v : Filling row width s words base out₀ count from out i at o) where
    pub filling_done : count ≤ i → out ≡ stored out₀ base (rows_at row words count s from)
    filling_done h = rows_done row width s words base out₀ count from out i v.rows h

    module _ (h : i < count) where
      after : (k : ℕ) → (i + 1) * k ≡ i * k + k
      after k = let z : i + 1 ≡ suc i = omega arith in rw z (suc-mul i k)

      pub filling_take : (size : ℕ) → words ≡ size → at + 4 * size ≤ length s
      filling_take size e = rw v.place (rows_take row width s words base out₀ count from out i v.rows h size e)

      pub filling_room : o + width ≤ length out
      filling_room = rw v.cell (rows_room row width s words base out₀ count from out i v.rows h)

      pub filling_on : Wide row width → (put : List ℕ) → put ≡ stored out o (row s at) → Filling row width s words base out₀ count from put (i + 1) (at + 4 * words) (o + width)
      filling_on wd put f = record {
        place = let p = v.place in omega (arith, after (4 * words));
        cell = let p = v.cell in omega (arith, after width);
        rows = rows_on row width s words base out₀ count from out i v.rows h wd put (rw (v.cell, v.place) at f);
      }

pub ruleset filling_laws = (filling_none, filling_done, filling_take, filling_room)
