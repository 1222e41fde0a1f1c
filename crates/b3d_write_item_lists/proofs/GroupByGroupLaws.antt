-- A loop over rows whose items stand in another table one run after the other: it writes a piece for each row, of the row's cell 1 and of its items.
use mathlib.Core.Path.{◌≡◌, refl, subst}
use Prim.Native.Nat.{ℕ, suc, ◌+◌, ◌-◌, ◌*◌, ◌/◌, ◌<◌, ◌≤◌}
use native.Mathlib.Nat.{add-zero, div-le_self}
use native.Mathlib.Omega.{arith}
use mathlib.Core.List.{List, [], ◌∷◌, ◌++◌}
use lib.ListN.{length, take, drop, get_or}
use lib.Seq.{drop-cons, drop-drop}
use Rattle.shared_output.specs.Writing.{Room, Put}
use Rattle.shared_output.proofs.PieceLaws.{Pieces, pieces_none, piece-room, piece-next, pieces-done}
use Rattle.b3d_check_spec.specs.CellCounts.{end_of}
use Rattle.b3d_check_spec.proofs.PlaceLaws.{cut_cell}
use Rattle.b3d_check_spec.proofs.BelowLaws.{end_rises}
use Rattle.b3d_write_row_runs.specs.Lent.{rows_in}
use Rattle.b3d_write_row_runs.proofs.CutRowLaws.{rows-length}

-- the pieces of rows, one after the other
unfoldable pub each_run : (ℕ → List (List ℕ) → List ℕ) → List (List ℕ) → List (List ℕ) → List ℕ
each_run piece [] is = []
each_run piece (x ∷ xs) is = piece (get_or x 1 0) (take (get_or x 3 0) is) ++ each_run piece xs (drop (get_or x 3 0) is)

-- of all, the pieces of the rows from i on are still to be written, their items those of w words from row `next` on
pub record RunsLeft (piece : ℕ → List (List ℕ) → List ℕ) (w : ℕ) (rows : List ℕ) (first count : ℕ) (items all out₀ out : List ℕ) (at next i : ℕ) : Type 0 where
  pub some : i ≤ count
  pub there : first + count ≤ length rows / 4
  pub end : end_of next (take (count - i) (drop (first + i) (rows_in 4 rows))) ≤ length items / w
  pub within : next ≤ length items / w
  pub inside : next ≤ length items
  pub rest : Pieces 0 all (each_run piece (take (count - i) (drop (first + i) (rows_in 4 rows))) (drop next (rows_in w items))) out₀ out at

module _ (piece : ℕ → List (List ℕ) → List ℕ) (w : ℕ) (rows : List ℕ) (first count : ℕ) (items all : List ℕ) where
  pub runs_none : (out : List ℕ) (start : ℕ) → Room all out → first + count ≤ length rows / 4 → end_of start (take count (drop first (rows_in 4 rows))) ≤ length items / w
      → all ≡ each_run piece (take count (drop first (rows_in 4 rows))) (drop start (rows_in w items)) → RunsLeft piece w rows first count items all out out 0 start 0
  runs_none out start r h k e =
      let z : count - 0 ≡ count = omega arith in
      record {
        some = omega arith;
        there = h;
        end = rw (z, add-zero first) k;
        within = omega (arith, k, end_rises start (take count (drop first (rows_in 4 rows))));
        inside = omega (arith, k, end_rises start (take count (drop first (rows_in 4 rows))), div-le_self (length items) w);
        rest = rw (z, add-zero first) (subst (λ (l : List ℕ). Pieces 0 all l out out 0) e (pieces_none [] all out 0 refl r));
      }

  module _ (out₀ out : List ℕ) (at next i : ℕ) (v : RunsLeft piece w rows first count items all out₀ out at next i) where
    pub runs_same : length out ≡ length out₀
    runs_same = v.rest.wrote.long

    pub runs_done : count ≤ i → Put all out₀ out at
    unfolding each_run
    runs_done h = let z : count - i ≡ 0 = omega arith in pieces-done (rw z at v.rest)

    -- in a turn; n is how many items the next row has
    module _ (h : i < count) (n : ℕ) (e : n ≡ get_or rows (4 * (first + i) + 3) 0) where
      abbrev x : List ℕ
      x = get_or (rows_in 4 rows) (first + i) []

      cell : (j : ℕ) → j < 4 → get_or x j 0 ≡ get_or rows (4 * (first + i) + j) 0
      unfolding rows_in
      cell j k = cut_cell 4 (length rows / 4) (first + i) j rows (omega (arith, v.there)) k

      next_row : take (count - i) (drop (first + i) (rows_in 4 rows)) ≡ x ∷ take (count - (i + 1)) (drop (first + (i + 1)) (rows_in 4 rows))
      next_row =
          let c : count - i ≡ suc (count - (i + 1)) = omega arith in
          let f : suc (first + i) ≡ first + (i + 1) = omega arith in
          rw (c, drop-cons (rows_in 4 rows) (first + i) [] (omega (arith, v.there, rows-length 4 rows)), f)

      end_next : end_of (next + n) (take (count - (i + 1)) (drop (first + (i + 1)) (rows_in 4 rows))) ≤ length items / w
      unfolding end_of
      end_next = rw (e, ← cell 3 (omega arith)) (rw next_row at v.end)

      pub runs_there : next + n ≤ length items / w
      runs_there = omega (arith, end_next, end_rises (next + n) (take (count - (i + 1)) (drop (first + (i + 1)) (rows_in 4 rows))))

      module _ (p : List ℕ) (q : piece (get_or rows (4 * (first + i) + 1) 0) (take n (drop next (rows_in w items))) ≡ p) where
        step : each_run piece (take (count - i) (drop (first + i) (rows_in 4 rows))) (drop next (rows_in w items))
            ≡ p ++ each_run piece (take (count - (i + 1)) (drop (first + (i + 1)) (rows_in 4 rows))) (drop (next + n) (rows_in w items))
        unfolding each_run
        step = rw (← q, next_row, cell 1 (omega arith), cell 3 (omega arith), ← e, drop-drop n next (rows_in w items))

        pub runs_room : Room p (take (length out - at) (drop at out))
        runs_room = piece-room v.rest p _ step

        pub runs_next : (zs : List ℕ) (size : ℕ) → Put p (take (length out - at) (drop at out)) zs size
            → RunsLeft piece w rows first count items all out₀ (take at out ++ (zs ++ drop (length out - at) (drop at out))) (at + size) (next + n) (i + 1)
        runs_next zs size k = record {
          some = omega arith;
          there = v.there;
          end = end_next;
          within = runs_there;
          inside = omega (arith, runs_there, div-le_self (length items) w);
          rest = piece-next v.rest p _ step k;
        }

pub ruleset runs_laws = (runs_none, runs_same, runs_done, runs_there, runs_room, runs_next)
