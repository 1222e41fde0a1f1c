-- A loop that writes a piece for each row of a table, one after the other, whatever the piece is.
use mathlib.Core.Path.{◌≡◌, refl, ap, subst, ◌∙◌}
use Prim.Native.Nat.{ℕ, suc, ◌+◌, ◌-◌, ◌*◌, ◌<◌, ◌≤◌}
use native.Mathlib.Nat.{suc-mul, mul-le-mul_right}
use native.Mathlib.Omega.{arith}
use mathlib.Core.List.{List, [], ◌∷◌, ◌++◌, map}
use lib.ListN.{length, take, drop}
use lib.Seq.{drop-drop}
use Rattle.layout.specs.Write.{write_items}
use Rattle.shared_output.specs.Writing.{Room, Put}
use Rattle.shared_output.proofs.PieceLaws.{Pieces, pieces_none, piece-room, piece-next, pieces-done}
use Rattle.b3d_spec.specs.Rebuild.{cut}
use Rattle.b3d_write_row_runs.specs.Lent.{each_row}

-- items that come from rows
pub items-each : {A : Type 0} (write : A → List ℕ → List ℕ) → ((a : A) (r : List ℕ) → write a r ≡ write a [] ++ r) → (f : List ℕ → A) (rows : List (List ℕ))
    → write_items write (map f rows) ≡ each_row (λ x. write (f x) []) rows
unfolding each_row
items-each write h f [] = refl
items-each write h f (x ∷ xs) = h (f x) (write_items write (map f xs)) ∙ ap (λ (l : List ℕ). write (f x) [] ++ l) (items-each write h f xs)

-- of all, the pieces of `count` rows of w words, from word `first` on, those of the rows from i on are still to be written
pub record RowsFrom (piece : List ℕ → List ℕ) (w : ℕ) (words : List ℕ) (first count : ℕ) (all out₀ out : List ℕ) (at i : ℕ) : Type 0 where
  pub some : i ≤ count
  pub there : first + count * w ≤ length words
  pub rest : Pieces 0 all (each_row piece (cut w (count - i) (drop (first + i * w) words))) out₀ out at

module _ (piece : List ℕ → List ℕ) (w : ℕ) (words : List ℕ) (first count : ℕ) (all : List ℕ) where
  pub rows_none : (out : List ℕ) → Room all out → first + count * w ≤ length words → all ≡ each_row piece (cut w count (drop first words))
      → RowsFrom piece w words first count all out out 0 0
  rows_none out r h e =
      let n : count - 0 ≡ count = omega arith in
      let b : first + 0 * w ≡ first = omega arith in
      record { some = omega arith; there = h; rest = rw (n, b) (subst (λ (l : List ℕ). Pieces 0 all l out out 0) e (pieces_none [] all out 0 refl r)) }

  module _ (out₀ out : List ℕ) (at i : ℕ) (v : RowsFrom piece w words first count all out₀ out at i) where
    pub rows_same : length out ≡ length out₀
    rows_same = v.rest.wrote.long

    pub rows_done : count ≤ i → Put all out₀ out at
    unfolding cut each_row
    rows_done h = let z : count - i ≡ 0 = omega arith in pieces-done (rw z at v.rest)

    module _ (h : i < count) where
      after : first + i * w + w ≡ first + (i + 1) * w
      after = let z : i + 1 ≡ suc i = omega arith in rw z (omega (arith, suc-mul i w))

      next : each_row piece (cut w (count - i) (drop (first + i * w) words)) ≡ piece (take w (drop (first + i * w) words)) ++ each_row piece (cut w (count - (i + 1)) (drop (first + (i + 1) * w) words))
      unfolding cut each_row
      next =
          let z : count - i ≡ suc (count - (i + 1)) = omega arith in
          rw (z, drop-drop w (first + i * w) words, after)

      pub rows_there : first + i * w + w ≤ length words
      rows_there =
          let k : (i + 1) * w ≤ count * w = mul-le-mul_right w (omega arith) in
          omega (arith, v.there, after)

      -- b is the word at which row i begins
      pub rows_at : (b : ℕ) → b ≡ first + i * w → b + w ≤ length words
      rows_at b e = rw e rows_there

      module _ (p : List ℕ) (b : ℕ) (q : piece (take w (drop b words)) ≡ p) (e : b ≡ first + i * w) where
        step : each_row piece (cut w (count - i) (drop (first + i * w) words)) ≡ p ++ each_row piece (cut w (count - (i + 1)) (drop (first + (i + 1) * w) words))
        step = rw (← q, e) next

        pub rows_room : Room p (take (length out - at) (drop at out))
        rows_room = piece-room v.rest p _ step

        pub rows_next : (zs : List ℕ) (n : ℕ) → Put p (take (length out - at) (drop at out)) zs n
            → RowsFrom piece w words first count all out₀ (take at out ++ (zs ++ drop (length out - at) (drop at out))) (at + n) (i + 1)
        rows_next zs n k = record { some = omega arith; there = v.there; rest = piece-next v.rest p _ step k }

pub ruleset rows_laws = (rows_none, rows_same, rows_done, rows_at)
