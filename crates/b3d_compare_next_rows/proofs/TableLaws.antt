-- Two tables row by row: laws for code that is handed the next row of each file in turn.
use mathlib.Core.Path.{◌≡◌, ap, sym, ◌∙◌}
use Prim.Native.Nat.{ℕ, ◌+◌, ◌≤◌}
use native.Mathlib.Omega.{arith}
use mathlib.Core.List.{List, [], ◌∷◌, ◌++◌}
use lib.ListN.{length, take, drop}
use lib.Seq.{sets, sets-eq, take-append-le}
use Rattle.b3d_compare_spec.specs.Words.{words_of}
use Rattle.b3d_compare_spec.specs.Changes.{Change, row_changes, table_changes}
use Rattle.b3d_compare_spec.specs.List.{list_bytes}
use Rattle.b3d_compare_spec.proofs.SizeLaws.{list-append}
use Rattle.b3d_compare_spec.proofs.WalkLaws.{row-front}
use Rattle.b3d_compare_spec.proofs.WordLaws.{few_words}
use Rattle.b3d_compare_entries.proofs.EntryLaws.{no_bytes}

-- a row that was stored over the front of a longer one
stored-front : (n : ℕ) (row cells : List ℕ) → length cells ≡ n → n ≤ length row → take n (sets row 0 cells) ≡ take n cells
stored-front n row cells e h =
    ap (take n) (sets-eq cells row 0 (omega arith)) ∙ take-append-le n cells (drop (0 + length cells) row) (omega arith)

module _ (k : ℕ) (a b : List ℕ) where
  -- the entries of the rows that are still to come, from row r on
  abbrev pub to_come : ℕ → List (List ℕ) → List (List ℕ) → List ℕ
  to_come r xs ys = list_bytes (table_changes k a b r xs ys)

  -- what is handed over: cells are the next row, and stand at the front of `put`
  module _ (row put row' put' cells cells' : List ℕ) (e : put ≡ sets row 0 cells) (f : put' ≡ sets row' 0 cells') (w : length cells ≡ words_of k) (w' : length cells' ≡ words_of k)
      (h : 42 ≤ length row) (h' : 42 ≤ length row') (r : ℕ) where
    pub same_row : row_changes k a b r put put' ≡ row_changes k a b r cells cells'
    same_row =
        row-front k a b r put put' cells cells'
        (ap (take (words_of k)) e ∙ stored-front (words_of k) row cells w (omega (arith, few_words k)))
        (ap (take (words_of k)) f ∙ stored-front (words_of k) row' cells' w' (omega (arith, few_words k)))

    module _ (xs ys later later' : List (List ℕ)) (i : xs ≡ cells ∷ later) (j : ys ≡ cells' ∷ later') where
      pub come_step : to_come r xs ys ≡ list_bytes (row_changes k a b r put put') ++ to_come (r + 1) later later'
      unfolding table_changes
      come_step = rw (i, j) (list-append (row_changes k a b r cells cells') (table_changes k a b (r + 1) later later') ∙ ap (λ (l : List Change). list_bytes l ++ to_come (r + 1) later later') (sym same_row))

  -- no row is left
  pub come_end : (r : ℕ) (xs ys : List (List ℕ)) → length xs ≡ 0 → to_come r xs ys ≡ []
  unfolding table_changes
  come_end r [] ys h = no_bytes
  come_end r (x ∷ xs) ys h = absurd (omega arith)
