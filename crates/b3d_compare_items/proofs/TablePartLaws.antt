-- Two tables in parts.
use mathlib.Core.Path.{◌≡◌, refl, ap, sym, ◌∙◌}
use Prim.Native.Nat.{ℕ, suc, ◌+◌}
use native.Mathlib.Nat.{suc_inj, suc-ne-zero, add-zero}
use native.Mathlib.Omega.{arith}
use mathlib.Core.List.{List, [], ◌∷◌, ◌++◌, append_assoc}
use lib.ListN.{length}
use Rattle.shared_output.proofs.PartLaws.{Both}
use Rattle.b3d_compare_spec.specs.Changes.{Change, row_changes, table_changes}
use Rattle.b3d_compare_spec.specs.List.{list_bytes}
use Rattle.b3d_compare_spec.proofs.SizeLaws.{list-append}

module _ (k : ℕ) (a b : List ℕ) where
  -- as many rows of each, then others
  pub table-parts : (xs ys xs' ys' : List (List ℕ)) (r : ℕ) → length xs ≡ length ys
      → table_changes k a b r (xs ++ xs') (ys ++ ys') ≡ table_changes k a b r xs ys ++ table_changes k a b (r + length xs) xs' ys'
  unfolding table_changes
  table-parts [] [] xs' ys' r e = rw (add-zero r)
  table-parts [] (y ∷ ys) xs' ys' r e = absurd (suc-ne-zero (length ys) (sym e))
  table-parts (x ∷ xs) [] xs' ys' r e = absurd (suc-ne-zero (length xs) e)
  table-parts (x ∷ xs) (y ∷ ys) xs' ys' r e =
      let z : r + 1 + length xs ≡ r + suc (length xs) = omega arith in
      rw (table-parts xs ys xs' ys' (r + 1) (suc_inj e), z) (sym (append_assoc (row_changes k a b r x y) (table_changes k a b (r + 1) xs ys) (table_changes k a b (r + suc (length xs)) xs' ys')))

  -- the same as bytes
  pub bytes-parts : (xs ys xs' ys' : List (List ℕ)) (r n : ℕ) → length xs ≡ length ys → r + length xs ≡ n
      → Both (list_bytes (table_changes k a b r (xs ++ xs') (ys ++ ys'))) (list_bytes (table_changes k a b r xs ys)) (list_bytes (table_changes k a b n xs' ys'))
  bytes-parts xs ys xs' ys' r n e f =
      record {
        is = ap list_bytes (table-parts xs ys xs' ys' r e) ∙ list-append (table_changes k a b r xs ys) (table_changes k a b (r + length xs) xs' ys')
            ∙ ap (λ (m : ℕ). list_bytes (table_changes k a b r xs ys) ++ list_bytes (table_changes k a b m xs' ys')) f;
      }

  -- what is behind the pairs of two lists of rows that others follow
  unfoldable pub table_behind : ℕ → List (List ℕ) → List (List ℕ) → List (List ℕ) → List (List ℕ) → List Change
  table_behind r [] ys xs' ys' = table_changes k a b r xs' (ys ++ ys')
  table_behind r (x ∷ xs) [] xs' ys' = table_changes k a b r ((x ∷ xs) ++ xs') ys'
  table_behind r (x ∷ xs) (y ∷ ys) xs' ys' = table_behind (r + 1) xs ys xs' ys'

  table-front : (xs ys xs' ys' : List (List ℕ)) (r : ℕ) → table_changes k a b r (xs ++ xs') (ys ++ ys') ≡ table_changes k a b r xs ys ++ table_behind r xs ys xs' ys'
  unfolding table_changes table_behind
  table-front [] ys xs' ys' r = refl
  table-front (x ∷ xs) [] xs' ys' r = refl
  table-front (x ∷ xs) (y ∷ ys) xs' ys' r =
      rw (table-front xs ys xs' ys' (r + 1)) (sym (append_assoc (row_changes k a b r x y) (table_changes k a b (r + 1) xs ys) (table_behind (r + 1) xs ys xs' ys')))

  -- the pairs come first, also where the one list is longer
  pub bytes-front : (xs ys xs' ys' : List (List ℕ)) (r : ℕ)
      → Both (list_bytes (table_changes k a b r (xs ++ xs') (ys ++ ys'))) (list_bytes (table_changes k a b r xs ys)) (list_bytes (table_behind r xs ys xs' ys'))
  bytes-front xs ys xs' ys' r =
      record { is = ap list_bytes (table-front xs ys xs' ys' r) ∙ list-append (table_changes k a b r xs ys) (table_behind r xs ys xs' ys') }
