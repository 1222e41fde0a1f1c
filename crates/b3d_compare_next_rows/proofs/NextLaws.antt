-- A row of each file at a time: a law for each need.
use mathlib.Core.Path.{◌≡◌, ap, sym, ◌∙◌, subst}
use mathlib.Core.Logic.{◌⊎◌, ⊎_elim}
use Prim.Native.Nat.{ℕ, zero, suc, ◌+◌, ◌<◌, ◌≤◌}
use native.Mathlib.Nat.{eq-or-lt_of_le}
use native.Mathlib.Omega.{arith}
use mathlib.Core.Bool.{Bool}
use mathlib.Core.List.{List, [], ◌∷◌, ◌++◌}
use lib.ListN.{length}
use lib.Seq.{length-sets}
use Rattle.layout.proofs.AllLaws.{All}
use Rattle.shared_output.proofs.PartLaws.{Both}
use Rattle.shared_put_or_count.specs.Emits.{RoomFrom, Emits}
use Rattle.shared_put_or_count.proofs.PutLaws.{fits-first}
use Rattle.b3d_spec.specs.Tables.{width, tables, node_tables}
use Rattle.b3d_rows_nodes.specs.declared.RowCursor.{RowCursor}
use Rattle.b3d_rows.specs.NextRow.{rows_from, RowNext}
use Rattle.b3d_compare_spec.specs.Words.{words_of}
use Rattle.b3d_compare_spec.specs.Changes.{row_changes}
use Rattle.b3d_compare_spec.specs.List.{list_bytes}
use Rattle.b3d_compare_spec.proofs.WordLaws.{widths, few_words}
use Rattle.b3d_compare_next_rows.proofs.TableLaws.{come_step}
use Rattle.b3d_compare_next_rows.specs.NextRows.{bytes_from, Onward, PutTurn}

-- ---- widths

abbrev pub range : ℕ → ℕ → List ℕ
range w zero = []
range w (suc n) = w ∷ range (w + 1) n

pub at-range : (P : ℕ → Type 0) (w n : ℕ) → All P (range w n) → (k : ℕ) → w ≤ k → k < w + n → P k
at-range P w zero h k i j = absurd (omega arith)
at-range P w (suc n) h k i j = ⊎_elim (λ e. subst P e h.0) (λ l. at-range P (w + 1) n h.1 k (omega arith) (omega arith)) (eq-or-lt_of_le i)

ten-widths : All (λ k. words_of k ≡ width k) (range 1 10)
unfolding tables node_tables
ten-widths = widths

width_is : (k : ℕ) → 1 ≤ k → k ≤ 10 → words_of k ≡ width k
width_is k h i = at-range (λ j. words_of j ≡ width j) 1 10 ten-widths k h (omega arith)

-- ---- a row of each

next-long : (k : ℕ) (s : List ℕ) (x : RowCursor) (p p' : List ℕ) (y : RowCursor) → RowNext k s x p p' y → length p' ≡ length p
next-long k s x p p' y n = ap length n.comes.stores ∙ length-sets p 0 n.comes.cells

module _ (k : ℕ) (lo : 1 ≤ k) (hi : k ≤ 10) (a b : List ℕ) (x y : RowCursor) (p q : List ℕ) (hp : 42 ≤ length p) (hq : 42 ≤ length q) (p' q' : List ℕ) (x' y' : RowCursor)
    (na : RowNext k a x p p' x') (nb : RowNext k b y q q' y') where
  -- entries of the two rows, then of those that follow
  pub step_is : (r : ℕ) → bytes_from k a b r x y ≡ list_bytes (row_changes k a b r p' q') ++ bytes_from k a b (r + 1) x' y'
  unfolding bytes_from
  step_is r =
      let ca = na.comes in
      let cb = nb.comes in
      come_step k a b p p' q q' ca.cells cb.cells ca.stores cb.stores (ca.wide ∙ sym (width_is k lo hi)) (cb.wide ∙ sym (width_is k lo hi)) hp hq r
      (rows_from k a x) (rows_from k b y) (rows_from k a x') (rows_from k b y') ca.is cb.is

  pub step-on : Onward k a b x y x' y' p q p' q' 1
  step-on =
      record {
        some = omega arith;
        first_at = na.at;
        second_at = nb.at;
        first_on = omega (arith, ap length na.comes.is);
        second_on = omega (arith, ap length nb.comes.is);
        first_kept = next-long k a x p p' x' na;
        second_kept = next-long k b y q q' y' nb;
      }

  module _ (kk : ℕ) (ek : kk ≡ k) where
    pub turn-high : kk ≤ 10
    turn-high = omega arith

    pub turn-first : words_of kk ≤ length p'
    turn-first = omega (arith, few_words kk, next-long k a x p p' x' na)

    pub turn-second : words_of kk ≤ length q'
    turn-second = omega (arith, few_words kk, next-long k b y q q' y' nb)

-- ---- `put_turn`

module _ (k : ℕ) (lo : 1 ≤ k) (hi : k ≤ 10) (a b : List ℕ) (x y : RowCursor) (p q : List ℕ) (hp : 42 ≤ length p) (hq : 42 ≤ length q) (p' q' : List ℕ) (first second : RowCursor)
    (na : RowNext k a x p p' first) (nb : RowNext k b y q q' second) (kk : ℕ) (ek : kk ≡ k) (r : ℕ) (wet : Bool) (xs : List ℕ) (at : ℕ) where
  here-is : Both (bytes_from k a b r x y) (list_bytes (row_changes kk a b r p' q')) (bytes_from k a b (r + 1) first second)
  here-is = record { is = step_is k lo hi a b x y p q hp hq p' q' first second na nb r ∙ ap (λ (j : ℕ). list_bytes (row_changes j a b r p' q') ++ bytes_from k a b (r + 1) first second) (sym ek) }

  pub turn_fits : RoomFrom wet (bytes_from k a b r x y) at xs → RoomFrom wet (list_bytes (row_changes kk a b r p' q')) at xs
  turn_fits f = fits-first here-is wet xs at f

  pub turn_puts : (ys : List ℕ) (n : ℕ) → Emits wet (list_bytes (row_changes kk a b r p' q')) xs at ys n
      → PutTurn k r a b x y p q p' q' wet xs at ys (record { first = first; second = second; rows = 1; next = n })
  turn_puts ys n s = record { on = step-on k lo hi a b x y p q hp hq p' q' first second na nb; here = list_bytes (row_changes kk a b r p' q'); is = here-is; put = s }
