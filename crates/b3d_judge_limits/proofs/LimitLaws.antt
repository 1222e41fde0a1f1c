-- Laws of the tests on numbers.
use mathlib.Core.Path.{◌≡◌, refl, ap, sym, ◌∙◌}
use Prim.Native.Nat.{ℕ, ◌≤◌, ◌<◌}
use mathlib.Core.List.{List, [], ◌∷◌}
use lib.Dec.{ltb, leb}
use borrow.Author.Tests.{lt-ltb, le-ltb}
use Rattle.wire.specs.Test.{if}
use Rattle.layout.specs.Result.{accept, reject}
use Rattle.layout.specs.Rows.{each_of}
use Rattle.b3d_spec.specs.Rules.{row_limit}
use Rattle.b3d_spec.specs.Tables.{tables, node_tables}
use Rattle.b3d_spec.specs.Answers.{first_not}
use Rattle.b3d_spec.proofs.AnswerLaws.{first-none, first_some, over-not}
use Rattle.b3d_spec.proofs.Rows.TableNumberLaws.{each-table}
use Rattle.b3d_judge_tally.specs.declared.Tally.{Tally}
use Rattle.b3d_judge_limits.specs.Limits.{tallied, over_limit}

pub over_yes : (k rows later : ℕ) → row_limit < rows → k ≡ if (ltb row_limit rows) k later
unfolding if
over_yes k rows later h = simp (lt-ltb row_limit rows h)

pub over_no : (k rows later : ℕ) → rows ≤ row_limit → later ≡ if (ltb row_limit rows) k later
unfolding if
over_no k rows later h = simp (le-ltb row_limit rows h)

-- the ten tables one after the other, from the last to the first
pub over-ten : (t : Tally) (r1 r2 r3 r4 r5 r6 r7 r8 r9 r10 : ℕ)
    → r10 ≡ if (ltb row_limit t.textures) 1 r9
    → r9 ≡ if (ltb row_limit t.brushes) 2 r8
    → r8 ≡ if (ltb row_limit t.nodes) 3 r7
    → r7 ≡ if (ltb row_limit t.meshes) 4 r6
    → r6 ≡ if (ltb row_limit t.vertices) 5 r5
    → r5 ≡ if (ltb row_limit t.sets) 6 r4
    → r4 ≡ if (ltb row_limit t.triangles) 7 r3
    → r3 ≡ if (ltb row_limit t.weights) 8 r2
    → r2 ≡ if (ltb row_limit t.lists) 9 r1
    → r1 ≡ if (ltb row_limit t.keys) 10 0
    → r10 ≡ over_limit t
unfolding over_limit
over-ten t r1 r2 r3 r4 r5 r6 r7 r8 r9 r10 e10 e9 e8 e7 e6 e5 e4 e3 e2 e1 = rw (e10, e9, e8, e7, e6, e5, e4, e3, e2, e1)

-- ---- check 10, where table k has f k rows

-- the first of these tables with more rows than the limit; 0 where there is none
over : (ℕ → ℕ) → List ℕ → ℕ
over f [] = 0
over f (k ∷ ks) = if (ltb row_limit (f k)) k (over f ks)

over_first : (f : ℕ → ℕ) (ks : List ℕ) → over f ks ≡ first_not (λ k. leb (f k) row_limit) ks
unfolding over first_not
over_first f [] = refl
over_first f (k ∷ ks) = ap (λ (n : ℕ). if (ltb row_limit (f k)) k n) (over_first f ks) ∙ over-not row_limit (f k) k (first_not (λ k. leb (f k) row_limit) ks)

module _ (f : ℕ → ℕ) (copy n : ℕ) (e : n ≡ over_limit (tallied f copy)) where
  is-first : n ≡ first_not (λ k. leb (f k) row_limit) tables
  unfolding over_limit over tables node_tables
  is-first = e ∙ over_first f tables

  pub over_none : n ≡ 0 → each_of 10 (λ (k : ℕ). leb (f k) row_limit) tables ≡ accept tt
  over_none z = first-none 10 (λ k. leb (f k) row_limit) tables (each-table (λ k. 0 < k) (λ k a b. a)) (sym is-first ∙ z)

  pub over-some : (n ≡ 0 → ⊥) → each_of 10 (λ (k : ℕ). leb (f k) row_limit) tables ≡ reject 10 n
  over-some z = first_some 10 (λ k. leb (f k) row_limit) tables (λ q. z (is-first ∙ q)) ∙ ap (λ (i : ℕ). reject 10 i) (sym is-first)
