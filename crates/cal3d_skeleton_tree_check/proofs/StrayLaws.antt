-- The lowest bone that does not stand right: what each turn of `first_stray` says; and what `note` adds.
use Prim.Native.Nat.{ℕ, zero, suc, ◌+◌, ◌-◌, ◌<◌, ◌≤◌}
use native.Mathlib.Omega.{arith}
use mathlib.Core.Bool.{Bool, true, false, not}
use mathlib.Core.Path.{◌≡◌, refl, ap, sym, ◌∙◌}
use mathlib.Core.List.{List}
use lib.ListN.{length, get_or, set}
use lib.Dec.{eqb}
use borrow.Author.Tests.{eq-eqb, ne_eqb, not-true, not-false}
use Rattle.wire.specs.Test.{if}
use Rattle.cal3d_spec.specs.Trees.{ends}
use Rattle.cal3d_skeleton_tree_check.specs.Scores.{weight, wanted, sound, lowest, ParentsEnd, Marked}

module _ (l : List ℕ) (c v q p : ℕ) where
  pub note_own : p ≡ q → set l c (v + 1) ≡ set l c (v + weight q p)
  unfolding weight if
  note_own e = rw (eq-eqb p q e)

  pub note_other : (p ≡ q → ⊥) → set l c (v + 2) ≡ set l c (v + weight q p)
  unfolding weight if
  note_other e = rw (ne_eqb p q e)

pub wanted-none : (p : ℕ) → p ≡ 4294967295 → 0 ≡ wanted p
unfolding wanted if
wanted-none p e = rw (eq-eqb p 4294967295 e)

pub wanted-one : (p : ℕ) → (p ≡ 4294967295 → ⊥) → 1 ≡ wanted p
unfolding wanted if
wanted-one p e = rw (ne_eqb p 4294967295 e)

pub ruleset notes = (note_own, note_other, wanted-none, wanted-one)

module _ (ok : ℕ → Bool) where
  pub lowest-here : (n b : ℕ) → 0 < n → ok b ≡ false → lowest ok n b ≡ b
  unfolding lowest if
  lowest-here zero b h e = absurd (omega arith)
  lowest-here (suc n) b h e = rw e

  pub lowest-next : (n b : ℕ) → 0 < n → ok b ≡ true → lowest ok n b ≡ lowest ok (n - 1) (b + 1)
  unfolding lowest if
  lowest-next zero b h e = absurd (omega arith)
  lowest-next (suc n) b h e = let q : suc n - 1 ≡ n = omega arith in rw (e, q)

  pub lowest-none : (b : ℕ) → lowest ok 0 b ≡ b
  unfolding lowest
  lowest-none b = refl

-- the bones before b stand right
pub record Straying (ps scores marks : List ℕ) (b : ℕ) : Type 0 where
  pub there : b ≤ length ps
  pub marked : Marked ps marks
  pub rest : lowest (sound ps scores) (length ps) 0 ≡ lowest (sound ps scores) (length ps - b) b

module _ (ps scores marks : List ℕ) where
  pub stray_start : Marked ps marks → Straying ps scores marks 0
  stray_start m = let e : length ps ≡ length ps - 0 = omega arith in record { there = omega arith; marked = m; rest = ap (λ (n : ℕ). lowest (sound ps scores) n 0) e }

  module _ (b : ℕ) (c : Straying ps scores marks b) where
    pub stray_none : length ps ≤ b → length ps ≡ lowest (sound ps scores) (length ps) 0
    stray_none h = let e : length ps - b ≡ 0 = omega arith in let k = c.there in let f : length ps ≡ b = omega arith in f ∙ sym (c.rest ∙ ap (λ (n : ℕ). lowest (sound ps scores) n b) e ∙ lowest-none (sound ps scores) b)

    module _ (h : b < length ps) (w : ℕ) (ew : w ≡ wanted (get_or ps b 0)) where
      pub stray_score : (get_or scores b 0 ≡ w → ⊥) → b ≡ lowest (sound ps scores) (length ps) 0
      unfolding sound
      stray_score n =
          let t = rw ew at (ne_eqb (get_or scores b 0) w n) in
          sym (c.rest ∙ lowest-here (sound ps scores) (length ps - b) b (omega arith) (rw t))

      module _ (s : get_or scores b 0 ≡ w) (r : Bool) (e : r ≡ ends ps (length ps) b) where
        same : eqb (get_or scores b 0) (wanted (get_or ps b 0)) ≡ true
        same = rw ew at (eq-eqb (get_or scores b 0) w s)

        pub stray_ends : not r ≡ true → b ≡ lowest (sound ps scores) (length ps) 0
        unfolding sound
        stray_ends n =
            let u : ends ps (length ps) b ≡ false = sym e ∙ not-true r n in
            sym (c.rest ∙ lowest-here (sound ps scores) (length ps - b) b (omega arith) (rw (same, u)))

        pub stray_kept : not r ≡ false → ParentsEnd ps b
        stray_kept n = record { kept = sym e ∙ not-false r n }

        pub stray_next : not r ≡ false → (more : List ℕ) → Marked ps more → Straying ps scores more (b + 1)
        unfolding sound
        stray_next n more m =
            let u : ends ps (length ps) b ≡ true = sym e ∙ not-false r n in
            let q : length ps - b - 1 ≡ length ps - (b + 1) = omega arith in
            record {
              there = omega arith;
              marked = m;
              rest = c.rest ∙ lowest-next (sound ps scores) (length ps - b) b (omega arith) (rw (same, u)) ∙ ap (λ (i : ℕ). lowest (sound ps scores) i (b + 1)) q;
            }

pub ruleset straying = (stray_start, stray_none, stray_score, stray_ends, stray_kept, stray_next)
