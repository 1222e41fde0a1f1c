-- The laws of an open chunk's tests, in the words of the code.
use mathlib.Core.Path.{◌≡◌, ap, sym, ◌∙◌}
use Prim.Native.Nat.{ℕ, ◌+◌, ◌-◌, ◌<◌, ◌≤◌}
use native.Mathlib.Omega.{arith}
use mathlib.Core.Bool.{Bool, true, false, false≢true}
use lib.Dec.{leb}
use borrow.Author.Tests.{le-leb, leb-true}
use Rattle.b3d_spec.specs.declared.Tag.{Tag}
use Rattle.b3d_pieces_spec.specs.declared.Kept.{Kept}
use Rattle.b3d_pieces_spec.specs.declared.Open.{Open}
use Rattle.b3d_pieces_spec.specs.Good.{Words, Bound, extra}
use Rattle.b3d_pieces_valid_record.specs.Tests.{Tests, Weighs, OpenFits}

pub never : {P : Type 0} (r : Bool) → r ≡ false → (P → ⊥) → Tests r P
never r q z = record { yes = λ e. absurd (false≢true (sym q ∙ e)); all = λ p. absurd (z p) }

by-leb : {P : Type 0} (r : Bool) (a b : ℕ) → r ≡ leb a b → (a ≤ b → P) → (P → a ≤ b) → Tests r P
by-leb r a b q u v = record { yes = λ e. u (leb-true a b (sym q ∙ e)); all = λ p. q ∙ le-leb a b (v p) }

module _ (k : Kept) (r : Bool) where
  pub words_first : 4294967295 < k.first → r ≡ false → Tests r (Words k)
  words_first h q = never r q (λ w. let x = w.0 in omega arith)

  pub words_second : 4294967295 < k.second → r ≡ false → Tests r (Words k)
  words_second h q = never r q (λ w. let x = w.1 in omega arith)

  pub words_third : k.first ≤ 4294967295 → k.second ≤ 4294967295 → r ≡ leb k.third 4294967295 → Tests r (Words k)
  words_third h l q = by-leb r k.third 4294967295 q (λ m. (omega arith, omega arith, omega arith)) (λ w. let x = w.2 in omega arith)

module _ (level n : ℕ) (r : Bool) where
  pub bound_far : 16 < n → r ≡ false → Tests r (n + level ≤ 16)
  bound_far h q = never r q (λ w. omega arith)

  pub bound_near : n ≤ 16 → r ≡ leb level (16 - n) → Tests r (n + level ≤ 16)
  bound_near h q = by-leb r level (16 - n) q (λ m. omega arith) (λ w. omega arith)

pub ruleset small_laws = (words_first, words_second, words_third, bound_far, bound_near)

pub tests-leb : (r : Bool) (a b : ℕ) → r ≡ leb a b → Tests r (a ≤ b)
tests-leb r a b q = by-leb r a b q (λ m. m) (λ m. m)

pub bound_of : (tag : Tag) (level n : ℕ) (r : Bool) (t : Tag) → tag ≡ t → Tests r (Bound t level n) → Tests r (Bound tag level n)
bound_of tag level n r t e q = rw e q

pub ruleset bound_laws = (bound_of, tests-leb)

-- ---- an open chunk

pub heavy : {P : Type 0} (n r : ℕ) → r ≡ 16777218 → (P → n ≤ 16777217 → ⊥) → Weighs P n r
heavy n r q z = record { yes = λ l. absurd (omega arith); all = λ p l. absurd (z p l); most = omega arith }

module _ (f : Open) (n : ℕ) (r : ℕ) (b : Bool) (tb : Tests b (Bound f.tag f.level n)) where
  pub load_bound : b ≡ false → r ≡ 16777218 → Weighs (OpenFits f n) (f.count + extra f.tag) r
  load_bound e q = heavy (f.count + extra f.tag) r q (λ p l. absurd (false≢true (sym e ∙ tb.all p.0)))

  module _ (eb : b ≡ true) (w : Bool) (tw : Tests w (Words f.kept)) where
    pub load-words : w ≡ false → r ≡ 16777218 → Weighs (OpenFits f n) (f.count + extra f.tag) r
    load-words e q = heavy (f.count + extra f.tag) r q (λ p l. absurd (false≢true (sym e ∙ tw.all p.1)))

    pub load-count : w ≡ true → 16777217 < f.count → r ≡ 16777218 → Weighs (OpenFits f n) (f.count + extra f.tag) r
    load-count e h q = heavy (f.count + extra f.tag) r q (λ p l. omega arith)

    pub load_is : w ≡ true → f.count ≤ 16777217 → (x : ℕ) → x ≡ extra f.tag → x ≤ 1 → r ≡ f.count + x → Weighs (OpenFits f n) (f.count + extra f.tag) r
    load_is e h x a m q =
        record { yes = λ l. ((tb.yes eb, tw.yes e), q ∙ ap (λ (y : ℕ). f.count + y) a); all = λ p l. q ∙ ap (λ (y : ℕ). f.count + y) a; most = omega arith }

pub ruleset load_laws = (load_bound, load-words, load-count, load_is)
