-- The laws of the tests of a part and of the totals, in the words of the code.
use mathlib.Core.Path.{◌≡◌, refl, ◌∙◌}
use Prim.Native.Nat.{ℕ, zero, suc, ◌+◌, ◌-◌, ◌<◌, ◌≤◌}
use native.Mathlib.Omega.{arith}
use mathlib.Core.Bool.{Bool, false}
use lib.Dec.{eqb}
use borrow.Author.Tests.{eq-eqb, eqb-true}
use Rattle.b3d_pieces_spec.specs.declared.Totals.{Totals}
use Rattle.b3d_pieces_spec.specs.declared.Kept.{Kept}
use Rattle.b3d_pieces_spec.specs.declared.Part.{Part}
use Rattle.b3d_pieces_spec.specs.declared.Part.TheVariants.{Text, Row, Skip}
use Rattle.b3d_pieces_spec.specs.Good.{Words, Off, sum, worth}
use Rattle.b3d_pieces_valid_record.specs.Tests.{Tests, Small, RowOff}
use Rattle.b3d_pieces_valid_record.proofs.OpenChunkTestLaws.{never}

pub sum_is : (g : Totals) (a b c d e f h i k l r : ℕ) → Small 16777218 g.textures a → Small 16777218 g.brushes b → Small 16777218 g.rows.nodes c → Small 16777218 g.rows.meshes d → Small 16777218 g.rows.vertices e
    → Small 16777218 g.rows.sets f → Small 16777218 g.rows.triangles h → Small 16777218 g.rows.weights i → Small 16777218 g.rows.lists k → Small 16777218 g.rows.keys l
    → r ≡ a + b + c + d + e + f + h + i + k + l → Small 167772180 (sum g) r
sum_is g a b c d e f h i k l r sa sb sc sd se sf sh si sk sl q =
    let ma = sa.most in let mb = sb.most in let mc = sc.most in let md = sd.most in let me = se.most in
    let mf = sf.most in let mh = sh.most in let mi = si.most in let mk = sk.most in let ml = sl.most in
    record {
      yes = λ m.
          q ∙ same (sa.yes (omega arith)) (sb.yes (omega arith)) (sc.yes (omega arith)) (sd.yes (omega arith)) (se.yes (omega arith)) (sf.yes (omega arith)) (sh.yes (omega arith)) (si.yes (omega arith)) (sk.yes (omega arith)) (sl.yes (omega arith));
      all = λ m.
          q ∙ same (sa.all (omega arith)) (sb.all (omega arith)) (sc.all (omega arith)) (sd.all (omega arith)) (se.all (omega arith)) (sf.all (omega arith)) (sh.all (omega arith)) (si.all (omega arith)) (sk.all (omega arith)) (sl.all (omega arith));
      most = omega arith;
    }
  where
    same : a ≡ g.textures → b ≡ g.brushes → c ≡ g.rows.nodes → d ≡ g.rows.meshes → e ≡ g.rows.vertices → f ≡ g.rows.sets → h ≡ g.rows.triangles → i ≡ g.rows.weights → k ≡ g.rows.lists → l ≡ g.rows.keys
        → a + b + c + d + e + f + h + i + k + l ≡ sum g
    same a1 a2 a3 a4 a5 a6 a7 a8 a9 a10 = omega arith

pub worth_0 : (j r : ℕ) → j ≡ 0 → r ≡ 1 → r ≡ worth j
worth_0 j r e q = rw e q

pub worth_1 : (j r : ℕ) → j ≡ 1 → r ≡ 256 → r ≡ worth j
worth_1 j r e q = rw e q

pub worth_2 : (j r : ℕ) → j ≡ 2 → r ≡ 65536 → r ≡ worth j
worth_2 j r e q = rw e q

pub worth_3 : (j r : ℕ) → (j ≡ 0 → ⊥) → (j ≡ 1 → ⊥) → (j ≡ 2 → ⊥) → r ≡ 16777216 → r ≡ worth j
worth_3 zero r a b c q = absurd (a refl)
worth_3 (suc zero) r a b c q = absurd (b refl)
worth_3 (suc (suc zero)) r a b c q = absurd (c refl)
worth_3 (suc (suc (suc j))) r a b c q = q

pub ruleset worth_laws = (worth_0, worth_1, worth_2, worth_3)

module _ (i j acc : ℕ) (k : Kept) (at size : ℕ) (r : Bool) where
  pub row_before : size < at → r ≡ false → Tests r (RowOff i j acc k at size)
  row_before h q = never r q (λ p. let e = p.0 in omega arith)

  module _ (l : at ≤ size) where
    pub row_other : (size - at ≡ j → ⊥) → r ≡ false → Tests r (RowOff i j acc k at size)
    row_other h q = never r q (λ p. let e = p.0 in h (omega arith))

    module _ (e : size - at ≡ j) where
      pub row-four : 3 < j → r ≡ false → Tests r (RowOff i j acc k at size)
      row-four h q = never r q (λ p. let x = p.1 in omega arith)

      pub row-index : at < i → r ≡ false → Tests r (RowOff i j acc k at size)
      row-index h q = never r q (λ p. let x = p.2 in omega arith)

      module _ (w : ℕ) (ew : w ≡ worth j) where
        pub row-high : w ≤ acc → r ≡ false → Tests r (RowOff i j acc k at size)
        row-high h q = never r q (λ p. let x = p.3 in omega arith)

        pub row_words : j ≤ 3 → i ≤ at → acc < w → Tests r (Words k) → Tests r (RowOff i j acc k at size)
        row_words a b c t = record { yes = λ y. (omega arith, a, b, rw ew at c, t.yes y); all = λ p. t.all p.4 }

pub ruleset row_laws = (row_before, row_other, row-four, row-index, row-high, row_words)

tests-eqb : (a b : ℕ) → Tests (eqb a b) (a ≡ b)
tests-eqb a b = record { yes = λ e. eqb-true a b e; all = λ e. eq-eqb a b e }

module _ (m : Part) (at size : ℕ) (r : Bool) where
  pub mode_text : (fixed : Bool) (start : ℕ) → m ≡ Text fixed start → r ≡ eqb at size → Tests r (Off m at size)
  mode_text fixed start e q = rw (e, q) (tests-eqb at size)

  pub mode_skip : (until : ℕ) → m ≡ Skip until → r ≡ eqb at size → Tests r (Off m at size)
  mode_skip until e q = rw (e, q) (tests-eqb at size)

  pub mode_row : (fixed : Bool) (start i j acc : ℕ) (k : Kept) → m ≡ Row fixed start i j acc k → Tests r (RowOff i j acc k at size) → Tests r (Off m at size)
  mode_row fixed start i j acc k e q = rw e q

pub ruleset mode_laws = (mode_text, mode_skip, mode_row)
