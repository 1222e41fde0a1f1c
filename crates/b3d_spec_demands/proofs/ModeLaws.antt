-- What is said of the two modes holds.
use mathlib.Core.Logic.{◌⊎◌, inl, inr}
use mathlib.Core.Path.{◌≡◌, refl, ◌∙◌}
use Prim.Native.Nat.{ℕ}
use mathlib.Core.Bool.{false}
use mathlib.Core.List.{List}
use Rattle.wire.specs.Bytes.{word_at}
use Rattle.layout.specs.Result.{Result, accept, reject}
use Rattle.layout.specs.Rules.{unit, holds}
use Rattle.b3d_spec.specs.Answers.{judge}
use Rattle.b3d_spec.specs.Parse.{parse}
use Rattle.b3d_spec.specs.Scene.{Scene}
use Rattle.b3d_spec.specs.declared.Mode.TheVariants.{Strict, Lenient}
use Rattle.b3d_spec.proofs.AnswerLaws.{judge_got, judge-yes}
use Rattle.b3d_spec.proofs.Laws.{strict, lenient, bad-colour, no-colour}
use Rattle.b3d_spec_demands.specs.Demands.{Colours}

-- a refusal of the parser is one of the judge; the others are 10
others-of : (s : List ℕ) (n p : ℕ) → judge Strict s ≡ reject n p → (judge Lenient s ≡ reject n p) ⊎ ((n ≡ 6) × (holds unit (word_at s p) ≡ false))
unfolding judge
others-of s n p e = by (parse Strict s) refl
  where
    by : (o : Result Scene) → parse Strict s ≡ o → (judge Lenient s ≡ reject n p) ⊎ ((n ≡ 6) × (holds unit (word_at s p) ≡ false))
    by (accept t) q = inl (rw (strict s t q).0 (rw q at e))
    by (reject i r) q =
        let z : reject i r ≡ reject n p = rw q at e in
        elim (no-colour s n p (q ∙ cc)) [ inl x ↦ inl (rw x) | inr x ↦ inr x ]

pub modes_hold : (s : List ℕ) → Colours s
unfolding judge
modes_hold s = record {
  same = λ t e. let g = judge_got Strict s t e in judge-yes Lenient s t (strict s t g.0).0 g.1;
  pass = λ t e. (strict s t (judge_got Strict s t e).0).1;
  taken = λ t e h. let g = judge_got Lenient s t e in judge-yes Strict s t (lenient s t g.0 h) g.1;
  refused = λ t e h. let x = bad-colour s t (judge_got Lenient s t e).0 h in (x.0, rw x.1, x.2);
  others = others-of s;
}
