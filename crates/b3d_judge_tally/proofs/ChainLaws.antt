-- One more of a run of chunks: its tally goes to the tally so far.
use Rattle.std.specs.Prelude.{Ok}
use mathlib.Core.Path.{refl, ap, sym, ◌≡◌, ◌∙◌}
use Rattle.layout.specs.Result.{Result, accept, reject, ◌>>=◌}
use Rattle.b3d_judge_tally.specs.Tally.{no_tally, plus}
use Rattle.b3d_judge_tally.specs.Answers.{judged, judged_from}
use Rattle.b3d_judge_tally.specs.declared.Tally.{Tally}
use Rattle.b3d_judge_tally.proofs.TallyLaws.{none-plus, plus_none, plus_assoc}
use Rattle.b3d_judge_tally.proofs.AnswerLaws.{Gave}

pub judged-start : {A : Type 0} (f : A → Tally) (o : Result A) → judged f o ≡ judged_from no_tally f o
judged-start f (accept x) = ap Ok (sym (none-plus (f x)))
judged-start f (reject n p) = refl

pub judged-end : {A : Type 0} (f : A → Tally) (m : Tally) (a : A) → f a ≡ no_tally → judged_from m f (accept a) ≡ Ok m
judged-end f m a e = ap Ok (ap (plus m) e ∙ plus_none m)

-- a run of parts a, then the rest b, makes join a b
module _ {A B : Type 0} (one : A → Tally) (all : B → Tally) (join : A → B → B) (law : (a : A) (b : B) → all (join a b) ≡ plus (one a) (all b)) where
  pub judged-more : (o : Result A) (k : Tally) → Gave one o k → (m y : Tally) → y ≡ plus m k → (rest : Result B)
      → judged_from m all (o >>= λ a. rest >>= λ b. accept (join a b)) ≡ judged_from y all rest
  judged-more o k g m y e rest = ap (λ (i : Result A). judged_from m all (i >>= λ a. rest >>= λ b. accept (join a b))) g.is ∙ go rest
    where
      go : (i : Result B) → judged_from m all (i >>= λ b. accept (join g.value b)) ≡ judged_from y all i
      go (reject n p) = refl
      go (accept b) =
          ap Ok (ap (plus m) (law g.value b) ∙ sym (plus_assoc m (one g.value) (all b)) ∙ ap (λ (t : Tally). plus t (all b)) (ap (plus m) (sym g.has) ∙ sym e))
