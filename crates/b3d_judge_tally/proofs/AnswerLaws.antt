-- What an answer says of the definition's value: a refusal is its refusal, and a tally is that of what it gave.
use Rattle.std.specs.Prelude.{Ok, Err}
use Rattle.layout.specs.declared.Refusal.{Refusal}
use mathlib.Core.Path.{◌≡◌, refl, ap, sym}
use Prim.Native.Nat.{ℕ, ◌≤◌, ◌-◌}
use native.Mathlib.Omega.{arith}
use Rattle.layout.specs.Result.{Result, accept, reject}
use Rattle.b3d_judge_tally.specs.Answers.{judged, beside, Onward}
use Rattle.b3d_judge_tally.specs.declared.Tally.{Tally}
use Rattle.wire.specs.declared.Cursor.{Cursor}
use Rattle.layout.proofs.ResultLaws.{got_inj}
use Rattle.b3d_spec.specs.Tags.{Chunks, Found}
use Rattle.b3d_judge_tally.specs.Tally.{no_tally}
use Rattle.b3d_judge_tally.proofs.TallyLaws.{within_none}

-- a value with this tally
pub record Gave {A : Type 0} (tally : A → Tally) (o : Result A) (t : Tally) : Type 0 where
  pub value : A
  pub is : o ≡ accept value
  pub has : t ≡ tally value

module _ {A : Type 0} (tally : A → Tally) where
  pub judged_bad : (o : Result A) (e : Refusal) → judged tally o ≡ Err e → o ≡ reject e.number e.place
  judged_bad (accept a) e h = let z : ◌≡◌ {A = ℕ} 0 1 = cc in absurd (omega arith)
  judged_bad (reject n p) e h = cc

  pub judged_good : (o : Result A) (t : Tally) → judged tally o ≡ Ok t → Gave tally o t
  judged_good (accept a) t h = record { value = a; is = refl; has = cc }
  judged_good (reject n p) t h = let z : ◌≡◌ {A = ℕ} 0 1 = cc in absurd (omega arith)

-- a value with this part and this tally, and these chunks left
pub record GaveBeside {A B : Type 0} (part : A → B) (tally : A → Tally) (o : Result (Found A)) (b : B) (t : Tally) (rest : Chunks) : Type 0 where
  pub value : A
  pub is : o ≡ accept (record { value = value; rest = rest })
  pub first : b ≡ part value
  pub has : t ≡ tally value

module _ {A B : Type 0} (part : A → B) (tally : A → Tally) where
  pub beside_bad : (o : Result (Found A)) (e q : ℕ) → reject e q ≡ beside part tally o → o ≡ reject e q
  beside_bad (accept x) e q h = let z : ◌≡◌ {A = ℕ} 0 1 = cc in absurd (omega arith)
  beside_bad (reject n p) e q h = cc

  pub beside_good : (o : Result (Found A)) (b : B) (t : Tally) (rest : Chunks) → accept (b, t, rest) ≡ beside part tally o → GaveBeside part tally o b t rest
  beside_good (accept x) b t rest h =
      let e : ◌≡◌ {A = B × Tally × Chunks} (b, t, rest) (part x.value, tally x.value, x.rest) = got_inj h in
      record { value = x.value; is = λ i. accept (record { value = x.value; rest = (sym e i).2 }); first = ap (λ (z : B × Tally × Chunks). z.0) e; has = ap (λ (z : B × Tally × Chunks). z.1) e }
  beside_good (reject n p) b t rest h = let z : ◌≡◌ {A = ℕ} 0 1 = cc in absurd (omega arith)

-- nothing was passed
pub onward-none : (from : Cursor) (t : Tally) → from.at ≤ from.end → t ≡ no_tally → Onward from from t
onward-none from t h e = record { from_at = omega arith; room = h; same = refl; within = rw e (within_none (from.at - from.at)) }
