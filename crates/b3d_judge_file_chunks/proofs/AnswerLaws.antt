-- What the answers say of the phases of a file: a refusal is the refusal, and a tally is that of what was read.
use Rattle.std.specs.Prelude.{Ok, Err}
use Rattle.std.specs.Prelude as std
use Rattle.layout.proofs.AnswerLaws.{pair_inj}
use Rattle.layout.specs.declared.Refusal.{Refusal}
use mathlib.Core.Path.{◌≡◌, refl, ap, sym, subst}
use Prim.Native.Nat.{ℕ}
use native.Mathlib.Omega.{arith}
use mathlib.Core.List.{List}
use Rattle.wire.specs.declared.Cursor.{Cursor}
use Rattle.layout.specs.Result.{Result, accept, reject}
use Rattle.layout.proofs.ResultLaws.{got_inj}
use Rattle.b3d_spec.specs.Tags.{Chunks, Found}
use Rattle.b3d_spec.specs.Scene.{Brush, Forest}
use Rattle.b3d_judge_tally.specs.Tally.{brus_tally, forest_tally, plus}
use Rattle.b3d_judge_tally.specs.declared.Tally.{Tally}
use Rattle.b3d_judge_file_chunks.specs.Answers.{Phases, brushes, brushed_by, Brushes, rested, tallied, phased}

pub tallied-bad : {A : Type 0} (f : A → Tally) (o : Result (Found A)) (e q : ℕ) → reject e q ≡ tallied f o → o ≡ reject e q
tallied-bad f (accept x) e q h = let z : ◌≡◌ {A = ℕ} 0 1 = cc in absurd (omega arith)
tallied-bad f (reject n p) e q h = cc

pub record GaveFound {A : Type 0} (f : A → Tally) (o : Result (Found A)) (t : Tally) (rest : Chunks) : Type 0 where
  pub value : A
  pub is : o ≡ accept (record { value = value; rest = rest })
  pub has : t ≡ f value

pub tallied-good : {A : Type 0} (f : A → Tally) (o : Result (Found A)) (t : Tally) (rest : Chunks) → accept (t, rest) ≡ tallied f o → GaveFound f o t rest
tallied-good f (accept x) t rest h =
    let e : ◌≡◌ {A = Tally × Chunks} (t, rest) (f x.value, x.rest) = got_inj h in
    record { value = x.value; is = λ i. accept (record { value = x.value; rest = (sym e i).1 }); has = ap (λ (z : Tally × Chunks). z.0) e }
tallied-good f (reject n p) t rest h = let z : ◌≡◌ {A = ℕ} 0 1 = cc in absurd (omega arith)

pub phases_at : {A : Type 0} (f : A → Tally) (o : Result (Found A)) (rest : Cursor → Chunks) (from : Cursor) (k : std.Result (Tally × Cursor) Refusal) → Phases f o rest from k → {x : (std.Result (Tally × Cursor) Refusal)} → k ≡ x → phased rest x ≡ tallied f o
phases_at f o rest from k h z = subst (λ (x : std.Result (Tally × Cursor) Refusal). phased rest x ≡ tallied f o) z h.is

pub brushes-at : (o : Result (Found (ℕ × List Brush))) (rest : Cursor → Chunks) (from : Cursor) (k : std.Result (ℕ × Tally × Cursor) Refusal) → Brushes o rest from k → {x : (std.Result (ℕ × Tally × Cursor) Refusal)} → k ≡ x → brushed_by rest x ≡ brushes o
brushes-at o rest from k h z = subst (λ (x : std.Result (ℕ × Tally × Cursor) Refusal). brushed_by rest x ≡ brushes o) z h.is

pub rested-bad : (o : Result ((ℕ × List Brush) × Forest)) (e : Refusal) → rested o ≡ Err e → o ≡ reject e.number e.place
rested-bad (accept x) e h = let z : ◌≡◌ {A = ℕ} 0 1 = cc in absurd (omega arith)
rested-bad (reject n p) e h = cc

pub record GaveRest (o : Result ((ℕ × List Brush) × Forest)) (k : ℕ) (t : Tally) : Type 0 where
  pub value : (ℕ × List Brush) × Forest
  pub is : o ≡ accept value
  pub slots : k ≡ value.0.0
  pub has : t ≡ plus (brus_tally value.0.0 value.0.1) (forest_tally value.1)

pub rested-good : (o : Result ((ℕ × List Brush) × Forest)) (k : ℕ) (t : Tally) → rested o ≡ Ok (k, t) → GaveRest o k t
rested-good (accept x) k t h = let p = pair_inj _ _ _ _ (sym h) in record { value = x; is = refl; slots = p.0; has = p.1 }
rested-good (reject n p) k t h = let z : ◌≡◌ {A = ℕ} 0 1 = cc in absurd (omega arith)
