-- What a verdict says of what was read.
use Rattle.std.specs.Prelude.{Ok, Err}
use Rattle.layout.specs.declared.Refusal.{Refusal}
use mathlib.Core.Path.{◌≡◌, refl}
use Prim.Native.Nat.{ℕ}
use native.Mathlib.Omega.{arith}
use Rattle.layout.specs.Result.{Result, accept, reject}
use Rattle.b3d_spec.specs.Scene.{Scene}
use Rattle.b3d_judge_tally.specs.Tally.{tally_of}
use Rattle.b3d_judge.specs.Answers.{verdict_of}
use Rattle.b3d_judge_file_body.specs.declared.Summary.{Summary}

abbrev pub summary_of : Scene → Summary
summary_of t = record { version = t.version; n_texs = t.slots; tally = tally_of t }

pub record Good (o : Result Scene) (x : Summary) : Type 0 where
  pub scene : Scene
  pub is : o ≡ accept scene
  pub same : x ≡ summary_of scene

pub was-bad : (o : Result Scene) (e : Refusal) → verdict_of o ≡ Err e → o ≡ reject e.number e.place
was-bad (accept t) e h = let z : ◌≡◌ {A = ℕ} 0 1 = cc in absurd (omega arith)
was-bad (reject n q) e h = cc

pub was-good : (o : Result Scene) (x : Summary) → verdict_of o ≡ Ok x → Good o x
was-good (accept t) x h = record { scene = t; is = refl; same = cc }
was-good (reject n p) x h = let z : ◌≡◌ {A = ℕ} 0 1 = cc in absurd (omega arith)
