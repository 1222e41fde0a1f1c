-- What an answer says of a mesh: a refusal is the refusal, and a tally with its vertices is that of the mesh.
use Rattle.std.specs.Prelude.{Ok, Err}
use Rattle.layout.proofs.AnswerLaws.{pair_inj}
use Rattle.layout.specs.declared.Refusal.{Refusal}
use mathlib.Core.Path.{◌≡◌, refl, sym}
use Prim.Native.Nat.{ℕ}
use native.Mathlib.Omega.{arith}
use lib.ListN.{length}
use Rattle.layout.specs.Result.{Result, accept, reject}
use Rattle.b3d_spec.specs.Scene.{Mesh}
use Rattle.b3d_judge_tally.specs.Tally.{mesh_tally}
use Rattle.b3d_judge_tally.specs.declared.Tally.{Tally}
use Rattle.b3d_judge_mesh.specs.Answers.{meshed}

pub meshed-bad : (o : Result Mesh) (e : Refusal) → meshed o ≡ Err e → o ≡ reject e.number e.place
meshed-bad (accept m) e h = let z : ◌≡◌ {A = ℕ} 0 1 = cc in absurd (omega arith)
meshed-bad (reject n p) e h = cc

-- a mesh with so many vertices and this tally
pub record GaveMesh (o : Result Mesh) (own : ℕ) (t : Tally) : Type 0 where
  pub value : Mesh
  pub is : o ≡ accept value
  pub own_is : own ≡ length value.vertices
  pub has : t ≡ mesh_tally value

pub meshed-good : (o : Result Mesh) (own : ℕ) (t : Tally) → meshed o ≡ Ok (own, t) → GaveMesh o own t
meshed-good (accept m) own t h = let p = pair_inj _ _ _ _ (sym h) in record { value = m; is = refl; own_is = p.0; has = p.1 }
meshed-good (reject n p) own t h = let z : ◌≡◌ {A = ℕ} 0 1 = cc in absurd (omega arith)
