-- What the judges' answers say of counts.
use Rattle.std.specs.Prelude.{Ok, Err}
use Rattle.std.specs.Prelude as std
use Rattle.layout.proofs.AnswerLaws.{pair_inj}
use Rattle.layout.specs.declared.Refusal.{Refusal}
use mathlib.Core.Path.{◌≡◌, refl, sym, ap, ◌∙◌}
use Prim.Native.Nat.{ℕ}
use native.Mathlib.Omega.{arith}
use mathlib.Core.List.{List}
use Rattle.wire.specs.declared.Cursor.{Cursor}
use Rattle.layout.specs.Result.{Result, accept, reject}
use Rattle.b3d_spec.specs.Parse.{Vertices, slots_of}
use Rattle.b3d_spec.specs.Scene.{Texture, Brush}
use Rattle.b3d_judge_tally.specs.Answers.{Judges}
use Rattle.b3d_judge_tally.specs.Tally.{texs_tally}
use Rattle.b3d_judge_tally.specs.declared.Tally.{Tally}
use Rattle.b3d_judge_materials.specs.Answers.{SlotsAre}
use Rattle.b3d_judge_bodies.specs.Answers.{Shapes}
use Rattle.b3d_judge_materials.proofs.TallyCountLaws.{texs_count, brus_count}
use Rattle.b3d_mend_spec.specs.Trees.{textures_of, vertices_of}
use Rattle.b3d_mend_write_scopes.specs.Shown.{brush_count}

pub texs_none : (o : Result (List Texture)) (from to : ℕ) (r : std.Result Tally Refusal) → Judges texs_tally o from to r → (n : Refusal) → r ≡ Err n → 0 ≡ textures_of o
unfolding textures_of
texs_none (accept l) from to r h n e = let q = h.is in let z : ◌≡◌ {A = ℕ} 0 1 = cc in absurd (omega arith)
texs_none (reject m q) from to r h n e = refl

pub texs_some : (o : Result (List Texture)) (from to : ℕ) (r : std.Result Tally Refusal) → Judges texs_tally o from to r → (t : Tally) → r ≡ Ok t → t.textures ≡ textures_of o
unfolding textures_of
texs_some (accept l) from to r h t e = let q = h.is in let z : t ≡ texs_tally l = cc in ap (λ (y : Tally). y.textures) z ∙ texs_count l
texs_some (reject m q) from to r h t e = let q = h.is in let z : ◌≡◌ {A = ℕ} 0 1 = cc in absurd (omega arith)

pub brus_none : (o : Result (ℕ × List Brush)) (from to : ℕ) (r : std.Result (ℕ × Tally) Refusal) → SlotsAre o from to r → (n : Refusal) → r ≡ Err n → 0 ≡ brush_count o
unfolding brush_count
brus_none (accept l) from to r h n e = let q = h.is in let z : ◌≡◌ {A = ℕ} 0 1 = cc in absurd (omega arith)
brus_none (reject m q) from to r h n e = refl

pub brus_some : (o : Result (ℕ × List Brush)) (from to : ℕ) (r : std.Result (ℕ × Tally) Refusal) → SlotsAre o from to r → (k : ℕ) (t : Tally) → r ≡ Ok (k, t) → t.brushes ≡ brush_count o
unfolding brush_count
brus_some (accept x) from to r h k t e = let p = pair_inj _ _ _ _ (sym e ∙ h.is) in ap (λ (y : Tally). y.brushes) p.1 ∙ brus_count (slots_of x.0 x.1) x.1
brus_some (reject m q) from to r h k t e = let q = h.is in let z : ◌≡◌ {A = ℕ} 0 1 = cc in absurd (omega arith)

pub vrts_none : (o : Result Vertices) (b : Cursor) (r : std.Result (ℕ × ℕ) Refusal) → Shapes o b r → (n : Refusal) → r ≡ Err n → 0 ≡ vertices_of o
unfolding vertices_of
vrts_none (accept l) b r h n e = let q = h.is in let z : ◌≡◌ {A = ℕ} 0 1 = cc in absurd (omega arith)
vrts_none (reject m q) b r h n e = refl

pub vrts_some : (o : Result Vertices) (b : Cursor) (r : std.Result (ℕ × ℕ) Refusal) → Shapes o b r → (k words : ℕ) → r ≡ Ok (k, words) → k ≡ vertices_of o
unfolding vertices_of
vrts_some (accept v) b r h k words e = let p = pair_inj _ _ _ _ (sym e ∙ h.is) in p.0
vrts_some (reject m q) b r h k words e = let q = h.is in let z : ◌≡◌ {A = ℕ} 0 1 = cc in absurd (omega arith)

pub ruleset count_laws = (texs_none, texs_some, brus_none, brus_some, vrts_none, vrts_some)
