-- The laws of the loop's functions, in the words of the code.
use mathlib.Core.Path.{◌≡◌, refl, ap, sym, ◌∙◌}
use Prim.Native.Nat.{ℕ, ◌+◌, ◌<◌}
use native.Mathlib.Omega.{arith}
use mathlib.Core.Bool.{Bool, true, false}
use Rattle.b3d_pieces_spec.specs.declared.Open.{Open}
use Rattle.b3d_pieces_item_steps.specs.declared.Now.{Now}
use Rattle.b3d_pieces_step.specs.Turns.{slot_of, pends}
use Rattle.b3d_pieces_judge_step.specs.declared.Judge.{Judge}
use Rattle.b3d_pieces_judge_step.specs.declared.Taken.{Taken}
use Rattle.b3d_pieces_judge_step.specs.Takes.{TakeIs}
use Rattle.b3d_pieces_judge_step.specs.declared.Turn.{Turn}
use Rattle.b3d_pieces_judge_step.specs.Loops.{Begins, next_at, StepIs}

pub begins-is : (j : Judge) (bytes get : ℕ) → get ≡ slot_of j.depth → (f : Open) (r : Turn) → r ≡ record { judge = j; at = 0; end = bytes; get = get; put = 0; rec = f } → Begins j bytes r
begins-is j bytes get e f r q = rw q (record { judge = refl; at = refl; end = refl; get = e })

module _ (now : Now) (at : ℕ) (p : Bool) (ep : p ≡ pends now) (r : ℕ) where
  pub next_waits : p ≡ true → r ≡ at → r ≡ next_at (pends now) at
  next_waits e q = q ∙ ap (λ (y : Bool). next_at y at) (sym e ∙ ep)

  pub next-goes : p ≡ false → r ≡ at + 1 → r ≡ next_at (pends now) at
  next-goes e q = q ∙ ap (λ (y : Bool). next_at y at) (sym e ∙ ep)

pub ruleset next_laws = (next_waits, next-goes)

pub at_small : (at end : ℕ) → at < end → end < 18446744073709551616 → at < 18446744073709551615
at_small at end h l = omega arith

pub step_is : (t : Turn) (rec : Open) (b : ℕ) (x : Taken) → TakeIs t.judge rec b x → (at : ℕ) → at ≡ next_at (pends x.judge.now) t.at → (get : ℕ) → get ≡ slot_of x.judge.depth
    → (r : Turn) → r ≡ record { judge = x.judge; at = at; end = t.end; get = get; put = x.put; rec = x.rec } → StepIs t rec b r
step_is t rec b x h at ea get eg r q = rw q (record { took = h; at = ea; end = refl; get = eg })

pub ruleset step_laws = (begins-is, at_small, step_is)
