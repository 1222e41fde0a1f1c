-- What was promised of a mode holds of the number that names it.
use mathlib.Core.Path.{◌≡◌, ◌∙◌, ap}
use Prim.Native.Nat.{ℕ}
use mathlib.Core.List.{List}
use Rattle.b3d_spec.specs.declared.Answer.{Answer}
use Rattle.b3d_spec.specs.declared.Mode.{Mode}
use Rattle.b3d_spec.specs.Answers.{judge, answer}
use Rattle.b3d_read.specs.Reads.{Reads}

module _ (m k : Mode) (em : m ≡ k) (s : List ℕ) (a : Answer) where
  pub mode_judge : a ≡ answer (judge m s) → a ≡ answer (judge k s)
  mode_judge h = h ∙ ap (λ (x : Mode). answer (judge x s)) em

  pub mode_reads : (before after : List (List ℕ)) → Reads m s before after a → Reads k s before after a
  mode_reads before after h = rw (← em) h
