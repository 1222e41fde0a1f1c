-- The answers of the walk's functions as values of its definitions.
use Rattle.std.specs.Prelude as std
use Rattle.std.specs.Prelude.{◌≡◌, ℕ, ◌+◌, ◌≤◌, Some, None}
use Rattle.layout.specs.Result.{Result, accept, reject}
use Rattle.layout.specs.Refusals as refusals
use Rattle.b3d_label_spec.specs.Walk.{Printed, labelled}
use Rattle.b3d_label_spec.specs.declared.TrayLabel.{TrayLabel}

-- ---- vertices

-- what an answer says in the paper's numbers: how many vertices; or 14, at place 0
abbrev pub many_says : std.Option ℕ → Result ℕ
many_says (Some n) = accept n
many_says None = reject refusals.no_label 0

-- what a step of the walk says, as the label has it: for each refusal 14 at place 0
abbrev pub on_label : Result ℕ → Result ℕ
on_label (accept n) = accept n
on_label (reject n p) = reject refusals.no_label 0

-- ---- a label

-- r is the label of o
pub record Labels (o : Result Printed) (n : ℕ) (r : TrayLabel) : Type 0 where
  -- r says what o says
  pub is : r ≡ labelled o
  -- the name on r lies among n bytes
  pub within : r.name_place + r.name_length ≤ n
