-- What `write` answers, and what it leaves in the output.
use Rattle.std.specs.Prelude.{◌≡◌, ℕ, List}
use Rattle.b3d_spec.specs.declared.Mode.{Mode}
use Rattle.b3d_spec.specs.declared.Written.{Written}
use Rattle.b3d_spec.specs.Answers.{write_answer, write_output}
use Rattle.b3d_spec.specs.Rebuild.{Lent}

-- what `write` promises for the lent tables T with names in ns, of the output before it (out) and after it (put), and of its answer r
pub record Writes (mode : Mode) (T : Lent) (ns out put : List ℕ) (r : Written) : Type 0 where
  -- r is 01's answer
  pub answer : r ≡ write_answer mode T ns out
  -- the output is the file, then what stood there; where refused, what stood there
  pub output : put ≡ write_output mode T ns out
