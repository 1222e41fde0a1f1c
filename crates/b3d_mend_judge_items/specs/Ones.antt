-- One where a test holds, else none.
use Rattle.std.specs.Prelude.{ℕ, Bool, true, false}

abbrev pub one_if : Bool → ℕ
one_if true = 1
one_if false = 0
