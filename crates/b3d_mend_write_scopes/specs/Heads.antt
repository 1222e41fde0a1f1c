-- Where the body of a chunk goes: in the report a header shows nothing.
use Rattle.std.specs.Prelude.{ℕ, ◌+◌, Bool, true, false}

abbrev pub body_at : Bool → ℕ → ℕ
body_at true at = at
body_at false at = at + 8
