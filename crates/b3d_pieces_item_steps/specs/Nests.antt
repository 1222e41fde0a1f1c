-- How far the nesting rule has come, by a record's numbers.
use Rattle.std.specs.Prelude.{ℕ, ltb}
use Rattle.wire.specs.Test.{if}

-- the turn n, or 4, which is past every turn, if n is greater
unfoldable pub last_turn : ℕ → ℕ
last_turn n = if (ltb n 4) n 4
