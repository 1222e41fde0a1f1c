-- The name of a row, or a fallback word.
use Rattle.std.specs.Prelude.{ℕ, ◌+◌, ◌&&◌, List, length, take, drop, ltb, leb}
use Rattle.wire.specs.Test.{if}

-- what 01 calls a printed name: the `size` bytes of s from `place` on, if there are any and they lie in s; else the fallback
unfoldable pub name_or : List ℕ → List ℕ → ℕ → ℕ → List ℕ
name_or s fallback place size = if (ltb 0 size && leb (place + size) (length s)) (take size (drop place s)) fallback
