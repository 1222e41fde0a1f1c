-- A vertex row as groups of cells: position, normal, colour and eight sets.
use Rattle.std.specs.Prelude.{ℕ, zero, suc, ◌+◌, ◌-◌, ◌*◌, List, [], ◌++◌, replicate}
use Rattle.b3d_read_row_runs.specs.Pieces.{piece_at, parts_at}

-- n sets of four cells, each of `size` words of s and then zeros, the first word at place p
unfoldable pub sets_at : ℕ → ℕ → List ℕ → ℕ → List ℕ
sets_at zero size s p = []
sets_at (suc n) size s p = piece_at size (4 - size) s p ++ sets_at n size s (p + 4 * size)

-- the 32 cells of a vertex's sets: `sets` sets of `size` words of s from place p on, then zeros
unfoldable pub all_sets : ℕ → ℕ → List ℕ → ℕ → List ℕ
all_sets sets size s p = sets_at sets size s p ++ replicate ((8 - sets) * 4) 0

-- a vertex row: 3 words of a position, a of a normal, b of a colour, and `sets` sets of `size` words
abbrev pub vertex_at : ℕ → ℕ → ℕ → ℕ → List ℕ → ℕ → List ℕ
vertex_at a b sets size = parts_at 3 a 4 b (all_sets sets size)
