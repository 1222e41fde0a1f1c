-- Numbers of the piece judge that follow from the limits of a file: how many bytes it counts, how many chunks are open, how many words hold them.
use Rattle.std.specs.Prelude.{ℕ}

-- the most bytes that the piece judge counts, and so the most rows: one more than a file may have, which tells that it is too large
abbrev pub most_counted : ℕ
most_counted = 16777217

-- stands for a number of rows that no file has: one more than is counted
abbrev pub over_counted : ℕ
over_counted = 16777218

-- the most chunks that are open around another one: a BB3D, 16 nodes and a MESH
abbrev pub most_around : ℕ
most_around = 18

-- the most chunks that are open around a MESH: a BB3D and 16 nodes
abbrev pub most_around_mesh : ℕ
most_around_mesh = 17

-- the words of the 19 records that a call must be lent, 11 each
abbrev pub lent_words : ℕ
lent_words = 209
