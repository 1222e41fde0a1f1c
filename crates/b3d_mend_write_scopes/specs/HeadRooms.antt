-- Where headers are put: in the file, by a walk that is wet.
use Rattle.std.specs.Prelude.{ℕ, ◌+◌, ◌<◌, ◌≤◌, Bool, true, false, List, length}

abbrev pub head_wet : Bool → Bool → Bool
head_wet true wet = false
head_wet false wet = wet

-- how far a header may go: where one is put, to the output's end
abbrev pub head_end : Bool → ℕ → List ℕ → ℕ
head_end true at xs = length xs
head_end false at xs = at + 8

-- a header has room, and the length is a number of four bytes
pub record HeadRoom (report wet : Bool) (at size : ℕ) (xs : List ℕ) : Type 0 where
  pub room : at + 8 ≤ head_end (head_wet report wet) at xs
  pub small : size < 4294967296
