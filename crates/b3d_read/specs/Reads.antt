-- What `read` answers, and what it leaves in the ten lent tables.
use Rattle.std.specs.Prelude.{◌≡◌, ℕ, ◌-◌, ◌≤◌, List, [], length, get_or}
use Rattle.b3d_spec.specs.declared.Answer.{Answer}
use Rattle.b3d_spec.specs.declared.Mode.{Mode}
use Rattle.b3d_spec.specs.Answers.{read_answer, read_table}

-- table k of the list ts of tables, the first being table 1; empty where there is none
abbrev pub table_in : List (List ℕ) → ℕ → List ℕ
table_in ts k = get_or ts (k - 1) []

-- how many words table k of the list ts has
abbrev pub room_in : List (List ℕ) → ℕ → ℕ
room_in ts k = length (table_in ts k)

-- what `read` promises for a file s in a mode, of the ten lent tables before and after it, and of its answer r
pub record Reads (mode : Mode) (s : List ℕ) (before after : List (List ℕ)) (r : Answer) : Type 0 where
  -- r is 01's answer for the file and tables of those lengths
  pub answer : r ≡ read_answer mode (room_in before) s
  -- table k is as 01 leaves it: its rows and then what stood there; where refused, what stood there
  pub table : (k : ℕ) → 1 ≤ k → k ≤ 10 → table_in after k ≡ read_table mode k (room_in before) s (table_in before k)
