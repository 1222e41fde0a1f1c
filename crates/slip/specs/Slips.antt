-- A slip is twelve numbers of a scene in groups, one after the other: version, n_texs and the ten row counts. What writer and reader answer, and what is
-- left in the output, on every input.
use Rattle.std.specs.Prelude.{ℕ, suc, List, [], ◌∷◌, length, replicate, get_or, leb, ltb}
use Rattle.wire.specs.Test.{if}
use Rattle.layout.specs.Result.{Result, accept, reject, check, ◌>>=◌}
use Rattle.layout.specs.Refusals as refusals
use Rattle.shared_seven_bit_groups.specs.Groups.{write_numbers, read_numbers}
use Rattle.b3d_spec.specs.Rules.{row_limit, highest_version, most_slots}
use Rattle.b3d_spec.specs.Answers.{room_for, written, output_after}
use Rattle.b3d_spec.specs.declared.Written.{Written}
use Rattle.slip.specs.declared.Slip.{Slip}

-- the most that each of the twelve numbers may be, by 01, where a table has at most `rows` rows; with it goes the most groups that it may take
unfoldable pub limits_within : ℕ → List ℕ
limits_within rows = highest_version ∷ most_slots ∷ replicate 10 rows

-- the most that number i may be, where a table has at most `rows` rows
abbrev pub limit_within : ℕ → ℕ → ℕ
limit_within rows i = get_or (limits_within rows) i rows

-- the most that each of the twelve numbers may be with today's row limit
abbrev pub limits : List ℕ
limits = limits_within row_limit

-- the most that number i may be with today's row limit
abbrev pub limit_at : ℕ → ℕ
limit_at i = limit_within row_limit i

-- ---- writing

-- the position of the first number that is more than its limit; the length of the shorter list if none is
unfoldable pub first_over : List ℕ → List ℕ → ℕ
first_over (m ∷ ms) (n ∷ ns) = if (ltb m n) 0 (suc (first_over ms ns))
first_over [] ns = 0
first_over (m ∷ ms) [] = 0

-- the slip of the numbers ns, where a table has at most `rows` rows; 13 at the position of the first that is out of its range
unfoldable pub slip_within : ℕ → List ℕ → Result (List ℕ)
slip_within rows ns = do
  _ ← check (leb 12 (first_over (limits_within rows) ns)) refusals.no_slip (first_over (limits_within rows) ns)
  accept (write_numbers ns [])

-- the slip of the numbers ns for an output of `room` bytes, where a table has at most `rows` rows: 13, then 11
unfoldable pub write_within : ℕ → List ℕ → ℕ → Result (List ℕ)
write_within rows ns room = do
  b ← slip_within rows ns
  room_for room b

-- the slip of the numbers ns with today's row limit
abbrev pub slip_for : List ℕ → Result (List ℕ)
slip_for ns = slip_within row_limit ns

-- the slip of the numbers ns for an output of `room` bytes with today's row limit
abbrev pub write_slip : List ℕ → ℕ → Result (List ℕ)
write_slip ns room = write_within row_limit ns room

-- what the slip writer answers for the numbers ns, lent the output `out`
unfoldable pub write_slip_answer : List ℕ → List ℕ → Written
write_slip_answer ns out = written (write_slip ns (length out))

-- what the slip writer leaves in the output `out`
unfoldable pub write_slip_output : List ℕ → List ℕ → List ℕ
write_slip_output ns out = output_after (write_slip ns (length out)) out

-- ---- reading

-- the twelve numbers of the slip s, where a table has at most `rows` rows; after them 13 at the first spare byte
unfoldable pub read_within : ℕ → List ℕ → Result (List ℕ)
read_within rows s = do
  x ← read_numbers (limits_within rows) 0 s
  _ ← check (leb (length x.left) 0) refusals.no_slip x.place
  accept x.value

-- the twelve numbers of the slip s with today's row limit
abbrev pub read_slip : List ℕ → Result (List ℕ)
read_slip s = read_within row_limit s

-- the reader's answer by what was read: the numbers, or a refusal and twelve zeros
unfoldable pub slip_of : Result (List ℕ) → Slip
slip_of (accept ns) = record { number = 0; place = 0; numbers = ns }
slip_of (reject n p) = record { number = n; place = p; numbers = replicate 12 0 }

-- what the slip reader answers for the slip s
unfoldable pub read_slip_answer : List ℕ → Slip
read_slip_answer s = slip_of (read_slip s)
