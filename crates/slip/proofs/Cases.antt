-- Worked slips, proved by computing: what writing and reading answer.
use mathlib.Core.Path.{◌≡◌, refl}
use Prim.Native.Nat.{ℕ, zero, suc}
use mathlib.Core.List.{List, [], ◌∷◌, ◌++◌, map}
use lib.ListN.{replicate}
use Rattle.wire.specs.Bytes.{over}
use Rattle.wire.specs.Test.{if}
use Rattle.layout.specs.Result.{Result, accept, reject, check}
use Rattle.shared_seven_bit_groups.specs.Groups.{front_in, front, groups, groups_of, write_numbers, goes_on, last, read_in, read_number, read_numbers}
use Rattle.b3d_spec.specs.Rules.{row_limit}
use Rattle.b3d_spec.specs.Answers.{room_for, written, output_after}
use Rattle.b3d_spec.specs.declared.Written.{Written}
use Rattle.slip.specs.Slips.{first_over, write_slip_answer, write_slip_output, limits_within, read_within, slip_within, write_within}

-- ---- writing, into an output of so many bytes 9

pub record WriteCase : Type 0 where
  pub numbers : List ℕ
  pub room : ℕ
  pub answer : Written
  pub leaves : List ℕ

abbrev pub nines : ℕ → List ℕ
nines n = replicate n 9

abbrev pub zeros : ℕ → List ℕ
zeros n = replicate n 0

abbrev pub wrote : ℕ → Written
wrote n = record { number = 0; place = 0; size = n }

abbrev pub refused : ℕ → ℕ → Written
refused n p = record { number = n; place = p; size = 0 }

-- the most of each number, and its slip
abbrev pub most : List ℕ
most = 99 ∷ 8 ∷ replicate 10 row_limit

abbrev pub threes : ℕ → List ℕ
threes zero = []
threes (suc n) = 0xFF ∷ 0xFF ∷ 0x7F ∷ threes n

-- the same where a table has 16,383 rows at most, as before 02's E12
abbrev pub most_before : List ℕ
most_before = 99 ∷ 8 ∷ replicate 10 16383

abbrev pub twos : ℕ → List ℕ
twos zero = []
twos (suc n) = 0xFF ∷ 0x7F ∷ twos n

abbrev pub write_cases : List WriteCase
write_cases =
    -- file P of 01: version 1, no rows
    record { numbers = 1 ∷ zeros 11; room = 14; answer = wrote 12; leaves = 1 ∷ zeros 11 ++ nines 2 }
    -- 128 nodes take two groups
    ∷ record { numbers = 1 ∷ zeros 3 ++ 128 ∷ zeros 7; room = 13; answer = wrote 13; leaves = 1 ∷ zeros 3 ++ 0x81 ∷ 0x00 ∷ zeros 7 }
    -- the longest slip, with and without room
    ∷ record { numbers = most; room = 32; answer = wrote 32; leaves = 0x63 ∷ 0x08 ∷ threes 10 }
    ∷ record { numbers = most; room = 31; answer = refused 11 32; leaves = nines 31 }
    -- the longest of those before
    ∷ record { numbers = most_before; room = 22; answer = wrote 22; leaves = 0x63 ∷ 0x08 ∷ twos 10 }
    -- the first number out of its range; 13 before 11
    ∷ record { numbers = 100 ∷ 9 ∷ zeros 10; room = 22; answer = refused 13 0; leaves = nines 22 }
    ∷ record { numbers = 99 ∷ 9 ∷ zeros 10; room = 0; answer = refused 13 1; leaves = [] }
    ∷ record { numbers = zeros 11 ++ 2097152 ∷ []; room = 32; answer = refused 13 11; leaves = nines 32 }
    ∷ []

pub write_cases_hold : map {B = Written × List ℕ} (λ c. (write_slip_answer c.numbers (nines c.room), write_slip_output c.numbers (nines c.room))) write_cases
    ≡ map {B = Written × List ℕ} (λ c. (c.answer, c.leaves)) write_cases
unfolding over if check front_in front groups groups_of write_numbers room_for written output_after limits_within first_over slip_within write_within write_slip_answer write_slip_output
write_cases_hold = refl

-- ---- reading

-- by a reader of tables of so many rows at most
pub record ReadCase : Type 0 where
  pub rows : ℕ
  pub slip : List ℕ
  pub gives : Result (List ℕ)

abbrev pub read_cases : List ReadCase
read_cases =
    record { rows = row_limit; slip = 1 ∷ zeros 11; gives = accept (1 ∷ zeros 11) }
    ∷ record { rows = row_limit; slip = 0x63 ∷ 0x08 ∷ threes 10; gives = accept most }
    -- an older slip reads the same; an older reader refuses three groups as soon as the second says that there is a third
    ∷ record { rows = row_limit; slip = 0x63 ∷ 0x08 ∷ twos 10; gives = accept most_before }
    ∷ record { rows = 16383; slip = 0x63 ∷ 0x08 ∷ twos 10; gives = accept most_before }
    ∷ record { rows = 16383; slip = 0x63 ∷ 0x08 ∷ threes 10; gives = reject 13 2 }
    ∷ record { rows = 16383; slip = 1 ∷ 0 ∷ 0x81 ∷ 0x80 ∷ []; gives = reject 13 2 }
    -- cut: at the slip's length
    ∷ record { rows = row_limit; slip = []; gives = reject 13 0 }
    ∷ record { rows = row_limit; slip = zeros 11; gives = reject 13 11 }
    ∷ record { rows = row_limit; slip = 1 ∷ 0 ∷ 0x81 ∷ []; gives = reject 13 3 }
    -- spare: at the first spare byte
    ∷ record { rows = row_limit; slip = zeros 14; gives = reject 13 12 }
    -- wrong at once, even where the slip is cut right after: a longer form, a fourth group, a second group of n_texs
    ∷ record { rows = row_limit; slip = 1 ∷ 0 ∷ 0x80 ∷ []; gives = reject 13 2 }
    ∷ record { rows = row_limit; slip = 1 ∷ 0 ∷ 0x81 ∷ 0x80 ∷ 0x80 ∷ []; gives = reject 13 2 }
    ∷ record { rows = row_limit; slip = 1 ∷ 0x81 ∷ []; gives = reject 13 1 }
    -- out of range
    ∷ record { rows = row_limit; slip = 0x64 ∷ zeros 11; gives = reject 13 0 }
    ∷ record { rows = row_limit; slip = 1 ∷ 9 ∷ []; gives = reject 13 1 }
    ∷ []

pub read_cases_hold : map (λ c. read_within c.rows c.slip) read_cases ≡ map (λ c. c.gives) read_cases
unfolding if check front_in front groups groups_of goes_on last read_in read_number read_numbers limits_within read_within
read_cases_hold = refl
