-- What holds of slips, in the words of 02, where a table has at most `rows` rows: that is `row_limit` today and was 16,383 before E12.
use Rattle.std.specs.Prelude.{◌≡◌, ◌⊎◌, ℕ, ◌+◌, ◌*◌, ◌<◌, ◌≤◌, List, ◌++◌, length, take, get_or}
use Rattle.wire.specs.Bytes.{AllBytes}
use Rattle.layout.specs.Result.{accept, reject}
use Rattle.layout.specs.Refusals as refusals
use Rattle.shared_seven_bit_groups.specs.Groups.{AtMost, groups_of}
use Rattle.b3d_spec.specs.Answers.{room_for}
use Rattle.slip.specs.Slips.{limits_within, limit_within, slip_within, write_within, read_within}

-- the bytes s are wrong, whatever comes after them: refused at p
pub record Wrong (rows : ℕ) (s : List ℕ) (p : ℕ) : Type 0 where
  -- p is one of these bytes
  pub before : p < length s
  -- whatever follows them, 13 is given at p
  pub stays : (r : List ℕ) → read_within rows (s ++ r) ≡ reject refusals.no_slip p

-- the bytes s are a slip that is cut: refused at p
pub record Cut (rows : ℕ) (s : List ℕ) (p : ℕ) : Type 0 where
  -- p is their end
  pub at : p ≡ length s
  -- bytes that complete the slip
  pub rest : List ℕ
  -- the numbers of the completed slip
  pub numbers : List ℕ
  -- with `rest` after s the slip reads as `numbers`
  pub whole : read_within rows (s ++ rest) ≡ accept numbers

-- number i is the first of ns that is out of its range
pub record FirstOut (rows : ℕ) (ns : List ℕ) (i : ℕ) : Type 0 where
  -- i is one of the twelve positions
  pub one : i < 12
  -- number i is more than it may be
  pub out : limit_within rows i < get_or ns i 0
  -- the numbers before i are not more than they may be
  pub before : AtMost (take i (limits_within rows)) (take i ns)

-- E1's promises about slips, where a table has at most `rows` rows
pub record OneSlip (rows : ℕ) : Type 0 where
  -- numbers written give a slip that reads as those numbers
  pub reads_back : (ns b : List ℕ) → length ns ≡ 12 → slip_within rows ns ≡ accept b → read_within rows b ≡ accept ns
  -- the one slip: bytes that read as numbers are what writing these gives
  pub one : (s ns : List ℕ) → AllBytes s → read_within rows s ≡ accept ns → slip_within rows ns ≡ accept s
  -- a slip that is read has twelve numbers
  pub twelve : (s ns : List ℕ) → AllBytes s → read_within rows s ≡ accept ns → length ns ≡ 12
  -- a slip has 12 bytes or more
  pub least : (ns b : List ℕ) → length ns ≡ 12 → slip_within rows ns ≡ accept b → 12 ≤ length b
  -- a slip has at most one byte for each of the first two numbers, and for each count as many as the row limit has groups
  pub most : (ns b : List ℕ) → length ns ≡ 12 → slip_within rows ns ≡ accept b → length b ≤ 2 + 10 * groups_of rows
  -- what is written are bytes
  pub bytes : (ns b : List ℕ) → slip_within rows ns ≡ accept b → AllBytes b
  -- twelve numbers that are written obey each its range
  pub obeys : (ns b : List ℕ) → length ns ≡ 12 → slip_within rows ns ≡ accept b → AtMost (limits_within rows) ns
  -- numbers that obey each its range are written
  pub written : (ns : List ℕ) → AtMost (limits_within rows) ns → (b : List ℕ) × (slip_within rows ns ≡ accept b)
  -- twelve numbers that are refused are refused with 13 at the first that is out of its range
  pub out : (ns : List ℕ) (n i : ℕ) → length ns ≡ 12 → slip_within rows ns ≡ reject n i → (n ≡ refusals.no_slip) × FirstOut rows ns i
  -- 13 comes before 11
  pub first : (ns : List ℕ) (n i room : ℕ) → slip_within rows ns ≡ reject n i → write_within rows ns room ≡ reject n i
  -- 11 is given exactly when the output is shorter than the slip
  pub then : (ns b : List ℕ) (room : ℕ) → slip_within rows ns ≡ accept b → write_within rows ns room ≡ room_for room b
  -- a slip is refused by 13 alone, and as soon as its bytes make it wrong
  pub refused : (s : List ℕ) (n p : ℕ) → read_within rows s ≡ reject n p → (n ≡ refusals.no_slip) × (Wrong rows s p ⊎ Cut rows s p)
