-- The demands in what a caller sees: number, place and size, and the lent words and bytes afterwards.
use Rattle.std.specs.Prelude.{◌⊎◌, ◌≡◌, ℕ, ◌*◌, ◌≤◌, ◌<◌, List, length, take, drop}
use Rattle.wire.specs.Bytes.{AllBytes}
use Rattle.layout.specs.Lists.{All}
use Rattle.layout.specs.Result.{accept, reject}
use Rattle.layout.specs.Refusals as refusals
use Rattle.b3d_spec.specs.declared.Mode.{Mode}
use Rattle.b3d_spec.specs.declared.Mode.TheVariants.{Lenient}
use Rattle.b3d_spec.specs.Answers.{judge, read, read_table, write_answer, copy, clear_answer, clear_output}
use Rattle.b3d_spec.specs.Parse.{parse}
use Rattle.b3d_spec.specs.Rebuild.{Lent}
use Rattle.b3d_spec.specs.Scene.{Scene}
use Rattle.b3d_spec.specs.Tables.{width, tables, counts}
use Rattle.b3d_spec.specs.declared.Answer.{Answer}
use Rattle.b3d_spec.specs.declared.Written.{Written}
use Rattle.b3d_spec_demands.specs.Having.{Has, ReadBack, filled, emptied}
use Rattle.b3d_spec_demands.specs.Demands.{FewRows, HasRoom, Lowest, Alike}

-- ---- reader, for a mode, a file s and lent tables of `room` words

-- what the reader's answer `a` says
pub record ReaderSays (mode : Mode) (room : ℕ → ℕ) (s : List ℕ) (a : Answer) : Type 0 where
  -- 0 only where the file is read: it is accepted, and each table has room
  pub accepted : a.number ≡ 0 → (t : Scene) × (read mode room s ≡ accept t)
  -- 0 wherever the file is read
  pub zero : (t : Scene) → read mode room s ≡ accept t → a.number ≡ 0
  -- any other number is 1 to 11
  pub most : a.number ≤ refusals.too_short
  -- a refused call changes no lent word
  pub untouched : (a.number ≡ 0 → ⊥) → (k : ℕ) (xs : List ℕ) → read_table mode k room s xs ≡ xs
  -- 10: the file keeps the layout rules, and the place is the lowest table with more rows than the limit
  pub ten : a.number ≡ refusals.too_many_rows → (t : Scene) × (parse mode s ≡ accept t) × Lowest (FewRows t) a.place
  -- 11: no table has, and the place is the lowest that is lent too short
  pub eleven : a.number ≡ refusals.too_short → (t : Scene) × (judge mode s ≡ accept t) × Lowest (HasRoom room t) a.place

-- ---- an answer, and the output afterwards

-- what writer and clearer leave in the output `out`, which afterwards holds `after`, with the answer `a`
pub record Leaves (out : List ℕ) (a : Written) (after : List ℕ) : Type 0 where
  -- the output's length stays
  pub long : length after ≡ length out
  -- a refused call changes no byte, and its size is 0
  pub untouched : (a.number ≡ 0 → ⊥) → (after ≡ out) × (a.size ≡ 0)
  -- where the call is not refused, the bytes past the size written stay as found
  pub stay : a.number ≡ 0 → (a.size ≤ length out) × (drop a.size after ≡ drop a.size out)

-- ---- writer, for a mode, tables T, names in ns, and an output

-- what the writer's answer `a` and the output afterwards, `after`, say
pub record WriterSays (mode : Mode) (T : Lent) (ns out : List ℕ) (a : Written) (after : List ℕ) : Type 0 where
  -- the number is 0, 11 or 12
  pub numbers : (a.number ≡ 0) ⊎ ((a.number ≡ refusals.too_short) ⊎ (a.number ≡ refusals.no_such_tables))
  -- the output past what is written stays as found
  pub leaves : Leaves out a after
  -- 12, at place 0, only where no accepted file has the tables
  pub twelve : a.number ≡ refusals.no_such_tables → (a.place ≡ 0) × ((s : List ℕ) → AllBytes s → Has mode s T ns → ⊥)
  -- 12 wherever no accepted file has the tables
  pub no_file : ((s : List ℕ) → AllBytes s → Has mode s T ns → ⊥) → a.number ≡ refusals.no_such_tables
  -- 0: the output begins with a file that has the tables
  pub zero : a.number ≡ 0 → (a.place ≡ 0) × AllBytes (take a.size after) × Has mode (take a.size after) T ns
  -- 0: the reader, lent at least the counted rows, reads that file back as the tables
  pub read_back : a.number ≡ 0 → (xs : ℕ → List ℕ) → All (λ k. width k * T.count k ≤ length (xs k)) tables → ReadBack mode (take a.size after) T ns xs
  -- 11: the place is the size of a file that has the tables, and the output has no room for it
  pub eleven : a.number ≡ refusals.too_short → (length out < a.place) × ((b : List ℕ) × (length b ≡ a.place) × AllBytes b × Has mode b T ns)
  -- no file with those tables is shorter than the size written, or than the place of an 11
  pub least : (s : List ℕ) → AllBytes s → Has mode s T ns → (a.size ≤ length s) × (a.place ≤ length s)
  -- an output with room for some file that has the tables gets 0
  pub given_room : (s : List ℕ) → AllBytes s → Has mode s T ns → length s ≤ length out → a.number ≡ 0

-- ---- clearer, in lenient mode, for a file s and an output

-- what the clearer's answer `a` and the output afterwards, `after`, say
pub record ClearerSays (s out : List ℕ) (a : Written) (after : List ℕ) : Type 0 where
  -- the number is 0 to 11
  pub most : a.number ≤ refusals.too_short
  -- the output past the copy stays as found
  pub leaves : Leaves out a after
  -- 0: the file is accepted, and the output begins with its copy
  pub zero : a.number ≡ 0 → (a.place ≡ 0) × ((t : Scene) × (judge Lenient s ≡ accept t) × (take a.size after ≡ copy t))
  -- 0: the reader, lent at least the counted rows, reads the copy back with the file's words and each name empty
  pub read_back : (t : Scene) → judge Lenient s ≡ accept t → a.number ≡ 0 → (ns : List ℕ) (xs : ℕ → List ℕ) → All (HasRoom (λ k. length (xs k)) t) tables
      → ReadBack Lenient (take a.size after) (emptied t) ns xs
  -- 11 only where the output is shorter than the copy of an accepted file; the place is the copy's length
  pub eleven : a.number ≡ refusals.too_short → (t : Scene) × (judge Lenient s ≡ accept t) × (length out < length (copy t)) × (a.place ≡ length (copy t))
  -- 11 wherever the output is shorter than the copy of an accepted file
  pub short : (t : Scene) → judge Lenient s ≡ accept t → length out < length (copy t) → a.number ≡ refusals.too_short
  -- 0 wherever the output has room for the copy of an accepted file
  pub enough : (t : Scene) → judge Lenient s ≡ accept t → length (copy t) ≤ length out → a.number ≡ 0
  -- a file that is not accepted gets the reader's refusal, 1 to 10
  pub first : (n p : ℕ) → judge Lenient s ≡ reject n p → a ≡ record { number = n; place = p; size = 0 }
  -- 10: the file keeps the layout rules, and the place is the lowest table with more rows than the limit
  pub ten : a.number ≡ refusals.too_many_rows → (t : Scene) × (parse Lenient s ≡ accept t) × Lowest (FewRows t) a.place
  -- what 01 calls cleared again: the copy's bytes alone as the file, into another output as long, get the same answer
  pub again : (t : Scene) → judge Lenient s ≡ accept t → (out' : List ℕ) → length out ≡ length out' → clear_answer (copy t) out' ≡ a
  -- where it is not refused, the copy cleared again gives its own bytes
  pub again_bytes : (t : Scene) → judge Lenient s ≡ accept t → (out' : List ℕ) → length out ≡ length out' → a.number ≡ 0
      → take a.size (clear_output (copy t) out') ≡ copy t

-- what being alike says of two accepted files s and v
pub record IsAlike (s v : List ℕ) (a : Alike s v) : Type 0 where
  -- their ten row counts agree
  pub row_counts : counts a.one ≡ counts a.other
  -- v is alike to s
  pub turned : Alike v s
  -- s is alike to each file that v is alike to
  pub goes_on : (w : List ℕ) → Alike v w → Alike s w

-- the copy that clearing s has left in an output
abbrev pub copy_in : List ℕ → List ℕ → List ℕ
copy_in s out = take (clear_answer s out).size (clear_output s out)

-- Demand 3: two accepted files alike, each cleared into an output, the two of equal length, whatever stood in them. Both get the same number,
-- place and size, and where they are not refused both outputs begin with the same copy.
pub record OneCopy (s v out out' : List ℕ) : Type 0 where
  -- both get the same number, place and size
  pub answer : clear_answer s out ≡ clear_answer v out'
  -- where they are not refused, both outputs begin with the same copy
  pub bytes : (clear_answer s out).number ≡ 0 → copy_in s out ≡ copy_in v out'

-- The other half of demand 3 (E10): for two accepted files and outputs with room for both copies, the copies there are equal, byte for byte,
-- exactly when the files are alike.
pub record TellsApart (s v out out' : List ℕ) : Type 0 where
  -- alike files have equal copies
  pub equal : (t u : Scene) → judge Lenient s ≡ accept t → judge Lenient v ≡ accept u → length (copy t) ≤ length out → length (copy u) ≤ length out' → Alike s v
      → copy_in s out ≡ copy_in v out'
  -- files with equal copies are alike
  pub alike : (t u : Scene) → judge Lenient s ≡ accept t → judge Lenient v ≡ accept u → length (copy t) ≤ length out → length (copy u) ≤ length out' → copy_in s out ≡ copy_in v out' → Alike s v

-- ---- read, then written

-- a file s that a mode accepts, read into tables that held xs, and then written from them, with its own bytes for the names
pub record Rewritten (mode : Mode) (xs : ℕ → List ℕ) (s out : List ℕ) : Type 0 where
  -- s has the tables that the reader fills of it
  pub has : Has mode s (filled mode xs s) s
  -- they are written, into an output as long as s
  pub written : length s ≤ length out → (write_answer mode (filled mode xs s) s out).number ≡ 0
  -- the file written has no more bytes than s
  pub smaller : (write_answer mode (filled mode xs s) s out).size ≤ length s
