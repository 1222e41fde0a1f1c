-- What reader, writer and clearer answer, and what they leave in each lent slice, on every input. Checks 1 to 9 are `parse`'s; then 10
-- over all tables, then 11; for the writer 12, then 11.
use Rattle.std.specs.Prelude.{ℕ, ◌*◌, Bool, List, [], ◌∷◌, length, replicate, leb}
use Rattle.std.proofs.Math.Option.{Option, none, some}
use Rattle.wire.specs.Bytes.{over}
use Rattle.wire.specs.Test.{if}
use Rattle.layout.specs.Result.{Result, accept, reject, check, ◌>>=◌}
use Rattle.layout.specs.Rows.{each_of, most_bytes}
use Rattle.layout.specs.Refusals as refusals
use Rattle.b3d_spec.specs.declared.Mode.{Mode}
use Rattle.b3d_spec.specs.declared.Mode.TheVariants.{Lenient}
use Rattle.b3d_spec.specs.Scene.{Scene}
use Rattle.b3d_spec.specs.Rules.{row_limit}
use Rattle.b3d_spec.specs.Parse.{parse}
use Rattle.b3d_spec.specs.Encode.{encode}
use Rattle.b3d_spec.specs.Names.{cleared}
use Rattle.b3d_spec.specs.Tables.{width, rows, table, tables, counts}
use Rattle.b3d_spec.specs.Rebuild.{Lent, rebuild}
use Rattle.b3d_spec.specs.declared.Answer.{Answer}
use Rattle.b3d_spec.specs.declared.Written.{Written}

-- the first table of the list of which the test `ok` does not hold, by its number; 0 where there is none
unfoldable pub first_not : (ℕ → Bool) → List ℕ → ℕ
first_not ok [] = 0
first_not ok (k ∷ ks) = if (ok k) (first_not ok ks) k

-- ---- reader

-- what the file s says in a mode, if it is without the faults 1 to 10: what 01 calls accepted; else its refusal, 10 at the lowest table with too many rows
unfoldable pub judge : Mode → List ℕ → Result Scene
judge mode s = do
  t ← parse mode s
  _ ← each_of refusals.too_many_rows (λ k. leb (length (rows k t)) row_limit) tables
  accept t

-- what the file s says in a mode to a reader lent tables of room k words: refusals 1 to 10, then 11 at the lowest table that is too short for its rows
unfoldable pub read : Mode → (ℕ → ℕ) → List ℕ → Result Scene
read mode room s = do
  t ← judge mode s
  _ ← each_of refusals.too_short (λ k. leb (width k * length (rows k t)) (room k)) tables
  accept t

-- the reader's answer: number and place, version, n_texs and the ten row counts; where refused, version, n_texs and counts are 0
unfoldable pub answer : Result Scene → Answer
answer (accept t) = record { number = 0; place = 0; version = t.version; n_texs = t.slots; counts = counts t }
answer (reject n p) = record { number = n; place = p; version = 0; n_texs = 0; counts = replicate 10 0 }

-- table k, which held xs, afterwards: its rows, then what stood there; where refused, what stood there
unfoldable pub table_after : ℕ → Result Scene → List ℕ → List ℕ
table_after k (accept t) xs = over (table k t) xs
table_after k (reject n p) xs = xs

-- the reader's answer in a mode on the file s, lent tables of room k words
unfoldable pub read_answer : Mode → (ℕ → ℕ) → List ℕ → Answer
read_answer mode room s = answer (read mode room s)

-- table k, which held xs, after the reader in a mode on the file s, lent tables of room k words
unfoldable pub read_table : Mode → ℕ → (ℕ → ℕ) → List ℕ → List ℕ → List ℕ
read_table mode k room s xs = table_after k (read mode room s) xs

-- ---- writer and clearer

-- the bytes b, if an output of `room` bytes has room for them; else 11 with their number as its place
unfoldable pub room_for : ℕ → List ℕ → Result (List ℕ)
room_for room b = do
  _ ← check (leb (length b) room) refusals.too_short (length b)
  accept b

-- the shortest file of the scene of sound tables; 12 at 0, what 01 calls unsound, where there is no scene or its file is over the size limit
unfoldable pub shortest : Option Scene → Result (List ℕ)
shortest none = reject refusals.no_such_tables 0
shortest (some t) = do
  _ ← check (leb (length (encode t)) most_bytes) refusals.no_such_tables 0
  accept (encode t)

-- the file that the writer makes in a mode of the lent tables T, with names in ns, for an output of `room` bytes: 12 comes before 11
unfoldable pub write : Mode → Lent → List ℕ → ℕ → Result (List ℕ)
write mode T ns room = do
  b ← shortest (rebuild mode T ns)
  room_for room b

-- what 01 calls the copy: the shortest file of scene t with every name empty
unfoldable pub copy : Scene → List ℕ
copy t = encode (cleared t)

-- the copy that the clearer makes of the file s, for an output of `room` bytes: refusals 1 to 10 of the lenient mode (E8), then 11
unfoldable pub clear : List ℕ → ℕ → Result (List ℕ)
clear s room = do
  t ← judge Lenient s
  room_for room (copy t)

-- the answer of writer and clearer: number and place, and the size written, 0 where refused
unfoldable pub written : Result (List ℕ) → Written
written (accept b) = record { number = 0; place = 0; size = length b }
written (reject n p) = record { number = n; place = p; size = 0 }

-- an output `out` afterwards: what was written, then what stood there; where refused, what stood there
unfoldable pub output_after : Result (List ℕ) → List ℕ → List ℕ
output_after (accept b) out = over b out
output_after (reject n p) out = out

-- the writer's answer in a mode on the lent tables T, with names in ns, for the output `out`
unfoldable pub write_answer : Mode → Lent → List ℕ → List ℕ → Written
write_answer mode T ns out = written (write mode T ns (length out))

-- the output `out` after the writer in a mode on the lent tables T, with names in ns
unfoldable pub write_output : Mode → Lent → List ℕ → List ℕ → List ℕ
write_output mode T ns out = output_after (write mode T ns (length out)) out

-- the clearer's answer on the file s, for the output `out`
unfoldable pub clear_answer : List ℕ → List ℕ → Written
clear_answer s out = written (clear s (length out))

-- the output `out` after the clearer on the file s
unfoldable pub clear_output : List ℕ → List ℕ → List ℕ
clear_output s out = output_after (clear s (length out)) out
