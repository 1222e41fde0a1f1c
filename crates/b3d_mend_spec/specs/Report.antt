-- The report of an edit, and what the mender answers on every input.
use Rattle.std.specs.Prelude.{ℕ, ◌+◌, List, [], ◌∷◌, ◌++◌, length, get_or, leb}
use Rattle.layout.specs.Counted.{run}
use Rattle.layout.specs.Parts.{Step, items}
use Rattle.layout.specs.Result.{Result, accept, check, ◌>>=◌}
use Rattle.shared_seven_bit_groups.specs.Groups.{write_numbers, read_numbers}
use Rattle.layout.specs.Rows.{each_of}
use Rattle.layout.specs.Refusals as refusals
use Rattle.b3d_spec.specs.Rules.{row_limit}
use Rattle.b3d_spec.specs.Scene.{Scene}
use Rattle.b3d_spec.specs.Tables.{rows, tables}
use Rattle.b3d_mend_spec.specs.Edits.{Edit, keep, follow, mend, after}
use Rattle.b3d_mend_spec.specs.Mend.{Mended, mend_file}

-- ---- the report

-- an entry of the report: one mend
pub record ReportEntry : Type 0 where
  -- the place in the given file where its bytes begin
  pub place : ℕ
  -- which of the four, 1 to 4
  pub which : ℕ
  -- its bytes as the given file has them
  pub before : List ℕ
  -- its bytes as the mended file has them
  pub after : List ℕ

-- the entries of the edits of the bytes from place p on: one for each mend, where its bytes begin in the given file
unfoldable pub entries : ℕ → List Edit → List ReportEntry
entries p [] = []
entries p (keep b ∷ l) = entries (p + length b) l
entries p (follow n m ∷ l) = entries (p + 4) l
entries p (mend k b a ∷ l) = record { place = p; which = k; before = b; after = a } ∷ entries (p + length b) l

-- the four numbers of entry e: place, which, the byte counts before and after
abbrev pub numbers_of : ReportEntry → List ℕ
numbers_of e = e.place ∷ e.which ∷ length e.before ∷ length e.after ∷ []

-- entry e in bytes, before r: its four numbers in E1's groups, then the bytes before and after
unfoldable pub entry_bytes : ReportEntry → List ℕ → List ℕ
entry_bytes e r = write_numbers (numbers_of e) (e.before ++ (e.after ++ r))

-- the report of entries in bytes, one after the other
unfoldable pub report_bytes : List ReportEntry → List ℕ
report_bytes [] = []
report_bytes (e ∷ l) = entry_bytes e (report_bytes l)

-- ---- the report, read

-- the most that the four numbers of an entry may be: place, which, the byte counts before and after
abbrev pub most_of : List ℕ
most_of = 4294967295 ∷ 4 ∷ 12 ∷ 4 ∷ []

-- an entry of a report, read at place p
unfoldable pub read_entry : ℕ → List ℕ → Result (Step ReportEntry)
read_entry p s = do
  x ← read_numbers most_of p s
  b ← run (get_or x.value 2 0) x.place x.left
  a ← run (get_or x.value 3 0) b.place b.left
  accept (record { value = record { place = get_or x.value 0 0; which = get_or x.value 1 0; before = b.value; after = a.value }; place = a.place; left = a.left })

-- the entries of the report s, to its end
unfoldable pub read_report : List ℕ → Result (List ReportEntry)
read_report s = items read_entry 0 s

-- ---- the answer

-- what the mender writes: the mended file and the report
pub record Mending : Type 0 where
  pub file : List ℕ
  pub report : List ℕ

-- the mended file and the report of the edits x
unfoldable pub mending : List Edit → Mending
mending x = record { file = after x; report = report_bytes (entries 0 x) }

-- the file s mended, or the refusal: the first fault of another kind, then 10 over the rows that the mended file has
unfoldable pub mend_judged : List ℕ → Result (Mended Scene)
mend_judged s = do
  x ← mend_file s
  _ ← each_of refusals.too_many_rows (λ k. leb (length (rows k x.value)) row_limit) tables
  accept x

-- the mended file and the report, if outputs of `room` and `report_room` bytes have room for them; else 11 with the size needed, first for the file, then for
-- the report
unfoldable pub room_for_both : ℕ → ℕ → Mending → Result Mending
room_for_both room report_room m = do
  _ ← check (leb (length m.file) room) refusals.too_short (length m.file)
  _ ← check (leb (length m.report) report_room) refusals.too_short (length m.report)
  accept m

-- the mended file and the report of the file s, for outputs of `room` and `report_room` bytes; or the refusal
unfoldable pub mend_into : ℕ → ℕ → List ℕ → Result Mending
mend_into room report_room s = do
  x ← mend_judged s
  room_for_both room report_room (mending x.edits)
