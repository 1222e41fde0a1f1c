-- What holds of mending a file, in the words of 02.
use Rattle.std.specs.Prelude.{◌≡◌, ◌⊎◌, ℕ, ◌+◌, ◌*◌, ◌≤◌, ◌<◌, List, [], ◌∷◌, ◌++◌, length, leb}
use Rattle.wire.specs.Bytes.{AllBytes, over}
use Rattle.layout.specs.Lists.{All}
use Rattle.layout.specs.Result.{accept, reject}
use Rattle.layout.specs.Refusals as refusals
use Rattle.b3d_spec.specs.declared.Mode.TheVariants.{Lenient}
use Rattle.b3d_spec.specs.Answers.{judge, first_not}
use Rattle.b3d_spec.specs.Names.{named, unplaced}
use Rattle.b3d_spec.specs.Rules.{row_limit}
use Rattle.b3d_spec.specs.Scene.{Scene}
use Rattle.b3d_spec.specs.Tables.{rows, tables}
use Rattle.b3d_mend_spec.specs.Answers.{mend_answer, mend_output, mend_report}
use Rattle.b3d_mend_spec.specs.Edits.{Edit, mend, before, after}
use Rattle.b3d_mend_spec.specs.Four.{OfFour}
use Rattle.b3d_mend_spec.specs.Mend.{Mended, mend_file}
use Rattle.b3d_mend_spec.specs.Report.{ReportEntry, entries, report_bytes, read_report, mending, mend_judged, room_for_both, mend_into}
use Rattle.b3d_mend_spec.specs.Trees.{file_edits}

-- the places of entries go up from p on, and no entry begins inside the bytes of another
abbrev pub Ordered : ℕ → List ReportEntry → Type 0
Ordered p [] = Unit {0}
Ordered p (e ∷ l) = (p ≤ e.place) × Ordered (e.place + length e.before) l

-- a mend of the file s by the edits x: l are the edits before it, r those behind it, k which of the four, b and a its bytes before and after
pub record Entered (s : List ℕ) (x : List Edit) (l : List Edit) (k : ℕ) (b a : List ℕ) (r : List Edit) : Type 0 where
  -- b stands in the given file, behind what l is of
  pub given : s ≡ before l ++ (b ++ before r)
  -- a stands in the mended file, behind what l makes
  pub mended : after x ≡ after l ++ (a ++ after r)
  -- it has one entry, at the place where b begins in the given file
  pub entry : entries 0 x ≡ entries 0 l ++ (record { place = length (before l); which = k; before = b; after = a } ∷ entries (length (before l) + length b) r)

-- refusal n at p may be one of the four: 2 at 4, 7, or 3, which 01 also has for a length past its chunk
abbrev pub Mendable : ℕ → ℕ → Type 0
Mendable n p = (n ≡ refusals.cut_chunk) ⊎ ((n ≡ refusals.no_such_id) ⊎ ((n ≡ refusals.first_tag) × (p ≡ 4)))

-- refusal n at p is of another kind, 1 to 10: not 7, and 2 only at another place than 4
abbrev pub Unmended : ℕ → ℕ → Type 0
Unmended n p = (n ≡ refusals.no_such_id → ⊥) × (n ≡ refusals.first_tag → p ≡ 4 → ⊥) × (refusals.file_size ≤ n) × (n ≤ refusals.too_many_rows)

-- table k of what the mended file x holds has no more rows than the limit
abbrev pub FewRows : Mended Scene → ℕ → Type 0
FewRows x k = length (rows k x.value) ≤ row_limit

-- For a file s. `mend_judged s ≡ got x`: it can be mended, by the edits of x.
pub record Mends (s : List ℕ) : Type 0 where
  -- the edits are of the given file's bytes, in its order, each byte once
  pub given : (x : Mended Scene) → mend_judged s ≡ accept x → before x.edits ≡ s
  -- they follow from its bytes
  pub walk : (x : Mended Scene) → mend_judged s ≡ accept x → x.edits ≡ file_edits s
  -- each is of bytes that stay, of a length that follows, or one of the four mends: no other byte changes
  pub four : (x : Mended Scene) → mend_judged s ≡ accept x → All OfFour x.edits
  -- the mended file and the report are made of them
  pub written : (x : Mended Scene) → mend_judged s ≡ accept x → (room report_room : ℕ)
      → mend_into room report_room s ≡ room_for_both room report_room (mending x.edits)
  -- the report goes by place in the given file
  pub ordered : (x : Mended Scene) → mend_judged s ≡ accept x → Ordered 0 (entries 0 x.edits)
  -- each mend has one entry: the place where its bytes begin, which of the four, and its bytes as the given and the mended file have them
  pub entered : (x : Mended Scene) → mend_judged s ≡ accept x → (l r : List Edit) (k : ℕ) (b a : List ℕ) → x.edits ≡ l ++ (mend k b a ∷ r)
      → Entered s x.edits l k b a r
  -- the report, read by its own bytes, gives its entries
  pub readable : (x : Mended Scene) → mend_judged s ≡ accept x → read_report (report_bytes (entries 0 x.edits)) ≡ accept (entries 0 x.edits)
  -- what the mended file says
  pub scene : (x : Mended Scene) → mend_judged s ≡ accept x → Scene
  -- the mended file is accepted under the lenient mode
  pub accepted : (x : Mended Scene) (e : mend_judged s ≡ accept x) → judge Lenient (after x.edits) ≡ accept (scene x e)
  -- its rows are those that 10 was counted over, name places aside
  pub cells : (x : Mended Scene) (e : mend_judged s ≡ accept x) → All (λ k. named unplaced k (rows k (scene x e)) ≡ named unplaced k (rows k x.value)) tables
  -- what is written as the file are bytes
  pub bytes : (x : Mended Scene) → mend_judged s ≡ accept x → AllBytes (after x.edits)
  -- the mended file is no longer than the given one
  pub shorter : (x : Mended Scene) → mend_judged s ≡ accept x → length (after x.edits) ≤ length s
  -- the report is at most ten times as long as the given file
  pub report-size : (x : Mended Scene) → mend_judged s ≡ accept x → length (report_bytes (entries 0 x.edits)) ≤ 10 * length s
  -- an accepted file comes back as it was with an empty report
  pub unchanged : (t : Scene) → judge Lenient s ≡ accept t → (room report_room : ℕ)
      → mend_into room report_room s ≡ room_for_both room report_room (record { file = s; report = [] })
  -- a mended file comes back as it was with an empty report
  pub again : (x : Mended Scene) → mend_judged s ≡ accept x → (room report_room : ℕ)
      → mend_into room report_room (after x.edits) ≡ room_for_both room report_room (record { file = after x.edits; report = [] })
  -- a refusal 1 to 10 comes first, whatever room the outputs have
  pub first : (n p : ℕ) → mend_judged s ≡ reject n p → (room report_room : ℕ) → mend_into room report_room s ≡ reject n p
  -- such a refusal is of another kind than the four, 3 aside: `FirstFault` of b3d_mend_faults tells its two kinds apart
  pub other_kind : (n p : ℕ) → mend_judged s ≡ reject n p → Unmended n p
  -- where the reader's refusal is of another kind than the four, the mender's is the same
  pub same : (n p : ℕ) → judge Lenient s ≡ reject n p → (Mendable n p → ⊥) → mend_judged s ≡ reject n p
  -- a file that can be mended has no fault of another kind, and no table of the mended file has more rows than the limit
  pub few : (x : Mended Scene) → mend_judged s ≡ accept x → (mend_file s ≡ accept x) × All (FewRows x) tables
  -- 10 is counted over the mended rows, at the lowest table with more than the limit
  pub limit : (x : Mended Scene) → mend_file s ≡ accept x → (p : ℕ) → first_not (λ k. leb (length (rows k x.value)) row_limit) tables ≡ p → 0 < p
      → mend_judged s ≡ reject refusals.too_many_rows p
  -- outputs with room for both get the mended file and the report
  pub enough : (x : Mended Scene) → mend_judged s ≡ accept x → (room report_room : ℕ) → length (after x.edits) ≤ room
      → length (report_bytes (entries 0 x.edits)) ≤ report_room
      → mend_into room report_room s ≡ accept (mending x.edits)
  -- 11, with the mended file's size as its place, where the output for the file is shorter
  pub file_short : (x : Mended Scene) → mend_judged s ≡ accept x → (room report_room : ℕ) → room < length (after x.edits)
      → mend_into room report_room s ≡ reject refusals.too_short (length (after x.edits))
  -- 11, with the report's size as its place, where the file has room and the output for the report is shorter
  pub report_short : (x : Mended Scene) → mend_judged s ≡ accept x → (room report_room : ℕ) → length (after x.edits) ≤ room
      → report_room < length (report_bytes (entries 0 x.edits))
      → mend_into room report_room s ≡ reject refusals.too_short (length (report_bytes (entries 0 x.edits)))

-- What a caller sees, who lends the output `out` for the mended file of s and the output `report` for the report.
pub record MenderSays (s out report : List ℕ) : Type 0 where
  -- a file that can be mended, with room for both: 0, both sizes, and each output holds what was written, then what stood there
  pub mended : (x : Mended Scene) → mend_judged s ≡ accept x → length (after x.edits) ≤ length out
      → length (report_bytes (entries 0 x.edits)) ≤ length report
      → (mend_answer s out report ≡ record { number = 0; place = 0; size = length (after x.edits); report_size = length (report_bytes (entries 0 x.edits)) })
      × (mend_output s out report ≡ over (after x.edits) out)
      × (mend_report s out report ≡ over (report_bytes (entries 0 x.edits)) report)
  -- 0 only where the file can be mended and there is room for both
  pub zero : (mend_answer s out report).number ≡ 0 → (x : Mended Scene) × (mend_judged s ≡ accept x) × (length (after x.edits) ≤ length out)
      × (length (report_bytes (entries 0 x.edits)) ≤ length report)
  -- the number is 0 to 11
  pub most : (mend_answer s out report).number ≤ refusals.too_short
  -- a refused call changes neither output, and both sizes are 0
  pub untouched : ((mend_answer s out report).number ≡ 0 → ⊥) → (mend_output s out report ≡ out) × (mend_report s out report ≡ report)
      × ((mend_answer s out report).size ≡ 0) × ((mend_answer s out report).report_size ≡ 0)
  -- an output as long as the file has room for the mended one: with such an output 11 is the report's, with its size as the place
  pub report_short : AllBytes s → length s ≤ length out → (mend_answer s out report).number ≡ refusals.too_short
      → (x : Mended Scene) × (mend_judged s ≡ accept x) × ((mend_answer s out report).place ≡ length (report_bytes (entries 0 x.edits)))
