-- The entries of a report and the faults that are mended: the entries, one after the other, are of all these faults, one after the other.
use Rattle.std.specs.Prelude.{◌⊎◌, ◌≡◌, ℕ, ◌+◌, ◌≤◌, List, [], ◌∷◌, ◌++◌, length, ltb}
use Rattle.wire.specs.Test.{if}
use Rattle.layout.specs.Result.{accept}
use Rattle.layout.specs.Write.{write_words}
use Rattle.b3d_spec.specs.declared.Mode.TheVariants.{Lenient}
use Rattle.b3d_spec.specs.Parse.{parse}
use Rattle.b3d_spec.specs.Scene.{Scene}
use Rattle.b3d_mend_spec.specs.Mend.{Mended}
use Rattle.b3d_mend_spec.specs.Report.{ReportEntry, entries, read_report, Mending, mend_judged, mend_into}
use Rattle.b3d_mend_faults.specs.Faults.{Fault, mendable, faults}

-- the entry `e` is of mend k, and it mends one fault, n, which stands at its place
abbrev pub OneFault : ℕ → ℕ → ReportEntry → List Fault → Type 0
OneFault k n e l = (e.which ≡ k) × (l ≡ mendable k n e.place ∷ [])

-- the ids of an item from place p on that name none of n vertices: 7 at each of them
unfoldable pub bad_ids : ℕ → ℕ → List ℕ → List Fault
bad_ids n p [] = []
bad_ids n p (w ∷ ws) = if (ltb w n) (bad_ids n (p + 4) ws) (mendable 3 7 p ∷ bad_ids n (p + 4) ws)

-- the entry `e` is of a triangle or a weight, and it mends all faults of its vertex ids, at least one
pub record ItemFaults (e : ReportEntry) (l : List Fault) : Type 0 where
  pub kind : e.which ≡ 3
  -- how many vertices the ids may name
  pub vertices : ℕ
  -- the ids, and the bytes behind them: three ids of a triangle, or the one id of a weight and the weight's four bytes
  pub ids : List ℕ
  pub behind : List ℕ
  pub item : e.before ≡ write_words ids behind
  pub long : ((length ids ≡ 3) × (length behind ≡ 0)) ⊎ ((length ids ≡ 1) × (length behind ≡ 4))
  pub bad : l ≡ bad_ids vertices e.place ids
  pub some : 1 ≤ length l

-- the faults `l` are those that the entry `e` mends: 2 at BB3D's length, 7 at an id, 7 at each bad id of an item, or 3 at spare bytes
abbrev pub Fixes : ReportEntry → List Fault → Type 0
Fixes e l = (OneFault 1 2 e l × (e.place ≡ 4)) ⊎ (OneFault 2 7 e l ⊎ (ItemFaults e l ⊎ OneFault 4 3 e l))

-- the entries are of the faults `l`, in order, none left out: the first entry is of the first few, the others are of what follows
abbrev pub Tells : List ReportEntry → List Fault → Type 0
Tells [] l = l ≡ []
Tells (e ∷ es) l = (f : List Fault) × (g : List Fault) × (l ≡ f ++ g) × Fixes e f × Tells es g

-- For a list of bytes s. `faults s` are its faults in 01's order, up to the first that is not mended.
pub record ReportTellsFaults (s : List ℕ) : Type 0 where
  -- where s can be mended, the entries are of all its faults, in 01's order
  pub told : (x : Mended Scene) → mend_judged s ≡ accept x → Tells (entries 0 x.edits) (faults s)
  -- so is the report that was written, read by its own bytes
  pub report : (room report_room : ℕ) (m : Mending) → mend_into room report_room s ≡ accept m
      → (l : List ReportEntry) × (read_report m.report ≡ accept l) × Tells l (faults s)
  -- an empty report is of a file that the reader reads
  pub silent : (room report_room : ℕ) (m : Mending) → mend_into room report_room s ≡ accept m → m.report ≡ [] → (t : Scene) × (parse Lenient s ≡ accept t)
