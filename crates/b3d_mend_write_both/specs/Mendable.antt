-- A file that can be mended, and how long what is made of it is.
use Rattle.std.specs.Prelude.{◌≡◌, ℕ, ◌≤◌, List, length}
use Rattle.wire.specs.Bytes.{AllBytes}
use Rattle.layout.specs.Result.{accept}
use Rattle.b3d_spec.specs.Scene.{Scene}
use Rattle.b3d_mend_spec.specs.Mend.{Mended}
use Rattle.b3d_mend_spec.specs.Report.{mending, mend_judged}
use Rattle.b3d_mend_write_both.specs.declared.MendedSizes.{MendedSizes}

-- without faults of another kind, and within the row limits
pub record CanMend (s : List ℕ) : Type 0 where
  pub bytes : AllBytes s
  pub value : Mended Scene
  pub is : mend_judged s ≡ accept value

-- r has the sizes of the mended file and of the report
pub record SizesAre (s : List ℕ) (r : MendedSizes) : Type 0 where
  pub files : (x : Mended Scene) → mend_judged s ≡ accept x → r.file ≡ length (mending x.edits).file
  pub reports : (x : Mended Scene) → mend_judged s ≡ accept x → r.report ≡ length (mending x.edits).report

-- both outputs have room, and the mended file is so long
pub record HaveRoom (s out report : List ℕ) (size : ℕ) : Type 0 where
  pub can : CanMend s
  pub long : size ≡ length (mending can.value.edits).file
  pub room : length (mending can.value.edits).file ≤ length out
  pub report_room : length (mending can.value.edits).report ≤ length report
