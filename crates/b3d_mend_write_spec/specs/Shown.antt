-- What edits show, in the mended file or in the report.
use Rattle.std.specs.Prelude.{ℕ, Bool, true, false, List}
use Rattle.b3d_mend_spec.specs.Edits.{Edit, after}
use Rattle.b3d_mend_spec.specs.Report.{entries, report_bytes}

-- what edits of the bytes from place p on show: in the report their entries, in the file the mended bytes
unfoldable pub shown : Bool → ℕ → List Edit → List ℕ
shown true p x = report_bytes (entries p x)
shown false p x = after x
