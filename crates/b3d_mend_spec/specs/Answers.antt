-- What the mender answers, and what it leaves in its two outputs, on every input: 1 to 9 of the mending read, 10 over the rows of the
-- mended file, then 11 for the file, then for the report.
use Rattle.std.specs.Prelude.{List, length, ℕ}
use Rattle.wire.specs.Bytes.{over}
use Rattle.layout.specs.Result.{Result, accept, reject}
use Rattle.b3d_mend_spec.specs.Report.{Mending, mend_into}
use Rattle.b3d_mend_spec.specs.declared.WrittenBoth.{WrittenBoth}

-- the mender's answer: number and place, and the sizes written of file and report, 0 where refused
unfoldable pub written_both : Result Mending → WrittenBoth
written_both (accept m) = record { number = 0; place = 0; size = length m.file; report_size = length m.report }
written_both (reject n p) = record { number = n; place = p; size = 0; report_size = 0 }

-- the output for the file, `out`, afterwards: what was written, then what stood there; where refused, what stood there
unfoldable pub file_after : Result Mending → List ℕ → List ℕ
file_after (accept m) out = over m.file out
file_after (reject n p) out = out

-- the output for the report, `out`, afterwards: what was written, then what stood there; where refused, what stood there
unfoldable pub report_after : Result Mending → List ℕ → List ℕ
report_after (accept m) out = over m.report out
report_after (reject n p) out = out

-- the mender's answer on the file s, with the outputs `out` for the mended file and `report` for the report
unfoldable pub mend_answer : List ℕ → List ℕ → List ℕ → WrittenBoth
mend_answer s out report = written_both (mend_into (length out) (length report) s)

-- the output `out` for the mended file after the mender on the file s
unfoldable pub mend_output : List ℕ → List ℕ → List ℕ → List ℕ
mend_output s out report = file_after (mend_into (length out) (length report) s) out

-- the output `report` for the report after the mender on the file s
unfoldable pub mend_report : List ℕ → List ℕ → List ℕ → List ℕ
mend_report s out report = report_after (mend_into (length out) (length report) s) report
