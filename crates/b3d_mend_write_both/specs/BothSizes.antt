-- The answer for a mended file and a report of which only the sizes are known.
use Rattle.std.specs.Prelude.{◌≡◌, ℕ, length}
use Rattle.b3d_mend_spec.specs.Answers.{written_both}
use Rattle.b3d_mend_spec.specs.Report.{Mending, room_for_both}
use Rattle.b3d_mend_spec.specs.declared.WrittenBoth.{WrittenBoth}

-- r is the answer for a mended file and a report of these sizes, whichever they are, and outputs of `room` and `report_room` bytes
pub record OfSizes (size report_size room report_room : ℕ) (r : WrittenBoth) : Type 0 where
  pub is : (m : Mending) → length m.file ≡ size → length m.report ≡ report_size → r ≡ written_both (room_for_both room report_room m)
