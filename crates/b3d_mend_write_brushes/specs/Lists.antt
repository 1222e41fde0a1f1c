-- What becomes of the brushes that a cursor has left.
use Rattle.std.specs.Prelude.{ℕ, List, ◌++◌, length}
use Rattle.wire.specs.Cursors.{left}
use Rattle.wire.specs.declared.Cursor.{Cursor}
use Rattle.layout.specs.Rules.{Rule}
use Rattle.b3d_spec.specs.declared.Mode.TheVariants.{Lenient}
use Rattle.b3d_spec.specs.Rules.{brush_row, brush_ids}
use Rattle.b3d_mend_spec.specs.Edits.{Edit}
use Rattle.b3d_mend_spec.specs.Walks.{brush_edits_in}

abbrev pub brush_rules : ℕ → ℕ → List Rule
brush_rules slots textures = brush_row Lenient ++ brush_ids slots textures

unfoldable pub brushes_at : ℕ → ℕ → List ℕ → Cursor → List Edit
brushes_at slots textures s c = brush_edits_in (length (left c s)) (brush_rules slots textures) c.at (left c s)
