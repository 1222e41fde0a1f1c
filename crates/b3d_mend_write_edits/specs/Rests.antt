-- What is shown of the bytes that a cursor has left where no chunk is.
use Rattle.std.specs.Prelude.{ℕ, ◌-◌, Bool, List, [], ◌∷◌, ltb}
use Rattle.wire.specs.Test.{if}
use Rattle.wire.specs.Cursors.{left}
use Rattle.wire.specs.declared.Cursor.{Cursor}
use Rattle.b3d_mend_spec.specs.Edits.{keep, spare_out}
use Rattle.b3d_mend_write_spec.specs.Shown.{shown}

-- 1 to 7 bytes, or those of a chunk that passes the end
unfoldable pub cut_shown : Bool → List ℕ → Cursor → List ℕ
cut_shown report s c = if (ltb (c.end - c.at) 8) (shown report c.at (spare_out (left c s) ∷ [])) (shown report c.at (keep (left c s) ∷ []))
