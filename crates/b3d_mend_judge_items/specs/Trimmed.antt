-- A cursor over the same chunks as another, without the spare bytes at its end.
use Rattle.std.specs.Prelude.{◌≡◌, ℕ, ◌≤◌, List}
use Rattle.wire.specs.Cursors.{left}
use Rattle.wire.specs.declared.Cursor.{Cursor}
use Rattle.b3d_spec.specs.Tags.{split}
use Rattle.b3d_mend_spec.specs.Pieces.{pieces, chunks_of}

pub record Trimmed (s : List ℕ) (from r : Cursor) : Type 0 where
  pub same : r.at ≡ from.at
  pub room : r.at ≤ r.end
  pub within : r.end ≤ from.end
  pub chunks : split r.at (left r s) ≡ chunks_of (pieces from.at (left from s))
