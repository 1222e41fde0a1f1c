-- What is shown of a file before its chunks.
use Rattle.std.specs.Prelude.{ℕ, ◌+◌, Bool, List, [], ◌∷◌, length, drop}
use Rattle.wire.specs.Bytes.{bytes}
use Rattle.b3d_spec.specs.Tags.{code}
use Rattle.b3d_spec.specs.declared.Tag.TheVariants.{BB3D}
use Rattle.b3d_mend_spec.specs.Edits.{keep, file_length}
use Rattle.b3d_mend_write_spec.specs.Shown.{shown}
use Rattle.b3d_mend_write_scopes.specs.Shown.{number_of}

-- the letters, the length, the version
unfoldable pub start_shown : Bool → ℕ → List ℕ → List ℕ
start_shown report size s =
    shown report 0 (keep (bytes (code BB3D) []) ∷ file_length (number_of 1 s) (length (drop 8 s)) (4 + size) ∷ keep (bytes (number_of 2 s) []) ∷ [])
