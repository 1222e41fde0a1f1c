-- The TEXS and the BRUS of rows; ns are the bytes that hold the names.
use Rattle.std.specs.Prelude.{ℕ, ◌+◌, List, [], map}
use Rattle.wire.specs.Bytes.{bytes}
use Rattle.shared_output.specs.Writing.{chunk}
use Rattle.b3d_spec.specs.Encode.{texture_chunks, brush_chunks}
use Rattle.b3d_spec.specs.Rebuild.{texture_from, brush_from}
use Rattle.b3d_spec.specs.Tags.{code, write_chunks}
use Rattle.b3d_spec.specs.declared.Tag.TheVariants.{TEXS, BRUS}
use Rattle.b3d_write_row_runs.specs.Lent.{each_row}
use Rattle.b3d_write_materials.specs.Named.{row_bytes}

-- a TEXS of the rows rs: of each its name and seven words
abbrev pub texs_bytes : List ℕ → List (List ℕ) → List ℕ
texs_bytes ns rs = chunk (code TEXS) [] (each_row (row_bytes ns 7) rs)

-- a BRUS of the rows rs: n_texs, and of each row its name, seven words and the slots in use
abbrev pub brus_bytes : List ℕ → ℕ → List (List ℕ) → List ℕ
brus_bytes ns slots rs = chunk (code BRUS) (bytes slots []) (each_row (row_bytes ns (7 + slots)) rs)

-- the TEXS of the rows rs of table 1; empty without a row
unfoldable pub textures_bytes : List ℕ → List (List ℕ) → List ℕ
textures_bytes ns rs = write_chunks (texture_chunks (map (texture_from ns) rs) [])

-- the BRUS of the rows rs of table 2; empty without a row
unfoldable pub brushes_bytes : List ℕ → ℕ → List (List ℕ) → List ℕ
brushes_bytes ns slots rs = write_chunks (brush_chunks slots (map (brush_from ns slots) rs) [])
