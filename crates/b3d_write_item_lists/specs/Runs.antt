-- The bytes of KEYS and of TRIS, one for each row of a table; their items are rows of another table, one group after the other.
use Rattle.std.specs.Prelude.{ℕ, Bool, true, false, List, [], map}
use Rattle.wire.specs.Bytes.{bytes}
use Rattle.layout.specs.Write.{write_items, write_words}
use Rattle.shared_output.specs.Writing.{chunk}
use Rattle.b3d_spec.specs.Encode.{set_chunks, key_chunks}
use Rattle.b3d_spec.specs.Mask.{present_words, key_mask}
use Rattle.b3d_spec.specs.Rebuild.{sets_from, keys_from}
use Rattle.b3d_spec.specs.Tags.{code, write_chunks}
use Rattle.b3d_spec.specs.declared.Tag.TheVariants.{KEYS}
use Rattle.b3d_spec.specs.Tables.{key_width, triangle_width}
use Rattle.b3d_write_items.specs.Chunks.{set_bytes}

-- a KEYS of the flags f and the key rows ks
abbrev pub list_bytes : ℕ → List (List ℕ) → List ℕ
list_bytes f ks = chunk (code KEYS) (bytes f []) (write_items write_words (map (present_words (key_mask f)) ks))

-- a TRIS for each of the rows xs of triangle sets, their triangles being the first of ts
abbrev pub sets_bytes : List (List ℕ) → List (List ℕ) → List ℕ
sets_bytes xs ts = write_chunks (set_chunks (sets_from xs ts))

-- a KEYS for each of the rows xs of key lists, their keys being the first of ks
abbrev pub lists_bytes : List (List ℕ) → List (List ℕ) → List ℕ
lists_bytes xs ks = write_chunks (key_chunks (keys_from xs ks) [])

-- the words of an item: 11 of a key (true), 3 of a triangle (false)
unfoldable pub run_width : Bool → ℕ
run_width true = key_width
run_width false = triangle_width

-- a KEYS (true) or a TRIS (false), of its number and its items
unfoldable pub run_bytes : Bool → ℕ → List (List ℕ) → List ℕ
run_bytes true = list_bytes
run_bytes false = set_bytes

-- a KEYS (true) or a TRIS (false) for each row, by the rows and the items from their first on
unfoldable pub runs_bytes : Bool → List (List ℕ) → List (List ℕ) → List ℕ
runs_bytes true = lists_bytes
runs_bytes false = sets_bytes
