-- A brush in a file: a name that ends at the words, seven words, then its texture ids.
use Rattle.std.specs.Prelude.{◌≡◌, ℕ, ◌+◌, ◌-◌, ◌*◌, ◌<◌, ◌≤◌, List, [], ◌∷◌, ◌++◌, length, take}
use Rattle.wire.specs.Cursors.{Inside, left}
use Rattle.wire.specs.declared.Cursor.{Cursor}
use Rattle.layout.specs.Parts.{words_of}
use Rattle.layout.specs.Write.{write_text}
use Rattle.b3d_spec.specs.declared.Mode.TheVariants.{Lenient}
use Rattle.b3d_spec.specs.Rules.{brush_row, brush_ids, most_slots}
use Rattle.b3d_mend_spec.specs.Edits.{Edit, keep}
use Rattle.b3d_mend_spec.specs.Walks.{word_edits}

-- the name at c ends with a zero before the words at `row`, which are all there
pub record BrushAt (s : List ℕ) (c row : Cursor) (slots : ℕ) : Type 0 where
  pub inside : Inside c (length s)
  pub before : c.at < row.at
  pub same : row.end ≡ c.end
  pub room : row.at + 4 * (7 + slots) ≤ row.end
  pub few : slots ≤ most_slots
  pub text : left c s ≡ take (row.at - (c.at + 1)) (left c s) ++ 0 ∷ left row s
  pub long : length (take (row.at - (c.at + 1)) (left c s)) ≡ row.at - (c.at + 1)

-- what becomes of it
unfoldable pub brush_edits : ℕ → ℕ → Cursor → Cursor → List ℕ → List Edit
brush_edits slots textures c row s =
    keep (write_text (take (row.at - (c.at + 1)) (left c s)) []) ∷ word_edits (brush_row Lenient ++ brush_ids slots textures) (words_of (7 + slots) (left row s))
