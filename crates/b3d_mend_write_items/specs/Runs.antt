-- Items at the front of those that a cursor has left which all stay.
use Rattle.std.specs.Prelude.{◌≡◌, ℕ, ◌+◌, ◌-◌, ◌*◌, ◌≤◌, Bool, false, List, [], ◌∷◌, ◌++◌, take, drop}
use Rattle.wire.specs.Cursors.{left}
use Rattle.wire.specs.declared.Cursor.{Cursor}
use Rattle.layout.specs.Parts.{words_of}
use Rattle.shared_ids.specs.Ids.{id_row}
use Rattle.b3d_mend_spec.specs.Edits.{keep}
use Rattle.b3d_mend_spec.specs.Mend.{all_hold}
use Rattle.b3d_mend_spec.specs.Walks.{item_edits}
use Rattle.b3d_mend_write_spec.specs.Shown.{shown}

-- Of items of `words` words, the first `ids` of them ids below `limit`, the first n bytes after c stay.
pub record Stay (s : List ℕ) (words ids limit : ℕ) (c : Cursor) (n : ℕ) : Type 0 where
  -- they end before c does
  pub within : c.at + n ≤ c.end
  -- they are shown as bytes that stay, and behind them what is shown of the other items
  pub is : (report : Bool)
      → shown report c.at (item_edits (id_row ids (words - ids) limit) (left c s))
      ≡ shown report c.at (keep (take n (drop c.at s)) ∷ [])
      ++ shown report (c.at + n) (item_edits (id_row ids (words - ids) limit) (left (record { at = c.at + n; end = c.end }) s))

-- n is the most of these.
pub record AllStay (s : List ℕ) (words ids limit : ℕ) (c : Cursor) (n : ℕ) : Type 0 where
  pub stay : Stay s words ids limit c n
  -- an item behind them that is all there has an id that names nothing
  pub next : c.at + n + 4 * words ≤ c.end → all_hold (id_row ids (words - ids) limit) (words_of words (left (record { at = c.at + n; end = c.end }) s)) ≡ false
