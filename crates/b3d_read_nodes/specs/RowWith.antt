-- A node's row with a given branch word, and what is read of the node before its row is stored.
use Rattle.std.specs.Prelude.{◌≡◌, ℕ, List, [], Some}
use Rattle.wire.specs.declared.Cursor.{Cursor}
use Rattle.layout.specs.Result.{Result, accept, reject}
use Rattle.layout.specs.Parts.{Name, Step}
use Rattle.b3d_spec.specs.declared.Counts.{Counts}
use Rattle.b3d_spec.specs.Tables.{node_row}
use Rattle.b3d_spec.specs.Tags.{Chunks}
use Rattle.b3d_chunk_cursor.specs.Chunks.{named_at, RowIn}
use Rattle.b3d_spec_plain_rows.specs.Rows.{kind_of, anim_of}
use Rattle.b3d_chunk_walk.specs.Walks.{BodyAt}

-- a node's row as `row_of` has it, but with the branch word `below`
unfoldable pub row_with : Result (Step (Name × List ℕ)) → Chunks → ℕ → ℕ → Counts → List ℕ
row_with (accept x) cs parent below n = node_row (record { name = x.value.0; words = x.value.1; kind = kind_of cs; keys = []; anim = anim_of cs }) parent below n
row_with (reject i p) cs parent below n = []

-- the NODE at p with the body b has a name of len bytes, and its ten numbers are at the cursor w
pub record RowRead (s : List ℕ) (p : ℕ) (b : Cursor) (len : ℕ) (w : Cursor) : Type 0 where
  -- its body is b
  pub body : BodyAt s p b
  -- the cursor behind the numbers
  pub after : Cursor
  -- name and numbers are all there
  pub is : Some (record { length = len; row = w; next = after }) ≡ named_at s b 10
  -- and stand in the body
  pub among : RowIn b len w after 10
