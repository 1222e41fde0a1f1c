-- The KEYS and the ANIM of a node, from rows of lent tables, and what must be there for them. The words of tables 3, 9 and 10 are ds, ls and ks.
use Rattle.std.specs.Prelude.{ℕ, ◌+◌, ◌/◌, ◌≤◌, List, [], length, take, drop}
use Rattle.b3d_spec.specs.Encode.{key_chunks, anim_chunks}
use Rattle.b3d_spec.specs.Rebuild.{owned_by, keys_from, anim_from}
use Rattle.b3d_spec.specs.Tags.{Chunk, write_chunks}
use Rattle.b3d_spec.specs.declared.Counts.{Counts}
use Rattle.b3d_spec.specs.Tables.{key_list_width, key_width}
use Rattle.b3d_spec.specs.Columns as columns
use Rattle.b3d_check_spec.specs.CellCounts.{end_of}
use Rattle.b3d_write_row_runs.specs.Lent.{rows_in}

-- the ANIM that the four words of ds from word i on say; empty where they say there is none
unfoldable pub anim_part : List ℕ → ℕ → List ℕ
anim_part ds i = write_chunks (anim_chunks (anim_from (take 4 (drop i ds))) [])

-- the KEYS and the ANIM of the node whose row begins at word i of ds and which comes after the counts n
abbrev pub move_chunks : List ℕ → ℕ → List ℕ → List ℕ → Counts → List Chunk
move_chunks ds i ls ks n =
    let ls' = owned_by n.nodes (drop n.lists (rows_in key_list_width ls)) in
    key_chunks (keys_from ls' (drop n.keys (rows_in key_width ks))) (anim_chunks (anim_from (take 4 (drop (i + columns.node_anim) ds))) [])

-- the bytes of the KEYS and the ANIM of that node: its row at word i of ds, its key lists in ls, its keys in ks
unfoldable pub moves_bytes : List ℕ → ℕ → List ℕ → List ℕ → Counts → List ℕ
moves_bytes ds i ls ks n = write_chunks (move_chunks ds i ls ks n)

-- what `write_animation` asks: the key lists of the node that comes after the counts n, and their keys, are there
pub record MovesThere (ls ks : List ℕ) (n : Counts) : Type 0 where
  -- the key lists before it are there
  pub lists : n.lists ≤ length ls / 4
  -- the keys that its lists name are there
  pub keys : end_of n.keys (owned_by n.nodes (drop n.lists (rows_in key_list_width ls))) ≤ length ks / key_width
