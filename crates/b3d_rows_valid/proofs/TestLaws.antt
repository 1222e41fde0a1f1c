-- What the tests tell: a law for each need.
use mathlib.Core.Path.{◌≡◌}
use Prim.Native.Nat.{ℕ, ◌<◌, ◌≤◌}
use native.Mathlib.Omega.{arith}
use mathlib.Core.Bool.{Bool, true, false, not}
use mathlib.Core.List.{List}
use lib.ListN.{length}
use Rattle.wire.specs.Test.{if}
use Rattle.b3d_spec.specs.Tables.{width}
use Rattle.b3d_rows_open_items.specs.ItemsLeft.{ItemTable}
use Rattle.b3d_rows_positions.specs.Positions.{MeshPosition, ItemPosition}
use Rattle.b3d_rows_positions.specs.declared.Position.{Position}
use Rattle.b3d_rows_items.specs.NextText.{TextPosition}
use Rattle.b3d_rows_nodes.specs.NextNode.{NodePosition}
use Rattle.b3d_rows_nodes.specs.declared.OpenNodes.{OpenNodes}
use Rattle.b3d_rows_nodes.specs.declared.RowCursor.{RowCursor}
use Rattle.b3d_rows_chunks.specs.NextChunk.{ChunkPosition, SetPosition}
use Rattle.b3d_rows.specs.NextRow.{PartAt, RowCursorAt}
use Rattle.b3d_rows.proofs.NextRowLaws.{not-items, item-table}
use Rattle.b3d_rows_valid_items.specs.Decides.{Decides}
use Rattle.b3d_rows_valid_items.proofs.ItemTestLaws.{no, yes, alike, told-yes, told-no}
use Rattle.b3d_rows_valid.specs.Cells.{SixteenCells}

-- ---- tables 1 and 2

pub one-wide : (k : ℕ) → k ≡ 1 → 9 ≡ width k
unfolding width if
one-wide k e = rw e

pub two_wide : (k : ℕ) → 1 ≤ k → k ≤ 2 → (k ≡ 1 → ⊥) → 17 ≡ width k
unfolding width if
two_wide k lo hi n = let e : k ≡ 2 = omega arith in rw e

pub ruleset wide_laws = (one-wide, two_wide)

-- ---- table 3

module _ (s : List ℕ) (x : Position) (path : OpenNodes) where
  pub node-yes : SixteenCells path → length s < 0x100000000 → x.at ≤ length s → path.depth ≤ 16 → x.counts.nodes ≤ x.at → x.counts.meshes ≤ x.at → x.counts.weights ≤ x.at → Decides (NodePosition s x path) true
  node-yes c small run deep nodes meshes weights =
      yes (record { run = run; small = small; path_at = record { deep = deep; ends = c.ends; nodes = c.nodes }; nodes = nodes; meshes = meshes; weights = weights })

-- ---- tables 4 and 9

module _ (s : List ℕ) (x : Position) where
  pub chunk-yes : length s < 0x100000000 → x.at ≤ length s → x.counts.nodes ≤ x.at → x.counts.vertices ≤ x.at → x.counts.sets ≤ x.at → x.counts.keys ≤ x.at → Decides (ChunkPosition s x) true
  chunk-yes small run nodes vertices sets keys = yes (record { run = run; small = small; nodes = nodes; vertices = vertices; sets = sets; keys = keys })

  -- ---- table 6

  module _ (ok : Bool) (t : Decides (MeshPosition s x) ok) where
    pub set_walk : not ok ≡ true → Decides (SetPosition s x) false
    set_walk e = no (λ v. told-no ok t e v.walk)

    pub set-yes : not ok ≡ false → length s < 0x100000000 → x.inner.end ≤ x.at → x.counts.triangles ≤ x.inner.at → Decides (SetPosition s x) true
    set-yes e small before triangles = yes (record { walk = told-yes ok t e; small = small; before = before; triangles = triangles })

pub ruleset set_laws = (set_walk, set-yes)

-- ---- any table

module _ (k : ℕ) (s : List ℕ) (x : Position) where
  pub part-four : k ≡ 4 → (r : Bool) → Decides (ChunkPosition s x) r → Decides (PartAt k s x) r
  part-four e r t =
      alike r t
      (λ v. record { meshes = λ q. v; sets = λ q. absurd (omega arith); lists = λ q. absurd (omega arith); items = λ q. absurd (not-items 4 tt k e q) })
      (λ v. v.meshes e)

  pub part_six : (k ≡ 4 → ⊥) → k ≡ 6 → (r : Bool) → Decides (SetPosition s x) r → Decides (PartAt k s x) r
  part_six n e r t =
      alike r t
      (λ v. record { meshes = λ q. absurd (omega arith); sets = λ q. v; lists = λ q. absurd (omega arith); items = λ q. absurd (not-items 6 tt k e q) })
      (λ v. v.sets e)

  pub part_nine : (k ≡ 4 → ⊥) → (k ≡ 6 → ⊥) → k ≡ 9 → (r : Bool) → Decides (ChunkPosition s x) r → Decides (PartAt k s x) r
  part_nine n m e r t =
      alike r t
      (λ v. record { meshes = λ q. absurd (omega arith); sets = λ q. absurd (omega arith); lists = λ q. v; items = λ q. absurd (not-items 9 tt k e q) })
      (λ v. v.lists e)

  module _ (lo : 4 ≤ k) (hi : k ≤ 10) (n4 : k ≡ 4 → ⊥) (n6 : k ≡ 6 → ⊥) (n9 : k ≡ 9 → ⊥) where
    pub part-table : ItemTable k
    part-table = item-table k lo hi n4 n6 n9

    pub part-items : (r : Bool) → Decides (ItemPosition k s x) r → Decides (PartAt k s x) r
    part-items r t =
        alike r t
        (λ v. record { meshes = λ q. absurd (n4 q); sets = λ q. absurd (n6 q); lists = λ q. absurd (n9 q); items = λ q. v })
        (λ v. v.items part-table)

pub ruleset part_laws = (part-four, part_six, part_nine, part-table, part-items)

module _ (k : ℕ) (s : List ℕ) (x : RowCursor) where
  pub cursor_text : k ≤ 2 → (r : Bool) → Decides (TextPosition k s x.position) r → Decides (RowCursorAt k s x) r
  cursor_text le r t =
      alike r t
      (λ v. record { texts = λ q. v; nodes = λ q. absurd (omega arith); parts = λ q. absurd (omega arith) })
      (λ v. v.texts le)

  pub cursor_node : 2 < k → k ≡ 3 → (r : Bool) → Decides (NodePosition s x.position x.path) r → Decides (RowCursorAt k s x) r
  cursor_node gt e r t =
      alike r t
      (λ v. record { texts = λ q. absurd (omega arith); nodes = λ q. v; parts = λ q. absurd (omega arith) })
      (λ v. v.nodes e)

  module _ (gt : 2 < k) (n : k ≡ 3 → ⊥) where
    pub cursor_low : 4 ≤ k
    cursor_low = omega arith

    pub cursor_part : (r : Bool) → Decides (PartAt k s x.position) r → Decides (RowCursorAt k s x) r
    cursor_part r t =
        alike r t
        (λ v. record { texts = λ q. absurd (omega arith); nodes = λ q. absurd (n q); parts = λ q. v })
        (λ v. v.parts cursor_low)

pub ruleset cursor_laws = (cursor_text, cursor_node, cursor_low, cursor_part)
