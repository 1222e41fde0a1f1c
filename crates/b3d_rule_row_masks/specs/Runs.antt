-- A mask as groups of cells: in each some cells that hold words of the file, then some that do not.
use Rattle.std.specs.Prelude.{◌≡◌, ℕ, zero, suc, ◌+◌, ◌-◌, ◌*◌, ◌/◌, ◌%◌, ◌≤◌, Bool, true, false, List, ◌++◌, replicate, ltb}
use Rattle.wire.specs.Test.{if}
use Rattle.b3d_rule_row_masks.specs.declared.RowRuns.{RowRuns}

-- n cells that hold words, m that do not, then the mask l
unfoldable pub run : ℕ → ℕ → List Bool → List Bool
run n m l = replicate n true ++ (replicate m false ++ l)

-- n sets of coordinates, four cells each, of which the first `size` hold words; then the mask l
unfoldable pub set_runs : ℕ → ℕ → List Bool → List Bool
set_runs zero size l = l
set_runs (suc n) size l = run size (4 - size) (set_runs n size l)

-- the mask that the groups g are: true for each cell that holds a word of the file
unfoldable pub run_mask : RowRuns → List Bool
run_mask g = run g.head 0 (run g.three (3 - g.three) (run g.some (g.wide - g.some) (set_runs g.sets g.size (replicate g.rest false))))

-- how many cells a row of the groups g has
unfoldable pub width : RowRuns → ℕ
width g = g.head + 3 + g.wide + 4 * g.sets + g.rest

-- no group of g holds more words than it has cells, and none is longer than in a vertex or key row
pub record Short (g : RowRuns) : Type 0 where
  -- the first group has at most four cells
  pub head : g.head ≤ 4
  -- at most three words in three cells
  pub three : g.three ≤ 3
  -- at most `wide` words in `wide` cells
  pub some : g.some ≤ g.wide
  -- the third group has at most four cells
  pub wide : g.wide ≤ 4
  -- at most eight sets
  pub sets : g.sets ≤ 8
  -- at most four words in a set
  pub size : g.size ≤ 4
  -- at most the cells of eight sets are left
  pub rest : g.rest ≤ 32

-- the groups g have the lengths of a key row's: frame, position, scale, rotation
pub record OfKey (g : RowRuns) : Type 0 where
  -- the frame
  pub head : g.head ≡ 1
  -- three cells of a scale
  pub wide : g.wide ≡ 3
  -- the rotation counts as one set of four cells
  pub sets : g.sets ≡ 1
  -- no cell is left
  pub rest : g.rest ≡ 0

-- the groups g have the lengths of a vertex row's: position, normal, colour, 32 cells of sets
pub record OfVertex (g : RowRuns) : Type 0 where
  -- the position
  pub head : g.head ≡ 3
  -- four cells of a colour
  pub wide : g.wide ≡ 4
  -- sets and what is left are eight sets of four cells
  pub sets : g.sets * 4 + g.rest ≡ 32

-- the lesser of n and m
unfoldable pub least_of : ℕ → ℕ → ℕ
least_of m n = if (ltb n m) n m

-- the groups of a vertex row: position, normal if flag 1, colour if flag 2, and eight sets
unfoldable pub vertex_runs : ℕ → ℕ → ℕ → RowRuns
vertex_runs flags sets size = record {
  head = 3;
  three = flags % 2 * 3;
  wide = 4;
  some = flags / 2 % 2 * 4;
  sets = least_of 8 sets;
  size = least_of 4 size;
  rest = 4 * (8 - least_of 8 sets);
}

-- the groups of a key row: frame, position if flag 1, scale if flag 2, rotation if flag 4
unfoldable pub key_runs : ℕ → RowRuns
key_runs flags = record { head = 1; three = flags % 2 * 3; wide = 3; some = flags / 2 % 2 * 3; sets = 1; size = flags / 4 % 2 * 4; rest = 0 }
