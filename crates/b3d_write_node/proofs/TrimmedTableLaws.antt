-- Tables that are lent as their counted rows alone have the rows of the writer's tables.
use mathlib.Core.Path.{◌≡◌}
use Prim.Native.Nat.{ℕ, ◌*◌, ◌≤◌}
use native.Mathlib.Omega.{arith}
use mathlib.Core.List.{List}
use lib.ListN.{length, take}
use Rattle.wire.specs.Test.{if}
use Rattle.layout.proofs.AllLaws.{All}
use Rattle.b3d_spec.specs.Rebuild.{Lent, lent_rows}
use Rattle.b3d_spec.specs.Tables.{width, part_tables}
use Rattle.b3d_write_row_runs.proofs.CutRowLaws.{rows-lent}
use Rattle.b3d_write_node.specs.Own.{table_rows}

-- the words of the counted rows of table k
abbrev pub trimmed : Lent → ℕ → List ℕ
trimmed T k = take (width k * T.count k) (T.words k)

pub trimmed_rows : (T : Lent) → All (λ k. width k * T.count k ≤ length (T.words k)) part_tables
    → All (λ k. table_rows (trimmed T 3) (trimmed T 4) (trimmed T 5) (trimmed T 6) (trimmed T 7) (trimmed T 8) (trimmed T 9) (trimmed T 10) k ≡ lent_rows T k) part_tables
unfolding table_rows lent_rows width if
trimmed_rows T h = (
  rows-lent 9 (T.count 4) (T.words 4) (omega arith) h.0,
  (
    rows-lent 42 (T.count 5) (T.words 5) (omega arith) h.1.0,
    (
      rows-lent 4 (T.count 6) (T.words 6) (omega arith) h.1.1.0,
      (
        rows-lent 3 (T.count 7) (T.words 7) (omega arith) h.1.1.1.0,
        (
          rows-lent 2 (T.count 8) (T.words 8) (omega arith) h.1.1.1.1.0,
          (
            rows-lent 4 (T.count 9) (T.words 9) (omega arith) h.1.1.1.1.1.0,
            (rows-lent 11 (T.count 10) (T.words 10) (omega arith) h.1.1.1.1.1.1.0, tt),
          ),
        ),
      ),
    ),
  ),
)
