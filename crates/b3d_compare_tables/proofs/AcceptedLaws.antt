-- Files that are accepted can be compared row by row.
use mathlib.Core.Path.{◌≡◌, ap}
use Prim.Native.Nat.{ℕ, ◌<◌, ◌≤◌}
use native.Mathlib.Omega.{arith}
use mathlib.Core.List.{List}
use lib.ListN.{length}
use Rattle.layout.specs.Result.{accept}
use Rattle.layout.specs.Rows.{size_fits}
use Rattle.layout.proofs.ResultLaws.{by-check}
use Rattle.b3d_spec.specs.declared.Mode.TheVariants.{Lenient}
use Rattle.b3d_spec.specs.Answers.{judge}
use Rattle.b3d_spec.specs.Parse.{parse}
use Rattle.b3d_spec.specs.Scene.{Scene}
use Rattle.b3d_spec.specs.Tables.{rows}
use Rattle.b3d_spec.proofs.AnswerLaws.{judge_got}
use Rattle.b3d_spec.proofs.Files.FileLaws.{size_bound}
use Rattle.b3d_spec_chunk_places.proofs.FileChunkLaws.{parse-low}
use Rattle.b3d_spec_plain_rows.proofs.Laws.{rows_law}
use Rattle.b3d_rows_nodes.proofs.DepthLaws.{accepted-shallow}
use Rattle.b3d_compare_tables.specs.Tables.{Comparable}

small : (s : List ℕ) (t : Scene) → parse Lenient s ≡ accept t → length s < 0x100000000
unfolding parse
small s t e = by-check (size_fits (length s)) 1 0 _ e (λ z _. omega (arith, size_bound (length s) z))

pub comparable : (s : List ℕ) (t : Scene) → judge Lenient s ≡ accept t → (k : ℕ) → 1 ≤ k → k ≤ 10 → Comparable k (length (rows k t)) s
comparable s t e k lo hi = record {
  low = lo;
  high = hi;
  long = parse-low Lenient s t (judge_got Lenient s t e).0;
  small = small s t (judge_got Lenient s t e).0;
  deep = accepted-shallow s t e;
  count = ap length (rows_law s t e k lo hi);
}
