-- A law for each way through `lax_root`.
use Rattle.std.specs.Prelude.{Ok, Err, Some}
use Rattle.std.specs.Prelude as std
use Rattle.layout.specs.declared.Refusal.{Refusal}
use Rattle.b3d_chunk_next_allowed.specs.declared.Enclosed.{Enclosed}
use mathlib.Core.Path.{◌≡◌}
use Prim.Native.Nat.{ℕ}
use mathlib.Core.Bool.{true}
use mathlib.Core.Option.{none}
use mathlib.Core.List.{List}
use lib.ListN.{length}
use Rattle.wire.specs.Cursors.{left}
use Rattle.wire.specs.declared.Cursor.{Cursor}
use Rattle.b3d_spec.specs.declared.Tag.TheVariants.{BB3D}
use Rattle.b3d_judge_tally.specs.Tally.{forest_tally, inner_tally}
use Rattle.b3d_spec_chunk_places.specs.Places.{Among}
use Rattle.b3d_judge_tally.specs.Answers.{Judges}
use Rattle.b3d_judge_tally.specs.declared.Tally.{Tally}
use Rattle.b3d_chunk_next_allowed.specs.Steps.{EnclosedIs}
use Rattle.b3d_chunk_next_allowed.proofs.RestLaws.{among-inside, among-head}
use Rattle.b3d_judge_file_chunks.proofs.FileLaws.{file-body, Root, root_judges, root-end, root-stop, any-root-bad, any-root-good}
use Rattle.b3d_mend_judge_items.specs.Lax.{lax_node, lax_root}

module _ (s : List ℕ) (from : Cursor) (g : Among 0 from (length s)) (r : std.Result (std.Option Enclosed) Refusal) (x : EnclosedIs s BB3D 0 (record { turn = 2; spent = true }) from r)
    (f : Enclosed) (w : r ≡ Ok (Some f)) (j : std.Result Tally Refusal) (hj : Judges inner_tally (lax_node 16 none f.at (left f.body s)) f.at f.body.end j) where
  root_is : Judges forest_tally (lax_root f.at (left f.body s)) f.at f.body.end j
  unfolding lax_root
  root_is = root_judges (lax_node 16 none f.at (left f.body s)) f.at f.body.end j hj

  pub root-bad : (i : Refusal) → j ≡ Err i → Root lax_root s from g r x (Err i)
  root-bad = any-root-bad lax_root s from g r x f w j root_is

  pub root-good : (m : Tally) → j ≡ Ok m → Root lax_root s from g r x (Ok (m, f.next))
  root-good = any-root-good lax_root s from g r x f w j root_is

pub ruleset root_laws = (among-inside, among-head, file-body, root-end, root-stop, root-bad, root-good)
