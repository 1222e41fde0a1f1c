-- A law for each way through `colours_valid`.
use mathlib.Core.Path.{◌≡◌, sym, ◌∙◌}
use Prim.Native.Nat.{ℕ}
use mathlib.Core.Bool.{Bool, true, false, not, ◌&&◌}
use mathlib.Core.List.{List}
use Rattle.wire.specs.Test.{if}
use Rattle.layout.specs.WellFormed.{all}
use Rattle.b3d_spec.specs.Colours.{coloured, passes}
use Rattle.b3d_spec.specs.declared.Mode.{Mode}
use Rattle.b3d_spec.specs.declared.Mode.TheVariants.{Strict, Lenient}
use Rattle.b3d_check_rows.specs.Rows.{rows_at}
use Rattle.b3d_check_rows.proofs.AndLaws.{and_stop, and_go}
use Rattle.b3d_check_rows.proofs.RowCellLaws.{rows_whole}
use Rattle.b3d_check_colours.specs.LentColours.{colours_part}

module _ (mode : Mode) (n : ℕ) (t₂ : List ℕ) (m : ℕ) (t₅ : List ℕ) where
  pub colours_lenient : mode ≡ Lenient → true ≡ colours_part mode n t₂ m t₅
  unfolding colours_part passes
  colours_lenient e = rw e

  module _ (e : mode ≡ Strict) (b : Bool) (eb : b ≡ all (coloured 2) (rows_at 17 0 n t₂)) where
    strict : colours_part mode n t₂ m t₅ ≡ (all (coloured 2) (rows_at 17 0 n t₂) && all (coloured 6) (rows_at 42 0 m t₅))
    unfolding colours_part passes if
    strict = rw (e, rows_whole 17 n t₂, rows_whole 42 m t₅)

    pub colours-brushes : not b ≡ true → false ≡ colours_part mode n t₂ m t₅
    colours-brushes h = and_stop b _ _ eb h ∙ sym strict

    pub colours-vertices : not b ≡ false → (r : Bool) → r ≡ all (coloured 6) (rows_at 42 0 m t₅) → r ≡ colours_part mode n t₂ m t₅
    colours-vertices h r er = and_go b _ _ r eb h er ∙ sym strict

pub ruleset colours_laws = (colours_lenient, colours-brushes, colours-vertices)
