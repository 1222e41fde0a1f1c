-- The parts of a key that are written one after the other.
use mathlib.Core.Path.{◌≡◌, ap}
use Prim.Native.Nat.{ℕ, ◌+◌}
use mathlib.Core.List.{List, [], ◌++◌, append-nil}
use lib.ListN.{take, drop}
use lib.Seq.{take-take}
use Rattle.layout.specs.Write.{write_words}
use Rattle.shared_output.proofs.PartLaws.{Both}
use Rattle.b3d_spec.specs.Rebuild.{cut}
use Rattle.b3d_rule_row_masks.specs.Runs.{Short}
use Rattle.b3d_rule_row_masks.specs.declared.RowRuns.{RowRuns}
use Rattle.b3d_write_row_runs.specs.Lent.{each_row}
use Rattle.b3d_write_row_runs.specs.RowBytes.{sets_bytes, back_bytes}

module _ (g : RowRuns) (ws : List ℕ) (p : ℕ) where
  -- a key's rotation is one set
  pub key_back : Short g → g.wide ≡ 3 → g.sets ≡ 1 → Both (back_bytes g ws p) (write_words (take g.some (drop p ws)) []) (write_words (take g.size (drop (p + 3) ws)) [])
  unfolding back_bytes sets_bytes cut each_row
  key_back h e f =
      let one : sets_bytes 1 g.size ws (p + 3) ≡ write_words (take g.size (drop (p + 3) ws)) [] = rw (append-nil (write_words (take g.size (take 4 (drop (p + 3) ws))) []), take-take g.size 4 (drop (p + 3) ws) h.size) in
      record { is = rw (e, f) (ap (λ (l : List ℕ). write_words (take g.some (drop p ws)) [] ++ l) one) }

pub ruleset back_laws = (key_back)
