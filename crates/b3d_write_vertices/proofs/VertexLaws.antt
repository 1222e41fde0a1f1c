-- The parts of a vertex that are written one after the other.
use mathlib.Core.Path.{◌≡◌, refl}
use Prim.Native.Nat.{ℕ, ◌+◌, ◌-◌, ◌*◌, ◌<◌, ◌≤◌}
use native.Mathlib.Omega.{arith}
use mathlib.Core.List.{List, [], ◌++◌}
use lib.ListN.{length, take, drop}
use lib.Seq.{take-take}
use Rattle.layout.specs.Write.{write_words}
use Rattle.shared_output.specs.Writing.{Room, Put}
use Rattle.shared_output.proofs.PartLaws.{Both}
use Rattle.b3d_spec.specs.Rebuild.{cut}
use Rattle.b3d_rule_row_masks.specs.Runs.{OfVertex}
use Rattle.b3d_rule_row_masks.specs.declared.RowRuns.{RowRuns}
use Rattle.b3d_write_row_runs.specs.Lent.{each_row}
use Rattle.b3d_write_row_runs.specs.RowBytes.{sets_bytes, back_bytes}
use Rattle.b3d_write_row_runs.proofs.PresentWordLaws.{few-is}
use Rattle.b3d_write_row_runs.proofs.RowByRowLaws.{RowsFrom, rows_room, rows_next}

pub few-last : (l : List ℕ) (n : ℕ) → n ≤ 4 → (n ≡ 0 → ⊥) → (n ≡ 1 → ⊥) → (n ≡ 2 → ⊥) → (n ≡ 3 → ⊥) → write_words (take n l) [] ≡ write_words (take 4 l) []
few-last l n h a b c d = few-is l n 4 (omega arith)

pub ruleset four_laws = (few-last)

pub sets-each : (sets size : ℕ) (ws : List ℕ) (p : ℕ) → sets_bytes sets size ws p ≡ each_row (λ x. write_words (take size x) []) (cut 4 sets (drop p ws))
unfolding sets_bytes
sets-each sets size ws p = refl

-- in a turn, b being the word at which set i begins
module _ (size : ℕ) (few : size ≤ 4) (ws : List ℕ) (first count : ℕ) (all out₀ out : List ℕ) (at i : ℕ) (v : RowsFrom (λ x. write_words (take size x) []) 4 ws first count all out₀ out at i) (l : i < count)
    (b : ℕ) where
  piece : write_words (take size (take 4 (drop b ws))) [] ≡ write_words (take size (drop b ws)) []
  piece = rw (take-take size 4 (drop b ws) few)

  pub sets_room : b ≡ first + i * 4 → Room (write_words (take size (drop b ws)) []) (take (length out - at) (drop at out))
  sets_room e = rows_room _ 4 ws first count all out₀ out at i v l _ b piece e

  pub sets_next : (zs : List ℕ) (n : ℕ) → Put (write_words (take size (drop b ws)) []) (take (length out - at) (drop at out)) zs n → b ≡ first + i * 4
      → RowsFrom (λ x. write_words (take size x) []) 4 ws first count all out₀ (take at out ++ (zs ++ drop (length out - at) (drop at out))) (at + n) (i + 1)
  sets_next zs n p e = rows_next _ 4 ws first count all out₀ out at i v l _ b piece e zs n p

module _ (g : RowRuns) (ws : List ℕ) (p : ℕ) where
  pub vertex-back : g.wide ≡ 4 → Both (back_bytes g ws p) (write_words (take g.some (drop p ws)) []) (sets_bytes g.sets g.size ws (p + 4))
  unfolding back_bytes
  vertex-back e = rw e (record { is = refl })

  pub row_back : OfVertex g → p + 42 ≤ length ws → p + 3 + 3 + 4 + g.sets * 4 ≤ length ws
  row_back v h = omega (arith, v.sets)

pub ruleset back_laws = (vertex-back, row_back)
