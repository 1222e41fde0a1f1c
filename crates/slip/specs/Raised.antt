-- What holds of slips when the row limit is raised, in the words of 02's E12: `low` is the older limit, `high` the newer one.
use Rattle.std.specs.Prelude.{◌≡◌, ℕ, List, length}
use Rattle.wire.specs.Bytes.{AllBytes}
use Rattle.layout.specs.Result.{accept, reject}
use Rattle.layout.specs.Refusals as refusals
use Rattle.shared_seven_bit_groups.specs.Groups.{AtMost}
use Rattle.slip.specs.Slips.{limits_within, slip_within, read_within}

-- E12's promises about slips of the older limit
pub record Raised (low high : ℕ) : Type 0 where
  -- every older slip keeps its bytes
  pub bytes : (ns b : List ℕ) → length ns ≡ 12 → slip_within low ns ≡ accept b → slip_within high ns ≡ accept b
  -- every older slip keeps its reading; so the older reader never gives other numbers than those that the slip says
  pub reading : (s ns : List ℕ) → AllBytes s → read_within low s ≡ accept ns → read_within high s ≡ accept ns
  -- meeting a number that is out of the older ranges, the older reader refuses 13
  pub refused : (ns b : List ℕ) → length ns ≡ 12 → slip_within high ns ≡ accept b → (AtMost (limits_within low) ns → ⊥) → (p : ℕ)
      × (read_within low b ≡ reject refusals.no_slip p)
