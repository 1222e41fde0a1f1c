-- How many textures and brushes a tally has.
use mathlib.Core.Path.{◌≡◌, refl}
use Prim.Native.Nat.{ℕ, zero, suc}
use mathlib.Core.List.{List}
use lib.ListN.{length}
use Rattle.b3d_spec.specs.Scene.{Texture, Brush}
use Rattle.b3d_judge_tally.specs.Tally.{texs_of, brus_of, no_tally, texs_tally, brus_tally}

pub texs_count : (l : List Texture) → (texs_tally l).textures ≡ length l
unfolding texs_tally texs_of no_tally
texs_count l = go (length l)
  where
    go : (n : ℕ) → (texs_of n).textures ≡ n
    go zero = refl
    go (suc n) = refl

pub brus_count : (slots : ℕ) (l : List Brush) → (brus_tally slots l).brushes ≡ length l
unfolding brus_tally brus_of no_tally
brus_count slots l = go (length l)
  where
    go : (n : ℕ) → (brus_of slots n).brushes ≡ n
    go zero = refl
    go (suc n) = refl
