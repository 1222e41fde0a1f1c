-- Words of the file by their place.
use Rattle.std.specs.Prelude.{ℕ, zero, suc, ◌+◌, List, [], ◌∷◌}
use Rattle.wire.specs.Bytes.{word_at}

-- the n words of the file s from place p on
unfoldable pub words_at : ℕ → List ℕ → ℕ → List ℕ
words_at zero s p = []
words_at (suc n) s p = word_at s p ∷ words_at n s (p + 4)
