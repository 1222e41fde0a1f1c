-- A number is its four bytes, and lists of bytes stay such when they are cut and joined.
use Prim.Native.Nat.{ℕ, zero, suc, ◌/◌, ◌%◌, ◌<◌}
use native.Mathlib.Omega.{arith}
use mathlib.Core.Path.{◌≡◌}
use mathlib.Core.List.{List, [], ◌∷◌, ◌++◌}
use lib.ListN.{take, drop, get_or}
use Rattle.wire.specs.Bytes.{word, IsWord, AllBytes}

pub word_bytes : (n : ℕ) → IsWord n → word (n % 256) (n / 256 % 256) (n / 256 / 256 % 256) (n / 256 / 256 / 256 % 256) ≡ n
unfolding word
word_bytes n h = omega arith

pub word_fits : (a b c d : ℕ) → a < 256 → b < 256 → c < 256 → d < 256 → IsWord (word a b c d)
unfolding word
word_fits a b c d ha hb hc hd = omega arith

pub take-bytes : (n : ℕ) (s : List ℕ) → AllBytes s → AllBytes (take n s)
take-bytes zero s h = tt
take-bytes (suc n) [] h = tt
take-bytes (suc n) (x ∷ s) h = (h.0, take-bytes n s h.1)

pub drop-bytes : (n : ℕ) (s : List ℕ) → AllBytes s → AllBytes (drop n s)
drop-bytes zero s h = h
drop-bytes (suc n) [] h = tt
drop-bytes (suc n) (x ∷ s) h = drop-bytes n s h.1

pub append-bytes : (a b : List ℕ) → AllBytes a → AllBytes b → AllBytes (a ++ b)
append-bytes [] b h k = k
append-bytes (x ∷ a) b h k = (h.0, append-bytes a b h.1 k)

pub all-bytes : (l : List ℕ) → ((i : ℕ) → get_or l i 0 < 256) → AllBytes l
all-bytes [] h = tt
all-bytes (x ∷ l) h = (h 0, all-bytes l (λ i. h (suc i)))
