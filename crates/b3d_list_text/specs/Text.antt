-- Lines of decimal numbers and of texts, as bytes.
use Rattle.std.specs.Prelude.{ℕ, zero, suc, ◌+◌, ◌/◌, ◌%◌, List, [], ◌∷◌, ◌++◌, map, drop, get_or, ltb}
use Rattle.wire.specs.Test.{if}

-- the end of a line
abbrev pub newline : ℕ
newline = 10

-- the byte between two numbers
abbrev pub space : ℕ
space = 32

-- a question mark, for a byte that is not printed
abbrev pub mark : ℕ
mark = 63

-- byte b of a text as it is printed: itself from 32 to 126, else `?`
unfoldable pub shown : ℕ → ℕ
shown b = if (ltb b 32) mark (if (ltb 126 b) mark b)

-- n in decimal, of at most k digits: its last digit after those of n / 10, if that is not 0
unfoldable pub decimal_in : ℕ → ℕ → List ℕ
decimal_in zero n = []
decimal_in (suc k) n = if (ltb n 10) ((48 + n) ∷ []) (decimal_in k (n / 10) ++ ((48 + n % 10) ∷ []))

-- n in decimal digits, without leading zeros
unfoldable pub decimal : ℕ → List ℕ
decimal n = decimal_in (suc n) n

-- what follows a number of a line, by the numbers after it: a space where there are more, else the end of the line
unfoldable pub after : List ℕ → ℕ
after [] = newline
after (n ∷ ns) = space

-- number i of the line of the numbers ns, and what follows it
abbrev pub number_at : List ℕ → ℕ → List ℕ
number_at ns i = decimal (get_or ns i 0) ++ (after (drop (i + 1) ns) ∷ [])

-- the numbers in a line; nothing where there is none
unfoldable pub number_line : List ℕ → List ℕ
number_line [] = []
number_line (n ∷ ns) = decimal n ++ (after ns ∷ number_line ns)

-- the text w in a line, as it is printed
unfoldable pub text_line : List ℕ → List ℕ
text_line w = map shown w ++ (newline ∷ [])
