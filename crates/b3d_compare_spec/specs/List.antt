-- The list of differences as bytes, and how such bytes are read.
use Rattle.std.specs.Prelude.{ℕ, zero, suc, ◌+◌, ◌-◌, ◌*◌, List, [], ◌∷◌, ◌++◌, length, take, drop, leb, ltb}
use Rattle.std.proofs.Math.Option.{Option, none, some}
use Rattle.wire.specs.Test.{if}
use Rattle.shared_seven_bit_groups.specs.Groups.{groups}
use Rattle.b3d_compare_spec.specs.declared.WordKind.{WordKind}
use Rattle.b3d_compare_spec.specs.declared.WordKind.TheVariants.{Whole, Float, Name, Length}
use Rattle.b3d_compare_spec.specs.Words.{kind_at}
use Rattle.b3d_compare_spec.specs.Changes.{Cell, number, text, told, Change}

-- ---- writing, before what follows

-- a number, or the length of a text
unfoldable pub lead_bytes : Cell → List ℕ → List ℕ
lead_bytes (number n) r = groups n r
lead_bytes (text b) r = groups (length b) r
lead_bytes told r = r

-- a text, behind both lengths
unfoldable pub text_bytes : Cell → List ℕ → List ℕ
text_bytes (number n) r = r
text_bytes (text b) r = b ++ r
text_bytes told r = r

-- table, row, word and the two cells
unfoldable pub change_bytes : Change → List ℕ → List ℕ
change_bytes c r =
    groups c.table (groups c.row (groups c.word (lead_bytes c.first (lead_bytes c.second (text_bytes c.first (text_bytes c.second r))))))

unfoldable pub list_bytes : List Change → List ℕ
list_bytes [] = []
list_bytes (c ∷ l) = change_bytes c (list_bytes l)

-- ---- reading

abbrev ◌>>=◌ : {A B : Type 0} → Option A → (A → Option B) → Option B
◌>>=◌ none f = none
◌>>=◌ (some a) f = f a

infixl 10 ◌>>=◌
-- the number whose groups these bytes begin with, those before them making v, and the bytes behind it
unfoldable pub take_number : ℕ → List ℕ → Option (ℕ × List ℕ)
take_number v [] = none
take_number v (b ∷ s) = if (ltb b 128) (some (v * 128 + b, s)) (take_number (v * 128 + (b - 128)) s)

-- n bytes, and those behind them; none where there are fewer
unfoldable pub take_text : ℕ → List ℕ → Option (List ℕ × List ℕ)
take_text n s = if (leb n (length s)) (some (take n s, drop n s)) none

-- the two cells of word w, by what it is, and the bytes behind them; a name's length has no entry
module _ (k r w : ℕ) where
  abbrev entry : Cell → Cell → List ℕ → Option (Change × List ℕ)
  entry x y s = some (record { table = k; row = r; word = w; first = x; second = y }, s)

  unfoldable pub take_numbers : List ℕ → Option (Change × List ℕ)
  take_numbers s = do
    x ← take_number 0 s
    y ← take_number 0 x.1
    entry (number x.0) (number y.0) y.1

  unfoldable pub take_texts : List ℕ → Option (Change × List ℕ)
  take_texts s = do
    m ← take_number 0 s
    n ← take_number 0 m.1
    x ← take_text m.0 n.1
    y ← take_text n.0 x.1
    entry (text x.0) (text y.0) y.1

  unfoldable pub take_cells : WordKind → List ℕ → Option (Change × List ℕ)
  take_cells Whole s = take_numbers s
  take_cells Float s = take_numbers s
  take_cells Name s = take_texts s
  take_cells Length s = none

-- an entry, and the bytes behind it
unfoldable pub take_change : List ℕ → Option (Change × List ℕ)
take_change s = do
  k ← take_number 0 s
  r ← take_number 0 k.1
  w ← take_number 0 r.1
  take_cells k.0 r.0 w.0 (kind_at k.0 w.0) w.1

-- all entries, at most as many as the first number says
unfoldable pub read_in : ℕ → List ℕ → Option (List Change)
read_in zero [] = some []
read_in zero (b ∷ s) = none
read_in (suc f) [] = some []
read_in (suc f) (b ∷ s) = do
  c ← take_change (b ∷ s)
  l ← read_in f c.1
  some (c.0 ∷ l)

-- there are no more entries than bytes
unfoldable pub read_list : List ℕ → Option (List Change)
read_list s = read_in (length s) s
