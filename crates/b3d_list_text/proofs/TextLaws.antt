-- A law for each way through the functions that put text.
use mathlib.Core.Path.{◌≡◌}
use Prim.Native.Nat.{ℕ, ◌+◌, ◌-◌, ◌/◌, ◌%◌, ◌<◌, ◌≤◌}
use native.Mathlib.Numerals.{add-one}
use native.Mathlib.Omega.{arith}
use mathlib.Core.List.{List, [], ◌∷◌, ◌++◌, map, append_assoc}
use lib.ListN.{length, drop, get_or, drop_of_length-le}
use lib.Seq.{drop-cons}
use borrow.Author.Tests.{lt-ltb, le-ltb}
use Rattle.wire.specs.Test.{if}
use Rattle.b3d_list_text.specs.Puts.{Puts}
use Rattle.b3d_list_text.specs.Text.{shown, decimal, after, number_at, number_line, text_line}
use Rattle.b3d_list_text.proofs.DecimalLaws.{decimal-one, decimal-more}
use Rattle.b3d_list_text.proofs.PutLaws.{put_both, put_inside, Putting, putting_start, putting_part, putting_done}

-- ---- `shown`

module _ (b : ℕ) where
  pub shown-low : b < 32 → 63 ≡ shown b
  unfolding shown if
  shown-low h = rw (lt-ltb b 32 h)

  module _ (h : 32 ≤ b) where
    pub shown-high : 126 < b → 63 ≡ shown b
    unfolding shown if
    shown-high k = rw (le-ltb b 32 h, lt-ltb 126 b k)

    pub shown-same : b ≤ 126 → b ≡ shown b
    unfolding shown if
    shown-same k = rw (le-ltb b 32 h, le-ltb 126 b k)

pub ruleset shown_laws = (shown-low, shown-high, shown-same)

-- ---- `put_decimal`

module _ (n : ℕ) (xs : List ℕ) (at : ℕ) where
  pub decimal_digit : n < 10 → (d : ℕ) → d ≡ 48 + n → (ys : List ℕ) (p : ℕ) → Puts (d ∷ []) xs at ys p → Puts (decimal n) xs at ys p
  decimal_digit h d e ys p k = rw (decimal-one n h, ← e) k

  pub decimal-digits : 10 ≤ n → (ys : List ℕ) (p : ℕ) → Puts (decimal (n / 10)) xs at ys p
      → (d : ℕ) → d ≡ 48 + n % 10 → (zs : List ℕ) (q : ℕ) → Puts (d ∷ []) ys p zs q → Puts (decimal n) xs at zs q
  decimal-digits h ys p k d e zs q l = rw (decimal-more n h, ← e) (put_both (decimal (n / 10)) (d ∷ []) xs at ys p zs q k l)

pub ruleset decimal_laws = (decimal_digit, decimal-digits, put_inside)

-- ---- `after`

module _ (ns : List ℕ) (i : ℕ) where
  pub after_more : i + 1 < length ns → 32 ≡ after (drop (i + 1) ns)
  unfolding after
  after_more h = rw (drop-cons ns (i + 1) 0 h)

  pub after_last : length ns ≤ i + 1 → 10 ≡ after (drop (i + 1) ns)
  unfolding after
  after_last h = rw (drop_of_length-le ns h)

pub ruleset after_laws = (after_more, after_last)

-- ---- `put_number`

pub number-done : (ns : List ℕ) (i : ℕ) (xs : List ℕ) (at : ℕ) (ys : List ℕ) (p : ℕ) → Puts (decimal (get_or ns i 0)) xs at ys p
    → (b : ℕ) → b ≡ after (drop (i + 1) ns) → (zs : List ℕ) (q : ℕ) → Puts (b ∷ []) ys p zs q → Puts (number_at ns i) xs at zs q
number-done ns i xs at ys p h b e zs q k = rw (← e) (put_both (decimal (get_or ns i 0)) (b ∷ []) xs at ys p zs q h k)

pub ruleset number_laws = (number-done, put_inside)

-- ---- `put_numbers`: the line of the numbers from i on is left

pub record Numbering (ns xs : List ℕ) (at : ℕ) (ys : List ℕ) (p i : ℕ) : Type 0 where
  pub before : i ≤ length ns
  pub puts : Putting (number_line ns) xs at (number_line (drop i ns)) ys p

module _ (ns xs : List ℕ) (at : ℕ) where
  pub numbers_start : at ≤ length xs → Numbering ns xs at xs at 0
  numbers_start h = record { before = omega arith; puts = putting_start (number_line ns) xs at h }

  module _ (ys : List ℕ) (p i : ℕ) (g : Numbering ns xs at ys p i) where
    pub numbers_inside : p ≤ length ys
    numbers_inside = g.puts.inside

    pub numbers_next : i < length ns → (zs : List ℕ) (q : ℕ) → Puts (number_at ns i) ys p zs q → Numbering ns xs at zs q (i + 1)
    unfolding number_line
    numbers_next h zs q k =
        let d : drop i ns ≡ get_or ns i 0 ∷ drop (i + 1) ns = rw add-one (drop-cons ns i 0 h) in
        let rest = number_line (drop (i + 1) ns) in
        let e : number_line (drop i ns) ≡ number_at ns i ++ rest = rw (d, append_assoc) in
        record { before = omega arith; puts = putting_part (number_line ns) xs at (number_line (drop i ns)) ys p g.puts (number_at ns i) rest zs q e k }

    pub numbers_done : length ns ≤ i → Puts (number_line ns) xs at ys p
    unfolding number_line
    numbers_done h = putting_done (number_line ns) xs at (number_line (drop i ns)) ys p g.puts (rw (drop_of_length-le ns h))

pub ruleset numbers_laws = (numbers_start, numbers_inside, numbers_next, numbers_done)

-- ---- `put_shown`: the bytes from i on are left

pub record Showing (w xs : List ℕ) (at : ℕ) (ys : List ℕ) (p i : ℕ) : Type 0 where
  pub before : i ≤ length w
  pub puts : Putting (map shown w) xs at (map shown (drop i w)) ys p

module _ (w xs : List ℕ) (at : ℕ) where
  pub shows_start : at ≤ length xs → Showing w xs at xs at 0
  shows_start h = record { before = omega arith; puts = putting_start (map shown w) xs at h }

  module _ (ys : List ℕ) (p i : ℕ) (g : Showing w xs at ys p i) where
    pub shows_inside : p ≤ length ys
    shows_inside = g.puts.inside

    pub shows_next : i < length w → (b : ℕ) → b ≡ shown (get_or w i 0) → (zs : List ℕ) (q : ℕ) → Puts (b ∷ []) ys p zs q → Showing w xs at zs q (i + 1)
    shows_next h b e zs q k =
        let d : drop i w ≡ get_or w i 0 ∷ drop (i + 1) w = rw add-one (drop-cons w i 0 h) in
        record { before = omega arith; puts = putting_part (map shown w) xs at (map shown (drop i w)) ys p g.puts (b ∷ []) (map shown (drop (i + 1) w)) zs q (rw (d, e)) k }

    pub shows_done : length w ≤ i → Puts (map shown w) xs at ys p
    shows_done h = putting_done (map shown w) xs at (map shown (drop i w)) ys p g.puts (rw (drop_of_length-le w h))

pub ruleset shows_laws = (shows_start, shows_inside, shows_next, shows_done)

-- ---- `put_line`

pub line-done : (w xs : List ℕ) (at : ℕ) (ys : List ℕ) (p : ℕ) → Puts (map shown w) xs at ys p
    → (zs : List ℕ) (q : ℕ) → Puts (10 ∷ []) ys p zs q → Puts (text_line w) xs at zs q
unfolding text_line
line-done w xs at ys p h zs q k = put_both (map shown w) (10 ∷ []) xs at ys p zs q h k

pub ruleset line_laws = (line-done, put_inside)
