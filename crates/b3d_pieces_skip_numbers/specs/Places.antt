-- A place in a row, what the row's rules ask, and bytes that are taken at once inside the row or from one item to the next.
use Rattle.std.specs.Prelude.{◌≡◌, ℕ, ◌+◌, ◌-◌, ◌<◌, ◌≤◌, Bool, true, false, List, length}
use Rattle.std.proofs.Math.Seq.{slice}
use Rattle.wire.specs.Bytes.{IsWord}
use Rattle.layout.specs.Rules.{unit, holds}
use Rattle.b3d_spec.specs.declared.Tag.{Tag}
use Rattle.b3d_pieces_spec.specs.declared.Totals.{Totals}
use Rattle.b3d_pieces_spec.specs.declared.Kept.{Kept}
use Rattle.b3d_pieces_spec.specs.declared.Open.{Open}
use Rattle.b3d_pieces_spec.specs.declared.Part.TheVariants.{Row}
use Rattle.b3d_pieces_spec.specs.Bodies.{nests, text_items}
use Rattle.b3d_pieces_spec.specs.Machine.{State, live, rules, counting, word_done, run}
use Rattle.b3d_pieces_spec.specs.Good.{Words, worth}
use Rattle.b3d_pieces_spec.specs.Limits.{most_counted}
use Rattle.b3d_pieces_rules.specs.Faults.{row_fault}
use Rattle.b3d_pieces_skip_numbers.specs.declared.RowPlace.{RowPlace}
use Rattle.b3d_pieces_skip_numbers.specs.declared.JudgedNumbers.{JudgedNumbers}
use Rattle.b3d_pieces_skip_numbers.specs.declared.RowRules.{RowRules}

-- ---- the row's rules

-- q says which numbers w, by their index i, can break their rule in a row of a chunk of tag t with the fixed data k and the totals g
pub record JudgedIs (q : JudgedNumbers) (fixed : Bool) (t : Tag) (k : Kept) (g : Totals) : Type 0 where
  -- every number before index `first` keeps its rule
  pub below : (i w : ℕ) → i < q.first → 0 ≡ row_fault fixed t k g i w
  -- every number from index `past` on keeps its rule, as far as a file has room for them
  pub above : (i w : ℕ) → q.past ≤ i → i ≤ most_counted → 0 ≡ row_fault fixed t k g i w
  -- if they are colours, a number between that passes as a colour keeps its rule
  pub colours : q.colour ≡ true → (i w : ℕ) → q.first ≤ i → i < q.past → holds unit w ≡ true → 0 ≡ row_fault fixed t k g i w
  -- if they are ids, a number between that is below `names` keeps its rule
  pub ids : q.colour ≡ false → (i w : ℕ) → q.first ≤ i → i < q.past → w < q.names → 0 ≡ row_fault fixed t k g i w

-- the rows are items of numbers only
pub record Plain (fixed : Bool) (t : Tag) : Type 0 where
  -- the rows are not fixed data
  pub items : fixed ≡ false
  -- the rows are not headers
  pub chunks : nests t ≡ false
  -- the rows have no text
  pub texts : text_items t ≡ false

-- q says what the rules of a row of f ask
pub record RulesAre (q : RowRules) (fixed : Bool) (g : Totals) (f : Open) : Type 0 where
  -- `long` is how many numbers the row has
  pub long : q.long ≡ length (rules fixed f g)
  -- `judged` says which of its numbers may break their rule
  pub judged : JudgedIs q.judged fixed f.tag f.kept g
  -- if `again` says that another row may follow, the rows are items of numbers only
  pub again : q.again ≡ true → Plain fixed f.tag
  -- `end` is the end of f
  pub end : q.end ≡ f.end

-- if r is true, number i of a row keeps its rule with w
pub record KeepsIs (q : JudgedNumbers) (i w : ℕ) (r : Bool) : Type 0 where
  -- in every row of which q is right
  pub is : r ≡ true → i ≤ most_counted → (fixed : Bool) (t : Tag) (k : Kept) (g : Totals) → JudgedIs q fixed t k g → 0 ≡ row_fault fixed t k g i w

-- ---- places

-- the machine's state at the place x of a row of f, R being the chunks around f
abbrev pub row_at : Bool → Totals → Open → RowPlace → List Open → State
row_at fixed g f x R = live x.at (Row fixed x.start x.i x.j x.acc x.kept) g (counting f x.count) R

-- what holds of a place x in a row, with bytes of the piece up to `last` to be taken
pub record Sound (last : ℕ) (x : RowPlace) : Type 0 where
  -- the next byte is at `last` at most
  pub from : x.from ≤ last
  -- at most three bytes of the present number came
  pub three : x.j ≤ 3
  -- the index of the present number is at most its place
  pub index : x.i ≤ x.at
  -- the value of the bytes that came is below `worth` of how many they are
  pub low : x.acc < worth x.j
  -- the value of the bytes that came is below 16,777,216
  pub most : x.acc < 16777216
  -- the numbers kept are words
  pub words : Words x.kept
  -- the items are no more than the place
  pub count : x.count ≤ x.at
  -- with all bytes up to `last` the file is at most one byte longer than the longest file
  pub place : x.at + x.j + (last - x.from) ≤ most_counted

-- the bytes of the piece p from the place x to the place r were taken
pub record Advanced (p : List ℕ) (last : ℕ) (q : RowRules) (x r : RowPlace) : Type 0 where
  -- the machine comes from x to r over these bytes, in every row of which q is right
  pub is : (fixed : Bool) (g : Totals) (f : Open) → RulesAre q fixed g f → (R : List Open)
      → run (row_at fixed g f x R) (slice x.from r.from p) ≡ row_at fixed g f r R
  -- r is not before x
  pub ahead : x.from ≤ r.from
  -- what holds of a place holds of r
  pub sound : Sound last r
  -- place and piece went on by the same number of bytes
  pub place : r.at + r.j + x.from ≡ x.at + x.j + r.from
  -- no more items were counted than the place went on
  pub count : r.count + x.at ≤ x.count + r.at

-- ---- a number

-- what taking the present number of x, which is w, asks
pub record NumberReady (x : RowPlace) (w : ℕ) : Type 0 where
  -- w is a word
  pub word : IsWord w
  -- the number's index is at most its place
  pub index : x.i ≤ x.at
  -- the items are no more than the place
  pub count : x.count ≤ x.at
  -- the number's end is at most one byte past the longest file
  pub place : x.at + 4 ≤ most_counted
  -- the numbers kept are words
  pub words : Words x.kept

-- the present number of x is w: the machine goes on at r, before the byte at `next`
pub record Goes (x : RowPlace) (w next : ℕ) (q : RowRules) (r : RowPlace) : Type 0 where
  -- the machine comes to r, in every row of which q is right
  pub is : (fixed : Bool) (g : Totals) (f : Open) → RulesAre q fixed g f → (R : List Open)
      → word_done fixed x.start x.i w x.at x.kept g (counting f x.count) R ≡ row_at fixed g f r R
  -- r's next byte is at `next`
  pub from : r.from ≡ next
  -- the place went on by four bytes
  pub at : r.at ≡ x.at + 4
  -- no byte of the next number came
  pub whole : r.j ≡ 0
  -- the value of the next number is 0 so far
  pub none : r.acc ≡ 0
  -- the index of the next number is at most its place
  pub index : r.i ≤ r.at
  -- the numbers kept are words
  pub words : Words r.kept
  -- at most one item was counted
  pub count : r.count ≤ x.count + 1

-- the present number of x, w, was taken, or nothing was
pub data NumberIs (x : RowPlace) (w next : ℕ) (q : RowRules) (r : RowPlace) : Type 0 where
  -- nothing was taken
  stays : r ≡ x → NumberIs x w next q r
  -- the number was taken
  goes : Goes x w next q r → NumberIs x w next q r

-- bytes of the present number were taken, but not its last
pub record Gathered (p : List ℕ) (last : ℕ) (x r : RowPlace) : Type 0 where
  -- what holds of a place holds of r
  pub sound : Sound last r
  -- whatever the row's rules
  pub took : (q : RowRules) → Advanced p last q x r
