-- The whole file: eight bytes of BB3D's header, then the machine; and what is answered at the close.
use Rattle.std.specs.Prelude.{ℕ, zero, suc, ◌+◌, ◌-◌, ◌*◌, false, List, [], ◌∷◌, get_or, replicate, eqb, leb}
use Rattle.wire.specs.Test.{if}
use Rattle.layout.specs.Result.{Result, accept, reject, check, ◌>>=◌}
use Rattle.layout.specs.Rows.{each_of, size_fits, most_bytes}
use Rattle.layout.specs.Refusals as refusals
use Rattle.b3d_spec.specs.declared.Tag.TheVariants.{BB3D}
use Rattle.b3d_spec.specs.Tags.{code}
use Rattle.b3d_spec.specs.Rules.{levels, row_limit}
use Rattle.b3d_spec.specs.Tables.{start, tables}
use Rattle.b3d_spec.specs.declared.Answer.{Answer}
use Rattle.b3d_pieces_spec.specs.declared.Totals.{Totals}
use Rattle.b3d_pieces_spec.specs.Machine.{State, live, fault, over, fresh, enter, step}

-- the totals before anything was counted
abbrev pub nothing : Totals
nothing = record { version = 0; slots = 0; textures = 0; brushes = 0; own = 0; told = 0; below = 0; rows = start }

-- the state at the body of a BB3D of n bytes: nothing of it was read
unfoldable pub body : ℕ → State
body n = enter false 8 nothing (fresh BB3D 0 (8 + n) levels 0) []

-- how far a file has come: inside BB3D's header, or after it
pub data Whole : Type 0 where
  -- inside BB3D's header: how many of its bytes came; the value so far of the number being read; the tag, 0 until it was read
  heading : ℕ → ℕ → ℕ → Whole
  -- BB3D's tag and length, and the machine's state in its body
  inside : ℕ → ℕ → State → Whole

-- what is held between two bytes: how many bytes came (`size`), and how far the file has come (`whole`)
pub record Held : Type 0 where
  pub size : ℕ
  pub whole : Whole

-- after byte b, the byte with index i of BB3D's header; `acc` is the value so far of the number being read, `tag` the tag
unfoldable pub head_byte : ℕ → ℕ → ℕ → ℕ → Whole
head_byte zero acc tag b = heading 1 b tag
head_byte (suc zero) acc tag b = heading 2 (acc + 256 * b) tag
head_byte (suc (suc zero)) acc tag b = heading 3 (acc + 65536 * b) tag
head_byte (suc (suc (suc zero))) acc tag b = heading 4 0 (acc + 16777216 * b)
head_byte (suc (suc (suc (suc zero)))) acc tag b = heading 5 b tag
head_byte (suc (suc (suc (suc (suc zero))))) acc tag b = heading 6 (acc + 256 * b) tag
head_byte (suc (suc (suc (suc (suc (suc zero)))))) acc tag b = heading 7 (acc + 65536 * b) tag
head_byte (suc (suc (suc (suc (suc (suc (suc i))))))) acc tag b = inside tag (acc + 16777216 * b) (body (acc + 16777216 * b))

-- how far a file has come after byte b
unfoldable pub whole_byte : Whole → ℕ → Whole
whole_byte (heading i acc tag) b = head_byte i acc tag b
whole_byte (inside tag n st) b = inside tag n (step st b)

-- what is held after byte b; once the file is longer than the longest file nothing changes any more
unfoldable pub byte : Held → ℕ → Held
byte h b =
    let on : Held = record { size = h.size + 1; whole = whole_byte h.whole b } in
    if (leb h.size most_bytes) on h

-- what is held after the bytes of a piece, taken one by one; a piece of no bytes changes nothing
abbrev pub piece : Held → List ℕ → Held
piece h [] = h
piece h (b ∷ s) = piece (byte h b) s

-- what is held before the first byte
abbrev pub fresh_held : Held
fresh_held = record { size = 0; whole = heading 0 0 0 }

-- ---- the close

-- the ten row counts, in the order of the tables
abbrev pub counts_of : Totals → List ℕ
counts_of g =
    let n = g.rows in
    g.textures ∷ g.brushes ∷ n.nodes ∷ n.meshes ∷ n.vertices ∷ n.sets ∷ n.triangles ∷ n.weights ∷ n.lists ∷ n.keys ∷ []

-- what a machine that was handed all of BB3D comes to: the totals, or its refusal
unfoldable pub ended : State → Result Totals
ended (live at m g f R) = accept g
ended (fault n p) = reject n p
ended (over g) = accept g

-- what a file of `size` bytes comes to by check 2 and the machine; a file that ends inside BB3D's header is refused with 1
unfoldable pub whole_ended : ℕ → Whole → Result Totals
whole_ended size (heading i acc tag) = reject refusals.file_size 0
whole_ended size (inside tag n st) = do
  _ ← check (eqb tag (code BB3D)) refusals.first_tag 0
  _ ← check (eqb n (size - 8)) refusals.first_tag 4
  ended st

-- check 10: the totals, if no table has more rows than the limit; else the lowest such table
unfoldable pub limited : Totals → Result Totals
limited g = do
  _ ← each_of refusals.too_many_rows (λ (k : ℕ). leb (get_or (counts_of g) (k - 1) 0) row_limit) tables
  accept g

-- what all bytes joined come to, with 01's order of checks: 1, then 2, then the machine's refusal, then 10; else the totals
unfoldable pub closing : Held → Result Totals
closing h = do
  _ ← check (size_fits h.size) refusals.file_size 0
  g ← whole_ended h.size h.whole
  limited g

-- the answer: on acceptance version, n_texs and the ten counts, on a refusal its number and place, all else 0
unfoldable pub answer_of : Result Totals → Answer
answer_of (accept g) = record { number = 0; place = 0; version = g.version; n_texs = g.slots; counts = counts_of g }
answer_of (reject n p) = record { number = n; place = p; version = 0; n_texs = 0; counts = replicate 10 0 }

-- the answer at the close for what is held
unfoldable pub close : Held → Answer
close h = answer_of (closing h)
