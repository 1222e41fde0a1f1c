-- The machine inside a BB3D: what a byte does to what is held. `at` is the place where the present number, text byte or passed byte begins, so that in a
-- number it moves once in four bytes. Of the open chunks the innermost, f, stands apart from those around it, R. In a row `fixed` says that it is fixed data,
-- `start` where it began, i which number is next, k its first three numbers.
use Rattle.std.specs.Prelude.{ℕ, zero, suc, ◌+◌, ◌-◌, ◌*◌, Bool, true, false, List, [], ◌∷◌, length, eqb, ltb}
use Rattle.std.proofs.Math.Option.{Option, none, some}
use Rattle.wire.specs.Test.{if}
use Rattle.layout.specs.Rules.{Rule, holds, refusal}
use Rattle.layout.specs.Refusals as refusals
use Rattle.b3d_spec.specs.declared.Tag.{Tag}
use Rattle.b3d_spec.specs.declared.Tag.TheVariants.{NODE}
use Rattle.b3d_spec.specs.Tags.{is, tag_of}
use Rattle.b3d_spec.specs.Nesting.{nesting, Reached, required_between, next, end}
use Rattle.b3d_pieces_spec.specs.declared.Totals.{Totals}
use Rattle.b3d_pieces_spec.specs.declared.Kept.{Kept}
use Rattle.b3d_pieces_spec.specs.declared.Open.{Open}
use Rattle.b3d_pieces_spec.specs.declared.Part.{Part}
use Rattle.b3d_pieces_spec.specs.declared.Part.TheVariants.{Text, Row, Skip}
use Rattle.b3d_pieces_spec.specs.Bodies.{rules_of, fixed_row, rule_at, nests, text_items, cut_row, wrong_for, none_kept, keep, headed, entered, closed}

-- what the machine holds
pub data State : Type 0 where
  -- inside chunks: the present place, what stands there, the totals, the innermost chunk, those around it
  live : ℕ → Part → Totals → Open → List Open → State
  -- refused: the number and its place
  fault : ℕ → ℕ → State
  -- past the end of BB3D
  over : Totals → State

-- ---- open chunks

-- a chunk of which nothing was read: its header at `head`, its end at e, `level` levels of nodes left and, as a NODE, the bone limit `told`
abbrev pub fresh : Tag → ℕ → ℕ → ℕ → ℕ → Open
fresh t head e level told = record { tag = t; head = head; end = e; turn = 0; spent = false; level = level; kept = none_kept; count = 0; told = told }

-- the chunk f with the fixed data k
abbrev pub numbered : Open → Kept → Open
numbered f k =
    record { tag = f.tag; head = f.head; end = f.end; turn = f.turn; spent = f.spent; level = f.level; kept = k; count = f.count; told = f.told }

-- the chunk f with c items
abbrev pub counting : Open → ℕ → Open
counting f c =
    record { tag = f.tag; head = f.head; end = f.end; turn = f.turn; spent = f.spent; level = f.level; kept = f.kept; count = c; told = f.told }

-- the chunk f after a chunk inside it that brings the nesting rule to r
abbrev pub reaching : Open → Reached → Open
reaching f r =
    record { tag = f.tag; head = f.head; end = f.end; turn = r.turn; spent = r.spent; level = f.level; kept = f.kept; count = f.count; told = f.told }

-- how far the nesting rule has come inside f
abbrev pub reached_by : Open → Reached
reached_by f = record { turn = f.turn; spent = f.spent }

-- the rules of a row of f: of its fixed data, or of an item or a header inside it
abbrev pub rules : Bool → Open → Totals → List Rule
rules fixed f g = rules_of fixed f.tag f.kept g

-- ---- between two parts of a chunk

-- an item or a header begins in f: a text, or a row of numbers; 3 or 5 at `at` where the row runs past the chunk
unfoldable pub begin : ℕ → Totals → Open → List Open → State
begin at g f R =
    let whole = if (ltb (f.end - at) (4 * length (rules false f g))) (fault (cut_row (nests f.tag)) at) (live at (Row false at 0 0 0 none_kept) g f R) in
    if (text_items f.tag) (live at (Text false at) g f R) whole

-- a part of the innermost open chunk ended at `at`: every chunk that ends here is left, with 8 where one lacks a chunk that must stand in it; then the next
-- item or header begins
unfoldable pub edge : ℕ → Totals → List Open → State
edge at g [] = over g
edge at g (f ∷ R) =
    let out = edge at (closed f.tag f.count f.kept f.told g) R in
    let leave = if (required_between (nesting f.tag) f.turn end) (fault refusals.no_vrts_or_tris f.head) out in
    let on = begin at g f R in
    if (eqb at f.end) leave on

-- ---- a chunk begins

-- a text that began at `start` goes on at `at`; 5 at `start` if the chunk ends here
unfoldable pub text_from : Bool → ℕ → ℕ → Totals → Open → List Open → State
text_from fixed start at g f R = if (eqb at f.end) (fault refusals.cut_item start) (live at (Text fixed start) g f R)

-- the fixed data k of f was read: f's items, or the chunks inside it, begin
unfoldable pub fixed_done : ℕ → Kept → Totals → Open → List Open → State
fixed_done at k g f R = edge at (headed f.tag k g) (numbered f k ∷ R)

-- the numbers of f's fixed data begin at `at`; 5 there if they run past the chunk, or an ANIM has more
unfoldable pub fixed_row_from : ℕ → Totals → Open → List Open → State
fixed_row_from at g f R =
    let none = fixed_done at none_kept g f R in
    let some = if (eqb 0 (length (fixed_row f.tag g))) none (live at (Row true at 0 0 0 none_kept) g f R) in
    if (wrong_for f.tag (f.end - at) (4 * length (fixed_row f.tag g))) (fault refusals.cut_item at) some

-- the body of f begins at `at`: with a text (true; only a NODE's does), or with the numbers of its fixed data
unfoldable pub enter : Bool → ℕ → Totals → Open → List Open → State
enter true at g f R = text_from true at at g f R
enter false at g f R = fixed_row_from at g f R

-- a NODE with its header at `head` and its end at e begins; 9 at the header if no level is left
unfoldable pub enter_node : ℕ → ℕ → ℕ → ℕ → Totals → List Open → State
enter_node zero head e at g R = fault refusals.too_deep head
enter_node (suc l) head e at g R = enter true at (entered g) (fresh NODE head e l g.below) R

-- a chunk begins inside f: a NODE (true), or a chunk of another tag t
abbrev pub opened_as : Bool → Tag → ℕ → ℕ → ℕ → Totals → Open → List Open → State
opened_as true t head e at g f R = enter_node f.level head e at g (f ∷ R)
opened_as false t head e at g f R = enter false at g (fresh t head e f.level 0) (f ∷ R)

-- a chunk of tag t begins inside f, its header at `head`, its end at e, its body at `at`
unfoldable pub opened : Tag → ℕ → ℕ → ℕ → Totals → Open → List Open → State
opened t head e at g f R = opened_as (is t NODE) t head e at g f R

-- a chunk with an unknown tag is passed over up to `until`; there its enclosing chunk f goes on or ends
unfoldable pub skip_from : ℕ → ℕ → Totals → Open → List Open → State
skip_from until at g f R = if (eqb at until) (edge at g (f ∷ R)) (live at (Skip until) g f R)

-- a chunk of known tag t inside f: 4 at its header if the nesting rule has no place for it, else it begins
unfoldable pub stand : Option Reached → Tag → ℕ → ℕ → ℕ → Totals → Open → List Open → State
stand none t head e at g f R = fault refusals.nesting head
stand (some r) t head e at g f R = opened t head e at g (reaching f r) R

-- a chunk inside f: with an unknown tag (none) it is passed over, with a known one it is held to the nesting rule
unfoldable pub known : Option Tag → ℕ → ℕ → ℕ → Totals → Open → List Open → State
known none head e at g f R = skip_from e at g f R
known (some t) head e at g f R = stand (next (nesting f.tag) (nesting f.tag) (reached_by f) t) t head e at g f R

-- a header at `head` with this tag and the length n was read: 3 at the header if the chunk runs past f
unfoldable pub header_done : ℕ → ℕ → ℕ → ℕ → Totals → Open → List Open → State
header_done head tag n at g f R = if (ltb (f.end - at) n) (fault refusals.cut_chunk head) (known (tag_of tag) head (at + n) at g f R)

-- ---- numbers

-- a row inside f was read: a header (true), or an item, which is counted
unfoldable pub inner_done : Bool → ℕ → ℕ → Kept → Totals → Open → List Open → State
inner_done true start at k g f R = header_done start k.first k.second at g f R
inner_done false start at k g f R = edge at g (counting f (f.count + 1) ∷ R)

-- the last number of a row of f was read
unfoldable pub row_done : Bool → ℕ → ℕ → Kept → Totals → Open → List Open → State
row_done true start at k g f R = fixed_done at k g f R
row_done false start at k g f R = inner_done (nests f.tag) start at k g f R

-- number i of a row begins at `at`, or the row ends before it
unfoldable pub row_from : Bool → ℕ → ℕ → ℕ → Kept → Totals → Open → List Open → State
row_from fixed start i at k g f R =
    let end = row_done fixed start at k g f R in
    if (eqb i (length (rules fixed f g))) end (live at (Row fixed start i 0 0 k) g f R)

-- number i of a row, at `at`, is w: refused there if it breaks its rule
unfoldable pub word_done : Bool → ℕ → ℕ → ℕ → ℕ → Kept → Totals → Open → List Open → State
word_done fixed start i w at k g f R =
    let r = rule_at (rules fixed f g) i in
    let on = row_from fixed start (i + 1) (at + 4) (keep i w k) g f R in
    if (holds r w) on (fault (refusal r) at)

-- the zero of a text was read before `at`: the numbers of the row begin, or 5 at `start` if they run past the chunk
unfoldable pub text_done : Bool → ℕ → ℕ → Totals → Open → List Open → State
text_done fixed start at g f R =
    let on = row_from fixed start 0 at none_kept g f R in
    if (ltb (f.end - at) (4 * length (rules fixed f g))) (fault refusals.cut_item start) on

-- ---- a byte

-- byte b of a text, at `at`: 0 ends it
unfoldable pub text_byte : Bool → ℕ → ℕ → ℕ → Totals → Open → List Open → State
text_byte fixed start zero at g f R = text_done fixed start (at + 1) g f R
text_byte fixed start (suc b) at g f R = text_from fixed start (at + 1) g f R

-- byte j of number i of a row is b; `acc` is the value of the bytes before it
unfoldable pub row_byte : ℕ → Bool → ℕ → ℕ → ℕ → ℕ → Kept → ℕ → Totals → Open → List Open → State
row_byte zero fixed start i b acc k at g f R = live at (Row fixed start i 1 b k) g f R
row_byte (suc zero) fixed start i b acc k at g f R = live at (Row fixed start i 2 (acc + 256 * b) k) g f R
row_byte (suc (suc zero)) fixed start i b acc k at g f R = live at (Row fixed start i 3 (acc + 65536 * b) k) g f R
row_byte (suc (suc (suc j))) fixed start i b acc k at g f R = word_done fixed start i (acc + 16777216 * b) at k g f R

-- byte b of the part m at `at`
unfoldable pub byte_in : Part → ℕ → ℕ → Totals → Open → List Open → State
byte_in (Text fixed start) b at g f R = text_byte fixed start b at g f R
byte_in (Row fixed start i j acc k) b at g f R = row_byte j fixed start i b acc k at g f R
byte_in (Skip until) b at g f R = skip_from until (at + 1) g f R

-- the state after byte b; a refusal and the end of BB3D stay
unfoldable pub step : State → ℕ → State
step (live at m g f R) b = byte_in m b at g f R
step (fault n p) b = fault n p
step (over g) b = over g

-- the state after the bytes of a list, taken one by one
abbrev pub run : State → List ℕ → State
run st [] = st
run st (b ∷ s) = run (step st b) s
