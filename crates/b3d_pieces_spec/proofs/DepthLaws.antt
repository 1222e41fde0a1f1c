-- Every state that a file leads to is good: nineteen open chunks are enough (a BB3D, 16 nodes, a MESH and a chunk of items).
use mathlib.Core.Path.{◌≡◌, refl, sym, subst}
use Prim.Native.Nat.{ℕ, zero, suc, ◌+◌, ◌-◌, ◌*◌, ◌<◌, ◌≤◌}
use native.Mathlib.Omega.{arith}
use mathlib.Core.Bool.{Bool, true, false}
use mathlib.Core.Option.{Option, none, some}
use mathlib.Core.List.{List, [], ◌∷◌}
use lib.ListN.{length}
use lib.Dec.{eqb, ltb, leb, leb→le}
use Rattle.wire.specs.Test.{if}
use Rattle.wire.specs.Bytes.{IsWord, AllBytes}
use Rattle.layout.specs.Rules.{holds}
use Rattle.layout.proofs.ResultLaws.{if_yes, if_no, by_test}
use Rattle.layout.specs.Rows.{most_bytes}
use Rattle.b3d_spec.specs.declared.Tag.{Tag}
use Rattle.b3d_spec.specs.declared.Tag.TheVariants.{BB3D, TEXS, BRUS, NODE, MESH, VRTS, TRIS, BONE, KEYS, ANIM}
use Rattle.b3d_spec.specs.Tags.{tag_of}
use Rattle.b3d_spec.specs.Rules.{levels}
use Rattle.b3d_spec.specs.Nesting.{nesting, Reached, required_between, end, next}
use Rattle.b3d_spec.specs.Tables.{start as no_counts}
use Rattle.b3d_spec.proofs.Files.TagCodeLaws.{by-tag}
use Rattle.b3d_spec.proofs.Files.EntryLaws.{◌▸◌, EachTag, at_tag}
use Rattle.b3d_pieces_spec.specs.declared.Totals.{Totals}
use Rattle.b3d_pieces_spec.specs.declared.Kept.{Kept}
use Rattle.b3d_pieces_spec.specs.declared.Open.{Open}
use Rattle.b3d_pieces_spec.specs.declared.Part.{Part}
use Rattle.b3d_pieces_spec.specs.declared.Part.TheVariants.{Text, Row, Skip}
use Rattle.b3d_pieces_spec.specs.Bodies.{fixed_row, rule_at, nests, text_items, wrong_for, none_kept, keep, headed, entered, closed}
use Rattle.b3d_pieces_spec.specs.Machine.{State, live, fault, over, rules, fresh, numbered, counting, reaching, reached_by, begin, edge, text_from, fixed_done, fixed_row_from, enter, enter_node, opened, skip_from, stand, known, header_done, inner_done, row_done, row_from, word_done, text_done, text_byte, row_byte, byte_in, step}
use Rattle.b3d_pieces_spec.specs.Close.{nothing, body, Whole, heading, inside, Held, head_byte, whole_byte, byte, piece, fresh_held}
use Rattle.b3d_pieces_spec.specs.Good.{Bound, Words, Deep, sum, extra, load, OpenChunksFit, worth, Off, Good, GoodWhole, GoodHeld, Child}

pub bound_most : (t : Tag) (l n : ℕ) → Bound t l n → n ≤ 18
bound_most = by-tag (λ t. (l n : ℕ) → Bound t l n → n ≤ 18) (λ l n h. omega arith, λ l n h. omega arith, λ l n h. omega arith, λ l n h. omega arith, λ l n h. omega arith, λ l n h. omega arith, λ l n h. omega arith, λ l n h. omega arith, λ l n h. omega arith, λ l n h. omega arith)

-- at most 19 open chunks, 18 around the innermost
pub good-depth : (n at : ℕ) (m : Part) (g : Totals) (f : Open) (R : List Open) → Good n (live at m g f R) → length R ≤ 18
good-depth n at m g f R h = bound_most f.tag f.level (length R) h.0.0.0

children : (k : Tag) (l n : ℕ) → Bound k l n → EachTag (λ t. Child t l n) (nesting k)
children BB3D l n h = omega arith ▸ omega arith ▸ (λ m z. omega arith) ▸ tt
children TEXS l n h = tt
children BRUS l n h = tt
children NODE l n h = omega arith ▸ omega arith ▸ omega arith ▸ omega arith ▸ (λ m z. omega arith) ▸ tt
children MESH l n h = omega arith ▸ omega arith ▸ tt
children VRTS l n h = tt
children TRIS l n h = tt
children BONE l n h = tt
children KEYS l n h = tt
children ANIM l n h = tt

pub child : (k t : Tag) (l n : ℕ) (r q : Reached) → next (nesting k) (nesting k) r t ≡ some q → Bound k l n → Child t l n
child k t l n r q e h = at_tag (λ t. Child t l n) k t r q (children k l n h) e

pub none-words : Words none_kept
none-words = (omega arith, omega arith, omega arith)

pub keep-words : (i w : ℕ) (k : Kept) → IsWord w → Words k → Words (keep i w k)
keep-words zero w k c u = (c, u.1, u.2)
keep-words (suc zero) w k c u = (u.0, c, u.2)
keep-words (suc (suc zero)) w k c u = (u.0, u.1, c)
keep-words (suc (suc (suc i))) w k c u = u

-- ---- each step keeps it

pub closed-sum : (t : Tag) (c : ℕ) (k : Kept) (told : ℕ) (g : Totals) → sum (closed t c k told g) ≤ sum g + (c + extra t)
closed-sum t c k told g = by-tag (λ t. sum (closed t c k told g) ≤ sum g + (c + extra t)) (omega arith, omega arith, omega arith, omega arith, omega arith, omega arith, omega arith, omega arith, omega arith, omega arith) t

pub headed-sum : (t : Tag) (k : Kept) (g : Totals) → sum (headed t k g) ≡ sum g
headed-sum t k g = by-tag (λ t. sum (headed t k g) ≡ sum g) (refl, refl, refl, refl, refl, refl, refl, refl, refl, refl) t

pub if-good : (n : ℕ) (b : Bool) (x y : State) → Good n x → Good n y → Good n (if b x y)
unfolding if
if-good n true x y h k = h
if-good n false x y h k = k

begin-good : (at : ℕ) (g : Totals) (f : Open) (R : List Open) → OpenChunksFit at g (f ∷ R) → Good at (begin at g f R)
unfolding begin
begin-good at g f R h = if-good at (text_items f.tag) _ _ (h, refl) (if-good at (ltb (f.end - at) (4 * length (rules false f g))) _ _ tt (h, (omega arith, omega arith, omega arith, omega arith, none-words)))

edge-good : (at : ℕ) (g : Totals) (R : List Open) → OpenChunksFit at g R → Good at (edge at g R)
unfolding edge
edge-good at g [] h = omega (arith, h.1)
edge-good at g (f ∷ R) h =
    let x = closed f.tag f.count f.kept f.told g in
    let c = closed-sum f.tag f.count f.kept f.told g in
    if-good at (eqb at f.end) _ _ (if-good at (required_between (nesting f.tag) f.turn end) _ _ tt (edge-good at x R (h.0.2, omega (arith, c, h.1)))) (begin-good at g f R h)

module _ (at : ℕ) (g : Totals) (f : Open) (R : List Open) (h : OpenChunksFit at g (f ∷ R)) where
  text-good : (fixed : Bool) (start : ℕ) → Good at (text_from fixed start at g f R)
  unfolding text_from
  text-good fixed start = if-good at (eqb at f.end) _ _ tt (h, refl)

  fixed_good : (k : Kept) → Words k → Good at (fixed_done at k g f R)
  unfolding fixed_done
  fixed_good k u = edge-good at (headed f.tag k g) (numbered f k ∷ R) ((h.0.0, u, h.0.2), omega (arith, headed-sum f.tag k g, h.1))

  fixed_row-good : Good at (fixed_row_from at g f R)
  unfolding fixed_row_from
  fixed_row-good =
      if-good at (wrong_for f.tag (f.end - at) (4 * length (fixed_row f.tag g))) _ _ tt
      (if-good at (eqb 0 (length (fixed_row f.tag g))) _ _ (fixed_good none_kept none-words) (h, (omega arith, omega arith, omega arith, omega arith, none-words)))

  enter-good : (texted : Bool) → Good at (enter texted at g f R)
  unfolding enter
  enter-good true = text-good true at
  enter-good false = fixed_row-good

  skip_good : (until : ℕ) → Good at (skip_from until at g f R)
  unfolding skip_from
  skip_good until = if-good at (eqb at until) _ _ (edge-good at g (f ∷ R) h) (h, refl)

node-good : (l head e at : ℕ) (g : Totals) (R : List Open) → Deep R → sum g + load R < at → ((m : ℕ) → l ≡ suc m → length R + m ≤ 16) → Good at (enter_node l head e at g R)
unfolding enter_node
node-good zero head e at g R h k b = tt
node-good (suc l) head e at g R h k b = enter-good at (entered g) (fresh NODE head e l g.below) R ((b l refl, none-words, h), omega arith) true

open_good : (t : Tag) (head e at : ℕ) (g : Totals) (f : Open) (R : List Open) → Deep (f ∷ R) → sum g + load (f ∷ R) < at → Child t f.level (length R) → Good at (opened t head e at g f R)
unfolding opened
open_good BB3D head e at g f R h k b = absurd b
open_good TEXS head e at g f R h k b = enter-good at g (fresh TEXS head e f.level 0) (f ∷ R) ((b, none-words, h), omega arith) false
open_good BRUS head e at g f R h k b = enter-good at g (fresh BRUS head e f.level 0) (f ∷ R) ((b, none-words, h), omega arith) false
open_good NODE head e at g f R h k b = node-good f.level head e at g (f ∷ R) h k b
open_good MESH head e at g f R h k b = enter-good at g (fresh MESH head e f.level 0) (f ∷ R) ((b, none-words, h), omega arith) false
open_good VRTS head e at g f R h k b = enter-good at g (fresh VRTS head e f.level 0) (f ∷ R) ((b, none-words, h), omega arith) false
open_good TRIS head e at g f R h k b = enter-good at g (fresh TRIS head e f.level 0) (f ∷ R) ((b, none-words, h), omega arith) false
open_good BONE head e at g f R h k b = enter-good at g (fresh BONE head e f.level 0) (f ∷ R) ((b, none-words, h), omega arith) false
open_good KEYS head e at g f R h k b = enter-good at g (fresh KEYS head e f.level 0) (f ∷ R) ((b, none-words, h), omega arith) false
open_good ANIM head e at g f R h k b = enter-good at g (fresh ANIM head e f.level 0) (f ∷ R) ((b, none-words, h), omega arith) false

module _ (at : ℕ) (g : Totals) (f : Open) (R : List Open) (h : Deep (f ∷ R)) (w : sum g + load (f ∷ R) < at) where
  weak : OpenChunksFit at g (f ∷ R)
  weak = (h, omega arith)

  stand-good : (o : Option Reached) (t : Tag) → next (nesting f.tag) (nesting f.tag) (reached_by f) t ≡ o → (head e : ℕ) → Good at (stand o t head e at g f R)
  unfolding stand
  stand-good none t q head e = tt
  stand-good (some r) t q head e = open_good t head e at g (reaching f r) R h w (child f.tag t f.level (length R) (reached_by f) r q h.0)

  known-good : (o : Option Tag) (head e : ℕ) → Good at (known o head e at g f R)
  unfolding known
  known-good none head e = skip_good at g f R weak e
  known-good (some t) head e = stand-good (next (nesting f.tag) (nesting f.tag) (reached_by f) t) t refl head e

  inner-good : (b : Bool) (start : ℕ) (k : Kept) → Good at (inner_done b start at k g f R)
  unfolding inner_done header_done
  inner-good true start k = if-good at (ltb (f.end - at) k.second) _ _ tt (known-good (tag_of k.first) start (at + k.second))
  inner-good false start k = edge-good at g (counting f (f.count + 1) ∷ R) (h, omega arith)

  row-done-good : (fixed : Bool) (start : ℕ) (k : Kept) → Words k → Good at (row_done fixed start at k g f R)
  unfolding row_done
  row-done-good true start k u = fixed_good at g f R weak k u
  row-done-good false start k u = inner-good (nests f.tag) start k

  row-good : (fixed : Bool) (start i : ℕ) (k : Kept) → i ≤ at → Words k → Good at (row_from fixed start i at k g f R)
  unfolding row_from
  row-good fixed start i k l u = if-good at (eqb i (length (rules fixed f g))) _ _ (row-done-good fixed start k u) (weak, (omega arith, omega arith, l, omega arith, u))

module _ (n at : ℕ) (g : Totals) (f : Open) (R : List Open) (h : OpenChunksFit at g (f ∷ R)) where
  byte-row-good : (j : ℕ) (fixed : Bool) (start i b acc : ℕ) (k : Kept) → b < 256 → at + j ≡ n → j ≤ 3 → i ≤ at → acc < worth j → Words k → Good (n + 1) (row_byte j fixed start i b acc k at g f R)
  unfolding row_byte word_done
  byte-row-good zero fixed start i b acc k v e l p a u = (h, (omega arith, omega arith, p, v, u))
  byte-row-good (suc zero) fixed start i b acc k v e l p a u = (h, (omega arith, omega arith, p, omega arith, u))
  byte-row-good (suc (suc zero)) fixed start i b acc k v e l p a u = (h, (omega arith, omega arith, p, omega arith, u))
  byte-row-good (suc (suc (suc j))) fixed start i b acc k v e l p a u =
      let w = acc + 16777216 * b in
      let q : at + 4 ≡ n + 1 = omega arith in
      let c : IsWord w = omega arith in
      if-good (n + 1) (holds (rule_at (rules fixed f g) i) w) _ _
      (subst (λ (z : ℕ). Good z (row_from fixed start (i + 1) (at + 4) (keep i w k) g f R)) q
      (row-good (at + 4) g f R h.0 (omega (arith, h.1)) fixed start (i + 1) (keep i w k) (omega arith) (keep-words i w k c u))) tt

  byte-text-good : (fixed : Bool) (start b : ℕ) → Good (at + 1) (text_byte fixed start b at g f R)
  unfolding text_byte text_done
  byte-text-good fixed start zero =
      if-good (at + 1) (ltb (f.end - (at + 1)) (4 * length (rules fixed f g))) _ _ tt (row-good (at + 1) g f R h.0 (omega (arith, h.1)) fixed start 0 none_kept (omega arith) none-words)
  byte-text-good fixed start (suc b) = text-good (at + 1) g f R (h.0, omega (arith, h.1)) fixed start

  byte-good : (m : Part) (b : ℕ) → b < 256 → Off m at n → Good (n + 1) (byte_in m b at g f R)
  unfolding byte_in
  byte-good (Text fixed start) b v e = subst (λ (z : ℕ). Good (z + 1) (text_byte fixed start b at g f R)) e (byte-text-good fixed start b)
  byte-good (Row fixed start i j acc k) b v e = byte-row-good j fixed start i b acc k v e.0 e.1 e.2 e.3 e.4
  byte-good (Skip until) b v e = subst (λ (z : ℕ). Good (z + 1) (skip_from until (at + 1) g f R)) e (skip_good (at + 1) g f R (h.0, omega (arith, h.1)) until)

pub step-good : (n : ℕ) (st : State) (b : ℕ) → b < 256 → Good n st → Good (n + 1) (step st b)
unfolding step
step-good n (live at m g f R) b v h = byte-good n at g f R h.0 m b v h.1
step-good n (fault k p) b v h = tt
step-good n (over g) b v h = omega arith

pub body-good : (n : ℕ) → Good 8 (body n)
unfolding body no_counts
body-good n = enter-good 8 nothing (fresh BB3D 0 (8 + n) levels 0) [] ((omega arith, none-words, tt), omega arith) false

-- ---- what is held between two pieces

head-good : (i acc tag b n : ℕ) → i ≡ n → i ≤ 7 → GoodWhole (n + 1) (head_byte i acc tag b)
unfolding head_byte
head-good zero acc tag b n e l = (omega arith, omega arith)
head-good (suc zero) acc tag b n e l = (omega arith, omega arith)
head-good (suc (suc zero)) acc tag b n e l = (omega arith, omega arith)
head-good (suc (suc (suc zero))) acc tag b n e l = (omega arith, omega arith)
head-good (suc (suc (suc (suc zero)))) acc tag b n e l = (omega arith, omega arith)
head-good (suc (suc (suc (suc (suc zero))))) acc tag b n e l = (omega arith, omega arith)
head-good (suc (suc (suc (suc (suc (suc zero)))))) acc tag b n e l = (omega arith, omega arith)
head-good (suc (suc (suc (suc (suc (suc (suc i))))))) acc tag b n e l =
    let q : 8 ≡ n + 1 = omega arith in
    subst (λ (z : ℕ). Good z (body (acc + 16777216 * b))) q (body-good (acc + 16777216 * b))

whole-good : (n : ℕ) (w : Whole) (b : ℕ) → b < 256 → GoodWhole n w → GoodWhole (n + 1) (whole_byte w b)
unfolding whole_byte
whole-good n (heading i acc tag) b v h = head-good i acc tag b n h.0 h.1
whole-good n (inside tag m st) b v h = step-good n st b v h

byte-held : (h : Held) (b : ℕ) → b < 256 → GoodHeld h → GoodHeld (byte h b)
unfolding byte
byte-held h b v k =
    let on : Held = record { size = h.size + 1; whole = whole_byte h.whole b } in
    by_test (leb h.size most_bytes)
    (λ t. let q = leb→le h.size most_bytes t in subst GoodHeld (sym (if_yes (leb h.size most_bytes) on h t)) (omega arith, whole-good h.size h.whole b v k.1))
    (λ t. subst GoodHeld (sym (if_no (leb h.size most_bytes) on h t)) k)

pub fresh-good : GoodHeld fresh_held
fresh-good = (omega arith, (refl, omega arith))

pub piece-good : (h : Held) (s : List ℕ) → AllBytes s → GoodHeld h → GoodHeld (piece h s)
piece-good h [] v k = k
piece-good h (b ∷ s) v k = piece-good (byte h b) s v.1 (byte-held h b v.0 k)
