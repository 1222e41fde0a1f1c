-- The laws of numbers that are passed over, in the words of the code.
use mathlib.Core.Path.{◌≡◌, refl, ap, sym, ◌∙◌}
use Prim.Native.Nat.{ℕ, zero, suc, ◌+◌, ◌-◌, ◌*◌, ◌/◌, ◌<◌, ◌≤◌}
use native.Mathlib.Omega.{arith}
use mathlib.Core.Bool.{Bool, true, false}
use mathlib.Core.List.{List, [], ◌∷◌, ◌++◌}
use lib.ListN.{length, get_or, take, drop, take-append-drop}
use lib.Seq.{slice, slice_empty, slice-cons, drop-append-le, take-take, length-take-le}
use lib.Dec.{ltb}
use borrow.Author.Tests.{ltb-true}
use Rattle.wire.specs.Bytes.{word, word_at}
use Rattle.layout.specs.Rules.{unit, holds}
use Rattle.b3d_pieces_spec.specs.declared.Totals.{Totals}
use Rattle.b3d_pieces_spec.specs.declared.Kept.{Kept}
use Rattle.b3d_pieces_spec.specs.declared.Open.{Open}
use Rattle.b3d_pieces_spec.specs.declared.Part.TheVariants.{Row}
use Rattle.b3d_pieces_spec.specs.Bodies.{none_kept, keep}
use Rattle.b3d_pieces_spec.specs.Machine.{State, live, counting, word_done, row_byte, byte_in, step, run}
use Rattle.b3d_pieces_spec.specs.Good.{Words, worth}
use Rattle.b3d_pieces_spec.proofs.RunLaws.{run-append}
use Rattle.b3d_pieces_spec.proofs.DepthLaws.{none-words}
use Rattle.b3d_pieces_item_steps.specs.declared.Now.TheVariants.{Live}
use Rattle.b3d_pieces_item_steps.proofs.EdgeLaws.{begin-row, edge_stays}
use Rattle.b3d_pieces_byte_steps.specs.Bytes.{gathers, AddsByte}
use Rattle.b3d_pieces_byte_steps.proofs.ByteLaws.{byte-goes}
use Rattle.b3d_pieces_byte_steps.proofs.RowLaws.{done-item, from_end, from_on, word_on, keep_are_words}
use Rattle.b3d_pieces_skip_numbers.specs.declared.RowPlace.{RowPlace}
use Rattle.b3d_pieces_skip_numbers.specs.declared.JudgedNumbers.{JudgedNumbers}
use Rattle.b3d_pieces_skip_numbers.specs.declared.RowRules.{RowRules}
use Rattle.b3d_pieces_skip_numbers.specs.Places.{Plain, RulesAre, KeepsIs, row_at, Sound, Advanced, NumberReady, NumberIs, stays, goes, Gathered}

-- ---- a rule

module _ (q : JudgedNumbers) (i w : ℕ) (r : Bool) where
  pub keeps_below : i < q.first → r ≡ true → KeepsIs q i w r
  keeps_below h e = record { is = λ y l fixed t k g d. d.below i w h }

  pub keeps-above : q.past ≤ i → r ≡ true → KeepsIs q i w r
  keeps-above h e = record { is = λ y l fixed t k g d. d.above i w h l }

  module _ (h : q.first ≤ i) (l : i < q.past) where
    pub keeps-colour : q.colour ≡ true → r ≡ holds unit w → KeepsIs q i w r
    keeps-colour c e = record { is = λ y m fixed t k g d. d.colours c i w h l (sym e ∙ y) }

    pub keeps-id : q.colour ≡ false → r ≡ ltb w q.names → KeepsIs q i w r
    keeps-id c e = record { is = λ y m fixed t k g d. d.ids c i w h l (ltb-true w q.names (sym e ∙ y)) }

pub ruleset keeps_laws = (keeps_below, keeps-above, keeps-colour, keeps-id)

-- ---- a number is complete

pub number-stays : (x : RowPlace) (w next : ℕ) (q : RowRules) (r : RowPlace) → r ≡ x → NumberIs x w next q r
number-stays x w next q r e = stays e

module _ (x : RowPlace) (w next : ℕ) (q : RowRules) (r : RowPlace) (h : NumberReady x w) (b : Bool) (eb : KeepsIs q.judged x.i w b) (tb : b ≡ true) where
  pub number-on : (x.i + 1 ≡ q.long → ⊥) → (k : Kept) → k ≡ keep x.i w x.kept
      → r ≡ record { from = next; at = x.at + 4; start = x.start; i = x.i + 1; j = 0; acc = 0; kept = k; count = x.count }
      → NumberIs x w next q r
  number-on ne k ek e =
      let l = h.index in
      let m = h.place in
      let ws : Words k = keep_are_words x.i w x.kept k ek h.word h.words in
      let d : x.i + 1 ≤ x.at + 4 = omega arith in
      let u : x.i ≤ 16777217 = omega arith in
      rw e (goes (record { is = λ fixed g f y R. on ws d u fixed g f y R; from = refl; at = refl; whole = refl; none = refl; index = d; words = ws; count = omega arith }))
    where
      on : Words k → x.i + 1 ≤ x.at + 4 → x.i ≤ 16777217 → (fixed : Bool) (g : Totals) (f : Open) → RulesAre q fixed g f → (R : List Open)
          → word_done fixed x.start x.i w x.at x.kept g (counting f x.count) R ≡ live (x.at + 4) (Row fixed x.start (x.i + 1) 0 0 k) g (counting f x.count) R
      on ws d u fixed g f y R =
          let F = counting f x.count in
          let now = Live (x.at + 4) (Row fixed x.start (x.i + 1) 0 0 k) g F in
          let z = word_on fixed x.start x.i w x.at x.kept g F now 0 (eb.is tb u fixed f.tag f.kept g y.judged) refl k ek (from_on fixed x.start (x.i + 1) (x.at + 4) k g F now q.long y.long ne ws d refl) in
          sym (z.is R)

  pub number-item : x.i + 1 ≡ q.long → q.again ≡ true → (l : ℕ) → l ≡ q.end - (x.at + 4) → q.long ≤ l / 4
      → r ≡ record { from = next; at = x.at + 4; start = x.at + 4; i = 0; j = 0; acc = 0; kept = record { first = 0; second = 0; third = 0 }; count = x.count + 1 }
      → NumberIs x w next q r
  number-item e ag l el hl er =
      let d = h.index in
      let m = h.place in
      let u : x.i ≤ 16777217 = omega arith in
      rw er (goes (record { is = λ fixed g f y R. on u fixed g f y (y.again ag) R; from = refl; at = refl; whole = refl; none = refl; index = omega arith; words = none-words; count = omega arith }))
    where
      on : x.i ≤ 16777217 → (fixed : Bool) (g : Totals) (f : Open) → RulesAre q fixed g f → Plain fixed f.tag → (R : List Open)
          → word_done fixed x.start x.i w x.at x.kept g (counting f x.count) R ≡ live (x.at + 4) (Row fixed (x.at + 4) 0 0 0 none_kept) g (counting f (x.count + 1)) R
      on u true g f y c R = let z : ◌≡◌ {A = ℕ} 0 1 = (let n = c.items in cc) in absurd (omega arith)
      on u false g f y c R =
          let F = counting f x.count in
          let F₁ = counting f (x.count + 1) in
          let now = Live (x.at + 4) (Row false (x.at + 4) 0 0 0 none_kept) g F₁ in
          let ef = y.end in
          let el₁ : l ≡ f.end - (x.at + 4) = omega arith in
          let here = begin-row (x.at + 4) g F₁ now false (sym c.texts) refl q.long y.long l el₁ hl refl in
          let inside = edge_stays (x.at + 4) g F₁ now (λ y. omega arith) here in
          let done = done-item false x.start (x.at + 4) (keep x.i w x.kept) g F now refl false (sym c.chunks) refl inside in
          let z = word_on false x.start x.i w x.at x.kept g F now 0 (eb.is tb u false f.tag f.kept g y.judged) refl (keep x.i w x.kept) refl (from_end false x.start (x.i + 1) (x.at + 4) (keep x.i w x.kept) g F now q.long y.long e done) in
          sym (z.is R)

pub ruleset after_laws = (number-stays, number-on, number-item)

-- ---- bytes of the piece

split : (a b c : ℕ) (p : List ℕ) → a ≤ b → b ≤ c → c ≤ length p → slice a c p ≡ slice a b p ++ slice b c p
split a b c p h k l =
    let T = take c p in
    let n : length T ≡ c = length-take-le c p l in
    let m : length (take b T) ≡ b = length-take-le b T (omega arith) in
    ap (drop a) (sym (take-append-drop b T)) ∙ drop-append-le a (take b T) (drop b T) (omega arith) ∙ ap (λ (s : List ℕ). drop a s ++ drop b T) (take-take b c p k)

pub bytes-then : (st : State) (a b c : ℕ) (p : List ℕ) → a ≤ b → b ≤ c → c ≤ length p → run st (slice a c p) ≡ run (run st (slice a b p)) (slice b c p)
bytes-then st a b c p h k l = ap (run st) (split a b c p h k l) ∙ run-append st (slice a b p) (slice b c p)

pub one_byte : (p : List ℕ) (a : ℕ) → a + 1 ≤ length p → slice a (a + 1) p ≡ get_or p a 0 ∷ []
one_byte p a h =
    let e : suc a ≡ a + 1 = omega arith in
    slice-cons a (a + 1) p 0 (omega arith) h ∙ ap (λ (n : ℕ). get_or p a 0 ∷ slice n (a + 1) p) e ∙ ap (λ (s : List ℕ). get_or p a 0 ∷ s) (slice_empty (a + 1) p)

four_bytes : (p : List ℕ) (a : ℕ) → a + 4 ≤ length p → slice a (a + 4) p ≡ get_or p a 0 ∷ get_or p (a + 1) 0 ∷ get_or p (a + 2) 0 ∷ get_or p (a + 3) 0 ∷ []
four_bytes p a h =
    let e₁ : suc a ≡ a + 1 = omega arith in
    let e₂ : suc (a + 1) ≡ a + 2 = omega arith in
    let e₃ : suc (a + 2) ≡ a + 3 = omega arith in
    let e₄ : suc (a + 3) ≡ a + 4 = omega arith in
    slice-cons a (a + 4) p 0 (omega arith) h
    ∙ rw (e₁, slice-cons (a + 1) (a + 4) p 0 (omega arith) h, e₂, slice-cons (a + 2) (a + 4) p 0 (omega arith) h, e₃, slice-cons (a + 3) (a + 4) p 0 (omega arith) h, e₄, slice_empty (a + 4) p)

module _ (fixed : Bool) (start i : ℕ) (k : Kept) (at : ℕ) (g : Totals) (f : Open) (R : List Open) where
  four-taken : (j acc a b c d : ℕ) → j ≡ 0 → run (live at (Row fixed start i j acc k) g f R) (a ∷ b ∷ c ∷ d ∷ []) ≡ word_done fixed start i (word a b c d) at k g f R
  unfolding step byte_in row_byte word
  four-taken zero acc a b c d e = refl
  four-taken (suc j) acc a b c d e = absurd (omega arith)

  last_taken : (j acc b : ℕ) → j ≡ 3 → run (live at (Row fixed start i j acc k) g f R) (b ∷ []) ≡ word_done fixed start i (acc + 16777216 * b) at k g f R
  unfolding step byte_in row_byte
  last_taken j acc b e = rw e

  byte-taken : (j acc b : ℕ) → j < 3 → run (live at (Row fixed start i j acc k) g f R) (b ∷ []) ≡ live at (Row fixed start i (j + 1) (gathers j acc b) k) g f R
  unfolding step byte_in
  byte-taken j acc b h = byte-goes fixed start i b acc k at g f j h R

-- ---- the next number

module _ (p : List ℕ) (last : ℕ) (q : RowRules) (x : RowPlace) (h : Sound last x) where
  pub took-none : (r : RowPlace) → r ≡ x → Advanced p last q x r
  took-none r e = rw e (record { is = λ fixed g f y R. ap (run (row_at fixed g f x R)) (slice_empty x.from p); ahead = omega arith; sound = h; place = refl; count = omega arith })

  -- j bytes of the number came before, m come now
  took-word : (w m : ℕ) (r : RowPlace) → x.from + m ≤ last → m + x.j ≡ 4
      → ((fixed : Bool) (g : Totals) (f : Open) (R : List Open)
      → run (row_at fixed g f x R) (slice x.from (x.from + m) p) ≡ word_done fixed x.start x.i w x.at x.kept g (counting f x.count) R)
      → NumberIs x w (x.from + m) q r → Advanced p last q x r
  took-word w m r l e s (stays z) = took-none r z
  took-word w m r l e s (goes y) =
      let ef = y.from in
      let ea = y.at in
      let ej = y.whole in
      let ec = y.count in
      let hp = h.place in
      let hc = h.count in
      record {
        is = λ fixed g f z R. ap (λ (n : ℕ). run (row_at fixed g f x R) (slice x.from n p)) y.from ∙ s fixed g f R ∙ y.is fixed g f z R;
        ahead = omega arith;
        sound = record { from = omega arith; three = omega arith; index = y.index; low = low; most = most; words = y.words; count = omega arith; place = omega arith };
        place = omega arith;
        count = omega arith;
      }
    where
      low : r.acc < worth r.j
      low = rw (y.whole, y.none) (omega arith)

      most : r.acc < 16777216
      most = let n = y.none in omega arith

  module _ (len : last ≤ length p) (w : ℕ) (r : RowPlace) where
    pub took-four : x.j ≡ 0 → 4 ≤ last - x.from → (u : ℕ) → u ≡ word_at p x.from → w ≡ u → NumberIs x w (x.from + 4) q r → Advanced p last q x r
    unfolding word_at
    took-four e l u eu ew y =
        let d : x.from + 4 ≤ last = omega arith in
        took-word w 4 r d (omega arith)
        (λ fixed g f R. ap (run (row_at fixed g f x R)) (four_bytes p x.from (omega arith))
        ∙ four-taken fixed x.start x.i x.kept x.at g (counting f x.count) R x.j x.acc (get_or p x.from 0) (get_or p (x.from + 1) 0) (get_or p (x.from + 2) 0) (get_or p (x.from + 3) 0) e
        ∙ ap (λ (n : ℕ). word_done fixed x.start x.i n x.at x.kept g (counting f x.count) R) (sym (ew ∙ eu))) y

    pub took-last : x.j ≡ 3 → (last ≡ x.from → ⊥) → (b : ℕ) → b ≡ get_or p x.from 0 → w ≡ x.acc + 16777216 * b → NumberIs x w (x.from + 1) q r → Advanced p last q x r
    took-last e ne b eb ew y =
        let hf = h.from in
        let d : x.from + 1 ≤ last = omega arith in
        took-word w 1 r d (omega arith)
        (λ fixed g f R. ap (run (row_at fixed g f x R)) (one_byte p x.from (omega arith))
        ∙ ap (λ (n : ℕ). run (row_at fixed g f x R) (n ∷ [])) (sym eb)
        ∙ last_taken fixed x.start x.i x.kept x.at g (counting f x.count) R x.j x.acc b e
        ∙ ap (λ (n : ℕ). word_done fixed x.start x.i n x.at x.kept g (counting f x.count) R) (sym ew)) y

pub ready_last : (last : ℕ) (x : RowPlace) → Sound last x → x.j ≡ 3 → (last ≡ x.from → ⊥) → (b w : ℕ) → b < 256 → w ≡ x.acc + 16777216 * b → NumberReady x w
ready_last last x h e ne b w v ew =
    let m = h.most in
    let l = h.place in
    let s = h.from in
    record { word = omega arith; index = h.index; count = h.count; place = omega arith; words = h.words }

pub ruleset number_laws = (took-none, took-four)

pub ruleset last_laws = (took-none, took-last, ready_last)

-- ---- one after the other

pub took-then : (p : List ℕ) (last : ℕ) (q : RowRules) (x y z : RowPlace) → last ≤ length p → Advanced p last q x y → Advanced p last q y z → Advanced p last q x z
took-then p last q x y z l a b =
    let aa = a.ahead in
    let ba = b.ahead in
    let bf = b.sound.from in
    let ap₁ = a.place in
    let bp = b.place in
    let ac = a.count in
    let bc = b.count in
    record {
      is = λ fixed g f d R. bytes-then (row_at fixed g f x R) x.from y.from z.from p aa ba (omega arith) ∙ ap (λ (st : State). run st (slice y.from z.from p)) (a.is fixed g f d R) ∙ b.is fixed g f d R;
      ahead = omega arith;
      sound = b.sound;
      place = omega arith;
      count = omega arith;
    }

pub took-sound : (p : List ℕ) (last : ℕ) (q : RowRules) (x y : RowPlace) → Advanced p last q x y → Sound last y
took-sound p last q x y a = a.sound

-- a loop over numbers
pub record Numbering (p : List ℕ) (last : ℕ) (q : RowRules) (x y : RowPlace) : Type 0 where
  pub took : Advanced p last q x y
  pub len : last ≤ length p

module _ (p : List ℕ) (last : ℕ) (q : RowRules) (x : RowPlace) where
  pub numbering_first : Sound last x → last ≤ length p → Numbering p last q x x
  numbering_first h l = record { took = took-none p last q x h x refl; len = l }

  module _ (y : RowPlace) (i : Numbering p last q x y) where
    pub numbering_sound : Sound last y
    numbering_sound = i.took.sound

    pub numbering_from : y.from ≤ last
    numbering_from = i.took.sound.from

    pub numbering_len : last ≤ length p
    numbering_len = i.len

    pub numbering_done : Advanced p last q x y
    numbering_done = i.took

    module _ (z : RowPlace) (a : Advanced p last q y z) where
      pub numbering_next : Numbering p last q x z
      numbering_next = record { took = took-then p last q x y z i.len i.took a; len = i.len }

      pub numbering_took : Advanced p last q x z
      numbering_took = took-then p last q x y z i.len i.took a

      pub numbering_less : 4 ≤ last - y.from → (z.from ≡ y.from → ⊥) → last - z.from < last - y.from
      numbering_less h ne = let s = a.sound.from in let b = a.ahead in omega arith

pub ruleset numbering_laws = (numbering_first, numbering_sound, numbering_from, numbering_len, numbering_done, numbering_next, numbering_took, numbering_less)

-- ---- bytes of a number

abbrev pub placed : RowPlace → ℕ → ℕ → ℕ → RowPlace
placed x from j acc = record { from = from; at = x.at; start = x.start; i = x.i; j = j; acc = acc; kept = x.kept; count = x.count }

pub record Gathering (p : List ℕ) (last : ℕ) (x : RowPlace) (stop from j acc : ℕ) : Type 0 where
  pub gathered : Gathered p last x (placed x from j acc)
  pub len : last ≤ length p
  pub within : stop ≤ last
  pub before : from ≤ stop
  pub three : j + (stop - from) ≤ 3

module _ (p : List ℕ) (last : ℕ) (x : RowPlace) (stop : ℕ) where
  pub gathering_first : Sound last x → last ≤ length p → (more : ℕ) → more ≤ last - x.from → more ≤ 3 - x.j → stop ≡ x.from + more → Gathering p last x stop x.from x.j x.acc
  gathering_first h l more a b e =
      let t = h.three in
      let s = h.from in
      record { gathered = record { sound = h; took = λ q. took-none p last q x h x refl }; len = l; within = omega arith; before = omega arith; three = omega arith }

  module _ (from j acc : ℕ) (i : Gathering p last x stop from j acc) where
    pub gathering_read : from < stop → from < length p
    gathering_read h = let a = i.len in let b = i.within in omega arith

    pub gathering_three : from < stop → j ≤ 3
    gathering_three h = let a = i.three in omega arith

    pub gathering_low : acc < worth j
    gathering_low = i.gathered.sound.low

    pub gathering_most : acc < 16777216
    gathering_most = i.gathered.sound.most

    pub gathering_next : from < stop → (v : ℕ) → AddsByte j acc (get_or p from 0) v → Gathering p last x stop (from + 1) (j + 1) v
    gathering_next h v a =
        let l = i.len in
        let w = i.within in
        let t = i.three in
        let s = i.gathered.sound in
        let sp = s.place in
        let j₃ : j < 3 = omega arith in
        let k : Sound last (placed x (from + 1) (j + 1) v) = record { from = omega arith; three = omega arith; index = s.index; low = a.low j₃; most = a.most j₃; words = s.words; count = s.count; place = omega arith } in
        record {
          gathered = record {
            sound = k;
            took = λ q. took-then p last q x (placed x from j acc) (placed x (from + 1) (j + 1) v) l (i.gathered.took q) (record {
              is = λ fixed g f y R. ap (run (row_at fixed g f (placed x from j acc) R)) (one_byte p from (omega arith))
                  ∙ byte-taken fixed x.start x.i x.kept x.at g (counting f x.count) R j acc (get_or p from 0) j₃
                  ∙ ap (λ (n : ℕ). row_at fixed g f (placed x (from + 1) (j + 1) n) R) (sym a.is);
              ahead = omega arith;
              sound = k;
              place = omega arith;
              count = omega arith;
            });
          };
          len = l;
          within = w;
          before = omega arith;
          three = omega arith;
        }

    pub gathering_done : stop ≤ from → (r : RowPlace) → r ≡ record { from = stop; at = x.at; start = x.start; i = x.i; j = j; acc = acc; kept = x.kept; count = x.count } → Gathered p last x r
    gathering_done h r e = let z : from ≡ stop = (let b = i.before in omega arith) in rw (e, ← z) i.gathered

pub ruleset gathering_laws = (gathering_first, gathering_read, gathering_three, gathering_low, gathering_most, gathering_next, gathering_done)
