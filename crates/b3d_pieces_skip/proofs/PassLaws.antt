-- The laws of bytes that are passed over, in the words of the code.
use mathlib.Core.Path.{◌≡◌, refl, ap, sym, subst, ◌∙◌}
use Prim.Native.Nat.{ℕ, zero, suc, ◌+◌, ◌-◌, ◌≤◌}
use native.Mathlib.Omega.{arith}
use mathlib.Core.Bool.{Bool, false}
use mathlib.Core.List.{List, [], ◌∷◌, ◌++◌}
use lib.ListN.{length, take, drop, take-append-drop}
use lib.Seq.{slice, slice_empty, length-slice, length-take-le, drop-append-le}
use Rattle.b3d_pieces_spec.specs.declared.Totals.{Totals}
use Rattle.b3d_pieces_spec.specs.declared.Open.{Open}
use Rattle.b3d_pieces_spec.specs.declared.Part.{Part}
use Rattle.b3d_pieces_spec.specs.declared.Part.TheVariants.{Text, Row, Skip}
use Rattle.b3d_pieces_spec.specs.Machine.{State, live, over, counting, step, run}
use Rattle.b3d_pieces_spec.specs.Close.{inside, Held, whole_byte, piece}
use Rattle.b3d_pieces_spec.specs.Good.{Words, worth, Off, OpenChunksFit, sum}
use Rattle.b3d_pieces_spec.proofs.RunLaws.{run-fault}
use Rattle.b3d_pieces_spec.proofs.WholeFileLaws.{piece-append}
use Rattle.b3d_pieces_item_steps.specs.declared.Now.{Now}
use Rattle.b3d_pieces_item_steps.specs.declared.Now.TheVariants.{Live, Push, Pop, Fault, Over}
use Rattle.b3d_pieces_item_steps.specs.Nows.{state_with, GoodNow}
use Rattle.b3d_pieces_step.specs.Turns.{stack_by, pends, pend_of}
use Rattle.b3d_pieces_step.proofs.TurnLaws.{none}
use Rattle.b3d_pieces_judge_step.specs.declared.Turn.{Turn}
use Rattle.b3d_pieces_judge_step.specs.Takes.{held_of}
use Rattle.b3d_pieces_judge_step.proofs.TakeLaws.{held-body, byte-on}
use Rattle.b3d_pieces_judge_step.specs.Loops.{wait, left_of, rest_at, rest_of, Going}
use Rattle.b3d_pieces_judge_step.proofs.RunLaws.{Running}
use Rattle.b3d_pieces_skip_numbers.specs.declared.RowPlace.{RowPlace}
use Rattle.b3d_pieces_skip_numbers.specs.declared.RowRules.{RowRules}
use Rattle.b3d_pieces_skip_numbers.specs.Places.{RulesAre, row_at, Sound, Advanced}
use Rattle.b3d_pieces_skip_lengths.specs.Ahead.{BytesBefore, UntilZero, RoomIs}
use Rattle.b3d_pieces_skip.specs.Passes.{moved_to, LiveFine, PassReady, PassFrom, PassIs}
use Rattle.b3d_pieces_skip.proofs.PartLaws.{skip_run, text-run}

-- ---- bytes inside BB3D, taken at once

piece-run : (size tag len : ℕ) (st : State) (s : List ℕ) → size + length s ≤ 16777217
    → piece (record { size = size; whole = inside tag len st }) s ≡ record { size = size + length s; whole = inside tag len (run st s) }
unfolding whole_byte
piece-run size tag len st [] h = let e : size ≡ size + 0 = omega arith in ap (λ (n : ℕ). record { size = n; whole = inside tag len st }) e
piece-run size tag len st (b ∷ s) h =
    let e : size + 1 + length s ≡ size + suc (length s) = omega arith in
    let l : size ≤ 16777216 = omega arith in
    ap (λ (x : Held). piece x s) (byte-on size (inside tag len st) b l)
    ∙ piece-run (size + 1) tag len (step st b) s (omega arith)
    ∙ ap (λ (n : ℕ). record { size = n; whole = inside tag len (run (step st b) s) }) e

part-rest : (a b : ℕ) (p : List ℕ) → a ≤ b → b ≤ length p → drop a p ≡ slice a b p ++ drop b p
part-rest a b p h k =
    let n : length (take b p) ≡ b = length-take-le b p k in
    ap (drop a) (sym (take-append-drop b p)) ∙ drop-append-le a (take b p) (drop b p) (omega arith)

-- ---- a turn after n bytes

rest-calm : (q : Bool) (a : ℕ) (p : List ℕ) → q ≡ false → drop (rest_at q a) p ≡ drop a p
rest-calm q a p e = rw e

wait-calm : (q : Bool) (n : ℕ) → q ≡ false → wait q n ≡ 31
wait-calm q n e = rw e

module _ (t : Turn) (p : List ℕ) (n : ℕ) (x : Now) (end : t.end ≡ length p) (room : t.at + n ≤ t.end) (body : 8 ≤ t.judge.size) (file : t.judge.size + n ≤ 16777217)
    (calm : pends t.judge.now ≡ false) (no_anim : pends x ≡ false)
    (runs : (R : List Open) → run (state_with R t.judge.now) (slice t.at (t.at + n) p) ≡ state_with R x)
    (good : (R : List Open) → GoodNow t.judge.size R t.judge.now → GoodNow (t.judge.size + n) R x) where
  abbrev r : Turn
  r = moved_to t x n

  long : length (slice t.at (t.at + n) p) ≡ n
  long = length-slice t.at (t.at + n) p (omega arith) ∙ omega arith

  held : (rs : ℕ → Open) → held_of r.judge rs ≡ piece (held_of t.judge rs) (slice t.at (t.at + n) p)
  held rs =
      let j = t.judge in
      let R = stack_by rs j.depth in
      held-body r.judge rs (omega arith)
      ∙ ap (λ (st : State). record { size = j.size + n; whole = inside j.letters j.length st }) (sym (runs R))
      ∙ ap (λ (m : ℕ). record { size = j.size + m; whole = inside j.letters j.length (run (state_with R j.now) (slice t.at (t.at + n) p)) }) (sym long)
      ∙ sym (piece-run j.size j.letters j.length (state_with R j.now) (slice t.at (t.at + n) p) (omega (arith, long)))
      ∙ ap (λ (h : Held). piece h (slice t.at (t.at + n) p)) (sym (held-body j rs body))

  rest : (rs : ℕ → Open) → rest_of r rs p ≡ rest_of t rs p
  unfolding rest_of
  rest rs =
      ap (piece (held_of r.judge rs)) (rest-calm (pends x) (t.at + n) p no_anim)
      ∙ ap (λ (h : Held). piece h (drop (t.at + n) p)) (held rs)
      ∙ sym (piece-append (held_of t.judge rs) (slice t.at (t.at + n) p) (drop (t.at + n) p))
      ∙ ap (piece (held_of t.judge rs)) (sym (part-rest t.at (t.at + n) p (omega arith) (omega arith)) ∙ sym (rest-calm (pends t.judge.now) t.at p calm))

  less : left_of r ≤ left_of t
  unfolding left_of
  less =
      let a = wait-calm (pends x) (pend_of x t.judge.depth) no_anim in
      let b = wait-calm (pends t.judge.now) (pend_of t.judge.now t.judge.depth) calm in
      omega arith

  going : (rs : ℕ → Open) → Going t rs p → Going r rs p
  going rs g =
      let k = g.good in
      record {
        good = record { size = file; depth = k.depth; calm = λ z. absurd (omega arith); head = λ z. absurd (omega arith); body = λ z. good (stack_by rs t.judge.depth) (k.body body) };
        get = g.get;
        end = g.end;
        within = room;
        calm = λ z. none (sym no_anim ∙ z);
      }

  pass-moved : PassIs t p r
  pass-moved = record { rest = rest; going = going; less = less; shut = refl; get = refl }

pub pass_none : (t : Turn) (p : List ℕ) (r : Turn) → r ≡ t → PassIs t p r
pass_none t p r q = rw q (record { rest = λ rs. refl; going = λ rs g. g; less = omega arith; shut = refl; get = refl })

-- ---- inside a chunk

none-taken : (a n : ℕ) (p : List ℕ) (st : State) → n ≡ 0 → run st (slice a (a + n) p) ≡ st
none-taken a n p st e = let z : a + n ≡ a = omega arith in ap (λ (m : ℕ). run st (slice a m p)) z ∙ ap (run st) (slice_empty a p)

-- n bytes are taken from `Live at m g f`
module _ (t : Turn) (p : List ℕ) (n at : ℕ) (m : Part) (g : Totals) (f : Open) (h : PassFrom t p n at m g f) where
  pub moves : (k : ℕ) (y : ℕ) (m' : Part) (f' : Open) → k ≤ n → ((R : List Open) → run (live at m g f R) (slice t.at (t.at + k) p) ≡ live y m' g f' R)
      → ((R : List Open) → OpenChunksFit at g (f ∷ R) → OpenChunksFit y g (f' ∷ R)) → Off m' y (t.judge.size + k) → (r : Turn) → r ≡ moved_to t (Live y m' g f') k → PassIs t p r
  moves k y m' f' l e fits off r q =
      let e₁ = h.end in
      let e₂ = h.room in
      let e₃ = h.file in
      rw q (pass-moved t p k (Live y m' g f') e₁ (omega arith) h.body (omega arith) (ap pends h.now) refl
      (λ R. ap (λ (x : Now). run (state_with R x) (slice t.at (t.at + k) p)) h.now ∙ e R)
      (λ R d. let b : OpenChunksFit at g (f ∷ R) × Off m at t.judge.size = subst (λ (x : Now). GoodNow t.judge.size R x) h.now d in (fits R b.0, off)))

  pub from-part : (m' : Part) → m ≡ m' → PassFrom t p n at m' g f
  from-part m' e = subst (λ (x : Part). PassFrom t p n at x g f) e h

fits_on : (at y : ℕ) (g : Totals) (R : List Open) → at ≤ y → OpenChunksFit at g R → OpenChunksFit y g R
fits_on at y g R l d = let s = d.1 in (d.0, omega arith)

module _ (t : Turn) (p : List ℕ) (n at : ℕ) (g : Totals) (f : Open) (r : Turn) where
  pub skip_moves : (until : ℕ) → PassFrom t p n at (Skip until) g f → (k : ℕ) → BytesBefore at until n k → r ≡ moved_to t (Live (at + k) (Skip until) g f) k → PassIs t p r
  skip_moves until h k b q =
      let e = h.off in
      moves t p n at (Skip until) g f h k (at + k) (Skip until) f b.most (runs k b) (λ R. fits_on at (at + k) g (f ∷ R) (omega arith)) (omega arith) r q
    where
      runs : (k : ℕ) → BytesBefore at until n k → (R : List Open) → run (live at (Skip until) g f R) (slice t.at (t.at + k) p) ≡ live (at + k) (Skip until) g f R
      runs zero b R = none-taken t.at 0 p (live at (Skip until) g f R) refl ∙ ap (λ (y : ℕ). live y (Skip until) g f R) (let z : at ≡ at + 0 = omega arith in z)
      runs (suc k) b R =
          let e₁ = h.end in
          let e₂ = h.room in
          let e₃ = b.most in
          let e₄ = b.inside (λ z. omega arith) in
          let l : length (slice t.at (t.at + suc k) p) ≡ suc k = length-slice t.at (t.at + suc k) p (omega arith) ∙ omega arith in
          skip_run g f R until at (slice t.at (t.at + suc k) p) (omega arith) ∙ ap (λ (y : ℕ). live (at + y) (Skip until) g f R) l

  pub text-moves : (fixed : Bool) (start : ℕ) → PassFrom t p n at (Text fixed start) g f → (most : ℕ) → BytesBefore at f.end n most → (to : ℕ) → UntilZero p t.at (t.at + most) to
      → r ≡ moved_to t (Live (at + (to - t.at)) (Text fixed start) g f) (to - t.at) → PassIs t p r
  text-moves fixed start h most b to z q =
      let e = h.off in
      let u = z.within in
      let v = b.most in
      moves t p n at (Text fixed start) g f h (to - t.at) (at + (to - t.at)) (Text fixed start) f (omega arith) (λ R. runs R (to - t.at) refl) (λ R. fits_on at (at + (to - t.at)) g (f ∷ R) (omega arith)) (omega arith) r q
    where
      runs : (R : List Open) (k : ℕ) → k ≡ to - t.at → run (live at (Text fixed start) g f R) (slice t.at (t.at + k) p) ≡ live (at + k) (Text fixed start) g f R
      runs R zero e = none-taken t.at 0 p (live at (Text fixed start) g f R) refl ∙ ap (λ (y : ℕ). live y (Text fixed start) g f R) (let z : at ≡ at + 0 = omega arith in z)
      runs R (suc k) e =
          let e₁ = h.end in
          let e₂ = h.room in
          let e₃ = b.most in
          let u = z.within in
          let v = z.ahead in
          let e₄ = b.inside (λ y. omega arith) in
          text-run g f R fixed start p (suc k) t.at at (omega arith) (omega arith) (λ i c d. z.text i c (omega arith))

worth-most : (j : ℕ) → worth j ≤ 16777216
worth-most zero = omega arith
worth-most (suc zero) = omega arith
worth-most (suc (suc zero)) = omega arith
worth-most (suc (suc (suc j))) = omega arith

module _ (t : Turn) (p : List ℕ) (n : ℕ) (x : RowPlace) (fixed : Bool) (g : Totals) (f : Open) (h : PassFrom t p n x.at (Row fixed x.start x.i x.j x.acc x.kept) g f) (ef : x.from ≡ t.at) (ec : x.count ≡ f.count) where
  pub from-sound : Sound (t.at + n) x
  from-sound =
      let o = h.off in
      let o₀ = o.0 in
      let a = o.3 in
      let w = worth-most x.j in
      let c = h.count in
      let s = h.file in
      record { from = omega arith; three = o.1; index = o.2; low = o.3; most = omega arith; words = o.4; count = omega arith; place = omega arith }

  pub from-words : Words f.kept
  from-words = h.words

  pub from-long : t.at + n ≤ length p
  from-long = let a = h.end in let b = h.room in omega arith

  pub rows-move : (q : RowRules) → RulesAre q fixed g f → (y : RowPlace) → Advanced p (t.at + n) q x y → (r : Turn)
      → r ≡ moved_to t (Live y.at (Row fixed y.start y.i y.j y.acc y.kept) g (record { tag = f.tag; head = f.head; end = f.end; turn = f.turn; spent = f.spent; level = f.level; kept = f.kept; count = y.count; told = f.told })) (y.from - t.at)
      → PassIs t p r
  rows-move w ew y k r q =
      let a = k.ahead in
      let s = k.sound in
      let b = s.from in
      let c = k.place in
      let d = k.count in
      let o₀ = h.off.0 in
      let e : t.at + (y.from - t.at) ≡ y.from = omega arith in
      moves t p n x.at (Row fixed x.start x.i x.j x.acc x.kept) g f h (y.from - t.at) y.at (Row fixed y.start y.i y.j y.acc y.kept) (counting f y.count) (omega arith)
      (λ R. ap (λ (c : ℕ). run (live x.at (Row fixed x.start x.i x.j x.acc x.kept) g (counting f c) R) (slice t.at (t.at + (y.from - t.at)) p)) (sym ec)
      ∙ ap (λ (c : ℕ). run (row_at fixed g f x R) (slice t.at c p)) e
      ∙ ap (λ (c : ℕ). run (row_at fixed g f x R) (slice c y.from p)) (sym ef)
      ∙ k.is fixed g f ew R)
      (λ R w. let w₁ = w.1 in (w.0, omega arith)) (omega arith, s.three, s.index, s.low, s.words) r q

pub ruleset rows_laws = (from-sound, from-words, from-long, rows-move)

-- ---- any

run-over : (g : Totals) (s : List ℕ) → run (over g) s ≡ over g
unfolding step
run-over g [] = refl
run-over g (b ∷ s) = run-over g s

module _ (t : Turn) (p : List ℕ) (h : PassReady t p) (n : ℕ) (m : RoomIs t.judge.size (t.end - t.at) n) where
  pub room_at : t.at + n ≤ t.end
  room_at = let a = m.most in let b = h.within in omega arith

  module _ (z : n ≡ 0 → ⊥) where
    pub room-size : t.judge.size + n ≤ 16777217
    room-size = m.file z

    pub room-live : (at : ℕ) (x : Part) (g : Totals) (f : Open) → t.judge.now ≡ Live at x g f → PassFrom t p n at x g f
    room-live at x g f e =
        let d : LiveFine t.judge.size (Live at x g f) = subst (λ (y : Now). LiveFine t.judge.size y) e (h.fine (m.body z)) in
        record { now = e; end = h.end; room = room_at; body = m.body z; file = m.file z; off = d.0; count = d.1; words = d.2 }

    pub room-fault : (k q : ℕ) → t.judge.now ≡ Fault k q → (r : Turn) → r ≡ moved_to t t.judge.now n → PassIs t p r
    room-fault k q e r w =
        rw (w ∙ ap (λ (x : Now). moved_to t x n) e) (pass-moved t p n (Fault k q) h.end room_at (m.body z) (m.file z) (ap pends e) refl
        (λ R. ap (λ (x : Now). run (state_with R x) (slice t.at (t.at + n) p)) e ∙ run-fault k q (slice t.at (t.at + n) p)) (λ R d. tt))

    pub room-over : (g : Totals) → t.judge.now ≡ Over g → (r : Turn) → r ≡ moved_to t t.judge.now n → PassIs t p r
    room-over g e r w =
        rw (w ∙ ap (λ (x : Now). moved_to t x n) e) (pass-moved t p n (Over g) h.end room_at (m.body z) (m.file z) (ap pends e) refl
        (λ R. ap (λ (x : Now). run (state_with R x) (slice t.at (t.at + n) p)) e ∙ run-over g (slice t.at (t.at + n) p))
        (λ R d. let b : sum g ≤ t.judge.size = subst (λ (x : Now). GoodNow t.judge.size R x) e d in omega arith))

pub ruleset room_laws = (room_at, room-size, room-live, room-fault, room-over, pass_none)

-- what is good is ready

pub going_ready : (t : Turn) (rs : ℕ → Open) (p : List ℕ) → Going t rs p → PassReady t p
going_ready t rs p g = record { end = g.end; within = g.within; fine = λ l. fine t.judge.now (stack_by rs t.judge.depth) (g.good.body l) }
  where
    fine : (x : Now) (R : List Open) → GoodNow t.judge.size R x → LiveFine t.judge.size x
    fine (Live at m g f) R h = let s = h.0.1 in (h.1, omega arith, h.0.0.1)
    fine (Push at g f o) R h = tt
    fine (Pop at g) R h = tt
    fine (Fault m q) R h = tt
    fine (Over g) R h = tt

-- a loop over the piece goes on as it was

pub pass_running : (n : ℕ) (h : Held) (o : Bool) (p : List ℕ) (t r : Turn) (rs : ℕ → Open) → PassIs t p r → Running n h o p t rs → Running n h o p r rs
pass_running n h o p t r rs z i = record { going = z.going rs i.going; room = i.room; ends = z.rest rs ∙ i.ends; shut = z.shut ∙ i.shut }
