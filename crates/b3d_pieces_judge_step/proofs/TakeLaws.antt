-- The laws of a turn of what is held, in the words of the code.
use mathlib.Core.Path.{◌≡◌, refl, ap, sym, subst, ◌∙◌}
use Prim.Native.Nat.{ℕ, zero, suc, ◌+◌, ◌-◌, ◌<◌, ◌≤◌}
use native.Mathlib.Omega.{arith}
use mathlib.Core.Bool.{Bool, true, false}
use mathlib.Core.List.{List, []}
use lib.Dec.{ltb}
use borrow.Author.Tests.{lt-ltb, le-ltb, le-leb, lt-leb, ltb-true, ltb-false}
use Rattle.wire.specs.Test.{if}
use Rattle.layout.specs.Rows.{most_bytes}
use Rattle.b3d_spec.specs.declared.Tag.TheVariants.{BB3D}
use Rattle.b3d_spec.specs.Tables.{start}
use Rattle.b3d_pieces_spec.specs.declared.Totals.{Totals}
use Rattle.b3d_pieces_spec.specs.declared.Open.{Open}
use Rattle.b3d_pieces_spec.specs.Machine.{State, step, enter, fresh}
use Rattle.b3d_pieces_spec.specs.Close.{Whole, heading, inside, Held, head_byte, whole_byte, byte, nothing, body}
use Rattle.b3d_pieces_spec.specs.Good.{worth}
use Rattle.b3d_pieces_spec.proofs.DepthLaws.{none-words}
use Rattle.b3d_pieces_item_steps.specs.declared.Now.{Now}
use Rattle.b3d_pieces_item_steps.specs.Nows.{state_with, GoodNow, Ready, Gives, texted}
use Rattle.b3d_pieces_byte_steps.specs.Bytes.{AddsByte}
use Rattle.b3d_pieces_byte_steps.proofs.ByteLaws.{most-low}
use Rattle.b3d_pieces_step.specs.declared.Turned.{Turned}
use Rattle.b3d_pieces_step.specs.Turns.{stack_by, slot_of, pends, ReadyNow, after_turn, taken, Rows, TurnIs}
use Rattle.b3d_pieces_step.proofs.TurnLaws.{same-stack, slot_most, none}
use Rattle.b3d_pieces_judge_step.specs.declared.Judge.{Judge}
use Rattle.b3d_pieces_judge_step.specs.declared.Taken.{Taken}
use Rattle.b3d_pieces_judge_step.specs.Takes.{byte_of, head_low, head_worth, held_of, TakeReady, BodyReady, Changes, after_take, TakeIs}

-- ---- a number of the header

near : (s : ℕ) → s < 4 → byte_of s ≡ s
near zero h = refl
near (suc zero) h = refl
near (suc (suc zero)) h = refl
near (suc (suc (suc zero))) h = refl
near (suc (suc (suc (suc s)))) h = absurd (omega arith)

far : (s : ℕ) → 4 ≤ s → byte_of s ≡ s - 4
far zero h = absurd (omega arith)
far (suc zero) h = absurd (omega arith)
far (suc (suc zero)) h = absurd (omega arith)
far (suc (suc (suc zero))) h = absurd (omega arith)
far (suc (suc (suc (suc s)))) h = omega arith

module _ (size acc b : ℕ) where
  module _ (h : size < 4) where
    pub first_low : acc < head_low size → acc < worth size
    first_low l = rw (near size h) at l

    pub first_is : (r : ℕ) → AddsByte size acc b r → r ≡ head_worth size acc b
    first_is r a = rw (near size h) a.is

  module _ (h : 4 ≤ size) where
    pub second-low : acc < head_low size → acc < worth (size - 4)
    second-low l = rw (far size h) at l

    pub second_is : (r : ℕ) → AddsByte (size - 4) acc b r → r ≡ head_worth size acc b
    second_is r a = rw (far size h) a.is

pub number_word : (j acc b r : ℕ) → AddsByte j acc b r → r < 4294967296
number_word j acc b r a = a.word

pub ruleset number_laws = (first_low, first_is, second-low, second_is, number_word)

pub head-worth : (j : Judge) (rec : Open) → TakeReady j rec → j.size < 8 → j.worth < head_low j.size
head-worth j rec h l = h.head l

pub head_small : (j : Judge) (rec : Open) → TakeReady j rec → j.size < 8 → j.worth < 16777216
head_small j rec h l = most-low (byte_of j.size) j.worth (h.head l)

-- ---- a byte of the header

worth-next : (s acc b : ℕ) → s < 8 → (s ≡ 3 → ⊥) → (s ≡ 7 → ⊥) → acc < head_low s → b < 256 → head_worth s acc b < head_low (s + 1)
worth-next zero acc b l x y h v = v
worth-next (suc zero) acc b l x y h v = omega arith
worth-next (suc (suc zero)) acc b l x y h v = omega arith
worth-next (suc (suc (suc zero))) acc b l x y h v = absurd (x refl)
worth-next (suc (suc (suc (suc zero)))) acc b l x y h v = v
worth-next (suc (suc (suc (suc (suc zero))))) acc b l x y h v = omega arith
worth-next (suc (suc (suc (suc (suc (suc zero)))))) acc b l x y h v = omega arith
worth-next (suc (suc (suc (suc (suc (suc (suc zero))))))) acc b l x y h v = absurd (y refl)
worth-next (suc (suc (suc (suc (suc (suc (suc (suc s)))))))) acc b l x y h v = absurd (omega arith)

mid_byte : (s acc tag b : ℕ) → s < 8 → (s ≡ 3 → ⊥) → (s ≡ 7 → ⊥) → heading (s + 1) (head_worth s acc b) tag ≡ head_byte s acc tag b
unfolding head_byte
mid_byte zero acc tag b l x y = refl
mid_byte (suc zero) acc tag b l x y = refl
mid_byte (suc (suc zero)) acc tag b l x y = refl
mid_byte (suc (suc (suc zero))) acc tag b l x y = absurd (x refl)
mid_byte (suc (suc (suc (suc zero)))) acc tag b l x y = refl
mid_byte (suc (suc (suc (suc (suc zero))))) acc tag b l x y = refl
mid_byte (suc (suc (suc (suc (suc (suc zero)))))) acc tag b l x y = refl
mid_byte (suc (suc (suc (suc (suc (suc (suc zero))))))) acc tag b l x y = absurd (y refl)
mid_byte (suc (suc (suc (suc (suc (suc (suc (suc s)))))))) acc tag b l x y = absurd (omega arith)

third_byte : (s acc tag b : ℕ) → s ≡ 3 → heading (s + 1) 0 (head_worth s acc b) ≡ head_byte s acc tag b
unfolding head_byte
third_byte s acc tag b e = rw e

last_byte : (s acc tag b : ℕ) → s ≡ 7 → inside tag (head_worth s acc b) (body (head_worth s acc b)) ≡ head_byte s acc tag b
unfolding head_byte
last_byte s acc tag b e = rw e

held-head : (j : Judge) (rs : ℕ → Open) → j.size < 8 → held_of j rs ≡ record { size = j.size; whole = heading j.size j.worth j.letters }
unfolding held_of
held-head j rs h = rw (lt-ltb j.size 8 h)

pub held-body : (j : Judge) (rs : ℕ → Open) → 8 ≤ j.size → held_of j rs ≡ record { size = j.size; whole = inside j.letters j.length (state_with (stack_by rs j.depth) j.now) }
unfolding held_of
held-body j rs h = rw (le-ltb j.size 8 h)

pub byte-on : (s : ℕ) (w : Whole) (b : ℕ) → s ≤ 16777216 → byte (record { size = s; whole = w }) b ≡ record { size = s + 1; whole = whole_byte w b }
unfolding byte if
byte-on s w b h = rw (le-leb s most_bytes h)

byte_full : (s : ℕ) (w : Whole) (b : ℕ) → 16777216 < s → byte (record { size = s; whole = w }) b ≡ record { size = s; whole = w }
unfolding byte if
byte_full s w b h = rw (lt-leb s most_bytes h)

byte-head : (j : Judge) (rs : ℕ → Open) (b : ℕ) → j.size < 8 → byte (held_of j rs) b ≡ record { size = j.size + 1; whole = head_byte j.size j.worth j.letters b }
unfolding whole_byte
byte-head j rs b h = ap (λ (x : Held). byte x b) (held-head j rs h) ∙ byte-on j.size (heading j.size j.worth j.letters) b (omega arith)

byte-body : (j : Judge) (rs : ℕ → Open) (b : ℕ) → 8 ≤ j.size → j.size ≤ 16777216
    → byte (held_of j rs) b ≡ record { size = j.size + 1; whole = inside j.letters j.length (step (state_with (stack_by rs j.depth) j.now) b) }
unfolding whole_byte
byte-body j rs b h l = ap (λ (x : Held). byte x b) (held-body j rs h) ∙ byte-on j.size (inside j.letters j.length (state_with (stack_by rs j.depth) j.now)) b l

not-both : (x : Now) {B : Type 0} → pends x ≡ false → pends x ≡ true → B
not-both x a b = none (sym a ∙ b)

take-calm : (p : Bool) (h : Held) (b : ℕ) → p ≡ false → byte h b ≡ after_take p h b
take-calm p h b e = rw e

abbrev holding : ℕ → Whole → Held
holding s w = record { size = s; whole = w }

module _ (j : Judge) (rec : Open) (b : ℕ) (ready : TakeReady j rec) (h : j.size < 8) (c : pends j.now ≡ false) (p : ℕ) (ep : p ≡ slot_of j.depth) where
  -- the header goes on: its number so far and the letters
  abbrev on : ℕ → ℕ → Taken
  on w t = record { judge = record { size = j.size + 1; worth = w; letters = t; length = j.length; shut = j.shut; depth = j.depth; now = j.now }; put = p; rec = rec }

  head-on : (w t : ℕ) → (j.size ≡ 7 → ⊥) → heading (j.size + 1) w t ≡ head_byte j.size j.worth j.letters b → w < head_low (j.size + 1) → TakeIs j rec b (on w t)
  head-on w t z e u =
      let l : j.size < 7 = seven j.size h z in
      record {
        is = λ rs rs' o. held-head (on w t).judge rs' (omega arith) ∙ ap (holding (j.size + 1)) e ∙ sym (byte-head j rs b h) ∙ take-calm (pends j.now) (held_of j rs) b c;
        good = λ rs rs' o g. record { size = omega arith; depth = g.depth; calm = λ y. c; head = λ y. u; body = λ y. absurd (omega arith) };
        less = λ y. not-both j.now c y;
        put = slot_most j.depth p ep ready.depth;
        shut = refl;
      }
    where
      seven : (s : ℕ) → s < 8 → (s ≡ 7 → ⊥) → s < 7
      seven s l z = strict s 7 (omega arith) z
        where
          strict : (a b : ℕ) → a ≤ b → (a ≡ b → ⊥) → a < b
          strict zero zero m y = absurd (y refl)
          strict zero (suc b) m y = omega arith
          strict (suc a) zero m y = absurd (omega arith)
          strict (suc a) (suc b) m y = let k = strict a b (omega arith) (λ q. y (ap suc q)) in omega arith

  -- the machine begins
  abbrev begun : ℕ → Now → Taken
  begun v x = record { judge = record { size = j.size + 1; worth = 0; letters = j.letters; length = v; shut = j.shut; depth = 0; now = x }; put = p; rec = rec }

  abbrev file : ℕ → Open
  file v = fresh BB3D 0 (8 + v) 16 0

  head-last : (v : ℕ) → v ≡ head_worth j.size j.worth b → j.size ≡ 7 → (x : Now) → Gives 0 8 nothing (file v) x (enter (texted BB3D) 8 nothing (file v)) → TakeIs j rec b (begun v x)
  unfolding body start
  head-last v ev e x q = record {
    is = λ rs rs' o.
        held-body (begun v x).judge rs' (omega arith)
        ∙ ap (λ (y : State). holding (j.size + 1) (inside j.letters v y)) (q.is [])
        ∙ ap (λ (y : ℕ). holding (j.size + 1) (inside j.letters y (body y))) ev
        ∙ ap (holding (j.size + 1)) (last_byte j.size j.worth j.letters b e)
        ∙ sym (byte-head j rs b h)
        ∙ take-calm (pends j.now) (held_of j rs) b c;
    good = λ rs rs' o g.
        let k : 8 ≡ j.size + 1 = omega arith in
        let y : GoodNow 8 [] x = q.good [] ((omega arith, none-words, tt)) (omega arith) in
        record { size = omega arith; depth = omega arith; calm = λ z. absurd (omega arith); head = λ z. absurd (omega arith); body = λ z. subst (λ (n : ℕ). GoodNow n [] x) k y };
    less = λ y. not-both j.now c y;
    put = slot_most j.depth p ep ready.depth;
    shut = refl;
  }

  module _ (v : ℕ) (ev : v ≡ head_worth j.size j.worth b) (r : Taken) where
    pub head_3 : j.size ≡ 3 → r ≡ on 0 v → TakeIs j rec b r
    head_3 e q = rw q (head-on 0 v (λ z. omega arith) (ap (heading (j.size + 1) 0) ev ∙ third_byte j.size j.worth j.letters b e) (rw e (omega arith)))

    pub head_7 : j.size ≡ 7 → (g : Totals) → g ≡ nothing → (f : Open) → f ≡ file v → (x : Now) → Gives 0 8 g f x (enter (texted f.tag) 8 g f)
        → r ≡ begun v x → TakeIs j rec b r
    head_7 e g eg f ef x h q = rw q (head-last v ev e x (rw (eg, ef) at h))

    pub head-other : b < 256 → (j.size ≡ 3 → ⊥) → (j.size ≡ 7 → ⊥) → r ≡ on v j.letters → TakeIs j rec b r
    head-other w y z q =
        rw q (head-on v j.letters z (ap (λ (n : ℕ). heading (j.size + 1) n j.letters) ev ∙ mid_byte j.size j.worth j.letters b h y z)
        (rw ev (worth-next j.size j.worth b h y z (ready.head h) w)))

pub file_ready : (v : ℕ) (g : Totals) → g ≡ nothing → (f : Open) → f ≡ fresh BB3D 0 (8 + v) 16 0 → Ready 0 8 g f
unfolding start
file_ready v g e f ef = rw (e, ef) (record { few = omega arith; place = omega arith; words = none-words })

pub nothing_is : (r : Totals)
    → r ≡ record {
      version = 0;
      slots = 0;
      textures = 0;
      brushes = 0;
      own = 0;
      told = 0;
      below = 0;
      rows = record { nodes = 0; meshes = 0; vertices = 0; sets = 0; triangles = 0; weights = 0; lists = 0; keys = 0 };
    }
    → r ≡ nothing
unfolding start
nothing_is r q = q

pub ruleset head_laws = (head-worth, head_small, file_ready, head_3, head_7, head-other)

-- ---- a turn of the machine

module _ (j : Judge) (rec : Open) (b came : ℕ) (ready : TakeReady j rec) (k : BodyReady j came) where
  pub body_asks : ReadyNow j.now j.depth rec
  body_asks = go (pends j.now) refl
    where
      go : (p : Bool) → pends j.now ≡ p → ReadyNow j.now j.depth rec
      go true e = ready.wait e
      go false e = ready.byte e k.least (k.byte e).1

  came_is : came ≡ taken (pends j.now)
  came_is = go (pends j.now) refl
    where
      go : (p : Bool) → pends j.now ≡ p → came ≡ taken (pends j.now)
      go true e = rw e (k.wait e)
      go false e = rw e (k.byte e).0

  module _ (y : Turned) (t : TurnIs j.now j.depth rec b y) where
    abbrev next : Taken
    next = record { judge = record { size = j.size + came; worth = j.worth; letters = j.letters; length = j.length; shut = j.shut; depth = y.depth; now = y.now }; put = y.put; rec = y.rec }

    rows : (rs rs' : ℕ → Open) → Changes rs rs' j.depth rec y.put y.rec → Rows rs rs' j.depth rec y
    rows rs rs' o = record { top = o.top; new = o.new; old = o.old }

    state-is : (rs : ℕ → Open) → holding (j.size + came) (inside j.letters j.length (after_turn (pends j.now) (state_with (stack_by rs j.depth) j.now) b)) ≡ after_take (pends j.now) (held_of j rs) b
    state-is rs = go (pends j.now) refl
      where
        st : State
        st = state_with (stack_by rs j.depth) j.now

        go : (p : Bool) → pends j.now ≡ p → holding (j.size + came) (inside j.letters j.length (after_turn (pends j.now) (state_with (stack_by rs j.depth) j.now) b)) ≡ after_take (pends j.now) (held_of j rs) b
        go true e =
            let z = k.wait e in
            let n : j.size + came ≡ j.size = omega arith in
            rw (e, n) (sym (held-body j rs k.least))
        go false e =
            let z = (k.byte e).0 in
            rw (e, z) (sym (byte-body j rs b k.least (k.byte e).1))

    next-is : TakeIs j rec b next
    next-is = record {
      is = λ rs rs' o.
          held-body next.judge rs' (let l = k.least in omega arith)
          ∙ ap (λ (x : State). holding (j.size + came) (inside j.letters j.length x)) (t.is rs rs' (rows rs rs' o))
          ∙ state-is rs;
      good = λ rs rs' o g.
          let w = g.body k.least in
          let u = t.good rs rs' (rows rs rs' o) j.size w in
          let l = k.least in
          record {
            size = most;
            depth = t.deep rs j.size w;
            calm = λ z. absurd (omega arith);
            head = λ z. absurd (omega arith);
            body = λ z. subst (λ (n : ℕ). GoodNow (j.size + n) (stack_by rs' y.depth) y.now) (sym came_is) u;
          };
      less = t.less;
      put = t.put;
      shut = refl;
    }
      where
        most : j.size + came ≤ 16777217
        most = go (pends j.now) refl
          where
            go : (p : Bool) → pends j.now ≡ p → j.size + came ≤ 16777217
            go true e = let z = k.wait e in let s = ready.size in omega arith
            go false e = let z = (k.byte e).0 in let s = (k.byte e).1 in omega arith

    pub body-next : (r : Taken) → r ≡ next → TakeIs j rec b r
    body-next r q = rw q next-is

pub ready_depth : (j : Judge) (rec : Open) → TakeReady j rec → j.depth ≤ 18
ready_depth j rec h = h.depth

pub ruleset body_laws = (body_asks, ready_depth, body-next)

-- ---- which turn

module _ (j : Judge) (rec : Open) (ready : TakeReady j rec) (p : Bool) (ep : p ≡ pends j.now) where
  pub wait-body : p ≡ true → BodyReady j 0
  wait-body e = record { least = large; wait = λ z. refl; byte = λ z. none (sym z ∙ sym ep ∙ e); one = omega arith }
    where
      large : 8 ≤ j.size
      large = go (ltb j.size 8) refl
        where
          go : (x : Bool) → ltb j.size 8 ≡ x → 8 ≤ j.size
          go true y = none (sym (ready.calm (ltb-true j.size 8 y)) ∙ sym ep ∙ e)
          go false y = ltb-false j.size 8 y

  pub byte-body_ready : p ≡ false → 8 ≤ j.size → j.size ≤ 16777216 → BodyReady j 1
  byte-body_ready e l m = record { least = l; wait = λ z. none (sym e ∙ ep ∙ z); byte = λ z. (refl, m); one = omega arith }

  pub calm-now : p ≡ false → pends j.now ≡ false
  calm-now e = sym ep ∙ e

  pub take-full : p ≡ false → 16777216 < j.size → (s : ℕ) → s ≡ slot_of j.depth → (b : ℕ) (r : Taken) → r ≡ record { judge = j; put = s; rec = rec } → TakeIs j rec b r
  take-full e l s es b r q = rw q (record {
    is = λ rs rs' o.
        held-body j rs' (omega arith)
        ∙ ap (λ (R : List Open). holding j.size (inside j.letters j.length (state_with R j.now))) (same-stack rs rs' j.depth s rec es o.top o.new o.old)
        ∙ sym (ap (λ (x : Held). byte x b) (held-body j rs (omega arith)) ∙ byte_full j.size (inside j.letters j.length (state_with (stack_by rs j.depth) j.now)) b l)
        ∙ take-calm (pends j.now) (held_of j rs) b (sym ep ∙ e);
    good = λ rs rs' o g. record {
      size = g.size;
      depth = g.depth;
      calm = g.calm;
      head = g.head;
      body = λ z. subst (λ (R : List Open). GoodNow j.size R j.now) (sym (same-stack rs rs' j.depth s rec es o.top o.new o.old)) (g.body z);
    };
    less = λ z. not-both j.now (sym ep ∙ e) z;
    put = slot_most j.depth s es ready.depth;
    shut = refl;
  })

pub ruleset take_laws = (wait-body, byte-body_ready, calm-now, take-full)
