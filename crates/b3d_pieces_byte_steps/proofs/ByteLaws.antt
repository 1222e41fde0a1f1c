-- The laws of a byte, in the words of the code.
use mathlib.Core.Path.{◌≡◌, refl, ap, sym, subst, ◌∙◌}
use Prim.Native.Nat.{ℕ, zero, suc, ◌+◌, ◌*◌, ◌^◌, ◌<◌, ◌≤◌}
use native.Mathlib.Omega.{arith}
use mathlib.Core.Bool.{Bool}
use mathlib.Core.List.{List}
use Rattle.wire.specs.Bytes.{IsWord}
use Rattle.b3d_pieces_spec.specs.declared.Totals.{Totals}
use Rattle.b3d_pieces_spec.specs.declared.Kept.{Kept}
use Rattle.b3d_pieces_spec.specs.declared.Open.{Open}
use Rattle.b3d_pieces_spec.specs.declared.Part.{Part}
use Rattle.b3d_pieces_spec.specs.declared.Part.TheVariants.{Text, Row, Skip}
use Rattle.b3d_pieces_spec.specs.Machine.{live, text_from, text_done, text_byte, row_byte, word_done, skip_from, byte_in}
use Rattle.b3d_pieces_spec.specs.Good.{Words, worth, Off}
use Rattle.b3d_pieces_item_steps.specs.declared.Now.{Now}
use Rattle.b3d_pieces_item_steps.specs.declared.Now.TheVariants.{Live}
use Rattle.b3d_pieces_item_steps.specs.Nows.{GoodNow, Ready, Gives}
use Rattle.b3d_pieces_item_steps.proofs.StepLaws.{gives, gives-on, gives-spare}
use Rattle.b3d_pieces_byte_steps.specs.Bytes.{gathers, AddsByte, came_of, spare_of}

-- ---- a byte of a number

is-three : (j : ℕ) → j ≤ 3 → (j ≡ 0 → ⊥) → (j ≡ 1 → ⊥) → (j ≡ 2 → ⊥) → j ≡ 3
is-three zero h a b c = absurd (a refl)
is-three (suc zero) h a b c = absurd (b refl)
is-three (suc (suc zero)) h a b c = absurd (c refl)
is-three (suc (suc (suc zero))) h a b c = refl
is-three (suc (suc (suc (suc j)))) h a b c = absurd (omega arith)

module _ (j acc b r : ℕ) (v : b < 256) where
  pub adds_0 : j ≡ 0 → r ≡ b → AddsByte j acc b r
  adds_0 e q = rw e (record { is = q; low = λ y. omega arith; most = λ y. omega arith; word = omega arith })

  pub adds_1 : j ≡ 1 → acc < worth j → r ≡ acc + 256 * b → AddsByte j acc b r
  adds_1 e h q = let l : acc < 256 = rw e at h in rw e (record { is = q; low = λ y. omega arith; most = λ y. omega arith; word = omega arith })

  pub adds_2 : j ≡ 2 → acc < worth j → r ≡ acc + 65536 * b → AddsByte j acc b r
  adds_2 e h q = let l : acc < 65536 = rw e at h in rw e (record { is = q; low = λ y. omega arith; most = λ y. omega arith; word = omega arith })

  pub adds_3 : j ≤ 3 → (j ≡ 0 → ⊥) → (j ≡ 1 → ⊥) → (j ≡ 2 → ⊥) → acc < 16777216 → r ≡ acc + 16777216 * b → AddsByte j acc b r
  adds_3 t x y z h q = rw (is-three j t x y z) (record { is = q; low = λ s. absurd (omega arith); most = λ s. absurd (omega arith); word = omega arith })

pub ruleset adds_laws = (adds_0, adds_1, adds_2, adds_3)

under : (j : ℕ) → j ≤ 3 → (j ≡ 3 → ⊥) → j < 3
under zero h z = omega arith
under (suc zero) h z = omega arith
under (suc (suc zero)) h z = omega arith
under (suc (suc (suc zero))) h z = absurd (z refl)
under (suc (suc (suc (suc j)))) h z = absurd (omega arith)

-- a byte of a number, but its last
pub byte-goes : (fixed : Bool) (start i b acc : ℕ) (k : Kept) (at : ℕ) (g : Totals) (f : Open) (j : ℕ) → j < 3 → (R : List Open)
    → row_byte j fixed start i b acc k at g f R ≡ live at (Row fixed start i (j + 1) (gathers j acc b) k) g f R
unfolding row_byte
byte-goes fixed start i b acc k at g f zero h R = refl
byte-goes fixed start i b acc k at g f (suc zero) h R = refl
byte-goes fixed start i b acc k at g f (suc (suc zero)) h R = refl
byte-goes fixed start i b acc k at g f (suc (suc (suc j))) h R = absurd (omega arith)

byte_last : (fixed : Bool) (start i b acc : ℕ) (k : Kept) (at : ℕ) (g : Totals) (f : Open) (j : ℕ) → j ≡ 3 → (R : List Open)
    → row_byte j fixed start i b acc k at g f R ≡ word_done fixed start i (gathers j acc b) at k g f R
unfolding row_byte
byte_last fixed start i b acc k at g f j e R = rw e

pub word_of : (j acc b v : ℕ) → AddsByte j acc b v → IsWord v
word_of j acc b v a = a.word

-- ---- a byte of a text

module _ (fixed : Bool) (start b at : ℕ) (g : Totals) (f : Open) (r : Now) where
  pub text-zero : b ≡ 0 → Gives 1 (at + 1) g f r (text_done fixed start (at + 1) g f) → Gives 1 (at + 1) g f r (text_byte fixed start b at g f)
  unfolding text_byte
  text-zero e q = gives-on 1 (at + 1) g f r (text_done fixed start (at + 1) g f) (text_byte fixed start b at g f) (λ R. rw e) q

  pub text-other : (b ≡ 0 → ⊥) → Gives 0 (at + 1) g f r (text_from fixed start (at + 1) g f) → Gives 1 (at + 1) g f r (text_byte fixed start b at g f)
  unfolding text_byte
  text-other e q = gives-spare (at + 1) g f r (text_from fixed start (at + 1) g f) (text_byte fixed start b at g f) (λ R. go b e R) q
    where
      go : (b : ℕ) → (b ≡ 0 → ⊥) → (R : List Open) → text_from fixed start (at + 1) g f R ≡ text_byte fixed start b at g f R
      go zero e R = absurd (e refl)
      go (suc b) e R = refl

pub few-place : (at : ℕ) (g : Totals) (f : Open) → Ready 1 (at + 1) g f → at + 1 ≤ 16777217
few-place at g f h = h.place

pub ruleset text_laws = (few-place, text-zero, text-other)

-- ---- a byte

pub most-low : (j acc : ℕ) → acc < worth j → acc < 16777216
most-low zero acc h = omega arith
most-low (suc zero) acc h = omega arith
most-low (suc (suc zero)) acc h = omega arith
most-low (suc (suc (suc j))) acc h = h

module _ (m : Part) (at : ℕ) (g : Totals) (f : Open) where
  module _ (fixed : Bool) (start : ℕ) (e : m ≡ Text fixed start) where
    pub came_text : Ready 1 (came_of m at + 1) g f → Ready 1 (at + 1) g f
    unfolding came_of
    came_text h = rw e at h

    pub byte-text : (b : ℕ) (r : Now) → Gives 1 (at + 1) g f r (text_byte fixed start b at g f) → Gives (spare_of m + 1) (came_of m at + 1) g f r (byte_in m b at g f)
    unfolding came_of spare_of byte_in
    byte-text b r q = rw e q

  module _ (fixed : Bool) (start i j acc : ℕ) (k : Kept) (e : m ≡ Row fixed start i j acc k) (o : Off m at (came_of m at)) where
    row_is : Off (Row fixed start i j acc k) at (at + j)
    unfolding came_of
    row_is = rw e at o

    pub row-three : j ≤ 3
    row-three = row_is.1

    pub row-four : j + 1 < 2 ^ 64
    row-four = let h = row-three in omega arith

    pub row-index : i ≤ at
    row-index = row_is.2

    pub row_low : acc < worth j
    row_low = row_is.3

    pub row-most : acc < 16777216
    row-most = most-low j acc row_is.3

    pub row_words : Words k
    row_words = row_is.4

    pub row_ready : j ≡ 3 → Ready 1 (came_of m at + 1) g f → Ready 1 (at + 4) g f
    unfolding came_of
    row_ready z h =
        let y : Ready 1 (at + j + 1) g f = rw e at h in
        let n : at + j + 1 ≡ at + 4 = omega arith in
        subst (λ (x : ℕ). Ready 1 x g f) n y

    module _ (b : ℕ) (r : Now) (v : ℕ) (a : AddsByte j acc b v) where
      pub row_goes : (j ≡ 3 → ⊥) → r ≡ Live at (Row fixed start i (j + 1) v k) g f → Gives (spare_of m + 1) (came_of m at + 1) g f r (byte_in m b at g f)
      unfolding came_of spare_of byte_in
      row_goes z q =
          let l = under j row-three z in
          rw e (gives (j + 1) (at + j + 1) g f r (Live at (Row fixed start i (j + 1) v k) g f) (row_byte j fixed start i b acc k at g f) q tt
          (λ R. ap (λ (n : ℕ). live at (Row fixed start i (j + 1) n k) g f R) a.is ∙ sym (byte-goes fixed start i b acc k at g f j l R))
          (λ R d s. ((d, omega arith), (omega arith, omega arith, row-index, a.low l, row_words))))

      pub row_last : j ≡ 3 → Gives 1 (at + 4) g f r (word_done fixed start i v at k g f) → Gives (spare_of m + 1) (came_of m at + 1) g f r (byte_in m b at g f)
      unfolding came_of spare_of byte_in
      row_last z q =
          let n : at + 4 ≡ at + j + 1 = omega arith in
          rw e (record {
            is = λ R. q.is R ∙ ap (λ (x : ℕ). word_done fixed start i x at k g f R) a.is ∙ sym (byte_last fixed start i b acc k at g f j z R);
            good = λ R d l. subst (λ (x : ℕ). GoodNow x R r) n (q.good R d (omega arith));
            calm = λ y. absurd (omega arith);
          })

  module _ (until : ℕ) (e : m ≡ Skip until) where
    pub came_skip : Ready 1 (came_of m at + 1) g f → Ready 0 (at + 1) g f
    unfolding came_of
    came_skip h = let y : Ready 1 (at + 1) g f = rw e at h in let z = y.few in record { few = omega arith; place = y.place; words = y.words }

    pub byte_skip : (b : ℕ) (r : Now) → Gives 0 (at + 1) g f r (skip_from until (at + 1) g f) → Gives (spare_of m + 1) (came_of m at + 1) g f r (byte_in m b at g f)
    unfolding came_of spare_of byte_in
    byte_skip b r q = rw e (gives-spare (at + 1) g f r (skip_from until (at + 1) g f) (skip_from until (at + 1) g f) (λ R. refl) q)

pub ruleset byte_laws = (came_text, byte-text, row-three, row-four, row_low, row-most, row-index, row_words, row_ready, word_of, row_goes, row_last, came_skip, byte_skip)
