-- Runs of words and of zeros, stored one after the other.
use Prim.Native.Nat.{ℕ, suc, ◌+◌, ◌-◌, ◌*◌, ◌<◌, ◌≤◌}
use native.Mathlib.Omega.{arith}
use mathlib.Core.Path.{◌≡◌, refl, ap, ap₂, sym, ◌∙◌}
use mathlib.Core.List.{List, ◌++◌}
use lib.ListN.{length, replicate, length-replicate, length-append}
use lib.Seq.{sets, sets as stored, length-sets}
use native.Mathlib.Nat.{suc-mul, mul-le-mul_right}
use Rattle.shared_table_words.specs.Words.{words_at}
use Rattle.shared_table_words.proofs.CopyLaws.{length-words}
use Rattle.shared_table_words.proofs.StoreLaws.{Storing, store_run, store_done, sets-append}
use Rattle.b3d_read_row_runs.specs.Pieces.{piece_at, parts_at, rows_at}

-- ---- a piece

module _ (s : List ℕ) (at n m base : ℕ) (out mid : List ℕ) (e : mid ≡ sets out base (words_at n s at)) where
  pub piece-room : base + n + m ≤ length out → base + n + m ≤ length mid
  piece-room h = omega (arith, ap length e, length-sets out base (words_at n s at))

  pub piece-put : (put : List ℕ) → put ≡ sets mid (base + n) (replicate m 0) → put ≡ sets out base (piece_at n m s at)
  unfolding piece_at
  piece-put put f =
      let l = length-words n s at in
      f ∙ ap (λ (x : List ℕ). sets x (base + n) (replicate m 0)) e ∙ ap (λ (k : ℕ). sets (sets out base (words_at n s at)) (base + k) (replicate m 0)) (sym l)
      ∙ sym (sets-append (words_at n s at) (replicate m 0) out base)

pub ruleset piece_laws = (piece-room, piece-put)

-- ---- by its number

pub same-piece : (s : List ℕ) (at n all i j base : ℕ) (out put : List ℕ) → n ≡ i → all - i ≡ j → put ≡ sets out base (piece_at i j s at) → put ≡ sets out base (piece_at n (all - n) s at)
same-piece s at n all i j base out put e f h = rw (e, f) h

pub last-piece : (s : List ℕ) (at n base : ℕ) (out put : List ℕ) → n ≤ 4 → (n ≡ 0 → ⊥) → (n ≡ 1 → ⊥) → (n ≡ 2 → ⊥) → (n ≡ 3 → ⊥)
    → put ≡ sets out base (piece_at 4 0 s at) → put ≡ sets out base (piece_at n (4 - n) s at)
last-piece s at n base out put h a b c d e = same-piece s at n 4 4 0 base out put (omega arith) refl e

pub last-three : (s : List ℕ) (at n base : ℕ) (out put : List ℕ) → n ≤ 3 → (n ≡ 0 → ⊥) → (n ≡ 1 → ⊥) → (n ≡ 2 → ⊥)
    → put ≡ sets out base (piece_at 3 0 s at) → put ≡ sets out base (piece_at n (3 - n) s at)
last-three s at n base out put h a b c e = same-piece s at n 3 3 0 base out put (omega arith) refl e

pub ruleset by_number = (same-piece, last-piece, last-three)

pub length-piece : (n m : ℕ) (s : List ℕ) (p : ℕ) → length (piece_at n m s p) ≡ n + m
unfolding piece_at
length-piece n m s p = length-append (words_at n s p) (replicate m 0) ∙ ap₂ ◌+◌ (length-words n s p) (length-replicate m 0)

-- ---- a row of h words, three cells, so many cells, and the rest

module _ (h wide rest : ℕ) (s : List ℕ) (at a b base : ℕ) (ha : a ≤ 3) (hb : b ≤ wide) (out o₁ o₂ o₃ : List ℕ) (r : base + (h + 3 + wide + rest) ≤ length out) (e₁ : o₁ ≡ stored out base (piece_at h 0 s at)) where
  long₁ : length o₁ ≡ length out
  long₁ = ap length e₁ ∙ length-sets out base (piece_at h 0 s at)

  pub room_1 : base + h + 3 ≤ length o₁
  room_1 = omega (arith, long₁)

  module _ (e₂ : o₂ ≡ stored o₁ (base + h) (piece_at a (3 - a) s (at + 4 * h))) where
    long₂ : length o₂ ≡ length out
    long₂ = ap length e₂ ∙ length-sets o₁ (base + h) (piece_at a (3 - a) s (at + 4 * h)) ∙ long₁

    pub room_2 : base + (h + 3) + wide ≤ length o₂
    room_2 = omega (arith, long₂)

    module _ (e₃ : o₃ ≡ stored o₂ (base + (h + 3)) (piece_at b (wide - b) s (at + 4 * h + 4 * a))) where
      long₃ : length o₃ ≡ length out
      long₃ = ap length e₃ ∙ length-sets o₂ (base + (h + 3)) (piece_at b (wide - b) s (at + 4 * h + 4 * a)) ∙ long₂

      pub room_3 : base + (h + 3 + wide) + rest ≤ length o₃
      room_3 = omega (arith, long₃)

      pub row_put : (last : List ℕ → ℕ → List ℕ) (put : List ℕ) → put ≡ stored o₃ (base + (h + 3 + wide)) (last s (at + 4 * h + 4 * a + 4 * b)) → put ≡ stored out base (parts_at h a wide b last s at)
      unfolding parts_at
      row_put last put e₄ =
          let p₁ = piece_at h 0 s at in
          let p₂ = piece_at a (3 - a) s (at + 4 * h) in
          let p₃ = piece_at b (wide - b) s (at + 4 * h + 4 * a) in
          let p₄ = last s (at + 4 * h + 4 * a + 4 * b) in
          let l₁ : base + length p₁ ≡ base + h = omega (arith, length-piece h 0 s at) in
          let l₂ : base + h + length p₂ ≡ base + (h + 3) = omega (arith, length-piece a (3 - a) s (at + 4 * h)) in
          let l₃ : base + (h + 3) + length p₃ ≡ base + (h + 3 + wide) = omega (arith, length-piece b (wide - b) s (at + 4 * h + 4 * a)) in
          e₄ ∙ ap (λ (x : List ℕ). stored x (base + (h + 3 + wide)) p₄) e₃
          ∙ ap (λ (i : ℕ). stored (stored o₂ (base + (h + 3)) p₃) i p₄) (sym l₃) ∙ sym (sets-append p₃ p₄ o₂ (base + (h + 3)))
          ∙ ap (λ (x : List ℕ). stored x (base + (h + 3)) (p₃ ++ p₄)) e₂
          ∙ ap (λ (i : ℕ). stored (stored o₁ (base + h) p₂) i (p₃ ++ p₄)) (sym l₂) ∙ sym (sets-append p₂ (p₃ ++ p₄) o₁ (base + h))
          ∙ ap (λ (x : List ℕ). stored x (base + h) (p₂ ++ (p₃ ++ p₄))) e₁
          ∙ ap (λ (i : ℕ). stored (stored out base p₁) i (p₂ ++ (p₃ ++ p₄))) (sym l₁) ∙ sym (sets-append p₁ (p₂ ++ (p₃ ++ p₄)) out base)

-- what each part of it takes of the file
module _ (h a b l at long : ℕ) (k : at + 4 * (h + a + b + l) ≤ long) where
  pub part_1 : at + 4 * h ≤ long
  part_1 = omega arith

  pub part_2 : at + 4 * h + 4 * a ≤ long
  part_2 = omega arith

  pub part_3 : at + 4 * h + 4 * a + 4 * b ≤ long
  part_3 = omega arith

  pub part_4 : at + 4 * h + 4 * a + 4 * b + 4 * l ≤ long
  part_4 = omega arith

-- rows of so many cells
pub record Wide (row : List ℕ → ℕ → List ℕ) (width : ℕ) : Type 0 where
  pub wide : (s : List ℕ) (p : ℕ) → length (row s p) ≡ width

pub parts-wide : (h a wide b rest : ℕ) (last : List ℕ → ℕ → List ℕ) → a ≤ 3 → b ≤ wide → Wide last rest → Wide (parts_at h a wide b last) (h + 3 + wide + rest)
unfolding parts_at
parts-wide h a wide b rest last ha hb w =
    record {
      wide = λ s p.
          let p₁ = piece_at h 0 s p in
          let p₂ = piece_at a (3 - a) s (p + 4 * h) in
          let p₃ = piece_at b (wide - b) s (p + 4 * h + 4 * a) in
          let p₄ = last s (p + 4 * h + 4 * a + 4 * b) in
          omega (arith, length-append p₁ (p₂ ++ (p₃ ++ p₄)), length-append p₂ (p₃ ++ p₄), length-append p₃ p₄, length-piece h 0 s p, length-piece a (3 - a) s (p + 4 * h), length-piece b (wide - b) s (p + 4 * h + 4 * a), w.wide s (p + 4 * h + 4 * a + 4 * b));
    }

-- ---- rows, one after the other

-- the first i of `count` rows are stored
pub record RowsFrom (row : List ℕ → ℕ → List ℕ) (width : ℕ) (s : List ℕ) (words base : ℕ) (out₀ : List ℕ) (count from : ℕ) (out : List ℕ) (i : ℕ) : Type 0 where
  pub some : i ≤ count
  pub place : from + count * (4 * words) ≤ length s
  pub room : base + count * width ≤ length out₀
  pub stores : Storing out₀ base (rows_at row words count s from) out (base + i * width) (rows_at row words (count - i) s (from + i * (4 * words)))

module _ (row : List ℕ → ℕ → List ℕ) (width : ℕ) (s : List ℕ) (words base : ℕ) (out₀ : List ℕ) (count from : ℕ) where
  pub rows_none : from + count * (4 * words) ≤ length s → base + count * width ≤ length out₀ → RowsFrom row width s words base out₀ count from out₀ 0
  rows_none h r =
      let z : count - 0 ≡ count = omega arith in
      let b : base + 0 * width ≡ base = omega arith in
      let f : from + 0 * (4 * words) ≡ from = omega arith in
      record { some = omega arith; place = h; room = r; stores = rw (z, b, f) (record { long = refl; same = refl }) }

  module _ (out : List ℕ) (i : ℕ) (v : RowsFrom row width s words base out₀ count from out i) where
    pub rows_long : length out ≡ length out₀
    rows_long = v.stores.long

    pub rows_done : count ≤ i → out ≡ stored out₀ base (rows_at row words count s from)
    unfolding rows_at
    rows_done h = let z : count - i ≡ 0 = omega arith in store_done v.stores (rw z)

    module _ (h : i < count) where
      after : (k : ℕ) → (i + 1) * k ≡ i * k + k
      after k = let z : i + 1 ≡ suc i = omega arith in rw z (suc-mul i k)

      within : (k : ℕ) → (i + 1) * k ≤ count * k
      within k = mul-le-mul_right k (omega arith)

      pub rows_place : from + i * (4 * words) + 4 * words ≤ length s
      rows_place = omega (arith, v.place, after (4 * words), within (4 * words))

      pub rows_take : (size : ℕ) → words ≡ size → from + i * (4 * words) + 4 * size ≤ length s
      rows_take size e = omega (arith, rows_place, e)

      pub rows_room : base + i * width + width ≤ length out
      rows_room = omega (arith, v.room, v.stores.long, after width, within width)

      first : rows_at row words (count - i) s (from + i * (4 * words)) ≡ row s (from + i * (4 * words)) ++ rows_at row words (count - (i + 1)) s (from + (i + 1) * (4 * words))
      unfolding rows_at
      first =
          let z : count - i ≡ suc (count - (i + 1)) = omega arith in
          let e : from + i * (4 * words) + 4 * words ≡ from + (i + 1) * (4 * words) = omega (arith, after (4 * words)) in
          rw (z, e)

      pub rows_on : Wide row width → (put : List ℕ) → put ≡ stored out (base + i * width) (row s (from + i * (4 * words))) → RowsFrom row width s words base out₀ count from put (i + 1)
      rows_on wd put f =
          let l : base + i * width + length (row s (from + i * (4 * words))) ≡ base + (i + 1) * width = omega (arith, wd.wide s (from + i * (4 * words)), after width) in
          record { some = omega arith; place = v.place; room = v.room; stores = rw f (rw l at (store_run v.stores (row s (from + i * (4 * words))) first)) }

pub ruleset rows_laws = (rows_none, rows_long, rows_done, rows_place, rows_take, rows_room, rows_on)
