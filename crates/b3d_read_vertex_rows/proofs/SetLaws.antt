-- The sets of a vertex, those that are there stored one after the other, then zeros; and how many cells a vertex has.
use Prim.Native.Nat.{ℕ, zero, suc, ◌+◌, ◌-◌, ◌*◌, ◌<◌, ◌≤◌}
use native.Mathlib.Omega.{arith}
use mathlib.Core.Path.{◌≡◌, refl, ap, subst, ◌∙◌}
use mathlib.Core.List.{List, ◌++◌, append_assoc}
use lib.ListN.{length, replicate, length-replicate, length-append}
use lib.Seq.{sets, sets as stored}
use native.Mathlib.Nat.{suc-mul}
use Rattle.shared_table_words.proofs.StoreLaws.{Storing, store_run}
use Rattle.b3d_read_row_runs.specs.Pieces.{piece_at}
use Rattle.b3d_read_row_runs.proofs.RunLaws.{length-piece, Wide, parts-wide}
use Rattle.b3d_read_vertex_rows.specs.Vertices.{sets_at, all_sets, vertex_at}

-- ---- zeros by their number

pub same_zeros : (n i j base : ℕ) (out put : List ℕ) → n ≡ i → i * 4 ≡ j → put ≡ sets out base (replicate j 0) → put ≡ sets out base (replicate (n * 4) 0)
same_zeros n i j base out put e f h = rw (e, f) h

up : (n : ℕ) → suc (suc (suc (suc (suc (suc (suc (suc n))))))) ≤ 8 → suc (suc (suc (suc (suc (suc (suc (suc n))))))) ≡ 8
up n h = omega arith

eight : (n : ℕ) → n ≤ 8 → (n ≡ 0 → ⊥) → (n ≡ 1 → ⊥) → (n ≡ 2 → ⊥) → (n ≡ 3 → ⊥) → (n ≡ 4 → ⊥) → (n ≡ 5 → ⊥) → (n ≡ 6 → ⊥) → (n ≡ 7 → ⊥) → n ≡ 8
eight zero h a b c d e f g i = absurd (a refl)
eight (suc zero) h a b c d e f g i = absurd (b refl)
eight (suc (suc zero)) h a b c d e f g i = absurd (c refl)
eight (suc (suc (suc zero))) h a b c d e f g i = absurd (d refl)
eight (suc (suc (suc (suc zero)))) h a b c d e f g i = absurd (e refl)
eight (suc (suc (suc (suc (suc zero))))) h a b c d e f g i = absurd (f refl)
eight (suc (suc (suc (suc (suc (suc zero)))))) h a b c d e f g i = absurd (g refl)
eight (suc (suc (suc (suc (suc (suc (suc zero))))))) h a b c d e f g i = absurd (i refl)
eight (suc (suc (suc (suc (suc (suc (suc (suc n)))))))) h a b c d e f g i = up n h

pub last_zeros : (n base : ℕ) (out put : List ℕ) → n ≤ 8 → (n ≡ 0 → ⊥) → (n ≡ 1 → ⊥) → (n ≡ 2 → ⊥) → (n ≡ 3 → ⊥) → (n ≡ 4 → ⊥) → (n ≡ 5 → ⊥) → (n ≡ 6 → ⊥) → (n ≡ 7 → ⊥)
    → put ≡ sets out base (replicate 32 0) → put ≡ sets out base (replicate (n * 4) 0)
last_zeros n base out put h a b c d e f g i z = same_zeros n 8 32 base out put (eight n h a b c d e f g i) refl z

pub last-room : (n base long : ℕ) → n ≤ 8 → (n ≡ 0 → ⊥) → (n ≡ 1 → ⊥) → (n ≡ 2 → ⊥) → (n ≡ 3 → ⊥) → (n ≡ 4 → ⊥) → (n ≡ 5 → ⊥) → (n ≡ 6 → ⊥) → (n ≡ 7 → ⊥)
    → base + n * 4 ≤ long → base + 32 ≤ long
last-room n base long h a b c d e f g i r = subst (λ (k : ℕ). base + k * 4 ≤ long) (eight n h a b c d e f g i) r

pub ruleset by_zeros = (same_zeros, last_zeros, last-room)

-- ---- the sets

-- in out the sets before k stand
pub record SetsLeft (s : List ℕ) (sets size base : ℕ) (out₀ : List ℕ) (at : ℕ) (out : List ℕ) (k p o : ℕ) : Type 0 where
  pub before : k ≤ sets
  pub few : sets ≤ 8
  pub cell : o ≡ base + 4 * k
  pub place : p + 4 * ((sets - k) * size) ≤ length s
  pub stores : Storing out₀ base (all_sets sets size s at) out o (sets_at (sets - k) size s p ++ replicate ((8 - sets) * 4) 0)

module _ (s : List ℕ) (sets size base : ℕ) (out₀ : List ℕ) (at : ℕ) where
  pub sets_none : sets ≤ 8 → at + 4 * (sets * size) ≤ length s → SetsLeft s sets size base out₀ at out₀ 0 at base
  unfolding all_sets
  sets_none few h = let z : sets - 0 ≡ sets = omega arith in record { before = omega arith; few = few; cell = omega arith; place = rw z h; stores = rw z (record { long = refl; same = refl }) }

  module _ (out : List ℕ) (k p o : ℕ) (v : SetsLeft s sets size base out₀ at out k p o) where
    pub sets_long : length out ≡ length out₀
    sets_long = v.stores.long

    pub sets_k : k ≤ 8
    sets_k = omega (arith, v.before, v.few)

    module _ (h : sets ≤ k) where
      pub sets_room : base + 32 ≤ length out₀ → o + (8 - sets) * 4 ≤ length out
      sets_room r = omega (arith, v.cell, v.stores.long, v.before, v.few)

      pub sets_done : (put : List ℕ) → put ≡ stored out o (replicate ((8 - sets) * 4) 0) → put ≡ stored out₀ base (all_sets sets size s at)
      unfolding sets_at
      sets_done put e =
          let z : sets - k ≡ 0 = omega arith in
          e ∙ rw z at v.stores.same

    module _ (h : k < sets) where
      later : sets - k ≡ suc (sets - (k + 1))
      later = omega arith

      words_are : (sets - k) * size ≡ (sets - (k + 1)) * size + size
      words_are = ap (λ (n : ℕ). n * size) later ∙ suc-mul (sets - (k + 1)) size

      pub set_place : p + 4 * size ≤ length s
      set_place = omega (arith, v.place, words_are)

      pub set_room : base + 32 ≤ length out₀ → o + 4 ≤ length out
      set_room r = omega (arith, v.cell, v.stores.long, v.few)

      pub set_on : size ≤ 4 → (put : List ℕ) → put ≡ stored out o (piece_at size (4 - size) s p) → SetsLeft s sets size base out₀ at put (k + 1) (p + 4 * size) (o + 4)
      unfolding sets_at
      set_on le put f =
          let l : length (piece_at size (4 - size) s p) ≡ 4 = length-piece size (4 - size) s p ∙ omega arith in
          let z : List ℕ = replicate ((8 - sets) * 4) 0 in
          let e : sets_at (sets - k) size s p ++ z ≡ piece_at size (4 - size) s p ++ (sets_at (sets - (k + 1)) size s (p + 4 * size) ++ z) =
          ap (λ (n : ℕ). sets_at n size s p ++ z) later ∙ append_assoc (piece_at size (4 - size) s p) (sets_at (sets - (k + 1)) size s (p + 4 * size)) z in
          record {
            before = omega arith;
            few = v.few;
            cell = omega (arith, v.cell);
            place = omega (arith, v.place, words_are);
            stores = rw f (rw l at (store_run v.stores (piece_at size (4 - size) s p) e));
          }

pub ruleset sets_laws = (sets_none, sets_long, sets_k, sets_room, sets_done, set_place, set_room, set_on)

-- ---- the row

length-sets-at : (n size : ℕ) (s : List ℕ) (p : ℕ) → size ≤ 4 → length (sets_at n size s p) ≡ n * 4
unfolding sets_at
length-sets-at zero size s p h = refl
length-sets-at (suc n) size s p h =
    omega (arith, length-append (piece_at size (4 - size) s p) (sets_at n size s (p + 4 * size)), length-piece size (4 - size) s p, length-sets-at n size s (p + 4 * size) h, suc-mul n 4)

pub vertex-wide : (a b sets size : ℕ) → a ≤ 3 → b ≤ 4 → size ≤ 4 → sets ≤ 8 → Wide (vertex_at a b sets size) 42
unfolding all_sets
vertex-wide a b sets size ha hb hs hn =
    parts-wide 3 a 4 b 32 (all_sets sets size) ha hb
    (record { wide = λ s p. omega (arith, length-append (sets_at sets size s p) (replicate ((8 - sets) * 4) 0), length-sets-at sets size s p hs, length-replicate {A = ℕ} ((8 - sets) * 4) 0) })
