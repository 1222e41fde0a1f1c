-- One value again and again, and words of the file: what each turn of `put_same` and of `copy_run` stores.
use Prim.Native.Nat.{ℕ, zero, suc, ◌+◌, ◌-◌, ◌*◌, ◌<◌, ◌≤◌}
use native.Mathlib.Omega.{arith}
use mathlib.Core.Path.{◌≡◌, refl, ap}
use mathlib.Core.List.{List, ◌++◌}
use lib.ListN.{length, set, replicate}
use lib.Seq.{sets}
use Rattle.wire.specs.Bytes.{word_at}
use Rattle.wire.specs.Cursors.{Inside, left}
use Rattle.wire.specs.declared.Cursor.{Cursor}
use Rattle.wire.proofs.LeftLaws.{span, left-four}
use Rattle.layout.specs.Parts.{words_of}
use Rattle.shared_table_words.specs.Words.{words_at}
use Rattle.shared_table_words.proofs.StoreLaws.{Storing, store_none, store_one, store_done, next_place}

-- ---- one value

-- in out the cells before i of n stand
pub record Repeating (v n base : ℕ) (out₀ out : List ℕ) (i : ℕ) : Type 0 where
  pub before : i ≤ n
  pub stores : Storing out₀ base (replicate n v) out (base + i) (replicate (n - i) v)

module _ (v n base : ℕ) (out₀ : List ℕ) where
  pub repeat_none : Repeating v n base out₀ out₀ 0
  repeat_none = let e : n - 0 ≡ n = omega arith in record { before = omega arith; stores = rw e store_none }

  module _ (out : List ℕ) (i : ℕ) (k : Repeating v n base out₀ out i) where
    pub repeat_one : i < n → Repeating v n base out₀ (set out (base + i) v) (i + 1)
    repeat_one h =
        let m : n - i ≡ suc (n - (i + 1)) = omega arith in
        record { before = omega arith; stores = store_one k.stores (rw m) (next_place base i) }

    pub repeat_done : n ≤ i → out ≡ sets out₀ base (replicate n v)
    repeat_done h = let z : n - i ≡ 0 = omega arith in store_done k.stores (rw z)

pub ruleset repeating = (repeat_none, repeat_one, repeat_done)

-- ---- words by their place

pub length-words : (n : ℕ) (s : List ℕ) (p : ℕ) → length (words_at n s p) ≡ n
unfolding words_at
length-words zero s p = refl
length-words (suc n) s p = ap suc (length-words n s (p + 4))

pub words_more : (k n : ℕ) (s : List ℕ) (p : ℕ) → words_at (k + n) s p ≡ words_at k s p ++ words_at n s (p + 4 * k)
unfolding words_at
words_more zero n s p =
    let e : 0 + n ≡ n = omega arith in
    let f : p + 4 * 0 ≡ p = omega arith in
    rw (e, f)
words_more (suc k) n s p =
    let e : suc k + n ≡ suc (k + n) = omega arith in
    let f : p + 4 * suc k ≡ p + 4 + 4 * k = omega arith in
    rw (e, f, words_more k n s (p + 4))

-- ---- words as they stand

-- in out the words before i stand, those from i on are left
pub record Copying (s : List ℕ) (at n base : ℕ) (out₀ out : List ℕ) (i : ℕ) : Type 0 where
  pub before : i ≤ n
  pub stores : Storing out₀ base (words_at n s at) out (base + i) (words_at (n - i) s (at + 4 * i))

module _ (s : List ℕ) (at n base : ℕ) (out₀ : List ℕ) where
  pub copy_none : Copying s at n base out₀ out₀ 0
  copy_none =
      let e : n - 0 ≡ n = omega arith in
      let f : at + 4 * 0 ≡ at = omega arith in
      record { before = omega arith; stores = rw (e, f) store_none }

  module _ (out : List ℕ) (i : ℕ) (k : Copying s at n base out₀ out i) where
    pub copy_one : (v : ℕ) → i < n → v ≡ word_at s (at + 4 * i) → Copying s at n base out₀ (set out (base + i) v) (i + 1)
    unfolding words_at
    copy_one v h e =
        let m : n - i ≡ suc (n - (i + 1)) = omega arith in
        let p : at + 4 * i + 4 ≡ at + 4 * (i + 1) = omega arith in
        record { before = omega arith; stores = store_one k.stores (rw (m, p, ← e)) (next_place base i) }

    pub copy_done : n ≤ i → out ≡ sets out₀ base (words_at n s at)
    unfolding words_at
    copy_done h = let z : n - i ≡ 0 = omega arith in store_done k.stores (rw z)

pub ruleset copying = (copy_none, copy_one, copy_done)

-- ---- those that a cursor has left

pub words-at : (n : ℕ) (s : List ℕ) (c : Cursor) → Inside c (length s) → c.at + 4 * n ≤ c.end → words_of n (left c s) ≡ words_at n s c.at
unfolding words_at word_at
words-at zero s c i h = refl
words-at (suc n) s c i h =
    let d = span (c.at + 4) c.end in
    rw (left-four s c d i (omega arith) refl refl, words-at n s d (record { before = omega arith; within = i.within }) (omega arith))

module _ (n : ℕ) (s : List ℕ) (c : Cursor) (i : Inside c (length s)) (h : c.at + 4 * n ≤ c.end) where
  pub words-place : c.at + 4 * n ≤ length s
  words-place = omega (arith, i.within)

  pub words-put : (base : ℕ) (out put : List ℕ) → put ≡ sets out base (words_at n s c.at) → put ≡ sets out base (words_of n (left c s))
  words-put base out put e = rw (words-at n s c i h) e

pub ruleset words_left = (words-place, words-put)
