-- A run of stores, one after the other: what is left to store from here gives what was to store from the start.
use Prim.Native.Nat.{ℕ, suc, ◌+◌, ◌<◌, ◌≤◌}
use native.Mathlib.Nat.{add-zero, add-suc, suc-add}
use native.Mathlib.Numerals.{add-one}
use native.Mathlib.Omega.{arith}
use mathlib.Core.Path.{◌≡◌, refl, ap, sym, ◌∙◌}
use mathlib.Core.List.{List, [], ◌∷◌, ◌++◌, append-nil}
use lib.ListN.{length, drop, get_or, set, length-set, length-append, drop_of_length-le}
use lib.Seq.{sets, sets-eq, length-sets, drop-cons}

pub sets-append : {A : Type 0} (vs ws : List A) (d : List A) (i : ℕ) → sets d i (vs ++ ws) ≡ sets (sets d i vs) (i + length vs) ws
sets-append [] ws d i = rw add-zero
sets-append (v ∷ vs) ws d i = sets-append vs ws (set d i v) (suc i) ∙ rw (add-suc, suc-add)

-- all was to be stored into out₀ from base on; in out what is left of it is `rest`, from `at` on
pub record Storing {A : Type 0} (out₀ : List A) (base : ℕ) (all out : List A) (at : ℕ) (rest : List A) : Type 0 where
  pub long : length out ≡ length out₀
  pub same : sets out at rest ≡ sets out₀ base all

module _ {A : Type 0} {out₀ : List A} {base : ℕ} {all : List A} where
  pub store_none : Storing out₀ base all out₀ (base + 0) all
  store_none = record { long = refl; same = rw add-zero }

  module _ {out : List A} {at : ℕ} {left : List A} (s : Storing out₀ base all out at left) where
    pub store_one : {v : A} {rest : List A} {n : ℕ} → left ≡ v ∷ rest → n ≡ suc at → Storing out₀ base all (set out at v) n rest
    store_one {v} e h = record { long = length-set out at v ∙ s.long; same = rw h (rw e at s.same) }

    pub store_run : (vs : List A) {rest : List A} → left ≡ vs ++ rest → Storing out₀ base all (sets out at vs) (at + length vs) rest
    store_run vs {rest} e = record { long = length-sets out at vs ∙ s.long; same = sym (sets-append vs rest out at) ∙ rw e at s.same }

    pub store_done : left ≡ [] → out ≡ sets out₀ base all
    store_done e = rw e at s.same

-- the same, where what is left has room
pub record Part {A : Type 0} (out₀ : List A) (base : ℕ) (all out : List A) (at : ℕ) (rest : List A) : Type 0 where
  pub stores : Storing out₀ base all out at rest
  pub room : at + length rest ≤ length out₀

pub part-start : {A : Type 0} (out₀ : List A) (base : ℕ) (all : List A) → base + length all ≤ length out₀ → Part out₀ base all out₀ base all
part-start out₀ base all h = record { stores = record { long = refl; same = refl }; room = h }

module _ {A : Type 0} {out₀ : List A} {base : ℕ} {all out : List A} {at : ℕ} {left : List A} (p : Part out₀ base all out at left) where
  pub part-long : length out ≡ length out₀
  part-long = p.stores.long

  pub part-done : left ≡ [] → out ≡ sets out₀ base all
  part-done e = store_done p.stores e

  module _ (vs rest : List A) (e : left ≡ vs ++ rest) where
    pub part_room : at + length vs ≤ length out
    part_room = omega (arith, p.room, p.stores.long, ap length e, length-append vs rest)

    pub part-next : (new : List A) (n : ℕ) → new ≡ sets out at vs → n ≡ at + length vs → Part out₀ base all new n rest
    part-next new n f k = record { stores = rw (f, k) (store_run p.stores vs e); room = omega (arith, p.room, ap length e, length-append vs rest) }

-- stores over a whole list leave nothing of it
pub store_whole : {A : Type 0} (out all : List A) → length all ≡ length out → sets out 0 all ≡ all
store_whole out all e =
    let h : length out ≤ 0 + length all = omega arith in
    sets-eq all out 0 (omega arith) ∙ rw (drop_of_length-le out h) (append-nil all)

pub next_place : (base i : ℕ) → base + (i + 1) ≡ suc (base + i)
next_place base i = omega arith

-- ---- cells at hand

module _ {A : Type 0} (l : List A) (i : ℕ) where
  pub drop-next : (d : A) → i < length l → drop i l ≡ get_or l i d ∷ drop (i + 1) l
  drop-next d h = rw add-one (drop-cons l i d h)

  pub drop-end : length l ≤ i → drop i l ≡ []
  drop-end h = drop_of_length-le l h

pub ruleset storing = (store_none, store_one, store_done, next_place, drop-next, drop-end)
