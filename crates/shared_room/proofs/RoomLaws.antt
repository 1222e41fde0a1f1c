-- Which of the lent tables is too short, and what the definition says of that.
use mathlib.Core.Path.{◌≡◌, refl, sym, ◌∙◌}
use Prim.Native.Nat.{ℕ, ◌*◌, ◌/◌, ◌<◌, ◌≤◌}
use native.Mathlib.Nat.{div-lt_iff_lt-mul, le-div_iff_mul-le, mul_comm}
use native.Mathlib.Omega.{arith}
use mathlib.Core.Bool.{Bool}
use mathlib.Core.List.{List, [], ◌∷◌}
use lib.Dec.{leb, ltb, ltb→lt, nltb→le}
use borrow.Author.Tests.{lt-leb, le-leb, lt-ltb, le-ltb}
use Rattle.wire.specs.Test.{if}
use Rattle.layout.specs.Lists.{All}
use Rattle.layout.specs.Result.{accept, reject, check}
use Rattle.layout.specs.Rows.{each_of}
use Rattle.layout.proofs.ResultLaws.{by_test, if_yes, if_no}
use Rattle.shared_room.specs.Rooms.{first_short}

-- ---- one table

-- fewer rows have room than there are, or enough
module _ (k wide rows room later : ℕ) (h : 0 < wide) where
  pub short-yes : room / wide < rows → k ≡ if (ltb room (wide * rows)) k later
  unfolding if
  short-yes d =
      let m : room < rows * wide = (div-lt_iff_lt-mul h).0 d in
      simp (lt-ltb room (wide * rows) (omega (arith, mul_comm wide rows)))

  pub short-no : rows ≤ room / wide → later ≡ if (ltb room (wide * rows)) k later
  unfolding if
  short-no d =
      let m : rows * wide ≤ room = (le-div_iff_mul-le h).0 d in
      simp (le-ltb room (wide * rows) (omega (arith, mul_comm wide rows)))

pub ruleset short_laws = (short-yes, short-no)

-- ---- a list of tables

module _ (width count room : ℕ → ℕ) where
  abbrev short : ℕ → Bool
  short k = ltb (room k) (width k * count k)

  abbrev fits : ℕ → Bool
  fits k = leb (width k * count k) (room k)

  pub short-at-most : (n : ℕ) (ks : List ℕ) → All (λ k. k ≤ n) ks → first_short width count room ks ≤ n
  unfolding first_short
  short-at-most n [] h = omega arith
  short-at-most n (k ∷ ks) h =
      by_test (short k)
      (λ t. rw (if_yes (short k) k (first_short width count room ks) t) h.0)
      (λ t. rw (if_no (short k) k (first_short width count room ks) t) (short-at-most n ks h.1))

  -- the first that is too short is refused
  pub each-short : (e : ℕ) (ks : List ℕ) → (first_short width count room ks ≡ 0 → ⊥) → each_of e fits ks ≡ reject e (first_short width count room ks)
  unfolding first_short each_of check
  each-short e [] d = absurd (d refl)
  each-short e (k ∷ ks) d =
      by_test (short k)
      (λ t. rw (lt-leb (width k * count k) (room k) (ltb→lt (room k) (width k * count k) t), if_yes (short k) k (first_short width count room ks) t))
      (λ t. let z = if_no (short k) k (first_short width count room ks) t in
      rw (le-leb (width k * count k) (room k) (nltb→le (room k) (width k * count k) t), z) (each-short e ks (λ q. d (z ∙ q))))

  -- where there is none, each has room
  pub each_room : (e : ℕ) (ks : List ℕ) → All (λ (k : ℕ). 0 < k) ks → first_short width count room ks ≡ 0 → each_of e fits ks ≡ accept tt
  unfolding first_short each_of check
  each_room e [] h q = refl
  each_room e (k ∷ ks) h q =
      by_test (short k)
      (λ t. let z : k ≡ 0 = sym (if_yes (short k) k (first_short width count room ks) t) ∙ q in absurd (omega (arith, h.0)))
      (λ t. let z = if_no (short k) k (first_short width count room ks) t in
      rw (le-leb (width k * count k) (room k) (nltb→le (room k) (width k * count k) t)) (each_room e ks h.1 (sym z ∙ q)))
