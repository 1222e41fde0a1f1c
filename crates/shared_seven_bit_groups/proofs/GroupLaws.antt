-- The groups of a number: one by one, how many they are, and that they are bytes.
use mathlib.Core.Path.{◌≡◌, refl, ap, sym, ◌∙◌}
use Prim.Native.Nat.{ℕ, zero, suc, ◌+◌, ◌/◌, ◌%◌, ◌^◌, ◌<◌, ◌≤◌}
use native.Mathlib.Nat.{pow-succ', one-le-pow}
use native.Mathlib.Omega.{arith}
use mathlib.Core.List.{List, [], ◌∷◌, ◌++◌, append_assoc}
use lib.ListN.{length, length-append}
use Rattle.wire.specs.Bytes.{AllBytes}
use Rattle.shared_seven_bit_groups.specs.Groups.{front_in, front, groups, groups_of, write_numbers}

-- ---- one group more

front-enough : (f g w : ℕ) (r : List ℕ) → w ≤ f → w ≤ g → front_in f w r ≡ front_in g w r
unfolding front_in
front-enough zero zero w r h i = refl
front-enough zero (suc g) zero r h i = refl
front-enough zero (suc g) (suc w) r h i = absurd (omega arith)
front-enough (suc f) zero zero r h i = refl
front-enough (suc f) zero (suc w) r h i = absurd (omega arith)
front-enough (suc f) (suc g) zero r h i = refl
front-enough (suc f) (suc g) (suc w) r h i = front-enough f g (suc w / 128) ((suc w % 128 + 128) ∷ r) (omega arith) (omega arith)

pub front-none : (r : List ℕ) → front 0 r ≡ r
unfolding front front_in
front-none r = refl

pub front-more : (w : ℕ) (r : List ℕ) → 0 < w → front w r ≡ front (w / 128) ((w % 128 + 128) ∷ r)
unfolding front front_in
front-more zero r h = absurd (omega arith)
front-more (suc w) r h = front-enough w (suc w / 128) (suc w / 128) ((suc w % 128 + 128) ∷ r) (omega arith) (omega arith)

-- ---- before what follows

front_in-append : (f w : ℕ) (r q : List ℕ) → front_in f w (r ++ q) ≡ front_in f w r ++ q
unfolding front_in
front_in-append zero w r q = refl
front_in-append (suc f) zero r q = refl
front_in-append (suc f) (suc w) r q = front_in-append f (suc w / 128) ((suc w % 128 + 128) ∷ r) q

pub front-append : (w : ℕ) (r : List ℕ) → front w r ≡ front w [] ++ r
unfolding front
front-append w r = front_in-append w w [] r

pub groups-append : (n : ℕ) (r : List ℕ) → groups n r ≡ groups n [] ++ r
unfolding groups front
groups-append n r = front_in-append (n / 128) (n / 128) (n % 128 ∷ []) r

pub numbers-append : (ns r : List ℕ) → write_numbers ns r ≡ write_numbers ns [] ++ r
unfolding write_numbers
numbers-append [] r = refl
numbers-append (n ∷ ns) r =
    ap (groups n) (numbers-append ns r) ∙ groups-append n (write_numbers ns [] ++ r) ∙ sym (append_assoc (groups n []) (write_numbers ns []) r)
    ∙ ap (λ (l : List ℕ). l ++ r) (sym (groups-append n (write_numbers ns [])))

-- ---- how many

-- the groups before the last
abbrev pub front_of : ℕ → ℕ
front_of w = length (front w [])

pub front_length : (w : ℕ) (r : List ℕ) → length (front w r) ≡ front_of w + length r
front_length w r = ap length (front-append w r) ∙ length-append (front w []) r

pub count_none : front_of 0 ≡ 0
count_none = ap length (front-none [])

pub count_more : (w : ℕ) → 0 < w → front_of w ≡ front_of (w / 128) + 1
count_more w h = ap length (front-more w [] h) ∙ front_length (w / 128) ((w % 128 + 128) ∷ [])

pub count_is : (n : ℕ) → groups_of n ≡ front_of (n / 128) + 1
unfolding groups_of groups
count_is n = front_length (n / 128) (n % 128 ∷ [])

pub groups-length : (n : ℕ) (r : List ℕ) → length (groups n r) ≡ groups_of n + length r
unfolding groups_of
groups-length n r = ap length (groups-append n r) ∙ length-append (groups n []) r

-- a number takes so many groups or fewer just where it is below that power of 128
front-most : (k w : ℕ) → w < 128 ^ k → front_of w ≤ k
front-most zero zero h = omega (arith, count_none)
front-most zero (suc w) h = absurd (omega arith)
front-most (suc k) zero h = omega (arith, count_none)
front-most (suc k) (suc w) h =
    omega (arith, count_more (suc w) (omega arith), front-most k (suc w / 128) (omega (arith, pow-succ' 128 k)))

front-least : (k w : ℕ) → front_of w ≤ k → w < 128 ^ k
front-least zero zero h = omega arith
front-least zero (suc w) h = absurd (omega (arith, count_more (suc w) (omega arith)))
front-least (suc k) zero h = one-le-pow (suc k) 128 (omega arith)
front-least (suc k) (suc w) h = omega (arith, pow-succ' 128 k, front-least k (suc w / 128) (omega (arith, count_more (suc w) (omega arith))))

pub groups-most : (k n : ℕ) → n < 128 ^ suc k → groups_of n ≤ suc k
groups-most k n h = omega (arith, count_is n, front-most k (n / 128) (omega (arith, pow-succ' 128 k)))

pub groups-least : (k n : ℕ) → groups_of n ≤ suc k → n < 128 ^ suc k
groups-least k n h = omega (arith, pow-succ' 128 k, front-least k (n / 128) (omega (arith, count_is n)))

-- a larger number takes no fewer groups
pub groups_up : (m n : ℕ) → m ≤ n → groups_of m ≤ groups_of n
groups_up m n h =
    let k = front_of (n / 128) in
    let e : groups_of n ≡ suc k = count_is n ∙ omega arith in
    rw e (groups-most k m (omega (arith, groups-least k n (omega arith))))

-- ---- bytes

front_bytes : (f w : ℕ) (r : List ℕ) → AllBytes r → AllBytes (front_in f w r)
unfolding front_in
front_bytes zero w r h = h
front_bytes (suc f) zero r h = h
front_bytes (suc f) (suc w) r h = front_bytes f (suc w / 128) ((suc w % 128 + 128) ∷ r) (omega arith, h)

pub groups-bytes : (n : ℕ) (r : List ℕ) → AllBytes r → AllBytes (groups n r)
unfolding groups front
groups-bytes n r h = front_bytes (n / 128) (n / 128) (n % 128 ∷ r) (omega arith, h)

pub numbers-bytes : (ns r : List ℕ) → AllBytes r → AllBytes (write_numbers ns r)
unfolding write_numbers
numbers-bytes [] r h = h
numbers-bytes (n ∷ ns) r h = groups-bytes n (write_numbers ns r) (numbers-bytes ns r h)
