-- The masks of a vertex and of a key are their runs: every case computed, over the two values of a flag, the sets and the set size.
use Prim.Native.Nat.{ℕ, zero, suc, ◌+◌, ◌-◌, ◌*◌, ◌/◌, ◌%◌, ◌<◌, ◌≤◌}
use native.Mathlib.Omega.{arith}
use mathlib.Core.Path.{◌≡◌, refl, ap, ap₂, sym, ◌∙◌}
use mathlib.Core.Bool.{Bool, true, false, ◌&&◌}
use mathlib.Core.List.{List, [], ◌∷◌}
use lib.ListN.{length, replicate, length-append, length-replicate}
use lib.Dec.{T, ltb, eqb}
use borrow.Author.Tests.{lt-ltb, le-ltb, ltb-true, ltb-false}
use Rattle.wire.specs.Test.{if}
use Rattle.b3d_spec.specs.Mask.{mask, vertex_has, vertex_mask, key_has, key_mask}
use Rattle.b3d_spec.proofs.Rows.MaskLaws.{below, below_at, mask-same}
use Rattle.b3d_rule_row_masks.specs.declared.RowRuns.{RowRuns}
use Rattle.b3d_rule_row_masks.specs.Runs.{run, set_runs, run_mask, width, Short, OfKey, OfVertex, vertex_runs, key_runs, least_of}

alike : List Bool → List Bool → Bool
alike [] [] = true
alike [] (x ∷ l) = false
alike (x ∷ k) [] = false
alike (true ∷ k) (true ∷ l) = alike k l
alike (true ∷ k) (false ∷ l) = false
alike (false ∷ k) (true ∷ l) = false
alike (false ∷ k) (false ∷ l) = alike k l

alike_same : (k l : List Bool) → T (alike k l) → k ≡ l
unfolding alike
alike_same [] [] h = refl
alike_same [] (x ∷ l) h = absurd h
alike_same (x ∷ k) [] h = absurd h
alike_same (true ∷ k) (true ∷ l) h = ap (λ (m : List Bool). true ∷ m) (alike_same k l h)
alike_same (true ∷ k) (false ∷ l) h = absurd h
alike_same (false ∷ k) (true ∷ l) h = absurd h
alike_same (false ∷ k) (false ∷ l) h = ap (λ (m : List Bool). false ∷ m) (alike_same k l h)

-- ---- a vertex

-- the mask and the runs by the two flags
unfoldable vertex_bit : ℕ → ℕ → ℕ → ℕ → ℕ → Bool
vertex_bit x y n z w = if (ltb w 3) true (if (ltb w 6) (eqb x 1) (if (ltb w 10) (eqb y 1) (ltb ((w - 10) / 4) n && ltb ((w - 10) % 4) z)))

unfoldable vertex_bits : ℕ → ℕ → ℕ → ℕ → RowRuns
vertex_bits x y n z = record { head = 3; three = x * 3; wide = 4; some = y * 4; sets = n; size = z; rest = 4 * (8 - n) }

abbrev vertex_test : ℕ → ℕ → ℕ → ℕ → Bool
vertex_test x y n z = alike (mask (vertex_bit x y n z) 42 0) (run_mask (vertex_bits x y n z))

every-vertex : T (below 2 (λ x. below 2 (λ y. below 9 (λ n. below 5 (λ z. vertex_test x y n z)))))
unfolding below alike mask vertex_bit if vertex_bits run_mask run set_runs
every-vertex = tt

vertex-bits : (x y n z : ℕ) → x < 2 → y < 2 → n < 9 → z < 5 → mask (vertex_bit x y n z) 42 0 ≡ run_mask (vertex_bits x y n z)
vertex-bits x y n z hx hy hn hz =
    let a = below_at 2 (λ x. below 2 (λ y. below 9 (λ n. below 5 (λ z. vertex_test x y n z)))) x every-vertex hx in
    let b = below_at 2 (λ y. below 9 (λ n. below 5 (λ z. vertex_test x y n z))) y a hy in
    let c = below_at 9 (λ n. below 5 (λ z. vertex_test x y n z)) n b hn in
    alike_same (mask (vertex_bit x y n z) 42 0) (run_mask (vertex_bits x y n z)) (below_at 5 (λ z. vertex_test x y n z) z c hz)

-- more sets than eight, or more words than four, make no difference
module _ (m n : ℕ) where
  pub most-low : least_of m n ≤ m
  unfolding least_of if
  most-low = by (ltb n m) refl
    where
      by : (b : Bool) → ltb n m ≡ b → if b n m ≤ m
      by true e = omega (arith, ltb-true n m e)
      by false e = omega arith

  pub most-same : n ≤ m → least_of m n ≡ n
  unfolding least_of if
  most-same h = by (ltb n m) refl
    where
      by : (b : Bool) → ltb n m ≡ b → if b n m ≡ n
      by true e = refl
      by false e = omega (arith, ltb-false n m e)

  pub most-first : (r : ℕ) → n < m → r ≡ n → r ≡ least_of m n
  most-first r h e = e ∙ sym (most-same (omega arith))

  pub most-last : (r : ℕ) → m ≤ n → r ≡ m → r ≡ least_of m n
  unfolding least_of if
  most-last r h e = rw (le-ltb n m h) e

  below-most : (j : ℕ) → j < m → ltb j n ≡ ltb j (least_of m n)
  unfolding least_of if
  below-most j h = by (ltb n m) refl
    where
      by : (b : Bool) → ltb n m ≡ b → ltb j n ≡ ltb j (if b n m)
      by true e = refl
      by false e = lt-ltb j n (omega (arith, ltb-false n m e)) ∙ sym (lt-ltb j m h)

vertex-most : (f n z : ℕ) → vertex_mask f n z ≡ vertex_mask f (least_of 8 n) (least_of 4 z)
unfolding vertex_mask vertex_has
vertex-most f n z =
    mask-same (vertex_has f n z) (vertex_has f (least_of 8 n) (least_of 4 z)) 42 0
    (λ w h. ap₂ (λ (p q : Bool). if (ltb w 3) true (if (ltb w 6) (eqb (f % 2) 1) (if (ltb w 10) (eqb (f / 2 % 2) 1) (p && q))))
    (below-most 8 n ((w - 10) / 4) (omega arith)) (below-most 4 z ((w - 10) % 4) (omega arith)))

pub vertex-mask : (f n z : ℕ) → vertex_mask f n z ≡ run_mask (vertex_runs f n z)
unfolding vertex_mask vertex_has vertex_bit vertex_bits vertex_runs
vertex-mask f n z =
    vertex-most f n z
    ∙ vertex-bits (f % 2) (f / 2 % 2) (least_of 8 n) (least_of 4 z) (omega arith) (omega arith) (omega (arith, most-low 8 n)) (omega (arith, most-low 4 z))

pub vertex-short : (f n z : ℕ) → Short (vertex_runs f n z)
unfolding vertex_runs
vertex-short f n z =
    let k = most-low 8 n in
    record {
      head = omega arith;
      three = omega arith;
      some = omega arith;
      wide = omega arith;
      sets = most-low 8 n;
      size = most-low 4 z;
      rest = omega arith;
    }

pub vertex-width : (f n z : ℕ) → width (vertex_runs f n z) ≡ 42
unfolding vertex_runs width
vertex-width f n z = omega (arith, most-low 8 n)

-- ---- a key

unfoldable key_bit : ℕ → ℕ → ℕ → ℕ → Bool
key_bit x y z w = if (ltb w 1) true (if (ltb w 4) (eqb x 1) (if (ltb w 7) (eqb y 1) (eqb z 1)))

unfoldable key_bits : ℕ → ℕ → ℕ → RowRuns
key_bits x y z = record { head = 1; three = x * 3; wide = 3; some = y * 3; sets = 1; size = z * 4; rest = 0 }

abbrev key_test : ℕ → ℕ → ℕ → Bool
key_test x y z = alike (mask (key_bit x y z) 11 0) (run_mask (key_bits x y z))

every-key : T (below 2 (λ x. below 2 (λ y. below 2 (λ z. key_test x y z))))
unfolding below alike mask key_bit if key_bits run_mask run set_runs
every-key = tt

key-bits : (x y z : ℕ) → x < 2 → y < 2 → z < 2 → mask (key_bit x y z) 11 0 ≡ run_mask (key_bits x y z)
key-bits x y z hx hy hz =
    let a = below_at 2 (λ x. below 2 (λ y. below 2 (λ z. key_test x y z))) x every-key hx in
    let b = below_at 2 (λ y. below 2 (λ z. key_test x y z)) y a hy in
    alike_same (mask (key_bit x y z) 11 0) (run_mask (key_bits x y z)) (below_at 2 (λ z. key_test x y z) z b hz)

pub key-mask : (f : ℕ) → key_mask f ≡ run_mask (key_runs f)
unfolding key_mask key_has key_bit key_bits key_runs
key-mask f = key-bits (f % 2) (f / 2 % 2) (f / 4 % 2) (omega arith) (omega arith) (omega arith)

pub key-short : (f : ℕ) → Short (key_runs f)
unfolding key_runs
key-short f = record {
  head = omega arith;
  three = omega arith;
  some = omega arith;
  wide = omega arith;
  sets = omega arith;
  size = omega arith;
  rest = omega arith;
}

pub key-width : (f : ℕ) → width (key_runs f) ≡ 11
unfolding key_runs width
key-width f = refl

-- ---- as the code makes them

pub most-below : (m n r : ℕ) → r ≡ least_of m n → r ≤ m
most-below m n r e = rw e (most-low m n)

pub vertex_made : (f n z a b k s : ℕ) → a ≡ f % 2 * 3 → b ≡ f / 2 % 2 * 4 → k ≡ least_of 8 n → s ≡ least_of 4 z
    → (x : RowRuns) → x ≡ record { head = 3; three = a; wide = 4; some = b; sets = k; size = s; rest = 4 * (8 - k) } → x ≡ vertex_runs f n z
unfolding vertex_runs
vertex_made f n z a b k s ea eb ek es x e = e ∙ rw (ea, eb, ek, es)

pub key_made : (f a b c : ℕ) → a ≡ f % 2 * 3 → b ≡ f / 2 % 2 * 3 → c ≡ f / 4 % 2 * 4
    → (x : RowRuns) → x ≡ record { head = 1; three = a; wide = 3; some = b; sets = 1; size = c; rest = 0 } → x ≡ key_runs f
unfolding key_runs
key_made f a b c ea eb ec x e = e ∙ rw (ea, eb, ec)

pub ruleset made_laws = (most-first, most-last, most-below, vertex_made, key_made)

-- ---- what is known of runs that a function was given

module _ (f n z : ℕ) (g : RowRuns) (e : g ≡ vertex_runs f n z) where
  pub vertex-is : vertex_mask f n z ≡ run_mask g
  vertex-is = rw e (vertex-mask f n z)

  pub vertex-fits : Short g
  vertex-fits = rw e (vertex-short f n z)

  pub vertex-wide : OfVertex g
  unfolding vertex_runs
  vertex-wide = rw e (record { head = refl; wide = refl; sets = omega (arith, most-low 8 n) })

  pub vertex-cells : width g ≡ 42
  vertex-cells = rw e (vertex-width f n z)

module _ (f : ℕ) (g : RowRuns) (e : g ≡ key_runs f) where
  pub key-is : key_mask f ≡ run_mask g
  key-is = rw e (key-mask f)

  pub key_fits : Short g
  key_fits = rw e (key-short f)

  pub key-wide : OfKey g
  unfolding key_runs
  key-wide = rw e (record { head = refl; wide = refl; sets = refl; rest = refl })

  pub key-cells : width g ≡ 11
  key-cells = rw e (key-width f)

pub ruleset known_runs = (vertex-is, vertex-fits, vertex-wide, vertex-cells, key-is, key_fits, key-wide, key-cells)

-- ---- how long a mask is

run_length : (n k : ℕ) (m : List Bool) → length (run n k m) ≡ n + k + length m
unfolding run
run_length n k m = simp (length-append, length-replicate) (omega arith)

sets-length : (n size : ℕ) (m : List Bool) → size ≤ 4 → length (set_runs n size m) ≡ 4 * n + length m
unfolding set_runs
sets-length zero size m h = omega arith
sets-length (suc n) size m h = omega (arith, run_length size (4 - size) (set_runs n size m), sets-length n size m h)

pub mask-width : (g : RowRuns) → Short g → length (run_mask g) ≡ width g
unfolding run_mask width
mask-width g h =
    let l = replicate g.rest false in
    let e₄ = sets-length g.sets g.size l h.size in
    let e₃ = run_length g.some (g.wide - g.some) (set_runs g.sets g.size l) in
    let e₂ = run_length g.three (3 - g.three) (run g.some (g.wide - g.some) (set_runs g.sets g.size l)) in
    let e₁ = run_length g.head 0 (run g.three (3 - g.three) (run g.some (g.wide - g.some) (set_runs g.sets g.size l))) in
    omega (arith, h.three, h.some, length-replicate g.rest false)
