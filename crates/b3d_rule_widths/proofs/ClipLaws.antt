-- A vertex has no more than 8 sets of 4 numbers: larger numbers give the same mask.
use mathlib.Core.Path.{◌≡◌, refl}
use Prim.Native.Nat.{ℕ, zero, suc, ◌+◌, ◌-◌, ◌*◌, ◌/◌, ◌%◌, ◌<◌, ◌≤◌}
use native.Mathlib.Omega.{arith}
use mathlib.Core.Bool.{Bool, true, false}
use lib.Dec.{T, ltb, ltb→lt, lt→ltb, leb, leb→le, nleb→lt}
use Rattle.layout.proofs.ResultLaws.{by_test}
use Rattle.b3d_spec.specs.Mask.{vertex_has, vertex_mask}
use Rattle.b3d_spec.proofs.Rows.MaskLaws.{mask-same}
use Rattle.b3d_rule_widths.specs.Widths.{Clipped}

both : (a b : Bool) → (T a → T b) → (T b → T a) → a ≡ b
both true true f g = refl
both true false f g = absurd (f tt)
both false true f g = absurd (g tt)
both false false f g = refl

-- below the most nothing changes
clip_test : (i x most r : ℕ) → i < most → Clipped x most r → ltb i x ≡ ltb i r
clip_test i x most r h c =
    both (ltb i x) (ltb i r)
    (λ t. lt→ltb i r (by_test (leb x most) (λ k. omega (arith, ltb→lt i x t, c.same (leb→le x most k))) (λ k. let m : most ≤ x = omega (arith, nleb→lt x most k) in omega (arith, c.top m))))
    (λ t. lt→ltb i x (by_test (leb x most) (λ k. omega (arith, ltb→lt i r t, c.same (leb→le x most k))) (λ k. omega (arith, nleb→lt x most k))))

parity : (x c i j : ℕ) → x < 2 → c < 2 → 2 * i + x ≡ 2 * j + c → x ≡ c
parity zero zero i j h k e = refl
parity zero (suc zero) i j h k e = absurd (omega arith)
parity zero (suc (suc c)) i j h k e = absurd (omega arith)
parity (suc zero) zero i j h k e = absurd (omega arith)
parity (suc zero) (suc zero) i j h k e = refl
parity (suc zero) (suc (suc c)) i j h k e = absurd (omega arith)
parity (suc (suc x)) c i j h k e = absurd (omega arith)

low : (f : ℕ) → f % 2 ≡ f % 4 % 2
low f = parity (f % 2) (f % 4 % 2) (f / 2) (2 * (f / 4) + f % 4 / 2) (omega arith) (omega arith) (omega arith)

high : (f : ℕ) → f / 2 % 2 ≡ f % 4 / 2 % 2
high f = parity (f / 2 % 2) (f % 4 / 2 % 2) (f / 2 / 2) (f / 4 + f % 4 / 2 / 2) (omega arith) (omega arith) (omega (arith, low f))

module _ (f n z m k : ℕ) (cn : Clipped n 8 m) (cz : Clipped z 4 k) where
  has_same : (w : ℕ) → w < 42 → vertex_has f n z w ≡ vertex_has (f % 4) m k w
  unfolding vertex_has
  has_same w h =
      let a = low f in
      let b = high f in
      let p = clip_test ((w - 10) / 4) n 8 m (omega arith) cn in
      let q = clip_test ((w - 10) % 4) z 4 k (omega arith) cz in
      rw (a, b, p, q)

  pub mask_clipped : vertex_mask f n z ≡ vertex_mask (f % 4) m k
  unfolding vertex_mask
  mask_clipped = mask-same (vertex_has f n z) (vertex_has (f % 4) m k) 42 0 (λ i h. has_same i (omega arith))
