-- The laws of masks: widths, and that a row spread by a mask is squeezed again.
use mathlib.Core.Path.{◌≡◌, refl, ap, ap₂, sym, subst}
use mathlib.Core.Logic.{◌≢◌}
use Prim.Native.Nat.{ℕ, zero, suc, ◌+◌, ◌≤◌, ◌<◌}
use native.Mathlib.Nat.{suc_inj, suc-ne-zero}
use native.Mathlib.Omega.{arith}
use mathlib.Core.Bool.{Bool, true, false, ◌&&◌}
use mathlib.Core.List.{List, [], ◌∷◌}
use lib.ListN.{length}
use lib.Dec.{T, eqb, eqb→eq}
use mir.Facts.{and_yes, eqb_no}
use Rattle.wire.specs.Test.{if}
use Rattle.layout.proofs.ResultLaws.{by_test}
use Rattle.b3d_spec.specs.Rules.{vertex_words, key_words}
use Rattle.b3d_spec.specs.Mask.{mask, ones, padded, present_words, vertex_has, vertex_mask, key_has, key_mask}

pub mask-length : (f : ℕ → Bool) (n w : ℕ) → length (mask f n w) ≡ n
unfolding mask
mask-length f zero w = refl
mask-length f (suc n) w = ap suc (mask-length f n (w + 1))

pub mask-same : (f g : ℕ → Bool) (k w : ℕ) → ((j : ℕ) → j < w + k → f j ≡ g j) → mask f k w ≡ mask g k w
unfolding mask
mask-same f g zero w h = refl
mask-same f g (suc k) w h = ap₂ ◌∷◌ (h w (omega arith)) (mask-same f g k (w + 1) (λ j l. h j (omega arith)))

pub spread_length : (m : List Bool) (ws : List ℕ) → length (padded m ws) ≡ length m
unfolding padded
spread_length [] ws = refl
spread_length (true ∷ m) [] = ap suc (spread_length m [])
spread_length (true ∷ m) (w ∷ ws) = ap suc (spread_length m ws)
spread_length (false ∷ m) ws = ap suc (spread_length m ws)

pub squeeze_spread : (m : List Bool) (ws : List ℕ) → length ws ≡ ones m → present_words m (padded m ws) ≡ ws
unfolding present_words padded ones
squeeze_spread [] [] e = refl
squeeze_spread [] (w ∷ ws) e = absurd (suc-ne-zero (length ws) e)
squeeze_spread (true ∷ m) [] e = absurd (suc-ne-zero (ones m) (sym e))
squeeze_spread (true ∷ m) (w ∷ ws) e = ap (λ (r : List ℕ). w ∷ r) (squeeze_spread m ws (suc_inj e))
squeeze_spread (false ∷ m) ws e = squeeze_spread m ws e

-- ---- how many words a mask has for a vertex and for a key: every case computed

unfoldable pub below : ℕ → (ℕ → Bool) → Bool
below zero f = true
below (suc n) f = f n && below n f

pub below_at : (n : ℕ) (f : ℕ → Bool) (k : ℕ) → T (below n f) → k < n → T (f k)
unfolding below
below_at zero f k h l = absurd (omega arith)
below_at (suc n) f k h l =
    let (a, b) = and_yes (f n) (below n f) h in
    by_test (eqb k n) (λ e. subst (λ (j : ℕ). T (f j)) (sym (eqb→eq k n e)) a) (λ e. let d : k ≢ n = eqb_no e in below_at n f k b (omega arith))

vertex-all : T (below 4 (λ f. below 9 (λ s. below 5 (λ z. eqb (ones (vertex_mask f s z)) (vertex_words f s z)))))
unfolding below ones vertex_mask mask vertex_has if vertex_words
vertex-all = tt

key-all : T (below 8 (λ f. eqb (ones (key_mask f)) (key_words f)))
unfolding below ones key_mask mask key_has if key_words
key-all = tt

pub vertex-words : (f s z : ℕ) → f ≤ 3 → s ≤ 8 → z ≤ 4 → ones (vertex_mask f s z) ≡ vertex_words f s z
vertex-words f s z hf hs hz =
    let a = below_at 4 (λ x. below 9 (λ y. below 5 (λ w. eqb (ones (vertex_mask x y w)) (vertex_words x y w)))) f vertex-all (omega arith) in
    let b = below_at 9 (λ y. below 5 (λ w. eqb (ones (vertex_mask f y w)) (vertex_words f y w))) s a (omega arith) in
    eqb→eq (ones (vertex_mask f s z)) (vertex_words f s z) (below_at 5 (λ w. eqb (ones (vertex_mask f s w)) (vertex_words f s w)) z b (omega arith))

pub key-words : (f : ℕ) → f ≤ 7 → ones (key_mask f) ≡ key_words f
key-words f h = eqb→eq (ones (key_mask f)) (key_words f) (below_at 8 (λ x. eqb (ones (key_mask x)) (key_words x)) f key-all (omega arith))
