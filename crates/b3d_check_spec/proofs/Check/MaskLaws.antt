-- Rows by a mask: where the cells that it leaves out are 0, the row is that of the words that are there.
use mathlib.Core.Path.{◌≡◌, refl, ap, ap₂, sym, subst}
use Prim.Native.Nat.{ℕ, suc}
use native.Mathlib.Nat.{suc_inj, suc-ne-zero}
use mathlib.Core.Bool.{Bool, true, false}
use mathlib.Core.List.{List, [], ◌∷◌, map}
use lib.ListN.{length, replicate}
use lib.Dec.{leb→le}
use Rattle.layout.specs.WellFormed.{all}
use Rattle.layout.specs.Rules.{any}
use Rattle.layout.proofs.WellFormedLaws.{Fits}
use Rattle.layout.proofs.AllLaws.{All, all_map, all_of_map, map_back, cons_head, cons_tail}
use Rattle.layout.proofs.TestLaws.{Tests, both, via, eq_is}
use Rattle.b3d_spec.specs.Mask.{ones, padded, present_words, vertex_has, vertex_mask, key_has, key_mask}
use Rattle.b3d_spec.specs.declared.Mode.TheVariants.{Lenient}
use Rattle.b3d_spec.specs.Rules.{vertices_head, vertex_row, vertex_words, keys_head, key_row, key_words}
use Rattle.b3d_spec.proofs.Rows.MaskLaws.{mask-length, vertex-words, key-words}
use Rattle.b3d_check_spec.specs.Check.{clean}
use Rattle.b3d_check_spec.proofs.Check.TestLaws.{yes-if, all-on}
use Rattle.b3d_check_spec.proofs.Check.RowLaws.{Full, any-fits}

clean_is : (m : List Bool) (r : List ℕ) → length r ≡ length m → Tests (clean m r) (padded m (present_words m r) ≡ r)
unfolding clean padded present_words
clean_is [] [] e = yes-if refl
clean_is [] (x ∷ r) e = absurd (suc-ne-zero (length r) e)
clean_is (b ∷ m) [] e = absurd (suc-ne-zero (length m) (sym e))
clean_is (true ∷ m) (x ∷ r) e = via (λ h. ap (λ (l : List ℕ). x ∷ l) h) (λ h. cons_tail h) (clean_is m r (suc_inj e))
clean_is (false ∷ m) (x ∷ r) e = via (λ h. ap₂ ◌∷◌ (sym h.0) h.1) (λ h. (sym (cons_head h), cons_tail h)) (both (eq_is x 0) (clean_is m r (suc_inj e)))

squeeze_full : (m : List Bool) (r : List ℕ) → Full (length m) r → Full (ones m) (present_words m r)
unfolding present_words ones
squeeze_full [] r f = (refl, tt)
squeeze_full (b ∷ m) [] f = absurd (suc-ne-zero (length m) (sym f.0))
squeeze_full (true ∷ m) (x ∷ r) f = let g = squeeze_full m r (suc_inj f.0, f.1.1) in (ap suc g.0, (f.1.0, g.1))
squeeze_full (false ∷ m) (x ∷ r) f = squeeze_full m r (suc_inj f.0, f.1.1)

map_same : {A : Type 0} (f g : A → A) (xs : List A) → map f (map g xs) ≡ xs → All (λ x. f (g x) ≡ x) xs
map_same f g [] e = tt
map_same f g (x ∷ xs) e = (cons_head e, map_same f g xs (cons_tail e))

module _ (m : List Bool) (w : ℕ) (wide : length m ≡ w) (l : List (List ℕ)) (full : All (Full w) l) where
  known : All (Full (length m)) l
  known = subst (λ (k : ℕ). All (Full k) l) (sym wide) full

  -- rows are clean just where they are those of the words that are there
  pub masked_is : Tests (all (clean m) l) (map (padded m) (map (present_words m) l) ≡ l)
  masked_is = via (map_back (present_words m) (padded m) l) (map_same (padded m) (present_words m) l) (all-on (Full (length m)) (λ r f. clean_is m r f.0) l known)

  -- and these are so many words
  masked_fit : (n : ℕ) → ones m ≡ n → All (Fits (replicate n any)) (map (present_words m) l)
  masked_fit n e =
      subst (λ (k : ℕ). All (Fits (replicate k any)) (map (present_words m) l)) e
      (all_of_map (Fits (replicate (ones m) any)) (present_words m) l (all_map (Full (length m)) _ (λ r f. any-fits (ones m) (present_words m r) (squeeze_full m r f)) l known))

-- ---- vertices and keys

pub vertex-wide : (f s z : ℕ) → length (vertex_mask f s z) ≡ 42
unfolding vertex_mask
vertex-wide f s z = mask-length (vertex_has f s z) 42 0

pub key-wide : (f : ℕ) → length (key_mask f) ≡ 11
unfolding key_mask
key-wide f = mask-length (key_has f) 11 0

pub vertices-fit : (f s z : ℕ) (l : List (List ℕ)) → All (Full 42) l → Fits vertices_head (f ∷ s ∷ z ∷ []) → All (Fits (vertex_row Lenient f s z)) (map (present_words (vertex_mask f s z)) l)
vertices-fit f s z l w h =
    masked_fit (vertex_mask f s z) 42 (vertex-wide f s z) l w (vertex_words f s z) (vertex-words f s z (leb→le _ _ h.1) (leb→le _ _ h.2.1) (leb→le _ _ h.2.2.1))

pub keys-fit : (f : ℕ) (l : List (List ℕ)) → All (Full 11) l → Fits keys_head (f ∷ []) → All (Fits (key_row f)) (map (present_words (key_mask f)) l)
keys-fit f l w h = masked_fit (key_mask f) 11 (key-wide f) l w (key_words f) (key-words f (leb→le _ _ h.1))
