-- What is put of a BRUS.
use Rattle.std.specs.Prelude.{Some, None}
use Rattle.std.specs.Prelude as std
use mathlib.Core.Path.{◌≡◌, ap, ◌∙◌}
use Prim.Native.Nat.{ℕ, ◌+◌, ◌<◌, ◌≤◌}
use native.Mathlib.Omega.{arith}
use mathlib.Core.Bool.{Bool}
use mathlib.Core.List.{List, [], ◌∷◌, ◌++◌}
use lib.ListN.{length, take, drop, length-take, length-drop}
use Rattle.wire.specs.Bytes.{bytes, AllBytes}
use Rattle.wire.specs.Cursors.{Inside, left, number_at}
use Rattle.wire.specs.declared.Cursor.{Cursor}
use Rattle.layout.specs.Rules.{up_to}
use Rattle.shared_output.proofs.PartLaws.{Both}
use Rattle.b3d_spec_chunk_places.specs.Places.{Body}
use Rattle.b3d_spec_chunk_places.proofs.HeadLaws.{body-inside, head_cut, head-numbered, head_over, head-within}
use Rattle.b3d_mend_spec.specs.Edits.{keep, was}
use Rattle.b3d_mend_spec.specs.Walks.{brus_of, brus_edits}
use Rattle.shared_put_or_count.specs.Emits.{RoomFrom, Emits}
use Rattle.b3d_mend_write_spec.specs.Shown.{shown}
use Rattle.shared_put_or_count.proofs.PutLaws.{emits_none, fits-first, fits-second, emits_both}
use Rattle.b3d_mend_write_spec.proofs.ShowsLaws.{shown-none, shown-cons}
use Rattle.b3d_mend_write_edits.proofs.SliceLaws.{word_slice}
use Rattle.b3d_mend_write_brushes.specs.Lists.{brushes_at}

module _ (s : List ℕ) (p : ℕ) (b : Cursor) (body : Body p b (length s)) (h : AllBytes s) (textures : ℕ) (r : std.Option (ℕ × Cursor)) (e : r ≡ number_at s b) (report wet : Bool) (xs : List ℕ) (at : ℕ) where
  abbrev All : List ℕ
  All = shown report b.at (brus_edits textures p (left b s))

  none : brus_edits textures p (left b s) ≡ [] → Emits wet All xs at xs at
  none q = emits_none wet All xs at (ap (shown report b.at) q ∙ shown-none report b.at)

  pub brus_cut : r ≡ None → Emits wet All xs at xs at
  unfolding brus_edits brus_of
  brus_cut w = none (rw (head_cut s p b body r e (up_to 8) w))

  module _ (k : ℕ) (c : Cursor) (w : r ≡ Some (k, c)) where
    pub brus_over : 8 < k → Emits wet All xs at xs at
    unfolding brus_edits brus_of
    brus_over q = none (rw (head_over s p b body r e k c w 8 q))

    pub brus_four : b.at + 4 ≤ length s
    brus_four = let f = head-numbered s p b body r e k c w in omega (arith, body.within)

    pub brus_inside : Inside c (length s)
    brus_inside = let f = head-numbered s p b body r e k c w in record { before = omega arith; within = omega (arith, body.within) }

    pub brus_small : length s < 4294967296
    brus_small = omega (arith, body.small)

    module _ (few : k ≤ 8) (n : ℕ) (en : n ≡ k) where
      first : bytes k [] ≡ take 4 (drop b.at s)
      first = let f = head-numbered s p b body r e k c w in ap (λ (v : ℕ). bytes v []) f.is ∙ word_slice s b.at h brus_four

      opened : brus_edits textures p (left b s) ≡ keep (take 4 (drop b.at s)) ∷ brushes_at n textures s c
      unfolding brus_edits brus_of brushes_at
      opened = rw (head-within s p b body r e k c w 8 few, en) (ap (λ (l : List ℕ). keep l ∷ brushes_at k textures s c) first)

      two : Both All (shown report b.at (keep (take 4 (drop b.at s)) ∷ [])) (shown report c.at (brushes_at n textures s c))
      unfolding was
      two =
          let f = head-numbered s p b body r e k c w in
          let l : length (take 4 (drop b.at s)) ≡ 4 = simp (length-take, length-drop) (omega (arith, brus_four)) in
          let q : b.at + length (take 4 (drop b.at s)) ≡ c.at = omega arith in
          record {
            is =
                ap (shown report b.at) opened ∙ (shown-cons report b.at (keep (take 4 (drop b.at s))) (brushes_at n textures s c)).is
                ∙ ap (λ (m : ℕ). shown report b.at (keep (take 4 (drop b.at s)) ∷ []) ++ shown report m (brushes_at n textures s c)) q;
          }

      module _ (g : RoomFrom wet All at xs) where
        pub brus_first : RoomFrom wet (shown report b.at (keep (take 4 (drop b.at s)) ∷ [])) at xs
        brus_first = fits-first two wet xs at g

        module _ (ys : List ℕ) (m : ℕ) (x : Emits wet (shown report b.at (keep (take 4 (drop b.at s)) ∷ [])) xs at ys m) where
          pub brus_second : RoomFrom wet (shown report c.at (brushes_at n textures s c)) m ys
          brus_second = fits-second two wet xs at ys m x g

          pub brus_done : (zs : List ℕ) (o : ℕ) → Emits wet (shown report c.at (brushes_at n textures s c)) ys m zs o → Emits wet All xs at zs o
          brus_done zs o y = emits_both two wet xs at ys m x zs o y

pub brus_body : (s : List ℕ) (p : ℕ) (b : Cursor) → Body p b (length s) → Inside b (length s)
brus_body s p b body = body-inside s p b body

pub ruleset brus_laws = (brus_cut, brus_over, brus_four, brus_inside, brus_small, brus_first, brus_second, brus_done, brus_body)
