-- Rows by a mask of runs are made run by run.
use Prim.Native.Nat.{ℕ, zero, suc, ◌+◌, ◌-◌, ◌*◌, ◌≤◌}
use native.Mathlib.Nat.{suc-mul}
use native.Mathlib.Omega.{arith}
use mathlib.Core.Path.{◌≡◌, refl, ap, ap₂, sym, ◌∙◌}
use mathlib.Core.Bool.{Bool, false}
use mathlib.Core.List.{List, ◌∷◌, ◌++◌, map}
use lib.ListN.{length, replicate}
use Rattle.wire.specs.Bytes.{word_at}
use Rattle.wire.specs.Cursors.{Inside, left}
use Rattle.wire.specs.declared.Cursor.{Cursor}
use Rattle.wire.proofs.LeftLaws.{span, left-drop}
use Rattle.layout.specs.Parts.{items_of}
use Rattle.b3d_spec.specs.Mask.{ones, padded}
use Rattle.layout.specs.Rows.{joined}
use Rattle.b3d_rule_row_masks.specs.Runs.{run}
use Rattle.shared_table_words.specs.Words.{words_at}
use Rattle.shared_table_words.proofs.CopyLaws.{words-at}
use Rattle.b3d_read_row_runs.specs.Pieces.{piece_at, parts_at, rows_at}

-- ---- a row by runs

pub ones-run : (n m : ℕ) (l : List Bool) → ones (run n m l) ≡ n + ones l
unfolding run ones
ones-run zero zero l = omega arith
ones-run zero (suc m) l = ones-run zero m l
ones-run (suc n) m l = let e = ones-run n m l in omega arith

spread_off : (m : ℕ) (l : List Bool) (ws : List ℕ) → padded (replicate m false ++ l) ws ≡ replicate m 0 ++ padded l ws
unfolding padded
spread_off zero l ws = refl
spread_off (suc m) l ws = ap (λ (r : List ℕ). 0 ∷ r) (spread_off m l ws)

pub spread_run : (n m k : ℕ) (l : List Bool) (s : List ℕ) (p : ℕ) → padded (run n m l) (words_at (n + k) s p) ≡ piece_at n m s p ++ padded l (words_at k s (p + 4 * n))
unfolding padded run words_at piece_at
spread_run zero m k l s p =
    let e : zero + k ≡ k = omega arith in
    let f : p + 4 * 0 ≡ p = omega arith in
    rw (e, f) (spread_off m l (words_at k s p))
spread_run (suc n) m k l s p =
    let e : suc n + k ≡ suc (n + k) = omega arith in
    let f : p + 4 * suc n ≡ p + 4 + 4 * n = omega arith in
    rw (e, f) (ap (λ (r : List ℕ). word_at s p ∷ r) (spread_run n m k l s (p + 4)))

-- l: the runs of what comes last, which has w words
module _ (h a wide b w : ℕ) (l : List Bool) (last : List ℕ → ℕ → List ℕ) where
  abbrev back : List Bool
  back = run b (wide - b) l

  abbrev mid : List Bool
  mid = run a (3 - a) back

  pub ones-parts : ones (run h 0 mid) ≡ h + a + b + ones l
  ones-parts = omega (arith, ones-run h 0 mid, ones-run a (3 - a) back, ones-run b (wide - b) l)

  pub spread_parts : ((s : List ℕ) (p : ℕ) → padded l (words_at w s p) ≡ last s p) → (s : List ℕ) (p : ℕ) → padded (run h 0 mid) (words_at (h + a + b + w) s p) ≡ parts_at h a wide b last s p
  unfolding parts_at
  spread_parts z s p =
      let e : h + a + b + w ≡ h + (a + (b + w)) = omega arith in
      rw e
      (spread_run h 0 (a + (b + w)) mid s p
      ∙ ap (λ (r : List ℕ). piece_at h 0 s p ++ r)
      (spread_run a (3 - a) (b + w) back s (p + 4 * h)
      ∙ ap (λ (r : List ℕ). piece_at a (3 - a) s (p + 4 * h) ++ r)
      (spread_run b (wide - b) w l s (p + 4 * h + 4 * a) ∙ ap (λ (r : List ℕ). piece_at b (wide - b) s (p + 4 * h + 4 * a) ++ r) (z s (p + 4 * h + 4 * a + 4 * b)))))

-- ---- rows by a mask, one after the other

-- a mask that has w words, and the row that it makes of those from a place on
pub record Makes (m : List Bool) (w : ℕ) (row : List ℕ → ℕ → List ℕ) : Type 0 where
  pub many : ones m ≡ w
  pub is : (s : List ℕ) (p : ℕ) → padded m (words_at w s p) ≡ row s p

module _ (m : List Bool) (w : ℕ) (row : List ℕ → ℕ → List ℕ) (k : Makes m w row) (s : List ℕ) where
  pub rows_are : (count : ℕ) (c : Cursor) → Inside c (length s) → c.at + count * (4 * w) ≤ c.end → joined (map (padded m) (items_of count w (left c s))) ≡ rows_at row w count s c.at
  unfolding joined rows_at
  rows_are zero c i h = refl
  rows_are (suc count) c i h =
      let j = suc-mul count (4 * w) in
      let d = span (c.at + 4 * w) c.end in
      ap₂ ◌++◌ (ap (padded m) (words-at w s c i (omega arith)) ∙ k.is s c.at)
      (ap (λ (l : List ℕ). joined (map (padded m) (items_of count w l))) (sym (left-drop s c (4 * w) d refl refl))
      ∙ rows_are count d (record { before = omega arith; within = i.within }) (omega arith))
