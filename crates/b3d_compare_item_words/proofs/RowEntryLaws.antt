-- The entries of two rows are those of the words that are there: the others are 0 in both.
use mathlib.Core.Path.{◌≡◌, refl, ap, sym, ◌∙◌}
use Prim.Native.Nat.{ℕ, zero, suc, ◌+◌, ◌≤◌}
use native.Mathlib.Nat.{suc_inj, suc-ne-zero, add-zero}
use native.Mathlib.Omega.{arith}
use mathlib.Core.Bool.{Bool, true, false}
use mathlib.Core.List.{List, [], ◌∷◌, ◌++◌, append_assoc}
use lib.ListN.{length, get_or, drop}
use Rattle.shared_table_words.proofs.StoreLaws.{drop-next, drop-end}
use Rattle.wire.specs.Test.{if}
use Rattle.b3d_spec.specs.Mask.{mask, ones, padded, vertex_has, vertex_mask, key_has, key_mask}
use Rattle.b3d_spec.proofs.Rows.MaskLaws.{mask-length, mask-same, spread_length}
use Rattle.b3d_compare_spec.specs.Words.{word_kinds, words_of}
use Rattle.b3d_compare_spec.specs.Changes.{Change, row_changes}
use Rattle.b3d_compare_spec.proofs.WordLaws.{few_words}
use Rattle.b3d_compare_rows.specs.Rows.{word_entry}
use Rattle.b3d_compare_rows.proofs.RowLaws.{entry-none, plain_left, plain_step, plain_end, plain-high, row_plain}
use Rattle.b3d_compare_item_words.specs.ItemWords.{item_has, columns, ItemColumns, item_entries}

module _ (k r : ℕ) where
  -- the entries of two rows from word w on
  unfoldable row_entries : ℕ → List ℕ → List ℕ → List Change
  row_entries w [] ys = []
  row_entries w (x ∷ xs) [] = []
  row_entries w (x ∷ xs) (y ∷ ys) = word_entry k r w x y ++ row_entries (w + 1) xs ys

  module _ (h : 4 ≤ k) (x y : List ℕ) (lx : length x ≡ words_of k) (ly : length y ≡ words_of k) where
    entries_from : (n w : ℕ) → w + n ≡ words_of k → plain_left k r x y w ≡ row_entries w (drop w x) (drop w y)
    unfolding row_entries
    entries_from zero w e = plain_end k r x y w (omega arith) ∙ rw (drop-end x w (omega arith))
    entries_from (suc n) w e =
        plain_step k r x y 0 (plain-high k h) w (omega arith) (omega arith)
        ∙ ap (λ (l : List Change). word_entry k r w (get_or x w 0) (get_or y w 0) ++ l) (entries_from n (w + 1) (omega arith))
        ∙ sym (rw (drop-next x w 0 (omega arith), drop-next y w 0 (omega arith)))

    row-entries : (a b : List ℕ) → row_changes k a b r x y ≡ row_entries 0 x y
    row-entries a b = row_plain k r a b x y (plain-high k h) ∙ entries_from (words_of k) 0 (omega arith)

  -- words by a mask
  padded-entries : (m : List Bool) (w : ℕ) (rest xs ys : List ℕ) → length xs ≡ ones m → length ys ≡ ones m
      → row_entries w (padded m xs) (padded m ys) ≡ item_entries k r (columns w m ++ rest) xs ys
  unfolding row_entries padded columns item_entries ones
  padded-entries [] w [] [] ys ex ey = refl
  padded-entries [] w (c ∷ rest) [] ys ex ey = refl
  padded-entries [] w rest (x ∷ xs) ys ex ey = absurd (suc-ne-zero (length xs) ex)
  padded-entries (true ∷ m) w rest [] ys ex ey = absurd (suc-ne-zero (ones m) (sym ex))
  padded-entries (true ∷ m) w rest (x ∷ xs) [] ex ey = absurd (suc-ne-zero (ones m) (sym ey))
  padded-entries (true ∷ m) w rest (x ∷ xs) (y ∷ ys) ex ey =
      ap (λ (l : List Change). word_entry k r w x y ++ l) (padded-entries m (w + 1) rest xs ys (suc_inj ex) (suc_inj ey))
  padded-entries (false ∷ m) w rest xs ys ex ey =
      ap (λ (l : List Change). l ++ row_entries (w + 1) (padded m xs) (padded m ys)) (entry-none k r w 0 0 refl) ∙ padded-entries m (w + 1) rest xs ys ex ey

  -- words that are all there
  plain-entries : (f : ℕ → Bool) → ((w : ℕ) → f w ≡ true) → (n w : ℕ) (rest xs ys : List ℕ) → length xs ≤ n → length ys ≡ length xs
      → row_entries w xs ys ≡ item_entries k r (columns w (mask f n w) ++ rest) xs ys
  unfolding row_entries mask columns item_entries
  plain-entries f t zero w [] [] ys l e = refl
  plain-entries f t zero w (c ∷ rest) [] ys l e = refl
  plain-entries f t zero w rest (x ∷ xs) ys l e = absurd (omega arith)
  plain-entries f t (suc n) w rest [] ys l e = rw (t w)
  plain-entries f t (suc n) w rest (x ∷ xs) [] l e = absurd (suc-ne-zero (length xs) (sym e))
  plain-entries f t (suc n) w rest (x ∷ xs) (y ∷ ys) l e =
      rw (t w) (ap (λ (c : List Change). word_entry k r w x y ++ c) (plain-entries f t n (w + 1) rest xs ys (omega arith) (suc_inj e)))

-- a longer mask
columns-append : (m l : List Bool) (w : ℕ) → columns w (m ++ l) ≡ columns w m ++ columns (w + length m) l
unfolding columns
columns-append [] l w = rw (add-zero w)
columns-append (true ∷ m) l w = let z : w + 1 + length m ≡ w + suc (length m) = omega arith in rw (columns-append m l (w + 1), z)
columns-append (false ∷ m) l w = let z : w + 1 + length m ≡ w + suc (length m) = omega arith in rw (columns-append m l (w + 1), z)

mask_longer : (f : ℕ → Bool) (n m w : ℕ) → mask f (n + m) w ≡ mask f n w ++ mask f m (w + n)
unfolding mask
mask_longer f zero m w = let z : zero + m ≡ m = omega arith in rw (add-zero w, z)
mask_longer f (suc n) m w =
    let z : w + 1 + n ≡ w + suc n = omega arith in
    let y : suc n + m ≡ suc (n + m) = omega arith in
    rw (y, mask_longer f n m (w + 1), z)

-- ---- the entries of two rows, by the words of their items

module _ (k r : ℕ) (h : 4 ≤ k) (a b xs ys cols rest : List ℕ) where
  masked_row : (m : List Bool) → length m ≡ words_of k → length xs ≡ ones m → length ys ≡ ones m → cols ≡ columns 0 m ++ rest
      → row_changes k a b r (padded m xs) (padded m ys) ≡ item_entries k r cols xs ys
  masked_row m l ex ey e =
      row-entries k r h (padded m xs) (padded m ys) (spread_length m xs ∙ l) (spread_length m ys ∙ l) a b
      ∙ padded-entries k r m 0 rest xs ys ex ey
      ∙ ap (λ (c : List ℕ). item_entries k r c xs ys) (sym e)

  plain_row : (f : ℕ → Bool) → ((w : ℕ) → f w ≡ true) → length xs ≡ words_of k → length ys ≡ words_of k → cols ≡ columns 0 (mask f 42 0) ++ rest
      → row_changes k a b r xs ys ≡ item_entries k r cols xs ys
  plain_row f t ex ey e =
      row-entries k r h xs ys ex ey a b
      ∙ plain-entries k r f t 42 0 rest xs ys (omega (arith, few_words k)) (ey ∙ sym ex)
      ∙ ap (λ (c : List ℕ). item_entries k r c xs ys) (sym e)

module _ (flags sets size r : ℕ) (a b xs ys cols : List ℕ) where
  pub vertex-row : ItemColumns 5 flags sets size cols → length xs ≡ ones (vertex_mask flags sets size) → length ys ≡ ones (vertex_mask flags sets size)
      → row_changes 5 a b r (padded (vertex_mask flags sets size) xs) (padded (vertex_mask flags sets size) ys) ≡ item_entries 5 r cols xs ys
  unfolding vertex_mask item_has word_kinds if
  vertex-row g ex ey =
      masked_row 5 r (omega arith) a b xs ys cols g.rest (vertex_mask flags sets size) (mask-length (vertex_has flags sets size) 42 0) ex ey
      (g.is ∙ ap (λ (m : List Bool). columns 0 m ++ g.rest) (mask-same (item_has 5 flags sets size) (vertex_has flags sets size) 42 0 (λ j l. refl)))

  pub key_row : ItemColumns 10 flags sets size cols → length xs ≡ ones (key_mask flags) → length ys ≡ ones (key_mask flags)
      → row_changes 10 a b r (padded (key_mask flags) xs) (padded (key_mask flags) ys) ≡ item_entries 10 r cols xs ys
  unfolding key_mask item_has word_kinds if
  key_row g ex ey =
      let m = mask (key_has flags) 11 0 in
      let l = mask (key_has flags) 31 (0 + 11) in
      masked_row 10 r (omega arith) a b xs ys cols (columns (0 + length m) l ++ g.rest) m (mask-length (key_has flags) 11 0) ex ey
      (g.is ∙ ap (λ (m : List Bool). columns 0 m ++ g.rest) (mask-same (item_has 10 flags sets size) (key_has flags) 42 0 (λ j l. refl) ∙ mask_longer (key_has flags) 11 31 0)
      ∙ ap (λ (c : List ℕ). c ++ g.rest) (columns-append m l 0) ∙ append_assoc (columns 0 m) (columns (0 + length m) l) g.rest)

  pub triangle-row : ItemColumns 7 flags sets size cols → length xs ≡ 3 → length ys ≡ 3 → row_changes 7 a b r xs ys ≡ item_entries 7 r cols xs ys
  unfolding item_has word_kinds if
  triangle-row g ex ey = plain_row 7 r (omega arith) a b xs ys cols g.rest (item_has 7 flags sets size) (λ w. refl) ex ey g.is

  pub weight-row : ItemColumns 8 flags sets size cols → length xs ≡ 2 → length ys ≡ 2 → row_changes 8 a b r xs ys ≡ item_entries 8 r cols xs ys
  unfolding item_has word_kinds if
  weight-row g ex ey = plain_row 8 r (omega arith) a b xs ys cols g.rest (item_has 8 flags sets size) (λ w. refl) ex ey g.is
