-- What the entries of two rows are: words that are numbers, and names before them.
use mathlib.Core.Path.{◌≡◌, refl, ap, sym, ◌∙◌, subst}
use Prim.Native.Nat.{ℕ, zero, suc, ◌+◌, ◌-◌, ◌<◌, ◌≤◌}
use native.Mathlib.Nat.{add-zero, zero-add, sub-zero}
use native.Mathlib.Omega.{arith}
use mathlib.Core.Bool.{Bool, true, false, not, ◌&&◌}
use mathlib.Core.List.{List, [], ◌∷◌, ◌++◌}
use lib.ListN.{length, drop, get_or}
use lib.Seq.{get_or-drop}
use lib.Dec.{T, eqb, leb, leb→le}
use lib.Ieee.{binary32, of_bits, to_bits, nan_bits, is_nan}
use lib.Ieee.Bits.{to_bits-of_bits, nan_bits_is}
use borrow.Author.Tests.{ne_eqb}
use mir.Facts.{and_yes, yes_eqb}
use Rattle.wire.specs.Test.{if}
use Rattle.layout.proofs.ResultLaws.{if_case, if_yes, if_no, by_test}
use Rattle.b3d_compare_spec.specs.declared.WordKind.{WordKind}
use Rattle.b3d_compare_spec.specs.declared.WordKind.TheVariants.{Whole, Float, Name, Length}
use Rattle.b3d_compare_spec.specs.declared.Difference.{Difference}
use Rattle.b3d_compare_spec.specs.declared.Difference.TheVariants.{Wholes, Floats}
use Rattle.b3d_compare_spec.specs.Words.{word_kinds, words_of, kind_at}
use Rattle.b3d_compare_spec.specs.Changes.{number, same_cell, cell_of, cell_at, Change, word_changes, row_changes}
use Rattle.b3d_compare_spec.specs.List.{change_bytes, list_bytes}
use Rattle.b3d_compare_spec.specs.Differences.{first_of, second_of, numbers_of}
use Rattle.b3d_compare_spec.proofs.WordLaws.{few_words, kinds-by, three}
use Rattle.b3d_compare_difference.specs.Spans.{Clean}
use Rattle.b3d_compare_entries.specs.Entries.{Lies, change_of}
use Rattle.b3d_compare_entries.proofs.EntryLaws.{one-bytes}
use Rattle.b3d_compare_names.proofs.NameLaws.{two_words}
use Rattle.b3d_compare_rows.specs.Rows.{word_entry, NumbersFrom}

-- ---- how many words, and of which kind

pub word_small : (k w : ℕ) → w < words_of k → w < 4294967296
word_small k w h = omega (arith, few_words k)

-- the lengths of rows as code has them
abbrev tab : (ℕ → ℕ) → ℕ → ℕ → List ℕ
tab f w zero = []
tab f w (suc n) = f w ∷ tab f (w + 1) n

at_tab : (f : ℕ → ℕ) (w n i : ℕ) → i < n → get_or (tab f w n) i 0 ≡ f (w + i)
at_tab f w zero i h = absurd (omega arith)
at_tab f w (suc n) zero h = ap f (sym (add-zero w))
at_tab f w (suc n) (suc i) h = let z : w + 1 + i ≡ w + suc i = omega arith in at_tab f (w + 1) n i (omega arith) ∙ ap f z

abbrev lengths : List ℕ
lengths = 12 ∷ 9 ∷ 17 ∷ 21 ∷ 9 ∷ 42 ∷ 4 ∷ 3 ∷ 2 ∷ 4 ∷ 11 ∷ []

lengths_are : lengths ≡ tab words_of 0 11
unfolding word_kinds if
lengths_are = refl

module _ (k : ℕ) (h : k ≤ 10) where
  pub words_are : get_or lengths k 0 ≡ words_of k
  words_are = ap (λ (l : List ℕ). get_or l k 0) lengths_are ∙ at_tab words_of 0 11 k (omega arith) ∙ ap words_of (zero-add k)

  pub words-few : get_or lengths k 0 ≤ 42
  words-few = omega (arith, words_are, few_words k)

pub ruleset words_laws = (words_are, words-few)

-- ---- words that are numbers

abbrev is_number : WordKind → Bool
is_number Whole = true
is_number Float = true
is_number Name = false
is_number Length = false

abbrev all_numbers : List WordKind → Bool
all_numbers [] = true
all_numbers (d ∷ l) = is_number d && all_numbers l

number_at : (l : List WordKind) (i : ℕ) → T (all_numbers l) → T (is_number (get_or l i Whole))
number_at [] i h = tt
number_at (d ∷ l) zero h = (and_yes (is_number d) (all_numbers l) h).0
number_at (d ∷ l) (suc i) h = number_at l i (and_yes (is_number d) (all_numbers l) h).1

number_cell : (d : WordKind) (s x : List ℕ) (w : ℕ) → T (is_number d) → cell_of d s x w ≡ number (get_or x w 0)
unfolding cell_of
number_cell Whole s x w h = refl
number_cell Float s x w h = refl
number_cell Name s x w h = absurd h
number_cell Length s x w h = absurd h

abbrev From : ℕ → List WordKind → Type 0
From n l = T (all_numbers (drop n l) && leb n (length l))

plain-from : (k from : ℕ) → From from (word_kinds k) → NumbersFrom k from
unfolding cell_at kind_at
plain-from k from h =
    let (g, l) = and_yes (all_numbers (drop from (word_kinds k))) (leb from (words_of k)) h in
    record {
      start = leb→le from (words_of k) l;
      numbers = λ w i j s x. let e : from + (w - from) ≡ w = omega arith in
          number_cell (get_or (word_kinds k) w Whole) s x w
          (subst (λ n. T (is_number (get_or (word_kinds k) n Whole))) e (subst (λ d. T (is_number d)) (get_or-drop from (word_kinds k) (w - from) Whole) (number_at (drop from (word_kinds k)) (w - from) g)));
    }

pub plain-zero : (k : ℕ) → k ≡ 0 → NumbersFrom k 0
unfolding word_kinds if
plain-zero k e = rw e (plain-from 0 0 tt)

pub plain-high : (k : ℕ) → 4 ≤ k → NumbersFrom k 0
unfolding word_kinds if
plain-high k h =
    plain-from k 0
    (kinds-by k (From 0) ((λ e. tt), ((λ e. absurd (omega arith)), ((λ e. absurd (omega arith)), ((λ e. absurd (omega arith)), ((λ e. tt), ((λ e. tt), ((λ e. tt), ((λ e. tt), ((λ e. tt), ((λ e. tt), ((λ e. tt), tt))))))))))) tt)

pub plain-named : (k : ℕ) → 0 < k → k < 4 → NumbersFrom k 2
unfolding word_kinds if
plain-named k h i = three (λ j. NumbersFrom j 2) k h i (plain-from 1 2 tt) (plain-from 2 2 tt) (plain-from 3 2 tt)

-- ---- the difference of two numbers

module _ (f : Bool) (p q : ℕ) where
  pub numbers-by : (P : Difference → Type 0) → (T (not (nan_bits binary32 p)) → T (not (nan_bits binary32 q)) → P (Floats (of_bits binary32 p) (of_bits binary32 q))) → P (Wholes p q) → P (numbers_of f p q)
  unfolding numbers_of
  numbers-by P g h =
      if_case P (f && (not (nan_bits binary32 p) && not (nan_bits binary32 q))) (Floats (of_bits binary32 p) (of_bits binary32 q)) (Wholes p q)
      (λ t. let b = (and_yes f (not (nan_bits binary32 p) && not (nan_bits binary32 q)) t).1 in
      let (x, y) = and_yes (not (nan_bits binary32 p)) (not (nan_bits binary32 q)) b in g x y)
      (λ t. h)

not-nan : (n : ℕ) → T (not (nan_bits binary32 n)) → T (not (is_nan (of_bits binary32 n)))
not-nan n h = rw (nan_bits_is binary32 n) at h

bits_back : (n : ℕ) → n < 4294967296 → T (not (nan_bits binary32 n)) → to_bits binary32 (of_bits binary32 n) ≡ n
bits_back n h t = to_bits-of_bits binary32 n h (not-nan n t)

module _ (f : Bool) (p q : ℕ) (d : Difference) (e : d ≡ numbers_of f p q) where
  pub numbers-clean : Clean d
  numbers-clean = rw e (numbers-by f p q Clean (λ x y. (not-nan p x, not-nan q y)) tt)

  pub numbers_lie : (a b : List ℕ) → Lies a b d
  numbers_lie a b = rw e (numbers-by f p q (Lies a b) (λ x y. tt) tt)

  pub numbers_change : p < 4294967296 → q < 4294967296 → (a b : List ℕ) (k r w : ℕ)
      → change_of a b k r w d ≡ record { table = k; row = r; word = w; first = number p; second = number q }
  unfolding change_of first_of second_of
  numbers_change hp hq a b k r w =
      rw e
      (numbers-by f p q (λ c. change_of a b k r w c ≡ record { table = k; row = r; word = w; first = number p; second = number q })
      (λ x y. rw (bits_back p hp x, bits_back q hq y)) refl)

-- ---- the entry of a word

abbrev pub number_change : ℕ → ℕ → ℕ → ℕ → ℕ → Change
number_change k r w p q = record { table = k; row = r; word = w; first = number p; second = number q }

pub entry-none : (k r w p q : ℕ) → p ≡ q → word_entry k r w p q ≡ []
unfolding word_entry
entry-none k r w p q e = if_yes (eqb p q) _ _ (yes_eqb {a = p} e)

pub entry-some : (k r w p q : ℕ) → (p ≡ q → ⊥) → word_entry k r w p q ≡ number_change k r w p q ∷ []
unfolding word_entry if
entry-some k r w p q d = rw (ne_eqb p q d)

module _ (k r w p q : ℕ) where
  module _ (h : p ≡ q → ⊥) (hp : p < 4294967296) (hq : q < 4294967296) (f : Bool) (d : Difference) (e : d ≡ numbers_of f p q) where
    pub number-bytes : (a b : List ℕ) → list_bytes (word_entry k r w p q) ≡ change_bytes (change_of a b k r w d) []
    number-bytes a b = ap list_bytes (entry-some k r w p q h) ∙ one-bytes (number_change k r w p q) ∙ ap (λ (c : Change). change_bytes c []) (sym (numbers_change f p q d e hp hq a b k r w))

-- ---- words one after the other

module _ (k r : ℕ) (x y : List ℕ) where
  abbrev pub plain_left : ℕ → List Change
  plain_left w = word_changes k [] [] r x y w (words_of k - w)

  entry-before : (w p q : ℕ) (l : List Change) → if (eqb p q) l (number_change k r w p q ∷ l) ≡ word_entry k r w p q ++ l
  unfolding word_entry
  entry-before w p q l = by_test (eqb p q)
      (λ t. if_yes (eqb p q) _ _ t ∙ ap (λ (m : List Change). m ++ l) (sym (if_yes (eqb p q) [] (number_change k r w p q ∷ []) t)))
      (λ t. if_no (eqb p q) _ _ t ∙ ap (λ (m : List Change). m ++ l) (sym (if_no (eqb p q) [] (number_change k r w p q ∷ []) t)))

  word-one : (a b : List ℕ) (w n p q : ℕ) → cell_at k a x w ≡ number p → cell_at k b y w ≡ number q → word_changes k a b r x y w (suc n) ≡ word_entry k r w p q ++ word_changes k a b r x y (w + 1) n
  unfolding word_changes same_cell
  word-one a b w n p q e f = rw (e, f) (entry-before w p q (word_changes k a b r x y (w + 1) n))

  -- numbers are the same whatever the files
  pub plain-any : (from : ℕ) → NumbersFrom k from → (a b : List ℕ) (n w : ℕ) → from ≤ w → w + n ≤ words_of k → word_changes k a b r x y w n ≡ word_changes k [] [] r x y w n
  unfolding word_changes
  plain-any from g a b zero w h i = refl
  plain-any from g a b (suc n) w h i =
      let N = g.numbers w h (omega arith) in
      word-one a b w n (get_or x w 0) (get_or y w 0) (N a x) (N b y)
      ∙ ap (λ (l : List Change). word_entry k r w (get_or x w 0) (get_or y w 0) ++ l) (plain-any from g a b n (w + 1) (omega arith) (omega arith))
      ∙ sym (word-one [] [] w n (get_or x w 0) (get_or y w 0) (N [] x) (N [] y))

  pub plain_step : (from : ℕ) → NumbersFrom k from → (w : ℕ) → from ≤ w → w < words_of k → plain_left w ≡ word_entry k r w (get_or x w 0) (get_or y w 0) ++ plain_left (w + 1)
  plain_step from g w h i =
      let N = g.numbers w h i in
      let e : words_of k - w ≡ suc (words_of k - (w + 1)) = omega arith in
      rw e (word-one [] [] w (words_of k - (w + 1)) (get_or x w 0) (get_or y w 0) (N [] x) (N [] y))

  pub plain_end : (w : ℕ) → words_of k ≤ w → plain_left w ≡ []
  unfolding word_changes
  plain_end w h = let e : words_of k - w ≡ 0 = omega arith in rw e

-- ---- a row

module _ (k r : ℕ) (a b x y : List ℕ) where
  put-off : (c : Bool) (ch : Change) (l m : List Change) → if c (l ++ m) (ch ∷ (l ++ m)) ≡ if c l (ch ∷ l) ++ m
  unfolding if
  put-off true ch l m = refl
  put-off false ch l m = refl

  words-split : (m n w : ℕ) → word_changes k a b r x y w (m + n) ≡ word_changes k a b r x y w m ++ word_changes k a b r x y (w + m) n
  unfolding word_changes
  words-split zero n w = rw (zero-add n, add-zero w)
  words-split (suc m) n w =
      let e : suc m + n ≡ suc (m + n) = omega arith in
      let f : w + suc m ≡ w + 1 + m = omega arith in
      rw (e, f, words-split m n (w + 1))
      (put-off (same_cell (cell_at k a x w) (cell_at k b y w)) (record { table = k; row = r; word = w; first = cell_at k a x w; second = cell_at k b y w })
      (word_changes k a b r x y (w + 1) m) (word_changes k a b r x y (w + 1 + m) n))

  -- a row of numbers
  pub row_plain : NumbersFrom k 0 → row_changes k a b r x y ≡ word_changes k [] [] r x y 0 (words_of k - 0)
  unfolding row_changes
  row_plain g = plain-any k r x y 0 g a b (words_of k) 0 (omega arith) (omega arith) ∙ rw (sub-zero (words_of k))

  -- a row that begins with a name
  pub row_named : 0 < k → k < 4 → row_changes k a b r x y ≡ word_changes k a b r x y 0 2 ++ word_changes k [] [] r x y 2 (words_of k - 2)
  unfolding row_changes
  row_named h i =
      let e : words_of k ≡ 2 + (words_of k - 2) = omega (arith, two_words k h i) in
      ap (word_changes k a b r x y 0) e ∙ words-split 2 (words_of k - 2) 0
      ∙ ap (λ (l : List Change). word_changes k a b r x y 0 2 ++ l) (plain-any k r x y 2 (plain-named k h i) a b (words_of k - 2) 2 (omega arith) (omega (arith, two_words k h i)))
