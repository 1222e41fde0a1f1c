-- The list row by row: what code that walks over both files needs.
use mathlib.Core.Path.{◌≡◌, refl, ap, sym, ◌∙◌}
use Prim.Native.Nat.{ℕ, zero, suc, ◌+◌, ◌<◌, ◌≤◌}
use native.Mathlib.Omega.{arith}
use mathlib.Core.List.{List, [], ◌∷◌, ◌++◌, append-nil}
use lib.ListN.{length, take, drop, get_or}
use lib.Seq.{get_or-take}
use Rattle.b3d_spec.specs.Rebuild.{name_from}
use Rattle.b3d_spec.specs.Scene.{Scene}
use Rattle.b3d_spec.specs.Tables.{rows, tables}
use Rattle.b3d_compare_spec.specs.declared.WordKind.{WordKind}
use Rattle.b3d_compare_spec.specs.declared.WordKind.TheVariants.{Whole, Float, Name, Length}
use Rattle.b3d_compare_spec.specs.Words.{words_of, kind_at}
use Rattle.b3d_compare_spec.specs.Changes.{cell_of, cell_at, Change, word_changes, row_changes, table_changes, twelve, changes_in, changes}
use Rattle.b3d_compare_spec.specs.List.{list_bytes}
use Rattle.b3d_compare_spec.proofs.ExactLaws.{rows-of, rows-zero, first-none, first_some, none-twelve}
use Rattle.b3d_compare_spec.proofs.WordLaws.{two_words}
use Rattle.b3d_compare_spec.proofs.SizeLaws.{some_byte}

-- ---- rows that begin with the same words

-- words 0 and 1 are the name's, if there is one
kind-front : (d : WordKind) (s x y : List ℕ) (w : ℕ) → get_or x w 0 ≡ get_or y w 0 → get_or x 0 0 ≡ get_or y 0 0 → get_or x 1 0 ≡ get_or y 1 0 → cell_of d s x w ≡ cell_of d s y w
unfolding cell_of name_from
kind-front Whole s x y w e f g = rw e
kind-front Float s x y w e f g = rw e
kind-front Name s x y w e f g = rw (f, g)
kind-front Length s x y w e f g = refl

word-front : (n : ℕ) (x y : List ℕ) → take n x ≡ take n y → (j : ℕ) → j < n → get_or x j 0 ≡ get_or y j 0
word-front n x y e j h = sym (get_or-take n x j 0 h) ∙ ap (λ (z : List ℕ). get_or z j 0) e ∙ get_or-take n y j 0 h

cell_front : (k : ℕ) (s x y : List ℕ) (n w : ℕ) → 2 ≤ n → w < n → take n x ≡ take n y → cell_at k s x w ≡ cell_at k s y w
unfolding cell_at
cell_front k s x y n w h i e = kind-front (kind_at k w) s x y w (word-front n x y e w i) (word-front n x y e 0 (omega arith)) (word-front n x y e 1 (omega arith))

words-front : (k : ℕ) (a b : List ℕ) (r : ℕ) (x y v w : List ℕ) → take (words_of k) x ≡ take (words_of k) v → take (words_of k) y ≡ take (words_of k) w
    → (n i : ℕ) → i + n ≤ words_of k → word_changes k a b r x y i n ≡ word_changes k a b r v w i n
unfolding word_changes
words-front k a b r x y v w e f zero i h = refl
words-front k a b r x y v w e f (suc n) i h =
    let two = two_words k (omega arith) in
    rw (cell_front k a x v (words_of k) i two (omega arith) e, cell_front k b y w (words_of k) i two (omega arith) f, words-front k a b r x y v w e f n (i + 1) (omega arith))

-- only as many words count as the table is wide
pub row-front : (k : ℕ) (a b : List ℕ) (r : ℕ) (x y v w : List ℕ) → take (words_of k) x ≡ take (words_of k) v → take (words_of k) y ≡ take (words_of k) w → row_changes k a b r x y ≡ row_changes k a b r v w
unfolding row_changes
row-front k a b r x y v w e f = words-front k a b r x y v w e f (words_of k) 0 (omega arith)

-- ---- a table from row r on

module _ (k : ℕ) (a b : List ℕ) (xs ys : List (List ℕ)) where
  abbrev pub from : ℕ → List Change
  from r = table_changes k a b r (drop r xs) (drop r ys)

-- ---- the twelve, then the tables

none-long : length (list_bytes []) ≡ 0
unfolding list_bytes
none-long = refl

none-listed : (l : List Change) → length (list_bytes l) ≡ 0 → l ≡ []
unfolding list_bytes
none-listed [] e = refl
none-listed (c ∷ l) e = absurd (omega (arith, some_byte c (list_bytes l)))

module _ (a b : List ℕ) (t u : Scene) where
  pub twelve-is : changes_in a b t u (0 ∷ []) ≡ row_changes 0 a b 0 (twelve t) (twelve u)
  unfolding changes_in table_changes
  twelve-is = rw (rows-zero t, rows-zero u) (append-nil (row_changes 0 a b 0 (twelve t) (twelve u) ++ []) ∙ append-nil (row_changes 0 a b 0 (twelve t) (twelve u)))

  -- some of the twelve differ: their entries have bytes
  pub changes-twelve : 0 < length (list_bytes (row_changes 0 a b 0 (twelve t) (twelve u))) → changes a b t u ≡ row_changes 0 a b 0 (twelve t) (twelve u)
  unfolding changes
  changes-twelve h = rw twelve-is (first_some (row_changes 0 a b 0 (twelve t) (twelve u)) (changes_in a b t u tables) (λ e. no h e))
    where
      no : 0 < length (list_bytes (row_changes 0 a b 0 (twelve t) (twelve u))) → row_changes 0 a b 0 (twelve t) (twelve u) ≡ [] → ⊥
      no h e = let z = ap (λ (l : List Change). length (list_bytes l)) e ∙ none-long in absurd (omega arith)

  -- none does
  pub changes-cells : length (list_bytes (row_changes 0 a b 0 (twelve t) (twelve u))) ≡ 0 → changes a b t u ≡ changes_in a b t u tables
  unfolding changes
  changes-cells h = rw twelve-is (first-none (row_changes 0 a b 0 (twelve t) (twelve u)) (changes_in a b t u tables) (none-listed (row_changes 0 a b 0 (twelve t) (twelve u)) h))

  pub same-twelve : length (list_bytes (row_changes 0 a b 0 (twelve t) (twelve u))) ≡ 0 → twelve t ≡ twelve u
  same-twelve h = none-twelve a b t u (twelve-is ∙ none-listed (row_changes 0 a b 0 (twelve t) (twelve u)) h)

  -- table by table
  pub tables_step : (k : ℕ) (ks : List ℕ) → 0 < k → changes_in a b t u (k ∷ ks) ≡ table_changes k a b 0 (rows k t) (rows k u) ++ changes_in a b t u ks
  unfolding changes_in
  tables_step k ks h = rw (rows-of k t h, rows-of k u h)
