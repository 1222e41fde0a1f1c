-- The list has every cell that differs and nothing else, once each, in order; it is empty exactly when nothing differs.
use mathlib.Core.Path.{◌≡◌, refl, ap, sym, ◌∙◌, subst}
use mathlib.Core.Logic.{◌⊎◌, inl, inr, ⊎_elim}
use Prim.Native.Nat.{ℕ, zero, suc, ◌+◌, ◌-◌, ◌<◌, ◌≤◌}
use native.Mathlib.Omega.{arith}
use native.Mathlib.Nat.{add-zero, zero-add, eq-or-lt_of_le}
use mathlib.Core.Bool.{Bool, true, not, ◌&&◌}
use mathlib.Core.List.{List, [], ◌∷◌, ◌++◌, map}
use lib.ListN.{length, get_or, replicate}
use lib.Seq.{ext_get_or}
use lib.Dec.{T, T_not, not_T, eqb, ltb, eqb→eq, eqb_refl, ltb→lt}
use borrow.Author.Tests.{ne_eqb}
use mir.Facts.{and_yes}
use Rattle.wire.specs.Test.{if}
use Rattle.layout.specs.WellFormed.{all}
use Rattle.layout.proofs.AllLaws.{All, cons_head, cons_tail}
use Rattle.layout.proofs.ResultLaws.{if_case, if_no, by_test}
use Rattle.b3d_spec.specs.Scene.{Scene}
use Rattle.b3d_spec.specs.Tables.{rows, counts, node_tables, tables}
use Rattle.b3d_compare_spec.specs.Words.{word_kinds, words_of, kind_at}
use Rattle.b3d_compare_spec.specs.declared.WordKind.TheVariants.{Whole}
use Rattle.b3d_compare_spec.specs.Changes.{number, same_cell, cell_of, cell_at, Change, word_changes, row_changes, table_changes, twelve, rows_of, first_or, changes_in, changes}
use Rattle.b3d_compare_spec.specs.Compares.{In, Before, InOrder, first_cell, second_cell, change_at, Differs, EntryIs, Exactly, Agree, Listed}
use Rattle.b3d_compare_spec.proofs.OrderLaws.{in_left, in_right, in_either, all_in, nothing_in, order-append}
use Rattle.b3d_compare_spec.proofs.CellLaws.{cell_is, cell_not}

module _ (k : ℕ) (a b : List ℕ) where
  -- ---- two rows

  module _ (r : ℕ) (x y : List ℕ) where
    abbrev pub word_change : ℕ → Change
    word_change w = record { table = k; row = r; word = w; first = cell_at k a x w; second = cell_at k b y w }

    abbrev pub SameWord : ℕ → Bool
    SameWord w = same_cell (cell_at k a x w) (cell_at k b y w)

    -- of n words from w on
    pub record OfWords (w n : ℕ) (c : Change) : Type 0 where
      pub word : ℕ
      pub from : w ≤ word
      pub to : word < w + n
      pub differs : cell_at k a x word ≡ cell_at k b y word → ⊥
      pub is : c ≡ word_change word

    pub words-each : (w n v : ℕ) → w ≤ v → v < w + n → (cell_at k a x v ≡ cell_at k b y v → ⊥) → In (word_change v) (word_changes k a b r x y w n)
    unfolding word_changes
    words-each w zero v h i d = absurd (omega arith)
    words-each w (suc n) v h i d =
        ⊎_elim
        (λ e. let q : T (not (SameWord w)) = not_T (SameWord w) (λ s. d (subst (λ z. cell_at k a x z ≡ cell_at k b y z) e (cell_is (cell_at k a x w) (cell_at k b y w) s))) in
        rw (if_no (SameWord w) (word_changes k a b r x y (w + 1) n) (word_change w ∷ word_changes k a b r x y (w + 1) n) q) (inl (ap word_change (sym e))))
        (λ l. let z : In (word_change v) (word_changes k a b r x y (w + 1) n) = words-each (w + 1) n v (omega arith) (omega arith) d in
        if_case (In (word_change v)) (SameWord w) (word_changes k a b r x y (w + 1) n) (word_change w ∷ word_changes k a b r x y (w + 1) n) (λ _. z) (λ _. inr z))
        (eq-or-lt_of_le h)

    of-later : (w n : ℕ) (c : Change) → OfWords (w + 1) n c → OfWords w (suc n) c
    of-later w n c o = record { word = o.word; from = omega (arith, o.from); to = omega (arith, o.to); differs = o.differs; is = o.is }

    pub words-only : (w n : ℕ) (c : Change) → In c (word_changes k a b r x y w n) → OfWords w n c
    unfolding word_changes
    words-only w zero c h = absurd h
    words-only w (suc n) c h =
        let rest = word_changes k a b r x y (w + 1) n in
        let later : In c rest → OfWords w (suc n) c = λ i. of-later w n c (words-only (w + 1) n c i) in
        if_case (λ (l : List Change). In c l → OfWords w (suc n) c) (SameWord w) rest (word_change w ∷ rest) (λ s. later)
        (λ s. ⊎_elim (λ e. record { word = w; from = omega arith; to = omega arith; differs = cell_not (cell_at k a x w) (cell_at k b y w) s; is = e }) later) h

    word-before : (w v : ℕ) (c : Change) → w < v → c ≡ word_change v → Before (word_change w) c
    word-before w v c h e = rw e (inr (refl, inr (refl, h)))

    pub words-order : (w n : ℕ) → InOrder (word_changes k a b r x y w n)
    unfolding word_changes
    words-order w zero = tt
    words-order w (suc n) =
        let rest = word_changes k a b r x y (w + 1) n in
        let o : InOrder rest = words-order (w + 1) n in
        if_case InOrder (SameWord w) rest (word_change w ∷ rest) (λ _. o)
        (λ _. (all_in (Before (word_change w)) rest (λ c i. let z = words-only (w + 1) n c i in word-before w z.word c (omega (arith, z.from)) z.is), o))

  -- ---- two tables

  -- of rows xs and ys, the first being row r
  pub record OfRows (r : ℕ) (xs ys : List (List ℕ)) (c : Change) : Type 0 where
    pub row : ℕ
    pub first : row < length xs
    pub second : row < length ys
    pub of : OfWords (r + row) (get_or xs row []) (get_or ys row []) 0 (words_of k) c

  pub rows-each : (r : ℕ) (xs ys : List (List ℕ)) (i w : ℕ) → i < length xs → i < length ys → w < words_of k
      → (cell_at k a (get_or xs i []) w ≡ cell_at k b (get_or ys i []) w → ⊥) → In (word_change (r + i) (get_or xs i []) (get_or ys i []) w) (table_changes k a b r xs ys)
  unfolding table_changes row_changes
  rows-each r [] ys i w h j l d = absurd (omega arith)
  rows-each r (x ∷ xs) [] i w h j l d = absurd (omega arith)
  rows-each r (x ∷ xs) (y ∷ ys) zero w h j l d = rw (add-zero r) (in_left (word_change r x y w) (row_changes k a b r x y) (table_changes k a b (r + 1) xs ys) (words-each r x y 0 (words_of k) w (omega arith) (omega arith) d))
  rows-each r (x ∷ xs) (y ∷ ys) (suc i) w h j l d =
      let e : r + suc i ≡ r + 1 + i = omega arith in
      rw e (in_right (word_change (r + 1 + i) (get_or xs i []) (get_or ys i []) w) (row_changes k a b r x y) (table_changes k a b (r + 1) xs ys) (rows-each (r + 1) xs ys i w (omega arith) (omega arith) l d))

  pub rows-only : (r : ℕ) (xs ys : List (List ℕ)) (c : Change) → In c (table_changes k a b r xs ys) → OfRows r xs ys c
  unfolding table_changes row_changes
  rows-only r [] ys c h = absurd h
  rows-only r (x ∷ xs) [] c h = absurd h
  rows-only r (x ∷ xs) (y ∷ ys) c h =
      ⊎_elim
      (λ i. record { row = 0; first = omega arith; second = omega arith; of = rw (add-zero r) (words-only r x y 0 (words_of k) c i) })
      (λ i. let z = rows-only (r + 1) xs ys c i in
      let e : r + suc z.row ≡ r + 1 + z.row = omega arith in
      record { row = suc z.row; first = omega (arith, z.first); second = omega (arith, z.second); of = rw e z.of })
      (in_either c (row_changes k a b r x y) (table_changes k a b (r + 1) xs ys) h)

  pub rows-order : (r : ℕ) (xs ys : List (List ℕ)) → InOrder (table_changes k a b r xs ys)
  unfolding table_changes row_changes
  rows-order r [] ys = tt
  rows-order r (x ∷ xs) [] = tt
  rows-order r (x ∷ xs) (y ∷ ys) =
      order-append (row_changes k a b r x y) (table_changes k a b (r + 1) xs ys) (words-order r x y 0 (words_of k)) (rows-order (r + 1) xs ys)
      (λ c d i j. let p = words-only r x y 0 (words_of k) c i in
      let q = rows-only (r + 1) xs ys d j in
      rw (p.is, q.of.is) (inr (refl, inl (omega arith))))

-- ---- two scenes

-- each is more than those before it
abbrev Rising : List ℕ → Type 0
Rising [] = Unit {0}
Rising (k ∷ ks) = All (λ j. k < j) ks × Rising ks

above : (k : ℕ) (ks : List ℕ) (j : ℕ) → All (λ j. k < j) ks → In j ks → k < j
above k [] j h i = absurd i
above k (l ∷ ks) j h (inl e) = rw e h.0
above k (l ∷ ks) j h (inr i) = above k ks j h.1 i

all-at : (P : ℕ → Type 0) (ks : List ℕ) (k : ℕ) → All P ks → In k ks → P k
all-at P [] k h i = absurd i
all-at P (j ∷ ks) k h (inl e) = subst P (sym e) h.0
all-at P (j ∷ ks) k h (inr i) = all-at P ks k h.1 i

-- the ten tables rise, and none of them is table 0
abbrev rises : List ℕ → Bool
rises [] = true
rises (k ∷ ks) = all (ltb k) ks && rises ks

all_above : (k : ℕ) (ks : List ℕ) → T (all (ltb k) ks) → All (λ j. k < j) ks
all_above k [] h = tt
all_above k (j ∷ ks) h = let (p, q) = and_yes (ltb k j) (all (ltb k) ks) h in (ltb→lt k j p, all_above k ks q)

rising : (ks : List ℕ) → T (rises ks) → Rising ks
rising [] h = tt
rising (k ∷ ks) h = let (p, q) = and_yes (all (ltb k) ks) (rises ks) h in (all_above k ks p, rising ks q)

tables_rise : Rising (0 ∷ tables)
unfolding tables node_tables
tables_rise = rising (0 ∷ tables) tt

-- the rows of a table, and of table 0
pub rows-of : (k : ℕ) (t : Scene) → 0 < k → rows_of k t ≡ rows k t
unfolding rows_of if
rows-of k t h = rw (ne_eqb k 0 (omega arith))

pub rows-zero : (t : Scene) → rows_of 0 t ≡ twelve t ∷ []
unfolding rows_of if
rows-zero t = refl

get_d_replicate : {A : Type 0} (n w : ℕ) (d : A) → get_or (replicate n d) w d ≡ d
get_d_replicate zero w d = refl
get_d_replicate (suc n) zero d = refl
get_d_replicate (suc n) (suc w) d = get_d_replicate n w d

pub kind-zero : (w : ℕ) → kind_at 0 w ≡ Whole
unfolding kind_at word_kinds if
kind-zero w = get_d_replicate 12 w Whole

pub cell_zero : (s x : List ℕ) (w : ℕ) → cell_at 0 s x w ≡ number (get_or x w 0)
unfolding cell_at cell_of
cell_zero s x w = rw (kind-zero w)

pub words-zero : words_of 0 ≡ 12
unfolding word_kinds if
words-zero = refl

number_inj : {m n : ℕ} → number m ≡ number n → m ≡ n
number_inj e = cc

-- as many of each
map_each : (f g : ℕ → ℕ) (ks : List ℕ) → map f ks ≡ map g ks → All (λ k. f k ≡ g k) ks
map_each f g [] e = tt
map_each f g (k ∷ ks) e = (cons_head e, map_each f g ks (cons_tail e))

pub as_many : (t u : Scene) → twelve t ≡ twelve u → (k : ℕ) → In k tables → length (rows_of k t) ≡ length (rows_of k u)
unfolding twelve counts
as_many t u e k i =
    let low : 0 < k = above 0 tables k tables_rise.0 i in
    rw (rows-of k t low, rows-of k u low)
    (all-at (λ j. length (rows j t) ≡ length (rows j u)) tables k (map_each (λ j. length (rows j t)) (λ j. length (rows j u)) tables (cons_tail (cons_tail e))) i)

twelve-long : (t : Scene) → length (twelve t) ≡ 12
unfolding twelve counts tables node_tables
twelve-long t = refl

cons-nil : {A : Type 0} {c : Change} {l : List Change} → c ∷ l ≡ [] → A
cons-nil e = let z : ◌≡◌ {A = ℕ} 0 1 = cc in absurd (omega arith)

pub first-none : (l m : List Change) → l ≡ [] → first_or l m ≡ m
unfolding first_or
first-none [] m e = refl
first-none (c ∷ l) m e = cons-nil e

pub first_some : (l m : List Change) → (l ≡ [] → ⊥) → first_or l m ≡ l
unfolding first_or
first_some [] m h = absurd (h refl)
first_some (c ∷ l) m h = refl

first-empty : (l m : List Change) → first_or l m ≡ [] → l ≡ []
unfolding first_or
first-empty [] m e = refl
first-empty (c ∷ l) m e = cons-nil e

module _ (a b : List ℕ) (t u : Scene) where
  abbrev here : ℕ → List Change
  here k = table_changes k a b 0 (rows_of k t) (rows_of k u)

  each_in : (ks : List ℕ) (k r w : ℕ) → Differs a b t u ks k r w → In (change_at a b t u k r w) (changes_in a b t u ks)
  unfolding changes_in
  each_in [] k r w d = absurd d.table
  each_in (j ∷ ks) k r w d =
      ⊎_elim
      (λ e. subst (λ i. In (change_at a b t u k r w) (table_changes i a b 0 (rows_of i t) (rows_of i u) ++ changes_in a b t u ks)) e
      (in_left (change_at a b t u k r w) (here k) (changes_in a b t u ks) (rw (zero-add r) at (rows-each k a b 0 (rows_of k t) (rows_of k u) r w d.first d.second d.word d.differs))))
      (λ i. in_right (change_at a b t u k r w) (here j) (changes_in a b t u ks) (each_in ks k r w (record { table = i; first = d.first; second = d.second; word = d.word; differs = d.differs })))
      d.table

  only_in : (ks : List ℕ) (c : Change) → In c (changes_in a b t u ks) → EntryIs a b t u ks c
  unfolding changes_in
  only_in [] c h = absurd h
  only_in (k ∷ ks) c h =
      ⊎_elim
      (λ i. let z = rows-only k a b 0 (rows_of k t) (rows_of k u) c i in
      record {
        table = k;
        row = z.row;
        word = z.of.word;
        of = record { table = inl refl; first = z.first; second = z.second; word = omega (arith, z.of.to); differs = z.of.differs };
        is = rw (zero-add z.row) at z.of.is;
      })
      (λ i. let z = only_in ks c i in
      let d = z.of in
      record {
        table = z.table;
        row = z.row;
        word = z.word;
        of = record { table = inr d.table; first = d.first; second = d.second; word = d.word; differs = d.differs };
        is = z.is;
      })
      (in_either c (here k) (changes_in a b t u ks) h)

  order_in : (ks : List ℕ) → Rising ks → InOrder (changes_in a b t u ks)
  unfolding changes_in
  order_in [] h = tt
  order_in (k ∷ ks) h =
      order-append (here k) (changes_in a b t u ks) (rows-order k a b 0 (rows_of k t) (rows_of k u)) (order_in ks h.1)
      (λ c d i j. let p = rows-only k a b 0 (rows_of k t) (rows_of k u) c i in
      let q = only_in ks d j in
      let l = above k ks q.table h.0 q.of.table in
      rw (p.of.is, q.is) (inl l))

  exactly_in : (ks : List ℕ) → Rising ks → Exactly a b t u ks (changes_in a b t u ks)
  exactly_in ks h = record { each = each_in ks; only = only_in ks; once = order_in ks h }

  pub twelve-exactly : Exactly a b t u (0 ∷ []) (changes_in a b t u (0 ∷ []))
  twelve-exactly = exactly_in (0 ∷ []) (tt, tt)

  pub cells-exactly : Exactly a b t u tables (changes_in a b t u tables)
  cells-exactly = exactly_in tables tables_rise.1

  -- where the twelve are the same, none of them is listed
  twelve-none : twelve t ≡ twelve u → changes_in a b t u (0 ∷ []) ≡ []
  twelve-none e = nothing_in (changes_in a b t u (0 ∷ [])) (λ c i. no (twelve-exactly.only c i))
    where
      no : {c : Change} → EntryIs a b t u (0 ∷ []) c → ⊥
      no o = ⊎_elim (λ z. o.of.differs (rw z (cell_zero a _ o.word ∙ rw (rows-zero t, rows-zero u, e) (sym (cell_zero b _ o.word))))) (λ i. absurd i) o.of.table

  pub none-twelve : changes_in a b t u (0 ∷ []) ≡ [] → twelve t ≡ twelve u
  none-twelve e =
      ext_get_or 0 (twelve t) (twelve u) (twelve-long t ∙ sym (twelve-long u))
      (λ w h. by_test (eqb (get_or (twelve t) w 0) (get_or (twelve u) w 0)) (λ s. eqb→eq _ _ s)
      (λ s. absurd (subst (In (change_at a b t u 0 0 w)) e
      (twelve-exactly.each 0 0 w (record {
        table = inl refl;
        first = rw (rows-zero t) (omega arith);
        second = rw (rows-zero u) (omega arith);
        word = rw words-zero (omega (arith, twelve-long t));
        differs = λ z. T_not (eqb (get_or (twelve t) w 0) (get_or (twelve u) w 0)) s (rw (number_inj (sym (cell_zero a (twelve t) w) ∙ (rw (rows-zero t, rows-zero u) at z) ∙ cell_zero b (twelve u) w)) (eqb_refl (get_or (twelve u) w 0)));
      })))))

  pub listed-exactly : Listed a b t u
  unfolding changes
  listed-exactly =
      record {
        numbers = λ h. rw (first_some (changes_in a b t u (0 ∷ [])) (changes_in a b t u tables) (λ e. h (none-twelve e))) twelve-exactly;
        cells = λ e. rw (first-none (changes_in a b t u (0 ∷ [])) (changes_in a b t u tables) (twelve-none e)) cells-exactly;
        empty = λ e. empty (first-empty (changes_in a b t u (0 ∷ [])) (changes_in a b t u tables) e) e;
        nothing = λ g. first-none (changes_in a b t u (0 ∷ [])) (changes_in a b t u tables) (twelve-none g.numbers) ∙ nothing_in (changes_in a b t u tables) (λ c i. no g (cells-exactly.only c i));
      }
    where
      no : {c : Change} → Agree a b t u → EntryIs a b t u tables c → ⊥
      no g o = o.of.differs (g.cells o.table o.row o.word o.of.table o.of.first o.of.word)

      empty : changes_in a b t u (0 ∷ []) ≡ [] → first_or (changes_in a b t u (0 ∷ [])) (changes_in a b t u tables) ≡ [] → Agree a b t u
      empty e f =
          let n = none-twelve e in
          let z : changes_in a b t u tables ≡ [] = sym (first-none (changes_in a b t u (0 ∷ [])) (changes_in a b t u tables) e) ∙ f in
          record {
            numbers = n;
            cells = λ k r w i h j.
                let x = first_cell a b t u k r w in
                let y = second_cell a b t u k r w in
                by_test (same_cell x y) (λ s. cell_is x y s)
                (λ s. absurd (subst (In (change_at a b t u k r w)) z
                (cells-exactly.each k r w (record { table = i; first = h; second = omega (arith, as_many t u n k i); word = j; differs = cell_not x y s }))));
          }
