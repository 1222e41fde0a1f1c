-- Rows whose items stand in another table one run after the other: triangle sets with their triangles, key lists with their keys.
use mathlib.Core.Path.{◌≡◌, refl, ap, ap₂, sym, ◌∙◌, subst}
use Prim.Native.Nat.{ℕ, suc, ◌+◌}
use native.Mathlib.Nat.{add-zero}
use native.Mathlib.Omega.{arith}
use mathlib.Core.Bool.{Bool}
use mathlib.Core.List.{List, [], ◌∷◌, ◌++◌, map}
use lib.ListN.{length, take, drop, get_or, length-append, length-map}
use Rattle.layout.proofs.AllLaws.{All, cons_head, cons_tail}
use Rattle.layout.proofs.TestLaws.{Tests, both, via, eq_is}
use Rattle.b3d_spec.specs.Mask.{padded, present_words, key_mask}
use Rattle.b3d_spec.specs.Rebuild.{sets_from, keys_from}
use Rattle.b3d_spec.specs.Scene.{TriangleSet, Keys}
use Rattle.b3d_spec.specs.Tables.{set_rows, triangle_rows, list_rows, key_rows}
use Rattle.b3d_check_spec.specs.CellCounts.{end_of}
use Rattle.b3d_check_spec.specs.Check.{groups_valid}
use Rattle.b3d_check_spec.proofs.Check.TestLaws.{yes-if}
use Rattle.b3d_check_spec.proofs.Check.RowLaws.{Begins, begins-join, begins-split, begins-take, take_begins, all_take, all_drop, take-is, Full, cells, cells_are}

pub four-cells : (i b r l : ℕ) (x : List ℕ) → length x ≡ 4 → get_or x 0 0 ≡ i → get_or x 1 0 ≡ b → get_or x 2 0 ≡ r → get_or x 3 0 ≡ l → (i ∷ b ∷ r ∷ l ∷ []) ≡ x
unfolding cells
four-cells i b r l x w e₀ e₁ e₂ e₃ = cc (cells_are x 4 w)

-- parts that have a row each, and rows of their own in a table of items
pub record Run (A : Type 0) : Type 0 where
  -- cells 1 and 3 of a part's row; its items
  pub word : A → ℕ
  pub size : A → ℕ
  pub own : A → List (List ℕ)
  -- the part of a row with these items
  pub make : List ℕ → List (List ℕ) → A
  -- rows of the parts of i, the first item being number r; their items; the parts of rows
  pub rows : ℕ → ℕ → List A → List (List ℕ)
  pub items : List A → List (List ℕ)
  pub from : List (List ℕ) → List (List ℕ) → List A

-- a part has as many items as its row says, and the three lists go by parts
pub record Lawful {A : Type 0} (k : Run A) : Type 0 where
  pub sized : (a : A) → length (k.own a) ≡ k.size a
  pub made : (x : List ℕ) (l : List (List ℕ)) → (k.word (k.make x l) ≡ get_or x 1 0) × (k.size (k.make x l) ≡ length l)
  pub nil : (i r : ℕ) (is : List (List ℕ)) → (k.rows i r [] ≡ []) × (k.items [] ≡ []) × (k.from [] is ≡ [])
  pub cons : (i r : ℕ) (a : A) (s : List A) → (k.rows i r (a ∷ s) ≡ (i ∷ k.word a ∷ r ∷ k.size a ∷ []) ∷ k.rows i (r + k.size a) s) × (k.items (a ∷ s) ≡ k.own a ++ k.items s)
  pub step : (x : List ℕ) (xs is : List (List ℕ)) → k.from (x ∷ xs) is ≡ k.make x (take (get_or x 3 0) is) ∷ k.from xs (drop (get_or x 3 0) is)

-- the rows are those of the parts that come from them, each is as Ok says, and the items are theirs
abbrev pub RunsAre : {A : Type 0} → Run A → (A → Type 0) → ℕ → ℕ → List (List ℕ) → List (List ℕ) → Type 0
RunsAre k Ok i r xs is = (k.rows i r (k.from xs is) ≡ xs) × All Ok (k.from xs is) × Begins (k.items (k.from xs is)) is

module _ {A : Type 0} (k : Run A) (law : Lawful k) where
  -- a row is that of its part just where its cells say so
  row-to : (i r : ℕ) (x : List ℕ) (l : List (List ℕ)) → length x ≡ 4 → get_or x 0 0 ≡ i → get_or x 2 0 ≡ r → length l ≡ get_or x 3 0
      → (i ∷ k.word (k.make x l) ∷ r ∷ k.size (k.make x l) ∷ []) ≡ x
  row-to i r x l w e₀ e₂ e₃ = four-cells i (k.word (k.make x l)) r (k.size (k.make x l)) x w e₀ (sym (law.made x l).0) e₂ (sym ((law.made x l).1 ∙ e₃))

  pub runs_length : (xs is : List (List ℕ)) → length (k.from xs is) ≡ length xs
  runs_length [] is = rw (law.nil 0 0 is).2
  runs_length (x ∷ xs) is = rw (law.step x xs is) (ap suc (runs_length xs (drop (get_or x 3 0) is)))

  -- the number after the last item
  pub runs_end : (i r : ℕ) (xs is : List (List ℕ)) → k.rows i r (k.from xs is) ≡ xs → r + length (k.items (k.from xs is)) ≡ end_of r xs
  unfolding end_of
  runs_end i r [] is e = rw ((law.nil i r is).2, (law.nil i r is).1) (add-zero r)
  runs_end i r (x ∷ xs) is e =
      let c = get_or x 3 0 in
      let a = k.make x (take c is) in
      let s = k.from xs (drop c is) in
      let f : (i ∷ k.word a ∷ r ∷ k.size a ∷ []) ∷ k.rows i (r + k.size a) s ≡ x ∷ xs = sym (law.cons i r a s).0 ∙ ap (k.rows i r) (sym (law.step x xs is)) ∙ e in
      let l : k.size a ≡ c = ap (λ (z : List ℕ). get_or z 3 0) (cons_head f) in
      let q = runs_end i (r + c) xs (drop c is) (ap (λ (n : ℕ). k.rows i (r + n) s) (sym l) ∙ cons_tail f) in
      rw (law.step x xs is, (law.cons i r a s).1) (omega (arith, length-append (k.own a) (k.items s), law.sized a))

  module _ (Ok : A → Type 0) (i w : ℕ) (Row : List ℕ → Type 0) (f : List ℕ → List (List ℕ) → Bool) (four : (x : List ℕ) → Row x → length x ≡ 4)
      (each : (x : List ℕ) (l : List (List ℕ)) → Row x → All (Full w) l → Tests (f x l) ((get_or x 0 0 ≡ i) × Ok (k.make x l) × (k.own (k.make x l) ≡ l))) where
    pub runs_is : (r : ℕ) (xs is : List (List ℕ)) → All Row xs → All (Full w) is → Tests (groups_valid f r xs is) (RunsAre k Ok i r xs is)
    unfolding groups_valid
    runs_is r [] is wx wi = rw ((law.nil i r is).2, (law.nil i r is).0, (law.nil i r is).1) (yes-if (refl, tt, tt))
    runs_is r (x ∷ xs) is wx wi =
        let c = get_or x 3 0 in
        let l = take c is in
        let a = k.make x l in
        let s = k.from xs (drop c is) in
        rw (law.step x xs is, (law.cons i r a s).0, (law.cons i r a s).1)
        (via
        (λ h.
        let lc : length l ≡ c = h.1.0 in
        let g = h.1.1.0 in
        let t = h.1.1.1 in
        let ls : k.size a ≡ c = (law.made x l).1 ∙ lc in
        let er = ap₂ ◌∷◌ (row-to i r x l (four x wx.0) g.0 h.0 lc) (ap (λ (n : ℕ). k.rows i (r + n) s) ls ∙ t.0) in
        let bs = subst (λ (n : ℕ). Begins (k.items s) (drop n is)) (sym (law.sized a ∙ ls)) t.2 in
        (er, (g.1, t.1), begins-join (k.own a) (k.items s) is (take_begins c (k.own a) is g.2) bs))
        (λ h.
        let e : (i ∷ k.word a ∷ r ∷ k.size a ∷ []) ≡ x = cons_head h.0 in
        let cell : (j : ℕ) → get_or (i ∷ k.word a ∷ r ∷ k.size a ∷ []) j 0 ≡ get_or x j 0 = λ j. ap (λ (z : List ℕ). get_or z j 0) e in
        let ls : k.size a ≡ c = cell 3 in
        let lo : length (k.own a) ≡ c = law.sized a ∙ ls in
        let b = begins-split (k.own a) (k.items s) is h.2 in
        let eo = begins-take (k.own a) is c lo b.0 in
        let er = ap (λ (n : ℕ). k.rows i (r + n) s) (sym ls) ∙ cons_tail h.0 in
        let bs = subst (λ (n : ℕ). Begins (k.items s) (drop n is)) lo b.1 in
        (sym (cell 2), (sym (law.made x l).1 ∙ ls, ((sym (cell 0), h.1.0, eo), (er, h.1.1, bs)))))
        (both (eq_is (get_or x 2 0) r) (both (take-is c is) (both (each x l wx.0 (all_take (Full w) c is wi)) (runs_is (r + c) xs (drop c is) wx.1 (all_drop (Full w) c is wi))))))

-- ---- the two of a scene

abbrev pub sets_run : Run TriangleSet
sets_run =
    record {
      word = λ s. s.brush;
      size = λ s. length s.triangles;
      own = λ s. s.triangles;
      make = λ x l. record { brush = get_or x 1 0; triangles = l };
      rows = set_rows;
      items = triangle_rows;
      from = sets_from;
    }

abbrev pub lists_run : Run Keys
lists_run =
    record {
      word = λ k. k.flags;
      size = λ k. length k.items;
      own = λ k. map (padded (key_mask k.flags)) k.items;
      make = λ x l. record { flags = get_or x 1 0; items = map (present_words (key_mask (get_or x 1 0))) l };
      rows = list_rows;
      items = key_rows;
      from = keys_from;
    }

pub sets_law : Lawful sets_run
unfolding set_rows triangle_rows sets_from
sets_law = record { sized = λ s. refl; made = λ x l. (refl, refl); nil = λ i r is. (refl, refl, refl); cons = λ i r a s. (refl, refl); step = λ x xs is. refl }

pub lists_law : Lawful lists_run
unfolding list_rows key_rows keys_from
lists_law =
    record {
      sized = λ k. length-map k.items (padded (key_mask k.flags));
      made = λ x l. (refl, length-map l (present_words (key_mask (get_or x 1 0))));
      nil = λ i r is. (refl, refl, refl);
      cons = λ i r a s. (refl, refl);
      step = λ x xs is. refl;
    }
