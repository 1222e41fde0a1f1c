-- The way up through rows that stand in a table: the loop of `parent_at`.
use mathlib.Core.Path.{◌≡◌, refl, ap, sym, subst, ◌∙◌}
use Prim.Native.Nat.{ℕ, zero, suc, ◌+◌, ◌-◌, ◌*◌, ◌<◌, ◌≤◌}
use native.Mathlib.Omega.{arith}
use mathlib.Core.Bool.{Bool, not}
use mathlib.Core.List.{List, [], ◌∷◌}
use mir.Syntax.{w64}
use mir.Val.{Fits}
use lib.ListN.{length, drop, get_or, drop_of_length-le}
use lib.Seq.{drop-drop}
use lib.Dec.{T, leb, leb→le, le→leb, nleb→lt}
use borrow.Author.Tests.{lt-leb}
use Rattle.wire.specs.Test.{if}
use Rattle.wire.specs.Bytes.{word_at}
use Rattle.layout.specs.Rules.{NONE}
use Rattle.layout.proofs.ResultLaws.{if_yes, if_no, by_test}
use Rattle.b3d_spec.specs.Tables.{node_width}
use Rattle.b3d_spec_plain_rows.specs.Rows.{Open, parent_at}
use Rattle.b3d_read_node_parents.specs.Links.{Link, Linked, Climbable, ParentIs}

-- ---- open nodes

-- a node that is closed is passed over, one that is open is the parent
closed : (p : ℕ) (o : Open) (l : List Open) → o.end ≤ p → parent_at p (o ∷ l) ≡ parent_at p l
unfolding parent_at
closed p o l h = if_yes (leb o.end p) _ _ (le→leb o.end p h)

still_open : (p : ℕ) (o : Open) (l : List Open) → p < o.end → parent_at p (o ∷ l) ≡ o.index
unfolding parent_at
still_open p o l h = if_no (leb o.end p) _ _ (subst (λ (b : Bool). T (not b)) (sym (lt-leb o.end p h)) tt)

module _ (s rows : List ℕ) (p : ℕ) where
  -- the node of which so many stand before
  record Found (k : ℕ) (l : List Open) : Type 0 where
    node : Open
    before : List Open
    is : drop k l ≡ node ∷ before
    long : length l ≡ k + 1 + length before
    link : Link s rows p before node
    more : Linked s rows p before

  found : (k : ℕ) (l : List Open) → Linked s rows p l → k < length l → Found k l
  found k [] h lt = absurd (omega arith)
  found zero (o ∷ l) h lt = record { node = o; before = l; is = refl; long = omega arith; link = h.0; more = h.1 }
  found (suc k) (o ∷ l) h lt =
      let f = found k l h.1 (omega arith) in
      record { node = f.node; before = f.before; is = f.is; long = omega (arith, f.long); link = f.link; more = f.more }

  -- the one above at q: where none is open at q, none is at p; else none between it and the last is
  module _ (q : ℕ) (le : q ≤ p) where
    none_above : (l : List Open) → Linked s rows p l → length l < NONE → parent_at q l ≡ NONE → parent_at p l ≡ NONE
    unfolding parent_at
    none_above [] h few e = refl
    none_above (o ∷ l) h few e =
        by_test (leb o.end q)
        (λ t. let c : o.end ≤ q = leb→le o.end q t in closed p o l (omega arith) ∙ none_above l h.1 (omega arith) (sym (closed q o l c) ∙ e))
        (λ t. let c : q < o.end = nleb→lt o.end q t in absurd (omega (arith, sym (still_open q o l c) ∙ e, h.0.index_is)))

    record Above (l : List Open) (a : ℕ) : Type 0 where
      low : a < length l
      same : parent_at p l ≡ parent_at p (drop (length l - (a + 1)) l)

    above : (l : List Open) → Linked s rows p l → (a : ℕ) → parent_at q l ≡ a → (a ≡ NONE → ⊥) → Above l a
    unfolding parent_at
    above [] h a e d = absurd (d (sym e))
    above (o ∷ l) h a e d =
        by_test (leb o.end q)
        (λ t. let c : o.end ≤ q = leb→le o.end q t in
        let f = above l h.1 a (sym (closed q o l c) ∙ e) d in
        let k : suc (length l) - (a + 1) ≡ suc (length l - (a + 1)) = omega (arith, f.low) in
        record { low = omega (arith, f.low); same = closed p o l (omega arith) ∙ f.same ∙ ap (λ (j : ℕ). parent_at p (drop j (o ∷ l))) (sym k) })
        (λ t. let c : q < o.end = nleb→lt o.end q t in
        let i : length l ≡ a = sym h.0.index_is ∙ sym (still_open q o l c) ∙ e in
        let k : suc (length l) - (a + 1) ≡ 0 = omega (arith, i) in
        record { low = omega (arith, i); same = ap (λ (j : ℕ). parent_at p (drop j (o ∷ l))) (sym k) })

-- ---- the loop

-- of the first i nodes the last that is open at p is the last of all that is
pub record ClimbLeft (s rows : List ℕ) (nodes p i : ℕ) : Type 0 where
  pub some : Climbable s rows nodes p
  pub low : i ≤ nodes
  pub same : (l : List Open) → Linked s rows p l → length l ≡ nodes → parent_at p l ≡ parent_at p (drop (nodes - i) l)

module _ (s rows : List ℕ) (nodes p : ℕ) where
  pub climb_start : Climbable s rows nodes p → ClimbLeft s rows nodes p nodes
  climb_start c = let z : nodes - nodes ≡ 0 = omega arith in record { some = c; low = omega arith; same = λ l h e. ap (λ (j : ℕ). parent_at p (drop j l)) (sym z) }

  module _ (i : ℕ) (v : ClimbLeft s rows nodes p i) where
    pub climb_end : i ≤ 0 → ParentIs s rows nodes p NONE
    unfolding parent_at
    climb_end h = record { is = λ l x e. sym (v.same l x e ∙ ap (parent_at p) (drop_of_length-le l {i = nodes - i} (omega arith))) }

    module _ (pos : 0 < i) where
      at_node : (l : List Open) → Linked s rows p l → length l ≡ nodes → Found s rows p (nodes - i) l
      at_node l x e = found s rows p (nodes - i) l x (omega (arith, v.low))

      last : Found s rows p (nodes - i) v.some.opens
      last = at_node v.some.opens v.some.linked v.some.long

      nth : (l : List Open) (f : Found s rows p (nodes - i) l) → length l ≡ nodes → length f.before ≡ i - 1
      nth l f e = omega (arith, f.long, v.low)

      pub climb_row : node_width * (i - 1) < length rows
      climb_row = omega (arith, v.low, v.some.room)

      pub climb_cell : node_width * (i - 1) + 2 < length rows
      climb_cell = omega (arith, v.low, v.some.room)

      pub climb_index : i - 1 < 0x100000000
      climb_index = omega (arith, v.low, v.some.few)

      module _ (name : ℕ) (en : name ≡ get_or rows (node_width * (i - 1)) 0) where
        -- the row of node i - 1, whichever the nodes are
        name_of : (l : List Open) (f : Found s rows p (nodes - i) l) → length l ≡ nodes → name ≡ f.link.head + 8
        name_of l f e = en ∙ ap (λ (j : ℕ). get_or rows (node_width * j) 0) (sym (nth l f e)) ∙ f.link.name_is

        pub name_low : 4 ≤ name
        name_low = omega (arith, name_of v.some.opens last v.some.long)

        pub name_inside : name - 4 + 4 ≤ length s
        name_inside = omega (arith, name_of v.some.opens last v.some.long, last.link.within, last.link.end_is)

        module _ (w : ℕ) (ew : w ≡ word_at s (name - 4)) (long : ℕ) (el : long ≡ w) where
          end_of : (l : List Open) (f : Found s rows p (nodes - i) l) → length l ≡ nodes → f.node.end ≡ name + long
          end_of l f e =
              let n = name_of l f e in
              let k : name - 4 ≡ f.link.head + 4 = omega (arith, n) in
              let u : long ≡ word_at s (f.link.head + 4) = el ∙ ew ∙ ap (word_at s) k in
              omega (arith, f.link.end_is, n, u)

          pub name_fits : Fits w64 (name + long)
          name_fits = record { fits = omega (arith, end_of v.some.opens last v.some.long, last.link.within, v.some.small) }

          pub climb_found : p < name + long → (r : ℕ) → r ≡ i - 1 → ParentIs s rows nodes p r
          climb_found h r er = record {
            is = λ l x e.
                let f = at_node l x e in
                er ∙ sym (nth l f e) ∙ sym f.link.index_is ∙ sym (still_open p f.node f.before (omega (arith, end_of l f e))) ∙ ap (parent_at p) (sym f.is) ∙ sym (v.same l x e);
          }

          module _ (h : name + long ≤ p) (above-cell : ℕ) (ea : above-cell ≡ get_or rows (node_width * (i - 1) + 2) 0) where
            cell-of : (l : List Open) (f : Found s rows p (nodes - i) l) → length l ≡ nodes → parent_at f.link.head f.before ≡ above-cell
            cell-of l f e = sym f.link.above_is ∙ ap (λ (j : ℕ). get_or rows (node_width * j + 2) 0) (nth l f e) ∙ sym ea

            passed : (l : List Open) (x : Linked s rows p l) (e : length l ≡ nodes) → parent_at p l ≡ parent_at p (at_node l x e).before
            passed l x e = let f = at_node l x e in v.same l x e ∙ ap (parent_at p) f.is ∙ closed p f.node f.before (omega (arith, end_of l f e))

            pub climb_none : above-cell ≡ 0xFFFFFFFF → ParentIs s rows nodes p 0xFFFFFFFF
            climb_none z = record {
              is = λ l x e.
                  let f = at_node l x e in
                  sym (passed l x e ∙ none_above s rows p f.link.head f.link.before f.before f.more (omega (arith, nth l f e, v.low, v.some.few)) (cell-of l f e ∙ z));
            }

            module _ (d : above-cell ≡ 0xFFFFFFFF → ⊥) (j : ℕ) (ej : j ≡ above-cell) where
              up : (l : List Open) (x : Linked s rows p l) (e : length l ≡ nodes) → Above s rows p (at_node l x e).link.head (at_node l x e).link.before (at_node l x e).before above-cell
              up l x e = let f = at_node l x e in above s rows p f.link.head f.link.before f.before f.more above-cell (cell-of l f e) d

              low : above-cell < i - 1
              low = let l = v.some.opens in let x = v.some.linked in let e = v.some.long in omega (arith, (up l x e).low, nth l (at_node l x e) e)

              pub climb_less : j + 1 < i
              climb_less = omega (arith, low)

              pub climb_fits : Fits w64 (j + 1)
              climb_fits = record { fits = omega (arith, low, v.low, v.some.few) }

              pub climb_up : ClimbLeft s rows nodes p (j + 1)
              climb_up = record {
                some = v.some;
                low = omega (arith, low, v.low);
                same = λ l x e.
                    let f = at_node l x e in
                    let u = up l x e in
                    let b : drop (nodes - i + 1) l ≡ f.before = sym (drop-drop 1 (nodes - i) l) ∙ ap (drop 1) f.is in
                    let k : nodes - i + 1 + (length f.before - (above-cell + 1)) ≡ nodes - (j + 1) = omega (arith, nth l f e, low, v.low) in
                    let t : drop (length f.before - (above-cell + 1)) f.before ≡ drop (nodes - (j + 1)) l =
                    ap (drop (length f.before - (above-cell + 1))) (sym b) ∙ drop-drop (length f.before - (above-cell + 1)) (nodes - i + 1) l ∙ ap (λ (m : ℕ). drop m l) k in
                    passed l x e ∙ u.same ∙ ap (parent_at p) t;
              }

pub ruleset climb_laws = (climb_start, climb_end, climb_row, climb_cell, climb_index, name_low, name_inside, climb_found, climb_none, climb_less, climb_fits, climb_up, name_fits)
