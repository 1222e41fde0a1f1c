-- A node's row put together: the cells of its name and its parent, its ten numbers, and the eight cells of its chunks.
use Rattle.std.specs.Prelude.{Some, None}
use Rattle.std.specs.Prelude as std
use Rattle.b3d_chunk_cursor.specs.declared.Named.{Named}
use mathlib.Core.Path.{◌≡◌, refl, ap, sym, ◌∙◌}
use Prim.Native.Nat.{ℕ, ◌+◌, ◌<◌, ◌≤◌}
use native.Mathlib.Omega.{arith}
use mathlib.Core.List.{List, [], ◌∷◌, ◌++◌}
use lib.ListN.{length, take}
use lib.Seq.{sets, length-take-le}
use Rattle.wire.specs.Cursors.{Inside, left}
use Rattle.wire.specs.declared.Cursor.{Cursor}
use Rattle.wire.proofs.LeftLaws.{left-length}
use Rattle.layout.specs.Result.{Result, accept, reject}
use Rattle.layout.specs.Parts.{Name, Step, words_of, named as named_of}
use Rattle.layout.proofs.StepLaws.{length-words-of}
use Rattle.layout.specs.Rows.{name_cells}
use Rattle.b3d_spec.specs.declared.Counts.{Counts}
use Rattle.b3d_spec.specs.Rules.{node_row as node_words}
use Rattle.b3d_spec.specs.Tables.{node_row}
use Rattle.b3d_spec.specs.Tags.{Chunks}
use Rattle.shared_table_words.proofs.StoreLaws.{sets-append}
use Rattle.b3d_chunk_cursor.specs.Chunks.{named_at, NamedIn}
use Rattle.b3d_chunk_cursor.proofs.NamedLaws.{named-cut, named-any, named-among, row_inside, row_room}
use Rattle.b3d_spec_plain_rows.specs.Rows.{nodes_before, row_of}
use Rattle.b3d_chunk_walk.specs.Walks.{BodyAt}
use Rattle.b3d_read_node_cells.specs.Parts.{part_cells}
use Rattle.b3d_read_nodes.specs.RowWith.{row_with, RowRead}

-- ---- `store_row`

module _ (s : List ℕ) (p : ℕ) (b : Cursor) (len : ℕ) (w : Cursor) (y : RowRead s p b len w) where
  abbrev here : Named
  here = record { length = len; row = w; next = y.after }

  body-inside : Inside b (length s)
  body-inside = record { before = y.body.room; within = y.body.within }

  pub row-place : length s < 0x100000000 → b.at < 0x100000000
  row-place small = omega (arith, y.body.room, y.body.within)

  pub row-size : length s < 0x100000000 → len < 0x100000000
  row-size small = let f = y.among in omega (arith, y.body.within, f.row, f.after, f.to, f.same)

  pub row-numbers : Inside w (length s)
  row-numbers = row_inside b 10 (Some here) y.among here refl (length s) body-inside

  pub row-ten : w.at + 40 ≤ w.end
  row-ten = row_room b 10 (Some here) y.among here refl

  ten-long : length (words_of 10 (left w s)) ≡ 10
  ten-long = length-words-of 10 (left w s) (omega (arith, left-length s w row-numbers, row-ten))

  row_is : (cs : Chunks) (parent below : ℕ) (k : Counts) → row_with (named_of node_words (p + 8) (left b s)) cs parent below k ≡ (b.at ∷ len ∷ parent ∷ []) ++ (words_of 10 (left w s) ++ part_cells cs below k)
  unfolding row_with node_row name_cells part_cells
  row_is cs parent below k =
      let c = ap (λ (j : ℕ). named_of node_words j (left b s)) (sym y.body.head) ∙ named-any s b 10 body-inside (Some here) y.is here refl in
      let f = y.among in
      let l : length (take len (left b s)) ≡ len = length-take-le len (left b s) (omega (arith, left-length s b body-inside, f.row, f.after, f.to, f.same)) in
      ap (λ (o : Result (Step (Name × List ℕ))). row_with o cs parent below k) c ∙ ap (λ (j : ℕ). b.at ∷ j ∷ parent ∷ (words_of 10 (left w s) ++ part_cells cs below k)) l

  pub row_put : (cs : Chunks) (parent below : ℕ) (k : Counts) (base : ℕ) (out : List ℕ) (i₀ i₁ : ℕ) → i₀ ≡ b.at → i₁ ≡ len
      → (o₁ o₂ o₃ parts : List ℕ) → o₁ ≡ sets out base (i₀ ∷ i₁ ∷ parent ∷ []) → o₂ ≡ sets o₁ (base + 3) (words_of 10 (left w s)) → parts ≡ part_cells cs below k → o₃ ≡ sets o₂ (base + 13) parts
      → o₃ ≡ sets out base (row_with (named_of node_words (p + 8) (left b s)) cs parent below k)
  row_put cs parent below k base out i₀ i₁ e₀ e₁ o₁ o₂ o₃ parts f₁ f₂ ep f₃ =
      let ws = words_of 10 (left w s) in
      let h = b.at ∷ len ∷ parent ∷ [] in
      let g₁ : o₁ ≡ sets out base h = rw (← e₀, ← e₁) f₁ in
      let p₁ : base + 3 + length ws ≡ base + 13 = omega (arith, ten-long) in
      f₃ ∙ ap (sets o₂ (base + 13)) ep ∙ ap (λ (l : List ℕ). sets l (base + 13) (part_cells cs below k)) f₂ ∙ ap (λ (j : ℕ). sets (sets o₁ (base + 3) ws) j (part_cells cs below k)) (sym p₁)
      ∙ sym (sets-append ws (part_cells cs below k) o₁ (base + 3)) ∙ ap (λ (l : List ℕ). sets l (base + 3) (ws ++ part_cells cs below k)) g₁ ∙ sym (sets-append h (ws ++ part_cells cs below k) out base)
      ∙ ap (sets out base) (sym (row_is cs parent below k))

pub ruleset row_laws = (row-place, row-size, row-numbers, row-ten, row_put)

-- ---- `store_node`

-- the branch word that a row is to have
pub row-with : (o : Result (Step (Name × List ℕ))) (cs : Chunks) (parent end : ℕ) (n : Counts) → row_of o cs parent end n ≡ row_with o cs parent (nodes_before end cs) n
unfolding row_of row_with
row-with (accept x) cs parent end n = refl
row-with (reject i p) cs parent end n = refl

module _ (s : List ℕ) (p : ℕ) (b : Cursor) (y : BodyAt s p b) where
  pub node-inside : Inside b (length s)
  node-inside = record { before = y.room; within = y.within }

  module _ (r : std.Option Named) (e : r ≡ named_at s b 10) where
    pub node-cut : r ≡ None → (cs : Chunks) (parent end : ℕ) (k : Counts) (base : ℕ) (out : List ℕ) → out ≡ sets out base (row_of (named_of node_words (p + 8) (left b s)) cs parent end k)
    unfolding row_of
    node-cut q cs parent end k base out =
        let c : named_of node_words (p + 8) (left b s) ≡ reject 5 b.at = ap (λ (j : ℕ). named_of node_words j (left b s)) (sym y.head) ∙ named-cut s b 10 node-inside node_words refl r e q in
        sym (ap (λ (o : Result (Step (Name × List ℕ))). sets out base (row_of o cs parent end k)) c)

    pub node-read : NamedIn b 10 r → (f : Named) → r ≡ Some f → RowRead s p b f.length f.row
    node-read i f q = record { body = y; after = f.next; is = sym q ∙ e; among = named-among b 10 r i f q }

pub node_row_is : (o : Result (Step (Name × List ℕ))) (cs : Chunks) (parent end : ℕ) (k : Counts) (base : ℕ) (out put : List ℕ) (below : ℕ) → below ≡ nodes_before end cs
    → put ≡ sets out base (row_with o cs parent below k) → put ≡ sets out base (row_of o cs parent end k)
node_row_is o cs parent end k base out put below eb ep =
    ep ∙ ap (λ (j : ℕ). sets out base (row_with o cs parent j k)) eb ∙ ap (sets out base) (sym (row-with o cs parent end k))

pub ruleset node_laws = (node-inside, node-cut, node-read, node_row_is)
