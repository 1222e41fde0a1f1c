-- A law for each way through `find_chunks`.
use Rattle.std.specs.Prelude.{Some, None}
use Rattle.std.specs.Prelude as std
use Rattle.b3d_chunk_cursor.specs.declared.Named.{Named}
use mathlib.Core.Path.{◌≡◌, refl, sym, ap, ap₂, subst, ◌∙◌}
use Prim.Native.Nat.{ℕ, zero, suc, ◌+◌, ◌-◌, ◌*◌, ◌<◌, ◌≤◌}
use native.Mathlib.Omega.{arith}
use mathlib.Core.Bool.{Bool}
use mathlib.Core.List.{List, [], ◌∷◌, ◌++◌, append_assoc}
use lib.ListN.{length, take, drop, length-append, length-replicate}
use Rattle.wire.specs.Bytes.{word_at, AllBytes}
use Rattle.wire.specs.Cursors.{Inside, left, number_at}
use Rattle.wire.specs.declared.Cursor.{Cursor}
use Rattle.wire.proofs.LeftLaws.{span, left-length, left-four, left-drop, left-bytes}
use Rattle.wire.proofs.AnswerLaws.{numbered, number_cut, Texted, texted}
use Rattle.layout.specs.Result.{Result, accept, reject}
use Rattle.layout.specs.Parts.{Name, Step, words_of, named}
use Rattle.layout.specs.Rules.{any, names_or_none}
use Rattle.layout.specs.Write.{write_words, write_text}
use Rattle.shared_output.proofs.AppendLaws.{text-append, text-zero}
use Rattle.b3d_chunk_cursor.specs.Chunks.{named_at, RowIn, NamedIn}
use Rattle.b3d_chunk_cursor.proofs.NamedLaws.{named-cut, named-any, named-among}
use Rattle.b3d_spec.specs.Rules.{node_row, mesh_head}
use Rattle.b3d_spec.specs.declared.Tag.{Tag}
use Rattle.b3d_spec.specs.declared.Tag.TheVariants.{NODE, MESH}
use Rattle.b3d_mend_spec.specs.Edits.{keep}
use Rattle.b3d_mend_spec.specs.Pieces.{Pieces, chunks_of}
use Rattle.b3d_mend_spec.specs.Walks.{word_edit, word_edits}
use Rattle.b3d_mend_write_spec.specs.Shown.{shown}
use Rattle.b3d_mend_write_spec.proofs.ShowsLaws.{shown-none}
use Rattle.b3d_mend_write_edits.proofs.SliceLaws.{words_slice, left-first}
use Rattle.b3d_mend_write_brushes.proofs.BrushPutLaws.{take-over}
use Rattle.b3d_mend_write_brushes.proofs.ListPutLaws.{named-text}
use Rattle.b3d_mend_spec.proofs.StepLaws.{pieces_none}
use Rattle.b3d_mend_write_scopes.specs.Shown.{ChunkShown, walked, node_scope, mesh_scope, walk_chunks, shown_pieces, walk_inside, walk_leaf, walk_node, walk_chunk}
use Rattle.b3d_mend_write_scopes.specs.declared.Scope.{Scope}
use Rattle.b3d_mend_write_scopes.specs.Opens.{node_front, mesh_front, walk_from, OpeningIs}
use Rattle.b3d_mend_write_scopes.specs.declared.Opening.TheVariants as opening

module _ (s : List ℕ) (l : ℕ) (t : Tag) (b : Cursor) where
  pub open_last : l ≡ 0 → OpeningIs s l t b opening.Flat
  unfolding walk_chunk
  open_last e = record { is = (λ report k p h. rw e) }

pos : (m : ℕ) → (m ≡ 0 → ⊥) → 0 < m
pos zero u = absurd (u refl)
pos (suc m) u = omega arith

-- ---- NODE

-- a name and the words after it, as they stand
row-stands : (s : List ℕ) (c : Cursor) (words len : ℕ) (w n : Cursor) → AllBytes s → Inside c (length s) → Texted s c len w → RowIn c len w n words
    → write_text (take len (left c s)) (write_words (words_of words (left w s)) []) ≡ take (n.at - c.at) (drop c.at s)
row-stands s c words len w n h i t f =
    let name = take len (left c s) in
    let j : Inside w (length s) = record { before = omega (arith, f.after, f.to, f.same, f.row_same); within = omega (arith, f.row_same, i.within) } in
    let a = length-append name (0 ∷ []) in
    let q : length (name ++ (0 ∷ [])) + 4 * words ≡ n.at - c.at = omega (arith, t.long, f.row, f.after) in
    text-append name (write_words (words_of words (left w s)) [])
    ∙ ap₂ ◌++◌ (text-zero name) (words_slice words (left w s) (left-bytes s w h) (omega (arith, left-length s w j, f.after, f.to, f.same, f.row_same)))
    ∙ sym (take-over (name ++ (0 ∷ [])) (left w s) (4 * words))
    ∙ ap₂ take q (append_assoc name (0 ∷ []) (left w s) ∙ sym t.is)
    ∙ left-first s c (n.at - c.at) i (omega (arith, f.row, f.after, f.to, f.same))

node-cut : (report : Bool) (k : Scope) (p n q : ℕ) (b : List ℕ) → named node_row (p + 8) b ≡ reject n q → (l : ℕ) → walk_chunk report l k NODE p b ≡ walk_leaf report k NODE p b
unfolding walk_chunk walk_leaf walk_node
node-cut report k p n q b e zero = refl
node-cut report k p n q b e (suc l) = ap (λ (o : Result (Step (Name × List ℕ))). walked (walk_node report (walk_chunk report l) k (p + 8) b o) 0) e

node_got : (report : Bool) (k : Scope) (p : ℕ) (b : List ℕ) (h : Step (Name × List ℕ)) → named node_row (p + 8) b ≡ accept h → (l : ℕ) → (l ≡ 0 → ⊥)
    → walk_chunk report l k NODE p b
    ≡ walked (shown report (p + 8) (keep (write_text h.value.0.bytes (write_words h.value.1 [])) ∷ []) ++ (walk_inside report (walk_chunk report (l - 1)) (node_scope k) h.place h.left).bytes) 0
unfolding walk_chunk walk_node
node_got report k p b h e zero d = absurd (d refl)
node_got report k p b h e (suc l) d =
    ap (λ (o : Result (Step (Name × List ℕ))). walked (walk_node report (walk_chunk report l) k (p + 8) b o) 0) e
    ∙ ap (λ (n : ℕ). walked (shown report (p + 8) (keep (write_text h.value.0.bytes (write_words h.value.1 [])) ∷ []) ++ (walk_inside report (walk_chunk report n) (node_scope k) h.place h.left).bytes) 0)
    (let z : l ≡ suc l - 1 = omega arith in z)

module _ (s : List ℕ) (l : ℕ) (t : Tag) (b : Cursor) (e : t ≡ NODE) (i : Inside b (length s)) (r : std.Option Named) (q : r ≡ named_at s b 10) where
  pub open_cut : r ≡ None → OpeningIs s l t b opening.Flat
  open_cut w = record {
    is = (λ report k p h.
        ap (λ (u : Tag). walk_chunk report l k u p (left b s)) e
        ∙ node-cut report k p 5 (p + 8) (left b s) (subst (λ (n : ℕ). named node_row n (left b s) ≡ reject 5 n) h (named-cut s b 10 i node_row (length-replicate 10 any) r q w)) l
        ∙ sym (ap (λ (u : Tag). walk_leaf report k u p (left b s)) e));
  }

  module _ (d : l ≡ 0 → ⊥) (h : AllBytes s) (j : NamedIn b 10 r) (g : Named) (x : r ≡ Some g) where
    abbrev found : Step (Name × List ℕ)
    found = record { value = (record { place = b.at; bytes = take g.length (left b s) }, words_of 10 (left g.row s)); place = g.next.at; left = left g.next s }

    stands : write_text (take g.length (left b s)) (write_words (words_of 10 (left g.row s)) []) ≡ take (g.next.at - b.at) (drop b.at s)
    stands = row-stands s b 10 g.length g.row g.next h i (texted s b g.length g.row (named-text s b 10 g (sym q ∙ x))) (named-among b 10 r j g x)

    pub open_node : OpeningIs s l t b (opening.Node g.next)
    unfolding node_front walk_from
    open_node =
        let f = named-among b 10 r j g x in
        record {
          is = record {
            levels = pos l d;
            after = omega (arith, f.row, f.after);
            inside = record { before = f.to; within = omega (arith, f.same, i.within) };
            room = omega (arith, f.row, f.after, f.to, f.same, i.within);
            always = (λ report k p z.
                ap (λ (u : Tag). walk_chunk report l k u p (left b s)) e
                ∙ node_got report k p (left b s) found (subst (λ (m : ℕ). named node_row m (left b s) ≡ accept found) z (named-any s b 10 i r q g x)) l d
                ∙ ap₂ (λ (m : ℕ) (y : List ℕ). walked (shown report m (keep y ∷ []) ++ (walk_inside report (walk_chunk report (l - 1)) (node_scope k) g.next.at (left g.next s)).bytes) 0) (sym z) stands);
          };
        }

-- ---- MESH

first_word : (s : List ℕ) (c : Cursor) → Inside c (length s) → c.at + 4 ≤ c.end → words_of 1 (left c s) ≡ word_at s c.at ∷ []
unfolding word_at
first_word s c i h = rw (left-four s c (span (c.at + 4) c.end) i h refl refl)

none_inside : (report : Bool) (one : Scope → Tag → ℕ → List ℕ → ChunkShown) (k : Scope) (p : ℕ) → walk_inside report one k p [] ≡ walked [] k.own
unfolding walk_inside walk_chunks shown_pieces chunks_of
none_inside report one k p = ap (λ (x : Pieces). let y = walk_chunks one k (chunks_of x) in walked (shown_pieces report x y.bodies) y.own) (pieces_none p)

few_words : (b : List ℕ) → length b < 4 → (words_of 1 b ≡ []) × (drop 4 b ≡ [])
few_words [] h = (refl, refl)
few_words (x ∷ []) h = (refl, refl)
few_words (x ∷ y ∷ []) h = (refl, refl)
few_words (x ∷ y ∷ z ∷ []) h = (refl, refl)
few_words (x ∷ y ∷ z ∷ u ∷ b) h = absurd (omega arith)

abbrev mesh-by : Bool → ℕ → Scope → ℕ → ℕ → List ℕ → List ℕ → ChunkShown
mesh-by report l k p q ws b = let x = walk_inside report (walk_chunk report l) (mesh_scope k) q b in walked (shown report p (word_edits (mesh_head k.brushes) ws) ++ x.bytes) x.count

mesh_got : (report : Bool) (k : Scope) (p : ℕ) (b : List ℕ) (l : ℕ) → (l ≡ 0 → ⊥) → walk_chunk report l k MESH p b ≡ mesh-by report (l - 1) k (p + 8) (p + 8 + 4) (words_of 1 b) (drop 4 b)
unfolding walk_chunk
mesh_got report k p b zero d = absurd (d refl)
mesh_got report k p b (suc l) d = let z : l ≡ suc l - 1 = omega arith in ap (λ (n : ℕ). mesh-by report n k (p + 8) (p + 8 + 4) (words_of 1 b) (drop 4 b)) z

mesh-none : (report : Bool) (k : Scope) (p q l : ℕ) → mesh-by report l k p q [] [] ≡ walked [] 0
unfolding mesh_scope word_edits
mesh-none report k p q l = rw (none_inside report (walk_chunk report l) (mesh_scope k) q, shown-none report p)

mesh-word : (report : Bool) (k : Scope) (p q l v : ℕ) (b : List ℕ)
    → mesh-by report l k p q (v ∷ []) b ≡ let x = walk_inside report (walk_chunk report l) (mesh_scope k) q b in walked (shown report p (word_edit (names_or_none k.brushes) v ∷ []) ++ x.bytes) x.count
unfolding word_edits
mesh-word report k p q l v b = refl

module _ (s : List ℕ) (l : ℕ) (t : Tag) (b : Cursor) (e : t ≡ MESH) (d : l ≡ 0 → ⊥) (i : Inside b (length s)) (r : std.Option (ℕ × Cursor)) (q : r ≡ number_at s b) where
  pub open_short : r ≡ None → OpeningIs s l t b opening.Nothing
  open_short w =
      let h : length (left b s) < 4 = omega (arith, left-length s b i, number_cut s b (sym q ∙ w)) in
      record {
        is = (λ report k p z.
            ap (λ (u : Tag). walk_chunk report l k u p (left b s)) e ∙ mesh_got report k p (left b s) l d
            ∙ ap₂ (mesh-by report (l - 1) k (p + 8) (p + 8 + 4)) (few_words (left b s) h).0 (few_words (left b s) h).1
            ∙ mesh-none report k (p + 8) (p + 8 + 4) (l - 1));
      }

  module _ (v : ℕ) (n : Cursor) (x : r ≡ Some (v, n)) where
    pub open-mesh : OpeningIs s l t b (opening.Mesh n)
    unfolding mesh_front walk_from
    open-mesh =
        let f = numbered s b v n (sym q ∙ x) in
        record {
          is = record {
            levels = pos l d;
            after = omega (arith, f.to);
            inside = record { before = omega (arith, f.room, f.to, f.same); within = omega (arith, f.same, i.within) };
            room = omega (arith, f.room, i.within);
            always = (λ report k p z.
                ap (λ (u : Tag). walk_chunk report l k u p (left b s)) e ∙ mesh_got report k p (left b s) l d
                ∙ ap₂ (mesh-by report (l - 1) k (p + 8) (p + 8 + 4)) (first_word s b i f.room) (sym (left-drop s b 4 n f.to f.same))
                ∙ mesh-word report k (p + 8) (p + 8 + 4) (l - 1) (word_at s b.at) (left n s)
                ∙ ap₂ (λ (m o : ℕ). let y = walk_inside report (walk_chunk report (l - 1)) (mesh_scope k) o (left n s) in walked (shown report m (word_edit (names_or_none k.brushes) (word_at s b.at) ∷ []) ++ y.bytes) y.count) (sym z) (ap (λ (m : ℕ). m + 4) (sym z) ∙ sym f.to));
          };
        }

pub ruleset open_laws = (open_last, open_cut, open_node, open_short, open-mesh)
