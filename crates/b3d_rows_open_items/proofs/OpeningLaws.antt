-- How the items of a chunk are begun, and the row of one: a law for each need.
use Rattle.std.specs.Prelude.{Some, None}
use Rattle.std.specs.Prelude as std
use Rattle.b3d_chunk_walk.specs.declared.Sought.{Sought}
use mathlib.Core.Path.{◌≡◌, refl, ap, sym, ◌∙◌}
use Prim.Native.Nat.{ℕ, ◌+◌, ◌-◌, ◌*◌, ◌%◌, ◌≤◌}
use native.Mathlib.Omega.{arith}
use mathlib.Core.List.{List, [], ◌∷◌, map, append-nil}
use lib.ListN.{length}
use lib.Seq.{sets}
use lib.Dec.{eqb}
use borrow.Author.Tests.{ne_eqb}
use Rattle.wire.specs.Test.{if}
use Rattle.wire.specs.Cursors.{Inside, left}
use Rattle.wire.specs.declared.Cursor.{Cursor}
use Rattle.wire.proofs.LeftLaws.{span, left-nil}
use Rattle.layout.specs.Parts.{words_of, items_of}
use Rattle.layout.specs.Rows.{joined}
use Rattle.b3d_spec.specs.declared.Tag.TheVariants.{VRTS}
use Rattle.b3d_spec.specs.Mask.{ones, padded, vertex_mask, key_mask}
use Rattle.b3d_spec.specs.Rules.{vertex_words}
use Rattle.b3d_spec.proofs.Rows.MaskLaws.{vertex-words}
use Rattle.b3d_spec_plain_rows.specs.Plain.{whole, plain_keys, plain_vertices, plain_weights, plain_triangles, shape_of}
use Rattle.b3d_chunk_walk.specs.Walks.{BodyAt}
use Rattle.b3d_chunk_walk.specs.Seeks.{seek_of, ahead, Seeks, FirstWord, ThreeWords}
use Rattle.b3d_chunk_walk.specs.declared.Headed.{Headed}
use Rattle.b3d_chunk_walk.specs.declared.Three.{Three}
use Rattle.b3d_chunk_walk.proofs.SeekLaws.{sought_none, sought_is, sought_body}
use Rattle.b3d_chunk_walk.proofs.MeshLaws.{mesh-inside, mesh-inner}
use Rattle.b3d_chunk_walk.proofs.FirstWordLaws.{word-inside}
use Rattle.b3d_rule_widths.specs.Widths.{Clipped}
use Rattle.b3d_rule_widths.proofs.ClipLaws.{mask_clipped}
use Rattle.b3d_read_item_rows.specs.Items.{shape_rows, key_rows_of}
use Rattle.b3d_read_mesh_rows.specs.Meshes.{vertices_in}
use Rattle.b3d_read_mesh_rows.proofs.VertexLaws.{shape_seek}
use Rattle.b3d_rows_open_items.specs.ItemsLeft.{item_row, item_rows, chunk_items, Measured, AllItemsLeft}
use Rattle.b3d_rows_open_items.specs.declared.OpenItems.{OpenItems}

-- ---- items that go into their rows as they are

module _ (k : ℕ) (n5 : k ≡ 5 → ⊥) (n10 : k ≡ 10 → ⊥) (i : OpenItems) where
  plain_row : (ws : List ℕ) → item_row k i ws ≡ ws
  unfolding item_row if
  plain_row ws = rw (ne_eqb k 5 n5, ne_eqb k 10 n10)

  plain_rows : (l : List (List ℕ)) → map (item_row k i) l ≡ l
  plain_rows [] = refl
  plain_rows (x ∷ l) = rw (plain_row x, plain_rows l)

-- ---- vertices

pub clip_most : (x most r : ℕ) → Clipped x most r → r ≤ most
clip_most x most r c = c.low

module _ (s : List ℕ) (p : ℕ) (b : Cursor) (y : BodyAt s p b) (h : Headed) (u : FirstWord s b h) (r : std.Option Sought) (x : Seeks s h.rest VRTS r) where
  shape_is : vertices_in p (left b s) ≡ shape_rows (shape_of (seek_of VRTS (ahead s h.rest)))
  unfolding vertices_in
  shape_is = ap (λ l. shape_rows (shape_of l)) (sym (mesh-inner s p b y h u)) ∙ ap shape_rows (shape_seek (ahead s h.rest))

  pub vertices-none : r ≡ None → (i : OpenItems) → i ≡ record { rest = span b.end b.end; words = 3; flags = 0; sets = 0; size = 0 } → AllItemsLeft 5 s p b i
  unfolding shape_of shape_rows item_rows item_row chunk_items whole if vertex_words
  vertices-none w i e =
      let z : vertices_in p (left b s) ≡ [] = shape_is ∙ ap (λ l. shape_rows (shape_of l)) (sought_none s h.rest VRTS r x w) in
      let n : left (span b.end b.end) s ≡ [] = left-nil s (span b.end b.end) (omega arith) in
      rw e
      (record {
        rows = rw (z, n);
        inside = record { before = omega arith; within = y.within };
        measured = record { some = omega arith; most = omega arith; vertex = λ q. record { flags = omega arith; sets = omega arith; size = omega arith; words = refl }; key = λ q. absurd (omega arith); triangle = λ q. absurd (omega arith); weight = λ q. absurd (omega arith) };
      })

  module _ (f : Sought) (w : r ≡ Some f) where
    pub vertices-body : Inside f.body (length s)
    vertices-body = sought_body s h.rest VRTS r x f w (length s) u.inside

    module _ (t : Three) (v : ThreeWords s f.body t) (m k : ℕ) (cn : Clipped t.second 8 m) (cz : Clipped t.third 4 k) (l : ℕ) (ew : l ≡ vertex_words (t.first % 4) m k) (lo : 3 ≤ l) (hi : l ≤ 42) where
      pub vertices-some : (i : OpenItems) → i ≡ record { rest = t.rest; words = l; flags = t.first % 4; sets = m; size = k } → AllItemsLeft 5 s p b i
      unfolding shape_of shape_rows plain_vertices item_rows item_row chunk_items if
      vertices-some i e =
          let o : ones (vertex_mask (t.first % 4) m k) ≡ vertex_words (t.first % 4) m k = vertex-words (t.first % 4) m k (omega arith) cn.low cz.low in
          let z : vertices_in p (left b s) ≡ shape_rows (plain_vertices (left f.body s)) = shape_is ∙ ap (λ c. shape_rows (shape_of c)) (sought_is s h.rest VRTS r x f w) in
          rw e
          (record {
            rows = sym (z ∙ rw (v.first_is, v.second_is, v.third_is, v.bytes_are, mask_clipped t.first t.second t.third m k cn cz, o, ew));
            inside = v.inside;
            measured = record { some = omega arith; most = hi; vertex = λ q. record { flags = omega arith; sets = cn.low; size = cz.low; words = ew }; key = λ q. absurd (omega arith); triangle = λ q. absurd (omega arith); weight = λ q. absurd (omega arith) };
          })

pub ruleset vertices_laws = (mesh-inside, word-inside, clip_most, vertices-none, vertices-body, vertices-some)

-- ---- keys

module _ (s : List ℕ) (p : ℕ) (b : Cursor) (y : BodyAt s p b) (h : Headed) (u : FirstWord s b h) where
  pub keys-some : (l : ℕ) → l ≡ ones (key_mask h.word) → 1 ≤ l → l ≤ 11 → (i : OpenItems) → i ≡ record { rest = h.rest; words = l; flags = h.word; sets = 0; size = 0 } → AllItemsLeft 10 s p b i
  unfolding key_rows_of plain_keys item_rows item_row chunk_items if
  keys-some l ew lo hi i e =
      rw e
      (record {
        rows = rw (ew, u.number, u.after);
        inside = u.inside;
        measured = record { some = lo; most = omega arith; vertex = λ q. absurd (omega arith); key = λ q. record { words = ew; few = hi }; triangle = λ q. absurd (omega arith); weight = λ q. absurd (omega arith) };
      })

  -- ---- triangles

  pub triangles-some : (k : ℕ) → (k ≡ 5 → ⊥) → (k ≡ 10 → ⊥) → k ≡ 7 → (i : OpenItems) → i ≡ record { rest = h.rest; words = 3; flags = 0; sets = 0; size = 0 } → AllItemsLeft k s p b i
  unfolding item_rows chunk_items if plain_triangles
  triangles-some k n5 n10 k7 i e =
      rw e
      (rw k7
      (record {
        rows = plain_rows 7 (λ q. omega arith) (λ q. omega arith) _ _ ∙ ap (whole 3) u.after;
        inside = u.inside;
        measured = record { some = omega arith; most = omega arith; vertex = λ q. absurd (omega arith); key = λ q. absurd (omega arith); triangle = λ q. refl; weight = λ q. absurd (omega arith) };
      }))

-- ---- weights

weights_are : (k : ℕ) → (k ≡ 5 → ⊥) → (k ≡ 10 → ⊥) → (k ≡ 7 → ⊥) → (p : ℕ) (b : List ℕ) → whole 2 b ≡ chunk_items k p b
unfolding chunk_items if plain_weights
weights_are k n5 n10 n7 p b = rw (ne_eqb k 5 n5, ne_eqb k 10 n10, ne_eqb k 7 n7)

pub weights-some : (s : List ℕ) (p : ℕ) (b : Cursor) → BodyAt s p b → (k : ℕ) → (k ≡ 5 → ⊥) → (k ≡ 10 → ⊥) → (k ≡ 7 → ⊥)
    → (i : OpenItems) → i ≡ record { rest = b; words = 2; flags = 0; sets = 0; size = 0 } → AllItemsLeft k s p b i
unfolding item_rows
weights-some s p b y k n5 n10 n7 i e =
    rw e
    (record {
      rows = plain_rows k n5 n10 _ _ ∙ weights_are k n5 n10 n7 p (left b s);
      inside = record { before = y.room; within = y.within };
      measured = record { some = omega arith; most = omega arith; vertex = λ q. absurd (n5 q); key = λ q. absurd (n10 q); triangle = λ q. absurd (n7 q); weight = λ q. refl };
    })

pub opens_five : (s : List ℕ) (p : ℕ) (b : Cursor) (k : ℕ) (i : OpenItems) → k ≡ 5 → AllItemsLeft 5 s p b i → AllItemsLeft k s p b i
opens_five s p b k i e o = rw e o

pub opens-ten : (s : List ℕ) (p : ℕ) (b : Cursor) (k : ℕ) (i : OpenItems) → k ≡ 10 → AllItemsLeft 10 s p b i → AllItemsLeft k s p b i
opens-ten s p b k i e o = rw e o

pub ruleset open_laws = (mesh-inside, word-inside, keys-some, triangles-some, weights-some, opens_five, opens-ten)

-- ---- the row of the first item

module _ (k : ℕ) (i : OpenItems) (m : Measured k i) where
  module _ (e : k ≡ 5) where
    pub vertex-flags : i.flags ≤ 3
    vertex-flags = (m.vertex e).flags

    pub vertex-sets : i.sets ≤ 8
    vertex-sets = (m.vertex e).sets

    pub vertex-size : i.size ≤ 4
    vertex-size = (m.vertex e).size

    pub vertex-place : i.rest.at + 4 * i.words ≤ i.rest.end → i.rest.at + 1 * (4 * vertex_words i.flags i.sets i.size) ≤ i.rest.end
    vertex-place h = rw (← (m.vertex e).words) (omega arith)

    pub vertex-put : (s row put : List ℕ) → put ≡ sets row 0 (joined (map (padded (vertex_mask i.flags i.sets i.size)) (items_of 1 (vertex_words i.flags i.sets i.size) (left i.rest s))))
        → put ≡ sets row 0 (item_row k i (words_of i.words (left i.rest s)))
    unfolding item_row joined if
    vertex-put s row put h = h ∙ rw (e, (m.vertex e).words, append-nil)

  module _ (n : k ≡ 5 → ⊥) (e : k ≡ 10) where
    pub key-words : i.words ≡ ones (key_mask i.flags)
    key-words = (m.key e).words

    pub key-few : i.words ≤ 11
    key-few = (m.key e).few

    pub key-place : i.rest.at + 4 * i.words ≤ i.rest.end → i.rest.at + 1 * (4 * i.words) ≤ i.rest.end
    key-place h = omega arith

    pub key-put : (s row put : List ℕ) → put ≡ sets row 0 (joined (map (padded (key_mask i.flags)) (items_of 1 i.words (left i.rest s))))
        → put ≡ sets row 0 (item_row k i (words_of i.words (left i.rest s)))
    unfolding item_row joined if
    key-put s row put h = h ∙ rw (e, append-nil)

  module _ (n : k ≡ 5 → ⊥) (e : k ≡ 10 → ⊥) where
    pub plain-room : (row : List ℕ) → 42 ≤ length row → 0 + i.words ≤ length row
    plain-room row h = omega (arith, m.most)

    pub plain-put : (s row put : List ℕ) → put ≡ sets row 0 (words_of i.words (left i.rest s)) → put ≡ sets row 0 (item_row k i (words_of i.words (left i.rest s)))
    unfolding item_row if
    plain-put s row put h = h ∙ rw (ne_eqb k 5 n, ne_eqb k 10 e)

pub ruleset item_laws = (vertex-flags, vertex-sets, vertex-size, vertex-place, vertex-put, key-words, key-few, key-place, key-put, plain-room, plain-put)
