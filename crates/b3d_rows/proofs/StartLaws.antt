-- Before the first row of each table: a law for each need.
use mathlib.Core.Path.{◌≡◌, refl, ap, ap₂, sym, subst, ◌∙◌}
use Prim.Native.Nat.{ℕ, ◌+◌, ◌-◌, ◌<◌, ◌≤◌}
use native.Mathlib.Omega.{arith}
use mathlib.Core.Bool.{Bool, true, false, not}
use mathlib.Core.List.{List, [], ◌++◌}
use lib.ListN.{length}
use lib.Dec.{eqb, leb, eqb→eq, leb→le, nleb→lt}
use borrow.Author.Tests.{ne_eqb}
use Rattle.wire.specs.Test.{if}
use Rattle.wire.specs.Cursors.{left}
use Rattle.wire.proofs.LeftLaws.{span, left-nil}
use Rattle.layout.specs.Chunks.{done}
use Rattle.layout.proofs.ResultLaws.{by_test}
use Rattle.layout.proofs.ChunkLaws.{split-none}
use Rattle.b3d_spec.specs.Mask.{ones, mask, key_has, key_mask}
use Rattle.b3d_spec.specs.Rules.{vertex_words}
use Rattle.b3d_spec.specs.Tables.{no_rows, start, set_rows, triangle_rows}
use Rattle.b3d_spec.specs.Tags.{split, tag_of}
use Rattle.b3d_spec_plain_rows.specs.Flat.{flat_at, flat}
use Rattle.b3d_spec_plain_rows.specs.Plain.{sets_of}
use Rattle.b3d_spec_plain_rows.specs.Rows.{flat_rows, file_rows}
use Rattle.b3d_chunk_walk.specs.Seeks.{ahead}
use Rattle.b3d_rows_open_items.specs.ItemsLeft.{ItemTable, Measured}
use Rattle.b3d_rows_open_items.specs.declared.OpenItems.{OpenItems}
use Rattle.b3d_rows_open_items.proofs.ItemsLeftLaws.{by-table, items-none}
use Rattle.b3d_rows_positions.specs.Positions.{inner_rows, items_later, items_ahead, MeshPosition}
use Rattle.b3d_rows_positions.specs.declared.Position.{Position}
use Rattle.b3d_rows_nodes.specs.NodeStack.{stack_to}
use Rattle.b3d_rows_chunks.specs.NextChunk.{chunks_ahead, ChunkPosition, behind_sets, sets_ahead}
use Rattle.b3d_rows_items.specs.NextText.{TextsOpen}
use Rattle.b3d_rows_nodes.specs.NextNode.{Shallow, nodes_ahead}
use Rattle.b3d_rows_nodes.specs.declared.RowCursor.{RowCursor}
use Rattle.b3d_rows_nodes.proofs.FlatNodeLaws.{all-rows}
use Rattle.b3d_rows.specs.NextRow.{parts_from, rows_from, FirstItems, Begins, Starts}
use Rattle.b3d_rows.proofs.NextRowLaws.{not-items, differs, item-table, from_four, from_six, from_nine, from-items, from-texts, from-nodes, from_parts}

-- ---- the first items

low-is : (k : ℕ) → 1 ≤ k → (k ≡ 1 → ⊥) → (k ≡ 2 → ⊥) → 3 ≤ k
low-is k lo n1 n2 = omega arith

beyond_two : (k : ℕ) → 3 ≤ k → k ≤ 2 → ⊥
beyond_two k h g = omega arith

key-none : 1 ≡ ones (key_mask 0)
unfolding key_mask mask key_has ones if
key-none = refl

module _ (k : ℕ) (s : List ℕ) (i : OpenItems) where
  pub first_one : k ≡ 1 → TextsOpen 1 s i → FirstItems k s i
  first_one e o = record { texts = λ q. rw e o; at = λ q. absurd (omega arith); end = λ q. absurd (omega arith); measured = λ t. absurd (not-items 1 tt k e t) }

  pub first_two : (k ≡ 1 → ⊥) → k ≡ 2 → TextsOpen 2 s i → FirstItems k s i
  first_two n e o = record { texts = λ q. rw e o; at = λ q. absurd (omega arith); end = λ q. absurd (omega arith); measured = λ t. absurd (not-items 2 tt k e t) }

  none-measured : ItemTable k → i.flags ≡ 0 → i.sets ≡ 0 → i.size ≡ 0 → (k ≡ 8 → i.words ≡ 2) → (k ≡ 10 → i.words ≡ 1) → ((k ≡ 8 → ⊥) → (k ≡ 10 → ⊥) → i.words ≡ 3) → Measured k i
  unfolding vertex_words
  none-measured t ef es ez w8 w10 w3 =
      by-table (λ j. j ≡ k → Measured j i)
      (λ e. let w = w3 (λ q. omega arith) (λ q. omega arith) in record { some = omega arith; most = omega arith; vertex = λ q. record { flags = omega arith; sets = omega arith; size = omega arith; words = rw (ef, es, ez) w }; key = λ q. absurd (omega arith); triangle = λ q. absurd (omega arith); weight = λ q. absurd (omega arith) })
      (λ e. let w = w3 (λ q. omega arith) (λ q. omega arith) in record { some = omega arith; most = omega arith; vertex = λ q. absurd (omega arith); key = λ q. absurd (omega arith); triangle = λ q. w; weight = λ q. absurd (omega arith) })
      (λ e. let w = w8 (sym e) in record { some = omega arith; most = omega arith; vertex = λ q. absurd (omega arith); key = λ q. absurd (omega arith); triangle = λ q. absurd (omega arith); weight = λ q. w })
      (λ e. let w = w10 (sym e) in record { some = omega arith; most = omega arith; vertex = λ q. absurd (omega arith); key = λ q. record { words = w ∙ key-none ∙ ap (λ (j : ℕ). ones (key_mask j)) (sym ef); few = omega arith }; triangle = λ q. absurd (omega arith); weight = λ q. absurd (omega arith) })
      k t refl

  first-none : 3 ≤ k → (w : ℕ) → (k ≡ 8 → w ≡ 2) → (k ≡ 10 → w ≡ 1) → ((k ≡ 8 → ⊥) → (k ≡ 10 → ⊥) → w ≡ 3)
      → i ≡ record { rest = span 12 12; words = w; flags = 0; sets = 0; size = 0 } → FirstItems k s i
  first-none low w w8 w10 w3 e =
      record {
        texts = λ q. absurd (beyond_two k low q);
        at = λ q. ap (λ (j : OpenItems). j.rest.at) e;
        end = λ q. ap (λ (j : OpenItems). j.rest.end) e;
        measured = λ t. none-measured t (ap (λ (j : OpenItems). j.flags) e) (ap (λ (j : OpenItems). j.sets) e) (ap (λ (j : OpenItems). j.size) e)
            (λ q. ap (λ (j : OpenItems). j.words) e ∙ w8 q) (λ q. ap (λ (j : OpenItems). j.words) e ∙ w10 q) (λ a b. ap (λ (j : OpenItems). j.words) e ∙ w3 a b);
      }

  module _ (lo : 1 ≤ k) (n1 : k ≡ 1 → ⊥) (n2 : k ≡ 2 → ⊥) where
    pub first-eight : k ≡ 8 → i ≡ record { rest = span 12 12; words = 2; flags = 0; sets = 0; size = 0 } → FirstItems k s i
    first-eight e = first-none (low-is k lo n1 n2) 2 (λ q. refl) (λ q. absurd (omega arith)) (λ a b. absurd (a e))

    pub first-ten : (k ≡ 8 → ⊥) → k ≡ 10 → i ≡ record { rest = span 12 12; words = 1; flags = 0; sets = 0; size = 0 } → FirstItems k s i
    first-ten n8 e = first-none (low-is k lo n1 n2) 1 (λ q. absurd (n8 q)) (λ q. refl) (λ a b. absurd (b e))

    pub first-other : (k ≡ 8 → ⊥) → (k ≡ 10 → ⊥) → i ≡ record { rest = span 12 12; words = 3; flags = 0; sets = 0; size = 0 } → FirstItems k s i
    first-other n8 n10 = first-none (low-is k lo n1 n2) 3 (λ q. absurd (n8 q)) (λ q. absurd (n10 q)) (λ a b. refl)

pub ruleset first_laws = (first_one, first_two, first-eight, first-ten, first-other)

-- ---- the first place

nothing : (s : List ℕ) → ahead s (span 12 12) ≡ done
nothing s = ap (split 12) (left-nil s (span 12 12) (omega arith)) ∙ split-none tag_of 12

no-triangles : triangle_rows (sets_of done) ≡ []
unfolding triangle_rows sets_of
no-triangles = refl

if-same : {A : Type 0} (b : Bool) (a : A) → if b a a ≡ a
unfolding if
if-same true a = refl
if-same false a = refl

module _ (k : ℕ) (s : List ℕ) (lo : 1 ≤ k) (hi : k ≤ 10) (long : 12 ≤ length s) (small : length s < 0x100000000) (i : OpenItems) (f : FirstItems k s i) (ends nodes : List ℕ) where
  abbrev x : Position
  x = record { at = 12; inner = span 12 12; items = i; counts = no_rows }

  abbrev r : RowCursor
  r = record { position = x; path = record { depth = 0; ends = ends; nodes = nodes } }

  file-parts : 4 ≤ k → file_rows k s ≡ flat_rows k no_rows (flat_at s 12)
  unfolding file_rows flat if start
  file-parts h = rw (ne_eqb k 1 (λ q. omega arith), ne_eqb k 2 (λ q. omega arith), ne_eqb k 3 (λ q. omega arith))

  sets_rows : sets_ahead s x ≡ flat_rows 6 no_rows (flat_at s 12)
  unfolding sets_ahead behind_sets sets_of set_rows triangle_rows
  sets_rows = rw (nothing s)

  items-rows : 3 ≤ k → ItemTable k → items_ahead k s x ≡ flat_rows k no_rows (flat_at s 12)
  unfolding items_ahead items_later inner_rows start
  items-rows h t =
      let m = f.measured t in
      ap₂ ◌++◌ (items-none k s i (record { before = omega (arith, f.at h, f.end h); within = omega (arith, f.end h) }) (omega (arith, f.at h, f.end h, m.some)))
      (ap (λ l. l ++ flat_rows k no_rows (flat_at s 12)) (inner-rows s k))
    where
      inner-rows : (s : List ℕ) (k : ℕ) → if (eqb k 7) (triangle_rows (sets_of (ahead s (span 12 12)))) [] ≡ []
      inner-rows s k = ap (λ c. if (eqb k 7) (triangle_rows (sets_of c)) []) (nothing s) ∙ ap (λ l. if (eqb k 7) l []) no-triangles ∙ if-same (eqb k 7) []

  parts-rows : 4 ≤ k → parts_from k s x ≡ flat_rows k no_rows (flat_at s 12)
  unfolding chunks_ahead
  parts-rows h =
      by_test (eqb k 4) (λ t. let e = eqb→eq k 4 t in from_four k s x e ∙ ap (λ (j : ℕ). flat_rows j no_rows (flat_at s 12)) (sym e))
      (λ n4. by_test (eqb k 6) (λ t. let e = eqb→eq k 6 t in from_six k s x e ∙ sets_rows ∙ ap (λ (j : ℕ). flat_rows j no_rows (flat_at s 12)) (sym e))
      (λ n6. by_test (eqb k 9) (λ t. let e = eqb→eq k 9 t in from_nine k s x e ∙ ap (λ (j : ℕ). flat_rows j no_rows (flat_at s 12)) (sym e))
      (λ n9. let a = differs k 4 n4 in let b = differs k 6 n6 in let c = differs k 9 n9 in from-items k s x a b c ∙ items-rows (omega arith) (item-table k h hi a b c))))

  node-rows : Shallow 0 [] (flat_at s 12) → nodes_ahead s x r.path ≡ file_rows 3 s
  unfolding nodes_ahead file_rows flat if start stack_to
  node-rows deep = all-rows s 12 [] no_rows deep.is

  start-rows : (k ≡ 3 → Shallow 0 [] (flat_at s 12)) → rows_from k s r ≡ file_rows k s
  start-rows deep =
      by_test (leb k 2) (λ t. let h = leb→le k 2 t in from-texts k s r h ∙ sym (f.texts h).rows)
      (λ n2. let g : 2 < k = nleb→lt k 2 n2 in by_test (eqb k 3) (λ t. let e = eqb→eq k 3 t in from-nodes k s r e ∙ node-rows (deep e) ∙ ap (λ (j : ℕ). file_rows j s) (sym e))
      (λ n3. let d = differs k 3 n3 in let h : 4 ≤ k = omega arith in from_parts k s r g d ∙ parts-rows h ∙ sym (file-parts h)))

  chunk-position : ChunkPosition s x
  chunk-position = record { run = long; small = small; nodes = omega arith; vertices = omega arith; sets = omega arith; keys = omega arith }

  walk : MeshPosition s x
  walk = record { run = long; inside = record { before = omega arith; within = long }; nodes = omega arith; meshes = omega arith }

  pub begin-is : (a : RowCursor) → a ≡ record { position = record { at = 12; inner = span 12 12; items = i; counts = no_rows }; path = record { depth = 0; ends = ends; nodes = nodes } } → length ends ≡ 16 → length nodes ≡ 16 → Begins k s a
  unfolding stack_to
  begin-is a ea le ln =
      subst (Begins k s) (sym ea)
      (record {
        rows = start-rows;
        at = record {
          texts = λ h. record { at = (f.texts h).at; small = small };
          nodes = λ e. record { run = long; small = small; path_at = record { deep = omega arith; ends = le; nodes = ln }; nodes = omega arith; meshes = omega arith; weights = omega arith };
          parts = λ h. record {
            meshes = λ e. chunk-position;
            sets = λ e. record { walk = walk; small = small; before = omega arith; triangles = omega arith };
            lists = λ e. chunk-position;
            items = λ t. record { walk = walk; items = record { before = omega (arith, f.at (omega arith), f.end (omega arith)); within = omega (arith, f.end (omega arith)) }; measured = f.measured t };
          };
        };
      })

-- all rows are to come where nodes do not nest too deep
pub start_is : (k : ℕ) (s : List ℕ) (r : RowCursor) → Shallow 0 [] (flat_at s 12) → Begins k s r → Starts k s r
start_is k s r deep b = record { rows = b.rows (λ e. deep); at = b.at }
