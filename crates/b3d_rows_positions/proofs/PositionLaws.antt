-- The next MESH, and the next chunk of items: a law for each need.
use Rattle.std.specs.Prelude.{Some, None}
use Rattle.std.specs.Prelude as std
use Rattle.b3d_chunk_walk.specs.declared.Sought.{Sought}
use Rattle.b3d_rows_positions.specs.declared.FoundChunk.{FoundChunk}
use mathlib.Core.Path.{◌≡◌, refl, ap, ap₂, sym, subst, ◌∙◌}
use Prim.Native.Nat.{ℕ, ◌+◌, ◌*◌, ◌<◌, ◌≤◌}
use native.Mathlib.Omega.{arith}
use mathlib.Core.Bool.{not}
use mathlib.Core.List.{List, [], ◌++◌, append_assoc}
use mir.Syntax.{w64}
use mir.Val.{Fits}
use lib.ListN.{length}
use lib.Dec.{T}
use borrow.Author.Tests.{eq-eqb, ne_eqb}
use Rattle.wire.specs.Test.{if}
use Rattle.wire.specs.Cursors.{Inside, left}
use Rattle.wire.specs.declared.Cursor.{Cursor}
use Rattle.layout.proofs.ResultLaws.{by_test}
use Rattle.layout.specs.Chunks.{done, stop, chunk}
use Rattle.b3d_spec.specs.declared.Counts.{Counts}
use Rattle.b3d_spec.specs.declared.Tag.{Tag}
use Rattle.b3d_spec.specs.declared.Tag.TheVariants.{NODE, MESH, TRIS, BONE, KEYS}
use Rattle.b3d_spec.specs.Tables.{start, triangle_rows}
use Rattle.b3d_spec.specs.Tags.{Chunks, code, is}
use Rattle.b3d_spec_plain_rows.specs.Flat.{flat_at}
use Rattle.b3d_spec_plain_rows.specs.Plain.{plain_weights, sets_of}
use Rattle.b3d_spec_plain_rows.specs.Rows.{counted, chunk_rows, flat_rows}
use Rattle.b3d_chunk_walk.specs.Walks.{BodyAt}
use Rattle.b3d_chunk_walk.specs.Seeks.{ahead, inner, Seeks, FirstWord}
use Rattle.b3d_chunk_walk.specs.declared.Headed.{Headed}
use Rattle.b3d_chunk_walk.proofs.TableLaws.{Owns}
use Rattle.b3d_chunk_walk.proofs.SeekLaws.{sought_among, sought_body, sought_next, sought_less}
use Rattle.b3d_chunk_walk.proofs.MeshLaws.{mesh-inside, mesh-inner, no-set, one_set}
use Rattle.b3d_rows_positions.specs.FindChunk.{Only, RowsFound, ChunkFound, ChunkFinds}
use Rattle.b3d_rows_positions.proofs.FindChunkLaws.{chunk-none, chunk-at}
use Rattle.b3d_read_triangle_rows.specs.Sets.{triangles_in}
use Rattle.b3d_read_meshes.proofs.TableLaws.{vertices, triangles}
use Rattle.b3d_read_animation.proofs.TableLaws.{bones, keys}
use Rattle.b3d_rows_open_items.specs.ItemsLeft.{ItemTable, item_rows, chunk_items, AllItemsLeft}
use Rattle.b3d_rows_open_items.specs.declared.OpenItems.{OpenItems}
use Rattle.b3d_rows_open_items.proofs.ItemsLeftLaws.{by-table}
use Rattle.b3d_rows_positions.specs.Positions.{inner_rows, items_later, items_ahead, MeshPosition, MeshOpens, owner_of, ItemPosition, ItemsMore}
use Rattle.b3d_rows_positions.specs.declared.Position.{Position}

-- ---- the next MESH

module _ (s : List ℕ) (x : Position) (v : MeshPosition s x) where
  pub mesh-run : x.at ≤ length s
  mesh-run = v.run

  pub mesh-nodes : x.counts.nodes ≤ x.at
  mesh-nodes = v.nodes

  pub mesh-count : length s * 1 < 0x8000000000000000 → Fits w64 (x.counts.meshes + 1)
  mesh-count small = record { fits = omega (arith, v.meshes, v.run) }

  module _ (r : std.Option FoundChunk) (m : ChunkFinds s x.at MESH x.counts.nodes r) where
    pub mesh-none : r ≡ None → MeshOpens s x None
    mesh-none w = record { is = chunk-none s x.at MESH x.counts.nodes r m w }

    module _ (f : FoundChunk) (w : r ≡ Some f) where
      it : ChunkFound s x.at MESH x.counts.nodes f.at f.body f.next f.nodes
      it = chunk-at s x.at MESH x.counts.nodes r m f w

      pub mesh-body : Inside f.body (length s)
      mesh-body = mesh-inside s f.at f.body it.body

      pub mesh-opened : (h : Headed) → FirstWord s f.body h
          → (y : Position) → y ≡ record {
            at = f.next;
            inner = h.rest;
            items = x.items;
            counts = record {
              nodes = f.nodes;
              meshes = x.counts.meshes + 1;
              vertices = x.counts.vertices;
              sets = x.counts.sets;
              triangles = x.counts.triangles;
              weights = x.counts.weights;
              lists = x.counts.lists;
              keys = x.counts.keys;
            };
          }
          → MeshOpens s x (Some y)
      mesh-opened h u y z =
          let e : f.body.end ≤ f.next = it.past tt in
          subst (λ (n : Position). MeshOpens s x (Some n)) (sym z)
          (record {
            is = record {
              head = f.at;
              body = f.body;
              met = it;
              inner_is = mesh-inner s f.at f.body it.body h u;
              position = record {
                run = it.to;
                inside = u.inside;
                nodes = omega (arith, it.few, it.behind);
                meshes = omega (arith, v.meshes, it.since, it.behind);
              };
              less = omega (arith, it.since, it.behind, it.to, u.to_end, u.onward, u.inside.before, it.body.head, v.run);
              since = omega (arith, it.since, it.body.head, u.onward);
              before = omega (arith, u.to_end);
              items = refl;
              meshes = refl;
              vertices = refl;
              sets = refl;
              triangles = refl;
            };
          })

pub ruleset mesh_laws = (mesh-run, mesh-nodes, mesh-count, mesh-none, mesh-body, mesh-opened)

-- ---- tables whose rows tell no counts

module _ {k : ℕ} {o : Tag} {f : ℕ → List ℕ → Counts → List (List ℕ)} (owns : Owns k o f) where
  pub owns-only : Only k o
  owns-only = record { other = owns.other }

  module _ (free : (p : ℕ) (b : List ℕ) (n m : Counts) → f p b n ≡ f p b m) where
    same-chunk : (t : Tag) (p : ℕ) (b : List ℕ) (n m : Counts) → chunk_rows k t p b n ≡ chunk_rows k t p b m
    same-chunk t p b n m =
        by_test (is t o)
        (λ y. owns.own t p b n y ∙ free p b n m ∙ sym (owns.own t p b m y))
        (λ y. owns.other t p b n y ∙ sym (owns.other t p b m y))

    pub free-rows : (cs : Chunks) (n m : Counts) → flat_rows k n cs ≡ flat_rows k m cs
    unfolding flat_rows
    free-rows done n m = refl
    free-rows (stop i p) n m = refl
    free-rows (chunk t p b r) n m = ap₂ ◌++◌ (same-chunk t p b n m) (free-rows r (counted t p b n) (counted t p b m))

-- ---- the next chunk of items

pub owner_bone : (k : ℕ) → k ≡ 8 → BONE ≡ owner_of k
unfolding owner_of if
owner_bone k e = rw e

pub owner_keys : (k : ℕ) → (k ≡ 8 → ⊥) → k ≡ 10 → KEYS ≡ owner_of k
unfolding owner_of if
owner_keys k n e = rw e

pub owner_mesh : (k : ℕ) → (k ≡ 8 → ⊥) → (k ≡ 10 → ⊥) → MESH ≡ owner_of k
unfolding owner_of if
owner_mesh k n e = rw (ne_eqb k 8 n, ne_eqb k 10 e)

pub ruleset owner_laws = (owner_bone, owner_keys, owner_mesh)

item-owns : (k : ℕ) → ItemTable k → (k ≡ 7 → ⊥) → Owns k (owner_of k) (λ p b n. chunk_items k p b)
unfolding owner_of chunk_items if plain_weights
item-owns = by-table (λ k. (k ≡ 7 → ⊥) → Owns k (owner_of k) (λ p b n. chunk_items k p b)) (λ n. vertices) (λ n. absurd (n refl)) (λ n. bones) (λ n. keys)

no_node : (k : ℕ) → ItemTable k → T (not (is (owner_of k) NODE))
unfolding owner_of if
no_node = by-table (λ k. T (not (is (owner_of k) NODE))) tt tt tt tt

self : (o : Tag) → T (is o o)
self o = subst T (sym (eq-eqb (code o) (code o) refl)) tt

inner-none : (k : ℕ) → (k ≡ 7 → ⊥) → (s : List ℕ) (c : Cursor) → inner_rows k s c ≡ []
unfolding inner_rows if
inner-none k n s c = rw (ne_eqb k 7 n)

module _ (k : ℕ) (t : ItemTable k) (n7 : k ≡ 7 → ⊥) (s : List ℕ) (x : Position) (v : ItemPosition k s x) where
  owns : Owns k (owner_of k) (λ p b n. chunk_items k p b)
  owns = item-owns k t n7

  pub items-run : x.at ≤ length s
  items-run = v.walk.run

  module _ (tag : Tag) (et : tag ≡ owner_of k) (r : std.Option FoundChunk) (m : ChunkFinds s x.at tag 0 r) where
    here : ChunkFinds s x.at (owner_of k) 0 r
    here = rw et at m

    pub items-none : r ≡ None → ItemsMore k s x None
    unfolding items_later start
    items-none w =
        let e = (chunk-none s x.at (owner_of k) 0 r here w).rows k (owns-only owns) start refl in
        record { is = record { rows = ap₂ ◌++◌ (inner-none k n7 s x.inner) e } }

    module _ (f : FoundChunk) (w : r ≡ Some f) where
      chunk-found : ChunkFound s x.at (owner_of k) 0 f.at f.body f.next f.nodes
      chunk-found = chunk-at s x.at (owner_of k) 0 r here f w

      pub items-body : BodyAt s f.at f.body
      items-body = chunk-found.body

      rows-found : RowsFound s x.at (owner_of k) f.at f.body f.next f.nodes k start
      unfolding start
      rows-found = chunk-found.rows k (owns-only owns) start refl

      run_is : flat_rows k start (flat_at s x.at) ≡ chunk_items k f.at (left f.body s) ++ flat_rows k start (flat_at s f.next)
      run_is =
          rows-found.rows
          ∙ ap₂ ◌++◌ (owns.own (owner_of k) f.at (left f.body s) rows-found.counts (self (owner_of k))) (free-rows owns (λ p b n m. refl) (flat_at s f.next) (counted (owner_of k) f.at (left f.body s) rows-found.counts) start)

      pub items-opened : (i : OpenItems) → AllItemsLeft k s f.at f.body i → (y : Position) → y ≡ record { at = f.next; inner = x.inner; items = i; counts = x.counts } → ItemsMore k s x (Some y)
      unfolding items_later items_ahead
      items-opened i o y ey =
          subst (λ (z : Position). ItemsMore k s x (Some z)) (sym ey)
          (record {
            is = record {
              rows = λ e. ap₂ ◌++◌ (inner-none k n7 s x.inner) run_is ∙ ap₂ ◌++◌ (sym o.rows) (ap (λ l. l ++ flat_rows k start (flat_at s f.next)) (sym (inner-none k n7 s x.inner)));
              position = record {
                walk = record {
                  run = chunk-found.to;
                  inside = v.walk.inside;
                  nodes = omega (arith, v.walk.nodes, chunk-found.since, chunk-found.behind);
                  meshes = omega (arith, v.walk.meshes, chunk-found.since, chunk-found.behind);
                };
                items = o.inside;
                measured = o.measured;
              };
              less = omega (arith, chunk-found.since, chunk-found.behind, chunk-found.to);
            };
          })

pub ruleset chunks_laws = (items-run, items-none, items-body, items-opened)

-- ---- the next TRIS

triangles_in-is : (p : ℕ) (b : List ℕ) → triangles_in p b ≡ triangle_rows (sets_of (inner p b))
unfolding triangles_in
triangles_in-is p b = refl

module _ (s : List ℕ) (x : Position) (v : ItemPosition 7 s x) (r : std.Option Sought) (u : Seeks s x.inner TRIS r) where
  module _ (w : r ≡ None) where
    none : inner_rows 7 s x.inner ≡ []
    unfolding inner_rows if triangle_rows
    none = ap triangle_rows (no-set s x.inner r u w)

    pub sets_none : (a : std.Option Position) → MeshOpens s x a → ItemsMore 7 s x a
    unfolding items_later items_ahead inner_rows if
    sets_none None o =
        record { is = record { rows = ap₂ ◌++◌ none (free-rows triangles (λ p b n m. refl) (flat_at s x.at) start x.counts ∙ o.is.rows 7 (owns-only triangles) x.counts refl) } }
    sets_none (Some y) o =
        let d = o.is in
        let g = d.met.rows 7 (owns-only triangles) x.counts refl in
        let run_is : flat_rows 7 start (flat_at s x.at) ≡ triangle_rows (sets_of (ahead s y.inner)) ++ flat_rows 7 start (flat_at s y.at) =
        free-rows triangles (λ p b n m. refl) (flat_at s x.at) start x.counts ∙ g.rows
        ∙ ap₂ ◌++◌ (triangles.own MESH d.head (left d.body s) g.counts tt ∙ inside d.head d.body y.inner d.inner_is) (free-rows triangles (λ p b n m. refl) (flat_at s y.at) _ start) in
        record {
          is = record {
            rows = λ e. ap₂ ◌++◌ none run_is ∙ sym (ap (λ l. l ++ (triangle_rows (sets_of (ahead s y.inner)) ++ flat_rows 7 start (flat_at s y.at))) (ap (item_rows 7 s) d.items ∙ e));
            position = record {
              walk = d.position;
              items = rw d.items v.items;
              measured = rw d.items v.measured;
            };
            less = d.less;
          };
        }
      where
        inside : (p : ℕ) (b c : Cursor) → ahead s c ≡ inner p (left b s) → triangles_in p (left b s) ≡ triangle_rows (sets_of (ahead s c))
        inside p b c e = triangles_in-is p (left b s) ∙ ap (λ l. triangle_rows (sets_of l)) (sym e)

    pub sets-walk : MeshPosition s x
    sets-walk = v.walk

  module _ (g : Sought) (w : r ≡ Some g) where
    pub set_body : BodyAt s g.at g.body
    set_body =
        let f = sought_among s x.inner TRIS r u g w in
        let i = sought_body s x.inner TRIS r u g w (length s) v.walk.inside in
        record { head = f.body; room = i.before; within = i.within }

    pub set-opened : (i : OpenItems) → AllItemsLeft 7 s g.at g.body i → (y : Position) → y ≡ record { at = x.at; inner = g.next; items = i; counts = x.counts } → ItemsMore 7 s x (Some y)
    unfolding items_later items_ahead inner_rows if chunk_items triangle_rows
    set-opened i o y ey =
        subst (λ (z : Position). ItemsMore 7 s x (Some z)) (sym ey)
        (record {
          is = record {
            rows = λ e. ap (λ l. l ++ flat_rows 7 start (flat_at s x.at)) (ap triangle_rows (one_set s x.inner r u g w) ∙ ap (λ l. l ++ triangle_rows (sets_of (ahead s g.next))) (sym o.rows)) ∙ append_assoc (item_rows 7 s i) (triangle_rows (sets_of (ahead s g.next))) (flat_rows 7 start (flat_at s x.at));
            position = record {
              walk = record { run = v.walk.run; inside = sought_next s x.inner TRIS r u g w (length s) v.walk.inside; nodes = v.walk.nodes; meshes = v.walk.meshes };
              items = o.inside;
              measured = o.measured;
            };
            less = omega (arith, sought_less s x.inner TRIS r u g w);
          };
        })

pub sets-inner : (s : List ℕ) (x : Position) → ItemPosition 7 s x → Inside x.inner (length s)
sets-inner s x v = v.walk.inside

pub ruleset sets_laws = (sets-inner, sets_none, sets-walk, set_body, set-opened)
