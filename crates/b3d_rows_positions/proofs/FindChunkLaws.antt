-- The loop of `find_chunk`: a law for each way through it, and what its answer says to those who asked.
use Rattle.std.specs.Prelude.{Some, None}
use Rattle.std.specs.Prelude as std
use Rattle.b3d_chunk_walk.specs.declared.FlatChunk.{FlatChunk}
use Rattle.b3d_rows_positions.specs.declared.FoundChunk.{FoundChunk}
use mathlib.Core.Path.{◌≡◌, refl, ap, sym, subst, ◌∙◌}
use Prim.Native.Nat.{ℕ, ◌+◌, ◌-◌, ◌*◌, ◌<◌, ◌≤◌}
use native.Mathlib.Omega.{arith}
use mathlib.Core.Bool.{Bool, true, false, not}
use mathlib.Core.List.{List, ◌++◌}
use mir.Syntax.{w64}
use mir.Val.{Fits}
use lib.ListN.{length}
use lib.Dec.{T}
use Rattle.wire.specs.Cursors.{left}
use Rattle.layout.proofs.ResultLaws.{if_yes, if_no}
use Rattle.b3d_spec.specs.declared.Counts.{Counts}
use Rattle.b3d_spec.specs.declared.Tag.{Tag}
use Rattle.b3d_spec.specs.declared.Tag.TheVariants.{NODE, MESH, KEYS}
use Rattle.b3d_spec.specs.Tags.{is}
use Rattle.b3d_spec_plain_rows.specs.Flat.{flat_at}
use Rattle.b3d_spec_plain_rows.specs.Rows.{counted, chunk_rows, flat_rows}
use Rattle.b3d_chunk_walk.specs.Walks.{ChunkIs, Ends, FlatIs, Steps}
use Rattle.b3d_chunk_walk.proofs.CountLaws.{tag_same, counted-nodes, counted-meshes, counted-vertices, counted-sets, counted-triangles, counted-keys}
use Rattle.b3d_rows_positions.specs.FindChunk.{Only, LaterCounts, ChunkFound, NoChunk, ChunkFoundIs, ChunkFinds}

-- table j's rows from one place on are those from a later one on, but for counts
pub record Reached (s : List ℕ) (from : ℕ) (k : Tag) (at nodes j : ℕ) (n : Counts) : Type 0 where
  pub counts : Counts
  pub later : LaterCounts k nodes n counts
  pub rows : flat_rows j n (flat_at s from) ≡ flat_rows j counts (flat_at s at)

-- no chunk of tag k stands before `at`
pub record FindChunkLeft (s : List ℕ) (from : ℕ) (k : Tag) (before at nodes : ℕ) : Type 0 where
  pub rows : (j : ℕ) → Only j k → (n : Counts) → n.nodes ≡ before → Reached s from k at nodes j n
  pub inside : at ≤ length s
  pub since : from ≤ at
  pub few : nodes ≤ at

-- a test that says no of a tag
no-tag : (t k : Tag) (ok : Bool) → ok ≡ is t k → ok ≡ false → T (not (is t k))
no-tag t k ok eo z = subst (λ (y : Bool). T (not y)) (sym z ∙ eo) tt

yes-tag : (t k : Tag) (ok : Bool) → ok ≡ is t k → ok ≡ true → T (is t k)
yes-tag t k ok eo z = subst T (sym z ∙ eo) tt

-- what is no k is no o, where o is a k
not_own : (t k o : Tag) → T (not (is t k)) → T (is o k) → T (not (is t o))
not_own t k o h i = subst (λ (u : Tag). T (not (is t u))) (sym (tag_same o k i)) h

module _ (t k : Tag) (p : ℕ) (b : List ℕ) (n m : Counts) (h : T (not (is t k))) (l : ℕ) (i : LaterCounts k l n m) where
  passed : (j : ℕ) → (counted t p b m).nodes ≡ j → LaterCounts k j n (counted t p b m)
  passed j e = record {
    nodes_are = e;
    meshes = λ y. counted-meshes p b m t ∙ if_no (is t MESH) _ _ (not_own t k MESH h y) ∙ i.meshes y;
    vertices = λ y. counted-vertices p b m t ∙ if_no (is t MESH) _ _ (not_own t k MESH h y) ∙ i.vertices y;
    sets = λ y. counted-sets p b m t ∙ if_no (is t MESH) _ _ (not_own t k MESH h y) ∙ i.sets y;
    triangles = λ y. counted-triangles p b m t ∙ if_no (is t MESH) _ _ (not_own t k MESH h y) ∙ i.triangles y;
    keys = λ y. counted-keys p b m t ∙ if_no (is t KEYS) _ _ (not_own t k KEYS h y) ∙ i.keys y;
  }

module _ (s : List ℕ) (from : ℕ) (k : Tag) (before : ℕ) where
  pub find-chunk-start : from ≤ length s → before ≤ from → FindChunkLeft s from k before from before
  find-chunk-start h f = record {
    rows = λ j o n e. record { counts = n; later = record { nodes_are = e; meshes = λ y. refl; vertices = λ y. refl; sets = λ y. refl; triangles = λ y. refl; keys = λ y. refl }; rows = refl };
    inside = h;
    since = omega arith;
    few = f;
  }

  module _ (at nodes : ℕ) (v : FindChunkLeft s from k before at nodes) where
    pub find-chunk-inside : at ≤ length s
    find-chunk-inside = v.inside

    pub find-chunk-fits : length s * 1 < 0x8000000000000000 → Fits w64 (nodes + 1)
    find-chunk-fits small = record { fits = omega (arith, v.few, v.inside) }

    module _ (r : std.Option FlatChunk) (x : Steps s at r) where
      pub find-chunk-none : r ≡ None → ChunkFinds s from k before None
      find-chunk-none w =
          let e : Ends (flat_at s at) = subst (FlatIs s at) w x.is in
          record { is = record { rows = λ j o n en. (v.rows j o n en).rows ∙ e.rows j (v.rows j o n en).counts } }

      module _ (f : FlatChunk) (w : r ≡ Some f) where
        it : ChunkIs s at f.tag f.at f.body f.next
        it = subst (FlatIs s at) w x.is

        pub find-chunk-less : length s - f.next < length s - at
        find-chunk-less = omega (arith, it.more, it.to)

        step : (j : ℕ) (m : Counts) → flat_rows j m (flat_at s at) ≡ chunk_rows j f.tag f.at (left f.body s) m ++ flat_rows j (counted f.tag f.at (left f.body s) m) (flat_at s f.next)
        unfolding flat_rows
        step j m = ap (flat_rows j m) it.run

        module _ (ok : Bool) (eo : ok ≡ is f.tag k) where
          pub find-chunk-found : ok ≡ true → ChunkFinds s from k before (Some (record { at = f.at; body = f.body; next = f.next; nodes = nodes }))
          find-chunk-found z =
              let e = tag_same f.tag k (yes-tag f.tag k ok eo z) in
              record {
                is = record {
                  rows = λ j o n en.
                      let y = v.rows j o n en in
                      record { counts = y.counts; later = y.later; rows = y.rows ∙ subst (λ (u : Tag). flat_rows j y.counts (flat_at s at) ≡ chunk_rows j u f.at (left f.body s) y.counts ++ flat_rows j (counted u f.at (left f.body s) y.counts) (flat_at s f.next)) e (step j y.counts) };
                  few = omega (arith, v.few, it.from);
                  body = it.body;
                  since = omega (arith, v.since, it.from);
                  behind = it.behind;
                  past = λ y. it.past (subst (λ (u : Tag). T (not (is u NODE))) (sym e) y);
                  to = it.to;
                };
              }

          module _ (z : ok ≡ false) (node : Bool) (ew : node ≡ is f.tag NODE) where
            on : (i : ℕ) → i ≤ f.next → ((m : Counts) → m.nodes ≡ nodes → (counted f.tag f.at (left f.body s) m).nodes ≡ i) → FindChunkLeft s from k before f.next i
            on i few g = record {
              rows = λ j o n en.
                  let y = v.rows j o n en in
                  let h = no-tag f.tag k ok eo z in
                  record {
                    counts = counted f.tag f.at (left f.body s) y.counts;
                    later = passed f.tag k f.at (left f.body s) n y.counts h nodes y.later i (g y.counts y.later.nodes_are);
                    rows = y.rows ∙ step j y.counts ∙ ap (λ l. l ++ flat_rows j (counted f.tag f.at (left f.body s) y.counts) (flat_at s f.next)) (o.other f.tag f.at (left f.body s) y.counts h);
                  };
              inside = it.to;
              since = omega (arith, v.since, it.more);
              few = few;
            }

            pub find-chunk-node : node ≡ true → FindChunkLeft s from k before f.next (nodes + 1)
            find-chunk-node u = on (nodes + 1) (omega (arith, v.few, it.more)) (λ m e. counted-nodes f.at (left f.body s) m f.tag ∙ if_yes (is f.tag NODE) _ _ (yes-tag f.tag NODE node ew u) ∙ ap (λ (i : ℕ). i + 1) e)

            pub find-chunk-other : node ≡ false → FindChunkLeft s from k before f.next nodes
            find-chunk-other u = on nodes (omega (arith, v.few, it.more)) (λ m e. counted-nodes f.at (left f.body s) m f.tag ∙ if_no (is f.tag NODE) _ _ (no-tag f.tag NODE node ew u) ∙ e)

pub ruleset find-chunk_laws = (find-chunk-start, find-chunk-inside, find-chunk-fits, find-chunk-none, find-chunk-less, find-chunk-found, find-chunk-node, find-chunk-other)

-- ---- what an answer says to those who asked

module _ (s : List ℕ) (from : ℕ) (k : Tag) (before : ℕ) (r : std.Option FoundChunk) (x : ChunkFinds s from k before r) where
  pub chunk-none : r ≡ None → NoChunk s from k before
  chunk-none w = subst (ChunkFoundIs s from k before) w x.is

  pub chunk-at : (f : FoundChunk) → r ≡ Some f → ChunkFound s from k before f.at f.body f.next f.nodes
  chunk-at f w = subst (ChunkFoundIs s from k before) w x.is
