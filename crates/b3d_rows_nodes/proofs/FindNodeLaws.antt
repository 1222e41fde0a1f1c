-- The loop of `find_node`: a law for each need.
use Rattle.std.specs.Prelude.{Some, None}
use Rattle.std.specs.Prelude as std
use Rattle.b3d_chunk_walk.specs.declared.FlatChunk.{FlatChunk}
use mathlib.Core.Path.{◌≡◌, refl, ap, sym, subst, ◌∙◌}
use Prim.Native.Nat.{ℕ, ◌+◌, ◌-◌, ◌/◌, ◌<◌, ◌≤◌}
use native.Mathlib.Nat.{div-le_self}
use native.Mathlib.Omega.{arith}
use mathlib.Core.Bool.{Bool, true, false, not}
use mathlib.Core.List.{List}
use mir.Syntax.{w64}
use mir.Val.{Fits}
use lib.ListN.{length}
use lib.Dec.{T}
use Rattle.wire.specs.Test.{if}
use Rattle.wire.specs.Cursors.{Inside, left}
use Rattle.layout.proofs.ResultLaws.{if_yes, if_no}
use Rattle.b3d_spec.specs.declared.Counts.{Counts}
use Rattle.b3d_spec.specs.declared.Tag.{Tag}
use Rattle.b3d_spec.specs.declared.Tag.TheVariants.{NODE, MESH, BONE}
use Rattle.b3d_spec.specs.Tags.{is}
use Rattle.b3d_spec_plain_rows.specs.Flat.{flat_at}
use Rattle.b3d_spec_plain_rows.specs.Rows.{Open, counted}
use Rattle.b3d_chunk_walk.specs.Walks.{ChunkIs, Ends, FlatIs, Steps}
use Rattle.b3d_chunk_walk.proofs.CountLaws.{tag_same, counted-nodes, counted-meshes, counted-weights}
use Rattle.b3d_read_node_cells.proofs.OwnChunkLaws.{bone-count}
use Rattle.b3d_rows_nodes.specs.NextNode.{shallow_rows, NodeFinds}
use Rattle.b3d_rows_nodes.proofs.FlatNodeLaws.{no_rows}

-- the rows from one place on are those from a later one on, but for counts
pub record Reached (s : List ℕ) (from at meshes weights : ℕ) (l : List Open) (n : Counts) : Type 0 where
  pub counts : Counts
  pub nodes_are : counts.nodes ≡ n.nodes
  pub meshes_are : counts.meshes ≡ meshes
  pub weights_are : counts.weights ≡ weights
  pub rows : shallow_rows l n (flat_at s from) ≡ shallow_rows l counts (flat_at s at)

-- no NODE stands before `at`
pub record FindLeft (s : List ℕ) (from m w at meshes weights : ℕ) : Type 0 where
  pub rows : (l : List Open) (n : Counts) → n.meshes ≡ m → n.weights ≡ w → Reached s from at meshes weights l n
  pub inside : at ≤ length s
  pub since : from ≤ at
  pub few_meshes : meshes ≤ at
  pub few_weights : weights ≤ at

yes-tag : (t k : Tag) (ok : Bool) → ok ≡ is t k → ok ≡ true → T (is t k)
yes-tag t k ok eo z = subst T (sym z ∙ eo) tt

no-tag : (t k : Tag) (ok : Bool) → ok ≡ is t k → ok ≡ false → T (not (is t k))
no-tag t k ok eo z = subst (λ (y : Bool). T (not y)) (sym z ∙ eo) tt

other_tag : (t k o : Tag) → T (is t k) → T (not (is k o)) → T (not (is t o))
other_tag t k o h n = subst (λ (u : Tag). T (not (is u o))) (sym (tag_same t k h)) n

module _ (s : List ℕ) (from m w : ℕ) where
  pub find_start : from ≤ length s → m ≤ from → w ≤ from → FindLeft s from m w from m w
  find_start h i j = record {
    rows = λ l n em ew. record { counts = n; nodes_are = refl; meshes_are = em; weights_are = ew; rows = refl };
    inside = h;
    since = omega arith;
    few_meshes = i;
    few_weights = j;
  }

  module _ (at meshes weights : ℕ) (v : FindLeft s from m w at meshes weights) where
    pub find-inside : at ≤ length s
    find-inside = v.inside

    pub find-mesh-fits : length s < 0x100000000 → Fits w64 (meshes + 1)
    find-mesh-fits small = record { fits = omega (arith, v.few_meshes, v.inside) }

    module _ (r : std.Option FlatChunk) (x : Steps s at r) where
      pub find_none : r ≡ None → NodeFinds s from m w None
      find_none e =
          let d : Ends (flat_at s at) = subst (FlatIs s at) e x.is in
          record { is = record { rows = λ l n em ew. (v.rows l n em ew).rows ∙ no_rows (flat_at s at) l l (v.rows l n em ew).counts (d.nodes l (v.rows l n em ew).counts) } }

      module _ (d : FlatChunk) (e : r ≡ Some d) where
        it : ChunkIs s at d.tag d.at d.body d.next
        it = subst (FlatIs s at) e x.is

        pub find_less : length s - d.next < length s - at
        find_less = omega (arith, it.more, it.to)

        pub find-order : d.body.at ≤ d.body.end
        find-order = it.body.room

        body_in : Inside d.body (length s)
        body_in = record { before = it.body.room; within = it.body.within }

        module _ (ok : Bool) (eo : ok ≡ is d.tag NODE) where
          pub find-node : ok ≡ true → NodeFinds s from m w (Some (record { at = d.at; body = d.body; next = d.next; meshes = meshes; weights = weights }))
          unfolding shallow_rows if
          find-node z =
              let y = yes-tag d.tag NODE ok eo z in
              let f = subst (λ (u : Tag). ChunkIs s at u d.at d.body d.next) (tag_same d.tag NODE y) it in
              record {
                is = record {
                  rows = λ l n em ew.
                      let g = v.rows l n em ew in
                      record { counts = g.counts; nodes_are = g.nodes_are; meshes_are = g.meshes_are; weights_are = g.weights_are; rows = g.rows ∙ ap (shallow_rows l g.counts) f.run };
                  node = it.node y;
                  body = it.body;
                  since = omega (arith, v.since, it.from);
                  behind = it.behind;
                  to = it.to;
                  few_meshes = omega (arith, v.few_meshes, it.from);
                  few_weights = omega (arith, v.few_weights, it.from);
                };
              }

          module _ (z : ok ≡ false) where
            no_node : T (not (is d.tag NODE))
            no_node = no-tag d.tag NODE ok eo z

            on : (i j : ℕ) → ((c : Counts) → c.meshes ≡ meshes → (counted d.tag d.at (left d.body s) c).meshes ≡ i) → ((c : Counts) → c.weights ≡ weights → (counted d.tag d.at (left d.body s) c).weights ≡ j) → i ≤ d.next → j ≤ d.next → FindLeft s from m w d.next i j
            unfolding shallow_rows
            on i j mi wj hi hj = record {
              rows = λ l n em ew.
                  let g = v.rows l n em ew in
                  record {
                    counts = counted d.tag d.at (left d.body s) g.counts;
                    nodes_are = counted-nodes d.at (left d.body s) g.counts d.tag ∙ if_no (is d.tag NODE) _ _ no_node ∙ g.nodes_are;
                    meshes_are = mi g.counts g.meshes_are;
                    weights_are = wj g.counts g.weights_are;
                    rows = g.rows ∙ ap (shallow_rows l g.counts) it.run ∙ if_no (is d.tag NODE) _ (shallow_rows l (counted d.tag d.at (left d.body s) g.counts) (flat_at s d.next)) no_node;
                  };
              inside = it.to;
              since = omega (arith, v.since, it.more);
              few_meshes = hi;
              few_weights = hj;
            }

            same_meshes : T (not (is d.tag MESH)) → (c : Counts) → c.meshes ≡ meshes → (counted d.tag d.at (left d.body s) c).meshes ≡ meshes
            same_meshes h c ec = counted-meshes d.at (left d.body s) c d.tag ∙ if_no (is d.tag MESH) _ _ h ∙ ec

            same_weights : T (not (is d.tag BONE)) → (c : Counts) → c.weights ≡ weights → (counted d.tag d.at (left d.body s) c).weights ≡ weights
            same_weights h c ec = counted-weights d.at (left d.body s) c d.tag ∙ if_no (is d.tag BONE) _ _ h ∙ ec

            module _ (mesh : Bool) (eh : mesh ≡ is d.tag MESH) where
              pub find-mesh : mesh ≡ true → FindLeft s from m w d.next (meshes + 1) weights
              find-mesh y =
                  let h = yes-tag d.tag MESH mesh eh y in
                  on (meshes + 1) weights (λ c ec. counted-meshes d.at (left d.body s) c d.tag ∙ if_yes (is d.tag MESH) _ _ h ∙ ap (λ (i : ℕ). i + 1) ec) (same_weights (other_tag d.tag MESH BONE h tt))
                  (omega (arith, v.few_meshes, it.more)) (omega (arith, v.few_weights, it.more))

              module _ (y : mesh ≡ false) (bone : Bool) (eb : bone ≡ is d.tag BONE) where
                pub find-bone-fits : length s < 0x100000000 → Fits w64 (weights + (d.body.end - d.body.at) / 8)
                find-bone-fits small = record { fits = omega (arith, v.few_weights, v.inside, div-le_self (d.body.end - d.body.at) 8, it.body.within) }

                pub find-bone : bone ≡ true → FindLeft s from m w d.next meshes (weights + (d.body.end - d.body.at) / 8)
                find-bone u =
                    let h = yes-tag d.tag BONE bone eb u in
                    let past : d.body.end ≤ d.next = it.past no_node in
                    on meshes (weights + (d.body.end - d.body.at) / 8) (same_meshes (no-tag d.tag MESH mesh eh y))
                    (λ c ec. counted-weights d.at (left d.body s) c d.tag ∙ if_yes (is d.tag BONE) _ _ h ∙ omega (arith, ec, bone-count s d.body body_in))
                    (omega (arith, v.few_meshes, it.more)) (omega (arith, v.few_weights, div-le_self (d.body.end - d.body.at) 8, it.from, it.body.head, it.body.room))

                pub find-other : bone ≡ false → FindLeft s from m w d.next meshes weights
                find-other u = on meshes weights (same_meshes (no-tag d.tag MESH mesh eh y)) (same_weights (no-tag d.tag BONE bone eb u)) (omega (arith, v.few_meshes, it.more)) (omega (arith, v.few_weights, it.more))

pub ruleset find_laws = (find_start, find-inside, find-mesh-fits, find_none, find_less, find-order, find-node, find-mesh, find-bone-fits, find-bone, find-other)
