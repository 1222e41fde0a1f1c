-- What holds of the flat run of a file by its steps; rows of nodes after counts and open nodes that are alike; rows up to the first node that stands too deep.
use mathlib.Core.Path.{◌≡◌, refl, ap, ap₂, sym, subst, ◌∙◌}
use Prim.Native.Nat.{ℕ, zero, suc, ◌+◌, ◌-◌, ◌≤◌}
use native.Mathlib.Omega.{arith}
use mathlib.Core.Bool.{Bool, true, false, not, ◌&&◌}
use mathlib.Core.List.{List, [], ◌∷◌}
use lib.ListN.{length}
use lib.Dec.{T, leb, ltb, ltb→lt}
use borrow.Author.Tests.{lt-leb}
use Rattle.wire.specs.Test.{if}
use Rattle.layout.specs.Chunks.{done, stop, chunk}
use Rattle.layout.specs.Result.{Result, accept, reject}
use Rattle.layout.specs.Parts.{Name, Step, named}
use Rattle.layout.proofs.ResultLaws.{by_test, if_yes, if_no}
use Rattle.b3d_spec.specs.declared.Counts.{Counts}
use Rattle.b3d_spec.specs.declared.Tag.{Tag}
use Rattle.b3d_spec.specs.declared.Tag.TheVariants.{NODE, MESH, BONE}
use Rattle.b3d_spec.specs.Rules.{node_row}
use Rattle.b3d_spec.specs.Tags.{Chunks, is}
use Rattle.b3d_spec_plain_rows.specs.Flat.{rest, flat_at}
use Rattle.b3d_spec_plain_rows.specs.Plain.{plain_weights}
use Rattle.b3d_spec_plain_rows.specs.Rows.{Open, add_node, parent_at, opened, row_of, node_rows, counted}
use Rattle.b3d_spec_plain_rows.proofs.TextEndLaws.{named-ahead}
use Rattle.b3d_spec_plain_rows.proofs.FlatRunLaws.{Here, Laid, rest_laid, run-done, run-stop, run_past, run_into, run_none}
use Rattle.b3d_chunk_walk.proofs.CountLaws.{counted-nodes, counted-meshes, counted-weights}
use Rattle.b3d_read_nodes.proofs.NodeRowLaws.{row_told}
use Rattle.b3d_read_node_cells.specs.Parts.{told}
use Rattle.b3d_rows_nodes.specs.NodeStack.{open_at}
use Rattle.b3d_rows_nodes.specs.NextNode.{shallow, shallow_rows}
use Rattle.b3d_rows_nodes.proofs.NodeStackLaws.{open_parent}

module _ (s : List ℕ) (P : ℕ → Chunks → Type 0)
    (at_done : (at : ℕ) → P at done)
    (at-stop : (at n p : ℕ) → P at (stop n p))
    (at_node : (at p : ℕ) (b : List ℕ) (q : ℕ) → at ≤ p → p + 8 ≤ q → P q (flat_at s q) → P at (chunk NODE p b (flat_at s q)))
    (at_other : (at : ℕ) (t : Tag) (p : ℕ) (b : List ℕ) (q : ℕ) → T (not (is t NODE)) → at ≤ p → p + 8 ≤ q → P q (flat_at s q) → P at (chunk t p b (flat_at s q))) where
  into : (at : ℕ) (t : Tag) (p : ℕ) (b : List ℕ) → Here s at t p b → T (is t NODE) → ((q : ℕ) → p + 8 ≤ q → P q (flat_at s q)) → (o : Result (Step (Name × List ℕ))) → named node_row (p + 8) b ≡ o → P at (flat_at s at)
  into at t p b h y again (accept x) e =
      let a = named-ahead node_row (p + 8) b x e in
      let le : p + 8 ≤ x.place = omega (arith, a.place) in
      subst (P at) (sym (run_into s at t p b h x y e)) (at_node at p b x.place h.from le (again x.place le))
  into at t p b h y again (reject n q) e = subst (P at) (sym (run_none s at t p b h n q y e)) (at-stop at n q)

  by_steps : (f at : ℕ) → length s - at ≤ f → (cs : Chunks) → rest s at ≡ cs → Laid s (length s) at cs → P at (flat_at s at)
  by_steps zero at m done h k = subst (P at) (sym (run-done s at h)) (at_done at)
  by_steps zero at m (stop n p) h k = subst (P at) (sym (run-stop s at n p h)) (at-stop at n p)
  by_steps zero at m (chunk t p b r) h k = absurd (omega (arith, k.0.from, k.0.to))
  by_steps (suc f) at m done h k = subst (P at) (sym (run-done s at h)) (at_done at)
  by_steps (suc f) at m (stop n p) h k = subst (P at) (sym (run-stop s at n p h)) (at-stop at n p)
  by_steps (suc f) at m (chunk t p b r) h k =
      let again : (q : ℕ) → p + 8 ≤ q → P q (flat_at s q) = λ q le. by_steps f q (omega (arith, k.0.from)) (rest s q) refl (rest_laid s q) in
      by_test (is t NODE)
      (λ y. into at t p b k.0 y again (named node_row (p + 8) b) refl)
      (λ y. subst (P at) (sym (run_past s at t p b k.0 y)) (at_other at t p b (p + 8 + length b) y k.0.from (omega arith) (again (p + 8 + length b) (omega arith))))

  pub by-run : (at : ℕ) → P at (flat_at s at)
  by-run at = by_steps (length s - at) at (omega arith) (rest s at) refl (rest_laid s at)

-- ---- alike

pub record Nodes (n m : Counts) : Type 0 where
  pub nodes : n.nodes ≡ m.nodes
  pub meshes : n.meshes ≡ m.meshes
  pub weights : n.weights ≡ m.weights

nodes-keep : (t : Tag) (p : ℕ) (b : List ℕ) (n m : Counts) → Nodes n m → Nodes (counted t p b n) (counted t p b m)
nodes-keep t p b n m h = record {
  nodes = counted-nodes p b n t ∙ ap (λ (i : ℕ). if (is t NODE) (i + 1) i) h.nodes ∙ sym (counted-nodes p b m t);
  meshes = counted-meshes p b n t ∙ ap (λ (i : ℕ). if (is t MESH) (i + 1) i) h.meshes ∙ sym (counted-meshes p b m t);
  weights = counted-weights p b n t ∙ ap (λ (i : ℕ). if (is t BONE) (i + length (plain_weights b)) i) h.weights ∙ sym (counted-weights p b m t);
}

-- from a place on they have the same parents
abbrev pub SameParents : ℕ → List Open → List Open → Type 0
SameParents at l k = (p : ℕ) → at ≤ p → parent_at p l ≡ parent_at p k

pub opened-same : (at e i : ℕ) (l k : List Open) → SameParents at l k → SameParents at (record { end = e; index = i } ∷ l) (record { end = e; index = i } ∷ k)
unfolding parent_at
opened-same at e i l k h p le = ap (λ (j : ℕ). if (leb e p) j i) (h p le)

abbrev Alike : ℕ → Chunks → Type 0
Alike at cs = (l k : List Open) → SameParents at l k → (n m : Counts) → Nodes n m → node_rows l n cs ≡ node_rows k m cs

row-alike : (o : Result (Step (Name × List ℕ))) (cs : Chunks) (i j end : ℕ) (n m : Counts) → i ≡ j → Nodes n m → row_of o cs i end n ≡ row_of o cs j end m
row-alike o cs i j end n m e h =
    row_told o cs i end n ∙ ap₂ (λ (a b : ℕ). row_of o cs i end (told a b)) h.meshes h.weights ∙ sym (row_told o cs i end m) ∙ ap (λ (a : ℕ). row_of o cs a end m) e

module _ (s : List ℕ) where
  alike-node : (at p : ℕ) (b : List ℕ) (q : ℕ) → at ≤ p → p + 8 ≤ q → Alike q (flat_at s q) → Alike at (chunk NODE p b (flat_at s q))
  unfolding node_rows if
  alike-node at p b q lo le more l k same n m h =
      ap₂ (λ (r : List ℕ) (rs : List (List ℕ)). r ∷ rs)
      (row-alike (named node_row (p + 8) b) (flat_at s q) (parent_at p l) (parent_at p k) (p + 8 + length b) n m (same p lo) h)
      (ap (λ (i : ℕ). node_rows (opened p b i l) (counted NODE p b n) (flat_at s q)) h.nodes
      ∙ more (opened p b m.nodes l) (opened p b m.nodes k) (opened-same q (p + 8 + length b) m.nodes l k (λ i j. same i (omega arith))) (counted NODE p b n) (counted NODE p b m) (nodes-keep NODE p b n m h))

  alike-other : (at : ℕ) (t : Tag) (p : ℕ) (b : List ℕ) (q : ℕ) → T (not (is t NODE)) → at ≤ p → p + 8 ≤ q → Alike q (flat_at s q) → Alike at (chunk t p b (flat_at s q))
  unfolding node_rows
  alike-other at t p b q nn lo le more l k same n m h =
      if_no (is t NODE) _ (node_rows l (counted t p b n) (flat_at s q)) nn
      ∙ more l k (λ i j. same i (omega arith)) (counted t p b n) (counted t p b m) (nodes-keep t p b n m h)
      ∙ sym (if_no (is t NODE) _ (node_rows k (counted t p b m) (flat_at s q)) nn)

  pub nodes-alike : (at : ℕ) → Alike at (flat_at s at)
  unfolding node_rows
  nodes-alike = by-run s Alike (λ at l k same n m h. refl) (λ at i p l k same n m h. refl) alike-node alike-other

-- ---- rows up to the first node that stands in 16 others

-- a run with no rows has none of these
pub no_rows : (cs : Chunks) (l k : List Open) (n : Counts) → node_rows l n cs ≡ [] → shallow_rows k n cs ≡ []
unfolding node_rows shallow_rows
no_rows done l k n h = refl
no_rows (stop i p) l k n h = refl
no_rows (chunk t p b r) l k n h =
    by_test (is t NODE)
    (λ y. absurd (omega (arith, ap length (sym (if_yes (is t NODE) _ (node_rows l (counted t p b n) r) y) ∙ h))))
    (λ y. if_no (is t NODE) _ (shallow_rows k (counted t p b n) r) y ∙ no_rows r l k (counted t p b n) (sym (if_no (is t NODE) _ (node_rows l (counted t p b n) r) y) ∙ h))

-- only these counts matter
pub shallow-alike : (cs : Chunks) (l : List Open) (n m : Counts) → Nodes n m → shallow_rows l n cs ≡ shallow_rows l m cs
unfolding shallow_rows
shallow-alike done l n m h = refl
shallow-alike (stop i p) l n m h = refl
shallow-alike (chunk t p b r) l n m h =
    let row = row-alike (named node_row (p + 8) b) r (parent_at p l) (parent_at p l) (p + 8 + length b) n m refl h in
    let more = ap (λ (i : ℕ). shallow_rows (opened p b i (open_at p l)) (counted t p b n) r) h.nodes ∙ shallow-alike r (opened p b m.nodes (open_at p l)) (counted t p b n) (counted t p b m) (nodes-keep t p b n m h) in
    ap₂ (λ (a c : List (List ℕ)). if (is t NODE) (if (leb 16 (length (open_at p l))) [] a) c)
    (ap₂ (λ (a : List ℕ) (l : List (List ℕ)). a ∷ l) row more)
    (shallow-alike r l (counted t p b n) (counted t p b m) (nodes-keep t p b n m h))

both : (a b : Bool) → T (a && b) → T a × T b
both true b h = (tt, h)
both false b h = absurd h

module _ (s : List ℕ) where
  abbrev All : ℕ → Chunks → Type 0
  All at cs = (l : List Open) (n : Counts) → T (shallow n.nodes l cs) → shallow_rows l n cs ≡ node_rows l n cs

  all-node : (at p : ℕ) (b : List ℕ) (q : ℕ) → at ≤ p → p + 8 ≤ q → All q (flat_at s q) → All at (chunk NODE p b (flat_at s q))
  unfolding shallow shallow_rows node_rows add_node if
  all-node at p b q lo le more l n h =
      let o = open_at p l in
      let d = both (ltb (length o) 16) (shallow (n.nodes + 1) (opened p b n.nodes o) (flat_at s q)) h in
      let e = p + 8 + length b in
      rw (lt-leb 16 (length o) (ltb→lt (length o) 16 d.0))
      (ap (λ (rs : List (List ℕ)). row_of (named node_row (p + 8) b) (flat_at s q) (parent_at p l) e n ∷ rs)
      (more (opened p b n.nodes o) (counted NODE p b n) d.1
      ∙ nodes-alike s q (opened p b n.nodes o) (opened p b n.nodes l) (opened-same q e n.nodes o l (λ j lj. open_parent p j (omega arith) l)) (counted NODE p b n) (counted NODE p b n) (record { nodes = refl; meshes = refl; weights = refl })))

  all-other : (at : ℕ) (t : Tag) (p : ℕ) (b : List ℕ) (q : ℕ) → T (not (is t NODE)) → at ≤ p → p + 8 ≤ q → All q (flat_at s q) → All at (chunk t p b (flat_at s q))
  unfolding shallow shallow_rows node_rows
  all-other at t p b q nn lo le more l n h =
      let e = counted-nodes p b n t ∙ if_no (is t NODE) _ _ nn in
      if_no (is t NODE) _ (shallow_rows l (counted t p b n) (flat_at s q)) nn
      ∙ more l (counted t p b n) (subst (λ (i : ℕ). T (shallow i l (flat_at s q))) (sym e) (subst T (if_no (is t NODE) _ (shallow n.nodes l (flat_at s q)) nn) h))
      ∙ sym (if_no (is t NODE) _ (node_rows l (counted t p b n) (flat_at s q)) nn)

  -- where none stands so deep, they are all rows
  pub all-rows : (at : ℕ) → All at (flat_at s at)
  unfolding shallow_rows node_rows
  all-rows = by-run s All (λ at l n h. refl) (λ at i p l n h. refl) all-node all-other
