-- A law for each way through `lax_node`, and through the loop of `lax_nodes`.
use Rattle.layout.specs.Refused.{refusal_at}
use Rattle.std.specs.Prelude.{Ok, Err, Some, None}
use Rattle.std.specs.Prelude as std
use Rattle.layout.specs.declared.Refusal.{Refusal}
use Rattle.b3d_chunk_next_allowed.specs.declared.Enclosed.{Enclosed}
use mathlib.Core.Path.{◌≡◌, refl, ap, ap₂, sym, subst, ◌∙◌}
use Prim.Native.Nat.{ℕ, zero, suc, ◌≤◌, ◌+◌, ◌-◌}
use native.Mathlib.Omega.{arith}
use mathlib.Core.Bool.{false}
use mathlib.Core.Option.{Option}
use mathlib.Core.List.{List}
use lib.ListN.{length}
use Rattle.wire.specs.Cursors.{left}
use Rattle.wire.specs.declared.Cursor.{Cursor}
use Rattle.layout.specs.Result.{Result, accept, reject, ◌>>=◌}
use Rattle.layout.specs.Parts.{named}
use Rattle.layout.proofs.ResultLaws.{bind_cong, bind_bind}
use Rattle.layout.specs.Rows.{most_bytes}
use Rattle.b3d_spec.specs.declared.Tag.{Tag}
use Rattle.b3d_spec.specs.declared.Tag.TheVariants.{NODE}
use Rattle.b3d_spec.specs.Tags.{Chunks, Found}
use Rattle.b3d_spec.specs.Scene.{Data, Forest, no_nodes, node, no_anim}
use Rattle.b3d_spec.specs.Rules.{node_row, bone_limit, bone_limit_below}
use Rattle.b3d_spec.specs.Nesting.{reached_at}
use Rattle.b3d_spec.specs.Parse.{Inner, read_animation, read_nodes, read_below}
use Rattle.b3d_judge_tally.specs.Tally.{no_tally, data_tally, forest_tally, inner_tally, plus, Within}
use Rattle.b3d_spec_chunk_places.specs.Places.{Body, rest_in, Among}
use Rattle.b3d_judge_tally.specs.Answers.{judged, JudgedIn, Judges, judged_from}
use Rattle.b3d_judge_tally.specs.declared.Tally.{Tally}
use Rattle.b3d_judge_tally.proofs.TallyLaws.{within_more, within-plus}
use Rattle.b3d_rule_nesting_order.specs.declared.Reached.{Reached as State}
use Rattle.b3d_rule_nesting_order.specs.Turns.{reached_of}
use Rattle.b3d_chunk_next_allowed.specs.Steps.{EnclosedIs}
use Rattle.b3d_chunk_next_allowed.proofs.InsideLaws.{stop-before}
use Rattle.b3d_judge_node.specs.Answers.{above_of, owned, owned_by}
use Rattle.b3d_mend_judge_items.specs.Lax.{lax_inside, lax_kind, lax_node}
use Rattle.b3d_mend_judge_node.specs.Answers.{lax_own, Ahead, OwnedIn, Owns}
use Rattle.b3d_judge_tally.proofs.AnswerLaws.{GaveBeside, beside_bad, beside_good, judged_bad, judged_good}
use Rattle.b3d_judge_tally.proofs.ChainLaws.{judged-start, judged-more}
use Rattle.b3d_chunk_next_allowed.proofs.RestLaws.{rest-step, rest-stop, rest_end}
use Rattle.b3d_judge_bodies.proofs.ChunkLoopLaws.{Going, going_start, going-refused, going_done, going-place, going_more, going}

-- ---- a node: its own, then the nodes below

-- the nodes below, after a node's own
abbrev pub below : ℕ → Option ℕ → Found Data → Result Inner
below l a d = read_nodes (lax_node l (bone_limit_below a d.value)) d.rest >>= λ f. accept (record { self = d.value; below = f })

pub node_open : (l : ℕ) (a : Option ℕ) (p : ℕ) (b : List ℕ) → (l ≡ 0 → ⊥) → lax_node l a p b ≡ (lax_own a p b >>= below (l - 1) a)
unfolding lax_node lax_own read_below
node_open zero a p b d = absurd (d refl)
node_open (suc l) a p b d =
    let e : suc l - 1 ≡ l = omega arith in
    rw e
    (sym (bind_bind (named node_row (p + 8) b) _ (below l a)
    ∙ bind_cong (named node_row (p + 8) b) (λ h _. bind_bind (lax_kind (bone_limit a) (lax_inside NODE p h.place h.left)) _ (below l a)
    ∙ bind_cong (lax_kind (bone_limit a) (lax_inside NODE p h.place h.left)) (λ k _. bind_bind (read_animation no_anim k.rest) _ (below l a)))))

-- ---- what `lax_own` says

pub owns-at : (a : Option ℕ) (o : Result (Found Data)) (rest : Cursor → Chunks) (at end : ℕ) (k : std.Result (std.Option ℕ × Tally × Cursor) Refusal) → Owns a o rest at end k → {x : (std.Result (std.Option ℕ × Tally × Cursor) Refusal)} → k ≡ x → owned_by rest x ≡ owned a o
owns-at a o rest at end k h z = subst (λ (x : std.Result (std.Option ℕ × Tally × Cursor) Refusal). owned_by rest x ≡ owned a o) z h.is

-- ---- the ways through a node

module _ (s : List ℕ) (at : ℕ) (body : Cursor) (g : Body at body (length s)) (a : Option ℕ) (j : std.Result (std.Option ℕ × Tally × Cursor) Refusal)
    (h : Owns a (lax_own a at (left body s)) (rest_in s NODE at (reached_at 3 false)) at body.end j) (b : std.Option ℕ) (t : Tally) (c : Cursor) (z : j ≡ Ok (b, t, c)) where
  own_on : Ahead at body.end c t
  own_on = subst (OwnedIn at body.end) z h.within

  pub node-among : Among at c (length s)
  node-among = let o = own_on in record { head = o.head; room = o.room; within = omega (arith, g.within, o.before); small = g.small }

  pub node-own-small : Within t most_bytes
  node-own-small = let o = own_on in within_more (c.at - at) most_bytes o.within (omega (arith, o.room, o.before, g.within, g.small))

module _ (s : List ℕ) (at : ℕ) (body : Cursor) (g : Body at body (length s)) (l : ℕ) (a : Option ℕ) where
  abbrev Node : std.Result Tally Refusal → Type 0
  Node x = Judges inner_tally (lax_node l a at (left body s)) at body.end x

  pub node-deep : l ≡ 0 → Node (Err (refusal_at 9 at))
  unfolding lax_node
  node-deep e = record { is = rw e; within = omega (arith, g.head, g.room) }

  module _ (d : l ≡ 0 → ⊥) (j : std.Result (std.Option ℕ × Tally × Cursor) Refusal) (h : Owns a (lax_own a at (left body s)) (rest_in s NODE at (reached_at 3 false)) at body.end j) where
    pub node-own-bad : (e : Refusal) → j ≡ Err e → Node (Err e)
    node-own-bad e z =
        let b = beside_bad (bone_limit_below a) data_tally (lax_own a at (left body s)) e.number e.place (owns-at a (lax_own a at (left body s)) (rest_in s NODE at (reached_at 3 false)) at body.end j h z) in
        record { is = rw (node_open l a at (left body s) d, b); within = subst (OwnedIn at body.end) z h.within }

    module _ (b : std.Option ℕ) (t : Tally) (c : Cursor) (z : j ≡ Ok (b, t, c)) where
      on : Ahead at body.end c t
      on = own_on s at body g a j h b t c z

      among : Among at c (length s)
      among = node-among s at body g a j h b t c z

      gave : GaveBeside (bone_limit_below a) data_tally (lax_own a at (left body s)) (above_of b) t (rest_in s NODE at (reached_at 3 false) c)
      gave = beside_good (bone_limit_below a) data_tally (lax_own a at (left body s)) (above_of b) t (rest_in s NODE at (reached_at 3 false) c) (owns-at a (lax_own a at (left body s)) (rest_in s NODE at (reached_at 3 false)) at body.end j h z)

      opened : lax_node l a at (left body s)
          ≡ (read_nodes (lax_node (l - 1) (above_of b)) (rest_in s NODE at (reached_at 3 false) c) >>= λ f. accept (record { self = gave.value; below = f }))
      opened =
          let v = gave in
          node_open l a at (left body s) d ∙ ap (λ (o : Result (Found Data)). o >>= below (l - 1) a) v.is
          ∙ ap (λ (q : Option ℕ). read_nodes (lax_node (l - 1) q) (rest_in s NODE at (reached_at 3 false) c) >>= λ f. accept (record { self = v.value; below = f })) (sym v.first)

      module _ (k : std.Result Tally Refusal) (hk : Judges forest_tally (read_nodes (lax_node (l - 1) (above_of b)) (rest_in s NODE at (reached_at 3 false) c)) c.at c.end k) where
        pub node-below-bad : (e : Refusal) → k ≡ Err e → Node (Err e)
        node-below-bad e y =
            let i = judged_bad forest_tally (read_nodes (lax_node (l - 1) (above_of b)) (rest_in s NODE at (reached_at 3 false) c)) e (sym hk.is ∙ y) in
            let le : e.place ≤ c.end = subst (JudgedIn c.at c.end) y hk.within in
            record { is = rw (opened, i); within = let o = on in omega (arith, o.before) }

        pub node-below-small : (f : Tally) → k ≡ Ok f → Within f most_bytes
        node-below-small f y =
            let i : Within f (c.end - c.at) = subst (JudgedIn c.at c.end) y hk.within in
            within_more (c.end - c.at) most_bytes i (let q = among in omega (arith, q.within, q.small))

        pub node-good : (f x : Tally) → k ≡ Ok f → x ≡ plus t f → Node (Ok x)
        unfolding inner_tally
        node-good f x y e =
            let o = on in
            let v = judged_good forest_tally (read_nodes (lax_node (l - 1) (above_of b)) (rest_in s NODE at (reached_at 3 false) c)) f (sym hk.is ∙ y) in
            let i : Within f (c.end - c.at) = subst (JudgedIn c.at c.end) y hk.within in
            let to : lax_node l a at (left body s) ≡ accept (record { self = gave.value; below = v.value }) =
            opened ∙ ap (λ (q : Result Forest). q >>= λ f. accept (record { self = gave.value; below = f })) v.is in
            record {
              is = ap Ok (e ∙ ap₂ plus gave.has v.has) ∙ inner gave.value v.value ∙ ap (judged inner_tally) (sym to);
              within = rw e (within-plus t f (c.at - at) (c.end - c.at) (body.end - at) o.within i (omega (arith, o.head, o.room, o.before)));
            }
          where
            inner : (d : Data) (f : Forest) → Ok (plus (data_tally d) (forest_tally f)) ≡ judged inner_tally (accept (record { self = d; below = f }))
            inner d f = refl

pub ruleset node_laws = (node-deep, node-own-bad, node-among, node-own-small, node-below-bad, node-below-small, node-good)

-- ---- the loop over nodes

-- at c, after q, with the tally m of the nodes before
pub record Noding (s : List ℕ) (at : ℕ) (one : ℕ → List ℕ → Result Inner) (from c : Cursor) (q : State) (m : Tally) : Type 0 where
  pub going : Going s at from c m
  pub so_far : judged forest_tally (read_nodes one (rest_in s NODE at (reached_at 3 false) from)) ≡ judged_from m forest_tally (read_nodes one (rest_in s NODE at (reached_of q) c))

forest-more : (x : Inner) (f : Forest) → forest_tally (node x.self x.below f) ≡ plus (inner_tally x) (forest_tally f)
unfolding forest_tally inner_tally
forest-more x f = refl

module _ (s : List ℕ) (at l : ℕ) (a : Option ℕ) (from : Cursor) where
  abbrev one : ℕ → List ℕ → Result Inner
  one = lax_node l a

  abbrev Nodes : std.Result Tally Refusal → Type 0
  Nodes x = Judges forest_tally (read_nodes one (rest_in s NODE at (reached_at 3 false) from)) from.at from.end x

  pub noding_start : Among at from (length s) → (m : Tally) → m ≡ no_tally → Noding s at (lax_node l a) from from (record { turn = 3; spent = false }) m
  noding_start g m e = record { going = going_start s at from m g e; so_far = rw e (judged-start forest_tally (read_nodes one (rest_in s NODE at (reached_at 3 false) from))) }

  module _ (c : Cursor) (q : State) (m : Tally) (v : Noding s at (lax_node l a) from c q m) (r : std.Result (std.Option Enclosed) Refusal) (x : EnclosedIs s NODE at q c r) where
    refuse : (e : Refusal) → read_nodes one (rest_in s NODE at (reached_of q) c) ≡ reject e.number e.place → e.place ≤ c.end → Nodes (Err e)
    refuse = going-refused s at from c m v.going forest_tally _ _ v.so_far

    pub noding_stop : (e : Refusal) → r ≡ Err e → Nodes (Err e)
    unfolding read_nodes
    noding_stop e w = refuse e (rw (rest-stop s NODE at q c r x e w)) (stop-before s NODE at q c r x e w)

    pub noding_end : r ≡ (Ok None) → Nodes (Ok m)
    unfolding read_nodes forest_tally
    noding_end w =
        let none : read_nodes one (rest_in s NODE at (reached_of q) c) ≡ accept no_nodes = rw (rest_end s NODE at q c r x w) in
        going_done s at from c m v.going forest_tally _ _ v.so_far no_nodes none refl

    module _ (d : Enclosed) (w : r ≡ Ok (Some d)) (j : std.Result Tally Refusal) (h : Judges inner_tally (lax_node l a d.at (left d.body s)) d.at d.body.end j) where
      more : read_nodes one (rest_in s NODE at (reached_of q) c) ≡ (one d.at (left d.body s) >>= λ i. read_nodes one (rest_in s NODE at (reached_of d.reached) d.next) >>= λ f. accept (node i.self i.below f))
      unfolding read_nodes
      more = rw (rest-step s NODE at q c r x d w)

      pub noding_bad : (e : Refusal) → j ≡ Err e → Nodes (Err e)
      noding_bad e y = refuse e (rw (more, judged_bad inner_tally (one d.at (left d.body s)) e (sym h.is ∙ y))) (going-place s at from c m v.going NODE q r x d w inner_tally _ j h e y)

      pub noding_more : (k u : Tally) → j ≡ Ok k → u ≡ plus m k → Noding s at (lax_node l a) from d.next d.reached u
      noding_more k u y e =
          let g = judged_good inner_tally (one d.at (left d.body s)) k (sym h.is ∙ y) in
          record {
            going = going_more s at from c m v.going NODE q r x d w inner_tally _ j h k u y e;
            so_far =
                v.so_far ∙ ap (judged_from m forest_tally) more
                ∙ judged-more inner_tally forest_tally (λ i f. node i.self i.below f) forest-more (one d.at (left d.body s)) k g m u e (read_nodes one (rest_in s NODE at (reached_of d.reached) d.next));
          }

pub ruleset noding = (noding_start, noding_stop, noding_end, noding_bad, noding_more, going)
