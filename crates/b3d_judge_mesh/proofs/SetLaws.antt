-- The loop of `judge_sets`, and `judge_inside`: a law for each way.
use Rattle.std.specs.Prelude.{Ok, Err, Some, None}
use Rattle.std.specs.Prelude as std
use Rattle.layout.proofs.AnswerLaws.{pair_inj}
use Rattle.layout.specs.declared.Refusal.{Refusal}
use Rattle.b3d_chunk_next_allowed.specs.declared.Enclosed.{Enclosed}
use mathlib.Core.Path.{◌≡◌, refl, ap, ap₂, sym, subst, ◌∙◌}
use Prim.Native.Nat.{ℕ, ◌≤◌, ◌+◌, ◌-◌, ◌*◌}
use native.Mathlib.Nat.{mul-le-mul_left}
use native.Mathlib.Omega.{arith}
use mathlib.Core.Bool.{true, false}
use mathlib.Core.Option.{some}
use mathlib.Core.List.{List, [], ◌∷◌}
use lib.ListN.{length}
use Rattle.wire.specs.Test.{if}
use Rattle.wire.specs.Cursors.{left}
use Rattle.wire.specs.declared.Cursor.{Cursor}
use Rattle.layout.specs.Result.{Result, accept, reject, ◌>>=◌}
use Rattle.layout.specs.Chunks.{done, stop}
use Rattle.layout.proofs.ResultLaws.{bind_bind}
use Rattle.layout.specs.Rows.{most_bytes}
use Rattle.b3d_spec.specs.declared.Mode.{Mode}
use Rattle.b3d_spec.specs.declared.Tag.{Tag}
use Rattle.b3d_spec.specs.declared.Tag.TheVariants.{MESH, VRTS}
use Rattle.b3d_spec.specs.Scene.{TriangleSet, Mesh}
use Rattle.b3d_spec.specs.Rules.{vertex_words}
use Rattle.b3d_spec.specs.Nesting.{nesting, start, next as next_turn, order, reached_at}
use Rattle.b3d_spec.specs.Parse.{read_one, Vertices, read_vertices, read_triangles, read_sets}
use Rattle.b3d_spec.proofs.Files.TagCodeLaws.{by-tag}
use Rattle.b3d_chunk_cursor.specs.Chunks.{Among as Chunked}
use Rattle.b3d_chunk_cursor.specs.declared.Next.TheVariants as next
use Rattle.b3d_judge_tally.specs.Tally.{no_tally, vertices_tally, set_tally, sets_tally, mesh_tally, plus, Within}
use Rattle.b3d_spec_chunk_places.specs.Places.{Body, rest_in, Among}
use Rattle.b3d_judge_tally.specs.Answers.{judged, JudgedIn, Judges, judged_from}
use Rattle.b3d_judge_bodies.specs.Answers.{shaped, ShapedIn, Shapes}
use Rattle.b3d_judge_tally.specs.declared.Tally.{Tally}
use Rattle.b3d_judge_tally.proofs.TallyLaws.{within_more, within-plus, within-vertices}
use Rattle.b3d_rule_nesting_order.specs.declared.Reached.{Reached as State}
use Rattle.b3d_rule_nesting_order.specs.Turns.{reached_of}
use Rattle.b3d_chunk_next_allowed.specs.Steps.{EnclosedIs}
use Rattle.b3d_chunk_next_allowed.proofs.InsideLaws.{step-among, step-turn, stop-before, end_next}
use Rattle.b3d_judge_bodies.proofs.ChunkLoopLaws.{Going, going_start, going-refused, going_done, going-place, going_more, going}
use Rattle.b3d_judge_mesh.specs.Answers.{read_after, read_inside, meshed, MeshedIn, Meshes}
use Rattle.b3d_judge_tally.proofs.AnswerLaws.{judged_bad, judged_good}
use Rattle.b3d_judge_tally.proofs.ChainLaws.{judged-start, judged-more}
use Rattle.b3d_chunk_next_allowed.proofs.RestLaws.{rest-done, rest-step, rest-stop, rest_end, step-body, among-inside, among-head}
use Rattle.b3d_spec_chunk_places.proofs.TagTestLaws.{never, some_inj}

-- ---- TRIS after TRIS

-- at c, after q, with the tally m of the sets before
pub record Setting (s : List ℕ) (at brushes vertices : ℕ) (from c : Cursor) (q : State) (m : Tally) : Type 0 where
  pub going : Going s at from c m
  pub so_far : judged sets_tally (read_sets brushes vertices (rest_in s MESH at (reached_at 1 true) from)) ≡ judged_from m sets_tally (read_sets brushes vertices (rest_in s MESH at (reached_of q) c))

sets_more : (x : TriangleSet) (l : List TriangleSet) → sets_tally (x ∷ l) ≡ plus (set_tally x) (sets_tally l)
unfolding sets_tally
sets_more x l = refl

module _ (s : List ℕ) (at brushes vertices : ℕ) (from : Cursor) where
  abbrev Sets : std.Result Tally Refusal → Type 0
  Sets x = Judges sets_tally (read_sets brushes vertices (rest_in s MESH at (reached_at 1 true) from)) from.at from.end x

  pub setting_start : Among at from (length s) → (m : Tally) → m ≡ no_tally → Setting s at brushes vertices from from (record { turn = 1; spent = true }) m
  setting_start g m e = record { going = going_start s at from m g e; so_far = rw e (judged-start sets_tally (read_sets brushes vertices (rest_in s MESH at (reached_at 1 true) from))) }

  module _ (c : Cursor) (q : State) (m : Tally) (v : Setting s at brushes vertices from c q m) (r : std.Result (std.Option Enclosed) Refusal) (x : EnclosedIs s MESH at q c r) where
    refuse : (e : Refusal) → read_sets brushes vertices (rest_in s MESH at (reached_of q) c) ≡ reject e.number e.place → e.place ≤ c.end → Sets (Err e)
    refuse = going-refused s at from c m v.going sets_tally _ _ v.so_far

    pub setting_stop : (e : Refusal) → r ≡ Err e → Sets (Err e)
    unfolding read_sets
    setting_stop e w = refuse e (rw (rest-stop s MESH at q c r x e w)) (stop-before s MESH at q c r x e w)

    pub setting_end : r ≡ (Ok None) → Sets (Ok m)
    unfolding read_sets sets_tally
    setting_end w =
        let none : read_sets brushes vertices (rest_in s MESH at (reached_of q) c) ≡ accept [] = rw (rest_end s MESH at q c r x w) in
        going_done s at from c m v.going sets_tally _ _ v.so_far [] none refl

    module _ (f : Enclosed) (w : r ≡ Ok (Some f)) (j : std.Result Tally Refusal) (h : Judges set_tally (read_triangles brushes vertices f.at (left f.body s)) f.at f.body.end j) where
      more : read_sets brushes vertices (rest_in s MESH at (reached_of q) c)
          ≡ (read_triangles brushes vertices f.at (left f.body s) >>= λ i. read_sets brushes vertices (rest_in s MESH at (reached_of f.reached) f.next) >>= λ l. accept (i ∷ l))
      unfolding read_sets
      more = rw (rest-step s MESH at q c r x f w)

      pub setting_bad : (e : Refusal) → j ≡ Err e → Sets (Err e)
      setting_bad e y = refuse e (rw (more, judged_bad set_tally (read_triangles brushes vertices f.at (left f.body s)) e (sym h.is ∙ y))) (going-place s at from c m v.going MESH q r x f w set_tally _ j h e y)

      pub setting_more : (k u : Tally) → j ≡ Ok k → u ≡ plus m k → Setting s at brushes vertices from f.next f.reached u
      setting_more k u y e =
          let g = judged_good set_tally (read_triangles brushes vertices f.at (left f.body s)) k (sym h.is ∙ y) in
          record {
            going = going_more s at from c m v.going MESH q r x f w set_tally _ j h k u y e;
            so_far =
                v.so_far ∙ ap (judged_from m sets_tally) more
                ∙ judged-more set_tally sets_tally (λ i l. i ∷ l) sets_more (read_triangles brushes vertices f.at (left f.body s)) k g m u e (read_sets brushes vertices (rest_in s MESH at (reached_of f.reached) f.next));
          }

pub ruleset setting = (setting_start, setting_stop, setting_end, setting_bad, setting_more, going)

-- ---- the chunks inside a mesh

shaped-bad : (o : Result Vertices) (e : Refusal) → shaped o ≡ Err e → o ≡ reject e.number e.place
shaped-bad (accept v) e h = let z : ◌≡◌ {A = ℕ} 0 1 = cc in absurd (omega arith)
shaped-bad (reject n p) e h = cc

record GaveShape (o : Result Vertices) (k words : ℕ) : Type 0 where
  value : Vertices
  is : o ≡ accept value
  many : k ≡ length value.items
  wide : words ≡ vertex_words value.flags value.sets value.size

shaped-good : (o : Result Vertices) (k words : ℕ) → shaped o ≡ Ok (k, words) → GaveShape o k words
shaped-good (accept v) k words h = let p = pair_inj _ _ _ _ (sym h) in record { value = v; is = refl; many = p.0; wide = p.1 }
shaped-good (reject n p) k words h = let z : ◌≡◌ {A = ℕ} 0 1 = cc in absurd (omega arith)

-- what is made of sets, by a shape
abbrev made_of : Vertices → Result (List TriangleSet) → Result Mesh
made_of v o = o >>= λ l. accept (record { brush = 0; flags = v.flags; sets = v.sets; size = v.size; vertices = v.items; triangle_sets = l })

module _ (mode : Mode) (s : List ℕ) (at brushes p : ℕ) (b n : Cursor) (gb : Body p b (length s)) (gn : Among at n (length s)) (far : at + 12 ≤ p) (join : b.end ≡ n.at)
    (j : std.Result (ℕ × ℕ) Refusal) (h : Shapes (read_vertices mode p (left b s)) b j) where
  abbrev Shape-right : std.Result (ℕ × Tally) Refusal → Type 0
  Shape-right y = Meshes (read_after brushes 0 (read_vertices mode p (left b s)) (rest_in s MESH at (reached_at 1 true) n)) at n.end y

  pub shape-bad : (e : Refusal) → j ≡ Err e → Shape-right (Err e)
  unfolding read_after
  shape-bad e z =
      let le : e.place ≤ b.end = subst (ShapedIn b) z h.within in
      record { is = rw (shaped-bad (read_vertices mode p (left b s)) e (sym h.is ∙ z)); within = omega (arith, gn.room) }

  module _ (k words : ℕ) (z : j ≡ Ok (k, words)) where
    room : (12 + k * (4 * words) ≤ b.end - b.at) × (3 ≤ words) × (words ≤ 42)
    room = subst (ShapedIn b) z h.within

    twelve : k * 12 ≤ k * (4 * words)
    twelve = mul-le-mul_left k (let a = room in omega (arith, a.1))

    pub shape-few : k ≤ most_bytes
    shape-few = let a = room in omega (arith, a.0, twelve, gb.within, gb.small)

    pub shape-wide : words ≤ 42
    shape-wide = room.2

    gave : GaveShape (read_vertices mode p (left b s)) k words
    gave = shaped-good (read_vertices mode p (left b s)) k words (sym h.is ∙ z)

    module _ (i : std.Result Tally Refusal) (hi : Judges sets_tally (read_sets brushes k (rest_in s MESH at (reached_at 1 true) n)) n.at n.end i) where
      sets-read : read_after brushes 0 (read_vertices mode p (left b s)) (rest_in s MESH at (reached_at 1 true) n) ≡ made_of gave.value (read_sets brushes k (rest_in s MESH at (reached_at 1 true) n))
      unfolding read_after
      sets-read =
          let v = gave in
          ap (λ (o : Result Vertices). o >>= λ v. made_of v (read_sets brushes (length v.items) (rest_in s MESH at (reached_at 1 true) n))) v.is
          ∙ ap (λ (m : ℕ). made_of v.value (read_sets brushes m (rest_in s MESH at (reached_at 1 true) n))) (sym v.many)

      pub shape-sets-bad : (e : Refusal) → i ≡ Err e → Shape-right (Err e)
      shape-sets-bad e y = record {
        is = rw (sets-read, judged_bad sets_tally (read_sets brushes k (rest_in s MESH at (reached_at 1 true) n)) e (sym hi.is ∙ y));
        within = subst (JudgedIn n.at n.end) y hi.within;
      }

      module _ (u : Tally) (y : i ≡ Ok u) where
        tail : Within u (n.end - n.at)
        tail = subst (JudgedIn n.at n.end) y hi.within

        pub shape-sets-small : Within u most_bytes
        shape-sets-small = within_more (n.end - n.at) most_bytes tail (omega (arith, gn.within, gn.small))

        first : Within (vertices_tally k words) (n.at - at)
        first = let a = room in within-vertices k words (n.at - at) a.1 (omega (arith, a.0, gb.head, gb.room, far, join)) twelve

        pub shape-vertices-small : Within (vertices_tally k words) most_bytes
        shape-vertices-small = within_more (n.at - at) most_bytes first (omega (arith, gn.room, gn.within, gn.small))

        pub shape-good : (m : Tally) → m ≡ plus (vertices_tally k words) u → Shape-right (Ok (k, m))
        unfolding mesh_tally
        shape-good m e =
            let v = gave in
            let l = judged_good sets_tally (read_sets brushes k (rest_in s MESH at (reached_at 1 true) n)) u (sym hi.is ∙ y) in
            let M : Mesh = record { brush = 0; flags = v.value.flags; sets = v.value.sets; size = v.value.size; vertices = v.value.items; triangle_sets = l.value } in
            let to : read_after brushes 0 (read_vertices mode p (left b s)) (rest_in s MESH at (reached_at 1 true) n) ≡ accept M = sets-read ∙ ap (made_of v.value) l.is in
            record {
              is = made M v.many (e ∙ ap₂ plus (ap₂ vertices_tally v.many v.wide) l.has) ∙ ap meshed (sym to);
              within = rw e (within-plus (vertices_tally k words) u (n.at - at) (n.end - n.at) (n.end - at) first tail (omega (arith, gn.head, gn.room)));
            }
          where
            made : (q : Mesh) → k ≡ length q.vertices → m ≡ plus (vertices_tally (length q.vertices) (vertex_words q.flags q.sets q.size)) (sets_tally q.triangle_sets) → Ok (k, m) ≡ meshed (accept q)
            made q ek em = ap₂ (λ a b. Ok (a, b)) ek em

-- the rows of a mesh: of its vertices and of its sets
module _ (k words : ℕ) (v : Tally) (e : v ≡ vertices_tally k words) where
  pub rows-small : Within (vertices_tally k words) most_bytes → Within v most_bytes
  rows-small h = rw e h

  pub rows_are : (u m : Tally) → m ≡ plus v u → m ≡ plus (vertices_tally k words) u
  rows_are u m h = h ∙ ap (λ (w : Tally). plus w u) e

pub ruleset rows_laws = (rows-small, rows_are)

pub ruleset shape_laws = (shape-bad, shape-few, shape-wide, shape-sets-bad, shape-sets-small, shape-vertices-small, shape-good)

-- the first chunk of a mesh is its VRTS
first-turn : (t : Tag) (z : State) → next_turn (nesting MESH) (nesting MESH) start t ≡ some (reached_of z) → (t ≡ VRTS) × (reached_of z ≡ reached_at 1 true)
unfolding next_turn if
first-turn t z =
    by-tag (λ t. next_turn (nesting MESH) (nesting MESH) start t ≡ some (reached_of z) → (t ≡ VRTS) × (reached_of z ≡ reached_at 1 true))
    (never, never, never, never, never, (λ h. (refl, some_inj h)), never, never, never, never) t

module _ (mode : Mode) (s : List ℕ) (at brushes : ℕ) (from : Cursor) (g : Among at from (length s)) (far : at + 12 ≤ from.at) (r : std.Result (std.Option Enclosed) Refusal) (x : EnclosedIs s MESH at (record { turn = 0; spent = false }) from r) where
  abbrev Inside-mesh : std.Result (ℕ × Tally) Refusal → Type 0
  Inside-mesh y = Meshes (read_inside mode brushes 0 (rest_in s MESH at start from)) at from.end y

  pub inside-stop : (e : Refusal) → r ≡ Err e → Inside-mesh (Err e)
  unfolding read_inside read_one
  inside-stop e w = record {
    is = rw (rest-stop s MESH at (record { turn = 0; spent = false }) from r x e w);
    within = stop-before s MESH at (record { turn = 0; spent = false }) from r x e w;
  }

  -- it owes its VRTS
  pub inside-end : r ≡ (Ok None) → (y : std.Result (ℕ × Tally) Refusal) → Inside-mesh y
  unfolding order if
  inside-end w y =
      let n = end_next s MESH at (record { turn = 0; spent = false }) from r x w in
      let e : stop 8 at ≡ done = sym (rest-done s from next.Done n MESH at start refl) ∙ rest_end s MESH at (record { turn = 0; spent = false }) from r x w in
      let z : ◌≡◌ {A = ℕ} 0 1 = cc in absurd (omega arith)

  module _ (d : Enclosed) (w : r ≡ Ok (Some d)) where
    among : Chunked from d.at d.body d.next
    among = step-among s MESH at (record { turn = 0; spent = false }) from r x d w

    pub inside-body : Body d.at d.body (length s)
    inside-body = step-body s MESH at (record { turn = 0; spent = false }) from r x at g d w

    pub inside-among : Among at d.next (length s)
    inside-among = let f = among in record { head = omega (arith, g.head); room = f.to; within = omega (arith, g.within); small = g.small }

    pub inside_far : at + 12 ≤ d.at
    inside_far = let f = among in omega arith

    pub inside-join : d.body.end ≡ d.next.at
    inside-join = sym among.after

    pub inside-shape : (y : std.Result (ℕ × Tally) Refusal) → Meshes (read_after brushes 0 (read_vertices mode d.at (left d.body s)) (rest_in s MESH at (reached_at 1 true) d.next)) at d.next.end y → Inside-mesh y
    unfolding read_inside read_after read_one if
    inside-shape y m =
        let f = among in
        let u = first-turn d.tag d.reached (step-turn s MESH at (record { turn = 0; spent = false }) from r x d w) in
        let opened : read_inside mode brushes 0 (rest_in s MESH at start from) ≡ read_after brushes 0 (read_vertices mode d.at (left d.body s)) (rest_in s MESH at (reached_at 1 true) d.next) =
        rw (rest-step s MESH at (record { turn = 0; spent = false }) from r x d w, u.0, u.1) (bind_bind (read_vertices mode d.at (left d.body s)) _ _) in
        record {
          is = m.is ∙ ap meshed (sym opened);
          within = subst (λ (e : ℕ). MeshedIn at e y) f.same m.within;
        }

pub ruleset inside_laws = (among-head, among-inside, inside-stop, inside-end, inside-body, inside-among, inside_far, inside-join, inside-shape)
