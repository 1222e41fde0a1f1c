-- A law for each way through `lax_parts` and `lax_own`.
use Rattle.layout.specs.Refused.{refusal_at}
use Rattle.std.specs.Prelude.{Ok, Err, Some, None}
use Rattle.std.specs.Prelude as std
use Rattle.layout.specs.declared.Refusal.{Refusal}
use Rattle.b3d_chunk_cursor.specs.declared.Named.{Named}
use mathlib.Core.Path.{◌≡◌, refl, ap, ap₂, sym, subst, ◌∙◌}
use Prim.Native.Nat.{ℕ, ◌≤◌, ◌+◌, ◌-◌}
use native.Mathlib.Omega.{arith}
use mathlib.Core.Bool.{Bool, false}
use mathlib.Core.Option.{Option}
use mathlib.Core.List.{List}
use lib.ListN.{length, take}
use Rattle.wire.specs.Cursors.{Inside, left}
use Rattle.wire.specs.declared.Cursor.{Cursor}
use Rattle.layout.specs.Result.{Result, accept, reject, ◌>>=◌}
use Rattle.layout.specs.Parts.{words_of}
use Rattle.layout.specs.Rows.{most_bytes}
use Rattle.b3d_spec.specs.declared.Tag.TheVariants.{NODE}
use Rattle.b3d_spec.specs.Tags.{Chunks, Found}
use Rattle.b3d_spec.specs.Scene.{Kind, no_anim, Data}
use Rattle.b3d_spec.specs.Rules.{node_row, own_vertices, bone_limit, animated, bone_limit_from}
use Rattle.b3d_spec.specs.Nesting.{start, order, reached_at}
use Rattle.b3d_spec.specs.Parse.{Animation, read_animation}
use Rattle.b3d_chunk_cursor.specs.Chunks.{named_at, NamedIn}
use Rattle.b3d_chunk_cursor.proofs.NamedLaws.{named-cut, named-any, named-among}
use Rattle.b3d_judge_tally.proofs.AnswerLaws.{GaveBeside, beside_bad, beside_good}
use Rattle.b3d_judge_tally.specs.Tally.{head_tally, kind_tally, animation_tally, data_tally, plus, Within}
use Rattle.b3d_spec_chunk_places.specs.Places.{Body, rest_in, Among}
use Rattle.b3d_spec_chunk_places.proofs.HeadLaws.{body-inside}
use Rattle.b3d_judge_tally.specs.declared.Tally.{Tally}
use Rattle.b3d_judge_tally.proofs.TallyLaws.{within_more, within-plus, within-head}
use Rattle.b3d_judge_node.specs.Answers.{kinded, kinded_by, KindedIn, Kinds, above_of, owned, parted, Parted}
use Rattle.b3d_judge_node.specs.Answers as judged
use Rattle.b3d_mend_judge_items.specs.Lax.{lax_inside, lax_kind}
use Rattle.b3d_mend_judge_items.specs.Trimmed.{Trimmed}
use Rattle.b3d_mend_judge_node.specs.Answers.{lax_parts, lax_own, OwnedIn, Owns}
use Rattle.b3d_judge_tally.specs.Answers.{Onward}
use Rattle.b3d_judge_animation.specs.Answers.{moved, moved_by, MovedIn, Motions}

-- ---- what the answers say

kinds-at : (o : Result (Found Kind)) (rest : Cursor → Chunks) (from : Cursor) (k : std.Result (ℕ × Tally × Cursor) Refusal) → Kinds o rest from k → {x : (std.Result (ℕ × Tally × Cursor) Refusal)} → k ≡ x → kinded_by rest x ≡ kinded o
kinds-at o rest from k h z = subst (λ (x : std.Result (ℕ × Tally × Cursor) Refusal). kinded_by rest x ≡ kinded o) z h.is

motions_at : (o : Result (Found Animation)) (rest : Cursor → Chunks) (from : Cursor) (k : std.Result (Bool × Tally × Cursor) Refusal) → Motions o rest from k → {x : (std.Result (Bool × Tally × Cursor) Refusal)} → k ≡ x → moved_by rest x ≡ moved o
motions_at o rest from k h z = subst (λ (x : std.Result (Bool × Tally × Cursor) Refusal). moved_by rest x ≡ moved o) z h.is

-- ---- the ways of `lax_parts`

module _ (s : List ℕ) (at : ℕ) (from : Cursor) (g : Among at from (length s)) (far : at + 49 ≤ from.at) (a : Option ℕ) (bones : ℕ) (eb : bones ≡ bone_limit a)
    (k : std.Result (ℕ × Tally × Cursor) Refusal) (hk : Kinds (lax_kind bones (rest_in s NODE at start from)) (rest_in s NODE at (reached_at 2 false)) from k) where
  abbrev Right-parts : std.Result (std.Option ℕ × Tally × Cursor) Refusal → Type 0
  Right-parts x = Parted a (lax_parts (bone_limit a) (rest_in s NODE at start from)) (rest_in s NODE at (reached_at 3 false)) at from x

  -- the moves after a kind
  abbrev made : Kind → Result (Found Animation) → Result (Found (Kind × Animation))
  made v o = o >>= λ m. accept (record { value = (v, m.value); rest = m.rest })

  abbrev go : Result (Found Kind) → Result (Found (Kind × Animation))
  go o = o >>= λ v. made v.value (read_animation no_anim v.rest)

  pub parts-kind-bad : (e : Refusal) → k ≡ Err e → Right-parts (Err e)
  unfolding lax_parts
  parts-kind-bad e z =
      let b = beside_bad own_vertices kind_tally (lax_kind bones (rest_in s NODE at start from)) e.number e.place (kinds-at (lax_kind bones (rest_in s NODE at start from)) (rest_in s NODE at (reached_at 2 false)) from k hk z) in
      record { is = rw (← eb, b); within = subst (KindedIn from) z hk.within }

  module _ (have : ℕ) (t : Tally) (c : Cursor) (z : k ≡ Ok (have, t, c)) where
    on : Onward from c t
    on = subst (KindedIn from) z hk.within

    gave : GaveBeside own_vertices kind_tally (lax_kind bones (rest_in s NODE at start from)) have t (rest_in s NODE at (reached_at 2 false) c)
    gave = beside_good own_vertices kind_tally (lax_kind bones (rest_in s NODE at start from)) have t (rest_in s NODE at (reached_at 2 false) c) (kinds-at (lax_kind bones (rest_in s NODE at start from)) (rest_in s NODE at (reached_at 2 false)) from k hk z)

    pub parts-among : Among at c (length s)
    parts-among = let o = on in record { head = omega (arith, g.head, o.from_at); room = o.room; within = omega (arith, g.within, o.same); small = g.small }

    pub parts-kind-small : Within t most_bytes
    parts-kind-small = let o = on in within_more (c.at - from.at) most_bytes o.within (omega (arith, parts-among.room, parts-among.within, g.small))

    first-within : Within (plus head_tally t) (c.at - at)
    first-within =
        let o = on in
        within-plus head_tally t 49 (c.at - from.at) (c.at - at) (within-head 49 (omega arith)) o.within (omega (arith, far, o.from_at))

    pub parts-first-small : Within (plus head_tally t) most_bytes
    parts-first-small = let q = parts-among in within_more (c.at - at) most_bytes first-within (omega (arith, q.room, q.within, g.small))

    module _ (j : std.Result (Bool × Tally × Cursor) Refusal) (hj : Motions (read_animation no_anim (rest_in s NODE at (reached_at 2 false) c)) (rest_in s NODE at (reached_at 3 false)) c j) where
      pub parts-moves-bad : (e : Refusal) → j ≡ Err e → Right-parts (Err e)
      unfolding lax_parts
      parts-moves-bad e y =
          let o = on in
          let v = gave in
          let b = beside_bad (λ x. animated x.anim) animation_tally (read_animation no_anim (rest_in s NODE at (reached_at 2 false) c)) e.number e.place (motions_at (read_animation no_anim (rest_in s NODE at (reached_at 2 false) c)) (rest_in s NODE at (reached_at 3 false)) c j hj y) in
          let le : e.place ≤ c.end = subst (MovedIn c) y hj.within in
          record { is = rw (← eb, v.is, b); within = omega (arith, o.same) }

      module _ (seen : Bool) (u : Tally) (d : Cursor) (y : j ≡ Ok (seen, u, d)) where
        after-moves : Onward c d u
        after-moves = subst (MovedIn c) y hj.within

        pub parts-moves-small : Within u most_bytes
        parts-moves-small = let q = parts-among in let m = after-moves in within_more (d.at - c.at) most_bytes m.within (omega (arith, m.room, m.same, q.within, g.small))

        pub parts-good : (x : Tally) → x ≡ plus (plus head_tally t) u → (below : std.Option ℕ) → above_of below ≡ bone_limit_from a seen have → Right-parts (Ok (below, x, d))
        unfolding lax_parts
        parts-good x ex below e-below =
            let o = on in
            let m = after-moves in
            let kd = gave in
            let mv = beside_good (λ x. animated x.anim) animation_tally (read_animation no_anim (rest_in s NODE at (reached_at 2 false) c)) seen u (rest_in s NODE at (reached_at 3 false) d) (motions_at (read_animation no_anim (rest_in s NODE at (reached_at 2 false) c)) (rest_in s NODE at (reached_at 3 false)) c j hj y) in
            let to : lax_parts bones (rest_in s NODE at start from) ≡ accept (record { value = (kd.value, mv.value); rest = rest_in s NODE at (reached_at 3 false) d }) =
            ap go kd.is ∙ ap (made kd.value) mv.is in
            let eq-below : above_of below ≡ bone_limit_from a (animated mv.value.anim) (own_vertices kd.value) = e-below ∙ ap₂ (bone_limit_from a) mv.first kd.first in
            let eq_tally : x ≡ plus (plus head_tally (kind_tally kd.value)) (animation_tally mv.value) = ex ∙ ap (λ (q : Tally). plus q u) (ap (plus head_tally) kd.has) ∙ ap (plus (plus head_tally (kind_tally kd.value))) mv.has in
            record {
              is = rw (← eb, to) (λ i. accept (eq-below i, eq_tally i, rest_in s NODE at (reached_at 3 false) d));
              within = (
                record {
                  from_at = omega (arith, far, o.from_at, m.from_at);
                  room = m.room;
                  same = m.same ∙ o.same;
                  within = rw ex (within-plus (plus head_tally t) u (c.at - at) (d.at - c.at) (d.at - at) first-within m.within (omega (arith, far, o.from_at, m.from_at)));
                },
                omega (arith, far, o.from_at, m.from_at),
              );
            }

pub ruleset parts_laws = (parts-kind-bad, parts-among, parts-kind-small, parts-first-small, parts-moves-bad, parts-moves-small, parts-good)

-- ---- the ways of `lax_own`

-- the same answer in more bytes
owned_in : (at end : ℕ) (d : Cursor) → d.end ≤ end → (k : std.Result (std.Option ℕ × Tally × Cursor) Refusal) → judged.OwnedIn at d k → OwnedIn at end k
owned_in at end d le (Ok (b, t, c)) h = record { head = h.1; room = h.0.room; before = omega (arith, h.0.same); within = h.0.within }
owned_in at end d le (Err e) h = omega arith

module _ (s : List ℕ) (at : ℕ) (body : Cursor) (g : Body at body (length s)) (r : std.Option Named) (ir : NamedIn body 10 r) (h : Named) (w : r ≡ Some h) where
  pub own-inside : Inside h.next (length s)
  own-inside = let f = named-among body 10 r ir h w in record { before = f.to; within = omega (arith, g.within, f.same) }

  module _ (d : Cursor) (y : Trimmed s h.next d) where
    pub own-among : Among at d (length s)
    own-among =
        let f = named-among body 10 r ir h w in
        record { head = omega (arith, g.head, y.same); room = y.room; within = omega (arith, g.within, y.within, f.same); small = g.small }

    pub own_far : at + 49 ≤ d.at
    own_far = let f = named-among body 10 r ir h w in omega (arith, f.row, f.after, g.head, y.same)

module _ (s : List ℕ) (at : ℕ) (body : Cursor) (g : Body at body (length s)) (a : Option ℕ) (r : std.Option Named) (er : r ≡ named_at s body 10) where
  -- the answers that are right
  abbrev Right : std.Result (std.Option ℕ × Tally × Cursor) Refusal → Type 0
  Right x = Owns a (lax_own a at (left body s)) (rest_in s NODE at (reached_at 3 false)) at body.end x

  pub own-cut : r ≡ None → Right (Err (refusal_at 5 body.at))
  unfolding lax_own
  own-cut w = record { is = rw (← g.head, named-cut s body 10 (body-inside s at body g) node_row refl r er w); within = g.room }

  module _ (ir : NamedIn body 10 r) (u : Named) (w : r ≡ Some u) (d : Cursor) (y : Trimmed s u.next d) where
    abbrev data_of : Kind × Animation → Data
    data_of x = record { name = record { place = body.at; bytes = take u.length (left body s) }; words = words_of 10 (left u.row s); kind = x.0; keys = x.1.keys; anim = x.1.anim }

    abbrev within-name : Result (Found (Kind × Animation)) → Result (Found Data)
    within-name o = o >>= λ x. accept (record { value = data_of x.value; rest = x.rest })

    chunks : lax_inside NODE at u.next.at (left u.next s) ≡ rest_in s NODE at start d
    unfolding lax_inside rest_in
    chunks = ap (order NODE at start) (sym y.chunks)

    opened : lax_own a at (left body s) ≡ within-name (lax_parts (bone_limit a) (rest_in s NODE at start d))
    unfolding lax_own lax_parts
    opened = rw (← g.head, named-any s body 10 (body-inside s at body g) r er u w, chunks) (kinds (lax_kind (bone_limit a) (rest_in s NODE at start d)))
      where
        moves : (k : Kind) (o : Result (Found Animation))
            → (o >>= λ m. accept (record { value = data_of (k, m.value); rest = m.rest })) ≡ within-name (o >>= λ m. accept (record { value = (k, m.value); rest = m.rest }))
        moves k (accept m) = refl
        moves k (reject n p) = refl

        kinds : (o : Result (Found Kind))
            → (o >>= λ k. read_animation no_anim k.rest >>= λ m. accept (record { value = data_of (k.value, m.value); rest = m.rest }))
            ≡ within-name (o >>= λ k. read_animation no_anim k.rest >>= λ m. accept (record { value = (k.value, m.value); rest = m.rest }))
        kinds (accept k) = moves k.value (read_animation no_anim k.rest)
        kinds (reject n p) = refl

    owned-parted : (o : Result (Found (Kind × Animation))) → owned a (within-name o) ≡ parted a o
    unfolding data_tally animation_tally
    owned-parted (accept x) = refl
    owned-parted (reject e q) = refl

    pub own-parts : (k : std.Result (std.Option ℕ × Tally × Cursor) Refusal) → Parted a (lax_parts (bone_limit a) (rest_in s NODE at start d)) (rest_in s NODE at (reached_at 3 false)) at d k → Right k
    own-parts k h =
        let f = named-among body 10 r ir u w in
        record {
          is = h.is ∙ sym (ap (owned a) opened ∙ owned-parted (lax_parts (bone_limit a) (rest_in s NODE at start d)));
          within = owned_in at body.end d (omega (arith, y.within, f.same)) k h.within;
        }

pub ruleset own_laws = (own-cut, own-inside, own-among, own_far, own-parts)
