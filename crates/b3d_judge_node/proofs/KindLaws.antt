-- A law for each way through `judge_kind`: its premises are facts of the place, word for word.
use Rattle.std.specs.Prelude.{Ok, Err, Some, None}
use Rattle.std.specs.Prelude as std
use Rattle.layout.specs.declared.Refusal.{Refusal}
use Rattle.b3d_chunk_next_allowed.specs.declared.Enclosed.{Enclosed}
use mathlib.Core.Path.{refl, ap, sym, subst, ◌≡◌, ◌∙◌}
use Prim.Native.Nat.{ℕ, ◌≤◌, ◌-◌}
use native.Mathlib.Omega.{arith}
use mathlib.Core.Bool.{Bool, true, false, not, ◌||◌}
use mathlib.Core.List.{List, [], ◌∷◌}
use lib.ListN.{length}
use lib.Dec.{T}
use mir.Val.{has_key}
use types.Run.{OneOf, hit}
use Rattle.b3d_spec.proofs.Files.TagCodeLaws.{by-tag}
use denote.Enum.Declared.{tag_of}
use Rattle.wire.specs.Test.{if}
use Rattle.wire.specs.Cursors.{left}
use Rattle.wire.specs.declared.Cursor.{Cursor}
use Rattle.layout.specs.Result.{Result, accept, reject, ◌>>=◌}
use Rattle.layout.specs.Chunks.{chunk}
use Rattle.b3d_spec.specs.declared.Mode.{Mode}
use Rattle.b3d_spec.specs.declared.Tag.{Tag}
use Rattle.b3d_spec.specs.declared.Tag.TheVariants.{NODE, MESH, BONE}
use Rattle.layout.proofs.ResultLaws.{if_no}
use Rattle.b3d_spec.specs.Tags.{is}
use Rattle.b3d_spec.specs.Scene.{Kind, mesh, bone}
use Rattle.b3d_spec.specs.Rules.{own_vertices}
use Rattle.b3d_spec.specs.Nesting.{start, next as next_turn, onward, order, reached_at}
use Rattle.b3d_spec.specs.Parse.{read_mesh, read_bone, a_mesh, a_bone, read_kind}
use Rattle.b3d_spec.specs.contracts.Tag.{the_type}
use Rattle.b3d_chunk_cursor.specs.Chunks.{NextIs}
use Rattle.b3d_chunk_cursor.specs.declared.Next.TheVariants as next
use Rattle.b3d_chunk_cursor.proofs.NextLaws.{chunk-among}
use Rattle.b3d_judge_tally.specs.Tally.{no_tally, bone_tally, kind_tally, Within}
use Rattle.b3d_spec_chunk_places.specs.Places.{Body, rest_in, Among}
use Rattle.b3d_judge_tally.specs.Answers.{JudgedIn, Judges}
use Rattle.b3d_judge_tally.specs.declared.Tally.{Tally}
use Rattle.b3d_judge_tally.proofs.TallyLaws.{within_more}
use Rattle.b3d_rule_nesting_order.specs.declared.Reached.{Reached as State}
use Rattle.b3d_rule_nesting_order.specs.Turns.{reached_of}
use Rattle.b3d_chunk_next_allowed.specs.Steps.{EnclosedIs}
use Rattle.b3d_chunk_next_allowed.proofs.InsideLaws.{step-next, step-turn, stop-before, end_next}
use Rattle.b3d_judge_mesh.specs.Answers.{MeshedIn, Meshes}
use Rattle.b3d_judge_node.specs.Answers.{Kinds}
use Rattle.b3d_judge_tally.proofs.AnswerLaws.{judged_bad, judged_good, onward-none}
use Rattle.b3d_judge_mesh.proofs.AnswerLaws.{meshed-bad, meshed-good}
use Rattle.b3d_chunk_next_allowed.proofs.RestLaws.{rest-chunk, rest-done, rest-stop, step-body, among-inside, among-head}
use Rattle.b3d_spec_chunk_places.proofs.TagTestLaws.{is_none, plain, plain_here, same_turn, bool_same}
use Rattle.b3d_spec_chunk_places.proofs.NestingStateLaws.{after-kind}

-- the tags that are a kind
abbrev pub takes : Tag → Bool
takes u = is u MESH || is u BONE

neither : (a b : Bool) → T (not (a || b)) → T (not a) × T (not b)
neither true b h = absurd h
neither false b h = (tt, h)

module _ (mode : Mode) (s : List ℕ) (at : ℕ) (from : Cursor) (g : Among at from (length s)) (brushes bones : ℕ) (r : std.Result (std.Option Enclosed) Refusal) (x : EnclosedIs s NODE at (record { turn = 0; spent = false }) from r) where
  pub kind-end : r ≡ (Ok None) → (t : Tally) → t ≡ no_tally
      → Kinds (read_kind mode brushes bones (rest_in s NODE at start from)) (rest_in s NODE at (reached_at 2 false)) from (Ok (0, t, from))
  unfolding read_kind order if kind_tally
  kind-end w t e =
      let d = end_next s NODE at (record { turn = 0; spent = false }) from r x w in
      record {
        is = rw (rest-done s from next.Done d NODE at start refl, rest-done s from next.Done d NODE at (reached_at 2 false) refl, e);
        within = onward-none from t g.room e;
      }

  pub kind-stop : (e : Refusal) → r ≡ Err e → Kinds (read_kind mode brushes bones (rest_in s NODE at start from)) (rest_in s NODE at (reached_at 2 false)) from (Err e)
  unfolding read_kind
  kind-stop e w = record {
    is = rw (rest-stop s NODE at (record { turn = 0; spent = false }) from r x e w);
    within = stop-before s NODE at (record { turn = 0; spent = false }) from r x e w;
  }

  module _ (d : Enclosed) (w : r ≡ Ok (Some d)) where
    found : NextIs s from (next.Chunk d.tag d.at d.body d.next)
    found = step-next s NODE at (record { turn = 0; spent = false }) from r x d w

    pub kind-body : Body d.at d.body (length s)
    kind-body = step-body s NODE at (record { turn = 0; spent = false }) from r x at g d w

    -- a chunk of what follows a kind
    pub kind-plain : (ks : List ℕ) → OneOf ks (tag_of the_type d.tag) → T (plain NODE takes start (reached_at 2 false) ks) → (m : Tally) → m ≡ no_tally
        → Kinds (read_kind mode brushes bones (rest_in s NODE at start from)) (rest_in s NODE at (reached_at 2 false)) from (Ok (0, m, from))
    unfolding read_kind onward kind_tally
    kind-plain ks o h m e =
        let f = plain_here NODE takes start (reached_at 2 false) ks h d.tag o (reached_of d.reached) (step-turn s NODE at (record { turn = 0; spent = false }) from r x d w) in
        let not_either = neither (is d.tag MESH) (is d.tag BONE) f.0 in
        let e₁ = rest-chunk s from (next.Chunk d.tag d.at d.body d.next) found NODE at start d.tag d.at d.body d.next refl ∙ ap (λ g. onward g d.at (λ y. chunk d.tag d.at (left d.body s) (rest_in s NODE at y d.next))) f.1.first in
        let e₂ = rest-chunk s from (next.Chunk d.tag d.at d.body d.next) found NODE at (reached_at 2 false) d.tag d.at d.body d.next refl ∙ ap (λ g. onward g d.at (λ y. chunk d.tag d.at (left d.body s) (rest_in s NODE at y d.next))) f.1.second in
        record { is = rw (e₁, e₂, if_no (is d.tag MESH) _ _ not_either.0, if_no (is d.tag BONE) _ _ not_either.1, e); within = onward-none from m g.room e }

    -- a MESH or a BONE that was read as o, and then the chunks after it
    module _ {A : Type 0} (o : Result A) (wrap : A → Kind)
        (h : read_kind mode brushes bones (rest_in s NODE at start from) ≡ (o >>= λ a. accept (record { value = wrap a; rest = rest_in s NODE at (reached_at 1 true) d.next }))) where
      taken-bad : (e : Refusal) → o ≡ reject e.number e.place → e.place ≤ d.body.end → Kinds (read_kind mode brushes bones (rest_in s NODE at start from)) (rest_in s NODE at (reached_at 2 false)) from (Err e)
      taken-bad e k le = record { is = rw (h, k); within = let f = chunk-among s from (next.Chunk d.tag d.at d.body d.next) found d.tag d.at d.body d.next refl in omega arith }

      taken : (a : A) (own : ℕ) (m : Tally) → o ≡ accept a → own ≡ own_vertices (wrap a) → m ≡ kind_tally (wrap a) → Within m (d.body.end - d.at)
          → Kinds (read_kind mode brushes bones (rest_in s NODE at start from)) (rest_in s NODE at (reached_at 2 false)) from (Ok (own, m, d.next))
      taken a own m k eo em i = record {
        is = rw (h, k, eo, em, ← after-kind s at d.next);
        within =
            let f = chunk-among s from (next.Chunk d.tag d.at d.body d.next) found d.tag d.at d.body d.next refl in
            record { from_at = omega arith; room = f.to; same = f.same; within = within_more (d.body.end - d.at) (d.next.at - from.at) i (omega arith) };
      }

    module _ (e : d.tag ≡ MESH) (j : std.Result (ℕ × Tally) Refusal) (h : Meshes (read_mesh mode brushes d.at (left d.body s)) d.at d.body.end j) where
      mesh-read : read_kind mode brushes bones (rest_in s NODE at start from) ≡ (read_mesh mode brushes d.at (left d.body s) >>= λ a. accept (record { value = mesh a; rest = rest_in s NODE at (reached_at 1 true) d.next }))
      unfolding read_kind a_mesh next_turn onward if
      mesh-read = rw (rest-chunk s from (next.Chunk d.tag d.at d.body d.next) found NODE at start d.tag d.at d.body d.next refl, e)

      pub kind-mesh-bad : (i : Refusal) → j ≡ Err i → Kinds (read_kind mode brushes bones (rest_in s NODE at start from)) (rest_in s NODE at (reached_at 2 false)) from (Err i)
      kind-mesh-bad i y =
          taken-bad (read_mesh mode brushes d.at (left d.body s)) mesh mesh-read i (meshed-bad _ i (sym h.is ∙ y)) (subst (MeshedIn d.at d.body.end) y h.within)

      pub kind-mesh : (own : ℕ) (m : Tally) → j ≡ Ok (own, m) → Kinds (read_kind mode brushes bones (rest_in s NODE at start from)) (rest_in s NODE at (reached_at 2 false)) from (Ok (own, m, d.next))
      unfolding kind_tally
      kind-mesh own m y =
          let v = meshed-good (read_mesh mode brushes d.at (left d.body s)) own m (sym h.is ∙ y) in
          taken (read_mesh mode brushes d.at (left d.body s)) mesh mesh-read v.value own m v.is v.own_is v.has (subst (MeshedIn d.at d.body.end) y h.within)

    module _ (e : d.tag ≡ BONE) (j : std.Result Tally Refusal) (h : Judges bone_tally (read_bone bones d.at (left d.body s)) d.at d.body.end j) where
      bone-read : read_kind mode brushes bones (rest_in s NODE at start from) ≡ (read_bone bones d.at (left d.body s) >>= λ a. accept (record { value = bone a; rest = rest_in s NODE at (reached_at 1 true) d.next }))
      unfolding read_kind a_bone next_turn onward if
      bone-read = rw (rest-chunk s from (next.Chunk d.tag d.at d.body d.next) found NODE at start d.tag d.at d.body d.next refl, e)

      pub kind-bone-bad : (i : Refusal) → j ≡ Err i → Kinds (read_kind mode brushes bones (rest_in s NODE at start from)) (rest_in s NODE at (reached_at 2 false)) from (Err i)
      kind-bone-bad i y =
          taken-bad (read_bone bones d.at (left d.body s)) bone bone-read i (judged_bad bone_tally _ i (sym h.is ∙ y)) (subst (JudgedIn d.at d.body.end) y h.within)

      pub kind-bone : (m : Tally) → j ≡ Ok m → Kinds (read_kind mode brushes bones (rest_in s NODE at start from)) (rest_in s NODE at (reached_at 2 false)) from (Ok (0, m, d.next))
      unfolding kind_tally
      kind-bone m y =
          let v = judged_good bone_tally (read_bone bones d.at (left d.body s)) m (sym h.is ∙ y) in
          taken (read_bone bones d.at (left d.body s)) bone bone-read v.value 0 m v.is refl v.has (subst (JudgedIn d.at d.body.end) y h.within)

pub kind-follows : T (plain NODE takes start (reached_at 2 false) (0 ∷ 1 ∷ 2 ∷ 3 ∷ 5 ∷ 6 ∷ 8 ∷ 9 ∷ []))
unfolding plain is_none same_turn bool_same next_turn if
kind-follows = tt

-- a tag other than MESH and BONE is one of the eight others
pub kind_rest : (t : Tag) → (t ≡ MESH → ⊥) → (t ≡ BONE → ⊥) → OneOf (0 ∷ 1 ∷ 2 ∷ 3 ∷ 5 ∷ 6 ∷ 8 ∷ 9 ∷ []) (tag_of the_type t)
kind_rest t =
    let other = λ (n : ℕ) (h : T (has_key (0 ∷ 1 ∷ 2 ∷ 3 ∷ 5 ∷ 6 ∷ 8 ∷ 9 ∷ []) n)). hit (0 ∷ 1 ∷ 2 ∷ 3 ∷ 5 ∷ 6 ∷ 8 ∷ 9 ∷ []) n h in
    by-tag
    (λ t. (t ≡ MESH → ⊥) → (t ≡ BONE → ⊥) → OneOf (0 ∷ 1 ∷ 2 ∷ 3 ∷ 5 ∷ 6 ∷ 8 ∷ 9 ∷ []) (tag_of the_type t)) (
      (λ m b. other 0 tt),
      (λ m b. other 1 tt),
      (λ m b. other 2 tt),
      (λ m b. other 3 tt),
      (λ m b. absurd (m refl)),
      (λ m b. other 5 tt),
      (λ m b. other 6 tt),
      (λ m b. absurd (b refl)),
      (λ m b. other 8 tt),
      (λ m b. other 9 tt),
    ) t

pub ruleset kind_laws = (kind-follows, among-inside, among-head, kind-body, kind-end, kind-stop, kind-plain, kind-mesh-bad, kind-mesh, kind-bone-bad, kind-bone)
