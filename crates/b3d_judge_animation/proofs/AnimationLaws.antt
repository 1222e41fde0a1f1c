-- The loop of `judge_animation`: what it has come to, and a law for each way on.
use Rattle.layout.specs.Refused.{refusal_at}
use Rattle.std.specs.Prelude.{Ok, Err, Some, None}
use Rattle.std.specs.Prelude as std
use Rattle.layout.specs.declared.Refusal.{Refusal}
use Rattle.b3d_chunk_next_allowed.specs.declared.Enclosed.{Enclosed}
use mathlib.Core.Path.{refl, ap, sym, subst, ◌≡◌, ◌∙◌}
use Prim.Native.Nat.{ℕ, ◌≤◌, ◌+◌, ◌-◌}
use native.Mathlib.Omega.{arith}
use mathlib.Core.Bool.{Bool, true, false, not, ◌||◌}
use mathlib.Core.Option.{some}
use mathlib.Core.List.{List, [], ◌∷◌}
use lib.ListN.{length}
use lib.Dec.{T}
use mir.Val.{has_key}
use types.Run.{OneOf}
use denote.Enum.Declared.{tag_of}
use Rattle.wire.specs.Test.{if}
use Rattle.wire.specs.Cursors.{left}
use Rattle.wire.specs.declared.Cursor.{Cursor}
use Rattle.wire.proofs.LeftLaws.{left-length}
use Rattle.layout.specs.Result.{Result, accept, reject, ◌>>=◌}
use Rattle.layout.specs.Parts.{words_of}
use Rattle.layout.specs.Rows.{most_bytes}
use Rattle.b3d_spec.specs.declared.Tag.{Tag}
use Rattle.b3d_spec.specs.declared.Tag.TheVariants.{NODE, KEYS, ANIM}
use Rattle.b3d_spec.specs.Tags.{Chunks, Found, is}
use Rattle.b3d_spec.specs.Scene.{Keys, no_anim, anim}
use Rattle.b3d_spec.specs.Rules.{animated}
use Rattle.b3d_spec.specs.Nesting.{nesting, Reached, next as next_turn, onward, order, reached_at}
use Rattle.b3d_spec.specs.Parse.{Animation, read_keys, read_anim, read_animation, with_keys}
use Rattle.b3d_spec.specs.contracts.Tag.{the_type}
use Rattle.b3d_spec.proofs.Files.TagCodeLaws.{by-tag}
use Rattle.b3d_spec.proofs.Files.LeafLaws.{anim-whole, anim-other}
use Rattle.b3d_chunk_cursor.specs.Chunks.{Among as Chunked}
use Rattle.b3d_chunk_cursor.specs.declared.Next.TheVariants as next
use Rattle.b3d_judge_tally.specs.Tally.{no_tally, bytes_tally, list_tally, lists_tally, anim_tally, animation_tally, plus, Within}
use Rattle.b3d_spec_chunk_places.specs.Places.{rest_in, Among}
use Rattle.b3d_judge_tally.specs.Answers.{Judges}
use Rattle.b3d_judge_tally.specs.declared.Tally.{Tally}
use Rattle.b3d_judge_tally.proofs.TallyLaws.{none-plus}
use Rattle.b3d_rule_nesting_order.specs.declared.Reached.{Reached as State}
use Rattle.b3d_rule_nesting_order.specs.Turns.{reached_of}
use Rattle.b3d_chunk_next_allowed.specs.Steps.{EnclosedIs}
use Rattle.b3d_chunk_next_allowed.proofs.InsideLaws.{step-next, step-among, step-turn, stop-before, end_next}
use Rattle.b3d_judge_animation.specs.Answers.{anim_of, moved, moved_from, Motions}
use Rattle.b3d_judge_tally.proofs.AnswerLaws.{Gave, judged_bad, judged_good}
use Rattle.b3d_chunk_next_allowed.proofs.RestLaws.{rest-chunk, rest-done, rest-step, rest-stop, rest_end}
use Rattle.b3d_judge_bodies.proofs.ChunkLoopLaws.{Going, going_start, going-small, going-body, going-to, going-place, going-one, going}
use Rattle.b3d_spec_chunk_places.proofs.TagTestLaws.{ten, one_of, never, some_inj}
use Rattle.b3d_judge_animation.proofs.MoveLaws.{keys-first, anim-same, moved-first}

-- what the moves of a node come to
abbrev whole : List ℕ → ℕ → Cursor → Result (Bool × Tally × Chunks)
whole s at from = moved (read_animation no_anim (rest_in s NODE at (reached_at 2 false) from))

-- the answers that are right
abbrev Right : List ℕ → ℕ → Cursor → std.Result (Bool × Tally × Cursor) Refusal → Type 0
Right s at from r = Motions (read_animation no_anim (rest_in s NODE at (reached_at 2 false) from)) (rest_in s NODE at (reached_at 3 false)) from r

-- at c, after q, which is at the turn of KEYS and ANIM and is spent where an ANIM was seen, with the tally m of keys
pub record Moving (s : List ℕ) (at : ℕ) (from c : Cursor) (q : State) (m : Tally) : Type 0 where
  pub turn : q.turn ≡ 2
  pub going : Going s at from c (plus m (anim_tally (anim_of q.spent)))
  pub so_far : whole s at from ≡ moved_from m (read_animation (anim_of q.spent) (rest_in s NODE at (reached_of q) c))

within-left : (a b : Tally) (n : ℕ) → Within (plus a b) n → Within a n
unfolding plus
within-left a b n h = record { rows = omega arith; copy = omega arith }

seen_anim : (b : Bool) → animated (anim_of b) ≡ b
seen_anim true = refl
seen_anim false = refl

keys_on : (o : Result Keys) (k : Tally) → Gave list_tally o k → (m y : Tally) → y ≡ plus m k → (rest : Result (Found Animation))
    → moved_from m (o >>= λ a. rest >>= λ z. accept (with_keys a z)) ≡ moved_from y rest
keys_on o k g m y e rest =
    ap (λ (i : Result Keys). moved_from m (i >>= λ a. rest >>= λ z. accept (with_keys a z))) g.is
    ∙ keys-first m g.value rest ∙ ap (λ (t : Tally). moved_from t rest) (ap (plus m) (sym g.has) ∙ sym e)

swapped : (a k d : Tally) (i j n : ℕ) → Within (plus a d) i → Within k j → i + j ≤ n → Within (plus (plus a k) d) n
unfolding plus
swapped a k d i j n h g le = record { rows = omega arith; copy = omega arith }

twenty : (m : Tally) (i n : ℕ) → Within (plus m no_tally) i → i + 20 ≤ n → Within (plus m (bytes_tally 20)) n
unfolding plus no_tally bytes_tally
twenty m i n h le = record { rows = omega arith; copy = omega arith }

-- ---- how far a chunk brings the moves

keys-turn : (b : Bool) (z : State) → next_turn (nesting NODE) (nesting NODE) (reached_at 2 b) KEYS ≡ some (reached_of z) → (z.turn ≡ 2) × (z.spent ≡ b)
unfolding next_turn if
keys-turn true z h = let e = some_inj h in (ap (λ (y : Reached). y.turn) e, ap (λ (y : Reached). y.spent) e)
keys-turn false z h = let e = some_inj h in (ap (λ (y : Reached). y.turn) e, ap (λ (y : Reached). y.spent) e)

anim-turn : (b : Bool) (z : State) → next_turn (nesting NODE) (nesting NODE) (reached_at 2 b) ANIM ≡ some (reached_of z) → (b ≡ false) × (z.turn ≡ 2) × (z.spent ≡ true)
unfolding next_turn if
anim-turn true z h = never h
anim-turn false z h = let e = some_inj h in (refl, ap (λ (y : Reached). y.turn) e, ap (λ (y : Reached). y.spent) e)

-- a chunk that may stand there and is neither KEYS nor ANIM is a NODE
node-turn : (b : Bool) (y : Reached) (t : Tag) → next_turn (nesting NODE) (nesting NODE) (reached_at 2 b) t ≡ some y → T (not (is t KEYS || is t ANIM)) → (t ≡ NODE) × (y ≡ reached_at 3 false)
unfolding next_turn if
node-turn true y t =
    by-tag (λ t. next_turn (nesting NODE) (nesting NODE) (reached_at 2 true) t ≡ some y → T (not (is t KEYS || is t ANIM)) → (t ≡ NODE) × (y ≡ reached_at 3 false))
    (never, never, never, (λ e n. (refl, some_inj e)), never, never, never, never, (λ e n. absurd n), (λ e n. absurd n)) t
node-turn false y t =
    by-tag (λ t. next_turn (nesting NODE) (nesting NODE) (reached_at 2 false) t ≡ some y → T (not (is t KEYS || is t ANIM)) → (t ≡ NODE) × (y ≡ reached_at 3 false))
    (never, never, never, (λ e n. (refl, some_inj e)), never, never, never, never, (λ e n. absurd n), (λ e n. absurd n)) t

-- a tag other than KEYS and ANIM
no_move : (t : Tag) → (t ≡ KEYS → ⊥) → (t ≡ ANIM → ⊥) → T (not (is t KEYS || is t ANIM))
no_move t =
    by-tag
    (λ t. (t ≡ KEYS → ⊥) → (t ≡ ANIM → ⊥) → T (not (is t KEYS || is t ANIM)))
    ((λ k a. tt), (λ k a. tt), (λ k a. tt), (λ k a. tt), (λ k a. tt), (λ k a. tt), (λ k a. tt), (λ k a. tt), (λ k a. absurd (k refl)), (λ k a. absurd (a refl))) t

-- ---- the ways on

module _ (s : List ℕ) (at : ℕ) (from : Cursor) where
  pub moving_start : Among at from (length s) → (m : Tally) → m ≡ no_tally → Moving s at from from (record { turn = 2; spent = false }) m
  unfolding anim_tally
  moving_start g m e = record {
    turn = refl;
    going = going_start s at from _ g (rw e (none-plus no_tally));
    so_far = rw e (moved-first (read_animation no_anim (rest_in s NODE at (reached_at 2 false) from)));
  }

  module _ (c : Cursor) (q : State) (m : Tally) (v : Moving s at from c q m) where
    pub moving_small : Within m most_bytes
    moving_small = within-left m (anim_tally (anim_of q.spent)) most_bytes (going-small s at from c _ v.going)

    refuse : (e : Refusal) → moved_from m (read_animation (anim_of q.spent) (rest_in s NODE at (reached_of q) c)) ≡ reject e.number e.place → e.place ≤ c.end → Right s at from (Err e)
    refuse e h le = record { is = sym (v.so_far ∙ h); within = omega (arith, v.going.same) }

    finish : (t : Tally) → t ≡ plus m (anim_tally (anim_of q.spent))
        → read_animation (anim_of q.spent) (rest_in s NODE at (reached_of q) c) ≡ accept (record { value = record { keys = []; anim = anim_of q.spent }; rest = rest_in s NODE at (reached_at 3 false) c })
        → Right s at from (Ok (q.spent, t, c))
    unfolding animation_tally lists_tally
    finish t e h = record {
      is = sym (v.so_far ∙ rw (h, none-plus, e, seen_anim q.spent));
      within = record { from_at = v.going.from_at; room = v.going.among.room; same = v.going.same; within = rw e v.going.within };
    }

    module _ (r : std.Result (std.Option Enclosed) Refusal) (x : EnclosedIs s NODE at q c r) where
      pub moving_stop : (e : Refusal) → r ≡ Err e → Right s at from (Err e)
      unfolding read_animation
      moving_stop e w = refuse e (rw (rest-stop s NODE at q c r x e w)) (stop-before s NODE at q c r x e w)

      pub moving_end : r ≡ (Ok None) → (t : Tally) → t ≡ plus m (anim_tally (anim_of q.spent)) → Right s at from (Ok (q.spent, t, c))
      unfolding read_animation order if
      moving_end w t e = finish t e (rw (rest_end s NODE at q c r x w, rest-done s c next.Done (end_next s NODE at q c r x w) NODE at (reached_at 3 false) refl))

      module _ (e₁ : Enclosed) (w : r ≡ Ok (Some e₁)) where
        among : Chunked c e₁.at e₁.body e₁.next
        among = step-among s NODE at q c r x e₁ w

        -- how far the moves come with this chunk
        goes : next_turn (nesting NODE) (nesting NODE) (reached_at 2 q.spent) e₁.tag ≡ some (reached_of e₁.reached)
        goes = subst (λ (i : ℕ). next_turn (nesting NODE) (nesting NODE) (reached_at i q.spent) e₁.tag ≡ some (reached_of e₁.reached)) v.turn (step-turn s NODE at q c r x e₁ w)

        to : (u : Tally) → Within u (e₁.next.at - from.at) → Going s at from e₁.next u
        to = going-to s at from c _ v.going NODE q r x e₁ w

        pub moving_room : e₁.body.at ≤ e₁.body.end
        moving_room = among.room

        pub moving_node : (e₁.tag ≡ KEYS → ⊥) → (e₁.tag ≡ ANIM → ⊥) → (u : Tally) → u ≡ plus m (anim_tally (anim_of q.spent)) → Right s at from (Ok (q.spent, u, c))
        unfolding read_animation next_turn onward if
        moving_node nk na u e =
            let (k, y) = node-turn q.spent (reached_of e₁.reached) e₁.tag goes (no_move e₁.tag nk na) in
            finish u e (rw (rest-step s NODE at q c r x e₁ w, rest-chunk s c (next.Chunk e₁.tag e₁.at e₁.body e₁.next) (step-next s NODE at q c r x e₁ w) NODE at (reached_at 3 false) e₁.tag e₁.at e₁.body e₁.next refl, k, y))

        -- KEYS

        module _ (k : e₁.tag ≡ KEYS) (j : std.Result Tally Refusal) (h : Judges list_tally (read_keys e₁.at (left e₁.body s)) e₁.at e₁.body.end j) where
          keys-read : read_animation (anim_of q.spent) (rest_in s NODE at (reached_of q) c)
              ≡ (read_keys e₁.at (left e₁.body s) >>= λ l. read_animation (anim_of q.spent) (rest_in s NODE at (reached_of e₁.reached) e₁.next) >>= λ y. accept (with_keys l y))
          unfolding read_animation if
          keys-read = rw (rest-step s NODE at q c r x e₁ w, k)

          pub moving_keys-bad : (e : Refusal) → j ≡ Err e → Right s at from (Err e)
          moving_keys-bad e y =
              refuse e (rw (keys-read, judged_bad list_tally (read_keys e₁.at (left e₁.body s)) e (sym h.is ∙ y))) (going-place s at from c _ v.going NODE q r x e₁ w list_tally _ j h e y)

          pub moving_keys : (u a : Tally) → j ≡ Ok u → a ≡ plus m u → Moving s at from e₁.next e₁.reached a
          moving_keys u a y e =
              let f = among in
              let g = judged_good list_tally (read_keys e₁.at (left e₁.body s)) u (sym h.is ∙ y) in
              let i = going-one s at from c _ v.going NODE q r x e₁ w list_tally _ j h u y in
              let l = keys-turn q.spent e₁.reached (subst (λ (k : Tag). next_turn (nesting NODE) (nesting NODE) (reached_at 2 q.spent) k ≡ some (reached_of e₁.reached)) k goes) in
              record {
                turn = l.0;
                going = to _ (rw (e, l.1) (swapped m u (anim_tally (anim_of q.spent)) (c.at - from.at) (e₁.body.end - e₁.at) (e₁.next.at - from.at) v.going.within i (omega (arith, v.going.from_at))));
                so_far =
                    v.so_far ∙ ap (moved_from m) keys-read
                    ∙ keys_on (read_keys e₁.at (left e₁.body s)) u g m a e (read_animation (anim_of q.spent) (rest_in s NODE at (reached_of e₁.reached) e₁.next))
                    ∙ ap (λ (d : Bool). moved_from a (read_animation (anim_of d) (rest_in s NODE at (reached_of e₁.reached) e₁.next))) (sym l.1);
              }

        -- ANIM

        module _ (k : e₁.tag ≡ ANIM) where
          once : (q.spent ≡ false) × (e₁.reached.turn ≡ 2) × (e₁.reached.spent ≡ true)
          once = anim-turn q.spent e₁.reached (subst (λ (k : Tag). next_turn (nesting NODE) (nesting NODE) (reached_at 2 q.spent) k ≡ some (reached_of e₁.reached)) k goes)

          anim-read : read_animation (anim_of q.spent) (rest_in s NODE at (reached_of q) c) ≡ (read_anim e₁.at (left e₁.body s) >>= λ ws. read_animation (anim ws) (rest_in s NODE at (reached_of e₁.reached) e₁.next))
          unfolding read_animation if
          anim-read = rw (rest-step s NODE at q c r x e₁ w, k)

          size : length (left e₁.body s) ≡ e₁.body.end - e₁.body.at
          size = let f = going-body s at from c _ v.going NODE q r x e₁ w in left-length s e₁.body (record { before = f.room; within = f.within })

          pub moving_anim-short : (e₁.body.end - e₁.body.at ≡ 12 → ⊥) → Right s at from (Err (refusal_at 5 e₁.body.at))
          moving_anim-short d =
              let f = among in
              refuse (refusal_at 5 e₁.body.at) (rw (anim-read, anim-other e₁.at (left e₁.body s) (λ e. d (sym size ∙ e)), f.body)) (omega arith)

          pub moving_anim : e₁.body.end - e₁.body.at ≡ 12 → Moving s at from e₁.next e₁.reached m
          unfolding anim_tally
          moving_anim d =
              let f = among in
              let (first, turn, spent) = once in
              record {
                turn = turn;
                going = to _
                    (subst (λ (d : Bool). Within (plus m (anim_tally (anim_of d))) (e₁.next.at - from.at)) (sym spent)
                    (twenty m (c.at - from.at) (e₁.next.at - from.at) (subst (λ (d : Bool). Within (plus m (anim_tally (anim_of d))) (c.at - from.at)) first v.going.within) (omega (arith, v.going.from_at, f.body, f.from))));
                so_far =
                    v.so_far ∙ rw (anim-read, anim-whole e₁.at (left e₁.body s) (size ∙ d)) (anim-same (rest_in s NODE at (reached_of e₁.reached) e₁.next) m (words_of 3 (left e₁.body s)) [])
                    ∙ ap (λ (d : Bool). moved_from m (read_animation (anim_of d) (rest_in s NODE at (reached_of e₁.reached) e₁.next))) (sym spent);
              }

pub ruleset moving_laws = (moving_start, moving_small, moving_stop, moving_end, moving_room, moving_node, moving_keys-bad, moving_keys, moving_anim-short, moving_anim, going)
