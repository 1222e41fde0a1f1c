-- A law for each way through `lax_last` and `lax_rest`.
use Rattle.std.specs.Prelude.{Ok, Err, Some, None}
use Rattle.std.specs.Prelude as std
use Rattle.layout.specs.declared.Refusal.{Refusal}
use Rattle.b3d_chunk_next_allowed.specs.declared.Enclosed.{Enclosed}
use mathlib.Core.Path.{refl, ap, ap₂, sym, subst, ◌≡◌, ◌∙◌}
use Prim.Native.Nat.{ℕ, ◌≤◌, ◌-◌}
use native.Mathlib.Omega.{arith}
use mathlib.Core.Bool.{true}
use mathlib.Core.Option.{none}
use mathlib.Core.List.{List, []}
use lib.ListN.{length}
use Rattle.wire.specs.Test.{if}
use Rattle.wire.specs.Cursors.{Inside}
use Rattle.wire.specs.declared.Cursor.{Cursor}
use Rattle.layout.specs.Result.{Result, accept, ◌>>=◌}
use Rattle.layout.specs.Chunks.{ended}
use Rattle.layout.specs.Rows.{most_bytes}
use Rattle.b3d_spec.specs.declared.Mode.TheVariants.{Lenient}
use Rattle.b3d_spec.specs.declared.Tag.{Tag}
use Rattle.b3d_spec.specs.declared.Tag.TheVariants.{BB3D, TEXS, BRUS, NODE, MESH, VRTS, TRIS, BONE, KEYS, ANIM}
use Rattle.b3d_spec.specs.Tags.{Chunks, Found}
use Rattle.b3d_spec.specs.Scene.{Brush, Forest, no_nodes}
use Rattle.b3d_spec.specs.Nesting.{nesting, next as next_turn, reached_at}
use Rattle.b3d_spec.specs.Parse.{read_one, read_brushes, slots_of}
use Rattle.b3d_judge_tally.specs.Tally.{forest_tally, plus, Within}
use Rattle.b3d_judge_tally.specs.Answers.{judged, JudgedIn, Judges, Onward}
use Rattle.b3d_judge_tally.specs.declared.Tally.{Tally}
use Rattle.b3d_judge_tally.proofs.TallyLaws.{within_more, within-plus}
use Rattle.b3d_chunk_next_allowed.specs.Steps.{EnclosedIs}
use Rattle.b3d_chunk_next_allowed.proofs.InsideLaws.{step-turn, stop-before}
use Rattle.b3d_spec_chunk_places.specs.Places.{rest_in, Among}
use Rattle.b3d_judge_file_chunks.specs.Answers.{slots_in, brus_in, PhasedIn, Phases, BrushedIn, Brushes, rested, Rests}
use Rattle.b3d_mend_judge_items.specs.Lax.{every, lax_root}
use Rattle.b3d_mend_judge_file.specs.Phases.{lax_last, lax_rest}
use Rattle.b3d_judge_tally.proofs.AnswerLaws.{GaveBeside, beside_bad, beside_good, judged_bad, judged_good}
use Rattle.b3d_judge_file_chunks.proofs.AnswerLaws.{tallied-bad, GaveFound, tallied-good, phases_at, brushes-at}
use Rattle.b3d_chunk_next_allowed.proofs.RestLaws.{rest-stop, rest_end}
use Rattle.b3d_spec_chunk_places.proofs.TagTestLaws.{never}

-- ---- the end of a file

file-next : (t : Tag) → next_turn (nesting BB3D) (nesting BB3D) (reached_at 3 true) t ≡ none
unfolding next_turn if
file-next BB3D = refl
file-next TEXS = refl
file-next BRUS = refl
file-next NODE = refl
file-next MESH = refl
file-next VRTS = refl
file-next TRIS = refl
file-next BONE = refl
file-next KEYS = refl
file-next ANIM = refl

-- ---- the nodes, and nothing after them

module _ (s : List ℕ) (from : Cursor) (g : Among 0 from (length s))
    (i : std.Result (Tally × Cursor) Refusal) (hi : Phases forest_tally (read_one NODE no_nodes (lax_root) (rest_in s BB3D 0 (reached_at 2 true) from)) (rest_in s BB3D 0 (reached_at 3 true)) from i) where
  abbrev Last : std.Result Tally Refusal → Type 0
  Last y = Judges forest_tally (lax_last (rest_in s BB3D 0 (reached_at 2 true) from)) from.at from.end y

  pub last-bad : (e : Refusal) → i ≡ Err e → Last (Err e)
  unfolding lax_last
  last-bad e w =
      let n = tallied-bad forest_tally (read_one NODE no_nodes (lax_root) (rest_in s BB3D 0 (reached_at 2 true) from)) e.number e.place (phases_at forest_tally (read_one NODE no_nodes (lax_root) (rest_in s BB3D 0 (reached_at 2 true) from)) (rest_in s BB3D 0 (reached_at 3 true)) from i hi w) in
      record { is = rw n; within = subst (PhasedIn from) w hi.within }

  module _ (f : Tally) (end : Cursor) (w : i ≡ Ok (f, end)) where
    on : Onward from end f
    on = subst (PhasedIn from) w hi.within

    pub last-inside : Inside end (length s)
    last-inside = let o = on in record { before = o.room; within = omega (arith, g.within, o.same) }

    pub last-head : 0 ≤ end.at
    last-head = omega arith

    gave : GaveFound forest_tally (read_one NODE no_nodes (lax_root) (rest_in s BB3D 0 (reached_at 2 true) from)) f (rest_in s BB3D 0 (reached_at 3 true) end)
    gave = tallied-good forest_tally (read_one NODE no_nodes (lax_root) (rest_in s BB3D 0 (reached_at 2 true) from)) f (rest_in s BB3D 0 (reached_at 3 true) end) (phases_at forest_tally (read_one NODE no_nodes (lax_root) (rest_in s BB3D 0 (reached_at 2 true) from)) (rest_in s BB3D 0 (reached_at 3 true)) from i hi w)

    last-read : lax_last (rest_in s BB3D 0 (reached_at 2 true) from) ≡ ended (rest_in s BB3D 0 (reached_at 3 true) end) gave.value
    unfolding lax_last
    last-read = ap (λ (o : Result (Found Forest)). o >>= λ n. ended n.rest n.value) gave.is

    module _ (r : std.Result (std.Option Enclosed) Refusal) (x : EnclosedIs s BB3D 0 (record { turn = 3; spent = true }) end r) where
      pub last-stop : (e : Refusal) → r ≡ Err e → Last (Err e)
      unfolding ended
      last-stop e q = record {
        is = rw (last-read, rest-stop s BB3D 0 (record { turn = 3; spent = true }) end r x e q);
        within = let le = stop-before s BB3D 0 (record { turn = 3; spent = true }) end r x e q in let o = on in omega (arith, o.same);
      }

      last_end : r ≡ (Ok None) → Last (Ok f)
      unfolding ended
      last_end q =
          let o = on in
          record {
            is = ap Ok gave.has ∙ ap (judged forest_tally) (sym (last-read ∙ ap (λ (cs : Chunks). ended cs gave.value) (rest_end s BB3D 0 (record { turn = 3; spent = true }) end r x q)));
            within = within_more (end.at - from.at) (from.end - from.at) o.within (omega (arith, o.room, o.same));
          }

      -- nothing may stand there
      last_more : (d : Enclosed) → r ≡ Ok (Some d) → (y : std.Result Tally Refusal) → Last y
      last_more d q y = never (sym (file-next d.tag) ∙ step-turn s BB3D 0 (record { turn = 3; spent = true }) end r x d q)

      -- nothing known stands there, so that the read ends with what the nodes gave
      pub last-over : (o : std.Option Enclosed) → r ≡ Ok o → Last (Ok f)
      last-over None q = last_end q
      last-over (Some d) q = last_more d q (Ok f)

pub ruleset last_laws = (last-bad, last-inside, last-head, last-stop, last-over)

-- ---- the ways of `lax_rest`

module _ (s : List ℕ) (c : Cursor) (g : Among 0 c (length s))
    (k : std.Result (ℕ × Tally × Cursor) Refusal) (hk : Brushes (read_one BRUS (0, []) (read_brushes Lenient every) (rest_in s BB3D 0 (reached_at 1 true) c)) (rest_in s BB3D 0 (reached_at 2 true)) c k) where
  abbrev Right-rest : std.Result (ℕ × Tally) Refusal → Type 0
  Right-rest y = Rests (lax_rest (rest_in s BB3D 0 (reached_at 1 true) c)) c.at c.end y

  -- the nodes after brushes
  abbrev after : ℕ × List Brush → Result Forest → Result ((ℕ × List Brush) × Forest)
  after u o = o >>= λ f. accept ((slots_of u.0 u.1, u.1), f)

  abbrev go : Result (Found (ℕ × List Brush)) → Result ((ℕ × List Brush) × Forest)
  go o = o >>= λ u. after u.value (lax_last u.rest)

  pub rest_brus_bad : (e : Refusal) → k ≡ Err e → Right-rest (Err e)
  unfolding lax_rest
  rest_brus_bad e y =
      let b = beside_bad slots_in brus_in (read_one BRUS (0, []) (read_brushes Lenient every) (rest_in s BB3D 0 (reached_at 1 true) c)) e.number e.place (brushes-at (read_one BRUS (0, []) (read_brushes Lenient every) (rest_in s BB3D 0 (reached_at 1 true) c)) (rest_in s BB3D 0 (reached_at 2 true)) c k hk y) in
      record { is = rw b; within = subst (BrushedIn c) y hk.within }

  module _ (slots : ℕ) (b : Tally) (d : Cursor) (y : k ≡ Ok (slots, b, d)) where
    brus_on : Onward c d b
    brus_on = subst (BrushedIn c) y hk.within

    pub gave_brus : GaveBeside slots_in brus_in (read_one BRUS (0, []) (read_brushes Lenient every) (rest_in s BB3D 0 (reached_at 1 true) c)) slots b (rest_in s BB3D 0 (reached_at 2 true) d)
    gave_brus = beside_good slots_in brus_in (read_one BRUS (0, []) (read_brushes Lenient every) (rest_in s BB3D 0 (reached_at 1 true) c)) slots b (rest_in s BB3D 0 (reached_at 2 true) d) (brushes-at (read_one BRUS (0, []) (read_brushes Lenient every) (rest_in s BB3D 0 (reached_at 1 true) c)) (rest_in s BB3D 0 (reached_at 2 true)) c k hk y)

    pub rest-among : Among 0 d (length s)
    rest-among = let o = brus_on in record { head = omega (arith, g.head, o.from_at); room = o.room; within = omega (arith, g.within, o.same); small = g.small }

    pub rest_brus_small : Within b most_bytes
    rest_brus_small = let o = brus_on in let a = rest-among in within_more (d.at - c.at) most_bytes o.within (omega (arith, a.room, a.within, a.small))

    brus_read : lax_rest (rest_in s BB3D 0 (reached_at 1 true) c) ≡ after gave_brus.value (lax_last (rest_in s BB3D 0 (reached_at 2 true) d))
    unfolding lax_rest
    brus_read = ap go gave_brus.is

    module _ (i : std.Result Tally Refusal) (hi : Judges forest_tally (lax_last (rest_in s BB3D 0 (reached_at 2 true) d)) d.at d.end i) where
      pub rest-last-bad : (e : Refusal) → i ≡ Err e → Right-rest (Err e)
      rest-last-bad e w =
          let n = judged_bad forest_tally (lax_last (rest_in s BB3D 0 (reached_at 2 true) d)) e (sym hi.is ∙ w) in
          let le : e.place ≤ d.end = subst (JudgedIn d.at d.end) w hi.within in
          let o = brus_on in
          record { is = rw (brus_read, n); within = omega (arith, o.same) }

      module _ (f : Tally) (w : i ≡ Ok f) where
        last_within : Within f (d.end - d.at)
        last_within = subst (JudgedIn d.at d.end) w hi.within

        pub rest-last-small : Within f most_bytes
        rest-last-small = let a = rest-among in within_more (d.end - d.at) most_bytes last_within (omega (arith, a.within, a.small))

        pub rest-good : (m : Tally) → m ≡ plus b f → Right-rest (Ok (slots, m))
        rest-good m e =
            let o = brus_on in
            let u = gave_brus in
            let v = judged_good forest_tally (lax_last (rest_in s BB3D 0 (reached_at 2 true) d)) f (sym hi.is ∙ w) in
            let n = slots_of u.value.0 u.value.1 in
            let to : lax_rest (rest_in s BB3D 0 (reached_at 1 true) c) ≡ accept ((n, u.value.1), v.value) = brus_read ∙ ap (after u.value) v.is in
            record {
              is = ap₂ (λ a b. Ok (a, b)) u.first (e ∙ ap₂ plus u.has v.has) ∙ ap rested (sym to);
              within = rw e (within-plus b f (d.at - c.at) (d.end - d.at) (c.end - c.at) o.within last_within (omega (arith, o.from_at, o.room, o.same)));
            }

pub ruleset rest_laws = (rest_brus_bad, rest-among, rest_brus_small, rest-last-bad, rest-last-small, rest-good)
