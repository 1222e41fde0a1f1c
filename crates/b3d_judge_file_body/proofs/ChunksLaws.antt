-- A law for each way through `file_rows` and `judge_chunks`.
use Rattle.std.specs.Prelude.{Ok, Err}
use Rattle.std.specs.Prelude as std
use Rattle.b3d_judge_file_body.specs.declared.Summary.{Summary}
use Rattle.layout.specs.declared.Refusal.{Refusal}
use mathlib.Core.Path.{ap, ap₂, sym, subst, ◌≡◌, ◌∙◌}
use Prim.Native.Nat.{ℕ, ◌≤◌, ◌-◌}
use native.Mathlib.Omega.{arith}
use mathlib.Core.Bool.{true}
use mathlib.Core.List.{List, []}
use lib.ListN.{length}
use Rattle.wire.specs.declared.Cursor.{Cursor}
use Rattle.layout.specs.Result.{Result, accept, ◌>>=◌}
use Rattle.layout.specs.Rows.{most_bytes}
use Rattle.b3d_spec.specs.declared.Mode.{Mode}
use Rattle.b3d_spec.specs.declared.Tag.TheVariants.{BB3D, TEXS}
use Rattle.b3d_spec.specs.Tags.{Found}
use Rattle.b3d_spec.specs.Scene.{Texture, Brush, Forest, Scene}
use Rattle.b3d_spec.specs.Nesting.{start, reached_at}
use Rattle.b3d_spec.specs.Parse.{read_one, read_textures}
use Rattle.b3d_judge_tally.specs.Tally.{bytes_tally, texs_tally, brus_tally, forest_tally, scene_tally, plus, Within}
use Rattle.b3d_judge_materials.specs.Answers.{SlottedIn}
use Rattle.b3d_judge_tally.specs.declared.Tally.{Tally}
use Rattle.b3d_judge_tally.proofs.TallyLaws.{plus_assoc, within_more, within-plus, within-bytes}
use Rattle.b3d_spec_chunk_places.specs.Places.{rest_in, Among}
use Rattle.b3d_judge_file_chunks.specs.Answers.{read_rest, PhasedIn, Phases, brushes, Rests}
use Rattle.b3d_judge_file_body.specs.Bodies.{read_chunks, walked, Walks}
use Rattle.b3d_judge_tally.specs.Answers.{Onward}
use Rattle.b3d_judge_materials.proofs.TallyCountLaws.{texs_count}
use Rattle.b3d_judge_file_chunks.proofs.AnswerLaws.{tallied-bad, GaveFound, tallied-good, phases_at, rested-bad, rested-good}

-- ---- the ways of `file_rows`

pub rows-head-small : (h : Tally) → h ≡ bytes_tally 12 → Within h most_bytes
rows-head-small h e = rw e (within-bytes 12 most_bytes (omega arith))

module _ (h h₁ t : Tally) (e : h ≡ bytes_tally 12) (e₁ : h₁ ≡ plus h t) where
  pub rows-first-small : Within (plus (bytes_tally 12) t) most_bytes → Within h₁ most_bytes
  rows-first-small z = rw (e₁, e) z

  pub rows_sum : (u m : Tally) → m ≡ plus h₁ u → m ≡ plus (plus (bytes_tally 12) t) u
  rows_sum u m z = z ∙ ap (λ (q : Tally). plus q u) (e₁ ∙ ap (λ (q : Tally). plus q t) e)

pub ruleset file-rows_laws = (rows-head-small, rows-first-small, rows_sum)

-- ---- the ways of `judge_chunks`

module _ (mode : Mode) (s : List ℕ) (v : ℕ) (from : Cursor) (g : Among 0 from (length s)) (twelve : from.at ≡ 12)
    (j : std.Result (Tally × Cursor) Refusal) (hj : Phases texs_tally (read_one TEXS [] read_textures (rest_in s BB3D 0 start from)) (rest_in s BB3D 0 (reached_at 1 true)) from j) where
  abbrev Right : std.Result Summary Refusal → Type 0
  Right y = Walks (read_chunks mode v (rest_in s BB3D 0 start from)) from.end y

  -- the rest after textures
  abbrev then : List Texture → Result ((ℕ × List Brush) × Forest) → Result Scene
  then t o = o >>= λ x. accept (record { version = v; textures = t; slots = x.0.0; brushes = x.0.1; nodes = x.1 })

  abbrev all : Result (Found (List Texture)) → Result Scene
  all o = o >>= λ t. then t.value (read_rest mode (length t.value) t.rest)

  pub chunks_texs_bad : (e : Refusal) → j ≡ Err e → Right (Err e)
  unfolding read_chunks
  chunks_texs_bad e z =
      let b = tallied-bad texs_tally (read_one TEXS [] read_textures (rest_in s BB3D 0 start from)) e.number e.place (phases_at texs_tally (read_one TEXS [] read_textures (rest_in s BB3D 0 start from)) (rest_in s BB3D 0 (reached_at 1 true)) from j hj z) in
      record { is = rw b; within = subst (PhasedIn from) z hj.within }

  module _ (t : Tally) (c : Cursor) (z : j ≡ Ok (t, c)) where
    texs_on : Onward from c t
    texs_on = subst (PhasedIn from) z hj.within

    pub gave_texs : GaveFound texs_tally (read_one TEXS [] read_textures (rest_in s BB3D 0 start from)) t (rest_in s BB3D 0 (reached_at 1 true) c)
    gave_texs = tallied-good texs_tally (read_one TEXS [] read_textures (rest_in s BB3D 0 start from)) t (rest_in s BB3D 0 (reached_at 1 true) c) (phases_at texs_tally (read_one TEXS [] read_textures (rest_in s BB3D 0 start from)) (rest_in s BB3D 0 (reached_at 1 true)) from j hj z)

    pub chunks-among : Among 0 c (length s)
    chunks-among = let o = texs_on in record { head = omega (arith, g.head, o.from_at); room = o.room; within = omega (arith, g.within, o.same); small = g.small }

    pub chunks_texs_small : Within t most_bytes
    chunks_texs_small = let o = texs_on in let a = chunks-among in within_more (c.at - from.at) most_bytes o.within (omega (arith, a.room, a.within, a.small))

    first-within : Within (plus (bytes_tally 12) t) c.at
    first-within = let o = texs_on in within-plus (bytes_tally 12) t 12 (c.at - from.at) c.at (within-bytes 12 12 (omega arith)) o.within (omega (arith, o.from_at, twelve))

    pub chunks-first-small : Within (plus (bytes_tally 12) t) most_bytes
    chunks-first-small = let a = chunks-among in within_more c.at most_bytes first-within (omega (arith, a.room, a.within, a.small))

    texs_read : read_chunks mode v (rest_in s BB3D 0 start from) ≡ then gave_texs.value (read_rest mode t.textures (rest_in s BB3D 0 (reached_at 1 true) c))
    unfolding read_chunks
    texs_read =
        let a = gave_texs in
        let e : length a.value ≡ t.textures = sym (ap (λ (q : Tally). q.textures) a.has ∙ texs_count a.value) in
        ap all a.is ∙ ap (λ (n : ℕ). then a.value (read_rest mode n (rest_in s BB3D 0 (reached_at 1 true) c))) e

    module _ (i : std.Result (ℕ × Tally) Refusal) (hi : Rests (read_rest mode t.textures (rest_in s BB3D 0 (reached_at 1 true) c)) c.at c.end i) where
      pub chunks-rest-bad : (e : Refusal) → i ≡ Err e → Right (Err e)
      chunks-rest-bad e w =
          let n = rested-bad (read_rest mode t.textures (rest_in s BB3D 0 (reached_at 1 true) c)) e (sym hi.is ∙ w) in
          let le : e.place ≤ c.end = subst (SlottedIn c.at c.end) w hi.within in
          let o = texs_on in
          record { is = rw (texs_read, n); within = omega (arith, o.same) }

      module _ (slots : ℕ) (r : Tally) (w : i ≡ Ok (slots, r)) where
        rest-within : Within r (c.end - c.at)
        rest-within = subst (SlottedIn c.at c.end) w hi.within

        pub chunks-rest-small : Within r most_bytes
        chunks-rest-small = let a = chunks-among in within_more (c.end - c.at) most_bytes rest-within (omega (arith, a.within, a.small))

        pub chunks-good : (m : Tally) → m ≡ plus (plus (bytes_tally 12) t) r → Right (Ok (record { version = v; n_texs = slots; tally = m }))
        unfolding scene_tally
        chunks-good m e =
            let o = texs_on in
            let a = gave_texs in
            let x = rested-good (read_rest mode t.textures (rest_in s BB3D 0 (reached_at 1 true) c)) slots r (sym hi.is ∙ w) in
            let to : read_chunks mode v (rest_in s BB3D 0 start from) ≡ accept (record { version = v; textures = a.value; slots = x.value.0.0; brushes = x.value.0.1; nodes = x.value.1 }) =
            texs_read ∙ ap (then a.value) x.is in
            let total : m ≡ plus (plus (plus (bytes_tally 12) (texs_tally a.value)) (brus_tally x.value.0.0 x.value.0.1)) (forest_tally x.value.1) =
            e ∙ ap₂ plus (ap (plus (bytes_tally 12)) a.has) x.has
            ∙ sym (plus_assoc (plus (bytes_tally 12) (texs_tally a.value)) (brus_tally x.value.0.0 x.value.0.1) (forest_tally x.value.1)) in
            record {
              is = (λ i. Ok (record { version = v; n_texs = x.slots i; tally = total i })) ∙ ap walked (sym to);
              within = rw e (within-plus (plus (bytes_tally 12) t) r c.at (c.end - c.at) from.end first-within rest-within (omega (arith, o.room, o.same)));
            }

pub ruleset chunks_laws = (chunks_texs_bad, chunks-among, chunks_texs_small, chunks-first-small, chunks-rest-bad, chunks-rest-small, chunks-good)
