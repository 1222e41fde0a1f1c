-- A law for each way through `lax_body`.
use Rattle.layout.specs.Refused.{refusal_at}
use Rattle.std.specs.Prelude.{Ok, Err, Some, None}
use Rattle.std.specs.Prelude as std
use Rattle.b3d_judge_file_body.specs.declared.Summary.{Summary}
use Rattle.layout.specs.declared.Refusal.{Refusal}
use mathlib.Core.Path.{◌≡◌, refl, ap, sym, ◌∙◌}
use Prim.Native.Nat.{ℕ, ◌≤◌, ◌<◌}
use native.Mathlib.Omega.{arith}
use mathlib.Core.List.{List, []}
use lib.ListN.{length, drop}
use Rattle.wire.specs.Cursors.{Inside, number_at}
use Rattle.wire.specs.declared.Cursor.{Cursor}
use Rattle.layout.specs.Result.{Result, accept, ◌>>=◌}
use Rattle.layout.proofs.ResultLaws.{bind_cong, bind_bind}
use Rattle.b3d_spec.specs.declared.Mode.TheVariants.{Lenient}
use Rattle.b3d_spec.specs.declared.Tag.TheVariants.{BB3D, TEXS, BRUS, NODE}
use Rattle.layout.specs.Chunks.{done, stop, chunk, ended}
use Rattle.layout.specs.Rows.{most_bytes}
use Rattle.b3d_spec.specs.Tags.{Chunks, Found}
use Rattle.b3d_spec.specs.Scene.{Texture, Brush, Forest, no_nodes, Scene}
use Rattle.b3d_spec.specs.Rules.{version}
use Rattle.b3d_spec.specs.Nesting.{start}
use Rattle.b3d_spec.specs.Parse.{read_one, read_textures, read_brushes, slots_of}
use Rattle.b3d_spec_chunk_places.specs.Places.{Body, rest_in, Among}
use Rattle.b3d_spec_chunk_places.proofs.HeadLaws.{head_cut, head-numbered, head_over, head-within}
use Rattle.b3d_judge_tally.proofs.TallyLaws.{within_more}
use Rattle.b3d_judge_file_body.proofs.BodyLaws.{behind, left_behind}
use Rattle.b3d_mend_judge_items.specs.Lax.{every, lax_inside, lax_root, lax_body}
use Rattle.b3d_mend_judge_items.specs.Trimmed.{Trimmed}
use Rattle.b3d_mend_judge_file.specs.Phases.{lax_last, lax_rest}
use Rattle.b3d_judge_file_body.specs.Bodies.{walked, WalkedIn, Walks}
use Rattle.b3d_mend_judge.specs.Bodies.{lax_chunks}

-- the end of the file is looked at before the scene is made, or after
ended_made : {A B : Type 0} (cs : Chunks) (f : A → B) (a : A) → ended cs (f a) ≡ (ended cs a >>= λ x. accept (f x))
unfolding ended
ended_made done f a = refl
ended_made (stop n p) f a = refl
ended_made (chunk t p b r) f a = ended_made r f a

-- a BB3D's body after its version, as the definition has it
abbrev body : ℕ → Chunks → Result Scene
body v cs =
    read_one TEXS [] read_textures cs >>= λ t. read_one BRUS (0, []) (read_brushes Lenient every) t.rest
    >>= λ u. read_one NODE no_nodes (lax_root) u.rest
    >>= λ n. ended n.rest (record { version = v; textures = t.value; slots = slots_of u.value.0 u.value.1; brushes = u.value.1; nodes = n.value })

-- a scene of textures, brushes and nodes
abbrev scene_of : ℕ → List Texture → ℕ × List Brush → Forest → Scene
scene_of v t u f = record { version = v; textures = t; slots = u.0; brushes = u.1; nodes = f }

abbrev slotted : ℕ × List Brush → ℕ × List Brush
slotted u = (slots_of u.0 u.1, u.1)

abbrev last_of : ℕ → List Texture → ℕ × List Brush → Result (Found Forest) → Result Scene
last_of v t u o = o >>= λ n. ended n.rest (scene_of v t (slotted u) n.value)

abbrev rest_of : ℕ × List Brush → Result Forest → Result ((ℕ × List Brush) × Forest)
rest_of u o = o >>= λ f. accept (slotted u, f)

abbrev whole_of : ℕ → List Texture → Result ((ℕ × List Brush) × Forest) → Result Scene
whole_of v t o = o >>= λ x. accept (scene_of v t x.0 x.1)

last_made : (v : ℕ) (t : List Texture) (u : ℕ × List Brush) (cs : Chunks)
    → last_of v t u (read_one NODE no_nodes (lax_root) cs) ≡ whole_of v t (rest_of u (lax_last cs))
unfolding lax_last
last_made v t u cs =
    bind_cong (read_one NODE no_nodes (lax_root) cs) (λ n _. ended_made n.rest (scene_of v t (slotted u)) n.value)
    ∙ sym (bind_bind (read_one NODE no_nodes (lax_root) cs) (λ n. ended n.rest n.value) (λ f. accept (scene_of v t (slotted u) f)))
    ∙ sym (bind_bind (lax_last cs) (λ f. accept (slotted u, f)) (λ x. accept (scene_of v t x.0 x.1)))

pub regroup : (v : ℕ) (cs : Chunks) → body v cs ≡ lax_chunks v cs
unfolding lax_chunks lax_rest
regroup v cs =
    bind_cong (read_one TEXS [] read_textures cs) (λ t _.
    bind_cong (read_one BRUS (0, []) (read_brushes Lenient every) t.rest) (λ u _. last_made v t.value u.value u.rest)
    ∙ sym (bind_bind (read_one BRUS (0, []) (read_brushes Lenient every) t.rest) (λ u. rest_of u.value (lax_last u.rest)) (λ x. accept (scene_of v t.value x.0 x.1))))

-- the same answer in more bytes
wider : (n more : ℕ) (y : std.Result Summary Refusal) → n ≤ more → WalkedIn n y → WalkedIn more y
wider n more (Ok x) le h = within_more n more h le
wider n more (Err e) le h = omega arith

module _ (s : List ℕ) (lo : 8 ≤ length s) (hi : length s ≤ most_bytes) (r : std.Option (ℕ × Cursor)) (e : r ≡ number_at s (behind s)) where
  body_is : Body 0 (behind s) (length s)
  body_is = record { head = refl; room = lo; within = omega arith; small = hi }

  abbrev Body-right : std.Result Summary Refusal → Type 0
  Body-right y = Walks (lax_body 8 (drop 8 s)) (length s) y

  pub body-cut : r ≡ None → Body-right (Err (refusal_at 5 8))
  unfolding lax_body
  body-cut w = record { is = rw (← left_behind s, head_cut s 0 (behind s) body_is r e version w); within = lo }

  module _ (k : ℕ) (c : Cursor) (w : r ≡ Some (k, c)) where
    pub body-version : 99 < k → Body-right (Err (refusal_at 6 8))
    unfolding lax_body
    body-version h = record { is = rw (← left_behind s, head_over s 0 (behind s) body_is r e k c w 99 h); within = lo }

    pub body-after : Inside c (length s)
    body-after = let f = head-numbered s 0 (behind s) body_is r e k c w in record { before = omega arith; within = omega arith }

    module _ (d : Cursor) (x : Trimmed s c d) where
      pub body-among : Among 0 d (length s)
      body-among =
          let f = head-numbered s 0 (behind s) body_is r e k c w in
          record { head = omega (arith, x.same); room = x.room; within = omega (arith, x.within); small = hi }

      pub body-twelve : d.at ≡ 12
      body-twelve = let f = head-numbered s 0 (behind s) body_is r e k c w in omega (arith, x.same)

      pub body-chunks : k ≤ 99 → (y : std.Result Summary Refusal) → Walks (lax_chunks k (rest_in s BB3D 0 start d)) d.end y → Body-right y
      unfolding lax_body rest_in lax_inside
      body-chunks h y v =
          let f = head-numbered s 0 (behind s) body_is r e k c w in
          let opened : lax_body 8 (drop 8 s) ≡ lax_chunks k (rest_in s BB3D 0 start d) =
          rw (← left_behind s, head-within s 0 (behind s) body_is r e k c w 99 h, ← x.chunks) (regroup k (rest_in s BB3D 0 start d)) in
          record { is = v.is ∙ ap walked (sym opened); within = wider d.end (length s) y (omega (arith, x.within)) v.within }

pub ruleset body_laws = (body-cut, body-version, body-after, body-among, body-twelve, body-chunks)
