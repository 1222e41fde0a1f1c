-- A law for each way through `judge_body`.
use Rattle.layout.specs.Refused.{refusal_at}
use Rattle.std.specs.Prelude.{Err, Some, None}
use Rattle.std.specs.Prelude as std
use Rattle.b3d_judge_file_body.specs.declared.Summary.{Summary}
use Rattle.layout.specs.declared.Refusal.{Refusal}
use mathlib.Core.Path.{◌≡◌, refl, ap, sym, subst, ◌∙◌}
use Prim.Native.Nat.{ℕ, ◌≤◌, ◌<◌}
use native.Mathlib.Omega.{arith}
use mathlib.Core.List.{List, []}
use lib.ListN.{length, drop}
use lib.Seq.{take_all}
use Rattle.wire.specs.Cursors.{left, number_at}
use Rattle.wire.specs.declared.Cursor.{Cursor}
use Rattle.layout.specs.Result.{Result, accept, ◌>>=◌}
use Rattle.layout.proofs.ResultLaws.{bind_cong, bind_bind}
use Rattle.b3d_spec.specs.declared.Mode.{Mode}
use Rattle.b3d_spec.specs.declared.Tag.TheVariants.{BB3D, TEXS, BRUS, NODE}
use Rattle.layout.specs.Chunks.{done, stop, chunk, ended}
use Rattle.layout.specs.Rows.{most_bytes}
use Rattle.b3d_spec.specs.Tags.{Chunks, Found}
use Rattle.b3d_spec.specs.Scene.{Texture, Brush, Forest, no_nodes, Scene}
use Rattle.b3d_spec.specs.Rules.{version}
use Rattle.b3d_spec.specs.Nesting.{start, inside}
use Rattle.b3d_spec.specs.Parse.{read_one, read_textures, read_brushes, read_root, slots_of, read_body}
use Rattle.b3d_spec_chunk_places.specs.Places.{Body, rest_in, Among}
use Rattle.b3d_spec_chunk_places.proofs.HeadLaws.{head_cut, head-numbered, head_over, head-within}
use Rattle.b3d_judge_file_chunks.specs.Answers.{read_last, read_rest}
use Rattle.b3d_judge_file_body.specs.Bodies.{read_chunks, walked, WalkedIn, Walks}

-- the cursor behind a file's header
abbrev pub behind : List ℕ → Cursor
behind s = record { at = 8; end = length s }

pub left_behind : (s : List ℕ) → left (behind s) s ≡ drop 8 s
unfolding left
left_behind s = ap (drop 8) (take_all (length s) s (omega arith))

-- the end of the file is looked at before the scene is made, or after
ended_made : {A B : Type 0} (cs : Chunks) (f : A → B) (a : A) → ended cs (f a) ≡ (ended cs a >>= λ x. accept (f x))
unfolding ended
ended_made done f a = refl
ended_made (stop n p) f a = refl
ended_made (chunk t p b r) f a = ended_made r f a

-- a BB3D's body after its version, as the definition has it
abbrev body : Mode → ℕ → Chunks → Result Scene
body mode v cs =
    read_one TEXS [] read_textures cs >>= λ t. read_one BRUS (0, []) (read_brushes mode (length t.value)) t.rest
    >>= λ u. read_one NODE no_nodes (read_root mode (length u.value.1)) u.rest
    >>= λ n. ended n.rest (record { version = v; textures = t.value; slots = slots_of u.value.0 u.value.1; brushes = u.value.1; nodes = n.value })

-- a scene of textures, brushes and nodes
abbrev scene_of : ℕ → List Texture → ℕ × List Brush → Forest → Scene
scene_of v t u f = record { version = v; textures = t; slots = u.0; brushes = u.1; nodes = f }

abbrev slotted : ℕ × List Brush → ℕ × List Brush
slotted u = (slots_of u.0 u.1, u.1)

abbrev last_of : ℕ → List Texture → ℕ × List Brush → Result (Found Forest) → Result Scene
last_of v t u o = o >>= λ n. ended n.rest (scene_of v t (slotted u) n.value)

abbrev rest_of : ℕ × List Brush → Result Forest → Result ((ℕ × List Brush) × Forest)
rest_of u o = o >>= λ f. accept (slotted u, f)

abbrev whole_of : ℕ → List Texture → Result ((ℕ × List Brush) × Forest) → Result Scene
whole_of v t o = o >>= λ x. accept (scene_of v t x.0 x.1)

last_made : (mode : Mode) (v : ℕ) (t : List Texture) (u : ℕ × List Brush) (cs : Chunks)
    → last_of v t u (read_one NODE no_nodes (read_root mode (length u.1)) cs) ≡ whole_of v t (rest_of u (read_last mode (length u.1) cs))
unfolding read_last
last_made mode v t u cs =
    bind_cong (read_one NODE no_nodes (read_root mode (length u.1)) cs) (λ n _. ended_made n.rest (scene_of v t (slotted u)) n.value)
    ∙ sym (bind_bind (read_one NODE no_nodes (read_root mode (length u.1)) cs) (λ n. ended n.rest n.value) (λ f. accept (scene_of v t (slotted u) f)))
    ∙ sym (bind_bind (read_last mode (length u.1) cs) (λ f. accept (slotted u, f)) (λ x. accept (scene_of v t x.0 x.1)))

pub regroup : (mode : Mode) (v : ℕ) (cs : Chunks) → body mode v cs ≡ read_chunks mode v cs
unfolding read_chunks read_rest
regroup mode v cs =
    bind_cong (read_one TEXS [] read_textures cs) (λ t _.
    bind_cong (read_one BRUS (0, []) (read_brushes mode (length t.value)) t.rest) (λ u _. last_made mode v t.value u.value u.rest)
    ∙ sym (bind_bind (read_one BRUS (0, []) (read_brushes mode (length t.value)) t.rest) (λ u. rest_of u.value (read_last mode (length u.value.1) u.rest)) (λ x. accept (scene_of v t.value x.0 x.1))))

module _ (mode : Mode) (s : List ℕ) (lo : 8 ≤ length s) (hi : length s ≤ most_bytes) (r : std.Option (ℕ × Cursor)) (e : r ≡ number_at s (behind s)) where
  body_is : Body 0 (behind s) (length s)
  body_is = record { head = refl; room = lo; within = omega arith; small = hi }

  abbrev Body-right : std.Result Summary Refusal → Type 0
  Body-right y = Walks (read_body mode 8 (drop 8 s)) (length s) y

  pub body-cut : r ≡ None → Body-right (Err (refusal_at 5 8))
  unfolding read_body
  body-cut w = record { is = rw (← left_behind s, head_cut s 0 (behind s) body_is r e version w); within = lo }

  module _ (k : ℕ) (c : Cursor) (w : r ≡ Some (k, c)) where
    pub body-version : 99 < k → Body-right (Err (refusal_at 6 8))
    unfolding read_body
    body-version h = record { is = rw (← left_behind s, head_over s 0 (behind s) body_is r e k c w 99 h); within = lo }

    pub body-among : Among 0 c (length s)
    body-among = let f = head-numbered s 0 (behind s) body_is r e k c w in record { head = omega arith; room = omega arith; within = omega arith; small = hi }

    pub body-twelve : c.at ≡ 12
    body-twelve = let f = head-numbered s 0 (behind s) body_is r e k c w in omega arith

    pub body-chunks : k ≤ 99 → (y : std.Result Summary Refusal) → Walks (read_chunks mode k (rest_in s BB3D 0 start c)) c.end y → Body-right y
    unfolding read_body rest_in inside
    body-chunks h y v =
        let f = head-numbered s 0 (behind s) body_is r e k c w in
        let opened : read_body mode 8 (drop 8 s) ≡ read_chunks mode k (rest_in s BB3D 0 start c) =
        rw (← left_behind s, head-within s 0 (behind s) body_is r e k c w 99 h) (regroup mode k (rest_in s BB3D 0 start c)) in
        record { is = v.is ∙ ap walked (sym opened); within = subst (λ (q : ℕ). WalkedIn q y) f.same v.within }

pub ruleset body_laws = (body-cut, body-version, body-among, body-twelve, body-chunks)
