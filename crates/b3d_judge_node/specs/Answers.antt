-- A node without the nodes below it, and what is answered of it and of its parts.
use Rattle.std.specs.Prelude as std
use Rattle.layout.specs.declared.Refusal.{Refusal}
use Rattle.std.specs.Prelude.{◌≡◌, ℕ, ◌≤◌, ◌+◌, List, Ok, Err, Some, None}
use Rattle.std.proofs.Math.Option.{Option, none, some}
use Rattle.wire.specs.declared.Cursor.{Cursor}
use Rattle.layout.specs.Result.{Result, accept, reject, ◌>>=◌}
use Rattle.layout.specs.Parts.{named}
use Rattle.b3d_spec.specs.declared.Mode.{Mode}
use Rattle.b3d_spec.specs.declared.Tag.TheVariants.{NODE}
use Rattle.b3d_spec.specs.Tags.{Chunks, Found}
use Rattle.b3d_spec.specs.Scene.{Kind, no_anim, anim, Data}
use Rattle.b3d_spec.specs.Rules.{node_row, bone_limit, own_vertices, animated, bone_limit_from, bone_limit_below}
use Rattle.b3d_spec.specs.Nesting.{inside}
use Rattle.b3d_spec.specs.Parse.{Animation, read_kind, read_animation}
use Rattle.b3d_judge_tally.specs.Tally.{plus, head_tally, animation_tally, kind_tally, data_tally}
use Rattle.b3d_judge_tally.specs.declared.Tally.{Tally}
use Rattle.b3d_judge_tally.specs.Answers.{beside, Onward}

-- the chunks cs inside a NODE up to the nodes below it: its kind, whose bones may name `bones` vertices, its KEYS and ANIM, and the chunks that are left
unfoldable pub read_parts : Mode → ℕ → ℕ → Chunks → Result (Found (Kind × Animation))
read_parts mode brushes bones cs = do
  k ← read_kind mode brushes bones cs
  m ← read_animation no_anim k.rest
  accept (record { value = (k.value, m.value); rest = m.rest })

-- the body b of a NODE whose header is at p, without the nodes below it: its data, and the chunks that are left; `above`: how many vertices its bones may
-- name
unfoldable pub read_own : Mode → ℕ → Option ℕ → ℕ → List ℕ → Result (Found Data)
read_own mode brushes above p b = do
  h ← named node_row (p + 8) b
  k ← read_kind mode brushes (bone_limit above) (inside NODE p h.place h.left)
  m ← read_animation no_anim k.rest
  accept
      (record {
        value = record { name = h.value.0; words = h.value.1; kind = k.value; keys = m.value.keys; anim = m.value.anim };
        rest = m.rest;
      })

-- a kind that was read: the vertices of its mesh, its tally and the chunks that are left; or the refusal
abbrev pub kinded : Result (Found Kind) → Result (ℕ × Tally × Chunks)
kinded = beside own_vertices kind_tally

-- what an answer on a kind says: the vertices, the tally, and the chunks from the cursor on by `rest`; or the refusal
abbrev pub kinded_by : (Cursor → Chunks) → std.Result (ℕ × Tally × Cursor) Refusal → Result (ℕ × Tally × Chunks)
kinded_by rest (Ok (k, t, c)) = accept (k, t, rest c)
kinded_by rest (Err e) = reject e.number e.place

-- bounds of an answer from the cursor `from` on: the cursor further on, with a tally of no more bytes than lie between; a refusal's place not past the end
abbrev pub KindedIn : Cursor → std.Result (ℕ × Tally × Cursor) Refusal → Type 0
KindedIn from (Ok (k, t, c)) = Onward from c t
KindedIn from (Err e) = e.place ≤ from.end

-- r is the answer on the kind o from the cursor `from` on, `rest` giving the chunks from a cursor on
pub record Kinds (o : Result (Found Kind)) (rest : Cursor → Chunks) (from : Cursor) (r : std.Result (ℕ × Tally × Cursor) Refusal) : Type 0 where
  -- it says what was read, or the refusal
  pub is : kinded_by rest r ≡ kinded o
  -- it keeps its bounds
  pub within : KindedIn from r

-- how many vertices a bone may name by what is above its node, as the definition has it
abbrev pub above_of : std.Option ℕ → Option ℕ
above_of None = none
above_of (Some n) = some n

-- a node's data that was read: how many vertices a bone below it may name, its tally and the chunks that are left; or the refusal
abbrev pub owned : Option ℕ → Result (Found Data) → Result (Option ℕ × Tally × Chunks)
owned a = beside (bone_limit_below a) data_tally

-- what an answer on a node's data says: the vertices for bones below, the tally, and the chunks from the cursor on by `rest`; or the refusal
abbrev pub owned_by : (Cursor → Chunks) → std.Result (std.Option ℕ × Tally × Cursor) Refusal → Result (Option ℕ × Tally × Chunks)
owned_by rest (Ok (a, t, c)) = accept (above_of a, t, rest c)
owned_by rest (Err e) = reject e.number e.place

-- bounds of an answer on a node from its header at `at` on: the cursor behind the header, with a tally of no more bytes than lie between; a refusal's place
-- not past the end
abbrev pub OwnedIn : ℕ → Cursor → std.Result (std.Option ℕ × Tally × Cursor) Refusal → Type 0
OwnedIn at body (Ok (a, t, c)) = Onward (record { at = at; end = body.end }) c t × (at + 8 ≤ c.at)
OwnedIn at body (Err e) = e.place ≤ body.end

-- a node's kind with its KEYS and ANIM that were read: how many vertices a bone below it may name, the node's tally and the chunks that are left; or the
-- refusal
abbrev pub parted : Option ℕ → Result (Found (Kind × Animation)) → Result (Option ℕ × Tally × Chunks)
parted a = beside (λ x. bone_limit_from a (animated x.1.anim) (own_vertices x.0)) (λ x. plus (plus head_tally (kind_tally x.0)) (animation_tally x.1))

-- r is the answer on the kind, KEYS and ANIM o of a node with its header at `at`, from the cursor `from` on, `rest` giving the chunks from a cursor on
pub record Parted (a : Option ℕ) (o : Result (Found (Kind × Animation))) (rest : Cursor → Chunks)
    (at : ℕ) (from : Cursor) (r : std.Result (std.Option ℕ × Tally × Cursor) Refusal) : Type 0 where
  -- it says what was read, or the refusal
  pub is : owned_by rest r ≡ parted a o
  -- it keeps its bounds
  pub within : OwnedIn at from r

-- r is the answer on the data o of a node with its header at `at` and this body, `rest` giving the chunks from a cursor on
pub record Owns (a : Option ℕ) (o : Result (Found Data)) (rest : Cursor → Chunks)
    (at : ℕ) (body : Cursor) (r : std.Result (std.Option ℕ × Tally × Cursor) Refusal) : Type 0 where
  -- it says what was read, or the refusal
  pub is : owned_by rest r ≡ owned a o
  -- it keeps its bounds
  pub within : OwnedIn at body r
