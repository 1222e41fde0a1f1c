-- A node as it is mended, without the nodes below it, and what is answered of it.
use Rattle.std.specs.Prelude as std
use Rattle.layout.specs.declared.Refusal.{Refusal}
use Rattle.std.specs.Prelude.{◌≡◌, ℕ, ◌≤◌, ◌+◌, ◌-◌, List, Ok, Err}
use Rattle.std.proofs.Math.Option.{Option}
use Rattle.wire.specs.declared.Cursor.{Cursor}
use Rattle.layout.specs.Result.{Result, accept, ◌>>=◌}
use Rattle.layout.specs.Parts.{named}
use Rattle.b3d_spec.specs.declared.Tag.TheVariants.{NODE}
use Rattle.b3d_spec.specs.Tags.{Chunks, Found}
use Rattle.b3d_spec.specs.Scene.{Kind, no_anim, Data}
use Rattle.b3d_spec.specs.Rules.{node_row, bone_limit}
use Rattle.b3d_spec.specs.Parse.{Animation, read_animation}
use Rattle.b3d_judge_tally.specs.Tally.{Within}
use Rattle.b3d_judge_tally.specs.declared.Tally.{Tally}
use Rattle.b3d_judge_node.specs.Answers.{owned, owned_by}
use Rattle.b3d_mend_judge_items.specs.Lax.{lax_inside, lax_kind}

-- the chunks inside a NODE up to the nodes below it: its kind, its KEYS and ANIM, and the chunks that are left
unfoldable pub lax_parts : ℕ → Chunks → Result (Found (Kind × Animation))
lax_parts bones cs = do
  k ← lax_kind bones cs
  m ← read_animation no_anim k.rest
  accept (record { value = (k.value, m.value); rest = m.rest })

-- a NODE without the nodes below it: its data, and the chunks that are left
unfoldable pub lax_own : Option ℕ → ℕ → List ℕ → Result (Found Data)
lax_own above p b = do
  h ← named node_row (p + 8) b
  k ← lax_kind (bone_limit above) (lax_inside NODE p h.place h.left)
  m ← read_animation no_anim k.rest
  accept
      (record {
        value = record { name = h.value.0; words = h.value.1; kind = k.value; keys = m.value.keys; anim = m.value.anim };
        rest = m.rest;
      })

-- a cursor behind a header at `at`, which ends no later than `end`, with a tally of no more bytes than lie between
pub record Ahead (at end : ℕ) (c : Cursor) (t : Tally) : Type 0 where
  pub head : at + 8 ≤ c.at
  pub room : c.at ≤ c.end
  pub before : c.end ≤ end
  pub within : Within t (c.at - at)

abbrev pub OwnedIn : ℕ → ℕ → std.Result (std.Option ℕ × Tally × Cursor) Refusal → Type 0
OwnedIn at end (Ok (a, t, c)) = Ahead at end c t
OwnedIn at end (Err e) = e.place ≤ end

pub record Owns (a : Option ℕ) (o : Result (Found Data)) (rest : Cursor → Chunks) (at end : ℕ)
    (r : std.Result (std.Option ℕ × Tally × Cursor) Refusal) : Type 0 where
  pub is : owned_by rest r ≡ owned a o
  pub within : OwnedIn at end r
