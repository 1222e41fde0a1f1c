-- What is answered of vertices, as a value of the definition: how many, and of how many words.
use Rattle.layout.specs.Refused.{refusal_at}
use Rattle.std.specs.Prelude as std
use Rattle.layout.specs.declared.Refusal.{Refusal}
use Rattle.std.specs.Prelude.{◌≤◌, ◌+◌, ◌-◌, ◌*◌, ◌≡◌, length, Ok, Err, ℕ}
use Rattle.wire.specs.declared.Cursor.{Cursor}
use Rattle.layout.specs.Result.{Result, accept, reject}
use Rattle.b3d_spec.specs.Rules.{vertex_words}
use Rattle.b3d_spec.specs.Parse.{Vertices}
use Rattle.b3d_spec.specs.Tables.{vertex_width}

-- the answer on a VRTS that was read: how many vertices, and of how many words; or its refusal
abbrev pub shaped : Result Vertices → std.Result (ℕ × ℕ) Refusal
shaped (accept v) = Ok (length v.items, vertex_words v.flags v.sets v.size)
shaped (reject n p) = Err (refusal_at n p)

-- bounds of an answer on a VRTS with the body b: its fixed data and k vertices have room there; a refusal's place is not past its end
abbrev pub ShapedIn : Cursor → std.Result (ℕ × ℕ) Refusal → Type 0
ShapedIn b (Ok (k, words)) = (12 + k * (4 * words) ≤ b.end - b.at) × (3 ≤ words) × (words ≤ vertex_width)
ShapedIn b (Err e) = e.place ≤ b.end

-- r is the answer on the VRTS o with the body b
pub record Shapes (o : Result Vertices) (b : Cursor) (r : std.Result (ℕ × ℕ) Refusal) : Type 0 where
  -- it is what was read, or the refusal
  pub is : r ≡ shaped o
  -- it keeps its bounds
  pub within : ShapedIn b r
