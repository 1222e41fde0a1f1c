-- The chunks inside a BB3D by phases, textures, brushes, nodes, and what is answered of each: its tally, and the chunks left.
use Rattle.layout.specs.Refused.{refusal_at}
use Rattle.std.specs.Prelude as std
use Rattle.layout.specs.declared.Refusal.{Refusal}
use Rattle.std.specs.Prelude.{◌≡◌, ℕ, ◌≤◌, List, [], length, Ok, Err}
use Rattle.wire.specs.declared.Cursor.{Cursor}
use Rattle.layout.specs.Result.{Result, accept, reject, ◌>>=◌}
use Rattle.layout.specs.Chunks.{ended}
use Rattle.b3d_spec.specs.declared.Mode.{Mode}
use Rattle.b3d_spec.specs.declared.Tag.TheVariants.{BRUS, NODE}
use Rattle.b3d_spec.specs.Tags.{Chunks, Found}
use Rattle.b3d_spec.specs.Scene.{Brush, Forest, no_nodes}
use Rattle.b3d_spec.specs.Parse.{read_one, read_brushes, read_root, slots_of}
use Rattle.b3d_judge_tally.specs.Tally.{plus, brus_tally, forest_tally}
use Rattle.b3d_judge_tally.specs.declared.Tally.{Tally}
use Rattle.b3d_judge_materials.specs.Answers.{SlottedIn}
use Rattle.b3d_judge_tally.specs.Answers.{beside, Onward}

-- the nodes of a file with this number of `brushes`, from the chunks cs: NODE, if it comes first, and no known chunk after it
unfoldable pub read_last : Mode → ℕ → Chunks → Result Forest
read_last mode brushes cs = do
  n ← read_one NODE no_nodes (read_root mode brushes) cs
  ended n.rest n.value

-- the chunks cs inside a BB3D after its textures: n_texs, its brushes, its nodes
unfoldable pub read_rest : Mode → ℕ → Chunks → Result ((ℕ × List Brush) × Forest)
read_rest mode textures cs = do
  u ← read_one BRUS (0, []) (read_brushes mode textures) cs
  f ← read_last mode (length u.value.1) u.rest
  accept ((slots_of u.value.0 u.value.1, u.value.1), f)

-- the tally f of what was read, and the chunks left; or the refusal
abbrev pub tallied : {A : Type 0} → (A → Tally) → Result (Found A) → Result (Tally × Chunks)
tallied f (accept x) = accept (f x.value, x.rest)
tallied f (reject n p) = reject n p

-- what an answer says: the tally, and the chunks from the cursor on by `rest`; or the refusal
abbrev pub phased : (Cursor → Chunks) → std.Result (Tally × Cursor) Refusal → Result (Tally × Chunks)
phased rest (Ok (t, c)) = accept (t, rest c)
phased rest (Err e) = reject e.number e.place

-- bounds of an answer from the cursor `from` on: the cursor further on, with a tally of no more bytes than lie between; a refusal's place not past the end
abbrev pub PhasedIn : Cursor → std.Result (Tally × Cursor) Refusal → Type 0
PhasedIn from (Ok (t, c)) = Onward from c t
PhasedIn from (Err e) = e.place ≤ from.end

-- r is the answer on what was read, o, from the cursor `from` on, `rest` giving the chunks from a cursor on
pub record Phases {A : Type 0} (tally : A → Tally) (o : Result (Found A)) (rest : Cursor → Chunks)
    (from : Cursor) (r : std.Result (Tally × Cursor) Refusal) : Type 0 where
  -- it says the tally of what was read, or the refusal
  pub is : phased rest r ≡ tallied tally o
  -- it keeps its bounds
  pub within : PhasedIn from r

-- n_texs of a BRUS that was read, x being its number and its brushes; 0 without a brush
abbrev pub slots_in : ℕ × List Brush → ℕ
slots_in x = slots_of x.0 x.1

-- the tally of a BRUS that was read, x being n_texs and its brushes
abbrev pub brus_in : ℕ × List Brush → Tally
brus_in x = brus_tally (slots_in x) x.1

-- a BRUS that was read: n_texs, its tally and the chunks that are left; or the refusal
abbrev pub brushes : Result (Found (ℕ × List Brush)) → Result (ℕ × Tally × Chunks)
brushes = beside slots_in brus_in

-- what an answer on a BRUS says: n_texs, the tally, and the chunks from the cursor on by `rest`; or the refusal
abbrev pub brushed_by : (Cursor → Chunks) → std.Result (ℕ × Tally × Cursor) Refusal → Result (ℕ × Tally × Chunks)
brushed_by rest (Ok (k, t, c)) = accept (k, t, rest c)
brushed_by rest (Err e) = reject e.number e.place

-- bounds of an answer on a BRUS from the cursor `from` on: the cursor further on, with a tally of no more bytes than lie between; a refusal's place not past
-- the end
abbrev pub BrushedIn : Cursor → std.Result (ℕ × Tally × Cursor) Refusal → Type 0
BrushedIn from (Ok (k, t, c)) = Onward from c t
BrushedIn from (Err e) = e.place ≤ from.end

-- r is the answer on the BRUS o from the cursor `from` on, `rest` giving the chunks from a cursor on
pub record Brushes (o : Result (Found (ℕ × List Brush))) (rest : Cursor → Chunks) (from : Cursor) (r : std.Result (ℕ × Tally × Cursor) Refusal) : Type 0 where
  -- it says what was read, or the refusal
  pub is : brushed_by rest r ≡ brushes o
  -- it keeps its bounds
  pub within : BrushedIn from r

-- the answer on brushes and nodes that were read: n_texs and their tally; or the refusal
abbrev pub rested : Result ((ℕ × List Brush) × Forest) → std.Result (ℕ × Tally) Refusal
rested (accept x) = Ok (x.0.0, plus (brus_tally x.0.0 x.0.1) (forest_tally x.1))
rested (reject n p) = Err (refusal_at n p)

-- r is the answer on the brushes and nodes o, which stand from place `from` to place `to`
pub record Rests (o : Result ((ℕ × List Brush) × Forest)) (from to : ℕ) (r : std.Result (ℕ × Tally) Refusal) : Type 0 where
  -- it is n_texs and the tally, or the refusal
  pub is : r ≡ rested o
  -- it keeps its bounds
  pub within : SlottedIn from to r
