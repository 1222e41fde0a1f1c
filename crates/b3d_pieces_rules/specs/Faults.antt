-- What a number of a row gets: 0 where it keeps its rule, else the refusal.
use Rattle.std.specs.Prelude.{◌≡◌, ℕ, ◌<◌, ◌≤◌, Bool, List, ◌++◌}
use Rattle.wire.specs.Test.{if}
use Rattle.layout.specs.Rules.{Rule, names, holds, refusal}
use Rattle.b3d_spec.specs.declared.Mode.TheVariants.{Strict}
use Rattle.b3d_spec.specs.declared.Tag.{Tag}
use Rattle.b3d_spec.specs.Rules.{brush_row, brush_ids, vertex_row}
use Rattle.b3d_pieces_spec.specs.declared.Totals.{Totals}
use Rattle.b3d_pieces_spec.specs.declared.Kept.{Kept}
use Rattle.b3d_pieces_spec.specs.Bodies.{fixed_row, inner_row, rules_of, rule_at}

-- the refusal that the number w gets by the rule r, or 0
unfoldable pub fault_of : Rule → ℕ → ℕ
fault_of r w = if (holds r w) 0 (refusal r)

-- the refusal that w gets as number i of the row rs, or 0
unfoldable pub fault_in : List Rule → ℕ → ℕ → ℕ
fault_in rs i w = fault_of (rule_at rs i) w

-- the refusal that w gets as number i of a brush with this many texture slots, n being the number of textures; or 0
unfoldable pub slot_fault : ℕ → ℕ → ℕ → ℕ → ℕ
slot_fault slots n i w = fault_in (brush_row Strict ++ brush_ids slots n) i w

-- the refusal that w gets as number i of the fixed data of a chunk of tag t, or 0
unfoldable pub fixed_fault : Tag → Totals → ℕ → ℕ → ℕ
fixed_fault t g i w = fault_in (fixed_row t g) i w

-- the refusal that w gets as number i of an item of a chunk of tag t with the fixed data k, or of a header inside it; or 0
unfoldable pub inner_fault : Tag → Kept → Totals → ℕ → ℕ → ℕ
inner_fault t k g i w = fault_in (inner_row t k g) i w

-- the refusal that w gets as number i of a row of a chunk of tag t: of fixed data, or of an item or a header; or 0
unfoldable pub row_fault : Bool → Tag → Kept → Totals → ℕ → ℕ → ℕ
row_fault fixed t k g i w = fault_in (rules_of fixed t k g) i w

-- r is the refusal that w gets as number i of a row whose first `count` numbers are ids below n, or 0
pub record IdsAre (count n i w r : ℕ) : Type 0 where
  -- an id is held to its rule
  pub id : i < count → r ≡ fault_of (names n) w
  -- the others are not looked at
  pub other : count ≤ i → r ≡ 0

-- r is the refusal that w gets as number i of a vertex with these flags, or 0
pub record VertexIs (flags i w r : ℕ) : Type 0 where
  -- however many sets there are, of any size
  pub is : (sets size : ℕ) → r ≡ fault_in (vertex_row Strict flags sets size) i w
