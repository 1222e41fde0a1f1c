-- What the answer of `find_chunks` says of a walk over the chunk, in every scope, dry or wet, for file and report.
use Rattle.std.specs.Prelude.{◌≡◌, ℕ, ◌+◌, ◌-◌, ◌<◌, ◌≤◌, Bool, List, [], ◌∷◌, ◌++◌, length, take, drop}
use Rattle.wire.specs.Bytes.{word_at}
use Rattle.wire.specs.Cursors.{Inside, left}
use Rattle.wire.specs.declared.Cursor.{Cursor}
use Rattle.layout.specs.Rules.{names_or_none}
use Rattle.b3d_spec.specs.declared.Tag.{Tag}
use Rattle.b3d_mend_spec.specs.Edits.{keep}
use Rattle.b3d_mend_spec.specs.Walks.{word_edit}
use Rattle.b3d_mend_write_spec.specs.Shown.{shown}
use Rattle.b3d_mend_write_scopes.specs.Shown.{ChunkShown, walked, node_scope, mesh_scope, walk_inside, walk_leaf, walk_chunk}
use Rattle.b3d_mend_write_scopes.specs.declared.Scope.{Scope}
use Rattle.b3d_mend_write_scopes.specs.declared.Opening.{Opening}
use Rattle.b3d_mend_write_scopes.specs.declared.Opening.TheVariants as opening

-- what is shown of a NODE before its chunks: all of it stays
unfoldable pub node_front : Bool → List ℕ → Cursor → Cursor → List ℕ
node_front report s b from = shown report b.at (keep (take (from.at - b.at) (drop b.at s)) ∷ [])

-- of a MESH: its brush
unfoldable pub mesh_front : Bool → List ℕ → Cursor → Scope → List ℕ
mesh_front report s b k = shown report b.at (word_edit (names_or_none k.brushes) (word_at s b.at) ∷ [])

-- the walk over the chunks from a cursor on
unfoldable pub walk_from : Bool → ℕ → Scope → List ℕ → Cursor → ChunkShown
walk_from report l k s from = walk_inside report (walk_chunk report l) k from.at (left from s)

-- in every scope
abbrev pub Always : (l : ℕ) → Tag → List ℕ → Cursor → (Bool → Scope → ℕ → ChunkShown) → Type 0
Always l t s b w = (report : Bool) (k : Scope) (p : ℕ) → b.at ≡ p + 8 → walk_chunk report l k t p (left b s) ≡ w report k p

pub record ScopeOpened (l : ℕ) (t : Tag) (s : List ℕ) (b from : Cursor) (w : Bool → Scope → ℕ → ChunkShown) : Type 0 where
  pub levels : 0 < l
  pub after : b.at ≤ from.at
  pub inside : Inside from (length s)
  pub room : b.at + 4 ≤ length s
  pub always : Always l t s b w

abbrev pub OpensAs : List ℕ → ℕ → Tag → Cursor → Opening → Type 0
OpensAs s l t b opening.Flat = Always l t s b (λ report k p. walk_leaf report k t p (left b s))
OpensAs s l t b opening.Nothing = Always l t s b (λ report k p. walked [] 0)
OpensAs s l t b (opening.Node from) =
    ScopeOpened l t s b from (λ report k p. walked (node_front report s b from ++ (walk_from report (l - 1) (node_scope k) s from).bytes) 0)
OpensAs s l t b (opening.Mesh from) =
    ScopeOpened l t s b from (λ report k p. let x = walk_from report (l - 1) (mesh_scope k) s from in walked (mesh_front report s b k ++ x.bytes) x.count)

pub record OpeningIs (s : List ℕ) (l : ℕ) (t : Tag) (b : Cursor) (r : Opening) : Type 0 where
  pub is : OpensAs s l t b r
