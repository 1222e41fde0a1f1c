-- The row counts of a tally.
use Rattle.std.specs.Prelude.{ℕ, List, [], ◌∷◌}
use Rattle.b3d_judge_tally.specs.declared.Tally.{Tally}

-- the ten row counts of a tally
unfoldable pub counts_in : Tally → List ℕ
counts_in t = t.textures ∷ t.brushes ∷ t.nodes ∷ t.meshes ∷ t.vertices ∷ t.sets ∷ t.triangles ∷ t.weights ∷ t.lists ∷ t.keys ∷ []
