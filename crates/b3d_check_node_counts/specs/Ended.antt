-- Whether rows are left over after the nodes.
use Rattle.std.specs.Prelude.{Bool, ◌&&◌, leb}
use Rattle.b3d_spec.specs.declared.Counts.{Counts}

-- no row of tables 4 to 10 that a counts is left over after the counts n
unfoldable pub ended : Counts → Counts → Bool
ended n a =
    leb a.meshes n.meshes
    && (leb a.vertices n.vertices
    && (leb a.sets n.sets
    && (leb a.triangles n.triangles && (leb a.weights n.weights && (leb a.lists n.lists && leb a.keys n.keys)))))
