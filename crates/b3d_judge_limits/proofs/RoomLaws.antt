-- The ten tables with the first that is too short written out, and the words stored into one of them.
use mathlib.Core.Path.{◌≡◌, refl, ◌∙◌}
use Prim.Native.Nat.{ℕ, ◌+◌, ◌*◌, ◌≤◌}
use native.Mathlib.Nat.{zero-add}
use native.Mathlib.Omega.{arith}
use mathlib.Core.List.{List, [], ◌∷◌}
use lib.ListN.{length}
use lib.Dec.{ltb}
use lib.Seq.{sets, sets-eq}
use Rattle.wire.specs.Bytes.{over}
use Rattle.wire.specs.Test.{if}
use Rattle.shared_room.specs.Rooms.{number_of, first_short}
use Rattle.b3d_spec.specs.Tables.{width, tables, node_tables, node_width}
use Rattle.b3d_judge_tally.specs.declared.Tally.{Tally}
use Rattle.b3d_judge_limits.specs.Rooms.{counts_in}

-- the first that is too short, with the ten written out
pub short-ten : (t : Tally) (l1 l2 l3 l4 l5 l6 l7 l8 l9 l10 : ℕ)
    → first_short width (number_of (counts_in t)) (number_of (l1 ∷ l2 ∷ l3 ∷ l4 ∷ l5 ∷ l6 ∷ l7 ∷ l8 ∷ l9 ∷ l10 ∷ [])) tables
    ≡ if (ltb l1 (9 * t.textures)) 1
    (if (ltb l2 (17 * t.brushes)) 2
    (if (ltb l3 (node_width * t.nodes)) 3
    (if (ltb l4 (9 * t.meshes)) 4
    (if (ltb l5 (42 * t.vertices)) 5
    (if (ltb l6 (4 * t.sets)) 6
    (if (ltb l7 (3 * t.triangles)) 7
    (if (ltb l8 (2 * t.weights)) 8
    (if (ltb l9 (4 * t.lists)) 9
    (if (ltb l10 (11 * t.keys)) 10 0)))))))))
unfolding first_short counts_in tables node_tables width if
short-ten t l1 l2 l3 l4 l5 l6 l7 l8 l9 l10 = refl

-- the words of a table, stored from its start on
pub stored-over : (ws out : List ℕ) → length ws ≤ length out → sets out 0 ws ≡ over ws out
unfolding over
stored-over ws out h = let z : 0 + length ws ≡ length ws = zero-add (length ws) in sets-eq ws out 0 (omega arith) ∙ rw z
