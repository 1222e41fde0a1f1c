-- Vertices and keys as rows, and the rows that a TRIS and a KEYS have themselves.
use Rattle.std.specs.Prelude.{ℕ, Bool, true, false, List, [], ◌∷◌, map, length}
use Rattle.b3d_spec.specs.Mask.{padded, vertex_mask, key_mask}
use Rattle.b3d_spec.specs.Parse.{Vertices}
use Rattle.b3d_spec.specs.Scene.{TriangleSet}
use Rattle.b3d_spec_plain_rows.specs.Plain.{plain_keys, plain_triangles}
use Rattle.b3d_spec_plain_rows.specs.Rows.{list_row}

-- the rows of table 5 for the vertices v
unfoldable pub shape_rows : Vertices → List (List ℕ)
shape_rows v = map (padded (vertex_mask v.flags v.sets v.size)) v.items

-- the rows of table 10 for a KEYS with body b
unfoldable pub key_rows_of : List ℕ → List (List ℕ)
key_rows_of b = map (padded (key_mask (plain_keys b).flags)) (plain_keys b).items

-- the row of a triangle set x of mesh i, its first triangle being number r
unfoldable pub set_row : ℕ → ℕ → TriangleSet → List ℕ
set_row i r x = i ∷ x.brush ∷ r ∷ length x.triangles ∷ []

-- the items of a KEYS (true) or of a TRIS (false) with body b
abbrev pub group_items : Bool → List ℕ → List (List ℕ)
group_items true b = (plain_keys b).items
group_items false b = (plain_triangles b).triangles

-- the row of a KEYS (true) of node i or of a TRIS (false) of mesh i, with body b, its first item being number r
abbrev pub group_row : Bool → ℕ → ℕ → List ℕ → List ℕ
group_row true i r b = list_row i r (plain_keys b)
group_row false i r b = set_row i r (plain_triangles b)
