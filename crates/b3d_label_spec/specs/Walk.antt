-- The walk of paper 02's E7 over a file's headers, and the label. Steps refuse as those of 01 do, at their own numbers and places; the label makes 14 at
-- place 0 of each. A chunk's walk is given the place of its body, and its body.
use Rattle.std.specs.Prelude.{◌≡◌, ℕ, ◌+◌, ◌*◌, ◌/◌, ◌%◌, List, [], ◌∷◌, length, take, drop, get_or, eqb, leb}
use Rattle.wire.specs.Test.{if}
use Rattle.layout.specs.Chunks.{done, stop, chunk}
use Rattle.layout.specs.Result.{Result, accept, reject, check, ◌>>=◌}
use Rattle.layout.specs.Parts.{Name, row, number, named}
use Rattle.layout.specs.Rules.{Rule, any}
use Rattle.layout.specs.Refusals as refusals
use Rattle.b3d_spec.specs.declared.Tag.TheVariants.{BB3D, NODE, MESH, VRTS}
use Rattle.b3d_spec.specs.Tags.{code, is, Chunks, split}
use Rattle.b3d_spec.specs.Rules.{header, node_row, vertices_head, vertex_words}
use Rattle.b3d_spec.specs.Columns as columns
use Rattle.b3d_label_spec.specs.declared.TrayLabel.{TrayLabel}

-- o is a refusal, whichever it is
abbrev pub Refused : {A : Type 0} → Result A → Type 0
Refused {A} o = (n : ℕ) × (p : ℕ) × (o ≡ reject n p)

-- fixed data of one number that is not looked at: BB3D's version, a MESH's brush
abbrev pub one_number : List Rule
one_number = any ∷ []

-- the place of the body and the body of the first chunk with these letters, others stepped over; a cut header or a length past the end before it is 3, and
-- there being none is 14
unfoldable pub first_with : ℕ → Chunks → Result (ℕ × List ℕ)
first_with letters done = reject refusals.no_label 0
first_with letters (stop n p) = reject n p
first_with letters (chunk t p b r) = if (eqb (code t) letters) (accept (p + 8, b)) (first_with letters r)

-- how many vertices the VRTS with the body b at p has: flags, sets and set size in their ranges, then items that fill it
unfoldable pub vrts_vertices : ℕ → List ℕ → Result ℕ
vrts_vertices p b = do
  h ← row vertices_head p b
  let size = 4 * vertex_words (number h 0) (number h 1) (number h 2)
  _ ← check (eqb (length h.left % size) 0) refusals.no_label 0
  accept (length h.left / size)

-- how many vertices the MESH with the body b at p has: its brush, then its first VRTS
unfoldable pub mesh_vertices : ℕ → List ℕ → Result ℕ
mesh_vertices p b = do
  h ← row one_number p b
  v ← first_with (code VRTS) (split h.place h.left)
  vrts_vertices v.0 v.1

-- how many vertices a root with these chunks has: those of its first known chunk if that is a MESH, else 0
unfoldable pub root_vertices : Chunks → Result ℕ
root_vertices done = accept 0
root_vertices (stop n p) = reject n p
root_vertices (chunk t p b r) = if (is t MESH) (mesh_vertices (p + 8) b) (accept 0)

-- what a label is printed from: the root's name, and the vertices of its mesh
pub record Printed : Type 0 where
  pub name : Name
  pub vertices : ℕ

-- the label of the NODE with the body b at p: its name and ten numbers, then its first known chunk
unfoldable pub root_in : ℕ → List ℕ → Result Printed
root_in p b = do
  h ← named node_row p b
  n ← root_vertices (split h.place h.left)
  accept (record { name = h.value.0; vertices = n })

-- the label of the BB3D with the body b at p: its version, then its first NODE
unfoldable pub file_in : ℕ → List ℕ → Result Printed
file_in p b = do
  h ← row one_number p b
  n ← first_with (code NODE) (split h.place h.left)
  root_in n.0 n.1

-- the label of the file s: its first tag BB3D, with a length that is not past the file; what stands after that chunk is not looked at
unfoldable pub label_walk : List ℕ → Result Printed
label_walk s = do
  h ← row header 0 s
  _ ← check (eqb (number h 0) (code BB3D)) refusals.first_tag 0
  _ ← check (leb (number h 1) (length h.left)) refusals.cut_chunk 0
  file_in h.place (take (number h 1) h.left)

-- ---- the label

-- the label of a refusal: 14 at place 0, an empty name and no vertex
abbrev pub no_label : TrayLabel
no_label = record { number = 14; place = 0; name_place = 0; name_length = 0; vertices = 0 }

-- the label by what the walk found; every refusal is 14
unfoldable pub labelled : Result Printed → TrayLabel
labelled (accept x) = record { number = 0; place = 0; name_place = x.name.place; name_length = length x.name.bytes; vertices = x.vertices }
labelled (reject n p) = no_label

-- the label of the file s
unfoldable pub label_of : List ℕ → TrayLabel
label_of s = labelled (label_walk s)

-- the name on the label l, as a part of the file s
unfoldable pub name_on : TrayLabel → List ℕ → List ℕ
name_on l s = take l.name_length (drop l.name_place s)

-- the label by the tables, from the root's row of table 3 and the rows of table 4: the name's two cells; if the kind is 1, a mesh, the vertices of the mesh
-- that the row names first
unfoldable pub label_in : List ℕ → List (List ℕ) → TrayLabel
label_in root meshes = record {
  number = 0;
  place = 0;
  name_place = get_or root columns.name_place 0;
  name_length = get_or root columns.name_length 0;
  vertices = if (eqb (get_or root columns.node_kind 0) 1) (get_or (get_or meshes (get_or root columns.node_first 0) []) columns.mesh_vertices 0) 0;
}
