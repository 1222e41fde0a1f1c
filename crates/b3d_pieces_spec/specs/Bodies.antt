-- What stands inside a chunk by its tag: the rules of its fixed data and of its items, all cited from b3d_spec, and what it adds to the totals.
-- The piece judge is strict.
use Rattle.std.specs.Prelude.{ℕ, zero, suc, ◌+◌, Bool, true, false, not, ◌||◌, List, [], ◌∷◌, ◌++◌, drop, eqb, ltb}
use Rattle.std.proofs.Math.Option.{Option, none, some}
use Rattle.wire.specs.Test.{if}
use Rattle.layout.specs.Rules.{Rule, any}
use Rattle.b3d_spec.specs.declared.Tag.{Tag}
use Rattle.b3d_spec.specs.declared.Tag.TheVariants.{BB3D, TEXS, BRUS, NODE, MESH, VRTS, TRIS, BONE, KEYS, ANIM}
use Rattle.b3d_spec.specs.declared.Mode.TheVariants.{Strict}
use Rattle.b3d_spec.specs.declared.Counts.{Counts}
use Rattle.b3d_spec.specs.Tags.{is}
use Rattle.b3d_spec.specs.Rules.{header, file_head, texture_row, brushes_head, brush_row, brush_ids, node_row, mesh_head, vertices_head, vertex_row, triangles_head, triangle_row, weight_row, keys_head, key_row, anim_row, bone_limit, bone_limit_from}
use Rattle.b3d_pieces_spec.specs.declared.Totals.{Totals}
use Rattle.b3d_pieces_spec.specs.declared.Kept.{Kept}

-- ---- totals, and bones

-- the bone limit that the nodes above the present one give it; none for the root, the first node of a file
unfoldable pub above : Totals → Option ℕ
above g = if (eqb g.rows.nodes 1) none (some g.told)

-- the totals g with this version, n_texs (`slots`), textures and brushes
abbrev pub file_with : Totals → ℕ → ℕ → ℕ → ℕ → Totals
file_with g version slots textures brushes =
    record {
      version = version;
      slots = slots;
      textures = textures;
      brushes = brushes;
      own = g.own;
      told = g.told;
      below = g.below;
      rows = g.rows;
    }

-- the totals g with `own` vertices of the present node, its bone limit `told`, the limit `below` that it hands down, and these rows
abbrev pub node_with : Totals → ℕ → ℕ → ℕ → Counts → Totals
node_with g own told below rows =
    record {
      version = g.version;
      slots = g.slots;
      textures = g.textures;
      brushes = g.brushes;
      own = own;
      told = told;
      below = below;
      rows = rows;
    }

-- the totals g where the present node has `own` vertices and, if a is true, an ANIM: with the bone limit that it hands down
abbrev pub saying : Bool → ℕ → Totals → Totals
saying a own g = node_with g own g.told (bone_limit (bone_limit_from (above g) a own)) g.rows

-- ---- rows

-- the rules of the fixed data of a chunk of tag t, after its text if it has one: column two of 01's table of chunks
abbrev pub fixed_row : Tag → Totals → List Rule
fixed_row BB3D g = file_head
fixed_row TEXS g = []
fixed_row BRUS g = brushes_head
fixed_row NODE g = node_row
fixed_row MESH g = mesh_head g.brushes
fixed_row VRTS g = vertices_head
fixed_row TRIS g = triangles_head g.brushes
fixed_row BONE g = []
fixed_row KEYS g = keys_head
fixed_row ANIM g = anim_row

-- the rules of an item of a chunk of tag t with the fixed data k, after its text if it has one: column three of 01's table of chunks; in BB3D, NODE and MESH
-- the rules of a header inside it
abbrev pub inner_row : Tag → Kept → Totals → List Rule
inner_row BB3D k g = header
inner_row TEXS k g = texture_row
inner_row BRUS k g = brush_row Strict ++ brush_ids k.first g.textures
inner_row NODE k g = header
inner_row MESH k g = header
inner_row VRTS k g = vertex_row Strict k.first k.second k.third
inner_row TRIS k g = triangle_row g.own
inner_row BONE k g = weight_row (bone_limit (above g))
inner_row KEYS k g = key_row k.first
inner_row ANIM k g = []

-- the rules of a row of a chunk of tag t: of its fixed data (true), or of an item or a header inside it (false)
abbrev pub rules_of : Bool → Tag → Kept → Totals → List Rule
rules_of true t k g = fixed_row t g
rules_of false t k g = inner_row t k g

-- the rule of the first number of a row; a number past the row's end has no rule
abbrev pub first : List Rule → Rule
first [] = any
first (r ∷ rs) = r

-- the rule of number i of the row rs; past the row's end any number is right
unfoldable pub rule_at : List Rule → ℕ → Rule
rule_at rs i = first (drop i rs)

-- true if chunks stand inside a chunk of tag t
abbrev pub nests : Tag → Bool
nests t = is t BB3D || (is t NODE || is t MESH)

-- true if the items of a chunk of tag t begin with a text
abbrev pub text_items : Tag → Bool
text_items t = is t TEXS || is t BRUS

-- the refusal where a row runs past its chunk: 3 for a header (true), 5 for an item (false)
abbrev pub cut_row : Bool → ℕ
cut_row true = 3
cut_row false = 5

-- true if `left` bytes are wrong for fixed data of `need` bytes: where nothing may follow it (true) any other number is, else a smaller one
abbrev pub wrong_bytes : Bool → ℕ → ℕ → Bool
wrong_bytes true left need = not (eqb left need)
wrong_bytes false left need = ltb left need

-- true if `left` bytes of a chunk of tag t are wrong for its `need` bytes of fixed data; an ANIM has nothing after it
abbrev pub wrong_for : Tag → ℕ → ℕ → Bool
wrong_for t left need = wrong_bytes (is t ANIM) left need

-- ---- numbers that are kept

-- the numbers kept of a row of which nothing was read
abbrev pub none_kept : Kept
none_kept = record { first = 0; second = 0; third = 0 }

-- the numbers k with number i set to w; past the first three nothing is kept
abbrev pub keep : ℕ → ℕ → Kept → Kept
keep zero w k = record { first = w; second = k.second; third = k.third }
keep (suc zero) w k = record { first = k.first; second = w; third = k.third }
keep (suc (suc zero)) w k = record { first = k.first; second = k.second; third = w }
keep (suc (suc (suc i))) w k = k

-- ---- what a chunk adds

-- the totals g with the rows n of tables 3 to 10
abbrev pub rows_with : Totals → Counts → Totals
rows_with g n = node_with g g.own g.told g.below n

-- the totals g with this version if the flag says that BB3D's fixed data was read, else g
abbrev pub versioned : Bool → ℕ → Totals → Totals
versioned true version g = file_with g version g.slots g.textures g.brushes
versioned false version g = g

-- the totals g after the fixed data k of a chunk of tag t
abbrev pub headed : Tag → Kept → Totals → Totals
headed t k g = versioned (is t BB3D) k.first g

-- the rows n with one more node; a node takes its row before anything inside it
abbrev pub one_node : Counts → Counts
one_node n =
    record {
      nodes = n.nodes + 1;
      meshes = n.meshes;
      vertices = n.vertices;
      sets = n.sets;
      triangles = n.triangles;
      weights = n.weights;
      lists = n.lists;
      keys = n.keys;
    }

-- the totals g with one more node, whose bone limit is what the node around it hands down
abbrev pub one_more : Totals → Totals
one_more g = node_with g 0 g.below g.below (one_node g.rows)

-- the totals g where a node begins, without vertices and without an ANIM yet
abbrev pub entered : Totals → Totals
entered g = saying false 0 (one_more g)

-- n_texs of a file with this number of brushes: 0 if there is none
abbrev pub slots_for : ℕ → ℕ → ℕ
slots_for zero slots = 0
slots_for (suc n) slots = slots

-- the rows of tables 3 to 10 after a chunk of tag t with c items, n before it
abbrev pub rows_after : Tag → ℕ → Counts → Counts
rows_after BB3D c n = n
rows_after TEXS c n = n
rows_after BRUS c n = n
rows_after NODE c n = n
rows_after MESH c n =
    record {
      nodes = n.nodes;
      meshes = n.meshes + 1;
      vertices = n.vertices;
      sets = n.sets;
      triangles = n.triangles;
      weights = n.weights;
      lists = n.lists;
      keys = n.keys;
    }
rows_after VRTS c n =
    record {
      nodes = n.nodes;
      meshes = n.meshes;
      vertices = n.vertices + c;
      sets = n.sets;
      triangles = n.triangles;
      weights = n.weights;
      lists = n.lists;
      keys = n.keys;
    }
rows_after TRIS c n =
    record {
      nodes = n.nodes;
      meshes = n.meshes;
      vertices = n.vertices;
      sets = n.sets + 1;
      triangles = n.triangles + c;
      weights = n.weights;
      lists = n.lists;
      keys = n.keys;
    }
rows_after BONE c n =
    record {
      nodes = n.nodes;
      meshes = n.meshes;
      vertices = n.vertices;
      sets = n.sets;
      triangles = n.triangles;
      weights = n.weights + c;
      lists = n.lists;
      keys = n.keys;
    }
rows_after KEYS c n =
    record {
      nodes = n.nodes;
      meshes = n.meshes;
      vertices = n.vertices;
      sets = n.sets;
      triangles = n.triangles;
      weights = n.weights;
      lists = n.lists + 1;
      keys = n.keys + c;
    }
rows_after ANIM c n = n

-- the totals g after a NODE with the bone limit `told`: the node around it hands that limit down again
abbrev pub bone_limit_restored : Totals → ℕ → Totals
bone_limit_restored g told = node_with g g.own g.told told g.rows

-- the totals after a chunk of tag t with c items, the fixed data k and, as a NODE, the bone limit `told`: its rows are added to g; a VRTS and an ANIM may
-- change the bone limit that their node hands down
abbrev pub closed : Tag → ℕ → Kept → ℕ → Totals → Totals
closed BB3D c k told g = g
closed TEXS c k told g = file_with g g.version g.slots c g.brushes
closed BRUS c k told g = file_with g g.version (slots_for c k.first) g.textures c
closed NODE c k told g = bone_limit_restored g told
closed MESH c k told g = rows_with g (rows_after MESH c g.rows)
closed VRTS c k told g = saying false c (rows_with g (rows_after VRTS c g.rows))
closed TRIS c k told g = rows_with g (rows_after TRIS c g.rows)
closed BONE c k told g = rows_with g (rows_after BONE c g.rows)
closed KEYS c k told g = rows_with g (rows_after KEYS c g.rows)
closed ANIM c k told g = saying true g.own g
