-- The machine's invariant after n bytes: how many chunks are open, that no more rows were counted than bytes came, that numbers are words of four bytes, and
-- where the present number began.
use Rattle.std.specs.Prelude.{◌≡◌, ℕ, zero, suc, ◌+◌, ◌<◌, ◌≤◌, List, [], ◌∷◌, length}
use Rattle.wire.specs.Bytes.{IsWord}
use Rattle.layout.specs.Rows.{most_bytes}
use Rattle.b3d_spec.specs.declared.Tag.{Tag}
use Rattle.b3d_spec.specs.declared.Tag.TheVariants.{BB3D, TEXS, BRUS, NODE, MESH, VRTS, TRIS, BONE, KEYS, ANIM}
use Rattle.b3d_spec.specs.Rules.{levels}
use Rattle.b3d_pieces_spec.specs.declared.Totals.{Totals}
use Rattle.b3d_pieces_spec.specs.declared.Kept.{Kept}
use Rattle.b3d_pieces_spec.specs.declared.Open.{Open}
use Rattle.b3d_pieces_spec.specs.declared.Part.{Part}
use Rattle.b3d_pieces_spec.specs.declared.Part.TheVariants.{Text, Row, Skip}
use Rattle.b3d_pieces_spec.specs.Machine.{State, live, fault, over}
use Rattle.b3d_pieces_spec.specs.Close.{Whole, heading, inside, Held}
use Rattle.b3d_pieces_spec.specs.Limits.{most_around, most_around_mesh}

-- a chunk of tag t with l levels of nodes left below it may have n chunks open around it
abbrev pub Bound : Tag → ℕ → ℕ → Type 0
Bound BB3D l n = n + l ≤ levels
Bound TEXS l n = n ≤ most_around
Bound BRUS l n = n ≤ most_around
Bound NODE l n = n + l ≤ levels
Bound MESH l n = n ≤ most_around_mesh
Bound VRTS l n = n ≤ most_around
Bound TRIS l n = n ≤ most_around
Bound BONE l n = n ≤ most_around
Bound KEYS l n = n ≤ most_around
Bound ANIM l n = n ≤ most_around

-- a chunk of tag t may be opened inside one with l levels of nodes left and n chunks around it: then its own `Bound` holds
abbrev pub Child : Tag → ℕ → ℕ → Type 0
Child BB3D l n = ⊥
Child TEXS l n = suc n ≤ most_around
Child BRUS l n = suc n ≤ most_around
Child NODE l n = (m : ℕ) → l ≡ suc m → suc n + m ≤ levels
Child MESH l n = suc n ≤ most_around_mesh
Child VRTS l n = suc n ≤ most_around
Child TRIS l n = suc n ≤ most_around
Child BONE l n = suc n ≤ most_around
Child KEYS l n = suc n ≤ most_around
Child ANIM l n = suc n ≤ most_around

-- the numbers kept are words of four bytes
abbrev pub Words : Kept → Type 0
Words k = IsWord k.first × IsWord k.second × IsWord k.third

-- each of the open chunks, the innermost first, has no more chunks around it than its `Bound` says, and its fixed data are words
abbrev pub Deep : List Open → Type 0
Deep [] = Unit {0}
Deep (f ∷ R) = Bound f.tag f.level (length R) × Words f.kept × Deep R

-- how many rows were counted, over all ten tables
abbrev pub sum : Totals → ℕ
sum g = let n = g.rows in g.textures + g.brushes + n.nodes + n.meshes + n.vertices + n.sets + n.triangles + n.weights + n.lists + n.keys

-- rows allowed for an open chunk beside its items: 0 for BB3D, and for NODE, whose row is counted when it begins; 1 for the others, an upper bound (only
-- MESH, TRIS and KEYS take a row when they are left)
abbrev pub extra : Tag → ℕ
extra BB3D = 0
extra TEXS = 1
extra BRUS = 1
extra NODE = 0
extra MESH = 1
extra VRTS = 1
extra TRIS = 1
extra BONE = 1
extra KEYS = 1
extra ANIM = 1

-- an upper bound of the rows that the open chunks still add when they are left
abbrev pub load : List Open → ℕ
load [] = 0
load (f ∷ R) = f.count + extra f.tag + load R

-- the open chunks R are nested as a file's may be, and the rows counted with those they may still add are at most `at`
abbrev pub OpenChunksFit : ℕ → Totals → List Open → Type 0
OpenChunksFit at g R = Deep R × (sum g + load R ≤ at)

-- the number that the value of j bytes of a number is below, j at most 3
abbrev pub worth : ℕ → ℕ
worth zero = 1
worth (suc zero) = 256
worth (suc (suc zero)) = 65536
worth (suc (suc (suc j))) = 16777216

-- the part that is being read: its present number, text byte or passed byte begins at `at`, and with the bytes that came of it n bytes came
abbrev pub Off : Part → ℕ → ℕ → Type 0
Off (Text fixed start) at n = at ≡ n
Off (Row fixed start i j acc k) at n = (at + j ≡ n) × (j ≤ 3) × (i ≤ at) × (acc < worth j) × Words k
Off (Skip until) at n = at ≡ n

-- the machine's invariant after n bytes: inside chunks they and the totals fit (`OpenChunksFit`), and the present part is right (`Off`); past BB3D no more rows were
-- counted than bytes came; of a refusal nothing is asked
abbrev pub Good : ℕ → State → Type 0
Good n (live at m g f R) = OpenChunksFit at g (f ∷ R) × Off m at n
Good n (fault m p) = Unit {0}
Good n (over g) = sum g ≤ n

-- ---- what is held between two pieces

-- the invariant of a file of which n bytes came, inside BB3D's header or after it
abbrev pub GoodWhole : ℕ → Whole → Type 0
GoodWhole n (heading i acc tag) = (i ≡ n) × (i ≤ 7)
GoodWhole n (inside tag m st) = Good n st

-- the invariant of what is held: at most one byte more came than the longest file has, and `GoodWhole`
abbrev pub GoodHeld : Held → Type 0
GoodHeld h = (h.size ≤ most_bytes + 1) × GoodWhole h.size h.whole
