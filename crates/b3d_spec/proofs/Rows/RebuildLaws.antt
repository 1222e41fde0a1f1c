-- Tables and scenes correspond: the tables of a scene that fits rebuild to it, and what is rebuilt fits and has those tables and names.
use mathlib.Core.Path.{◌≡◌, refl, ap, ap₂, sym, ◌∙◌, subst}
use Prim.Native.Nat.{ℕ, zero, suc, ◌+◌, ◌*◌, ◌≤◌}
use native.Mathlib.Omega.{arith}
use mathlib.Core.Option.{Option, none, some}
use mathlib.Core.List.{List, [], ◌∷◌, ◌++◌, map, append-nil}
use lib.ListN.{length, take, drop, take-append-drop}
use Rattle.wire.specs.Test.{if}
use Rattle.layout.specs.WellFormed.{all}
use Rattle.layout.specs.Parts.{Name}
use Rattle.layout.specs.Rules.{NONE}
use Rattle.layout.proofs.AllLaws.{All, all_pure, all_map, all-zip, all_append, all_left, all_right, all_of_map, all-from-map, map_back}
use Rattle.layout.proofs.ResultLaws.{if_yes, if_no, by_test}
use Rattle.layout.proofs.TestLaws.{Tests, both, le_is, all-is}
use Rattle.b3d_spec.specs.declared.Mode.{Mode}
use Rattle.b3d_spec.specs.Colours.{passes}
use Rattle.b3d_spec.specs.Rebuild.{Lent, cut, lent_rows, has_counted_rows, texture_from, brush_from, Rows, Placed, walk, tree, assembled, node_names, names, stands, sound, rebuild}
use Rattle.b3d_spec.specs.Rules.{bone_limit_below, levels, row_limit, bone_limit}
use Rattle.b3d_spec.specs.Scene.{Texture, Brush, Forest, no_nodes, node, Scene}
use Rattle.layout.specs.Rows.{joined}
use Rattle.b3d_spec.specs.Tables.{width, start, reached, texture_row, brush_row, own_rows, with_node, with_forest, forest_rows, rows, table, node_tables, tables, nodes_in}
use Rattle.b3d_spec.specs.declared.Counts.{Counts}
use Rattle.b3d_spec.proofs.WellFormedLaws.{FitTexture, FitBrush, FitSlots, FitNodes, OneRoot, WellFormed, fits-is}
use Rattle.b3d_spec.proofs.Rows.NodeRowLaws.{OwnWide, own-wide, From}
use Rattle.b3d_spec.proofs.Rows.RowListLaws.{same-is, same-rows-is, cut-length, words-cut, cut-words}
use Rattle.b3d_spec.proofs.Rows.RowPartLaws.{Wide, Stands, texture_wide, texture_back, brush-wide, brush-back}
use Rattle.b3d_spec.proofs.Rows.TreeLaws.{flat, flat_rows, flat_rows_append, tree-flat, Known, walk-back}
use lib.Dec.{T as True, leb→le}
use mir.Facts.{and_yes, yes_and}
use mathlib.Core.Bool.{◌&&◌}

-- ---- widths

pub forest-wide : (l b : ℕ) (above : Option ℕ) (t : Forest) (p : ℕ) (n : Counts) → FitNodes l b above t → All (λ k. All (Wide (width k)) (forest_rows k t p n)) node_tables
unfolding forest_rows
forest-wide l b above no_nodes p n h = all_pure _ (λ k. tt) node_tables
forest-wide zero b above (node d ch sib) p n h = absurd h
forest-wide (suc l) b above (node d ch sib) p n h =
    let m = with_node d n in
    let q = with_forest ch m in
    all-zip (OwnWide d p (nodes_in ch) n) (λ k. All (Wide (width k)) (forest_rows k ch n.nodes m) × All (Wide (width k)) (forest_rows k sib p q)) _
    (λ k x y. all_append (Wide (width k)) (own_rows k d p (nodes_in ch) n) (forest_rows k ch n.nodes m ++ forest_rows k sib p q) x
    (all_append (Wide (width k)) (forest_rows k ch n.nodes m) (forest_rows k sib p q) y.0 y.1))
    node_tables (own-wide b (bone_limit above) d p (nodes_in ch) n h.0)
    (all-zip (λ k. All (Wide (width k)) (forest_rows k ch n.nodes m)) (λ k. All (Wide (width k)) (forest_rows k sib p q)) _ (λ k x y. (x, y))
    node_tables (forest-wide l b (bone_limit_below above d) ch n.nodes m h.1) (forest-wide (suc l) b above sib p q h.2))

brushes-wide : (t s : ℕ) (bs : List Brush) → FitSlots s bs → All (FitBrush s t) bs → All (Wide 17) (map brush_row bs)
brushes-wide t s [] h f = tt
brushes-wide t s (b ∷ bs) h f = let le = leb→le s 8 h.1 in (brush-wide t s b le f.0, all_of_map (Wide 17) brush_row bs (all_map (FitBrush s t) _ (λ x g. brush-wide t s x le g) bs f.1))

-- every row of table k has its width
pub rows-wide : (t : Scene) → WellFormed t → All (λ k. All (Wide (width k)) (rows k t)) tables
unfolding tables rows width if node_tables
rows-wide t h = (
  all_of_map (Wide 9) texture_row t.textures (all_map FitTexture _ (λ x f. texture_wide x f) t.textures h.textures),
  (
    brushes-wide (length t.textures) t.slots t.brushes h.slots h.brushes,
    forest-wide levels (length t.brushes) none t.nodes NONE start h.nodes,
  ),
)

-- ---- what lent tables say

-- table k of T is that of t
pub record Holds (T : Lent) (t : Scene) (k : ℕ) : Type 0 where
  pub many : T.count k ≡ length (rows k t)
  pub few : T.count k ≤ row_limit
  pub room : width k * T.count k ≤ length (T.words k)
  pub cells : take (width k * T.count k) (T.words k) ≡ table k t

-- T and the names in ns are those of t
pub record Agree (ns : List ℕ) (T : Lent) (t : Scene) : Type 0 where
  pub version : T.version ≡ t.version
  pub slots : T.slots ≡ t.slots
  pub held : All (Holds T t) tables
  pub named : All (Stands ns) (names t)

holds_rows : (T : Lent) (t : Scene) (k : ℕ) → Holds T t k → All (Wide (width k)) (rows k t) → lent_rows T k ≡ rows k t
unfolding lent_rows table
holds_rows T t k h w =
    let c = width k * T.count k in
    let e : T.words k ≡ joined (rows k t) ++ drop c (T.words k) = sym (take-append-drop c (T.words k)) ∙ ap (λ (l : List ℕ). l ++ drop c (T.words k)) h.cells in
    ap₂ (λ (m : ℕ) (l : List ℕ). cut (width k) m l) h.many e ∙ cut-words (width k) (rows k t) (drop c (T.words k)) w

rows-holds : (T : Lent) (t : Scene) (k : ℕ) → T.count k ≤ row_limit → width k * T.count k ≤ length (T.words k) → rows k t ≡ lent_rows T k → Holds T t k
unfolding lent_rows table
rows-holds T t k few room e =
    record {
      many = sym (cut-length (width k) (T.count k) (T.words k)) ∙ ap length (sym e);
      few = few;
      room = room;
      cells = sym (words-cut (width k) (T.count k) (T.words k)) ∙ ap joined (sym e);
    }

-- ---- put together

pub names-rest : (P : Name → Type 0) (t : Forest) (r : List Name) → All P (node_names t r) → All P r
unfolding node_names
names-rest P no_nodes r h = h
names-rest P (node d ch sib) r h = names-rest P sib r (names-rest P ch (node_names sib r) h.1)

pub flat-known : (ns : List ℕ) (l b : ℕ) (above : Option ℕ) (t : Forest) (p : ℕ) (n : Counts) (r : List Name) (fs : List Placed)
    → FitNodes l b above t → All (Stands ns) (node_names t r) → All (Known ns b) fs → All (Known ns b) (flat p n t fs)
unfolding flat node_names
flat-known ns l b above no_nodes p n r fs h s k = k
flat-known ns zero b above (node d ch sib) p n r fs h s k = absurd h
flat-known ns (suc l) b above (node d ch sib) p n r fs h s k =
    let m = with_node d n in
    let q = with_forest ch m in
    let rest = flat-known ns (suc l) b above sib p q r fs h.2 (names-rest (Stands ns) ch (node_names sib r) s.1) k in
    ((bone_limit above, (h.0, s.0)), flat-known ns l b (bone_limit_below above d) ch n.nodes m (node_names sib r) (flat p q sib fs) h.1 s.1 rest)

start-from : (R : Rows) (t : Forest) → All (λ k. R k ≡ forest_rows k t NONE start) node_tables → All (From R start (flat_rows (flat NONE start t []) start)) node_tables
unfolding node_tables reached start if flat_rows
start-from R t h =
    let go : (k : ℕ) → R k ≡ forest_rows k t NONE start → R k ≡ flat_rows (flat NONE start t []) start k =
    λ k e. e ∙ sym (flat_rows_append k NONE start t [] ∙ append-nil (forest_rows k t NONE start)) in
    (go 3 h.0, (go 4 h.1.0, (go 5 h.1.1.0, (go 6 h.1.1.1.0, (go 7 h.1.1.1.1.0, (go 8 h.1.1.1.1.1.0, (go 9 h.1.1.1.1.1.1.0, (go 10 h.1.1.1.1.1.1.1.0, tt))))))))

tree-back : (t : Forest) → OneRoot t → tree (flat NONE start t []) ≡ t
unfolding tree flat
tree-back no_nodes h = refl
tree-back (node d ch no_nodes) h = tree-flat d ch
tree-back (node d ch (node e x y)) h = absurd h

first : (R : Rows) (t : Forest) → All (λ k. R k ≡ forest_rows k t NONE start) node_tables → R 3 ≡ flat_rows (flat NONE start t []) start 3
unfolding node_tables flat_rows
first R t h = h.0 ∙ sym (flat_rows_append 3 NONE start t [] ∙ append-nil (forest_rows 3 t NONE start))

nodes-back : (ns : List ℕ) (b : ℕ) (R : Rows) (t : Forest) → FitNodes levels b none t → OneRoot t → All (Stands ns) (node_names t [])
    → All (λ k. R k ≡ forest_rows k t NONE start) node_tables → tree (walk ns R (R 3) start) ≡ t
nodes-back ns b R t f s st h =
    let fs = flat NONE start t [] in
    let e : R 3 ≡ flat_rows fs start 3 = first R t h in
    let w = walk-back ns b R fs start (flat-known ns levels b none t NONE start [] [] f st tt) (start-from R t h) in
    rw (e, w) (tree-back t s)

forest-rows : (T : Lent) (t : Scene) → All (λ k. lent_rows T k ≡ rows k t) node_tables → All (λ k. lent_rows T k ≡ forest_rows k t.nodes NONE start) node_tables
unfolding node_tables rows if
forest-rows T t h = h

-- a scene that fits is put together from its own rows
pub together_back : (ns : List ℕ) (T : Lent) (t : Scene) → WellFormed t → T.version ≡ t.version → T.slots ≡ t.slots → All (Stands ns) (names t)
    → All (λ k. lent_rows T k ≡ rows k t) tables → assembled ns T ≡ t
unfolding assembled tables rows names if
together_back ns T t f ev es st h =
    let tn = map (λ (x : Texture). x.name) t.textures in
    let bn = map (λ (x : Brush). x.name) t.brushes in
    let sx = all-from-map (Stands ns) (λ (x : Texture). x.name) t.textures (all_left (Stands ns) tn _ st) in
    let s₂ = all_right (Stands ns) tn _ st in
    let sb = all-from-map (Stands ns) (λ (x : Brush). x.name) t.brushes (all_left (Stands ns) bn _ s₂) in
    let sn = all_right (Stands ns) bn _ s₂ in
    let ex : map (texture_from ns) (lent_rows T 1) ≡ t.textures =
    rw h.0 (map_back texture_row (texture_from ns) t.textures (all_map (λ x. Stands ns x.name) _ (λ x s. texture_back ns x s) t.textures sx)) in
    let ok = FitBrush t.slots (length t.textures) in
    let eb : map (brush_from ns T.slots) (lent_rows T 2) ≡ t.brushes =
    rw (h.1.0, es) (map_back brush_row (brush_from ns t.slots) t.brushes
    (all-zip ok (λ b. Stands ns b.name) _ (λ b g s. brush-back ns (length t.textures) t.slots b g s) t.brushes f.brushes sb)) in
    let en : tree (walk ns (lent_rows T) (lent_rows T 3) start) ≡ t.nodes =
    nodes-back ns (length t.brushes) (lent_rows T) t.nodes f.nodes f.root sn (forest-rows T t h.1.1) in
    λ i. record { version = ev i; textures = ex i; slots = es i; brushes = eb i; nodes = en i }

-- ---- the tests

pub stands-is : (ns : List ℕ) (x : Name) → Tests (stands ns x) (Stands ns x)
unfolding stands
stands-is ns x = both (le_is (x.place + length x.bytes) (length ns)) (same-is (take (length x.bytes) (drop x.place ns)) x.bytes)

pub roomy_is : (T : Lent) (k : ℕ) → Tests (has_counted_rows T k) ((T.count k ≤ row_limit) × (width k * T.count k ≤ length (T.words k)))
unfolding has_counted_rows
roomy_is T k = both (le_is (T.count k) row_limit) (le_is (width k * T.count k) (length (T.words k)))

pub sound-is : (ns : List ℕ) (T : Lent) (t : Scene) → Tests (sound ns T t) (WellFormed t × (All (Stands ns) (names t) × All (λ k. rows k t ≡ lent_rows T k) tables))
unfolding sound
sound-is ns T t = both (fits-is t) (both (all-is (stands-is ns) (names t)) (all-is (λ k. same-rows-is (rows k t) (lent_rows T k)) tables))

-- ---- the two laws

-- the counted rows of T are those of t
pub held_rows : (T : Lent) (t : Scene) → WellFormed t → All (Holds T t) tables → All (λ k. lent_rows T k ≡ rows k t) tables
held_rows T t f h = all-zip (Holds T t) (λ k. All (Wide (width k)) (rows k t)) (λ k. lent_rows T k ≡ rows k t) (λ k a w. holds_rows T t k a w) tables h (rows-wide t f)

pub rebuild-back : (mode : Mode) (ns : List ℕ) (T : Lent) (t : Scene) → WellFormed t → Agree ns T t → True (passes mode (lent_rows T)) → rebuild mode T ns ≡ some t
unfolding rebuild
rebuild-back mode ns T t f a c =
    let er = held_rows T t f a.held in
    let et : assembled ns T ≡ t = together_back ns T t f a.version a.slots a.named er in
    let room = (all-is (roomy_is T) tables).holds (all_map (Holds T t) _ (λ k h. (h.few, h.room)) tables a.held) in
    let ok = (sound-is ns T t).holds (f, (a.named, all_map (λ k. lent_rows T k ≡ rows k t) _ (λ k e. sym e) tables er)) in
    if_yes (all (has_counted_rows T) tables) _ none room
    ∙ ap (λ (x : Scene). if (passes mode (lent_rows T) && sound ns T x) (some x) none) et
    ∙ if_yes (passes mode (lent_rows T) && sound ns T t) (some t) none (yes_and (passes mode (lent_rows T)) (sound ns T t) c ok)

none-some : {A : Type 0} {y : Scene} → ◌≡◌ {A = Option Scene} none (some y) → A
none-some e = let z : ◌≡◌ {A = ℕ} 0 1 = cc in absurd (omega arith)

some_inj : {x y : Scene} → some x ≡ some y → x ≡ y
some_inj e = cc

together_version : (ns : List ℕ) (T : Lent) → T.version ≡ (assembled ns T).version
unfolding assembled
together_version ns T = refl

together_slots : (ns : List ℕ) (T : Lent) → T.slots ≡ (assembled ns T).slots
unfolding assembled
together_slots ns T = refl

fine-at : (ns : List ℕ) (T : Lent) → All (λ k. (T.count k ≤ row_limit) × (width k * T.count k ≤ length (T.words k))) tables
    → WellFormed (assembled ns T) × (All (Stands ns) (names (assembled ns T)) × All (λ k. rows k (assembled ns T) ≡ lent_rows T k) tables) → WellFormed (assembled ns T) × Agree ns T (assembled ns T)
fine-at ns T room h =
    let x = assembled ns T in (
      h.0,
      record {
        version = together_version ns T;
        slots = together_slots ns T;
        held = all-zip (λ k. (T.count k ≤ row_limit) × (width k * T.count k ≤ length (T.words k))) (λ k. rows k x ≡ lent_rows T k) (Holds T x) (λ k r e. rows-holds T x k r.0 r.1 e) tables room h.1.1;
        named = h.1.0;
      },
    )

pub rebuild-fine : (mode : Mode) (ns : List ℕ) (T : Lent) (t : Scene) → rebuild mode T ns ≡ some t → WellFormed t × Agree ns T t × True (passes mode (lent_rows T))
unfolding rebuild
rebuild-fine mode ns T t e =
    let x = assembled ns T in
    let c = passes mode (lent_rows T) && sound ns T x in
    by_test (all (has_counted_rows T) tables)
    (λ y. let e₁ = sym (if_yes (all (has_counted_rows T) tables) (if c (some x) none) none y) ∙ e in
    let room = (all-is (roomy_is T) tables).says y in
    by_test c
    (λ z. let q : x ≡ t = some_inj (sym (if_yes c (some x) none z) ∙ e₁) in
    let (a, b) = and_yes (passes mode (lent_rows T)) (sound ns T x) z in
    let f = subst (λ (u : Scene). WellFormed u × Agree ns T u) q (fine-at ns T room ((sound-is ns T x).says b)) in
    (f.0, f.1, a))
    (λ z. none-some (sym (if_no c (some x) none z) ∙ e₁)))
    (λ y. none-some (sym (if_no (all (has_counted_rows T) tables) (if c (some x) none) none y) ∙ e))
