-- Names aside: what the tables of a scene are when its names change, and that the cells but name places and lengths settle the rest.
use mathlib.Core.Path.{◌≡◌, refl, ap, ap₂, sym, ◌∙◌}
use Prim.Native.Nat.{ℕ}
use native.Mathlib.Omega.{arith}
use mathlib.Core.Bool.{Bool, true, false}
use mathlib.Core.List.{List, [], ◌∷◌, ◌++◌, map, append-nil}
use lib.ListN.{length, drop}
use lib.Dec.{leb}
use Rattle.wire.specs.Test.{if}
use Rattle.layout.specs.Parts.{Name}
use Rattle.layout.specs.Rules.{NONE}
use Rattle.layout.proofs.AllLaws.{All, all_pure, all_map, all-zip, all_append, all_of_map}
use Rattle.layout.specs.Rows.{name_cells, joined}
use Rattle.b3d_spec.specs.Names.{rename_texture, rename_brush, rename_data, rename_forest, rename, bare_name, no_name, without_places, cleared, named, unplaced, unnamed, name_off}
use Rattle.b3d_spec.specs.Rebuild.{Lent, cut, lent_rows, node_names, names}
use Rattle.b3d_spec.specs.Scene.{Texture, Brush, Data, Forest, no_nodes, node, Scene}
use Rattle.b3d_spec.specs.Tables.{width, start, texture_row, brush_row, node_row, own_rows, with_node, with_forest, forest_rows, rows, table, node_tables, tables, nodes_in}
use Rattle.b3d_spec.specs.declared.Counts.{Counts}
use Rattle.b3d_spec.proofs.WellFormedLaws.{WellFormed}
use Rattle.b3d_spec.proofs.Rows.RebuildLaws.{rows-wide, together_back}
use Rattle.b3d_spec.proofs.Rows.RowListLaws.{cut-words}
use Rattle.b3d_spec.proofs.Rows.RowPartLaws.{Wide, Stands}
use Rattle.b3d_spec.proofs.Files.NameLaws.{cleared-fits}

-- ---- rows

module _ (g : List ℕ → List ℕ) where
  map-append : (a b : List (List ℕ)) → map g (a ++ b) ≡ map g a ++ map g b
  map-append [] b = refl
  map-append (x ∷ a) b = ap (λ (l : List (List ℕ)). g x ∷ l) (map-append a b)

  named-append : (k : ℕ) (a b : List (List ℕ)) → named g k (a ++ b) ≡ named g k a ++ named g k b
  unfolding named if
  named-append k a b = go (leb k 3)
    where
      go : (c : Bool) → if c (map g (a ++ b)) (a ++ b) ≡ if c (map g a) a ++ if c (map g b) b
      go true = map-append a b
      go false = refl

  named-nil : (k : ℕ) → [] ≡ named g k []
  unfolding named if
  named-nil k = go (leb k 3)
    where
      go : (c : Bool) → ◌≡◌ {A = List (List ℕ)} [] (if c (map g []) [])
      go true = refl
      go false = refl

-- g does to a row what f does to its name
module _ (f : Name → Name) (g : List ℕ → List ℕ) (law : (n : Name) (r : List ℕ) → name_cells (f n) ++ r ≡ g (name_cells n ++ r)) where
  same_counts : (t : Forest) (n : Counts) → with_forest (rename_forest f t) n ≡ with_forest t n
  unfolding with_forest with_node
  same_counts no_nodes n = refl
  same_counts (node d ch sib) n = ap (with_forest (rename_forest f sib)) (same_counts ch (with_node d n)) ∙ same_counts sib (with_forest ch (with_node d n))

  same_nodes : (t : Forest) → nodes_in (rename_forest f t) ≡ nodes_in t
  unfolding nodes_in
  same_nodes no_nodes = refl
  same_nodes (node d ch sib) = omega (arith, same_nodes ch, same_nodes sib)

  own_renamed : (d : Data) (p below : ℕ) (n : Counts) → All (λ k. own_rows k (rename_data f d) p below n ≡ named g k (own_rows k d p below n)) node_tables
  unfolding node_tables own_rows named if node_row
  own_renamed d p below n = (ap (λ (r : List ℕ). r ∷ []) (law d.name _), (refl, (refl, (refl, (refl, (refl, (refl, (refl, tt))))))))

  same_node : (d : Data) (n : Counts) → with_node (rename_data f d) n ≡ with_node d n
  unfolding with_node
  same_node d n = refl

  forest_renamed : (t : Forest) (p : ℕ) (n : Counts) → All (λ k. forest_rows k (rename_forest f t) p n ≡ named g k (forest_rows k t p n)) node_tables
  unfolding forest_rows
  forest_renamed no_nodes p n = all_pure (λ k. [] ≡ named g k []) (named-nil g) node_tables
  forest_renamed (node d ch sib) p n =
      let m = with_node d n in
      let q = with_forest ch m in
      let e = same_node d n in
      all-zip (λ k. own_rows k (rename_data f d) p (nodes_in ch) n ≡ named g k (own_rows k d p (nodes_in ch) n))
      (λ k. (forest_rows k (rename_forest f ch) n.nodes m ≡ named g k (forest_rows k ch n.nodes m)) × (forest_rows k (rename_forest f sib) p q ≡ named g k (forest_rows k sib p q))) _
      (λ k a r.
      let x = forest_rows k ch n.nodes m in
      let y = forest_rows k sib p q in
      let c₁ : forest_rows k (rename_forest f ch) n.nodes (with_node (rename_data f d) n) ≡ named g k x = ap (forest_rows k (rename_forest f ch) n.nodes) e ∙ r.0 in
      let c₂ : forest_rows k (rename_forest f sib) p (with_forest (rename_forest f ch) (with_node (rename_data f d) n)) ≡ named g k y =
      ap (forest_rows k (rename_forest f sib) p) (ap (with_forest (rename_forest f ch)) e ∙ same_counts ch m) ∙ r.1 in
      ap (λ (j : ℕ). own_rows k (rename_data f d) p j n ++ (forest_rows k (rename_forest f ch) n.nodes (with_node (rename_data f d) n) ++ forest_rows k (rename_forest f sib) p (with_forest (rename_forest f ch) (with_node (rename_data f d) n)))) (same_nodes ch)
      ∙ ap₂ ◌++◌ a (ap₂ ◌++◌ c₁ c₂)
      ∙ sym (named-append g k (own_rows k d p (nodes_in ch) n) (x ++ y) ∙ ap (λ (l : List (List ℕ)). named g k (own_rows k d p (nodes_in ch) n) ++ l) (named-append g k x y)))
      node_tables (own_renamed d p (nodes_in ch) n)
      (all-zip (λ k. forest_rows k (rename_forest f ch) n.nodes m ≡ named g k (forest_rows k ch n.nodes m)) (λ k. forest_rows k (rename_forest f sib) p q ≡ named g k (forest_rows k sib p q)) _
      (λ k x y. (x, y)) node_tables (forest_renamed ch n.nodes m) (forest_renamed sib p q))

  map_renamed : {A : Type 0} (row : A → List ℕ) (h : A → A) → ((x : A) → row (h x) ≡ g (row x)) → (xs : List A) → map row (map h xs) ≡ map g (map row xs)
  map_renamed row h e [] = refl
  map_renamed row h e (x ∷ xs) = ap₂ ◌∷◌ (e x) (map_renamed row h e xs)

  texture_renamed : (x : Texture) → texture_row (rename_texture f x) ≡ g (texture_row x)
  unfolding texture_row
  texture_renamed x = law x.name x.words

  brush_renamed : (b : Brush) → brush_row (rename_brush f b) ≡ g (brush_row b)
  unfolding brush_row
  brush_renamed b = law b.name _

  pub renamed_rows : (t : Scene) → All (λ k. rows k (rename f t) ≡ named g k (rows k t)) tables
  unfolding tables rows rename named if node_tables
  renamed_rows t =
      (map_renamed texture_row (rename_texture f) texture_renamed t.textures, (map_renamed brush_row (rename_brush f) brush_renamed t.brushes, forest_renamed t.nodes NONE start))

pub bare_rows : (t : Scene) → All (λ k. rows k (without_places t) ≡ named unplaced k (rows k t)) tables
unfolding without_places unplaced name_cells
bare_rows t = renamed_rows bare_name unplaced (λ n r. refl) t

pub cleared-rows : (t : Scene) → All (λ k. rows k (cleared t) ≡ named unnamed k (rows k t)) tables
unfolding cleared unnamed name_cells
cleared-rows t = renamed_rows no_name unnamed (λ n r. refl) t

-- the same scene but for name places: the same cells but for those
pub bare_same : (t u : Scene) → without_places t ≡ without_places u → All (λ k. named unplaced k (rows k t) ≡ named unplaced k (rows k u)) tables
bare_same t u e =
    all-zip (λ k. rows k (without_places t) ≡ named unplaced k (rows k t)) (λ k. rows k (without_places u) ≡ named unplaced k (rows k u)) _
    (λ k a b. sym a ∙ ap (rows k) e ∙ b) tables (bare_rows t) (bare_rows u)

-- ---- empty names stand anywhere

empty_stands : (ns : List ℕ) (n : Name) → Stands ns (no_name n)
empty_stands ns n = (omega arith, refl)

nodes-stand : (ns : List ℕ) (t : Forest) (r : List Name) → All (Stands ns) r → All (Stands ns) (node_names (rename_forest no_name t) r)
unfolding node_names
nodes-stand ns no_nodes r h = h
nodes-stand ns (node d ch sib) r h = (empty_stands ns d.name, nodes-stand ns ch (node_names (rename_forest no_name sib) r) (nodes-stand ns sib r h))

pub cleared-stands : (ns : List ℕ) (t : Scene) → All (Stands ns) (names (cleared t))
unfolding names cleared rename
cleared-stands ns t =
    all_append (Stands ns) (map (λ (x : Texture). x.name) (map (rename_texture no_name) t.textures)) _
    (all_of_map (Stands ns) (λ (x : Texture). x.name) (map (rename_texture no_name) t.textures)
    (all_of_map (λ (x : Texture). Stands ns x.name) (rename_texture no_name) t.textures (all_pure _ (λ x. empty_stands ns x.name) t.textures)))
    (all_append (Stands ns) (map (λ (x : Brush). x.name) (map (rename_brush no_name) t.brushes)) _
    (all_of_map (Stands ns) (λ (x : Brush). x.name) (map (rename_brush no_name) t.brushes)
    (all_of_map (λ (x : Brush). Stands ns x.name) (rename_brush no_name) t.brushes (all_pure _ (λ x. empty_stands ns x.name) t.brushes)))
    (nodes-stand ns t.nodes [] tt))

-- ---- the cells settle the scene

-- the tables of t, lent
unfoldable pub lent_of : Scene → Lent
lent_of t = record { version = t.version; slots = t.slots; count = λ k. length (rows k t); words = λ k. table k t }

own-rows : (t : Scene) → WellFormed t → All (λ k. lent_rows (lent_of t) k ≡ rows k t) tables
unfolding lent_rows lent_of table
own-rows t f =
    all_map (λ k. All (Wide (width k)) (rows k t)) (λ k. cut (width k) (length (rows k t)) (joined (rows k t)) ≡ rows k t)
    (λ k w. ap (cut (width k) (length (rows k t))) (sym (append-nil (joined (rows k t)))) ∙ cut-words (width k) (rows k t) [] w) tables (rows-wide t f)

pub own-version : (t : Scene) → (lent_of t).version ≡ t.version
unfolding lent_of
own-version t = refl

pub own-slots : (t : Scene) → (lent_of t).slots ≡ t.slots
unfolding lent_of
own-slots t = refl

-- scenes that fit, with the same tables and names in the same bytes, are the same
pub same_tables : (ns : List ℕ) (t u : Scene) → WellFormed t → WellFormed u → t.version ≡ u.version → t.slots ≡ u.slots → All (Stands ns) (names t) → All (Stands ns) (names u)
    → All (λ k. rows k t ≡ rows k u) tables → t ≡ u
same_tables ns t u ft fu ev es st su e =
    sym (together_back ns (lent_of t) t ft (own-version t) (own-slots t) st (own-rows t ft))
    ∙ together_back ns (lent_of t) u fu (own-version t ∙ ev) (own-slots t ∙ es) su
    (all-zip (λ k. lent_rows (lent_of t) k ≡ rows k t) (λ k. rows k t ≡ rows k u) (λ k. lent_rows (lent_of t) k ≡ rows k u) (λ k a b. a ∙ b) tables (own-rows t ft) e)

cleared-version : (t u : Scene) → t.version ≡ u.version → (cleared t).version ≡ (cleared u).version
unfolding cleared rename
cleared-version t u e = e

cleared-slots : (t u : Scene) → t.slots ≡ u.slots → (cleared t).slots ≡ (cleared u).slots
unfolding cleared rename
cleared-slots t u e = e

off-same : (k : ℕ) (a b : List (List ℕ)) → named name_off k a ≡ named name_off k b → named unnamed k a ≡ named unnamed k b
unfolding named name_off unnamed if
off-same k a b e = go (leb k 3) e
  where
    again : (l : List (List ℕ)) → map (λ (r : List ℕ). 0 ∷ 0 ∷ r) (map (λ (r : List ℕ). drop 2 r) l) ≡ map (λ (r : List ℕ). 0 ∷ 0 ∷ drop 2 r) l
    again [] = refl
    again (x ∷ l) = ap (λ (z : List (List ℕ)). (0 ∷ 0 ∷ drop 2 x) ∷ z) (again l)

    go : (c : Bool) → if c (map (λ (r : List ℕ). drop 2 r) a) a ≡ if c (map (λ (r : List ℕ). drop 2 r) b) b → if c (map (λ (r : List ℕ). 0 ∷ 0 ∷ drop 2 r) a) a ≡ if c (map (λ (r : List ℕ). 0 ∷ 0 ∷ drop 2 r) b) b
    go true h = sym (again a) ∙ ap (map (λ (r : List ℕ). 0 ∷ 0 ∷ r)) h ∙ again b
    go false h = h

-- equal cells but for name places and lengths: the same scene without names
pub same-cells : (t u : Scene) → WellFormed t → WellFormed u → t.version ≡ u.version → t.slots ≡ u.slots
    → All (λ k. named name_off k (rows k t) ≡ named name_off k (rows k u)) tables → cleared t ≡ cleared u
same-cells t u ft fu ev es h =
    same_tables [] (cleared t) (cleared u) (cleared-fits t ft) (cleared-fits u fu) (cleared-version t u ev) (cleared-slots t u es) (cleared-stands [] t) (cleared-stands [] u)
    (all-zip (λ k. rows k (cleared t) ≡ named unnamed k (rows k t)) (λ k. named unnamed k (rows k t) ≡ rows k (cleared u)) (λ k. rows k (cleared t) ≡ rows k (cleared u)) (λ k a b. a ∙ b) tables (cleared-rows t)
    (all-zip (λ k. named name_off k (rows k t) ≡ named name_off k (rows k u)) (λ k. rows k (cleared u) ≡ named unnamed k (rows k u)) (λ k. named unnamed k (rows k t) ≡ rows k (cleared u))
    (λ k p a. off-same k (rows k t) (rows k u) p ∙ sym a) tables h (cleared-rows u)))
