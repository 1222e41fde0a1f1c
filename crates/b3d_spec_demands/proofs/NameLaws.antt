-- The names of a scene's rows, by their bytes: they do not depend on where the names stand.
use mathlib.Core.Path.{◌≡◌, refl, ap, ap₂, sym, ◌∙◌}
use Prim.Native.Nat.{ℕ}
use mathlib.Core.Option.{Option, some}
use mathlib.Core.List.{List, [], ◌∷◌, ◌++◌, map, append-nil, append_assoc}
use Rattle.wire.specs.Test.{if}
use Rattle.layout.specs.Parts.{Name}
use Rattle.layout.specs.Rules.{NONE}
use Rattle.layout.proofs.AllLaws.{All, all-from-map, all_left, all_right}
use Rattle.layout.specs.Rows.{name_cells}
use Rattle.b3d_spec.specs.declared.Counts.{Counts}
use Rattle.b3d_spec.specs.Names.{rename_texture, rename_brush, rename_forest, rename, bare_name, without_places}
use Rattle.b3d_spec.specs.Rebuild.{node_names, names}
use Rattle.b3d_spec.specs.Scene.{Texture, Brush, Forest, no_nodes, node, Scene}
use Rattle.b3d_spec.specs.Tables.{start, texture_row, brush_row, node_row, own_rows, with_node, with_forest, forest_rows, rows, tables, node_tables}
use Rattle.b3d_spec.proofs.Rows.RebuildLaws.{names-rest}
use Rattle.b3d_spec.proofs.Rows.RowPartLaws.{Stands}
use Rattle.b3d_spec_demands.specs.Having.{name_of, names_of}
use Rattle.b3d_spec_demands.proofs.NamePlaceLaws.{name-stands}

abbrev bytes_of : Name → Option (List ℕ)
bytes_of n = some n.bytes

map-append : {A C : Type 0} (f : A → C) (a b : List A) → map f (a ++ b) ≡ map f a ++ map f b
map-append f [] b = refl
map-append f (x ∷ a) b = ap (λ (l : List _). f x ∷ l) (map-append f a b)

-- a list of parts whose rows begin with a name; `put` changes no name's bytes
module _ {A : Type 0} (name : A → Name) (row r : A → List ℕ) (begins : (x : A) → row x ≡ name_cells (name x) ++ r x) where
  list-names : (ns : List ℕ) (xs : List A) → All (λ x. Stands ns (name x)) xs → map (name_of ns) (map row xs) ≡ map (λ (x : A). bytes_of (name x)) xs
  list-names ns [] h = refl
  list-names ns (x ∷ xs) h = ap₂ ◌∷◌ (ap (name_of ns) (begins x) ∙ name-stands ns (name x) (r x) h.0) (list-names ns xs h.1)

  list_bare : (put : A → A) → ((x : A) → bytes_of (name (put x)) ≡ bytes_of (name x)) → (xs : List A) → map (λ (x : A). bytes_of (name x)) (map put xs) ≡ map (λ (x : A). bytes_of (name x)) xs
  list_bare put e [] = refl
  list_bare put e (x ∷ xs) = ap₂ ◌∷◌ (e x) (list_bare put e xs)

-- the nodes of a forest, before the names r
forest-names : (ns : List ℕ) (t : Forest) (p : ℕ) (n : Counts) (r : List Name) → All (Stands ns) (node_names t r) → map (name_of ns) (forest_rows 3 t p n) ++ map bytes_of r ≡ map bytes_of (node_names t r)
unfolding forest_rows node_names own_rows if node_row
forest-names ns no_nodes p n r h = refl
forest-names ns (node d ch sib) p n r h =
    let m = with_node d n in
    let q = with_forest ch m in
    let c = forest_rows 3 ch n.nodes m in
    let b = forest_rows 3 sib p q in
    ap₂ ◌∷◌ (name-stands ns d.name _ h.0)
    (ap (λ (l : List (Option (List ℕ))). l ++ map bytes_of r) (map-append (name_of ns) c b) ∙ append_assoc (map (name_of ns) c) (map (name_of ns) b) (map bytes_of r)
    ∙ ap (λ (l : List (Option (List ℕ))). map (name_of ns) c ++ l) (forest-names ns sib p q r (names-rest (Stands ns) ch (node_names sib r) h.1))
    ∙ forest-names ns ch n.nodes m (node_names sib r) h.1)

forest_bare : (t : Forest) (r u : List Name) → map bytes_of r ≡ map bytes_of u → map bytes_of (node_names (rename_forest bare_name t) r) ≡ map bytes_of (node_names t u)
unfolding node_names
forest_bare no_nodes r u e = e
forest_bare (node d ch sib) r u e = ap (λ (l : List (Option (List ℕ))). some d.name.bytes ∷ l) (forest_bare ch _ _ (forest_bare sib r u e))

-- scenes that differ in name places alone have the same names
pub same_names : (s ns : List ℕ) (t u : Scene) → without_places t ≡ without_places u → All (Stands s) (names t) → All (Stands ns) (names u) → All (λ k. names_of s k (rows k t) ≡ names_of ns k (rows k u)) tables
unfolding tables node_tables rows names_of if names without_places rename texture_row brush_row
same_names s ns t u e ht hu =
    let textures : (v : Scene) → map (λ (x : Texture). bytes_of x.name) (map (rename_texture bare_name) v.textures) ≡ map (λ (x : Texture). bytes_of x.name) v.textures =
    λ v. list_bare (λ (x : Texture). x.name) texture_row (λ x. x.words) (λ x. refl) (rename_texture bare_name) (λ x. refl) v.textures in
    let brushes : (v : Scene) → map (λ (x : Brush). bytes_of x.name) (map (rename_brush bare_name) v.brushes) ≡ map (λ (x : Brush). bytes_of x.name) v.brushes =
    λ v. list_bare (λ (x : Brush). x.name) brush_row _ (λ x. refl) (rename_brush bare_name) (λ x. refl) v.brushes in
    let of-textures : (z : List ℕ) (v : Scene) → All (Stands z) (names v) → map (name_of z) (map texture_row v.textures) ≡ map (λ (x : Texture). bytes_of x.name) v.textures =
    λ z v h. list-names (λ (x : Texture). x.name) texture_row (λ x. x.words) (λ x. refl) z v.textures
    (all-from-map (Stands z) (λ (x : Texture). x.name) v.textures (all_left (Stands z) (map (λ (x : Texture). x.name) v.textures) _ h)) in
    let others : (z : List ℕ) (v : Scene) → All (Stands z) (names v) → All (Stands z) (map (λ (x : Brush). x.name) v.brushes ++ node_names v.nodes []) =
    λ z v h. all_right (Stands z) (map (λ (x : Texture). x.name) v.textures) _ h in
    let of-brushes : (z : List ℕ) (v : Scene) → All (Stands z) (names v) → map (name_of z) (map brush_row v.brushes) ≡ map (λ (x : Brush). bytes_of x.name) v.brushes =
    λ z v h. list-names (λ (x : Brush). x.name) brush_row _ (λ x. refl) z v.brushes
    (all-from-map (Stands z) (λ (x : Brush). x.name) v.brushes (all_left (Stands z) (map (λ (x : Brush). x.name) v.brushes) _ (others z v h))) in
    let of-nodes : (z : List ℕ) (v : Scene) → All (Stands z) (names v) → map (name_of z) (forest_rows 3 v.nodes NONE start) ≡ map bytes_of (node_names v.nodes []) =
    λ z v h. sym (append-nil (map (name_of z) (forest_rows 3 v.nodes NONE start))) ∙ forest-names z v.nodes NONE start [] (all_right (Stands z) (map (λ (x : Brush). x.name) v.brushes) _ (others z v h)) in (
      of-textures s t ht ∙ sym (textures t) ∙ ap (λ (v : Scene). map (λ (x : Texture). bytes_of x.name) v.textures) e ∙ textures u ∙ sym (of-textures ns u hu),
      (
        of-brushes s t ht ∙ sym (brushes t) ∙ ap (λ (v : Scene). map (λ (x : Brush). bytes_of x.name) v.brushes) e ∙ brushes u ∙ sym (of-brushes ns u hu),
        (
          of-nodes s t ht ∙ sym (forest_bare t.nodes [] [] refl) ∙ ap (λ (v : Scene). map bytes_of (node_names v.nodes [])) e ∙ forest_bare u.nodes [] [] refl ∙ sym (of-nodes ns u hu),
          (refl, (refl, (refl, (refl, (refl, (refl, (refl, tt))))))),
        ),
      ),
    )
