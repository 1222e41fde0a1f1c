-- The texts of an accepted file's rows are its names.
use mathlib.Core.Path.{◌≡◌, refl, ap, ap₂, sym, ◌∙◌}
use Prim.Native.Nat.{ℕ}
use mathlib.Core.List.{List, [], ◌∷◌, ◌++◌, map, append_assoc, append-nil}
use Rattle.wire.specs.Test.{if}
use Rattle.layout.specs.Result.{accept}
use Rattle.layout.specs.Parts.{Name}
use Rattle.layout.specs.Rows.{name_cells}
use Rattle.layout.specs.Rules.{NONE}
use Rattle.layout.proofs.AllLaws.{All, all_map, all_left, all_right, all-from-map}
use Rattle.layout.proofs.PlaceLaws.{NameIn}
use Rattle.b3d_spec.specs.declared.Counts.{Counts}
use Rattle.b3d_spec.specs.declared.Mode.TheVariants.{Lenient}
use Rattle.b3d_spec.specs.Answers.{judge}
use Rattle.b3d_spec.specs.Fitting.{Stands}
use Rattle.b3d_spec.specs.Rebuild.{name_from, node_names, names}
use Rattle.b3d_spec.specs.Scene.{Texture, Brush, Forest, no_nodes, node, Scene}
use Rattle.b3d_spec.specs.Tables.{start, texture_row, brush_row, node_row, own_rows, with_node, with_forest, forest_rows, rows}
use Rattle.b3d_spec.proofs.AnswerLaws.{judge_got}
use Rattle.b3d_spec.proofs.FileTableLaws.{stand, all_in}
use Rattle.b3d_spec.proofs.Laws.{names_stand}

pub map-append : {A B : Type 0} (f : A → B) (l m : List A) → map f (l ++ m) ≡ map f l ++ map f m
map-append f [] m = refl
map-append f (a ∷ l) m = ap (λ (r : List _). f a ∷ r) (map-append f l m)

module _ (s : List ℕ) where
  -- a row that begins with a name's place and length
  name_back : (n : Name) (r : List ℕ) → Stands s n → name_from s (name_cells n ++ r) ≡ n
  unfolding name_from name_cells
  name_back n r h = rw h.1

  textures-back : (l : List Texture) → All (λ x. Stands s x.name) l → map (name_from s) (map texture_row l) ≡ map (λ (x : Texture). x.name) l
  unfolding texture_row
  textures-back [] h = refl
  textures-back (x ∷ l) h = ap₂ ◌∷◌ (name_back x.name _ h.0) (textures-back l h.1)

  brushes-back : (l : List Brush) → All (λ x. Stands s x.name) l → map (name_from s) (map brush_row l) ≡ map (λ (x : Brush). x.name) l
  unfolding brush_row
  brushes-back [] h = refl
  brushes-back (x ∷ l) h = ap₂ ◌∷◌ (name_back x.name _ h.0) (brushes-back l h.1)

  rest-stands : (f : Forest) (r : List Name) → All (Stands s) (node_names f r) → All (Stands s) r
  unfolding node_names
  rest-stands no_nodes r h = h
  rest-stands (node d ch sib) r h = rest-stands sib r (rest-stands ch (node_names sib r) h.1)

  nodes-back : (f : Forest) (p : ℕ) (n : Counts) (r : List Name) → All (Stands s) (node_names f r) → map (name_from s) (forest_rows 3 f p n) ++ r ≡ node_names f r
  unfolding node_names forest_rows own_rows node_row if
  nodes-back no_nodes p n r h = refl
  nodes-back (node d ch sib) p n r h =
      let m = with_node d n in
      let a = forest_rows 3 ch n.nodes m in
      let b = forest_rows 3 sib p (with_forest ch m) in
      ap₂ ◌∷◌ (name_back d.name _ h.0)
      (ap (λ (l : List Name). l ++ r) (map-append (name_from s) a b) ∙ append_assoc (map (name_from s) a) (map (name_from s) b) r
      ∙ ap (λ (l : List Name). map (name_from s) a ++ l) (nodes-back sib p (with_forest ch m) r (rest-stands ch (node_names sib r) h.1))
      ∙ nodes-back ch n.nodes m (node_names sib r) h.1)

  pub names-told : (t : Scene) → judge Lenient s ≡ accept t → map (name_from s) (rows 1 t ++ (rows 2 t ++ rows 3 t)) ≡ names t
  unfolding names rows if
  names-told t e =
      let all = all_map (NameIn s) (Stands s) (stand s) (names t) (all_in s t (names_stand Lenient s t (judge_got Lenient s t e).0)) in
      let ts = map (λ (x : Texture). x.name) t.textures in
      let bs = map (λ (x : Brush). x.name) t.brushes in
      let rest = all_right (Stands s) ts (bs ++ node_names t.nodes []) all in
      map-append (name_from s) (rows 1 t) (rows 2 t ++ rows 3 t)
      ∙ ap₂ ◌++◌ (textures-back t.textures (all-from-map (Stands s) (λ (x : Texture). x.name) t.textures (all_left (Stands s) ts (bs ++ node_names t.nodes []) all)))
      (map-append (name_from s) (rows 2 t) (rows 3 t)
      ∙ ap₂ ◌++◌ (brushes-back t.brushes (all-from-map (Stands s) (λ (x : Brush). x.name) t.brushes (all_left (Stands s) bs (node_names t.nodes []) rest)))
      (sym (append-nil (map (name_from s) (rows 3 t))) ∙ nodes-back t.nodes NONE start [] (all_right (Stands s) bs (node_names t.nodes []) rest)))
