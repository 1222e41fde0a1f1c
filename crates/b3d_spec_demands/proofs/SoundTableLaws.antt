-- Tables that an accepted file has are sound: they are put together to that file's scene, name places aside.
use mathlib.Core.Path.{◌≡◌, refl, ap, ap₂, sym, ◌∙◌, subst}
use Prim.Native.Nat.{ℕ, zero, suc, ◌+◌, ◌*◌, ◌≤◌, ◌<◌}
use native.Mathlib.Omega.{arith}
use mathlib.Core.Bool.{Bool, true, false, ◌&&◌}
use mathlib.Core.Option.{none, some}
use mathlib.Core.List.{List, [], ◌∷◌, ◌++◌, map, append-nil}
use lib.ListN.{length, drop, get_or, length-drop, length-map}
use lib.Seq.{length-take-le}
use lib.Dec.{T as True, leb}
use mir.Facts.{yes_and}
use Rattle.wire.specs.Bytes.{AllBytes}
use Rattle.wire.specs.Test.{if}
use Rattle.layout.specs.WellFormed.{all}
use Rattle.layout.specs.Result.{accept}
use Rattle.layout.specs.Rules.{NONE}
use Rattle.layout.proofs.AllLaws.{All, all_map, all-zip, all_append, all_left, all_right, all_of_map, all-from-map, cons_head, cons_tail}
use Rattle.layout.proofs.ResultLaws.{if_yes}
use Rattle.layout.proofs.TestLaws.{all-is}
use Rattle.b3d_spec.specs.Names.{rename_texture, rename_brush, rename_forest, rename, bare_name, without_places, named, unplaced}
use Rattle.b3d_spec.specs.Colours.{passes}
use Rattle.b3d_spec.specs.declared.Mode.{Mode}
use Rattle.b3d_spec.specs.declared.Mode.TheVariants.{Lenient}
use Rattle.b3d_spec.specs.Parse.{parse}
use Rattle.b3d_spec.specs.Rebuild.{Lent, cut, lent_rows, has_counted_rows, assembled, node_names, names, sound, rebuild}
use Rattle.b3d_spec.specs.Rules.{row_limit, levels}
use Rattle.b3d_spec.specs.Scene.{Texture, Brush, Forest, no_nodes, node, Scene}
use Rattle.b3d_spec.specs.Tables.{width, start, texture_row, brush_row, forest_rows, rows, tables, node_tables, part_tables}
use Rattle.b3d_spec.proofs.AnswerLaws.{judge_got}
use Rattle.b3d_spec.proofs.Files.FileLaws.{parse-fine}
use Rattle.b3d_spec.proofs.Files.PlaceLaws.{parse_names}
use Rattle.b3d_spec.proofs.WellFormedLaws.{FitTexture, FitBrush, FitSlots, FitNodes, OneRoot, WellFormed}
use Rattle.b3d_spec.proofs.TwoModeLaws.{mode_got, passes_same}
use Rattle.b3d_spec.proofs.FileTableLaws.{stand, all_in}
use Rattle.layout.proofs.PlaceLaws.{NameIn}
use Rattle.layout.proofs.ListLaws.{same_length}
use Rattle.layout.specs.Rows.{name_cells}
use Rattle.b3d_spec.proofs.Rows.RebuildLaws.{together_back, roomy_is, sound-is}
use Rattle.b3d_spec.proofs.Rows.RenameLaws.{bare_same}
use Rattle.b3d_spec.proofs.Rows.RowListLaws.{cut-length}
use Rattle.b3d_spec.proofs.Rows.RowPartLaws.{Stands}
use Rattle.b3d_spec_demands.specs.Having.{name_of, names_of, Has}
use Rattle.b3d_spec_demands.proofs.NamePlaceLaws.{Alikes, PlacedList, place-list, PlacedForest, place-forest}

-- ---- rows alike

cut-wide : (w c : ℕ) (ws : List ℕ) → w * c ≤ length ws → All (λ (r : List ℕ). length r ≡ w) (cut w c ws)
unfolding cut
cut-wide w zero ws le = tt
cut-wide w (suc c) ws le =
    let e : w * suc c ≡ w + w * c = omega arith in
    (length-take-le w ws (omega arith), cut-wide w c (drop w ws) (omega (arith, length-drop w ws)))

first_cell : (y : List ℕ) → 0 < length y → y ≡ get_or y 0 0 ∷ drop 1 y
first_cell [] h = absurd (omega arith)
first_cell (x ∷ y) h = refl

-- as many rows, whatever is done to their names
pub named-length : (g : List ℕ → List ℕ) (k : ℕ) (l : List (List ℕ)) → length (named g k l) ≡ length l
unfolding named if
named-length g k l = by (leb k 3)
  where
    by : (c : Bool) → length (if c (map g l) l) ≡ length l
    by true = length-map l g
    by false = refl

-- rows that are the same but for name places are as many
pub same-many : (k : ℕ) (a b : List (List ℕ)) → named unplaced k a ≡ named unplaced k b → length a ≡ length b
same-many k a b e = sym (named-length unplaced k a) ∙ ap length e ∙ named-length unplaced k b

module _ (s ns : List ℕ) where
  alikes : (xs ys : List (List ℕ)) → map unplaced xs ≡ map unplaced ys → map (name_of s) xs ≡ map (name_of ns) ys → All (λ (y : List ℕ). 0 < length y) ys → Alikes s ns xs ys
  unfolding unplaced
  alikes [] [] c n h = tt
  alikes [] (y ∷ ys) c n h = let z : ◌≡◌ {A = ℕ} 0 (suc (length (map unplaced ys))) = ap length c in absurd (omega arith)
  alikes (x ∷ xs) [] c n h = let z : ◌≡◌ {A = ℕ} (suc (length (map unplaced xs))) 0 = ap length c in absurd (omega arith)
  alikes (x ∷ xs) (y ∷ ys) c n h =
      (record { cells = ap (drop 1) (cons_head c); some_cell = first_cell y h.0; name = cons_head n }, alikes xs ys (cons_tail c) (cons_tail n) h.1)

  -- the rows of table k, one of 1 to 3
  lent_alike : (T : Lent) (t : Scene) (k : ℕ) → 0 < width k → width k * T.count k ≤ length (T.words k)
      → map unplaced (rows k t) ≡ map unplaced (lent_rows T k) → map (name_of s) (rows k t) ≡ map (name_of ns) (lent_rows T k) → Alikes s ns (rows k t) (lent_rows T k)
  unfolding lent_rows
  lent_alike T t k w le c n =
      alikes (rows k t) (lent_rows T k) c n
      (all_map (λ (r : List ℕ). length r ≡ width k) (λ r. 0 < length r) (λ r e. omega arith) (lent_rows T k) (cut-wide (width k) (T.count k) (T.words k) le))

-- ---- one root

named-root : (t : Forest) → OneRoot t → OneRoot (rename_forest bare_name t)
named-root no_nodes h = tt
named-root (node d f no_nodes) h = tt
named-root (node d f (node e g i)) h = absurd h

root-named : (t : Forest) → OneRoot (rename_forest bare_name t) → OneRoot t
root-named no_nodes h = tt
root-named (node d f no_nodes) h = tt
root-named (node d f (node e g i)) h = absurd h

-- ---- the scene of the lent tables

abbrev put_texture : ℕ → Texture → Texture
put_texture p x = record { name = record { place = p; bytes = x.name.bytes }; words = x.words }

abbrev put-brush : ℕ → Brush → Brush
put-brush p b = record { name = record { place = p; bytes = b.name.bytes }; words = b.words; ids = b.ids }

-- what a brush's row has after its name
abbrev brush-cells : Brush → List ℕ
brush-cells b = drop 2 (brush_row b)

brush-row : (b : Brush) → name_cells b.name ++ brush-cells b ≡ brush_row b
unfolding brush_row name_cells
brush-row b = refl

brush-put : (p : ℕ) (b : Brush) → brush-cells (put-brush p b) ≡ brush-cells b
unfolding brush_row name_cells
brush-put p b = refl

same_row : {A : Type 0} (f g : A → List ℕ) → ((x : A) → f x ≡ g x) → (xs : List A) → map f xs ≡ map g xs
same_row f g e [] = refl
same_row f g e (x ∷ xs) = ap₂ ◌∷◌ (e x) (same_row f g e xs)

module _ (mode : Mode) (s : List ℕ) (bytes : AllBytes s) (T : Lent) (ns : List ℕ) (h : Has mode s T ns) where
  abbrev t : Scene
  t = h.scene

  parsed : parse Lenient s ≡ accept t
  parsed = (mode_got mode s t (judge_got mode s t h.accepted).0).0

  -- the mode takes the colours of the lent tables
  lent-passes : True (passes mode (lent_rows T))
  lent-passes = subst True (passes_same mode (λ k. rows k t) (lent_rows T) h.cells) (mode_got mode s t (judge_got mode s t h.accepted).0).1

  fit : WellFormed t
  fit = (parse-fine s t bytes parsed).0

  stands : All (Stands s) (names t)
  stands = all_map (NameIn s) (Stands s) (stand s) (names t) (all_in s t (parse_names s t parsed))

  of-textures : All (λ (x : Texture). Stands s x.name) t.textures
  unfolding names
  of-textures = all-from-map (Stands s) (λ (x : Texture). x.name) t.textures (all_left (Stands s) (map (λ (x : Texture). x.name) t.textures) _ stands)

  of_others : All (Stands s) (map (λ (x : Brush). x.name) t.brushes ++ node_names t.nodes [])
  unfolding names
  of_others = all_right (Stands s) (map (λ (x : Texture). x.name) t.textures) _ stands

  of-brushes : All (λ (b : Brush). Stands s b.name) t.brushes
  of-brushes = all-from-map (Stands s) (λ (x : Brush). x.name) t.brushes (all_left (Stands s) (map (λ (x : Brush). x.name) t.brushes) _ of_others)

  of-nodes : All (Stands s) (node_names t.nodes [])
  of-nodes = all_right (Stands s) (map (λ (x : Brush). x.name) t.brushes) _ of_others

  X : PlacedList (λ (x : Texture). x.name) (λ x. x.words) put_texture (rename_texture bare_name) FitTexture (λ p x. refl) (λ p x. refl) (λ p x. refl) (λ p x f. f) s ns t.textures (lent_rows T 1)
  unfolding tables rows named if names_of texture_row width
  X =
      place-list (λ (x : Texture). x.name) (λ x. x.words) put_texture (rename_texture bare_name) FitTexture (λ p x. refl) (λ p x. refl) (λ p x. refl) (λ p x f. f) s ns t.textures (lent_rows T 1)
      of-textures fit.textures (lent_alike s ns T t 1 (omega arith) h.lent.0 h.cells.0 h.names.0)

  B : PlacedList (λ (b : Brush). b.name) brush-cells put-brush (rename_brush bare_name) (FitBrush t.slots (length t.textures)) (λ p b. refl) brush-put (λ p b. refl) (λ p b f. f) s ns t.brushes (lent_rows T 2)
  unfolding tables rows named if names_of width
  B =
      place-list (λ (b : Brush). b.name) brush-cells put-brush (rename_brush bare_name) (FitBrush t.slots (length t.textures)) (λ p b. refl) brush-put (λ p b. refl) (λ p b f. f) s ns t.brushes (lent_rows T 2)
      of-brushes fit.brushes
      (subst (λ (l : List (List ℕ)). Alikes s ns l (lent_rows T 2)) (sym (same_row _ brush_row brush-row t.brushes)) (lent_alike s ns T t 2 (omega arith) h.lent.1.0 h.cells.1.0 h.names.1.0))

  N : PlacedForest s ns t.nodes NONE start [] (lent_rows T 3)
  unfolding tables node_tables rows named if names_of width
  N =
      place-forest s ns t.nodes NONE start [] (lent_rows T 3) [] of-nodes
      (subst (λ (l : List (List ℕ)). Alikes s ns l (lent_rows T 3)) (sym (append-nil (forest_rows 3 t.nodes NONE start)))
      (lent_alike s ns T t 3 (omega arith) h.lent.1.1.0 h.cells.1.1.0 h.names.1.1.0))

  -- the file's scene with the names at the places that the tables say
  pub placed : Scene
  placed = record { version = t.version; textures = X.list; slots = t.slots; brushes = B.list; nodes = N.forest }

  pub placed_bare : without_places placed ≡ without_places t
  unfolding without_places rename placed
  placed_bare i = record { version = t.version; textures = X.same i; slots = t.slots; brushes = B.same i; nodes = N.same i }

  slots-fit : (n : ℕ) (xs ys : List Brush) → map (rename_brush bare_name) ys ≡ map (rename_brush bare_name) xs → FitSlots n xs → FitSlots n ys
  slots-fit n [] [] e f = f
  slots-fit n [] (y ∷ ys) e f = let z : ◌≡◌ {A = ℕ} (suc (length (map (rename_brush bare_name) ys))) 0 = ap length e in absurd (omega arith)
  slots-fit n (x ∷ xs) [] e f = let z : ◌≡◌ {A = ℕ} 0 (suc (length (map (rename_brush bare_name) xs))) = ap length e in absurd (omega arith)
  slots-fit n (x ∷ xs) (y ∷ ys) e f = f

  placed-fits : WellFormed placed
  unfolding placed
  placed-fits =
      let f = fit in
      let ex : length t.textures ≡ length X.list = sym (same_length (rename_texture bare_name) X.list t.textures X.same) in
      let eb : length t.brushes ≡ length B.list = sym (same_length (rename_brush bare_name) B.list t.brushes B.same) in
      record {
        version = f.version;
        textures = X.ok;
        slots = slots-fit t.slots t.brushes B.list B.same f.slots;
        brushes = subst (λ (n : ℕ). All (FitBrush t.slots n) B.list) ex B.ok;
        nodes = subst (λ (n : ℕ). FitNodes levels n none N.forest) eb (N.fit levels (length t.brushes) none f.nodes);
        root = root-named N.forest (subst OneRoot (sym N.same) (named-root t.nodes f.root));
      }

  placed-stands : All (Stands ns) (names placed)
  unfolding placed names
  placed-stands =
      all_append (Stands ns) (map (λ (x : Texture). x.name) X.list) _ (all_of_map (Stands ns) (λ (x : Texture). x.name) X.list X.stand)
      (all_append (Stands ns) (map (λ (x : Brush). x.name) B.list) _ (all_of_map (Stands ns) (λ (x : Brush). x.name) B.list B.stand) (N.stand [] tt))

  none_left : (l : List (List ℕ)) → Alikes s ns [] l → l ≡ []
  none_left [] a = refl
  none_left (x ∷ l) a = absurd a

  placed-rows : All (λ k. lent_rows T k ≡ rows k placed) tables
  unfolding placed tables node_tables rows named if texture_row
  placed-rows =
      let q = (bare_same placed t placed_bare).1.1.1 in
      let c = h.cells.1.1.1 in
      let e₃ : forest_rows 3 N.forest NONE start ≡ lent_rows T 3 = sym (append-nil (forest_rows 3 N.forest NONE start)) ∙ ap (λ (l : List (List ℕ)). forest_rows 3 N.forest NONE start ++ l) (sym (none_left N.rest N.alike)) ∙ N.rows in (
        sym X.rows,
        (
          sym B.rows ∙ same_row _ brush_row brush-row B.list,
          (
            sym e₃,
            all-zip (λ k. named unplaced k (rows k placed) ≡ named unplaced k (rows k t)) (λ k. named unplaced k (rows k t) ≡ named unplaced k (lent_rows T k)) _ (λ k a b. sym (a ∙ b)) part_tables q c,
          ),
        ),
      )

  counted : All (λ k. (T.count k ≤ row_limit) × (width k * T.count k ≤ length (T.words k))) tables
  unfolding lent_rows
  counted =
      all-zip (λ k. length (rows k t) ≤ row_limit) (λ k. (named unplaced k (rows k t) ≡ named unplaced k (lent_rows T k)) × (width k * T.count k ≤ length (T.words k))) _
      (λ k few c. let e = same-many k (rows k t) (lent_rows T k) c.0 ∙ cut-length (width k) (T.count k) (T.words k) in (omega arith, c.1)) tables (judge_got mode s t h.accepted).1
      (all-zip (λ k. named unplaced k (rows k t) ≡ named unplaced k (lent_rows T k)) (λ k. width k * T.count k ≤ length (T.words k)) _ (λ k a b. (a, b)) tables h.cells h.lent)

  -- the tables are sound, and that is their scene
  pub has-rebuild : rebuild mode T ns ≡ some placed
  unfolding rebuild placed
  has-rebuild =
      let et : assembled ns T ≡ placed = together_back ns T placed placed-fits (sym h.version) (sym h.slots) placed-stands placed-rows in
      let ok = (sound-is ns T placed).holds (placed-fits, (placed-stands, all_map (λ k. lent_rows T k ≡ rows k placed) _ (λ k e. sym e) tables placed-rows)) in
      if_yes (all (has_counted_rows T) tables) _ none ((all-is (roomy_is T) tables).holds counted) ∙ ap (λ (x : Scene). if (passes mode (lent_rows T) && sound ns T x) (some x) none) et
      ∙ if_yes (passes mode (lent_rows T) && sound ns T placed) (some placed) none (yes_and (passes mode (lent_rows T)) (sound ns T placed) lent-passes ok)
