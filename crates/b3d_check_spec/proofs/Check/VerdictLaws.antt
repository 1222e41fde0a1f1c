-- The row-by-row verdict is that of `rebuild`: it accepts just those tables that some scene has.
use mathlib.Core.Path.{◌≡◌, refl, ap, ap₂, sym, ◌∙◌, subst}
use Prim.Native.Nat.{ℕ, zero, suc, ◌+◌, ◌*◌, ◌≤◌}
use native.Mathlib.Omega.{arith}
use mathlib.Core.Bool.{Bool, true, false, ◌&&◌}
use mathlib.Core.Option.{Option, none, some}
use mathlib.Core.List.{List, [], ◌∷◌, map}
use lib.ListN.{length, drop, length-drop, length-map}
use lib.Seq.{length-take-le}
use Rattle.wire.specs.Bytes.{IsWord, AllBytes}
use Rattle.wire.specs.Test.{if}
use Rattle.layout.specs.WellFormed.{all}
use Rattle.layout.specs.Rules.{holds}
use Rattle.layout.proofs.WellFormedLaws.{Fits}
use Rattle.layout.proofs.AllLaws.{All, all-zip, all_append, all_left, all_right}
use Rattle.layout.proofs.TestLaws.{Tests, both, via, all-is}
use Rattle.b3d_spec.specs.Colours.{passes}
use Rattle.b3d_spec.specs.declared.Mode.{Mode}
use Rattle.b3d_spec.specs.declared.Mode.TheVariants.{Lenient}
use Rattle.b3d_spec.specs.Rebuild.{Lent, cut, lent_rows, has_counted_rows, texture_from, brush_from, Rows, walk, tree, assembled, names, sound, rebuild}
use Rattle.b3d_spec.specs.Rules.{version, file_head, row_limit}
use Rattle.b3d_spec.specs.Scene.{Texture, Brush, Forest, Scene}
use Rattle.b3d_spec.specs.Tables.{width, start, texture_row, brush_row, node_tables, tables, rows, node_width}
use Rattle.b3d_spec.proofs.WellFormedLaws.{FitTexture, FitBrush, FitSlots, WellFormed, slots-few}
use Rattle.b3d_spec.proofs.TwoModeLaws.{rebuild_mode}
use Rattle.b3d_spec.proofs.Rows.RebuildLaws.{roomy_is, sound-is}
use Rattle.b3d_spec.proofs.Rows.RowListLaws.{cut-length}
use Rattle.b3d_spec.proofs.Rows.RowPartLaws.{Stands}
use Rattle.b3d_check_spec.specs.Check.{name_valid, brush_valid, tree_valid, slots_valid, check, check_in}
use Rattle.b3d_check_spec.proofs.Check.TestLaws.{then, same_test, if_and}
use Rattle.b3d_check_spec.proofs.Check.RowLaws.{all_take, all_drop, Full, one_is}
use Rattle.b3d_check_spec.proofs.Check.KindLaws.{Whole}
use Rattle.b3d_check_spec.proofs.Check.ForestLaws.{TreeIs, tree_is}
use Rattle.b3d_check_spec.proofs.Check.MaterialLaws.{texture_is, brush-is, slots-is, PartsAre, parts_are}

-- ---- lent rows

-- what the types of code say: words of 32 bits, bytes of 8
pub record Typed (T : Lent) (ns : List ℕ) : Type 0 where
  pub version : IsWord T.version
  pub slots : IsWord T.slots
  pub cells : All (λ k. All IsWord (T.words k)) tables
  pub bytes : AllBytes ns

-- the counted rows of table k are there
abbrev pub Room : Lent → ℕ → Type 0
Room T k = (T.count k ≤ row_limit) × (width k * T.count k ≤ length (T.words k))

cut-full : (w c : ℕ) (ws : List ℕ) → w * c ≤ length ws → All IsWord ws → All (Full w) (cut w c ws)
unfolding cut
cut-full w zero ws le h = tt
cut-full w (suc c) ws le h =
    let e : w * suc c ≡ w + w * c = omega arith in
    let l : w ≤ length ws = omega arith in
    ((length-take-le w ws l, all_take IsWord w ws h), cut-full w c (drop w ws) (omega (arith, length-drop w ws)) (all_drop IsWord w ws h))

lent-full : (T : Lent) (ns : List ℕ) → Typed T ns → All (Room T) tables → All (λ k. All (Full (width k)) (lent_rows T k)) tables
unfolding lent_rows
lent-full T ns t h = all-zip (Room T) (λ k. All IsWord (T.words k)) _ (λ k r w. cut-full (width k) (T.count k) (T.words k) r.1 w) tables h t.cells

lent_length : (T : Lent) (k : ℕ) → length (lent_rows T k) ≡ T.count k
unfolding lent_rows
lent_length T k = cut-length (width k) (T.count k) (T.words k)

-- the rows of textures, brushes and nodes, and of what nodes have
whole_of : (R : Rows) → All (λ k. All (Full (width k)) (R k)) tables → All (Full 9) (R 1) × All (Full 17) (R 2) × All (Full node_width) (R 3) × Whole R
unfolding tables node_tables width if
whole_of R h =
    let p = h.1.1.1 in
    let q = p.1.1.1.1 in
    (h.0, h.1.0, h.1.1.0, record { meshes = p.0; vertices = p.1.0; sets = p.1.1.0; triangles = p.1.1.1.0; weights = q.0; lists = q.1.0; keys = q.1.1.0 })

-- ---- the whole

module _ (T : Lent) (ns : List ℕ) where
  abbrev X : List Texture
  X = map (texture_from ns) (lent_rows T 1)

  abbrev B : List Brush
  B = map (brush_from ns T.slots) (lent_rows T 2)

  abbrev N : Forest
  N = tree (walk ns (lent_rows T) (lent_rows T 3) start)

  -- the tests after that on the rooms, with the counts of the parts
  abbrev rest : ℕ → ℕ → Bool
  rest textures brushes =
      holds version T.version
      && (slots_valid T.slots brushes
      && (all (name_valid ns) (lent_rows T 1)
      && (all (brush_valid ns T.slots textures) (lent_rows T 2) && tree_valid ns brushes (lent_rows T) (lent_rows T 3))))

  abbrev Rest : Type 0
  Rest =
      Fits file_head (T.version ∷ [])
      × (FitSlots T.slots B
      × (PartsAre FitTexture (Stands ns) (λ (x : Texture). x.name) texture_row (texture_from ns) (lent_rows T 1)
      × (PartsAre (FitBrush T.slots (length X)) (Stands ns) (λ (x : Brush). x.name) brush_row (brush_from ns T.slots) (lent_rows T 2)
      × TreeIs ns (length B) (lent_rows T) N)))

  abbrev pub Sound : Type 0
  Sound = WellFormed (assembled ns T) × (All (Stands ns) (names (assembled ns T)) × All (λ k. rows k (assembled ns T) ≡ lent_rows T k) tables)

  rest-to : Rest → Sound
  unfolding assembled names tables node_tables rows if
  rest-to h =
      let x = h.1.1.0 in
      let b = h.1.1.1.0 in
      let t = h.1.1.1.1 in
      let st = all_append (Stands ns) (map (λ (y : Texture). y.name) X) _ x.1 (all_append (Stands ns) (map (λ (y : Brush). y.name) B) _ b.1 t.2) in
      (record { version = h.0; textures = x.0; slots = h.1.0; brushes = b.0; nodes = t.0; root = t.1 }, (st, (x.2, (b.2, t.3))))

  rest_from : Sound → Rest
  unfolding assembled names tables node_tables rows if
  rest_from h =
      let f = h.0 in
      let e = h.1.1 in
      let xs = map (λ (y : Texture). y.name) X in
      let bs = map (λ (y : Brush). y.name) B in
      let s = all_right (Stands ns) xs _ h.1.0 in
      let sx = all_left (Stands ns) xs _ h.1.0 in
      let sb = all_left (Stands ns) bs _ s in
      (f.version, (f.slots, ((f.textures, sx, e.0), ((f.brushes, sb, e.1.0), (f.nodes, f.root, all_right (Stands ns) bs _ s, e.1.1)))))

  -- the counts that the tests name are those of the parts
  counted : check T ns ≡ (all (has_counted_rows T) tables && rest (length X) (length B))
  unfolding check
  counted =
      ap₂ (λ (m n : ℕ). all (has_counted_rows T) tables && rest m n) (sym (length-map (lent_rows T 1) (texture_from ns) ∙ lent_length T 1))
      (sym (length-map (lent_rows T 2) (brush_from ns T.slots) ∙ lent_length T 2))

  module _ (typed : Typed T ns) where
    rest_is : All (Room T) tables → Tests (rest (length X) (length B)) Rest
    rest_is room =
        let f = whole_of (lent_rows T) (lent-full T ns typed room) in
        both (one_is version T.version typed.version) (then (slots-is T.slots B typed.slots) (λ s.
        both (parts_are _ _ _ _ _ 9 (λ x w. texture_is ns x typed.bytes w) (lent_rows T 1) f.0)
        (both (parts_are _ _ _ _ _ 17 (λ x w. brush-is ns T.slots (length X) x (slots-few T.slots B s) typed.bytes w) (lent_rows T 2) f.1)
        (tree_is ns (length B) (lent_rows T) (lent_rows T 3) typed.bytes f.3 f.2 refl))))

    -- what the verdict says
    pub check-is : Tests (check T ns) (All (Room T) tables × Sound)
    check-is = subst (λ (c : Bool). Tests c (All (Room T) tables × Sound)) (sym counted) (then (all-is (roomy_is T) tables) (λ room. via rest-to rest_from (rest_is room)))

    -- so `rebuild` is the row-by-row test, and then what the rows give
    pub rebuild-check : rebuild Lenient T ns ≡ if (check T ns) (some (assembled ns T)) none
    unfolding rebuild passes
    rebuild-check =
        let t = assembled ns T in
        let e = same_test check-is (both (all-is (roomy_is T) tables) (sound-is ns T t)) in
        sym (ap (λ (c : Bool). if c (some t) none) e ∙ if_and (all (has_counted_rows T) tables) (sound ns T t) (some t) none)

    pub rebuild-check_in : (mode : Mode) → rebuild mode T ns ≡ if (check_in mode T ns) (some (assembled ns T)) none
    unfolding check_in if
    rebuild-check_in mode = rebuild_mode mode T ns ∙ ap (λ (o : Option Scene). if (passes mode (lent_rows T)) o none) rebuild-check ∙ by (passes mode (lent_rows T)) (check T ns)
      where
        by : (a b : Bool) → if a (if b (some (assembled ns T)) none) none ≡ if (b && a) (some (assembled ns T)) none
        by true true = refl
        by true false = refl
        by false true = refl
        by false false = refl
