-- Sound tables, cut to their counted rows, are those of their scene.
use mathlib.Core.Path.{◌≡◌, refl, ap, sym, ◌∙◌, subst}
use Prim.Native.Nat.{ℕ, ◌*◌, ◌/◌, ◌≤◌}
use native.Mathlib.Omega.{arith}
use mathlib.Core.Option.{none, some}
use mathlib.Core.List.{List, [], ◌∷◌, ◌++◌, map}
use lib.ListN.{length, take, get_or, length-map}
use lib.Seq.{length-take-le}
use Rattle.wire.specs.Test.{if}
use Rattle.layout.specs.Parts.{Name}
use Rattle.layout.proofs.AllLaws.{All, all_left, all_right, all-from-map, all-zip, all_map}
use Rattle.layout.specs.Rows.{name_cells}
use Rattle.b3d_spec.specs.declared.Counts.{Counts}
use Rattle.b3d_spec.specs.declared.Mode.{Mode}
use Rattle.b3d_spec.specs.Rebuild.{Lent, Rows, lent_rows, texture_from, brush_from, assembled, node_names, names, rebuild}
use Rattle.b3d_spec.specs.Rules.{levels}
use Rattle.b3d_spec.specs.Scene.{Texture, Brush, Scene}
use Rattle.b3d_spec.specs.Tables.{width, texture_row, brush_row, rows, tables, node_tables, node_width}
use Rattle.b3d_spec.proofs.WellFormedLaws.{FitNodes}
use Rattle.b3d_spec.proofs.Rows.RebuildLaws.{Holds, together_back}
use Rattle.b3d_spec.proofs.Rows.RowListLaws.{cut-length}
use Rattle.b3d_spec.proofs.Rows.RowPartLaws.{Stands}
use Rattle.b3d_check_table_lengths.specs.LentRooms.{part_counts, Rooms}
use Rattle.b3d_check.specs.Lent.{lent_of}
use Rattle.b3d_write_row_runs.specs.Lent.{rows_in}
use Rattle.b3d_write_row_runs.proofs.CutRowLaws.{rows-lent}
use Rattle.b3d_write_materials.specs.Named.{NamesThere}
use Rattle.b3d_write_node.specs.Own.{table_rows}
use Rattle.b3d_write_node.proofs.TrimmedTableLaws.{trimmed_rows}
use Rattle.b3d_write_nodes.proofs.TableLaws.{quotient}
use Rattle.b3d_write_file.specs.Whole.{OfNodes, OfScene}
use Rattle.b3d_write.proofs.SoundLaws.{fit, agree, sound-rooms, sound-slots, sound-rows}

-- the names of rows that begin with their cells
module _ {A : Type 0} (name : A → Name) (row r : A → List ℕ) (begins : (x : A) → row x ≡ name_cells (name x) ++ r x) where
  names-there : (ns : List ℕ) (xs : List A) → All (λ x. Stands ns (name x)) xs → NamesThere ns (map row xs)
  unfolding NamesThere name_cells
  names-there ns [] h = tt
  names-there ns (x ∷ xs) h = (rw (begins x) h.0.0, names-there ns xs h.1)

module _ (mode : Mode) (v slots : ℕ) (counts t₁ t₂ t₃ t₄ t₅ t₆ t₇ t₈ t₉ t₁₀ ns : List ℕ) (t : Scene) (e : rebuild mode (lent_of v slots counts t₁ t₂ t₃ t₄ t₅ t₆ t₇ t₈ t₉ t₁₀) ns ≡ some t) where
  abbrev L : Lent
  L = lent_of v slots counts t₁ t₂ t₃ t₄ t₅ t₆ t₇ t₈ t₉ t₁₀

  abbrev rs : Rooms (get_or counts 0 0) (get_or counts 1 0) (part_counts counts) (length t₁) (length t₂) (length t₃) (length t₄) (length t₅) (length t₆) (length t₇) (length t₈) (length t₉) (length t₁₀)
  rs = sound-rooms mode v slots counts t₁ t₂ t₃ t₄ t₅ t₆ t₇ t₈ t₉ t₁₀ ns t e

  is_together : assembled ns L ≡ t
  is_together =
      together_back ns L t (fit mode v slots counts t₁ t₂ t₃ t₄ t₅ t₆ t₇ t₈ t₉ t₁₀ ns t e) (agree mode v slots counts t₁ t₂ t₃ t₄ t₅ t₆ t₇ t₈ t₉ t₁₀ ns t e).version
      (agree mode v slots counts t₁ t₂ t₃ t₄ t₅ t₆ t₇ t₈ t₉ t₁₀ ns t e).slots (agree mode v slots counts t₁ t₂ t₃ t₄ t₅ t₆ t₇ t₈ t₉ t₁₀ ns t e).named (sound-rows mode v slots counts t₁ t₂ t₃ t₄ t₅ t₆ t₇ t₈ t₉ t₁₀ ns t e)

  abbrev all : Counts
  all = part_counts counts

  abbrev R : Rows
  R = table_rows (take (node_width * all.nodes) t₃) (take (9 * all.meshes) t₄) (take (42 * all.vertices) t₅) (take (4 * all.sets) t₆) (take (3 * all.triangles) t₇) (take (2 * all.weights) t₈) (take (4 * all.lists) t₉) (take (11 * all.keys) t₁₀)

  held-rooms : All (λ k. width k * L.count k ≤ length (L.words k)) tables
  held-rooms = all_map (Holds L t) _ (λ k h. h.room) tables (agree mode v slots counts t₁ t₂ t₃ t₄ t₅ t₆ t₇ t₈ t₉ t₁₀ ns t e).held

  rows_are : All (λ k. R k ≡ lent_rows L k) node_tables
  unfolding tables node_tables lent_rows lent_of part_counts width if table_rows
  rows_are = (rows-lent node_width (get_or counts 2 0) t₃ (omega arith) held-rooms.1.1.0, trimmed_rows L held-rooms.1.1.1)

  names-all : All (Stands ns) (names t)
  names-all = (agree mode v slots counts t₁ t₂ t₃ t₄ t₅ t₆ t₇ t₈ t₉ t₁₀ ns t e).named

  names-textures : All (λ (x : Texture). Stands ns x.name) t.textures
  unfolding names
  names-textures = all-from-map (Stands ns) (λ (x : Texture). x.name) t.textures (all_left (Stands ns) (map (λ (x : Texture). x.name) t.textures) _ names-all)

  names-others : All (Stands ns) (map (λ (x : Brush). x.name) t.brushes ++ node_names t.nodes [])
  unfolding names
  names-others = all_right (Stands ns) (map (λ (x : Texture). x.name) t.textures) _ names-all

  names-brushes : All (λ (x : Brush). Stands ns x.name) t.brushes
  names-brushes = all-from-map (Stands ns) (λ (x : Brush). x.name) t.brushes (all_left (Stands ns) (map (λ (x : Brush). x.name) t.brushes) _ names-others)

  textures-lent : rows_in 9 (take (9 * get_or counts 0 0) t₁) ≡ lent_rows L 1
  unfolding lent_rows lent_of width if
  textures-lent = rows-lent 9 (get_or counts 0 0) t₁ (omega arith) rs.room₁

  brushes-lent : rows_in 17 (take (17 * get_or counts 1 0) t₂) ≡ lent_rows L 2
  unfolding lent_rows lent_of width if
  brushes-lent = rows-lent 17 (get_or counts 1 0) t₂ (omega arith) rs.room₂

  many-brushes : length t.brushes ≡ length (take (17 * get_or counts 1 0) t₂) / 17
  unfolding tables rows if lent_rows lent_of width
  many-brushes =
      sym (length-map t.brushes brush_row) ∙ ap length (sym (sound-rows mode v slots counts t₁ t₂ t₃ t₄ t₅ t₆ t₇ t₈ t₉ t₁₀ ns t e).1.0) ∙ cut-length 17 (get_or counts 1 0) t₂
      ∙ sym (quotient 17 (get_or counts 1 0) (length (take (17 * get_or counts 1 0) t₂)) (omega arith) (length-take-le (17 * get_or counts 1 0) t₂ rs.room₂))

  of-nodes : OfNodes ns R (length (take (17 * get_or counts 1 0) t₂) / 17) t.nodes
  unfolding tables node_tables rows if
  of-nodes =
      let f = fit mode v slots counts t₁ t₂ t₃ t₄ t₅ t₆ t₇ t₈ t₉ t₁₀ ns t e in
      record {
        rows = all-zip (λ k. R k ≡ lent_rows L k) (λ k. lent_rows L k ≡ rows k t) _ (λ k a b. a ∙ b) node_tables rows_are (sound-rows mode v slots counts t₁ t₂ t₃ t₄ t₅ t₆ t₇ t₈ t₉ t₁₀ ns t e).1.1;
        fits = subst (λ (n : ℕ). FitNodes levels n none t.nodes) many-brushes f.nodes;
        root = f.root;
        names = all_right (Stands ns) (map (λ (x : Brush). x.name) t.brushes) _ names-others;
      }

  texture_made : map (texture_from ns) (lent_rows L 1) ≡ t.textures
  unfolding assembled
  texture_made = ap (λ (x : Scene). x.textures) is_together

  brush_made : map (brush_from ns slots) (lent_rows L 2) ≡ t.brushes
  unfolding assembled lent_of
  brush_made = ap (λ (x : Scene). x.brushes) is_together

  slots_made : t.slots ≡ slots
  unfolding lent_of
  slots_made = sym (agree mode v slots counts t₁ t₂ t₃ t₄ t₅ t₆ t₇ t₈ t₉ t₁₀ ns t e).slots

  version_made : t.version ≡ v
  unfolding lent_of
  version_made = sym (agree mode v slots counts t₁ t₂ t₃ t₄ t₅ t₆ t₇ t₈ t₉ t₁₀ ns t e).version

  textures-there : NamesThere ns (lent_rows L 1)
  unfolding tables rows if texture_row
  textures-there = subst (NamesThere ns) (sym (sound-rows mode v slots counts t₁ t₂ t₃ t₄ t₅ t₆ t₇ t₈ t₉ t₁₀ ns t e).0) (names-there (λ (x : Texture). x.name) texture_row (λ x. x.words) (λ x. refl) ns t.textures names-textures)

  brushes-there : NamesThere ns (lent_rows L 2)
  unfolding tables rows if brush_row
  brushes-there = subst (NamesThere ns) (sym (sound-rows mode v slots counts t₁ t₂ t₃ t₄ t₅ t₆ t₇ t₈ t₉ t₁₀ ns t e).1.0) (names-there (λ (x : Brush). x.name) brush_row _ (λ x. refl) ns t.brushes names-brushes)

  pub is-scene : OfScene ns (take (9 * get_or counts 0 0) t₁) (take (17 * get_or counts 1 0) t₂) R v slots t
  is-scene = record {
    version_is = version_made;
    all = record {
      textures = ap (map (texture_from ns)) textures-lent ∙ texture_made;
      there = subst (NamesThere ns) (sym textures-lent) textures-there;
      rest = record {
        brushes = ap (map (brush_from ns slots)) brushes-lent ∙ brush_made;
        there = subst (NamesThere ns) (sym brushes-lent) brushes-there;
        few = sound-slots mode v slots counts t₁ t₂ t₃ t₄ t₅ t₆ t₇ t₈ t₉ t₁₀ ns t e;
        slots_are = slots_made;
        nodes = of-nodes;
      };
    };
  }
