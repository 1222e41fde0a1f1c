-- Files, scenes and tables together: what the demands on reader, writer and clearer come from.
use mathlib.Core.Path.{◌≡◌, refl, ap, sym, ◌∙◌, subst}
use Prim.Native.Nat.{ℕ, suc, ◌+◌, ◌*◌, ◌≤◌}
use native.Mathlib.Omega.{arith}
use mathlib.Core.Option.{some}
use mathlib.Core.List.{List, [], ◌∷◌, ◌++◌, map, append_assoc}
use lib.ListN.{length, take, drop, length-append, length-drop}
use lib.Seq.{take-append_seam, take_all}
use lib.Dec.{T}
use Rattle.wire.specs.Bytes.{AllBytes}
use Rattle.layout.specs.Result.{accept}
use Rattle.layout.specs.Parts.{Name}
use Rattle.layout.proofs.AllLaws.{All, all_map, all-zip, all_append, all_of_map}
use Rattle.layout.proofs.PlaceLaws.{NameIn}
use Rattle.b3d_spec.specs.declared.Mode.{Mode}
use Rattle.b3d_spec.specs.declared.Mode.TheVariants.{Lenient}
use Rattle.b3d_spec.specs.Encode.{encode}
use Rattle.b3d_spec.specs.Names.{rename, without_places, cleared, named, unplaced, unnamed, name_off}
use Rattle.b3d_spec.specs.Parse.{parse}
use Rattle.b3d_spec.specs.Rebuild.{Lent, lent_rows, node_names, names, rebuild}
use Rattle.b3d_spec.specs.Rules.{row_limit}
use Rattle.b3d_spec.specs.Scene.{Texture, Brush, Forest, no_nodes, node, Scene}
use Rattle.b3d_spec.specs.Tables.{width, rows, table, tables}
use Rattle.b3d_spec.proofs.Rows.CountLaws.{table_length}
use Rattle.b3d_spec.proofs.Files.FileLaws.{parse-back, parse-fine}
use Rattle.b3d_spec.proofs.WellFormedLaws.{WellFormed}
use Rattle.b3d_spec.proofs.Files.NameLaws.{copy-back}
use Rattle.b3d_spec.proofs.Files.PlaceLaws.{NodeNames, NamesIn, parse_names}
use Rattle.b3d_spec.proofs.TwoModeLaws.{mode_got, mode_yes, passes-rows, passes_bare}
use Rattle.b3d_spec.proofs.Rows.RebuildLaws.{Holds, rebuild-back, rebuild-fine, held_rows}
use Rattle.b3d_spec.proofs.Rows.RenameLaws.{bare_rows, cleared-rows, bare_same, lent_of, same-cells, own-version, own-slots}
use Rattle.b3d_spec.proofs.Rows.RowPartLaws.{Stands}

-- ---- reader: a file's tables and its own bytes give its scene back

pub stand : (s : List ℕ) (n : Name) → NameIn s n → Stands s n
stand s n h =
    let e : drop n.place s ≡ n.bytes ++ (0 ∷ h.after) = h.stands ∙ append_assoc n.bytes (0 ∷ []) h.after in
    let l : length (drop n.place s) ≡ length n.bytes + suc (length h.after) = ap length e ∙ length-append n.bytes (0 ∷ h.after) in
    (omega (arith, length-drop n.place s), ap (take (length n.bytes)) e ∙ take-append_seam n.bytes (0 ∷ h.after))

nodes-in : (s : List ℕ) (t : Forest) (r : List Name) → NodeNames s t → All (NameIn s) r → All (NameIn s) (node_names t r)
unfolding node_names
nodes-in s no_nodes r h k = k
nodes-in s (node d f g) r h k = (h.0, nodes-in s f (node_names g r) h.1 (nodes-in s g r h.2 k))

pub all_in : (s : List ℕ) (t : Scene) → NamesIn s t → All (NameIn s) (names t)
unfolding names
all_in s t h =
    all_append (NameIn s) (map (λ (x : Texture). x.name) t.textures) _ (all_of_map (NameIn s) (λ (x : Texture). x.name) t.textures h.textures)
    (all_append (NameIn s) (map (λ (x : Brush). x.name) t.brushes) _ (all_of_map (NameIn s) (λ (x : Brush). x.name) t.brushes h.brushes) (nodes-in s t.nodes [] h.nodes tt))

own-holds : (t : Scene) → WellFormed t → All (λ k. length (rows k t) ≤ row_limit) tables → All (Holds (lent_of t) t) tables
unfolding lent_of
own-holds t f small =
    all-zip (λ k. length (rows k t) ≤ row_limit) (λ k. length (table k t) ≡ width k * length (rows k t)) (Holds (lent_of t) t)
    (λ k n l. record { many = refl; few = n; room = omega (arith, l); cells = take_all (width k * length (rows k t)) (table k t) (omega (arith, l)) }) tables small (table_length t f)

pub bare_version : (t u : Scene) → without_places t ≡ without_places u → t.version ≡ u.version
unfolding without_places rename
bare_version t u e = ap (λ (x : Scene). x.version) e

pub bare_slots : (t u : Scene) → without_places t ≡ without_places u → t.slots ≡ u.slots
unfolding without_places rename
bare_slots t u e = ap (λ (x : Scene). x.slots) e

pub read-rebuild : (mode : Mode) (s : List ℕ) (t : Scene) → AllBytes s → parse mode s ≡ accept t → All (λ k. length (rows k t) ≤ row_limit) tables → rebuild mode (lent_of t) s ≡ some t
read-rebuild mode s t b e small =
    let g = mode_got mode s t e in
    let f = (parse-fine s t b g.0).0 in
    let st = all_map (NameIn s) (Stands s) (stand s) (names t) (all_in s t (parse_names s t g.0)) in
    let h = own-holds t f small in
    rebuild-back mode s (lent_of t) t f (record { version = own-version t; slots = own-slots t; held = h; named = st })
    (subst T (sym (passes-rows mode (lent_rows (lent_of t)) (λ k. rows k t) (held_rows (lent_of t) t f h))) g.1)

-- ---- writer: its file, read back, has the lent cells but for name places

pub write_read : (mode : Mode) (ns : List ℕ) (L : Lent) (t : Scene) → rebuild mode L ns ≡ some t → length (encode t) ≤ 16777216
    → (u : Scene) × (parse mode (encode t) ≡ accept u) × ((u.version ≡ L.version) × ((u.slots ≡ L.slots) × All (λ k. named unplaced k (rows k u) ≡ named unplaced k (lent_rows L k)) tables))
write_read mode ns L t e size =
    let f = rebuild-fine mode ns L t e in
    let x = parse-back t f.0 size in
    let r = held_rows L t f.0 f.1.held in
    let c = passes_bare mode t x.0 (sym x.2) (subst T (passes-rows mode (lent_rows L) (λ k. rows k t) r) f.2) in (
      x.0,
      mode_yes mode (encode t) x.0 x.1 c,
      (
        bare_version x.0 t x.2 ∙ sym f.1.version,
        (
          bare_slots x.0 t x.2 ∙ sym f.1.slots,
          all-zip (λ k. named unplaced k (rows k x.0) ≡ named unplaced k (rows k t)) (λ k. lent_rows L k ≡ rows k t) _ (λ k a b. a ∙ ap (named unplaced k) (sym b)) tables (bare_same x.0 t x.2) r,
        ),
      ),
    )

-- ---- clearer: files with the same cells but for names have one copy, and the copy has those cells

pub cells-copy : (s v : List ℕ) (t u : Scene) → AllBytes s → AllBytes v → parse Lenient s ≡ accept t → parse Lenient v ≡ accept u → t.version ≡ u.version → t.slots ≡ u.slots
    → All (λ k. named name_off k (rows k t) ≡ named name_off k (rows k u)) tables → encode (cleared t) ≡ encode (cleared u)
cells-copy s v t u bs bv et eu ev es h = ap encode (same-cells t u (parse-fine s t bs et).0 (parse-fine v u bv eu).0 ev es h)

pub copy-cells : (s : List ℕ) (t : Scene) → AllBytes s → parse Lenient s ≡ accept t
    → (u : Scene) × (parse Lenient (encode (cleared t)) ≡ accept u) × All (λ k. named unplaced k (rows k u) ≡ named unnamed k (rows k t)) tables
copy-cells s t b e =
    let c = copy-back s t b e in (
      c.scene,
      c.accepted,
      all-zip (λ k. rows k (without_places c.scene) ≡ named unplaced k (rows k c.scene)) (λ k. rows k (cleared t) ≡ named unnamed k (rows k t)) _
          (λ k x y. sym x ∙ ap (rows k) c.is_cleared ∙ y) tables (bare_rows c.scene) (cleared-rows t),
    )
