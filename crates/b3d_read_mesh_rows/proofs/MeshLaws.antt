-- What stands in a MESH: laws for `count_sets`, `find_shape` and `store_mesh`.
use Rattle.std.specs.Prelude.{Some, None}
use Rattle.std.specs.Prelude as std
use Rattle.b3d_chunk_walk.specs.declared.Sought.{Sought}
use mathlib.Core.Path.{◌≡◌, refl, ap, sym, ◌∙◌}
use Prim.Native.Nat.{ℕ, ◌+◌, ◌-◌, ◌*◌, ◌/◌, ◌<◌, ◌≤◌}
use native.Mathlib.Nat.{div-le_self}
use native.Mathlib.Omega.{arith}
use mathlib.Core.List.{List, [], ◌∷◌}
use mir.Syntax.{w64}
use mir.Val.{Fits}
use lib.ListN.{length, drop, get_or, length-drop}
use lib.Seq.{sets}
use Rattle.wire.specs.Test.{if}
use Rattle.wire.specs.Cursors.{Inside, left}
use Rattle.wire.specs.declared.Cursor.{Cursor}
use Rattle.wire.proofs.LeftLaws.{left-length, left-most}
use Rattle.layout.specs.Parts.{words_of}
use Rattle.layout.proofs.StepLaws.{length-items-of}
use Rattle.b3d_spec.specs.declared.Tag.TheVariants.{VRTS, TRIS}
use Rattle.b3d_spec.specs.Mask.{ones, vertex_mask}
use Rattle.b3d_spec_plain_rows.specs.Plain.{whole, plain_vertices, shape_of, sets_of, mesh_of, plain_mesh}
use Rattle.b3d_chunk_walk.specs.Walks.{BodyAt}
use Rattle.b3d_chunk_walk.specs.Seeks.{ahead, Seeks, FirstWord, ThreeWords}
use Rattle.b3d_chunk_walk.specs.declared.Headed.{Headed}
use Rattle.b3d_chunk_walk.proofs.SeekLaws.{sought_none, sought_is, sought_among, sought_body, sought_next, sought_less}
use Rattle.b3d_chunk_walk.proofs.MeshLaws.{mesh-inside, mesh-inner, no-set, one_set}
use Rattle.b3d_chunk_walk.proofs.FirstWordLaws.{word-inside}
use Rattle.b3d_chunk_walk.specs.declared.Three.{Three}
use Rattle.b3d_read_mesh_rows.proofs.VertexLaws.{shape_seek}
use Rattle.b3d_read_mesh_rows.specs.Meshes.{ShapeFound, mesh_cells, MeshPut}
use Rattle.b3d_read_mesh_rows.specs.declared.Vertices.{Vertices}
use Rattle.b3d_read_mesh_rows.specs.declared.Added.{Added}

-- ---- the sets, counted

pub record CountLeft (s : List ℕ) (c₀ c : Cursor) (n : ℕ) : Type 0 where
  pub inside : Inside c (length s)
  pub same_end : c.end ≡ c₀.end
  pub few : c₀.at + n ≤ c.at
  pub total : n + length (sets_of (ahead s c)) ≡ length (sets_of (ahead s c₀))

module _ (s : List ℕ) (c₀ : Cursor) where
  pub count_start : Inside c₀ (length s) → CountLeft s c₀ c₀ 0
  count_start i = record { inside = i; same_end = refl; few = omega arith; total = omega arith }

  module _ (c : Cursor) (n : ℕ) (v : CountLeft s c₀ c n) where
    pub count_inside : Inside c (length s)
    count_inside = v.inside

    pub count_fits : length s * 1 < 0x8000000000000000 → Fits w64 (n + 1)
    count_fits small = record { fits = omega (arith, v.few, v.inside.before, v.inside.within) }

    module _ (r : std.Option Sought) (x : Seeks s c TRIS r) where
      module _ (w : r ≡ None) where
        pub count_done : n ≡ length (sets_of (ahead s c₀))
        count_done = omega (arith, v.total, ap length (no-set s c r x w))

        pub count_few : n ≤ c₀.end - c₀.at
        count_few = omega (arith, v.few, v.same_end, v.inside.before)

      module _ (g : Sought) (w : r ≡ Some g) where
        pub count_less : g.next.end - g.next.at < c.end - c.at
        count_less = sought_less s c TRIS r x g w

        pub count_more : CountLeft s c₀ g.next (n + 1)
        count_more =
            let f = sought_among s c TRIS r x g w in
            record {
              inside = sought_next s c TRIS r x g w (length s) v.inside;
              same_end = f.same ∙ v.same_end;
              few = omega (arith, v.few);
              total = omega (arith, v.total, ap length (one_set s c r x g w));
            }

pub ruleset count_laws = (count_start, count_inside, count_fits, count_done, count_few, count_less, count_more)

-- ---- the first VRTS

module _ (s : List ℕ) (c : Cursor) (i : Inside c (length s)) (r : std.Option Sought) (x : Seeks s c VRTS r) where
  pub shape_none : r ≡ None → (v : Vertices) → v ≡ record { flags = 0; sets = 0; size = 0; count = 0 } → ShapeFound s c v
  unfolding shape_of
  shape_none w v e =
      let z = shape_seek (ahead s c) ∙ ap shape_of (sought_none s c VRTS r x w) in
      rw e (record { flags_are = ap (λ y. y.flags) z; sets_are = ap (λ y. y.sets) z; size_are = ap (λ y. y.size) z; count_is = ap (λ y. length y.items) z; few = omega arith })

  module _ (g : Sought) (w : r ≡ Some g) where
    pub shape_body : Inside g.body (length s)
    shape_body = sought_body s c VRTS r x g w (length s) i

    module _ (h : Three) (y : ThreeWords s g.body h) where
      pub shape_before : h.rest.at ≤ h.rest.end
      shape_before = y.inside.before

      pub shape_one : (n : ℕ) → n ≡ (h.rest.end - h.rest.at) / (4 * ones (vertex_mask h.first h.second h.third))
          → (v : Vertices) → v ≡ record { flags = h.first; sets = h.second; size = h.third; count = n } → ShapeFound s c v
      unfolding shape_of plain_vertices whole if
      shape_one n en v e =
          let f = sought_among s c VRTS r x g w in
          let z = shape_seek (ahead s c) ∙ ap shape_of (sought_is s c VRTS r x g w) in
          let l = left-length s h.rest y.inside in
          let k = length-items-of (length (drop 12 (left g.body s)) / (4 * ones (vertex_mask (get_or (words_of 3 (left g.body s)) 0 0) (get_or (words_of 3 (left g.body s)) 1 0) (get_or (words_of 3 (left g.body s)) 2 0)))) (ones (vertex_mask (get_or (words_of 3 (left g.body s)) 0 0) (get_or (words_of 3 (left g.body s)) 1 0) (get_or (words_of 3 (left g.body s)) 2 0))) (drop 12 (left g.body s)) in
          let j : length (drop 12 (left g.body s)) / (4 * ones (vertex_mask (get_or (words_of 3 (left g.body s)) 0 0) (get_or (words_of 3 (left g.body s)) 1 0) (get_or (words_of 3 (left g.body s)) 2 0))) ≡ n = rw (y.first_is, y.second_is, y.third_is, y.bytes_are, l) (sym en) in
          rw e
          (record {
            flags_are = ap (λ a. a.flags) z ∙ y.first_is;
            sets_are = ap (λ a. a.sets) z ∙ y.second_is;
            size_are = ap (λ a. a.size) z ∙ y.third_is;
            count_is = ap (λ a. length a.items) z ∙ k ∙ j;
            few = omega (arith, en, l, ap length y.bytes_are, length-drop 12 (left g.body s), left-most s g.body, div-le_self (h.rest.end - h.rest.at) (4 * ones (vertex_mask h.first h.second h.third)));
          })

pub ruleset shape_laws = (shape_none, shape_body, shape_before, shape_one)

-- ---- the row

module _ (s : List ℕ) (p : ℕ) (b : Cursor) (y : BodyAt s p b) (g : Headed) (u : FirstWord s b g) (v : Vertices) (f : ShapeFound s g.rest v) where
  pub count_small : length s < 0x100000000 → v.count < 0x100000000
  count_small small = omega (arith, f.few, u.inside.within)

  module _ (n : ℕ) (en : n ≡ length (sets_of (ahead s g.rest))) (few : n ≤ g.rest.end - g.rest.at) where
    pub sets_small : length s < 0x100000000 → n < 0x100000000
    sets_small small = omega (arith, u.inside.within)

    pub mesh-row : (node vertices first base : ℕ) (out put : List ℕ) (i j k t m : ℕ) → i ≡ node → j ≡ vertices → k ≡ v.count → t ≡ first → m ≡ n
        → put ≡ sets out base (i ∷ g.word ∷ v.flags ∷ v.sets ∷ v.size ∷ j ∷ k ∷ t ∷ m ∷ [])
        → (a : Added) → a ≡ record { vertices = v.count; sets = n } → MeshPut s p b node vertices first base out put a
    unfolding mesh_cells plain_mesh mesh_of
    mesh-row node vertices first base out put i j k t m ei ej ek et em e a ea =
        let c = mesh-inner s p b y g u in
        let f₁ = ap (λ l. (shape_of l).flags) (sym c) ∙ f.flags_are in
        let f₂ = ap (λ l. (shape_of l).sets) (sym c) ∙ f.sets_are in
        let f₃ = ap (λ l. (shape_of l).size) (sym c) ∙ f.size_are in
        let f₄ = ap (λ l. length (shape_of l).items) (sym c) ∙ f.count_is in
        let f₅ = ap (λ l. length (sets_of l)) (sym c) ∙ sym en in
        rw ea
        (record {
          stores = e ∙ rw (ei, ej, ek, et, em, u.number, f₁, f₂, f₃, f₄, f₅);
          vertices_are = sym f₄;
          sets_are = sym f₅;
          few_vertices = omega (arith, f.few, u.onward, u.to_end);
          few_sets = omega (arith, few, u.onward, u.to_end);
        })

pub ruleset row_laws = (mesh-inside, word-inside, count_small, sets_small, mesh-row)
