-- The rows of a VRTS on any bytes: a law for each need of `store_vertex_rows`.
use mathlib.Core.Path.{◌≡◌, ap, sym, ◌∙◌}
use Prim.Native.Nat.{ℕ, ◌+◌, ◌-◌, ◌*◌, ◌/◌, ◌%◌, ◌<◌, ◌≤◌, ◌^◌}
use native.Mathlib.Nat.{div-mul-le_self}
use native.Mathlib.Omega.{arith}
use mathlib.Core.List.{List, map}
use mir.Syntax.{w64}
use mir.Val.{Fits}
use lib.ListN.{length}
use lib.Seq.{sets}
use Rattle.wire.specs.Cursors.{Inside, left}
use Rattle.wire.specs.declared.Cursor.{Cursor}
use Rattle.wire.proofs.LeftLaws.{left-length}
use Rattle.layout.specs.Parts.{items_of}
use Rattle.layout.proofs.StepLaws.{length-items-of}
use Rattle.b3d_spec.specs.Mask.{mask, ones, padded, vertex_has, vertex_mask}
use Rattle.b3d_spec.specs.Rules.{vertex_words}
use Rattle.layout.specs.Rows.{joined}
use Rattle.b3d_spec.proofs.Rows.MaskLaws.{mask-length, vertex-words}
use Rattle.b3d_spec_plain_rows.specs.Plain.{whole, plain_vertices}
use Rattle.b3d_chunk_walk.specs.Seeks.{ThreeWords}
use Rattle.b3d_chunk_walk.specs.declared.Three.{Three}
use Rattle.b3d_read_item_rows.specs.Items.{shape_rows}
use Rattle.b3d_rule_widths.specs.Widths.{Clipped}
use Rattle.b3d_rule_widths.proofs.ClipLaws.{mask_clipped}
use Rattle.b3d_read_item_rows.proofs.KeyRowLaws.{spread_cells}

vertex-cells : (f n z : ℕ) (l : List (List ℕ)) → length (joined (map (padded (vertex_mask f n z)) l)) ≡ length l * 42
unfolding vertex_mask
vertex-cells f n z l = spread_cells (mask (vertex_has f n z) 42 0) l ∙ ap (λ (k : ℕ). length l * k) (mask-length (vertex_has f n z) 42 0)

module _ (s : List ℕ) (b : Cursor) (h : Three) (x : ThreeWords s b h) where
  pub rest-inside : Inside h.rest (length s)
  rest-inside = x.inside

  module _ (m k : ℕ) (cn : Clipped h.second 8 m) (cz : Clipped h.third 4 k) (w : ℕ) (ew : w ≡ vertex_words (h.first % 4) m k) where
    rows_are : shape_rows (plain_vertices (left b s)) ≡ map (padded (vertex_mask (h.first % 4) m k)) (items_of ((h.rest.end - h.rest.at) / (4 * w)) (vertex_words (h.first % 4) m k) (left h.rest s))
    unfolding shape_rows plain_vertices whole
    rows_are =
        let o : ones (vertex_mask (h.first % 4) m k) ≡ vertex_words (h.first % 4) m k = vertex-words (h.first % 4) m k (omega arith) cn.low cz.low in
        let l = left-length s h.rest x.inside in
        rw (x.first_is, x.second_is, x.third_is, x.bytes_are, mask_clipped h.first h.second h.third m k cn cz, o, l, ew)

    cells : length (joined (shape_rows (plain_vertices (left b s)))) ≡ (h.rest.end - h.rest.at) / (4 * w) * 42
    cells =
        ap (λ l. length (joined l)) rows_are ∙ vertex-cells (h.first % 4) m k (items_of ((h.rest.end - h.rest.at) / (4 * w)) (vertex_words (h.first % 4) m k) (left h.rest s))
        ∙ ap (λ (j : ℕ). j * 42) (length-items-of ((h.rest.end - h.rest.at) / (4 * w)) (vertex_words (h.first % 4) m k) (left h.rest s))

    pub shape-place : h.rest.at + (h.rest.end - h.rest.at) / (4 * w) * (4 * vertex_words (h.first % 4) m k) ≤ h.rest.end
    shape-place = rw (← ew) (omega (arith, div-mul-le_self (h.rest.end - h.rest.at) (4 * w), x.inside.before))

    module _ (base : ℕ) (out : List ℕ) (room : base + length (joined (shape_rows (plain_vertices (left b s)))) ≤ length out) where
      pub shape-room : base + (h.rest.end - h.rest.at) / (4 * w) * 42 ≤ length out
      shape-room = omega (arith, cells)

      module _ (slice : length out * 4 < 2 ^ 63) where
        pub shape-many : Fits w64 ((h.rest.end - h.rest.at) / (4 * w) * 42)
        shape-many = record { fits = omega (arith, cells) }

        pub shape-sum : Fits w64 (base + (h.rest.end - h.rest.at) / (4 * w) * 42)
        shape-sum = record { fits = omega (arith, cells) }

    pub shape-end : (base : ℕ) → base + (h.rest.end - h.rest.at) / (4 * w) * 42 ≡ base + length (joined (shape_rows (plain_vertices (left b s))))
    shape-end base = ap (λ (j : ℕ). base + j) (sym cells)

    pub shape-put : (base : ℕ) (out put : List ℕ)
        → put ≡ sets out base (joined (map (padded (vertex_mask (h.first % 4) m k)) (items_of ((h.rest.end - h.rest.at) / (4 * w)) (vertex_words (h.first % 4) m k) (left h.rest s))))
        → put ≡ sets out base (joined (shape_rows (plain_vertices (left b s))))
    shape-put base out put e = e ∙ ap (λ l. sets out base (joined l)) (sym rows_are)

pub count_is : (f n z a e m k : ℕ) → Clipped n 8 m → Clipped z 4 k → (w : ℕ) → w ≡ vertex_words (f % 4) m k → (e - a) / (4 * w) ≡ (e - a) / (4 * ones (vertex_mask f n z))
count_is f n z a e m k cn cz w ew =
    let o : ones (vertex_mask (f % 4) m k) ≡ vertex_words (f % 4) m k = vertex-words (f % 4) m k (omega arith) cn.low cz.low in
    rw (mask_clipped f n z m k cn cz, o, ew)

pub clip_most : (x most r : ℕ) → Clipped x most r → r ≤ most
clip_most x most r c = c.low

pub ruleset count_laws = (count_is, clip_most)

pub ruleset shape_laws = (rest-inside, shape-place, shape-room, shape-many, shape-sum, shape-end, shape-put, clip_most)
