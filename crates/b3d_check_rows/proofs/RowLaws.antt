-- A row of ids against its rules, by its cells; and a name.
use mathlib.Core.Path.{◌≡◌, ap, sym, ◌∙◌}
use Prim.Native.Nat.{ℕ, ◌+◌, ◌*◌, ◌^◌, ◌≤◌, ◌<◌}
use native.Mathlib.Omega.{arith}
use mathlib.Core.Bool.{Bool, false, ◌&&◌}
use mathlib.Core.List.{List, [], ◌∷◌}
use lib.ListN.{length, take, drop, get_or}
use lib.Dec.{ltb}
use borrow.Author.Tests.{lt-leb, le-leb}
use mir.Syntax.{w64}
use mir.Val.{Fits}
use Rattle.layout.specs.WellFormed.{all}
use Rattle.layout.specs.Rules.{Rule}
use Rattle.layout.proofs.TestLaws.{and_true}
use Rattle.b3d_spec.specs.Rules.{triangle_row, weight_row}
use Rattle.b3d_check_spec.specs.Check.{keeps, name_valid}
use Rattle.b3d_check_spec.proofs.Check.RowLaws.{cells, cells_are}
use Rattle.b3d_check_rows.specs.declared.Ids.{Ids}
use Rattle.b3d_check_rows.specs.declared.Ids.TheVariants.{Triangles, Weights}
use Rattle.b3d_check_rows.specs.IdRows.{id_width, id_row}
use Rattle.b3d_check_rows.specs.Rows.{row_at}
use Rattle.b3d_check_rows.proofs.RowCellLaws.{row_cell, row_first, row-length}

-- a row of w words as its cells
keeps-cells : (rs : List Rule) (w i : ℕ) (ws : List ℕ) → w * i + w ≤ length ws → keeps rs (cells (row_at w i ws) 0 w) ≡ keeps rs (row_at w i ws)
keeps-cells rs w i ws h = ap (keeps rs) (cells_are (row_at w i ws) w (row-length w i ws h))

pub triangle-row : (v i : ℕ) (ws : List ℕ) → 3 * i + 3 ≤ length ws
    → (ltb (get_or ws (3 * i) 0) v && (ltb (get_or ws (3 * i + 1) 0) v && ltb (get_or ws (3 * i + 2) 0) v)) ≡ keeps (triangle_row v) (row_at 3 i ws)
unfolding keeps cells
triangle-row v i ws h =
    rw (← row_first 3 i ws (omega arith), ← row_cell 3 i 1 ws (omega arith), ← row_cell 3 i 2 ws (omega arith))
    (ap (λ (b : Bool). ltb (get_or (row_at 3 i ws) 0 0) v && (ltb (get_or (row_at 3 i ws) 1 0) v && b)) (sym (and_true (ltb (get_or (row_at 3 i ws) 2 0) v)))
    ∙ keeps-cells (triangle_row v) 3 i ws h)

pub weight-row : (bones i : ℕ) (ws : List ℕ) → 2 * i + 2 ≤ length ws → ltb (get_or ws (2 * i) 0) bones ≡ keeps (weight_row bones) (row_at 2 i ws)
unfolding keeps cells
weight-row bones i ws h =
    rw (← row_first 2 i ws (omega arith))
    (sym (and_true (ltb (get_or (row_at 2 i ws) 0 0) bones)) ∙ keeps-cells (weight_row bones) 2 i ws h)

-- ---- either as a row of ids

some-width : (ids : Ids) (a : ℕ) → a ≤ id_width ids * a
some-width Triangles a = omega arith
some-width Weights a = omega arith

module _ (ids : Ids) where
  -- a number of rows that stand among n words
  pub id-fits : (a n : ℕ) → id_width ids * a ≤ n → n < 2 ^ 64 → Fits w64 a
  id-fits a n h l = record { fits = omega (arith, some-width ids a) }

  pub id_next : (first count end i n : ℕ) → i < end → end ≡ first + count → id_width ids * (first + count) ≤ n → n < 2 ^ 64 → Fits w64 (i + 1)
  id_next first count end i n k e h l = record { fits = omega (arith, some-width ids (first + count)) }

  module _ (v i : ℕ) (ws : List ℕ) where
    pub triangle-room : ids ≡ Triangles → (n : ℕ) → id_width ids * i + id_width ids ≤ n → 3 * i + 3 ≤ n
    triangle-room e n h = rw e at h

    pub triangle-id : ids ≡ Triangles → (r : Bool) → r ≡ keeps (triangle_row v) (row_at 3 i ws) → r ≡ keeps (id_row ids v) (row_at (id_width ids) i ws)
    triangle-id e r h = rw e h

    pub weight-room : ids ≡ Weights → (n : ℕ) → id_width ids * i + id_width ids ≤ n → 2 * i + 2 ≤ n
    weight-room e n h = rw e at h

    pub weight-id : ids ≡ Weights → (r : Bool) → r ≡ keeps (weight_row v) (row_at 2 i ws) → r ≡ keeps (id_row ids v) (row_at (id_width ids) i ws)
    weight-id e r h = rw e h

pub ruleset id_laws = (triangle-room, triangle-id, weight-room, weight-id)

-- ---- names

module _ (ns : List ℕ) (place size from many : ℕ) (e : from ≡ place) (f : many ≡ size) where
  pub name-past : length ns < from + many → false ≡ name_valid ns (place ∷ size ∷ [])
  unfolding name_valid
  name-past h = rw (← e, ← f, lt-leb (from + many) (length ns) h)

  pub name-bytes : from + many ≤ length ns → (r : Bool) → r ≡ all (λ b. ltb 0 b) (take many (drop from ns)) → r ≡ name_valid ns (place ∷ size ∷ [])
  unfolding name_valid
  name-bytes h r q = rw (← e, ← f, le-leb (from + many) (length ns) h) q

-- a row that begins with the name's cells
pub name-cells : (ns : List ℕ) (w i : ℕ) (ws : List ℕ) → 2 ≤ w → name_valid ns (get_or ws (w * i) 0 ∷ get_or ws (w * i + 1) 0 ∷ []) ≡ name_valid ns (row_at w i ws)
unfolding name_valid
name-cells ns w i ws h = rw (row_first w i ws (omega arith), row_cell w i 1 ws (omega arith))

pub name-row : (ns : List ℕ) (w i : ℕ) (ws : List ℕ) → 2 ≤ w → (r : Bool) → r ≡ name_valid ns (get_or ws (w * i) 0 ∷ get_or ws (w * i + 1) 0 ∷ []) → r ≡ name_valid ns (row_at w i ws)
name-row ns w i ws h r e = e ∙ name-cells ns w i ws h

pub ruleset name_laws = (name-past, name-bytes)
