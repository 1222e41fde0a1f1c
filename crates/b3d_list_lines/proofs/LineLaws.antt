-- A law for each way through `put_name` and `put_names`.
use mathlib.Core.Path.{◌≡◌, ap, ◌∙◌}
use Prim.Native.Nat.{ℕ, suc, ◌+◌, ◌-◌, ◌*◌, ◌<◌, ◌≤◌}
use native.Mathlib.Nat.{add-zero}
use native.Mathlib.Omega.{arith}
use mathlib.Core.List.{List, ◌++◌}
use lib.ListN.{length, drop, get_or}
use lib.Seq.{get_or-drop, drop-drop}
use Rattle.b3d_spec.specs.Tables.{node_width}
use Rattle.b3d_list_name.specs.Name.{name_or}
use Rattle.b3d_list_text.specs.Puts.{Puts}
use Rattle.b3d_list_text.specs.Text.{text_line}
use Rattle.b3d_list_text.proofs.PutLaws.{Putting, putting_start, putting_part, putting_done}
use Rattle.b3d_list_lines.specs.Lines.{unnamed, row_line, row_lines}

-- ---- `put_name`

pub name_done : (s ws : List ℕ) (i place size : ℕ) → place ≡ get_or ws (node_width * i) 0 → size ≡ get_or ws (node_width * i + 1) 0
    → (w : List ℕ) → w ≡ name_or s unnamed place size → (xs : List ℕ) (at : ℕ) (ys : List ℕ) (p : ℕ) → Puts (text_line w) xs at ys p
    → Puts (row_line s (drop (node_width * i) ws)) xs at ys p
unfolding row_line
name_done s ws i place size e f w g xs at ys p h = rw (get_or-drop (node_width * i) ws 0 0, add-zero (node_width * i), get_or-drop (node_width * i) ws 1 0, ← e, ← f, ← g) h

-- ---- `put_names`: the lines of the rows from i on are left

pub record Naming (s ws : List ℕ) (n : ℕ) (xs : List ℕ) (at : ℕ) (ys : List ℕ) (p i : ℕ) : Type 0 where
  pub before : i ≤ n
  pub puts : Putting (row_lines s ws n) xs at (row_lines s (drop (node_width * i) ws) (n - i)) ys p

module _ (s ws : List ℕ) (n : ℕ) (xs : List ℕ) (at : ℕ) where
  pub names_start : at ≤ length xs → Naming s ws n xs at xs at 0
  names_start h = let z : n - 0 ≡ n = omega arith in record { before = omega arith; puts = rw z (putting_start (row_lines s ws n) xs at h) }

  module _ (ys : List ℕ) (p i : ℕ) (g : Naming s ws n xs at ys p i) where
    pub names_inside : p ≤ length ys
    names_inside = g.puts.inside

    pub names_next : i < n → (zs : List ℕ) (q : ℕ) → Puts (row_line s (drop (node_width * i) ws)) ys p zs q → Naming s ws n xs at zs q (i + 1)
    unfolding row_lines
    names_next h zs q k =
        let m : n - i ≡ suc (n - (i + 1)) = omega arith in
        let d : drop node_width (drop (node_width * i) ws) ≡ drop (node_width * (i + 1)) ws = drop-drop node_width (node_width * i) ws ∙ ap (λ (j : ℕ). drop j ws) (let j : node_width * i + node_width ≡ node_width * (i + 1) = omega arith in j) in
        let rest = row_lines s (drop (node_width * (i + 1)) ws) (n - (i + 1)) in
        let e : row_lines s (drop (node_width * i) ws) (n - i) ≡ row_line s (drop (node_width * i) ws) ++ rest = rw (m, d) in
        record { before = omega arith; puts = putting_part (row_lines s ws n) xs at (row_lines s (drop (node_width * i) ws) (n - i)) ys p g.puts (row_line s (drop (node_width * i) ws)) rest zs q e k }

    pub names_done : n ≤ i → Puts (row_lines s ws n) xs at ys p
    unfolding row_lines
    names_done h = let z : n - i ≡ 0 = omega arith in putting_done (row_lines s ws n) xs at (row_lines s (drop (node_width * i) ws) (n - i)) ys p g.puts (rw z)

pub ruleset names_laws = (names_start, names_inside, names_next, names_done)
