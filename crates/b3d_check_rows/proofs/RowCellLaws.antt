-- Rows by their number: their cells, the next one, those that are left.
use mathlib.Core.Path.{◌≡◌, refl, ap, sym, ◌∙◌}
use Prim.Native.Nat.{ℕ, zero, suc, ◌+◌, ◌-◌, ◌*◌, ◌^◌, ◌≤◌, ◌<◌}
use native.Mathlib.Nat.{add-zero, mul-suc, mul-le-mul_left}
use native.Mathlib.Omega.{arith}
use mathlib.Core.List.{List, [], ◌∷◌}
use lib.ListN.{length, take, drop, get_or, length-drop}
use lib.Seq.{drop-drop, get_or-take, get_or-drop, length-take-le}
use mir.Syntax.{w64}
use mir.Val.{Fits}
use Rattle.b3d_spec.specs.Rebuild.{cut}
use Rattle.b3d_spec.proofs.Rows.RowListLaws.{cut-length}
use Rattle.b3d_check_spec.proofs.PlaceLaws.{cut-drop}
use Rattle.b3d_check_rows.specs.Rows.{row_at, rows_at}

-- ---- cells

pub row_cell : (w i j : ℕ) (ws : List ℕ) → j < w → get_or (row_at w i ws) j 0 ≡ get_or ws (w * i + j) 0
unfolding row_at
row_cell w i j ws h = get_or-take w (drop (w * i) ws) j 0 h ∙ get_or-drop (w * i) ws j 0

pub row_first : (w i : ℕ) (ws : List ℕ) → 0 < w → get_or (row_at w i ws) 0 0 ≡ get_or ws (w * i) 0
row_first w i ws h = row_cell w i 0 ws h ∙ ap (λ (k : ℕ). get_or ws k 0) (add-zero (w * i))

-- ---- rows one after the other

next_word : (w i : ℕ) → w * (i + 1) ≡ w * i + w
next_word w i = let e : i + 1 ≡ suc i = omega arith in rw e (mul-suc w i)

pub rows_none : (w i : ℕ) (ws : List ℕ) → rows_at w i 0 ws ≡ []
unfolding rows_at cut
rows_none w i ws = refl

pub rows_next : (w i c : ℕ) (ws : List ℕ) → rows_at w i (suc c) ws ≡ row_at w i ws ∷ rows_at w (i + 1) c ws
unfolding rows_at row_at cut
rows_next w i c ws = rw (next_word w i, ← drop-drop w (w * i) ws)

pub rows-length : (w i c : ℕ) (ws : List ℕ) → length (rows_at w i c ws) ≡ c
unfolding rows_at
rows-length w i c ws = cut-length w c (drop (w * i) ws)

pub rows_take : (w i c m : ℕ) (ws : List ℕ) → c ≤ m → take c (rows_at w i m ws) ≡ rows_at w i c ws
rows_take w i zero m ws h = sym (rows_none w i ws)
rows_take w i (suc c) zero ws h = absurd (omega arith)
rows_take w i (suc c) (suc m) ws h = rw (rows_next w i m ws, rows_next w i c ws) (ap (λ (l : List (List ℕ)). row_at w i ws ∷ l) (rows_take w (i + 1) c m ws (omega arith)))

pub rows_drop : (w i c m : ℕ) (ws : List ℕ) → c ≤ m → drop c (rows_at w i m ws) ≡ rows_at w (i + c) (m - c) ws
rows_drop w i zero m ws h =
    let e : i + 0 ≡ i = omega arith in
    let z : m - 0 ≡ m = omega arith in
    rw (e, z)
rows_drop w i (suc c) zero ws h = absurd (omega arith)
rows_drop w i (suc c) (suc m) ws h =
    let e : i + suc c ≡ i + 1 + c = omega arith in
    let z : suc m - suc c ≡ m - c = omega arith in
    rw (rows_next w i m ws, e, z) (rows_drop w (i + 1) c m ws (omega arith))

-- ---- the rows of a whole table

pub rows_whole : (w c : ℕ) (ws : List ℕ) → cut w c ws ≡ rows_at w 0 c ws
unfolding rows_at
rows_whole w c ws = let e : w * 0 ≡ 0 = omega arith in rw e

pub rows-from : (w c i : ℕ) (ws : List ℕ) → i ≤ c → drop i (cut w c ws) ≡ rows_at w i (c - i) ws
unfolding rows_at
rows-from w c i ws h = cut-drop w c i ws h

pub rows-first : (w c i : ℕ) (ws : List ℕ) → i < c → get_or (drop i (cut w c ws)) 0 [] ≡ row_at w i ws
rows-first w c i ws h =
    let e : c - i ≡ suc (c - (i + 1)) = omega arith in
    rw (rows-from w c i ws (omega arith), e, rows_next w i (c - (i + 1)) ws)

-- ---- where rows stand

-- the words of one of the rows from `first` on, which are among n words
module _ (w first count end i n : ℕ) (h : i < end) (e : end ≡ first + count) (r : w * (first + count) ≤ n) where
  pub row_room : w * i + w ≤ n
  row_room =
      let k : w * (i + 1) ≤ w * (first + count) = mul-le-mul_left w (omega arith) in
      omega (arith, next_word w i)

  pub row_fits : n < 2 ^ 64 → Fits w64 (w * i)
  row_fits l = record { fits = omega (arith, row_room) }

pub row-length : (w i : ℕ) (ws : List ℕ) → w * i + w ≤ length ws → length (row_at w i ws) ≡ w
unfolding row_at
row-length w i ws h = length-take-le w (drop (w * i) ws) (omega (arith, length-drop (w * i) ws))
