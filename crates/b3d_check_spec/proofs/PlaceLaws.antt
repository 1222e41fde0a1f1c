-- Rows by place: cell j of row i stands at word w i + j.
use mathlib.Core.Path.{◌≡◌}
use Prim.Native.Nat.{ℕ, zero, suc, ◌+◌, ◌-◌, ◌*◌, ◌≤◌, ◌<◌}
use native.Mathlib.Omega.{arith}
use mathlib.Core.List.{List, []}
use lib.ListN.{drop, get_or}
use lib.Seq.{drop-drop, get_or-take, get_or-drop}
use Rattle.b3d_spec.specs.Rebuild.{cut}

pub cut-drop : (w c i : ℕ) (ws : List ℕ) → i ≤ c → drop i (cut w c ws) ≡ cut w (c - i) (drop (w * i) ws)
unfolding cut
cut-drop w c zero ws h =
    let e : w * 0 ≡ 0 = omega arith in
    let z : c - 0 ≡ c = omega arith in
    rw (e, z)
cut-drop w zero (suc i) ws h = absurd (omega arith)
cut-drop w (suc c) (suc i) ws h =
    let e : w * suc i ≡ w + w * i = omega arith in
    let z : suc c - suc i ≡ c - i = omega arith in
    rw (e, z, ← drop-drop (w * i) w ws) (cut-drop w c i (drop w ws) (omega arith))

pub cut_cell : (w c i j : ℕ) (ws : List ℕ) → i < c → j < w → get_or (get_or (cut w c ws) i []) j 0 ≡ get_or ws (w * i + j) 0
unfolding cut
cut_cell w zero i j ws h k = absurd (omega arith)
cut_cell w (suc c) zero j ws h k = let e : w * 0 + j ≡ j = omega arith in rw e (get_or-take w ws j 0 k)
cut_cell w (suc c) (suc i) j ws h k =
    let e : w * suc i + j ≡ w + (w * i + j) = omega arith in
    rw (e, ← get_or-drop w ws (w * i + j) 0) (cut_cell w c i j (drop w ws) (omega arith) k)
