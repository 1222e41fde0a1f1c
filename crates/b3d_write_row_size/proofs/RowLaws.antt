-- A law for each way through the functions that say what a row adds, and through the loop over rows.
use mathlib.Core.Path.{◌≡◌, refl, ap}
use Prim.Native.Nat.{ℕ, zero, suc, ◌+◌, ◌*◌, ◌<◌, ◌≤◌}
use native.Mathlib.Omega.{arith}
use native.Mathlib.Nat.{mul-le-mul}
use mathlib.Core.Bool.{Bool, true, false}
use mathlib.Core.List.{List, [], ◌∷◌}
use lib.ListN.{length, take, drop, get_or, drop_of_length-le}
use lib.Seq.{drop-drop}
use mir.Syntax.{w32, w64}
use mir.Val.{Fits}
use lib.Dec.{eqb}
use borrow.Author.Tests.{eq-eqb, ne_eqb}
use Rattle.wire.specs.Test.{if}
use Rattle.layout.proofs.AllLaws.{All}
use Rattle.layout.proofs.ListLaws.{cell_take}
use Rattle.b3d_spec.specs.Rebuild.{cut}
use Rattle.b3d_spec.proofs.Rows.RowListLaws.{cut-length}
use Rattle.b3d_spec.specs.Rules.{vertex_words, key_words, row_limit}
use Rattle.b3d_spec.specs.Tables.{node_width}
use Rattle.b3d_write_row_size.specs.RowSize.{row_most, table_most, sum, node_bytes, mesh_bytes, list_bytes, named_bytes, row_bytes, rows_bytes, Sizable, Wide, RowAdds, RowsAdd}

-- ---- a row

-- many items of so many words, each below what a cell and a row can say; n is that cell as a size
module _ (n many words : ℕ) (e : n ≡ many) (h : Fits w32 many) (m : ℕ) (k : words ≤ m) (l : m ≤ 42) where
  product-low : n * (4 * words) ≤ 0x100000000 * 168
  product-low = let a : n ≤ 0x100000000 = omega (arith, h.fits) in let b : 4 * words ≤ 168 = omega arith in mul-le-mul a b

  pub product-fits : Fits w64 (n * (4 * words))
  product-fits = let p = product-low in record { fits = omega arith }

  pub items-fit : (head : ℕ) → head ≤ 64 → Fits w64 (head + n * (4 * words))
  items-fit head small = let p = product-low in record { fits = omega arith }

  pub adds_items : (head w : ℕ) → head ≤ 64 → words ≡ w → RowAdds (head + many * (4 * w)) (head + n * (4 * words))
  adds_items head w small q = let p = product-low in record { is = rw (← q, e); low = omega arith }

pub ruleset items_laws = (product-fits, items-fit, adds_items)

pub bytes-yes : (c v b : ℕ) → c ≡ v → b ≡ if (eqb c v) b 0
unfolding if
bytes-yes c v b e = rw (eq-eqb c v e)

pub bytes-no : (c v b : ℕ) → (c ≡ v → ⊥) → 0 ≡ if (eqb c v) b 0
unfolding if
bytes-no c v b e = rw (ne_eqb c v e)

if-low : (b : Bool) (x : ℕ) → if b x 0 ≤ x
unfolding if
if-low true x = omega arith
if-low false x = omega arith

module _ (name n kind anim x y : ℕ) (en : n ≡ name) (h : Fits w32 name) (ex : x ≡ if (eqb kind 2) 8 0) where
  pub node-sum-low : Fits w64 (n + 49 + x)
  node-sum-low = record { fits = omega (arith, h.fits, if-low (eqb kind 2) 8) }

  module _ (ey : y ≡ if (eqb anim 1) 20 0) where
    pub node-sum-low_2 : Fits w64 (n + 49 + x + y)
    node-sum-low_2 = record { fits = omega (arith, h.fits, if-low (eqb kind 2) 8, if-low (eqb anim 1) 20) }

    pub node_adds : RowAdds (name + 49 + if (eqb kind 2) 8 0 + if (eqb anim 1) 20 0) (n + 49 + x + y)
    node_adds = record { is = rw (en, ex, ey); low = omega (arith, h.fits, if-low (eqb kind 2) 8, if-low (eqb anim 1) 20) }

pub ruleset node_laws = (bytes-yes, bytes-no, node-sum-low, node-sum-low_2, node_adds)

module _ (at : ℕ) (ws : List ℕ) where
  pub node-cells : (r : ℕ) → RowAdds (get_or ws (at + 1) 0 + 49 + if (eqb (get_or ws (at + 13) 0) 2) 8 0 + if (eqb (get_or ws (at + 16) 0) 1) 20 0) r → RowAdds (node_bytes (take node_width (drop at ws))) r
  unfolding node_bytes
  node-cells r a = rw (cell_take node_width at 1 ws (omega arith), cell_take node_width at 13 ws (omega arith), cell_take node_width at 16 ws (omega arith)) a

  pub mesh-cells : (r : ℕ) → RowAdds (32 + get_or ws (at + 6) 0 * (4 * vertex_words (get_or ws (at + 2) 0) (get_or ws (at + 3) 0) (get_or ws (at + 4) 0))) r → RowAdds (mesh_bytes (take 9 (drop at ws))) r
  unfolding mesh_bytes
  mesh-cells r a = rw (cell_take 9 at 6 ws (omega arith), cell_take 9 at 2 ws (omega arith), cell_take 9 at 3 ws (omega arith), cell_take 9 at 4 ws (omega arith)) a

  pub list-cells : (r : ℕ) → RowAdds (12 + get_or ws (at + 3) 0 * (4 * key_words (get_or ws (at + 1) 0))) r → RowAdds (list_bytes (take 4 (drop at ws))) r
  unfolding list_bytes
  list-cells r a = rw (cell_take 4 at 3 ws (omega arith), cell_take 4 at 1 ws (omega arith)) a

  module _ (s : Sizable 4 (take 9 (drop at ws))) where
    pub size-flags : get_or ws (at + 2) 0 ≤ 3
    size-flags = rw (← cell_take 9 at 2 ws (omega arith)) (s.flags refl)

    pub size-sets : get_or ws (at + 3) 0 ≤ 8
    size-sets = rw (← cell_take 9 at 3 ws (omega arith)) (s.sets refl)

    pub size-size : get_or ws (at + 4) 0 ≤ 4
    size-size = rw (← cell_take 9 at 4 ws (omega arith)) (s.size refl)

  pub size-keys : Sizable 9 (take 4 (drop at ws)) → get_or ws (at + 1) 0 ≤ 7
  size-keys s = rw (← cell_take 4 at 1 ws (omega arith)) (s.keys refl)

pub ruleset cell_laws = (node-cells, mesh-cells, list-cells, size-flags, size-sets, size-size, size-keys)

module _ (at : ℕ) (ws : List ℕ) (k w more : ℕ) (v : Wide k w) where
  module _ (n : ℕ) (h : at + w ≤ n) where
    pub inside-node : k ≡ 3 → at + node_width ≤ n
    inside-node e = omega (arith, v.nodes e)

    pub inside-mesh : k ≡ 4 → at + 9 ≤ n
    inside-mesh e = omega (arith, v.meshes e)

    pub inside-list : k ≡ 9 → at + 4 ≤ n
    inside-list e = omega (arith, v.lists e)

  module _ (s : Sizable k (take w (drop at ws))) where
    pub sizable_mesh : k ≡ 4 → Sizable 4 (take 9 (drop at ws))
    sizable_mesh e = rw (e, v.meshes e) at s

    pub sizable_list : k ≡ 9 → Sizable 9 (take 4 (drop at ws))
    sizable_list e = rw (e, v.lists e) at s

  pub row-node : k ≡ 3 → (r : ℕ) → RowAdds (node_bytes (take node_width (drop at ws))) r → RowAdds (row_bytes k more (take w (drop at ws))) r
  unfolding row_bytes if
  row-node e r a = rw (e, v.nodes e) a

  pub row-mesh : k ≡ 4 → (r : ℕ) → RowAdds (mesh_bytes (take 9 (drop at ws))) r → RowAdds (row_bytes k more (take w (drop at ws))) r
  unfolding row_bytes if
  row-mesh e r a = rw (e, v.meshes e) a

  pub row_list : k ≡ 9 → (r : ℕ) → RowAdds (list_bytes (take 4 (drop at ws))) r → RowAdds (row_bytes k more (take w (drop at ws))) r
  unfolding row_bytes if
  row_list e r a = rw (e, v.lists e) a

  pub row_named : (k ≡ 3 → ⊥) → (k ≡ 4 → ⊥) → (k ≡ 9 → ⊥) → 2 ≤ w → (r : ℕ) → RowAdds (get_or ws (at + 1) 0 + more) r → RowAdds (row_bytes k more (take w (drop at ws))) r
  unfolding row_bytes named_bytes if
  row_named a b c h r x = rw (ne_eqb k 3 a, ne_eqb k 4 b, ne_eqb k 9 c, cell_take w at 1 ws (omega arith)) x

pub ruleset row_laws = (inside-node, inside-mesh, inside-list, sizable_mesh, sizable_list, row-node, row-mesh, row_list, row_named)

-- ---- the loop over rows

row_next : (w c i : ℕ) (ws : List ℕ) → i < c → drop i (cut w c ws) ≡ take w (drop (w * i) ws) ∷ drop (i + 1) (cut w c ws)
unfolding cut
row_next w zero i ws h = absurd (omega arith)
row_next w (suc c) zero ws h = let e : w * 0 ≡ 0 = omega arith in rw e
row_next w (suc c) (suc i) ws h =
    let e : w * suc i ≡ w + w * i = omega arith in
    let z : suc i + 1 ≡ suc (i + 1) = omega arith in
    rw (e, z, ← drop-drop (w * i) w ws) (row_next w c i (drop w ws) (omega arith))

-- i of c rows of w words are added up to n
pub record Summed (k more w c : ℕ) (ws : List ℕ) (n i : ℕ) : Type 0 where
  pub some : i ≤ c
  pub few : c ≤ row_limit
  pub there : w * c ≤ length ws
  pub sizable : All (Sizable k) (drop i (cut w c ws))
  pub so_far : n + sum (row_bytes k more) (drop i (cut w c ws)) ≡ rows_bytes k more (cut w c ws)
  pub low : n ≤ i * row_most

module _ (k more w c : ℕ) (ws : List ℕ) where
  pub sum_none : w * c ≤ length ws → c ≤ row_limit → All (Sizable k) (cut w c ws) → Summed k more w c ws 0 0
  unfolding rows_bytes
  sum_none le few s = record { some = omega arith; few = few; there = le; sizable = s; so_far = omega arith; low = omega arith }

  module _ (n i : ℕ) (v : Summed k more w c ws n i) where
    all_added : c ≤ i → n ≡ rows_bytes k more (cut w c ws)
    unfolding sum
    all_added le =
        let e : i ≡ length (cut w c ws) = omega (arith, v.some, cut-length w c ws) in
        let z : drop i (cut w c ws) ≡ [] = drop_of_length-le (cut w c ws) {i = i} (omega arith) in
        let q : sum (row_bytes k more) (drop i (cut w c ws)) ≡ 0 = ap (sum (row_bytes k more)) z in
        omega (arith, v.so_far)

    sum_low : n ≤ table_most
    sum_low = omega (arith, v.low, v.some, v.few)

    pub sum_done : c ≤ i → RowsAdd table_most (rows_bytes k more (cut w c ws)) n
    sum_done le = record { is = all_added le; low = omega (arith, sum_low) }

    module _ (h : i < c) where
      -- the next row
      next_row : drop i (cut w c ws) ≡ take w (drop (w * i) ws) ∷ drop (i + 1) (cut w c ws)
      next_row = row_next w c i ws h

      pub sum_inside : w * i + w ≤ length ws
      sum_inside = let e : w * suc i ≡ w + w * i = omega arith in let m : w * suc i ≤ w * c = (let a : w ≤ w = omega arith in let b : suc i ≤ c = omega arith in mul-le-mul a b) in omega (arith, v.there)

      pub sum_sizable : Sizable k (take w (drop (w * i) ws))
      sum_sizable = (rw next_row at v.sizable).0

      module _ (r : ℕ) (a : RowAdds (row_bytes k more (take w (drop (w * i) ws))) r) where
        pub sum_fits : Fits w64 (n + r)
        sum_fits = record { fits = omega (arith, sum_low, a.low) }

        pub sum_more : Summed k more w c ws (n + r) (i + 1)
        unfolding sum
        sum_more = record {
          some = omega arith;
          few = v.few;
          there = v.there;
          sizable = (rw next_row at v.sizable).1;
          so_far = omega (arith, v.so_far, a.is, ap (sum (row_bytes k more)) next_row);
          low = omega (arith, v.low, a.low);
        }

pub product-index : (w i c : ℕ) → w ≤ 42 → i < c → c ≤ row_limit → Fits w64 (w * i)
product-index w i c h l k = let p : w * i ≤ 42 * row_limit = (let b : i ≤ row_limit = omega arith in mul-le-mul h b) in record { fits = omega arith }

pub ruleset sum_laws = (sum_none, sum_done, sum_inside, sum_sizable, sum_fits, sum_more, product-index)
