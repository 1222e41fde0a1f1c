-- What the test on a node says: the rows are the node's own, and the node fits.
use mathlib.Core.Path.{◌≡◌, ap, ap₂, sym, ◌∙◌}
use Prim.Native.Nat.{ℕ}
use native.Mathlib.Omega.{arith}
use mathlib.Core.List.{List, [], ◌∷◌, ◌++◌}
use lib.ListN.{length, take, drop, get_or, take-append-drop}
use lib.Seq.{take_at, drop_at, drop-drop, get_or-drop}
use lib.Dec.{eqb, eqb→eq}
use Rattle.wire.specs.Bytes.{AllBytes}
use Rattle.wire.specs.Test.{if}
use Rattle.layout.proofs.AllLaws.{All}
use Rattle.layout.proofs.TestLaws.{Tests, both, via}
use Rattle.layout.proofs.ResultLaws.{if_case}
use Rattle.layout.specs.Rows.{name_cells}
use Rattle.b3d_spec.specs.Rebuild.{name_from, owned_by, keys_from, anim_from, Rows, kind_from, data_from}
use Rattle.b3d_spec.specs.Scene.{Data}
use Rattle.b3d_spec.specs.Tables.{reached, part_tables, kind_cells, anim_cells, node_row, list_rows, own_rows, node_width}
use Rattle.b3d_spec.specs.declared.Counts.{Counts}
use Rattle.b3d_spec.proofs.WellFormedLaws.{FitKeys, FitData}
use Rattle.b3d_spec.proofs.Rows.RowPartLaws.{Stands, kind-wide, anim-wide, lists_length}
use Rattle.b3d_spec.proofs.Rows.WordCountLaws.{any-words}
use Rattle.b3d_spec.proofs.Rows.RowListLaws.{mine_take}
use Rattle.b3d_check_spec.specs.Check.{node_valid}
use Rattle.b3d_check_spec.proofs.Check.RowLaws.{Begins, begins-take, take_begins, all_drop, Full, full-take, full-drop, cells, cells-front, last_cell, any-fits}
use Rattle.b3d_check_spec.proofs.Check.GroupLaws.{RunsAre, runs_length, lists_run, lists_law}
use Rattle.b3d_check_spec.proofs.Check.MeshLaws.{lists-is}
use Rattle.b3d_check_spec.proofs.Check.KindLaws.{NameIs, name_is, Whole, KindIs, kind-is, AnimIs, anim_is}

-- ---- a node's key lists

mine_are : (P : List ℕ → Type 0) (i : ℕ) (ls : List (List ℕ)) → All P ls → All (λ x. P x × (get_or x 0 0 ≡ i)) (owned_by i ls)
unfolding owned_by
mine_are P i [] h = tt
mine_are P i (x ∷ ls) h =
    if_case (All (λ y. P y × (get_or y 0 0 ≡ i))) (eqb (get_or x 0 0) i) (x ∷ owned_by i ls) [] (λ e. ((h.0, eqb→eq (get_or x 0 0) i e), mine_are P i ls h.1)) (λ e. tt)

-- ---- a node

-- table k goes on, after n rows, with the rows of d
abbrev pub OwnBegins : Rows → Counts → Data → ℕ → ℕ → ℕ → Type 0
OwnBegins R n d p below k = Begins (own_rows k d p below n) (drop (reached k n) (R k))

abbrev pub NodeIs : List ℕ → ℕ → ℕ → Rows → List ℕ → Counts → Data → Type 0
NodeIs ns b c R x n d = (node_row d (get_or x 2 0) (get_or x 20 0) n ≡ x) × FitData b c d × Stands ns d.name × All (OwnBegins R n d (get_or x 2 0) (get_or x 20 0)) part_tables

-- what the four tests of a node say
abbrev pub NodeParts : List ℕ → ℕ → ℕ → Rows → List ℕ → Counts → Type 0
NodeParts ns b c R x n =
    let y = drop 13 x in
    NameIs ns x (name_from ns x)
    × (KindIs b c R n y (kind_from R n (get_or y 0 0) (get_or y 2 0))
    × (RunsAre lists_run FitKeys n.nodes n.keys (owned_by n.nodes (drop n.lists (R 9))) (drop n.keys (R 10)) × AnimIs (take 4 (drop 3 y)) (anim_from (take 4 (drop 3 y)))))

module _ (ns : List ℕ) (b c : ℕ) (R : Rows) (x : List ℕ) (n : Counts) where
  node-to : Full node_width x → NodeParts ns b c R x n → NodeIs ns b c R x n (data_from ns R x n)
  unfolding data_from node_row name_cells name_from own_rows if reached cells
  node-to full h =
      let y = drop 13 x in
      let w = take 10 (drop 3 x) in
      let k = kind_from R n (get_or y 0 0) (get_or y 2 0) in
      let a = anim_from (take 4 (drop 3 y)) in
      let r = anim_cells a ++ (get_or x 20 0 ∷ []) in
      let kk = h.1.0 in
      let ll = h.1.1.0 in
      let aa = h.1.1.1 in
      let ls = drop n.lists (R 9) in
      let last : get_or (drop 3 y) 4 0 ≡ get_or x 20 0 = get_or-drop 3 y 4 0 ∙ get_or-drop 13 x 7 0 in
      let er : r ≡ drop 3 y = ap₂ (λ (l : List ℕ) (v : ℕ). l ++ (v ∷ [])) aa.0 (sym last) ∙ last_cell 4 (drop 3 y) (omega (arith, (full-drop 3 5 y (full-drop 13 8 x full)).0)) in
      let ey : kind_cells k n ++ r ≡ y = ap₂ ◌++◌ kk.0 er ∙ take-append-drop 3 y in
      let ew : w ++ (kind_cells k n ++ r) ≡ drop 3 x = ap (λ (z : List ℕ). w ++ z) (ey ∙ sym (drop-drop 10 3 x)) ∙ take-append-drop 10 (drop 3 x) in
      let ex = (λ i. get_or x 0 0 ∷ h.0.2 i ∷ get_or x 2 0 ∷ ew i) ∙ cells-front x 3 (omega (arith, full.0)) in
      let fw = any-fits 10 w (full-take 10 18 (drop 3 x) (omega arith) (full-drop 3 18 x full)) in
      let bl = take_begins (length (owned_by n.nodes ls)) _ ls (ll.0 ∙ mine_take n.nodes ls) in
      let fit : FitData b c (data_from ns R x n) = record { name = h.0.0; words = fw; kind = kk.1; keys = ll.1; anim = aa.1 } in
      (ex, fit, h.0.1, (kk.2, (kk.3, (kk.4, (kk.5, (kk.6, (bl, (ll.2, tt))))))))

  pub node-from : NodeIs ns b c R x n (data_from ns R x n) → NodeParts ns b c R x n
  unfolding data_from node_row name_cells own_rows if reached
  node-from h =
      let y = drop 13 x in
      let w = take 10 (drop 3 x) in
      let k = kind_from R n (get_or y 0 0) (get_or y 2 0) in
      let a = anim_from (take 4 (drop 3 y)) in
      let r = anim_cells a ++ (get_or x 20 0 ∷ []) in
      let ls = drop n.lists (R 9) in
      let ks = drop n.keys (R 10) in
      let xs = owned_by n.nodes ls in
      let S = keys_from xs ks in
      let f = h.1 in
      let g = h.3 in
      let q = g.1.1.1.1 in
      let ez : kind_cells k n ++ r ≡ y = sym (drop_at w (kind_cells k n ++ r) 10 (any-words 10 w f.words)) ∙ ap (λ (l : List ℕ). drop 13 l) h.0 in
      let ek : kind_cells k n ≡ take 3 y = sym (take_at (kind_cells k n) r 3 (kind-wide k n)) ∙ ap (λ (l : List ℕ). take 3 l) ez in
      let ea : anim_cells a ≡ take 4 (drop 3 y) = sym (take_at (anim_cells a) (get_or x 20 0 ∷ []) 4 (anim-wide a f.anim)) ∙ ap (λ (l : List ℕ). take 4 l) (sym (drop_at (kind_cells k n) r 3 (kind-wide k n)) ∙ ap (λ (l : List ℕ). drop 3 l) ez) in
      let ll : length (list_rows n.nodes n.keys S) ≡ length xs = lists_length n.nodes n.keys S ∙ runs_length lists_run lists_law xs ks in
      let el : list_rows n.nodes n.keys S ≡ xs = begins-take (list_rows n.nodes n.keys S) ls (length xs) ll q.1.0 ∙ sym (mine_take n.nodes ls) in
      let en = ap (λ (r : List ℕ). get_or r 1 0) h.0 in
      ((f.name, h.2, en), ((ek, f.kind, g.0, g.1.0, g.1.1.0, g.1.1.1.0, q.0), ((el, f.keys, q.1.1.0), (ea, f.anim))))

  pub node-is : Full node_width x → AllBytes ns → Whole R → Tests (node_valid ns b c R x n) (NodeIs ns b c R x n (data_from ns R x n))
  unfolding node_valid
  node-is full bytes whole =
      let y = drop 13 x in
      let wy = full-drop 13 8 x full in
      let i = n.nodes in
      let ls = drop n.lists (R 9) in
      via (node-to full) node-from
      (both (name_is ns x bytes) (both (kind-is b c R n y whole wy.0)
      (both (lists-is i n.keys (owned_by i ls) (drop n.keys (R 10)) (mine_are (Full 4) i ls (all_drop (Full 4) n.lists (R 9) whole.lists)) (all_drop (Full 11) n.keys (R 10) whole.keys))
      (anim_is (take 4 (drop 3 y)) (full-take 4 5 (drop 3 y) (omega arith) (full-drop 3 5 y wy))))))
