-- Laws of one row of table 3: which counts it tells, its first cells and its length.
use mathlib.Core.Path.{◌≡◌, refl, ap, sym, subst}
use Prim.Native.Nat.{ℕ, ◌+◌}
use native.Mathlib.Omega.{arith}
use mathlib.Core.List.{List, [], ◌∷◌, ◌++◌}
use lib.ListN.{length, length-append}
use Rattle.wire.specs.Cursors.{left}
use Rattle.wire.specs.declared.Cursor.{Cursor}
use Rattle.layout.specs.Result.{Result, accept, reject}
use Rattle.layout.specs.Parts.{Name, Step, named}
use Rattle.layout.specs.Rows.{name_cells}
use Rattle.b3d_spec.specs.declared.Counts.{Counts}
use Rattle.b3d_spec.specs.Rules.{node_row as node_words}
use Rattle.b3d_spec.specs.Scene.{Kind, pivot, mesh, bone}
use Rattle.b3d_spec.specs.Tables.{kind_cells, anim_cells, node_row, node_width}
use Rattle.b3d_spec.specs.Tags.{Chunks, is}
use Rattle.b3d_spec_plain_rows.specs.Rows.{kind_of, anim_of, nodes_before, row_of}
use Rattle.b3d_chunk_walk.specs.Walks.{NodeRead}
use Rattle.b3d_read_node_cells.specs.Parts.{told}
use Rattle.b3d_read_node_cells.proofs.CellLaws.{kind-long, anim-long}

-- it tells of two counts alone
pub row_told : (o : Result (Step (Name × List ℕ))) (cs : Chunks) (parent end : ℕ) (n : Counts) → row_of o cs parent end n ≡ row_of o cs parent end (told n.meshes n.weights)
unfolding row_of node_row kind_cells told
row_told (reject i p) cs parent end n = refl
row_told (accept x) cs parent end n = ap (λ (l : List ℕ). name_cells x.value.0 ++ (parent ∷ (x.value.1 ++ (l ++ (anim_cells (anim_of cs) ++ (nodes_before end cs ∷ [])))))) (cells (kind_of cs))
  where
    cells : (k : Kind) → kind_cells k n ≡ kind_cells k (told n.meshes n.weights)
    cells pivot = refl
    cells (mesh m) = refl
    cells (bone ws) = refl

-- a row of all its cells, the first and the third being these
pub record Row (place parent : ℕ) (row : List ℕ) : Type 0 where
  pub size : ℕ
  pub others : List ℕ
  pub is : row ≡ place ∷ size ∷ parent ∷ others
  pub long : length row ≡ node_width

pub row-of : (s : List ℕ) (p : ℕ) (b : Cursor) → NodeRead s p b → (cs : Chunks) (parent end : ℕ) (n : Counts) → Row (p + 8) parent (row_of (named node_words (p + 8) (left b s)) cs parent end n)
unfolding row_of node_row name_cells
row-of s p b x cs parent end n =
    let ws = x.step.value.1 in
    let ks = kind_cells (kind_of cs) n in
    let ac = anim_cells (anim_of cs) in
    let last = nodes_before end cs ∷ [] in
    subst (λ (o : Result (Step (Name × List ℕ))). Row (p + 8) parent (row_of o cs parent end n)) (sym x.is)
    (record {
      size = length x.step.value.0.bytes;
      others = ws ++ (ks ++ (ac ++ last));
      is = ap (λ (k : ℕ). k ∷ length x.step.value.0.bytes ∷ parent ∷ (ws ++ (ks ++ (ac ++ last)))) x.name;
      long = omega (arith, length-append ws (ks ++ (ac ++ last)), length-append ks (ac ++ last), length-append ac last, x.ten, kind-long (kind_of cs) n, anim-long cs);
    })
