-- Worked files and all their faults: one list, one statement, proved by computing. P, H and T are those of 01.
use mathlib.Core.Path.{◌≡◌, refl}
use mathlib.Core.List.{List, [], ◌∷◌, ◌++◌, map}
use Prim.Native.Nat.{ℕ}
use Rattle.layout.specs.Rules.{NONE}
use Rattle.layout.specs.Write.{write_words}
use Rattle.b3d_spec.proofs.Cases.{zeros, file, T-with, T}
use Rattle.b3d_spec.specs.Tags.{code}
use Rattle.b3d_spec.specs.declared.Tag.TheVariants.{BRUS, NODE, MESH, TRIS}
use Rattle.b3d_mend_spec.proofs.Computing.{mend_computing}
use Rattle.b3d_mend_faults.specs.Faults.{Fault, mendable, other, listed, plainly, number_fault, item_fault, number_faults, row_faults, brush_faults, item_faults_in, item_faults, texture_faults, brushes_faults, vertex_faults, triangle_faults, bone_faults, found, onward_from, in_order, within, one_faults, set_faults, mesh_faults, kind_faults, move_faults, nodes_faults, node_faults, end_faults, body_faults, length_fault, file_faults, faults}

pub record Case : Type 0 where
  pub bytes : List ℕ
  pub has : List Fault

abbrev case : List ℕ → List Fault → Case
case s l = record { bytes = s; has = l }

pub cases : List Case
cases =
    case T []
    -- eleven bytes
    ∷ case (zeros 11) (other 1 0 ∷ [])
    -- the brush ids of a MESH and of its TRIS, two vertex ids of one triangle, five spare bytes of BB3D
    ∷ case (T-with 150 133 84 48 0 (write_words (code TRIS ∷ 16 ∷ 7 ∷ 0 ∷ 3 ∷ 9 ∷ []) (zeros 5)))
    (mendable 2 7 69 ∷ mendable 2 7 137 ∷ mendable 3 7 145 ∷ mendable 3 7 149 ∷ mendable 4 3 153 ∷ [])
    -- a wrong length, a brush id, three spare bytes of the MESH, and then no TRIS
    ∷ case (T-with 9 112 63 48 0 (zeros 3)) (mendable 1 2 4 ∷ mendable 2 7 69 ∷ mendable 4 3 129 ∷ other 8 61 ∷ [])
    -- a brush id, and then a triangle that is cut, whose ids are not looked at
    ∷ case (T-with 141 129 80 48 0 (write_words (code TRIS ∷ 12 ∷ NONE ∷ 9 ∷ 9 ∷ []) [])) (mendable 2 7 69 ∷ other 5 141 ∷ [])
    -- a texture id, and then a length past BB3D; nothing behind it is looked at
    ∷ case (file 57 1 (write_words (code BRUS ∷ 37 ∷ 1 ∷ []) (zeros 29 ++ write_words (5 ∷ code NODE ∷ 1 ∷ []) []))) (mendable 2 7 53 ∷ other 3 57 ∷ [])
    -- a wrong length, and then a MESH where none may stand
    ∷ case (file 4 1 (write_words (code MESH ∷ 0 ∷ []) [])) (mendable 1 2 4 ∷ other 4 12 ∷ [])
    ∷ []

pub worked : map (λ (c : Case). faults c.bytes) cases ≡ map (λ (c : Case). c.has) cases
unfolding mend_computing cases listed plainly number_fault item_fault number_faults row_faults brush_faults item_faults_in item_faults texture_faults brushes_faults vertex_faults triangle_faults bone_faults found onward_from in_order within one_faults set_faults mesh_faults kind_faults move_faults nodes_faults node_faults end_faults body_faults length_fault file_faults faults
worked = refl
