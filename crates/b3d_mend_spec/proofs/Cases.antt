-- Worked files, mended: one list, one statement, proved by computing. P, H and T are those of 01.
use mathlib.Core.Path.{◌≡◌, refl}
use Prim.Native.Nat.{ℕ}
use mathlib.Core.List.{List, [], ◌∷◌, ◌++◌, map}
use Rattle.layout.specs.Result.{Result, accept, reject}
use Rattle.layout.specs.Rules.{NONE}
use Rattle.layout.specs.Write.{write_words}
use Rattle.b3d_spec.proofs.Cases.{zeros, file, P, a_node, Hall, H-cleared, T-with, T-tris, T}
use Rattle.b3d_spec.specs.Tags.{code}
use Rattle.b3d_spec.specs.declared.Tag.TheVariants.{BRUS, BONE, MESH, TRIS}
use Rattle.b3d_mend_spec.specs.Report.{Mending, mend_into}
use Rattle.b3d_mend_spec.proofs.Computing.{mend_computing}

-- room for the file and for the report, and what is to come of it
pub record Case : Type 0 where
  pub bytes : List ℕ
  pub room : ℕ
  pub report_room : ℕ
  pub gives : Result Mending

abbrev ample : List ℕ → Result Mending → Case
ample s g = record { bytes = s; room = 400; report_room = 100; gives = g }

abbrev as-mended : List ℕ → List ℕ → Result Mending
as-mended f r = accept (record { file = f; report = r })

-- a TRIS with no triangle
abbrev no_tris : List ℕ
no_tris = write_words (code TRIS ∷ 4 ∷ NONE ∷ []) []

pub cases : List Case
cases =
    -- nothing to mend
    ample T (as-mended T [])
    -- a last id that names nothing: the triangle is taken out, three lengths follow, and a TRIS with none stays
    ∷ ample (T-with 145 133 84 48 NONE (T-tris 3)) (as-mended (T-with 133 121 72 48 NONE no_tris) (129 ∷ 13 ∷ 3 ∷ 12 ∷ 0 ∷ write_words (0 ∷ 1 ∷ 3 ∷ []) []))
    -- a brush id that names nothing
    ∷ ample (T-with 145 133 84 48 0 (T-tris 2)) (as-mended T (69 ∷ 2 ∷ 4 ∷ 4 ∷ write_words (0 ∷ NONE ∷ []) []))
    -- so is -2
    ∷ ample (T-with 145 133 84 48 0xFFFFFFFE (T-tris 2)) (as-mended T (69 ∷ 2 ∷ 4 ∷ 4 ∷ write_words (0xFFFFFFFE ∷ NONE ∷ []) []))
    -- five spare bytes at the end of BB3D
    ∷ ample (file 58 1 (a_node 41 [] (zeros 5))) (as-mended H-cleared (61 ∷ 4 ∷ 5 ∷ 0 ∷ zeros 5))
    -- and at the end of a NODE
    ∷ ample (file 58 1 (a_node 46 [] (zeros 5))) (as-mended H-cleared (61 ∷ 4 ∷ 5 ∷ 0 ∷ zeros 5))
    -- a wrong length of BB3D; and a wrong one that is right once five spare bytes are out: one entry all the same
    ∷ ample (file 7 1 []) (as-mended (P 1) (4 ∷ 1 ∷ 4 ∷ 4 ∷ write_words (7 ∷ 4 ∷ []) []))
    ∷ ample (file 53 1 (a_node 41 [] (zeros 5))) (as-mended H-cleared (4 ∷ 1 ∷ 4 ∷ 4 ∷ write_words (53 ∷ 53 ∷ []) (61 ∷ 4 ∷ 5 ∷ 0 ∷ zeros 5)))
    -- a weight of the root names nothing
    ∷ ample (file 69 1 (a_node 57 [] (write_words (code BONE ∷ 8 ∷ 0 ∷ 0 ∷ []) []))) (as-mended (file 61 1 (a_node 49 [] (write_words (code BONE ∷ 0 ∷ []) []))) (69 ∷ 3 ∷ 8 ∷ 0 ∷ zeros 8))
    -- a texture id that names nothing
    ∷ ample (file 49 1 (write_words (code BRUS ∷ 37 ∷ 1 ∷ []) (zeros 29 ++ write_words (5 ∷ []) [])))
    (as-mended (file 49 1 (write_words (code BRUS ∷ 37 ∷ 1 ∷ []) (zeros 29 ++ write_words (NONE ∷ []) []))) (53 ∷ 2 ∷ 4 ∷ 4 ∷ write_words (5 ∷ NONE ∷ []) []))
    -- no TRIS, and spare bytes: 3 is mended, and 8 is left
    ∷ ample (T-with 124 112 63 48 NONE (zeros 3)) (reject 8 61)
    -- a length past its NODE is not mended; nor a triangle that is cut, whatever its ids
    ∷ ample (file 57 1 (a_node 46 Hall [])) (reject 3 12)
    ∷ ample (T-with 141 129 80 48 NONE (write_words (code TRIS ∷ 12 ∷ NONE ∷ 9 ∷ 9 ∷ []) [])) (reject 5 141)
    -- bytes after a length that is too short are inside BB3D, and are judged as chunks
    ∷ ample (file 4 1 (write_words (code MESH ∷ 0 ∷ []) [])) (reject 4 12)
    -- room: the file first, then the report
    ∷ record { bytes = T; room = 152; report_room = 0; gives = reject 11 153 }
    ∷ record { bytes = file 7 1 []; room = 11; report_room = 0; gives = reject 11 12 }
    ∷ record { bytes = file 7 1 []; room = 12; report_room = 11; gives = reject 11 12 }
    ∷ []

pub worked : map (λ (c : Case). mend_into c.room c.report_room c.bytes) cases ≡ map (λ (c : Case). c.gives) cases
unfolding mend_computing cases
worked = refl
