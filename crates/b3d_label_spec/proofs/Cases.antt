-- Worked labels: one list, one statement, proved by computing.
use mathlib.Core.Path.{◌≡◌, refl}
use Prim.Native.Nat.{ℕ}
use mathlib.Core.List.{List, [], ◌∷◌, ◌++◌, map}
use Rattle.layout.specs.Rules.{NONE}
use Rattle.layout.specs.Write.{write_words}
use Rattle.b3d_spec.specs.declared.Tag.TheVariants.{MESH, VRTS, KEYS}
use Rattle.b3d_spec.specs.Tags.{code}
use Rattle.b3d_spec.proofs.Computing.{computing}
use Rattle.b3d_spec.proofs.Cases.{zeros, file, P, a_node, Hall, H, H-XTRA-inside, T-with, T-tris}
use Rattle.b3d_label_spec.specs.Walk.{first_with, vrts_vertices, mesh_vertices, root_vertices, root_in, file_in, label_walk, no_label, labelled, label_of}
use Rattle.b3d_label_spec.specs.declared.TrayLabel.{TrayLabel}

pub record Case : Type 0 where
  pub bytes : List ℕ
  pub gives : TrayLabel

-- a file whose root's name stands at 20, of this length, and which has so many vertices
abbrev labels : List ℕ → ℕ → ℕ → Case
labels bytes long vertices = record { bytes = bytes; gives = record { number = 0; place = 0; name_place = 20; name_length = long; vertices = vertices } }

abbrev refuses : List ℕ → Case
refuses bytes = record { bytes = bytes; gives = no_label }

-- a root with KEYS without a key, then the MESH of T without its TRIS
abbrev KEYS-first : List ℕ
KEYS-first = file 133 1 (a_node 121 [] (write_words (code KEYS ∷ 4 ∷ 0 ∷ code MESH ∷ 60 ∷ NONE ∷ code VRTS ∷ 48 ∷ 0 ∷ 0 ∷ 0 ∷ []) (zeros 36)))

-- two roots, the second named "Hall"
abbrev two_NODEs : List ℕ
two_NODEs = file 106 1 (a_node 41 [] (a_node 45 Hall []))

abbrev pub cases : List Case
cases =
    refuses (P 1)
    ∷ labels H 4 0
    ∷ labels H-XTRA-inside 4 0
    ∷ labels (T-with 145 133 84 48 NONE (T-tris 2)) 0 3
    -- these the reader refuses: bytes behind BB3D, a version out of range, two NODEs, no TRIS
    ∷ labels (H ++ zeros 5) 4 0
    ∷ labels (file 57 100 (a_node 45 Hall [])) 4 0
    ∷ labels two_NODEs 0 0
    ∷ labels (T-with 121 109 60 48 NONE []) 0 3
    -- and these: a MESH that is not first, vertices that do not fill their VRTS
    ∷ labels KEYS-first 0 0
    ∷ refuses (T-with 145 133 84 47 NONE (T-tris 2))
    ∷ []

pub worked : map (λ (c : Case). label_of c.bytes) cases ≡ map (λ (c : Case). c.gives) cases
unfolding computing first_with vrts_vertices mesh_vertices root_vertices root_in file_in label_walk labelled label_of
worked = refl
