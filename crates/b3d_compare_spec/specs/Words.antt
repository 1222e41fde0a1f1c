-- What each word of a row is, table by table, as 01 has them; table 0 has one row, the twelve numbers.
use Rattle.std.specs.Prelude.{ℕ, List, [], ◌∷◌, ◌++◌, length, replicate, get_or, eqb}
use Rattle.wire.specs.Test.{if}
use Rattle.b3d_spec.specs.Tables.{vertex_width}
use Rattle.b3d_compare_spec.specs.declared.WordKind.{WordKind}
use Rattle.b3d_compare_spec.specs.declared.WordKind.TheVariants.{Whole, Float, Name, Length}

abbrev wholes : ℕ → List WordKind
wholes n = replicate n Whole

abbrev floats : ℕ → List WordKind
floats n = replicate n Float

-- place and length of a name
abbrev named : List WordKind → List WordKind
named l = Name ∷ Length ∷ l

unfoldable pub word_kinds : ℕ → List WordKind
word_kinds k =
    -- version, n_texs, ten counts
    if (eqb k 0) (wholes 12)
    -- flags, blend; position, scale, rotation
    (if (eqb k 1) (named (wholes 2 ++ floats 5))
    -- colour, shininess; blend, fx, texture slots
    (if (eqb k 2) (named (floats 5 ++ wholes 10))
    -- parent; position, scale, rotation; kind, first, count, ANIM present, its flags and frames; its fps; nodes below
    (if (eqb k 3) (named (wholes 1 ++ (floats 10 ++ (wholes 6 ++ (floats 1 ++ wholes 1)))))
    -- node, brush, flags, sets, set size, first vertex, vertices, first triangle set, sets
    (if (eqb k 4) (wholes 9)
    -- position, normal, colour, coordinates
    (if (eqb k 5) (floats vertex_width)
    -- mesh, brush, first triangle, triangles
    (if (eqb k 6) (wholes 4)
    -- vertex ids
    (if (eqb k 7) (wholes 3)
    -- vertex id; weight
    (if (eqb k 8) (wholes 1 ++ floats 1)
    -- node, KEYS flags, first key, keys
    (if (eqb k 9) (wholes 4)
    -- frame; position, scale, rotation
    (if (eqb k 10) (wholes 1 ++ floats 10) []))))))))))

-- how many words a row has
abbrev pub words_of : ℕ → ℕ
words_of k = length (word_kinds k)

-- what word w of table k is
unfoldable pub kind_at : ℕ → ℕ → WordKind
kind_at k w = get_or (word_kinds k) w Whole
