-- What becomes of the bytes of a given file, in its order: bytes that stay, lengths that follow, and mends. An edit has two readings, the
-- given bytes (`before`) and the mended ones (`after`).
use Rattle.std.specs.Prelude.{ℕ, List, [], ◌∷◌, ◌++◌, eqb}
use Rattle.wire.specs.Bytes.{bytes}
use Rattle.wire.specs.Test.{if}

-- what becomes of some bytes of the given file
pub data Edit : Type 0 where
  -- bytes that stay
  keep : List ℕ → Edit
  -- the length of a chunk, before and after what is inside was mended
  follow : ℕ → ℕ → Edit
  -- one of the four: which, the bytes before and after
  mend : ℕ → List ℕ → List ℕ → Edit

-- the given bytes of an edit
unfoldable pub was : Edit → List ℕ
was (keep b) = b
was (follow n m) = bytes n []
was (mend k b a) = b

-- the mended bytes of an edit
unfoldable pub becomes : Edit → List ℕ
becomes (keep b) = b
becomes (follow n m) = bytes m []
becomes (mend k b a) = a

-- the given bytes of edits, one after the other
unfoldable pub before : List Edit → List ℕ
before [] = []
before (e ∷ l) = was e ++ before l

-- the mended bytes of edits, one after the other
unfoldable pub after : List Edit → List ℕ
after [] = []
after (e ∷ l) = becomes e ++ after l

-- ---- the four

-- BB3D's length, which said `said` and should have said `is`, set to `new`, that of the mended file: it follows where it was right, else it is mended
unfoldable pub file_length : ℕ → ℕ → ℕ → Edit
file_length said is new = if (eqb said is) (follow is new) (mend 1 (bytes said []) (bytes new []))

-- the id w set to v
abbrev pub id_set : ℕ → ℕ → Edit
id_set w v = mend 2 (bytes w []) (bytes v [])

-- the bytes b of a triangle or a weight taken out
abbrev pub item_out : List ℕ → Edit
item_out b = mend 3 b []

-- the spare bytes b taken out
abbrev pub spare_out : List ℕ → Edit
spare_out b = mend 4 b []
