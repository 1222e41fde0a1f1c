-- A row of open-chunk records as plain words, eleven to a record: the stack that the machine's list stands for.
use Rattle.std.specs.Prelude.{ℕ, zero, suc, ◌+◌, ◌*◌, Bool, true, false, List, [], ◌∷◌, get_or, eqb}
use Rattle.std.proofs.lemmas.List.Edits.{sets}
use Rattle.wire.specs.Test.{if}
use Rattle.b3d_spec.specs.declared.Tag.{Tag}
use Rattle.b3d_spec.specs.declared.Tag.TheVariants.{BB3D, TEXS, BRUS, NODE, MESH, VRTS, TRIS, BONE, KEYS, ANIM}
use Rattle.b3d_spec.specs.Tags.{tag_number}
use Rattle.b3d_pieces_spec.specs.declared.Open.{Open}

-- the tag with number n, in the order of the paper's list from 0; ANIM for every number from 9 on
unfoldable pub tag_by : ℕ → Tag
tag_by n =
    if (eqb n 0) BB3D
    (if (eqb n 1) TEXS
    (if (eqb n 2) BRUS
    (if (eqb n 3) NODE
    (if (eqb n 4) MESH
    (if (eqb n 5) VRTS
    (if (eqb n 6) TRIS
    (if (eqb n 7) BONE
    (if (eqb n 8) KEYS ANIM))))))))

-- a flag as a number: 1 if it is set, else 0
abbrev pub flag : Bool → ℕ
flag true = 1
flag false = 0

-- how many words a record has
abbrev pub record_words : ℕ
record_words = 11

-- the words of the record of the open chunk f
abbrev pub open_words : Open → List ℕ
open_words f =
    tag_number f.tag ∷ f.head ∷ f.end ∷ f.turn ∷ flag f.spent ∷ f.level ∷ f.kept.first ∷ f.kept.second ∷ f.kept.third ∷ f.count ∷ f.told ∷ []

-- the open chunk whose record has these eleven words
abbrev pub open_of : ℕ → ℕ → ℕ → ℕ → ℕ → ℕ → ℕ → ℕ → ℕ → ℕ → ℕ → Open
open_of a b c d e f g h i j k =
    record { tag = tag_by a; head = b; end = c; turn = d; spent = eqb e 1; level = f; kept = record { first = g; second = h; third = i }; count = j; told = k }

-- the open chunk whose record begins at word p of the row; words past the row's end are 0
abbrev pub open_from : List ℕ → ℕ → Open
open_from row p =
    open_of (get_or row p 0) (get_or row (p + 1) 0) (get_or row (p + 2) 0) (get_or row (p + 3) 0) (get_or row (p + 4) 0) (get_or row (p + 5) 0) (get_or row (p + 6) 0)
    (get_or row (p + 7) 0) (get_or row (p + 8) 0) (get_or row (p + 9) 0) (get_or row (p + 10) 0)

-- the open chunk whose record is number i of the row
unfoldable pub open_at : List ℕ → ℕ → Open
open_at row i = open_from row (i * record_words)

-- the row with record i set to that of the open chunk f
unfoldable pub put_open : List ℕ → ℕ → Open → List ℕ
put_open row i f = sets row (i * record_words) (open_words f)

-- the open chunks of the first n records of the row, the last of them first
abbrev pub stack_of : List ℕ → ℕ → List Open
stack_of row zero = []
stack_of row (suc n) = open_at row n ∷ stack_of row n
