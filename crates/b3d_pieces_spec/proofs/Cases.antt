-- The machine on the worked files of 01, byte by byte: it says what the reader says.
use mathlib.Core.Path.{◌≡◌, refl}
use Prim.Native.Nat.{ℕ, ◌+◌}
use mathlib.Core.List.{List, [], ◌∷◌, ◌++◌, map}
use lib.ListN.{take}
use Rattle.layout.specs.Rules.{NONE}
use Rattle.b3d_spec.specs.declared.Tag.TheVariants.{TEXS, BRUS, MESH, VRTS, KEYS}
use Rattle.b3d_spec.specs.declared.Answer.{Answer}
use Rattle.b3d_spec.proofs.Computing.{computing}
use Rattle.b3d_spec.proofs.Cases.{cases, Case}
use Rattle.b3d_spec.proofs.Cases.{zeros}
use Rattle.b3d_spec.proofs.ExtraCases.{ws, part, file, mesh_of, anim, a_bone, room, deep}
use Rattle.b3d_pieces_spec.specs.Bodies.{above, rule_at}
use Rattle.b3d_pieces_spec.specs.Machine.{begin, edge, text_from, fixed_done, fixed_row_from, enter, enter_node, opened, skip_from, stand, known, header_done, inner_done, row_done, row_from, word_done, text_done, text_byte, row_byte, byte_in, step}
use Rattle.b3d_pieces_spec.specs.Close.{body, head_byte, whole_byte, byte, piece, fresh_held, ended, whole_ended, limited, closing, answer_of, close}
use Rattle.b3d_pieces_spec.specs.Calls.{records}
use Rattle.b3d_pieces_spec.specs.InPieces.{depth}

unfoldable pub running : Unit {0}
unfolding above rule_at begin edge text_from fixed_done fixed_row_from enter enter_node opened skip_from stand known header_done inner_done row_done row_from word_done text_done text_byte row_byte byte_in step body head_byte whole_byte byte ended whole_ended limited closing answer_of close
running = tt

-- what the close says of a file that is handed over byte by byte
abbrev says : List ℕ → Answer
says s = close (piece fresh_held s)

abbrev short : Answer → ℕ × ℕ
short a = (a.number, a.place)

-- the starred files of 01
pub cases_hold : map (λ (c : Case). says c.bytes) cases ≡ map (λ (c : Case). c.told.answer) cases
unfolding computing running cases
cases_hold = refl

-- ---- files with bones, colours, an empty layer, and many levels

-- a brush with this alpha and this texture id, behind one texture
abbrev brush : ℕ → ℕ → List ℕ
brush alpha id = file (part TEXS (zeros 29) ++ part BRUS (ws (1 ∷ []) ++ 0 ∷ ws (0 ∷ 0 ∷ 0 ∷ alpha ∷ NONE ∷ 0 ∷ 0 ∷ id ∷ [])))

-- each file, and the number and place of its answer
pub more : List (List ℕ × (ℕ × ℕ))
more =
    -- below the door its mesh counts, beside it the room's; without an ANIM the door's does not
    (room anim (a_bone 1) (a_bone 0), (0, 0))
    ∷ (room anim (a_bone 2) [], (7, 331))
    ∷ (room anim [] (a_bone 1), (7, 331))
    ∷ (room [] (a_bone 1) [], (7, 311))
    ∷ (room (part KEYS (zeros 4) ++ anim) (a_bone 1) [], (0, 0))
    -- an alpha of 1 and of a little more; an empty layer
    ∷ (brush 0x3F800000 NONE, (0, 0))
    ∷ (brush 0x3F800001 0, (6, 74))
    ∷ (brush 0 1, (7, 90))
    -- 16 levels and 17; a header that is cut at the end of the 16th
    ∷ (file (deep 16 (mesh_of 1)), (0, 0))
    ∷ (file (deep 17 []), (9, 796))
    ∷ (file (deep 16 (zeros 7)), (3, 796))
    -- a MESH at the 16th level that ends without TRIS
    ∷ (file (deep 16 (part MESH (ws (NONE ∷ []) ++ part VRTS (zeros 12)))), (8, 796))
    ∷ []

pub more_hold : map (λ (c : List ℕ × (ℕ × ℕ)). short (says c.0)) more ≡ map (λ (c : List ℕ × (ℕ × ℕ)). c.1) more
unfolding computing running more deep
more_hold = refl

-- inside the VRTS of a MESH at the 16th level 19 chunks are open
pub deepest : depth (piece fresh_held (take 830 (file (deep 16 (mesh_of 1))))).whole ≡ records
unfolding computing running deep
deepest = refl
