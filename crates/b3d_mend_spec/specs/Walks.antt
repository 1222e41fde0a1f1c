-- What becomes of a TRIS, a BONE and a BRUS, from their bytes alone and without refusals: what code that writes follows, once the
-- file is judged.
use Rattle.std.specs.Prelude.{ℕ, zero, suc, ◌+◌, ◌*◌, List, [], ◌∷◌, ◌++◌, length, drop, replicate, leb}
use Rattle.layout.specs.Result.{Result, accept, reject}
use Rattle.wire.specs.Bytes.{bytes}
use Rattle.wire.specs.Test.{if}
use Rattle.layout.specs.Parts.{Name, Step, words_of, row, number, named}
use Rattle.layout.specs.Rules.{Rule, any, NONE, holds}
use Rattle.layout.specs.Write.{write_words, write_text}
use Rattle.b3d_spec.specs.declared.Mode.TheVariants.{Lenient}
use Rattle.b3d_spec.specs.Rules.{brush_row, brush_ids, brushes_head, triangle_row, weight_row, triangles_head}
use Rattle.b3d_mend_spec.specs.Edits.{Edit, keep, id_set, item_out}
use Rattle.b3d_mend_spec.specs.Mend.{all_hold}

-- the number w against its rule r: it stays, or is set to -1
unfoldable pub word_edit : Rule → ℕ → Edit
word_edit r w = if (holds r w) (keep (bytes w [])) (id_set w NONE)

-- the numbers ws against their rules: each stays, or is set to -1
unfoldable pub word_edits : List Rule → List ℕ → List Edit
word_edits [] ws = []
word_edits (r ∷ rs) [] = []
word_edits (r ∷ rs) (w ∷ ws) = word_edit r w ∷ word_edits rs ws

-- the item with the words ws against its rules rs: it stays, or is taken out
unfoldable pub item_edit : List Rule → List ℕ → Edit
item_edit rs ws = if (all_hold rs ws) (keep (write_words ws [])) (item_out (write_words ws []))

-- items of s against their rules rs, up to the first that is not all there, at most f
unfoldable pub item_edits_in : ℕ → List Rule → List ℕ → List Edit
item_edits_in zero rs s = []
item_edits_in (suc f) rs [] = []
item_edits_in (suc f) rs (c ∷ s) =
    let it = item_edit rs (words_of (length rs) (c ∷ s)) ∷ item_edits_in f rs (drop (4 * length rs) (c ∷ s)) in
    if (leb (4 * length rs) (length (c ∷ s))) it []

-- items of s against their rules rs, up to the first that is not all there
unfoldable pub item_edits : List Rule → List ℕ → List Edit
item_edits rs s = item_edits_in (length s) rs s

-- the body b of a TRIS: its brush id, -1 or below `brushes`, then triangles of ids below `vertices`
unfoldable pub tris_edits : ℕ → ℕ → List ℕ → List Edit
tris_edits brushes vertices b = word_edits (triangles_head brushes) (words_of 1 b) ++ item_edits (triangle_row vertices) (drop 4 b)

-- the body b of a BONE: weights of ids below `vertices`
unfoldable pub bone_edits : ℕ → List ℕ → List Edit
bone_edits vertices b = item_edits (weight_row vertices) b

-- a brush that is all there, its numbers against their rules rs, then what `rest` makes of what follows; nothing where it is cut
unfoldable pub brush_of : List Rule → (ℕ → List ℕ → List Edit) → Result (Step (Name × List ℕ)) → List Edit
brush_of rs rest (accept x) = keep (write_text x.value.0.bytes []) ∷ (word_edits rs x.value.1 ++ rest x.place x.left)
brush_of rs rest (reject n p) = []

-- brushes from place p on, their numbers against their rules rs, up to the first that is not all there, at most f
unfoldable pub brush_edits_in : ℕ → List Rule → ℕ → List ℕ → List Edit
brush_edits_in zero rs p s = []
brush_edits_in (suc f) rs p [] = []
brush_edits_in (suc f) rs p (c ∷ s) = brush_of rs (brush_edits_in f rs) (named (replicate (length rs) any) p (c ∷ s))

-- a BRUS by its fixed data that was read, texture ids being -1 or below `textures`; nothing where that is refused
unfoldable pub brus_of : ℕ → Result (Step (List ℕ)) → List Edit
brus_of textures (accept h) = keep (bytes (number h 0) []) ∷ brush_edits_in (length h.left) (brush_row Lenient ++ brush_ids (number h 0) textures) h.place h.left
brus_of textures (reject n p) = []

-- the body b of a BRUS whose header is at p, texture ids being -1 or below `textures`
unfoldable pub brus_edits : ℕ → ℕ → List ℕ → List Edit
brus_edits textures p b = brus_of textures (row brushes_head (p + 8) b)
