-- The chunks inside a BB3D, a NODE or a MESH with all that stands among them: unknown chunks, and 1 to 7 spare bytes at the end.
use Rattle.std.specs.Prelude.{ℕ, zero, suc, ◌+◌, List, [], ◌∷◌, ◌++◌, length, take, drop, leb}
use Rattle.std.proofs.Math.Option.{Option, none, some}
use Rattle.wire.specs.Bytes.{word, bytes}
use Rattle.wire.specs.Test.{if}
use Rattle.layout.specs.Chunks.{done, stop, chunk}
use Rattle.layout.specs.Refusals as refusals
use Rattle.b3d_spec.specs.Tags.{tag_of, code, Chunks}
use Rattle.b3d_spec.specs.declared.Tag.{Tag}
use Rattle.b3d_mend_spec.specs.Edits.{Edit, keep, follow, spare_out, after}

-- what stands in a stretch of chunks, in file order
pub data Pieces : Type 0 where
  -- the end, and no byte before it
  none_left : Pieces
  -- 1 to 7 bytes before the end, and their place
  spare : ℕ → List ℕ → Pieces
  -- a header whose length passes the end, its place, and the bytes from it on
  past : ℕ → List ℕ → Pieces
  -- a chunk of an unknown tag, header and all
  other : List ℕ → Pieces → Pieces
  -- a known chunk: tag, place of its header, body
  known : Tag → ℕ → List ℕ → Pieces → Pieces

-- one more chunk before r, by its tag if that is known: its header is at p, h is the header's eight bytes, b its body
unfoldable pub piece : Option Tag → ℕ → List ℕ → List ℕ → Pieces → Pieces
piece none p h b r = other (h ++ b) r
piece (some t) p h b r = known t p b r

-- at most f chunks of the bytes s from place p on, and what stands at the end
unfoldable pub pieces_in : ℕ → ℕ → List ℕ → Pieces
pieces_in zero p s = none_left
pieces_in (suc f) p [] = none_left
pieces_in (suc f) p (a ∷ []) = spare p (a ∷ [])
pieces_in (suc f) p (a ∷ b ∷ []) = spare p (a ∷ b ∷ [])
pieces_in (suc f) p (a ∷ b ∷ c ∷ []) = spare p (a ∷ b ∷ c ∷ [])
pieces_in (suc f) p (a ∷ b ∷ c ∷ d ∷ []) = spare p (a ∷ b ∷ c ∷ d ∷ [])
pieces_in (suc f) p (a ∷ b ∷ c ∷ d ∷ e ∷ []) = spare p (a ∷ b ∷ c ∷ d ∷ e ∷ [])
pieces_in (suc f) p (a ∷ b ∷ c ∷ d ∷ e ∷ g ∷ []) = spare p (a ∷ b ∷ c ∷ d ∷ e ∷ g ∷ [])
pieces_in (suc f) p (a ∷ b ∷ c ∷ d ∷ e ∷ g ∷ h ∷ []) = spare p (a ∷ b ∷ c ∷ d ∷ e ∷ g ∷ h ∷ [])
pieces_in (suc f) p (a ∷ b ∷ c ∷ d ∷ e ∷ g ∷ h ∷ i ∷ s) =
    let n = word e g h i in
    let it = piece (tag_of (word a b c d)) p (a ∷ b ∷ c ∷ d ∷ e ∷ g ∷ h ∷ i ∷ []) (take n s) (pieces_in f (p + 8 + n) (drop n s)) in
    if (leb n (length s)) it (past p (a ∷ b ∷ c ∷ d ∷ e ∷ g ∷ h ∷ i ∷ s))

-- the chunks of the bytes s from place p on, and what stands at the end; a chunk has at least one byte, so there are no more chunks than bytes
unfoldable pub pieces : ℕ → List ℕ → Pieces
pieces p s = pieces_in (length s) p s

-- the known chunks among pieces, spare bytes left out; 3 at a length that passes the end
unfoldable pub chunks_of : Pieces → Chunks
chunks_of none_left = done
chunks_of (spare p s) = done
chunks_of (past p s) = stop refusals.cut_chunk p
chunks_of (other o r) = chunks_of r
chunks_of (known t p b r) = chunk t p b (chunks_of r)

-- a chunk of tag t and length n whose body is edited by x: its length follows
unfoldable pub wrapped : Tag → ℕ → List Edit → List Edit
wrapped t n x = keep (bytes (code t) []) ∷ follow n (length (after x)) ∷ x

-- the edits of all pieces, each known chunk's body edited by the next of the list xs; spare bytes are taken out, all else stays
unfoldable pub woven : Pieces → List (List Edit) → List Edit
woven none_left xs = []
woven (spare p s) xs = spare_out s ∷ []
woven (past p s) xs = keep s ∷ []
woven (other o r) xs = keep o ∷ woven r xs
woven (known t p b r) [] = []
woven (known t p b r) (x ∷ xs) = wrapped t (length b) x ++ woven r xs
