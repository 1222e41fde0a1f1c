-- Rows whose words are there or not, by a mask: the file has those that are there, in order; in the row the others are 0.
use Rattle.std.specs.Prelude.{ℕ, zero, suc, ◌+◌, ◌-◌, ◌/◌, ◌%◌, Bool, true, false, ◌&&◌, List, [], ◌∷◌, ltb, eqb}
use Rattle.wire.specs.Test.{if}
use Rattle.b3d_spec.specs.Widths.{vertex_width, key_width}
use Rattle.b3d_spec.specs.Columns as columns

-- for each of n words from word w on, whether f says that it is there
unfoldable pub mask : (ℕ → Bool) → ℕ → ℕ → List Bool
mask f zero w = []
mask f (suc n) w = f w ∷ mask f n (w + 1)

-- how many words are there by a mask
unfoldable pub ones : List Bool → ℕ
ones [] = 0
ones (true ∷ m) = suc (ones m)
ones (false ∷ m) = ones m

-- a row of the mask's width: where the mask says so the next word of ws, else 0
unfoldable pub padded : List Bool → List ℕ → List ℕ
padded [] ws = []
padded (true ∷ m) [] = 0 ∷ padded m []
padded (true ∷ m) (w ∷ ws) = w ∷ padded m ws
padded (false ∷ m) ws = 0 ∷ padded m ws

-- the words of row r that are there by a mask, in order
unfoldable pub present_words : List Bool → List ℕ → List ℕ
present_words [] r = []
present_words (b ∷ m) [] = []
present_words (true ∷ m) (x ∷ r) = x ∷ present_words m r
present_words (false ∷ m) (x ∷ r) = present_words m r

-- word w of a vertex row is there: 3 position; 3 normal by flag 1; 4 colour by flag 2; coordinate c of set s at word 10 + 4 s + c
unfoldable pub vertex_has : ℕ → ℕ → ℕ → ℕ → Bool
vertex_has flags sets size w =
    if (ltb w columns.vertex_normal) true
    (if (ltb w columns.vertex_colour) (eqb (flags % 2) 1)
    (if (ltb w columns.vertex_coordinates) (eqb (flags / 2 % 2) 1)
    (ltb ((w - columns.vertex_coordinates) / 4) sets && ltb ((w - columns.vertex_coordinates) % 4) size)))

-- which of the 42 words of a vertex row are there, by the mesh's flags, sets and set size
unfoldable pub vertex_mask : ℕ → ℕ → ℕ → List Bool
vertex_mask flags sets size = mask (vertex_has flags sets size) vertex_width 0

-- word w of a key row is there: the frame; 3 position by flag 1; 3 scale by flag 2; 4 rotation by flag 4
unfoldable pub key_has : ℕ → ℕ → Bool
key_has flags w =
    if (ltb w columns.key_position) true
    (if (ltb w columns.key_scale) (eqb (flags % 2) 1)
    (if (ltb w columns.key_rotation) (eqb (flags / 2 % 2) 1) (eqb (flags / 4 % 2) 1)))

-- which of the 11 words of a key row are there, by the KEYS flags
unfoldable pub key_mask : ℕ → List Bool
key_mask flags = mask (key_has flags) key_width 0
