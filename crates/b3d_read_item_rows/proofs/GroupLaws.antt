-- The row of a TRIS or a KEYS on any bytes: a law for each need of `store_group`.
use mathlib.Core.Path.{◌≡◌, refl, ap, ◌∙◌}
use Prim.Native.Nat.{ℕ, ◌-◌, ◌*◌, ◌/◌, ◌<◌, ◌≤◌}
use native.Mathlib.Nat.{div-le_self}
use native.Mathlib.Omega.{arith}
use mathlib.Core.Bool.{Bool, true, false}
use mathlib.Core.List.{List, [], ◌∷◌}
use lib.ListN.{length, drop, get_or, length-drop}
use lib.Seq.{sets}
use Rattle.wire.specs.Cursors.{Inside, left}
use Rattle.wire.specs.declared.Cursor.{Cursor}
use Rattle.wire.proofs.LeftLaws.{left-length}
use Rattle.layout.specs.Parts.{words_of}
use Rattle.layout.proofs.StepLaws.{length-items-of}
use Rattle.b3d_spec_plain_rows.specs.Plain.{whole, plain_keys, plain_triangles}
use Rattle.b3d_spec_plain_rows.specs.Rows.{list_row}
use Rattle.b3d_chunk_walk.specs.Seeks.{FirstWord}
use Rattle.b3d_chunk_walk.specs.declared.Headed.{Headed}
use Rattle.b3d_read_item_rows.specs.Items.{set_row, group_items, group_row}
use Rattle.b3d_rule_widths.specs.Widths.{group_width}

-- its items are those that are all there
items_are : (keys : Bool) (l : List ℕ) → group_items keys l ≡ whole (group_width keys (get_or (words_of 1 l) 0 0)) (drop 4 l)
unfolding plain_keys plain_triangles
items_are true l = refl
items_are false l = refl

-- its row has four cells
row_is : (keys : Bool) (i r : ℕ) (l : List ℕ) → group_row keys i r l ≡ i ∷ get_or (words_of 1 l) 0 0 ∷ r ∷ length (group_items keys l) ∷ []
unfolding plain_keys plain_triangles set_row list_row
row_is true i r l = refl
row_is false i r l = refl

count_is : (keys : Bool) (l : List ℕ) → length (group_items keys l) ≡ length (drop 4 l) / (4 * group_width keys (get_or (words_of 1 l) 0 0))
unfolding whole
count_is keys l = let w = group_width keys (get_or (words_of 1 l) 0 0) in ap length (items_are keys l) ∙ length-items-of (length (drop 4 l) / (4 * w)) w (drop 4 l)

-- it has no more items than bytes
pub group-few : (keys : Bool) (l : List ℕ) → length (group_items keys l) ≤ length l
group-few keys l =
    let w = group_width keys (get_or (words_of 1 l) 0 0) in
    rw (count_is keys l) (omega (arith, div-le_self (length (drop 4 l)) (4 * w), length-drop 4 l))

module _ (s : List ℕ) (b : Cursor) (h : Headed) (x : FirstWord s b h) where
  pub group-inside : Inside h.rest (length s)
  group-inside = x.inside

  module _ (keys : Bool) (w : ℕ) (ew : w ≡ group_width keys h.word) where
    pub group-count : (h.rest.end - h.rest.at) / (4 * w) ≡ length (group_items keys (left b s))
    group-count = rw (count_is keys (left b s), ← x.number, ← x.after, left-length s h.rest x.inside, ew)

    pub group-small : length s < 0x100000000 → (h.rest.end - h.rest.at) / (4 * w) < 0x100000000
    group-small k = let i = x.inside in omega (arith, div-le_self (h.rest.end - h.rest.at) (4 * w), i.within)

    pub group-put : (owner first base : ℕ) (out put : List ℕ) (i j n : ℕ) → i ≡ owner → j ≡ first → n ≡ (h.rest.end - h.rest.at) / (4 * w)
        → put ≡ sets out base (i ∷ h.word ∷ j ∷ n ∷ []) → put ≡ sets out base (group_row keys owner first (left b s))
    group-put owner first base out put i j n ei ej en e = e ∙ rw (row_is keys owner first (left b s), ei, ej, en, group-count, x.number)

pub ruleset group_laws = (group-inside, group-count, group-small, group-put)
