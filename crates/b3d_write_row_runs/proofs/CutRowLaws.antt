-- Rows that are cut out of a table's words: some of them are the words that they stand in.
use mathlib.Core.Path.{◌≡◌, refl, ap, sym, ◌∙◌}
use Prim.Native.Nat.{ℕ, zero, suc, ◌+◌, ◌-◌, ◌*◌, ◌/◌, ◌<◌, ◌≤◌}
use native.Mathlib.Nat.{mul-div_cancel_left}
use native.Mathlib.Omega.{arith}
use mathlib.Core.List.{List, [], ◌∷◌, ◌++◌}
use lib.ListN.{length, take, drop, length-take, length-drop}
use lib.Seq.{take-take, take_all, length-take-le}
use Rattle.layout.specs.Write.{write_words, write_items}
use Rattle.shared_output.proofs.AppendLaws.{words-both}
use Rattle.b3d_spec.specs.Rebuild.{cut}
use Rattle.layout.specs.Rows.{joined}
use Rattle.layout.proofs.PartLaws.{words_append}
use Rattle.b3d_spec.proofs.Rows.RowListLaws.{cut-length, words-cut}
use Rattle.b3d_check_spec.proofs.PlaceLaws.{cut-drop}
use Rattle.b3d_write_row_runs.specs.Lent.{rows_in}

pub cut-take : (w c n : ℕ) (ws : List ℕ) → n ≤ c → take n (cut w c ws) ≡ cut w n ws
unfolding cut
cut-take w c zero ws h = refl
cut-take w zero (suc n) ws h = absurd (omega arith)
cut-take w (suc c) (suc n) ws h = ap (λ (l : List (List ℕ)). take w ws ∷ l) (cut-take w c n (drop w ws) (omega arith))

-- words of a row are words of the list that it is taken from
pub part-take : (j k w : ℕ) (l : List ℕ) → k + j ≤ w → take k (drop j (take w l)) ≡ take k (drop j l)
part-take zero k w l h = take-take k w l (omega arith)
part-take (suc j) k zero l h = absurd (omega arith)
part-take (suc j) k (suc w) [] h = refl
part-take (suc j) k (suc w) (x ∷ l) h = part-take j k w l (omega arith)

-- the last words of a row
pub row-end : (w j : ℕ) (l : List ℕ) → j ≤ w → drop j (take w l) ≡ take (w - j) (drop j l)
row-end w j l h =
    let short : length (drop j (take w l)) ≤ w - j = simp (length-drop, length-take) (omega arith) in
    sym (take_all (w - j) (drop j (take w l)) short) ∙ part-take j (w - j) w l (omega arith)

-- rows from one on, cut from its first word on
pub rows-from : (w : ℕ) (ws : List ℕ) (first count : ℕ) → first + count ≤ length ws / w → take count (drop first (rows_in w ws)) ≡ cut w count (drop (w * first) ws)
unfolding rows_in
rows-from w ws first count h =
    rw (cut-drop w (length ws / w) first ws (omega arith)) (cut-take w (length ws / w - first) count (drop (w * first) ws) (omega arith))

pub rows-length : (w : ℕ) (ws : List ℕ) → length (rows_in w ws) ≡ length ws / w
unfolding rows_in
rows-length w ws = cut-length w (length ws / w) ws

-- a table lent as its counted rows alone has those rows
cut_trim : (w c : ℕ) (ws : List ℕ) → cut w c (take (w * c) ws) ≡ cut w c ws
unfolding cut
cut_trim w zero ws = refl
cut_trim w (suc c) ws =
    let e : w * suc c ≡ w + w * c = omega arith in
    let d : w + w * c - w ≡ w * c = omega arith in
    rw (e, take-take w (w + w * c) ws (omega arith), row-end (w + w * c) w ws (omega arith), d, cut_trim w c (drop w ws))

pub rows-lent : (w c : ℕ) (ws : List ℕ) → 0 < w → w * c ≤ length ws → rows_in w (take (w * c) ws) ≡ cut w c ws
unfolding rows_in
rows-lent w c ws h l =
    let n : length (take (w * c) ws) / w ≡ c = rw (length-take-le (w * c) ws l) (mul-div_cancel_left c h) in
    rw n (cut_trim w c ws)

-- rows are written as their words, one after the other
pub items_words : (rs : List (List ℕ)) → write_items write_words rs ≡ write_words (joined rs) []
unfolding joined
items_words [] = refl
items_words (r ∷ rs) = words_append r (write_items write_words rs) ∙ ap (λ (l : List ℕ). write_words r [] ++ l) (items_words rs) ∙ sym (words-both r (joined rs))

pub items-from : (w : ℕ) (ws : List ℕ) (first count : ℕ) → first + count ≤ length ws / w
    → write_items write_words (take count (drop first (rows_in w ws))) ≡ write_words (take (w * count) (drop (w * first) ws)) []
items-from w ws first count h =
    rw (rows-from w ws first count h) (items_words (cut w count (drop (w * first) ws)) ∙ ap (λ (l : List ℕ). write_words l []) (words-cut w count (drop (w * first) ws)))

pub ruleset words_laws = (items-from)
