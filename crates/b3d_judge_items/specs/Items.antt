-- Items with ids or colours, to the end of a chunk.
use Rattle.layout.specs.Refused.{refusal_at}
use Rattle.std.specs.Prelude as std
use Rattle.layout.specs.declared.Refusal.{Refusal}
use Rattle.std.specs.Prelude.{ℕ, ◌+◌, ◌-◌, ◌*◌, ◌/◌, ◌%◌, ◌≤◌, List, ◌++◌, length, replicate, eqb, Ok, Err}
use Rattle.wire.specs.Test.{if}
use Rattle.wire.specs.declared.Cursor.{Cursor}
use Rattle.layout.specs.Result.{Result, accept, reject}
use Rattle.layout.specs.Rules.{Rule, any, names, unit}
use Rattle.layout.specs.Parts.{row, items}

-- the rules of an item: `before` words that are not looked at, n under the rule r, and `after` words that are not looked at
abbrev pub part_row : Rule → ℕ → ℕ → ℕ → List Rule
part_row r before n after = replicate before any ++ (replicate n r ++ replicate after any)

-- items with n words under the rule r behind `before` others and before `after` others, from place p to the end of s
abbrev pub part_items : Rule → ℕ → ℕ → ℕ → ℕ → List ℕ → Result (List (List ℕ))
part_items r before n after p s = items (row (part_row r before n after)) p s

-- items with `ids` ids below `limit`, none absent, then `others` words that are not looked at, from place p to the end of s
abbrev pub id_items : ℕ → ℕ → ℕ → ℕ → List ℕ → Result (List (List ℕ))
id_items ids others limit p s = part_items (names limit) 0 ids others p s

-- items with n colours behind `before` words and before `after` words that are not looked at, from place p to the end of s
abbrev pub colour_items : ℕ → ℕ → ℕ → ℕ → List ℕ → Result (List (List ℕ))
colour_items before n after p s = part_items unit before n after p s

-- how many items were read, or the refusal
abbrev pub counted : Result (List (List ℕ)) → std.Result ℕ Refusal
counted (accept l) = Ok (length l)
counted (reject n p) = Err (refusal_at n p)

-- how many items of `words` words the cursor c has left, by one division; 5 at an item that is cut
unfoldable pub divided_at : Cursor → ℕ → std.Result ℕ Refusal
divided_at c words =
    let size = 4 * words in
    let n = c.end - c.at in
    if (eqb (n % size) 0) (Ok (n / size)) (Err (refusal_at 5 (c.at + n / size * size)))

-- k items of `words` words have room in what c has left; a refusal's place is not past its end
abbrev pub CountedIn : Cursor → ℕ → std.Result ℕ Refusal → Type 0
CountedIn c words (Ok k) = k * (4 * words) ≤ c.end - c.at
CountedIn c words (Err e) = e.place ≤ c.end
