-- The nesting rule of b3d_spec by rows and columns: for each two tags the entry that the rule has for them.
use Rattle.std.specs.Prelude.{ℕ, true, false, List, [], ◌∷◌, map, get_or}
use Rattle.wire.specs.Test.{if}
use Rattle.b3d_spec.specs.declared.Tag.{Tag}
use Rattle.b3d_spec.specs.declared.Tag.TheVariants.{BB3D, TEXS, BRUS, NODE, MESH, VRTS, TRIS, BONE, KEYS, ANIM}
use Rattle.b3d_spec.specs.Tags.{is}
use Rattle.b3d_spec.specs.Nesting.{entry, nesting, needed, repeats}
use Rattle.b3d_spec.specs.Nesting as nest
use Rattle.b3d_rule_nesting_table.specs.declared.Entry.{Entry}

-- the ten tags in the order of the rows, and of the columns
abbrev pub tags : List Tag
tags = BB3D ∷ TEXS ∷ BRUS ∷ NODE ∷ MESH ∷ VRTS ∷ TRIS ∷ BONE ∷ KEYS ∷ ANIM ∷ []

-- the entry of a tag that may not stand
abbrev pub denied : Entry
denied = record { allowed = false; turn = 0; must = false; again = false }

-- the first entry of the rule's list for tag t; `denied` where there is none
unfoldable pub entry_in : List nest.Entry → Tag → Entry
entry_in [] t = denied
entry_in (entry k turn often ∷ l) t = if (is t k) (record { allowed = true; turn = turn; must = needed often; again = repeats often }) (entry_in l t)

-- the entry for tag t inside a chunk of tag k
abbrev pub entry_for : Tag → Tag → Entry
entry_for k t = entry_in (nesting k) t

-- the table: a row for each tag that encloses, a column for each that stands in it
unfoldable pub nesting_table : List (List Entry)
nesting_table = map (λ k. map (λ t. entry_for k t) tags) tags

-- the entry in a row and a column, both from 0 on
unfoldable pub entry_at : ℕ → ℕ → Entry
entry_at row column = get_or (get_or nesting_table row []) column denied
