-- A worked file: a root with a KEYS of one key, a child with an ANIM, and a nameless child. The definitions compute.
use mathlib.Core.Path.{◌≡◌, refl}
use Prim.Native.Nat.{ℕ}
use mathlib.Core.List.{List, [], ◌∷◌}
use Rattle.wire.specs.Test.{if}
use Rattle.wire.specs.Bytes.{word}
use Rattle.layout.specs.Chunks.{keep, split_in, split}
use Rattle.layout.specs.Result.{check}
use Rattle.layout.specs.Parts.{text, words, judged, named}
use Rattle.layout.specs.Rules.{NONE}
use Rattle.layout.specs.Rows.{name_cells}
use Rattle.b3d_spec.specs.Mask.{mask, ones, padded, key_has, key_mask}
use Rattle.b3d_spec.specs.Tables.{start, kind_cells, anim_cells, node_row}
use Rattle.b3d_spec.specs.Tags.{tag_of}
use Rattle.b3d_spec_plain_rows.specs.Plain.{whole, plain_keys, plain_anim}
use Rattle.b3d_spec_plain_rows.specs.Flat.{rest, enter, flat_in, flat_at, flat}
use Rattle.b3d_spec_plain_rows.specs.Rows.{add_node, add_keys, list_row, key_list_rows, flat_rows, kind_of, anim_of, parent_at, nodes_before, row_of, node_rows, file_rows}

file : List ℕ
file = 66 ∷ 66 ∷ 51 ∷ 68 ∷ 202 ∷ 0 ∷ 0 ∷ 0 ∷ 1 ∷ 0 ∷ 0 ∷ 0 ∷ 78 ∷ 79 ∷ 68 ∷ 69 ∷ 190 ∷ 0 ∷ 0 ∷ 0 ∷ 97 ∷ 0 ∷ 0 ∷ 0 ∷ 0 ∷ 0 ∷ 0 ∷ 0 ∷ 0 ∷ 0 ∷ 0 ∷ 0 ∷ 0 ∷ 0 ∷ 0 ∷ 0 ∷ 0 ∷ 0 ∷ 0 ∷ 0 ∷ 0 ∷ 0 ∷ 0 ∷ 0 ∷ 0 ∷ 0 ∷ 0 ∷ 0 ∷ 0 ∷ 0 ∷ 0 ∷ 0 ∷ 0 ∷ 0 ∷ 0 ∷ 0 ∷ 0 ∷ 0 ∷ 0 ∷ 0 ∷ 0 ∷ 0 ∷ 75 ∷ 69 ∷ 89 ∷ 83 ∷ 20 ∷ 0 ∷ 0 ∷ 0 ∷ 1 ∷ 0 ∷ 0 ∷ 0 ∷ 5 ∷ 0 ∷ 0 ∷ 0 ∷ 6 ∷ 0 ∷ 0 ∷ 0 ∷ 7 ∷ 0 ∷ 0 ∷ 0 ∷ 8 ∷ 0 ∷ 0 ∷ 0 ∷ 78 ∷ 79 ∷ 68 ∷ 69 ∷ 63 ∷ 0 ∷ 0 ∷ 0 ∷ 98 ∷ 99 ∷ 0 ∷ 0 ∷ 0 ∷ 0 ∷ 0 ∷ 0 ∷ 0 ∷ 0 ∷ 0 ∷ 0 ∷ 0 ∷ 0 ∷ 0 ∷ 0 ∷ 0 ∷ 0 ∷ 0 ∷ 0 ∷ 0 ∷ 0 ∷ 0 ∷ 0 ∷ 0 ∷ 0 ∷ 0 ∷ 0 ∷ 0 ∷ 0 ∷ 0 ∷ 0 ∷ 0 ∷ 0 ∷ 0 ∷ 0 ∷ 0 ∷ 0 ∷ 0 ∷ 0 ∷ 0 ∷ 0 ∷ 0 ∷ 65 ∷ 78 ∷ 73 ∷ 77 ∷ 12 ∷ 0 ∷ 0 ∷ 0 ∷ 1 ∷ 0 ∷ 0 ∷ 0 ∷ 2 ∷ 0 ∷ 0 ∷ 0 ∷ 3 ∷ 0 ∷ 0 ∷ 0 ∷ 78 ∷ 79 ∷ 68 ∷ 69 ∷ 41 ∷ 0 ∷ 0 ∷ 0 ∷ 0 ∷ 0 ∷ 0 ∷ 0 ∷ 0 ∷ 0 ∷ 0 ∷ 0 ∷ 0 ∷ 0 ∷ 0 ∷ 0 ∷ 0 ∷ 0 ∷ 0 ∷ 0 ∷ 0 ∷ 0 ∷ 0 ∷ 0 ∷ 0 ∷ 0 ∷ 0 ∷ 0 ∷ 0 ∷ 0 ∷ 0 ∷ 0 ∷ 0 ∷ 0 ∷ 0 ∷ 0 ∷ 0 ∷ 0 ∷ 0 ∷ 0 ∷ 0 ∷ 0 ∷ 0 ∷ 0 ∷ 0 ∷ []

computing : Unit {0}
unfolding file if word keep split_in split check text words judged named mask ones padded key_has key_mask start name_cells kind_cells anim_cells node_row tag_of whole plain_keys plain_anim rest enter flat_in flat_at flat add_node add_keys list_row key_list_rows flat_rows kind_of anim_of parent_at nodes_before row_of node_rows file_rows
computing = tt

nodes : file_rows 3 file ≡ (20 ∷ 1 ∷ NONE ∷ 0 ∷ 0 ∷ 0 ∷ 0 ∷ 0 ∷ 0 ∷ 0 ∷ 0 ∷ 0 ∷ 0 ∷ 0 ∷ 0 ∷ 0 ∷ 0 ∷ 0 ∷ 0 ∷ 0 ∷ 2 ∷ []) ∷ (98 ∷ 2 ∷ 0 ∷ 0 ∷ 0 ∷ 0 ∷ 0 ∷ 0 ∷ 0 ∷ 0 ∷ 0 ∷ 0 ∷ 0 ∷ 0 ∷ 0 ∷ 0 ∷ 1 ∷ 1 ∷ 2 ∷ 3 ∷ 0 ∷ []) ∷ (169 ∷ 0 ∷ 0 ∷ 0 ∷ 0 ∷ 0 ∷ 0 ∷ 0 ∷ 0 ∷ 0 ∷ 0 ∷ 0 ∷ 0 ∷ 0 ∷ 0 ∷ 0 ∷ 0 ∷ 0 ∷ 0 ∷ 0 ∷ 0 ∷ []) ∷ []
unfolding computing
nodes = refl

lists : file_rows 9 file ≡ (0 ∷ 1 ∷ 0 ∷ 1 ∷ []) ∷ []
unfolding computing
lists = refl

keys : file_rows 10 file ≡ (5 ∷ 6 ∷ 7 ∷ 8 ∷ 0 ∷ 0 ∷ 0 ∷ 0 ∷ 0 ∷ 0 ∷ 0 ∷ []) ∷ []
unfolding computing
keys = refl
