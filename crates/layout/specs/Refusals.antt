-- The sixteen refusals by name, as include/kelompuris.h names them: 1 to 12 are those of 01, 13 to 16 came later. 0, accepted, is no refusal.
use Rattle.std.specs.Prelude.{ℕ}

-- the file's size is outside its limits
abbrev pub file_size : ℕ
file_size = 1

-- the first tag is not BB3D, or its length is not the file's size minus 8; of cal3d, the magic is not the one asked for
abbrev pub first_tag : ℕ
first_tag = 2

-- a chunk's header is cut, or its length passes the enclosing chunk
abbrev pub cut_chunk : ℕ
cut_chunk = 3

-- a known tag is not allowed here, or stands once too often, or out of order
abbrev pub nesting : ℕ
nesting = 4

-- fixed data or an item runs past its chunk, or the length of an ANIM is not 12; of cal3d, data runs past the file or stops before its end
abbrev pub cut_item : ℕ
cut_item = 5

-- a number is outside its range
abbrev pub range : ℕ
range = 6

-- an id names nothing
abbrev pub no_such_id : ℕ
no_such_id = 7

-- a MESH ends without VRTS or TRIS
abbrev pub no_vrts_or_tris : ℕ
no_vrts_or_tris = 8

-- a node is nested deeper than the levels that there may be
abbrev pub too_deep : ℕ
too_deep = 9

-- a table has more rows than the limit
abbrev pub too_many_rows : ℕ
too_many_rows = 10

-- a lent table or an output is too short
abbrev pub too_short : ℕ
too_short = 11

-- no accepted file has the lent tables
abbrev pub no_such_tables : ℕ
no_such_tables = 12

-- a number of a slip is wrong, or the slip is cut or too long
abbrev pub no_slip : ℕ
no_slip = 13

-- a label can not be read off the file
abbrev pub no_label : ℕ
no_label = 14

-- a judge in pieces was closed, or its state is none that it can have
abbrev pub closed : ℕ
closed = 15

-- the bones of a skeleton are no tree
abbrev pub no_tree : ℕ
no_tree = 16
