-- What `number`, `text` and `header` of `wire` and `named_row` of `b3d_chunk_cursor` say: for each case the values, or 01's number and place.
use Rattle.std.specs.Prelude as std
use Rattle.b3d_chunk_cursor.specs.declared.Named.{Named}
use Rattle.std.specs.Prelude.{◌≡◌, ℕ, List, [], ◌∷◌, take, replicate, Some, None}
use Rattle.wire.specs.Cursors.{left, number_at, text_at, header_at}
use Rattle.wire.specs.declared.Cursor.{Cursor}
use Rattle.wire.specs.declared.Header.{Header}
use Rattle.wire.specs.declared.Header.TheVariants as header
use Rattle.layout.specs.Chunks.{done, stop, keep}
use Rattle.layout.specs.Result.{Result, accept, reject}
use Rattle.layout.specs.Parts.{Name, Step, words_of, row, text as read_text, named as read_named}
use Rattle.layout.specs.Rules.{any}
use Rattle.layout.specs.Refusals as refusals
use Rattle.b3d_spec.specs.Tags.{Chunks, tag_of, split}
use Rattle.b3d_chunk_cursor.specs.Chunks.{named_at}

-- what the answer of `number` says of s at c, where data or an item begins: the number and what follows it; cut, it is 5 at c
abbrev pub number_says : List ℕ → Cursor → std.Option (ℕ × Cursor) → Result (Step (List ℕ))
number_says s c (Some (n, next)) = accept (record { value = n ∷ []; place = next.at; left = left next s })
number_says s c None = reject refusals.cut_item c.at

-- what the answer of `text` says of s at c, where data or an item begins: its bytes and what follows its zero; cut, it is 5 at c
abbrev pub text_says : List ℕ → Cursor → std.Option (ℕ × Cursor) → Result (Step (List ℕ))
text_says s c (Some (n, next)) = accept (record { value = take n (left c s); place = next.at; left = left next s })
text_says s c None = reject refusals.cut_item c.at

-- what a `Header` says of s at c: its chunk, which is passed over if the tag is not known, then the chunks after it; cut, it is 3 at c; at the end there is
-- no chunk
abbrev pub header_says : List ℕ → Cursor → Header → Chunks
header_says s c (header.Whole tag body next) = keep (tag_of tag) c.at (left body s) (split next.at (left next s))
header_says s c header.Cut = stop refusals.cut_chunk c.at
header_says s c header.End = done

-- what the answer of `named_row` says of s at c: a name and `words` words, and what follows them; cut, it is 5 at c, where the name begins
abbrev pub named_says : List ℕ → Cursor → ℕ → std.Option Named → Result (Step (Name × List ℕ))
named_says s c words (Some f) =
    accept (record { value = (record { place = c.at; bytes = take f.length (left c s) }, words_of words (left f.row s)); place = f.next.at; left = left f.next s })
named_says s c words None = reject refusals.cut_item c.at

-- what a cursor c answers on s is what is read there by the definitions of files
pub record Answered (s : List ℕ) (c : Cursor) : Type 0 where
  -- a number is read as `number_at` has it
  pub number : row (any ∷ []) c.at (left c s) ≡ number_says s c (number_at s c)
  -- a text is read as `text_at` has it
  pub text : read_text c.at c.at (left c s) ≡ text_says s c (text_at s c)
  -- the chunks are read as `header_at` has the first
  pub header : split c.at (left c s) ≡ header_says s c (header_at s c)
  -- a name and its words are read as `named_at` has them
  pub named : (words : ℕ) → read_named (replicate words any) c.at (left c s) ≡ named_says s c words (named_at s c words)
