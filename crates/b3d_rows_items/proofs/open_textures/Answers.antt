-- `open_textures` finds the first TEXS.
use Rattle.b3d_rows_items.proofs.OpenTextLaws.{open_laws}
use borrow.Author.Rules.{rules}
use Rattle.b3d_rows_items.proofs.open_textures.Goals as goal

pub first_chunk-requires : goal.first_chunk-requires
first_chunk-requires c = search (open_laws, rules)

pub no_texts-requires : goal.no_texts-requires
no_texts-requires c = search (open_laws, rules)

pub returns-in_default : goal.returns-in_default
returns-in_default c = search (open_laws, rules)

pub returns : goal.returns
returns c = search (open_laws, rules)
