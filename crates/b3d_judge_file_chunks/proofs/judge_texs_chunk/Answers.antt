-- `judge_texs_chunk` judges the textures, if TEXS comes first.
use Rattle.std.proofs.lemmas.Result.{err_from_is_err_and}
use Rattle.b3d_judge_file_chunks.proofs.FileLaws.{texs_laws, texs_rest}
use borrow.Author.Rules.{rules}
use Rattle.b3d_judge_file_chunks.proofs.judge_texs_chunk.Goals as goal

pub next_chunk-found-requires : goal.next_chunk-found-requires
next_chunk-found-requires c = search (texs_laws, rules)

pub first_inside-requires : goal.first_inside-requires
first_inside-requires c = search (texs_laws, rules)

pub enum_told-1 : goal.enum_told-1
enum_told-1 c = search (texs_laws, rules)

pub none-requires : goal.none-requires
none-requires c = search (texs_laws, rules)

pub judge_textures-requires : goal.judge_textures-requires
judge_textures-requires c = search (texs_laws, rules)

pub enum_known-t : goal.enum_known-t
enum_known-t c = search (texs_laws, rules)

pub returns-in_default : goal.returns-in_default
returns-in_default c = let h = c.in_ok-tag.was in let w = rw c.in_default.is at h in search (texs_laws, rules)

pub returns-in_err-tag : goal.returns-in_err-tag
returns-in_err-tag c = let h = c.in_err-tag.was in let p = err_from_is_err_and c.from_residual.result c.from_residual.ensures.1 in rw (p.1, p.2) (search (texs_laws, rules))

pub returns-in_err-t-in-TEXS : goal.returns-in_err-t-in-TEXS
returns-in_err-t-in-TEXS c = let h₁ = c.in_ok-tag.was in let h₂ = c.in_err-t-in-TEXS.was in let w = rw c.in-Some.is at h₁ in let p = err_from_is_err_and c.from_residual-in_err-t-in-TEXS.result c.from_residual-in_err-t-in-TEXS.ensures.1 in rw (p.1, p.2) (search (texs_laws, rules))

pub returns-in_ok-t-in-TEXS : goal.returns-in_ok-t-in-TEXS
returns-in_ok-t-in-TEXS c = let h₁ = c.in_ok-tag.was in let h₂ = c.in_ok-t-in-TEXS.was in let w = rw c.in-Some.is at h₁ in search (texs_laws, rules)

pub returns-in_default-tag : goal.returns-in_default-tag
returns-in_default-tag c =
    let h = c.in_ok-tag.was in
    let w = rw c.in-Some.is at h in
    let o = texs_rest c.in-Some.field-0.tag c.in_default-tag.not-TEXS in
    search (texs_laws, rules)
