-- `judge_brus_chunk` judges the brushes, if BRUS comes first.
use Rattle.std.proofs.lemmas.Result.{err_from_is_err_and}
use Rattle.b3d_judge_file_chunks.proofs.FileLaws.{brus_laws, brus_rest}
use borrow.Author.Rules.{rules}
use Rattle.b3d_judge_file_chunks.proofs.judge_brus_chunk.Goals as goal

pub next_chunk-found-requires : goal.next_chunk-found-requires
next_chunk-found-requires c = search (brus_laws, rules)

pub next_inside-requires : goal.next_inside-requires
next_inside-requires c = search (brus_laws, rules)

pub enum_told-1 : goal.enum_told-1
enum_told-1 c = search (brus_laws, rules)

pub none-requires : goal.none-requires
none-requires c = search (brus_laws, rules)

pub judge_brushes-requires : goal.judge_brushes-requires
judge_brushes-requires c = search (brus_laws, rules)

pub enum_known-slots : goal.enum_known-slots
enum_known-slots c = search (brus_laws, rules)

pub returns-in_default : goal.returns-in_default
returns-in_default c = let h = c.in_ok-tag.was in let w = rw c.in_default.is at h in search (brus_laws, rules)

pub returns-in_err-tag : goal.returns-in_err-tag
returns-in_err-tag c = let h = c.in_err-tag.was in let p = err_from_is_err_and c.from_residual.result c.from_residual.ensures.1 in rw (p.1, p.2) (search (brus_laws, rules))

pub returns-in_err-slots-in-BRUS : goal.returns-in_err-slots-in-BRUS
returns-in_err-slots-in-BRUS c = let h₁ = c.in_ok-tag.was in let h₂ = c.in_err-slots-in-BRUS.was in let w = rw c.in-Some.is at h₁ in let p = err_from_is_err_and c.from_residual-in_err-slots-in-BRUS.result c.from_residual-in_err-slots-in-BRUS.ensures.1 in rw (p.1, p.2) (search (brus_laws, rules))

pub returns-in_ok-slots-in-BRUS : goal.returns-in_ok-slots-in-BRUS
returns-in_ok-slots-in-BRUS c = let h₁ = c.in_ok-tag.was in let h₂ = c.in_ok-slots-in-BRUS.was in let w = rw c.in-Some.is at h₁ in search (brus_laws, rules)

pub returns-in_default-tag : goal.returns-in_default-tag
returns-in_default-tag c =
    let h = c.in_ok-tag.was in
    let w = rw c.in-Some.is at h in
    let o = brus_rest c.in-Some.field-0.tag c.in_default-tag.not-BRUS in
    search (brus_laws, rules)
