-- `lax_kind` judges a MESH or a BONE, if it comes first.
use Rattle.std.proofs.lemmas.Result.{err_from_is_err_and}
use Rattle.b3d_judge_node.proofs.KindLaws.{kind_rest}
use Rattle.b3d_mend_judge_node.proofs.KindLaws.{kind_laws}
use borrow.Author.Rules.{rules}
use Rattle.b3d_mend_judge_node.proofs.lax_kind.Goals as goal

pub next_chunk-found-requires : goal.next_chunk-found-requires
next_chunk-found-requires c = search (kind_laws, rules)

pub first_inside-requires : goal.first_inside-requires
first_inside-requires c = search (kind_laws, rules)

pub enum_told-1 : goal.enum_told-1
enum_told-1 c = search (kind_laws, rules)

pub none-requires : goal.none-requires
none-requires c = search (kind_laws, rules)

pub lax_mesh-requires : goal.lax_mesh-requires
lax_mesh-requires c = search (kind_laws, rules)

pub enum_known-own : goal.enum_known-own
enum_known-own c = search (kind_laws, rules)

pub enum_told-in-BONE : goal.enum_told-in-BONE
enum_told-in-BONE c = search (kind_laws, rules)

pub lax_bone-requires : goal.lax_bone-requires
lax_bone-requires c = search (kind_laws, rules)

pub enum_known-t : goal.enum_known-t
enum_known-t c = search (kind_laws, rules)

pub returns-in_default : goal.returns-in_default
returns-in_default c = let h = c.in_ok-tag.was in let w = rw c.in_default.is at h in search (kind_laws, rules)

pub returns-in_err-tag : goal.returns-in_err-tag
returns-in_err-tag c = let h = c.in_err-tag.was in let p = err_from_is_err_and c.from_residual.result c.from_residual.ensures.1 in rw (p.1, p.2) (search (kind_laws, rules))

pub returns-in_err-own-in-MESH : goal.returns-in_err-own-in-MESH
returns-in_err-own-in-MESH c = let h₁ = c.in_ok-tag.was in let h₂ = c.in_err-own-in-MESH.was in let w = rw c.in-Some.is at h₁ in let p = err_from_is_err_and c.from_residual-in_err-own-in-MESH.result c.from_residual-in_err-own-in-MESH.ensures.1 in rw (p.1, p.2) (search (kind_laws, rules))

pub returns-in_err-t-in-BONE : goal.returns-in_err-t-in-BONE
returns-in_err-t-in-BONE c = let h₁ = c.in_ok-tag.was in let h₂ = c.in_err-t-in-BONE.was in let w = rw c.in-Some.is at h₁ in let p = err_from_is_err_and c.from_residual-in_err-t-in-BONE.result c.from_residual-in_err-t-in-BONE.ensures.1 in rw (p.1, p.2) (search (kind_laws, rules))

pub returns-in_ok-own-in-MESH : goal.returns-in_ok-own-in-MESH
returns-in_ok-own-in-MESH c = let h = c.in_ok-own-in-MESH.was in search (kind_laws, rules)

pub returns-in_ok-t-in-BONE : goal.returns-in_ok-t-in-BONE
returns-in_ok-t-in-BONE c = let h = c.in_ok-t-in-BONE.was in search (kind_laws, rules)

pub returns-in_default-tag : goal.returns-in_default-tag
returns-in_default-tag c =
    let h = c.in_ok-tag.was in
    let w = rw c.in-Some.is at h in
    let o = kind_rest c.in-Some.field-0.tag c.in_default-tag.not-MESH c.in_default-tag.not-BONE in
    search (kind_laws, rules)
