-- A node and its list of children, which call each other: the levels left fall. The loop's measure is what is left.
use Rattle.std.proofs.lemmas.Result.{err_from_is_err_and}
use Prim.Native.Nat.{◌-◌}
use Rattle.b3d_mend_judge_tree.proofs.NodeLaws.{node_laws, noding}
use borrow.Author.Rules.{rules}
use Rattle.b3d_mend_judge_tree.proofs.+lax_node_lax_nodes.Goals as goal

pub lax_node-returns-then-levels-eq0 : goal.lax_node-returns-then-levels-eq0
lax_node-returns-then-levels-eq0 t c = search (node_laws, rules)

pub lax_node-lax_own-requires : goal.lax_node-lax_own-requires
lax_node-lax_own-requires t c = search (node_laws, rules)

pub lax_node-enum_known-below : goal.lax_node-enum_known-below
lax_node-enum_known-below t c = search (node_laws, rules)

pub lax_node-overflow_sub-levels : goal.lax_node-overflow_sub-levels
lax_node-overflow_sub-levels t c = search (node_laws, rules)

pub lax_node-lax_nodes-requires : goal.lax_node-lax_nodes-requires
lax_node-lax_nodes-requires t c = search (node_laws, rules)

pub lax_node-enum_known-f : goal.lax_node-enum_known-f
lax_node-enum_known-f t c = search (node_laws, rules)

pub lax_node-plus-requires : goal.lax_node-plus-requires
lax_node-plus-requires t c = search (node_laws, rules)

pub lax_nodes-none-m-requires : goal.lax_nodes-none-m-requires
lax_nodes-none-m-requires t c = search (noding, rules)

pub lax_nodes-loop-p-init : goal.lax_nodes-loop-p-init
lax_nodes-loop-p-init t c = search (noding, rules)

pub lax_nodes-next_chunk-found-requires : goal.lax_nodes-next_chunk-found-requires
lax_nodes-next_chunk-found-requires t c = search (noding, rules)

pub lax_nodes-next_inside-requires : goal.lax_nodes-next_inside-requires
lax_nodes-next_inside-requires t c = search (noding, rules)

pub lax_nodes-lax_node-requires : goal.lax_nodes-lax_node-requires
lax_nodes-lax_node-requires t c = search (noding, rules)

pub lax_nodes-enum_known-t : goal.lax_nodes-enum_known-t
lax_nodes-enum_known-t t c = search (noding, rules)

pub lax_nodes-plus-m-requires : goal.lax_nodes-plus-m-requires
lax_nodes-plus-m-requires t c = search (noding, rules)

pub lax_nodes-loop-p-smaller : goal.lax_nodes-loop-p-smaller
lax_nodes-loop-p-smaller t c = search (noding, rules)

pub lax_nodes-loop-p-preserved : goal.lax_nodes-loop-p-preserved
lax_nodes-loop-p-preserved t c = let h₁ = c.in_ok-p.was in let h₂ = c.in_ok-t.was in let w = rw c.in-Some.is at h₁ in search (noding, rules)

pub lax_node-returns-in_err-below : goal.lax_node-returns-in_err-below
lax_node-returns-in_err-below t c =
    let h = c.in_err-below.was in let p = err_from_is_err_and c.from_residual.result c.from_residual.ensures.1 in rw (p.1, p.2) (search (node_laws, rules))

pub lax_node-returns-in_err-f : goal.lax_node-returns-in_err-f
lax_node-returns-in_err-f t c =
    let h₁ = c.in_ok-below.was in let h₂ = c.in_err-f.was in let p = err_from_is_err_and c.from_residual-in_err-f.result c.from_residual-in_err-f.ensures.1 in rw (p.1, p.2) (search (node_laws, rules))

pub lax_node-returns : goal.lax_node-returns
lax_node-returns t c = let h₁ = c.in_ok-below.was in let h₂ = c.in_ok-f.was in search (node_laws, rules)

pub lax_nodes-returns-in_err-p : goal.lax_nodes-returns-in_err-p
lax_nodes-returns-in_err-p t c =
    let h = c.in_err-p.was in let p = err_from_is_err_and c.from_residual.result c.from_residual.ensures.1 in rw (p.1, p.2) (search (noding, rules))

pub lax_nodes-returns-in_default : goal.lax_nodes-returns-in_default
lax_nodes-returns-in_default t c = let h = c.in_ok-p.was in let w = rw c.in_default.is at h in search (noding, rules)

pub lax_nodes-returns-in_err-t : goal.lax_nodes-returns-in_err-t
lax_nodes-returns-in_err-t t c =
    let h₁ = c.in_ok-p.was in let w = rw c.in-Some.is at h₁ in let h₂ = c.in_err-t.was in let p = err_from_is_err_and c.from_residual-in_err-t.result c.from_residual-in_err-t.ensures.1 in rw (p.1, p.2) (search (noding, rules))
