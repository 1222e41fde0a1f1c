-- A node and its list of children, which call each other: the levels left fall. The loop's measure is what is left.
use Rattle.std.proofs.lemmas.Result.{err_from_is_err_and}
use Prim.Native.Nat.{◌-◌}
use Rattle.b3d_judge_nodes.proofs.NodeLaws.{node_laws, noding}
use borrow.Author.Rules.{rules}
use Rattle.b3d_judge_nodes.proofs.+judge_node_judge_nodes.Goals as goal

pub judge_node-returns-then-levels-eq0 : goal.judge_node-returns-then-levels-eq0
judge_node-returns-then-levels-eq0 t c = search (node_laws, rules)

pub judge_node-judge_own-requires : goal.judge_node-judge_own-requires
judge_node-judge_own-requires t c = search (node_laws, rules)

pub judge_node-enum_known-below : goal.judge_node-enum_known-below
judge_node-enum_known-below t c = search (node_laws, rules)

pub judge_node-overflow_sub-levels : goal.judge_node-overflow_sub-levels
judge_node-overflow_sub-levels t c = search (node_laws, rules)

pub judge_node-judge_nodes-requires : goal.judge_node-judge_nodes-requires
judge_node-judge_nodes-requires t c = search (node_laws, rules)

pub judge_node-enum_known-f : goal.judge_node-enum_known-f
judge_node-enum_known-f t c = search (node_laws, rules)

pub judge_node-plus-requires : goal.judge_node-plus-requires
judge_node-plus-requires t c = search (node_laws, rules)

pub judge_nodes-none-m-requires : goal.judge_nodes-none-m-requires
judge_nodes-none-m-requires t c = search (noding, rules)

pub judge_nodes-loop-p-init : goal.judge_nodes-loop-p-init
judge_nodes-loop-p-init t c = search (noding, rules)

pub judge_nodes-next_chunk-found-requires : goal.judge_nodes-next_chunk-found-requires
judge_nodes-next_chunk-found-requires t c = search (noding, rules)

pub judge_nodes-next_inside-requires : goal.judge_nodes-next_inside-requires
judge_nodes-next_inside-requires t c = search (noding, rules)

pub judge_nodes-judge_node-requires : goal.judge_nodes-judge_node-requires
judge_nodes-judge_node-requires t c = search (noding, rules)

pub judge_nodes-enum_known-t : goal.judge_nodes-enum_known-t
judge_nodes-enum_known-t t c = search (noding, rules)

pub judge_nodes-plus-m-requires : goal.judge_nodes-plus-m-requires
judge_nodes-plus-m-requires t c = search (noding, rules)

pub judge_nodes-loop-p-smaller : goal.judge_nodes-loop-p-smaller
judge_nodes-loop-p-smaller t c = search (noding, rules)

pub judge_nodes-loop-p-preserved : goal.judge_nodes-loop-p-preserved
judge_nodes-loop-p-preserved t c = let h₁ = c.in_ok-p.was in let h₂ = c.in_ok-t.was in let w = rw c.in-Some.is at h₁ in search (noding, rules)

pub judge_node-returns-in_err-below : goal.judge_node-returns-in_err-below
judge_node-returns-in_err-below t c =
    let h = c.in_err-below.was in let p = err_from_is_err_and c.from_residual.result c.from_residual.ensures.1 in rw (p.1, p.2) (search (node_laws, rules))

pub judge_node-returns-in_err-f : goal.judge_node-returns-in_err-f
judge_node-returns-in_err-f t c =
    let h₁ = c.in_ok-below.was in let h₂ = c.in_err-f.was in let p = err_from_is_err_and c.from_residual-in_err-f.result c.from_residual-in_err-f.ensures.1 in rw (p.1, p.2) (search (node_laws, rules))

pub judge_node-returns : goal.judge_node-returns
judge_node-returns t c = let h₁ = c.in_ok-below.was in let h₂ = c.in_ok-f.was in search (node_laws, rules)

pub judge_nodes-returns-in_err-p : goal.judge_nodes-returns-in_err-p
judge_nodes-returns-in_err-p t c =
    let h = c.in_err-p.was in let p = err_from_is_err_and c.from_residual.result c.from_residual.ensures.1 in rw (p.1, p.2) (search (noding, rules))

pub judge_nodes-returns-in_default : goal.judge_nodes-returns-in_default
judge_nodes-returns-in_default t c = let h = c.in_ok-p.was in let w = rw c.in_default.is at h in search (noding, rules)

pub judge_nodes-returns-in_err-t : goal.judge_nodes-returns-in_err-t
judge_nodes-returns-in_err-t t c =
    let h₁ = c.in_ok-p.was in let w = rw c.in-Some.is at h₁ in let h₂ = c.in_err-t.was in let p = err_from_is_err_and c.from_residual-in_err-t.result c.from_residual-in_err-t.ensures.1 in rw (p.1, p.2) (search (noding, rules))
