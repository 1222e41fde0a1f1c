-- 4 and 8 are given exactly where the table says: the nesting rule, told by the entries of the table alone.
use mathlib.Core.Path.{◌≡◌, refl, ap, sym, ◌∙◌}
use Prim.Native.Nat.{ℕ}
use mathlib.Core.Bool.{Bool, true, false}
use mathlib.Core.Option.{Option, none, some}
use mathlib.Core.List.{List}
use Rattle.wire.specs.Test.{if}
use Rattle.layout.specs.Chunks.{done, stop, chunk}
use Rattle.b3d_spec.specs.declared.Tag.{Tag}
use Rattle.b3d_spec.specs.Tags.{Chunks}
use Rattle.b3d_spec.specs.Nesting.{nesting, Reached, end, next, onward, order}
use Rattle.b3d_rule_nesting_table.specs.declared.Entry.{Entry}
use Rattle.b3d_rule_nesting_lookup.specs.Entries.{entry_of}
use Rattle.b3d_rule_nesting_order.specs.ByTable.{permitted_by, after_by, missing_before, ByTable}
use Rattle.b3d_rule_nesting_order.proofs.RowLaws.{row_owed}
use Rattle.b3d_rule_nesting_order.proofs.PermitLaws.{next_by, next-by, entry_is}

-- to go on where a test says so, or 4
onward-if : (b : Bool) (z : Reached) (p : ℕ) (go : Reached → Chunks) → onward (if b (some z) none) p go ≡ if b (go z) (stop 4 p)
unfolding onward if
onward-if true z p go = refl
onward-if false z p go = refl

pub four-by-table : (k : Tag) (head : ℕ) (q : Reached) (t : Tag) (p : ℕ) (b : List ℕ) (l : Chunks)
    → order k head q (chunk t p b l) ≡ if (permitted_by (missing_before k q (entry_of k t).turn) q (entry_of k t)) (chunk t p b (order k head (after_by q (entry_of k t)) l)) (stop 4 p)
unfolding order
four-by-table k head q t p b l =
    let e : next (nesting k) (nesting k) q t ≡ if (permitted_by (missing_before k q (entry_of k t).turn) q (entry_of k t)) (some (after_by q (entry_of k t))) none =
    next-by (nesting k) (nesting k) q t ∙ ap (λ (y : Entry). next_by (nesting k) q y) (sym (entry_is k t))
    ∙ ap (λ (o : Bool). if (permitted_by o q (entry_of k t)) (some (after_by q (entry_of k t))) none) (sym (row_owed k q.turn (entry_of k t).turn)) in
    ap (λ (o : Option Reached). onward o p (λ z. chunk t p b (order k head z l))) e
    ∙ onward-if (permitted_by (missing_before k q (entry_of k t).turn) q (entry_of k t)) (after_by q (entry_of k t)) p (λ z. chunk t p b (order k head z l))

pub eight-by-table : (k : Tag) (head : ℕ) (q : Reached) → order k head q done ≡ if (missing_before k q end) (stop 8 head) done
unfolding order
eight-by-table k head q = ap (λ (o : Bool). if o (stop 8 head) done) (sym (row_owed k q.turn end))

pub by-table : ByTable
unfolding order
by-table = record { four = four-by-table; eight = eight-by-table; stopped = λ k head q n p. refl }
