-- The report's entries stand in the order of the given file.
use Prim.Native.Nat.{ℕ, ◌+◌, ◌≤◌}
use native.Mathlib.Omega.{arith}
use mathlib.Core.List.{List, [], ◌∷◌}
use lib.ListN.{length}
use Rattle.b3d_mend_spec.specs.Edits.{Edit, keep, follow, mend}
use Rattle.b3d_mend_spec.specs.Report.{ReportEntry, entries}
use Rattle.b3d_mend_spec.specs.Mends.{Ordered}

ordered-from : (l : List ReportEntry) (p q : ℕ) → p ≤ q → Ordered q l → Ordered p l
ordered-from [] p q h k = tt
ordered-from (e ∷ l) p q h k = (omega (arith, k.0), k.1)

pub entries-ordered : (x : List Edit) (p : ℕ) → Ordered p (entries p x)
unfolding entries
entries-ordered [] p = tt
entries-ordered (keep b ∷ x) p = ordered-from (entries (p + length b) x) p (p + length b) (omega arith) (entries-ordered x (p + length b))
entries-ordered (follow i j ∷ x) p = ordered-from (entries (p + 4) x) p (p + 4) (omega arith) (entries-ordered x (p + 4))
entries-ordered (mend k b a ∷ x) p = (omega arith, entries-ordered x (p + length b))
