-- The ten tables one by one.
use mathlib.Core.Path.{◌≡◌}
use Prim.Native.Nat.{ℕ, ◌-◌}
use mathlib.Core.List.{List, [], ◌∷◌}
use lib.ListN.{get_or}
use lib.Seq.{sets}
use Rattle.layout.specs.Rows.{joined}
use Rattle.b3d_spec.proofs.Rows.TableNumberLaws.{table-each, ten-tables}
use Rattle.b3d_spec_plain_rows.specs.Rows.{file_rows}
use Rattle.b3d_read_tables.specs.Fills.{Filled}

abbrev Is : List ℕ → List (List ℕ) → List (List ℕ) → ℕ → Type 0
Is s before after k = get_or after (k - 1) [] ≡ sets (get_or before (k - 1) []) 0 (joined (file_rows k s))

pub all-filled : (s t1 t2 t3 t4 t5 t6 t7 t8 t9 t10 u1 u2 u3 u4 u5 u6 u7 u8 u9 u10 : List ℕ)
    → u1 ≡ sets t1 0 (joined (file_rows 1 s)) → u2 ≡ sets t2 0 (joined (file_rows 2 s)) → u3 ≡ sets t3 0 (joined (file_rows 3 s)) → u4 ≡ sets t4 0 (joined (file_rows 4 s)) → u5 ≡ sets t5 0 (joined (file_rows 5 s))
    → u6 ≡ sets t6 0 (joined (file_rows 6 s)) → u7 ≡ sets t7 0 (joined (file_rows 7 s)) → u8 ≡ sets t8 0 (joined (file_rows 8 s)) → u9 ≡ sets t9 0 (joined (file_rows 9 s)) → u10 ≡ sets t10 0 (joined (file_rows 10 s))
    → Filled s (t1 ∷ t2 ∷ t3 ∷ t4 ∷ t5 ∷ t6 ∷ t7 ∷ t8 ∷ t9 ∷ t10 ∷ []) (u1 ∷ u2 ∷ u3 ∷ u4 ∷ u5 ∷ u6 ∷ u7 ∷ u8 ∷ u9 ∷ u10 ∷ [])
all-filled s t1 t2 t3 t4 t5 t6 t7 t8 t9 t10 u1 u2 u3 u4 u5 u6 u7 u8 u9 u10 e1 e2 e3 e4 e5 e6 e7 e8 e9 e10 =
    record { table = table-each (Is s (t1 ∷ t2 ∷ t3 ∷ t4 ∷ t5 ∷ t6 ∷ t7 ∷ t8 ∷ t9 ∷ t10 ∷ []) (u1 ∷ u2 ∷ u3 ∷ u4 ∷ u5 ∷ u6 ∷ u7 ∷ u8 ∷ u9 ∷ u10 ∷ [])) (ten-tables (Is s (t1 ∷ t2 ∷ t3 ∷ t4 ∷ t5 ∷ t6 ∷ t7 ∷ t8 ∷ t9 ∷ t10 ∷ []) (u1 ∷ u2 ∷ u3 ∷ u4 ∷ u5 ∷ u6 ∷ u7 ∷ u8 ∷ u9 ∷ u10 ∷ [])) e1 e2 e3 e4 e5 e6 e7 e8 e9 e10) }
