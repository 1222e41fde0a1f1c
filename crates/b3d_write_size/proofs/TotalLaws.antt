-- A law for each way through the functions that add up tables.
use mathlib.Core.Path.{◌≡◌, refl}
use Prim.Native.Nat.{ℕ, ◌+◌, ◌*◌, ◌≤◌}
use native.Mathlib.Omega.{arith}
use mathlib.Core.Bool.{Bool, true, false}
use mathlib.Core.List.{List}
use mir.Syntax.{w64}
use mir.Val.{Fits}
use lib.Dec.{eqb}
use borrow.Author.Tests.{eq-eqb, ne_eqb}
use Rattle.wire.specs.Test.{if}
use Rattle.layout.proofs.AllLaws.{All, all_pure}
use Rattle.b3d_spec.specs.declared.Counts.{Counts}
use Rattle.b3d_spec.specs.Rebuild.{cut}
use Rattle.b3d_spec.specs.Tables.{node_width}
use Rattle.b3d_write_row_size.specs.RowSize.{table_most, rows_bytes, Sizable, Wide, RowsAdd}
use Rattle.b3d_write_size.specs.LentSize.{part_most, around, lists_bytes, nodes_bytes, file_bytes, NodesSizable}

-- ---- a chunk around rows

module _ (rows bytes : ℕ) where
  pub around-none : rows ≡ 0 → 0 ≡ around rows bytes
  unfolding around if
  around-none e = rw (eq-eqb rows 0 e)

  pub around-some : (rows ≡ 0 → ⊥) → bytes ≡ around rows bytes
  unfolding around if
  around-some d = rw (ne_eqb rows 0 d)

  around-low : around rows bytes ≤ bytes
  unfolding around if
  around-low = by (eqb rows 0)
    where
      by : (b : Bool) → if b 0 bytes ≤ bytes
      by true = omega arith
      by false = omega arith

pub ruleset around_laws = (around-none, around-some)

-- ---- what rows of each table ask for

any_sizable : (k : ℕ) → (k ≡ 4 → ⊥) → (k ≡ 9 → ⊥) → (rs : List (List ℕ)) → All (Sizable k) rs
any_sizable k a b rs = all_pure (Sizable k) (λ r. record { flags = λ e. absurd (a e); sets = λ e. absurd (a e); size = λ e. absurd (a e); keys = λ e. absurd (b e) }) rs

pub sizable_1 : (rs : List (List ℕ)) → All (Sizable 1) rs
sizable_1 = any_sizable 1 (λ e. omega arith) (λ e. omega arith)

pub sizable_2 : (rs : List (List ℕ)) → All (Sizable 2) rs
sizable_2 = any_sizable 2 (λ e. omega arith) (λ e. omega arith)

pub sizable_3 : (rs : List (List ℕ)) → All (Sizable 3) rs
sizable_3 = any_sizable 3 (λ e. omega arith) (λ e. omega arith)

any-wide : (k w : ℕ) → (k ≡ 3 → w ≡ node_width) → (k ≡ 4 → w ≡ 9) → (k ≡ 9 → w ≡ 4) → Wide k w
any-wide k w a b c = record { nodes = a; meshes = b; lists = c }

pub wide_1 : Wide 1 9
wide_1 = any-wide 1 9 (λ e. absurd (omega arith)) (λ e. absurd (omega arith)) (λ e. absurd (omega arith))

pub wide_2 : Wide 2 17
wide_2 = any-wide 2 17 (λ e. absurd (omega arith)) (λ e. absurd (omega arith)) (λ e. absurd (omega arith))

pub wide_3 : Wide 3 node_width
wide_3 = any-wide 3 node_width (λ e. refl) (λ e. absurd (omega arith)) (λ e. absurd (omega arith))

pub wide_4 : Wide 4 9
wide_4 = any-wide 4 9 (λ e. absurd (omega arith)) (λ e. refl) (λ e. absurd (omega arith))

pub wide_9 : Wide 9 4
wide_9 = any-wide 9 4 (λ e. absurd (omega arith)) (λ e. absurd (omega arith)) (λ e. refl)

-- ---- TEXS and BRUS

pub more-low : (slots n : ℕ) → slots ≤ 8 → n ≡ slots → 29 + 4 * n ≤ 64
more-low slots n h e = omega arith

module _ (slots c₁ c₂ : ℕ) (r₁ r₂ : List (List ℕ)) (n : ℕ) (en : n ≡ slots) (x texs y brus : ℕ)
    (ex : x ≡ around c₁ 8) (et : RowsAdd table_most (rows_bytes 1 29 r₁) texs) (ey : y ≡ around c₂ 12) (eb : RowsAdd table_most (rows_bytes 2 (29 + 4 * n) r₂) brus) where
  pub lists-fit : Fits w64 (x + texs + (y + brus))
  lists-fit = record { fits = omega (arith, around-low c₁ 8, around-low c₂ 12, et.low, eb.low) }

  pub lists_sum : RowsAdd part_most (lists_bytes slots c₁ c₂ r₁ r₂) (x + texs + (y + brus))
  unfolding lists_bytes
  lists_sum = record { is = rw (ex, et.is, ey, eb.is, en); low = omega (arith, around-low c₁ 8, around-low c₂ 12, et.low, eb.low) }

pub first_fits : (c₁ x texs : ℕ) (w : ℕ) → x ≡ around c₁ 8 → RowsAdd table_most w texs → Fits w64 (x + texs)
first_fits c₁ x texs w e s = record { fits = omega (arith, around-low c₁ 8, s.low) }

pub second_fits : (c₂ y brus : ℕ) (w : ℕ) → y ≡ around c₂ 12 → RowsAdd table_most w brus → Fits w64 (y + brus)
second_fits c₂ y brus w e s = record { fits = omega (arith, around-low c₂ 12, s.low) }

pub ruleset lists_laws = (sizable_1, sizable_2, wide_1, wide_2, more-low, first_fits, second_fits, lists-fit, lists_sum)

-- ---- NODE, MESH and KEYS

pub nodes-sum : (r₃ r₄ r₉ : List (List ℕ)) (a b c : ℕ) → RowsAdd table_most (rows_bytes 3 0 r₃) a → RowsAdd table_most (rows_bytes 4 0 r₄) b → RowsAdd table_most (rows_bytes 9 0 r₉) c
    → RowsAdd part_most (nodes_bytes r₃ r₄ r₉) (a + b + c)
unfolding nodes_bytes
nodes-sum r₃ r₄ r₉ a b c x y z = record { is = rw (x.is, y.is, z.is); low = omega (arith, x.low, y.low, z.low) }

pub ruleset nodes_laws = (sizable_3, wide_3, wide_4, wide_9, nodes-sum)

-- ---- the whole

module _ (n : Counts) (t₃ t₄ t₉ : List ℕ) (h : NodesSizable n t₃ t₄ t₉) where
  pub sets-fit : Fits w64 (12 * n.sets)
  sets-fit = record { fits = omega (arith, h.limited.sets) }

  pub triangles-fit : Fits w64 (12 * n.triangles)
  triangles-fit = record { fits = omega (arith, h.limited.triangles) }

  pub weights-fit : Fits w64 (8 * n.weights)
  weights-fit = record { fits = omega (arith, h.limited.weights) }

  module _ (a b v w : ℕ) (ea : RowsAdd part_most v a) (eb : RowsAdd part_most w b) where
    pub sum-sets : Fits w64 (12 + a + b + 12 * n.sets)
    sum-sets = record { fits = omega (arith, ea.low, eb.low, h.limited.sets) }

    pub sum-triangles : Fits w64 (12 + a + b + 12 * n.sets + 12 * n.triangles)
    sum-triangles = record { fits = omega (arith, ea.low, eb.low, h.limited.sets, h.limited.triangles) }

    pub sum-weights : Fits w64 (12 + a + b + 12 * n.sets + 12 * n.triangles + 8 * n.weights)
    sum-weights = record { fits = omega (arith, ea.low, eb.low, h.limited.sets, h.limited.triangles, h.limited.weights) }

pub file-sum : (slots c₁ c₂ : ℕ) (n : Counts) (t₁ t₂ t₃ t₄ t₉ : List ℕ) (a b : ℕ)
    → RowsAdd part_most (lists_bytes slots c₁ c₂ (cut 9 c₁ t₁) (cut 17 c₂ t₂)) a → RowsAdd part_most (nodes_bytes (cut node_width n.nodes t₃) (cut 9 n.meshes t₄) (cut 4 n.lists t₉)) b
    → 12 + a + b + 12 * n.sets + 12 * n.triangles + 8 * n.weights ≡ file_bytes slots c₁ c₂ n t₁ t₂ t₃ t₄ t₉
unfolding file_bytes
file-sum slots c₁ c₂ n t₁ t₂ t₃ t₄ t₉ a b x y = rw (x.is, y.is)

pub ruleset file_laws = (sets-fit, triangles-fit, weights-fit, sum-sets, sum-triangles, sum-weights, file-sum)
