-- The laws of tallies: sums, and the bytes that they are within.
use mathlib.Core.Path.{◌≡◌}
use Prim.Native.Nat.{ℕ, ◌≤◌, ◌+◌, ◌*◌}
use native.Mathlib.Nat.{add-zero, zero-add, add_assoc}
use native.Mathlib.Omega.{arith}
use Rattle.b3d_judge_tally.specs.Tally.{no_tally, bytes_tally, head_tally, vertices_tally, triangles_tally, weights_tally, keys_tally, plus, Within}
use Rattle.b3d_judge_tally.specs.declared.Tally.{Tally}

-- ---- sums

pub same_tally : (a b : Tally) → a.textures ≡ b.textures → a.brushes ≡ b.brushes → a.nodes ≡ b.nodes → a.meshes ≡ b.meshes → a.vertices ≡ b.vertices → a.sets ≡ b.sets → a.triangles ≡ b.triangles → a.weights ≡ b.weights → a.lists ≡ b.lists → a.keys ≡ b.keys → a.copy ≡ b.copy → a ≡ b
same_tally a b e1 e2 e3 e4 e5 e6 e7 e8 e9 e10 e11 = λ i. record { textures = e1 i; brushes = e2 i; nodes = e3 i; meshes = e4 i; vertices = e5 i; sets = e6 i; triangles = e7 i; weights = e8 i; lists = e9 i; keys = e10 i; copy = e11 i }

pub none-plus : (t : Tally) → plus no_tally t ≡ t
unfolding plus no_tally
none-plus t = same_tally _ _ (zero-add _) (zero-add _) (zero-add _) (zero-add _) (zero-add _) (zero-add _) (zero-add _) (zero-add _) (zero-add _) (zero-add _) (zero-add _)

pub plus_none : (t : Tally) → plus t no_tally ≡ t
unfolding plus no_tally
plus_none t = same_tally _ _ (add-zero _) (add-zero _) (add-zero _) (add-zero _) (add-zero _) (add-zero _) (add-zero _) (add-zero _) (add-zero _) (add-zero _) (add-zero _)

pub plus_assoc : (a b c : Tally) → plus (plus a b) c ≡ plus a (plus b c)
unfolding plus
plus_assoc a b c = same_tally _ _ (add_assoc _ _ _) (add_assoc _ _ _) (add_assoc _ _ _) (add_assoc _ _ _) (add_assoc _ _ _) (add_assoc _ _ _) (add_assoc _ _ _) (add_assoc _ _ _) (add_assoc _ _ _) (add_assoc _ _ _) (add_assoc _ _ _)

-- ---- bytes

pub within_more : {t : Tally} (m n : ℕ) → Within t m → m ≤ n → Within t n
within_more m n h le = record { rows = omega arith; copy = omega arith }

pub within_none : (n : ℕ) → Within no_tally n
unfolding no_tally
within_none n = record { rows = omega arith; copy = omega arith }

pub within-plus : (a b : Tally) (m n p : ℕ) → Within a m → Within b n → m + n ≤ p → Within (plus a b) p
unfolding plus
within-plus a b m n p h k le = record { rows = omega arith; copy = omega arith }

pub within-bytes : (k n : ℕ) → k ≤ n → Within (bytes_tally k) n
unfolding bytes_tally
within-bytes k n le = record { rows = omega arith; copy = omega arith }

pub within-head : (n : ℕ) → 49 ≤ n → Within head_tally n
unfolding head_tally
within-head n le = record { rows = omega arith; copy = omega arith }

pub within-vertices : (k words n : ℕ) → 3 ≤ words → 32 + k * (4 * words) ≤ n → k * 12 ≤ k * (4 * words) → Within (vertices_tally k words) n
unfolding vertices_tally
within-vertices k words n w le m = record { rows = omega arith; copy = omega arith }

pub within-triangles : (k n : ℕ) → 12 + k * 12 ≤ n → Within (triangles_tally k) n
unfolding triangles_tally
within-triangles k n le = record { rows = omega arith; copy = omega arith }

pub within-weights : (k n : ℕ) → 8 + k * 8 ≤ n → Within (weights_tally k) n
unfolding weights_tally
within-weights k n le = record { rows = omega arith; copy = omega arith }

pub within-keys : (k words n : ℕ) → 12 + k * (4 * words) ≤ n → k * 4 ≤ k * (4 * words) → Within (keys_tally k words) n
unfolding keys_tally
within-keys k words n le m = record { rows = omega arith; copy = omega arith }
