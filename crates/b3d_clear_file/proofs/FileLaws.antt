-- A law for each way through `clear_file`.
use mathlib.Core.Path.{◌≡◌}
use Prim.Native.Nat.{ℕ, ◌+◌, ◌-◌, ◌≤◌}
use native.Mathlib.Omega.{arith}
use mathlib.Core.List.{List, [], ◌++◌}
use lib.ListN.{length, take, drop}
use Rattle.wire.specs.Bytes.{bytes, word_at}
use Rattle.wire.specs.Cursors.{Inside}
use Rattle.shared_output.specs.Writing.{Wrote, Room, Put, head}
use Rattle.b3d_spec.specs.Tags.{code}
use Rattle.b3d_spec.specs.declared.Tag.TheVariants.{BB3D}
use Rattle.b3d_clear_spec.specs.Copies.{chunks_at, in_file, file_copy}
use Rattle.b3d_clear_copied_chunks.proofs.ChunkLaws.{open_fits, open_room, open_asks, open_done}

pub file-inside : (s : List ℕ) → 12 ≤ length s → Inside (record { at = 12; end = length s }) (length s)
file-inside s h = record { before = h; within = omega arith }

pub file-number : (s : List ℕ) → 12 ≤ length s → 8 + 4 ≤ length s
file-number s h = omega arith

-- the version and the chunks of a file, by the number that was read
pub file-done : (s out : List ℕ) → Room (file_copy s) out → (ys : List ℕ) (n : ℕ) → Put (in_file (chunks_at s (record { at = 12; end = length s }))) (take (length out - 12) (drop 12 out)) ys n
    → (v : ℕ) → v ≡ word_at s 8 → (zs : List ℕ) → Wrote (take 12 out ++ (ys ++ drop (length out - 12) (drop 12 out))) (head (code BB3D) n (bytes v [])) zs → Put (file_copy s) out zs (n + 12)
file-done s out r ys n w v e zs h = open_done (code BB3D) (word_at s 8) (in_file (chunks_at s (record { at = 12; end = length s }))) out r ys n w zs (rw e at h)

pub ruleset file_laws = (file-inside, file-number, open_fits, open_room, open_asks, file-done)
