-- The chunks of a file in one list, the flat run. The end of a chunk takes no bytes, so a walk needs no stack: it goes into a NODE behind its text and ten
-- numbers, and past every other chunk.
use Rattle.std.specs.Prelude.{ℕ, zero, suc, ◌+◌, List, length, drop}
use Rattle.wire.specs.Test.{if}
use Rattle.layout.specs.Chunks.{done, stop, chunk}
use Rattle.layout.specs.Result.{Result, accept, reject}
use Rattle.layout.specs.Parts.{Name, Step, named}
use Rattle.b3d_spec.specs.declared.Tag.TheVariants.{NODE}
use Rattle.b3d_spec.specs.Rules.{node_row}
use Rattle.b3d_spec.specs.Tags.{Chunks, split, is}

-- the known chunks that stand one after the other in the file s from place `at` on
unfoldable pub rest : List ℕ → ℕ → Chunks
rest s at = split at (drop at s)

-- the NODE with header place p and body b, then the run `go` from the place behind its text and ten numbers; where these are not all there, the run ends in
-- that refusal
unfoldable pub enter : Result (Step (Name × List ℕ)) → ℕ → List ℕ → (ℕ → Chunks) → Chunks
enter (accept x) p b go = chunk NODE p b (go x.place)
enter (reject n q) p b go = stop n q

-- at most f chunks of the flat run of the file s that begins with the given chunks: a NODE is entered, every other chunk is passed over
unfoldable pub flat_in : ℕ → List ℕ → Chunks → Chunks
flat_in zero s done = done
flat_in zero s (stop n p) = stop n p
flat_in zero s (chunk t p b r) = done
flat_in (suc f) s done = done
flat_in (suc f) s (stop n p) = stop n p
flat_in (suc f) s (chunk t p b r) = if (is t NODE) (enter (named node_row (p + 8) b) p b (λ q. flat_in f s (rest s q))) (chunk t p b (flat_in f s r))

-- the flat run of the file s from place `at` on; there are no more chunks than bytes
unfoldable pub flat_at : List ℕ → ℕ → Chunks
flat_at s at = flat_in (length s) s (rest s at)

-- the flat run of the file s: from place 12 on, behind BB3D's header and the version
unfoldable pub flat : List ℕ → Chunks
flat s = flat_at s 12
