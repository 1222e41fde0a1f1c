-- The reader's refusal is the first of a file's faults, the mender's the first of another kind than the four.
use Rattle.std.specs.Prelude.{◌⊎◌, ◌≡◌, ℕ, ◌≤◌, List, [], ◌∷◌}
use Rattle.layout.specs.Result.{Result, accept, reject}
use Rattle.layout.specs.Refusals as refusals
use Rattle.b3d_spec.specs.declared.Mode.TheVariants.{Lenient}
use Rattle.b3d_spec.specs.Answers.{judge}
use Rattle.b3d_spec.specs.Parse.{parse}
use Rattle.b3d_mend_spec.specs.Mend.{mend_file}
use Rattle.b3d_mend_spec.specs.Report.{mend_into}
use Rattle.b3d_mend_faults.specs.Faults.{Fault, mendable, other, faults}
use Rattle.b3d_mend_faults.specs.Headers.{Spare, Past}

-- the refusal that the first fault of a list has; none where there is no fault
unfoldable pub refusal_by : List Fault → Result (Unit {0})
refusal_by [] = accept tt
refusal_by (mendable k n p ∷ l) = reject n p
refusal_by (other n p ∷ l) = reject n p

-- a list of faults with the four left out
unfoldable pub others : List Fault → List Fault
others [] = []
others (mendable k n p ∷ l) = others l
others (other n p ∷ l) = other n p ∷ others l

-- a refusal, and nothing of what was read
unfoldable pub refusal_of : {A : Type 0} → Result A → Result (Unit {0})
refusal_of (accept a) = accept tt
refusal_of (reject n p) = reject n p

-- For every list of bytes s. `faults s` are its faults in 01's order, 1 to 9, up to the first that is not mended.
pub record FirstFault (s : List ℕ) : Type 0 where
  -- the reader refuses at the first of the faults, and reads s exactly where there is none
  pub reader : refusal_of (parse Lenient s) ≡ refusal_by (faults s)
  -- the mender refuses at the first of the faults with the four left out, and mends s exactly where none is left
  pub mender : refusal_of (mend_file s) ≡ refusal_by (others (faults s))
  -- the reader's answer is the first fault
  pub judged : (n p : ℕ) → refusal_by (faults s) ≡ reject n p → judge Lenient s ≡ reject n p
  -- an answer 1 to 9 of the reader is the first fault: 10 comes only where there is no fault
  pub judged_by : (n p : ℕ) → n ≤ refusals.too_deep → judge Lenient s ≡ reject n p → refusal_by (faults s) ≡ reject n p
  -- the mender's answer is the first fault of another kind, whatever room its outputs have
  pub refused : (n p : ℕ) → refusal_by (others (faults s)) ≡ reject n p → (room report_room : ℕ) → mend_into room report_room s ≡ reject n p
  -- an answer 1 to 9 of the mender is the first fault of another kind: 10 and 11 come only where none is left
  pub refused_by : (n p : ℕ) → n ≤ refusals.too_deep → (room report_room : ℕ) → mend_into room report_room s ≡ reject n p
      → refusal_by (others (faults s)) ≡ reject n p
  -- where the first fault is of another kind, reader and mender both answer it
  pub same : (n p : ℕ) (l : List Fault) → faults s ≡ other n p ∷ l
      → (room report_room : ℕ) → (judge Lenient s ≡ reject n p) × (mend_into room report_room s ≡ reject n p)
  -- a 3 of the reader stands where 1 to 7 bytes are left for a header, or at a length past what encloses it
  pub three : (p : ℕ) → judge Lenient s ≡ reject refusals.cut_chunk p → Spare s p ⊎ Past s p
  -- no place has both kinds of 3
  pub apart : (p : ℕ) → Spare s p → Past s p → ⊥
  -- a 3 at a length past what encloses it is the mender's answer too
  pub past : (p : ℕ) → judge Lenient s ≡ reject refusals.cut_chunk p → Past s p → (room report_room : ℕ) → mend_into room report_room s ≡ reject refusals.cut_chunk p
  -- the mender answers 3 only at such a length: spare bytes are mended
  pub only_past : (p room report_room : ℕ) → mend_into room report_room s ≡ reject refusals.cut_chunk p → Past s p
