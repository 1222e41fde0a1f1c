-- What each of the four mends changes: the bytes before and after.
use Rattle.std.specs.Prelude.{◌≡◌, ◌⊎◌, ℕ, ◌≤◌, List, [], length}
use Rattle.wire.specs.Bytes.{bytes}
use Rattle.layout.specs.Rules.{NONE}
use Rattle.b3d_mend_spec.specs.Edits.{Edit, keep, follow, mend}

-- 1: a length, the four bytes b, is set to another, the four bytes a
abbrev pub LengthSet : ℕ → List ℕ → List ℕ → Type 0
LengthSet k b a = (k ≡ 1) × (length b ≡ 4) × ((n : ℕ) × (a ≡ bytes n []))

-- 2: an id, the four bytes b, is set to -1
abbrev pub IdSet : ℕ → List ℕ → List ℕ → Type 0
IdSet k b a = (k ≡ 2) × (length b ≡ 4) × (a ≡ bytes NONE [])

-- 3: a triangle or a weight, 12 or 8 bytes b, is taken out
abbrev pub ItemOut : ℕ → List ℕ → List ℕ → Type 0
ItemOut k b a = (k ≡ 3) × ((length b ≡ 12) ⊎ (length b ≡ 8)) × (a ≡ [])

-- 4: 1 to 7 spare bytes b are taken out
abbrev pub SpareOut : ℕ → List ℕ → List ℕ → Type 0
SpareOut k b a = (k ≡ 4) × (1 ≤ length b) × (length b ≤ 7) × (a ≡ [])

-- an edit that is a mend is one of E13's four; other edits are none
abbrev pub OfFour : Edit → Type 0
OfFour (keep b) = Unit {0}
OfFour (follow n m) = Unit {0}
OfFour (mend k b a) = LengthSet k b a ⊎ (IdSet k b a ⊎ (ItemOut k b a ⊎ SpareOut k b a))
