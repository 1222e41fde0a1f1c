-- Where in a file the nesting table says no, and the statement that 4 and 8 are given just there.
use Rattle.std.specs.Prelude.{◌⊎◌, ◌≡◌, ℕ, ◌≤◌, true, false, List}
use Rattle.std.proofs.Math.Option.{some}
use Rattle.layout.specs.Result.{Result, reject}
use Rattle.layout.specs.Refusals as refusals
use Rattle.b3d_spec.specs.declared.Tag.{Tag}
use Rattle.b3d_spec.specs.Nesting.{Reached, end}
use Rattle.b3d_spec.specs.Scene.{Scene}
use Rattle.b3d_rule_nesting_order.specs.ByTable.{missing_before}
use Rattle.b3d_rule_refusal_places.specs.ByHeaders.{tag_at, end_of, may_stand, InFile, Sooner}

-- Inside a chunk of tag k, whose header is at `head` and which ends at `last`, the chunks up to place h have come to r, and there the table says no: refusal
-- n at place p, met at place m.
pub data SaysNo (s : List ℕ) (n p m : ℕ) : Tag → ℕ → ℕ → ℕ → Reached → Type 0 where
  -- a chunk of a known tag stands where it is not allowed, or once too often, or out of order: 4 at its header
  denied : (k : Tag) (head h last : ℕ) (r : Reached) (t : Tag) → end_of s h ≤ last → tag_at s h ≡ some t → may_stand k r t ≡ false
      → n ≡ refusals.nesting → p ≡ h → m ≡ h → SaysNo s n p m k head h last r
  -- the chunks end, and one that must stand is missing: 8 at the header of the chunk that encloses them
  owing : (k : Tag) (head h last : ℕ) (r : Reached) → h ≡ last → missing_before k r end ≡ true → n ≡ refusals.no_vrts_or_tris → p ≡ head → m ≡ h
      → SaysNo s n p m k head h last r

-- somewhere in the file s the table says no: refusal n at place p, met at place m
abbrev pub Fault : List ℕ → ℕ → ℕ → ℕ → Type 0
Fault s n p m = InFile s (SaysNo s n p m)

-- E5: `answer` gives 4 and 8, in their turn among the checks, exactly where the table says
pub record GivenByTable (answer : List ℕ → Result Scene) : Type 0 where
  -- 4 is given only at a header where the table says no
  pub four : (s : List ℕ) (p : ℕ) → answer s ≡ reject refusals.nesting p → Fault s refusals.nesting p p
  -- 8 is given only at the header of a chunk in which the table says that one is missing
  pub eight : (s : List ℕ) (p : ℕ) → answer s ≡ reject refusals.no_vrts_or_tris p → (m : ℕ) × Fault s refusals.no_vrts_or_tris p m
  -- wherever the table says no its refusal is given, unless another refusal comes sooner
  pub given : (s : List ℕ) (n p m : ℕ) → Fault s n p m → (answer s ≡ reject n p) ⊎ ((i : ℕ) × (q : ℕ) × (answer s ≡ reject i q) × Sooner m i q)
  -- 10, whose place is a table's number, is never given for a file in which the table says no
  pub before_ten : (s : List ℕ) (n p m q : ℕ) → Fault s n p m → answer s ≡ reject refusals.too_many_rows q → ⊥
