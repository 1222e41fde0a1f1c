-- A cal3d file up to its entries.
use Rattle.layout.specs.Refused.{refusal_at}
use Rattle.std.specs.Prelude as std
use Rattle.layout.specs.declared.Refusal.{Refusal}
use Rattle.std.specs.Prelude.{ℕ, List, [], ◌∷◌, length, replicate, eqb, Ok, Err}
use Rattle.layout.specs.Result.{Result, accept, reject, check, ◌>>=◌}
use Rattle.layout.specs.Parts.{Step, row, number}
use Rattle.layout.specs.Rows.{size_fits}
use Rattle.layout.specs.Rules.{Rule, any, exactly, count}
use Rattle.layout.specs.Refusals as refusals

-- the rules of a header after the magic: version; number of entries; `more` numbers
abbrev pub head_numbers : ℕ → ℕ → List Rule
head_numbers version more = exactly version ∷ count ∷ replicate more any

-- the header's numbers of the file s: checks 1 and 2, then the numbers by their rules
unfoldable pub read_head : ℕ → ℕ → ℕ → List ℕ → Result (Step (List ℕ))
read_head magic version more s = do
  _ ← check (size_fits (length s)) refusals.file_size 0
  m ← row (any ∷ []) 0 s
  _ ← check (eqb (number m 0) magic) refusals.first_tag 0
  row (head_numbers version more) m.place m.left

-- what code answers for a header that was read: the number of entries, or the refusal
abbrev pub opened_of : Result (Step (List ℕ)) → std.Result ℕ Refusal
opened_of (accept h) = Ok (number h 1)
opened_of (reject n p) = Err (refusal_at n p)
