-- What the close comes to, as code holds it.
use Rattle.layout.specs.Refused.{refusal_at}
use Rattle.std.specs.Prelude as std
use Rattle.layout.specs.declared.Refusal.{Refusal}
use Rattle.std.specs.Prelude.{◌≡◌, ℕ, ◌-◌, false, List, map, replicate, get_or, leb, Ok, Err}
use Rattle.wire.specs.Test.{if}
use Rattle.layout.specs.Result.{Result, accept, reject}
use Rattle.b3d_pieces_spec.specs.declared.Totals.{Totals}
use Rattle.b3d_pieces_spec.specs.declared.Open.{Open}
use Rattle.b3d_spec.specs.declared.Answer.{Answer}
use Rattle.b3d_pieces_spec.specs.Close.{counts_of, ended, closing}
use Rattle.b3d_pieces_item_steps.specs.declared.Now.{Now}
use Rattle.b3d_pieces_item_steps.specs.Nows.{state_with}
use Rattle.b3d_pieces_step.specs.Turns.{pends}
use Rattle.b3d_pieces_judge_step.specs.declared.Judge.{Judge}
use Rattle.b3d_pieces_judge_step.specs.Takes.{held_of}

-- a result of the definitions as code holds it
abbrev pub closing_of : Result Totals → std.Result Totals Refusal
closing_of (accept g) = Ok g
closing_of (reject n p) = Err (refusal_at n p)

-- how many rows of table k were counted
abbrev pub rows_in : Totals → ℕ → ℕ
rows_in g k = get_or (counts_of g) (k - 1) 0

-- a number of the answer in 32 bits; a larger one is 0xFFFFFFFF
unfoldable pub as_word : ℕ → ℕ
as_word n = if (leb n 0xFFFFFFFF) n 0xFFFFFFFF

-- the answer: on acceptance version, n_texs and the ten counts, on a refusal its number and place, all else 0
abbrev pub answer_by : std.Result Totals Refusal → Answer
answer_by (Ok g) = record { number = 0; place = 0; version = g.version; n_texs = g.slots; counts = counts_of g }
answer_by (Err e) = record { number = e.number; place = e.place; version = 0; n_texs = 0; counts = replicate 10 0 }

-- the answer a with its numbers in 32 bits
abbrev pub word_answer : Answer → Answer
word_answer a =
    record { number = a.number; place = as_word a.place; version = as_word a.version; n_texs = as_word a.n_texs; counts = map as_word a.counts }

-- r is what the machine has come to, by what is held
pub record EndIs (held : Now) (r : std.Result Totals Refusal) : Type 0 where
  -- where no chunk waits to be entered or left, whatever stands in the row
  pub is : pends held ≡ false → (R : List Open) → r ≡ closing_of (ended (state_with R held))

-- r is what all bytes joined come to by j
pub record Closes (j : Judge) (r : std.Result Totals Refusal) : Type 0 where
  -- between two pieces, whatever stands in the row
  pub is : pends j.now ≡ false → (rs : ℕ → Open) → r ≡ closing_of (closing (held_of j rs))
