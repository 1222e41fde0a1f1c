-- Answers from what was read: a refusal and its place, or a value and the bytes that its tally is within.
use Rattle.std.specs.Prelude.{Ok, Err}
use Rattle.std.specs.Prelude as std
use Rattle.layout.specs.declared.Refusal.{Refusal}
use Prim.Native.Nat.{ℕ, ◌≤◌, ◌-◌}
use native.Mathlib.Omega.{arith}
use native.Mathlib.Nat.{mul-le-mul_left}
use mathlib.Core.Path.{sym, ◌≡◌, ◌∙◌}
use mathlib.Core.List.{List}
use lib.ListN.{length}
use Rattle.wire.specs.Cursors.{Inside}
use Rattle.wire.specs.declared.Cursor.{Cursor}
use Rattle.layout.specs.Result.{Result, accept, reject}
use Rattle.layout.specs.Rows.{most_bytes}
use Rattle.b3d_judge_items.specs.Items.{counted, CountedIn}
use Rattle.b3d_judge_items.proofs.DividedLaws.{counted-room, counted_got, counted-bad}
use Rattle.b3d_judge_tally.specs.Answers.{Judges}
use Rattle.b3d_judge_tally.specs.Tally.{Within}
use Rattle.b3d_judge_tally.specs.declared.Tally.{Tally}

module _ {A : Type 0} (tally : A → Tally) (o : Result A) (from to : ℕ) where
  pub judges_bad : (n : Refusal) → o ≡ reject n.number n.place → n.place ≤ to → Judges tally o from to (Err n)
  judges_bad n e h = record { is = rw e; within = h }

  pub judges_good : (a : A) (t : Tally) → o ≡ accept a → t ≡ tally a → Within t (to - from) → Judges tally o from to (Ok t)
  judges_good a t e f h = record { is = rw (e, f); within = h }

  -- by the count of the items i that it is made of
  module _ (i : Result (List (List ℕ))) (x : std.Result ℕ Refusal) (y : x ≡ counted i) where
    pub items-bad : (n : Refusal) → x ≡ Err n → (i ≡ reject n.number n.place → o ≡ reject n.number n.place) → n.place ≤ to → Judges tally o from to (Err n)
    items-bad n q f h = judges_bad n (f (counted-bad i n (sym y ∙ q))) h

    pub items-good : (k : ℕ) → x ≡ Ok k → (make : List (List ℕ) → A) → ((l : List (List ℕ)) → i ≡ accept l → o ≡ accept (make l)) → (t : Tally)
        → ((l : List (List ℕ)) → length l ≡ k → t ≡ tally (make l)) → Within t (to - from) → Judges tally o from to (Ok t)
    items-good k q make f t g h = let a = counted_got i k (sym y ∙ q) in judges_good (make a.0) t (f a.0 a.1) (g a.0 a.2) h

-- items of at least one word, no more than bytes
pub counted-few : (c : Cursor) (words : ℕ) (x : std.Result ℕ Refusal) (k n : ℕ) → CountedIn c words x → x ≡ Ok k → 1 ≤ words → Inside c n → n ≤ most_bytes → k ≤ most_bytes
counted-few c words x k n z q pos i m =
    omega (arith, counted-room c words x z k q, mul-le-mul_left {m = 1} k pos)
