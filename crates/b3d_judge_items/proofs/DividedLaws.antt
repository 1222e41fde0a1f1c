-- Items that are not looked at, by one division: the answers of `whole_items`, and that they are the items of layout, counted.
use Rattle.layout.specs.Refused.{refusal_at}
use Rattle.std.specs.Prelude.{Ok, Err}
use Rattle.std.specs.Prelude as std
use Rattle.layout.specs.declared.Refusal.{Refusal}
use Prim.Native.Nat.{ℕ, ◌+◌, ◌-◌, ◌*◌, ◌/◌, ◌%◌, ◌<◌, ◌≤◌}
use native.Mathlib.Omega.{arith}
use native.Mathlib.Nat.{div-add-mod', mod-lt}
use mathlib.Core.Path.{◌≡◌, refl, sym, subst, ◌∙◌}
use mathlib.Core.List.{List}
use lib.ListN.{length, replicate}
use lib.Dec.{eqb, eqb→eq}
use mir.Facts.{eqb_no}
use borrow.Author.Tests.{eq-eqb, ne_eqb}
use Rattle.wire.specs.Test.{if}
use Rattle.wire.specs.Cursors.{Inside, left}
use Rattle.wire.specs.declared.Cursor.{Cursor}
use Rattle.wire.proofs.AnswerLaws.{left-length}
use Rattle.layout.specs.Result.{Result, accept, reject}
use Rattle.layout.specs.Parts.{row, items}
use Rattle.layout.specs.Rules.{any}
use Rattle.layout.proofs.ResultLaws.{by_test}
use Rattle.layout.proofs.StepLaws.{length-items-of, any-whole, any-cut}
use Rattle.b3d_judge_items.specs.Items.{counted, divided_at, CountedIn}

module _ (c : Cursor) (words : ℕ) where
  -- ---- the answers

  pub divided_whole : (c.end - c.at) % (4 * words) ≡ 0 → Ok ((c.end - c.at) / (4 * words)) ≡ divided_at c words
  unfolding divided_at if
  divided_whole h = rw (eq-eqb _ _ h)

  pub divided_cut : ((c.end - c.at) % (4 * words) ≡ 0 → ⊥) → Err (refusal_at 5 (c.at + (c.end - c.at) / (4 * words) * (4 * words))) ≡ divided_at c words
  unfolding divided_at if
  divided_cut h = rw (ne_eqb _ _ h)

  pub divided_room : (c.end - c.at) / (4 * words) * (4 * words) ≤ c.end - c.at
  divided_room = omega (arith, div-add-mod' (c.end - c.at) (4 * words))

  pub divided_before : c.at ≤ c.end → c.at + (c.end - c.at) / (4 * words) * (4 * words) ≤ c.end
  divided_before h = omega (arith, divided_room)

  -- ---- what they say

  pub divided_is : (s : List ℕ) → Inside c (length s) → 0 < words → divided_at c words ≡ counted (items (row (replicate words any)) c.at (left c s))
  divided_is s i pos =
      let n = c.end - c.at in
      let size = 4 * words in
      let l : length (left c s) ≡ n = left-length s c i in
      let d : n / size * size + n % size ≡ n = div-add-mod' n size in
      let m : n % size < size = mod-lt n (omega arith) in
      by_test (eqb (n % size) 0)
      (λ t. let z = eqb→eq (n % size) 0 t in
      sym (divided_whole z) ∙ rw (any-whole words pos (n / size) c.at (left c s) (omega arith), length-items-of (n / size) words (left c s)))
      (λ t. let z = eqb_no {a = n % size} {b = 0} t in
      sym (divided_cut z) ∙ rw (any-cut words pos (n / size) (n % size) c.at (left c s) (omega arith) (omega arith) m))

pub ruleset dividing = (divided_whole, divided_cut, divided_room, divided_before)

-- ---- what any counted answer says, of the places and of the items

module _ (c : Cursor) (words : ℕ) (r : std.Result ℕ Refusal) (b : CountedIn c words r) where
  pub counted-room : (k : ℕ) → r ≡ Ok k → k * (4 * words) ≤ c.end - c.at
  counted-room k w = subst (CountedIn c words) w b

  pub counted-before : (n : Refusal) → r ≡ Err n → n.place ≤ c.end
  counted-before n w = subst (CountedIn c words) w b

pub counted_got : (o : Result (List (List ℕ))) (k : ℕ) → counted o ≡ Ok k → (l : List (List ℕ)) × (o ≡ accept l) × (length l ≡ k)
counted_got (accept l) k e = (l, refl, cc)
counted_got (reject n p) k e = let z : ◌≡◌ {A = ℕ} 0 1 = cc in absurd (omega arith)

pub counted-bad : (o : Result (List (List ℕ))) (n : Refusal) → counted o ≡ Err n → o ≡ reject n.number n.place
counted-bad (accept l) n e = let z : ◌≡◌ {A = ℕ} 0 1 = cc in absurd (omega arith)
counted-bad (reject m q) n e = cc
