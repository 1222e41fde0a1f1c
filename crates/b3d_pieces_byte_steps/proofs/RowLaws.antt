-- The laws of a row of numbers, in the words of the code.
use mathlib.Core.Path.{◌≡◌, refl, ap, sym, ◌∙◌}
use Prim.Native.Nat.{ℕ, zero, suc, ◌+◌, ◌-◌, ◌*◌, ◌/◌, ◌<◌, ◌≤◌}
use native.Mathlib.Omega.{arith}
use mathlib.Core.Bool.{Bool, true, false}
use lib.ListN.{length}
use borrow.Author.Tests.{lt-ltb, le-ltb, eq-eqb, ne_eqb}
use Rattle.wire.specs.Test.{if}
use Rattle.wire.specs.Bytes.{IsWord}
use Rattle.layout.specs.Rules.{Rule, any, up_to, exactly, names, names_or_none, unit, holds, refusal}
use Rattle.b3d_pieces_spec.specs.declared.Totals.{Totals}
use Rattle.b3d_pieces_spec.specs.declared.Kept.{Kept}
use Rattle.b3d_pieces_spec.specs.declared.Open.{Open}
use Rattle.b3d_pieces_spec.specs.declared.Part.TheVariants.{Row}
use Rattle.b3d_pieces_spec.specs.Bodies.{rules_of, rule_at, nests, none_kept, keep}
use Rattle.b3d_pieces_spec.specs.Machine.{rules, counting, fixed_done, header_done, inner_done, row_done, row_from, word_done, text_done}
use Rattle.b3d_pieces_spec.specs.Good.{Words}
use Rattle.b3d_pieces_spec.proofs.DepthLaws.{none-words, keep-words}
use Rattle.b3d_pieces_rules.specs.Faults.{fault_of, fault_in, row_fault}
use Rattle.b3d_pieces_item_steps.specs.declared.Now.{Now}
use Rattle.b3d_pieces_item_steps.specs.declared.Now.TheVariants.{Live, Fault}
use Rattle.b3d_pieces_item_steps.specs.Nows.{Ready, Gives, edge_here}
use Rattle.b3d_pieces_item_steps.proofs.StepLaws.{gives, gives-on, gives-spare, gives-from}
use Rattle.b3d_pieces_item_steps.proofs.EdgeLaws.{ready_words, short, long}
use Rattle.b3d_pieces_header_steps.proofs.HeadLaws.{ready_less}

-- ---- kept numbers

module _ (i w : ℕ) (k r : Kept) where
  pub keep_0 : i ≡ 0 → r ≡ record { first = w; second = k.second; third = k.third } → r ≡ keep i w k
  keep_0 e q = rw e q

  pub keep_1 : i ≡ 1 → r ≡ record { first = k.first; second = w; third = k.third } → r ≡ keep i w k
  keep_1 e q = rw e q

  pub keep_2 : i ≡ 2 → r ≡ record { first = k.first; second = k.second; third = w } → r ≡ keep i w k
  keep_2 e q = rw e q

pub keep-later : (i w : ℕ) (k r : Kept) → (i ≡ 0 → ⊥) → (i ≡ 1 → ⊥) → (i ≡ 2 → ⊥) → r ≡ k → r ≡ keep i w k
keep-later zero w k r a b c q = absurd (a refl)
keep-later (suc zero) w k r a b c q = absurd (b refl)
keep-later (suc (suc zero)) w k r a b c q = absurd (c refl)
keep-later (suc (suc (suc i))) w k r a b c q = q

pub ruleset keep_laws = (keep_0, keep_1, keep_2, keep-later)

-- ---- the end of a row

pub counting_ready : (at : ℕ) (g : Totals) (f : Open) → Ready 1 at g f
    → Ready 0 at g (record { tag = f.tag; head = f.head; end = f.end; turn = f.turn; spent = f.spent; level = f.level; kept = f.kept; count = f.count + 1; told = f.told })
counting_ready at g f h = let m = h.few in record { few = omega arith; place = h.place; words = h.words }

pub few-count : (at : ℕ) (g : Totals) (f : Open) → Ready 1 at g f → f.count + 1 ≤ 16777217
few-count at g f h = let m = h.few in omega arith

pub word_first : (k : Kept) → Words k → IsWord k.first
word_first k w = w.0

pub word-second : (k : Kept) → Words k → IsWord k.second
word-second k w = w.1

module _ (fixed : Bool) (start at : ℕ) (k : Kept) (g : Totals) (f : Open) (r : Now) where
  pub done_fixed : fixed ≡ true → Gives 0 at g f r (fixed_done at k g f) → Gives 1 at g f r (row_done fixed start at k g f)
  unfolding row_done
  done_fixed e q = gives-spare at g f r (fixed_done at k g f) (row_done fixed start at k g f) (λ R. rw e) q

  module _ (e : fixed ≡ false) (b : Bool) (eb : b ≡ nests f.tag) where
    pub done-header : b ≡ true → Gives 1 at g f r (header_done start k.first k.second at g f) → Gives 1 at g f r (row_done fixed start at k g f)
    unfolding row_done inner_done
    done-header t q = gives-on 1 at g f r (header_done start k.first k.second at g f) (row_done fixed start at k g f) (λ R. rw (e, sym eb ∙ t)) q

    pub done-item : b ≡ false
        → Gives 0 at g (record { tag = f.tag; head = f.head; end = f.end; turn = f.turn; spent = f.spent; level = f.level; kept = f.kept; count = f.count + 1; told = f.told }) r (edge_here at g (record { tag = f.tag; head = f.head; end = f.end; turn = f.turn; spent = f.spent; level = f.level; kept = f.kept; count = f.count + 1; told = f.told }))
        → Gives 1 at g f r (row_done fixed start at k g f)
    unfolding row_done inner_done edge_here
    done-item t q =
        gives-from 1 at g g (counting f (f.count + 1)) f r (edge_here at g (counting f (f.count + 1))) (row_done fixed start at k g f) (λ R. rw (e, sym eb ∙ t)) (λ R d. d) (λ R l. omega arith) q

pub ruleset done_laws = (ready_less, counting_ready, few-count, word_first, word-second, done_fixed, done-header, done-item)

-- ---- the next number

module _ (fixed : Bool) (start i at : ℕ) (k : Kept) (g : Totals) (f : Open) (r : Now) (n : ℕ) (en : n ≡ length (rules_of fixed f.tag f.kept g)) where
  pub from_end : i ≡ n → Gives 1 at g f r (row_done fixed start at k g f) → Gives 1 at g f r (row_from fixed start i at k g f)
  unfolding row_from if
  from_end e q = gives-on 1 at g f r (row_done fixed start at k g f) (row_from fixed start i at k g f) (λ R. rw (eq-eqb i (length (rules fixed f g)) (e ∙ en))) q

  pub from_on : (i ≡ n → ⊥) → Words k → i ≤ at → r ≡ Live at (Row fixed start i 0 0 k) g f → Gives 1 at g f r (row_from fixed start i at k g f)
  unfolding row_from if
  from_on e w h q =
      gives 1 at g f r (Live at (Row fixed start i 0 0 k) g f) (row_from fixed start i at k g f) q tt (λ R. rw (ne_eqb i (length (rules fixed f g)) (λ z. e (z ∙ sym en))))
      (λ R d l. ((d, omega arith), (omega arith, omega arith, h, omega arith, w)))

pub ruleset from_laws = (ready_words, from_end, from_on)

-- ---- a number

refusal-some : (x : Rule) → refusal x ≡ 0 → ⊥
refusal-some any e = omega arith
refusal-some (up_to m) e = omega arith
refusal-some (exactly m) e = omega arith
refusal-some (names m) e = omega arith
refusal-some (names_or_none m) e = omega arith
refusal-some unit e = omega arith

pub fault_0 : (x : Rule) (w n : ℕ) → n ≡ fault_of x w → n ≡ 0 → holds x w ≡ true
unfolding fault_of if
fault_0 x w n e z = go (holds x w) refl
  where
    go : (b : Bool) → holds x w ≡ b → holds x w ≡ true
    go true p = p
    go false p = absurd (refusal-some x (rw p at (sym e) ∙ z))

fault-no : (x : Rule) (w n : ℕ) → n ≡ fault_of x w → (n ≡ 0 → ⊥) → (n ≡ refusal x) × (holds x w ≡ false)
unfolding fault_of if
fault-no x w n e z = go (holds x w) refl
  where
    go : (b : Bool) → holds x w ≡ b → (n ≡ refusal x) × (holds x w ≡ false)
    go true p = absurd (z (rw p at e))
    go false p = (rw p at e, p)

pub keep_are_words : (i w : ℕ) (k x : Kept) → x ≡ keep i w k → IsWord w → Words k → Words x
keep_are_words i w k x e a b = rw e (keep-words i w k a b)

pub next-index : (i at : ℕ) → i ≤ at → i + 1 ≤ at + 4
next-index i at h = omega arith

pub few-place : (at : ℕ) (g : Totals) (f : Open) → Ready 1 (at + 4) g f → at + 4 ≤ 16777217
few-place at g f h = h.place

module _ (fixed : Bool) (start i w at : ℕ) (k : Kept) (g : Totals) (f : Open) (r : Now) (n : ℕ) (en : n ≡ row_fault fixed f.tag f.kept g i w) where
  abbrev rule : Rule
  rule = rule_at (rules fixed f g) i

  fault-is : n ≡ fault_of rule w
  unfolding row_fault fault_in
  fault-is = en

  pub word-no : (n ≡ 0 → ⊥) → r ≡ Fault n at → Gives 1 (at + 4) g f r (word_done fixed start i w at k g f)
  unfolding word_done if
  word-no z q =
      let p = fault-no rule w n fault-is z in
      gives 1 (at + 4) g f r (Fault n at) (word_done fixed start i w at k g f) q tt (λ R. rw (p.1, p.0)) (λ R d l. tt)

  pub word_on : n ≡ 0 → (x : Kept) → x ≡ keep i w k → Gives 1 (at + 4) g f r (row_from fixed start (i + 1) (at + 4) x g f) → Gives 1 (at + 4) g f r (word_done fixed start i w at k g f)
  unfolding word_done if
  word_on z x ex q =
      gives-on 1 (at + 4) g f r (row_from fixed start (i + 1) (at + 4) x g f) (word_done fixed start i w at k g f)
      (λ R. ap (λ (y : Kept). row_from fixed start (i + 1) (at + 4) y g f R) ex ∙ rw (fault_0 rule w n fault-is z)) q

pub ruleset word_laws = (keep_are_words, next-index, few-place, word-no, word_on)

-- ---- after a text

module _ (fixed : Bool) (start at : ℕ) (g : Totals) (f : Open) (r : Now) (n : ℕ) (en : n ≡ length (rules_of fixed f.tag f.kept g)) (x : ℕ) (ex : x ≡ f.end - at) where
  pub text-cut : x / 4 < n → r ≡ Fault 5 start → Gives 1 at g f r (text_done fixed start at g f)
  unfolding text_done if
  text-cut h q =
      let l : f.end - at < 4 * length (rules fixed f g) = rw (← ex, ← en) (short x n h) in
      gives 1 at g f r (Fault 5 start) (text_done fixed start at g f) q tt (λ R. rw (lt-ltb (f.end - at) (4 * length (rules fixed f g)) l)) (λ R d l. tt)

  pub text-row : n ≤ x / 4 → Gives 1 at g f r (row_from fixed start 0 at (record { first = 0; second = 0; third = 0 }) g f) → Gives 1 at g f r (text_done fixed start at g f)
  unfolding text_done if
  text-row h q =
      let l : 4 * length (rules fixed f g) ≤ f.end - at = rw (← ex, ← en) (long x n h) in
      gives-on 1 at g f r (row_from fixed start 0 at none_kept g f) (text_done fixed start at g f) (λ R. rw (le-ltb (f.end - at) (4 * length (rules fixed f g)) l)) q

pub ruleset text_laws = (none-words, text-cut, text-row)
