-- Which refusals a part gives: numbers from 1 to 9, so that 0 can say that a file is accepted.
use Prim.Native.Nat.{ℕ, zero, suc, ◌+◌, ◌≤◌}
use native.Mathlib.Omega.{arith}
use mathlib.Core.Bool.{Bool, true, false}
use mathlib.Core.List.{List, [], ◌∷◌}
use lib.ListN.{length}
use Rattle.layout.specs.Result.{Result, accept, reject, check, ◌>>=◌}
use Rattle.layout.specs.Rules.{Rule, any, up_to, exactly, names, names_or_none, unit, holds, refusal}
use Rattle.layout.specs.Parts.{words, judged, row}

abbrev pub OneToNine : ℕ → Type 0
OneToNine n = (1 ≤ n) × (n ≤ 9)

-- a value with P, or a refusal from 1 to 9
abbrev pub Sane : {A : Type 0} → (A → Type 0) → Result A → Type 0
Sane P (accept a) = P a
Sane P (reject n p) = OneToNine n

-- a value, or such a refusal
abbrev pub Fair : {A : Type 0} → Result A → Type 0
Fair {A} o = Sane (λ (a : A). Unit {0}) o

pub bind_fair : {A B : Type 0} (Q : B → Type 0) (m : Result A) (k : A → Result B) → Fair m → ((a : A) → Sane Q (k a)) → Sane Q (m >>= k)
bind_fair Q (accept a) k h f = f a
bind_fair Q (reject n p) k h f = h

pub check_fair : (b : Bool) (n p : ℕ) → OneToNine n → Fair (check b n p)
unfolding check
check_fair true n p h = tt
check_fair false n p h = h

-- ---- parts

words_fair : (start n p : ℕ) (s : List ℕ) → Fair (words start n p s)
unfolding words
words_fair start zero p s = tt
words_fair start (suc n) p [] = (omega arith, omega arith)
words_fair start (suc n) p (a ∷ []) = (omega arith, omega arith)
words_fair start (suc n) p (a ∷ b ∷ []) = (omega arith, omega arith)
words_fair start (suc n) p (a ∷ b ∷ c ∷ []) = (omega arith, omega arith)
words_fair start (suc n) p (a ∷ b ∷ c ∷ d ∷ s) = bind_fair _ (words start n (p + 4) s) _ (words_fair start n (p + 4) s) (λ x. tt)

pub refusal-range : (r : Rule) → OneToNine (refusal r)
refusal-range any = (omega arith, omega arith)
refusal-range (up_to m) = (omega arith, omega arith)
refusal-range (exactly m) = (omega arith, omega arith)
refusal-range (names n) = (omega arith, omega arith)
refusal-range (names_or_none n) = (omega arith, omega arith)
refusal-range unit = (omega arith, omega arith)

judged_fair : {A : Type 0} (rs : List Rule) (p : ℕ) (ws : List ℕ) (a : A) → Fair (judged rs p ws a)
unfolding judged
judged_fair [] p ws a = tt
judged_fair (r ∷ rs) p [] a = tt
judged_fair (r ∷ rs) p (w ∷ ws) a = bind_fair _ (check (holds r w) (refusal r) p) _ (check_fair (holds r w) (refusal r) p (refusal-range r)) (λ u. judged_fair rs (p + 4) ws a)

pub row_fair : (rs : List Rule) (p : ℕ) (s : List ℕ) → Fair (row rs p s)
unfolding row
row_fair rs p s = bind_fair _ (words p (length rs) p s) _ (words_fair p (length rs) p s) (λ x. judged_fair rs p x.value x)
