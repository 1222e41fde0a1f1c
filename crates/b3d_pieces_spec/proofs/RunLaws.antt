-- Runs over rows of numbers, whatever their rules, and over texts.
use mathlib.Core.Path.{◌≡◌, refl, ap, sym, ◌∙◌}
use Prim.Native.Nat.{ℕ, zero, suc, ◌+◌, ◌-◌, ◌*◌, ◌≤◌}
use native.Mathlib.Omega.{arith}
use mathlib.Core.Bool.{Bool, not}
use mathlib.Core.List.{List, [], ◌∷◌, ◌++◌}
use lib.ListN.{length, drop, get_or}
use lib.Dec.{T, eqb, ltb, eqb→eq, eqb_refl, ltb→lt, nltb→le, not_T}
use Rattle.wire.specs.Test.{if}
use Rattle.wire.specs.Bytes.{word}
use Rattle.layout.specs.Result.{Result, accept, reject, check, ◌>>=◌}
use Rattle.layout.specs.Rules.{Rule, holds, refusal}
use Rattle.layout.specs.Parts.{Name, Step, text, words, words_of, judged, row, named}
use Rattle.layout.proofs.ResultLaws.{if_yes, if_no, by_test, by_got, bad_got, got_inj, check-yes, check-no}
use Rattle.layout.proofs.StepLaws.{judged_got, row-enough, words-enough, words-short}
use Rattle.b3d_pieces_spec.specs.declared.Totals.{Totals}
use Rattle.b3d_pieces_spec.specs.declared.Kept.{Kept}
use Rattle.b3d_pieces_spec.specs.declared.Open.{Open}
use Rattle.b3d_pieces_spec.specs.declared.Part.TheVariants.{Row}
use Rattle.b3d_pieces_spec.specs.Bodies.{first, rule_at, none_kept, keep}
use Rattle.b3d_pieces_spec.specs.Machine.{State, live, fault, rules, text_from, row_done, row_from, word_done, text_done, text_byte, row_byte, byte_in, step, run}

-- ---- what follows a reading

-- the state after a reading: faulted, or what the value leads to
abbrev pub after : {A : Type 0} → Result A → (A → State) → State
after (accept a) k = k a
after (reject n p) k = fault n p

pub after_bind : {A B : Type 0} (m : Result A) (f : A → Result B) (k : B → State) → after (m >>= f) k ≡ after m (λ a. after (f a) k)
after_bind (accept a) f k = refl
after_bind (reject n p) f k = refl

pub after_cong : {A : Type 0} (m : Result A) {k k' : A → State} → ((a : A) → m ≡ accept a → k a ≡ k' a) → after m k ≡ after m k'
after_cong (accept a) h = h a refl
after_cong (reject n p) h = refl

pub run-append : (st : State) (a b : List ℕ) → run st (a ++ b) ≡ run (run st a) b
run-append st [] b = refl
run-append st (x ∷ a) b = run-append (step st x) a b

-- a fault stays
pub run-fault : (n p : ℕ) (s : List ℕ) → run (fault n p) s ≡ fault n p
unfolding step
run-fault n p [] = refl
run-fault n p (b ∷ s) = run-fault n p s

pub run-after : {A : Type 0} (m : Result A) (k : A → State) (s : List ℕ) → run (after m k) s ≡ after m (λ a. run (k a) s)
run-after (accept a) k s = refl
run-after (reject n p) k s = run-fault n p s

-- ---- tests

pub eqb_no : (a b : ℕ) → (a ≡ b → ⊥) → T (not (eqb a b))
eqb_no a b h = not_T (eqb a b) (λ t. h (eqb→eq a b t))

pub eqb_yes : (a b : ℕ) → a ≡ b → T (eqb a b)
eqb_yes a b h = rw h (eqb_refl b)

pub ltb_no : (a b : ℕ) → b ≤ a → T (not (ltb a b))
ltb_no a b h = not_T (ltb a b) (λ t. let q = ltb→lt a b t in absurd (omega arith))

-- ---- kept numbers

abbrev pub keeps : ℕ → List ℕ → Kept → Kept
keeps i [] k = k
keeps i (w ∷ ws) k = keeps (i + 1) ws (keep i w k)

keeps-later : (i : ℕ) (ws : List ℕ) (k : Kept) → 3 ≤ i → keeps i ws k ≡ k
keeps-later i [] k h = refl
keeps-later zero (w ∷ ws) k h = absurd (omega arith)
keeps-later (suc zero) (w ∷ ws) k h = absurd (omega arith)
keeps-later (suc (suc zero)) (w ∷ ws) k h = absurd (omega arith)
keeps-later (suc (suc (suc i))) (w ∷ ws) k h = keeps-later (suc (suc (suc i)) + 1) ws k (omega arith)

-- the first three numbers of a row
abbrev pub kept_of : List ℕ → Kept
kept_of ws = record { first = get_or ws 0 0; second = get_or ws 1 0; third = get_or ws 2 0 }

pub kept-is : (ws : List ℕ) → keeps 0 ws none_kept ≡ kept_of ws
kept-is [] = refl
kept-is (a ∷ []) = refl
kept-is (a ∷ b ∷ []) = refl
kept-is (a ∷ b ∷ c ∷ ws) = keeps-later 3 ws (record { first = a; second = b; third = c }) (omega arith)

-- ---- rows

drop-next : (i : ℕ) (rs : List Rule) (r : Rule) (rest : List Rule) → drop i rs ≡ r ∷ rest → drop (i + 1) rs ≡ rest
drop-next zero [] r rest e = let z : ◌≡◌ {A = ℕ} 0 1 = cc in absurd (omega arith)
drop-next zero (x ∷ rs) r rest e = cc
drop-next (suc i) [] r rest e = let z : ◌≡◌ {A = ℕ} 0 1 = cc in absurd (omega arith)
drop-next (suc i) (x ∷ rs) r rest e =
    let q : suc i + 1 ≡ suc (i + 1) = omega arith in
    rw q (drop-next i rs r rest e)

-- what is judged is what is handed on
judged-on : {A : Type 0} (rs : List Rule) (p : ℕ) (ws : List ℕ) (x : A) (k : A → State) → after (judged rs p ws x) (λ _. k x) ≡ after (judged rs p ws x) k
judged-on rs p ws x k = after_cong (judged rs p ws x) (λ y e. ap k (judged_got rs p ws x y e))

-- ---- places

pub text-place : (start p : ℕ) (s : List ℕ) (x : Step (List ℕ)) → text start p s ≡ accept x → x.place + length x.left ≡ p + length s
unfolding text
text-place start p [] x e = bad_got e
text-place start p (zero ∷ s) x e =
    let q = ap (λ (v : Step (List ℕ)). v.place + length v.left) (got_inj e) in
    omega arith
text-place start p (suc c ∷ s) x e =
    by_got (text start (p + 1) s) _ e (λ y ey e₁. let z = text-place start (p + 1) s y ey in
    let q = ap (λ (v : Step (List ℕ)). v.place + length v.left) (got_inj e₁) in
    omega arith)

module _ (fixed : Bool) (start : ℕ) (g : Totals) (f : Open) (R : List Open) where
  -- four bytes of a number
  four : (i p a b c d : ℕ) (k : Kept) (s : List ℕ) → run (live p (Row fixed start i 0 0 k) g f R) (a ∷ b ∷ c ∷ d ∷ s) ≡ run (word_done fixed start i (word a b c d) p k g f R) s
  unfolding step byte_in row_byte word
  four i p a b c d k s = refl

  -- where number i has rule r
  judge-word : (i p w : ℕ) (k : Kept) (r : Rule) (rest : List Rule) → drop i (rules fixed f g) ≡ r ∷ rest
      → word_done fixed start i w p k g f R ≡ after (check (holds r w) (refusal r) p) (λ _. row_from fixed start (i + 1) (p + 4) (keep i w k) g f R)
  unfolding word_done rule_at if check
  judge-word i p w k r rest e =
      rw e (by_test (holds r w)
      (λ t. rw (if_yes (holds r w) (row_from fixed start (i + 1) (p + 4) (keep i w k) g f R) (fault (refusal r) p) t, check-yes (holds r w) (refusal r) p t))
      (λ t. rw (if_no (holds r w) (row_from fixed start (i + 1) (p + 4) (keep i w k) g f R) (fault (refusal r) p) t, check-no (holds r w) (refusal r) p t)))

  pub row_on : (i p : ℕ) (k : Kept) → (i ≡ length (rules fixed f g) → ⊥) → row_from fixed start i p k g f R ≡ live p (Row fixed start i 0 0 k) g f R
  unfolding row_from
  row_on i p k h = if_no (eqb i (length (rules fixed f g))) _ _ (eqb_no i (length (rules fixed f g)) h)

  row-end : (i p : ℕ) (k : Kept) → i ≡ length (rules fixed f g) → row_from fixed start i p k g f R ≡ row_done fixed start p k g f R
  unfolding row_from
  row-end i p k h = if_yes (eqb i (length (rules fixed f g))) _ _ (eqb_yes i (length (rules fixed f g)) h)

  -- the rest of a row from number i on
  pub row-run : {A : Type 0} (x : A) (rest : List Rule) (i p : ℕ) (k : Kept) (s : List ℕ) → i + length rest ≡ length (rules fixed f g) → drop i (rules fixed f g) ≡ rest → 4 * length rest ≤ length s
      → run (row_from fixed start i p k g f R) s ≡ after (judged rest p (words_of (length rest) s) x)
      (λ _. run (row_done fixed start (p + 4 * length rest) (keeps i (words_of (length rest) s) k) g f R) (drop (4 * length rest) s))
  unfolding judged
  row-run x [] i p k s n e h =
      let q : p ≡ p + 4 * 0 = omega arith in
      ap (λ (st : State). run st s) (row-end i p k (omega arith)) ∙ ap (λ (z : ℕ). run (row_done fixed start z k g f R) s) q
  row-run x (r ∷ rest) i p k [] n e h = absurd (omega arith)
  row-run x (r ∷ rest) i p k (a ∷ []) n e h = absurd (omega arith)
  row-run x (r ∷ rest) i p k (a ∷ b ∷ []) n e h = absurd (omega arith)
  row-run x (r ∷ rest) i p k (a ∷ b ∷ c ∷ []) n e h = absurd (omega arith)
  row-run x (r ∷ rest) i p k (a ∷ b ∷ c ∷ d ∷ s) n e h =
      let w = word a b c d in
      let l = length rest in
      let m : 4 * suc l ≡ suc (suc (suc (suc (4 * l)))) = omega arith in
      let q : p + 4 + 4 * l ≡ p + suc (suc (suc (suc (4 * l)))) = omega arith in
      let on = row-run x rest (i + 1) (p + 4) (keep i w k) s (omega arith) (drop-next i (rules fixed f g) r rest e) (omega arith) in
      ap (λ (st : State). run st (a ∷ b ∷ c ∷ d ∷ s)) (row_on i p k (λ z. omega arith))
      ∙ four i p a b c d k s
      ∙ ap (λ (st : State). run st s) (judge-word i p w k r rest e)
      ∙ run-after (check (holds r w) (refusal r) p) _ s
      ∙ after_cong (check (holds r w) (refusal r) p) (λ z ez. on)
      ∙ rw (m, q) (sym (after_bind (check (holds r w) (refusal r) p) (λ z. judged rest (p + 4) (words_of l s) x) _))

  -- where the row is done with x
  abbrev pub done_at : ℕ → List ℕ → List ℕ → State
  done_at p ws s = run (row_done fixed start p (kept_of ws) g f R) s

  whole_run : {A : Type 0} (x : A) (p : ℕ) (s : List ℕ) → 4 * length (rules fixed f g) ≤ length s
      → run (row_from fixed start 0 p none_kept g f R) s ≡ after (judged (rules fixed f g) p (words_of (length (rules fixed f g)) s) x)
      (λ _. done_at (p + 4 * length (rules fixed f g)) (words_of (length (rules fixed f g)) s) (drop (4 * length (rules fixed f g)) s))
  whole_run x p s h =
      let rs = rules fixed f g in
      row-run x rs 0 p none_kept s (omega arith) refl h
      ∙ ap (λ (z : Kept). after (judged rs p (words_of (length rs) s) x) (λ _. run (row_done fixed start (p + 4 * length rs) z g f R) (drop (4 * length rs) s))) (kept-is (words_of (length rs) s))

  -- a row that is all there
  pub row-whole : (p : ℕ) (s : List ℕ) → 4 * length (rules fixed f g) ≤ length s
      → run (row_from fixed start 0 p none_kept g f R) s ≡ after (row (rules fixed f g) p s) (λ x. done_at x.place x.value x.left)
  row-whole p s h =
      let rs = rules fixed f g in
      let x : Step (List ℕ) = record { value = words_of (length rs) s; place = p + 4 * length rs; left = drop (4 * length rs) s } in
      whole_run x p s h
      ∙ judged-on rs p (words_of (length rs) s) x (λ y. done_at y.place y.value y.left)
      ∙ ap (λ (o : Result (Step (List ℕ))). after o (λ y. done_at y.place y.value y.left)) (sym (row-enough rs p s h))

  -- a text, up to its zero or to the chunk's end
  pub text-run : (p : ℕ) (s : List ℕ) → p + length s ≡ f.end → run (text_from fixed start p g f R) s ≡ after (text start p s) (λ x. run (text_done fixed start x.place g f R) x.left)
  unfolding text_from text step byte_in text_byte
  text-run p [] h = if_yes (eqb p f.end) _ _ (eqb_yes p f.end (omega arith))
  text-run p (zero ∷ s) h = ap (λ (st : State). run st (zero ∷ s)) (if_no (eqb p f.end) _ _ (eqb_no p f.end (λ z. omega arith)))
  text-run p (suc b ∷ s) h =
      ap (λ (st : State). run st (suc b ∷ s)) (if_no (eqb p f.end) _ _ (eqb_no p f.end (λ z. omega arith)))
      ∙ text-run (p + 1) s (omega arith)
      ∙ sym (after_bind (text start (p + 1) s) _ _)

  -- the row after a text
  abbrev pub Namely : Type 0
  Namely = Step (Name × List ℕ)

  text-row : (n : Step (List ℕ)) → n.place + length n.left ≡ f.end
      → run (text_done fixed start n.place g f R) n.left
      ≡ after (words start (length (rules fixed f g)) n.place n.left >>= λ x. judged {A = Namely} (rules fixed f g) n.place x.value (record { value = (record { place = start; bytes = n.value }, x.value); place = x.place; left = x.left }))
      (λ y. done_at y.place y.value.1 y.left)
  unfolding text_done
  text-row n e =
      let rs = rules fixed f g in
      let p = n.place in
      let s = n.left in
      let ws = words_of (length rs) s in
      let x : Namely = record { value = (record { place = start; bytes = n.value }, ws); place = p + 4 * length rs; left = drop (4 * length rs) s } in
      by_test (ltb (f.end - p) (4 * length rs))
      (λ t. let q = ltb→lt (f.end - p) (4 * length rs) t in
      rw (if_yes (ltb (f.end - p) (4 * length rs)) (fault 5 start) (row_from fixed start 0 p none_kept g f R) t, words-short start (length rs) p s (omega arith)) (run-fault 5 start s))
      (λ t. let q = nltb→le (f.end - p) (4 * length rs) t in
      rw (if_no (ltb (f.end - p) (4 * length rs)) (fault 5 start) (row_from fixed start 0 p none_kept g f R) t, words-enough start (length rs) p s (omega arith))
      (whole_run x p s (omega arith) ∙ judged-on rs p ws x (λ y. done_at y.place y.value.1 y.left)))

  pub named-run : (s : List ℕ) → start + length s ≡ f.end
      → run (text_from fixed start start g f R) s ≡ after (named (rules fixed f g) start s) (λ y. done_at y.place y.value.1 y.left)
  unfolding named
  named-run s h =
      text-run start s h
      ∙ after_cong (text start start s) (λ n e. text-row n (text-place start start s n e ∙ h))
      ∙ sym (after_bind (text start start s) _ _)
