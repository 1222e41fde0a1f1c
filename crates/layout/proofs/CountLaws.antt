-- Items by count and names by length, for code that reads by place: each step in closed form, and where a reading leaves off.
use mathlib.Core.Path.{◌≡◌, refl, ap, sym, subst, ◌∙◌}
use Prim.Native.Nat.{ℕ, zero, suc, ◌+◌, ◌*◌, ◌<◌, ◌≤◌}
use native.Mathlib.Omega.{arith}
use mathlib.Core.List.{List, [], ◌∷◌, ◌++◌}
use lib.ListN.{length, take, drop, get_or, replicate, length-drop}
use lib.Seq.{drop-drop, length-take-le}
use lib.Dec.{leb, leb→le, nleb→lt}
use borrow.Author.Tests.{le-leb, lt-leb}
use Rattle.layout.specs.Result.{Result, accept, reject, check, ◌>>=◌}
use Rattle.layout.specs.Rules.{Rule, any, count, holds, refusal}
use Rattle.layout.specs.Parts.{Name, Step, words_of, words, judged, row, number}
use Rattle.layout.specs.Counted.{run, name_of, sized, before, times, at_end}
use Rattle.layout.proofs.ResultLaws.{by_test, by_got, by-check, bad_got, got_inj}
use Rattle.layout.proofs.StepLaws.{judged_got, row-enough, row-short}

-- ---- where a reading leaves off

-- a reading of s at place p went on by so many bytes
pub record Moved {A : Type 0} (p : ℕ) (s : List ℕ) (x : Step A) : Type 0 where
  pub by : ℕ
  pub to : x.place ≡ p + by
  pub room : by ≤ length s
  pub rest : x.left ≡ drop by s

abbrev pub Advances : {A : Type 0} → (ℕ → List ℕ → Result (Step A)) → Type 0
Advances {A} read = (p : ℕ) (s : List ℕ) (x : Step A) → read p s ≡ accept x → Moved p s x

module _ {A B : Type 0} where
  -- the same step with another value
  pub moved_as : {p : ℕ} {s : List ℕ} (x : Step A) (y : Step B) → Moved p s x → y.place ≡ x.place → y.left ≡ x.left → Moved p s y
  moved_as x y m e f = record { by = m.by; to = e ∙ m.to; room = m.room; rest = f ∙ m.rest }

  pub moved_on : {p : ℕ} {s : List ℕ} (x : Step A) (y : Step B) → Moved p s x → Moved x.place x.left y → Moved p s y
  moved_on {p} {s} x y m n =
      let d = length-drop m.by s in
      let l = ap length m.rest in
      record { by = m.by + n.by; to = omega arith; room = omega arith; rest = n.rest ∙ ap (λ (r : List ℕ). drop n.by r) m.rest ∙ drop-drop n.by m.by s }

words-moved : (start n p : ℕ) (s : List ℕ) (x : Step (List ℕ)) → words start n p s ≡ accept x → Moved p s x
unfolding words
words-moved start zero p s x e = subst (λ (y : Step (List ℕ)). Moved p s y) (got_inj e) (record { by = 0; to = omega arith; room = omega arith; rest = refl })
words-moved start (suc n) p [] x e = bad_got e
words-moved start (suc n) p (a ∷ []) x e = bad_got e
words-moved start (suc n) p (a ∷ b ∷ []) x e = bad_got e
words-moved start (suc n) p (a ∷ b ∷ c ∷ []) x e = bad_got e
words-moved start (suc n) p (a ∷ b ∷ c ∷ d ∷ s) x e =
    by_got (words start n (p + 4) s) _ e (λ y ey e₁. let m = words-moved start n (p + 4) s y ey in
    subst (λ (z : Step (List ℕ)). Moved p (a ∷ b ∷ c ∷ d ∷ s) z) (got_inj e₁)
    (record { by = suc (suc (suc (suc m.by))); to = omega arith; room = omega arith; rest = m.rest }))

pub row-moves : (rs : List Rule) → Advances (row rs)
unfolding row
row-moves rs p s x e =
    by_got (words p (length rs) p s) _ e (λ y ey e₁. let q = judged_got rs p y.value y x e₁ in
    subst (λ (z : Step (List ℕ)). Moved p s z) q (words-moved p (length rs) p s y ey))

run-moves : (n : ℕ) → Advances (run n)
unfolding run
run-moves n p s x e =
    by-check (leb n (length s)) 5 p _ e (λ t e₁. let h = leb→le n (length s) t in
    subst (λ (z : Step (List ℕ)). Moved p s z) (got_inj e₁) (record { by = n; to = refl; room = h; rest = refl }))

pub name-moves : (n : ℕ) → Advances (name_of n)
unfolding name_of
name-moves n p s x e =
    by_got (run n p s) _ e (λ y ey e₁. let q = got_inj e₁ in
    subst (λ (z : Step Name). Moved p s z) q (moved_as y (record { value = record { place = p; bytes = y.value }; place = y.place; left = y.left }) (run-moves n p s y ey) refl refl))

pub sized-moves : Advances sized
unfolding sized
sized-moves p s x e = by_got (row _ p s) _ e (λ h eh e₁. moved_on h x (row-moves _ p s h eh) (name-moves _ h.place h.left x e₁))

module _ {A : Type 0} (item : ℕ → List ℕ → Result (Step A)) (moves : Advances item) where
  pub times-moves : (n : ℕ) → Advances (times n item)
  unfolding times before
  times-moves zero p s x e = subst (λ (y : Step (List A)). Moved p s y) (got_inj e) (record { by = 0; to = omega arith; room = omega arith; rest = refl })
  times-moves (suc n) p s x e =
      by_got (item p s) _ e (λ y ey e₁.
      by_got (times n item y.place y.left) _ e₁ (λ l el e₂.
      subst (λ (z : Step (List A)). Moved p s z) (got_inj e₂)
      (moved_as l (before y.value l) (moved_on y l (moves p s y ey) (times-moves n y.place y.left l el)) refl refl)))

-- ---- steps

module _ {A : Type 0} (item : ℕ → List ℕ → Result (Step A)) (p : ℕ) (s : List ℕ) where
  pub times_none : times 0 item p s ≡ accept (record { value = []; place = p; left = s })
  unfolding times
  times_none = refl

  pub times-one : (n : ℕ) → times (suc n) item p s ≡ (item p s >>= λ x. times n item x.place x.left >>= λ l. accept (before x.value l))
  unfolding times
  times-one n = refl

  -- an item that is refused refuses them all
  pub times-bad : (n m q : ℕ) → 0 < n → item p s ≡ reject m q → times n item p s ≡ reject m q
  unfolding times
  times-bad zero m q h e = absurd (omega arith)
  times-bad (suc n) m q h e = rw e

-- as many as were asked for
pub times-length : {A : Type 0} (item : ℕ → List ℕ → Result (Step A)) (n p : ℕ) (s : List ℕ) (x : Step (List A)) → times n item p s ≡ accept x → length x.value ≡ n
unfolding times before
times-length item zero p s x e = sym (ap (λ (y : Step (List _)). length y.value) (got_inj e))
times-length item (suc n) p s x e =
    by_got (item p s) _ e (λ y ey e₁.
    by_got (times n item y.place y.left) _ e₁ (λ l el e₂. let k = times-length item n y.place y.left l el in
    sym (ap (λ (z : Step (List _)). length z.value) (got_inj e₂)) ∙ ap suc k))

pub name-whole : (n p : ℕ) (s : List ℕ) → n ≤ length s → name_of n p s ≡ accept (record { value = record { place = p; bytes = take n s }; place = p + n; left = drop n s })
unfolding name_of run check
name-whole n p s h = rw (le-leb n (length s) h)

pub name-short : (n p : ℕ) (s : List ℕ) → length s < n → name_of n p s ≡ reject 5 p
unfolding name_of run check
name-short n p s h = rw (lt-leb n (length s) h)

pub end_none : (p : ℕ) (s : List ℕ) → length s ≡ 0 → at_end p s ≡ accept tt
unfolding at_end
end_none p [] h = refl
end_none p (c ∷ s) h = absurd (omega arith)

pub end-some : (p : ℕ) (s : List ℕ) → 0 < length s → at_end p s ≡ reject 5 p
unfolding at_end
end-some p [] h = absurd (omega arith)
end-some p (c ∷ s) h = refl

-- words that are not looked at, and then one that is, by its number in the row
pub judged-one : {A : Type 0} (k : ℕ) (r : Rule) (rs : List Rule) (p : ℕ) (ws : List ℕ) (a : A) → k < length ws
    → judged (replicate k any ++ (r ∷ rs)) p ws a ≡ (check (holds r (get_or ws k 0)) (refusal r) (p + 4 * k) >>= λ _. judged rs (p + 4 * k + 4) (drop (suc k) ws) a)
unfolding judged check
judged-one k r rs p [] a h = absurd (omega arith)
judged-one zero r rs p (w ∷ ws) a h =
    let e : p ≡ p + 4 * 0 = omega arith in
    ap (λ (q : ℕ). check (holds r w) (refusal r) q >>= λ _. judged rs (q + 4) ws a) e
judged-one (suc k) r rs p (w ∷ ws) a h =
    let e : p + 4 + 4 * k ≡ p + 4 * suc k = omega arith in
    rw (← e) (judged-one k r rs (p + 4) ws a (omega arith))

-- ---- what was read

-- a row that was read: its words, and room for them
pub row_got : (rs : List Rule) (p : ℕ) (s : List ℕ) (x : Step (List ℕ)) → row rs p s ≡ accept x → (x.value ≡ words_of (length rs) s) × (4 * length rs ≤ length s) × (x.place ≡ p + 4 * length rs)
row_got rs p s x e =
    by_test (leb (4 * length rs) (length s))
    (λ t. let h = leb→le (4 * length rs) (length s) t in
    let q = judged_got rs p (words_of (length rs) s) _ x (sym (row-enough rs p s h) ∙ e) in
    (sym (ap (λ (y : Step (List ℕ)). y.value) q), h, sym (ap (λ (y : Step (List ℕ)). y.place) q)))
    (λ t. let h = nleb→lt (4 * length rs) (length s) t in
    bad_got (sym (row-short rs p s h) ∙ e))

-- a name that was read behind its length: its place, and where it ends
pub sized_got : (p : ℕ) (s : List ℕ) (x : Step Name) → sized p s ≡ accept x → (x.value.place ≡ p + 4) × (x.place ≡ p + 4 + length x.value.bytes)
unfolding sized name_of run
sized_got p s x e =
    by_got (row (count ∷ []) p s) _ e (λ h eh e₁.
    by_got (run (number h 0) h.place h.left) _ e₁ (λ b eb e₂.
    by-check (leb (number h 0) (length h.left)) 5 h.place _ eb (λ t e₃.
    let m = leb→le (number h 0) (length h.left) t in
    let r = row_got (count ∷ []) p s h eh in
    let v : take (number h 0) h.left ≡ b.value = ap (λ (y : Step (List ℕ)). y.value) (got_inj e₃) in
    let w : h.place + number h 0 ≡ b.place = ap (λ (y : Step (List ℕ)). y.place) (got_inj e₃) in
    let q : h.place ≡ x.value.place = ap (λ (y : Step Name). y.value.place) (got_inj e₂) in
    let u : b.value ≡ x.value.bytes = ap (λ (y : Step Name). y.value.bytes) (got_inj e₂) in
    let z : b.place ≡ x.place = ap (λ (y : Step Name). y.place) (got_inj e₂) in
    let l = ap length (v ∙ u) in
    let k = length-take-le (number h 0) h.left m in
    (omega (arith, r.2), omega (arith, r.2)))))

-- the first item of those that were read, and the others
pub times_got {ℓ} : {A : Type 0} {P : Type ℓ} (item : ℕ → List ℕ → Result (Step A)) (n p : ℕ) (s : List ℕ) (x : Step (List A)) → times (suc n) item p s ≡ accept x
    → ((y : Step A) (l : Step (List A)) → item p s ≡ accept y → times n item y.place y.left ≡ accept l → before y.value l ≡ x → P) → P
unfolding times
times_got item n p s x e f =
    by_got (item p s) _ e (λ y ey e₁.
    by_got (times n item y.place y.left) _ e₁ (λ l el e₂. f y l ey el (got_inj e₂)))
