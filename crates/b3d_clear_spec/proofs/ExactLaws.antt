-- What was read of words is written as the bytes that it was read from.
use mathlib.Core.Path.{◌≡◌, refl, ap, sym, ◌∙◌}
use Prim.Native.Nat.{ℕ, zero, suc, ◌+◌, ◌*◌, ◌/◌, ◌%◌, ◌<◌, ◌≤◌}
use native.Mathlib.Omega.{arith}
use mathlib.Core.List.{List, [], ◌∷◌}
use lib.ListN.{length, take, get_or}
use Rattle.wire.specs.Bytes.{word, bytes, AllBytes}
use Rattle.layout.specs.Result.{accept}
use Rattle.layout.specs.Parts.{Step, words, words_of, row, number, items_in, items}
use Rattle.layout.specs.Rules.{Rule}
use Rattle.layout.specs.Write.{write_words, write_items}
use Rattle.layout.proofs.ResultLaws.{by_got, bad_got, got_inj}
use Rattle.layout.proofs.StepLaws.{judged_got}
use Rattle.layout.proofs.PartLaws.{row_fine, length-fits}
use Rattle.layout.proofs.ListLaws.{three-cells}

-- ---- words

-- a number that four bytes make has these bytes
bytes-of : (a b c d : ℕ) (r : List ℕ) → a < 256 → b < 256 → c < 256 → d < 256 → bytes (word a b c d) r ≡ a ∷ b ∷ c ∷ d ∷ r
unfolding word
bytes-of a b c d r ha hb hc hd =
    let n = a + 256 * b + 65536 * c + 16777216 * d in
    let q₁ : n / 256 ≡ b + 256 * c + 65536 * d = omega arith in
    let q₂ : (b + 256 * c + 65536 * d) / 256 ≡ c + 256 * d = omega arith in
    let q₃ : (c + 256 * d) / 256 ≡ d = omega arith in
    let e₁ : n % 256 ≡ a = omega arith in
    let e₂ : (b + 256 * c + 65536 * d) % 256 ≡ b = omega arith in
    let e₃ : (c + 256 * d) % 256 ≡ c = omega arith in
    let e₄ : d % 256 ≡ d = omega arith in
    rw (q₁, q₂, q₃, e₁, e₂, e₃, e₄)

words_exact : (start n p : ℕ) (s : List ℕ) (x : Step (List ℕ)) → AllBytes s → words start n p s ≡ accept x → write_words x.value x.left ≡ s
unfolding words
words_exact start zero p s x h e = ap (λ (y : Step (List ℕ)). write_words y.value y.left) (sym (got_inj e))
words_exact start (suc n) p [] x h e = bad_got e
words_exact start (suc n) p (a ∷ []) x h e = bad_got e
words_exact start (suc n) p (a ∷ b ∷ []) x h e = bad_got e
words_exact start (suc n) p (a ∷ b ∷ c ∷ []) x h e = bad_got e
words_exact start (suc n) p (a ∷ b ∷ c ∷ d ∷ s) x h e =
    by_got (words start n (p + 4) s) _ e (λ y ey e₁.
    ap (λ (z : Step (List ℕ)). write_words z.value z.left) (sym (got_inj e₁))
    ∙ ap (λ (l : List ℕ). bytes (word a b c d) l) (words_exact start n (p + 4) s y h.1.1.1.1 ey)
    ∙ bytes-of a b c d s h.0 h.1.0 h.1.1.0 h.1.1.1.0)

-- the first words of bytes
pub words-of_exact : (n : ℕ) (s : List ℕ) → AllBytes s → 4 * n ≤ length s → write_words (words_of n s) [] ≡ take (4 * n) s
words-of_exact zero s h le = refl
words-of_exact (suc n) [] h le = absurd (omega arith)
words-of_exact (suc n) (a ∷ []) h le = absurd (omega arith)
words-of_exact (suc n) (a ∷ b ∷ []) h le = absurd (omega arith)
words-of_exact (suc n) (a ∷ b ∷ c ∷ []) h le = absurd (omega arith)
words-of_exact (suc n) (a ∷ b ∷ c ∷ d ∷ s) h le =
    let k : 4 * suc n ≡ suc (suc (suc (suc (4 * n)))) = omega arith in
    bytes-of a b c d (write_words (words_of n s) []) h.0 h.1.0 h.1.1.0 h.1.1.1.0
    ∙ ap (λ (l : List ℕ). a ∷ b ∷ c ∷ d ∷ l) (words-of_exact n s h.1.1.1.1 (omega arith)) ∙ rw k

-- ---- rows and items

pub row_exact : (rs : List Rule) (p : ℕ) (s : List ℕ) (x : Step (List ℕ)) → AllBytes s → row rs p s ≡ accept x → write_words x.value x.left ≡ s
unfolding row
row_exact rs p s x h e =
    by_got (words p (length rs) p s) _ e (λ y ey e₁.
    ap (λ (z : Step (List ℕ)). write_words z.value z.left) (sym (judged_got rs p y.value y x e₁)) ∙ words_exact p (length rs) p s y h ey)

items-in : (rs : List Rule) (f p : ℕ) (s : List ℕ) (l : List (List ℕ)) → AllBytes s → items_in f (row rs) p s ≡ accept l → write_items write_words l ≡ s
unfolding items_in
items-in rs zero p [] l h e = ap (write_items write_words) (sym (got_inj e))
items-in rs zero p (c ∷ s) l h e = bad_got e
items-in rs (suc f) p [] l h e = ap (write_items write_words) (sym (got_inj e))
items-in rs (suc f) p (c ∷ s) l h e =
    by_got (row rs p (c ∷ s)) _ e (λ x ex e₁.
    by_got (items_in f (row rs) x.place x.left) _ e₁ (λ m em e₂.
    ap (write_items write_words) (sym (got_inj e₂))
    ∙ ap (write_words x.value) (items-in rs f x.place x.left m (row_fine rs p (c ∷ s) x h ex).bytes em)
    ∙ row_exact rs p (c ∷ s) x h ex))

pub items_exact : (rs : List Rule) (p : ℕ) (s : List ℕ) (l : List (List ℕ)) → AllBytes s → items (row rs) p s ≡ accept l → write_items write_words l ≡ s
unfolding items
items_exact rs p s l h e = items-in rs (length s) p s l h e

-- ---- fixed data of one number and of three

module _ (p : ℕ) (s : List ℕ) (h : Step (List ℕ)) (all : AllBytes s) where
  long : (rs : List Rule) → row rs p s ≡ accept h → length h.value ≡ length rs
  long rs e = length-fits rs h.value (row_fine rs p s h all e).ok

  pub one_exact : (r : Rule) → row (r ∷ []) p s ≡ accept h → write_words (number h 0 ∷ []) h.left ≡ s
  one_exact r e = ap (λ (ws : List ℕ). write_words ws h.left) (one_is h.value (long (r ∷ []) e)) ∙ row_exact (r ∷ []) p s h all e
    where
      one_is : (ws : List ℕ) → length ws ≡ 1 → get_or ws 0 0 ∷ [] ≡ ws
      one_is [] l = absurd (omega arith)
      one_is (a ∷ []) l = refl
      one_is (a ∷ b ∷ ws) l = absurd (omega arith)

  pub three_exact : (q r t : Rule) → row (q ∷ r ∷ t ∷ []) p s ≡ accept h → write_words (number h 0 ∷ number h 1 ∷ number h 2 ∷ []) h.left ≡ s
  three_exact q r t e =
      ap (λ (ws : List ℕ). write_words ws h.left) (three-cells h.value (long (q ∷ r ∷ t ∷ []) e)) ∙ row_exact (q ∷ r ∷ t ∷ []) p s h all e
