-- What was read of texts and words is written as the bytes that it was read from.
use mathlib.Core.Path.{◌≡◌, refl, ap, sym, ◌∙◌}
use Prim.Native.Nat.{ℕ, zero, suc, ◌+◌, ◌*◌, ◌/◌, ◌%◌, ◌<◌}
use native.Mathlib.Omega.{arith}
use mathlib.Core.List.{List, [], ◌∷◌, ◌++◌}
use Rattle.wire.specs.Bytes.{word, bytes, AllBytes}
use Rattle.layout.specs.Result.{accept}
use Rattle.layout.specs.Parts.{Step, text, words}
use Rattle.layout.specs.Write.{write_words, write_text}
use Rattle.layout.proofs.ResultLaws.{by_got, bad_got, got_inj}

-- a number that four bytes make has these bytes
pub bytes-of : (a b c d : ℕ) (r : List ℕ) → a < 256 → b < 256 → c < 256 → d < 256 → bytes (word a b c d) r ≡ a ∷ b ∷ c ∷ d ∷ r
unfolding word
bytes-of a b c d r ha hb hc hd =
    let n = a + 256 * b + 65536 * c + 16777216 * d in
    let q₁ : n / 256 ≡ b + 256 * c + 65536 * d = omega arith in
    let q₂ : (b + 256 * c + 65536 * d) / 256 ≡ c + 256 * d = omega arith in
    let q₃ : (c + 256 * d) / 256 ≡ d = omega arith in
    let e₁ : n % 256 ≡ a = omega arith in
    let e₂ : (b + 256 * c + 65536 * d) % 256 ≡ b = omega arith in
    let e₃ : (c + 256 * d) % 256 ≡ c = omega arith in
    let e₄ : d % 256 ≡ d = omega arith in
    rw (q₁, q₂, q₃, e₁, e₂, e₃, e₄)

pub words_exact : (start n p : ℕ) (s : List ℕ) (x : Step (List ℕ)) → AllBytes s → words start n p s ≡ accept x → write_words x.value x.left ≡ s
unfolding words
words_exact start zero p s x h e = ap (λ (y : Step (List ℕ)). write_words y.value y.left) (sym (got_inj e))
words_exact start (suc n) p [] x h e = bad_got e
words_exact start (suc n) p (a ∷ []) x h e = bad_got e
words_exact start (suc n) p (a ∷ b ∷ []) x h e = bad_got e
words_exact start (suc n) p (a ∷ b ∷ c ∷ []) x h e = bad_got e
words_exact start (suc n) p (a ∷ b ∷ c ∷ d ∷ s) x h e =
    by_got (words start n (p + 4) s) _ e (λ y ey e₁.
    ap (λ (z : Step (List ℕ)). write_words z.value z.left) (sym (got_inj e₁))
    ∙ ap (λ (l : List ℕ). bytes (word a b c d) l) (words_exact start n (p + 4) s y h.1.1.1.1 ey)
    ∙ bytes-of a b c d s h.0 h.1.0 h.1.1.0 h.1.1.1.0)

pub text_exact : (start p : ℕ) (s : List ℕ) (x : Step (List ℕ)) → text start p s ≡ accept x → write_text x.value x.left ≡ s
unfolding text
text_exact start p [] x e = bad_got e
text_exact start p (zero ∷ s) x e = ap (λ (y : Step (List ℕ)). write_text y.value y.left) (sym (got_inj e))
text_exact start p (suc c ∷ s) x e =
    by_got (text start (p + 1) s) _ e (λ y ey e₁.
    ap (λ (z : Step (List ℕ)). write_text z.value z.left) (sym (got_inj e₁)) ∙ ap (λ (l : List ℕ). suc c ∷ l) (text_exact start (p + 1) s y ey))

-- before what follows
pub text-append : (cs r : List ℕ) → write_text cs r ≡ write_text cs [] ++ r
text-append [] r = refl
text-append (c ∷ cs) r = ap (λ (l : List ℕ). c ∷ l) (text-append cs r)
