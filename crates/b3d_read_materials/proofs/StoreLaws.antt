-- Stores of a row, part by part: the cells of a name and the words, then cells that name nothing.
use Prim.Native.Nat.{ℕ, ◌+◌, ◌*◌, ◌≤◌}
use native.Mathlib.Omega.{arith}
use mathlib.Core.Path.{◌≡◌, sym, ap, ◌∙◌}
use mathlib.Core.List.{List, [], ◌∷◌, ◌++◌}
use lib.ListN.{length, replicate}
use lib.Seq.{sets}
use Rattle.wire.specs.Cursors.{Inside, left}
use Rattle.wire.specs.declared.Cursor.{Cursor}
use Rattle.wire.proofs.LeftLaws.{left-length}
use Rattle.layout.specs.Parts.{words_of}
use Rattle.layout.specs.Rules.{NONE}
use Rattle.layout.proofs.StepLaws.{length-words-of}
use Rattle.shared_table_words.proofs.StoreLaws.{sets-append}

pub row_put : (s : List ℕ) (row : Cursor) (n : ℕ) → Inside row (length s) → row.at + 4 * n ≤ row.end → (out : List ℕ) (base place size i j : ℕ) → i ≡ place → j ≡ size
    → (o₁ o₂ o₃ : List ℕ) (rest : ℕ) → o₁ ≡ sets out base (i ∷ j ∷ []) → o₂ ≡ sets o₁ (base + 2) (words_of n (left row s)) → o₃ ≡ sets o₂ (base + 2 + n) (replicate rest NONE)
    → o₃ ≡ sets out base (place ∷ size ∷ (words_of n (left row s) ++ replicate rest NONE))
row_put s row n i h out base place size a b ea eb o₁ o₂ o₃ rest f₁ f₂ f₃ =
    let ws = words_of n (left row s) in
    let l = length-words-of n (left row s) (omega (arith, left-length s row i)) in
    let p : base + 2 + length ws ≡ base + 2 + n = omega (arith, l) in
    f₃ ∙ ap (λ (y : List ℕ). sets y (base + 2 + n) (replicate rest NONE)) f₂ ∙ ap (λ (k : ℕ). sets (sets o₁ (base + 2) ws) k (replicate rest NONE)) (sym p)
    ∙ sym (sets-append ws (replicate rest NONE) o₁ (base + 2)) ∙ ap (λ (y : List ℕ). sets y (base + 2) (ws ++ replicate rest NONE)) (rw (← ea, ← eb) f₁)
    ∙ sym (sets-append (place ∷ size ∷ []) (ws ++ replicate rest NONE) out base)
