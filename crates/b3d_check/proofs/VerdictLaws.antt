-- The verdict is that of `rebuild`: words of 32 bits and bytes of 8 are what the types of code say.
use mathlib.Core.Path.{◌≡◌, ap, sym, ◌∙◌}
use Prim.Native.Nat.{ℕ, suc, ◌<◌}
use native.Mathlib.Omega.{arith}
use mathlib.Core.Bool.{Bool}
use mathlib.Core.Option.{none, some}
use mathlib.Core.List.{List, [], ◌∷◌}
use lib.ListN.{get_or}
use mir.Syntax.{w8, w32}
use mir.Val.{Fits}
use Rattle.wire.specs.Bytes.{IsWord, AllBytes}
use Rattle.wire.specs.Test.{if}
use Rattle.layout.proofs.AllLaws.{All}
use Rattle.b3d_spec.specs.Rebuild.{assembled, rebuild}
use Rattle.b3d_spec.specs.Tables.{tables, node_tables}
use Rattle.b3d_spec.specs.declared.Mode.{Mode}
use Rattle.b3d_check_spec.specs.Check.{check_in}
use Rattle.b3d_check_spec.proofs.Check.VerdictLaws.{Typed, rebuild-check_in}
use Rattle.b3d_check.specs.Lent.{lent_of, Says}
use Rattle.wire.proofs.WordLaws.{all-bytes}

pub all_words : (l : List ℕ) → ((i : ℕ) → get_or l i 0 < 4294967296) → All IsWord l
all_words [] h = tt
all_words (x ∷ l) h = (h 0, all_words l (λ i. h (suc i)))

pub lent_typed : (ns : List ℕ) (v slots : ℕ) (counts t₁ t₂ t₃ t₄ t₅ t₆ t₇ t₈ t₉ t₁₀ : List ℕ) → IsWord v → IsWord slots
    → All IsWord t₁
    → All IsWord t₂
    → All IsWord t₃
    → All IsWord t₄
    → All IsWord t₅
    → All IsWord t₆
    → All IsWord t₇
    → All IsWord t₈
    → All IsWord t₉
    → All IsWord t₁₀
    → AllBytes ns → Typed (lent_of v slots counts t₁ t₂ t₃ t₄ t₅ t₆ t₇ t₈ t₉ t₁₀) ns
unfolding lent_of tables node_tables if
lent_typed ns v slots counts t₁ t₂ t₃ t₄ t₅ t₆ t₇ t₈ t₉ t₁₀ hv hs h₁ h₂ h₃ h₄ h₅ h₆ h₇ h₈ h₉ h₁₀ hn =
    record { version = hv; slots = hs; cells = (h₁, (h₂, (h₃, (h₄, (h₅, (h₆, (h₇, (h₈, (h₉, (h₁₀, tt)))))))))); bytes = hn }

pub verdict : (mode : Mode) (ns : List ℕ) (v slots : ℕ) (counts t₁ t₂ t₃ t₄ t₅ t₆ t₇ t₈ t₉ t₁₀ : List ℕ) → Typed (lent_of v slots counts t₁ t₂ t₃ t₄ t₅ t₆ t₇ t₈ t₉ t₁₀) ns → (r : Bool) → r ≡ check_in mode (lent_of v slots counts t₁ t₂ t₃ t₄ t₅ t₆ t₇ t₈ t₉ t₁₀) ns
    → rebuild mode (lent_of v slots counts t₁ t₂ t₃ t₄ t₅ t₆ t₇ t₈ t₉ t₁₀) ns ≡ if r (some (assembled ns (lent_of v slots counts t₁ t₂ t₃ t₄ t₅ t₆ t₇ t₈ t₉ t₁₀))) none
verdict mode ns v slots counts t₁ t₂ t₃ t₄ t₅ t₆ t₇ t₈ t₉ t₁₀ h r e =
    let T = lent_of v slots counts t₁ t₂ t₃ t₄ t₅ t₆ t₇ t₈ t₉ t₁₀ in
    rebuild-check_in T ns h mode ∙ ap (λ (b : Bool). if b (some (assembled ns T)) none) (sym e)

-- the check's answer is the verdict, of words and bytes as code has them
pub lent_says : (mode : Mode) (ns : List ℕ) (v slots : ℕ) (counts t₁ t₂ t₃ t₄ t₅ t₆ t₇ t₈ t₉ t₁₀ : List ℕ) → Fits w32 v → Fits w32 slots
    → ((i : ℕ) → Fits w32 (get_or t₁ i 0)) → ((i : ℕ) → Fits w32 (get_or t₂ i 0)) → ((i : ℕ) → Fits w32 (get_or t₃ i 0)) → ((i : ℕ) → Fits w32 (get_or t₄ i 0)) → ((i : ℕ) → Fits w32 (get_or t₅ i 0)) → ((i : ℕ) → Fits w32 (get_or t₆ i 0)) → ((i : ℕ) → Fits w32 (get_or t₇ i 0)) → ((i : ℕ) → Fits w32 (get_or t₈ i 0)) → ((i : ℕ) → Fits w32 (get_or t₉ i 0)) → ((i : ℕ) → Fits w32 (get_or t₁₀ i 0))
    → ((i : ℕ) → Fits w8 (get_or ns i 0)) → (r : Bool) → r ≡ check_in mode (lent_of v slots counts t₁ t₂ t₃ t₄ t₅ t₆ t₇ t₈ t₉ t₁₀) ns → Says mode (lent_of v slots counts t₁ t₂ t₃ t₄ t₅ t₆ t₇ t₈ t₉ t₁₀) ns r
lent_says mode ns v slots counts t₁ t₂ t₃ t₄ t₅ t₆ t₇ t₈ t₉ t₁₀ fv fs f₁ f₂ f₃ f₄ f₅ f₆ f₇ f₈ f₉ f₁₀ fn r e =
    verdict mode ns v slots counts t₁ t₂ t₃ t₄ t₅ t₆ t₇ t₈ t₉ t₁₀
    (lent_typed ns v slots counts t₁ t₂ t₃ t₄ t₅ t₆ t₇ t₈ t₉ t₁₀ (omega (arith, fv)) (omega (arith, fs))
    (all_words t₁ (λ i. omega (arith, f₁ i))) (all_words t₂ (λ i. omega (arith, f₂ i))) (all_words t₃ (λ i. omega (arith, f₃ i))) (all_words t₄ (λ i. omega (arith, f₄ i))) (all_words t₅ (λ i. omega (arith, f₅ i))) (all_words t₆ (λ i. omega (arith, f₆ i))) (all_words t₇ (λ i. omega (arith, f₇ i))) (all_words t₈ (λ i. omega (arith, f₈ i))) (all_words t₉ (λ i. omega (arith, f₉ i))) (all_words t₁₀ (λ i. omega (arith, f₁₀ i))) (all-bytes ns (λ i. omega (arith, fn i)))) r e
