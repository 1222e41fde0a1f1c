-- The definitions one step at a time and without fuel, for code that walks a file: pieces by their header, items one by one, the report of
-- one edit after another.
use mathlib.Core.Path.{◌≡◌, refl, ap, sym, ◌∙◌}
use Prim.Native.Nat.{ℕ, zero, suc, ◌+◌, ◌*◌, ◌<◌, ◌≤◌}
use native.Mathlib.Omega.{arith}
use mathlib.Core.Option.{none}
use mathlib.Core.List.{List, [], ◌∷◌, ◌++◌}
use lib.ListN.{length, take, drop, length-append, length-drop}
use lib.Dec.{leb, leb→le, le→leb, nleb→lt, not_T}
use Rattle.wire.specs.Bytes.{word}
use Rattle.wire.specs.Test.{if}
use Rattle.layout.specs.Result.{accept}
use Rattle.layout.specs.Parts.{Step, words}
use Rattle.layout.proofs.ResultLaws.{by_test, if_yes, if_no, bad_got, got_inj}
use Rattle.layout.proofs.StepLaws.{words-enough, words-short}
use Rattle.b3d_spec.specs.Tags.{tag_of}
use Rattle.b3d_mend_spec.specs.Edits.{Edit, keep, follow, mend, was, before, after}
use Rattle.b3d_mend_spec.specs.Pieces.{Pieces, none_left, spare, past, piece, pieces_in, pieces}
use Rattle.b3d_mend_spec.specs.Report.{ReportEntry, entries}

-- ---- pieces

fuel : (f g p : ℕ) (s : List ℕ) → length s ≤ f → length s ≤ g → pieces_in f p s ≡ pieces_in g p s
unfolding pieces_in
fuel zero zero p s hf hg = refl
fuel zero (suc g) p [] hf hg = refl
fuel zero (suc g) p (x ∷ s) hf hg = absurd (omega arith)
fuel (suc f) zero p [] hf hg = refl
fuel (suc f) zero p (x ∷ s) hf hg = absurd (omega arith)
fuel (suc f) (suc g) p [] hf hg = refl
fuel (suc f) (suc g) p (a ∷ []) hf hg = refl
fuel (suc f) (suc g) p (a ∷ b ∷ []) hf hg = refl
fuel (suc f) (suc g) p (a ∷ b ∷ c ∷ []) hf hg = refl
fuel (suc f) (suc g) p (a ∷ b ∷ c ∷ d ∷ []) hf hg = refl
fuel (suc f) (suc g) p (a ∷ b ∷ c ∷ d ∷ e ∷ []) hf hg = refl
fuel (suc f) (suc g) p (a ∷ b ∷ c ∷ d ∷ e ∷ y ∷ []) hf hg = refl
fuel (suc f) (suc g) p (a ∷ b ∷ c ∷ d ∷ e ∷ y ∷ h ∷ []) hf hg = refl
fuel (suc f) (suc g) p (a ∷ b ∷ c ∷ d ∷ e ∷ y ∷ h ∷ i ∷ s) hf hg =
    let n = word e y h i in
    let k = length-drop n s in
    ap (λ (z : Pieces). if (leb n (length s)) (piece (tag_of (word a b c d)) p (a ∷ b ∷ c ∷ d ∷ e ∷ y ∷ h ∷ i ∷ []) (take n s) z) (past p (a ∷ b ∷ c ∷ d ∷ e ∷ y ∷ h ∷ i ∷ s)))
    (fuel f g (p + 8 + n) (drop n s) (omega arith) (omega arith))

pub pieces_none : (p : ℕ) → pieces p [] ≡ none_left
unfolding pieces pieces_in
pieces_none p = refl

pub pieces-short : (p : ℕ) (s : List ℕ) → 0 < length s → length s < 8 → pieces p s ≡ spare p s
unfolding pieces pieces_in
pieces-short p [] h k = absurd (omega arith)
pieces-short p (a ∷ []) h k = refl
pieces-short p (a ∷ b ∷ []) h k = refl
pieces-short p (a ∷ b ∷ c ∷ []) h k = refl
pieces-short p (a ∷ b ∷ c ∷ d ∷ []) h k = refl
pieces-short p (a ∷ b ∷ c ∷ d ∷ e ∷ []) h k = refl
pieces-short p (a ∷ b ∷ c ∷ d ∷ e ∷ f ∷ []) h k = refl
pieces-short p (a ∷ b ∷ c ∷ d ∷ e ∷ f ∷ g ∷ []) h k = refl
pieces-short p (a ∷ b ∷ c ∷ d ∷ e ∷ f ∷ g ∷ i ∷ s) h k = absurd (omega arith)

module _ (p a b c d e g h i : ℕ) (s : List ℕ) where
  abbrev all : List ℕ
  all = a ∷ b ∷ c ∷ d ∷ e ∷ g ∷ h ∷ i ∷ s

  step : pieces p all ≡ if (leb (word e g h i) (length s))
      (piece (tag_of (word a b c d)) p (a ∷ b ∷ c ∷ d ∷ e ∷ g ∷ h ∷ i ∷ []) (take (word e g h i) s) (pieces (p + 8 + word e g h i) (drop (word e g h i) s))) (past p all)
  unfolding pieces pieces_in
  step =
      let n = word e g h i in
      let k = length-drop n s in
      ap (λ (z : Pieces). if (leb n (length s)) (piece (tag_of (word a b c d)) p (a ∷ b ∷ c ∷ d ∷ e ∷ g ∷ h ∷ i ∷ []) (take n s) z) (past p all))
      (fuel (suc (suc (suc (suc (suc (suc (suc (length s)))))))) (length (drop n s)) (p + 8 + n) (drop n s) (omega arith) (omega arith))

  -- a length past the end
  pub pieces-past : length s < word e g h i → pieces p all ≡ past p all
  pieces-past k = step ∙ if_no (leb (word e g h i) (length s)) _ _ (not_T (leb (word e g h i) (length s)) (λ t. let q = leb→le (word e g h i) (length s) t in omega arith))

  -- a chunk that is all there
  pub pieces_whole : word e g h i ≤ length s
      → pieces p all ≡ piece (tag_of (word a b c d)) p (a ∷ b ∷ c ∷ d ∷ e ∷ g ∷ h ∷ i ∷ []) (take (word e g h i) s) (pieces (p + 8 + word e g h i) (drop (word e g h i) s))
  pieces_whole k = step ∙ if_yes (leb (word e g h i) (length s)) _ _ (le→leb _ _ k)

-- ---- items

pub left_in : (start n p : ℕ) (s : List ℕ) (x : Step (List ℕ)) → words start n p s ≡ accept x → 4 * n + length x.left ≡ length s
left_in start n p s x e =
    by_test (leb (4 * n) (length s))
    (λ t. let h = leb→le (4 * n) (length s) t in
    let q = ap (λ (y : Step (List ℕ)). length y.left) (got_inj (sym e ∙ words-enough start n p s h)) in
    omega (arith, length-drop (4 * n) s))
    (λ t. bad_got (sym (words-short start n p s (nleb→lt (4 * n) (length s) t)) ∙ e))

-- ---- the report, one edit after another

pub entries-append : (x y : List Edit) (p : ℕ) → entries p (x ++ y) ≡ entries p x ++ entries (p + length (before x)) y
unfolding entries before was
entries-append [] y p = let e : p ≡ p + 0 = omega arith in ap (λ (q : ℕ). entries q y) e
entries-append (keep b ∷ x) y p =
    let e : p + length b + length (before x) ≡ p + length (b ++ before x) = omega (arith, length-append b (before x)) in
    entries-append x y (p + length b) ∙ ap (λ (q : ℕ). entries (p + length b) x ++ entries q y) e
entries-append (follow i j ∷ x) y p =
    let e : p + 4 + length (before x) ≡ p + suc (suc (suc (suc (length (before x))))) = omega arith in
    entries-append x y (p + 4) ∙ ap (λ (q : ℕ). entries (p + 4) x ++ entries q y) e
entries-append (mend k b a ∷ x) y p =
    let e : p + length b + length (before x) ≡ p + length (b ++ before x) = omega (arith, length-append b (before x)) in
    ap (λ (l : List ReportEntry). record { place = p; which = k; before = b; after = a } ∷ l)
    (entries-append x y (p + length b) ∙ ap (λ (q : ℕ). entries (p + length b) x ++ entries q y) e)
