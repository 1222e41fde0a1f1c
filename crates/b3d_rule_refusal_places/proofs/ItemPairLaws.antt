-- Items of a chunk in both readings: where the strict one refuses alone, it is at the first colour that does not pass.
use mathlib.Core.Logic.{◌⊎◌, inl, inr}
use mathlib.Core.Path.{◌≡◌, refl, ap, sym, subst, ◌∙◌}
use Prim.Native.Nat.{ℕ, zero, suc, ◌+◌, ◌*◌, ◌<◌, ◌≤◌}
use native.Mathlib.Omega.{arith}
use mathlib.Core.List.{List, [], ◌∷◌}
use lib.ListN.{length}
use Rattle.layout.specs.Result.{Result, accept, reject, ◌>>=◌}
use Rattle.layout.specs.Parts.{Step, items_in, items}
use Rattle.layout.proofs.PlaceLaws.{At}
use Rattle.b3d_rule_refusal_places.specs.ByHeaders.{Sooner}
use Rattle.b3d_rule_refusal_places.specs.GivenAtColours.{ColourIn, this, later}
use Rattle.b3d_rule_refusal_places.proofs.FaultSearchLaws.{Wide, colour-later}
use Rattle.b3d_rule_refusal_places.proofs.RowPairLaws.{NotUnit}
use Rattle.b3d_rule_refusal_places.proofs.ChunkFaultLaws.{Faults, Empty, Within, Says, says-as}

-- ---- 5 to 7, at a place before the end

abbrev pub Own : ℕ → ℕ → ℕ → Type 0
Own last n p = (5 ≤ n) × (n ≤ 7) × Sooner last n p

-- ---- the strict reading beside the lenient one: a value with P that both give; or a refusal that says where the faults K are, and that both give or that is one of them

abbrev pub Pair : Faults → ℕ → {A : Type 0} → (A → Type 0) → Result A → Result A → Type 0
Pair K last P (accept a) o = P a × (o ≡ accept a)
Pair K last P (reject n p) o = Says K last n p × ((o ≡ reject n p) ⊎ K n p p)

module _ (K : Faults) (last : ℕ) {A B : Type 0} where
  pub bind_pair : (P : A → Type 0) (Q : B → Type 0) (m m' : Result A) (k k' : A → Result B) → Pair K last P m m'
      → ((a : A) → m ≡ accept a → m' ≡ accept a → P a → Pair K last Q (k a) (k' a)) → Pair K last Q (m >>= k) (m' >>= k')
  bind_pair P Q (accept a) m' k k' h f = subst (λ (o : Result A). Pair K last Q (k a) (o >>= k')) (sym h.1) (f a refl h.1 h.0)
  bind_pair P Q (reject n p) m' k k' h f = (h.0, elim h.1 [ inl e ↦ inl (ap (λ (o : Result A). o >>= k') e) | inr x ↦ inr x ])

  -- what was read, made into something else
  pub map_pair : (Q : Type 0) (f : A → B) (m m' : Result A) → Pair K last (λ _. Q) m m' → Pair K last (λ _. Q) (m >>= λ a. accept (f a)) (m' >>= λ a. accept (f a))
  map_pair Q f m m' h = bind_pair (λ _. Q) (λ _. Q) m m' (λ a. accept (f a)) (λ a. accept (f a)) h (λ a _ _ x. (x, refl))

pub pair_as : (K L : Faults) (last : ℕ) {A : Type 0} (P Q : A → Type 0) (o o' : Result A) → Within K L → Within L K → ((a : A) → P a → Q a) → Pair K last P o o' → Pair L last Q o o'
pair_as K L last P Q (accept a) o' f g m h = (m a h.0, h.1)
pair_as K L last P Q (reject n p) o' f g m h = (says-as K L last n p f g h.0, elim h.1 [ inl e ↦ inl e | inr x ↦ inr (f n p p x) ])

-- ---- items

module _ (s : List ℕ) (To : ℕ → ℕ → Type 0) (numbers before colours : ℕ) where
  -- the colours from place q on that do not pass
  abbrev pub BadFrom : ℕ → Faults
  BadFrom q n p m = (n ≡ 6) × (m ≡ p) × NotUnit s p × ColourIn To numbers before colours p q

  -- those of the item there
  abbrev pub BadItem : ℕ → ℕ → Type 0
  BadItem q p = (e : ℕ) × To q e × ((c : ℕ) × (c < colours) × (p + 4 * numbers ≡ e + 4 * (before + c))) × NotUnit s p

  abbrev pub ItemPair : {A : Type 0} → ℕ → ℕ → Result (Step A) → Result (Step A) → Type 0
  ItemPair last q (accept x) o = (o ≡ accept x) × To q x.place × (x.place + length x.left ≡ last) × At s x.place x.left × ((p : ℕ) → BadItem q p → ⊥)
  ItemPair last q (reject n p) o =
      Own last n p × ((o ≡ reject n p) ⊎ ((n ≡ 6) × BadItem q p)) × ((e : ℕ) → To q e → p < e) × ((j : ℕ) → BadItem q j → ((n ≡ 6) × (p ≡ j)) ⊎ (p < j))

module _ (s : List ℕ) (To : ℕ → ℕ → Type 0) (numbers before colours last : ℕ) (wide : Wide To numbers) (inside : (q e : ℕ) → To q e → (q < e) × (e ≤ last))
    (same : (q e d : ℕ) → To q e → To q d → e ≡ d) where
  -- a colour from q on is one of the item there, or behind it
  opened : (p q : ℕ) → ColourIn To numbers before colours p q → NotUnit s p → BadItem s To numbers before colours q p ⊎ ((e : ℕ) × To q e × ColourIn To numbers before colours p e)
  opened p q (this _ e h c l i) n = inl (e, h, (c, l, i), n)
  opened p q (later _ e h f) n = inr (e, h, f)

  closed : (n p q : ℕ) → n ≡ 6 → BadItem s To numbers before colours q p → BadFrom s To numbers before colours q n p p
  closed n p q e x = (e, refl, x.3, this q x.0 x.1 x.2.0 x.2.1 x.2.2)

  module _ {A : Type 0} (one other : ℕ → List ℕ → Result (Step A)) (pair : (q : ℕ) (b : List ℕ) → At s q b → q + length b ≡ last → ItemPair s To numbers before colours last q (one q b) (other q b)) where
    none_left : (q : ℕ) → q ≡ last → Empty (BadFrom s To numbers before colours q)
    none_left q e n p m x = elim (opened p q x.3 x.2) [ inl y ↦ omega (arith, inside q y.0 y.1) | inr y ↦ omega (arith, inside q y.0 y.1) ]

    -- an item, then those behind it
    next : (q : ℕ) (o o' : Result (Step A)) (k k' : Step A → Result (List A)) → ItemPair s To numbers before colours last q o o'
        → ((x : Step A) → At s x.place x.left → x.place + length x.left ≡ last → q < x.place → Pair (BadFrom s To numbers before colours x.place) last (λ _. Empty (BadFrom s To numbers before colours x.place)) (k x) (k' x))
        → Pair (BadFrom s To numbers before colours q) last (λ _. Empty (BadFrom s To numbers before colours q)) (o >>= k) (o' >>= k')
    next q (accept x) o' k k' h go =
        let to : Within (BadFrom s To numbers before colours x.place) (BadFrom s To numbers before colours q) = λ n p m y. (y.0, y.1, y.2, later q x.place h.1 y.3) in
        let from : Within (BadFrom s To numbers before colours q) (BadFrom s To numbers before colours x.place) = λ n p m y. elim (opened p q y.3 y.2)
        [ inl z ↦ absurd (h.4 p z) | inr z ↦ (y.0, y.1, y.2, subst (ColourIn To numbers before colours p) (same q z.0 x.place z.1 h.1) z.2) ] in
        subst (λ (w : Result (Step A)). Pair (BadFrom s To numbers before colours q) last (λ _. Empty (BadFrom s To numbers before colours q)) (k x) (w >>= k')) (sym h.0)
        (pair_as (BadFrom s To numbers before colours x.place) (BadFrom s To numbers before colours q) last (λ _. Empty (BadFrom s To numbers before colours x.place)) (λ _. Empty (BadFrom s To numbers before colours q)) (k x) (k' x) to from (λ a e n p m y. e n p m (from n p m y)) (go x h.3 h.2 (inside q x.place h.1).0))
    next q (reject n p) o' k k' h go = (
      record {
        given = λ c. elim c [ inl e ↦ absurd (omega (arith, h.0.0)) | inr e ↦ absurd (omega (arith, h.0.1)) ];
        first = λ i j m y. elim (opened j q y.3 y.2) [
          | inl z ↦ elim (h.3 j z) [ inl w ↦ inl (w.0 ∙ sym y.0, w.1) | inr w ↦ inr (inl (omega (arith, y.1))) ]
          | inr z ↦ let a = h.2 z.0 z.1 in let b = colour-later To numbers before colours j wide z.0 z.2 in inr (inl (omega (arith, y.1)))
        ];
        soon = h.0.2;
      },
      elim h.1 [ inl e ↦ inl (ap (λ (w : Result (Step A)). w >>= k') e) | inr z ↦ inr (closed n p q z.0 z.1) ],
    )

    in_pair : (f q : ℕ) (b : List ℕ) → At s q b → q + length b ≡ last → length b ≤ f → Pair (BadFrom s To numbers before colours q) last (λ _. Empty (BadFrom s To numbers before colours q)) (items_in f one q b) (items_in f other q b)
    unfolding items_in
    in_pair zero q [] at e l = (none_left q (omega arith), refl)
    in_pair zero q (c ∷ b) at e l = absurd (omega arith)
    in_pair (suc f) q [] at e l = (none_left q (omega arith), refl)
    in_pair (suc f) q (c ∷ b) at e l =
        next q (one q (c ∷ b)) (other q (c ∷ b)) _ _ (pair q (c ∷ b) at e) (λ x i j k.
        bind_pair (BadFrom s To numbers before colours x.place) last (λ _. Empty (BadFrom s To numbers before colours x.place)) (λ _. Empty (BadFrom s To numbers before colours x.place)) (items_in f one x.place x.left) (items_in f other x.place x.left) _ _
        (in_pair f x.place x.left i j (omega arith)) (λ v _ _ h. (h, refl)))

    pub items_pair : (q : ℕ) (b : List ℕ) → At s q b → q + length b ≡ last → Pair (BadFrom s To numbers before colours q) last (λ _. Empty (BadFrom s To numbers before colours q)) (items one q b) (items other q b)
    unfolding items
    items_pair q b at e = in_pair (length b) q b at e (omega arith)
