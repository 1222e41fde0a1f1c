-- Runs over items to the end of a chunk, whatever their rules.
use mathlib.Core.Path.{◌≡◌, refl, ap, sym, ◌∙◌}
use Prim.Native.Nat.{ℕ, zero, suc, ◌+◌, ◌-◌, ◌*◌, ◌<◌, ◌≤◌}
use native.Mathlib.Omega.{arith}
use mathlib.Core.Bool.{true, false}
use mathlib.Core.List.{List, [], ◌∷◌}
use lib.ListN.{length}
use lib.Dec.{eqb, ltb, ltb→lt, lt→ltb, nltb→le}
use Rattle.wire.specs.Test.{if}
use Rattle.layout.specs.Result.{Result, accept, reject, ◌>>=◌}
use Rattle.layout.specs.Rules.{Rule}
use Rattle.layout.specs.Parts.{Name, Step, text, words, row, named, items_in, items}
use Rattle.layout.proofs.ResultLaws.{if_yes, if_no, by_test, by_got, bad_got, got_inj}
use Rattle.layout.proofs.StepLaws.{judged_got, row-short, Shrinks}
use Rattle.b3d_pieces_spec.specs.declared.Totals.{Totals}
use Rattle.b3d_pieces_spec.specs.declared.Open.{Open}
use Rattle.b3d_pieces_spec.specs.declared.Part.TheVariants.{Text}
use Rattle.b3d_pieces_spec.specs.Bodies.{nests, text_items, cut_row, none_kept}
use Rattle.b3d_pieces_spec.specs.Machine.{State, live, fault, rules, counting, begin, edge, text_from, inner_done, row_done, run}
use Rattle.b3d_pieces_spec.proofs.RunLaws.{after, after_bind, after_cong, run-fault, eqb_no, ltb_no, row_on, row-whole, done_at, named-run, text-place}

-- ---- places

words-place : (start n p : ℕ) (s : List ℕ) (x : Step (List ℕ)) → words start n p s ≡ accept x → x.place + length x.left ≡ p + length s
unfolding words
words-place start zero p s x e = let q = ap (λ (v : Step (List ℕ)). v.place + length v.left) (got_inj e) in omega arith
words-place start (suc n) p [] x e = bad_got e
words-place start (suc n) p (a ∷ []) x e = bad_got e
words-place start (suc n) p (a ∷ b ∷ []) x e = bad_got e
words-place start (suc n) p (a ∷ b ∷ c ∷ []) x e = bad_got e
words-place start (suc n) p (a ∷ b ∷ c ∷ d ∷ s) x e =
    by_got (words start n (p + 4) s) _ e (λ y ey e₁. let z = words-place start n (p + 4) s y ey in
    let q = ap (λ (v : Step (List ℕ)). v.place + length v.left) (got_inj e₁) in
    omega arith)

-- a reader that goes on from its place
abbrev pub Goes : {A : Type 0} → (ℕ → List ℕ → Result (Step A)) → Type 0
Goes {A} read = (p : ℕ) (s : List ℕ) (x : Step A) → read p s ≡ accept x → x.place + length x.left ≡ p + length s

pub row_goes : (rs : List Rule) → Goes (row rs)
unfolding row
row_goes rs p s x e =
    by_got (words p (length rs) p s) _ e (λ y ey e₁. let z = words-place p (length rs) p s y ey in
    let q = ap (λ (v : Step (List ℕ)). v.place + length v.left) (judged_got rs p y.value y x e₁) in
    omega arith)

pub named-goes : (rs : List Rule) → Goes (named rs)
unfolding named
named-goes rs p s x e =
    by_got (text p p s) _ e (λ n en e₁. let t = text-place p p s n en in
    by_got (words p (length rs) n.place n.left) _ e₁ (λ y ey e₂. let z = words-place p (length rs) n.place n.left y ey in
    let q = ap (λ (v : Step (Name × List ℕ)). v.place + length v.left) (judged_got rs n.place y.value _ x e₂) in
    omega arith))

-- ---- between two items

pub edge_on : (p : ℕ) (g : Totals) (f : Open) (R : List Open) → (p ≡ f.end → ⊥) → edge p g (f ∷ R) ≡ begin p g f R
unfolding edge
edge_on p g f R h = if_no (eqb p f.end) _ _ (eqb_no p f.end h)

module _ (g : Totals) (f : Open) (R : List Open) (p : ℕ) (s : List ℕ) (e : p + length s ≡ f.end) where
  -- a row that begins
  module _ (plain : text_items f.tag ≡ false) (some : 0 < length (rules false f g)) where
    pub begin-short : length s < 4 * length (rules false f g) → run (begin p g f R) s ≡ fault (cut_row (nests f.tag)) p
    unfolding begin if
    begin-short h =
        rw plain (ap (λ (st : State). run st s) (if_yes (ltb (f.end - p) (4 * length (rules false f g))) _ _ (lt→ltb (f.end - p) (4 * length (rules false f g)) (omega arith)))
        ∙ run-fault (cut_row (nests f.tag)) p s)

    pub begin-whole : 4 * length (rules false f g) ≤ length s
        → run (begin p g f R) s ≡ after (row (rules false f g) p s) (λ x. done_at false p g f R x.place x.value x.left)
    unfolding begin if
    begin-whole h =
        rw plain (ap (λ (st : State). run st s) (if_no (ltb (f.end - p) (4 * length (rules false f g))) _ _ (ltb_no (f.end - p) (4 * length (rules false f g)) (omega arith))
        ∙ sym (row_on false p g f R 0 p none_kept (λ z. omega arith)))
        ∙ row-whole false p g f R p s h)

    -- a row that is an item
    pub begin-item : nests f.tag ≡ false
        → run (begin p g f R) s ≡ after (row (rules false f g) p s) (λ x. run (edge x.place g (counting f (f.count + 1) ∷ R)) x.left)
    unfolding row_done inner_done
    begin-item c =
        by_test (ltb (length s) (4 * length (rules false f g)))
        (λ t. let q = ltb→lt (length s) (4 * length (rules false f g)) t in
        begin-short q ∙ rw (c, row-short (rules false f g) p s q))
        (λ t. let q = nltb→le (length s) (4 * length (rules false f g)) t in
        begin-whole q ∙ rw c)

  -- a text and a row that are an item
  pub begin-named : text_items f.tag ≡ true → nests f.tag ≡ false → (p ≡ f.end → ⊥)
      → run (begin p g f R) s ≡ after (named (rules false f g) p s) (λ x. run (edge x.place g (counting f (f.count + 1) ∷ R)) x.left)
  unfolding begin if text_from row_done inner_done
  begin-named t c n =
      rw t (ap (λ (st : State). run st s) (sym (if_no (eqb p f.end) (fault 5 p) (live p (Text false p) g f R) (eqb_no p f.end n))) ∙ named-run false p g f R s e ∙ rw c)

-- ---- items to the end

module _ {A : Type 0} (item : ℕ → List ℕ → Result (Step A)) (less : Shrinks item) (goes : Goes item) (g : Totals) (f : Open) (R : List Open)
    (one : (c p : ℕ) (s : List ℕ) → p + length s ≡ f.end → (p ≡ f.end → ⊥)
    → run (begin p g (counting f c) R) s ≡ after (item p s) (λ x. run (edge x.place g (counting f (c + 1) ∷ R)) x.left)) where
  stay : (c p : ℕ) → p + 0 ≡ f.end → edge p g (counting f c ∷ R) ≡ edge f.end g (counting f (c + 0) ∷ R)
  stay c p e =
      let q : p ≡ f.end = omega arith in
      let z : c + 0 ≡ c = omega arith in
      rw (q, z)

  one_more : (c : ℕ) (v : A) (o : Result (List A))
      → after o (λ l. edge f.end g (counting f (c + 1 + length l) ∷ R)) ≡ after (o >>= λ l. accept (v ∷ l)) (λ l. edge f.end g (counting f (c + length l) ∷ R))
  one_more c v (accept l) =
      let z : c + 1 + length l ≡ c + suc (length l) = omega arith in
      ap (λ (n : ℕ). edge f.end g (counting f n ∷ R)) z
  one_more c v (reject n p) = refl

  items-in : (n c p : ℕ) (s : List ℕ) → length s ≤ n → p + length s ≡ f.end
      → run (edge p g (counting f c ∷ R)) s ≡ after (items_in n item p s) (λ l. edge f.end g (counting f (c + length l) ∷ R))
  unfolding items_in
  items-in zero c p [] h e = stay c p e
  items-in zero c p (b ∷ s) h e = absurd (omega arith)
  items-in (suc n) c p [] h e = stay c p e
  items-in (suc n) c p (b ∷ s) h e =
      ap (λ (st : State). run st (b ∷ s)) (edge_on p g (counting f c) R (λ z. omega arith))
      ∙ one c p (b ∷ s) e (λ z. omega arith)
      ∙ after_cong (item p (b ∷ s)) (λ x ex. let k = less p (b ∷ s) x ex in let q = goes p (b ∷ s) x ex in items-in n (c + 1) x.place x.left (omega arith) (omega arith)
      ∙ one_more c x.value (items_in n item x.place x.left))
      ∙ sym (after_bind (item p (b ∷ s)) _ _)

  pub items-run : (p : ℕ) (s : List ℕ) → p + length s ≡ f.end
      → run (edge p g (counting f 0 ∷ R)) s ≡ after (items item p s) (λ l. edge f.end g (counting f (length l) ∷ R))
  unfolding items
  items-run p s e =
      items-in (length s) 0 p s (omega arith) e
      ∙ after_cong (items_in (length s) item p s) (λ l _. let z : 0 + length l ≡ length l = omega arith in rw z)
