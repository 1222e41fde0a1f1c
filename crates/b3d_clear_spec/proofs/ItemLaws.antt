-- Items that are a text and words: item by item, and that those that were read become the items with their names empty.
use mathlib.Core.Path.{◌≡◌, refl, ap, sym, ◌∙◌}
use Prim.Native.Nat.{ℕ, zero, suc, ◌<◌, ◌≤◌}
use native.Mathlib.Omega.{arith}
use mathlib.Core.List.{List, [], ◌∷◌, ◌++◌}
use lib.ListN.{length, replicate}
use Rattle.wire.specs.Bytes.{bytes, AllBytes}
use Rattle.layout.specs.Result.{Result, accept, reject, ◌>>=◌}
use Rattle.layout.specs.Parts.{Name, Step, text, named, items_in, items}
use Rattle.layout.specs.Rules.{Rule, any}
use Rattle.layout.specs.Write.{write_words, write_items}
use Rattle.layout.proofs.ResultLaws.{by_got, bad_got, got_inj}
use Rattle.layout.proofs.PartLaws.{length-fits, named-fine}
use Rattle.layout.proofs.StepLaws.{named_shrinks, named-plain}
use Rattle.b3d_clear_spec.specs.Copies.{item_of, unnamed_in, unnamed_items}

-- ---- one by one

item-same : (r q : ℕ → List ℕ → List ℕ) (o : Result (Step (Name × List ℕ))) → ((x : Step (Name × List ℕ)) → o ≡ accept x → r x.place x.left ≡ q x.place x.left) → item_of r o ≡ item_of q o
unfolding item_of
item-same r q (accept x) h = ap (λ (l : List ℕ). 0 ∷ (write_words x.value.1 [] ++ l)) (h x refl)
item-same r q (reject n p) h = refl

module _ (n : ℕ) where
  fuel : (f g p : ℕ) (s : List ℕ) → length s ≤ f → length s ≤ g → unnamed_in f n p s ≡ unnamed_in g n p s
  unfolding unnamed_in item_of named text
  fuel zero zero p s hf hg = refl
  fuel zero (suc g) p [] hf hg = refl
  fuel zero (suc g) p (c ∷ s) hf hg = absurd (omega arith)
  fuel (suc f) zero p [] hf hg = refl
  fuel (suc f) zero p (c ∷ s) hf hg = absurd (omega arith)
  fuel (suc f) (suc g) p s hf hg =
      item-same (unnamed_in f n) (unnamed_in g n) (named (replicate n any) p s) (λ x e. let l = named_shrinks (replicate n any) p s x e in fuel f g x.place x.left (omega arith) (omega arith))

  pub items-step : (p : ℕ) (s : List ℕ) → unnamed_items n p s ≡ item_of (unnamed_items n) (named (replicate n any) p s)
  unfolding unnamed_items unnamed_in item_of named text
  items-step p [] = refl
  items-step p (c ∷ s) =
      item-same (unnamed_in (length s) n) (unnamed_items n) (named (replicate n any) p (c ∷ s)) (λ x e.
      let l = named_shrinks (replicate n any) p (c ∷ s) x e in
      fuel (length s) (length x.left) x.place x.left (omega arith) (omega arith))

-- ---- those that were read

-- items made of a text and words that keep rules; each is written, its name empty, as an empty text and its words
module _ {A : Type 0} (make : Name × List ℕ → A) (rs : List Rule) (write : A → List ℕ → List ℕ)
    (one : (x : Name × List ℕ) (r : List ℕ) → length x.1 ≡ length rs → write (make x) r ≡ 0 ∷ (write_words x.1 [] ++ r)) where
  abbrev read_by : ℕ → List ℕ → Result (Step A)
  read_by p s = named rs p s >>= λ x. accept (record { value = make x.value; place = x.place; left = x.left })

  read-in : (f p : ℕ) (s : List ℕ) (l : List A) → AllBytes s → items_in f read_by p s ≡ accept l → unnamed_in f (length rs) p s ≡ write_items write l
  unfolding items_in unnamed_in item_of named text
  read-in zero p [] l h e = ap (write_items write) (got_inj e)
  read-in zero p (c ∷ s) l h e = bad_got e
  read-in (suc f) p [] l h e = ap (write_items write) (got_inj e)
  read-in (suc f) p (c ∷ s) l h e =
      by_got (read_by p (c ∷ s)) _ e (λ x ex e₁.
      by_got (named rs p (c ∷ s)) _ ex (λ y ey ez.
      by_got (items_in f read_by x.place x.left) _ e₁ (λ m em e₂.
      let fine = named-fine rs p (c ∷ s) y h ey in
      let g = got_inj ez in
      let rest = read-in f y.place y.left m fine.bytes (rw (← g) at em) in
      let long = length-fits rs y.value.1 fine.ok.1 in
      ap (item_of (unnamed_in f (length rs))) (named-plain rs p (c ∷ s) y ey)
      ∙ ap (λ (r : List ℕ). 0 ∷ (write_words y.value.1 [] ++ r)) rest
      ∙ sym (one y.value (write_items write m) long)
      ∙ ap (λ (a : Step A). write a.value (write_items write m)) g
      ∙ ap (write_items write) (got_inj e₂))))

  pub items-read : (p : ℕ) (s : List ℕ) (l : List A) → AllBytes s → items read_by p s ≡ accept l → unnamed_items (length rs) p s ≡ write_items write l
  unfolding items unnamed_items
  items-read p s l h e = read-in (length s) p s l h e

-- no item from no bytes, and one at least from some
module _ {A : Type 0} (read : ℕ → List ℕ → Result (Step A)) where
  pub none_read : (p : ℕ) (l : List A) → items read p [] ≡ accept l → l ≡ []
  unfolding items items_in
  none_read p l e = sym (got_inj e)

  pub some_read : (p c : ℕ) (s : List ℕ) (l : List A) → items read p (c ∷ s) ≡ accept l → 0 < length l
  unfolding items items_in
  some_read p c s l e =
      by_got (read p (c ∷ s)) _ e (λ x ex e₁.
      by_got (items_in (length s) read x.place x.left) _ e₁ (λ m em e₂. let z = ap length (got_inj e₂) in omega arith))
