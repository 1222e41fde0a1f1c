-- Words, rows and items: what the reading accepts, the mending leaves as it is; what it refuses, the mending refuses, but for what it mends.
use mathlib.Core.Path.{◌≡◌, refl, ap, ap₂, sym, subst}
use mathlib.Core.Logic.{inl, inr}
use Prim.Native.Nat.{ℕ, zero, suc, ◌+◌}
use native.Mathlib.Omega.{arith}
use mathlib.Core.Bool.{Bool, true, false, not, ◌&&◌}
use mathlib.Core.List.{List, [], ◌∷◌, ◌++◌}
use lib.ListN.{length}
use lib.Dec.{T, leb}
use Rattle.wire.specs.Bytes.{bytes}
use Rattle.wire.specs.Test.{if}
use Rattle.layout.specs.Result.{Result, accept, reject, check, ◌>>=◌}
use Rattle.layout.specs.Parts.{Name, Step, text, words, judged, row, named, items_in, items}
use Rattle.layout.specs.Rules.{Rule, any, up_to, exactly, names, names_or_none, unit, holds, refusal}
use Rattle.layout.proofs.AllLaws.{All, all_append}
use Rattle.layout.proofs.HeldLaws.{words_count}
use Rattle.layout.proofs.ResultLaws.{bad_got}
use Rattle.b3d_mend_spec.specs.Edits.{keep}
use Rattle.b3d_mend_spec.specs.Mend.{Mended, mend_word, and_words, mend_words, mend_row, with_name, mend_named, all_hold, stays, mend_item, gathered, mend_items, as_read}
use Rattle.b3d_mend_spec.proofs.AgreeLaws.{Mendable, Beside, bind_beside, same_beside}
use Rattle.b3d_mend_spec.proofs.EditLaws.{Quiet, keep_quiet}

-- the same value, and nothing changed
abbrev pub Same : {A : Type 0} → A → Mended A → Type 0
Same v m = (m.value ≡ v) × All Quiet m.edits

abbrev pub SameStep : {A : Type 0} → Step A → Step (Mended A) → Type 0
SameStep x y = Same x.value y.value × (y.place ≡ x.place) × (y.left ≡ x.left)

-- ---- numbers

abbrev KeptWord : ℕ → Unit {0} → Mended ℕ → Type 0
KeptWord w u v = (v.value ≡ w) × All Quiet v.edits

strict_word : (b : Bool) (n p w : ℕ) (x : Result (Mended ℕ)) → Beside (KeptWord w) (check b n p) (if b (accept (record { value = w; edits = keep (bytes w []) ∷ [] })) (if false x (reject n p)))
unfolding check if
strict_word true n p w x = (refl, (keep_quiet _, tt))
strict_word false n p w x = inr refl

loose_word : (b : Bool) (n p w : ℕ) (x : Result (Mended ℕ)) → Mendable n p → Beside (KeptWord w) (check b n p) (if b (accept (record { value = w; edits = keep (bytes w []) ∷ [] })) x)
unfolding check if
loose_word true n p w x i = (refl, (keep_quiet _, tt))
loose_word false n p w x i = inl i

word-beside : (r : Rule) (p w : ℕ) → Beside (KeptWord w) (check (holds r w) (refusal r) p) (mend_word r p w)
unfolding mend_word
word-beside any p w = strict_word true 6 p w _
word-beside (up_to m) p w = strict_word (leb w m) 6 p w _
word-beside (exactly m) p w = strict_word (holds (exactly m) w) 6 p w _
word-beside (names n) p w = loose_word (holds (names n) w) 7 p w _ (inr (inl refl))
word-beside (names_or_none n) p w = loose_word (holds (names_or_none n) w) 7 p w _ (inr (inl refl))
word-beside unit p w = strict_word (holds unit w) 6 p w _

pub words-beside : {A : Type 0} (rs : List Rule) (p : ℕ) (ws : List ℕ) (a : A) → length ws ≡ length rs → Beside (λ (b : A) (v : Mended (List ℕ)). (b ≡ a) × Same ws v) (judged rs p ws a) (mend_words rs p ws)
unfolding judged mend_words and_words
words-beside [] p [] a n = (refl, (refl, tt))
words-beside [] p (w ∷ ws) a n = absurd (omega arith)
words-beside (r ∷ rs) p [] a n = absurd (omega arith)
words-beside {A} (r ∷ rs) p (w ∷ ws) a n =
    bind_beside (KeptWord w) _ (check (holds r w) (refusal r) p) (mend_word r p w) _ _ (word-beside r p w) (λ u v hv.
    one_more (judged rs (p + 4) ws a) (mend_words rs (p + 4) ws) v hv (words-beside rs (p + 4) ws a (omega arith)))
  where
    one_more : (o : Result A) (m : Result (Mended (List ℕ))) (v : Mended ℕ) → (v.value ≡ w) × All Quiet v.edits → Beside (λ (b : A) (x : Mended (List ℕ)). (b ≡ a) × Same ws x) o m
        → Beside (λ (b : A) (x : Mended (List ℕ)). (b ≡ a) × Same (w ∷ ws) x) o (m >>= λ x. accept (record { value = v.value ∷ x.value; edits = v.edits ++ x.edits }))
    one_more (accept b) (accept x) v hv h = (h.0, (ap₂ ◌∷◌ hv.0 h.1.0, all_append Quiet v.edits x.edits hv.1 h.1.1))
    one_more (accept b) (reject i q) v hv h = absurd h
    one_more (reject i q) m v hv h = elim h [ inl j ↦ inl j | inr e ↦ inr (ap (λ (z : Result (Mended (List ℕ))). z >>= λ x. accept (record { value = v.value ∷ x.value; edits = v.edits ++ x.edits })) e) ]

-- ---- rows and names

-- judged words as a step, beside mended words as a step
step_of : {A : Type 0} (ws : List ℕ) (a : Step A) (j : Result (Step A)) (m : Result (Mended (List ℕ))) (f : Mended (List ℕ) → Mended A)
    → ((v : Mended (List ℕ)) → Same ws v → Same a.value (f v)) → Beside (λ (b : Step A) (v : Mended (List ℕ)). (b ≡ a) × Same ws v) j m
    → Beside SameStep j (m >>= λ v. accept (record { value = f v; place = a.place; left = a.left }))
step_of ws a (accept b) (accept v) f k h = subst (λ (z : Step _). SameStep z (record { value = f v; place = a.place; left = a.left })) (sym h.0) (k v h.1, refl, refl)
step_of ws a (accept b) (reject i q) f k h = absurd h
step_of ws a (reject i q) m f k h = elim h [ inl j ↦ inl j | inr e ↦ inr (ap (λ (z : Result (Mended (List ℕ))). z >>= λ v. accept (record { value = f v; place = a.place; left = a.left })) e) ]

pub row-beside : (rs : List Rule) (p : ℕ) (s : List ℕ) → Beside SameStep (row rs p s) (mend_row rs p s)
unfolding row mend_row
row-beside rs p s =
    same_beside SameStep (words p (length rs) p s) _ _ (λ x ex.
    step_of x.value x (judged rs p x.value x) (mend_words rs p x.value) (λ v. v) (λ v h. h) (words-beside rs p x.value x (words_count p (length rs) p s x ex)))

pub named-beside : (rs : List Rule) (p : ℕ) (s : List ℕ) → Beside SameStep (named rs p s) (mend_named rs p s)
unfolding named mend_named with_name
named-beside rs p s =
    same_beside SameStep (text p p s) _ _ (λ n en.
    same_beside SameStep (words p (length rs) n.place n.left) _ _ (λ x ex.
    let a : Step (Name × List ℕ) = record { value = (record { place = p; bytes = n.value }, x.value); place = x.place; left = x.left } in
    step_of x.value a (judged rs n.place x.value a) (mend_words rs n.place x.value) (with_name p n.value) (name-same p n.value x.value)
    (words-beside rs n.place x.value a (words_count p (length rs) n.place n.left x ex))))
  where
    name-same : (p : ℕ) (cs ws : List ℕ) (v : Mended (List ℕ)) → Same ws v → Same (record { place = p; bytes = cs }, ws) (with_name p cs v)
    name-same p cs ws v h = (ap (λ (l : List ℕ). (record { place = p; bytes = cs }, l)) h.0, (keep_quiet _, h.1))

-- ---- items

-- rules of which each can be broken by an id only
abbrev pub IdRule : Rule → Type 0
IdRule any = Unit {0}
IdRule (up_to m) = ⊥
IdRule (exactly m) = ⊥
IdRule (names n) = Unit {0}
IdRule (names_or_none n) = Unit {0}
IdRule unit = ⊥

ids-judged : {A : Type 0} (rs : List Rule) (p : ℕ) (ws : List ℕ) (a : A) → All IdRule rs → Beside (λ (b : A) (c : Bool). (b ≡ a) × (c ≡ true)) (judged rs p ws a) (accept (all_hold rs ws))
unfolding judged all_hold check
ids-judged [] p ws a h = (refl, refl)
ids-judged (r ∷ rs) p [] a h = (refl, refl)
ids-judged {A} (r ∷ rs) p (w ∷ ws) a h = go r h.0 (judged rs (p + 4) ws a) (all_hold rs ws) (ids-judged rs (p + 4) ws a h.1)
  where
    both : (c d : Bool) (n : ℕ) (o : Result A) → Mendable n p → Beside (λ (b : A) (c : Bool). (b ≡ a) × (c ≡ true)) o (accept d)
        → Beside (λ (b : A) (c : Bool). (b ≡ a) × (c ≡ true)) (check c n p >>= λ u. o) (accept (c && d))
    both true d n o i k = k
    both false d n o i k = inl i

    go : (r : Rule) → IdRule r → (o : Result A) (d : Bool) → Beside (λ (b : A) (c : Bool). (b ≡ a) × (c ≡ true)) o (accept d)
        → Beside (λ (b : A) (c : Bool). (b ≡ a) × (c ≡ true)) (check (holds r w) (refusal r) p >>= λ u. o) (accept (holds r w && d))
    go any i o d k = k
    go (up_to m) i o d k = absurd i
    go (exactly m) i o d k = absurd i
    go (names n) i o d k = both (holds (names n) w) d 7 o (inr (inl refl)) k
    go (names_or_none n) i o d k = both (holds (names_or_none n) w) d 7 o (inr (inl refl)) k
    go unit i o d k = absurd i

-- an item that stays
abbrev pub SameItem : {A : Type 0} → Step A → Step (Mended (List A)) → Type 0
SameItem x y = (y.value.value ≡ x.value ∷ []) × All Quiet y.value.edits × (y.place ≡ x.place) × (y.left ≡ x.left)

item_of : (x : Step (List ℕ)) (j : Result (Step (List ℕ))) (b : Bool) → Beside (λ (y : Step (List ℕ)) (c : Bool). (y ≡ x) × (c ≡ true)) j (accept b)
    → Beside SameItem j (accept (record { value = stays b x.value; place = x.place; left = x.left }))
unfolding stays
item_of x (accept y) true h = subst (λ (z : Step (List ℕ)). SameItem z (record { value = stays true x.value; place = x.place; left = x.left })) (sym h.0) (refl, (keep_quiet _, tt), refl, refl)
item_of x (accept y) false h = let z : false ≡ true = h.1 in absurd (no-yes z)
  where
    no-yes : false ≡ true → ⊥
    no-yes e = subst (λ (b : Bool). T (not b)) e tt
item_of x (reject n p) b h = elim h [ inl i ↦ inl i | inr e ↦ absurd (bad_got (sym e)) ]

pub item-beside : (rs : List Rule) → All IdRule rs → (p : ℕ) (s : List ℕ) → Beside SameItem (row rs p s) (mend_item rs p s)
unfolding row mend_item
item-beside rs ids p s =
    same_beside SameItem (words p (length rs) p s) _ _ (λ x ex. item_of x (judged rs p x.value x) (all_hold rs x.value) (ids-judged rs p x.value x ids))

module _ {A : Type 0} (read : ℕ → List ℕ → Result (Step A)) (item : ℕ → List ℕ → Result (Step (Mended (List A)))) (one : (p : ℕ) (s : List ℕ) → Beside SameItem (read p s) (item p s)) where
  in_beside : (f p : ℕ) (s : List ℕ) → Beside (λ (l : List A) (m : List (Mended (List A))). Same l (gathered m)) (items_in f read p s) (items_in f item p s)
  unfolding items_in gathered
  in_beside zero p [] = (refl, tt)
  in_beside zero p (c ∷ s) = inr refl
  in_beside (suc f) p [] = (refl, tt)
  in_beside (suc f) p (c ∷ s) =
      bind_beside SameItem _ (read p (c ∷ s)) (item p (c ∷ s)) _ _ (one p (c ∷ s)) (λ x y h.
      let ih = in_beside f x.place x.left in
      let ih₁ : Beside (λ (l : List A) (m : List (Mended (List A))). Same l (gathered m)) (items_in f read x.place x.left) (items_in f item y.place y.left) =
      subst (λ (u : List ℕ). Beside (λ (l : List A) (m : List (Mended (List A))). Same l (gathered m)) (items_in f read x.place x.left) (items_in f item y.place u)) (sym h.3)
      (subst (λ (q : ℕ). Beside (λ (l : List A) (m : List (Mended (List A))). Same l (gathered m)) (items_in f read x.place x.left) (items_in f item q x.left)) (sym h.2) ih) in
      bind_beside (λ (l : List A) (m : List (Mended (List A))). Same l (gathered m)) _ (items_in f read x.place x.left) (items_in f item y.place y.left) _ _ ih₁ (λ l m k.
      (ap₂ ◌++◌ h.0 k.0, all_append Quiet y.value.edits (gathered m).edits h.1 k.1)))

  pub items-beside : (p : ℕ) (s : List ℕ) → Beside Same (items read p s) (mend_items item p s)
  unfolding items mend_items
  items-beside p s = last (items_in (length s) read p s) (items_in (length s) item p s) (in_beside (length s) p s)
    where
      last : (o : Result (List A)) (m : Result (List (Mended (List A)))) → Beside (λ (l : List A) (m : List (Mended (List A))). Same l (gathered m)) o m → Beside Same o (m >>= λ l. accept (gathered l))
      last (accept l) (accept m) h = h
      last (accept l) (reject n q) h = absurd h
      last (reject n q) m h = elim h [ inl i ↦ inl i | inr e ↦ inr (ap (λ (z : Result (List (Mended (List A)))). z >>= λ l. accept (gathered l)) e) ]

pub as-read-beside : {A : Type 0} (read : ℕ → List ℕ → Result A) (p : ℕ) (b : List ℕ) → Beside Same (read p b) (as_read read p b)
unfolding as_read
as-read-beside {A} read p b = go (read p b)
  where
    go : (o : Result A) → Beside Same o (o >>= λ v. accept (record { value = v; edits = keep b ∷ [] }))
    go (accept v) = (refl, (keep_quiet b, tt))
    go (reject n q) = inr refl
