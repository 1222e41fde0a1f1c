-- Brushes and vertices in both readings.
use mathlib.Core.Logic.{inl, inr}
use mathlib.Core.Path.{◌≡◌, refl, ap, sym, subst, ◌∙◌}
use Prim.Native.Nat.{ℕ, zero, suc, ◌+◌, ◌-◌, ◌*◌, ◌<◌, ◌≤◌}
use native.Mathlib.Omega.{arith}
use mathlib.Core.Bool.{true}
use mathlib.Core.List.{List, [], ◌∷◌, ◌++◌, map}
use lib.ListN.{length, take, drop, replicate, length-map, length-append, length-replicate, length-drop}
use lib.Seq.{take-append_seam}
use lib.Dec.{leb, leb→le, nleb→lt}
use Rattle.layout.specs.Result.{Result, accept, reject, ◌>>=◌}
use Rattle.layout.specs.Parts.{Name, Step, text, words_of, judged, row, named}
use Rattle.layout.specs.Rules.{Rule, any, unit}
use Rattle.layout.proofs.HeldLaws.{loose, words-in}
use Rattle.layout.proofs.ResultLaws.{got_inj, bad_got, by_test}
use Rattle.layout.proofs.PlaceLaws.{At, text_at, words-at}
use Rattle.layout.proofs.StepLaws.{judged_got, judged-any, length-words-of, words-enough, words-short, row-enough, row-short}
use Rattle.b3d_spec.specs.declared.Mode.TheVariants.{Strict}
use Rattle.b3d_spec.specs.Rules.{texture_id, when, vertex_words, brush_row, brush_ids, vertex_row}
use Rattle.b3d_rule_refusal_places.specs.ByHeaders.{part}
use Rattle.b3d_rule_refusal_places.specs.GivenAtColours.{BrushTo, VertexTo}
use Rattle.b3d_rule_refusal_places.proofs.ItemPairLaws.{BadItem, ItemPair}
use Rattle.b3d_rule_refusal_places.proofs.FaultSearchLaws.{brush-wide}
use Rattle.b3d_rule_refusal_places.proofs.RowPairLaws.{unit_at, Units, units_run, false-true, NotUnit, BadFloat, Judged, judged_pair}
use Rattle.b3d_rule_refusal_places.proofs.FixedDataLaws.{text-onward, named-onward}

-- the bytes of a chunk, as the file has them
pub part-is : (s : List ℕ) (p q : ℕ) (b : List ℕ) → At s p b → p + length b ≡ q → part s p q ≡ b
part-is s p q b at e = let z : q - p ≡ length b = omega arith in ap (λ (n : ℕ). take n (drop p s)) z ∙ ap (take (length b)) at.stands ∙ take-append_seam b at.after

-- ---- numbers at place z, the item's end at z + 4 * numbers

module _ (s : List ℕ) (To : ℕ → ℕ → Type 0) (numbers before colours last : ℕ) (rs : List Rule) (long : length rs ≡ numbers) (units : Units rs before colours) where
  -- a float among them that does not pass is a colour of the item, and the other way round
  float_item : (q z e p : ℕ) → To q e → e ≡ z + 4 * numbers → BadFloat s rs z p → BadItem s To numbers before colours q p
  float_item q z e p h i x = let u = units.to x.0 x.1 in (e, h, (u.0, u.1, omega (arith, u.2, x.2)), x.3)

  item-float : (q z e p : ℕ) → e ≡ z + 4 * numbers → ((c : ℕ) × (c < colours) × (p + 4 * numbers ≡ e + 4 * (before + c))) → NotUnit s p → BadFloat s rs z p
  item-float q z e p i x n = (before + x.0, units.from x.0 x.1, omega (arith, x.2), n)

  -- a row of them, once they are all there: at z of an item that begins at q; x is what is given if they pass
  numbers_pair : {A : Type 0} (q z e : ℕ) (x : Step A) (o o' : Result (Step A)) → e ≡ z + 4 * numbers → q ≤ z → e ≤ last → To q e → ((d : ℕ) → To q d → d ≡ e) → x.place ≡ e → x.place + length x.left ≡ last
      → At s x.place x.left → ((y : Step A) → o ≡ accept y → y ≡ x) → Judged s rs z o o' → ItemPair s To numbers before colours last q o o'
  numbers_pair q z e x (accept y) o' i l f h u j k at is r =
      let w = is y refl in
      subst (λ (v : Step _). ItemPair s To numbers before colours last q (accept v) o') (sym w)
      (r.0 ∙ ap accept w, subst (To q) (sym j) h, k, at, λ p c. r.1 p (item-float q z e p i (subst (λ (d : ℕ). (c₁ : ℕ) × (c₁ < colours) × (p + 4 * numbers ≡ d + 4 * (before + c₁))) (u c.0 c.1) c.2) c.3))
  numbers_pair q z e x (reject n p) o' i l f h u j k at is r = (
    (omega (arith, r.0.0), r.0.1, inl (omega (arith, r.1, long))),
    elim r.2 [ inl y ↦ inl y | inr y ↦ inr (y.0, float_item q z e p h i y.1) ],
    λ d g. let w = u d g in omega (arith, r.1, long),
    λ b c. r.3 b (item-float q z e b i (subst (λ (d : ℕ). (c₁ : ℕ) × (c₁ < colours) × (b + 4 * numbers ≡ d + 4 * (before + c₁))) (u c.0 c.1) c.2) c.3),
  )

  -- an item that is not all there
  cut_pair : {A : Type 0} (q : ℕ) (o' : Result (Step A)) → q ≤ last → ((e : ℕ) → To q e → ⊥) → o' ≡ reject 5 q → ItemPair s To numbers before colours last q (reject 5 q) o'
  cut_pair q o' l n e = (
    (omega arith, omega arith, inr (l, refl)),
    inl e,
    λ d g. absurd (n d g),
    λ j c. absurd (n c.0 c.1),
  )

-- ---- a row of numbers

-- n words at place p, and what is left
abbrev step_of : ℕ → ℕ → List ℕ → Step (List ℕ)
step_of n p b = record { value = words_of n b; place = p + 4 * n; left = drop (4 * n) b }

row_by : (rs : List Rule) (q : ℕ) (b : List ℕ) (n : ℕ) → length rs ≡ n → 4 * n ≤ length b → row rs q b ≡ judged rs q (words_of n b) (step_of n q b)
row_by rs q b n e = subst (λ (k : ℕ). 4 * k ≤ length b → row rs q b ≡ judged rs q (words_of k b) (step_of k q b)) e (row-enough rs q b)

module _ (s : List ℕ) (numbers before colours last : ℕ) (rs : List Rule) (long : length rs ≡ numbers) (units : Units rs before colours) (q : ℕ) (b : List ℕ) (at : At s q b) (e : q + length b ≡ last) where
  abbrev Item : Result (Step (List ℕ)) → Result (Step (List ℕ)) → Type 0
  Item o o' = ItemPair s (VertexTo numbers last) numbers before colours last q o o'

  long_loose : length (map loose rs) ≡ numbers
  long_loose = length-map rs loose ∙ long

  row_cut : length b < 4 * numbers → Item (row rs q b) (row (map loose rs) q b)
  row_cut h =
      subst (λ (o : Result (Step (List ℕ))). Item o (row (map loose rs) q b)) (sym (row-short rs q b (omega (arith, long))))
      (cut_pair s (VertexTo numbers last) numbers before colours last rs long units q (row (map loose rs) q b) (omega arith) (λ d g. omega (arith, g.0, g.1)) (row-short (map loose rs) q b (omega (arith, long_loose))))

  row-whole : 4 * numbers ≤ length b → Item (row rs q b) (row (map loose rs) q b)
  row-whole h =
      let x = step_of numbers q b in
      let ew = words-enough q numbers q b h in
      subst (λ (o : Result (Step (List ℕ))). Item o (row (map loose rs) q b)) (sym (row_by rs q b numbers long h))
      (subst (λ (o : Result (Step (List ℕ))). Item (judged rs q (words_of numbers b) x) o) (sym (row_by (map loose rs) q b numbers long_loose h))
      (numbers_pair s (VertexTo numbers last) numbers before colours last rs long units q q (q + 4 * numbers) x _ _ refl (omega arith) (omega arith) (refl, omega arith) (λ d g. g.0)
      refl (omega (arith, length-drop (4 * numbers) b)) (words-at s q numbers q b x at ew) (λ y ey. sym (judged_got rs q (words_of numbers b) x y ey))
      (judged_pair s rs q (words_of numbers b) x (length-words-of numbers b h ∙ sym long) (words-in s q numbers q b x at ew))))

  pub row-item : Item (row rs q b) (row (map loose rs) q b)
  row-item = by_test (leb (4 * numbers) (length b)) (λ t. row-whole (leb→le (4 * numbers) (length b) t)) (λ t. row_cut (nleb→lt (4 * numbers) (length b) t))

-- ---- a name, then a row of numbers

map-bad : {A B : Type 0} (o : Result A) (g : A → B) (n j : ℕ) → (o >>= λ x. accept (g x)) ≡ reject n j → o ≡ reject n j
map-bad (accept a) g n j e = bad_got (sym e)
map-bad (reject i k) g n j e = let a : i ≡ n = cc in let b : k ≡ j = cc in ap (λ (m : ℕ). reject m k) a ∙ ap (reject n) b

text-bad : (first p : ℕ) (s : List ℕ) (n j : ℕ) → text first p s ≡ reject n j → (n ≡ 5) × (j ≡ first)
unfolding text
text-bad first p [] n j e = (cc, cc)
text-bad first p (zero ∷ s) n j e = bad_got (sym e)
text-bad first p (suc c ∷ s) n j e =
    let g : Step (List ℕ) → Step (List ℕ) = λ x. record { value = suc c ∷ x.value; place = x.place; left = x.left } in
    text-bad first (p + 1) s n j (map-bad (text first (p + 1) s) g n j e)

-- n words behind a name m that was read at q
abbrev item_of : ℕ → ℕ → Step (List ℕ) → Step (Name × List ℕ)
item_of n q m = record { value = (record { place = q; bytes = m.value }, words_of n m.left); place = m.place + 4 * n; left = drop (4 * n) m.left }

module _ (q : ℕ) (b : List ℕ) where
  named_none : (rs : List Rule) (n j : ℕ) → text q q b ≡ reject n j → named rs q b ≡ reject n j
  unfolding named
  named_none rs n j e = rw e

  named-cut : (rs : List Rule) (n : ℕ) → length rs ≡ n → (m : Step (List ℕ)) → text q q b ≡ accept m → length m.left < 4 * n → named rs q b ≡ reject 5 q
  unfolding named
  named-cut rs n l m e h = rw (e, l, words-short q n m.place m.left h)

  named_by : (rs : List Rule) (n : ℕ) → length rs ≡ n → (m : Step (List ℕ)) → text q q b ≡ accept m → 4 * n ≤ length m.left → named rs q b ≡ judged rs m.place (words_of n m.left) (item_of n q m)
  unfolding named
  named_by rs n l m e h = rw (e, l, words-enough q n m.place m.left h)

-- where a brush ends, by its name
pub brush-same : (s : List ℕ) (slots last q e d : ℕ) → BrushTo s slots last q e → BrushTo s slots last q d → e ≡ d
brush-same s slots last q e d h k = h.2 ∙ ap (λ (x : Step (Name × List ℕ)). x.place) (got_inj (sym h.1 ∙ k.1)) ∙ sym k.2

pub brush-inside : (s : List ℕ) (slots last q e : ℕ) → BrushTo s slots last q e → (q < e) × (e ≤ last)
brush-inside s slots last q e h =
    let w = brush-wide s slots last q e h in
    let o = named-onward (replicate (7 + slots) any) q (part s q last) h.0 h.1 in
    let l : length (part s q last) ≤ last - q = take_short (last - q) (drop q s) in
    (omega arith, omega (arith, o.same, h.2))
  where
    take_short : (n : ℕ) (xs : List ℕ) → length (take n xs) ≤ n
    take_short zero xs = omega arith
    take_short (suc n) [] = omega arith
    take_short (suc n) (x ∷ xs) = let y = take_short n xs in omega arith

module _ (s : List ℕ) (slots colours last : ℕ) (rs : List Rule) (long : length rs ≡ 7 + slots) (units : Units rs 0 colours) (q : ℕ) (b : List ℕ) (at : At s q b) (e : q + length b ≡ last) where
  abbrev Brush : Result (Step (Name × List ℕ)) → Result (Step (Name × List ℕ)) → Type 0
  Brush o o' = ItemPair s (BrushTo s slots last) (7 + slots) 0 colours last q o o'

  loose_long : length (map loose rs) ≡ 7 + slots
  loose_long = length-map rs loose ∙ long

  -- one that ends there, read off the bytes
  ends : (d : ℕ) → BrushTo s slots last q d → (x : Step (Name × List ℕ)) × (named (replicate (7 + slots) any) q b ≡ accept x) × (d ≡ x.place)
  ends d g = (g.0, ap (named (replicate (7 + slots) any) q) (sym (part-is s q last b at e)) ∙ g.1, g.2)

  brush-none : (n j : ℕ) → text q q b ≡ reject n j → Brush (named rs q b) (named (map loose rs) q b)
  brush-none n j h =
      let z = text-bad q q b n j h in
      let h₅ : text q q b ≡ reject 5 q = h ∙ ap (λ (i : ℕ). reject i j) z.0 ∙ ap (reject 5) z.1 in
      subst (λ (o : Result (Step (Name × List ℕ))). Brush o (named (map loose rs) q b)) (sym (named_none q b rs 5 q h₅))
      (cut_pair s (BrushTo s slots last) (7 + slots) 0 colours last rs long units q (named (map loose rs) q b) (omega arith)
      (λ d g. let x = ends d g in bad_got (sym (named_none q b (replicate (7 + slots) any) 5 q h₅) ∙ x.1)) (named_none q b (map loose rs) 5 q h₅))

  brush-cut : (m : Step (List ℕ)) → text q q b ≡ accept m → length m.left < 4 * (7 + slots) → Brush (named rs q b) (named (map loose rs) q b)
  brush-cut m t h =
      subst (λ (o : Result (Step (Name × List ℕ))). Brush o (named (map loose rs) q b)) (sym (named-cut q b rs (7 + slots) long m t h))
      (cut_pair s (BrushTo s slots last) (7 + slots) 0 colours last rs long units q (named (map loose rs) q b) (omega arith)
      (λ d g. let x = ends d g in bad_got (sym (named-cut q b (replicate (7 + slots) any) (7 + slots) (length-replicate (7 + slots) any) m t h) ∙ x.1)) (named-cut q b (map loose rs) (7 + slots) loose_long m t h))

  brush-whole : (m : Step (List ℕ)) → text q q b ≡ accept m → 4 * (7 + slots) ≤ length m.left → Brush (named rs q b) (named (map loose rs) q b)
  brush-whole m t h =
      let n = 7 + slots in
      let x = item_of n q m in
      let ws = words_of n m.left in
      let o = text-onward q q b m t in
      let am = (text_at s q q b m at t).0 in
      let ew = words-enough q n m.place m.left h in
      let plain : named (replicate n any) q b ≡ accept x = named_by q b (replicate n any) n (length-replicate n any) m t h ∙ judged-any n m.place ws x in
      let to : BrushTo s slots last q (m.place + 4 * n) = (x, ap (named (replicate n any) q) (part-is s q last b at e) ∙ plain, refl) in
      subst (λ (w : Result (Step (Name × List ℕ))). Brush w (named (map loose rs) q b)) (sym (named_by q b rs n long m t h))
      (subst (λ (w : Result (Step (Name × List ℕ))). Brush (judged rs m.place ws x) w) (sym (named_by q b (map loose rs) n loose_long m t h))
      (numbers_pair s (BrushTo s slots last) n 0 colours last rs long units q m.place (m.place + 4 * n) x _ _ refl o.later (omega (arith, o.same)) to
      (λ d g. brush-same s slots last q d (m.place + 4 * n) g to) refl (omega (arith, o.same, length-drop (4 * n) m.left))
      (words-at s q n m.place m.left (step_of n m.place m.left) am ew) (λ y ey. sym (judged_got rs m.place ws x y ey))
      (judged_pair s rs m.place ws x (length-words-of n m.left h ∙ sym long) (words-in s q n m.place m.left (step_of n m.place m.left) am ew))))

  pub named-item : Brush (named rs q b) (named (map loose rs) q b)
  named-item = by (text q q b) refl
    where
      by : (o : Result (Step (List ℕ))) → text q q b ≡ o → Brush (named rs q b) (named (map loose rs) q b)
      by (reject n j) t = brush-none n j t
      by (accept m) t =
          by_test (leb (4 * (7 + slots)) (length m.left)) (λ y. brush-whole m t (leb→le (4 * (7 + slots)) (length m.left) y)) (λ y. brush-cut m t (nleb→lt (4 * (7 + slots)) (length m.left) y))

-- ---- which numbers are colours

any_none : (n c : ℕ) → unit_at (replicate n any) c ≡ true → ⊥
any_none zero c e = false-true e
any_none (suc n) zero e = false-true e
any_none (suc n) (suc c) e = any_none n c e

ids-none : (n k c : ℕ) → unit_at (brush_ids n k) c ≡ true → ⊥
ids-none zero k c e = false-true e
ids-none (suc n) k zero e = false-true e
ids-none (suc n) k (suc c) e = ids-none n k c e

rest-none : (n k c : ℕ) → unit_at (replicate 3 any ++ brush_ids n k) c ≡ true → ⊥
rest-none n k zero e = false-true e
rest-none n k (suc zero) e = false-true e
rest-none n k (suc (suc zero)) e = false-true e
rest-none n k (suc (suc (suc c))) e = ids-none n k c e

pub brush_units : (n k : ℕ) → Units (brush_row Strict ++ brush_ids n k) 0 4
brush_units n k = units_run 0 4 (replicate 3 any ++ brush_ids n k) (rest-none n k)

pub brush-long : (n k : ℕ) → length (brush_row Strict ++ brush_ids n k) ≡ 7 + n
brush-long n k = omega (arith, length-replicate n (texture_id k))

pub vertex_units : (f z y : ℕ) → Units (vertex_row Strict f z y) (3 + when 1 f 3) (when 2 f 4)
vertex_units f z y = units_run (3 + when 1 f 3) (when 2 f 4) (replicate (z * y) any) (any_none (z * y))

pub vertex-long : (f z y : ℕ) → length (vertex_row Strict f z y) ≡ vertex_words f z y
unfolding vertex_words
vertex-long f z y =
    let a = 3 + when 1 f 3 in
    let u = when 2 f 4 in
    omega (arith, length-append (replicate a any) (replicate u unit ++ replicate (z * y) any), length-append (replicate u unit) (replicate (z * y) any), length-replicate a any, length-replicate u unit, length-replicate (z * y) any)
