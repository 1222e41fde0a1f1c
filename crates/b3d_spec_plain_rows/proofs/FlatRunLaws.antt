-- The flat run, step by step and without a bound: chunks of a stretch of the file stand in it one after the other.
use mathlib.Core.Path.{◌≡◌, refl, ap, ap₂, sym, subst, ◌∙◌}
use Prim.Native.Nat.{ℕ, zero, suc, ◌+◌, ◌-◌, ◌<◌, ◌≤◌}
use native.Mathlib.Omega.{arith}
use mathlib.Core.Bool.{not}
use mathlib.Core.Option.{Option, none, some}
use mathlib.Core.List.{List, [], ◌∷◌, ◌++◌, append-nil, append_assoc}
use lib.ListN.{length, take, drop, get_or, length-take, length-drop, length-append, drop_of_length-le, take-append-drop}
use lib.Seq.{drop-drop, get_or-drop, take-append-le, drop-append-le}
use lib.Dec.{T, leb, leb→le, le→leb, nleb→lt}
use Rattle.wire.specs.Test.{if}
use Rattle.wire.specs.Bytes.{word, word_at}
use Rattle.layout.specs.Chunks.{done, stop, chunk, keep, split_in, split as split_of}
use Rattle.layout.specs.Result.{Result, accept, reject}
use Rattle.layout.specs.Parts.{Name, Step, named}
use Rattle.layout.proofs.ChunkLaws.{split_step, split-none}
use Rattle.layout.proofs.ResultLaws.{if_yes, if_no, if_cong, by_test}
use Rattle.b3d_spec.specs.declared.Tag.{Tag}
use Rattle.b3d_spec.specs.declared.Tag.TheVariants.{NODE}
use Rattle.b3d_spec.specs.Rules.{node_row}
use Rattle.b3d_spec.specs.Tags.{Chunks, split, tag_of, is}
use Rattle.b3d_spec_plain_rows.specs.Flat.{rest, enter, flat_in, flat_at}
use Rattle.b3d_spec_plain_rows.proofs.TextEndLaws.{named-ahead}

-- from place `at` of the file the first known chunk is this one, at p
pub record Here (s : List ℕ) (at : ℕ) (t : Tag) (p : ℕ) (b : List ℕ) : Type 0 where
  pub from : at ≤ p
  pub to : p + 8 + length b ≤ length s
  pub size : word_at s (p + 4) ≡ length b
  pub body : drop (p + 8) s ≡ b ++ drop (p + 8 + length b) s
  pub first : rest s at ≡ chunk t p b (rest s (p + 8 + length b))

-- the chunks of a stretch from `at` to e are those of the file
abbrev pub Laid : List ℕ → ℕ → ℕ → Chunks → Type 0
Laid s e at done = rest s at ≡ rest s e
Laid s e at (stop n p) = Unit {0}
Laid s e at (chunk t p b r) = Here s at t p b × Laid s e (p + 8 + length b) r × (p + 8 + length b ≤ e)

-- the length that a header says
size-at : (p a b c f g i j l : ℕ) (x s : List ℕ) → drop p s ≡ a ∷ b ∷ c ∷ f ∷ g ∷ i ∷ j ∷ l ∷ x → word_at s (p + 4) ≡ word g i j l
unfolding word_at
size-at p a b c f g i j l x s d =
    let at : (k : ℕ) → get_or s (p + k) 0 ≡ get_or (a ∷ b ∷ c ∷ f ∷ g ∷ i ∷ j ∷ l ∷ x) k 0 = λ k. sym (get_or-drop p s k 0) ∙ ap (λ (y : List ℕ). get_or y k 0) d in
    let e5 : p + 4 + 1 ≡ p + 5 = omega arith in
    let e6 : p + 4 + 2 ≡ p + 6 = omega arith in
    let e7 : p + 4 + 3 ≡ p + 7 = omega arith in
    rw (e5, e6, e7, at 4, at 5, at 6, at 7)

module _ (s : List ℕ) (e : ℕ) where
  -- chunks that are not known stand before
  skip : (p q : ℕ) (cs : Chunks) → p ≤ q → rest s p ≡ rest s q → Laid s e q cs → Laid s e p cs
  skip p q done le same h = same ∙ h
  skip p q (stop n i) le same h = tt
  skip p q (chunk t i b r) le same h =
      (record { from = omega (arith, h.0.from); to = h.0.to; size = h.0.size; body = h.0.body; first = same ∙ h.0.first }, h.1, h.2)

  kept : e ≤ length s → (o : Option Tag) (p n : ℕ) (b : List ℕ) (cs : Chunks) → length b ≡ n → word_at s (p + 4) ≡ n → p + 8 + n ≤ e → drop (p + 8) s ≡ b ++ drop (p + 8 + n) s
      → rest s p ≡ keep o p b (rest s (p + 8 + n)) → Laid s e (p + 8 + n) cs → Laid s e p (keep o p b cs)
  unfolding keep
  kept end none p n b cs l z t d f h = skip p (p + 8 + n) cs (omega arith) f h
  kept end (some t) p n b cs l z hi d f h =
      let q : p + 8 + n ≡ p + 8 + length b = ap (λ (k : ℕ). p + 8 + k) (sym l) in
      (record { from = omega arith; to = omega arith; size = z ∙ sym l; body = rw (← q) d; first = rw (← q) f }, rw (← q) h, omega arith)

  module _ (end : e ≤ length s) where
    -- a chunk, and then a stretch of which this is known
    onward : (p a b c f g i j l : ℕ) (x : List ℕ) → drop p s ≡ (a ∷ b ∷ c ∷ f ∷ g ∷ i ∷ j ∷ l ∷ x) ++ drop e s → e ≡ p + 8 + length x
        → ((q : ℕ) (y : List ℕ) → length y ≤ length x → drop q s ≡ y ++ drop e s → e ≡ q + length y → Laid s e q (split q y))
        → Laid s e p (split p (a ∷ b ∷ c ∷ f ∷ g ∷ i ∷ j ∷ l ∷ x))
    unfolding rest
    onward p a b c f g i j l x d k more =
        let n = word g i j l in
        let o = tag_of (word a b c f) in
        let q = p + 8 + n in
        by_test (leb n (length x))
        (λ t.
        let le : n ≤ length x = leb→le n (length x) t in
        let lt : length (take n x) ≡ n = length-take n x ∙ omega arith in
        let ld = length-drop n x in
        let d₈ : drop (p + 8) s ≡ x ++ drop e s = sym (drop-drop 8 p s) ∙ ap (λ (y : List ℕ). drop 8 y) d in
        let dq : drop q s ≡ drop n x ++ drop e s = sym (drop-drop n (p + 8) s) ∙ ap (λ (y : List ℕ). drop n y) d₈ ∙ drop-append-le n x (drop e s) le in
        let here : drop (p + 8) s ≡ take n x ++ drop q s =
        d₈ ∙ ap (λ (y : List ℕ). y ++ drop e s) (sym (take-append-drop n x)) ∙ append_assoc (take n x) (drop n x) (drop e s) ∙ ap (λ (y : List ℕ). take n x ++ y) (sym dq) in
        let long : T (leb n (length (x ++ drop e s))) = le→leb n (length (x ++ drop e s)) (omega (arith, length-append x (drop e s))) in
        let head : split p (drop p s) ≡ keep o p (take n x) (split q (drop q s)) =
        ap (split p) d ∙ split_step tag_of p a b c f g i j l (x ++ drop e s) ∙ if_yes (leb n (length (x ++ drop e s))) _ (stop 3 p) long
        ∙ ap₂ (λ (y z : List ℕ). keep o p y (split q z)) (take-append-le n x (drop e s) le) (drop-append-le n x (drop e s) le ∙ sym dq) in
        rw (split_step tag_of p a b c f g i j l x, if_yes (leb n (length x)) (keep o p (take n x) (split q (drop n x))) (stop 3 p) t)
        (kept end o p n (take n x) (split q (drop n x)) lt (size-at p a b c f g i j l (x ++ drop e s) s d) (omega arith) here head (more q (drop n x) (omega arith) dq (omega arith))))
        (λ t. rw (split_step tag_of p a b c f g i j l x, if_no (leb n (length x)) (keep o p (take n x) (split q (drop n x))) (stop 3 p) t) tt)

    laid_in : (m p : ℕ) (b : List ℕ) → length b ≤ m → drop p s ≡ b ++ drop e s → e ≡ p + length b → Laid s e p (split p b)
    unfolding split_of split_in
    laid_in zero p [] h d k = let z : p ≡ e = omega arith in ap (rest s) z
    laid_in zero p (a ∷ x) h d k = absurd (omega arith)
    laid_in (suc m) p [] h d k = let z : p ≡ e = omega arith in ap (rest s) z
    laid_in (suc m) p (a ∷ []) h d k = tt
    laid_in (suc m) p (a ∷ b ∷ []) h d k = tt
    laid_in (suc m) p (a ∷ b ∷ c ∷ []) h d k = tt
    laid_in (suc m) p (a ∷ b ∷ c ∷ f ∷ []) h d k = tt
    laid_in (suc m) p (a ∷ b ∷ c ∷ f ∷ g ∷ []) h d k = tt
    laid_in (suc m) p (a ∷ b ∷ c ∷ f ∷ g ∷ i ∷ []) h d k = tt
    laid_in (suc m) p (a ∷ b ∷ c ∷ f ∷ g ∷ i ∷ j ∷ []) h d k = tt
    laid_in (suc m) p (a ∷ b ∷ c ∷ f ∷ g ∷ i ∷ j ∷ l ∷ x) h d k =
        onward p a b c f g i j l x d (omega arith) (λ q y n. laid_in m q y (omega arith))

    pub laid : (p : ℕ) (b : List ℕ) → drop p s ≡ b ++ drop e s → e ≡ p + length b → Laid s e p (split p b)
    laid p b d k = laid_in (length b) p b (omega arith) d k

module _ (s : List ℕ) where
  -- what stands from any place on
  pub rest_laid : (at : ℕ) → Laid s (length s) at (rest s at)
  unfolding rest
  rest_laid at =
      by_test (leb at (length s))
      (λ t. let le : at ≤ length s = leb→le at (length s) t in
      laid s (length s) (omega arith) at (drop at s)
      (sym (append-nil (drop at s)) ∙ ap (λ (y : List ℕ). drop at s ++ y) (sym (drop_of_length-le s {i = length s} (omega arith)))) (omega (arith, length-drop at s)))
      (λ t. let lt : length s < at = nleb→lt at (length s) t in
      let z : drop at s ≡ [] = drop_of_length-le s {i = at} (omega arith) in
      let w : drop (length s) s ≡ [] = drop_of_length-le s {i = length s} (omega arith) in
      let x : split at (drop at s) ≡ done = ap (split at) z ∙ split-none tag_of at in
      let y : split (length s) (drop (length s) s) ≡ done = ap (split (length s)) w ∙ split-none tag_of (length s) in
      subst (Laid s (length s) at) (sym x) (x ∙ sym y))

  -- ---- without a bound

  stop-any : (f n p : ℕ) → flat_in f s (stop n p) ≡ stop n p
  unfolding flat_in
  stop-any zero n p = refl
  stop-any (suc f) n p = refl

  enter-same : (g h : ℕ → Chunks) (p : ℕ) (b : List ℕ) → ((q : ℕ) → p + 8 ≤ q → g q ≡ h q) → (o : Result (Step (Name × List ℕ))) → named node_row (p + 8) b ≡ o → enter o p b g ≡ enter o p b h
  unfolding enter
  enter-same g h p b same (accept x) e = let a = named-ahead node_row (p + 8) b x e in ap (chunk NODE p b) (same x.place (omega (arith, a.place)))
  enter-same g h p b same (reject n q) e = refl

  pub fuel_by : (f g at : ℕ) → length s - at ≤ f → length s - at ≤ g → (cs : Chunks) → rest s at ≡ cs → Laid s (length s) at cs → flat_in f s cs ≡ flat_in g s cs
  unfolding flat_in
  fuel_by zero zero at hf hg cs e h = refl
  fuel_by zero (suc g) at hf hg done e h = refl
  fuel_by zero (suc g) at hf hg (stop n p) e h = refl
  fuel_by zero (suc g) at hf hg (chunk t p b r) e h = absurd (omega (arith, h.0.from, h.0.to))
  fuel_by (suc f) zero at hf hg done e h = refl
  fuel_by (suc f) zero at hf hg (stop n p) e h = refl
  fuel_by (suc f) zero at hf hg (chunk t p b r) e h = absurd (omega (arith, h.0.from, h.0.to))
  fuel_by (suc f) (suc g) at hf hg done e h = refl
  fuel_by (suc f) (suc g) at hf hg (stop n p) e h = refl
  fuel_by (suc f) (suc g) at hf hg (chunk t p b r) e h =
      let again : (q : ℕ) → p + 8 ≤ q → flat_in f s (rest s q) ≡ flat_in g s (rest s q) =
      λ q le. fuel_by f g q (omega (arith, h.0.from)) (omega (arith, h.0.from)) (rest s q) refl (rest_laid q) in
      let more : chunk t p b r ≡ chunk t p b (rest s (p + 8 + length b)) = sym e ∙ h.0.first in
      let next : r ≡ rest s (p + 8 + length b) = cc in
      let o = named node_row (p + 8) b in
      if_cong (is t NODE) (λ y. enter-same (λ q. flat_in f s (rest s q)) (λ q. flat_in g s (rest s q)) p b again o refl)
      (λ y. ap (chunk t p b) (rw next (again (p + 8 + length b) (omega arith))))

  -- a bound of all bytes, less one
  fuel : (m q : ℕ) → length s ≡ suc m → 1 ≤ q → flat_in m s (rest s q) ≡ flat_at s q
  unfolding flat_at
  fuel m q l k = fuel_by m (length s) q (omega arith) (omega arith) (rest s q) refl (rest_laid q)

  -- ---- its steps

  -- from two places the same chunks stand
  pub run-same : (at q : ℕ) → rest s at ≡ rest s q → flat_at s at ≡ flat_at s q
  unfolding flat_at
  run-same at q e = ap (flat_in (length s) s) e

  done-any : (f : ℕ) → flat_in f s done ≡ done
  unfolding flat_in
  done-any zero = refl
  done-any (suc f) = refl

  pub run-done : (at : ℕ) → rest s at ≡ done → flat_at s at ≡ done
  unfolding flat_at
  run-done at e = ap (flat_in (length s) s) e ∙ done-any (length s)

  pub run-stop : (at n p : ℕ) → rest s at ≡ stop n p → flat_at s at ≡ stop n p
  unfolding flat_at
  run-stop at n p e = ap (flat_in (length s) s) e ∙ stop-any (length s) n p

  module _ (at : ℕ) (t : Tag) (p : ℕ) (b : List ℕ) (h : Here s at t p b) where
    -- its step
    one : flat_at s at ≡ if (is t NODE) (enter (named node_row (p + 8) b) p b (flat_at s)) (chunk t p b (flat_at s (p + 8 + length b)))
    unfolding flat_at flat_in
    one =
        let l : length s ≡ suc (length s - 1) = omega (arith, h.to) in
        ap (flat_in (length s) s) h.first ∙ ap (λ (f : ℕ). flat_in f s (chunk t p b (rest s (p + 8 + length b)))) l
        ∙ if_cong (is t NODE) (λ y. enter-same (λ q. flat_in (length s - 1) s (rest s q)) (flat_at s) p b (λ q k. fuel (length s - 1) q l (omega arith)) (named node_row (p + 8) b) refl)
        (λ y. ap (chunk t p b) (fuel (length s - 1) (p + 8 + length b) l (omega arith)))

    -- past a chunk that is no NODE
    pub run_past : T (not (is t NODE)) → flat_at s at ≡ chunk t p b (flat_at s (p + 8 + length b))
    run_past y = one ∙ if_no (is t NODE) _ _ y

    -- into a NODE
    pub run_into : (x : Step (Name × List ℕ)) → T (is t NODE) → named node_row (p + 8) b ≡ accept x → flat_at s at ≡ chunk NODE p b (flat_at s x.place)
    unfolding enter
    run_into x y e = one ∙ if_yes (is t NODE) _ _ y ∙ ap (λ (o : Result (Step (Name × List ℕ))). enter o p b (flat_at s)) e

    -- a NODE without its text or its numbers
    pub run_none : (n q : ℕ) → T (is t NODE) → named node_row (p + 8) b ≡ reject n q → flat_at s at ≡ stop n q
    unfolding enter
    run_none n q y e = one ∙ if_yes (is t NODE) _ _ y ∙ ap (λ (o : Result (Step (Name × List ℕ))). enter o p b (flat_at s)) e

    -- a NODE or an end stands first
    pub run-node : T (is t NODE) → (P : Chunks → Type 0) → ((r : Chunks) → P (chunk NODE p b r)) → ((n q : ℕ) → P (stop n q)) → P (flat_at s at)
    unfolding enter
    run-node y P f g = subst P (sym (one ∙ if_yes (is t NODE) _ _ y)) (go (named node_row (p + 8) b))
      where
        go : (o : Result (Step (Name × List ℕ))) → P (enter o p b (flat_at s))
        go (accept x) = f (flat_at s x.place)
        go (reject n q) = g n q

    -- the chunks inside a NODE
    pub inside_laid : (x : Step (Name × List ℕ)) → named node_row (p + 8) b ≡ accept x → Laid s (p + 8 + length b) x.place (split x.place x.left)
    inside_laid x e =
        let a = named-ahead node_row (p + 8) b x e in
        let q = p + 8 + length b in
        let d : drop x.place s ≡ x.left ++ drop q s =
        ap (λ (k : ℕ). drop k s) a.place ∙ sym (drop-drop a.by (p + 8) s) ∙ ap (λ (y : List ℕ). drop a.by y) h.body
        ∙ drop-append-le a.by b (drop q s) a.within ∙ ap (λ (y : List ℕ). y ++ drop q s) (sym a.left) in
        laid s q h.to x.place x.left d (omega (arith, a.place, a.within, ap length a.left, length-drop a.by b))
