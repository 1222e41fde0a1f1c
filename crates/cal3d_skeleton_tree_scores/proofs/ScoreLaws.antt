-- Scores tell what the definition asks of the lists; and the lowest bone that does not stand right by its score is the one refused.
use Prim.Native.Nat.{ℕ, zero, suc, ◌+◌, ◌-◌, ◌*◌, ◌<◌, ◌≤◌}
use native.Mathlib.Omega.{arith}
use native.Mathlib.Nat.{add-mul}
use mathlib.Core.Bool.{Bool, true, false, ◌&&◌}
use mathlib.Core.Logic.{◌⊎◌, inl, inr}
use mathlib.Core.Path.{◌≡◌, refl, ap, sym, subst, ◌∙◌}
use mathlib.Core.List.{List, [], ◌∷◌, ◌++◌, map}
use lib.ListN.{length, get_or, set, length-set, length-map}
use lib.Seq.{get_or-set_same, get_or-set_other}
use lib.Dec.{eqb, ltb}
use borrow.Author.Tests.{eq-eqb, ne_eqb, lt-ltb, le-ltb, ltb-true, ltb-false}
use Rattle.wire.specs.Test.{if}
use Rattle.layout.specs.Result.{check}
use Rattle.layout.specs.Rules.{NONE}
use Rattle.layout.proofs.TestLaws.{and_false, and_true}
use Rattle.cal3d_spec.specs.Skeletons.{Bone, parent_of, list_of}
use Rattle.cal3d_spec.specs.Trees.{occurs, listed, stands, standing, trees}
use Rattle.cal3d_skeleton_tree_check.specs.Scores.{weight, score, wanted, sound, lowest, ParentsValid, stray_at, Scored}
use Rattle.cal3d_skeleton_tree_check.proofs.EndLaws.{by-eq}
use Rattle.cal3d_skeleton_tree_check.proofs.StrayLaws.{lowest-here, lowest-next, lowest-none}

-- ---- tests of sums

both-none : (a s : ℕ) → (eqb a 0 && eqb s 0) ≡ eqb (a * 2 + s) 0
both-none zero s = let e : zero * 2 + s ≡ s = omega arith in rw e
both-none (suc a) s = let n = ne_eqb (suc a) 0 (λ e. omega arith) in let m = ne_eqb (suc a * 2 + s) 0 (λ e. omega arith) in rw (n, m)

other-one : (a s : ℕ) → (eqb a 0 && eqb s 1) ≡ eqb (a * 2 + s) 1
other-one zero s = let e : zero * 2 + s ≡ s = omega arith in rw e
other-one (suc a) s = let n = ne_eqb (suc a) 0 (λ e. omega arith) in let m = ne_eqb (suc a * 2 + s) 1 (λ e. omega arith) in rw (n, m)

own-one : (a t : ℕ) → (eqb a 1 && eqb (2 * t) 0) ≡ eqb (a * 1 + 2 * t) 1
own-one a zero = let e : a * 1 + 2 * zero ≡ a = omega arith in rw e (and_true (eqb a 1))
own-one a (suc t) =
    let n = ne_eqb (2 * suc t) 0 (λ e. omega arith) in
    let m = ne_eqb (a * 1 + 2 * suc t) 1 (λ e. omega arith) in
    rw (n, m) (and_false (eqb a 1))

-- ---- scores and lists

-- p is none of the bones q, q + 1, .., n of them
abbrev Apart : ℕ → ℕ → ℕ → Type 0
Apart p q n = (p < q) ⊎ (q + n ≤ p)

apart_next : (p q n : ℕ) → Apart p q (suc n) → Apart p (q + 1) n
apart_next p q n (inl h) = inl (omega arith)
apart_next p q n (inr h) = inr (omega arith)

apart-not : (p q n : ℕ) → Apart p q (suc n) → p ≡ q → ⊥
apart-not p q n (inl h) e = omega arith
apart-not p q n (inr h) e = omega arith

module _ (b p : ℕ) where
  -- the lists of bones that are not b's parent
  others : List (List ℕ) → ℕ
  others [] = 0
  others (l ∷ ls) = occurs b l + others ls

  score_even : (q : ℕ) (ls : List (List ℕ)) → Apart p q (length ls) → score b p q ls ≡ 2 * others ls
  unfolding score weight if others
  score_even q [] h = refl
  score_even q (l ∷ ls) h =
      let n = ne_eqb p q (apart-not p q (length ls) h) in
      let e = score_even (q + 1) ls (apart_next p q (length ls) h) in
      rw (n, e) (omega arith)

  listed-apart : (q : ℕ) (ls : List (List ℕ)) → Apart p q (length ls) → listed b p q ls ≡ eqb (score b p q ls) 0
  unfolding listed score weight if
  listed-apart q [] h = refl
  listed-apart q (l ∷ ls) h =
      let n = ne_eqb p q (apart-not p q (length ls) h) in
      let m = ne_eqb q p (λ e. apart-not p q (length ls) h (sym e)) in
      let e = listed-apart (q + 1) ls (apart_next p q (length ls) h) in
      rw (n, m, e) (both-none (occurs b l) (score b p (q + 1) ls))

  listed-among : (q : ℕ) (ls : List (List ℕ)) → q ≤ p → p < q + length ls → listed b p q ls ≡ eqb (score b p q ls) 1
  unfolding listed score weight if
  listed-among q [] h k = absurd (omega arith)
  listed-among q (l ∷ ls) h k =
      by-eq p q
      (λ e. let apart : Apart p (q + 1) (length ls) = inl (omega arith) in
      let x = listed-apart (q + 1) ls apart in
      let y = score_even (q + 1) ls apart in
      let n = eq-eqb p q e in
      let m = eq-eqb q p (sym e) in
      rw (n, m, x, y) (own-one (occurs b l) (others ls)))
      (λ e. let x = listed-among (q + 1) ls (omega arith) (omega arith) in
      let n = ne_eqb p q e in
      let m = ne_eqb q p (λ f. e (sym f)) in
      rw (n, m, x) (other-one (occurs b l) (score b p (q + 1) ls)))

-- a bone stands right by its score just where the definition says so
pub sound-stands : (ps scores : List ℕ) (ls : List (List ℕ)) (b : ℕ) → ParentsValid ps → length ls ≡ length ps → length ps ≤ NONE → b < length ps
    → get_or scores b 0 ≡ score b (get_or ps b 0) 0 ls → sound ps scores b ≡ stands ps ls b
unfolding sound stands wanted if
sound-stands ps scores ls b v l few h e =
    by-eq (get_or ps b 0) NONE
    (λ r. let x = listed-apart b (get_or ps b 0) 0 ls (inr (omega arith)) in
    let t = eq-eqb (get_or ps b 0) NONE r in
    rw (x, t, e))
    (λ r. elim (v.named b h) [
      | inl z ↦ absurd (r z)
      | inr z ↦ let x = listed-among b (get_or ps b 0) 0 ls (omega arith) (omega arith) in
          let t = ne_eqb (get_or ps b 0) NONE r in
          rw (x, t, e)
    ])

-- ---- the lowest bone

by_bool : {P : Type 0} (t : Bool) → (t ≡ true → P) → (t ≡ false → P) → P
by_bool true f g = f refl
by_bool false f g = g refl

lowest-from : (ok : ℕ → Bool) (n b : ℕ) → b ≤ lowest ok n b
unfolding lowest if
lowest-from ok zero b = omega arith
lowest-from ok (suc n) b = by_bool (ok b) (λ e. let f = lowest-from ok n (b + 1) in rw e (omega arith)) (λ e. rw e (omega arith))

ltb_next : (r n : ℕ) → ltb (suc r) (suc n) ≡ ltb r n
ltb_next r n =
    by_bool (ltb r n)
    (λ e. let h = ltb-true r n e in lt-ltb (suc r) (suc n) (omega arith) ∙ sym e)
    (λ e. let h = ltb-false r n e in le-ltb (suc r) (suc n) (omega arith) ∙ sym e)

stray_next : (r : ℕ) (x : Bone) (xs : List Bone) → stray_at (suc r) (x ∷ xs) ≡ stray_at r xs
stray_next r x xs = rw (ltb_next r (length xs))

module _ (ps : List ℕ) (ls : List (List ℕ)) (ok : ℕ → Bool) where
  pub standing-lowest : (b : ℕ) (bs : List Bone) → ((i : ℕ) → i < b + length bs → ok i ≡ stands ps ls i) → standing ps ls b bs ≡ stray_at (lowest ok (length bs) b - b) bs
  unfolding standing if check
  standing-lowest b [] h = let q : lowest ok 0 b - b ≡ 0 = omega (arith, lowest-none ok b) in rw q
  standing-lowest b (x ∷ xs) h =
      by_bool (ok b)
      (λ e. let s = sym (h b (omega arith)) ∙ e in
      let i = standing-lowest (b + 1) xs (λ j k. h j (omega arith)) in
      let f = lowest-from ok (length xs) (b + 1) in
      let n = lowest-next ok (suc (length xs)) b (omega arith) e in
      let one : suc (length xs) - 1 ≡ length xs = omega arith in
      let m = rw one at n in
      let q : lowest ok (suc (length xs)) b - b ≡ suc (lowest ok (length xs) (b + 1) - (b + 1)) = omega arith in
      rw (s, q, stray_next (lowest ok (length xs) (b + 1) - (b + 1)) x xs) i)
      (λ e. let s = sym (h b (omega arith)) ∙ e in
      let m = lowest-here ok (suc (length xs)) b (omega arith) e in
      let q : lowest ok (suc (length xs)) b - b ≡ 0 = omega arith in
      let z = lt-ltb 0 (suc (length xs)) (omega arith) in
      rw (s, q, z))

-- 16 where `first_stray` finds a bone, at that bone's first byte
pub trees_stray : (bs : List Bone) (scores : List ℕ) → ParentsValid (map parent_of bs) → length bs ≤ NONE
    → ((b : ℕ) → b < length bs → get_or scores b 0 ≡ score b (get_or (map parent_of bs) b 0) 0 (map list_of bs))
    → trees bs ≡ stray_at (lowest (sound (map parent_of bs) scores) (length (map parent_of bs)) 0) bs
unfolding trees
trees_stray bs scores v few right =
    let ps = map parent_of bs in
    let ls = map list_of bs in
    let lp = length-map bs parent_of in
    let ll = length-map bs list_of in
    let z : lowest (sound ps scores) (length bs) 0 - 0 ≡ lowest (sound ps scores) (length ps) 0 = omega (arith, ap (λ (n : ℕ). lowest (sound ps scores) n 0) lp) in
    standing-lowest ps ls (sound ps scores) 0 bs (λ i h. sound-stands ps scores ls i v (ll ∙ sym lp) (omega arith) (omega arith) (right i (omega arith)))
    ∙ ap (λ (r : ℕ). stray_at r bs) z

-- ---- the pass over the lists

occurs-one : (b c : ℕ) (l : List ℕ) → occurs b (l ++ c ∷ []) ≡ occurs b l + if (eqb c b) 1 0
unfolding occurs
occurs-one b c [] = omega arith
occurs-one b c (x ∷ l) = omega (arith, occurs-one b c l)

score-one : (b p q : ℕ) (ls : List (List ℕ)) (l : List ℕ) → score b p q (ls ++ l ∷ []) ≡ score b p q ls + occurs b l * weight (q + length ls) p
unfolding score
score-one b p q [] l = let e : q + 0 ≡ q = omega arith in rw e (omega arith)
score-one b p q (x ∷ ls) l =
    let e : q + 1 + length ls ≡ q + suc (length ls) = omega arith in
    let i = rw e at (score-one b p (q + 1) ls l) in
    omega arith

module _ (ps : List ℕ) (ls : List (List ℕ)) (l scores : List ℕ) (c : ℕ) (h : c < length ps) (s : Scored ps ls l scores) where
  -- the scores with one more entry of the list
  abbrev noted : List ℕ
  noted = set scores c (get_or scores c 0 + weight (length ls) (get_or ps c 0))

  here : get_or noted c 0 ≡ score c (get_or ps c 0) 0 ls + occurs c (l ++ c ∷ []) * weight (length ls) (get_or ps c 0)
  unfolding if
  here =
      let long = s.long in
      let o = rw (eq-eqb c c refl) at (occurs-one c c l) in
      let m = add-mul (occurs c l) 1 (weight (length ls) (get_or ps c 0)) in
      get_or-set_same scores c (get_or scores c 0 + weight (length ls) (get_or ps c 0)) 0 (omega arith) ∙ rw (o, m) (omega (arith, s.each c h))

  there : (b : ℕ) → b < length ps → (c ≡ b → ⊥) → get_or noted b 0 ≡ score b (get_or ps b 0) 0 ls + occurs b (l ++ c ∷ []) * weight (length ls) (get_or ps b 0)
  unfolding if
  there b k e =
      let o = rw (ne_eqb c b e) at (occurs-one b c l) in
      let z : occurs b l + 0 ≡ occurs b l = omega arith in
      rw (get_or-set_other scores c b (get_or scores c 0 + weight (length ls) (get_or ps c 0)) 0 (λ f. e (sym f)), o, z) (s.each b k)

  pub scored_one : Scored ps ls (l ++ c ∷ []) (set scores c (get_or scores c 0 + weight (length ls) (get_or ps c 0)))
  scored_one = record {
    long = length-set scores c (get_or scores c 0 + weight (length ls) (get_or ps c 0)) ∙ s.long;
    each = λ b k. by-eq c b
        (λ e. subst (λ (z : ℕ). get_or noted z 0 ≡ score z (get_or ps z 0) 0 ls + occurs z (l ++ c ∷ []) * weight (length ls) (get_or ps z 0)) e here)
        (λ e. there b k e);
  }

-- the list is at its end
pub scored_next : (ps : List ℕ) (ls : List (List ℕ)) (l scores : List ℕ) → Scored ps ls l scores → Scored ps (ls ++ l ∷ []) [] scores
unfolding occurs
scored_next ps ls l scores s =
    record { long = s.long; each = λ b k. let e = score-one b (get_or ps b 0) 0 ls l in let f : 0 + length ls ≡ length ls = omega arith in let g = rw f at e in omega (arith, s.each b k) }
