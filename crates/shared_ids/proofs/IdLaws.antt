-- Ids: the answers of `id_valid` and `first_invalid`, and what they say of a row's rules.
use Prim.Native.Nat.{ℕ, zero, suc, ◌+◌, ◌*◌, ◌<◌, ◌≤◌}
use native.Mathlib.Omega.{arith}
use mathlib.Core.Bool.{Bool, true, false, not, ◌||◌}
use mathlib.Core.Path.{◌≡◌, refl, sym, ap, ◌∙◌}
use mathlib.Core.List.{List, [], ◌∷◌, ◌++◌, append-nil}
use lib.ListN.{length, drop, get_or, replicate}
use lib.Seq.{get_or-drop, get_or-take}
use lib.Dec.{ltb, eqb, ltb→lt, nltb→le}
use borrow.Author.Count.{below_none, below_more}
use borrow.Author.Tests.{lt-ltb, le-ltb, le-leb, lt-leb, not-true, not-false}
use Rattle.wire.specs.Test.{if}
use Rattle.wire.specs.Bytes.{word_at}
use Rattle.wire.specs.Cursors.{Inside, left}
use Rattle.wire.specs.declared.Cursor.{Cursor}
use Rattle.wire.proofs.AnswerLaws.{left-length, left-drop}
use Rattle.layout.specs.Result.{accept, reject, check}
use Rattle.layout.specs.Parts.{words_of, judged}
use Rattle.layout.specs.Rules.{NONE, Rule, any, names, count, holds, refusal}
use Rattle.layout.proofs.ResultLaws.{by_test}
use Rattle.layout.proofs.StepLaws.{word_of, length-words-of, judged-any, words-add}
use Rattle.shared_ids.specs.Ids.{id_rule, first_bad, id_row}

or_true : (a b : Bool) → b ≡ true → (a || b) ≡ true
or_true true b e = refl
or_true false b e = e

or_false : (a b : Bool) → b ≡ false → (a || b) ≡ a
or_false true b e = refl
or_false false b e = e

by-true : (b : Bool) {P : Type 0} → (b ≡ true → P) → (b ≡ false → P) → P
by-true true f g = f refl
by-true false f g = g refl

-- ---- an id by its number

module _ (limit id y : ℕ) (e : y ≡ id) where
  pub id_below : y < limit → (absent : Bool) → true ≡ holds (id_rule absent limit) id
  id_below h true = sym (or_true (eqb id NONE) (ltb id limit) (lt-ltb id limit (rw e at h)))
  id_below h false = sym (lt-ltb id limit (rw e at h))

  module _ (h : limit ≤ y) where
    pub id_absent : (absent : Bool) → absent ≡ true → (r : Bool) → r ≡ eqb id NONE → r ≡ holds (id_rule absent limit) id
    id_absent true a r q = q ∙ sym (or_false (eqb id NONE) (ltb id limit) (le-ltb id limit (rw e at h)))
    id_absent false a r q = let z : ◌≡◌ {A = ℕ} 0 1 = cc in absurd (omega arith)

    pub id-past : (absent : Bool) → absent ≡ false → false ≡ holds (id_rule absent limit) id
    id-past true a = let z : ◌≡◌ {A = ℕ} 0 1 = cc in absurd (omega arith)
    id-past false a = sym (le-ltb id limit (rw e at h))

pub ruleset id_laws = (id_below, id_absent, id-past)

-- ---- the first word of a list that does not keep a rule

module _ (r : Rule) where
  bad-at : (ws : List ℕ) (i : ℕ) → i < length ws → ((k : ℕ) → k < i → holds r (get_or ws k 0) ≡ true) → holds r (get_or ws i 0) ≡ false → i ≡ first_bad r ws
  unfolding first_bad if
  bad-at [] i h b l = absurd (omega arith)
  bad-at (w ∷ ws) zero h b l = rw l
  bad-at (w ∷ ws) (suc i) h b l = rw (b 0 (omega arith)) (ap suc (bad-at ws i (omega arith) (λ k q. b (suc k) (omega arith)) l))

  no-bad : (ws : List ℕ) → ((k : ℕ) → k < length ws → holds r (get_or ws k 0) ≡ true) → length ws ≡ first_bad r ws
  unfolding first_bad if
  no-bad [] b = refl
  no-bad (w ∷ ws) b = rw (b 0 (omega arith)) (ap suc (no-bad ws (λ k q. b (suc k) (omega arith))))

-- ---- the loop

-- the words before i keep the rule
pub record Before (s : List ℕ) (start : ℕ) (r : Rule) (i : ℕ) : Type 0 where
  pub kept : (k : ℕ) → k < i → holds r (word_at s (start + 4 * k)) ≡ true

module _ (s : List ℕ) (c : Cursor) where
  byte_at : (j p : ℕ) → p ≡ c.at + j → p < c.end → get_or (left c s) j 0 ≡ get_or s p 0
  unfolding left
  byte_at j p e h = rw (get_or-drop, ← e, get_or-take c.end s p 0 h)

  -- a word of those that a cursor has left, by its place in the bytes
  pub word-at : (n i : ℕ) → Inside c (length s) → c.at + 4 * n ≤ c.end → i < n → get_or (words_of n (left c s)) i 0 ≡ word_at s (c.at + 4 * i)
  unfolding word_at
  word-at n i h r k =
      rw (
        word_of n i (left c s) k (omega (arith, left-length s c h)),
        byte_at (4 * i) (c.at + 4 * i) (omega arith) (omega arith),
        byte_at (4 * i + 1) (c.at + 4 * i + 1) (omega arith) (omega arith),
        byte_at (4 * i + 2) (c.at + 4 * i + 2) (omega arith) (omega arith),
        byte_at (4 * i + 3) (c.at + 4 * i + 3) (omega arith) (omega arith),
      )

module _ (s : List ℕ) (r : Rule) where
  pub before_start : (start : ℕ) → Before s start r 0
  before_start start = record { kept = below_none _ }

  module _ (start i : ℕ) (b : Before s start r i) (ok : Bool) (y : ℕ) (e : ok ≡ holds r y) (f : y ≡ word_at s (start + 4 * i)) where
    pub before_next : not ok ≡ false → Before s start r (i + 1)
    before_next h = record { kept = below_more _ i b.kept (ap (holds r) (sym f) ∙ sym e ∙ not-false ok h) }

  module _ (c : Cursor) (n i : ℕ) (inside : Inside c (length s)) (room : c.at + 4 * n ≤ c.end) (b : Before s c.at r i) where
    long : length (words_of n (left c s)) ≡ n
    long = length-words-of n (left c s) (omega (arith, left-length s c inside))

    pub bad_here : i < n → (ok : Bool) (y : ℕ) → ok ≡ holds r y → y ≡ word_at s (c.at + 4 * i) → not ok ≡ true → i ≡ first_bad r (words_of n (left c s))
    bad_here h ok y e f l =
        bad-at r (words_of n (left c s)) i (omega (arith, long)) (λ k q. rw (word-at s c n k inside room (omega arith)) (b.kept k q))
        (rw (word-at s c n i inside room h, ← f, ← e) (not-true ok l))

    pub bad_nowhere : n ≤ i → i ≤ n → i ≡ first_bad r (words_of n (left c s))
    bad_nowhere h k =
        let e : i ≡ length (words_of n (left c s)) = omega (arith, long) in
        e ∙ no-bad r (words_of n (left c s)) (λ j q. rw (word-at s c n j inside room (omega (arith, long))) (b.kept j (omega arith)))

pub ruleset firsts = (before_start, before_next, bad_here, bad_nowhere)

-- ---- rows of ids

-- words that are not looked at, before other rules
pub any-pass : {A : Type 0} (k p : ℕ) (vs ws : List ℕ) (rs : List Rule) (a : A) → length vs ≡ k → judged (replicate k any ++ rs) p (vs ++ ws) a ≡ judged rs (p + 4 * k) ws a
unfolding judged check
any-pass zero p [] ws rs a l = let q : p ≡ p + 4 * 0 = omega arith in ap (λ (z : ℕ). judged rs z ws a) q
any-pass zero p (v ∷ vs) ws rs a l = absurd (omega arith)
any-pass (suc k) p [] ws rs a l = absurd (omega arith)
any-pass (suc k) p (v ∷ vs) ws rs a l =
    let q : p + 4 + 4 * k ≡ p + 4 * suc k = omega arith in
    rw (← q) (any-pass k (p + 4) vs ws rs a (omega arith))

module _ {A : Type 0} (r : Rule) where
  -- words of one rule before others: all of them keep it
  pub ids-pass : (n p : ℕ) (ws vs : List ℕ) (rs : List Rule) (a : A) → length ws ≡ n → first_bad r ws ≡ n
      → judged (replicate n r ++ rs) p (ws ++ vs) a ≡ judged rs (p + 4 * n) vs a
  unfolding judged check first_bad if
  ids-pass zero p [] vs rs a l e = let q : p ≡ p + 4 * 0 = omega arith in ap (λ (z : ℕ). judged rs z vs a) q
  ids-pass zero p (w ∷ ws) vs rs a l e = absurd (omega arith)
  ids-pass (suc n) p [] vs rs a l e = absurd (omega arith)
  ids-pass (suc n) p (w ∷ ws) vs rs a l e =
      by-true (holds r w)
      (λ h. let f = rw h at e in
      let q : p + 4 + 4 * n ≡ p + 4 * suc n = omega arith in
      rw (h, ← q) (ids-pass n (p + 4) ws vs rs a (omega arith) (omega arith)))
      (λ h. let f = rw h at e in absurd (omega arith))

  -- one of them does not
  pub ids-stop : (n p : ℕ) (ws vs : List ℕ) (rs : List Rule) (a : A) → length ws ≡ n → first_bad r ws < n
      → judged (replicate n r ++ rs) p (ws ++ vs) a ≡ reject (refusal r) (p + 4 * first_bad r ws)
  unfolding judged check first_bad if
  ids-stop zero p ws vs rs a l e = absurd (omega arith)
  ids-stop (suc n) p [] vs rs a l e = absurd (omega arith)
  ids-stop (suc n) p (w ∷ ws) vs rs a l e =
      by-true (holds r w)
      (λ h. let f = rw h at e in
      let q : p + 4 + 4 * first_bad r ws ≡ p + 4 * suc (first_bad r ws) = omega arith in
      rw (h, ← q) (ids-stop n (p + 4) ws vs rs a (omega arith) (omega arith)))
      (λ h. let q : p ≡ p + 4 * 0 = omega arith in
      rw h (ap (reject (refusal r)) q))

  module _ (n p : ℕ) (ws : List ℕ) (a : A) (l : length ws ≡ n) where
    pub ids-good : first_bad r ws ≡ n → judged (replicate n r) p ws a ≡ accept a
    unfolding judged
    ids-good e = simp append-nil at (ids-pass n p ws [] [] a l e)

    pub ids-bad : first_bad r ws < n → judged (replicate n r) p ws a ≡ reject (refusal r) (p + 4 * first_bad r ws)
    ids-bad e = simp append-nil at (ids-stop n p ws [] [] a l e)

-- ids, and then words that are not looked at
module _ {A : Type 0} (m n k p : ℕ) (l : List ℕ) (a : A) (h : 4 * n ≤ length l) where
  pub row-good : first_bad (names m) (words_of n l) ≡ n → judged (id_row n k m) p (words_of (n + k) l) a ≡ accept a
  row-good e = rw (words-add n k l h, ids-pass (names m) n p (words_of n l) (words_of k (drop (4 * n) l)) (replicate k any) a (length-words-of n l h) e) (judged-any k (p + 4 * n) (words_of k (drop (4 * n) l)) a)

  pub row-bad : first_bad (names m) (words_of n l) < n → judged (id_row n k m) p (words_of (n + k) l) a ≡ reject 7 (p + 4 * first_bad (names m) (words_of n l))
  row-bad e = rw (words-add n k l h) (ids-stop (names m) n p (words_of n l) (words_of k (drop (4 * n) l)) (replicate k any) a (length-words-of n l h) e)

-- words at w that are not looked at, and then ids, at d; g is the answer of `first_invalid` there
module _
    {A : Type 0} (s : List ℕ) (w d : Cursor) (r : Rule) (k n : ℕ) (a : A) (i : Inside w (length s)) (room : w.at + 4 * (k + n) ≤ w.end)
    (to : d.at ≡ w.at + 4 * k) (same : d.end ≡ w.end) (g : ℕ) (e : g ≡ first_bad r (words_of n (left d s))) where
  after : judged (replicate k any ++ replicate n r) w.at (words_of (k + n) (left w s)) a ≡ judged (replicate n r) d.at (words_of n (left d s)) a
  after =
      let h : 4 * k ≤ length (left w s) = omega (arith, left-length s w i) in
      rw (left-drop s w (4 * k) d to same, to, words-add k n (left w s) h) (any-pass k w.at (words_of k (left w s)) (words_of n (drop (4 * k) (left w s))) (replicate n r) a (length-words-of k (left w s) h))

  long-ids : length (words_of n (left d s)) ≡ n
  long-ids = length-words-of n (left d s) (omega (arith, left-length s d (omega arith)))

  pub after-good : n ≤ g → g ≤ n → judged (replicate k any ++ replicate n r) w.at (words_of (k + n) (left w s)) a ≡ accept a
  after-good h q = after ∙ ids-good r n d.at (words_of n (left d s)) a long-ids (omega arith)

  pub after-bad : g < n → judged (replicate k any ++ replicate n r) w.at (words_of (k + n) (left w s)) a ≡ reject (refusal r) (d.at + 4 * g)
  after-bad h = rw e (after ∙ ids-bad r n d.at (words_of n (left d s)) a long-ids (omega arith))

-- a count is an id below a limit
count-limit : (w : ℕ) → holds count w ≡ ltb w 2147483648
count-limit w = by_test (ltb w 2147483648) (λ t. let h = ltb→lt w 2147483648 t in rw (lt-ltb w 2147483648 h, le-leb w 2147483647 (omega arith))) (λ t. let h = nltb→le w 2147483648 t in rw (le-ltb w 2147483648 h, lt-leb w 2147483647 (omega arith)))

pub first_count : (ws : List ℕ) → first_bad (names 2147483648) ws ≡ first_bad count ws
unfolding first_bad
first_count [] = refl
first_count (w ∷ ws) = rw (count-limit w, first_count ws)
