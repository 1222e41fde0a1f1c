-- Bone q's list, entry by entry: what each turn of `note_list` leaves to do, and what the scores tell in the end.
use Prim.Native.Nat.{ℕ, suc, ◌+◌, ◌-◌, ◌*◌, ◌<◌, ◌≤◌}
use native.Mathlib.Omega.{arith}
use mathlib.Core.Bool.{Bool, true, false}
use mathlib.Core.Path.{◌≡◌, refl, sym, ◌∙◌}
use mathlib.Core.List.{List, [], ◌∷◌, ◌++◌, append-nil, append_assoc}
use lib.ListN.{length, drop, get_or, set, length-set}
use lib.Seq.{get_or-set_same, get_or-set_other, drop-cons, set_out}
use lib.Dec.{eqb, ltb, ltb→lt, nltb→le}
use Rattle.layout.proofs.ResultLaws.{by_test}
use Rattle.wire.specs.Test.{if}
use Rattle.wire.specs.Bytes.{word_at}
use Rattle.layout.specs.Parts.{words_of}
use Rattle.layout.proofs.AllLaws.{All}
use Rattle.cal3d_skeleton_tree_check.specs.Scores.{weight, noted, Low, ChildIds, Scored}
use Rattle.cal3d_skeleton_tree_check.proofs.EndLaws.{by-eq}
use Rattle.cal3d_skeleton_tree_scores.proofs.ScoreLaws.{scored_one}

weight-few : (q p : ℕ) → weight q p ≤ 2
unfolding weight if
weight-few q p = go (eqb p q)
  where
    go : (t : Bool) → if t 1 2 ≤ 2
    go true = omega arith
    go false = omega arith

by-lt : {P : Type 0} (a b : ℕ) → (a < b → P) → (b ≤ a → P) → P
by-lt a b f g = by_test (ltb a b) (λ t. f (ltb→lt a b t)) (λ t. g (nltb→le a b t))

-- one more word of those that stand at a place
word_first : (s : List ℕ) (at n : ℕ) → at + 4 ≤ length s → words_of (suc n) (drop at s) ≡ word_at s at ∷ words_of n (drop (at + 4) s)
unfolding word_at
word_first s at n h =
    let a = drop-cons s at 0 (omega arith) in
    let b = drop-cons s (suc at) 0 (omega arith) in
    let c = drop-cons s (suc (suc at)) 0 (omega arith) in
    let d = drop-cons s (suc (suc (suc at))) 0 (omega arith) in
    let e₁ : at + 1 ≡ suc at = omega arith in
    let e₂ : at + 2 ≡ suc (suc at) = omega arith in
    let e₃ : at + 3 ≡ suc (suc (suc at)) = omega arith in
    let e₄ : at + 4 ≡ suc (suc (suc (suc at))) = omega arith in
    rw (e₁, e₂, e₃, e₄, a, b, c, d)

-- the entries before i are noted
pub record Noting (s : List ℕ) (at count q : ℕ) (ps : List ℕ) (entries : ℕ) (scores₀ : List ℕ) (i : ℕ) (scores : List ℕ) : Type 0 where
  pub upto : i ≤ count
  pub long : length scores ≡ length scores₀
  pub low : Low (entries + i) scores
  pub rest : noted ps q scores (words_of (count - i) (drop (at + 4 * i) s)) ≡ noted ps q scores₀ (words_of count (drop at s))

module _ (s : List ℕ) (at count q : ℕ) (ps : List ℕ) (entries : ℕ) (scores₀ : List ℕ) where
  pub noting_none : Low entries scores₀ → Noting s at count q ps entries scores₀ 0 scores₀
  noting_none l =
      let a : at + 4 * 0 ≡ at = omega arith in
      let b : count - 0 ≡ count = omega arith in
      let e : entries + 0 ≡ entries = omega arith in
      record { upto = omega arith; long = refl; low = rw e l; rest = rw (a, b) }

  module _ (i : ℕ) (scores : List ℕ) (n : Noting s at count q ps entries scores₀ i scores) where
    pub noting_done : count ≤ i → scores ≡ noted ps q scores₀ (words_of count (drop at s))
    unfolding noted
    noting_done h = let e : count - i ≡ 0 = omega arith in rw e at n.rest

    pub noting_few : count ≤ i → Low (entries + count) scores
    noting_few h = let u = n.upto in let e : i ≡ count = omega arith in rw e at n.low

    module _ (h : i < count) (room : at + 4 * count ≤ length s) (c x : ℕ) (ec : c ≡ x) (ex : x ≡ word_at s (at + 4 * i)) where
      pub noting_low : entries + count ≤ 1000000000 → get_or scores c 0 < 4294967294
      noting_low m = let l = n.low.low c in omega arith

      pub noting_bone : ChildIds s at count (length ps) → c < length ps
      noting_bone l = rw (ec, ex) (l.bone i h)

      pub noting_one : (new : List ℕ) → new ≡ set scores c (get_or scores c 0 + weight q (get_or ps c 0)) → Noting s at count q ps entries scores₀ (i + 1) new
      unfolding noted
      noting_one new e =
          let m : count - i ≡ suc (count - (i + 1)) = omega arith in
          let p : at + 4 * i + 4 ≡ at + 4 * (i + 1) = omega arith in
          let w : word_at s (at + 4 * i) ≡ c = sym (ec ∙ ex) in
          let f = word_first s (at + 4 * i) (count - (i + 1)) (omega arith) in
          rw e (record {
            upto = omega arith;
            long = length-set scores c (get_or scores c 0 + weight q (get_or ps c 0)) ∙ n.long;
            low = record { low = λ j. by-eq j c (λ z. low_here j z) (λ z. low_there j z) };
            rest = rw (m, f, w, p) at n.rest;
          })
        where
          low_here : (j : ℕ) → j ≡ c → get_or (set scores c (get_or scores c 0 + weight q (get_or ps c 0))) j 0 ≤ 2 * (entries + (i + 1))
          low_here j z =
              by-lt c (length scores)
              (λ k. let a = get_or-set_same scores c (get_or scores c 0 + weight q (get_or ps c 0)) 0 k in
              let l = n.low.low c in let v = weight-few q (get_or ps c 0) in rw (z, a) (omega arith))
              (λ k. let a = set_out scores c (get_or scores c 0 + weight q (get_or ps c 0)) k in let l = n.low.low j in rw a (omega arith))

          low_there : (j : ℕ) → (j ≡ c → ⊥) → get_or (set scores c (get_or scores c 0 + weight q (get_or ps c 0))) j 0 ≤ 2 * (entries + (i + 1))
          low_there j z = let a = get_or-set_other scores c j (get_or scores c 0 + weight q (get_or ps c 0)) 0 z in let l = n.low.low j in rw a (omega arith)

pub ruleset noting = (noting_none, noting_done, noting_few, noting_low, noting_bone, noting_one)

-- what the scores tell after a list
pub noted_scored : (ps : List ℕ) (ls : List (List ℕ)) (before l scores : List ℕ) → All (λ (c : ℕ). c < length ps) l → Scored ps ls before scores → Scored ps ls (before ++ l) (noted ps (length ls) scores l)
unfolding noted
noted_scored ps ls before [] scores h s = rw (append-nil before) s
noted_scored ps ls before (c ∷ l) scores h s =
    rw (sym (append_assoc before (c ∷ []) l)) (noted_scored ps ls (before ++ c ∷ []) l (set scores c (get_or scores c 0 + weight (length ls) (get_or ps c 0))) h.1 (scored_one ps ls before scores c h.0 s))
