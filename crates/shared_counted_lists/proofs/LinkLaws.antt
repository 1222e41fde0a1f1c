-- A row with an id or NONE and a count: what each step of `link_row` says of it.
use Rattle.layout.specs.Refused.{refusal_at}
use Rattle.std.specs.Prelude.{Ok, Err}
use Prim.Native.Nat.{ℕ, suc, ◌+◌, ◌-◌, ◌*◌, ◌<◌, ◌≤◌}
use native.Mathlib.Omega.{arith}
use mathlib.Core.Bool.{Bool, true, false, not}
use mathlib.Core.Path.{◌≡◌, refl, ap, sym, ◌∙◌}
use mathlib.Core.List.{List, [], ◌∷◌, ◌++◌}
use lib.ListN.{length, drop, get_or, replicate, length-drop, length-append, length-replicate}
use lib.Seq.{get_or-drop}
use borrow.Author.Tests.{le-leb, lt-leb, not-true, not-false}
use Rattle.wire.specs.Bytes.{word_at}
use Rattle.wire.specs.Cursors.{Inside, left}
use Rattle.wire.specs.declared.Cursor.{Cursor}
use Rattle.wire.proofs.LeftLaws.{left-length}
use Rattle.layout.specs.Result.{accept, check, ◌>>=◌}
use Rattle.layout.specs.Parts.{words_of, judged, row}
use Rattle.layout.specs.Rules.{any, names_or_none, count, holds}
use Rattle.layout.proofs.ResultLaws.{bind_cong}
use Rattle.layout.proofs.StepLaws.{length-words-of, row-enough, row-short}
use Rattle.layout.proofs.CountLaws.{judged-one}
use Rattle.shared_ids.specs.Ids.{link_row}
use Rattle.shared_counted_lists.specs.Runs.{Runs}
use Rattle.shared_ids.proofs.IdLaws.{word-at}

link_length : (front between limit : ℕ) → length (link_row front between limit) ≡ front + between + 2
link_length front between limit = simp (length-append, length-replicate) (omega arith)

-- two of the words are looked at
pub link_judged : {A : Type 0} (front between limit p : ℕ) (ws : List ℕ) (a : A) → length ws ≡ front + between + 2
    → judged (link_row front between limit) p ws a
    ≡ (check (holds (names_or_none limit) (get_or ws front 0)) 7 (p + 4 * front) >>= λ _. check (holds count (get_or ws (suc front + between) 0)) 6 (p + 4 * front + 4 + 4 * between) >>= λ _. accept a)
unfolding judged
link_judged front between limit p ws a l =
    let d = length-drop (suc front) ws in
    let g = get_or-drop (suc front) ws between 0 in
    let last : judged (replicate between any ++ (count ∷ [])) (p + 4 * front + 4) (drop (suc front) ws) a ≡ (check (holds count (get_or ws (suc front + between) 0)) 6 (p + 4 * front + 4 + 4 * between) >>= λ _. accept a) = judged-one between count [] (p + 4 * front + 4) (drop (suc front) ws) a (omega arith) ∙ rw g in
    judged-one front (names_or_none limit) (replicate between any ++ (count ∷ [])) p ws a (omega arith)
    ∙ bind_cong (check (holds (names_or_none limit) (get_or ws front 0)) 7 (p + 4 * front)) (λ _ _. last)

module _ (s : List ℕ) (c : Cursor) (front between limit : ℕ) (inside : Inside c (length s)) where
  pub link_cut : c.end - c.at < 4 * (front + between + 2) → Runs (row (link_row front between limit) c.at (left c s)) c (4 * (front + between + 2)) (Err (refusal_at 5 c.at))
  link_cut h =
      let l = link_length front between limit in
      record { is = rw (row-short (link_row front between limit) c.at (left c s) (omega (arith, left-length s c inside))); passes = inside.before }

  module _ (room : 4 * (front + between + 2) ≤ c.end - c.at) where
    words : row (link_row front between limit) c.at (left c s)
        ≡ (check (holds (names_or_none limit) (word_at s (c.at + 4 * front))) 7 (c.at + 4 * front)
        >>= λ _. check (holds count (word_at s (c.at + 4 * front + 4 + 4 * between))) 6 (c.at + 4 * front + 4 + 4 * between)
        >>= λ _. accept (record { value = words_of (front + between + 2) (left c s); place = c.at + 4 * (front + between + 2); left = drop (4 * (front + between + 2)) (left c s) }))
    words =
        let n = front + between + 2 in
        let l = link_length front between limit in
        let many : 4 * n ≤ length (left c s) = omega (arith, left-length s c inside) in
        let ws = words_of n (left c s) in
        let p : c.at + 4 * (suc front + between) ≡ c.at + 4 * front + 4 + 4 * between = omega arith in
        let q : word_at s (c.at + 4 * front + 4 + 4 * between) ≡ get_or ws (suc front + between) 0 = ap (word_at s) (sym p) ∙ sym (word-at s c n (suc front + between) inside (omega arith) (omega arith)) in
        rw (q, ← word-at s c n front inside (omega arith) (omega arith))
        (rw l at (row-enough (link_row front between limit) c.at (left c s) (omega (arith, l)))
        ∙ link_judged front between limit c.at ws (record { value = ws; place = c.at + 4 * n; left = drop (4 * n) (left c s) }) (length-words-of n (left c s) many))

    module _ (id : ℕ) (e : id ≡ word_at s (c.at + 4 * front)) (ok : Bool) (f : ok ≡ holds (names_or_none limit) id) where
      pub link_unnamed : not ok ≡ true → Runs (row (link_row front between limit) c.at (left c s)) c (4 * (front + between + 2)) (Err (refusal_at 7 (c.at + 4 * front)))
      unfolding check
      link_unnamed h =
          let g : holds (names_or_none limit) (word_at s (c.at + 4 * front)) ≡ false = rw (← e) (sym f ∙ not-true ok h) in
          record { is = rw (words, g); passes = omega arith }

      module _ (h : not ok ≡ false) (last : ℕ) (q : last ≡ word_at s (c.at + 4 * front + 4 + 4 * between)) where
        good : holds (names_or_none limit) (word_at s (c.at + 4 * front)) ≡ true
        good = rw (← e) (sym f ∙ not-false ok h)

        pub link_over : 2147483647 < last → Runs (row (link_row front between limit) c.at (left c s)) c (4 * (front + between + 2)) (Err (refusal_at 6 (c.at + 4 * front + 4 + 4 * between)))
        unfolding check
        link_over k =
            let g : holds count (word_at s (c.at + 4 * front + 4 + 4 * between)) ≡ false = rw (← q) (lt-leb last 2147483647 k) in
            record { is = rw (words, good, g); passes = omega arith }

        pub link_good : last ≤ 2147483647 → Runs (row (link_row front between limit) c.at (left c s)) c (4 * (front + between + 2)) (Ok (record { at = c.at + 4 * (front + between + 2); end = c.end }))
        unfolding check
        link_good k =
            let g : holds count (word_at s (c.at + 4 * front + 4 + 4 * between)) ≡ true = rw (← q) (le-leb last 2147483647 k) in
            record { is = rw (words, good, g); passes = (omega arith, omega arith, refl) }

pub ruleset links = (link_cut, link_unnamed, link_over, link_good)
