-- The head of a file: what each step of `entry_count` says of it, and what a head that was read says of the file.
use Rattle.layout.specs.Refused.{refusal_at}
use Rattle.std.specs.Prelude.{Ok, Err, IfErr}
use Rattle.std.specs.Prelude as std
use Rattle.layout.specs.declared.Refusal.{Refusal}
use Prim.Native.Nat.{ℕ, ◌+◌, ◌*◌, ◌<◌, ◌≤◌}
use native.Mathlib.Omega.{arith}
use mathlib.Core.Bool.{Bool, true, false, ◌&&◌}
use mathlib.Core.Path.{◌≡◌, refl, ap, sym, ◌∙◌}
use mathlib.Core.List.{List, [], ◌∷◌}
use lib.ListN.{length, drop, get_or, length-replicate}
use lib.Seq.{take_all}
use lib.Dec.{T, leb, eqb, leb→le, eqb→eq}
use borrow.Author.Tests.{le-leb, lt-leb, eq-eqb, ne_eqb}
use Rattle.wire.specs.Bytes.{word_at}
use Rattle.wire.specs.Cursors.{Inside, left}
use Rattle.wire.proofs.LeftLaws.{span, left-length, left-drop}
use Rattle.layout.specs.Result.{Result, accept, reject, check, ◌>>=◌}
use Rattle.layout.specs.Parts.{Step, words_of, judged, row, number}
use Rattle.layout.specs.Rules.{any}
use Rattle.layout.proofs.ResultLaws.{bind_bind, bind_cong, by_got, by-check, got_inj}
use Rattle.layout.proofs.StepLaws.{length-words-of, word_of, row-enough, row-short, row_any, judged-any}
use Rattle.layout.specs.Rows.{size_fits}
use Rattle.layout.proofs.CountLaws.{row_got}
use Rattle.shared_ids.proofs.IdLaws.{word-at}
use Rattle.cal3d_header.specs.Heads.{head_numbers, read_head, opened_of}

head-length : (version more : ℕ) → length (head_numbers version more) ≡ 2 + more
head-length version more = let e = length-replicate more any in omega arith

-- two of the numbers are looked at
head-judged : {A : Type 0} (version more : ℕ) (ws : List ℕ) (a : A) → length ws ≡ 2 + more
    → judged (head_numbers version more) 4 ws a ≡ (check (eqb (get_or ws 0 0) version) 6 4 >>= λ _. check (leb (get_or ws 1 0) 2147483647) 6 8 >>= λ _. accept a)
unfolding judged
head-judged version more [] a l = absurd (omega arith)
head-judged version more (v ∷ []) a l = absurd (omega arith)
head-judged version more (v ∷ k ∷ ws) a l =
    bind_cong (check (eqb v version) 6 4) (λ _ _. bind_cong (check (leb k 2147483647) 6 8) (λ _ _. judged-any more 12 ws a))

left-whole : (s : List ℕ) → left (span 0 (length s)) s ≡ s
unfolding left
left-whole s = take_all (length s) s (omega arith)

-- the header's numbers
abbrev pub head_of : ℕ → List ℕ → List ℕ
head_of more s = words_of (2 + more) (left (span 4 (length s)) s)

-- a head that was read: so many entries
pub record HeadAt (s : List ℕ) (magic version more k : ℕ) : Type 0 where
  pub small : length s ≤ 16777216
  pub room : 12 + 4 * more ≤ length s
  pub is : read_head magic version more s ≡ accept (record { value = head_of more s; place = 12 + 4 * more; left = left (span (12 + 4 * more) (length s)) s })
  pub first : word_at s 4 ≡ version
  pub second : word_at s 8 ≡ k

module _ (magic version more : ℕ) (s : List ℕ) where
  pub head_short : length s < 12 → Err (refusal_at 1 0) ≡ opened_of (read_head magic version more s)
  unfolding read_head check
  head_short h = rw (lt-leb 12 (length s) h)

  module _ (lo : 12 ≤ length s) where
    pub head_long : 16777216 < length s → Err (refusal_at 1 0) ≡ opened_of (read_head magic version more s)
    unfolding read_head check
    head_long h = rw (le-leb 12 (length s) lo, lt-leb (length s) 16777216 h)

    module _ (hi : length s ≤ 16777216) (m : ℕ) (em : m ≡ word_at s 0) where
      first_word : row (any ∷ []) 0 s ≡ accept (record { value = words_of 1 s; place = 4; left = left (span 4 (length s)) s })
      first_word =
          let l : left (span 4 (length s)) s ≡ drop 4 s = left-drop s (span 0 (length s)) 4 (span 4 (length s)) refl refl ∙ ap (drop 4) (left-whole s) in
          rw l (row_any 1 0 s (omega arith))

      magic_is : get_or (words_of 1 s) 0 0 ≡ m
      unfolding word_at
      magic_is = word_of 1 0 s (omega arith) (omega arith) ∙ sym em

      pub head_magic : (m ≡ magic → ⊥) → Err (refusal_at 2 0) ≡ opened_of (read_head magic version more s)
      unfolding read_head check
      head_magic h = rw (le-leb 12 (length s) lo, le-leb (length s) 16777216 hi, first_word, magic_is, ne_eqb m magic h)

      module _ (hm : m ≡ magic) where
        behind : read_head magic version more s ≡ row (head_numbers version more) 4 (left (span 4 (length s)) s)
        unfolding read_head check
        behind = rw (le-leb 12 (length s) lo, le-leb (length s) 16777216 hi, first_word, magic_is, eq-eqb m magic hm)

        inside : Inside (span 4 (length s)) (length s)
        inside = record { before = omega arith; within = omega arith }

        pub head_cut : length s < 12 + 4 * more → Err (refusal_at 5 4) ≡ opened_of (read_head magic version more s)
        head_cut h =
            let l = head-length version more in
            rw (behind, row-short (head_numbers version more) 4 (left (span 4 (length s)) s) (omega (arith, left-length s (span 4 (length s)) inside)))

        module _ (room : 12 + 4 * more ≤ length s) (v : ℕ) (ev : v ≡ word_at s 4) where
          numbers : read_head magic version more s
              ≡ (check (eqb (word_at s 4) version) 6 4 >>= λ _. check (leb (word_at s 8) 2147483647) 6 8
              >>= λ _. accept (record { value = head_of more s; place = 12 + 4 * more; left = left (span (12 + 4 * more) (length s)) s }))
          numbers =
              let l = head-length version more in
              let n = 2 + more in
              let bytes = left (span 4 (length s)) s in
              let many : 4 * n ≤ length bytes = omega (arith, left-length s (span 4 (length s)) inside) in
              let p : 4 + 4 * n ≡ 12 + 4 * more = omega arith in
              let w₀ : word_at s 4 ≡ get_or (words_of n bytes) 0 0 = sym (word-at s (span 4 (length s)) n 0 inside (omega arith) (omega arith)) in
              let w₁ : word_at s 8 ≡ get_or (words_of n bytes) 1 0 = sym (word-at s (span 4 (length s)) n 1 inside (omega arith) (omega arith)) in
              rw (w₀, w₁, left-drop s (span 4 (length s)) (4 * n) (span (12 + 4 * more) (length s)) (sym p) refl, ← p)
              (behind ∙ rw l at (row-enough (head_numbers version more) 4 bytes (omega (arith, l)))
              ∙ head-judged version more (words_of n bytes) (record { value = words_of n bytes; place = 4 + 4 * n; left = drop (4 * n) bytes }) (length-words-of n bytes many))

          pub head_version : (v ≡ version → ⊥) → Err (refusal_at 6 4) ≡ opened_of (read_head magic version more s)
          unfolding check
          head_version h = let t : eqb (word_at s 4) version ≡ false = rw (← ev) (ne_eqb v version h) in rw (numbers, t)

          module _ (hv : v ≡ version) (k : ℕ) (ek : k ≡ word_at s 8) where
            right : eqb (word_at s 4) version ≡ true
            right = rw (← ev) (eq-eqb v version hv)

            pub head_over : 2147483647 < k → Err (refusal_at 6 8) ≡ opened_of (read_head magic version more s)
            unfolding check
            head_over h = let t : leb (word_at s 8) 2147483647 ≡ false = rw (← ek) (lt-leb k 2147483647 h) in rw (numbers, right, t)

            pub head_done : k ≤ 2147483647 → Ok k ≡ opened_of (read_head magic version more s)
            unfolding check
            head_done h =
                let t : leb (word_at s 8) 2147483647 ≡ true = rw (← ek) (le-leb k 2147483647 h) in
                let w : k ≡ get_or (head_of more s) 1 0 = ek ∙ sym (word-at s (span 4 (length s)) (2 + more) 1 inside (omega arith) (omega arith)) in
                rw (numbers, right, t) (ap (λ (j : ℕ). Ok j) w)

pub ruleset head = (head_short, head_long, head_magic, head_cut, head_version, head_over, head_done)

-- ---- a file by its head

-- what is read behind the header
pub head-then : {B : Type 0} (magic version more : ℕ) (s : List ℕ) (rest : Step (List ℕ) → Result B)
    → (check (size_fits (length s)) 1 0 >>= λ _. row (any ∷ []) 0 s >>= λ m. check (eqb (number m 0) magic) 2 0 >>= λ _. row (head_numbers version more) m.place m.left >>= rest)
    ≡ (read_head magic version more s >>= rest)
unfolding read_head
head-then magic version more s rest =
    let numbers : Step (List ℕ) → Result (Step (List ℕ)) = λ m. row (head_numbers version more) m.place m.left in
    sym (bind_bind (check (size_fits (length s)) 1 0) (λ _. row (any ∷ []) 0 s >>= λ m. check (eqb (number m 0) magic) 2 0 >>= λ _. numbers m) rest
    ∙ bind_cong (check (size_fits (length s)) 1 0) (λ _ _. bind_bind (row (any ∷ []) 0 s) (λ m. check (eqb (number m 0) magic) 2 0 >>= λ _. numbers m) rest
    ∙ bind_cong (row (any ∷ []) 0 s) (λ m _. bind_bind (check (eqb (number m 0) magic) 2 0) (λ _. numbers m) rest)))

-- ---- what an answer says

and_split : (a b : Bool) → T (a && b) → T a × T b
and_split true b t = (tt, t)
and_split false b t = absurd t

module _ (magic version more : ℕ) (s : List ℕ) (h : Step (List ℕ)) (e : read_head magic version more s ≡ accept h) where
  at_least : 12 ≤ length s → length s ≤ 16777216 → word_at s 0 ≡ magic → HeadAt s magic version more (number h 1)
  at_least lo hi hm =
      let i = inside magic version more s lo hi (word_at s 0) refl hm in
      let g = row_got (head_numbers version more) 4 (left (span 4 (length s)) s) h (sym (behind magic version more s lo hi (word_at s 0) refl hm) ∙ e) in
      let room : 12 + 4 * more ≤ length s = omega (arith, g.1, head-length version more, left-length s (span 4 (length s)) i) in
      by-check (eqb (word_at s 4) version) 6 4 _ (sym (numbers magic version more s lo hi (word_at s 0) refl hm room (word_at s 4) refl) ∙ e) (λ a e₁.
      by-check (leb (word_at s 8) 2147483647) 6 8 _ e₁ (λ b e₂.
      let q = got_inj e₂ in
      record {
        small = hi;
        room = room;
        is = e ∙ ap (λ (z : Step (List ℕ)). accept z) (sym q);
        first = eqb→eq (word_at s 4) version a;
        second = sym (word-at s (span 4 (length s)) (2 + more) 1 i (omega arith) (omega arith)) ∙ ap (λ (z : Step (List ℕ)). number z 1) q;
      }))

  pub head_at : HeadAt s magic version more (number h 1)
  unfolding read_head
  head_at =
      by-check (size_fits (length s)) 1 0 _ e (λ size e₁.
      let lo = leb→le 12 (length s) (and_split (leb 12 (length s)) (leb (length s) 16777216) size).0 in
      let hi = leb→le (length s) 16777216 (and_split (leb 12 (length s)) (leb (length s) 16777216) size).1 in
      by_got (row (any ∷ []) 0 s) _ e₁ (λ m em e₂.
      by-check (eqb (number m 0) magic) 2 0 _ e₂ (λ t _.
      let v = row_got (any ∷ []) 0 s m em in
      let w : number m 0 ≡ word_at s 0 = ap (λ (ws : List ℕ). get_or ws 0 0) v.0 ∙ magic_is magic version more s lo hi (word_at s 0) refl in
      at_least lo hi (sym w ∙ eqb→eq (number m 0) magic t))))

opened_got : (o : Result (Step (List ℕ))) (k : ℕ) → Ok k ≡ opened_of o → (h : Step (List ℕ)) × (o ≡ accept h) × (number h 1 ≡ k)
opened_got (accept h) k q = (h, refl, cc)
opened_got (reject n p) k q = let z : ◌≡◌ {A = ℕ} 0 1 = cc in absurd (omega arith)

pub opened-bad : (o : Result (Step (List ℕ))) (e : Refusal) → Err e ≡ opened_of o → o ≡ reject e.number e.place
opened-bad (accept h) e q = let z : ◌≡◌ {A = ℕ} 0 1 = cc in absurd (omega arith)
opened-bad (reject n m) e q = let a : n ≡ e.number = cc in let b : m ≡ e.place = cc in rw (a, b)

pub opened-at : (magic version more : ℕ) (s : List ℕ) (k : ℕ) → Ok k ≡ opened_of (read_head magic version more s) → HeadAt s magic version more k
opened-at magic version more s k q =
    let g = opened_got (read_head magic version more s) k q in
    rw g.2 at (head_at magic version more s g.0 g.1)

-- the place of a refusal
pub place-fits : {A : Type 0} (r : std.Result A Refusal) → IfErr r (λ e. e.place < 4294967296) → (e : Refusal) → r ≡ Err e → e.place < 4294967296
place-fits r h e w = rw w at h
