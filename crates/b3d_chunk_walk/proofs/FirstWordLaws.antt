-- The first number of a body: a law for each way through `first_word`.
use mathlib.Core.Path.{◌≡◌, refl, ap, sym, ◌∙◌}
use Prim.Native.Nat.{ℕ, zero, suc, ◌+◌, ◌-◌, ◌<◌, ◌≤◌}
use native.Mathlib.Omega.{arith}
use mathlib.Core.List.{List, [], ◌∷◌}
use lib.ListN.{length, drop, get_or, drop_of_length-le}
use lib.Seq.{drop-drop}
use Rattle.wire.specs.Bytes.{word_at}
use Rattle.wire.specs.Cursors.{Inside, left}
use Rattle.wire.specs.declared.Cursor.{Cursor}
use Rattle.wire.proofs.LeftLaws.{span, left-length, left-four, left-drop, left-nil}
use Rattle.layout.specs.Parts.{words_of}
use Rattle.layout.proofs.ChunkLaws.{split-none}
use Rattle.b3d_spec.specs.Tags.{split, tag_of}
use Rattle.b3d_spec_plain_rows.specs.Plain.{named_in, named_items}
use Rattle.b3d_chunk_walk.specs.Seeks.{FirstWord, ThreeWords}
use Rattle.b3d_chunk_walk.specs.declared.Headed.{Headed}
use Rattle.b3d_chunk_walk.specs.declared.Three.{Three}

short-words : (n : ℕ) (l : List ℕ) → length l < 4 → words_of (suc n) l ≡ []
short-words n [] h = refl
short-words n (a ∷ []) h = refl
short-words n (a ∷ b ∷ []) h = refl
short-words n (a ∷ b ∷ c ∷ []) h = refl
short-words n (a ∷ b ∷ c ∷ d ∷ l) h = absurd (omega arith)

no_items : (n p : ℕ) → named_items n p [] ≡ []
unfolding named_items named_in
no_items n p = refl

module _ (s : List ℕ) (b : Cursor) (i : Inside b (length s)) where
  pub head_short : b.end - b.at < 4 → (r : Headed) → r ≡ record { word = 0; rest = span b.end b.end } → FirstWord s b r
  head_short h r e =
      let l = left-length s b i in
      let z : drop 4 (left b s) ≡ [] = drop_of_length-le (left b s) {i = 4} (omega arith) in
      let y : left (span b.end b.end) s ≡ [] = left-nil s (span b.end b.end) (omega arith) in
      let w : words_of 1 (left b s) ≡ [] = short-words 0 (left b s) (omega arith) in
      rw e
      (record {
        number = rw w;
        after = y ∙ sym z;
        inside = record { before = omega arith; within = i.within };
        onward = omega (arith, i.before);
        to_end = refl;
        chunks = ap (split b.end) y ∙ split-none tag_of b.end ∙ sym (split-none tag_of (b.at + 4)) ∙ ap (split (b.at + 4)) (sym z);
        items = λ n. ap (named_items n b.end) y ∙ no_items n b.end ∙ sym (no_items n (b.at + 4)) ∙ ap (named_items n (b.at + 4)) (sym z);
      })

  pub head-whole : 4 ≤ b.end - b.at → (n : ℕ) → n ≡ word_at s b.at → (r : Headed) → r ≡ record { word = n; rest = span (b.at + 4) b.end } → FirstWord s b r
  unfolding word_at
  head-whole h n en r e =
      let d = left-drop s b 4 (span (b.at + 4) b.end) refl refl in
      rw e
      (record {
        number = rw (left-four s b (span (b.at + 4) b.end) i (omega arith) refl refl) en;
        after = d;
        inside = record { before = omega arith; within = i.within };
        onward = omega (arith, i.before);
        to_end = refl;
        chunks = ap (split (b.at + 4)) d;
        items = λ n. ap (named_items n (b.at + 4)) d;
      })

pub ruleset head_laws = (head_short, head-whole)

none : (n i : ℕ) → 0 ≡ get_or (words_of n []) i 0
none zero i = refl
none (suc n) i = refl

-- a later number is the first of what stands behind the one before
pub later : (n i : ℕ) (b : List ℕ) → get_or (words_of (suc n) b) (suc i) 0 ≡ get_or (words_of n (drop 4 b)) i 0
later n i [] = none n i
later n i (a ∷ []) = none n i
later n i (a ∷ b ∷ []) = none n i
later n i (a ∷ b ∷ c ∷ []) = none n i
later n i (a ∷ b ∷ c ∷ d ∷ l) = refl

pub first_of : (n : ℕ) (b : List ℕ) → get_or (words_of (suc n) b) 0 0 ≡ get_or (words_of 1 b) 0 0
first_of n [] = refl
first_of n (a ∷ []) = refl
first_of n (a ∷ b ∷ []) = refl
first_of n (a ∷ b ∷ c ∷ []) = refl
first_of n (a ∷ b ∷ c ∷ d ∷ l) = refl

-- ---- three numbers

module _ (s : List ℕ) (b : Cursor) (F N Z : Headed) (x : FirstWord s b F) (y : FirstWord s F.rest N) (u : FirstWord s N.rest Z) where
  first_is : get_or (words_of 3 (left b s)) 0 0 ≡ F.word
  first_is = first_of 2 (left b s) ∙ sym x.number

  second_is : get_or (words_of 3 (left b s)) 1 0 ≡ N.word
  second_is = later 2 0 (left b s) ∙ first_of 1 (drop 4 (left b s)) ∙ ap (λ l. get_or (words_of 1 l) 0 0) (sym x.after) ∙ sym y.number

  third_is : get_or (words_of 3 (left b s)) 2 0 ≡ Z.word
  third_is =
      later 2 1 (left b s) ∙ later 1 0 (drop 4 (left b s)) ∙ ap (λ l. get_or (words_of 1 (drop 4 l)) 0 0) (sym x.after) ∙ ap (λ l. get_or (words_of 1 l) 0 0) (sym y.after) ∙ sym u.number

  bytes_are : drop 12 (left b s) ≡ left Z.rest s
  bytes_are =
      sym (drop-drop 4 8 (left b s)) ∙ ap (λ l. drop 4 l) (sym (drop-drop 4 4 (left b s))) ∙ ap (λ l. drop 4 (drop 4 l)) (sym x.after) ∙ ap (λ l. drop 4 l) (sym y.after) ∙ sym u.after

  pub three_are : (r : Three) → r ≡ record { first = F.word; second = N.word; third = Z.word; rest = Z.rest } → ThreeWords s b r
  three_are r e = rw e (record { first_is = first_is; second_is = second_is; third_is = third_is; bytes_are = bytes_are; inside = u.inside })

pub word-inside : (s : List ℕ) (b : Cursor) (h : Headed) → FirstWord s b h → Inside h.rest (length s)
word-inside s b h x = x.inside

pub ruleset three_laws = (three_are, word-inside)
