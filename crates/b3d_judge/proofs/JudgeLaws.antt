-- A law for each way through `are_bytes` and `judge`.
use Rattle.layout.specs.Refused.{refusal_at}
use Rattle.std.specs.Prelude.{Ok, Err}
use Rattle.std.specs.Prelude as std
use Rattle.layout.specs.declared.Refusal.{Refusal}
use mathlib.Core.Path.{◌≡◌, refl, ap, sym, subst, ◌∙◌}
use Prim.Native.Nat.{ℕ, ◌≤◌, ◌<◌, ◌-◌}
use native.Mathlib.Omega.{arith}
use mathlib.Core.Bool.{true, false}
use mathlib.Core.List.{List, [], ◌∷◌}
use lib.ListN.{length, drop, get_or, length-drop}
use lib.Dec.{leb}
use borrow.Author.Tests.{lt-leb, le-leb, eq-eqb, ne_eqb}
use Rattle.wire.specs.Bytes.{word_at, AllBytes}
use Rattle.layout.specs.Result.{Result, accept, reject, check, ◌>>=◌}
use Rattle.layout.specs.Parts.{words_of}
use Rattle.layout.proofs.StepLaws.{word_of}
use Rattle.b3d_spec.specs.declared.Mode.{Mode}
use Rattle.layout.specs.Rows.{each_of, size_fits}
use Rattle.b3d_spec.specs.Scene.{Scene}
use Rattle.b3d_spec.specs.Rules.{version, row_limit}
use Rattle.b3d_spec.specs.Parse.{read_body, parse}
use Rattle.b3d_spec.specs.Tables.{rows, tables}
use Rattle.b3d_spec.specs.Answers.{judge}
use Rattle.b3d_spec.proofs.Laws.{fine}
use Rattle.b3d_judge_tally.specs.Tally.{scene_tally, tally_of}
use Rattle.b3d_spec_chunk_places.proofs.HeadLaws.{head-is}
use Rattle.b3d_judge.specs.Answers.{verdict_of}
use Rattle.b3d_judge_file_body.specs.Bodies.{walked, Walks}
use Rattle.b3d_judge_limits.specs.Limits.{over_limit}
use Rattle.b3d_judge_limits.proofs.LimitLaws.{over_none, over-some}
use Rattle.b3d_judge_file_body.specs.declared.Summary.{Summary}
use Rattle.b3d_judge_tally.proofs.TotalLaws.{total}

-- ---- a slice's bytes

pub no_bytes : (s : List ℕ) → length s ≡ 0 → AllBytes s
no_bytes [] h = tt
no_bytes (x ∷ s) h = absurd (omega arith)

-- ---- the whole

pub first_word : (s : List ℕ) → 8 ≤ length s → get_or (words_of 2 s) 0 0 ≡ word_at s 0
unfolding word_at
first_word s h = word_of 2 0 s (omega arith) h

pub second_word : (s : List ℕ) → 8 ≤ length s → get_or (words_of 2 s) 1 0 ≡ word_at s 4
unfolding word_at
second_word s h = word_of 2 1 s (omega arith) h

size_low : (n : ℕ) → n < 12 → size_fits n ≡ false
size_low n h = rw (lt-leb 12 n h)

size-high : (n : ℕ) → 16777216 < n → size_fits n ≡ false
size-high n h = rw (le-leb 12 n (omega arith), lt-leb n 16777216 h)

size-good : (n : ℕ) → 12 ≤ n → n ≤ 16777216 → size_fits n ≡ true
size-good n a b = rw (le-leb 12 n a, le-leb n 16777216 b)

walked-bad : (o : Result Scene) (e : Refusal) → walked o ≡ Err e → o ≡ reject e.number e.place
walked-bad (accept t) e h = let z : ◌≡◌ {A = ℕ} 0 1 = cc in absurd (omega arith)
walked-bad (reject n p) e h = cc

record GaveScene (o : Result Scene) (x : Summary) : Type 0 where
  value : Scene
  is : o ≡ accept value
  version : x.version ≡ value.version
  slots : x.n_texs ≡ value.slots
  has : x.tally ≡ scene_tally value

walked-good : (o : Result Scene) (x : Summary) → walked o ≡ Ok x → GaveScene o x
walked-good (accept t) x h =
    let e : record { version = t.version; n_texs = t.slots; tally = scene_tally t } ≡ x = cc in
    record { value = t; is = refl; version = sym (ap (λ (y : Summary). y.version) e); slots = sym (ap (λ (y : Summary). y.n_texs) e); has = sym (ap (λ (y : Summary). y.tally) e) }
walked-good (reject n p) x h = let z : ◌≡◌ {A = ℕ} 0 1 = cc in absurd (omega arith)

module _ (mode : Mode) (s : List ℕ) where
  pub judge-low : length s < 12 → Err (refusal_at 1 0) ≡ verdict_of (judge mode s)
  unfolding judge parse check
  judge-low h = rw (size_low (length s) h)

  pub judge-high : 16777216 < length s → Err (refusal_at 1 0) ≡ verdict_of (judge mode s)
  unfolding judge parse check
  judge-high h = rw (size-high (length s) h)

  module _ (lo : 12 ≤ length s) (hi : length s ≤ 16777216) (tag : ℕ) (et : tag ≡ word_at s 0) where
    eight : 8 ≤ length s
    eight = omega arith

    pub judge-tag : (tag ≡ 0x44334242 → ⊥) → Err (refusal_at 2 0) ≡ verdict_of (judge mode s)
    unfolding judge parse check
    judge-tag d = rw (size-good (length s) lo hi, head-is s eight, first_word s eight, ← et, ne_eqb tag 0x44334242 d)

    module _ (is : tag ≡ 0x44334242) (size k : ℕ) (ek : k ≡ word_at s 4) (es : size ≡ k) where
      pub judge-length : (size ≡ length s - 8 → ⊥) → Err (refusal_at 2 4) ≡ verdict_of (judge mode s)
      unfolding judge parse check
      judge-length d =
          rw (size-good (length s) lo hi, head-is s eight, first_word s eight, ← et, eq-eqb tag 0x44334242 is, second_word s eight, ← ek, ← es, length-drop 8 s, ne_eqb size (length s - 8) d)

      module _ (fits : size ≡ length s - 8) (j : std.Result Summary Refusal) (hj : Walks (read_body mode 8 (drop 8 s)) (length s) j) where
        parsed : parse mode s ≡ read_body mode 8 (drop 8 s)
        unfolding parse check
        parsed =
            rw (size-good (length s) lo hi, head-is s eight, first_word s eight, ← et, eq-eqb tag 0x44334242 is, second_word s eight, ← ek, ← es, length-drop 8 s, eq-eqb size (length s - 8) fits)

        pub judge-refused : (e : Refusal) → j ≡ Err e → Err e ≡ verdict_of (judge mode s)
        unfolding judge
        judge-refused e z = rw (parsed, walked-bad (read_body mode 8 (drop 8 s)) e (sym hj.is ∙ z))

        module _ (b : AllBytes s) (x : Summary) (z : j ≡ Ok x) where
          gave : GaveScene (parse mode s) x
          gave = subst (λ (o : Result Scene). GaveScene o x) (sym parsed) (walked-good (read_body mode 8 (drop 8 s)) x (sym hj.is ∙ z))

          tally_is : x.tally ≡ tally_of gave.value
          tally_is = gave.has ∙ total gave.value (fine mode s gave.value b gave.is).0

          module _ (n : ℕ) (en : n ≡ over_limit x.tally) where
            over-at : n ≡ over_limit (tally_of gave.value)
            over-at = en ∙ ap over_limit tally_is

            pub judge-over : (n ≡ 0 → ⊥) → Err (refusal_at 10 n) ≡ verdict_of (judge mode s)
            unfolding judge
            judge-over d = finish (parse mode s) gave.value gave.is
                (over-some (λ k. length (rows k gave.value)) (tally_of gave.value).copy n over-at d)
              where
                finish : (o : Result Scene) (t : Scene) → o ≡ accept t → each_of 10 (λ k. leb (length (rows k t)) row_limit) tables ≡ reject 10 n
                    → Err (refusal_at 10 n) ≡ verdict_of (o >>= λ t. each_of 10 (λ k. leb (length (rows k t)) row_limit) tables >>= λ _. accept t)
                finish o t e h = rw (e, h)

            pub judge-good : n ≡ 0 → Ok x ≡ verdict_of (judge mode s)
            unfolding judge
            judge-good q = finish (parse mode s) gave.value gave.is (over_none (λ k. length (rows k gave.value)) (tally_of gave.value).copy n over-at q)
                (λ i. record { version = gave.version i; n_texs = gave.slots i; tally = tally_is i })
              where
                finish : (o : Result Scene) (t : Scene) → o ≡ accept t → each_of 10 (λ k. leb (length (rows k t)) row_limit) tables ≡ accept tt
                    → x ≡ record { version = t.version; n_texs = t.slots; tally = tally_of t }
                    → Ok x ≡ verdict_of (o >>= λ t. each_of 10 (λ k. leb (length (rows k t)) row_limit) tables >>= λ _. accept t)
                finish o t e h k = ap Ok k ∙ sym (rw (e, h))

pub ruleset judge_laws = (judge-low, judge-high, judge-tag, judge-length, judge-refused, judge-over, judge-good)
