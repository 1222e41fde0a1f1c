-- A law for each way through `judge_mended`.
use Rattle.layout.specs.Refused.{refusal_at}
use Rattle.std.specs.Prelude.{Ok, Err}
use Rattle.std.specs.Prelude as std
use Rattle.layout.specs.declared.Refusal.{Refusal}
use mathlib.Core.Path.{◌≡◌, refl, sym, ap, subst, ◌∙◌}
use Prim.Native.Nat.{ℕ, ◌<◌, ◌≤◌}
use native.Mathlib.Omega.{arith}
use mathlib.Core.Bool.{Bool, true, false}
use mathlib.Core.List.{List, [], ◌∷◌}
use lib.ListN.{length, drop, get_or}
use lib.Dec.{leb, ltb}
use borrow.Author.Tests.{eq-eqb, ne_eqb, lt-leb, le-leb}
use Rattle.wire.specs.Bytes.{bytes, word_at, AllBytes}
use Rattle.wire.proofs.WordLaws.{drop-bytes}
use Rattle.wire.specs.Test.{if}
use Rattle.layout.specs.Result.{Result, accept, reject, check, ◌>>=◌}
use Rattle.layout.specs.Parts.{words_of}
use Rattle.layout.specs.Rows.{each_of, size_fits}
use Rattle.b3d_spec.specs.Scene.{Scene}
use Rattle.b3d_spec.specs.Tags.{code}
use Rattle.b3d_spec.specs.declared.Tag.TheVariants.{BB3D}
use Rattle.b3d_spec.specs.Rules.{row_limit}
use Rattle.b3d_spec.specs.Tables.{rows, tables}
use Rattle.b3d_judge_tally.specs.Tally.{scene_tally}
use Rattle.b3d_judge_tally.specs.declared.Tally.{Tally}
use Rattle.b3d_spec_chunk_places.proofs.HeadLaws.{head-is}
use Rattle.b3d_judge_file_body.specs.Bodies.{walked, WalkedIn, Walks}
use Rattle.b3d_judge_file_body.specs.declared.Summary.{Summary}
use Rattle.b3d_judge.proofs.JudgeLaws.{first_word}
use Rattle.b3d_judge_limits.specs.Limits.{over_limit, tallied}
use Rattle.b3d_judge_limits.proofs.LimitLaws.{over_none, over-some}
use Rattle.b3d_mend_spec.specs.Edits.{keep, after, file_length}
use Rattle.b3d_mend_spec.specs.Mend.{Mended, mend_body, mend_file}
use Rattle.b3d_mend_spec.specs.Report.{mend_judged}
use Rattle.b3d_mend_judge_items.specs.Lax.{lax_body}
use Rattle.b3d_mend_judge_items.proofs.AlikeLaws.{Alike}
use Rattle.b3d_mend_judge_items.proofs.LaxFileLaws.{SameScene, body_alike}
use Rattle.b3d_mend_judge_items.proofs.CountLaws.{counts_are}
use Rattle.b3d_mend_judge.specs.Answers.{mended_verdict, PlaceValid}

-- the answer of the walk is that of the mending read
same_verdict : (o : Result Scene) (u : Result (Mended Scene)) → Alike SameScene o u → walked o ≡ mended_verdict u
same_verdict (accept t) (accept m) h = λ i. Ok (record { version = h.version i; n_texs = h.slots i; tally = h.tally i })
same_verdict (accept t) (reject n p) h = absurd h
same_verdict (reject n p) (accept m) h = absurd h
same_verdict (reject n p) (reject m q) h = λ i. Err (refusal_at (h.0 i) (h.1 i))

verdict_bad : (u : Result (Mended Scene)) (e : Refusal) → mended_verdict u ≡ Err e → u ≡ reject e.number e.place
verdict_bad (accept m) e h = let z : ◌≡◌ {A = ℕ} 0 1 = cc in absurd (omega arith)
verdict_bad (reject n q) e h = cc

record Gave (u : Result (Mended Scene)) (x : Summary) : Type 0 where
  value : Mended Scene
  is : u ≡ accept value
  same : x ≡ record { version = value.value.version; n_texs = value.value.slots; tally = scene_tally value.value }

verdict_good : (u : Result (Mended Scene)) (x : Summary) → mended_verdict u ≡ Ok x → Gave u x
verdict_good (accept m) x h = record { value = m; is = refl; same = cc }
verdict_good (reject n p) x h = let z : ◌≡◌ {A = ℕ} 0 1 = cc in absurd (omega arith)

size_low : (n : ℕ) → n < 12 → size_fits n ≡ false
size_low n h = rw (lt-leb 12 n h)

size-high : (n : ℕ) → 16777216 < n → size_fits n ≡ false
size-high n h = rw (le-leb 12 n (omega arith), lt-leb n 16777216 h)

size-good : (n : ℕ) → 12 ≤ n → n ≤ 16777216 → size_fits n ≡ true
size-good n a b = rw (le-leb 12 n a, le-leb n 16777216 b)

-- by the body alone
abbrev limited : Mended Scene → Result (Mended Scene)
limited x = each_of 10 (λ k. leb (length (rows k x.value)) row_limit) tables >>= λ _. accept x

module _ (s : List ℕ) where
  pub mended-low : length s < 12 → Err (refusal_at 1 0) ≡ mended_verdict (mend_judged s)
  unfolding mend_judged mend_file check
  mended-low h = rw (size_low (length s) h)

  pub mended-high : 16777216 < length s → Err (refusal_at 1 0) ≡ mended_verdict (mend_judged s)
  unfolding mend_judged mend_file check
  mended-high h = rw (size-high (length s) h)

  module _ (lo : 12 ≤ length s) (hi : length s ≤ 16777216) (tag : ℕ) (et : tag ≡ word_at s 0) where
    eight : 8 ≤ length s
    eight = omega arith

    pub mended-tag : (tag ≡ 0x44334242 → ⊥) → Err (refusal_at 2 0) ≡ mended_verdict (mend_judged s)
    unfolding mend_judged mend_file check
    mended-tag d = rw (size-good (length s) lo hi, head-is s eight, first_word s eight, ← et, ne_eqb tag 0x44334242 d)

    module _ (letters : tag ≡ 0x44334242) (b : AllBytes s) (j : std.Result Summary Refusal) (hj : Walks (lax_body 8 (drop 8 s)) (length s) j) where
      body : j ≡ mended_verdict (mend_body 8 (drop 8 s))
      body = hj.is ∙ same_verdict (lax_body 8 (drop 8 s)) (mend_body 8 (drop 8 s)) (body_alike 8 (drop 8 s) (drop-bytes 8 s b))

      -- what the file gives, by what its body gives
      opened-bad : (e q : ℕ) → mend_body 8 (drop 8 s) ≡ reject e q → mend_judged s ≡ reject e q
      unfolding mend_judged mend_file check
      opened-bad e q h = rw (size-good (length s) lo hi, head-is s eight, first_word s eight, ← et, eq-eqb tag 0x44334242 letters, h)

      record Opened (m : Mended Scene) : Type 0 where
        whole : Mended Scene
        value : whole.value ≡ m.value
        is : mend_judged s ≡ limited whole

      opened : (m : Mended Scene) → mend_body 8 (drop 8 s) ≡ accept m → Opened m
      unfolding mend_judged mend_file check
      opened m h = record { whole = record { value = m.value; edits = keep (bytes (code BB3D) []) ∷ file_length (get_or (words_of 2 s) 1 0) (length (drop 8 s)) (length (after m.edits)) ∷ m.edits }; value = refl; is = rw (size-good (length s) lo hi, head-is s eight, first_word s eight, ← et, eq-eqb tag 0x44334242 letters, h) }

      pub mended-refused : (e : Refusal) → j ≡ Err e → Err e ≡ mended_verdict (mend_judged s)
      mended-refused e z = rw (opened-bad e.number e.place (verdict_bad (mend_body 8 (drop 8 s)) e (sym body ∙ z)))

      module _ (x : Summary) (z : j ≡ Ok x) (n : ℕ) (en : n ≡ over_limit x.tally) where
        gave : Gave (mend_body 8 (drop 8 s)) x
        gave = verdict_good (mend_body 8 (drop 8 s)) x (sym body ∙ z)

        file : Opened gave.value
        file = opened gave.value gave.is

        tally_is : x.tally ≡ scene_tally file.whole.value
        tally_is = ap (λ (y : Summary). y.tally) gave.same ∙ ap scene_tally (sym file.value)

        over-at : n ≡ over_limit (tallied (λ k. length (rows k file.whole.value)) (scene_tally file.whole.value).copy)
        over-at = en ∙ ap over_limit (tally_is ∙ counts_are file.whole.value)

        pub mended-over : (n ≡ 0 → ⊥) → Err (refusal_at 10 n) ≡ mended_verdict (mend_judged s)
        mended-over d =
            ap mended_verdict (sym (file.is ∙ ap (λ (o : Result (Unit {0})). o >>= λ _. accept file.whole) (over-some (λ k. length (rows k file.whole.value)) (scene_tally file.whole.value).copy n over-at d)))

        pub mended-good : n ≡ 0 → Ok x ≡ mended_verdict (mend_judged s)
        mended-good q =
            ap Ok (gave.same ∙ ap (λ (v : Scene). record { version = v.version; n_texs = v.slots; tally = scene_tally v }) (sym file.value))
            ∙ ap mended_verdict (sym (file.is ∙ ap (λ (o : Result (Unit {0})). o >>= λ _. accept file.whole) (over_none (λ k. length (rows k file.whole.value)) (scene_tally file.whole.value).copy n over-at q)))

-- ---- places

at_most : (n : Refusal) → n.place ≤ 16777216 → PlaceValid (Err n)
at_most n h = record { most = λ m e. let z : n.place ≡ m.place = cc in omega (arith, z) }

pub placed_first : (n : ℕ) → PlaceValid (Err (refusal_at n 0))
placed_first n = at_most (refusal_at n 0) (omega arith)

pub placed-good : (x : Summary) → PlaceValid (Ok x)
placed-good x = record { most = λ m e. let z : ◌≡◌ {A = ℕ} 0 1 = cc in absurd (omega arith) }

pub placed-refused : (s : List ℕ) → length s ≤ 16777216 → (j : std.Result Summary Refusal) → Walks (lax_body 8 (drop 8 s)) (length s) j → (e : Refusal) → j ≡ Err e → PlaceValid (Err e)
placed-refused s hi j h e z = let w : e.place ≤ length s = subst (WalkedIn (length s)) z h.within in at_most e (omega arith)

either : (b : Bool) (k n : ℕ) → k ≤ 10 → n ≤ 10 → if b k n ≤ 10
unfolding if
either true k n h i = h
either false k n h i = i

over-small : (t : Tally) → over_limit t ≤ 10
unfolding over_limit
over-small t =
    either (ltb row_limit t.textures) 1 _ (omega arith)
    (either (ltb row_limit t.brushes) 2 _ (omega arith)
    (either (ltb row_limit t.nodes) 3 _ (omega arith)
    (either (ltb row_limit t.meshes) 4 _ (omega arith)
    (either (ltb row_limit t.vertices) 5 _ (omega arith)
    (either (ltb row_limit t.sets) 6 _ (omega arith)
    (either (ltb row_limit t.triangles) 7 _ (omega arith)
    (either (ltb row_limit t.weights) 8 _ (omega arith)
    (either (ltb row_limit t.lists) 9 _ (omega arith) (either (ltb row_limit t.keys) 10 0 (omega arith) (omega arith))))))))))

pub placed-over : (t : Tally) (n : ℕ) → n ≡ over_limit t → PlaceValid (Err (refusal_at 10 n))
placed-over t n e = at_most (refusal_at 10 n) (omega (arith, e, over-small t))

pub ruleset mended_laws = (mended-low, mended-high, mended-tag, mended-refused, mended-over, mended-good, placed_first, placed-good, placed-refused, placed-over)
