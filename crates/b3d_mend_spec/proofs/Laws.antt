-- The laws of mending that the rest rests on, each a sentence of the request.
use mathlib.Core.Path.{◌≡◌, refl, ap, ap₂, sym, ◌∙◌, subst}
use mathlib.Core.Logic.{inl, inr}
use Prim.Native.Nat.{ℕ, ◌+◌, ◌≤◌, ◌*◌, ◌<◌}
use native.Mathlib.Omega.{arith}
use mathlib.Core.Bool.{Bool, true, false}
use mathlib.Core.List.{List, [], ◌∷◌, ◌++◌, map}
use lib.ListN.{length, length-map}
use lib.Dec.{T, leb, leb→le, le→leb, not_T, nleb→lt}
use Rattle.wire.specs.Bytes.{AllBytes}
use Rattle.wire.specs.Test.{if}
use Rattle.layout.specs.Result.{Result, accept, reject, check, ◌>>=◌}
use Rattle.layout.specs.Rows.{each_of}
use Rattle.layout.proofs.AllLaws.{All, all-zip, all_map}
use Rattle.layout.proofs.ResultLaws.{by_got, bad_got, got_inj, each_got, check-yes, check-no, by_test}
use Rattle.b3d_spec.specs.declared.Mode.TheVariants.{Lenient}
use Rattle.b3d_spec.specs.Answers.{judge, first_not}
use Rattle.b3d_spec.specs.Names.{without_places, named, unplaced}
use Rattle.b3d_spec.specs.Parse.{parse}
use Rattle.b3d_spec.specs.Rules.{row_limit}
use Rattle.b3d_spec.specs.Scene.{Scene}
use Rattle.b3d_spec.specs.Tables.{rows, tables}
use Rattle.b3d_spec.proofs.AnswerLaws.{Small, judge-yes, first_some}
use Rattle.b3d_spec.proofs.Rows.RenameLaws.{bare_same}
use Rattle.b3d_mend_spec.specs.Answers.{written_both, file_after, report_after, mend_answer, mend_output, mend_report}
use Rattle.b3d_mend_spec.specs.Edits.{Edit, before, after, mend, was, becomes}
use Rattle.b3d_mend_spec.specs.Mend.{Mended, mend_file}
use Rattle.b3d_mend_spec.specs.Report.{entries, report_bytes, Mending, mending, mend_judged, room_for_both, mend_into}
use Rattle.b3d_mend_spec.proofs.AgreeLaws.{Beside, bind_beside}
use Rattle.b3d_mend_spec.proofs.EditLaws.{Quiet, quiet_same, quiet_unsaid, before-append, after-append, Small as SmallEdit}
use Rattle.b3d_mend_spec.proofs.EntryLaws.{entries-ordered}
use Rattle.b3d_mend_spec.specs.Mends.{Entered, Mendable, Unmended, FewRows, Mends, MenderSays}
use Rattle.b3d_mend_spec.proofs.FileLaws.{FileMended, file-mended}
use Rattle.b3d_mend_spec.proofs.QuietFileLaws.{file-beside}
use Rattle.b3d_mend_spec.proofs.QuietPartLaws.{Same}
use Rattle.b3d_mend_spec.specs.Four.{OfFour}
use Rattle.b3d_mend_spec.proofs.StepLaws.{entries-append}
use Rattle.b3d_mend_spec.proofs.ReportLaws.{after-bytes, entries-told, report-least, report-back}
use Rattle.b3d_mend_spec.proofs.RefusalLaws.{file-refusal}
use Rattle.b3d_mend_spec.proofs.FileWalkLaws.{file-edits}

-- ---- rows do not depend on name places

named-length : (g : List ℕ → List ℕ) (k : ℕ) (l : List (List ℕ)) → length (named g k l) ≡ length l
unfolding named if
named-length g k l = go (leb k 3)
  where
    go : (b : Bool) → length (if b (map g l) l) ≡ length l
    go true = length-map l g
    go false = refl

small_same : (t u : Scene) → without_places t ≡ without_places u → Small u → Small t
small_same t u e h =
    all-zip (λ k. named unplaced k (rows k t) ≡ named unplaced k (rows k u)) (λ k. length (rows k u) ≤ row_limit) (λ k. length (rows k t) ≤ row_limit)
    (λ k e₁ le. let n : length (rows k t) ≡ length (rows k u) = sym (named-length unplaced k (rows k t)) ∙ ap (λ (l : List (List ℕ)). length l) e₁ ∙ named-length unplaced k (rows k u) in
    subst (λ (i : ℕ). i ≤ row_limit) (sym n) le) tables (bare_same t u e) h

-- ---- what was mended

-- what a file that can be mended has: the mending read's value, 10 passed
judged-file : (s : List ℕ) (x : Mended Scene) → mend_judged s ≡ accept x → (mend_file s ≡ accept x) × All (FewRows x) tables
unfolding mend_judged
judged-file s x e =
    by_got (mend_file s) _ e (λ m em e₁.
    by_got (each_of 10 (λ k. leb (length (rows k m.value)) row_limit) tables) _ e₁ (λ u eu e₂.
    let few : All (FewRows m) tables =
    all_map (λ k. T (leb (length (rows k m.value)) row_limit)) (FewRows m) (λ k t. leb→le (length (rows k m.value)) row_limit t) tables (each_got 10 _ tables eu) in
    subst (λ (y : Mended Scene). (mend_file s ≡ accept y) × All (FewRows y) tables) (got_inj e₂) (em, few)))

module _ (s : List ℕ) (a : AllBytes s) (x : Mended Scene) (e : mend_judged s ≡ accept x) where
  is-mended : FileMended s x
  is-mended = file-mended s x a (judged-file s x e).0

  abbrev read_again : Scene
  read_again = is-mended.again.0

  is-accepted : judge Lenient (after x.edits) ≡ accept read_again
  is-accepted = judge-yes Lenient (after x.edits) read_again is-mended.again.1 (small_same read_again x.value is-mended.again.2 (judged-file s x e).1)

  is-bytes : AllBytes (after x.edits)
  is-bytes = after-bytes x.edits is-mended.small (subst AllBytes (sym is-mended.given) a)

  placed : 0 + length (before x.edits) ≤ 4294967295
  placed = omega (arith, ap length is-mended.given, is-mended.size)

  add_none : (n : ℕ) → 0 + n ≡ n
  add_none n = omega arith

  one-entered : (l r : List Edit) (k : ℕ) (b c : List ℕ) → x.edits ≡ l ++ (mend k b c ∷ r) → Entered s x.edits l k b c r
  unfolding before after was becomes entries
  one-entered l r k b c q = record {
    given = sym is-mended.given ∙ ap before q ∙ before-append l (mend k b c ∷ r);
    mended = ap after q ∙ after-append l (mend k b c ∷ r);
    entry = ap (entries 0) q ∙ entries-append l (mend k b c ∷ r) 0 ∙ ap (λ (i : ℕ). entries 0 l ++ entries i (mend k b c ∷ r)) (add_none (length (before l)));
  }

-- ---- what needs no mending

-- 10 beside 10
judged-beside : (s : List ℕ) → AllBytes s → Beside Same (judge Lenient s) (mend_judged s)
unfolding judge mend_judged
judged-beside s a =
    bind_beside Same Same (parse Lenient s) (mend_file s) _ _ (file-beside s a) (λ t m h.
    subst (λ (u : Scene). Beside Same (each_of 10 (λ k. leb (length (rows k t)) row_limit) tables >>= λ _. accept t) (each_of 10 (λ k. leb (length (rows k u)) row_limit) tables >>= λ _. accept m)) (sym h.0)
    (go t m h (each_of 10 (λ k. leb (length (rows k t)) row_limit) tables)))
  where
    go : (t : Scene) (m : Mended Scene) → Same t m → (o : Result (Unit {0})) → Beside Same (o >>= λ _. accept t) (o >>= λ _. accept m)
    go t m h (accept u) = h
    go t m h (reject n p) = inr refl

quiet_mending : (s : List ℕ) (x : Mended Scene) → All Quiet x.edits → before x.edits ≡ s → mending x.edits ≡ record { file = s; report = [] }
unfolding mending report_bytes
quiet_mending s x h e = ap₂ (λ (f r : List ℕ). record { file = f; report = r }) (quiet_same x.edits h ∙ e) (ap report_bytes (quiet_unsaid x.edits 0 h))

module _ (s : List ℕ) (a : AllBytes s) where
  -- an accepted file comes back as it was with an empty report
  is_unchanged : (t : Scene) → judge Lenient s ≡ accept t → (room report_room : ℕ) → mend_into room report_room s ≡ room_for_both room report_room (record { file = s; report = [] })
  unfolding mend_into
  is_unchanged t e room report_room = go (judge Lenient s) (mend_judged s) refl e (judged-beside s a)
    where
      go : (o : Result Scene) (q : Result (Mended Scene)) → mend_judged s ≡ q → o ≡ accept t → Beside Same o q
          → (q >>= λ x. room_for_both room report_room (mending x.edits)) ≡ room_for_both room report_room (record { file = s; report = [] })
      go (accept u) (accept x) eq e h = ap (room_for_both room report_room) (quiet_mending s x h.1 (is-mended s a x eq).given)
      go (accept u) (reject n p) eq e h = absurd h
      go (reject n p) q eq e h = bad_got e

  is_same : (n p : ℕ) → judge Lenient s ≡ reject n p → (Mendable n p → ⊥) → mend_judged s ≡ reject n p
  is_same n p e d = elim (subst (λ (o : Result Scene). Beside Same o (mend_judged s)) e (judged-beside s a)) [ inl i ↦ absurd (d i) | inr q ↦ q ]

-- ---- refusals

ten-only : {A : Type 0} (ok : ℕ → Bool) (ks : List ℕ) (m : A) (n p : ℕ) → (each_of 10 ok ks >>= λ _. accept m) ≡ reject n p → n ≡ 10
unfolding each_of check
ten-only ok [] m n p e = bad_got (sym e)
ten-only ok (k ∷ ks) m n p e = go (ten-only ok ks m n p) (ok k) e
  where
    go : ((each_of 10 ok ks >>= λ _. accept m) ≡ reject n p → n ≡ 10) → (b : Bool) → ((check b 10 k >>= λ _. each_of 10 ok ks) >>= λ _. accept m) ≡ reject n p → n ≡ 10
    go rest true e = rest e
    go rest false e = cc

judged-refusal : (s : List ℕ) (n p : ℕ) → mend_judged s ≡ reject n p → Unmended n p
unfolding mend_judged
judged-refusal s n p e = go (mend_file s) refl e
  where
    go : (o : Result (Mended Scene)) → mend_file s ≡ o → (o >>= λ x. each_of 10 (λ k. leb (length (rows k x.value)) row_limit) tables >>= λ _. accept x) ≡ reject n p → Unmended n p
    go (accept x) q e = let ten = ten-only _ tables x n p e in ((λ i. omega arith), (λ i j. omega arith), omega arith, omega arith)
    go (reject i j) q e = file-refusal s n p (q ∙ e)

lowest-first : (s : List ℕ) (x : Mended Scene) → mend_file s ≡ accept x → (p : ℕ) → first_not (λ k. leb (length (rows k x.value)) row_limit) tables ≡ p → 0 < p → mend_judged s ≡ reject 10 p
unfolding mend_judged
lowest-first s x e p q h = rw (e, first_some 10 (λ k. leb (length (rows k x.value)) row_limit) tables (λ z. omega arith)) (ap (λ (i : ℕ). reject 10 i) q)

module _ (room report_room : ℕ) (m : Mending) where
  pub room-yes : length m.file ≤ room → length m.report ≤ report_room → room_for_both room report_room m ≡ accept m
  unfolding room_for_both
  room-yes h i = rw (check-yes (leb (length m.file) room) 11 (length m.file) (le→leb _ _ h), check-yes (leb (length m.report) report_room) 11 (length m.report) (le→leb _ _ i))

  pub room-file : room < length m.file → room_for_both room report_room m ≡ reject 11 (length m.file)
  unfolding room_for_both
  room-file h = rw (check-no (leb (length m.file) room) 11 (length m.file) (not_T (leb (length m.file) room) (λ t. let q = leb→le (length m.file) room t in omega arith)))

  pub room-report : length m.file ≤ room → report_room < length m.report → room_for_both room report_room m ≡ reject 11 (length m.report)
  unfolding room_for_both
  room-report h i =
      rw (
        check-yes (leb (length m.file) room) 11 (length m.file) (le→leb _ _ h),
        check-no (leb (length m.report) report_room) 11 (length m.report) (not_T (leb (length m.report) report_room) (λ t. let q = leb→le (length m.report) report_room t in omega arith)),
      )

-- ---- the request

module _ (s : List ℕ) (x : Mended Scene) (e : mend_judged s ≡ accept x) (room report_room : ℕ) where
  is-written : mend_into room report_room s ≡ room_for_both room report_room (mending x.edits)
  unfolding mend_into
  is-written = rw e

pub is-first : (s : List ℕ) (n p : ℕ) → mend_judged s ≡ reject n p → (room report_room : ℕ) → mend_into room report_room s ≡ reject n p
unfolding mend_into
is-first s n p e room report_room = rw e

pub mends : (s : List ℕ) → AllBytes s → Mends s
unfolding mending
mends s a = record {
  given = λ x e. (is-mended s a x e).given;
  walk = λ x e. file-edits s x a (judged-file s x e).0;
  four = λ x e. all_map SmallEdit OfFour (λ y h. h.four) x.edits (is-mended s a x e).small;
  written = is-written s;
  ordered = λ x e. entries-ordered x.edits 0;
  entered = one-entered s a;
  readable = λ x e. report-back (entries 0 x.edits) (entries-told x.edits 0 (is-mended s a x e).small (placed s a x e));
  scene = read_again s a;
  accepted = is-accepted s a;
  cells = λ x e. bare_same (read_again s a x e) x.value (is-mended s a x e).again.2;
  bytes = is-bytes s a;
  shorter = λ x e. (is-mended s a x e).shorter;
  report-size = λ x e. subst (λ (l : List ℕ). length (report_bytes (entries 0 x.edits)) ≤ 10 * length l) (is-mended s a x e).given (report-least x.edits 0 (is-mended s a x e).small (placed s a x e));
  unchanged = is_unchanged s a;
  again = λ x e. is_unchanged (after x.edits) (is-bytes s a x e) (read_again s a x e) (is-accepted s a x e);
  first = is-first s;
  other_kind = judged-refusal s;
  same = is_same s a;
  few = judged-file s;
  limit = lowest-first s;
  enough = λ x e room report_room h i. is-written s x e room report_room ∙ room-yes room report_room (mending x.edits) h i;
  file_short = λ x e room report_room h. is-written s x e room report_room ∙ room-file room report_room (mending x.edits) h;
  report_short = λ x e room report_room h i. is-written s x e room report_room ∙ room-report room report_room (mending x.edits) h i;
}

-- ---- what a caller sees

-- what becomes of both outputs: written, or a refusal that is not 0
both_cases : {P : Type 0} (s : List ℕ) (room report_room : ℕ) (o : Result Mending) → mend_into room report_room s ≡ o
    → ((x : Mended Scene) → mend_judged s ≡ accept x → length (after x.edits) ≤ room → length (report_bytes (entries 0 x.edits)) ≤ report_room → P)
    → ((n p : ℕ) → o ≡ reject n p → 1 ≤ n → n ≤ 11 → P) → P
unfolding mend_into room_for_both mending
both_cases {P} s room report_room o e good refuse = go (mend_judged s) refl
  where
    bad-at : (n p : ℕ) → mend_into room report_room s ≡ reject n p → 1 ≤ n → n ≤ 11 → P
    bad-at n p q = refuse n p (sym e ∙ q)

    go : (q : Result (Mended Scene)) → mend_judged s ≡ q → P
    go (reject n p) q = let u = judged-refusal s n p q in bad-at n p (is-first s n p q room report_room) u.2 (omega (arith, u.3))
    go (accept x) q =
        by_test (leb (length (after x.edits)) room)
        (λ t. let h = leb→le (length (after x.edits)) room t in
        by_test (leb (length (report_bytes (entries 0 x.edits))) report_room)
        (λ u. good x q h (leb→le (length (report_bytes (entries 0 x.edits))) report_room u))
        (λ u. bad-at 11 (length (report_bytes (entries 0 x.edits))) (is-written s x q room report_room ∙ room-report room report_room (mending x.edits) h (nleb→lt (length (report_bytes (entries 0 x.edits))) report_room u)) (omega arith) (omega arith)))
        (λ t. bad-at 11 (length (after x.edits)) (is-written s x q room report_room ∙ room-file room report_room (mending x.edits) (nleb→lt (length (after x.edits)) room t)) (omega arith) (omega arith))

-- with an output as long as the file, 11 is the report's
is-report : (s out report : List ℕ) → AllBytes s → length s ≤ length out → (mend_answer s out report).number ≡ 11
    → (x : Mended Scene) × (mend_judged s ≡ accept x) × ((mend_answer s out report).place ≡ length (report_bytes (entries 0 x.edits)))
unfolding mend_answer written_both mending
is-report s out report a l z = go (mend_judged s) refl
  where
    is-eleven : (o : Result Mending) → mend_into (length out) (length report) s ≡ o → (written_both o).number ≡ 11
    is-eleven o e = ap (λ (y : Result Mending). (written_both y).number) (sym e) ∙ z

    go : (q : Result (Mended Scene)) → mend_judged s ≡ q → (x : Mended Scene) × (mend_judged s ≡ accept x) × ((mend_answer s out report).place ≡ length (report_bytes (entries 0 x.edits)))
    go (reject n p) q = let w : n ≡ 11 = is-eleven (reject n p) (is-first s n p q (length out) (length report)) in let u = judged-refusal s n p q in absurd (omega (arith, u.3))
    go (accept x) q =
        let h : length (after x.edits) ≤ length out = omega (arith, (is-mended s a x q).shorter) in
        by_test (leb (length (report_bytes (entries 0 x.edits))) (length report))
        (λ u.
        let w : 0 ≡ 11 = is-eleven (accept (mending x.edits)) (is-written s x q (length out) (length report) ∙ room-yes (length out) (length report) (mending x.edits) h (leb→le (length (report_bytes (entries 0 x.edits))) (length report) u)) in
        absurd (omega arith))
        (λ u. (
          x,
          q,
          ap (λ (o : Result Mending). (written_both o).place) (is-written s x q (length out) (length report) ∙ room-report (length out) (length report) (mending x.edits) h (nleb→lt (length (report_bytes (entries 0 x.edits))) (length report) u)),
        ))

pub mender-says : (s out report : List ℕ) → MenderSays s out report
unfolding mend_answer mend_output mend_report written_both file_after report_after mending
mender-says s out report = record {
  mended = λ x e h i. let q = is-written s x e (length out) (length report) ∙ room-yes (length out) (length report) (mending x.edits) h i in (ap written_both q, ap (λ (o : Result Mending). file_after o out) q, ap (λ (o : Result Mending). report_after o report) q);
  zero = λ z.
      both_cases s (length out) (length report) (mend_into (length out) (length report) s) refl (λ x e h i. (x, e, h, i))
      (λ n p q lo hi. let w : n ≡ 0 = sym (ap (λ (o : Result Mending). (written_both o).number) q) ∙ z in absurd (omega arith));
  most =
      both_cases s (length out) (length report) (mend_into (length out) (length report) s) refl
      (λ x e h i. let q = is-written s x e (length out) (length report) ∙ room-yes (length out) (length report) (mending x.edits) h i in subst (λ (o : Result Mending). (written_both o).number ≤ 11) (sym q) (omega arith))
      (λ n p q lo hi. subst (λ (o : Result Mending). (written_both o).number ≤ 11) (sym q) hi);
  untouched = λ d.
      both_cases s (length out) (length report) (mend_into (length out) (length report) s) refl
      (λ x e h i. let q = is-written s x e (length out) (length report) ∙ room-yes (length out) (length report) (mending x.edits) h i in absurd (d (ap (λ (o : Result Mending). (written_both o).number) q)))
      (λ n p q lo hi. (
        ap (λ (o : Result Mending). file_after o out) q,
        ap (λ (o : Result Mending). report_after o report) q,
        ap (λ (o : Result Mending). (written_both o).size) q,
        ap (λ (o : Result Mending). (written_both o).report_size) q,
      ));
  report_short = is-report s out report;
}
