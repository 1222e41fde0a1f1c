-- The reader's refusal is the first of a file's faults, the mender's the first of another kind.
use mathlib.Core.Logic.{◌⊎◌, inl, inr}
use mathlib.Core.Path.{◌≡◌, refl, ap, ap₂, sym, ◌∙◌, subst}
use Prim.Native.Nat.{ℕ, ◌≤◌}
use native.Mathlib.Omega.{arith}
use mathlib.Core.Bool.{Bool, true, false}
use mathlib.Core.List.{List, [], ◌∷◌}
use lib.ListN.{length}
use lib.Dec.{leb}
use Rattle.wire.specs.Bytes.{AllBytes}
use Rattle.layout.specs.Result.{Result, accept, reject, check, ◌>>=◌}
use Rattle.layout.specs.Rows.{each_of}
use Rattle.layout.specs.Parts.{items_in, items}
use Rattle.layout.proofs.ResultLaws.{bad_got, by_got, by-check, got_inj}
use Rattle.b3d_spec.specs.declared.Mode.TheVariants.{Lenient}
use Rattle.b3d_spec.specs.Answers.{judge}
use Rattle.b3d_spec.specs.Parse.{parse}
use Rattle.b3d_spec.specs.Rules.{row_limit}
use Rattle.b3d_spec.specs.Scene.{Scene}
use Rattle.b3d_spec.specs.Tables.{rows, tables}
use Rattle.b3d_mend_spec.specs.Mend.{Mended, mend_file}
use Rattle.b3d_mend_spec.specs.Report.{ReportEntry, entries, report_bytes, read_report, Mending, mending, mend_judged, room_for_both, mend_into}
use Rattle.b3d_mend_spec.proofs.Laws.{mends}
use Rattle.b3d_mend_faults.specs.Faults.{Fault, mendable, FaultReading, gives, ends, passes, listed, file_faults, faults}
use Rattle.b3d_mend_faults.specs.Headers.{Spare, Past}
use Rattle.b3d_mend_faults.specs.FirstFault.{refusal_by, others, refusal_of, FirstFault}
use Rattle.b3d_mend_faults.specs.ReportTells.{Tells, ReportTellsFaults}
use Rattle.b3d_mend_faults.proofs.AgreeLaws.{Agrees, Any, listed-all}
use Rattle.b3d_mend_faults.proofs.ReaderLaws.{file-read}
use Rattle.b3d_mend_faults.proofs.MenderLaws.{file-mend}
use Rattle.b3d_mend_faults.proofs.HeaderDueLaws.{apart}
use Rattle.b3d_mend_faults.proofs.RefusalThreeLaws.{Each, Three, file-each}

-- ---- the list

-- who refuses all refuses the first
first_of : {A B : Type 0} (m : FaultReading A) (o : Result B) → Agrees false Any m o → refusal_of o ≡ refusal_by (listed m)
unfolding refusal_of refusal_by listed
first_of (gives a) (accept b) h = refl
first_of (gives a) (reject n p) h = absurd h
first_of (ends n p) o h = ap refusal_of h
first_of (passes k n p m) o h = ap refusal_of h

-- who passes the four refuses the first other
other-of : {A B : Type 0} (R : List Fault → A → B → Type 0) (m : FaultReading A) (o : Result B) → Agrees true R m o → refusal_of o ≡ refusal_by (others (listed m))
unfolding refusal_of refusal_by others listed
other-of R (gives a) (accept b) h = refl
other-of R (gives a) (reject n p) h = absurd h
other-of R (ends n p) o h = ap refusal_of h
other-of R (passes k n p m) o h = other-of (λ l. R (mendable k n p ∷ l)) m o h

-- ---- answers

whole : {A : Type 0} (o : Result A) (n p : ℕ) → refusal_of o ≡ reject n p → o ≡ reject n p
unfolding refusal_of
whole (accept a) n p e = bad_got (sym e)
whole {A} (reject i q) n p e = let en : i ≡ n = cc in let ep : q ≡ p = cc in ap₂ {C = Result A} reject en ep

-- where the rest refuses with other numbers, it was refused before
before : {A B : Type 0} (m : Result A) (k : A → Result B) (n p : ℕ) → ((a : A) → k a ≡ reject n p → ⊥) → (m >>= k) ≡ reject n p → m ≡ reject n p
before (accept a) k n p f e = absurd (f a e)
before {A} (reject i q) k n p f e = let en : i ≡ n = cc in let ep : q ≡ p = cc in ap₂ {C = Result A} reject en ep

each-not : {A : Type 0} (i : ℕ) (ok : ℕ → Bool) (ks : List ℕ) (a : A) (n p : ℕ) → (i ≡ n → ⊥) → (each_of i ok ks >>= λ _. accept a) ≡ reject n p → ⊥
unfolding each_of check
each-not i ok [] a n p f e = bad_got (sym e)
each-not {A} i ok (k ∷ ks) a n p f e = by (ok k) (each-not i ok ks a n p f) e
  where
    by : (b : Bool) → ((each_of i ok ks >>= λ _. accept a) ≡ reject n p → ⊥) → ((check b i k >>= λ _. each_of i ok ks) >>= λ _. accept a) ≡ reject n p → ⊥
    by true g e = g e
    by false g e = let z : i ≡ n = cc in f z

check-not : {A : Type 0} (b : Bool) (i q : ℕ) (o : Result A) (n p : ℕ) → (i ≡ n → ⊥) → (o ≡ reject n p → ⊥) → (check b i q >>= λ _. o) ≡ reject n p → ⊥
unfolding check
check-not true i q o n p f g e = g e
check-not false i q o n p f g e = let z : i ≡ n = cc in f z

room-not : (room report_room : ℕ) (m : Mending) (n p : ℕ) → (11 ≡ n → ⊥) → room_for_both room report_room m ≡ reject n p → ⊥
unfolding room_for_both
room-not room report_room m n p f e =
    check-not (leb (length m.file) room) 11 (length m.file) _ n p f
    (λ e₁. check-not (leb (length m.report) report_room) 11 (length m.report) (accept m) n p f (λ e₂. bad_got (sym e₂)) e₁) e

judge-stays : (s : List ℕ) (n p : ℕ) → parse Lenient s ≡ reject n p → judge Lenient s ≡ reject n p
unfolding judge
judge-stays s n p e = ap (λ (o : Result Scene). o >>= λ t. each_of 10 (λ k. leb (length (rows k t)) row_limit) tables >>= λ _. accept t) e

judge-before : (s : List ℕ) (n p : ℕ) → n ≤ 9 → judge Lenient s ≡ reject n p → parse Lenient s ≡ reject n p
unfolding judge
judge-before s n p l e = before (parse Lenient s) _ n p (λ t e₁. each-not 10 (λ k. leb (length (rows k t)) row_limit) tables t n p (λ z. omega arith) e₁) e

mend-stays : (s : List ℕ) (n p room report_room : ℕ) → mend_file s ≡ reject n p → mend_into room report_room s ≡ reject n p
unfolding mend_into mend_judged
mend-stays s n p room report_room e =
    ap (λ (o : Result (Mended Scene)). o >>= (λ x. each_of 10 (λ k. leb (length (rows k x.value)) row_limit) tables >>= λ _. accept x) >>= λ y. room_for_both room report_room (mending y.edits)) e

mend-before : (s : List ℕ) (n p room report_room : ℕ) → n ≤ 9 → mend_into room report_room s ≡ reject n p → mend_file s ≡ reject n p
unfolding mend_into mend_judged
mend-before s n p room report_room l e =
    before (mend_file s) _ n p (λ x e₁. each-not 10 (λ k. leb (length (rows k x.value)) row_limit) tables x n p (λ z. omega arith) e₁)
    (before (mend_judged s) _ n p (λ x e₁. room-not room report_room (mending x.edits) n p (λ z. omega arith) e₁) e)

-- ---- the two kinds of 3

same-refusal : {A : Type 0} {i q n p : ℕ} → ◌≡◌ {A = Result A} (reject i q) (reject n p) → (i ≡ n) × (q ≡ p)
same-refusal e = (cc, cc)

-- a 3 that comes first is spare bytes, or a length past what encloses it, which comes first of the others too
first_three : {A : Type 0} (s : List ℕ) (R : A → Type 0) (m : FaultReading A) (p : ℕ) → Each (Three s) R m → refusal_by (listed m) ≡ reject 3 p → Spare s p ⊎ (Past s p × (refusal_by (others (listed m)) ≡ reject 3 p))
unfolding refusal_by others listed
first_three s R (gives a) p h e = bad_got (sym e)
first_three s R (ends n q) p h e = let z = same-refusal e in inr (subst (Past s) z.1 (h z.0), e)
first_three s R (passes k n q m) p h e = let z = same-refusal e in inl (subst (Spare s) z.1 (h.0 z.0))

other-three : {A : Type 0} (s : List ℕ) (R : A → Type 0) (m : FaultReading A) (p : ℕ) → Each (Three s) R m → refusal_by (others (listed m)) ≡ reject 3 p → Past s p
unfolding refusal_by others listed
other-three s R (gives a) p h e = bad_got (sym e)
other-three s R (ends n q) p h e = let z = same-refusal e in subst (Past s) z.1 (h z.0)
other-three s R (passes k n q m) p h e = other-three s R m p h.1 e

-- ---- the statement

pub first-fault : (s : List ℕ) → FirstFault s
unfolding faults refusal_by others refusal_of
first-fault s =
    let reader = first_of (file_faults s) (parse Lenient s) (file-read s) in
    let mender = other-of _ (file_faults s) (mend_file s) (file-mend s) in
    let by_three : (p : ℕ) → judge Lenient s ≡ reject 3 p → Spare s p ⊎ (Past s p × (refusal_by (others (listed (file_faults s))) ≡ reject 3 p)) = λ p e. first_three s _ (file_faults s) p (file-each s) (sym reader ∙ ap refusal_of (judge-before s 3 p (omega arith) e)) in
    record {
      reader = reader;
      mender = mender;
      judged = λ n p e. judge-stays s n p (whole (parse Lenient s) n p (reader ∙ e));
      judged_by = λ n p l e. sym reader ∙ ap refusal_of (judge-before s n p l e);
      refused = λ n p e room report_room. mend-stays s n p room report_room (whole (mend_file s) n p (mender ∙ e));
      refused_by = λ n p l room report_room e. sym mender ∙ ap refusal_of (mend-before s n p room report_room l e);
      same = λ n p l e room report_room. (
        judge-stays s n p (whole (parse Lenient s) n p (reader ∙ ap refusal_by e)),
        mend-stays s n p room report_room (whole (mend_file s) n p (mender ∙ ap (λ (x : List Fault). refusal_by (others x)) e)),
      );
      three = λ p e. elim (by_three p e) [ inl x ↦ inl x | inr x ↦ inr x.0 ];
      apart = apart s;
      past = λ p e h room report_room. elim (by_three p e) [
        | inl x ↦ absurd (apart s p x h)
        | inr x ↦ mend-stays s 3 p room report_room (whole (mend_file s) 3 p (mender ∙ x.1))
      ];
      only_past = λ p room report_room e. other-three s _ (file_faults s) p (file-each s) (sym mender ∙ ap refusal_of (mend-before s 3 p room report_room (omega arith) e));
    }

-- ---- the report

reads : (o : Result Scene) → refusal_of o ≡ accept tt → (t : Scene) × (o ≡ accept t)
unfolding refusal_of
reads (accept t) e = (t, refl)
reads (reject n p) e = bad_got e

-- what was written is of the edits of a file that can be mended
written : (s : List ℕ) (room report_room : ℕ) (m : Mending) → mend_into room report_room s ≡ accept m → (x : Mended Scene) × (mend_judged s ≡ accept x) × (report_bytes (entries 0 x.edits) ≡ m.report)
unfolding mend_into room_for_both mending
written s room report_room m e =
    by_got (mend_judged s) _ e (λ x ex e₁.
    let y = mending x.edits in
    by-check (leb (length y.file) room) 11 (length y.file) _ e₁ (λ t e₂.
    by-check (leb (length y.report) report_room) 11 (length y.report) _ e₂ (λ u e₃. (x, ex, ap (λ (z : Mending). z.report) (got_inj e₃)))))

empty-read : (l : List ReportEntry) → read_report (report_bytes l) ≡ accept l → report_bytes l ≡ [] → l ≡ []
unfolding read_report items items_in
empty-read l e n = sym (got_inj (sym (ap read_report n) ∙ e))

pub report_tells : (s : List ℕ) → AllBytes s → ReportTellsFaults s
unfolding faults refusal_by
report_tells s a =
    let readable = (mends s a).readable in
    let few = (mends s a).few in
    let told : (x : Mended Scene) → mend_judged s ≡ accept x → Tells (entries 0 x.edits) (faults s) = λ x e. (listed-all _ (file_faults s) (mend_file s) x (file-mend s) (few x e).0).1.tells in
    record {
      told = told;
      report = λ room report_room m e. let (x, ex, er) = written s room report_room m e in (entries 0 x.edits, ap read_report (sym er) ∙ readable x ex, told x ex);
      silent = λ room report_room m e n.
          let (x, ex, er) = written s room report_room m e in
          let none : entries 0 x.edits ≡ [] = empty-read (entries 0 x.edits) (readable x ex) (er ∙ n) in
          let clear : faults s ≡ [] = subst (λ (z : List ReportEntry). Tells z (faults s)) none (told x ex) in
          reads (parse Lenient s) ((first-fault s).reader ∙ ap refusal_by clear);
    }
