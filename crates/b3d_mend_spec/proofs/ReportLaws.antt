-- The report: how long it is, that it is bytes, and that it can be read.
use mathlib.Core.Path.{◌≡◌, refl, ap, sym, ◌∙◌, subst}
use mathlib.Core.Logic.{inl, inr}
use Prim.Native.Nat.{ℕ, zero, suc, ◌+◌, ◌*◌, ◌<◌, ◌≤◌}
use native.Mathlib.Omega.{arith}
use mathlib.Core.List.{List, [], ◌∷◌, ◌++◌}
use lib.ListN.{length, length-append}
use lib.Seq.{take-append_seam, drop-append_seam}
use lib.Dec.{leb, le→leb}
use Rattle.wire.specs.Bytes.{bytes, AllBytes}
use Rattle.wire.proofs.WordLaws.{append-bytes}
use Rattle.shared_seven_bit_groups.specs.Groups.{AtMost, groups, write_numbers}
use Rattle.shared_seven_bit_groups.proofs.GroupLaws.{count_is, groups-length, groups-most}
use Rattle.shared_seven_bit_groups.proofs.NumberLaws.{word-groups}
use Rattle.shared_seven_bit_groups.proofs.Laws.{numbers-back}
use Rattle.layout.specs.Counted.{run}
use Rattle.layout.specs.Result.{Result, accept, ◌>>=◌}
use Rattle.layout.specs.Parts.{Step, items_in, items}
use Rattle.layout.specs.Rules.{NONE}
use Rattle.layout.proofs.AllLaws.{All}
use Rattle.layout.proofs.ResultLaws.{check-yes}
use Rattle.b3d_mend_spec.specs.Edits.{Edit, keep, follow, mend, was, becomes, before, after}
use Rattle.b3d_mend_spec.specs.Four.{OfFour}
use Rattle.b3d_mend_spec.specs.Report.{ReportEntry, entries, numbers_of, entry_bytes, report_bytes, most_of, read_entry, read_report}
use Rattle.b3d_mend_spec.proofs.EditLaws.{Small}

-- ---- what a mend may be

record Sizes (k : ℕ) (b a : List ℕ) : Type 0 where
  which : k ≤ 4
  some : 1 ≤ length b
  few : length b ≤ 12
  less : length a ≤ 4
  new : AllBytes a

four_bytes : (n : ℕ) → AllBytes (bytes n [])
four_bytes n = (omega arith, (omega arith, (omega arith, (omega arith, tt))))

sizes : (k : ℕ) (b a : List ℕ) → OfFour (mend k b a) → Sizes k b a
sizes k b a (inl h) =
    record { which = omega (arith, h.0); some = omega (arith, h.1); few = omega (arith, h.1); less = omega (arith, ap length h.2.1); new = subst AllBytes (sym h.2.1) (four_bytes h.2.0) }
sizes k b a (inr (inl h)) =
    record { which = omega (arith, h.0); some = omega (arith, h.1); few = omega (arith, h.1); less = omega (arith, ap length h.2); new = subst AllBytes (sym h.2) (four_bytes NONE) }
sizes k b a (inr (inr (inl (e, inl n, z)))) = record { which = omega arith; some = omega arith; few = omega arith; less = omega (arith, ap length z); new = subst AllBytes (sym z) tt }
sizes k b a (inr (inr (inl (e, inr n, z)))) = record { which = omega arith; some = omega arith; few = omega arith; less = omega (arith, ap length z); new = subst AllBytes (sym z) tt }
sizes k b a (inr (inr (inr h))) = record { which = omega (arith, h.0); some = h.1; few = omega (arith, h.2); less = omega (arith, ap length h.3); new = subst AllBytes (sym h.3) tt }

-- ---- the mended file is bytes

left-bytes : (a b : List ℕ) → AllBytes (a ++ b) → AllBytes a
left-bytes [] b h = tt
left-bytes (x ∷ a) b h = (h.0, left-bytes a b h.1)

right-bytes : (a b : List ℕ) → AllBytes (a ++ b) → AllBytes b
right-bytes [] b h = h
right-bytes (x ∷ a) b h = right-bytes a b h.1

pub after-bytes : (x : List Edit) → All Small x → AllBytes (before x) → AllBytes (after x)
unfolding before after was becomes
after-bytes [] h a = tt
after-bytes (keep b ∷ x) h a = append-bytes b (after x) (left-bytes b (before x) a) (after-bytes x h.1 (right-bytes b (before x) a))
after-bytes (follow n m ∷ x) h a = append-bytes (bytes m []) (after x) (four_bytes m) (after-bytes x h.1 (right-bytes (bytes n []) (before x) a))
after-bytes (mend k b c ∷ x) h a = append-bytes c (after x) (sizes k b c h.0.four).new (after-bytes x h.1 (right-bytes b (before x) a))

-- ---- how long it is

abbrev Told : ReportEntry → Type 0
Told e = AtMost most_of (numbers_of e)

told : (p k : ℕ) (b a : List ℕ) → OfFour (mend k b a) → p ≤ 4294967295 → Told (record { place = p; which = k; before = b; after = a })
told p k b a h i = let z = sizes k b a h in (i, (z.which, (z.few, (z.less, tt))))

pub entries-told : (x : List Edit) (p : ℕ) → All Small x → p + length (before x) ≤ 4294967295 → All Told (entries p x)
unfolding entries before was
entries-told [] p h n = tt
entries-told (keep b ∷ x) p h n = entries-told x (p + length b) h.1 (omega (arith, length-append b (before x)))
entries-told (follow i j ∷ x) p h n = entries-told x (p + 4) h.1 (omega arith)
entries-told (mend k b a ∷ x) p h n = (told p k b a h.0.four (omega arith), entries-told x (p + length b) h.1 (omega (arith, length-append b (before x))))

entry-size : (e : ReportEntry) (r : List ℕ) → Told e → 1 ≤ length e.before → length e.after ≤ length e.before → length (entry_bytes e r) ≤ 10 * length e.before + length r
unfolding entry_bytes write_numbers
entry-size e r t some less =
    let l = e.before ++ (e.after ++ r) in
    let n₁ = length-append e.before (e.after ++ r) in
    let n₂ = length-append e.after r in
    let g₃ = groups-length (length e.after) l in
    let g₂ = groups-length (length e.before) (groups (length e.after) l) in
    let g₁ = groups-length e.which (groups (length e.before) (groups (length e.after) l)) in
    let g₀ = groups-length e.place (groups e.which (groups (length e.before) (groups (length e.after) l))) in
    let c₀ = word-groups e.place (omega (arith, t.0)) in
    let c₁ = groups-most 0 e.which (omega (arith, t.1.0)) in
    let c₂ = groups-most 0 (length e.before) (omega (arith, t.1.1.0)) in
    let c₃ = groups-most 0 (length e.after) (omega (arith, t.1.1.1.0)) in
    omega arith

pub report-least : (x : List Edit) (p : ℕ) → All Small x → p + length (before x) ≤ 4294967295 → length (report_bytes (entries p x)) ≤ 10 * length (before x)
unfolding entries before was becomes report_bytes
report-least [] p h n = omega arith
report-least (keep b ∷ x) p h n = omega (arith, length-append b (before x), report-least x (p + length b) h.1 (omega (arith, length-append b (before x))))
report-least (follow i j ∷ x) p h n = omega (arith, report-least x (p + 4) h.1 (omega arith))
report-least (mend k b a ∷ x) p h n =
    let q = report-least x (p + length b) h.1 (omega (arith, length-append b (before x))) in
    let z = sizes k b a h.0.four in
    let m = h.0.less in
    let y = entry-size (record { place = p; which = k; before = b; after = a }) (report_bytes (entries (p + length b) x)) (told p k b a h.0.four (omega arith)) z.some m in
    omega (arith, length-append b (before x))

-- ---- it can be read

run-all : (b r : List ℕ) (p : ℕ) → run (length b) p (b ++ r) ≡ accept (record { value = b; place = p + length b; left = r })
unfolding run
run-all b r p =
    let n : length b ≤ length (b ++ r) = omega (arith, length-append b r) in
    rw (check-yes (leb (length b) (length (b ++ r))) 5 p (le→leb (length b) (length (b ++ r)) n), take-append_seam b r, drop-append_seam b r)

pub entry-back : (e : ReportEntry) (p : ℕ) (r : List ℕ) → Told e → (q : ℕ) × (read_entry p (entry_bytes e r) ≡ accept (record { value = e; place = q; left = r }))
unfolding read_entry entry_bytes
entry-back e p r t =
    let (q, f) = numbers-back most_of (numbers_of e) t p (e.before ++ (e.after ++ r)) in
    (q + length e.before + length e.after, rw (f, run-all e.before (e.after ++ r) q, run-all e.after r (q + length e.before)))

one_more : {A : Type 0} (item : ℕ → List ℕ → Result (Step A)) (f p : ℕ) (s : List ℕ) → 0 < length s → items_in (suc f) item p s ≡ (item p s >>= λ x. items_in f item x.place x.left >>= λ l. accept (x.value ∷ l))
unfolding items_in
one_more item f p [] h = absurd (omega arith)
one_more item f p (c ∷ s) h = refl

-- an entry has its own bytes before what follows
entry_more : (e : ReportEntry) (r : List ℕ) → length r < length (entry_bytes e r)
unfolding entry_bytes write_numbers
entry_more e r =
    let l = e.before ++ (e.after ++ r) in
    let n₁ = length-append e.before (e.after ++ r) in
    let n₂ = length-append e.after r in
    let g₃ = groups-length (length e.after) l in
    let g₂ = groups-length (length e.before) (groups (length e.after) l) in
    let g₁ = groups-length e.which (groups (length e.before) (groups (length e.after) l)) in
    let g₀ = groups-length e.place (groups e.which (groups (length e.before) (groups (length e.after) l))) in
    omega (arith, count_is e.place)

in_back : (l : List ReportEntry) (f p : ℕ) → length (report_bytes l) ≤ f → All Told l → items_in f read_entry p (report_bytes l) ≡ accept l
unfolding report_bytes items_in
in_back [] zero p n h = refl
in_back [] (suc f) p n h = refl
in_back (e ∷ l) zero p n h = absurd (omega (arith, entry_more e (report_bytes l)))
in_back (e ∷ l) (suc f) p n h =
    let m = entry_more e (report_bytes l) in
    let (q, b) = entry-back e p (report_bytes l) h.0 in
    one_more read_entry f p (entry_bytes e (report_bytes l)) (omega arith) ∙ rw (b, in_back l f q (omega arith) h.1)

pub report-back : (l : List ReportEntry) → All Told l → read_report (report_bytes l) ≡ accept l
unfolding read_report items
report-back l h = in_back l (length (report_bytes l)) 0 (omega arith) h
