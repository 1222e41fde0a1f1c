-- What edits one after the other show.
use mathlib.Core.Path.{◌≡◌, refl, sym, ap, ap₂, ◌∙◌}
use Prim.Native.Nat.{ℕ, ◌+◌}
use native.Mathlib.Omega.{arith}
use mathlib.Core.Bool.{Bool, true, false}
use mathlib.Core.List.{List, [], ◌∷◌, ◌++◌, append_assoc, append-nil}
use lib.ListN.{length, length-append}
use Rattle.shared_output.proofs.PartLaws.{Both}
use Rattle.shared_seven_bit_groups.specs.Groups.{write_numbers}
use Rattle.shared_seven_bit_groups.proofs.GroupLaws.{numbers-append}
use Rattle.b3d_mend_spec.specs.Edits.{Edit, keep, follow, mend, was, becomes, before, after}
use Rattle.b3d_mend_spec.specs.Report.{ReportEntry, numbers_of, entries, entry_bytes, report_bytes}
use Rattle.b3d_mend_write_spec.specs.Shown.{shown}

entry-append : (e : ReportEntry) (r : List ℕ) → entry_bytes e r ≡ entry_bytes e [] ++ r
unfolding entry_bytes
entry-append e r =
    numbers-append (numbers_of e) (e.before ++ (e.after ++ r))
    ∙ ap (λ (l : List ℕ). write_numbers (numbers_of e) [] ++ l) (ap (λ (l : List ℕ). e.before ++ (l ++ r)) (sym (append-nil e.after)) ∙ sym (append_assoc e.before (e.after ++ []) r))
    ∙ sym (append_assoc (write_numbers (numbers_of e) []) (e.before ++ (e.after ++ [])) r)
    ∙ ap (λ (l : List ℕ). l ++ r) (sym (numbers-append (numbers_of e) (e.before ++ (e.after ++ []))))

pub shown-none : (report : Bool) (p : ℕ) → shown report p [] ≡ []
unfolding shown entries report_bytes after
shown-none true p = refl
shown-none false p = refl

pub shown-cons : (report : Bool) (p : ℕ) (e : Edit) (l : List Edit) → Both (shown report p (e ∷ l)) (shown report p (e ∷ [])) (shown report (p + length (was e)) l)
unfolding shown entries report_bytes after was becomes
shown-cons false p e l = record { is = ap (λ (z : List ℕ). z ++ after l) (sym (append-nil (becomes e))) }
shown-cons true p (keep b) l = record { is = refl }
shown-cons true p (follow n m) l = record { is = refl }
shown-cons true p (mend k b a) l = record { is = entry-append (record { place = p; which = k; before = b; after = a }) (report_bytes (entries (p + length b) l)) }

pub shown-append : (report : Bool) (p : ℕ) (x y : List Edit) → Both (shown report p (x ++ y)) (shown report p x) (shown report (p + length (before x)) y)
unfolding before
shown-append report p [] y = record { is = ap (λ (n : ℕ). shown report n y) (let q : p ≡ p + 0 = omega arith in q) ∙ ap (λ (z : List ℕ). z ++ shown report (p + 0) y) (sym (shown-none report p)) }
shown-append report p (e ∷ x) y =
    let n : p + length (was e) + length (before x) ≡ p + length (was e ++ before x) = omega (arith, length-append (was e) (before x)) in
    record {
      is =
          (shown-cons report p e (x ++ y)).is
          ∙ ap (λ (z : List ℕ). shown report p (e ∷ []) ++ z) (shown-append report (p + length (was e)) x y).is
          ∙ sym (append_assoc (shown report p (e ∷ [])) (shown report (p + length (was e)) x) (shown report (p + length (was e) + length (before x)) y))
          ∙ ap₂ (λ (z : List ℕ) (k : ℕ). z ++ shown report k y) (sym (shown-cons report p e x).is) n;
    }
