-- What pieces with mended bodies show: each piece by itself, each body at its own place.
use mathlib.Core.Path.{◌≡◌, refl, ap, ap₂, sym, ◌∙◌}
use Prim.Native.Nat.{ℕ, ◌+◌}
use native.Mathlib.Omega.{arith}
use mathlib.Core.Bool.{Bool, true, false}
use mathlib.Core.List.{List, [], ◌∷◌, ◌++◌}
use lib.ListN.{length}
use Rattle.layout.specs.Chunks.{done, stop, chunk}
use Rattle.b3d_spec.specs.Tags.{Chunks}
use Rattle.b3d_spec.specs.declared.Tag.{Tag}
use Rattle.b3d_mend_spec.specs.Edits.{Edit, keep, was, becomes, before, after, spare_out}
use Rattle.b3d_mend_spec.specs.Pieces.{Pieces, none_left, spare, past, other, known, chunks_of, wrapped, woven}
use Rattle.b3d_mend_spec.specs.Report.{entries, report_bytes}
use Rattle.b3d_mend_spec.proofs.PieceLaws.{Fill}
use Rattle.b3d_mend_spec.proofs.PiecePlaceLaws.{Placed}
use Rattle.b3d_mend_write_spec.specs.Shown.{shown}
use Rattle.b3d_mend_write_spec.proofs.ShowsLaws.{shown-none, shown-cons, shown-append}
use Rattle.b3d_mend_write_scopes.specs.Shown.{headed, shown_pieces}

-- the bodies of chunks, each at its place
abbrev pub shown_bodies : Bool → Chunks → List (List Edit) → List (List ℕ)
shown_bodies report done xs = []
shown_bodies report (stop n p) xs = []
shown_bodies report (chunk t p b r) [] = []
shown_bodies report (chunk t p b r) (x ∷ xs) = shown report (p + 8) x ∷ shown_bodies report r xs

keep_anywhere : (report : Bool) (p q : ℕ) (b : List ℕ) → shown report p (keep b ∷ []) ≡ shown report q (keep b ∷ [])
unfolding shown entries report_bytes
keep_anywhere true p q b = refl
keep_anywhere false p q b = refl

wrapped-shown : (report : Bool) (q : ℕ) (t : Tag) (n : ℕ) (x : List Edit) → shown report q (wrapped t n x) ≡ headed report t (shown report (q + 8) x)
unfolding shown entries report_bytes wrapped headed after becomes
wrapped-shown true q t n x = let e : q + 4 + 4 ≡ q + 8 = omega arith in ap (λ (p : ℕ). report_bytes (entries p x)) e
wrapped-shown false q t n x = refl

wrapped-long : (t : Tag) (n : ℕ) (x : List Edit) → length (before (wrapped t n x)) ≡ 8 + length (before x)
unfolding wrapped before was
wrapped-long t n x = omega arith

pub woven-shown : (report : Bool) (P : Pieces) (q last : ℕ) (xs : List (List Edit)) → Placed q last P → Fill (chunks_of P) xs → shown report q (woven P xs) ≡ shown_pieces report P (shown_bodies report (chunks_of P) xs)
unfolding woven chunks_of shown_pieces was
woven-shown report none_left q last xs k h = shown-none report q
woven-shown report (spare p s) q last xs k h = ap (λ (i : ℕ). shown report i (spare_out s ∷ [])) (sym k.0)
woven-shown report (past p s) q last xs k h = absurd h
woven-shown report (other o r) q last xs k h =
    (shown-cons report q (keep o) (woven r xs)).is ∙ ap₂ ◌++◌ (keep_anywhere report q 0 o) (woven-shown report r (q + length o) last xs k h)
woven-shown report (known t p b r) q last [] k h = absurd h
woven-shown report (known t p b r) q last (x ∷ xs) k h =
    let l : q + length (before (wrapped t (length b) x)) ≡ q + 8 + length b = omega (arith, wrapped-long t (length b) x, ap (λ (z : List ℕ). length z) h.0) in
    (shown-append report q (wrapped t (length b) x) (woven r xs)).is
    ∙ ap₂ ◌++◌ (wrapped-shown report q t (length b) x ∙ ap (λ (i : ℕ). headed report t (shown report (i + 8) x)) (sym k.0))
    (ap (λ (i : ℕ). shown report i (woven r xs)) l ∙ woven-shown report r (q + 8 + length b) last xs k.1 h.2)
