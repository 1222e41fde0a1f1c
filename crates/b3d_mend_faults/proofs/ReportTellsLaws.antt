-- Edits of the bytes from one place to another, and the faults that their entries are of; the edits of chunks inside a chunk, woven into what stands there.
use mathlib.Core.Logic.{inr}
use mathlib.Core.Path.{◌≡◌, refl, ap, sym, ◌∙◌, subst}
use Prim.Native.Nat.{ℕ, ◌+◌}
use native.Mathlib.Omega.{arith}
use mathlib.Core.Bool.{Bool, true, false}
use mathlib.Core.Option.{Option, none, some}
use mathlib.Core.List.{List, [], ◌∷◌, ◌++◌, append_assoc, append-nil}
use lib.ListN.{length, length-append}
use Rattle.wire.specs.Bytes.{bytes}
use Rattle.wire.specs.Test.{if}
use Rattle.b3d_spec.specs.declared.Tag.{Tag}
use Rattle.b3d_spec.specs.Nesting.{nesting, Reached, start, required_between, end, next}
use Rattle.b3d_spec.specs.Tags.{code}
use Rattle.b3d_mend_spec.specs.Edits.{Edit, keep, follow, mend, was, before, after}
use Rattle.b3d_mend_spec.specs.Pieces.{Pieces, none_left, spare, past, other, known, pieces, wrapped, woven}
use Rattle.b3d_mend_spec.specs.Report.{ReportEntry, entries}
use Rattle.b3d_mend_spec.proofs.EditLaws.{before-append}
use Rattle.b3d_mend_spec.proofs.PiecePlaceLaws.{Placed, pieces-placed}
use Rattle.b3d_mend_spec.proofs.StepLaws.{entries-append}
use Rattle.b3d_mend_faults.specs.Faults.{Fault, mendable, ChunkFaults, finished, refused, spare_at, chunk_at, found, onward_from, in_order, within}
use Rattle.b3d_mend_faults.specs.ReportTells.{Fixes, Tells}

-- ---- entries one after the other

tells_append : (l m : List ReportEntry) (f g : List Fault) → Tells l f → Tells m g → Tells (l ++ m) (f ++ g)
tells_append [] m f g h k = subst (λ (z : List Fault). Tells m (z ++ g)) (sym h) k
tells_append (e ∷ l) m f g h k =
    (h.0, h.1 ++ g, ap (λ (z : List Fault). z ++ g) h.2 ∙ append_assoc h.0 h.1 g, h.3, tells_append l m h.1 g h.4 k)

-- the edits x are of the bytes from place p up to q, and their entries are of the faults l
pub record Made (p q : ℕ) (x : List Edit) (l : List Fault) : Type 0 where
  pub tells : Tells (entries p x) l
  pub ends : p + length (before x) ≡ q

pub made_append : (p q r : ℕ) (x y : List Edit) (f g : List Fault) → Made p q x f → Made q r y g → Made p r (x ++ y) (f ++ g)
made_append p q r x y f g h k =
    record {
      tells =
          subst (λ (z : List ReportEntry). Tells z (f ++ g)) (sym (entries-append x y p))
          (tells_append (entries p x) (entries (p + length (before x)) y) f g h.tells (subst (λ (z : ℕ). Tells (entries z y) g) (sym h.ends) k.tells));
      ends =
          let e : length (before (x ++ y)) ≡ length (before x ++ before y) = ap (λ (z : List ℕ). length z) (before-append x y) in
          omega (arith, e, length-append (before x) (before y), h.ends, k.ends);
    }

pub made_none : (p q : ℕ) → p ≡ q → Made p q [] []
unfolding entries before
made_none p q e = record { tells = refl; ends = omega arith }

pub keep_made : (p q : ℕ) (b : List ℕ) → p + length b ≡ q → Made p q (keep b ∷ []) []
unfolding entries before was
keep_made p q b e = record { tells = refl; ends = omega (arith, length-append b []) }

pub follow_made : (p q n m : ℕ) → p + 4 ≡ q → Made p q (follow n m ∷ []) []
unfolding entries before was
follow_made p q n m e = record { tells = refl; ends = omega arith }

pub mend_made : (p q k : ℕ) (b a : List ℕ) (l : List Fault) → p + length b ≡ q → Fixes (record { place = p; which = k; before = b; after = a }) l → Made p q (mend k b a ∷ []) l
unfolding entries before was
mend_made p q k b a l e h = record { tells = (l, [], sym (append-nil l), h, refl); ends = omega (arith, length-append b []) }

-- ---- chunks inside a chunk

-- the edits xs are of the bodies of all these chunks, one for each, and their entries, with spare bytes', are of the faults l
abbrev pub Told : ChunkFaults → List (List Edit) → List Fault → Type 0
Told finished xs l = (xs ≡ []) × (l ≡ [])
Told (refused n p) xs l = ⊥
Told (spare_at p w) xs l = (g : List Fault) × (l ≡ mendable 4 3 p ∷ g) × Told w xs g
Told (chunk_at t p b w) xs l =
    (x : List Edit) × (ys : List (List Edit)) × (f : List Fault) × (g : List Fault) × (xs ≡ x ∷ ys) × (l ≡ f ++ g) × Made (p + 8) (p + 8 + length b) x f × Told w ys g

module _ (k : Tag) (head : ℕ) where
  -- behind the last chunk
  none_told : (c : Bool) (xs : List (List Edit)) (l : List Fault) → Told (if c (refused 8 head) finished) xs l → l ≡ []
  unfolding if
  none_told true xs l h = absurd h
  none_told false xs l h = h.1

  onward-told : (o : Option Reached) (t : Tag) (p : ℕ) (b : List ℕ) (w : Reached → ChunkFaults) (xs : List (List Edit)) (l : List Fault) → Told (onward_from o p (λ q. chunk_at t p b (w q))) xs l
      → (r : Reached) × Told (chunk_at t p b (w r)) xs l
  unfolding onward_from
  onward-told none t p b w xs l h = absurd h
  onward-told (some r) t p b w xs l h = (r, h)

  woven_made : (P : Pieces) (r : Reached) (p q : ℕ) (xs : List (List Edit)) (l : List Fault) → Placed p q P → Told (in_order k head r (found P)) xs l → Made p q (woven P xs) l
  unfolding in_order found woven wrapped
  woven_made none_left r p q xs l s h = subst (Made p q []) (sym (none_told (required_between (nesting k) r.turn end) xs l h)) (made_none p q s)
  woven_made (spare i b) r p q xs l s h =
      let e : l ≡ mendable 4 3 i ∷ [] = h.1 ∙ ap (λ (z : List Fault). mendable 4 3 i ∷ z) (none_told (required_between (nesting k) r.turn end) xs h.0 h.2) in
      let d : l ≡ mendable 4 3 p ∷ [] = e ∙ ap (λ (z : ℕ). mendable 4 3 z ∷ []) s.0 in
      mend_made p q 4 b [] l s.1 (inr (inr (inr (refl, d))))
  woven_made (past i b) r p q xs l s h = absurd h
  woven_made (other o P) r p q xs l s h = made_append p (p + length o) q (keep o ∷ []) (woven P xs) [] l (keep_made p (p + length o) o refl) (woven_made P r (p + length o) q xs l s h)
  woven_made (known t i b P) r p q xs l s h =
      let (v, (x, ys, f, g, ex, el, hx, hw)) = onward-told (next (nesting k) (nesting k) r t) t i b (λ v. in_order k head v (found P)) xs l h in
      let mx : Made (p + 8) (p + 8 + length b) x f = subst (λ (z : ℕ). Made (z + 8) (z + 8 + length b) x f) s.0 hx in
      let all : Made p q (wrapped t (length b) x ++ woven P ys) (f ++ g) =
      made_append p (p + 4) q (keep (bytes (code t) []) ∷ []) _ [] (f ++ g) (keep_made p (p + 4) (bytes (code t) []) refl)
      (made_append (p + 4) (p + 8) q (follow (length b) (length (after x)) ∷ []) _ [] (f ++ g) (follow_made (p + 4) (p + 8) (length b) (length (after x)) (omega arith))
      (made_append (p + 8) (p + 8 + length b) q x (woven P ys) f g mx (woven_made P v (p + 8 + length b) q ys g s.1 hw))) in
      subst (λ (z : List (List Edit)). Made p q (woven (known t i b P) z) l) (sym ex) (subst (Made p q (wrapped t (length b) x ++ woven P ys)) (sym el) all)

  -- what stands in a chunk from place q on, with the edits of its chunks
  pub within_made : (p q last : ℕ) (s t : List ℕ) (xs : List (List Edit)) (l : List Fault) → q ≡ p → t ≡ s → q + length t ≡ last → Told (within k head p s) xs l → Made q last (woven (pieces q t) xs) l
  unfolding within
  within_made p q last s t xs l ep es e h =
      woven_made (pieces q t) start q last xs l (pieces-placed q last t e)
      (subst (λ (z : List ℕ). Told (within k head q z) xs l) (sym es) (subst (λ (z : ℕ). Told (within k head z s) xs l) (sym ep) h))
