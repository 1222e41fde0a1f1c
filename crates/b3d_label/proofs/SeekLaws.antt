-- A chunk looked for: what the answer of `seek` says of the walk.
use Rattle.std.specs.Prelude.{Some, None}
use Rattle.std.specs.Prelude as std
use Rattle.b3d_chunk_walk.specs.declared.Sought.{Sought}
use Prim.Native.Nat.{ℕ, ◌+◌}
use native.Mathlib.Omega.{arith}
use mathlib.Core.Path.{◌≡◌, refl, sym, ◌∙◌}
use mathlib.Core.List.{List}
use Rattle.wire.specs.Cursors.{left}
use Rattle.wire.specs.declared.Cursor.{Cursor}
use Rattle.layout.specs.Chunks.{done, stop, chunk}
use Rattle.layout.specs.Result.{accept}
use Rattle.layout.proofs.ResultLaws.{if_yes, if_no, by_test}
use Rattle.b3d_spec.specs.declared.Tag.{Tag}
use Rattle.b3d_spec.specs.Tags.{Chunks, code, is}
use Rattle.b3d_chunk_walk.specs.Seeks.{seek_of, ahead, Seeks}
use Rattle.b3d_chunk_walk.proofs.SeekLaws.{sought_none, sought_is, sought_among}
use Rattle.b3d_label_spec.specs.Walk.{Refused, first_with}

first-none : (k : Tag) (cs : Chunks) → seek_of k cs ≡ done → Refused (first_with (code k) cs)
unfolding seek_of first_with
first-none k done e = (14, 0, refl)
first-none k (stop n p) e = (n, p, refl)
first-none k (chunk t p b r) e =
    by_test (is t k)
    (λ y. let z = sym (if_yes (is t k) (chunk k p b r) (seek_of k r) y) ∙ e in let w : ◌≡◌ {A = ℕ} 0 1 = cc in absurd (omega arith))
    (λ y. let h = first-none k r (sym (if_no (is t k) (chunk k p b r) (seek_of k r) y) ∙ e) in (h.0, h.1, if_no (is t k) _ _ y ∙ h.2))

first_is : (k : Tag) (cs : Chunks) (q : ℕ) (c : List ℕ) (l : Chunks) → seek_of k cs ≡ chunk k q c l → first_with (code k) cs ≡ accept (q + 8, c)
unfolding seek_of first_with
first_is k done q c l e = let w : ◌≡◌ {A = ℕ} 0 1 = cc in absurd (omega arith)
first_is k (stop n p) q c l e = let w : ◌≡◌ {A = ℕ} 0 1 = cc in absurd (omega arith)
first_is k (chunk t p b r) q c l e =
    by_test (is t k)
    (λ y. let z = sym (if_yes (is t k) (chunk k p b r) (seek_of k r) y) ∙ e in if_yes (is t k) _ _ y ∙ cc)
    (λ y. if_no (is t k) _ _ y ∙ first_is k r q c l (sym (if_no (is t k) (chunk k p b r) (seek_of k r) y) ∙ e))

module _ (s : List ℕ) (c : Cursor) (k : Tag) (r : std.Option Sought) (x : Seeks s c k r) where
  pub first-not : r ≡ None → Refused (first_with (code k) (ahead s c))
  first-not w = first-none k (ahead s c) (sought_none s c k r x w)

  pub first_found : (g : Sought) → r ≡ Some g → first_with (code k) (ahead s c) ≡ accept (g.body.at, left g.body s)
  first_found g w = let f = sought_among s c k r x g w in first_is k (ahead s c) g.at (left g.body s) (ahead s g.next) (sought_is s c k r x g w) ∙ rw f.body
