-- One chunk of a kind, if it comes first: what `read_one` gives, by what `next_chunk` finds.
use mathlib.Core.Path.{refl, ap, ◌≡◌, ◌∙◌}
use Prim.Native.Nat.{ℕ}
use mathlib.Core.Option.{some}
use mathlib.Core.List.{List}
use lib.Dec.{T}
use types.Run.{OneOf}
use denote.Enum.Declared.{tag_of}
use Rattle.wire.specs.Test.{if}
use Rattle.wire.specs.Cursors.{left}
use Rattle.wire.specs.declared.Cursor.{Cursor}
use Rattle.layout.specs.Result.{Result, accept, ◌>>=◌}
use Rattle.layout.specs.Chunks.{done, chunk}
use Rattle.layout.proofs.ResultLaws.{if_yes, if_no}
use Rattle.b3d_spec.specs.declared.Tag.{Tag}
use Rattle.b3d_spec.specs.declared.Tag.TheVariants.{BB3D}
use Rattle.b3d_spec.specs.Tags.{is}
use Rattle.b3d_spec.specs.Nesting.{nesting, Reached, next as next_turn, onward, order}
use Rattle.b3d_spec.specs.Parse.{read_one}
use Rattle.b3d_spec.specs.contracts.Tag.{the_type}
use Rattle.b3d_chunk_cursor.specs.Chunks.{NextIs}
use Rattle.b3d_chunk_cursor.specs.declared.Next.{Next}
use Rattle.b3d_chunk_cursor.specs.declared.Next.TheVariants as next
use Rattle.b3d_spec_chunk_places.specs.Places.{rest_in}
use Rattle.b3d_chunk_next_allowed.proofs.RestLaws.{rest-chunk, rest-done}
use Rattle.b3d_spec_chunk_places.proofs.TagTestLaws.{plain, plain_here}

-- nothing is owed at the end of a BB3D
file-done : (q : Reached) → order BB3D 0 q done ≡ done
unfolding order if
file-done q = refl

-- before the chunk the state q, after it or without it the state z
module _ (s : List ℕ) (from : Cursor) (r : Next) (x : NextIs s from r) {A : Type 0} (k : Tag) (a : A) (one : ℕ → List ℕ → Result A) (q z : Reached) where
  pub one-done : r ≡ next.Done → read_one k a one (rest_in s BB3D 0 q from) ≡ accept (record { value = a; rest = rest_in s BB3D 0 z from })
  unfolding read_one
  one-done w = rw (rest-done s from r x BB3D 0 q w, rest-done s from r x BB3D 0 z w, file-done q, file-done z)

  module _ (t : Tag) (p : ℕ) (b n : Cursor) (w : r ≡ next.Chunk t p b n) where
    pub one_plain : (ks : List ℕ) → OneOf ks (tag_of the_type t) → T (plain BB3D (λ u. is u k) q z ks) → (y : Reached) → next_turn (nesting BB3D) (nesting BB3D) q t ≡ some y
        → read_one k a one (rest_in s BB3D 0 q from) ≡ accept (record { value = a; rest = rest_in s BB3D 0 z from })
    unfolding read_one onward
    one_plain ks o h y g =
        let f = plain_here BB3D (λ u. is u k) q z ks h t o y g in
        let e₁ = rest-chunk s from r x BB3D 0 q t p b n w ∙ ap (λ g. onward g p (λ y. chunk t p (left b s) (rest_in s BB3D 0 y n))) f.1.first in
        let e₂ = rest-chunk s from r x BB3D 0 z t p b n w ∙ ap (λ g. onward g p (λ y. chunk t p (left b s) (rest_in s BB3D 0 y n))) f.1.second in
        rw (e₁, e₂) (if_no (is t k) _ _ f.0)

    pub one-read : t ≡ k → next_turn (nesting BB3D) (nesting BB3D) q k ≡ some z → T (is k k)
        → read_one k a one (rest_in s BB3D 0 q from) ≡ (one p (left b s) >>= λ y. accept (record { value = y; rest = rest_in s BB3D 0 z n }))
    unfolding read_one onward
    one-read e g h = rw (rest-chunk s from r x BB3D 0 q t p b n w, e, g) (if_yes (is k k) _ _ h)
