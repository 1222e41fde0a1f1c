-- A law for each way through `clear_textures` and `clear_brushes`.
use Rattle.std.specs.Prelude.{Some, None}
use Rattle.std.specs.Prelude as std
use mathlib.Core.Path.{◌≡◌, refl, ap, sym, subst, ◌∙◌}
use Prim.Native.Nat.{ℕ, ◌+◌, ◌<◌, ◌≤◌}
use native.Mathlib.Omega.{arith}
use mathlib.Core.List.{List, [], ◌∷◌}
use lib.ListN.{length}
use Rattle.wire.specs.Bytes.{bytes}
use Rattle.wire.specs.Cursors.{Inside, left, number_at}
use Rattle.wire.specs.declared.Cursor.{Cursor}
use Rattle.wire.proofs.LeftLaws.{left-length, left-nil}
use Rattle.layout.specs.Rules.{up_to}
use Rattle.shared_output.specs.Writing.{Room, Put}
use Rattle.shared_output.proofs.PartLaws.{none-put}
use Rattle.b3d_spec.specs.Tags.{code}
use Rattle.b3d_spec.specs.declared.Tag.TheVariants.{TEXS, BRUS}
use Rattle.b3d_spec_chunk_places.specs.Places.{Body}
use Rattle.b3d_spec_chunk_places.proofs.HeadLaws.{body-inside, head_cut, head-inside, head_over, head-within}
use Rattle.b3d_clear_spec.specs.Copies.{chunk_of, unnamed_items, if_any, texs_copy, brus_of, brus_copy}

some_bytes : (b w : List ℕ) → 0 < length b → if_any b w ≡ w
unfolding if_any
some_bytes [] w h = absurd (omega arith)
some_bytes (c ∷ b) w h = refl

-- ---- TEXS

module _ (s : List ℕ) (at : ℕ) (b : Cursor) (body : Body at b (length s)) (out : List ℕ) where
  pub texs_inside : Inside b (length s)
  texs_inside = body-inside s at b body

  pub texs_none : b.end ≤ b.at → Put (texs_copy at (left b s)) out out 0
  unfolding texs_copy if_any
  texs_none h = none-put (texs_copy at (left b s)) out (ap (texs_copy at) (left-nil s b h))

  module _ (h : b.at < b.end) where
    texs_is : texs_copy at (left b s) ≡ chunk_of (code TEXS) (unnamed_items 7 b.at (left b s))
    unfolding texs_copy
    texs_is = some_bytes (left b s) _ (omega (arith, left-length s b texs_inside)) ∙ rw body.head

    pub texs_room : Room (texs_copy at (left b s)) out → Room (chunk_of (code TEXS) (unnamed_items 7 b.at (left b s))) out
    texs_room r = subst (λ (w : List ℕ). Room w out) texs_is r

    pub texs_done : (ys : List ℕ) (n : ℕ) → Put (chunk_of (code TEXS) (unnamed_items 7 b.at (left b s))) out ys n → Put (texs_copy at (left b s)) out ys n
    texs_done ys n w = subst (λ (x : List ℕ). Put x out ys n) (sym texs_is) w

pub ruleset texs_laws = (texs_inside, texs_none, texs_room, texs_done)

-- ---- BRUS, by the number that stands first

module _ (s : List ℕ) (at : ℕ) (b : Cursor) (body : Body at b (length s)) (out : List ℕ) (r : std.Option (ℕ × Cursor)) (e : r ≡ number_at s b) where
  pub brus_cut : r ≡ None → Put (brus_copy at (left b s)) out out 0
  unfolding brus_copy brus_of
  brus_cut w = none-put (brus_copy at (left b s)) out (ap brus_of (head_cut s at b body r e (up_to 8) w))

  module _ (k : ℕ) (c : Cursor) (w : r ≡ Some (k, c)) where
    pub list_inside : Inside c (length s)
    list_inside = head-inside s at b body r e k c w

    pub brus_over : 8 < k → Put (brus_copy at (left b s)) out out 0
    unfolding brus_copy brus_of
    brus_over h = none-put (brus_copy at (left b s)) out (ap brus_of (head_over s at b body r e k c w 8 h))

    module _ (h : k ≤ 8) where
      pub brus_none : c.end ≤ c.at → Put (brus_copy at (left b s)) out out 0
      unfolding brus_copy brus_of if_any
      brus_none z = none-put (brus_copy at (left b s)) out (ap brus_of (head-within s at b body r e k c w 8 h) ∙ rw (left-nil s c z))

      module _ (z : c.at < c.end) where
        brus_is : brus_copy at (left b s) ≡ chunk_of (code BRUS) (bytes k (unnamed_items (7 + k) c.at (left c s)))
        unfolding brus_copy brus_of
        brus_is = ap brus_of (head-within s at b body r e k c w 8 h) ∙ some_bytes (left c s) _ (omega (arith, left-length s c list_inside))

        module _ (slots : ℕ) (es : slots ≡ k) where
          same : brus_copy at (left b s) ≡ chunk_of (code BRUS) (bytes k (unnamed_items (7 + slots) c.at (left c s)))
          same = rw es brus_is

          pub brus_few : 7 + slots ≤ 64
          brus_few = omega arith

          pub brus_room : Room (brus_copy at (left b s)) out → Room (chunk_of (code BRUS) (bytes k (unnamed_items (7 + slots) c.at (left c s)))) out
          brus_room q = subst (λ (x : List ℕ). Room x out) same q

          pub brus_done : (ys : List ℕ) (n : ℕ) → Put (chunk_of (code BRUS) (bytes k (unnamed_items (7 + slots) c.at (left c s)))) out ys n → Put (brus_copy at (left b s)) out ys n
          brus_done ys n q = subst (λ (x : List ℕ). Put x out ys n) (sym same) q

pub ruleset brus_laws = (texs_inside, brus_cut, list_inside, brus_over, brus_none, brus_few, brus_room, brus_done)
