-- A law for each way through `clear_node`.
use Rattle.std.specs.Prelude.{Some, None}
use Rattle.std.specs.Prelude as std
use Rattle.b3d_chunk_cursor.specs.declared.Named.{Named}
use mathlib.Core.Path.{◌≡◌, refl, ap, sym, subst, ◌∙◌}
use Prim.Native.Nat.{ℕ, zero, suc, ◌+◌, ◌-◌, ◌*◌, ◌≤◌}
use native.Mathlib.Omega.{arith}
use mathlib.Core.List.{List, ◌++◌}
use lib.ListN.{length}
use Rattle.wire.specs.Cursors.{Inside, left}
use Rattle.wire.specs.declared.Cursor.{Cursor}
use Rattle.layout.specs.Parts.{words_of, named as named_of}
use Rattle.shared_output.specs.Writing.{Room, Put}
use Rattle.shared_output.proofs.PartLaws.{none-put}
use Rattle.b3d_spec.specs.Rules.{node_row}
use Rattle.b3d_spec.specs.Tags.{code}
use Rattle.b3d_spec.specs.declared.Tag.TheVariants.{NODE}
use Rattle.b3d_chunk_cursor.specs.Chunks.{named_at, NamedIn}
use Rattle.b3d_chunk_cursor.proofs.NamedLaws.{named-cut, named-any, named-among}
use Rattle.b3d_spec_chunk_places.specs.Places.{Body}
use Rattle.b3d_spec_chunk_places.proofs.HeadLaws.{body-inside}
use Rattle.b3d_clear_spec.specs.Copies.{chunk_of, each, chunks_at, own_copy, node_of, node_copy}

-- with a level left a node goes by its text and words
level : (levels p : ℕ) (b : List ℕ) → (levels ≡ 0 → ⊥) → node_copy levels p b ≡ node_of (node_copy (levels - 1)) (named_of node_row (p + 8) b)
unfolding node_copy
level zero p b h = absurd (h refl)
level (suc l) p b h = let e : suc l - 1 ≡ l = omega arith in rw e

module _ (s : List ℕ) (at : ℕ) (b : Cursor) (body : Body at b (length s)) (levels : ℕ) (out : List ℕ) where
  pub node-none : levels ≡ 0 → Put (node_copy levels at (left b s)) out out 0
  unfolding node_copy
  node-none e = none-put (node_copy levels at (left b s)) out (ap (λ (l : ℕ). node_copy l at (left b s)) e)

  module _ (some : levels ≡ 0 → ⊥) (r : std.Option Named) (er : r ≡ named_at s b 10) where
    pub node-cut : r ≡ None → Put (node_copy levels at (left b s)) out out 0
    unfolding node_of
    node-cut w =
        none-put (node_copy levels at (left b s)) out
        (level levels at (left b s) some ∙ ap (node_of (node_copy (levels - 1))) (ap (λ (p : ℕ). named_of node_row p (left b s)) (sym body.head) ∙ named-cut s b 10 (body-inside s at b body) node_row refl r er w))

    module _ (f : Named) (w : r ≡ Some f) where
      is : node_copy levels at (left b s)
          ≡ chunk_of (code NODE) (own_copy (words_of 10 (left f.row s)) (chunks_at s f.next) ++ each NODE (node_copy (levels - 1)) (chunks_at s f.next))
      unfolding node_of
      is = level levels at (left b s) some ∙ ap (node_of (node_copy (levels - 1))) (ap (λ (p : ℕ). named_of node_row p (left b s)) (sym body.head) ∙ named-any s b 10 (body-inside s at b body) r er f w)

      pub node-room : Room (node_copy levels at (left b s)) out
          → Room (chunk_of (code NODE) (own_copy (words_of 10 (left f.row s)) (chunks_at s f.next) ++ each NODE (node_copy (levels - 1)) (chunks_at s f.next))) out
      node-room q = subst (λ (x : List ℕ). Room x out) is q

      pub node_done : (ys : List ℕ) (n : ℕ) → Put (chunk_of (code NODE) (own_copy (words_of 10 (left f.row s)) (chunks_at s f.next) ++ each NODE (node_copy (levels - 1)) (chunks_at s f.next))) out ys n
          → Put (node_copy levels at (left b s)) out ys n
      node_done ys n q = subst (λ (x : List ℕ). Put x out ys n) (sym is) q

  module _ (r : std.Option Named) (ir : NamedIn b 10 r) (g : Named) (w : r ≡ Some g) where
    pub node_row_is : Inside g.row (length s)
    node_row_is = let f = named-among b 10 r ir g w in record { before = omega arith; within = omega (arith, body.within) }

    pub node-words : g.row.at + 4 * 10 ≤ g.row.end
    node-words = let f = named-among b 10 r ir g w in omega arith

    pub node-next : Inside g.next (length s)
    node-next = let f = named-among b 10 r ir g w in record { before = f.to; within = omega (arith, body.within) }

pub ruleset node_laws = (body-inside, node-none, node-cut, node-room, node_done, node_row_is, node-words, node-next)
