-- What is put of the body of a chunk: by the answer of `find_chunks`.
use mathlib.Core.Path.{◌≡◌, refl, sym, ap, subst, ◌∙◌}
use Prim.Native.Nat.{ℕ, ◌+◌, ◌-◌, ◌*◌, ◌<◌, ◌≤◌}
use native.Mathlib.Omega.{arith}
use mathlib.Core.Bool.{Bool}
use mathlib.Core.List.{List, [], ◌∷◌, ◌++◌}
use lib.ListN.{length, take, drop}
use Rattle.wire.specs.Bytes.{word_at}
use Rattle.wire.specs.Cursors.{Inside, left}
use Rattle.wire.specs.declared.Cursor.{Cursor}
use Rattle.layout.specs.Rules.{names_or_none}
use Rattle.shared_output.proofs.PartLaws.{Both}
use Rattle.b3d_spec.specs.declared.Tag.{Tag}
use Rattle.b3d_spec_chunk_places.specs.Places.{Body}
use Rattle.b3d_mend_spec.specs.Edits.{keep}
use Rattle.b3d_mend_spec.specs.Walks.{word_edit}
use Rattle.shared_put_or_count.specs.Emits.{RoomFrom, Emits}
use Rattle.b3d_mend_write_spec.specs.Shown.{shown}
use Rattle.shared_put_or_count.proofs.PutLaws.{emits_none, fits-first, fits-second, emits_both}
use Rattle.b3d_mend_write_scopes.specs.Shown.{ChunkShown, walked, node_scope, mesh_scope, walk_leaf, walk_chunk}
use Rattle.b3d_mend_write_scopes.specs.declared.Scope.{Scope}
use Rattle.b3d_mend_write_leaves.specs.Answers.{Walks}
use Rattle.b3d_mend_write_leaves.specs.declared.Walk.{Walk}
use Rattle.b3d_mend_write_scopes.specs.Opens.{node_front, mesh_front, walk_from, OpensAs, OpeningIs, ScopeOpened}
use Rattle.b3d_mend_write_scopes.specs.declared.Opening.{Opening}
use Rattle.b3d_mend_write_scopes.specs.declared.Opening.TheVariants as opening

pub body-inside : (s : List ℕ) (p : ℕ) (b : Cursor) → Body p b (length s) → Inside b (length s)
body-inside s p b h = record { before = h.room; within = h.within }

-- the same walk under another name
same_walks : {v w : ChunkShown} → v ≡ w → (wet : Bool) (xs : List ℕ) (at : ℕ) (ys : List ℕ) (r : Walk) → Walks wet w xs at ys r → Walks wet v xs at ys r
same_walks e wet xs at ys r g = subst (λ (u : ChunkShown). Walks wet u xs at ys r) (sym e) g

same-fits : {v w : ChunkShown} → v ≡ w → (wet : Bool) (xs : List ℕ) (at : ℕ) → RoomFrom wet v.bytes at xs → RoomFrom wet w.bytes at xs
same-fits e wet xs at f = subst (λ (u : ChunkShown). RoomFrom wet u.bytes at xs) e f

module _ (s : List ℕ) (l : ℕ) (t : Tag) (b : Cursor) (r : Opening) (o : OpeningIs s l t b r) where
  module _ (p : ℕ) (body : Body p b (length s)) (k : Scope) (report wet : Bool) (xs : List ℕ) (at : ℕ) where
    module _ (e : r ≡ opening.Flat) where
      flat : walk_chunk report l k t p (left b s) ≡ walk_leaf report k t p (left b s)
      flat = subst (OpensAs s l t b) e o.is report k p body.head

      pub flat-fits : RoomFrom wet (walk_chunk report l k t p (left b s)).bytes at xs → RoomFrom wet (walk_leaf report k t p (left b s)).bytes at xs
      flat-fits f = same-fits flat wet xs at f

      pub flat-done : (ys : List ℕ) (w : Walk) → Walks wet (walk_leaf report k t p (left b s)) xs at ys w → Walks wet (walk_chunk report l k t p (left b s)) xs at ys w
      flat-done ys w g = same_walks flat wet xs at ys w g

    pub nothing-done : r ≡ opening.Nothing → Walks wet (walk_chunk report l k t p (left b s)) xs at xs (record { at = at; count = 0 })
    nothing-done e =
        same_walks (subst (OpensAs s l t b) e o.is report k p body.head) wet xs at xs (record { at = at; count = 0 })
        (record { put = emits_none wet [] xs at refl; counted = refl })

  module _ (from : Cursor) (e : r ≡ opening.Node from) where
    node_open : ScopeOpened l t s b from (λ h c q. walked (node_front h s b from ++ (walk_from h (l - 1) (node_scope c) s from).bytes) 0)
    node_open = subst (OpensAs s l t b) e o.is

    pub node-levels : 1 ≤ l
    node-levels = omega (arith, node_open.levels)

    pub node-less : (u : ℕ) → 2 * l ≡ u → 2 * (l - 1) + 1 < u
    node-less u z = omega (arith, node_open.levels)

    pub node-order : b.at ≤ from.at
    node-order = node_open.after

    pub node-room : b.at + (from.at - b.at) ≤ length s
    node-room = omega (arith, node_open.after, node_open.inside.before, node_open.inside.within)

    pub node-inside : Inside from (length s)
    node-inside = node_open.inside

    module _ (p : ℕ) (body : Body p b (length s)) (k : Scope) (report wet : Bool) (xs : List ℕ) (at : ℕ) where
      node-both : Both (walk_chunk report l k t p (left b s)).bytes (shown report b.at (keep (take (from.at - b.at) (drop b.at s)) ∷ [])) (walk_from report (l - 1) (node_scope k) s from).bytes
      unfolding node_front
      node-both = record { is = ap (λ (w : ChunkShown). w.bytes) (node_open.always report k p body.head) }

      module _ (f : RoomFrom wet (walk_chunk report l k t p (left b s)).bytes at xs) where
        pub node-first : RoomFrom wet (shown report b.at (keep (take (from.at - b.at) (drop b.at s)) ∷ [])) at xs
        node-first = fits-first node-both wet xs at f

        module _ (ys : List ℕ) (m : ℕ) (g : Emits wet (shown report b.at (keep (take (from.at - b.at) (drop b.at s)) ∷ [])) xs at ys m) (h : Scope) (eh : h ≡ node_scope k) where
          pub node-second : RoomFrom wet (walk_from report (l - 1) h s from).bytes m ys
          node-second = rw eh (fits-second node-both wet xs at ys m g f)

          pub node_done : (zs : List ℕ) (w : Walk) → Walks wet (walk_from report (l - 1) h s from) ys m zs w → Walks wet (walk_chunk report l k t p (left b s)) xs at zs (record { at = w.at; count = 0 })
          node_done zs w i = record {
            put = emits_both node-both wet xs at ys m g zs w.at (subst (λ (c : Scope). Emits wet (walk_from report (l - 1) c s from).bytes ys m zs w.at) eh i.put);
            counted = sym (ap (λ (x : ChunkShown). x.count) (node_open.always report k p body.head));
          }

  module _ (from : Cursor) (e : r ≡ opening.Mesh from) where
    mesh_open : ScopeOpened l t s b from (λ h c q. let x = walk_from h (l - 1) (mesh_scope c) s from in walked (mesh_front h s b c ++ x.bytes) x.count)
    mesh_open = subst (OpensAs s l t b) e o.is

    pub mesh-levels : 1 ≤ l
    mesh-levels = omega (arith, mesh_open.levels)

    pub mesh-less : (u : ℕ) → 2 * l ≡ u → 2 * (l - 1) + 1 < u
    mesh-less u z = omega (arith, mesh_open.levels)

    pub mesh-room : b.at + 4 ≤ length s
    mesh-room = mesh_open.room

    pub mesh-inside : Inside from (length s)
    mesh-inside = mesh_open.inside

    module _ (p : ℕ) (body : Body p b (length s)) (k : Scope) (report wet : Bool) (xs : List ℕ) (at : ℕ) where
      mesh-both : Both (walk_chunk report l k t p (left b s)).bytes (shown report b.at (word_edit (names_or_none k.brushes) (word_at s b.at) ∷ [])) (walk_from report (l - 1) (mesh_scope k) s from).bytes
      unfolding mesh_front
      mesh-both = record { is = ap (λ (w : ChunkShown). w.bytes) (mesh_open.always report k p body.head) }

      module _ (f : RoomFrom wet (walk_chunk report l k t p (left b s)).bytes at xs) where
        pub mesh-first : RoomFrom wet (shown report b.at (word_edit (names_or_none k.brushes) (word_at s b.at) ∷ [])) at xs
        mesh-first = fits-first mesh-both wet xs at f

        module _ (ys : List ℕ) (m : ℕ) (g : Emits wet (shown report b.at (word_edit (names_or_none k.brushes) (word_at s b.at) ∷ [])) xs at ys m) (h : Scope) (eh : h ≡ mesh_scope k) where
          pub mesh-second : RoomFrom wet (walk_from report (l - 1) h s from).bytes m ys
          mesh-second = rw eh (fits-second mesh-both wet xs at ys m g f)

          pub mesh-done : (zs : List ℕ) (w : Walk) → Walks wet (walk_from report (l - 1) h s from) ys m zs w → Walks wet (walk_chunk report l k t p (left b s)) xs at zs w
          mesh-done zs w i = record {
            put = emits_both mesh-both wet xs at ys m g zs w.at (subst (λ (c : Scope). Emits wet (walk_from report (l - 1) c s from).bytes ys m zs w.at) eh i.put);
            counted = i.counted ∙ ap (λ (c : Scope). (walk_from report (l - 1) c s from).count) eh ∙ sym (ap (λ (x : ChunkShown). x.count) (mesh_open.always report k p body.head));
          }
