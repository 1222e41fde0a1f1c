-- A law for each way through the functions of a chunk that holds no chunks.
use mathlib.Core.Path.{◌≡◌, refl, sym, ap, ◌∙◌}
use Prim.Native.Nat.{ℕ, ◌+◌, ◌<◌}
use native.Mathlib.Omega.{arith}
use mathlib.Core.Bool.{Bool}
use mathlib.Core.List.{List, [], ◌∷◌}
use lib.ListN.{length}
use Rattle.wire.specs.Cursors.{Inside, left}
use Rattle.wire.specs.declared.Cursor.{Cursor}
use Rattle.b3d_spec.specs.declared.Mode.TheVariants.{Lenient}
use Rattle.b3d_spec.specs.Parse.{read_textures, read_brushes, read_vertices}
use Rattle.b3d_spec.specs.declared.Tag.{Tag}
use Rattle.b3d_spec.specs.declared.Tag.TheVariants.{BB3D, TEXS, BRUS, NODE, MESH, VRTS, TRIS, BONE, KEYS, ANIM}
use Rattle.b3d_spec_chunk_places.specs.Places.{Body}
use Rattle.b3d_mend_spec.specs.Edits.{keep}
use Rattle.b3d_mend_spec.specs.Trees.{textures_of, vertices_of}
use Rattle.b3d_mend_spec.specs.Walks.{tris_edits, bone_edits, brus_edits}
use Rattle.shared_put_or_count.specs.Emits.{RoomFrom, Emits}
use Rattle.b3d_mend_write_spec.specs.Shown.{shown}
use Rattle.shared_put_or_count.proofs.PutLaws.{fits-same, emits_same}
use Rattle.b3d_mend_judge_items.specs.Lax.{every}
use Rattle.b3d_mend_write_scopes.specs.Shown.{walk_leaf, brush_count}
use Rattle.b3d_mend_write_scopes.specs.declared.Scope.{Scope}
use Rattle.b3d_mend_write_leaves.specs.Answers.{leaf_count, Walks}

-- ---- what a chunk shows

as_it_stands : (report : Bool) (k : Scope) (t : Tag) → (t ≡ BRUS → ⊥) → (t ≡ TRIS → ⊥) → (t ≡ BONE → ⊥) → (p : ℕ) (b : List ℕ) → (walk_leaf report k t p b).bytes ≡ shown report (p + 8) (keep b ∷ [])
unfolding walk_leaf
as_it_stands report k BB3D x y z p b = refl
as_it_stands report k TEXS x y z p b = refl
as_it_stands report k BRUS x y z p b = absurd (x refl)
as_it_stands report k NODE x y z p b = refl
as_it_stands report k MESH x y z p b = refl
as_it_stands report k VRTS x y z p b = refl
as_it_stands report k TRIS x y z p b = absurd (y refl)
as_it_stands report k BONE x y z p b = absurd (z refl)
as_it_stands report k KEYS x y z p b = refl
as_it_stands report k ANIM x y z p b = refl

pub leaf-inside : (s : List ℕ) (p : ℕ) (b : Cursor) → Body p b (length s) → Inside b (length s)
leaf-inside s p b h = record { before = h.room; within = h.within }

pub leaf-small : (s : List ℕ) (p : ℕ) (b : Cursor) → Body p b (length s) → length s < 4294967296
leaf-small s p b h = omega (arith, h.small)

module _ (s : List ℕ) (t : Tag) (p : ℕ) (b : Cursor) (body : Body p b (length s)) (k : Scope) (report wet : Bool) (xs : List ℕ) (at : ℕ) where
  abbrev All : List ℕ
  All = (walk_leaf report k t p (left b s)).bytes

  module _ (e : t ≡ BRUS) where
    brus : All ≡ shown report b.at (brus_edits k.textures p (left b s))
    unfolding walk_leaf
    brus = rw (e, body.head)

    pub brus_fits : RoomFrom wet All at xs → RoomFrom wet (shown report b.at (brus_edits k.textures p (left b s))) at xs
    brus_fits f = fits-same brus wet xs at f

    pub brus_put : (ys : List ℕ) (n : ℕ) → Emits wet (shown report b.at (brus_edits k.textures p (left b s))) xs at ys n → Emits wet All xs at ys n
    brus_put ys n g = emits_same brus wet xs at ys n g

  module _ (e : t ≡ TRIS) where
    tris : All ≡ shown report b.at (tris_edits k.brushes k.own (left b s))
    unfolding walk_leaf
    tris = rw (e, body.head)

    pub tris_fits : RoomFrom wet All at xs → RoomFrom wet (shown report b.at (tris_edits k.brushes k.own (left b s))) at xs
    tris_fits f = fits-same tris wet xs at f

    pub tris_put : (ys : List ℕ) (n : ℕ) → Emits wet (shown report b.at (tris_edits k.brushes k.own (left b s))) xs at ys n → Emits wet All xs at ys n
    tris_put ys n g = emits_same tris wet xs at ys n g

  module _ (e : t ≡ BONE) where
    bone : All ≡ shown report b.at (bone_edits k.bones (left b s))
    unfolding walk_leaf
    bone = rw (e, body.head)

    pub bone-fits : RoomFrom wet All at xs → RoomFrom wet (shown report b.at (bone_edits k.bones (left b s))) at xs
    bone-fits f = fits-same bone wet xs at f

    pub bone-put : (ys : List ℕ) (n : ℕ) → Emits wet (shown report b.at (bone_edits k.bones (left b s))) xs at ys n → Emits wet All xs at ys n
    bone-put ys n g = emits_same bone wet xs at ys n g

  module _ (x : t ≡ BRUS → ⊥) (y : t ≡ TRIS → ⊥) (z : t ≡ BONE → ⊥) where
    stands : All ≡ shown report b.at (keep (left b s) ∷ [])
    stands = as_it_stands report k t x y z p (left b s) ∙ ap (λ (n : ℕ). shown report n (keep (left b s) ∷ [])) (sym body.head)

    pub other_fits : RoomFrom wet All at xs → RoomFrom wet (shown report b.at (keep (left b s) ∷ [])) at xs
    other_fits f = fits-same stands wet xs at f

    pub other-put : (ys : List ℕ) (n : ℕ) → Emits wet (shown report b.at (keep (left b s) ∷ [])) xs at ys n → Emits wet All xs at ys n
    other-put ys n g = emits_same stands wet xs at ys n g

pub ruleset leaf_laws = (leaf-inside, leaf-small, brus_fits, brus_put, tris_fits, tris_put, bone-fits, bone-put, other_fits, other-put)

-- ---- what it counts

module _ (t : Tag) (p : ℕ) (b : List ℕ) where
  pub count_texs : t ≡ TEXS → (n : ℕ) → n ≡ textures_of (read_textures p b) → n ≡ leaf_count t p b
  unfolding leaf_count walk_leaf
  count_texs e n h = rw e h

  pub count_brus : t ≡ BRUS → (n : ℕ) → n ≡ brush_count (read_brushes Lenient every p b) → n ≡ leaf_count t p b
  unfolding leaf_count walk_leaf
  count_brus e n h = rw e h

  pub count_vrts : t ≡ VRTS → (n : ℕ) → n ≡ vertices_of (read_vertices Lenient p b) → n ≡ leaf_count t p b
  unfolding leaf_count walk_leaf
  count_vrts e n h = rw e h

pub ruleset count_laws = (count_texs, count_brus, count_vrts)

-- ---- both

any_scope : (report : Bool) (k : Scope) (t : Tag) (p : ℕ) (b : List ℕ) → leaf_count t p b ≡ (walk_leaf report k t p b).count
unfolding leaf_count walk_leaf
any_scope report k BB3D p b = refl
any_scope report k TEXS p b = refl
any_scope report k BRUS p b = refl
any_scope report k NODE p b = refl
any_scope report k MESH p b = refl
any_scope report k VRTS p b = refl
any_scope report k TRIS p b = refl
any_scope report k BONE p b = refl
any_scope report k KEYS p b = refl
any_scope report k ANIM p b = refl

pub leaf_walked : (report : Bool) (k : Scope) (t : Tag) (p : ℕ) (b : List ℕ) (n : ℕ) → n ≡ leaf_count t p b → (wet : Bool) (xs : List ℕ) (at : ℕ) (ys : List ℕ) (m : ℕ)
    → Emits wet (walk_leaf report k t p b).bytes xs at ys m → Walks wet (walk_leaf report k t p b) xs at ys (record { at = m; count = n })
leaf_walked report k t p b n e wet xs at ys m g = record { put = g; counted = e ∙ any_scope report k t p b }
