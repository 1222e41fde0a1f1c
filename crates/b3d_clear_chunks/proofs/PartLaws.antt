-- A law for each way through `clear_chunk`.
use mathlib.Core.Path.{◌≡◌, refl, sym, subst}
use Prim.Native.Nat.{ℕ}
use mathlib.Core.Bool.{Bool, not, ◌&&◌, ◌||◌}
use mathlib.Core.List.{List, [], ◌∷◌}
use lib.Dec.{T}
use mir.Val.{has_key}
use types.Run.{OneOf}
use denote.Enum.Declared.{tag_of}
use Rattle.shared_output.specs.Writing.{Room, Put}
use Rattle.b3d_spec.specs.Tags.{code, is}
use Rattle.b3d_spec.specs.declared.Tag.{Tag}
use Rattle.b3d_spec.specs.declared.Tag.TheVariants.{BB3D, TEXS, BRUS, NODE, MESH, VRTS, TRIS, BONE, KEYS, ANIM}
use Rattle.b3d_spec.specs.contracts.Tag.{the_type}
use Rattle.b3d_spec_chunk_places.proofs.TagTestLaws.{ten, one_of}
use Rattle.b3d_clear_spec.specs.Copies.{chunk_of, texs_copy, brus_copy, mesh_copy, part_copy}
use Rattle.b3d_clear_materials.proofs.ListLaws.{texs_inside}

-- ---- a tag by itself

module _ (t k : Tag) (e : t ≡ k) (p : ℕ) (b out : List ℕ) where
  room_of : Room (part_copy t p b) out → Room (part_copy k p b) out
  room_of r = subst (λ (u : Tag). Room (part_copy u p b) out) e r

  put_of : (ys : List ℕ) (n : ℕ) → Put (part_copy k p b) out ys n → Put (part_copy t p b) out ys n
  put_of ys n w = subst (λ (u : Tag). Put (part_copy u p b) out ys n) (sym e) w

module _ (t : Tag) (p : ℕ) (b out : List ℕ) where
  pub part_texs_room : t ≡ TEXS → Room (part_copy t p b) out → Room (texs_copy p b) out
  part_texs_room e r = room_of t TEXS e p b out r

  pub part_texs : t ≡ TEXS → (ys : List ℕ) (n : ℕ) → Put (texs_copy p b) out ys n → Put (part_copy t p b) out ys n
  part_texs e ys n w = put_of t TEXS e p b out ys n w

  pub part_brus_room : t ≡ BRUS → Room (part_copy t p b) out → Room (brus_copy p b) out
  part_brus_room e r = room_of t BRUS e p b out r

  pub part_brus : t ≡ BRUS → (ys : List ℕ) (n : ℕ) → Put (brus_copy p b) out ys n → Put (part_copy t p b) out ys n
  part_brus e ys n w = put_of t BRUS e p b out ys n w

  pub part-mesh-room : t ≡ MESH → Room (part_copy t p b) out → Room (mesh_copy p b) out
  part-mesh-room e r = room_of t MESH e p b out r

  pub part-mesh : t ≡ MESH → (ys : List ℕ) (n : ℕ) → Put (mesh_copy p b) out ys n → Put (part_copy t p b) out ys n
  part-mesh e ys n w = put_of t MESH e p b out ys n w

-- ---- the others stay as they stand

abbrev plain : Tag → Bool
plain t = not (is t TEXS) && (not (is t BRUS) && not (is t MESH))

as_it_stands : (t : Tag) → T (plain t) → (p : ℕ) (b : List ℕ) → part_copy t p b ≡ chunk_of (code t) b
as_it_stands BB3D h p b = refl
as_it_stands TEXS h p b = absurd h
as_it_stands BRUS h p b = absurd h
as_it_stands NODE h p b = refl
as_it_stands MESH h p b = absurd h
as_it_stands VRTS h p b = refl
as_it_stands TRIS h p b = refl
as_it_stands BONE h p b = refl
as_it_stands KEYS h p b = refl
as_it_stands ANIM h p b = refl

-- no tag of those numbered ks is made anew
pub others : List ℕ → Bool
others ks = ten (λ t. not (has_key ks (tag_of the_type t)) || plain t)

pub no-list : T (others (0 ∷ 3 ∷ 5 ∷ 6 ∷ 7 ∷ 8 ∷ 9 ∷ []))
unfolding others
no-list = tt

module _ (t : Tag) (ks : List ℕ) (o : OneOf ks (tag_of the_type t)) (h : T (others ks)) (p : ℕ) (b out : List ℕ) where
  stands : part_copy t p b ≡ chunk_of (code t) b
  unfolding others
  stands = as_it_stands t (one_of plain ks h t o) p b

  pub part-other-room : Room (part_copy t p b) out → Room (chunk_of (code t) b) out
  part-other-room r = subst (λ (w : List ℕ). Room w out) stands r

  pub part-other : (ys : List ℕ) (n : ℕ) → Put (chunk_of (code t) b) out ys n → Put (part_copy t p b) out ys n
  part-other ys n w = subst (λ (x : List ℕ). Put x out ys n) (sym stands) w

pub ruleset part_laws = (texs_inside, part_texs_room, part_texs, part_brus_room, part_brus, part-mesh-room, part-mesh, no-list, part-other-room, part-other)
