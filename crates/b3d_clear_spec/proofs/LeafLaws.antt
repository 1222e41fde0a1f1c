-- The chunks that hold numbers only: what was read of a body is written as that body.
use mathlib.Core.Path.{◌≡◌, ap, sym, ◌∙◌}
use Prim.Native.Nat.{ℕ, ◌+◌}
use mathlib.Core.List.{List, [], ◌∷◌}
use Rattle.wire.specs.Bytes.{AllBytes}
use Rattle.layout.specs.Result.{accept}
use Rattle.layout.specs.Parts.{row, number, items}
use Rattle.layout.specs.Write.{write_words, write_items}
use Rattle.layout.proofs.ResultLaws.{by_got, bad_got, got_inj}
use Rattle.layout.proofs.PartLaws.{row_fine}
use Rattle.b3d_spec.specs.declared.Mode.TheVariants.{Lenient}
use Rattle.b3d_spec.specs.Encode.{write_triangles, write_keys}
use Rattle.b3d_spec.specs.Parse.{Vertices, read_vertices, read_triangles, read_bone, read_keys, filled, read_anim}
use Rattle.b3d_spec.specs.Rules.{vertex_flags, sets, set_size, vertices_head, vertex_row, brush_id, triangles_head, triangle_row, weight_row, key_flags, keys_head, key_row, anim_row}
use Rattle.b3d_spec.specs.Scene.{TriangleSet, Keys}
use Rattle.b3d_clear_spec.proofs.ExactLaws.{row_exact, items_exact, one_exact, three_exact}

-- numbers of fixed data before items
abbrev pub write_shape : Vertices → List ℕ
write_shape v = write_words (v.flags ∷ v.sets ∷ v.size ∷ []) (write_items write_words v.items)

module _ (p : ℕ) (b : List ℕ) (all : AllBytes b) where
  pub vertices_exact : (v : Vertices) → read_vertices Lenient p b ≡ accept v → write_shape v ≡ b
  unfolding read_vertices
  vertices_exact v e =
      by_got (row vertices_head (p + 8) b) _ e (λ h eh e₁.
      by_got (items (row (vertex_row Lenient (number h 0) (number h 1) (number h 2))) h.place h.left) _ e₁ (λ l el e₂.
      let f = row_fine vertices_head (p + 8) b h all eh in
      ap write_shape (sym (got_inj e₂))
      ∙ ap (write_words (number h 0 ∷ number h 1 ∷ number h 2 ∷ [])) (items_exact (vertex_row Lenient (number h 0) (number h 1) (number h 2)) h.place h.left l f.bytes el)
      ∙ three_exact (p + 8) b h all vertex_flags sets set_size eh))

  pub triangles_exact : (brushes vertices : ℕ) (x : TriangleSet) → read_triangles brushes vertices p b ≡ accept x → write_triangles x ≡ b
  unfolding read_triangles write_triangles
  triangles_exact brushes vertices x e =
      by_got (row (triangles_head brushes) (p + 8) b) _ e (λ h eh e₁.
      by_got (items (row (triangle_row vertices)) h.place h.left) _ e₁ (λ l el e₂.
      let f = row_fine (triangles_head brushes) (p + 8) b h all eh in
      ap write_triangles (sym (got_inj e₂))
      ∙ ap (write_words (number h 0 ∷ [])) (items_exact (triangle_row vertices) h.place h.left l f.bytes el) ∙ one_exact (p + 8) b h all (brush_id brushes) eh))

  pub bone_exact : (vertices : ℕ) (ws : List (List ℕ)) → read_bone vertices p b ≡ accept ws → write_items write_words ws ≡ b
  unfolding read_bone
  bone_exact vertices ws e = items_exact (weight_row vertices) (p + 8) b ws all e

  pub keys_exact : (k : Keys) → read_keys p b ≡ accept k → write_keys k ≡ b
  unfolding read_keys write_keys
  keys_exact k e =
      by_got (row keys_head (p + 8) b) _ e (λ h eh e₁.
      by_got (items (row (key_row (number h 0))) h.place h.left) _ e₁ (λ l el e₂.
      let f = row_fine keys_head (p + 8) b h all eh in
      ap write_keys (sym (got_inj e₂))
      ∙ ap (write_words (number h 0 ∷ [])) (items_exact (key_row (number h 0)) h.place h.left l f.bytes el) ∙ one_exact (p + 8) b h all key_flags eh))

  pub anim_exact : (ws : List ℕ) → read_anim p b ≡ accept ws → write_words ws [] ≡ b
  unfolding read_anim filled
  anim_exact ws e = by_got (row anim_row (p + 8) b) _ e (λ x ex e₁. go x.value x.left e₁ (row_exact anim_row (p + 8) b x all ex))
    where
      go : (vs l : List ℕ) → filled (p + 8) l vs ≡ accept ws → write_words vs l ≡ b → write_words ws [] ≡ b
      go vs [] h i = ap (λ (y : List ℕ). write_words y []) (sym (got_inj h)) ∙ i
      go vs (c ∷ l) h i = bad_got h
