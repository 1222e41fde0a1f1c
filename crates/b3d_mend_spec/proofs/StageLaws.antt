-- What is found among chunks: the mended bodies fill the chunks it was found in, and the same chunks with those bodies are read as it.
use mathlib.Core.Path.{◌≡◌, refl, ap, ◌∙◌, subst}
use Prim.Native.Nat.{ℕ, suc, ◌+◌, ◌<◌}
use native.Mathlib.Omega.{arith}
use mathlib.Core.Bool.{not}
use mathlib.Core.List.{List, [], ◌∷◌, ◌++◌}
use lib.ListN.{length, get_or, length-append}
use lib.Dec.{T}
use Rattle.wire.specs.Bytes.{bytes, AllBytes}
use Rattle.layout.specs.Chunks.{done, stop, chunk}
use Rattle.layout.specs.Result.{Result, accept}
use Rattle.layout.specs.Write.{write_words}
use Rattle.layout.proofs.AllLaws.{all_append}
use Rattle.layout.proofs.ResultLaws.{by_got, by-if, bad_got, got_inj, if_yes, if_no}
use Rattle.layout.proofs.PartLaws.{row_back}
use Rattle.b3d_spec.specs.declared.Mode.TheVariants.{Lenient}
use Rattle.b3d_spec.specs.Parse.{read_one, Vertices, no_vertices, read_vertices, read_triangles, read_sets, read_mesh, read_bone, read_keys, read_anim, a_mesh, a_bone, read_kind, Animation, with_keys as with_keys_read, read_animation}
use Rattle.b3d_spec.specs.Rules.{mesh_head, brush_id}
use Rattle.b3d_spec.specs.Scene.{TriangleSet, Kind, pivot, mesh, bone, Keys, Anim, anim}
use Rattle.b3d_spec.specs.Tags.{is, Chunks, Found}
use Rattle.b3d_spec.specs.declared.Tag.{Tag}
use Rattle.b3d_spec.specs.declared.Tag.TheVariants.{MESH, VRTS, BONE, KEYS, ANIM}
use Rattle.b3d_mend_spec.specs.Edits.{Edit, before, after}
use Rattle.b3d_mend_spec.specs.Mend.{Mended, mend_row, as_read, mend_triangles, mend_bone, Taken, found, mend_one, mend_sets, mesh_of, mend_mesh, mend_kind, with_keys, with_anim, mend_moves}
use Rattle.b3d_mend_spec.specs.Pieces.{pieces, woven}
use Rattle.b3d_mend_spec.proofs.EditLaws.{before-append, after-append, Small}
use Rattle.b3d_mend_spec.proofs.LeafLaws.{Body, plain, one_is, vertices-mend, keys-mend, anim-mend, triangles-mend, bone-mend}
use Rattle.b3d_mend_spec.proofs.PartLaws.{row-good}
use Rattle.b3d_mend_spec.proofs.PieceLaws.{Fine, FineC, Fill, swap, within, within-fine, held}

-- the same for bodies that a length can tell
abbrev pub MendsFine : {A : Type 0} → (A → A) → (ℕ → List ℕ → Result A) → (ℕ → List ℕ → Result (Mended A)) → Type 0
MendsFine {A} without_places read fix = (p : ℕ) (b : List ℕ) (m : Mended A) → Fine b → fix p b ≡ accept m → Body without_places read b m

-- a value without names
pub exactly : {A : Type 0} (read : ℕ → List ℕ → Result A) (b : List ℕ) (m : Mended A) → Body plain read b m → (q : ℕ) → read q (after m.edits) ≡ accept m.value
exactly read b m h q = let x = h.again q in x.1 ∙ ap accept x.2

-- ---- something, and the chunks after it

abbrev pub Again : {A : Type 0} → (A → A) → (Chunks → Result (Found A)) → Chunks → List (List Edit) → A → Chunks → List (List Edit) → (ℕ → ℕ) → Type 0
Again {A} without_places read cs xs a rest ys place =
    (v : A) × (to : ℕ → ℕ) × (read (swap cs (xs ++ ys) place) ≡ accept (record { value = v; rest = swap rest ys to })) × (without_places v ≡ without_places a)

pub record Stage {A : Type 0} (without_places : A → A) (read : Chunks → Result (Found A)) (cs : Chunks) (x : Taken A) : Type 0 where
  pub rest-fine : FineC x.rest
  pub fill : (ys : List (List Edit)) → Fill x.rest ys → Fill cs (x.bodies ++ ys)
  pub again : (ys : List (List Edit)) → Fill x.rest ys → (place : ℕ → ℕ) → Again without_places read cs x.bodies x.value x.rest ys place

module _ {A : Type 0} (without_places : A → A) (k : Tag) (a : A) (read : ℕ → List ℕ → Result A) (one : ℕ → List ℕ → Result (Mended A)) (mends : MendsFine without_places read one) where
  none-again : (t : Tag) (p : ℕ) (b : List ℕ) (r : Chunks) → T (not (is t k)) → (ys : List (List Edit)) → Fill (chunk t p b r) ys → (place : ℕ → ℕ)
      → Again without_places (read_one k a read) (chunk t p b r) [] a (chunk t p b r) ys place
  unfolding read_one
  none-again t p b r n [] h place = absurd h
  none-again t p b r n (y ∷ ys) h place = (a, place, if_no (is t k) _ _ n, refl)

  pub one_stage : (cs : Chunks) (x : Taken A) → FineC cs → mend_one k a one cs ≡ accept x → Stage without_places (read_one k a read) cs x
  unfolding mend_one found read_one
  one_stage done x f e = subst (Stage without_places (read_one k a read) done) (got_inj e) (record { rest-fine = tt; fill = λ ys h. h; again = λ ys h place. (a, place, refl, refl) })
  one_stage (stop n p) x f e = bad_got e
  one_stage (chunk t p b r) x f e =
      by-if (is t k) _ _ e
      (λ u e₁. by_got (one p b) _ e₁ (λ m em e₂.
      let g = mends p b m f.0 em in
      subst (Stage without_places (read_one k a read) (chunk t p b r)) (got_inj e₂)
      (record {
        rest-fine = f.1;
        fill = λ ys h. (g.given, g.small, h);
        again = λ ys h place. let y = g.again (place 0) in (y.0, (λ i. place (suc i)), if_yes (is t k) _ _ u ∙ rw y.1, y.2);
      })))
      (λ u e₁. subst (Stage without_places (read_one k a read) (chunk t p b r)) (got_inj e₁) (record { rest-fine = f; fill = λ ys h. h; again = none-again t p b r u }))

-- ---- TRIS

pub record Sets (brushes vertices : ℕ) (cs : Chunks) (x : List TriangleSet × List (List Edit)) : Type 0 where
  pub fill : Fill cs x.1
  pub again : (place : ℕ → ℕ) → read_sets brushes vertices (swap cs x.1 place) ≡ accept x.0

pub sets_stage : (brushes vertices : ℕ) (cs : Chunks) (x : List TriangleSet × List (List Edit)) → FineC cs → mend_sets brushes vertices cs ≡ accept x → Sets brushes vertices cs x
unfolding mend_sets read_sets
sets_stage brushes vertices done x f e = subst (Sets brushes vertices done) (got_inj e) (record { fill = tt; again = λ place. refl })
sets_stage brushes vertices (stop n p) x f e = bad_got e
sets_stage brushes vertices (chunk t p b r) x f e =
    by_got (mend_triangles brushes vertices p b) _ e (λ m em e₁.
    by_got (mend_sets brushes vertices r) _ e₁ (λ l el e₂.
    let g = triangles-mend brushes vertices p b m f.0.0 em in
    let k = sets_stage brushes vertices r l f.1 el in
    subst (Sets brushes vertices (chunk t p b r)) (got_inj e₂)
    (record {
      fill = (g.given, g.small, k.fill);
      again = λ place. rw (exactly (read_triangles brushes vertices) b m g (place 0), k.again (λ i. place (suc i)));
    })))

-- ---- MESH

pub left-fine : (a s b : List ℕ) → a ++ s ≡ b → AllBytes s → length b < 4294967296 → Fine s
left-fine a s b e h n = (h, omega (arith, length-append a s, ap (λ (l : List ℕ). length l) e, n))

pub mesh-mend : (brushes : ℕ) → MendsFine plain (read_mesh Lenient brushes) (mend_mesh brushes)
unfolding mend_mesh read_mesh mesh_of
mesh-mend brushes p b m f e =
    by_got (mend_row (mesh_head brushes) (p + 8) b) _ e (λ h eh e₁.
    let g = row-good (mesh_head brushes) (p + 8) b h f.0 eh in
    let fl = left-fine (before h.value.edits) h.left b g.given g.bytes f.1 in
    let cs = within MESH p h.place h.left in
    by_got (mend_one VRTS no_vertices (as_read (read_vertices Lenient)) cs) _ e₁ (λ v ev e₂.
    by_got (mend_sets brushes (length v.value.items) v.rest) _ e₂ (λ l el e₃.
    let st = one_stage plain VRTS no_vertices (read_vertices Lenient) (as_read (read_vertices Lenient)) (λ q c n k. vertices-mend q c n k.0) cs v (within-fine MESH p h.place h.left fl) ev in
    let se = sets_stage brushes (length v.value.items) v.rest l st.rest-fine el in
    let xs = v.bodies ++ l.1 in
    let hd = held MESH p h.place h.left xs fl (st.fill l.1 se.fill) in
    let o = one_is (brush_id brushes) h.value.value g.ok in
    let w = get_or h.value.value 0 0 in
    let in_edits = woven (pieces h.place h.left) xs in
    let new : after (h.value.edits ++ in_edits) ≡ write_words (w ∷ []) (after in_edits) = after-append h.value.edits in_edits ∙ ap (λ (r : List ℕ). r ++ after in_edits) (g.mended ∙ o.1) in
    subst (Body plain (read_mesh Lenient brushes) b) (got_inj e₃)
    (record {
      given = before-append h.value.edits in_edits ∙ ap (λ (r : List ℕ). before h.value.edits ++ r) hd.given ∙ g.given;
      small = all_append Small h.value.edits in_edits g.small hd.small;
      again = λ q.
          let y = row_back (mesh_head brushes) (w ∷ []) o.0 (q + 8) (after in_edits) in
          let i = hd.again q y.0 in
          let z = st.again l.1 se.fill i.0 in
          let ez : read_one VRTS no_vertices (read_vertices Lenient) (swap cs xs i.0) ≡ accept (record { value = v.value; rest = swap v.rest l.1 z.1 }) =
          z.2 ∙ ap (λ (u : Vertices). accept (record { value = u; rest = swap v.rest l.1 z.1 })) z.3 in (
            record { brush = w; flags = v.value.flags; sets = v.value.sets; size = v.value.size; vertices = v.value.items; triangle_sets = l.0 },
            rw (new, y.1, i.1, ez, se.again z.1),
            refl,
          );
    }))))

-- ---- a MESH or a BONE

module _ (brushes vertices : ℕ) where
  no_kind : (t : Tag) (p : ℕ) (b : List ℕ) (r : Chunks) → T (not (is t MESH)) → T (not (is t BONE)) → (ys : List (List Edit)) → Fill (chunk t p b r) ys → (place : ℕ → ℕ)
      → Again plain (read_kind Lenient brushes vertices) (chunk t p b r) [] pivot (chunk t p b r) ys place
  unfolding read_kind
  no_kind t p b r u n [] h place = absurd h
  no_kind t p b r u n (y ∷ ys) h place = (pivot, place, if_no (is t MESH) _ _ u ∙ if_no (is t BONE) _ _ n, refl)

  pub kind_stage : (cs : Chunks) (x : Taken Kind) → FineC cs → mend_kind brushes vertices cs ≡ accept x → Stage plain (read_kind Lenient brushes vertices) cs x
  unfolding mend_kind found read_kind a_mesh a_bone
  kind_stage done x f e = subst (Stage plain (read_kind Lenient brushes vertices) done) (got_inj e) (record { rest-fine = tt; fill = λ ys h. h; again = λ ys h place. (pivot, place, refl, refl) })
  kind_stage (stop n p) x f e = bad_got e
  kind_stage (chunk t p b r) x f e =
      by-if (is t MESH) _ _ e
      (λ u e₁. by_got (mend_mesh brushes p b) _ e₁ (λ m em e₂.
      let g = mesh-mend brushes p b m f.0 em in
      subst (Stage plain (read_kind Lenient brushes vertices) (chunk t p b r)) (got_inj e₂)
      (record {
        rest-fine = f.1;
        fill = λ ys h. (g.given, g.small, h);
        again = λ ys h place. (mesh m.value, (λ i. place (suc i)), if_yes (is t MESH) _ _ u ∙ rw (exactly (read_mesh Lenient brushes) b m g (place 0)), refl);
      })))
      (λ u e₁. by-if (is t BONE) _ _ e₁
      (λ w e₂. by_got (mend_bone vertices p b) _ e₂ (λ m em e₃.
      let g = bone-mend vertices p b m f.0.0 em in
      subst (Stage plain (read_kind Lenient brushes vertices) (chunk t p b r)) (got_inj e₃)
      (record {
        rest-fine = f.1;
        fill = λ ys h. (g.given, g.small, h);
        again = λ ys h place. (bone m.value, (λ i. place (suc i)), if_no (is t MESH) _ _ u ∙ if_yes (is t BONE) _ _ w ∙ rw (exactly (read_bone vertices) b m g (place 0)), refl);
      })))
      (λ w e₂. subst (Stage plain (read_kind Lenient brushes vertices) (chunk t p b r)) (got_inj e₂) (record { rest-fine = f; fill = λ ys h. h; again = no_kind t p b r u w })))

-- ---- KEYS and ANIM

no_move : (seen : Anim) (t : Tag) (p : ℕ) (b : List ℕ) (r : Chunks) → T (not (is t KEYS)) → T (not (is t ANIM)) → (ys : List (List Edit)) → Fill (chunk t p b r) ys → (place : ℕ → ℕ)
    → Again plain (read_animation seen) (chunk t p b r) [] (record { keys = []; anim = seen }) (chunk t p b r) ys place
unfolding read_animation
no_move seen t p b r u n [] h place = absurd h
no_move seen t p b r u n (y ∷ ys) h place = (record { keys = []; anim = seen }, place, if_no (is t KEYS) _ _ u ∙ if_no (is t ANIM) _ _ n, refl)

keys-again : (seen : Anim) (t : Tag) (p : ℕ) (b : List ℕ) (r : Chunks) (m : Mended Keys) (l : Taken Animation) → T (is t KEYS) → Body plain read_keys b m → Stage plain (read_animation seen) r l
    → (ys : List (List Edit)) → Fill l.rest ys → (place : ℕ → ℕ) → Again plain (read_animation seen) (chunk t p b r) (m.edits ∷ l.bodies) (record { keys = m.value ∷ l.value.keys; anim = l.value.anim }) l.rest ys place
unfolding read_animation with_keys_read
keys-again seen t p b r m l u g k ys h place =
    let y = k.again ys h (λ i. place (suc i)) in
    (record { keys = m.value ∷ y.0.keys; anim = y.0.anim }, y.1, if_yes (is t KEYS) _ _ u ∙ rw (exactly read_keys b m g (place 0), y.2), ap (λ (v : Animation). record { keys = m.value ∷ v.keys; anim = v.anim }) y.3)

anim-again : (seen : Anim) (t : Tag) (p : ℕ) (b : List ℕ) (r : Chunks) (m : Mended (List ℕ)) (l : Taken Animation) → T (not (is t KEYS)) → T (is t ANIM) → Body plain read_anim b m → Stage plain (read_animation (anim m.value)) r l
    → (ys : List (List Edit)) → Fill l.rest ys → (place : ℕ → ℕ) → Again plain (read_animation seen) (chunk t p b r) (m.edits ∷ l.bodies) l.value l.rest ys place
unfolding read_animation
anim-again seen t p b r m l u w g k ys h place =
    let y = k.again ys h (λ i. place (suc i)) in
    (y.0, y.1, if_no (is t KEYS) _ _ u ∙ if_yes (is t ANIM) _ _ w ∙ rw (exactly read_anim b m g (place 0)) y.2, y.3)

pub moves_stage : (seen : Anim) (cs : Chunks) (x : Taken Animation) → FineC cs → mend_moves seen cs ≡ accept x → Stage plain (read_animation seen) cs x
unfolding mend_moves with_keys with_anim read_animation
moves_stage seen done x f e = subst (Stage plain (read_animation seen) done) (got_inj e) (record { rest-fine = tt; fill = λ ys h. h; again = λ ys h place. (record { keys = []; anim = seen }, place, refl, refl) })
moves_stage seen (stop n p) x f e = bad_got e
moves_stage seen (chunk t p b r) x f e =
    by-if (is t KEYS) _ _ e
    (λ u e₁. by_got (as_read read_keys p b) _ e₁ (λ m em e₂. by_got (mend_moves seen r) _ e₂ (λ l el e₃.
    let g = keys-mend p b m f.0.0 em in
    let k = moves_stage seen r l f.1 el in
    subst (Stage plain (read_animation seen) (chunk t p b r)) (got_inj e₃)
    (record { rest-fine = k.rest-fine; fill = λ ys h. (g.given, g.small, k.fill ys h); again = keys-again seen t p b r m l u g k }))))
    (λ u e₁. by-if (is t ANIM) _ _ e₁
    (λ w e₂. by_got (as_read read_anim p b) _ e₂ (λ m em e₃. by_got (mend_moves (anim m.value) r) _ e₃ (λ l el e₄.
    let g = anim-mend p b m f.0.0 em in
    let k = moves_stage (anim m.value) r l f.1 el in
    subst (Stage plain (read_animation seen) (chunk t p b r)) (got_inj e₄)
    (record { rest-fine = k.rest-fine; fill = λ ys h. (g.given, g.small, k.fill ys h); again = anim-again seen t p b r m l u w g k }))))
    (λ w e₂. subst (Stage plain (read_animation seen) (chunk t p b r)) (got_inj e₂) (record { rest-fine = f; fill = λ ys h. h; again = no_move seen t p b r u w })))
