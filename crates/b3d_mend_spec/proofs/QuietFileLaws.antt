-- A file beside its mending: an accepted one comes back as it is, and a refused one is refused the same, but for what is mended.
use mathlib.Core.Path.{◌≡◌, refl, ap, sym, ◌∙◌, subst}
use mathlib.Core.Logic.{inl, inr}
use Prim.Native.Nat.{ℕ}
use native.Mathlib.Omega.{arith}
use mathlib.Core.Bool.{Bool, true, false}
use mathlib.Core.List.{List, [], ◌∷◌, ◌++◌, append-nil}
use lib.ListN.{length}
use lib.Dec.{T, eqb}
use Rattle.wire.specs.Bytes.{bytes, AllBytes}
use Rattle.layout.specs.Chunks.{done, stop, chunk, ended}
use Rattle.layout.specs.Result.{Result, accept, reject, check, ◌>>=◌}
use Rattle.layout.specs.Parts.{Step, row, number}
use Rattle.layout.specs.Rows.{size_fits}
use Rattle.layout.proofs.ResultLaws.{if_yes}
use Rattle.b3d_spec.specs.declared.Mode.TheVariants.{Lenient}
use Rattle.b3d_spec.specs.Nesting.{inside}
use Rattle.b3d_spec.specs.Parse.{read_one, read_textures, read_brushes, read_root, slots_of, read_body, parse}
use Rattle.b3d_spec.specs.Rules.{file_head, header}
use Rattle.b3d_spec.specs.Scene.{Texture, Brush, Forest, no_nodes, Scene}
use Rattle.b3d_spec.specs.Tags.{code, Chunks}
use Rattle.b3d_spec.specs.declared.Tag.TheVariants.{BB3D, TEXS, BRUS, NODE}
use Rattle.b3d_spec.proofs.Files.TagLaws.{Nothing, file-tags}
use Rattle.b3d_mend_spec.specs.Edits.{keep, after, file_length}
use Rattle.b3d_mend_spec.specs.Mend.{Mended, as_read, mend_brushes, mend_one, mend_root, scene_of, mend_body, mend_file}
use Rattle.b3d_mend_spec.proofs.AgreeLaws.{Beside, bind_beside-eq, same_beside}
use Rattle.b3d_mend_spec.proofs.EditLaws.{Quiet, keep_quiet, follow_quiet, quiet_same}
use Rattle.b3d_mend_spec.proofs.FileLaws.{body-mended, opened, high}
use Rattle.b3d_mend_spec.proofs.PieceLaws.{Fine, within}
use Rattle.b3d_mend_spec.proofs.QuietLeafLaws.{textures_leave, brushes_leave, Alike, within-alike, inside-fine, Hush, inside_quiet}
use Rattle.b3d_mend_spec.proofs.QuietPartLaws.{Same}
use Rattle.b3d_mend_spec.proofs.QuietStageLaws.{Both, one-beside, row-left, root_leave}

-- ---- the body

ended-beside : {A B : Type 0} (R : A → B → Type 0) (cs c : Chunks) (a : A) (b : B) → Nothing cs → Alike cs c → (Hush cs [] → R a b) → Beside R (ended cs a) (ended c b)
unfolding ended
ended-beside {A} {B} R done c a b n h k = subst (λ (z : Chunks). Beside R (accept a) (ended z b)) (sym h) (k tt)
ended-beside R (stop i p) c a b n h k = elim h [ inl j ↦ inl j | inr e ↦ inr (ap (λ (z : Chunks). ended z b) e) ]
ended-beside R (chunk t p d r) c a b n h k = absurd n

scene-is : (n : ℕ) (t t' : List Texture) (u u' : ℕ × List Brush) (f f' : Forest) → t' ≡ t → u' ≡ u → f' ≡ f
    → scene_of n t' u' f' ≡ record { version = n; textures = t; slots = slots_of u.0 u.1; brushes = u.1; nodes = f }
unfolding scene_of
scene-is n t t' u u' f f' et eu ef = cc (et, eu, ef)

body-beside : (p : ℕ) (b : List ℕ) → Fine b → Beside Same (read_body Lenient p b) (mend_body p b)
unfolding read_body mend_body
body-beside p b f =
    same_beside Same (row file_head p b) _ _ (λ h eh.
    let fl = row-left file_head p b h f eh in
    let cs = inside BB3D 0 h.place h.left in
    let c = within BB3D 0 h.place h.left in
    bind_beside-eq (Both cs) Same (read_one TEXS [] read_textures cs) (mend_one TEXS [] (as_read read_textures) c) _ _
    (one-beside TEXS [] read_textures (as_read read_textures) textures_leave cs c (inside-fine BB3D 0 h.place h.left fl) (within-alike BB3D 0 h.place h.left)) (λ t t' et et' gt.
    bind_beside-eq (Both t.rest) Same (read_one BRUS (0, []) (read_brushes Lenient (length t.value)) t.rest) (mend_one BRUS (0, []) (mend_brushes (length t'.value)) t'.rest) _ _
    (subst (λ (l : List Texture). Beside (Both t.rest) (read_one BRUS (0, []) (read_brushes Lenient (length t.value)) t.rest) (mend_one BRUS (0, []) (mend_brushes (length l)) t'.rest)) (sym gt.value_same)
    (one-beside BRUS (0, []) (read_brushes Lenient (length t.value)) (mend_brushes (length t.value)) (brushes_leave (length t.value)) t.rest t'.rest gt.fine gt.alike)) (λ u u' eu eu' gu.
    bind_beside-eq (Both u.rest) Same (read_one NODE no_nodes (read_root Lenient (length u.value.1)) u.rest) (mend_one NODE no_nodes (mend_root (length u'.value.1)) u'.rest) _ _
    (subst (λ (l : ℕ × List Brush). Beside (Both u.rest) (read_one NODE no_nodes (read_root Lenient (length u.value.1)) u.rest) (mend_one NODE no_nodes (mend_root (length l.1)) u'.rest)) (sym gu.value_same)
    (one-beside NODE no_nodes (read_root Lenient (length u.value.1)) (mend_root (length u.value.1)) (root_leave (length u.value.1)) u.rest u'.rest gu.fine gu.alike)) (λ n n' en en' gn.
    ended-beside Same n.rest n'.rest _ _ (file-tags [] (0, []) no_nodes read_textures (read_brushes Lenient (length t.value)) (read_root Lenient (length u.value.1)) h.place h.left t u n et eu en) gn.alike (λ e. (
      scene-is (number h 0) t.value t'.value u.value u'.value n.value n'.value gt.value_same gu.value_same gn.value_same,
      (keep_quiet _, inside_quiet BB3D 0 h.place h.left (t'.bodies ++ (u'.bodies ++ n'.bodies)) (gt.hush (u'.bodies ++ n'.bodies) (gu.hush n'.bodies (subst (Hush u.rest) (append-nil n'.bodies) (gn.hush [] e))))),
    ))))))

-- ---- the file

length_quiet : (said is new : ℕ) → T (eqb said is) → is ≡ new → Quiet (file_length said is new)
unfolding file_length
length_quiet said is new t e = subst Quiet (sym (if_yes (eqb said is) _ _ t)) (follow_quiet is new e)

-- the body of a file, where the reading looks at its length and the mending does not
length-beside : (h : Step (List ℕ)) → Fine h.left → Beside Same (check (eqb (number h 1) (length h.left)) 2 4 >>= λ u. read_body Lenient h.place h.left)
    (mend_body h.place h.left >>= λ x. accept (record { value = x.value; edits = keep (bytes (code BB3D) []) ∷ file_length (number h 1) (length h.left) (length (after x.edits)) ∷ x.edits }))
unfolding check
length-beside h f = go (eqb (number h 1) (length h.left)) refl
  where
    wrap : (o : Result Scene) (q : Result (Mended Scene)) → T (eqb (number h 1) (length h.left)) → mend_body h.place h.left ≡ q → Beside Same o q
        → Beside Same o (q >>= λ x. accept (record { value = x.value; edits = keep (bytes (code BB3D) []) ∷ file_length (number h 1) (length h.left) (length (after x.edits)) ∷ x.edits }))
    wrap (accept v) (accept x) t e k = (
      k.0,
      (
        keep_quiet _,
        (
          length_quiet (number h 1) (length h.left) (length (after x.edits)) t
              (ap (λ (l : List ℕ). length l) (sym (body-mended h.place h.left x f e).given ∙ sym (quiet_same x.edits k.1))),
          k.1,
        ),
      ),
    )
    wrap (accept v) (reject n i) t e k = absurd k
    wrap (reject n i) q t e k = elim k [ inl j ↦ inl j | inr g ↦ inr (ap (λ (y : Result (Mended Scene)). y >>= λ x. accept (record { value = x.value; edits = keep (bytes (code BB3D) []) ∷ file_length (number h 1) (length h.left) (length (after x.edits)) ∷ x.edits })) g) ]

    go : (b : Bool) → eqb (number h 1) (length h.left) ≡ b → Beside Same (check b 2 4 >>= λ u. read_body Lenient h.place h.left)
        (mend_body h.place h.left >>= λ x. accept (record { value = x.value; edits = keep (bytes (code BB3D) []) ∷ file_length (number h 1) (length h.left) (length (after x.edits)) ∷ x.edits }))
    go true e = wrap (read_body Lenient h.place h.left) (mend_body h.place h.left) (subst T (sym e) tt) refl (body-beside h.place h.left f)
    go false e = inl (inr (inr (refl, refl)))

by-check-beside : {A B : Type 0} (R : A → B → Type 0) (b : Bool) (n p : ℕ) (x : Result A) (y : Result B) → (T b → Beside R x y) → Beside R (check b n p >>= λ u. x) (check b n p >>= λ u. y)
unfolding check
by-check-beside R true n p x y h = h tt
by-check-beside R false n p x y h = inr refl

pub file-beside : (s : List ℕ) → AllBytes s → Beside Same (parse Lenient s) (mend_file s)
unfolding parse mend_file
file-beside s a =
    by-check-beside Same (size_fits (length s)) 1 0 _ _ (λ z.
    same_beside Same (row header 0 s) _ _ (λ h eh.
    by-check-beside Same (eqb (number h 0) (code BB3D)) 2 0 _ _ (λ t.
    let o = opened s h a eh in
    length-beside h (o.bytes_left, omega (arith, high (length s) z, ap (λ (l : List ℕ). length l) o.is-file)))))
