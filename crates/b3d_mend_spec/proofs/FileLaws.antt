-- The mended file is read as the scene that the mending read found; its given bytes are the file's; it is no longer.
use mathlib.Core.Path.{◌≡◌, refl, ap, ap₂, sym, ◌∙◌, subst}
use Prim.Native.Nat.{ℕ, ◌+◌, ◌<◌, ◌≤◌}
use native.Mathlib.Omega.{arith}
use mathlib.Core.List.{List, [], ◌∷◌, ◌++◌, map, append-nil}
use lib.ListN.{length, get_or, length-map}
use lib.Dec.{T, leb, eqb, eqb→eq, le→leb, leb→le}
use mir.Facts.{and_yes, yes_and, yes_eqb}
use Rattle.wire.specs.Bytes.{bytes, AllBytes}
use Rattle.wire.specs.Test.{if}
use Rattle.layout.specs.Chunks.{done, ended}
use Rattle.layout.specs.Result.{accept}
use Rattle.layout.specs.Parts.{Step, row, number}
use Rattle.layout.specs.Write.{write_words}
use Rattle.layout.specs.Rows.{most_bytes, size_fits}
use Rattle.layout.proofs.WellFormedLaws.{Fits}
use Rattle.layout.proofs.AllLaws.{All}
use Rattle.layout.proofs.ResultLaws.{if_case, by_got, by-check, check-yes, by_test, if_yes, if_no, got_inj}
use Rattle.layout.proofs.ChunkLaws.{ended-fine}
use Rattle.layout.proofs.PartLaws.{words_append, row_back, row_fine}
use Rattle.b3d_spec.specs.declared.Mode.TheVariants.{Lenient}
use Rattle.b3d_spec.specs.Names.{rename_texture, rename_brush, bare_name, rename, without_places}
use Rattle.b3d_spec.specs.Nesting.{inside}
use Rattle.b3d_spec.specs.Parse.{read_one, read_textures, read_brushes, read_root, slots_of, read_body, parse}
use Rattle.b3d_spec.specs.Rules.{version, file_head, header}
use Rattle.b3d_spec.specs.Scene.{Texture, Brush, Forest, no_nodes, Scene}
use Rattle.b3d_spec.specs.Tags.{code, Chunks, Found}
use Rattle.b3d_spec.specs.declared.Tag.TheVariants.{BB3D, TEXS, BRUS, NODE}
use Rattle.b3d_spec.proofs.Files.TagCodeLaws.{code-word}
use Rattle.b3d_mend_spec.specs.Edits.{Edit, keep, was, becomes, before, after, file_length}
use Rattle.b3d_mend_spec.specs.Mend.{Mended, as_read, mend_brushes, mend_one, mend_root, scene_of, mend_body, mend_file}
use Rattle.b3d_mend_spec.specs.Pieces.{pieces, woven}
use Rattle.b3d_mend_spec.proofs.EditLaws.{Small, keep-small, follow-small, length-small, after_less}
use Rattle.b3d_mend_spec.proofs.FileTagLaws.{file-end}
use Rattle.b3d_mend_spec.proofs.LeafLaws.{one_is, row_exact, bare_textures, bare_brushes, textures-mend, brushes-mend}
use Rattle.b3d_mend_spec.proofs.NodeLaws.{bare_forest, root-mend}
use Rattle.b3d_mend_spec.proofs.PieceLaws.{Fine, Fill, swap, within, within-fine, held}
use Rattle.b3d_mend_spec.proofs.StageLaws.{one_stage, left-fine}

-- ---- scenes that differ in name places only

slots_map : (n : ℕ) (l : List Brush) → slots_of n (map (rename_brush bare_name) l) ≡ slots_of n l
unfolding slots_of
slots_map n [] = refl
slots_map n (b ∷ l) = refl

slots_same : (u v : ℕ × List Brush) → bare_brushes u ≡ bare_brushes v → slots_of u.0 u.1 ≡ slots_of v.0 v.1
slots_same u v e = sym (slots_map u.0 u.1) ∙ ap (λ (x : ℕ × List Brush). slots_of x.0 x.1) e ∙ slots_map v.0 v.1

scene_same : (n : ℕ) (t t' : List Texture) (u u' : ℕ × List Brush) (f f' : Forest) → bare_textures t ≡ bare_textures t' → bare_brushes u ≡ bare_brushes u' → bare_forest f ≡ bare_forest f'
    → without_places (scene_of n t u f) ≡ without_places (scene_of n t' u' f')
unfolding without_places rename scene_of
scene_same n t t' u u' f f' et eu ef = cc (et, ap (λ (x : ℕ × List Brush). x.1) eu, slots_same u u' eu, ef)

textures-count : (t t' : List Texture) → bare_textures t ≡ bare_textures t' → length t ≡ length t'
textures-count t t' e = sym (length-map t (rename_texture bare_name)) ∙ ap (λ (l : List Texture). length l) e ∙ length-map t' (rename_texture bare_name)

brushes-count : (u u' : ℕ × List Brush) → bare_brushes u ≡ bare_brushes u' → length u.1 ≡ length u'.1
brushes-count u u' e = sym (length-map u.1 (rename_brush bare_name)) ∙ ap (λ (x : ℕ × List Brush). length x.1) e ∙ length-map u'.1 (rename_brush bare_name)

-- ---- the body

body-read : (q : ℕ) (b : List ℕ) (h : Step (List ℕ)) (t : Found (List Texture)) (u : Found (ℕ × List Brush)) (r : Found Forest) (nt nb : ℕ) → row file_head q b ≡ accept h
    → read_one TEXS [] read_textures (inside BB3D 0 h.place h.left) ≡ accept t → length t.value ≡ nt → read_one BRUS (0, []) (read_brushes Lenient nt) t.rest ≡ accept u
    → length u.value.1 ≡ nb → read_one NODE no_nodes (read_root Lenient nb) u.rest ≡ accept r → r.rest ≡ done → read_body Lenient q b ≡ accept (scene_of (number h 0) t.value u.value r.value)
unfolding read_body scene_of ended
body-read q b h t u r nt nb eh et lt eu lu er ed = rw (eh, et, lt, eu, lu, er, ed)

pub record BodyMended (b : List ℕ) (m : Mended Scene) : Type 0 where
  pub given : before m.edits ≡ b
  pub small : All Small m.edits
  pub long : 4 ≤ length (after m.edits)
  pub again : (q : ℕ) → (v : Scene) × (read_body Lenient q (after m.edits) ≡ accept v) × (without_places v ≡ without_places m.value)

pub body-mended : (p : ℕ) (b : List ℕ) (m : Mended Scene) → Fine b → mend_body p b ≡ accept m → BodyMended b m
unfolding mend_body read_body before after was becomes ended scene_of
body-mended p b m f e =
    by_got (row file_head p b) _ e (λ h eh e₁.
    let g = row_fine file_head p b h f.0 eh in
    let o = one_is version h.value g.ok in
    let n = number h 0 in
    let given₀ : bytes n [] ++ h.left ≡ b = ap (λ (l : List ℕ). l ++ h.left) (sym o.1) ∙ sym (words_append h.value h.left) ∙ row_exact file_head p b h f.0 eh in
    let fl = left-fine (bytes n []) h.left b given₀ g.bytes f.1 in
    let cs = within BB3D 0 h.place h.left in
    by_got (mend_one TEXS [] (as_read read_textures) cs) _ e₁ (λ t et e₂.
    by_got (mend_one BRUS (0, []) (mend_brushes (length t.value)) t.rest) _ e₂ (λ u eu e₃.
    by_got (mend_one NODE no_nodes (mend_root (length u.value.1)) u.rest) _ e₃ (λ r er e₄.
    let st = one_stage bare_textures TEXS [] read_textures (as_read read_textures) (λ q c x k. textures-mend q c x k.0) cs t (within-fine BB3D 0 h.place h.left fl) et in
    let su = one_stage bare_brushes BRUS (0, []) (read_brushes Lenient (length t.value)) (mend_brushes (length t.value)) (λ q c x k. brushes-mend (length t.value) q c x k.0) t.rest u st.rest-fine eu in
    let sr = one_stage bare_forest NODE no_nodes (read_root Lenient (length u.value.1)) (mend_root (length u.value.1)) (root-mend (length u.value.1)) u.rest r su.rest-fine er in
    let fin = file-end [] (0, []) no_nodes (as_read read_textures) (mend_brushes (length t.value)) (mend_root (length u.value.1)) _ t u r et eu er _ m e₄ in
    let fr : Fill r.rest [] = subst (λ (c : Chunks). Fill c []) (sym fin) tt in
    let ys = r.bodies ++ [] in
    let fy = sr.fill [] fr in
    let zs = u.bodies ++ ys in
    let fz = su.fill ys fy in
    let xs = t.bodies ++ zs in
    let hd = held BB3D 0 h.place h.left xs fl (st.fill zs fz) in
    let in_edits = woven (pieces h.place h.left) xs in
    let nil : r.bodies ++ [] ≡ r.bodies = append-nil r.bodies in
    let value = scene_of n t.value u.value r.value in
    let made : record { value = value; edits = keep (bytes n []) ∷ in_edits } ≡ m =
    ap (λ (l : List (List Edit)). record { value = value; edits = keep (bytes n []) ∷ woven (pieces h.place h.left) (t.bodies ++ (u.bodies ++ l)) }) nil ∙ ended-fine r.rest _ m e₄ in
    subst (BodyMended b) made
    (record {
      given = ap (λ (l : List ℕ). bytes n [] ++ l) hd.given ∙ given₀;
      small = (keep-small _, hd.small);
      long = omega arith;
      again = λ q.
          let y = row_back file_head (n ∷ []) o.0 q (after in_edits) in
          let i = hd.again 0 y.0 in
          let zt = st.again zs fz i.0 in
          let zu = su.again ys fy zt.1 in
          let zr = sr.again [] fr zu.1 in
          let lt = textures-count zt.0 t.value zt.3 in
          let lu = brushes-count zu.0 u.value zu.3 in (
            scene_of n zt.0 zu.0 zr.0,
            body-read q (bytes n [] ++ after in_edits) (record { value = n ∷ []; place = y.0; left = after in_edits }) (record { value = zt.0; rest = swap t.rest zs zt.1 })
                (record { value = zu.0; rest = swap u.rest ys zu.1 }) (record { value = zr.0; rest = swap r.rest [] zr.1 }) (length t.value) (length u.value.1)
                y.1 (ap (read_one TEXS [] read_textures) i.1 ∙ zt.2) lt zu.2 lu zr.2 (ap (λ (c : Chunks). swap c [] zr.1) fin),
            scene_same n zt.0 t.value zu.0 u.value zr.0 r.value zt.3 zu.3 zr.3,
          );
    })))))

-- ---- the file

-- a length of BB3D as it was given
length-was : (said is new : ℕ) → was (file_length said is new) ≡ bytes said []
unfolding file_length was if
length-was said is new =
    by_test (eqb said is)
    (λ t. ap was (if_yes (eqb said is) _ _ t) ∙ ap (λ (k : ℕ). bytes k []) (sym (eqb→eq said is t)))
    (λ t. ap was (if_no (eqb said is) _ _ t))

length-becomes : (said is new : ℕ) → becomes (file_length said is new) ≡ bytes new []
unfolding file_length becomes if
length-becomes said is new =
    by_test (eqb said is) (λ t. ap becomes (if_yes (eqb said is) _ _ t)) (λ t. ap becomes (if_no (eqb said is) _ _ t))

kept-was : (n : ℕ) → was (keep (bytes n [])) ≡ bytes n []
unfolding was
kept-was n = refl

kept-becomes : (n : ℕ) → becomes (keep (bytes n [])) ≡ bytes n []
unfolding becomes
kept-becomes n = refl

two_are : (ws : List ℕ) → Fits header ws → ws ≡ get_or ws 0 0 ∷ get_or ws 1 0 ∷ []
two_are [] h = absurd h
two_are (a ∷ []) h = absurd h.2
two_are (a ∷ b ∷ []) h = refl
two_are (a ∷ b ∷ c ∷ ws) h = absurd h.2.2

-- what is left after a header, and the header
pub record Opened (s : List ℕ) (h : Step (List ℕ)) : Type 0 where
  pub is-file : bytes (number h 0) (bytes (number h 1) h.left) ≡ s
  pub bytes_left : AllBytes h.left

pub opened : (s : List ℕ) (h : Step (List ℕ)) → AllBytes s → row header 0 s ≡ accept h → Opened s h
opened s h a e =
    let f = row_fine header 0 s h a e in
    record { is-file = ap (λ (ws : List ℕ). write_words ws h.left) (sym (two_are h.value f.ok)) ∙ row_exact header 0 s h a e; bytes_left = f.bytes }

-- what the mended file is
pub record FileMended (s : List ℕ) (m : Mended Scene) : Type 0 where
  -- the edits are edits of the given file
  pub given : before m.edits ≡ s
  pub size : length s ≤ most_bytes
  -- each mend is one of the four
  pub small : All Small m.edits
  -- the mended file is no longer
  pub shorter : length (after m.edits) ≤ length s
  -- and is read as the scene found, name places aside
  pub again : (v : Scene) × (parse Lenient (after m.edits) ≡ accept v) × (without_places v ≡ without_places m.value)

file-length-small : (said is new : ℕ) → Small (file_length said is new)
unfolding file_length
file-length-small said is new = if_case Small (eqb said is) _ _ (λ t. follow-small is new) (λ t. length-small said new)

low : (n : ℕ) → T (size_fits n) → 12 ≤ n
low n t = let (a, b) = and_yes (leb 12 n) (leb n most_bytes) t in leb→le 12 n a

pub high : (n : ℕ) → T (size_fits n) → n ≤ 16777216
high n t = let (a, b) = and_yes (leb 12 n) (leb n most_bytes) t in leb→le n 16777216 b

size-yes : (n : ℕ) → 12 ≤ n → n ≤ 16777216 → T (size_fits n)
size-yes n a b = yes_and (leb 12 n) (leb n most_bytes) (le→leb 12 n a) (le→leb n 16777216 b)

eqb_same : (n : ℕ) → T (eqb n n)
eqb_same n = yes_eqb {a = n} refl

-- a BB3D with this body
parse-of : (b : List ℕ) → 4 ≤ length b → length b ≤ 16777208 → (P : Scene → Type 0) → ((q : ℕ) → (v : Scene) × (read_body Lenient q b ≡ accept v) × P v)
    → (v : Scene) × (parse Lenient (bytes (code BB3D) (bytes (length b) b)) ≡ accept v) × P v
unfolding parse
parse-of b lo hi P go =
    let n : ℕ = length (bytes (code BB3D) (bytes (length b) b)) in
    let a₁ : 12 ≤ n = omega arith in
    let a₂ : n ≤ 16777216 = omega arith in
    let a₃ : length b < 4294967296 = omega arith in
    let x = row_back header (code BB3D ∷ length b ∷ []) (code-word BB3D, tt, (a₃, tt, tt)) 0 b in
    let y = go x.0 in (
      y.0,
      rw (check-yes (size_fits n) 1 0 (size-yes n a₁ a₂), x.1, check-yes (eqb (code BB3D) (code BB3D)) 2 0 (eqb_same (code BB3D)), check-yes (eqb (length b) (length b)) 2 4 (eqb_same (length b))) y.1,
      y.2,
    )

pub file-mended : (s : List ℕ) (m : Mended Scene) → AllBytes s → mend_file s ≡ accept m → FileMended s m
unfolding mend_file before after
file-mended s m a e =
    by-check (size_fits (length s)) 1 0 _ e (λ z e₁.
    by_got (row header 0 s) _ e₁ (λ h eh e₂.
    by-check (eqb (number h 0) (code BB3D)) 2 0 _ e₂ (λ t e₃.
    by_got (mend_body h.place h.left) _ e₃ (λ x ex e₄.
    let o = opened s h a eh in
    let hi = high (length s) z in
    let ln : length s ≡ 8 + length h.left = omega (arith, ap (λ (l : List ℕ). length l) o.is-file) in
    let g = body-mended h.place h.left x (o.bytes_left, omega arith) ex in
    let new = after x.edits in
    let le = after_less x.edits g.small in
    let le₁ : length new ≤ length h.left = omega (arith, ap (λ (l : List ℕ). length l) g.given) in
    let edits₁ = keep (bytes (code BB3D) []) ∷ file_length (number h 1) (length h.left) (length new) ∷ x.edits in
    let file : after edits₁ ≡ bytes (code BB3D) (bytes (length new) new) =
    ap₂ (λ (u v : List ℕ). u ++ (v ++ new)) (kept-becomes (code BB3D)) (length-becomes (number h 1) (length h.left) (length new)) in
    let was-file : before edits₁ ≡ s =
    ap₂ (λ (u v : List ℕ). u ++ (v ++ before x.edits)) (kept-was (code BB3D)) (length-was (number h 1) (length h.left) (length new))
    ∙ ap₂ (λ (k : ℕ) (l : List ℕ). bytes k (bytes (number h 1) l)) (sym (eqb→eq (number h 0) (code BB3D) t)) g.given ∙ o.is-file in
    let y = parse-of new g.long (omega arith) (λ v. without_places v ≡ without_places x.value) g.again in
    subst (FileMended s) (got_inj e₄)
    (record {
      given = was-file;
      size = hi;
      small = (keep-small _, (file-length-small (number h 1) (length h.left) (length new), g.small));
      shorter = omega (arith, ap (λ (l : List ℕ). length l) file);
      again = (y.0, ap (parse Lenient) file ∙ y.1, y.2);
    })))))
