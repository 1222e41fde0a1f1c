-- An accepted file without some of what is private is accepted and alike; so two that are one file then are alike.
use mathlib.Core.Path.{◌≡◌, refl, ap, sym, ◌∙◌, subst}
use Prim.Native.Nat.{ℕ, ◌+◌, ◌≤◌}
use native.Mathlib.Omega.{arith}
use mathlib.Core.Option.{none}
use mathlib.Core.List.{List, [], ◌∷◌, ◌++◌, map, append-nil}
use lib.ListN.{length, get_or, length-append}
use lib.Dec.{T, eqb, eqb_refl}
use Rattle.wire.specs.Bytes.{AllBytes, bytes}
use Rattle.wire.specs.Test.{if}
use Rattle.layout.specs.Chunks.{done, stop, chunk, ended}
use Rattle.layout.specs.Result.{Result, accept, reject, ◌>>=◌}
use Rattle.layout.specs.Parts.{row, number, items_in, items}
use Rattle.layout.proofs.AllLaws.{All, all-zip}
use Rattle.layout.proofs.ResultLaws.{by_got, by-check, check-yes, bad_got, bind_bind}
use Rattle.layout.proofs.PartLaws.{row_back}
use Rattle.layout.proofs.StepLaws.{row_shrinks}
use Rattle.layout.proofs.ListLaws.{same_length}
use Rattle.layout.specs.Rows.{size_fits, most_bytes}
use Rattle.b3d_spec.specs.declared.Mode.TheVariants.{Lenient}
use Rattle.b3d_spec.specs.Answers.{judge}
use Rattle.b3d_spec.specs.Names.{named, unnamed, rename_brush, rename, no_name, cleared}
use Rattle.b3d_spec.specs.Nesting.{inside}
use Rattle.b3d_spec.specs.Parse.{read_one, read_textures, read_brushes, read_node, read_root, slots_of, read_body, parse}
use Rattle.b3d_spec.specs.Rules.{header, file_head, levels, row_limit}
use Rattle.b3d_spec.specs.Scene.{Texture, Brush, Forest, no_nodes, node, Scene}
use Rattle.b3d_spec.specs.Tables.{rows, tables}
use Rattle.b3d_spec.specs.declared.Tag.TheVariants.{BB3D, TEXS, BRUS, NODE}
use Rattle.b3d_spec.specs.Tags.{code, Chunks, Found, write_chunk}
use Rattle.b3d_spec.proofs.AnswerLaws.{judge_got, judge-yes}
use Rattle.b3d_spec.proofs.Files.FileLaws.{size-yes, size_low, size_bound}
use Rattle.b3d_spec.proofs.Files.TagCodeLaws.{code-word}
use Rattle.b3d_spec.proofs.Rows.RenameLaws.{cleared-rows}
use Rattle.b3d_spec_demands.specs.Demands.{Alike}
use Rattle.b3d_spec_demands.specs.Private.{body_of, chunks_in, Without, same, file, FileWithout, TakenOut, KeptPrivate}
use Rattle.b3d_spec_demands.proofs.ReadingPairLaws.{Follows, follow-then, follow_bind, follow_got, follow-same, Beside, head-follow, head_twice}
use Rattle.b3d_spec_demands.proofs.PrivateSplitLaws.{Short, no_longer, split-rel}
use Rattle.b3d_spec_demands.proofs.PrivateShapeLaws.{Phase, fresh, textured, brushed, over, Early, Open, Filed, f_end, f_cut, f_texs, f_no_texs, f_brus, f_no_brus, f_node, in-file}
use Rattle.b3d_spec_demands.proofs.PrivateReadingLaws.{Forests, Bodies, node-follow, Textures, textures-follow, Brushes, brushes-follow, brushes-none}
use Rattle.b3d_spec_demands.proofs.SoundTableLaws.{named-length}
use Rattle.b3d_spec_demands.proofs.ClearerDemandLaws.{cleared-alike}
use Rattle.b3d_spec_demands.proofs.CallLaws.{is-alike, one_copy}

-- ---- a BB3D's body, from a phase on: with version v, textures ts, and slots and brushes u so far

abbrev Laid : Type 0
Laid = ℕ × List Brush

abbrev from-node : ℕ → List Texture → Laid → Chunks → Result Scene
from-node v ts u cs =
    read_one NODE no_nodes (read_root Lenient (length u.1)) cs >>= λ n. ended n.rest (record { version = v; textures = ts; slots = slots_of u.0 u.1; brushes = u.1; nodes = n.value })

abbrev from_brus : ℕ → List Texture → Chunks → Result Scene
from_brus v ts cs = read_one BRUS (0, []) (read_brushes Lenient (length ts)) cs >>= λ u. from-node v ts u.value u.rest

abbrev from_texs : ℕ → Chunks → Result Scene
from_texs v cs = read_one TEXS [] read_textures cs >>= λ t. from_brus v t.value t.rest

abbrev from : Phase → ℕ → List Texture → Laid → Chunks → Result Scene
from fresh v ts u cs = from_texs v cs
from textured v ts u cs = from_brus v ts cs
from brushed v ts u cs = from-node v ts u cs
from over v ts u cs = reject 0 0

-- nothing so far
abbrev Sofar : Phase → List Texture → Laid → Type 0
Sofar fresh ts u = (ts ≡ []) × (u ≡ (0, []))
Sofar textured ts u = u ≡ (0, [])
Sofar brushed ts u = Unit {0}
Sofar over ts u = Unit {0}

sofar_none : (i : Phase) → Early i → (ts : List Texture) (u : Laid) → Sofar i ts u → u ≡ (0, [])
sofar_none fresh e ts u h = h.1
sofar_none textured e ts u h = h
sofar_none brushed e ts u h = absurd e
sofar_none over e ts u h = absurd e

module _ (v : ℕ) where
  at-stop : (i : Phase) (ts : List Texture) (u : Laid) (n p : ℕ) (t : Scene) → from i v ts u (stop n p) ≡ accept t → ⊥
  unfolding read_one
  at-stop fresh ts u n p t e = bad_got e
  at-stop textured ts u n p t e = bad_got e
  at-stop brushed ts u n p t e = bad_got e
  at-stop over ts u n p t e = bad_got e

  at_done : (i : Phase) → Open i → (ts : List Texture) (u : Laid) → Sofar i ts u → from i v ts u done ≡ from-node v ts u done
  unfolding read_one
  at_done fresh o ts u h = rw (h.0, h.1)
  at_done textured o ts u h = rw h
  at_done brushed o ts u h = refl
  at_done over o ts u h = absurd o

  at_node : (i : Phase) → Open i → (ts : List Texture) (u : Laid) (p : ℕ) (b : List ℕ) (r : Chunks) → Sofar i ts u → from i v ts u (chunk NODE p b r) ≡ from-node v ts u (chunk NODE p b r)
  unfolding read_one if
  at_node fresh o ts u p b r h = rw (h.0, h.1)
  at_node textured o ts u p b r h = rw h
  at_node brushed o ts u p b r h = refl
  at_node over o ts u p b r h = absurd o

  at_brus : (i : Phase) → Early i → (ts : List Texture) (u : Laid) (p : ℕ) (b : List ℕ) (r : Chunks) → Sofar i ts u
      → from i v ts u (chunk BRUS p b r) ≡ (read_brushes Lenient (length ts) p b >>= λ z. from-node v ts z r)
  unfolding read_one if
  at_brus fresh o ts u p b r h = rw h.0 (bind_bind (read_brushes Lenient 0 p b) _ _)
  at_brus textured o ts u p b r h = bind_bind (read_brushes Lenient (length ts) p b) _ _
  at_brus brushed o ts u p b r h = absurd o
  at_brus over o ts u p b r h = absurd o

-- ---- scenes, names aside

abbrev Cleared : Scene → Scene → Type 0
Cleared t u = cleared t ≡ cleared u

abbrev Laids : Laid → Laid → Type 0
Laids x y = (slots_of x.0 x.1 ≡ slots_of y.0 y.1) × Brushes x.1 y.1

slots_same : (n m : ℕ) (l k : List Brush) → n ≡ m → Brushes l k → slots_of n l ≡ slots_of m k
unfolding slots_of
slots_same n m [] [] e h = refl
slots_same n m [] (y ∷ k) e h = let z : ◌≡◌ {A = ℕ} 0 1 = cc in absurd (omega arith)
slots_same n m (x ∷ l) [] e h = let z : ◌≡◌ {A = ℕ} 0 1 = cc in absurd (omega arith)
slots_same n m (x ∷ l) (y ∷ k) e h = e

root-follow : (n : ℕ) (b c : List ℕ) → Without (body_of NODE) b c → Short b → (p q : ℕ) → Follows Forests (read_root Lenient n p b) (read_root Lenient n q c)
unfolding read_root
root-follow n b c s hb p q =
    follow_bind Bodies Forests (read_node Lenient levels n none p b) (read_node Lenient levels n none q c) _ _ (node-follow levels n none b c s hb p q) (λ x y k. follow_got Forests _ _ (λ i. node (k.0 i) (k.1 i) no_nodes))

-- what follows the NODE
ended-follow : {r s : Chunks} → Filed over over r s → (t u : Scene) → Cleared t u → Follows Cleared (ended r t) (ended s u)
unfolding ended
ended-follow f_end t u h = follow_got Cleared t u h
ended-follow f_cut t u h = λ x e. bad_got e
ended-follow (f_brus e d x y) t u h = absurd e
ended-follow (f_no_brus n e w y) t u h = absurd e
ended-follow (f_node o d x b y) t u h = absurd o

module _ (v : ℕ) (ts us : List Texture) (x y : Laid) (et : Textures ts us) (ex : Laids x y) where
  scenes_same : (f g : Forest) → Forests f g
      → Cleared (record { version = v; textures = ts; slots = slots_of x.0 x.1; brushes = x.1; nodes = f }) (record { version = v; textures = us; slots = slots_of y.0 y.1; brushes = y.1; nodes = g })
  unfolding cleared rename
  scenes_same f g e = λ i. record { version = v; textures = et i; slots = ex.0 i; brushes = ex.1 i; nodes = e i }

  done-follow : Follows Cleared (from-node v ts x done) (from-node v us y done)
  unfolding read_one
  done-follow = ended-follow f_end _ _ (scenes_same no_nodes no_nodes refl)

  abbrev Found-Forests : Found Forest → Found Forest → Type 0
  Found-Forests n m = Forests n.value m.value × Filed over over n.rest m.rest

  node_phase : (p q : ℕ) (b c : List ℕ) (r s : Chunks) → Without (body_of NODE) b c → Short b → Filed over over r s → Follows Cleared (from-node v ts x (chunk NODE p b r)) (from-node v us y (chunk NODE q c s))
  unfolding read_one if
  node_phase p q b c r s h hb z =
      follow_bind Found-Forests Cleared (read_root Lenient (length x.1) p b >>= λ a. accept (record { value = a; rest = r })) (read_root Lenient (length y.1) q c >>= λ a. accept (record { value = a; rest = s })) _ _
      (follow_bind Forests Found-Forests (read_root Lenient (length x.1) p b) (read_root Lenient (length y.1) q c) _ _
      (subst (λ (n : ℕ). Follows Forests (read_root Lenient (length x.1) p b) (read_root Lenient n q c)) (same_length _ x.1 y.1 ex.1) (root-follow (length x.1) b c h hb p q))
      (λ a d k. follow_got Found-Forests _ _ (k, z)))
      (λ n m k. ended-follow k.1 _ _ (scenes_same n.value m.value k.0))

-- nothing laid, and an empty BRUS
none_laid : (a x y : Laid) → a.1 ≡ [] → x ≡ (0, []) → Laids x y → Laids a y
unfolding slots_of
none_laid a x y ea ex h = (
  ap (slots_of a.0) ea ∙ ap (λ (u : Laid). slots_of u.0 u.1) (sym ex) ∙ h.0,
  ap (map (rename_brush no_name)) ea ∙ ap (λ (u : Laid). map (rename_brush no_name) u.1) (sym ex) ∙ h.1,
)

file-follow : {i j : Phase} {cs ds : Chunks} → Filed i j cs ds → (v : ℕ) (ts us : List Texture) (x y : Laid) → Open i → Open j → Sofar i ts x → Sofar j us y → Textures ts us → Laids x y
    → Follows Cleared (from i v ts x cs) (from j v us y ds)
unfolding read_one if read_textures items items_in
file-follow {i} {j} f_end v ts us x y oi oj si sj et ex = follow-same Cleared (at_done v i oi ts x si) (at_done v j oj us y sj) (done-follow v ts us x y et ex)
file-follow {i} {j} (f_cut {n = n} {p = p}) v ts us x y oi oj si sj et ex = λ t e. absurd (at-stop v i ts x n p t e)
file-follow (f_texs {p = p} {q = q} {b = b} {c = c} h z) v ts us x y oi oj si sj et ex =
    follow-same Cleared (bind_bind (read_textures p b) _ _) (bind_bind (read_textures q c) _ _)
    (follow_bind Textures Cleared (read_textures p b) (read_textures q c) _ _ (textures-follow h p q) (λ a d k. file-follow z v a d (0, []) (0, []) tt tt refl refl k (refl, refl)))
file-follow (f_no_texs {p = p} z) v ts us x y oi oj si sj et ex =
    file-follow z v [] us (0, []) y tt oj refl sj (subst (λ (l : List Texture). Textures l us) si.0 et) (subst (λ (l : Laid). Laids l y) si.1 ex)
file-follow {i} {j} (f_brus {p = p} {q = q} {b = b} {c = c} {r = r} {s = s} a d h z) v ts us x y oi oj si sj et ex =
    follow-same Cleared (at_brus v i a ts x p b r si) (at_brus v j d us y q c s sj)
    (follow_bind (λ m n. (m.0 ≡ n.0) × Brushes m.1 n.1) Cleared (read_brushes Lenient (length ts) p b) (read_brushes Lenient (length us) q c) _ _
    (subst (λ (n : ℕ). Follows (λ m n. (m.0 ≡ n.0) × Brushes m.1 n.1) (read_brushes Lenient (length ts) p b) (read_brushes Lenient n q c)) (same_length _ ts us et) (brushes-follow h (length ts) p q))
    (λ m n k. file-follow z v ts us m n tt tt tt tt et (slots_same m.0 n.0 m.1 n.1 k.0 k.1, k.1)))
file-follow {i} {j} (f_no_brus {p = p} {r = r} n a w z) v ts us x y oi oj si sj et ex = λ t e.
    by_got (read_brushes Lenient (length ts) p (bytes n [])) _ (sym (at_brus v i a ts x p (bytes n []) r si) ∙ e) (λ m em e₁.
    file-follow z v ts us m y tt oj tt sj et (none_laid m x y (brushes-none n (length ts) p m w em) (sofar_none i a ts x si) ex) t e₁)
file-follow {i} {j} (f_node {p = p} {q = q} {b = b} {c = c} {r = r} {s = s} a d h hb z) v ts us x y oi oj si sj et ex =
    follow-same Cleared (at_node v i oi ts x p b r si) (at_node v j oj us y q c s sj) (node_phase v ts us x y et ex p q b c r s h hb z)

-- ---- the file

abbrev Headed : ℕ → ℕ → List ℕ → List ℕ → Type 0
Headed p q b c = Follows (Beside (λ (w : List ℕ). w) (Without (chunks_in BB3D))) (row file_head p b) (row file_head q c)

file-head : {b c : List ℕ} → Without (body_of BB3D) b c → (p q : ℕ) → Headed p q b c
file-head {b} same p q = head_twice (Without (chunks_in BB3D)) (λ z. same) file_head p q b
file-head (file {r = r} {q = k} w l z) p q = head-follow (Without (chunks_in BB3D)) file_head p q w r k l z

body-follow : (b c : List ℕ) → Without (body_of BB3D) b c → Short b → (p q : ℕ) → Follows Cleared (read_body Lenient p b) (read_body Lenient q c)
unfolding read_body inside
body-follow b c s hb p q =
    follow-then (Beside (λ (w : List ℕ). w) (Without (chunks_in BB3D))) Cleared (row file_head p b) (row file_head q c) _ _ (file-head s p q) (λ h k eh i.
    let lh = row_shrinks file_head (omega arith) p b h eh in
    subst (λ (n : ℕ). Follows Cleared (from_texs (number h 0) (inside BB3D 0 h.place h.left)) (from_texs n (inside BB3D 0 k.place k.left))) (ap (λ (w : List ℕ). get_or w 0 0) i.0)
    (file-follow (in-file (split-rel i.1 h.place k.place (omega arith)) 0 0 fresh fresh refl) (number h 0) [] [] (0, []) (0, []) tt tt (refl, refl) (refl, refl) refl (refl, refl)))

-- a BB3D of a size within the limits
parse-written : (b : List ℕ) → 4 ≤ length b → 8 + length b ≤ most_bytes → (p : ℕ) × (parse Lenient (write_chunk BB3D b []) ≡ read_body Lenient p b)
unfolding parse
parse-written b lo hi =
    let n = length-append b [] in
    let x = row_back header (code BB3D ∷ length b ∷ []) (code-word BB3D, tt, (omega arith, tt, tt)) 0 (b ++ []) in (
      x.0,
      rw (
        check-yes (size_fits (length (write_chunk BB3D b []))) 1 0 (size-yes (length (write_chunk BB3D b [])) (omega arith) (omega arith)),
        x.1,
        check-yes (eqb (code BB3D) (code BB3D)) 2 0 tt,
        append-nil b,
        check-yes (eqb (length b) (length b)) 2 4 (eqb_refl (length b)),
      ),
    )

parse-size : (s : List ℕ) (t : Scene) → parse Lenient s ≡ accept t → T (size_fits (length s))
unfolding parse
parse-size s t e = by-check (size_fits (length s)) 1 0 _ e (λ z e₁. z)

-- its version stays
version-stays : {b c : List ℕ} → Without (body_of BB3D) b c → 4 ≤ length b → 4 ≤ length c
version-stays same h = h
version-stays (file {q = q} w l y) h = omega (arith, length-append w q)

parse-follow : (b c : List ℕ) → Without (body_of BB3D) b c → Follows Cleared (parse Lenient (write_chunk BB3D b [])) (parse Lenient (write_chunk BB3D c []))
parse-follow b c x t e =
    let n = parse-size (write_chunk BB3D b []) t e in
    let lo = size_low (length (write_chunk BB3D b [])) n in
    let hi = size_bound (length (write_chunk BB3D b [])) n in
    let lb = length-append b [] in
    let lc = no_longer x in
    let i = parse-written b (omega arith) (omega arith) in
    let j = parse-written c (version-stays x (omega arith)) (omega arith) in
    follow-same Cleared i.1 j.1 (body-follow b c x (omega arith) i.0 j.0) t e

few-rows : (t u : Scene) → Cleared t u → All (λ k. length (rows k t) ≤ row_limit) tables → All (λ k. length (rows k u) ≤ row_limit) tables
few-rows t u e few =
    all-zip (λ k. length (rows k u) ≡ length (rows k t)) (λ k. length (rows k t) ≤ row_limit) _ (λ k a b. omega (arith, a, b)) tables
    (all-zip (λ k. rows k (cleared t) ≡ named unnamed k (rows k t)) (λ k. rows k (cleared u) ≡ named unnamed k (rows k u)) _
    (λ k a b. sym (named-length unnamed k (rows k u)) ∙ ap length (sym b ∙ ap (rows k) (sym e) ∙ a) ∙ named-length unnamed k (rows k t)) tables (cleared-rows t) (cleared-rows u)) few

pub taken_out : (s v : List ℕ) → FileWithout s v → TakenOut s v
taken_out s v x = record {
  alike = λ t e.
      let p = judge_got Lenient s t e in
      let g = parse-follow x.one x.other x.body t (subst (λ (w : List ℕ). parse Lenient w ≡ accept t) x.one_is p.0) in
      cleared-alike s v t g.value e (judge-yes Lenient v g.value (ap (parse Lenient) x.other_is ∙ g.is) (few-rows t g.value g.holds p.1)) g.holds;
}

module _ (s v : List ℕ) where
  met : (w : List ℕ) → FileWithout s w → FileWithout v w → (t u : Scene) → judge Lenient s ≡ accept t → judge Lenient v ≡ accept u → Alike s v
  met w x y t u et eu =
      let a = (taken_out s w x).alike t et in
      let b = (taken_out v w y).alike u eu in
      (is-alike s w a).goes_on v (is-alike v w b).turned

  pub private : AllBytes s → AllBytes v → KeptPrivate s v
  private bs bv = record { alike = met; one_copy = λ w x y t u et eu out out' l. one_copy s v bs bv out out' (met w x y t u et eu) l }
