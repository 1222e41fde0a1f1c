-- What the nesting rule leaves of the chunks of a stretch and of the same without some of what is private: the shape that the readers go by.
use mathlib.Core.Path.{◌≡◌, refl}
use Prim.Native.Nat.{ℕ}
use mathlib.Core.Bool.{true, false}
use mathlib.Core.List.{List, []}
use Rattle.wire.specs.Bytes.{bytes, IsWord}
use Rattle.wire.specs.Test.{if}
use Rattle.layout.specs.Chunks.{done, stop, chunk}
use Rattle.b3d_spec.specs.declared.Tag.TheVariants.{BB3D, TEXS, BRUS, NODE, MESH, VRTS, TRIS, BONE, KEYS, ANIM}
use Rattle.b3d_spec.specs.Tags.{Chunks}
use Rattle.b3d_spec.specs.Nesting.{Reached, start, next, onward, order, reached_at}
use Rattle.b3d_spec_demands.specs.Private.{body_of, Without, same}
use Rattle.b3d_spec_demands.proofs.PrivateSplitLaws.{Short, Rel, ends, stops, one, after, texs, brus}

-- ---- bodies without anything private

keys-same : {b c : List ℕ} → Without (body_of KEYS) b c → b ≡ c
keys-same same = refl

anim-same : {b c : List ℕ} → Without (body_of ANIM) b c → b ≡ c
anim-same same = refl

bone-same : {b c : List ℕ} → Without (body_of BONE) b c → b ≡ c
bone-same same = refl

vrts_same : {b c : List ℕ} → Without (body_of VRTS) b c → b ≡ c
vrts_same same = refl

tris_same : {b c : List ℕ} → Without (body_of TRIS) b c → b ≡ c
tris_same same = refl

-- ---- in a MESH: a VRTS, then TRIS

pub data Sets : Chunks → Chunks → Type 0 where
  s_end : Sets done done
  s_cut : {n p : ℕ} {ds : Chunks} → Sets (stop n p) ds
  s_one : {p q : ℕ} {b c : List ℕ} {r s : Chunks} → b ≡ c → Sets r s → Sets (chunk TRIS p b r) (chunk TRIS q c s)

pub data AlikeMesh : Chunks → Chunks → Type 0 where
  v_cut : {n p : ℕ} {ds : Chunks} → AlikeMesh (stop n p) ds
  v_one : {p q : ℕ} {b c : List ℕ} {r s : Chunks} → b ≡ c → Sets r s → AlikeMesh (chunk VRTS p b r) (chunk VRTS q c s)

in-mesh : {cs ds : Chunks} → Rel MESH cs ds → (h k : ℕ)
    → Sets (order MESH h (reached_at 2 false) cs) (order MESH k (reached_at 2 false) ds) × Sets (order MESH h (reached_at 1 true) cs) (order MESH k (reached_at 1 true) ds) × AlikeMesh (order MESH h start cs) (order MESH k start ds)
unfolding order onward next if
in-mesh ends h k = (s_end, s_cut, v_cut)
in-mesh stops h k = (s_cut, s_cut, v_cut)
in-mesh (one {t = BB3D} x i y) h k = (s_cut, s_cut, v_cut)
in-mesh (one {t = TEXS} x i y) h k = (s_cut, s_cut, v_cut)
in-mesh (one {t = BRUS} x i y) h k = (s_cut, s_cut, v_cut)
in-mesh (one {t = NODE} x i y) h k = (s_cut, s_cut, v_cut)
in-mesh (one {t = MESH} x i y) h k = (s_cut, s_cut, v_cut)
in-mesh (one {t = VRTS} x i y) h k = (s_cut, s_cut, v_one (vrts_same x) (in-mesh y h k).1)
in-mesh (one {t = TRIS} x i y) h k = (s_one (tris_same x) (in-mesh y h k).0, s_one (tris_same x) (in-mesh y h k).0, v_cut)
in-mesh (one {t = BONE} x i y) h k = (s_cut, s_cut, v_cut)
in-mesh (one {t = KEYS} x i y) h k = (s_cut, s_cut, v_cut)
in-mesh (one {t = ANIM} x i y) h k = (s_cut, s_cut, v_cut)

pub meshed : {cs ds : Chunks} → Rel MESH cs ds → (h k : ℕ) → AlikeMesh (order MESH h start cs) (order MESH k start ds)
meshed x h k = (in-mesh x h k).2

-- ---- in a NODE: a MESH or a BONE, then KEYS and ANIM, then NODE

pub data Nodes : Chunks → Chunks → Type 0 where
  n_end : Nodes done done
  n_cut : {n p : ℕ} {ds : Chunks} → Nodes (stop n p) ds
  n_one : {p q : ℕ} {b c : List ℕ} {r s : Chunks} → Without (body_of NODE) b c → Short b → Nodes r s → Nodes (chunk NODE p b r) (chunk NODE q c s)

pub data AlikeAnimation : Chunks → Chunks → Type 0 where
  m_nodes : {cs ds : Chunks} → Nodes cs ds → AlikeAnimation cs ds
  m_keys : {p q : ℕ} {b c : List ℕ} {r s : Chunks} → b ≡ c → AlikeAnimation r s → AlikeAnimation (chunk KEYS p b r) (chunk KEYS q c s)
  m_anim : {p q : ℕ} {b c : List ℕ} {r s : Chunks} → b ≡ c → AlikeAnimation r s → AlikeAnimation (chunk ANIM p b r) (chunk ANIM q c s)
  m_after : {p p' q : ℕ} {a b : List ℕ} {r ds : Chunks} → AlikeAnimation (chunk ANIM p a r) ds → AlikeAnimation (chunk ANIM p a (chunk KEYS p' b r)) (chunk KEYS q b ds)

pub data Inside : Chunks → Chunks → Type 0 where
  i_moves : {cs ds : Chunks} → AlikeAnimation cs ds → Inside cs ds
  i_mesh : {p q : ℕ} {b c : List ℕ} {r s : Chunks} → Without (body_of MESH) b c → Short b → AlikeAnimation r s → Inside (chunk MESH p b r) (chunk MESH q c s)
  i_bone : {p q : ℕ} {b c : List ℕ} {r s : Chunks} → b ≡ c → AlikeAnimation r s → Inside (chunk BONE p b r) (chunk BONE q c s)

-- by how far they have come: reachedAt NODE; among KEYS, without and with ANIM; after a kind; reachedAt the start
record Turns (h k : ℕ) (cs ds : Chunks) : Type 0 where
  nodes : Nodes (order NODE h (reached_at 3 false) cs) (order NODE k (reached_at 3 false) ds)
  moves : AlikeAnimation (order NODE h (reached_at 2 false) cs) (order NODE k (reached_at 2 false) ds)
  moved : AlikeAnimation (order NODE h (reached_at 2 true) cs) (order NODE k (reached_at 2 true) ds)
  kind : AlikeAnimation (order NODE h (reached_at 1 true) cs) (order NODE k (reached_at 1 true) ds)
  all : Inside (order NODE h start cs) (order NODE k start ds)

m_stop : {n p : ℕ} {ds : Chunks} → AlikeAnimation (stop n p) ds
m_stop = m_nodes n_cut

in-node : {cs ds : Chunks} → Rel NODE cs ds → (h k : ℕ) → Turns h k cs ds
unfolding order onward next if
in-node ends h k = record { nodes = n_end; moves = m_nodes n_end; moved = m_nodes n_end; kind = m_nodes n_end; all = i_moves (m_nodes n_end) }
in-node stops h k = record { nodes = n_cut; moves = m_stop; moved = m_stop; kind = m_stop; all = i_moves m_stop }
in-node (one {t = BB3D} x i y) h k = record { nodes = n_cut; moves = m_stop; moved = m_stop; kind = m_stop; all = i_moves m_stop }
in-node (one {t = TEXS} x i y) h k = record { nodes = n_cut; moves = m_stop; moved = m_stop; kind = m_stop; all = i_moves m_stop }
in-node (one {t = BRUS} x i y) h k = record { nodes = n_cut; moves = m_stop; moved = m_stop; kind = m_stop; all = i_moves m_stop }
in-node (one {t = NODE} x i y) h k =
    let z = (in-node y h k).nodes in
    record { nodes = n_one x i z; moves = m_nodes (n_one x i z); moved = m_nodes (n_one x i z); kind = m_nodes (n_one x i z); all = i_moves (m_nodes (n_one x i z)) }
in-node (one {t = MESH} x i y) h k = record { nodes = n_cut; moves = m_stop; moved = m_stop; kind = m_stop; all = i_mesh x i (in-node y h k).kind }
in-node (one {t = VRTS} x i y) h k = record { nodes = n_cut; moves = m_stop; moved = m_stop; kind = m_stop; all = i_moves m_stop }
in-node (one {t = TRIS} x i y) h k = record { nodes = n_cut; moves = m_stop; moved = m_stop; kind = m_stop; all = i_moves m_stop }
in-node (one {t = BONE} x i y) h k = record { nodes = n_cut; moves = m_stop; moved = m_stop; kind = m_stop; all = i_bone (bone-same x) (in-node y h k).kind }
in-node (one {t = KEYS} x i y) h k =
    let e = keys-same x in
    let z = in-node y h k in
    record { nodes = n_cut; moves = m_keys e z.moves; moved = m_keys e z.moved; kind = m_keys e z.moves; all = i_moves (m_keys e z.moves) }
in-node (one {t = ANIM} x i y) h k =
    let e = anim-same x in
    let z = in-node y h k in
    record { nodes = n_cut; moves = m_anim e z.moved; moved = m_stop; kind = m_anim e z.moved; all = i_moves (m_anim e z.moved) }
in-node (after y) h k = let z = in-node y h k in record { nodes = n_cut; moves = m_after z.moves; moved = m_stop; kind = m_after z.moves; all = i_moves (m_after z.moves) }

pub noded : {cs ds : Chunks} → Rel NODE cs ds → (h k : ℕ) → Inside (order NODE h start cs) (order NODE k start ds)
noded x h k = (in-node x h k).all

-- ---- in the BB3D: a TEXS, a BRUS, a NODE; the second may not have come as far

pub data Phase : Type 0 where
  fresh textured brushed over : Phase

abbrev pub reached : Phase → Reached
reached fresh = start
reached textured = reached_at 1 true
reached brushed = reached_at 2 true
reached over = reached_at 3 true

-- a BRUS may come; a NODE may come
abbrev pub Early : Phase → Type 0
Early fresh = Unit {0}
Early textured = Unit {0}
Early brushed = ⊥
Early over = ⊥

abbrev pub Open : Phase → Type 0
Open fresh = Unit {0}
Open textured = Unit {0}
Open brushed = Unit {0}
Open over = ⊥

-- the second has come no further than the first
abbrev pub Lags : Phase → Phase → Type 0
Lags fresh j = j ≡ fresh
Lags textured j = Early j
Lags brushed j = Open j
Lags over j = Unit {0}

early_open : (j : Phase) → Early j → Open j
early_open fresh e = tt
early_open textured e = tt
early_open brushed e = absurd e
early_open over e = absurd e

at_brus : (k p : ℕ) (b : List ℕ) (r : Chunks) (j : Phase) → Early j → order BB3D k (reached j) (chunk BRUS p b r) ≡ chunk BRUS p b (order BB3D k (reached brushed) r)
unfolding order onward next if
at_brus k p b r fresh e = refl
at_brus k p b r textured e = refl
at_brus k p b r brushed e = absurd e
at_brus k p b r over e = absurd e

at_node : (k p : ℕ) (b : List ℕ) (r : Chunks) (j : Phase) → Open j → order BB3D k (reached j) (chunk NODE p b r) ≡ chunk NODE p b (order BB3D k (reached over) r)
unfolding order onward next if
at_node k p b r fresh e = refl
at_node k p b r textured e = refl
at_node k p b r brushed e = refl
at_node k p b r over e = absurd e

pub data Filed : Phase → Phase → Chunks → Chunks → Type 0 where
  f_end : {i j : Phase} → Filed i j done done
  f_cut : {i j : Phase} {n p : ℕ} {ds : Chunks} → Filed i j (stop n p) ds
  f_texs : {p q : ℕ} {b c : List ℕ} {r s : Chunks} → Without (body_of TEXS) b c → Filed textured textured r s → Filed fresh fresh (chunk TEXS p b r) (chunk TEXS q c s)
  f_no_texs : {j : Phase} {p : ℕ} {r ds : Chunks} → Filed textured j r ds → Filed fresh j (chunk TEXS p [] r) ds
  f_brus : {i j : Phase} {p q : ℕ} {b c : List ℕ} {r s : Chunks} → Early i → Early j → Without (body_of BRUS) b c → Filed brushed brushed r s → Filed i j (chunk BRUS p b r) (chunk BRUS q c s)
  f_no_brus : {i j : Phase} {p : ℕ} {r ds : Chunks} (n : ℕ) → Early i → IsWord n → Filed brushed j r ds → Filed i j (chunk BRUS p (bytes n []) r) ds
  f_node : {i j : Phase} {p q : ℕ} {b c : List ℕ} {r s : Chunks} → Open i → Open j → Without (body_of NODE) b c → Short b → Filed over over r s → Filed i j (chunk NODE p b r) (chunk NODE q c s)

pub in-file : {cs ds : Chunks} → Rel BB3D cs ds → (h k : ℕ) (i j : Phase) → Lags i j → Filed i j (order BB3D h (reached i) cs) (order BB3D k (reached j) ds)
unfolding order onward next if
in-file ends h k i j l = f_end
in-file stops h k i j l = f_cut
in-file (one {t = BB3D} x a y) h k i j l = f_cut
in-file (one {t = TEXS} x a y) h k fresh j l = rw l (f_texs x (in-file y h k textured textured tt))
in-file (one {t = TEXS} x a y) h k textured j l = f_cut
in-file (one {t = TEXS} x a y) h k brushed j l = f_cut
in-file (one {t = TEXS} x a y) h k over j l = f_cut
in-file (one {t = BRUS} x a y) h k fresh j l = rw l (f_brus tt tt x (in-file y h k brushed brushed tt))
in-file (one {t = BRUS} {p' = q} {c = c} {q = r} x a y) h k textured j l = rw (at_brus k q c r j l) (f_brus tt l x (in-file y h k brushed brushed tt))
in-file (one {t = BRUS} x a y) h k brushed j l = f_cut
in-file (one {t = BRUS} x a y) h k over j l = f_cut
in-file (one {t = NODE} x a y) h k fresh j l = rw l (f_node tt tt x a (in-file y h k over over tt))
in-file (one {t = NODE} {p' = q} {c = c} {q = r} x a y) h k textured j l = rw (at_node k q c r j (early_open j l)) (f_node tt (early_open j l) x a (in-file y h k over over tt))
in-file (one {t = NODE} {p' = q} {c = c} {q = r} x a y) h k brushed j l = rw (at_node k q c r j l) (f_node tt l x a (in-file y h k over over tt))
in-file (one {t = NODE} x a y) h k over j l = f_cut
in-file (one {t = MESH} x a y) h k i j l = f_cut
in-file (one {t = VRTS} x a y) h k i j l = f_cut
in-file (one {t = TRIS} x a y) h k i j l = f_cut
in-file (one {t = BONE} x a y) h k i j l = f_cut
in-file (one {t = KEYS} x a y) h k i j l = f_cut
in-file (one {t = ANIM} x a y) h k i j l = f_cut
in-file (texs y) h k fresh j l = f_no_texs (in-file y h k textured j (rw l tt))
in-file (texs y) h k textured j l = f_cut
in-file (texs y) h k brushed j l = f_cut
in-file (texs y) h k over j l = f_cut
in-file (brus n w y) h k fresh j l = f_no_brus n tt w (in-file y h k brushed j (rw l tt))
in-file (brus n w y) h k textured j l = f_no_brus n tt w (in-file y h k brushed j (early_open j l))
in-file (brus n w y) h k brushed j l = f_cut
in-file (brus n w y) h k over j l = f_cut
