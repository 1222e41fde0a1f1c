-- What the walk over the chunks of a NODE shows: which tags come, what scopes say of bones, and the nodes to the end.
use mathlib.Core.Path.{◌≡◌, refl, ap, ap₂, sym, ◌∙◌, subst}
use Prim.Native.Nat.{ℕ, zero, suc, ◌+◌}
use mathlib.Core.Bool.{Bool, true, false, ◌||◌}
use mathlib.Core.Option.{Option, none, some}
use mathlib.Core.List.{List, [], ◌∷◌, ◌++◌}
use native.Mathlib.Omega.{arith}
use lib.ListN.{length, length-append}
use Rattle.wire.specs.Test.{if}
use Rattle.layout.specs.Chunks.{done, stop, chunk}
use Rattle.layout.specs.Result.{Result, accept}
use Rattle.layout.specs.Parts.{Name, Step, text, words, named}
use Rattle.layout.specs.Rules.{Rule}
use Rattle.layout.specs.Write.{write_words, write_text}
use Rattle.layout.proofs.PartLaws.{named-fine}
use Rattle.layout.proofs.StepLaws.{judged_got}
use Rattle.layout.proofs.ResultLaws.{by_got, bad_got, got_inj}
use Rattle.b3d_spec.specs.declared.Mode.TheVariants.{Lenient}
use Rattle.b3d_spec.specs.declared.Tag.{Tag}
use Rattle.b3d_spec.specs.declared.Tag.TheVariants.{NODE, MESH, BONE, KEYS, ANIM}
use Rattle.b3d_spec.specs.Nesting.{start, next, onward, order, reached_at}
use Rattle.b3d_spec.specs.Parse.{Animation, Inner, read_keys, read_anim, read_node}
use Rattle.b3d_spec.specs.Rules.{node_row, bone_limit, bone_limit_from, bone_limit_below, animated, own_vertices}
use Rattle.b3d_spec.specs.Scene.{Kind, pivot, Anim, no_anim, anim, Forest}
use Rattle.b3d_spec.specs.Tags.{is, Chunks}
use Rattle.b3d_spec.proofs.Files.EntryLaws.{Either}
use Rattle.b3d_spec.proofs.Files.TagCodeLaws.{by-tag}
use Rattle.b3d_spec.proofs.Files.TagLaws.{Only}
use Rattle.b3d_mend_spec.specs.Edits.{Edit, keep, was}
use Rattle.b3d_mend_spec.specs.Mend.{Mended, as_read, mend_bone, Taken, found, mend_mesh, mend_kind, with_keys, with_anim, mend_moves, mend_nodes, data_of, mend_node}
use Rattle.b3d_mend_spec.specs.Pieces.{pieces, chunks_of, woven}
use Rattle.b3d_mend_spec.specs.Walks.{bone_edits}
use Rattle.b3d_mend_spec.proofs.WalkLaws.{bone-edits}
use Rattle.b3d_mend_spec.proofs.PieceLaws.{Fine, FineC, within, within-fine, order-kept}
use Rattle.b3d_mend_spec.proofs.LeafLaws.{named_exact}
use Rattle.b3d_mend_spec.proofs.NodeLaws.{named_joins, nodes_stage, node-mend}
use Rattle.b3d_mend_spec.proofs.StageLaws.{left-fine, kind_stage, moves_stage}
use Rattle.b3d_mend_spec.proofs.TreeLaws.{read-edits}
use Rattle.b3d_mend_spec.proofs.PiecePlaceLaws.{pieces-placed}
use Rattle.b3d_mend_write_spec.specs.Shown.{shown}
use Rattle.b3d_mend_write_spec.proofs.ShowsLaws.{shown-cons}
use Rattle.b3d_mend_write_scopes.specs.Shown.{ChunkShown, walked, next_scope, node_scope, walk_chunks, shown_pieces, walk_inside, walk_leaf, walk_node, walk_chunk}
use Rattle.b3d_mend_write_scopes.specs.declared.Scope.{Scope}
use Rattle.b3d_mend_write_scopes.proofs.PieceShowsLaws.{shown_bodies, woven-shown}
use Rattle.b3d_mend_write_scopes.proofs.MeshShowsLaws.{mesh-walk}

-- ---- which tags come: at most a MESH or a BONE, then KEYS and ANIM, then only NODE

abbrev pub Late : Chunks → Type 0
Late done = Unit {0}
Late (stop n p) = Unit {0}
Late (chunk t p b r) = Either (is t NODE) (Only NODE r) (Either (is t KEYS || is t ANIM) (Late r) ⊥)

abbrev pub NodeTags : Chunks → Type 0
NodeTags done = Unit {0}
NodeTags (stop n p) = Unit {0}
NodeTags (chunk t p b r) = Either (is t MESH || is t BONE) (Late r) (Late (chunk t p b r))

node-more : (head : ℕ) (cs : Chunks) → Only NODE (order NODE head (reached_at 3 false) cs)
unfolding order onward next if
node-more head done = tt
node-more head (stop n p) = tt
node-more head (chunk t p b r) =
    by-tag (λ k. Only NODE (order NODE head (reached_at 3 false) (chunk k p b r))) (tt, tt, tt, (refl, node-more head r), tt, tt, tt, tt, tt, tt) t

late-moves : (s : Bool) (head : ℕ) (cs : Chunks) → Late (order NODE head (reached_at 2 s) cs)
unfolding order onward next if
late-moves s head done = tt
late-moves s head (stop n p) = tt
late-moves false head (chunk t p b r) =
    by-tag (λ k. Late (order NODE head (reached_at 2 false) (chunk k p b r))) (tt, tt, tt, node-more head r, tt, tt, tt, tt, late-moves false head r, late-moves true head r) t
late-moves true head (chunk t p b r) =
    by-tag (λ k. Late (order NODE head (reached_at 2 true) (chunk k p b r))) (tt, tt, tt, node-more head r, tt, tt, tt, tt, late-moves true head r, tt) t

late-kind : (head : ℕ) (cs : Chunks) → Late (order NODE head (reached_at 1 true) cs)
unfolding order onward next if
late-kind head done = tt
late-kind head (stop n p) = tt
late-kind head (chunk t p b r) =
    by-tag (λ k. Late (order NODE head (reached_at 1 true) (chunk k p b r))) (tt, tt, tt, node-more head r, tt, tt, tt, tt, late-moves false head r, late-moves true head r) t

pub node-tags : (head : ℕ) (cs : Chunks) → NodeTags (order NODE head start cs)
unfolding order onward next if
node-tags head done = tt
node-tags head (stop n p) = tt
node-tags head (chunk t p b r) =
    by-tag (λ k. NodeTags (order NODE head start (chunk k p b r))) (tt, tt, tt, node-more head r, late-kind head r, tt, tt, late-kind head r, late-moves false head r, late-moves true head r) t

-- ---- what a scope says of bones

-- to the nodes inside: as the nodes above say
abbrev pub Tells : Scope → Option ℕ → Type 0
Tells c none = (c.top ≡ true) × (c.told ≡ 0)
Tells c (some n) = (c.top ≡ false) × (c.told ≡ n)

-- inside a node, where so many vertices are its own, and it has an ANIM or none yet
pub record Mid (above : Option ℕ) (brushes own : ℕ) (moved : Bool) (e : Scope) : Type 0 where
  pub inner : e.top ≡ false
  pub brush : e.brushes ≡ brushes
  pub owns : e.own ≡ own
  pub bones : e.bones ≡ bone_limit above
  pub told : bone_limit_from above moved own ≡ some e.told

pub mid_tells : (above : Option ℕ) (brushes own : ℕ) (moved : Bool) (e : Scope) → Mid above brushes own moved e → (o : Option ℕ) → o ≡ bone_limit_from above moved own → Tells e o
mid_tells above brushes own moved e m o q = subst (Tells e) (sym (q ∙ m.told)) (m.inner, refl)

-- ---- nodes to the end

pub nodes-walk : (report : Bool) (lv : ℕ) (e : Scope) (fix : ℕ → List ℕ → Result (Mended Inner)) → ((p : ℕ) (b : List ℕ) (m : Mended Inner) → Fine b → fix p b ≡ accept m → walk_chunk report lv e NODE p b ≡ walked (shown report (p + 8) m.edits) 0)
    → (cs : Chunks) (f : Forest × List (List Edit)) → Only NODE cs → FineC cs → mend_nodes fix cs ≡ accept f → (walk_chunks (walk_chunk report lv) e cs).bodies ≡ shown_bodies report cs f.1
unfolding walk_chunks mend_nodes next_scope
nodes-walk report lv e fix h done f k g q = refl
nodes-walk report lv e fix h (stop n p) f k g q = bad_got q
nodes-walk report lv e fix h (chunk t p b r) f k g q =
    by_got (fix p b) _ q (λ x ex q₁.
    by_got (mend_nodes fix r) _ q₁ (λ y ey q₂.
    let ih = nodes-walk report lv e fix h r y k.1 g.1 ey in
    subst (λ (u : Tag). (walk_chunks (walk_chunk report lv) e (chunk u p b r)).bodies ≡ shown_bodies report (chunk u p b r) f.1) (sym k.0)
    (subst (λ (z : Forest × List (List Edit)). (walk_chunks (walk_chunk report lv) e (chunk NODE p b r)).bodies ≡ shown_bodies report (chunk NODE p b r) z.1) (got_inj q₂)
    (ap₂ (λ (w : ChunkShown) (z : List (List ℕ)). w.bytes ∷ z) (h p b x g.0 ex) ih))))

-- ---- KEYS and ANIM

keys-walk : (report : Bool) (lv : ℕ) (e : Scope) (p : ℕ) (b : List ℕ) → walk_chunk report lv e KEYS p b ≡ walked (shown report (p + 8) (keep b ∷ [])) 0
unfolding walk_chunk walk_leaf
keys-walk report zero e p b = refl
keys-walk report (suc lv) e p b = refl

anim-walk : (report : Bool) (lv : ℕ) (e : Scope) (p : ℕ) (b : List ℕ) → walk_chunk report lv e ANIM p b ≡ walked (shown report (p + 8) (keep b ∷ [])) 0
unfolding walk_chunk walk_leaf
anim-walk report zero e p b = refl
anim-walk report (suc lv) e p b = refl

moved_told : (above : Option ℕ) (own : ℕ) → bone_limit_from above true own ≡ some own
moved_told none own = refl
moved_told (some n) own = refl

mid_moved : (above : Option ℕ) (brushes own : ℕ) (moved : Bool) (e : Scope) (n : ℕ) → Mid above brushes own moved e → Mid above brushes own true (next_scope e ANIM n)
unfolding next_scope
mid_moved above brushes own moved e n m = record { inner = m.inner; brush = m.brush; owns = m.owns; bones = m.bones; told = moved_told above own ∙ ap some (sym m.owns) }

never : {A B : Type 0} → ⊥ → A → B
never h a = absurd h

module _ (report : Bool) (lv : ℕ) (above : Option ℕ) (brushes own : ℕ) (ys : List (List Edit)) where
  -- what is left after those found
  abbrev Goes : Taken Animation → Type 0
  Goes x = (e : Scope) → Mid above brushes own (animated x.value.anim) e → Only NODE x.rest → (walk_chunks (walk_chunk report lv) e x.rest).bodies ≡ shown_bodies report x.rest ys

  abbrev Shown : Scope → Chunks → Taken Animation → Type 0
  Shown e cs x = Goes x → (walk_chunks (walk_chunk report lv) e cs).bodies ≡ shown_bodies report cs (x.bodies ++ ys)

  pub moves_walk : (seen : Anim) (cs : Chunks) (x : Taken Animation) (e : Scope) → Late cs → Mid above brushes own (animated seen) e → mend_moves seen cs ≡ accept x → Shown e cs x
  unfolding mend_moves with_keys with_anim walk_chunks next_scope if
  moves_walk seen done x e k m q = subst (Shown e done) (got_inj q) (λ h. h e m tt)
  moves_walk seen (stop n p) x e k m q = bad_got q
  moves_walk seen (chunk t p b r) x e k m q =
      let P : Tag → Type 0 = λ u. Late (chunk u p b r) → mend_moves seen (chunk u p b r) ≡ accept x → Shown e (chunk u p b r) x in
      let nodes : P NODE = λ k q. subst (Shown e (chunk NODE p b r)) (got_inj q) (λ h. h e m (refl, k)) in
      let keys : P KEYS = λ k q. by_got (as_read read_keys p b) _ q (λ a ea q₁. by_got (mend_moves seen r) _ q₁ (λ y ey q₂.
      subst (Shown e (chunk KEYS p b r)) (got_inj q₂) (λ h.
      ap₂ (λ (w : ChunkShown) (z : List (List ℕ)). w.bytes ∷ z) (keys-walk report lv e p b ∙ ap (λ (z : List Edit). walked (shown report (p + 8) z) 0) (sym (read-edits read_keys p b a ea)))
      (moves_walk seen r y e k m ey h)))) in
      let anims : P ANIM = λ k q. by_got (as_read read_anim p b) _ q (λ a ea q₁. by_got (mend_moves (anim a.value) r) _ q₁ (λ y ey q₂.
      subst (Shown e (chunk ANIM p b r)) (got_inj q₂) (λ h.
      ap₂ (λ (w : ChunkShown) (z : List (List ℕ)). w.bytes ∷ z) (anim-walk report lv e p b ∙ ap (λ (z : List Edit). walked (shown report (p + 8) z) 0) (sym (read-edits read_anim p b a ea)))
      (moves_walk (anim a.value) r y (next_scope e ANIM (walk_chunk report lv e ANIM p b).count) k (mid_moved above brushes own (animated seen) e (walk_chunk report lv e ANIM p b).count m) ey h)))) in
      by-tag P (never, never, never, nodes, never, never, never, never, keys, anims) t k q

-- ---- a MESH or a BONE

bone-walk : (report : Bool) (lv : ℕ) (e : Scope) (p : ℕ) (b : List ℕ) → walk_chunk report lv e BONE p b ≡ walked (shown report (p + 8) (bone_edits e.bones b)) 0
unfolding walk_chunk walk_leaf
bone-walk report zero e p b = refl
bone-walk report (suc lv) e p b = refl

-- the root, or not
abbrev pub Roots : Scope → Option ℕ → Type 0
Roots e none = e.root ≡ true
Roots e (some n) = e.root ≡ false

some_inj : {A : Type 0} {a b : A} → some a ≡ some b → a ≡ b
some_inj e = cc

mesh-told : (above : Option ℕ) (e : Scope) (n : ℕ) → Roots e above → bone_limit_from above false 0 ≡ some e.told → bone_limit_from above false n ≡ some (if e.root n e.told)
unfolding if
mesh-told none e n r t = ap (λ (b : Bool). some (if b n e.told)) (sym r)
mesh-told (some j) e n r t = ap some (some_inj t) ∙ ap (λ (b : Bool). some (if b n e.told)) (sym r)

mid_mesh : (above : Option ℕ) (brushes : ℕ) (e : Scope) (n : ℕ) → Roots e above → Mid above brushes 0 false e → Mid above brushes n false (next_scope e MESH n)
unfolding next_scope
mid_mesh above brushes e n r m = record { inner = m.inner; brush = m.brush; owns = refl; bones = m.bones; told = mesh-told above e n r m.told }

module _ (report : Bool) (lv : ℕ) (above : Option ℕ) (brushes : ℕ) (ys : List (List Edit)) where
  abbrev GoesOn : Taken Kind → Type 0
  GoesOn k = (e : Scope) → Mid above brushes (own_vertices k.value) false e → Late k.rest → (walk_chunks (walk_chunk report (suc lv)) e k.rest).bodies ≡ shown_bodies report k.rest ys

  abbrev ShownKind : Scope → Chunks → Taken Kind → Type 0
  ShownKind e cs k = GoesOn k → (walk_chunks (walk_chunk report (suc lv)) e cs).bodies ≡ shown_bodies report cs (k.bodies ++ ys)

  pub kind-walk : (cs : Chunks) (k : Taken Kind) (e : Scope) → NodeTags cs → FineC cs → Roots e above → Mid above brushes 0 false e → mend_kind brushes (bone_limit above) cs ≡ accept k → ShownKind e cs k
  unfolding mend_kind found walk_chunks next_scope if
  kind-walk done k e g f r m q = subst (ShownKind e done) (got_inj q) (λ h. h e m tt)
  kind-walk (stop n p) k e g f r m q = bad_got q
  kind-walk (chunk t p b s) k e g f r m q =
      let P : Tag → Type 0 = λ u. NodeTags (chunk u p b s) → mend_kind brushes (bone_limit above) (chunk u p b s) ≡ accept k → ShownKind e (chunk u p b s) k in
      let as_it_is : (u : Tag) → Late (chunk u p b s) → ◌≡◌ {A = Result (Taken Kind)} (accept (record { value = pivot; bodies = []; rest = chunk u p b s })) (accept k) → ShownKind e (chunk u p b s) k =
      (λ u g q. subst (ShownKind e (chunk u p b s)) (got_inj q) (λ h. h e m g)) in
      let meshes : P MESH = λ g q. by_got (mend_mesh brushes p b) _ q (λ x ex q₁.
      subst (ShownKind e (chunk MESH p b s)) (got_inj q₁) (λ h.
      let w = mesh-walk report lv e p b x f.0 (subst (λ (i : ℕ). mend_mesh i p b ≡ accept x) (sym m.brush) ex) in
      let n = length x.value.vertices in
      ap (λ (z : ChunkShown). z.bytes ∷ (walk_chunks (walk_chunk report (suc lv)) (next_scope e MESH z.count) s).bodies) w
      ∙ ap (λ (z : List (List ℕ)). shown report (p + 8) x.edits ∷ z) (h (next_scope e MESH n) (mid_mesh above brushes e n r m) g))) in
      let bones : P BONE = λ g q. by_got (mend_bone (bone_limit above) p b) _ q (λ x ex q₁.
      subst (ShownKind e (chunk BONE p b s)) (got_inj q₁) (λ h.
      let w : walk_chunk report (suc lv) e BONE p b ≡ walked (shown report (p + 8) x.edits) 0 =
      bone-walk report (suc lv) e p b ∙ ap (λ (i : ℕ). walked (shown report (p + 8) (bone_edits i b)) 0) m.bones ∙ ap (λ (z : List Edit). walked (shown report (p + 8) z) 0) (sym (bone-edits (bone_limit above) p b x ex)) in
      ap (λ (z : ChunkShown). z.bytes ∷ (walk_chunks (walk_chunk report (suc lv)) (next_scope e BONE z.count) s).bodies) w
      ∙ ap (λ (z : List (List ℕ)). shown report (p + 8) x.edits ∷ z) (h (next_scope e BONE 0) (same-bone m) g))) in
      by-tag P (never, never, never, as_it_is NODE, meshes, never, never, bones, as_it_is KEYS, as_it_is ANIM) t g q
    where
      same-bone : Mid above brushes 0 false e → Mid above brushes 0 false (next_scope e BONE 0)
      same-bone m = m

-- ---- where a text and words end

text-place : (start p : ℕ) (s : List ℕ) (x : Step (List ℕ)) → text start p s ≡ accept x → x.place + length x.left ≡ p + length s
unfolding text
text-place start p [] x e = bad_got e
text-place start p (zero ∷ s) x e = let q = ap (λ (y : Step (List ℕ)). y.place + length y.left) (got_inj e) in omega arith
text-place start p (suc c ∷ s) x e =
    by_got (text start (p + 1) s) _ e (λ y ey e₁. let q = ap (λ (z : Step (List ℕ)). z.place + length z.left) (got_inj e₁) in
    let k = text-place start (p + 1) s y ey in
    omega arith)

words-place : (start n p : ℕ) (s : List ℕ) (x : Step (List ℕ)) → words start n p s ≡ accept x → x.place + length x.left ≡ p + length s
unfolding words
words-place start zero p s x e = let q = ap (λ (y : Step (List ℕ)). y.place + length y.left) (got_inj e) in omega arith
words-place start (suc n) p [] x e = bad_got e
words-place start (suc n) p (a ∷ []) x e = bad_got e
words-place start (suc n) p (a ∷ b ∷ []) x e = bad_got e
words-place start (suc n) p (a ∷ b ∷ c ∷ []) x e = bad_got e
words-place start (suc n) p (a ∷ b ∷ c ∷ d ∷ s) x e =
    by_got (words start n (p + 4) s) _ e (λ y ey e₁. let q = ap (λ (z : Step (List ℕ)). z.place + length z.left) (got_inj e₁) in
    let k = words-place start n (p + 4) s y ey in
    omega arith)

named-place : (rs : List Rule) (p : ℕ) (s : List ℕ) (x : Step (Name × List ℕ)) → named rs p s ≡ accept x → x.place + length x.left ≡ p + length s
unfolding named
named-place rs p s x e =
    by_got (text p p s) _ e (λ n en e₁.
    by_got (words p (length rs) n.place n.left) _ e₁ (λ y ey e₂.
    let q = ap (λ (z : Step (Name × List ℕ)). z.place + length z.left) (judged_got rs n.place y.value _ x e₂) in
    let a = text-place p p s n en in
    let b = words-place p (length rs) n.place n.left y ey in
    omega arith))

-- ---- a NODE

tells_bones : (c : Scope) (above : Option ℕ) → Tells c above → c.told ≡ bone_limit above
tells_bones c none t = t.1
tells_bones c (some n) t = t.1

tells_told : (c : Scope) (above : Option ℕ) → Tells c above → bone_limit_from above false 0 ≡ some c.told
tells_told c none t = ap some (sym t.1)
tells_told c (some n) t = ap some (sym t.1)

tells_root : (c : Scope) (above : Option ℕ) → Tells c above → Roots (node_scope c) above
unfolding node_scope
tells_root c none t = t.0
tells_root c (some n) t = t.0

mid_start : (c : Scope) (above : Option ℕ) → Tells c above → Mid above c.brushes 0 false (node_scope c)
unfolding node_scope
mid_start c above t = record { inner = refl; brush = refl; owns = refl; bones = tells_bones c above t; told = tells_told c above t }

abbrev NodeIs : Bool → ℕ → Type 0
NodeIs report l = (c : Scope) (above : Option ℕ) → Tells c above → (p : ℕ) (b : List ℕ) (m : Mended Inner) → Fine b → mend_node l c.brushes above p b ≡ accept m
    → walk_chunk report (suc l) c NODE p b ≡ walked (shown report (p + 8) m.edits) 0

node-step : (report : Bool) (l : ℕ) → NodeIs report l → NodeIs report (suc l)
unfolding mend_node data_of walk_chunk walk_node walk_inside was
node-step report l below c above t p b m f e =
    let brushes = c.brushes in
    by_got (named node_row (p + 8) b) _ e (λ h eh e₁.
    let nm = h.value.0.bytes in
    let ws = h.value.1 in
    let X = write_text nm (write_words ws []) in
    let given₀ : X ++ h.left ≡ b = sym (named_joins nm ws h.left) ∙ named_exact node_row (p + 8) b h f.0 eh in
    let fl = left-fine X h.left b given₀ (named-fine node_row (p + 8) b h f.0 eh).bytes f.1 in
    let cs = within NODE p h.place h.left in
    by_got (mend_kind brushes (bone_limit above) cs) _ e₁ (λ k ek e₂.
    by_got (mend_moves no_anim k.rest) _ e₂ (λ v ev e₃.
    let told = bone_limit_below above (data_of h.value k.value v.value) in
    by_got (mend_nodes (mend_node l brushes told) v.rest) _ e₃ (λ n en e₄.
    let fc = within-fine NODE p h.place h.left fl in
    let sk = kind_stage brushes (bone_limit above) cs k fc ek in
    let sm = moves_stage no_anim k.rest v sk.rest-fine ev in
    let sn = nodes_stage (read_node Lenient l brushes told) (mend_node l brushes told) (node-mend l brushes told) v.rest n sm.rest-fine en in
    let xs = k.bodies ++ (v.bodies ++ n.1) in
    let P = pieces h.place h.left in
    let kept = order-kept NODE p start (chunks_of P) xs (sk.fill (v.bodies ++ n.1) (sm.fill n.1 sn.fill)) in
    let in_scope : (walk_chunks (walk_chunk report (suc l)) (node_scope c) cs).bodies ≡ shown_bodies report cs xs =
    kind-walk report l above brushes (v.bodies ++ n.1) cs k (node_scope c) (node-tags p (chunks_of P)) fc (tells_root c above t) (mid_start c above t) ek
    (λ e' mid late. moves_walk report (suc l) above brushes (own_vertices k.value) n.1 no_anim k.rest v e' late mid ev
    (λ e'' mid' only. nodes-walk report (suc l) e'' (mend_node l brushes told)
    (λ q d x g ex. below e'' told (mid_tells above brushes (own_vertices k.value) (animated v.value.anim) e'' mid' told refl) q d x g (subst (λ (i : ℕ). mend_node l i told q d ≡ accept x) (sym mid'.brush) ex))
    v.rest n only sm.rest-fine en)) in
    let walk : (walk_chunks (walk_chunk report (suc l)) (node_scope c) (chunks_of P)).bodies ≡ shown_bodies report (chunks_of P) xs =
    subst (λ (z : Chunks). (walk_chunks (walk_chunk report (suc l)) (node_scope c) z).bodies ≡ shown_bodies report z xs) kept.same in_scope in
    let at : p + 8 + length X ≡ h.place = omega (arith, named-place node_row (p + 8) b h eh, ap (λ (z : List ℕ). length z) given₀, length-append X h.left) in
    let all : shown report (p + 8) (keep X ∷ woven P xs) ≡ shown report (p + 8) (keep X ∷ []) ++ shown_pieces report P (walk_chunks (walk_chunk report (suc l)) (node_scope c) (chunks_of P)).bodies =
    (shown-cons report (p + 8) (keep X) (woven P xs)).is ∙ ap (λ (i : ℕ). shown report (p + 8) (keep X ∷ []) ++ shown report i (woven P xs)) at
    ∙ ap (λ (z : List ℕ). shown report (p + 8) (keep X ∷ []) ++ z) (woven-shown report P h.place (h.place + length h.left) xs (pieces-placed h.place _ h.left refl) kept.fill ∙ ap (shown_pieces report P) (sym walk)) in
    ap (λ (o : Result (Step (Name × List ℕ))). walked (walk_node report (walk_chunk report (suc l)) c (p + 8) b o) 0) eh
    ∙ ap (λ (z : List ℕ). walked z 0) (sym all)
    ∙ ap (λ (z : Mended Inner). walked (shown report (p + 8) z.edits) 0) (got_inj e₄)))))

pub node-walk : (report : Bool) (l : ℕ) → NodeIs report l
unfolding mend_node
node-walk report zero c above t p b m f e = bad_got e
node-walk report (suc l) c above t p b m f e = node-step report l (node-walk report l) c above t p b m f e
