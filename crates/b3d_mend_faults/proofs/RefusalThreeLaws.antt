-- Each 3 among a file's faults is one of two kinds: one of the four where 1 to 7 bytes are left, of another kind where a length passes what encloses it.
use mathlib.Core.Path.{◌≡◌, refl, ap, sym, ◌∙◌, subst}
use Prim.Native.Nat.{ℕ, zero, suc, ◌+◌, ◌≤◌}
use native.Mathlib.Omega.{arith}
use mathlib.Core.Bool.{Bool, true, false, ◌||◌}
use mathlib.Core.Option.{Option, none, some}
use mathlib.Core.List.{List, [], ◌∷◌, ◌++◌, append-nil}
use lib.ListN.{length, take, drop, length-drop}
use lib.Seq.{length-take-le}
use lib.Dec.{eqb, leb}
use borrow.Author.Tests.{leb-true, leb-false}
use Rattle.wire.specs.Bytes.{word, word_at}
use Rattle.wire.specs.Test.{if}
use Rattle.layout.specs.Result.{Result, accept, reject, check}
use Rattle.layout.specs.Parts.{Step, text, words, row, number, named}
use Rattle.layout.specs.Rows.{size_fits}
use Rattle.layout.specs.Rules.{Rule, any, up_to, exactly, names, names_or_none, unit, holds, refusal}
use Rattle.layout.proofs.HeldLaws.{word_in}
use Rattle.layout.proofs.PlaceLaws.{At, at-four, at-eight, at_take, at_drop, words-at, named-at}
use Rattle.b3d_spec.specs.declared.Mode.TheVariants.{Lenient}
use Rattle.b3d_spec.specs.declared.Tag.{Tag}
use Rattle.b3d_spec.specs.declared.Tag.TheVariants.{BB3D, TEXS, BRUS, NODE, MESH, VRTS, KEYS, ANIM}
use Rattle.b3d_spec.specs.Nesting.{nesting, Reached, start, reached_at, required_between, end, next}
use Rattle.b3d_spec.specs.Parse.{read_textures, read_vertices, read_keys, read_anim}
use Rattle.b3d_spec.specs.Rules.{brush_row, brush_ids, node_row, triangle_row, weight_row, bone_limit, bone_limit_from, levels, header, file_head, brushes_head, mesh_head, triangles_head}
use Rattle.b3d_spec.specs.Tags.{code, is, tag_of}
use Rattle.b3d_spec.proofs.Files.BodyRefusalLaws as refusals
use Rattle.b3d_spec.proofs.Files.EntryLaws.{Either, same_tag}
use Rattle.b3d_spec.proofs.Files.TagCodeLaws.{by-tag}
use Rattle.b3d_rule_refusal_places.specs.ByHeaders.{tag_at, end_of}
use Rattle.b3d_rule_refusal_places.proofs.ColourPairLaws.{part-is}
use Rattle.b3d_rule_refusal_places.proofs.FixedDataLaws.{words-onward, words-to, named-onward}
use Rattle.b3d_mend_spec.specs.Mend.{may_be_none}
use Rattle.b3d_mend_spec.specs.Pieces.{Pieces, past, piece, pieces_in, pieces}
use Rattle.b3d_mend_faults.specs.Faults.{Fault, mendable, other, FaultReading, gives, ends, passes, ◌>>=◌, plainly, number_fault, item_fault, number_faults, row_faults, brush_faults, item_faults_in, item_faults, texture_faults, brushes_faults, vertex_faults, triangle_faults, bone_faults, ChunkFaults, finished, refused, spare_at, chunk_at, found, onward_from, in_order, within, FoundPart, one_faults, set_faults, mesh_faults, kind_faults, move_faults, nodes_faults, node_faults, end_faults, body_faults, length_fault, file_faults}
use Rattle.b3d_mend_faults.proofs.SharedLaws.{row_words}
use Rattle.b3d_mend_faults.specs.Headers.{Due, first, behind, inside, Spare, Past}

-- ---- faults of which P holds, and a value of which R holds

abbrev pub Each : {A : Type 0} → (Fault → Type 0) → (A → Type 0) → FaultReading A → Type 0
Each P R (gives a) = R a
Each P R (ends n p) = P (other n p)
Each P R (passes k n p m) = P (mendable k n p) × Each P R m

abbrev Any : {A : Type 0} → A → Type 0
Any a = Unit {0}

module _ (P : Fault → Type 0) where
  bind_each : {A B : Type 0} (R : A → Type 0) (S : B → Type 0) (m : FaultReading A) (k : A → FaultReading B) → Each P R m → ((a : A) → R a → Each P S (k a)) → Each P S (m >>= k)
  bind_each R S (gives a) k h f = f a h
  bind_each R S (ends n p) k h f = h
  bind_each R S (passes i n p m) k h f = (h.0, bind_each R S m k h.1 f)

  if-each : {A : Type 0} (R : A → Type 0) (b : Bool) (x y : FaultReading A) → (b ≡ true → Each P R x) → Each P R y → Each P R (if b x y)
  unfolding if
  if-each R true x y h k = h refl
  if-each R false x y h k = k

-- ---- parts that give no 3

abbrev NotThree : ℕ → ℕ → Type 0
NotThree n p = n ≡ 3 → ⊥

ruled : (r : Rule) → refusal r ≡ 3 → ⊥
ruled any e = omega arith
ruled (up_to m) e = omega arith
ruled (exactly m) e = omega arith
ruled (names n) e = omega arith
ruled (names_or_none n) e = omega arith
ruled unit e = omega arith

module _ (s : List ℕ) where
  -- what is said of each fault
  abbrev pub Three : Fault → Type 0
  Three (mendable k n p) = n ≡ 3 → Spare s p
  Three (other n p) = n ≡ 3 → Past s p

  plain-each : {A : Type 0} (R : A → Type 0) (o : Result A) → refusals.Low NotThree R o → Each Three (λ (a : A). o ≡ accept a) (plainly o)
  unfolding plainly
  plain-each R (accept a) h = refl
  plain-each R (reject n p) h = λ e. absurd (h e)

  -- of a value no more is kept
  some-each : {A C : Type 0} (R : A → Type 0) (f : A → C) (o : Result A) → refusals.Low NotThree R o → Each Three Any (plainly o >>= λ a. gives (f a))
  some-each R f o h = bind_each Three _ Any (plainly o) _ (plain-each R o h) (λ a e. tt)

  number-each : (r : Rule) (p w : ℕ) → Each Three Any (number_fault r p w)
  unfolding number_fault
  number-each r p w = if-each Three Any (holds r w) _ _ (λ e. tt) (if-each Three Any (may_be_none r) _ _ (λ e. (λ z. absurd (ruled r z), tt)) (λ z. absurd (ruled r z)))

  item-each : (r : Rule) (p w : ℕ) → Each Three Any (item_fault r p w)
  unfolding item_fault
  item-each r p w = if-each Three Any (holds r w) _ _ (λ e. tt) (λ z. absurd (ruled r z), tt)

  module _ (one : Rule → ℕ → ℕ → FaultReading (Unit {0})) (ok : (r : Rule) (p w : ℕ) → Each Three Any (one r p w)) where
    numbers-each : {A : Type 0} (R : A → Type 0) (rs : List Rule) (p : ℕ) (ws : List ℕ) (a : A) → R a → Each Three R (number_faults one rs p ws a)
    unfolding number_faults
    numbers-each R [] p ws a h = h
    numbers-each R (r ∷ rs) p [] a h = h
    numbers-each R (r ∷ rs) p (w ∷ ws) a h = bind_each Three Any R (one r p w) _ (ok r p w) (λ u t. numbers-each R rs (p + 4) ws a h)

    row-each : (rs : List Rule) (p : ℕ) (b : List ℕ) → Each Three (λ (x : Step (List ℕ)). words p (length rs) p b ≡ accept x) (row_faults one rs p b)
    unfolding row_faults
    row-each rs p b =
        bind_each Three _ _ (plainly (words p (length rs) p b)) _ (plain-each _ (words p (length rs) p b) (refusals.words_low (p + length b) NotThree (λ q l e. omega arith) (λ r q l. ruled r) p (length rs) p b (omega arith) (omega arith)))
        (λ x e. numbers-each _ rs p x.value x e)

  brush-each : (rs : List Rule) (p : ℕ) (b : List ℕ) → Each Three Any (brush_faults rs p b)
  unfolding brush_faults
  brush-each rs p b =
      bind_each Three _ Any (plainly (text p p b)) _ (plain-each _ (text p p b) (refusals.text-low (p + length b) NotThree (λ q l e. omega arith) (λ r q l. ruled r) p p b (omega arith) (omega arith))) (λ n en.
      bind_each Three _ Any (plainly (words p (length rs) n.place n.left)) _
      (plain-each _ (words p (length rs) n.place n.left) (refusals.words_low (p + (n.place + length n.left)) NotThree (λ q l e. omega arith) (λ r q l. ruled r) p (length rs) n.place n.left (omega arith) (omega arith)))
      (λ x ex. numbers-each number_fault number-each Any rs n.place x.value x tt))

  module _ {A : Type 0} (item : ℕ → List ℕ → FaultReading (Step A)) (ok : (p : ℕ) (b : List ℕ) → Each Three Any (item p b)) where
    in_each : (f p : ℕ) (b : List ℕ) → Each Three Any (item_faults_in f item p b)
    unfolding item_faults_in
    in_each zero p [] = tt
    in_each zero p (c ∷ b) = λ e. absurd (omega arith)
    in_each (suc f) p [] = tt
    in_each (suc f) p (c ∷ b) = bind_each Three Any Any (item p (c ∷ b)) _ (ok p (c ∷ b)) (λ x t. bind_each Three Any Any (item_faults_in f item x.place x.left) _ (in_each f x.place x.left) (λ n u. tt))

    items-each : (p : ℕ) (b : List ℕ) → Each Three Any (item_faults item p b)
    unfolding item_faults
    items-each p b = in_each (length b) p b

  weak_each : {A : Type 0} (R : A → Type 0) (m : FaultReading A) → Each Three R m → Each Three Any m
  weak_each R (gives a) h = tt
  weak_each R (ends n p) h = h
  weak_each R (passes k n p m) h = (h.0, weak_each R m h.1)

  textures-each : (p : ℕ) (b : List ℕ) → Each Three Any (texture_faults p b)
  unfolding texture_faults
  textures-each p b = some-each Any (λ l. length l) (read_textures p b) (refusals.textures-low (p + 8 + length b) NotThree (λ q l e. omega arith) (λ r q l. ruled r) p b (omega arith))

  vertices-each : (p : ℕ) (b : List ℕ) → Each Three Any (vertex_faults p b)
  unfolding vertex_faults
  vertices-each p b = some-each Any _ (read_vertices Lenient p b) (refusals.vertices-low (p + 8 + length b) NotThree (λ q l e. omega arith) (λ r q l. ruled r) Lenient p b (omega arith))

  brushes-each : (textures p : ℕ) (b : List ℕ) → Each Three Any (brushes_faults textures p b)
  unfolding brushes_faults
  brushes-each textures p b =
      bind_each Three _ Any (plainly (row brushes_head (p + 8) b)) _ (plain-each _ (row brushes_head (p + 8) b) (refusals.row_low (p + 8 + length b) NotThree (λ q l e. omega arith) (λ r q l. ruled r) brushes_head (p + 8) b (omega arith))) (λ h eh.
      let rs = brush_row Lenient ++ brush_ids (number h 0) textures in
      items-each (brush_faults rs) (brush-each rs) h.place h.left)

  triples_each : (rs : List Rule) (p : ℕ) (b : List ℕ) → Each Three Any (item_faults (row_faults item_fault rs) p b)
  triples_each rs = items-each (row_faults item_fault rs) (λ q c. weak_each _ (row_faults item_fault rs q c) (row-each item_fault item-each rs q c))

  triangles-each : (brushes vertices p : ℕ) (b : List ℕ) → Each Three Any (triangle_faults brushes vertices p b)
  unfolding triangle_faults
  triangles-each brushes vertices p b =
      bind_each Three _ Any (row_faults number_fault (triangles_head brushes) (p + 8) b) _ (row-each number_fault number-each (triangles_head brushes) (p + 8) b) (λ h eh. triples_each (triangle_row vertices) h.place h.left)

  bone-each : (vertices p : ℕ) (b : List ℕ) → Each Three Any (bone_faults vertices p b)
  unfolding bone_faults
  bone-each vertices p b = triples_each (weight_row vertices) (p + 8) b

  -- ---- the chunks inside a chunk that ends at `last`

  -- a chunk of the file
  record Chunk (last : ℕ) (t : Tag) (p : ℕ) (b : List ℕ) : Type 0 where
    due : Due s p last
    stands : At s (p + 8) b
    size : end_of s p ≡ p + 8 + length b
    fits : end_of s p ≤ last
    tag : tag_at s p ≡ some t

  abbrev Met : ℕ → ChunkFaults → Type 0
  Met last finished = Unit {0}
  Met last (refused n p) = n ≡ 3 → Past s p
  Met last (spare_at p l) = Spare s p × Met last l
  Met last (chunk_at t p b l) = Chunk last t p b × Met last l

  -- a header with tag o and length n, the bytes t behind it, and the chunks r after it
  module _ (p last n : ℕ) (o : Option Tag) (h t : List ℕ) (due : Due s p last) (tag : tag_at s p ≡ o) (size : word_at s (p + 4) ≡ n) (at : At s (p + 8) t) (long : p + 8 + length t ≡ last) (r : Pieces)
      (rest : n ≤ length t → Due s (p + 8 + n) last → Met last (found r)) where
    after : n ≤ length t → Met last (found r)
    after le = let e : end_of s p ≡ p + 8 + n = ap (λ (z : ℕ). p + 8 + z) size in rest le (subst (λ (z : ℕ). Due s z last) e (behind (end_of s p) last p due (omega arith) refl))

    piece-met : (u : Option Tag) → tag_at s p ≡ u → n ≤ length t → Met last (found (piece u p h (take n t) r))
    unfolding piece found
    piece-met none e le = after le
    piece-met (some k) e le = (
      record { due = due; stands = at_take s (p + 8) n t at; size = omega (arith, size, length-take-le n t le); fits = omega arith; tag = e },
      after le,
    )

    header-met : (c : Bool) (w : List ℕ) → leb n (length t) ≡ c → Met last (found (if c (piece o p h (take n t) r) (past p w)))
    unfolding if found
    header-met true w e = piece-met o tag (leb-true n (length t) e)
    header-met false w e = λ z. (last, due, omega arith, omega (arith, leb-false n (length t) e, size))

  found-met : (f p last : ℕ) (b : List ℕ) → At s p b → p + length b ≡ last → Due s p last → Met last (found (pieces_in f p b))
  unfolding pieces_in found
  found-met zero p last b at e d = tt
  found-met (suc f) p last [] at e d = tt
  found-met (suc f) p last (a ∷ []) at e d = ((last, d, omega arith, omega arith), tt)
  found-met (suc f) p last (a ∷ b ∷ []) at e d = ((last, d, omega arith, omega arith), tt)
  found-met (suc f) p last (a ∷ b ∷ c ∷ []) at e d = ((last, d, omega arith, omega arith), tt)
  found-met (suc f) p last (a ∷ b ∷ c ∷ g ∷ []) at e d = ((last, d, omega arith, omega arith), tt)
  found-met (suc f) p last (a ∷ b ∷ c ∷ g ∷ x ∷ []) at e d = ((last, d, omega arith, omega arith), tt)
  found-met (suc f) p last (a ∷ b ∷ c ∷ g ∷ x ∷ y ∷ []) at e d = ((last, d, omega arith, omega arith), tt)
  found-met (suc f) p last (a ∷ b ∷ c ∷ g ∷ x ∷ y ∷ z ∷ []) at e d = ((last, d, omega arith, omega arith), tt)
  found-met (suc f) p last (a ∷ b ∷ c ∷ g ∷ x ∷ y ∷ z ∷ i ∷ t) at e d =
      let n = word x y z i in
      let body = at-eight s p a b c g x y z i t at in
      header-met p last n (tag_of (word a b c g)) (a ∷ b ∷ c ∷ g ∷ x ∷ y ∷ z ∷ i ∷ []) t d (ap tag_of (word_in s p a b c g _ at)) (word_in s (p + 4) x y z i t (at-four s p a b c g _ at)) body (omega arith)
      (pieces_in f (p + 8 + n) (drop n t))
      (λ le u. found-met f (p + 8 + n) last (drop n t) (at_drop s (p + 8) n t le body) (omega (arith, length-drop n t)) u)
      (leb n (length t)) (a ∷ b ∷ c ∷ g ∷ x ∷ y ∷ z ∷ i ∷ t) refl

  order-met : (last : ℕ) (k : Tag) (head : ℕ) (r : Reached) (l : ChunkFaults) → Met last l → Met last (in_order k head r l)
  unfolding in_order onward_from if
  order-met last k head r finished h = go (required_between (nesting k) r.turn end)
    where
      go : (b : Bool) → Met last (if b (refused 8 head) finished)
      go true = λ e. absurd (omega arith)
      go false = tt
  order-met last k head r (refused n p) h = h
  order-met last k head r (spare_at p l) h = (h.0, order-met last k head r l h.1)
  order-met last k head r (chunk_at t p b l) h = go (next (nesting k) (nesting k) r t) (λ q. order-met last k head q l h.1)
    where
      go : (o : Option Reached) → ((q : Reached) → Met last (in_order k head q l)) → Met last (onward_from o p (λ q. chunk_at t p b (in_order k head q l)))
      go none f = λ e. absurd (omega arith)
      go (some q) f = (h.0, f q)

  within-met : (k : Tag) (head p last : ℕ) (b : List ℕ) → At s p b → p + length b ≡ last → Due s p last → Met last (within k head p b)
  unfolding within pieces
  within-met k head p last b at e d = order-met last k head start (found (pieces_in (length b) p b)) (found-met (length b) p last b at e d)

  -- ---- which chunks come after those that a node is first asked for: KEYS and ANIM, and then only NODE

  abbrev Nodes : ChunkFaults → Type 0
  Nodes finished = Unit {0}
  Nodes (refused n p) = Unit {0}
  Nodes (spare_at p l) = Nodes l
  Nodes (chunk_at t p b l) = (t ≡ NODE) × Nodes l

  abbrev Late : ChunkFaults → Type 0
  Late finished = Unit {0}
  Late (refused n p) = Unit {0}
  Late (spare_at p l) = Late l
  Late (chunk_at t p b l) = Either (is t NODE) (Nodes l) (Either (is t KEYS || is t ANIM) (Late l) ⊥)

  nodes-late : (head : ℕ) (l : ChunkFaults) → Nodes (in_order NODE head (reached_at 3 false) l)
  unfolding in_order onward_from next if
  nodes-late head finished = tt
  nodes-late head (refused n p) = tt
  nodes-late head (spare_at p l) = nodes-late head l
  nodes-late head (chunk_at t p b l) =
      by-tag (λ k. Nodes (in_order NODE head (reached_at 3 false) (chunk_at k p b l))) (tt, tt, tt, (refl, nodes-late head l), tt, tt, tt, tt, tt, tt) t

  moves-late : (c : Bool) (head : ℕ) (l : ChunkFaults) → Late (in_order NODE head (reached_at 2 c) l)
  unfolding in_order onward_from next if
  moves-late c head finished = tt
  moves-late c head (refused n p) = tt
  moves-late c head (spare_at p l) = moves-late c head l
  moves-late false head (chunk_at t p b l) =
      by-tag (λ k. Late (in_order NODE head (reached_at 2 false) (chunk_at k p b l))) (tt, tt, tt, nodes-late head l, tt, tt, tt, tt, moves-late false head l, moves-late true head l) t
  moves-late true head (chunk_at t p b l) =
      by-tag (λ k. Late (in_order NODE head (reached_at 2 true) (chunk_at k p b l))) (tt, tt, tt, nodes-late head l, tt, tt, tt, tt, moves-late true head l, tt) t

  kind-late : (head : ℕ) (l : ChunkFaults) → Late (in_order NODE head (reached_at 1 true) l)
  unfolding in_order onward_from next if
  kind-late head finished = tt
  kind-late head (refused n p) = tt
  kind-late head (spare_at p l) = kind-late head l
  kind-late head (chunk_at t p b l) =
      by-tag (λ k. Late (in_order NODE head (reached_at 1 true) (chunk_at k p b l))) (tt, tt, tt, nodes-late head l, tt, tt, tt, tt, moves-late false head l, moves-late true head l) t

  -- ---- chunks among others

  -- spare bytes that are passed
  spare-each : {A : Type 0} (R : A → Type 0) (p : ℕ) (m : FaultReading A) → Spare s p → Each Three R m → Each Three R (passes 4 3 p m)
  spare-each R p m h k = (λ e. h, k)

  module _ {A : Type 0} (last : ℕ) (k : Tag) (a : A) (one : ℕ → List ℕ → FaultReading A) (h : (p : ℕ) (b : List ℕ) → Chunk last k p b → Each Three Any (one p b)) where
    one_each : (l : ChunkFaults) → Met last l → Each Three (λ (x : FoundPart A). Met last x.rest) (one_faults k a one l)
    unfolding one_faults
    one_each finished m = tt
    one_each (refused n p) m = m
    one_each (spare_at p l) m = spare-each _ p (one_faults k a one l) m.0 (one_each l m.1)
    one_each (chunk_at t p b r) m =
        if-each Three _ (is t k) _ _ (λ e. bind_each Three Any _ (one p b) _ (h p b (subst (λ (u : Tag). Chunk last u p b) (same_tag t k e) m.0)) (λ x u. m.1)) m

  sets-each : (last brushes vertices : ℕ) (l : ChunkFaults) → Met last l → Each Three Any (set_faults brushes vertices l)
  unfolding set_faults
  sets-each last brushes vertices finished m = tt
  sets-each last brushes vertices (refused n p) m = m
  sets-each last brushes vertices (spare_at p l) m = spare-each Any p (set_faults brushes vertices l) m.0 (sets-each last brushes vertices l m.1)
  sets-each last brushes vertices (chunk_at t p b r) m = bind_each Three Any Any (triangle_faults brushes vertices p b) _ (triangles-each brushes vertices p b) (λ x u. sets-each last brushes vertices r m.1)

  mesh-each : (last brushes p : ℕ) (b : List ℕ) → Chunk last MESH p b → Each Three Any (mesh_faults brushes p b)
  unfolding mesh_faults
  mesh-each last brushes p b c =
      bind_each Three _ Any (row_faults number_fault (mesh_head brushes) (p + 8) b) _ (row-each number_fault number-each (mesh_head brushes) (p + 8) b) (λ h eh.
      let o = words-onward (p + 8) 1 (p + 8) b h eh in
      let to : h.place ≡ p + 8 + 4 = words-to (p + 8) 1 (p + 8) b h eh in
      let ends : h.place + length h.left ≡ end_of s p = omega (arith, o.same, c.size) in
      let w = within MESH p h.place h.left in
      bind_each Three (λ (x : FoundPart ℕ). Met (end_of s p) x.rest) Any (one_faults VRTS 0 vertex_faults w) _
      (one_each (end_of s p) VRTS 0 vertex_faults (λ q d u. vertices-each q d) w
      (within-met MESH p h.place (end_of s p) h.left (words-at s (p + 8) 1 (p + 8) b h c.stands eh) ends (inside h.place (end_of s p) p last MESH c.due c.fits c.tag (to, omega arith) refl))) (λ v mv.
      bind_each Three Any Any (set_faults brushes v.value v.rest) _ (sets-each (end_of s p) brushes v.value v.rest mv) (λ x u. tt)))

  no-three : {A : Type 0} {p : ℕ} → A → ◌≡◌ {A = ℕ} 4 3 → Past s p
  no-three a e = absurd (omega arith)

  -- what is left of a node, and its tags
  abbrev Left : ℕ → (ChunkFaults → Type 0) → {A : Type 0} → FoundPart A → Type 0
  Left last P x = Met last x.rest × P x.rest

  kind-each : (last brushes vertices head : ℕ) (l : ChunkFaults) → Met last l → Each Three (Left last Late) (kind_faults brushes vertices (in_order NODE head start l))
  unfolding kind_faults in_order onward_from next if
  kind-each last brushes vertices head finished m = (tt, tt)
  kind-each last brushes vertices head (refused n p) m = m
  kind-each last brushes vertices head (spare_at p l) m = spare-each _ p (kind_faults brushes vertices (in_order NODE head start l)) m.0 (kind-each last brushes vertices head l m.1)
  kind-each last brushes vertices head (chunk_at t p b l) m =
      let P : Tag → Type 0 = λ k. Chunk last k p b → Each Three (Left last Late) (kind_faults brushes vertices (in_order NODE head start (chunk_at k p b l))) in
      let on : (r : Reached) → Met last (in_order NODE head r l) = λ r. order-met last NODE head r l m.1 in
      by-tag P (
        no-three,
        no-three,
        no-three,
        (λ c. ((c, on (reached_at 3 false)), nodes-late head l)),
        (λ c. bind_each Three Any _ (mesh_faults brushes p b) _ (mesh-each last brushes p b c) (λ n u. (on (reached_at 1 true), kind-late head l))),
        no-three,
        no-three,
        (λ c. bind_each Three Any _ (bone_faults vertices p b) _ (bone-each vertices p b) (λ n u. (on (reached_at 1 true), kind-late head l))),
        (λ c. ((c, on (reached_at 2 false)), moves-late false head l)),
        (λ c. ((c, on (reached_at 2 true)), moves-late true head l)),
      ) t m.0

  module _ (last : ℕ) where
    moves_each : (c : Bool) (l : ChunkFaults) → Met last l → Late l → Each Three (Left last Nodes) (move_faults c l)
    unfolding move_faults if
    moves_each c finished m h = (tt, tt)
    moves_each c (refused n p) m h = m
    moves_each c (spare_at p l) m h = spare-each _ p (move_faults c l) m.0 (moves_each c l m.1 h)
    moves_each c (chunk_at t p b l) m h =
        let P : Tag → Type 0 = λ k. Late (chunk_at k p b l) → Chunk last k p b → Each Three (Left last Nodes) (move_faults c (chunk_at k p b l)) in
        by-tag P (
          never,
          never,
          never,
          (λ g d. ((d, m.1), (refl, g))),
          never,
          never,
          never,
          never,
          (λ g d. bind_each Three _ _ (plainly (read_keys p b)) _ (plain-each Any (read_keys p b) (refusals.keys-low (p + 8 + length b) NotThree (λ q u e. omega arith) (λ r q u. ruled r) p b (omega arith))) (λ x e. moves_each c l m.1 g)),
          (λ g d. bind_each Three _ _ (plainly (read_anim p b)) _ (plain-each Any (read_anim p b) (refusals.anim-low (p + 8 + length b) NotThree (λ q u e. omega arith) (λ r q u. ruled r) p b (omega arith))) (λ x e. moves_each true l m.1 g)),
        ) t h m.0
      where
        never : {A B : Type 0} → ⊥ → A → B
        never h a = absurd h

    nodes-each : (one : ℕ → List ℕ → FaultReading (Unit {0})) → ((p : ℕ) (b : List ℕ) → Chunk last NODE p b → Each Three Any (one p b)) → (l : ChunkFaults) → Met last l → Nodes l → Each Three Any (nodes_faults one l)
    unfolding nodes_faults
    nodes-each one ok finished m h = tt
    nodes-each one ok (refused n p) m h = m
    nodes-each one ok (spare_at p l) m h = spare-each Any p (nodes_faults one l) m.0 (nodes-each one ok l m.1 h)
    nodes-each one ok (chunk_at t p b l) m h =
        bind_each Three Any Any (one p b) _ (ok p b (subst (λ (u : Tag). Chunk last u p b) h.0 m.0)) (λ x u. nodes-each one ok l m.1 h.1)

  node-each : (l brushes : ℕ) (above : Option ℕ) (last p : ℕ) (b : List ℕ) → Chunk last NODE p b → Each Three Any (node_faults l brushes above p b)
  unfolding node_faults within pieces
  node-each zero brushes above last p b c = λ e. absurd (omega arith)
  node-each (suc l) brushes above last p b c =
      bind_each Three _ Any (plainly (named node_row (p + 8) b)) _ (plain-each _ (named node_row (p + 8) b) (refusals.named-low (p + 8 + length b) NotThree (λ q u e. omega arith) (λ r q u. ruled r) node_row (p + 8) b (omega arith))) (λ h eh.
      let to = end_of s p in
      let o = named-onward node_row (p + 8) b h eh in
      let ends : h.place + length h.left ≡ to = omega (arith, o.same, c.size) in
      let met = found-met (length h.left) h.place to h.left (named-at s node_row (p + 8) b h c.stands eh).0 ends
      (inside h.place to p last NODE c.due c.fits c.tag (h, ap (named node_row (p + 8)) (part-is s (p + 8) to b c.stands (sym c.size)) ∙ eh, refl) refl) in
      bind_each Three (Left to Late) Any (kind_faults brushes (bone_limit above) (within NODE p h.place h.left)) _ (kind-each to brushes (bone_limit above) p (found (pieces h.place h.left)) met) (λ k mk.
      bind_each Three (Left to Nodes) Any (move_faults false k.rest) _ (moves_each to false k.rest mk.0 mk.1) (λ v mv.
      nodes-each to (node_faults l brushes (bone_limit_from above v.value k.value)) (node-each l brushes (bone_limit_from above v.value k.value) to) v.rest mv.0 mv.1)))

  -- ---- the file

  end-each : (last : ℕ) (l : ChunkFaults) → Met last l → Each Three Any (end_faults l)
  unfolding end_faults
  end-each last finished m = tt
  end-each last (refused n p) m = m
  end-each last (spare_at p l) m = spare-each Any p (end_faults l) m.0 (end-each last l m.1)
  end-each last (chunk_at t p b l) m = end-each last l m.1

  body-each : (b : List ℕ) → At s 8 b → 8 + length b ≡ length s → Each Three Any (body_faults 8 b)
  unfolding body_faults
  body-each b at e =
      bind_each Three _ Any (plainly (row file_head 8 b)) _ (plain-each _ (row file_head 8 b) (refusals.row_low (8 + length b) NotThree (λ q u e. omega arith) (λ r q u. ruled r) file_head 8 b (omega arith))) (λ h eh.
      let ew = row_words file_head 8 b h eh in
      let last = length s in
      let place : h.place ≡ 12 = words-to 8 1 8 b h ew in
      let ends : h.place + length h.left ≡ last = omega (arith, (words-onward 8 1 8 b h ew).same) in
      let w = within BB3D 0 h.place h.left in
      bind_each Three (λ (x : FoundPart ℕ). Met last x.rest) Any (one_faults TEXS 0 texture_faults w) _
      (one_each last TEXS 0 texture_faults (λ q d u. textures-each q d) w
      (within-met BB3D 0 h.place last h.left (words-at s 8 1 8 b h at ew) ends (first h.place last place refl))) (λ t mt.
      bind_each Three (λ (x : FoundPart ℕ). Met last x.rest) Any (one_faults BRUS 0 (brushes_faults t.value) t.rest) _
      (one_each last BRUS 0 (brushes_faults t.value) (λ q d u. brushes-each t.value q d) t.rest mt) (λ u mu.
      bind_each Three (λ (x : FoundPart (Unit {0})). Met last x.rest) Any (one_faults NODE tt (node_faults levels u.value none) u.rest) _
      (one_each last NODE tt (node_faults levels u.value none) (node-each levels u.value none last) u.rest mu) (λ n mn.
      end-each last n.rest mn))))

  length-each : (b : Bool) → Each Three Any (length_fault b)
  unfolding length_fault
  length-each true = tt
  length-each false = (λ e. absurd (omega arith), tt)

  pub file-each : Each Three Any (file_faults s)
  unfolding file_faults
  file-each =
      bind_each Three _ Any (plainly (check (size_fits (length s)) 1 0)) _ (plain-each _ (check (size_fits (length s)) 1 0) (refusals.check-low NotThree (size_fits (length s)) 1 0 (λ e. omega arith))) (λ u e.
      bind_each Three _ Any (plainly (row header 0 s)) _ (plain-each _ (row header 0 s) (refusals.row_low (length s) NotThree (λ q u e. omega arith) (λ r q u. ruled r) header 0 s (omega arith))) (λ h eh.
      let ew = row_words header 0 s h eh in
      let place : h.place ≡ 8 = words-to 0 2 0 s h ew in
      let ends : 8 + length h.left ≡ length s = omega (arith, (words-onward 0 2 0 s h ew).same) in
      let at : At s 8 h.left = subst (λ (z : ℕ). At s z h.left) place (words-at s 0 2 0 s h (record { after = []; stands = sym (append-nil s) }) ew) in
      bind_each Three _ Any (plainly (check (eqb (number h 0) (code BB3D)) 2 0)) _ (plain-each _ (check (eqb (number h 0) (code BB3D)) 2 0) (refusals.check-low NotThree (eqb (number h 0) (code BB3D)) 2 0 (λ e. omega arith))) (λ v ev.
      bind_each Three Any Any (length_fault (eqb (number h 1) (length h.left))) _ (length-each (eqb (number h 1) (length h.left))) (λ x t.
      subst (λ (z : ℕ). Each Three Any (body_faults z h.left)) (sym place) (body-each h.left at ends)))))
