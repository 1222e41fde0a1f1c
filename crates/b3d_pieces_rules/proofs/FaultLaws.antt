-- The rule of a number by its tag and its index.
use mathlib.Core.Path.{◌≡◌, refl, ap, sym, ◌∙◌}
use Prim.Native.Nat.{ℕ, zero, suc, ◌+◌, ◌-◌, ◌*◌, ◌/◌, ◌%◌, ◌<◌, ◌≤◌}
use native.Mathlib.Omega.{arith}
use mathlib.Core.Bool.{Bool, true, false}
use mathlib.Core.List.{List, [], ◌∷◌, ◌++◌, append-nil}
use lib.ListN.{replicate, drop}
use lib.Dec.{ltb, ltb→lt, nltb→le}
use borrow.Author.Tests.{le-leb, lt-leb, lt-ltb, le-ltb, eq-eqb, ne_eqb}
use types.Run.{OneOf, miss}
use denote.Enum.Declared.{tag_of}
use Rattle.wire.specs.Test.{if}
use Rattle.layout.specs.Rules.{Rule, any, up_to, names, names_or_none, unit, NONE, holds}
use Rattle.layout.proofs.ResultLaws.{by_test}
use Rattle.b3d_spec.specs.declared.Tag.{Tag}
use Rattle.b3d_spec.specs.declared.Tag.TheVariants.{BB3D, TEXS, BRUS, NODE, MESH, VRTS, TRIS, BONE, KEYS, ANIM}
use Rattle.b3d_spec.specs.declared.Mode.TheVariants.{Strict}
use Rattle.b3d_spec.specs.Rules.{when, vertices_head, brush_ids, vertex_row, key_words, bone_limit}
use Rattle.b3d_spec.specs.contracts.Tag.{the_type}
use Rattle.b3d_pieces_spec.specs.declared.Totals.{Totals}
use Rattle.b3d_pieces_spec.specs.declared.Kept.{Kept}
use Rattle.b3d_pieces_spec.specs.Bodies.{above, first, rule_at}
use Rattle.b3d_pieces_rules.specs.Faults.{fault_of, fault_in, slot_fault, fixed_fault, inner_fault, row_fault, IdsAre, VertexIs}

module _ (m w : ℕ) (r : ℕ) where
  pub up_yes : w ≤ m → r ≡ 0 → r ≡ fault_of (up_to m) w
  unfolding fault_of if
  up_yes h q = rw (le-leb w m h) q

  pub up_no : m < w → r ≡ 6 → r ≡ fault_of (up_to m) w
  unfolding fault_of if
  up_no h q = rw (lt-leb w m h) q

  pub name-yes : w < m → r ≡ 0 → r ≡ fault_of (names m) w
  unfolding fault_of if
  name-yes h q = rw (lt-ltb w m h) q

  pub name-no : m ≤ w → r ≡ 7 → r ≡ fault_of (names m) w
  unfolding fault_of if
  name-no h q = rw (le-ltb w m h) q

  pub none-yes : w ≡ 0xFFFFFFFF → r ≡ 0 → r ≡ fault_of (names_or_none m) w
  unfolding fault_of if
  none-yes h q = rw (eq-eqb w NONE h) q

  pub none-name : (w ≡ 0xFFFFFFFF → ⊥) → w < m → r ≡ 0 → r ≡ fault_of (names_or_none m) w
  unfolding fault_of if
  none-name z h q = rw (ne_eqb w NONE z, lt-ltb w m h) q

  pub none-no : (w ≡ 0xFFFFFFFF → ⊥) → m ≤ w → r ≡ 7 → r ≡ fault_of (names_or_none m) w
  unfolding fault_of if
  none-no z h q = rw (ne_eqb w NONE z, le-ltb w m h) q

pub ruleset one_laws = (up_yes, up_no, name-yes, name-no, none-yes, none-name, none-no)

-- ---- which rule

drop-none : (i : ℕ) → drop {A = Rule} i [] ≡ []
drop-none zero = refl
drop-none (suc i) = refl

any-all : (n i : ℕ) → rule_at (replicate n any) i ≡ any
unfolding rule_at
any-all zero i = ap first (drop-none i)
any-all (suc n) zero = refl
any-all (suc n) (suc i) = any-all n i

past_one : (x : Rule) (i : ℕ) → (i ≡ 0 → ⊥) → rule_at (x ∷ []) i ≡ any
unfolding rule_at
past_one x zero z = absurd (z refl)
past_one x (suc i) z = ap first (drop-none i)

past_three : (x y z : Rule) (i : ℕ) → 3 ≤ i → rule_at (x ∷ y ∷ z ∷ []) i ≡ any
unfolding rule_at
past_three x y z zero h = absurd (omega arith)
past_three x y z (suc zero) h = absurd (omega arith)
past_three x y z (suc (suc zero)) h = absurd (omega arith)
past_three x y z (suc (suc (suc i))) h = ap first (drop-none i)

-- a run of one rule, and what follows it
run-low : (n i : ℕ) (x : Rule) (rs : List Rule) → i < n → rule_at (replicate n x ++ rs) i ≡ x
unfolding rule_at
run-low zero i x rs h = absurd (omega arith)
run-low (suc n) zero x rs h = refl
run-low (suc n) (suc i) x rs h = run-low n i x rs (omega arith)

run_on : (n i : ℕ) (x : Rule) (rs : List Rule) → n ≤ i → rule_at (replicate n x ++ rs) i ≡ rule_at rs (i - n)
unfolding rule_at
run_on zero i x rs h = let e : i ≡ i - 0 = omega arith in ap (λ (j : ℕ). first (drop j rs)) e
run_on (suc n) zero x rs h = absurd (omega arith)
run_on (suc n) (suc i) x rs h = let e : i - n ≡ suc i - suc n = omega arith in run_on n i x rs (omega arith) ∙ ap (λ (j : ℕ). first (drop j rs)) e

same-all : (n i : ℕ) (x : Rule) → i < n → rule_at (replicate n x) i ≡ x
same-all n i x h = ap (λ (rs : List Rule). rule_at rs i) (sym (append-nil (replicate n x))) ∙ run-low n i x [] h

same-past : (n i : ℕ) (x : Rule) → n ≤ i → rule_at (replicate n x) i ≡ any
same-past n i x h = ap (λ (rs : List Rule). rule_at rs i) (sym (append-nil (replicate n x))) ∙ run_on n i x [] h ∙ any-all 0 (i - n)

fault-any : (w r : ℕ) → r ≡ 0 → r ≡ fault_of any w
unfolding fault_of if
fault-any w r q = q

by_rule : (rs : List Rule) (i w r : ℕ) (x : Rule) → rule_at rs i ≡ x → r ≡ fault_of x w → r ≡ fault_in rs i w
unfolding fault_in
by_rule rs i w r x e q = rw e q

by-any : (rs : List Rule) (i w r : ℕ) → rule_at rs i ≡ any → r ≡ 0 → r ≡ fault_in rs i w
by-any rs i w r e q = by_rule rs i w r any e (fault-any w r q)

module _ (i w r : ℕ) where
  pub head_first : (m : ℕ) → i ≡ 0 → r ≡ fault_of (up_to m) w → r ≡ fault_in (up_to m ∷ []) i w
  unfolding rule_at
  head_first m e q = by_rule (up_to m ∷ []) i w r (up_to m) (rw e) q

  pub head-later : (m : ℕ) → (i ≡ 0 → ⊥) → r ≡ 0 → r ≡ fault_in (up_to m ∷ []) i w
  head-later m z q = by-any (up_to m ∷ []) i w r (past_one (up_to m) i z) q

  pub brush-first : (n : ℕ) → i ≡ 0 → r ≡ fault_of (names_or_none n) w → r ≡ fault_in (names_or_none n ∷ []) i w
  unfolding rule_at
  brush-first n e q = by_rule (names_or_none n ∷ []) i w r (names_or_none n) (rw e) q

  pub brush-later : (n : ℕ) → (i ≡ 0 → ⊥) → r ≡ 0 → r ≡ fault_in (names_or_none n ∷ []) i w
  brush-later n z q = by-any (names_or_none n ∷ []) i w r (past_one (names_or_none n) i z) q

  pub shape_0 : i ≡ 0 → r ≡ fault_of (up_to 3) w → r ≡ fault_in vertices_head i w
  unfolding rule_at
  shape_0 e q = by_rule vertices_head i w r (up_to 3) (rw e) q

  pub shape_1 : i ≡ 1 → r ≡ fault_of (up_to 8) w → r ≡ fault_in vertices_head i w
  unfolding rule_at
  shape_1 e q = by_rule vertices_head i w r (up_to 8) (rw e) q

  pub shape_2 : i ≡ 2 → r ≡ fault_of (up_to 4) w → r ≡ fault_in vertices_head i w
  unfolding rule_at
  shape_2 e q = by_rule vertices_head i w r (up_to 4) (rw e) q

  pub shape-later : (i ≡ 0 → ⊥) → (i ≡ 1 → ⊥) → (i ≡ 2 → ⊥) → r ≡ 0 → r ≡ fault_in vertices_head i w
  shape-later a b c q = by-any vertices_head i w r (past_three (up_to 3) (up_to 8) (up_to 4) i (later i a b c)) q
    where
      later : (i : ℕ) → (i ≡ 0 → ⊥) → (i ≡ 1 → ⊥) → (i ≡ 2 → ⊥) → 3 ≤ i
      later zero a b c = absurd (a refl)
      later (suc zero) a b c = absurd (b refl)
      later (suc (suc zero)) a b c = absurd (c refl)
      later (suc (suc (suc i))) a b c = omega arith

  module _ (slots n : ℕ) where
    -- after four colours and three numbers
    abbrev slots-row : List Rule
    slots-row = replicate 4 unit ++ (replicate 3 any ++ brush_ids slots n)

    slots-on : 7 ≤ i → rule_at slots-row i ≡ rule_at (brush_ids slots n) (i - 7)
    unfolding rule_at
    slots-on h =
        let e : i - 4 - 3 ≡ i - 7 = omega arith in
        run_on 4 i unit (replicate 3 any ++ brush_ids slots n) (omega arith) ∙ run_on 3 (i - 4) any (brush_ids slots n) (omega arith) ∙ ap (λ (j : ℕ). first (drop j (brush_ids slots n))) e

    pub slot_colour : i < 4 → r ≡ fault_of unit w → r ≡ slot_fault slots n i w
    unfolding slot_fault
    slot_colour h q = by_rule slots-row i w r unit (run-low 4 i unit (replicate 3 any ++ brush_ids slots n) h) q

    pub slot_low : 4 ≤ i → i < 7 → r ≡ 0 → r ≡ slot_fault slots n i w
    unfolding slot_fault
    slot_low l h q = by-any slots-row i w r (run_on 4 i unit (replicate 3 any ++ brush_ids slots n) l ∙ run-low 3 (i - 4) any (brush_ids slots n) (omega arith)) q

    pub slot_id : 7 ≤ i → i - 7 < slots → r ≡ fault_of (names_or_none n) w → r ≡ slot_fault slots n i w
    unfolding slot_fault
    slot_id h l q = by_rule slots-row i w r (names_or_none n) (slots-on h ∙ same-all slots (i - 7) (names_or_none n) l) q

    pub slot_past : 7 ≤ i → slots ≤ i - 7 → r ≡ 0 → r ≡ slot_fault slots n i w
    unfolding slot_fault
    slot_past h l q = by-any slots-row i w r (slots-on h ∙ same-past slots (i - 7) (names_or_none n) l) q

  -- a vertex: so many numbers, so many colours, and the sets
  module _ (flags : ℕ) (a : ℕ) (ea : a ≡ 3 + flags / 1 % 2 * 3) where
    abbrev vertex_rules : ℕ → ℕ → List Rule
    vertex_rules sets size = vertex_row Strict flags sets size

    abbrev later : ℕ → ℕ → List Rule
    later sets size = replicate (when 2 flags 4) unit ++ replicate (sets * size) any

    pub vertex-low : i < a → r ≡ 0 → VertexIs flags i w r
    vertex-low h q = record { is = λ sets size. by-any (vertex_rules sets size) i w r (run-low (3 + when 1 flags 3) i any (later sets size) (rw (sym ea) h)) q }

    pub vertex-colour : a ≤ i → i - a < flags / 2 % 2 * 4 → r ≡ fault_of unit w → VertexIs flags i w r
    vertex-colour h l q =
        record {
          is = λ sets size. by_rule (vertex_rules sets size) i w r unit
              (run_on (3 + when 1 flags 3) i any (later sets size) (rw (sym ea) h) ∙ run-low (when 2 flags 4) (i - (3 + when 1 flags 3)) unit (replicate (sets * size) any) (rw (sym ea) l)) q;
        }

    pub vertex-later : a ≤ i → flags / 2 % 2 * 4 ≤ i - a → r ≡ 0 → VertexIs flags i w r
    vertex-later h l q =
        record {
          is = λ sets size. by-any (vertex_rules sets size) i w r
              (run_on (3 + when 1 flags 3) i any (later sets size) (rw (sym ea) h) ∙ run_on (when 2 flags 4) (i - (3 + when 1 flags 3)) unit (replicate (sets * size) any) (rw (sym ea) l)
              ∙ any-all (sets * size) (i - (3 + when 1 flags 3) - when 2 flags 4)) q;
        }

pub ruleset row_laws = (head_first, head-later, brush-first, brush-later, shape_0, shape_1, shape_2, shape-later, slot_colour, slot_low, slot_id, slot_past)

pub ruleset vertex_laws = (vertex-low, vertex-colour, vertex-later)

-- ids
pub ids-valid : (count n i w r : ℕ) → i < count → r ≡ fault_of (names n) w → IdsAre count n i w r
ids-valid count n i w r h q = record { id = λ _. q; other = λ l. absurd (omega arith) }

pub ids-past : (count n i w r : ℕ) → count ≤ i → r ≡ 0 → IdsAre count n i w r
ids-past count n i w r h q = record { id = λ l. absurd (omega arith); other = λ _. q }

pub ruleset ids_laws = (ids-valid, ids-past)

-- a colour
module _ (w r : ℕ) (b : Bool) (e : b ≡ holds unit w) where
  pub colour-yes : b ≡ true → r ≡ 0 → r ≡ fault_of unit w
  unfolding fault_of if
  colour-yes t q = rw (sym e ∙ t) q

  pub colour-no : b ≡ false → r ≡ 6 → r ≡ fault_of unit w
  unfolding fault_of if
  colour-no t q = rw (sym e ∙ t) q

pub ruleset colour_laws = (colour-yes, colour-no)

-- what bones may name
module _ (g : Totals) (r : ℕ) where
  pub bones-root : g.rows.nodes ≡ 1 → r ≡ 0 → r ≡ bone_limit (above g)
  unfolding above if
  bones-root h q = rw (eq-eqb g.rows.nodes 1 h) q

  pub bones-below : (g.rows.nodes ≡ 1 → ⊥) → r ≡ g.told → r ≡ bone_limit (above g)
  unfolding above if
  bones-below h q = rw (ne_eqb g.rows.nodes 1 h) q

pub ruleset bones_laws = (bones-root, bones-below)

-- ---- by tag

module _ (g : Totals) (i w r : ℕ) (tag : Tag) where
  pub fixed_bb3d : tag ≡ BB3D → r ≡ fault_in (up_to 99 ∷ []) i w → r ≡ fixed_fault tag g i w
  unfolding fixed_fault
  fixed_bb3d e q = rw e q

  pub fixed_brus : tag ≡ BRUS → r ≡ fault_in (up_to 8 ∷ []) i w → r ≡ fixed_fault tag g i w
  unfolding fixed_fault
  fixed_brus e q = rw e q

  pub fixed_keys : tag ≡ KEYS → r ≡ fault_in (up_to 7 ∷ []) i w → r ≡ fixed_fault tag g i w
  unfolding fixed_fault
  fixed_keys e q = rw e q

  pub fixed_mesh : tag ≡ MESH → r ≡ fault_in (names_or_none g.brushes ∷ []) i w → r ≡ fixed_fault tag g i w
  unfolding fixed_fault
  fixed_mesh e q = rw e q

  pub fixed_tris : tag ≡ TRIS → r ≡ fault_in (names_or_none g.brushes ∷ []) i w → r ≡ fixed_fault tag g i w
  unfolding fixed_fault
  fixed_tris e q = rw e q

  pub fixed_vrts : tag ≡ VRTS → r ≡ fault_in vertices_head i w → r ≡ fixed_fault tag g i w
  unfolding fixed_fault
  fixed_vrts e q = rw e q

-- no number of these is judged: TEXS, NODE, BONE, ANIM
abbrev pub fixed_free : List ℕ
fixed_free = 1 ∷ 3 ∷ 7 ∷ 9 ∷ []

pub fixed-free : (tag : Tag) → OneOf fixed_free (tag_of the_type tag) → (g : Totals) (i w r : ℕ) → r ≡ 0 → r ≡ fixed_fault tag g i w
unfolding fixed_fault
fixed-free BB3D o g i w r q = absurd (miss fixed_free 0 tt o)
fixed-free TEXS o g i w r q = by-any [] i w r (any-all 0 i) q
fixed-free BRUS o g i w r q = absurd (miss fixed_free 2 tt o)
fixed-free NODE o g i w r q = by-any (replicate 10 any) i w r (any-all 10 i) q
fixed-free MESH o g i w r q = absurd (miss fixed_free 4 tt o)
fixed-free VRTS o g i w r q = absurd (miss fixed_free 5 tt o)
fixed-free TRIS o g i w r q = absurd (miss fixed_free 6 tt o)
fixed-free BONE o g i w r q = by-any [] i w r (any-all 0 i) q
fixed-free KEYS o g i w r q = absurd (miss fixed_free 8 tt o)
fixed-free ANIM o g i w r q = by-any (replicate 3 any) i w r (any-all 3 i) q

pub ruleset fixed_laws = (fixed_bb3d, fixed_brus, fixed_keys, fixed_mesh, fixed_tris, fixed_vrts, fixed-free)

module _ (k : Kept) (g : Totals) (i w r : ℕ) (tag : Tag) where
  pub inner_vrts : tag ≡ VRTS → VertexIs k.first i w r → r ≡ inner_fault tag k g i w
  unfolding inner_fault
  inner_vrts e q = rw e (q.is k.second k.third)

  pub inner_brus : tag ≡ BRUS → r ≡ slot_fault k.first g.textures i w → r ≡ inner_fault tag k g i w
  unfolding inner_fault slot_fault
  inner_brus e q = rw e q

  pub inner_tris : tag ≡ TRIS → IdsAre 3 g.own i w r → r ≡ inner_fault tag k g i w
  unfolding inner_fault
  inner_tris e q = rw e (by_test (ltb i 3)
      (λ t. let l = ltb→lt i 3 t in by_rule (replicate 3 (names g.own)) i w r (names g.own) (same-all 3 i (names g.own) l) (q.id l))
      (λ t. let l = nltb→le i 3 t in by-any (replicate 3 (names g.own)) i w r (same-past 3 i (names g.own) l) (q.other l)))

  pub inner-bone : tag ≡ BONE → (n : ℕ) → n ≡ bone_limit (above g) → IdsAre 1 n i w r → r ≡ inner_fault tag k g i w
  unfolding inner_fault
  inner-bone e n en q = rw (e, ← en) (by_test (ltb i 1)
      (λ t. let l = ltb→lt i 1 t in by_rule (replicate 1 (names n) ++ (any ∷ [])) i w r (names n) (run-low 1 i (names n) (any ∷ []) l) (q.id l))
      (λ t. let l = nltb→le i 1 t in by-any (replicate 1 (names n) ++ (any ∷ [])) i w r (run_on 1 i (names n) (any ∷ []) l ∙ any-all 1 (i - 1)) (q.other l)))

-- no number of these is judged: BB3D, TEXS, NODE, MESH, KEYS, ANIM
abbrev pub inner_free : List ℕ
inner_free = 0 ∷ 1 ∷ 3 ∷ 4 ∷ 8 ∷ 9 ∷ []

pub inner-free : (tag : Tag) → OneOf inner_free (tag_of the_type tag) → (k : Kept) (g : Totals) (i w r : ℕ) → r ≡ 0 → r ≡ inner_fault tag k g i w
unfolding inner_fault
inner-free BB3D o k g i w r q = by-any (replicate 2 any) i w r (any-all 2 i) q
inner-free TEXS o k g i w r q = by-any (replicate 7 any) i w r (any-all 7 i) q
inner-free BRUS o k g i w r q = absurd (miss inner_free 2 tt o)
inner-free NODE o k g i w r q = by-any (replicate 2 any) i w r (any-all 2 i) q
inner-free MESH o k g i w r q = by-any (replicate 2 any) i w r (any-all 2 i) q
inner-free VRTS o k g i w r q = absurd (miss inner_free 5 tt o)
inner-free TRIS o k g i w r q = absurd (miss inner_free 6 tt o)
inner-free BONE o k g i w r q = absurd (miss inner_free 7 tt o)
inner-free KEYS o k g i w r q = by-any _ i w r (any-all (key_words k.first) i) q
inner-free ANIM o k g i w r q = by-any [] i w r (any-all 0 i) q

pub ruleset inner_laws = (inner_vrts, inner_brus, inner_tris, inner-bone, inner-free)

module _ (k : Kept) (g : Totals) (i w r : ℕ) (tag : Tag) (fixed : Bool) where
  pub row_fixed : fixed ≡ true → r ≡ fixed_fault tag g i w → r ≡ row_fault fixed tag k g i w
  unfolding row_fault fixed_fault
  row_fixed e q = rw e q

  pub row-inner : fixed ≡ false → r ≡ inner_fault tag k g i w → r ≡ row_fault fixed tag k g i w
  unfolding row_fault inner_fault
  row-inner e q = rw e q

pub ruleset fault_laws = (row_fixed, row-inner)
