-- The laws of a header, in the words of the code.
use Rattle.std.specs.Prelude.{Some, None}
use Rattle.std.specs.Prelude as std
use mathlib.Core.Path.{◌≡◌, refl, ap, sym, ◌∙◌}
use Prim.Native.Nat.{ℕ, zero, suc, ◌+◌, ◌-◌, ◌<◌, ◌≤◌}
use native.Mathlib.Omega.{arith}
use mathlib.Core.Bool.{Bool, true, false}
use mathlib.Core.Option.{Option, none, some}
use mathlib.Core.List.{List, ◌∷◌}
use lib.ListN.{length}
use borrow.Author.Tests.{lt-ltb, le-ltb}
use Rattle.wire.specs.Test.{if}
use Rattle.b3d_spec.specs.declared.Tag.{Tag}
use Rattle.b3d_spec.specs.declared.Tag.TheVariants.{BB3D, TEXS, BRUS, NODE, MESH, VRTS, TRIS, BONE, KEYS, ANIM}
use Rattle.b3d_spec.specs.Tags.{tag_of}
use Rattle.b3d_spec.specs.Nesting.{nesting, Reached, next, reached_at}
use Rattle.b3d_spec.proofs.Files.EntryLaws.{same_tag}
use Rattle.b3d_chunk_cursor.specs.Chunks.{tagged}
use Rattle.b3d_pieces_spec.specs.declared.Totals.{Totals}
use Rattle.b3d_pieces_spec.specs.declared.Open.{Open}
use Rattle.b3d_pieces_spec.specs.Bodies.{entered}
use Rattle.b3d_pieces_spec.specs.Machine.{fault, fresh, reached_by, enter, enter_node, opened, skip_from, stand, known, header_done}
use Rattle.b3d_pieces_spec.specs.Good.{Deep, Bound, sum, load, extra, Child}
use Rattle.b3d_pieces_spec.proofs.DepthLaws.{none-words, child}
use Rattle.b3d_rule_nesting_order.specs.declared.Reached.{Reached as Turns}
use Rattle.b3d_rule_nesting_order.specs.Turns.{permit_of}
use Rattle.b3d_pieces_item_steps.specs.declared.Now.{Now}
use Rattle.b3d_pieces_item_steps.specs.declared.Now.TheVariants.{Push, Fault}
use Rattle.b3d_pieces_item_steps.specs.Nows.{state_with, GoodNow, Ready, Gives, texted}
use Rattle.b3d_pieces_item_steps.proofs.StepLaws.{gives, gives-on, gives-spare}
use Rattle.b3d_pieces_header_steps.specs.Heads.{OpensChunk, stand_here}

apart : {B : Type 0} → ◌≡◌ {A = Bool} true false → B
apart e = let z : ◌≡◌ {A = ℕ} 0 1 = cc in absurd (omega arith)

-- ---- opening

module _ (head e at : ℕ) (g : Totals) (f : Open) (R : List Open) where
  opened-other : (t : Tag) → texted t ≡ false → enter (texted t) at g (fresh t head e f.level 0) (f ∷ R) ≡ opened t head e at g f R
  unfolding opened
  opened-other t z = rw z

  opened-none : (l : ℕ) → l ≡ 0 → enter_node l head e at g (f ∷ R) ≡ fault 9 head
  unfolding enter_node
  opened-none l z = rw z

  opened-node : (l : ℕ) → (l ≡ 0 → ⊥) → enter_node l head e at g (f ∷ R) ≡ enter true at (entered g) (fresh NODE head e (l - 1) g.below) (f ∷ R)
  unfolding enter_node
  opened-node zero z = absurd (z refl)
  opened-node (suc l) z = let q : suc l - 1 ≡ l = omega arith in rw q

bound_other : (t : Tag) (l n : ℕ) → texted t ≡ false → Child t l n → Bound t l (suc n)
bound_other BB3D l n z c = absurd c
bound_other TEXS l n z c = c
bound_other BRUS l n z c = c
bound_other NODE l n z c = apart z
bound_other MESH l n z c = c
bound_other VRTS l n z c = c
bound_other TRIS l n z c = c
bound_other BONE l n z c = c
bound_other KEYS l n z c = c
bound_other ANIM l n z c = c

extra-one : (t : Tag) → extra t ≤ 1
extra-one BB3D = omega arith
extra-one TEXS = omega arith
extra-one BRUS = omega arith
extra-one NODE = omega arith
extra-one MESH = omega arith
extra-one VRTS = omega arith
extra-one TRIS = omega arith
extra-one BONE = omega arith
extra-one KEYS = omega arith
extra-one ANIM = omega arith

bound_node : (l n : ℕ) → (l ≡ 0 → ⊥) → Child NODE l n → Bound NODE (l - 1) (suc n)
bound_node zero n z c = absurd (z refl)
bound_node (suc l) n z c = let q : suc l - 1 ≡ l = omega arith in rw q (c l refl)

-- a value that is made
opens : (t : Tag) (head e at : ℕ) (g : Totals) (f : Open) (r x : Now) → r ≡ x → ((R : List Open) → state_with R x ≡ opened t head e at g f R)
    → ((R : List Open) → Deep (f ∷ R) → sum g + load (f ∷ R) + 1 ≤ at → Child t f.level (length R) → GoodNow at R x) → OpensChunk t head e at g f r
opens t head e at g f r x q z h = record { is = λ R. ap (state_with R) q ∙ z R; good = λ R d l c. rw q (h R d l c) }

module _ (head e at : ℕ) (g : Totals) (f : Open) (r : Now) where
  node-none : f.level ≡ 0 → r ≡ Fault 9 head → OpensChunk NODE head e at g f r
  unfolding opened
  node-none z q = opens NODE head e at g f r (Fault 9 head) q (λ R. sym (opened-none head e at g f R f.level z)) (λ R d l c. tt)

  node-some : (f.level ≡ 0 → ⊥) → r ≡ Push at (entered g) (fresh NODE head e (f.level - 1) g.below) f → OpensChunk NODE head e at g f r
  unfolding opened
  node-some z q =
      opens NODE head e at g f r (Push at (entered g) (fresh NODE head e (f.level - 1) g.below) f) q (λ R. sym (opened-node head e at g f R f.level z))
      (λ R d l c. (((bound_node f.level (length R) z c, none-words, d), omega arith), refl))

module _ (t : Tag) (head e at : ℕ) (g : Totals) (f : Open) (r : Now) (b : Bool) (eb : b ≡ texted t) where
  pub open_none : b ≡ true → f.level ≡ 0 → r ≡ Fault 9 head → OpensChunk t head e at g f r
  open_none v z q = rw (same_tag t NODE (sym eb ∙ v)) (node-none head e at g f r z q)

  pub open_node : b ≡ true → (f.level ≡ 0 → ⊥) → (x : Totals) → x ≡ entered g → (y : Open) → y ≡ fresh t head e (f.level - 1) g.below → r ≡ Push at x y f → OpensChunk t head e at g f r
  open_node v z x ex y ey q =
      let o = same_tag t NODE (sym eb ∙ v) in
      let p : r ≡ Push at (entered g) (fresh t head e (f.level - 1) g.below) f = rw (← ex, ← ey) q in
      rw o (node-some head e at g f r z (rw o at p))

  pub open_other : b ≡ false → (y : Open) → y ≡ fresh t head e f.level 0 → r ≡ Push at g y f → OpensChunk t head e at g f r
  open_other v y ey q =
      let z = sym eb ∙ v in
      let p : r ≡ Push at g (fresh t head e f.level 0) f = rw (← ey) q in
      opens t head e at g f r (Push at g (fresh t head e f.level 0) f) p (λ R. opened-other head e at g f R t z)
      (λ R d l c. let x = extra-one t in (((bound_other t f.level (length R) z c, none-words, d), omega arith), refl))

pub few_nodes : (at : ℕ) (g : Totals) (f : Open) → Ready 1 at g f → sum g + 1 ≤ 16777217
few_nodes at g f h = let m = h.few in omega arith

pub ruleset open_laws = (few_nodes, open_none, open_node, open_other)

-- ---- standing

permit_none : (o : Option Reached) → permit_of o ≡ None → o ≡ none
permit_none none e = refl
permit_none (some x) e = let z : ◌≡◌ {A = ℕ} 0 1 = cc in absurd (omega arith)

permit_some : (o : Option Reached) (a : Turns) → permit_of o ≡ Some a → o ≡ some (record { turn = a.turn; spent = a.spent })
permit_some none a e = let z : ◌≡◌ {A = ℕ} 0 1 = cc in absurd (omega arith)
permit_some (some x) a e =
    let p : x.turn ≡ a.turn = ap (turn_in a) e in
    let q : x.spent ≡ a.spent = ap (spent_in a) e in
    rw (← p, ← q)
  where
    turn_in : Turns → std.Option Turns → ℕ
    turn_in d None = d.turn
    turn_in d (Some r) = r.turn

    spent_in : Turns → std.Option Turns → Bool
    spent_in d None = d.spent
    spent_in d (Some r) = r.spent

module _ (t : Tag) (head e at : ℕ) (g : Totals) (f : Open) (r : Now) (x : std.Option Turns) (ex : x ≡ permit_of (next (nesting f.tag) (nesting f.tag) (reached_at f.turn f.spent) t)) where
  abbrev o : Option Reached
  o = next (nesting f.tag) (nesting f.tag) (reached_by f) t

  pub stand-no : x ≡ None → r ≡ Fault 4 head → Gives 1 at g f r (stand_here t head e at g f)
  unfolding stand_here stand
  stand-no z q = gives 1 at g f r (Fault 4 head) (stand_here t head e at g f) q tt (λ R. ap (λ (y : Option Reached). stand y t head e at g f R) (sym (permit_none o (sym ex ∙ z)))) (λ R d l. tt)

  module _ (a : Turns) (z : x ≡ Some a) where
    is_some : o ≡ some (record { turn = a.turn; spent = a.spent })
    is_some = permit_some o a (sym ex ∙ z)

    pub stand-at : OpensChunk t head e at g (record { tag = f.tag; head = f.head; end = f.end; turn = a.turn; spent = a.spent; level = f.level; kept = f.kept; count = f.count; told = f.told }) r → Gives 1 at g f r (stand_here t head e at g f)
    unfolding stand_here stand
    stand-at q = record {
      is = λ R. q.is R ∙ ap (λ (y : Option Reached). stand y t head e at g f R) (sym is_some);
      good = λ R d l. q.good R d l (child f.tag t f.level (length R) (reached_by f) (record { turn = a.turn; spent = a.spent }) is_some d.0);
      calm = λ z. absurd (omega arith);
    }

pub reaching_ready : (at : ℕ) (g : Totals) (f : Open) (a : ℕ) (b : Bool) → Ready 1 at g f
    → Ready 1 at g (record { tag = f.tag; head = f.head; end = f.end; turn = a; spent = b; level = f.level; kept = f.kept; count = f.count; told = f.told })
reaching_ready at g f a b h = record { few = h.few; place = h.place; words = h.words }

pub ruleset stand_laws = (reaching_ready, stand-no, stand-at)

-- ---- a header

tag-none : (o : Option Tag) → tagged o ≡ None → o ≡ none
tag-none none e = refl
tag-none (some x) e = let z : ◌≡◌ {A = ℕ} 0 1 = cc in absurd (omega arith)

tag-some : (o : Option Tag) (t : Tag) → tagged o ≡ Some t → o ≡ some t
tag-some none t e = let z : ◌≡◌ {A = ℕ} 0 1 = cc in absurd (omega arith)
tag-some (some x) t e = let p : x ≡ t = cc in rw p

pub ready_less : (at : ℕ) (g : Totals) (f : Open) → Ready 1 at g f → Ready 0 at g f
ready_less at g f h = let m = h.few in record { few = omega arith; place = h.place; words = h.words }

module _ (head tag n at : ℕ) (g : Totals) (f : Open) (r : Now) (y : ℕ) (ey : y ≡ f.end - at) where
  pub header-past : y < n → r ≡ Fault 3 head → Gives 1 at g f r (header_done head tag n at g f)
  unfolding header_done if
  header-past h q =
      let l : f.end - at < n = omega arith in
      gives 1 at g f r (Fault 3 head) (header_done head tag n at g f) q tt (λ R. rw (lt-ltb (f.end - at) n l)) (λ R d l. tt)

  module _ (h : n ≤ y) (x : std.Option Tag) (ex : x ≡ tagged (tag_of tag)) where
    inside : (R : List Open) → known (tag_of tag) head (at + n) at g f R ≡ header_done head tag n at g f R
    unfolding header_done if
    inside R = let l : n ≤ f.end - at = omega arith in rw (le-ltb (f.end - at) n l)

    pub header-other : x ≡ None → Gives 0 at g f r (skip_from (at + n) at g f) → Gives 1 at g f r (header_done head tag n at g f)
    unfolding known
    header-other z q = gives-spare at g f r (skip_from (at + n) at g f) (header_done head tag n at g f) (λ R. ap (λ (o : Option Tag). known o head (at + n) at g f R) (sym (tag-none (tag_of tag) (sym ex ∙ z))) ∙ inside R) q

    pub header-known : (t : Tag) → x ≡ Some t → Gives 1 at g f r (stand_here t head (at + n) at g f) → Gives 1 at g f r (header_done head tag n at g f)
    unfolding known stand_here
    header-known t z q = gives-on 1 at g f r (stand_here t head (at + n) at g f) (header_done head tag n at g f) (λ R. ap (λ (o : Option Tag). known o head (at + n) at g f R) (sym (tag-some (tag_of tag) t (sym ex ∙ z))) ∙ inside R) q

pub ruleset header_laws = (ready_less, header-past, header-other, header-known)
