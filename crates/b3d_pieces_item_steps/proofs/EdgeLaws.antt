-- The laws of an item's beginning and of a chunk's end, in the words of the code.
use mathlib.Core.Path.{◌≡◌, refl, ap, sym, ◌∙◌}
use Prim.Native.Nat.{ℕ, ◌+◌, ◌-◌, ◌*◌, ◌/◌, ◌<◌, ◌≤◌}
use native.Mathlib.Omega.{arith}
use mathlib.Core.Bool.{Bool, true, false, ◌||◌}
use mathlib.Core.List.{List, ◌∷◌}
use lib.ListN.{length}
use lib.Dec.{eqb}
use borrow.Author.Tests.{lt-ltb, le-ltb}
use Rattle.wire.specs.Test.{if}
use Rattle.layout.proofs.ResultLaws.{if_yes}
use Rattle.b3d_spec.specs.declared.Tag.{Tag}
use Rattle.b3d_spec.specs.declared.Tag.TheVariants.{BB3D, TEXS, BRUS, NODE, MESH}
use Rattle.b3d_spec.specs.Tags.{is}
use Rattle.b3d_spec.specs.Nesting.{required_between, nesting, end}
use Rattle.b3d_pieces_spec.specs.declared.Totals.{Totals}
use Rattle.b3d_pieces_spec.specs.declared.Open.{Open}
use Rattle.b3d_pieces_spec.specs.declared.Part.TheVariants.{Text, Row}
use Rattle.b3d_pieces_spec.specs.Bodies.{inner_row, nests, text_items, cut_row, none_kept, closed}
use Rattle.b3d_pieces_spec.specs.Machine.{fault, begin, edge}
use Rattle.b3d_pieces_spec.proofs.RunLaws.{eqb_yes}
use Rattle.b3d_pieces_spec.proofs.ItemRunLaws.{edge_on}
use Rattle.b3d_pieces_spec.proofs.LeafRunLaws.{edge_leave}
use Rattle.b3d_pieces_spec.specs.Good.{Words, sum, extra}
use Rattle.b3d_pieces_spec.proofs.DepthLaws.{none-words, closed-sum}
use Rattle.b3d_pieces_item_steps.specs.declared.Now.{Now}
use Rattle.b3d_pieces_item_steps.specs.declared.Now.TheVariants.{Live, Pop, Fault}
use Rattle.b3d_pieces_item_steps.specs.Nows.{Ready, Gives, edge_here}
use Rattle.b3d_pieces_item_steps.proofs.StepLaws.{gives, gives-on}

pub ready_words : (s at : ℕ) (g : Totals) (f : Open) → Ready s at g f → Words f.kept
ready_words s at g f h = h.words

pub short : (x n : ℕ) → x / 4 < n → x < 4 * n
short x n h = omega arith

pub long : (x n : ℕ) → n ≤ x / 4 → 4 * n ≤ x
long x n h = omega arith

module _ (at : ℕ) (g : Totals) (f : Open) (r : Now) where
  module _ (b : Bool) (eb : b ≡ text_items f.tag) where
    pub begin-text : b ≡ true → r ≡ Live at (Text false at) g f → Gives 0 at g f r (begin at g f)
    unfolding begin if
    begin-text t q = gives 0 at g f r (Live at (Text false at) g f) (begin at g f) q tt (λ R. rw (sym eb ∙ t)) (λ R d l. ((d, omega arith), refl))

    module _ (t : b ≡ false) (n : ℕ) (en : n ≡ length (inner_row f.tag f.kept g)) (x : ℕ) (ex : x ≡ f.end - at) where
      cut-is : (R : List Open) → x / 4 < n → begin at g f R ≡ fault (cut_row (nests f.tag)) at
      unfolding begin if
      cut-is R h =
          let l : f.end - at < 4 * length (inner_row f.tag f.kept g) = rw (← ex, ← en) (short x n h) in
          rw (sym eb ∙ t, lt-ltb (f.end - at) (4 * length (inner_row f.tag f.kept g)) l)

      pub begin-cut_3 : x / 4 < n → (c : Bool) → c ≡ nests f.tag → c ≡ true → r ≡ Fault 3 at → Gives 0 at g f r (begin at g f)
      begin-cut_3 h c ec v q = gives 0 at g f r (Fault 3 at) (begin at g f) q tt (λ R. ap (λ (y : Bool). fault (cut_row y) at) (sym v ∙ ec) ∙ sym (cut-is R h)) (λ R d l. tt)

      pub begin-cut_5 : x / 4 < n → (c : Bool) → c ≡ nests f.tag → c ≡ false → r ≡ Fault 5 at → Gives 0 at g f r (begin at g f)
      begin-cut_5 h c ec v q = gives 0 at g f r (Fault 5 at) (begin at g f) q tt (λ R. ap (λ (y : Bool). fault (cut_row y) at) (sym v ∙ ec) ∙ sym (cut-is R h)) (λ R d l. tt)

      pub begin-row : n ≤ x / 4 → r ≡ Live at (Row false at 0 0 0 (record { first = 0; second = 0; third = 0 })) g f → Gives 0 at g f r (begin at g f)
      unfolding begin if
      begin-row h q =
          let l : 4 * length (inner_row f.tag f.kept g) ≤ f.end - at = rw (← ex, ← en) (long x n h) in
          gives 0 at g f r (Live at (Row false at 0 0 0 none_kept) g f) (begin at g f) q tt (λ R. rw (sym eb ∙ t, le-ltb (f.end - at) (4 * length (inner_row f.tag f.kept g)) l))
          (λ R d l. ((d, omega arith), (omega arith, omega arith, omega arith, omega arith, none-words)))

pub ruleset begin_laws = (ready_words, begin-text, begin-cut_3, begin-cut_5, begin-row)

edge_owes : (at : ℕ) (g : Totals) (f : Open) (R : List Open) → at ≡ f.end → required_between (nesting f.tag) f.turn end ≡ true → edge at g (f ∷ R) ≡ fault 8 f.head
unfolding edge if
edge_owes at g f R h o = rw o (if_yes (eqb at f.end) _ _ (eqb_yes at f.end h))

module _ (at : ℕ) (g : Totals) (f : Open) (r : Now) where
  pub edge_stays : (at ≡ f.end → ⊥) → Gives 0 at g f r (begin at g f) → Gives 0 at g f r (edge_here at g f)
  unfolding edge_here
  edge_stays h q = gives-on 0 at g f r (begin at g f) (edge_here at g f) (λ R. sym (edge_on at g f R h)) q

  module _ (h : at ≡ f.end) (b : Bool) (eb : b ≡ required_between (nesting f.tag) f.turn end) where
    pub edge_lacks : b ≡ true → r ≡ Fault 8 f.head → Gives 0 at g f r (edge_here at g f)
    unfolding edge_here
    edge_lacks o q = gives 0 at g f r (Fault 8 f.head) (edge_here at g f) q tt (λ R. sym (edge_owes at g f R h (sym eb ∙ o))) (λ R d l. tt)

    pub edge-leaves : b ≡ false → (x : Totals) → x ≡ closed f.tag f.count f.kept f.told g → r ≡ Pop at x → Gives 0 at g f r (edge_here at g f)
    unfolding edge_here
    edge-leaves o x ex q =
        gives 0 at g f r (Pop at x) (edge_here at g f) q tt (λ R. ap (λ (y : Totals). edge at y R) ex ∙ sym (edge_leave at g f R h (sym eb ∙ o)))
        (λ R d l. let c = closed-sum f.tag f.count f.kept f.told g in
        let k : sum x ≤ sum g + (f.count + extra f.tag) = rw ex c in
        ((d.2, omega arith), refl))

pub few_leave : (at : ℕ) (g : Totals) (f : Open) → Ready 0 at g f → sum g + f.count ≤ 16777217
few_leave at g f h = let k = h.few in omega arith

pub ruleset edge_laws = (few_leave, edge_stays, edge_lacks, edge-leaves)

-- ---- tests

module _ (t : Tag) (a b r : Bool) where
  pub text-items_are : a ≡ is t TEXS → b ≡ is t BRUS → r ≡ (a || b) → r ≡ text_items t
  text-items_are ea eb q = rw (← ea, ← eb) q

  pub nests_are : (c : Bool) → a ≡ is t BB3D → b ≡ is t NODE → c ≡ is t MESH → r ≡ (a || (b || c)) → r ≡ nests t
  nests_are c ea eb ec q = rw (← ea, ← eb, ← ec) q
