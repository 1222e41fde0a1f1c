-- Nodes that end, and one that is entered: a law for each need.
use mathlib.Core.Path.{◌≡◌, refl, ap, ap₂, sym, subst, ◌∙◌}
use Prim.Native.Nat.{ℕ, zero, suc, ◌+◌, ◌-◌, ◌<◌, ◌≤◌}
use native.Mathlib.Numerals.{add-one}
use native.Mathlib.Omega.{arith}
use mathlib.Core.List.{List, [], ◌∷◌}
use lib.ListN.{length, get_or, set, length-set}
use lib.Seq.{get_or-set_same, get_or-set_other}
use lib.Dec.{leb, le→leb, leb→le, nleb→lt}
use borrow.Author.Tests.{lt-leb, le-leb}
use Rattle.wire.specs.Test.{if}
use Rattle.layout.proofs.ResultLaws.{if_yes, by_test}
use Rattle.b3d_spec_plain_rows.specs.Rows.{Open, parent_at}
use Rattle.b3d_rows_nodes.specs.NodeStack.{open_at, stack_to, stack_of, top_of, OpenNodesAt, NodesOpenAt, Enters}
use Rattle.b3d_rows_nodes.specs.declared.OpenNodes.{OpenNodes}
use Rattle.b3d_rows_nodes.specs.declared.EnteredNode.{EnteredNode}

-- ---- nodes that ended

pub open_closed : (p : ℕ) (o : Open) (l : List Open) → o.end ≤ p → open_at p (o ∷ l) ≡ open_at p l
unfolding open_at if
open_closed p o l h = rw (le-leb o.end p h)

pub open_still : (p : ℕ) (o : Open) (l : List Open) → p < o.end → open_at p (o ∷ l) ≡ o ∷ l
unfolding open_at if
open_still p o l h = rw (lt-leb o.end p h)

-- from a place on they make no difference
pub open_parent : (p q : ℕ) → p ≤ q → (l : List Open) → parent_at q (open_at p l) ≡ parent_at q l
unfolding open_at parent_at if
open_parent p q h [] = refl
open_parent p q h (o ∷ l) =
    by_test (leb o.end p)
    (λ t. let c = leb→le o.end p t in ap (parent_at q) (open_closed p o l c) ∙ open_parent p q h l ∙ sym (if_yes (leb o.end q) (parent_at q l) o.index (le→leb o.end q (omega arith))))
    (λ t. ap (parent_at q) (open_still p o l (nleb→lt o.end p t)))

-- none, and one more
stack-none : (ends nodes : List ℕ) (p d : ℕ) → d ≡ 0 → stack_to ends nodes d ≡ open_at p (stack_to ends nodes d)
unfolding stack_to open_at
stack-none ends nodes p d e = rw e

stack-more : (ends nodes : List ℕ) (d : ℕ) → stack_to ends nodes (suc d) ≡ record { end = get_or ends d 0; index = get_or nodes d 0 } ∷ stack_to ends nodes d
unfolding stack_to
stack-more ends nodes d = refl

none-top : (ends nodes : List ℕ) (p : ℕ) → top_of nodes 0 ≡ parent_at p (stack_to ends nodes 0)
unfolding top_of parent_at stack_to
none-top ends nodes p = refl

-- the last of those that are open is open
head_open : (p : ℕ) (o : Open) (k l : List Open) → o ∷ k ≡ open_at p l → p < o.end
unfolding open_at if
head_open p o k [] e = let z : ◌≡◌ {A = ℕ} 0 1 = cc in absurd (omega arith)
head_open p o k (a ∷ l) e =
    by_test (leb a.end p)
    (λ t. head_open p o k l (e ∙ open_closed p a l (leb→le a.end p t)))
    (λ t. let h = nleb→lt a.end p t in let z : o ∷ k ≡ a ∷ l = e ∙ open_still p a l h in let y : o ≡ a = cc in omega (arith, ap (λ (u : Open). u.end) y))

still-top : (ends nodes : List ℕ) (p d : ℕ) (l : List Open) → stack_to ends nodes (suc d) ≡ open_at p l → top_of nodes (suc d) ≡ parent_at p (stack_to ends nodes (suc d))
unfolding top_of parent_at stack_to if
still-top ends nodes p d l e =
    let h : p < get_or ends d 0 = head_open p (record { end = get_or ends d 0; index = get_or nodes d 0 }) (stack_to ends nodes d) l e in
    rw (lt-leb (get_or ends d 0) p h)

-- d of the nodes are left
pub record CloseLeft (ends : List ℕ) (depth p d : ℕ) : Type 0 where
  pub low : d ≤ depth
  pub deep : depth ≤ 16
  pub is : (nodes : List ℕ) → open_at p (stack_to ends nodes d) ≡ open_at p (stack_to ends nodes depth)

module _ (ends : List ℕ) (depth p : ℕ) where
  pub close_start : depth ≤ 16 → CloseLeft ends depth p depth
  close_start h = record { low = omega arith; deep = h; is = λ nodes. refl }

  module _ (d : ℕ) (v : CloseLeft ends depth p d) where
    pub close_none : d ≤ 0 → NodesOpenAt ends depth p 0
    close_none h =
        let z : d ≡ 0 = omega arith in
        subst (λ (k : ℕ). NodesOpenAt ends depth p k) z (record { low = v.low; is = λ nodes. stack-none ends nodes p d (omega arith) ∙ v.is nodes })

    module _ (h : 0 < d) where
      pub close_index : d - 1 < 16
      close_index = omega (arith, v.low, v.deep)

      last : (nodes : List ℕ) → stack_to ends nodes d ≡ record { end = get_or ends (d - 1) 0; index = get_or nodes (d - 1) 0 } ∷ stack_to ends nodes (d - 1)
      last nodes = let e : d ≡ suc (d - 1) = omega arith in ap (stack_to ends nodes) e ∙ stack-more ends nodes (d - 1)

      module _ (end : ℕ) (ee : end ≡ get_or ends (d - 1) 0) where
        pub close_found : p < end → NodesOpenAt ends depth p (d - 1 + 1)
        close_found lt =
            let z : d ≡ d - 1 + 1 = omega arith in
            subst (λ (k : ℕ). NodesOpenAt ends depth p k) z
            (record { low = v.low; is = λ nodes. sym (ap (open_at p) (last nodes) ∙ open_still p _ _ (omega (arith, ee)) ∙ sym (last nodes)) ∙ v.is nodes })

        pub close_on : end ≤ p → CloseLeft ends depth p (d - 1)
        close_on le = record { low = omega (arith, v.low); deep = v.deep; is = λ nodes. sym (ap (open_at p) (last nodes) ∙ open_closed p _ _ (omega (arith, ee))) ∙ v.is nodes }

pub ruleset close_laws = (close_start, close_none, close_index, close_found, close_on)

-- ---- the last

pub top-none : (nodes : List ℕ) (d : ℕ) → d ≡ 0 → 0xFFFFFFFF ≡ top_of nodes d
unfolding top_of
top-none nodes d e = rw e

pub top-some : (nodes : List ℕ) (d : ℕ) → (d ≡ 0 → ⊥) → get_or nodes (d - 1) 0 ≡ top_of nodes d
unfolding top_of
top-some nodes zero n = absurd (n refl)
top-some nodes (suc d) n = let e : suc d - 1 ≡ d = omega arith in rw e

pub ruleset top_laws = (top-none, top-some)

-- ---- one that is entered

pub stack-long : (ends nodes : List ℕ) (k : ℕ) → length (stack_to ends nodes k) ≡ k
unfolding stack_to
stack-long ends nodes zero = refl
stack-long ends nodes (suc k) = ap suc (stack-long ends nodes k)

-- a store from the cell d on changes none of the first d nodes
kept : (ends nodes : List ℕ) (i e n d : ℕ) → d ≤ i → stack_to (set ends i e) (set nodes i n) d ≡ stack_to ends nodes d
unfolding stack_to
kept ends nodes i e n zero h = refl
kept ends nodes i e n (suc d) h =
    ap₂ (λ (o : Open) (l : List Open). o ∷ l)
    (ap₂ (λ (a b : ℕ). record { end = a; index = b }) (get_or-set_other ends i d e 0 (λ q. omega arith)) (get_or-set_other nodes i d n 0 (λ q. omega arith)))
    (kept ends nodes i e n d (omega arith))

module _ (x : OpenNodes) (p : ℕ) (v : OpenNodesAt x) (room : length (open_at p (stack_of x)) < 16) (d : ℕ) (c : NodesOpenAt x.ends x.depth p d) where
  low : d < 16
  low = omega (arith, ap length (c.is x.nodes), stack-long x.ends x.nodes d)

  pub enter-low : d ≤ 16
  enter-low = omega (arith, low)

  pub enter-index : d < 16
  enter-index = low

  enter-end : d < length x.ends
  enter-end = omega (arith, low, v.ends)

  enter-node : d < length x.nodes
  enter-node = omega (arith, low, v.nodes)

  top-parent : (k : ℕ) → stack_to x.ends x.nodes k ≡ open_at p (stack_of x) → top_of x.nodes k ≡ parent_at p (stack_to x.ends x.nodes k)
  top-parent zero e = none-top x.ends x.nodes p
  top-parent (suc k) e = still-top x.ends x.nodes p k (stack_of x) e

  pub enter_path : (parent : ℕ) → parent ≡ top_of x.nodes d → (end index : ℕ) (r : EnteredNode)
      → r ≡ record { parent = parent; path = record { depth = d + 1; ends = set x.ends d end; nodes = set x.nodes d index } } → Enters x p end index r
  unfolding stack_to
  enter_path parent ep end index r er =
      let s : stack_to (set x.ends d end) (set x.nodes d index) (d + 1) ≡ record { end = end; index = index } ∷ open_at p (stack_of x) =
      ap (stack_to (set x.ends d end) (set x.nodes d index)) (add-one d)
      ∙ ap₂ (λ (o : Open) (l : List Open). o ∷ l)
      (ap₂ (λ (a b : ℕ). record { end = a; index = b }) (get_or-set_same x.ends d end 0 enter-end) (get_or-set_same x.nodes d index 0 enter-node))
      (kept x.ends x.nodes d end index d (omega arith) ∙ c.is x.nodes) in
      subst (Enters x p end index) (sym er)
      (record {
        parent = ep ∙ top-parent d (c.is x.nodes) ∙ ap (parent_at p) (c.is x.nodes) ∙ open_parent p p (omega arith) (stack_of x);
        stack = s;
        path = record { deep = omega (arith, low); ends = length-set x.ends d end ∙ v.ends; nodes = length-set x.nodes d index ∙ v.nodes };
      })

pub path-deep : (x : OpenNodes) → OpenNodesAt x → x.depth ≤ 16
path-deep x v = v.deep

pub ruleset enter_laws = (path-deep, enter-low, enter-index, enter_path)
