-- Up the parents of a bone: what each turn of `climbs` and of `mark` says.
use Prim.Native.Nat.{ℕ, zero, suc, ◌+◌, ◌-◌, ◌<◌, ◌≤◌}
use native.Mathlib.Omega.{arith}
use mathlib.Core.Bool.{true, false}
use mathlib.Core.Logic.{inl, inr}
use mathlib.Core.Path.{◌≡◌, refl, ap, sym, ◌∙◌}
use mathlib.Core.List.{List}
use lib.ListN.{length, get_or, set, take, replicate, length-set}
use lib.Seq.{get_or-set_other, length-take-le, get_or-take}
use Rattle.layout.specs.Rules.{NONE}
use Rattle.cal3d_spec.specs.Trees.{ends}
use Rattle.cal3d_skeleton_tree_check.specs.Scores.{ParentsValid, ParentsEnd, Marked, Zeros}
use Rattle.cal3d_skeleton_tree_check.proofs.EndLaws.{by-eq, ends-root, ends_up, ends_none, ends_more, ends_all}

-- a parent that is there is a bone
parent_is : (ps : List ℕ) → ParentsValid ps → (x : ℕ) → x < length ps → (get_or ps x 0 ≡ NONE → ⊥) → get_or ps x 0 < length ps
parent_is ps v x h n = elim (v.named x h) [ inl z ↦ absurd (n z) | inr z ↦ z ]

-- so many parents of b are passed, up to x
pub record Climbing (ps : List ℕ) (b x up : ℕ) : Type 0 where
  pub there : x < length ps
  pub rest : ends ps (length ps) b ≡ ends ps (length ps - up) x
  pub back : ParentsEnd ps x → ParentsEnd ps b

module _ (ps : List ℕ) (b : ℕ) where
  pub climb_start : b < length ps → Climbing ps b b 0
  climb_start h = let e : length ps ≡ length ps - 0 = omega arith in record { there = h; rest = ap (λ (n : ℕ). ends ps n b) e; back = λ k. k }

  module _ (x up : ℕ) (c : Climbing ps b x up) where
    pub climb_marked : (marks : List ℕ) → Marked ps marks → get_or marks x 0 ≡ 1 → true ≡ ends ps (length ps) b
    climb_marked marks m e = sym (c.back (m.marked x c.there e)).kept

    pub climb_out : length ps ≤ up → false ≡ ends ps (length ps) b
    climb_out h = let e : length ps - up ≡ 0 = omega arith in sym (c.rest ∙ ap (λ (n : ℕ). ends ps n x) e ∙ ends_none ps x)

    module _ (h : up < length ps) where
      less : length ps - up ≡ suc (length ps - (up + 1))
      less = omega arith

      pub climb_root : get_or ps x 0 ≡ 4294967295 → true ≡ ends ps (length ps) b
      climb_root e = sym (c.rest ∙ ap (λ (n : ℕ). ends ps n x) less ∙ ends-root ps (length ps - (up + 1)) x e)

      pub climb_up : ParentsValid ps → (get_or ps x 0 ≡ 4294967295 → ⊥) → (y : ℕ) → y ≡ get_or ps x 0 → Climbing ps b y (up + 1)
      climb_up v n y e =
          let above = parent_is ps v x c.there n in
          let left = length ps - (up + 1) in
          record {
            there = rw e above;
            rest = c.rest ∙ ap (λ (k : ℕ). ends ps k x) less ∙ ends_up ps left x n ∙ ap (λ (z : ℕ). ends ps left z) (sym e);
            back = λ k. c.back (record { kept = ends_all ps v (suc (length ps)) x c.there (ends_up ps (length ps) x n ∙ ap (λ (z : ℕ). ends ps (length ps) z) (sym e) ∙ k.kept) });
          }

pub ruleset climbing = (climb_start, climb_marked, climb_out, climb_root, climb_up)

-- bones up to x are marked; its parents end
pub record Marking (ps marks : List ℕ) (x : ℕ) : Type 0 where
  pub there : x < length ps
  pub kept : ParentsEnd ps x
  pub marked : Marked ps marks

module _ (ps : List ℕ) where
  pub mark_start : (marks : List ℕ) (b : ℕ) → b < length ps → ParentsEnd ps b → Marked ps marks → Marking ps marks b
  mark_start marks b h k m = record { there = h; kept = k; marked = m }

  module _ (marks : List ℕ) (x : ℕ) (c : Marking ps marks x) where
    pub mark_room : x < length marks
    mark_room = let l = c.marked.long in let h = c.there in omega arith

    pub mark_one : Marked ps (set marks x 1)
    mark_one =
        record {
          long = length-set marks x 1 ∙ c.marked.long;
          marked = λ i h e. by-eq i x
              (λ w. rw w c.kept)
              (λ w. c.marked.marked i h (sym (get_or-set_other marks x i 1 0 w) ∙ e));
        }

    pub mark_up : ParentsValid ps → (get_or ps x 0 ≡ 4294967295 → ⊥) → (y : ℕ) → y ≡ get_or ps x 0 → Marking ps (set marks x 1) y
    mark_up v n y e =
        let h = c.there in
        let l : length ps ≡ suc (length ps - 1) = omega arith in
        let k = sym (ends_up ps (length ps - 1) x n) ∙ ap (λ (i : ℕ). ends ps i x) (sym l) ∙ c.kept.kept in
        let m = ap (λ (i : ℕ). ends ps i (get_or ps x 0)) l ∙ ends_more ps (length ps - 1) (get_or ps x 0) k in
        record {
          there = rw e (parent_is ps v x c.there n);
          kept = record { kept = ap (λ (z : ℕ). ends ps (length ps) z) e ∙ m };
          marked = mark_one;
        }

pub ruleset marking = (mark_start, mark_room, mark_one, mark_up)

-- marks of which none is set, as many as a larger row of them begins with
pub fresh : (ps marks : List ℕ) → Zeros marks → length ps ≤ length marks → Marked ps (take (length ps) marks)
fresh ps marks u h = record {
  long = length-take-le (length ps) marks h;
  marked = λ i k e. let z : ◌≡◌ {A = ℕ} 0 1 = sym (get_or-take (length ps) marks i 0 k ∙ u.none i) ∙ e in absurd (omega arith);
}

pub zeros_none : (n : ℕ) → Zeros (replicate n 0)
zeros_none n = record { none = go n }
  where
    go : (k i : ℕ) → ◌≡◌ {A = ℕ} (get_or (replicate k 0) i 0) 0
    go zero i = refl
    go (suc k) zero = refl
    go (suc k) (suc i) = go k i
