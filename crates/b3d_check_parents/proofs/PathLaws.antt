-- The path that three arrays hold: up to one of its nodes, its ends, and with a level more.
use Prim.Native.Nat.{ℕ, zero, suc, ◌+◌, ◌-◌, ◌≤◌, ◌<◌}
use native.Mathlib.Numerals.{add-one}
use native.Mathlib.Omega.{arith}
use mathlib.Core.Path.{◌≡◌, refl, sym, ap, ◌∙◌}
use mathlib.Core.Logic.{◌≢◌}
use mathlib.Core.Bool.{Bool, true, false, ◌&&◌}
use mathlib.Core.List.{List, [], ◌∷◌}
use lib.ListN.{length, get_or, set, take}
use lib.Seq.{get_or-set_same, get_or-set_other, take-suc}
use lib.Dec.{eqb}
use borrow.Author.Tests.{eq-eqb, ne_eqb}
use Rattle.std.specs.List.{list_all}
use Rattle.std.proofs.lemmas.List.Folds.{list_all-append}
use Rattle.wire.specs.Test.{if}
use Rattle.b3d_check_spec.specs.Check.{up_to, all_end, bone_limit_of}
use Rattle.b3d_check_parents.specs.Path.{path_of, CutTo}

-- ---- a path up to one of its nodes

-- the nodes from d on are not p, and end at row i
pub record CutFrom (a e : List ℕ) (depth i p d : ℕ) : Type 0 where
  pub within : d ≤ depth
  pub rest : (v : List ℕ) → up_to i p (path_of a e v d) ≡ up_to i p (path_of a e v depth)

path-step : (a e v : List ℕ) (d : ℕ) → 0 < d → path_of a e v d ≡ record { node = get_or a (d - 1) 0; end = get_or e (d - 1) 0; bones = get_or v (d - 1) 0 } ∷ path_of a e v (d - 1)
unfolding path_of
path-step a e v zero h = absurd (omega arith)
path-step a e v (suc d) h = let z : suc d - 1 ≡ d = omega arith in rw z

module _ (a e : List ℕ) (depth i p : ℕ) where
  pub cut-none : CutFrom a e depth i p depth
  cut-none = record { within = omega arith; rest = λ v. refl }

  module _ (d : ℕ) (f : CutFrom a e depth i p d) where
    pub cut-end : d ≤ 0 → CutTo a e depth i p 0
    unfolding path_of up_to
    cut-end h = let z : d ≡ 0 = omega arith in record { low = omega arith; is = λ v. rw z at (f.rest v) }

    module _ (h : 0 < d) where
      step : (v : List ℕ)
          → up_to i p (path_of a e v d) ≡ if (eqb p (get_or a (d - 1) 0)) (record { node = get_or a (d - 1) 0; end = get_or e (d - 1) 0; bones = get_or v (d - 1) 0 } ∷ path_of a e v (d - 1))
          (if (eqb (get_or e (d - 1) 0) i) (up_to i p (path_of a e v (d - 1))) [])
      unfolding up_to
      step v = rw (path-step a e v d h)

      pub cut-found : get_or a (d - 1) 0 ≡ p → CutTo a e depth i p (d - 1 + 1)
      unfolding if
      cut-found k =
          let z : d - 1 + 1 ≡ d = omega arith in
          rw z
          record { low = f.within; is = λ v. path-step a e v d h ∙ sym (rw (eq-eqb p (get_or a (d - 1) 0) (sym k)) at (step v)) ∙ f.rest v }

      module _ (k : get_or a (d - 1) 0 ≡ p → ⊥) where
        other : eqb p (get_or a (d - 1) 0) ≡ false
        other = ne_eqb p (get_or a (d - 1) 0) (λ q. k (sym q))

        pub cut_wrong : (get_or e (d - 1) 0 ≡ i → ⊥) → CutTo a e depth i p 0
        unfolding if path_of
        cut_wrong l = record { low = omega arith; is = λ v. sym (rw (other, ne_eqb (get_or e (d - 1) 0) i l) at (step v)) ∙ f.rest v }

        pub cut-next : get_or e (d - 1) 0 ≡ i → CutFrom a e depth i p (d - 1)
        unfolding if
        cut-next l = record { within = omega (arith, f.within); rest = λ v. sym (rw (other, eq-eqb (get_or e (d - 1) 0) i l) at (step v)) ∙ f.rest v }

pub ruleset cut_laws = (cut-none, cut-end, cut-found, cut_wrong, cut-next)

-- ---- the ends of a path

turned : (a b : Bool) → (a && (b && true)) ≡ (b && a)
turned true true = refl
turned true false = refl
turned false true = refl
turned false false = refl

-- the levels end at row i where their ends, the root's first, are i
pub ends_are : (e : List ℕ) (i d : ℕ) → d ≤ length e → (a v : List ℕ) → list_all (λ x. eqb x i) (take d e) ≡ all_end i (path_of a e v d)
unfolding path_of all_end
ends_are e i zero h a v = refl
ends_are e i (suc d) h a v =
    let x = get_or e d 0 in
    rw (take-suc e d 0 (omega arith), list_all-append (λ y. eqb y i) (take d e) (x ∷ []), ends_are e i d (omega arith) a v)
    (turned (all_end i (path_of a e v d)) (eqb x i))

-- ---- a path with a level more

pub path-length : (a e v : List ℕ) (d : ℕ) → length (path_of a e v d) ≡ d
unfolding path_of
path-length a e v zero = refl
path-length a e v (suc d) = ap suc (path-length a e v d)

pub path-told : (a e v : List ℕ) (d : ℕ) → 0 < d → bone_limit_of (path_of a e v d) ≡ get_or v (d - 1) 0
unfolding bone_limit_of
path-told a e v d h = rw (path-step a e v d h)

module _ (a e v : List ℕ) (d i k w : ℕ) where
  path-kept : (n : ℕ) → n ≤ d → path_of (set a d i) (set e d k) (set v d w) n ≡ path_of a e v n
  unfolding path_of
  path-kept zero h = refl
  path-kept (suc n) h =
      let o : n ≢ d = omega arith in
      rw (get_or-set_other a d n i 0 o, get_or-set_other e d n k 0 o, get_or-set_other v d n w 0 o, path-kept n (omega arith))

  pub path-set : d < length a → d < length e → d < length v → path_of (set a d i) (set e d k) (set v d w) (d + 1) ≡ record { node = i; end = k; bones = w } ∷ path_of a e v d
  unfolding path_of
  path-set ha he hv = rw (add-one, get_or-set_same a d i 0 ha, get_or-set_same e d k 0 he, get_or-set_same v d w 0 hv, path-kept d (omega arith))

-- ---- what a node says of bones, by its cell for ANIM

module _ (told cell own : ℕ) where
  pub bones-own : cell ≡ 1 → (r : ℕ) → r ≡ own → r ≡ if (eqb cell 1) own told
  unfolding if
  bones-own e r q = rw (eq-eqb cell 1 e) q

  pub bones-told : (cell ≡ 1 → ⊥) → told ≡ if (eqb cell 1) own told
  unfolding if
  bones-told h = rw (ne_eqb cell 1 h)

pub ruleset bones_laws = (bones-own, bones-told)
