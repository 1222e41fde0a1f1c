-- A law for each way through `permit_for` and `by_permit`.
use Rattle.layout.specs.Refused.{refusal_at}
use Rattle.std.specs.Prelude.{Ok, Err, Some, None}
use Rattle.std.specs.Prelude as std
use mathlib.Core.Path.{◌≡◌, refl, ap, sym, subst, ◌∙◌}
use Prim.Native.Nat.{ℕ, ◌≤◌}
use native.Mathlib.Omega.{arith}
use mathlib.Core.Bool.{Bool, true, false}
use mathlib.Core.Option.{Option, none, some}
use mathlib.Core.List.{List}
use lib.ListN.{length}
use Rattle.wire.specs.Test.{if}
use Rattle.wire.specs.Cursors.{Inside, left}
use Rattle.wire.specs.declared.Cursor.{Cursor}
use Rattle.layout.specs.Chunks.{done, stop, chunk}
use Rattle.b3d_spec.specs.declared.Tag.{Tag}
use Rattle.b3d_spec.specs.Tags.{split}
use Rattle.b3d_spec.specs.Nesting.{nesting, required_between, end, onward, order}
use Rattle.b3d_spec.specs.Nesting as nest
use Rattle.b3d_chunk_cursor.specs.Chunks.{NextIs}
use Rattle.b3d_chunk_cursor.specs.declared.Next.{Next}
use Rattle.b3d_chunk_cursor.specs.declared.Next.TheVariants as next
use Rattle.b3d_chunk_cursor.proofs.NextLaws.{chunk-is, chunk-among, cut-is, cut-before, done-is}
use Rattle.b3d_rule_nesting_order.specs.declared.Reached.{Reached}
use Rattle.b3d_rule_nesting_order.specs.Turns.{reached_of, permit_of}
use Rattle.b3d_chunk_next_allowed.specs.Steps.{permit_for, EnclosedIs}

-- ---- the ways of `permit_for`

module _ (k : Tag) (q : Reached) (r : Next) where
  pub permit_cut : (p : ℕ) → r ≡ next.Cut p → None ≡ permit_for k q r
  permit_cut p w = ap (permit_for k q) (sym w)

  module _ (w : r ≡ next.Done) (b : Bool) (o : b ≡ required_between (nesting k) q.turn end) where
    pub permit_owes : b ≡ true → None ≡ permit_for k q r
    unfolding if
    permit_owes y = ap (λ (z : Bool). if z None (Some q)) (sym y ∙ o) ∙ ap (permit_for k q) (sym w)

    pub permit_end : b ≡ false → Some q ≡ permit_for k q r
    unfolding if
    permit_end y = ap (λ (z : Bool). if z None (Some q)) (sym y ∙ o) ∙ ap (permit_for k q) (sym w)

  pub permit_chunk : (t : Tag) (p : ℕ) (b n : Cursor) → r ≡ next.Chunk t p b n → (a : std.Option Reached) → a ≡ permit_of (nest.next (nesting k) (nesting k) (reached_of q) t) → a ≡ permit_for k q r
  permit_chunk t p b n w a e = e ∙ ap (permit_for k q) (sym w)

pub ruleset permits = (permit_cut, permit_owes, permit_end, permit_chunk)

-- ---- what a permit says

no-stand : (o : Option nest.Reached) → None ≡ permit_of o → o ≡ none
no-stand none h = refl
no-stand (some z) h = let e : ◌≡◌ {A = ℕ} 0 1 = cc in absurd (omega arith)

at-stand : (o : Option nest.Reached) (z : Reached) → Some z ≡ permit_of o → o ≡ some (reached_of z)
at-stand none z h = let e : ◌≡◌ {A = ℕ} 0 1 = cc in absurd (omega arith)
at-stand (some y) z h =
    let e : z ≡ record { turn = y.turn; spent = y.spent } = cc in
    ap (λ (x : Reached). some (reached_of x)) (sym e)

no_end : (b : Bool) (q : Reached) → None ≡ if b None (Some q) → b ≡ true
unfolding if
no_end true q h = refl
no_end false q h = let e : ◌≡◌ {A = ℕ} 0 1 = cc in absurd (omega arith)

at-end : (b : Bool) (q z : Reached) → Some z ≡ if b None (Some q) → b ≡ false
unfolding if
at-end true q z h = let e : ◌≡◌ {A = ℕ} 0 1 = cc in absurd (omega arith)
at-end false q z h = refl

-- ---- the ways of `by_permit`

module _ (s : List ℕ) (k : Tag) (head : ℕ) (q : Reached) (c : Cursor) (i : Inside c (length s)) (h : head ≤ c.at) (r : Next) (x : NextIs s c r) (a : std.Option Reached) (f : a ≡ permit_for k q r) where
  pub step_cut : (p : ℕ) → r ≡ next.Cut p → EnclosedIs s k head q c (Err (refusal_at 3 p))
  unfolding order
  step_cut p w = record { says = ap (order k head (reached_of q)) (cut-is s c r x p w); within = cut-before s c r x p w }

  module _ (w : r ≡ next.Done) where
    ends : a ≡ if (required_between (nesting k) q.turn end) None (Some q)
    ends = f ∙ ap (permit_for k q) w

    pub step_owes : a ≡ None → EnclosedIs s k head q c (Err (refusal_at 8 head))
    unfolding order if
    step_owes y = record {
      says = ap (order k head (reached_of q)) (done-is s c r x w) ∙ ap (λ (z : Bool). if z (stop 8 head) done) (no_end (required_between (nesting k) q.turn end) q (sym y ∙ ends));
      within = omega (arith, i.before);
    }

    pub step_end : (z : Reached) → a ≡ Some z → EnclosedIs s k head q c (Ok None)
    unfolding order if
    step_end z y = record {
      says = ap (order k head (reached_of q)) (done-is s c r x w) ∙ ap (λ (z : Bool). if z (stop 8 head) done) (at-end (required_between (nesting k) q.turn end) q z (sym y ∙ ends));
      within = subst (NextIs s c) w x;
    }

  module _ (t : Tag) (p : ℕ) (b n : Cursor) (w : r ≡ next.Chunk t p b n) where
    stands : a ≡ permit_of (nest.next (nesting k) (nesting k) (reached_of q) t)
    stands = f ∙ ap (permit_for k q) w

    opened : order k head (reached_of q) (split c.at (left c s))
        ≡ onward (nest.next (nesting k) (nesting k) (reached_of q) t) p (λ z. chunk t p (left b s) (order k head z (split n.at (left n s))))
    unfolding order
    opened = ap (order k head (reached_of q)) (chunk-is s c r x t p b n w)

    pub step-no : a ≡ None → EnclosedIs s k head q c (Err (refusal_at 4 p))
    unfolding onward
    step-no y = record {
      says = opened ∙ ap (λ (o : Option nest.Reached). onward o p (λ z. chunk t p (left b s) (order k head z (split n.at (left n s))))) (no-stand (nest.next (nesting k) (nesting k) (reached_of q) t) (sym y ∙ stands));
      within = let g = chunk-among s c r x t p b n w in omega arith;
    }

    pub step-at : (z : Reached) → a ≡ Some z → EnclosedIs s k head q c (Ok (Some (record { tag = t; at = p; body = b; next = n; reached = z })))
    unfolding onward
    step-at z y = record {
      says = opened ∙ ap (λ (o : Option nest.Reached). onward o p (λ z. chunk t p (left b s) (order k head z (split n.at (left n s))))) (at-stand (nest.next (nesting k) (nesting k) (reached_of q) t) z (sym y ∙ stands));
      within = record { next = subst (NextIs s c) w x; turn = at-stand (nest.next (nesting k) (nesting k) (reached_of q) t) z (sym y ∙ stands) };
    }

pub ruleset steps = (step_cut, step_owes, step_end, step-no, step-at)
