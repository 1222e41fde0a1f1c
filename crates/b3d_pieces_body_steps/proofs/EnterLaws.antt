-- The laws of a chunk's beginning, in the words of the code.
use mathlib.Core.Path.{◌≡◌, refl, ap, sym, ◌∙◌}
use Prim.Native.Nat.{ℕ, ◌-◌, ◌*◌, ◌≤◌}
use native.Mathlib.Omega.{arith}
use mathlib.Core.Bool.{Bool, true, false, not}
use mathlib.Core.List.{◌∷◌}
use lib.ListN.{length}
use lib.Dec.{eqb, ltb}
use borrow.Author.Tests.{eq-eqb, ne_eqb}
use Rattle.wire.specs.Test.{if}
use Rattle.b3d_spec.specs.declared.Tag.{Tag}
use Rattle.b3d_spec.specs.declared.Tag.TheVariants.{BB3D, TEXS, BRUS, NODE, MESH, VRTS, TRIS, BONE, KEYS, ANIM}
use Rattle.b3d_spec.specs.Tags.{is}
use Rattle.b3d_pieces_spec.specs.declared.Totals.{Totals}
use Rattle.b3d_pieces_spec.specs.declared.Kept.{Kept}
use Rattle.b3d_pieces_spec.specs.declared.Open.{Open}
use Rattle.b3d_pieces_spec.specs.declared.Part.TheVariants.{Text, Row, Skip}
use Rattle.b3d_pieces_spec.specs.Bodies.{fixed_row, none_kept, headed, wrong_for}
use Rattle.b3d_pieces_spec.specs.Machine.{edge, numbered, text_from, fixed_done, fixed_row_from, enter, skip_from}
use Rattle.b3d_pieces_spec.specs.Good.{Words}
use Rattle.b3d_pieces_spec.proofs.DepthLaws.{none-words, headed-sum}
use Rattle.b3d_pieces_item_steps.specs.declared.Now.{Now}
use Rattle.b3d_pieces_item_steps.specs.declared.Now.TheVariants.{Live, Fault}
use Rattle.b3d_pieces_item_steps.specs.Nows.{Ready, Gives, edge_here, texted}
use Rattle.b3d_pieces_item_steps.proofs.StepLaws.{gives, gives-on, gives-from}

module _ (fixed : Bool) (start at : ℕ) (g : Totals) (f : Open) (r : Now) where
  pub text-ends : at ≡ f.end → r ≡ Fault 5 start → Gives 0 at g f r (text_from fixed start at g f)
  unfolding text_from if
  text-ends e q = gives 0 at g f r (Fault 5 start) (text_from fixed start at g f) q tt (λ R. rw (eq-eqb at f.end e)) (λ R d l. tt)

  pub text-goes : (at ≡ f.end → ⊥) → r ≡ Live at (Text fixed start) g f → Gives 0 at g f r (text_from fixed start at g f)
  unfolding text_from if
  text-goes e q = gives 0 at g f r (Live at (Text fixed start) g f) (text_from fixed start at g f) q tt (λ R. rw (ne_eqb at f.end e)) (λ R d l. ((d, omega arith), refl))

pub ruleset text_laws = (text-ends, text-goes)

module _ (until at : ℕ) (g : Totals) (f : Open) (r : Now) where
  pub skip_ends : at ≡ until → Gives 0 at g f r (edge_here at g f) → Gives 0 at g f r (skip_from until at g f)
  unfolding skip_from if edge_here
  skip_ends e q = gives-on 0 at g f r (edge_here at g f) (skip_from until at g f) (λ R. rw (eq-eqb at until e)) q

  pub skip_goes : (at ≡ until → ⊥) → r ≡ Live at (Skip until) g f → Gives 0 at g f r (skip_from until at g f)
  unfolding skip_from if
  skip_goes e q = gives 0 at g f r (Live at (Skip until) g f) (skip_from until at g f) q tt (λ R. rw (ne_eqb at until e)) (λ R d l. ((d, omega arith), refl))

pub ruleset skip_laws = (skip_ends, skip_goes)

-- ---- fixed data

module _ (at : ℕ) (k : Kept) (g : Totals) (f : Open) (x : Totals) (ex : x ≡ headed f.tag k g) where
  pub numbered_ready : Ready 0 at g f → Words k → Ready 0 at x (numbered f k)
  numbered_ready h w = let m = h.few in let s = headed-sum f.tag k g in let p = h.place in record { few = rw ex (omega arith); place = p; words = w }

  pub fixed-done : (r : Now) → Words k → Gives 0 at x (numbered f k) r (edge_here at x (numbered f k)) → Gives 0 at g f r (fixed_done at k g f)
  unfolding fixed_done edge_here
  fixed-done r w q =
      gives-from 0 at x g (numbered f k) f r (edge_here at x (numbered f k)) (fixed_done at k g f) (λ R. ap (λ (y : Totals). edge at y (numbered f k ∷ R)) ex)
      (λ R d. (d.0, w, d.2)) (λ R l. let s = headed-sum f.tag k g in rw ex (omega arith)) q

pub ruleset done_laws = (numbered_ready, fixed-done)

pub fixed_ten : (tag : Tag) (g : Totals) (n : ℕ) → n ≡ length (fixed_row tag g) → n ≤ 10
fixed_ten tag g n e = rw e (go tag)
  where
    go : (t : Tag) → length (fixed_row t g) ≤ 10
    go BB3D = omega arith
    go TEXS = omega arith
    go BRUS = omega arith
    go NODE = omega arith
    go MESH = omega arith
    go VRTS = omega arith
    go TRIS = omega arith
    go BONE = omega arith
    go KEYS = omega arith
    go ANIM = omega arith

module _ (at : ℕ) (g : Totals) (f : Open) (r : Now) (n : ℕ) (en : n ≡ length (fixed_row f.tag g)) (x : ℕ) (ex : x ≡ f.end - at) (b : Bool) (eb : b ≡ wrong_for f.tag x (4 * n)) where
  test_is : b ≡ wrong_for f.tag (f.end - at) (4 * length (fixed_row f.tag g))
  test_is = rw (← ex, ← en) eb

  pub row_wrong : b ≡ true → r ≡ Fault 5 at → Gives 0 at g f r (fixed_row_from at g f)
  unfolding fixed_row_from if
  row_wrong t q = gives 0 at g f r (Fault 5 at) (fixed_row_from at g f) q tt (λ R. rw (sym test_is ∙ t)) (λ R d l. tt)

  pub row-none : b ≡ false → n ≡ 0 → Gives 0 at g f r (fixed_done at (record { first = 0; second = 0; third = 0 }) g f) → Gives 0 at g f r (fixed_row_from at g f)
  unfolding fixed_row_from if
  row-none t z q =
      gives-on 0 at g f r (fixed_done at none_kept g f) (fixed_row_from at g f) (λ R. rw (sym test_is ∙ t, eq-eqb 0 (length (fixed_row f.tag g)) (sym z ∙ en))) q

  pub row_some : b ≡ false → (n ≡ 0 → ⊥) → r ≡ Live at (Row true at 0 0 0 (record { first = 0; second = 0; third = 0 })) g f → Gives 0 at g f r (fixed_row_from at g f)
  unfolding fixed_row_from if
  row_some t z q =
      gives 0 at g f r (Live at (Row true at 0 0 0 none_kept) g f) (fixed_row_from at g f) q tt (λ R. rw (sym test_is ∙ t, ne_eqb 0 (length (fixed_row f.tag g)) (λ y. z (en ∙ sym y))))
      (λ R d l. ((d, omega arith), (omega arith, omega arith, omega arith, omega arith, none-words)))

pub ruleset row_laws = (fixed_ten, none-words, row_wrong, row-none, row_some)

module _ (at : ℕ) (g : Totals) (f : Open) (r : Now) (b : Bool) (eb : b ≡ texted f.tag) where
  pub enter-text : b ≡ true → Gives 0 at g f r (text_from true at at g f) → Gives 0 at g f r (enter (texted f.tag) at g f)
  unfolding enter
  enter-text t q = gives-on 0 at g f r (text_from true at at g f) (enter (texted f.tag) at g f) (λ R. rw (sym eb ∙ t)) q

  pub enter-row : b ≡ false → Gives 0 at g f r (fixed_row_from at g f) → Gives 0 at g f r (enter (texted f.tag) at g f)
  unfolding enter
  enter-row t q = gives-on 0 at g f r (fixed_row_from at g f) (enter (texted f.tag) at g f) (λ R. rw (sym eb ∙ t)) q

pub ruleset enter_laws = (enter-text, enter-row)

-- ---- tests

module _ (tag : Tag) (left n : ℕ) (b : Bool) (eb : b ≡ is tag ANIM) (r : Bool) where
  pub wrong_anim : b ≡ true → r ≡ not (eqb left (4 * n)) → r ≡ wrong_for tag left (4 * n)
  wrong_anim e q = rw (sym eb ∙ e) q

  pub wrong_other : b ≡ false → r ≡ ltb left (4 * n) → r ≡ wrong_for tag left (4 * n)
  wrong_other e q = rw (sym eb ∙ e) q

pub ruleset wrong_laws = (wrong_anim, wrong_other)
