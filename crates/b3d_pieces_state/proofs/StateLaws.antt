-- What is held as numbers, in the words of the code; and back.
use mathlib.Core.Path.{◌≡◌, sym, ◌∙◌}
use Prim.Native.Nat.{ℕ}
use mathlib.Core.Bool.{Bool, false}
use lib.Dec.{eqb}
use borrow.Author.Tests.{ne_eqb}
use Rattle.wire.specs.Test.{if}
use Rattle.b3d_spec.specs.declared.Tag.TheVariants.{BB3D}
use Rattle.b3d_pieces_spec.specs.declared.Kept.{Kept}
use Rattle.b3d_pieces_spec.specs.declared.Open.{Open}
use Rattle.b3d_pieces_spec.specs.declared.Part.{Part}
use Rattle.b3d_pieces_spec.specs.declared.Part.TheVariants.{Text, Row, Skip}
use Rattle.b3d_pieces_spec.specs.declared.Totals.{Totals}
use Rattle.b3d_pieces_spec.specs.Bodies.{none_kept}
use Rattle.b3d_pieces_spec.specs.Row.{flag}
use Rattle.b3d_pieces_spec.specs.Machine.{fresh}
use Rattle.b3d_pieces_spec.specs.Close.{nothing}
use Rattle.b3d_pieces_item_steps.specs.declared.Now.{Now}
use Rattle.b3d_pieces_item_steps.specs.declared.Now.TheVariants.{Live, Push, Pop, Fault, Over}
use Rattle.b3d_pieces_step.specs.Turns.{pends}
use Rattle.b3d_pieces_step.proofs.TurnLaws.{none}
use Rattle.b3d_pieces_judge_step.specs.declared.Judge.{Judge}
use Rattle.b3d_pieces_state.specs.declared.OpenRecord.{OpenRecord}
use Rattle.b3d_pieces_state.specs.declared.PieceState.{PieceState}
use Rattle.b3d_pieces_state.specs.Records.{open_in, record_of}
use Rattle.b3d_pieces_state.specs.States.{now_by, judge_in, state_with, state_by, state_of}
use Rattle.b3d_pieces_spec.proofs.RowLaws.{flag-back}
use Rattle.b3d_pieces_state.proofs.RecordLaws.{record_back}

-- ---- what stands at the present place

module _ (s : PieceState) (r : Now) (f : Open) (ef : f ≡ open_in s.inner) where
  pub now-text : s.kind ≡ 0 → r ≡ Live s.at (Text (eqb s.fixed 1) s.start) s.totals f → r ≡ now_by s
  unfolding now_by if
  now-text e q = q ∙ rw (ef, e)

  pub now-row : s.kind ≡ 1 → r ≡ Live s.at (Row (eqb s.fixed 1) s.start s.index s.came s.value s.kept) s.totals f → r ≡ now_by s
  unfolding now_by if
  now-row e q = q ∙ rw (ef, e)

  pub now_skip : s.kind ≡ 2 → r ≡ Live s.at (Skip s.start) s.totals f → r ≡ now_by s
  unfolding now_by if
  now_skip e q = q ∙ rw (ef, e)

module _ (s : PieceState) (r : Now) where
  pub now-fault : s.kind ≡ 3 → r ≡ Fault s.number s.at → r ≡ now_by s
  unfolding now_by if
  now-fault e q = q ∙ rw e

  pub now-over : (s.kind ≡ 0 → ⊥) → (s.kind ≡ 1 → ⊥) → (s.kind ≡ 2 → ⊥) → (s.kind ≡ 3 → ⊥) → r ≡ Over s.totals → r ≡ now_by s
  unfolding now_by if
  now-over a b c d q = q ∙ simp (ne_eqb s.kind 0 a, ne_eqb s.kind 1 b, ne_eqb s.kind 2 c, ne_eqb s.kind 3 d)

pub ruleset now_laws = (now-text, now-row, now_skip, now-fault, now-over)

-- ---- its numbers

module _ (j : Judge) (r : PieceState) (shut : ℕ) (es : shut ≡ flag j.shut) where
  of-now : (h : Now) → j.now ≡ h → r ≡ state_by j shut h → r ≡ state_of j
  unfolding state_of
  of-now h e q = q ∙ rw (es, sym e)

  module _ (at : ℕ) (m : Part) (g : Totals) (f : Open) (e : j.now ≡ Live at m g f) (x : OpenRecord) (ex : x ≡ record_of f) where
    pub of-text : (fixed : Bool) (start : ℕ) → m ≡ Text fixed start → (b : ℕ) → b ≡ flag fixed → r ≡ state_with j shut 0 0 at b start 0 0 0 none_kept x g → r ≡ state_of j
    unfolding state_by
    of-text fixed start em b eb q = of-now (Live at m g f) e (q ∙ rw (em, eb, ex))

    pub of_row : (fixed : Bool) (start index came value : ℕ) (kept : Kept) → m ≡ Row fixed start index came value kept → (b : ℕ) → b ≡ flag fixed
        → r ≡ state_with j shut 1 0 at b start index came value kept x g → r ≡ state_of j
    unfolding state_by
    of_row fixed start index came value kept em b eb q = of-now (Live at m g f) e (q ∙ rw (em, eb, ex))

    pub of_skip : (end : ℕ) → m ≡ Skip end → r ≡ state_with j shut 2 0 at 0 end 0 0 0 none_kept x g → r ≡ state_of j
    unfolding state_by
    of_skip end em q = of-now (Live at m g f) e (q ∙ rw (em, ex))

  module _ (f : Open) (ef : f ≡ fresh BB3D 0 0 0 0) (x : OpenRecord) (ex : x ≡ record_of f) (g : Totals) where
    pub of_push : (at : ℕ) (k o : Open) → j.now ≡ Push at g k o → r ≡ state_with j shut 4 0 0 0 0 0 0 0 none_kept x g → r ≡ state_of j
    unfolding state_by
    of_push at k o e q = of-now (Push at g k o) e (q ∙ rw (ex, ef))

    pub of_pop : (at : ℕ) → j.now ≡ Pop at g → r ≡ state_with j shut 4 0 0 0 0 0 0 0 none_kept x g → r ≡ state_of j
    unfolding state_by
    of_pop at e q = of-now (Pop at g) e (q ∙ rw (ex, ef))

    pub of-fault : (n at : ℕ) → j.now ≡ Fault n at → g ≡ nothing → r ≡ state_with j shut 3 n at 0 0 0 0 0 none_kept x g → r ≡ state_of j
    unfolding state_by
    of-fault n at e eg q = of-now (Fault n at) e (q ∙ rw (ex, ef, eg))

    pub of-over : j.now ≡ Over g → r ≡ state_with j shut 4 0 0 0 0 0 0 0 none_kept x g → r ≡ state_of j
    unfolding state_by
    of-over e q = of-now (Over g) e (q ∙ rw (ex, ef))

pub ruleset state_laws = (of-text, of_row, of_skip, of_push, of_pop, of-fault, of-over)

-- ---- and back: between two calls no number is lost

now-back : (j : Judge) (h : Now) → pends h ≡ false
    → judge_in (state_by j (flag j.shut) h) ≡ record { size = j.size; worth = j.worth; letters = j.letters; length = j.length; shut = j.shut; depth = j.depth; now = h }
unfolding judge_in now_by state_by if
now-back j (Live at (Text x s) g f) e = rw (flag-back j.shut, flag-back x, record_back f)
now-back j (Live at (Row x s i c v k) g f) e = rw (flag-back j.shut, flag-back x, record_back f)
now-back j (Live at (Skip s) g f) e = rw (flag-back j.shut, record_back f)
now-back j (Push at g f o) e = none (sym e)
now-back j (Pop at g) e = none (sym e)
now-back j (Fault n p) e = rw (flag-back j.shut)
now-back j (Over g) e = rw (flag-back j.shut)

pub state-back : (j : Judge) → pends j.now ≡ false → judge_in (state_of j) ≡ j
unfolding state_of
state-back j e = now-back j j.now e
