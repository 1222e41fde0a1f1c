-- The laws of the calls, in the words of the code.
use Rattle.layout.specs.Refused.{refusal_at}
use Rattle.std.specs.Prelude.{Err}
use Rattle.std.specs.Prelude as std
use Rattle.layout.specs.declared.Refusal.{Refusal}
use mathlib.Core.Path.{◌≡◌, refl, ap, sym, ◌∙◌}
use Prim.Native.Nat.{ℕ, ◌/◌, ◌<◌, ◌≤◌}
use native.Mathlib.Omega.{arith}
use mathlib.Core.Bool.{Bool, true, false}
use mathlib.Core.List.{List}
use lib.ListN.{length}
use Rattle.wire.specs.Test.{if}
use Rattle.b3d_pieces_spec.specs.declared.Totals.{Totals}
use Rattle.b3d_pieces_spec.specs.Row.{open_at}
use Rattle.b3d_pieces_spec.specs.Close.{nothing, closing}
use Rattle.b3d_pieces_spec.specs.Good.{worth}
use Rattle.b3d_pieces_item_steps.specs.declared.Now.TheVariants.{Over}
use Rattle.b3d_pieces_step.specs.Turns.{pends}
use Rattle.b3d_pieces_step.proofs.TurnLaws.{none}
use Rattle.b3d_pieces_judge_step.specs.declared.Judge.{Judge}
use Rattle.b3d_pieces_judge_step.specs.Takes.{held_of}
use Rattle.b3d_pieces_judge_step.specs.Runs.{CanRun, RunIs}
use Rattle.b3d_pieces_valid_record.specs.Tests.{Tests}
use Rattle.b3d_spec.specs.declared.Answer.{Answer}
use Rattle.b3d_pieces_answers.specs.Closes.{closing_of, as_word, answer_by, word_answer, Closes}
use Rattle.b3d_pieces_words.specs.Called.{Holding, words, fresh_judge, Fresh, PieceIs, shutting, CloseIs}

pub fresh-is : (g : Totals) → g ≡ nothing → (r : Judge) → r ≡ record { size = 0; worth = 0; letters = 0; length = 0; shut = false; depth = 0; now = Over g } → r ≡ fresh_judge
fresh-is g e r q = rw (q, e)

pub fresh-judge : Fresh fresh_judge
unfolding held_of
fresh-judge = record {
  is = λ rs. refl;
  shut = refl;
  calm = refl;
  good = λ rs. record { size = omega arith; depth = omega arith; calm = λ l. refl; head = λ l. omega arith; body = λ l. absurd (omega arith) };
}

-- ---- a piece, however state and row are held

module _ {S R : Type 0} (h : Holding S R) (st : S) (row : R) (s : List ℕ) (n p : ℕ) (next : S) (after : R) where
  pub short-piece : h.count row < 19 → n ≡ 11 → p ≡ 19 → next ≡ st → after ≡ row → PieceIs h st row s n p next after
  short-piece k en ep es er = record {
    short = λ l. record { number = en; place = ep; state = es; records = er };
    shut = λ l z. absurd (omega arith);
    taken = λ l z c. absurd (omega arith);
    other = λ l z c. absurd (omega arith);
  }

  module _ (l : 19 ≤ h.count row) where
    pub shut-piece : (h.judge st).shut ≡ true → n ≡ 15 → p ≡ 0 → next ≡ st → after ≡ row → PieceIs h st row s n p next after
    shut-piece o en ep es er = record {
      short = λ k. absurd (omega arith);
      shut = λ k z. record { number = en; place = ep; state = es; records = er };
      taken = λ k z c. none (sym z ∙ o);
      other = λ k z c. none (sym z ∙ o);
    }

    module _ (o : (h.judge st).shut ≡ false) where
      pub other-piece : (CanRun (h.judge st) (h.count row) (h.at row) → ⊥) → n ≡ 15 → p ≡ 0 → next ≡ st → after ≡ row → PieceIs h st row s n p next after
      other-piece f en ep es er = record {
        short = λ k. absurd (omega arith);
        shut = λ k z. none (sym o ∙ z);
        taken = λ k z c. absurd (f c);
        other = λ k z c. record { number = en; place = ep; state = es; records = er };
      }

      pub taken-piece : CanRun (h.judge st) (h.count row) (h.at row) → n ≡ 0 → p ≡ 0 → RunIs (h.judge st) (h.at row) s (h.judge next) (h.count after) (h.at after) → PieceIs h st row s n p next after
      taken-piece f en ep t = record { short = λ k. absurd (omega arith); shut = λ k z. none (sym o ∙ z); taken = λ k z c. (en, ep, t); other = λ k z c. absurd (c f) }

-- ---- over words

refuses : {P : Type 0} (b : Bool) → Tests b P → b ≡ false → P → ⊥
refuses b t e p = none (sym e ∙ t.all p)

module _ (j : Judge) (row s : List ℕ) (n p : ℕ) (x : Judge) (after : List ℕ) where
  pub piece-short : length row < 209 → n ≡ 11 → p ≡ 19 → x ≡ j → after ≡ row → PieceIs words j row s n p x after
  piece-short h = short-piece words j row s n p x after (omega arith)

  module _ (l : 209 ≤ length row) where
    pub piece-shut : j.shut ≡ true → n ≡ 15 → p ≡ 0 → x ≡ j → after ≡ row → PieceIs words j row s n p x after
    piece-shut = shut-piece words j row s n p x after (omega arith)

    module _ (o : j.shut ≡ false) (b : Bool) (tb : Tests b (CanRun j (length row / 11) (open_at row))) where
      pub piece-other : b ≡ false → n ≡ 15 → p ≡ 0 → x ≡ j → after ≡ row → PieceIs words j row s n p x after
      piece-other e = other-piece words j row s n p x after (omega arith) o (refuses b tb e)

      pub piece-taken : b ≡ true → n ≡ 0 → p ≡ 0 → RunIs j (open_at row) s x (length after / 11) (open_at after) → PieceIs words j row s n p x after
      piece-taken e = taken-piece words j row s n p x after (omega arith) o (tb.yes e)

pub can-run : (j : Judge) (row : List ℕ) (b : Bool) → Tests b (CanRun j (length row / 11) (open_at row)) → b ≡ true → CanRun j (length row / 11) (open_at row)
can-run j row b t e = t.yes e

pub ruleset piece_laws = (can-run, piece-short, piece-shut, piece-other, piece-taken)

-- ---- the close, however state and row are held

module _ {S R : Type 0} (h : Holding S R) (st : S) (row : R) (x : Answer) (next : S) where
  pub short-close : h.count row < 19 → x ≡ word_answer (answer_by (Err (refusal_at 11 19))) → next ≡ st → CloseIs h st row x next
  unfolding as_word if
  short-close k ex es = record { short = λ l. record { answer = ex; state = es }; shut = λ l z. absurd (omega arith); taken = λ l z c. absurd (omega arith); other = λ l z c. absurd (omega arith) }

  module _ (l : 19 ≤ h.count row) where
    pub shut-close : (h.judge st).shut ≡ true → x ≡ word_answer (answer_by (Err (refusal_at 15 0))) → next ≡ st → CloseIs h st row x next
    unfolding as_word if
    shut-close o ex es = record { short = λ k. absurd (omega arith); shut = λ k z. record { answer = ex; state = es }; taken = λ k z c. none (sym z ∙ o); other = λ k z c. none (sym z ∙ o) }

    module _ (o : (h.judge st).shut ≡ false) where
      pub other-close : (CanRun (h.judge st) (h.count row) (h.at row) → ⊥) → x ≡ word_answer (answer_by (Err (refusal_at 15 0))) → next ≡ st → CloseIs h st row x next
      unfolding as_word if
      other-close f ex es = record { short = λ k. absurd (omega arith); shut = λ k z. none (sym o ∙ z); taken = λ k z c. absurd (f c); other = λ k z c. record { answer = ex; state = es } }

      pub taken-close : CanRun (h.judge st) (h.count row) (h.at row) → x ≡ word_answer (answer_by (closing_of (closing (held_of (h.judge st) (h.at row))))) → h.judge next ≡ shutting (h.judge st) → CloseIs h st row x next
      taken-close f ex es = record { short = λ k. absurd (omega arith); shut = λ k z. none (sym o ∙ z); taken = λ k z c. (ex, es); other = λ k z c. absurd (c f) }

-- ---- over words

module _ (j : Judge) (row : List ℕ) (x : Answer) (y : Judge) where
  pub close-short : length row < 209 → x ≡ word_answer (answer_by (Err (refusal_at 11 19))) → y ≡ j → CloseIs words j row x y
  close-short h = short-close words j row x y (omega arith)

  module _ (l : 209 ≤ length row) where
    pub close-shut : j.shut ≡ true → x ≡ word_answer (answer_by (Err (refusal_at 15 0))) → y ≡ j → CloseIs words j row x y
    close-shut = shut-close words j row x y (omega arith)

    module _ (o : j.shut ≡ false) (b : Bool) (tb : Tests b (CanRun j (length row / 11) (open_at row))) where
      pub close_other : b ≡ false → x ≡ word_answer (answer_by (Err (refusal_at 15 0))) → y ≡ j → CloseIs words j row x y
      close_other e = other-close words j row x y (omega arith) o (refuses b tb e)

      pub close-taken : b ≡ true → (v : std.Result Totals Refusal) → Closes j v → x ≡ word_answer (answer_by v) → y ≡ shutting j → CloseIs words j row x y
      close-taken e v w ex = taken-close words j row x y (omega arith) o (tb.yes e) (ex ∙ ap (λ (c : std.Result Totals Refusal). word_answer (answer_by c)) (w.is (tb.yes e).calm (open_at row)))

pub calm_run : (j : Judge) (row : List ℕ) (b : Bool) → Tests b (CanRun j (length row / 11) (open_at row)) → b ≡ true → pends j.now ≡ false
calm_run j row b t e = (t.yes e).calm

pub ruleset close_laws = (calm_run, close-short, close-shut, close_other, close-taken)
