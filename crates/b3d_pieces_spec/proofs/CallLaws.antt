-- The theorem in the words of E6: however a file is cut into calls, and whatever calls are refused for want of records, the close answers what the
-- reader, lent ample tables, says of the bytes that were taken; which calls are refused; and that 19 records are enough.
use mathlib.Core.Path.{◌≡◌, refl, ap, sym, ◌∙◌}
use Prim.Native.Nat.{ℕ, ◌*◌, ◌<◌, ◌≤◌}
use native.Mathlib.Omega.{arith}
use native.Mathlib.Nat.{mul-le-mul_left}
use mathlib.Core.Bool.{Bool, true, false, not}
use mathlib.Core.List.{List, [], ◌∷◌, ◌++◌}
use lib.ListN.{length}
use lib.Dec.{T, leb, leb→le, le→leb, not_T}
use Rattle.wire.specs.Test.{if}
use Rattle.layout.specs.Lists.{All}
use Rattle.layout.specs.Result.{Result, accept, reject, check, ◌>>=◌}
use Rattle.layout.proofs.ResultLaws.{check-yes, if_yes, check-no}
use Rattle.b3d_spec.specs.declared.Mode.TheVariants.{Strict}
use Rattle.b3d_spec.specs.Rules.{row_limit}
use Rattle.b3d_spec.specs.Scene.{Scene}
use Rattle.b3d_spec.specs.Tables.{width, rows, tables}
use Rattle.b3d_spec.specs.Answers.{judge, answer, read_answer}
use Rattle.b3d_spec.proofs.AnswerLaws.{judge_got, judge-first, read-yes}
use Rattle.b3d_pieces_spec.specs.Machine.{State, live, fault, over}
use Rattle.b3d_pieces_spec.specs.Close.{Whole, heading, inside, Held, fresh_held, piece, closing, close, answer_of}
use Rattle.b3d_pieces_spec.specs.Calls.{records, Pieces, fresh_pieces, allowed, on_call, after_piece, after_close, piece_answer, close_answer, calls, taken}
use Rattle.b3d_pieces_spec.specs.Good.{Good, GoodWhole}
use Rattle.b3d_pieces_spec.specs.InPieces.{Ample, joined, opens, depth, Refuses, InPieces}
use Rattle.b3d_pieces_spec.proofs.DepthLaws.{good-depth, fresh-good, piece-good}
use Rattle.b3d_pieces_spec.proofs.WholeFileLaws.{piece-append, whole}

-- open, and holding h
abbrev holding : Held → Pieces
holding h = record { held = h; shut = false }

one-call : (b : Bool) (h : Held) (s : List ℕ) → on_call (check b 11 records >>= λ _. check true 15 0) (holding h) (holding (piece h s)) ≡ holding (if b (piece h s) h)
unfolding on_call check if
one-call true h s = refl
one-call false h s = refl

cut : (b : Bool) (h : Held) (s r : List ℕ) → piece (if b (piece h s) h) r ≡ piece h (if b (s ++ r) r)
unfolding if
cut true h s r = sym (piece-append h s r)
cut false h s r = refl

calls_hold : (l : List (ℕ × List ℕ)) (h : Held) → calls (holding h) l ≡ holding (piece h (taken l))
unfolding after_piece allowed
calls_hold [] h = refl
calls_hold (c ∷ l) h =
    ap (λ (p : Pieces). calls p l) (one-call (leb records c.0) h c.1)
    ∙ calls_hold l (if (leb records c.0) (piece h c.1) h)
    ∙ ap holding (cut (leb records c.0) h c.1 (taken l))

close_open : (b : Bool) (h : Held) → T b → answer_of ((check b 11 records >>= λ _. check true 15 0) >>= λ x. closing h) ≡ close h
unfolding check close
close_open true h t = refl
close_open false h t = absurd t

pub in_calls : (lent : ℕ) → records ≤ lent → (l : List (ℕ × List ℕ)) → close_answer lent (calls fresh_pieces l) ≡ answer (judge Strict (taken l))
unfolding close_answer allowed
in_calls lent k l =
    ap (λ (p : Pieces). close_answer lent p) (calls_hold l fresh_held)
    ∙ close_open (leb records lent) (piece fresh_held (taken l)) (le→leb records lent k)
    ∙ whole (taken l)

-- ---- the reader, lent ample tables

ample_roomy : (room : ℕ → ℕ) → Ample room → (t : Scene) (ks : List ℕ) → All (λ k. length (rows k t) ≤ row_limit) ks → All (λ k. width k * length (rows k t) ≤ room k) ks
ample_roomy room a t [] h = tt
ample_roomy room a t (k ∷ ks) h = (let m = mul-le-mul_left (width k) h.0 in omega (arith, m, a k), ample_roomy room a t ks h.1)

by_out : {A : Type 0} {P : Type 0} (o : Result A) → ((a : A) → o ≡ accept a → P) → ((n p : ℕ) → o ≡ reject n p → P) → P
by_out (accept a) f g = f a refl
by_out (reject n p) f g = g n p refl

pub ample_reads : (room : ℕ → ℕ) → Ample room → (s : List ℕ) → read_answer Strict room s ≡ answer (judge Strict s)
unfolding read_answer
ample_reads room a s =
    ap answer (by_out (judge Strict s)
    (λ t e. read-yes Strict room s t e (ample_roomy room a t tables (judge_got Strict s t e).1) ∙ sym e)
    (λ n p e. judge-first Strict s n p e room ∙ sym e))

-- ---- refusals

refuses : (o : Result (Unit {0})) (n k : ℕ) → o ≡ reject n k → (lent : ℕ) (p : Pieces) → allowed lent p ≡ o → Refuses lent p n k
unfolding piece_answer close_answer after_piece after_close on_call
refuses o n k e lent p h =
    let z = h ∙ e in
    record { piece_says = z; close_says = rw z; piece_leaves = λ s. rw z; close_leaves = rw z }

few-refused : (p : Pieces) (lent : ℕ) → lent < records → Refuses lent p 11 19
unfolding allowed
few-refused p lent h = refuses _ 11 19 (rw (check-no (leb records lent) 11 records (not_T (leb records lent) (λ t. let q = leb→le records lent t in absurd (omega arith))))) lent p refl

late-shut : (p : Pieces) (b : Bool) → T b → (check b 11 records >>= λ _. check (not (on_call (check b 11 records >>= λ _. check (not p.shut) 15 0) p (record { held = p.held; shut = true })).shut) 15 0) ≡ reject 15 0
unfolding check on_call
late-shut p b t = go b t p.shut refl
  where
    go : (c : Bool) → T c → (q : Bool) → p.shut ≡ q → (check c 11 records >>= λ _. check (not (on_call (check c 11 records >>= λ _. check (not p.shut) 15 0) p (record { held = p.held; shut = true })).shut) 15 0) ≡ reject 15 0
    go true t true e = rw e
    go true t false e = rw e
    go false t q e = absurd t

late-refused : (p : Pieces) (lent : ℕ) → records ≤ lent → Refuses lent (after_close lent p) 15 0
unfolding allowed after_close
late-refused p lent h = refuses _ 15 0 (late-shut p (leb records lent) (le→leb records lent h)) lent (after_close lent p) refl

-- ---- all bytes

all-taken : (l : List (ℕ × List ℕ)) → All (λ (c : ℕ × List ℕ). records ≤ c.0) l → taken l ≡ joined l
all-taken [] h = refl
all-taken (c ∷ l) h = if_yes (leb records c.0) _ _ (le→leb records c.0 h.0) ∙ ap (λ (r : List ℕ). c.1 ++ r) (all-taken l h.1)

only-taken : (l : List (ℕ × List ℕ)) (lent : ℕ) → records ≤ lent → piece_answer lent (calls fresh_pieces l) ≡ accept tt
unfolding piece_answer allowed
only-taken l lent h = ap (λ (p : Pieces). allowed lent p) (calls_hold l fresh_held) ∙ rw (check-yes (leb records lent) 11 records (le→leb records lent h), check-yes true 15 0 tt)

-- ---- 19 records

state-depth : (n : ℕ) (st : State) → Good n st → opens st ≤ records
state-depth n (live at m g f R) h = let q = good-depth n at m g f R h in omega arith
state-depth n (fault k p) h = omega arith
state-depth n (over g) h = omega arith

whole-depth : (n : ℕ) (w : Whole) → GoodWhole n w → depth w ≤ records
whole-depth n (heading i acc tag) h = omega arith
whole-depth n (inside tag m st) h = state-depth n st h

-- the theorem
pub in_pieces : InPieces
in_pieces =
    record {
      same = λ l lent k room a. in_calls lent k l ∙ sym (ample_reads room a (taken l));
      all = all-taken;
      only = only-taken;
      few = few-refused;
      late = late-refused;
      enough = λ s v. whole-depth (piece fresh_held s).size (piece fresh_held s).whole (piece-good fresh_held s v fresh-good).1;
    }
