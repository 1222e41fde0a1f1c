-- The laws of a row's weight, in the words of the code.
use mathlib.Core.Path.{◌≡◌, refl, sym, subst, ◌∙◌}
use Prim.Native.Nat.{ℕ, ◌+◌, ◌<◌, ◌≤◌}
use native.Mathlib.Omega.{arith}
use mathlib.Core.Bool.{Bool, true, false, false≢true, true≢false}
use lib.Dec.{ltb}
use borrow.Author.Tests.{ltb-true, ltb-false, ne_eqb}
use Rattle.wire.specs.Test.{if}
use Rattle.b3d_pieces_spec.specs.declared.Open.{Open}
use Rattle.b3d_pieces_spec.specs.Good.{extra}
use Rattle.b3d_pieces_judge_step.specs.declared.Judge.{Judge}
use Rattle.b3d_pieces_judge_step.specs.Runs.{CanRun}
use Rattle.b3d_pieces_valid_record.specs.Tests.{Weighs, OpenFits}
use Rattle.b3d_pieces_valid_state.specs.Entry.{RowFits, StateTests}
use Rattle.b3d_pieces_valid_state.proofs.RowTestLaws.{Loaded, loaded_none, loaded_over, loaded_next, loaded_all}
use Rattle.b3d_pieces_state.specs.declared.OpenRecord.{OpenRecord}
use Rattle.b3d_pieces_state.specs.declared.PieceState.{PieceState}
use Rattle.b3d_pieces_state.specs.Records.{open_in}
use Rattle.b3d_pieces_state.specs.States.{judge_in}
use Rattle.b3d_pieces_records_tests.specs.declared.RowWeight.{RowWeight}
use Rattle.b3d_pieces_records_tests.specs.Weights.{resting, Weighed, FirstWeighs, WeighReady, WeighIs, NumberIs, place_of}

pub state-depth : (s : PieceState) → (judge_in s).depth ≡ s.depth
unfolding judge_in
state-depth s = refl

-- ---- the first weight

module _ (rs : ℕ → Open) (d n : ℕ) where
  rests : (19 ≤ n → d ≤ 18 → ⊥) → Weighed rs d n (resting d n)
  rests z = record {
    depth = refl;
    records = refl;
    most = omega arith;
    room = λ g. absurd (false≢true g);
    some = λ g. absurd (false≢true g);
    low = λ g. absurd (false≢true g);
    deep = λ g. absurd (false≢true g);
    sum = λ g. absurd (false≢true g);
    few = λ g. absurd (false≢true g);
    all = λ g l m. absurd (z l m);
  }

  begins : 19 ≤ n → d ≤ 18 → Weighed rs d n (record { go = ltb 0 d; get = 0; depth = d; records = n; load = 0 })
  begins l m = record {
    depth = refl;
    records = refl;
    most = omega arith;
    room = λ g. l;
    some = λ g. ltb-true 0 d g;
    low = λ g. m;
    deep = λ g. tt;
    sum = λ g. refl;
    few = λ g. omega arith;
    all = λ g k q. loaded_all rs d 0 0 (loaded_none rs d) (ltb-false 0 d g) 0 refl;
  }

module _ (s : PieceState) (n : ℕ) (r : RowWeight) where
  says : (w : RowWeight) → r ≡ w → ((rs : ℕ → Open) → Weighed rs s.depth n w) → FirstWeighs s n r
  says w q is = record { is = λ rs. subst (λ (x : RowWeight). Weighed rs (judge_in s).depth n x) (sym q) (subst (λ (d : ℕ). Weighed rs d n w) (sym (state-depth s)) (is rs)) }

  pub first_short : n < 19 → r ≡ resting s.depth n → FirstWeighs s n r
  first_short h q = says (resting s.depth n) q (λ rs. rests rs s.depth n (λ l m. omega arith))

  pub first-deep : 18 < s.depth → r ≡ resting s.depth n → FirstWeighs s n r
  first-deep h q = says (resting s.depth n) q (λ rs. rests rs s.depth n (λ l m. omega arith))

  pub first_some : 19 ≤ n → s.depth ≤ 18 → r ≡ record { go = ltb 0 s.depth; get = 0; depth = s.depth; records = n; load = 0 } → FirstWeighs s n r
  first_some l m q = says (record { go = ltb 0 s.depth; get = 0; depth = s.depth; records = n; load = 0 }) q (λ rs. begins rs s.depth n l m)

pub ruleset first_laws = (first_short, first-deep, first_some)

-- ---- another record

pub weigh_sum : (w : RowWeight) → WeighReady w → (P : Type 0) (n v : ℕ) → Weighs P n v → w.load + v ≤ 33554435
weigh_sum w h P n v k = let a = h.few in let m = k.most in omega arith

pub weigh_get : (w : RowWeight) → WeighReady w → w.get ≤ 17
weigh_get w h = h.get

module _ (w : RowWeight) (rec : OpenRecord) (f : Open) (ef : f ≡ open_in rec) (v : ℕ) (wv : Weighs (OpenFits f w.get) (f.count + extra f.tag) v) (r : RowWeight) where
  module _ (rs : ℕ → Open) (d n : ℕ) (h : Weighed rs d n w) (g : w.go ≡ true) (e : open_in rec ≡ rs w.get) where
    loaded : Loaded rs d w.load w.get
    loaded = record { up_to = (let s = h.some g in omega arith); deep = h.deep g; load = h.sum g; few = h.few g }

    over : 16777217 < w.load + v → Weighed rs d n (record { go = false; get = w.get; depth = w.depth; records = w.records; load = 16777218 })
    over o = record {
      depth = h.depth;
      records = h.records;
      most = omega arith;
      room = λ z. absurd (false≢true z);
      some = λ z. absurd (false≢true z);
      low = λ z. absurd (false≢true z);
      deep = λ z. absurd (false≢true z);
      sum = λ z. absurd (false≢true z);
      few = λ z. absurd (false≢true z);
      all = λ z l m. loaded_over rs d w.load w.get loaded (h.some g) f (ef ∙ e) v wv o 16777218 refl;
    }

    onward : w.load + v ≤ 16777217 → Weighed rs d n (record { go = ltb (w.get + 1) w.depth; get = w.get + 1; depth = w.depth; records = w.records; load = w.load + v })
    onward l =
        let k = loaded_next rs d w.load w.get loaded (h.some g) f (ef ∙ e) v wv l in
        let q = h.depth in
        record {
          depth = h.depth;
          records = h.records;
          most = omega arith;
          room = λ z. h.room g;
          some = λ z. (let m = ltb-true (w.get + 1) w.depth z in omega arith);
          low = λ z. h.low g;
          deep = λ z. k.deep;
          sum = λ z. k.load;
          few = λ z. l;
          all = λ z a b. (let m = ltb-false (w.get + 1) w.depth z in loaded_all rs d (w.load + v) (w.get + 1) k (omega arith) (w.load + v) refl);
        }

  pub weigh_over : 16777217 < w.load + v → r ≡ record { go = false; get = w.get; depth = w.depth; records = w.records; load = 16777218 } → WeighIs w rec r
  weigh_over o q = rw q (record { is = λ rs d n h g e. over rs d n h g e o; next = λ z. absurd (false≢true z) })

  pub weigh_on : w.load + v ≤ 16777217 → r ≡ record { go = ltb (w.get + 1) w.depth; get = w.get + 1; depth = w.depth; records = w.records; load = w.load + v } → WeighIs w rec r
  weigh_on l q = rw q (record { is = λ rs d n h g e. onward rs d n h g e l; next = λ z. refl })

pub ruleset weigh_laws = (weigh_sum, weigh_get, weigh_over, weigh_on)

-- ---- the number that a call begins with

module _ (w : RowWeight) (j : Judge) (r : ℕ) where
  pub number_short : w.records < 19 → r ≡ 11 → NumberIs w j r
  number_short h q = record {
    is = λ n rs k g. (let e = k.records in record {
      short = λ l. q;
      shut = λ l. absurd (omega arith);
      fine = λ l. absurd (omega arith);
      unfit = λ l. absurd (omega arith);
      number = λ l. absurd (omega arith);
    });
  }

  module _ (l : 19 ≤ w.records) where
    pub number-shut : j.shut ≡ true → r ≡ 15 → NumberIs w j r
    number-shut o q = record {
      is = λ n rs k g. (let e = k.records in record {
        short = λ h. absurd (omega arith);
        shut = λ h z. q;
        fine = λ h z. absurd (true≢false (sym o ∙ z));
        unfit = λ h z. absurd (true≢false (sym o ∙ z));
        number = λ h z. absurd (true≢false (sym o ∙ z));
      });
    }

    module _ (o : j.shut ≡ false) where
      unfit-is : r ≡ 15 → ((n : ℕ) (rs : ℕ → Open) → Weighed rs j.depth n w → w.go ≡ false → CanRun j n rs → ⊥) → NumberIs w j r
      unfit-is q not = record {
        is = λ n rs k g. (let e = k.records in record {
          short = λ h. absurd (omega arith);
          shut = λ h z. absurd (false≢true (sym o ∙ z));
          fine = λ h z y. absurd (omega arith);
          unfit = λ h z y. not n rs k g;
          number = λ h z y. q;
        });
      }

      pub number-deep : 18 < j.depth → r ≡ 15 → NumberIs w j r
      number-deep d q = unfit-is q (λ n rs k g c. let m = c.good.depth in omega arith)

      module _ (m : j.depth ≤ 18) (b : Bool) (tb : StateTests j w.load b) where
        fits : (n : ℕ) (rs : ℕ → Open) → Weighed rs j.depth n w → w.go ≡ false → RowFits rs j.depth w.load
        fits n rs k g = k.all g (let e = k.records in omega arith) m

        pub number-unfit : b ≡ false → r ≡ 15 → NumberIs w j r
        number-unfit e q = unfit-is q (λ n rs k g c. false≢true (sym e ∙ (tb.is n rs (let z = k.records in omega arith) (fits n rs k g)).all c))

        pub number-fine : b ≡ true → r ≡ 0 → NumberIs w j r
        number-fine e q = record {
          is = λ n rs k g. (let a = k.records in record {
            short = λ h. absurd (omega arith);
            shut = λ h z. absurd (false≢true (sym o ∙ z));
            fine = λ h z y. (tb.is n rs h (fits n rs k g)).yes e;
            unfit = λ h z y. absurd (y q);
            number = λ h z y. absurd (y q);
          });
        }

pub ruleset number_laws = (number_short, number-shut, number-deep, number-unfit, number-fine)

module _ (n r : ℕ) where
  pub place_short : n ≡ 11 → r ≡ 19 → r ≡ place_of n
  unfolding place_of if
  place_short e q = q ∙ rw e

  pub place_other : (n ≡ 11 → ⊥) → r ≡ 0 → r ≡ place_of n
  unfolding place_of if
  place_other f q = q ∙ simp (ne_eqb n 11 f)

pub ruleset place_laws = (place_short, place_other)
