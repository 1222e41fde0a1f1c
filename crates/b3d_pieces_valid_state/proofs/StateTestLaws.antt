-- The laws of the test, in the words of the code.
use mathlib.Core.Path.{◌≡◌, refl, sym, subst, ◌∙◌}
use Prim.Native.Nat.{ℕ, zero, suc, ◌+◌, ◌-◌, ◌/◌, ◌<◌, ◌≤◌}
use native.Mathlib.Omega.{arith}
use mathlib.Core.Bool.{Bool, true, false}
use mathlib.Core.List.{List}
use lib.ListN.{length}
use lib.Dec.{leb, ltb}
use borrow.Author.Tests.{le-leb, leb-true, lt-ltb, ltb-true}
use Rattle.b3d_pieces_spec.specs.declared.Totals.{Totals}
use Rattle.b3d_pieces_spec.specs.declared.Open.{Open}
use Rattle.b3d_pieces_spec.specs.declared.Part.{Part}
use Rattle.b3d_pieces_spec.specs.Row.{open_at}
use Rattle.b3d_pieces_spec.specs.Good.{Bound, Off, sum, extra, worth}
use Rattle.b3d_pieces_item_steps.specs.declared.Now.{Now}
use Rattle.b3d_pieces_item_steps.specs.declared.Now.TheVariants.{Live, Push, Pop, Fault, Over}
use Rattle.b3d_pieces_step.specs.Turns.{pends}
use Rattle.b3d_pieces_step.proofs.TurnLaws.{none, stack-length, off_came, came_spare}
use Rattle.b3d_pieces_judge_step.specs.declared.Judge.{Judge}
use Rattle.b3d_pieces_judge_step.specs.Takes.{head_low}
use Rattle.b3d_pieces_judge_step.specs.Runs.{CanRun}
use Rattle.b3d_pieces_valid_record.specs.Tests.{Tests, Weighs, OpenFits, Small}
use Rattle.b3d_pieces_valid_record.proofs.OpenChunkTestLaws.{never}
use Rattle.b3d_pieces_valid_state.specs.Entry.{RowFits, LiveTests, NowTests, StateTests}

module _ (at : ℕ) (m : Part) (g : Totals) (f : Open) (size n w : ℕ) (r : Bool) (l : size ≤ 16777217) (b : Bool) (tb : Tests b (Off m at size)) where
  pub live_mode : b ≡ false → r ≡ false → LiveTests at m g f size n w r
  live_mode e q = record { is = λ rs tw. never r q (λ p. none (sym e ∙ tb.all p.1)) }

  pub live-sum : b ≡ true → (v : ℕ) → Weighs (OpenFits f n) (f.count + extra f.tag) v → (s : ℕ) → Small 167772180 (sum g) s → r ≡ leb (s + (v + w)) at → LiveTests at m g f size n w r
  live-sum e v tv s ts q = record {
    is = λ rs tw.
        let o = tb.yes e in
        let c = off_came m at size o in
        let d = came_spare m at in
        let k = stack-length rs n in
        record {
          yes = λ y.
              let h = leb-true (s + (v + w)) at (sym q ∙ y) in
              let es = ts.yes (omega arith) in
              let ev = tv.yes (omega arith) in
              let ew = tw.yes (omega arith) in
              let xv = ev.1 in
              let xw = ew.1 in
              (((subst (λ (x : ℕ). Bound f.tag f.level x) (sym k) ev.0.0, ev.0.1, ew.0), omega arith), o);
          all = λ p.
              let h = p.0.1 in
              let es = ts.all (omega arith) in
              let ev = tv.all (subst (λ (x : ℕ). Bound f.tag f.level x) k p.0.0.0, p.0.0.1) (omega arith) in
              let ew = tw.all p.0.0.2 (omega arith) in
              q ∙ le-leb (s + (v + w)) at (omega arith);
        };
  }

pub ruleset live_laws = (live_mode, live-sum)

module _ (held : Now) (size n w : ℕ) (r : Bool) where
  pub now-live : (at : ℕ) (m : Part) (g : Totals) (f : Open) → held ≡ Live at m g f → LiveTests at m g f size n w r → NowTests held size n w r
  now-live at m g f e t = rw e (record { is = λ rs l. record { yes = λ y. ((t.is rs l).yes y, refl); all = λ p. (t.is rs l).all p.0 } })

  pub now_push : (at : ℕ) (g : Totals) (f o : Open) → held ≡ Push at g f o → r ≡ false → NowTests held size n w r
  now_push at g f o e q = rw e (record { is = λ rs l. never r q (λ p. none (sym p.1)) })

  pub now_pop : (at : ℕ) (g : Totals) → held ≡ Pop at g → r ≡ false → NowTests held size n w r
  now_pop at g e q = rw e (record { is = λ rs l. never r q (λ p. none (sym p.1)) })

  pub now-fault : (k p : ℕ) → held ≡ Fault k p → r ≡ true → NowTests held size n w r
  now-fault k p e q = rw e (record { is = λ rs l. record { yes = λ y. (tt, refl); all = λ p. q } })

  pub now-over : size ≤ 16777217 → (g : Totals) → held ≡ Over g → (s : ℕ) → Small 167772180 (sum g) s → r ≡ leb s size → NowTests held size n w r
  now-over l g e s t q = rw e (record {
    is = λ rs k. record {
      yes = λ y. let h = leb-true s size (sym q ∙ y) in let z = t.yes (omega arith) in (omega arith, refl);
      all = λ p. let h = p.0 in let z = t.all (omega arith) in q ∙ le-leb s size (omega arith);
    };
  })

pub ruleset now_laws = (now-live, now_push, now_pop, now-fault, now-over)

pub low_first : (size r : ℕ) → size < 4 → r ≡ worth size → r ≡ head_low size
low_first zero r h q = q
low_first (suc zero) r h q = q
low_first (suc (suc zero)) r h q = q
low_first (suc (suc (suc zero))) r h q = q
low_first (suc (suc (suc (suc s)))) r h q = absurd (omega arith)

pub low_second : (size r : ℕ) → size < 8 → 4 ≤ size → r ≡ worth (size - 4) → r ≡ head_low size
low_second zero r l h q = absurd (omega arith)
low_second (suc zero) r l h q = absurd (omega arith)
low_second (suc (suc zero)) r l h q = absurd (omega arith)
low_second (suc (suc (suc zero))) r l h q = absurd (omega arith)
low_second (suc (suc (suc (suc zero)))) r l h q = q
low_second (suc (suc (suc (suc (suc zero))))) r l h q = q
low_second (suc (suc (suc (suc (suc (suc zero)))))) r l h q = q
low_second (suc (suc (suc (suc (suc (suc (suc zero))))))) r l h q = q
low_second (suc (suc (suc (suc (suc (suc (suc (suc s)))))))) r l h q = absurd (omega arith)

pub ruleset low_laws = (low_first, low_second)

module _ (j : Judge) (w : ℕ) (r : Bool) where
  no-state : r ≡ false → ((n : ℕ) (rs : ℕ → Open) → CanRun j n rs → ⊥) → StateTests j w r
  no-state q z = record { is = λ n rs room t. never r q (z n rs) }

  pub fine-size : 16777217 < j.size → r ≡ false → StateTests j w r
  fine-size h q = no-state q (λ n rs c. let x = c.good.size in omega arith)

  module _ (l : j.size ≤ 16777217) where
    pub fine-depth : 18 < j.depth → r ≡ false → StateTests j w r
    fine-depth h q = no-state q (λ n rs c. let x = c.good.depth in omega arith)

    module _ (d : j.depth ≤ 18) where
      module _ (s : j.size < 8) (p : Bool) (ep : p ≡ pends j.now) where
        pub fine-wait : p ≡ true → r ≡ false → StateTests j w r
        fine-wait e q = no-state q (λ n rs c. none (sym c.calm ∙ sym ep ∙ e))

        pub fine-head : p ≡ false → (k : ℕ) → k ≡ head_low j.size → r ≡ ltb j.worth k → StateTests j w r
        fine-head e k ek q = record {
          is = λ n rs room t. record {
            yes = λ y. let h = ltb-true j.worth k (sym q ∙ y) in record {
              room = room;
              calm = sym ep ∙ e;
              good = record { size = l; depth = d; calm = λ z. sym ep ∙ e; head = λ z. rw (sym ek) h; body = λ z. absurd (omega arith) };
            };
            all = λ c. let h = c.good.head s in q ∙ lt-ltb j.worth k (rw ek h);
          };
        }

      pub fine-body : 8 ≤ j.size → NowTests j.now j.size j.depth w r → StateTests j w r
      fine-body s t = record {
        is = λ n rs room f. record {
          yes = λ y. let h = (t.is rs f).yes y in record {
            room = room;
            calm = h.1;
            good = record { size = l; depth = d; calm = λ z. absurd (omega arith); head = λ z. absurd (omega arith); body = λ z. h.0 };
          };
          all = λ c. (t.is rs f).all (c.good.body s, c.calm);
        };
      }

pub ruleset fine_laws = (fine-size, fine-depth, fine-wait, fine-head, fine-body)

-- ---- with a row of words

module _ (j : Judge) (row : List ℕ) (r : Bool) where
  pub row-deep : 18 < j.depth → r ≡ false → Tests r (CanRun j (length row / 11) (open_at row))
  row-deep h q = never r q (λ c. let x = c.good.depth in omega arith)

  pub row-load-most : (w : ℕ) → RowFits (open_at row) j.depth w → w ≤ 16777218
  row-load-most w f = f.most

  pub row-tests : 209 ≤ length row → (w : ℕ) → RowFits (open_at row) j.depth w → StateTests j w r → Tests r (CanRun j (length row / 11) (open_at row))
  row-tests h w f t = t.is (length row / 11) (open_at row) (omega arith) f

pub ruleset row-state_laws = (row-deep, row-load-most, row-tests)
