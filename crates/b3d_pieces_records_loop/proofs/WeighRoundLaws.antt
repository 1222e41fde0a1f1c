-- The loop that weighs the records in use of a row: what holds at first, after each of them, and at the end.
use mathlib.Core.Path.{◌≡◌, refl}
use Prim.Native.Nat.{ℕ, ◌+◌, ◌-◌, ◌<◌, ◌≤◌}
use native.Mathlib.Omega.{arith}
use mathlib.Core.Bool.{Bool, true, false}
use mathlib.Core.List.{List}
use lib.ListN.{length, get_or}
use lib.Dec.{ltb}
use borrow.Author.Tests.{ltb-true, ltb-false}
use Rattle.wire.specs.Test.{if}
use Rattle.b3d_pieces_judge_step.specs.declared.Judge.{Judge}
use Rattle.b3d_pieces_judge_step.specs.Runs.{CanRun}
use Rattle.b3d_pieces_state.specs.declared.OpenRecord.{OpenRecord}
use Rattle.b3d_pieces_state.specs.declared.PieceState.{PieceState}
use Rattle.b3d_pieces_state.specs.States.{judge_in}
use Rattle.b3d_pieces_records_tests.specs.declared.RowWeight.{RowWeight}
use Rattle.b3d_pieces_records_tests.specs.Weights.{Weighed, FirstWeighs, WeighReady, WeighIs, Numbered, NumberIs, place_of}
use Rattle.b3d_pieces_at_once.specs.Onces.{OnceReady}
use Rattle.b3d_pieces_records_loop.specs.Rounds.{blank, opens_in, CloseReady}

-- ---- places

pub place-eleven : place_of 11 ≡ 19
unfolding place_of if
place-eleven = refl

pub place_fifteen : place_of 15 ≡ 0
unfolding place_of if
place_fifteen = refl

pub place-zero : place_of 0 ≡ 0
unfolding place_of if
place-zero = refl

-- ---- the number that falls with each record

abbrev waits : Bool → ℕ → ℕ
waits true n = n + 1
waits false n = 0

unfoldable pub weighs_left : RowWeight → ℕ
weighs_left w = waits w.go (w.depth - w.get)

module _ (s : PieceState) (xs : List OpenRecord) where
  abbrev j : Judge
  j = judge_in s

  abbrev n : ℕ
  n = length xs

  abbrev pub Weighing : RowWeight → Type 0
  Weighing w = Weighed (opens_in xs) (judge_in s).depth (length xs) w

  pub weigh-first : (w : RowWeight) → FirstWeighs s n w → Weighing w
  weigh-first w f = f.is (opens_in xs)

  -- the three cases
  pub by_cases : (P : Type 0) → (n < 19 → P) → (19 ≤ n → j.shut ≡ true → P) → (19 ≤ n → j.shut ≡ false → P) → P
  by_cases P a b c = go (ltb n 19) refl
    where
      open_or : 19 ≤ n → (o : Bool) → j.shut ≡ o → P
      open_or l true e = b l e
      open_or l false e = c l e

      go : (x : Bool) → ltb n 19 ≡ x → P
      go true e = a (ltb-true n 19 e)
      go false e = open_or (ltb-false n 19 e) j.shut refl

  module _ (w : RowWeight) (i : Weighing w) where
    module _ (go : w.go ≡ true) where
      pub weigh_get : w.get ≤ 18
      weigh_get = let a = i.some go in let b = i.low go in omega arith

      pub weigh_room : 19 ≤ length xs
      weigh_room = i.room go

      pub weigh_ready : WeighReady w
      weigh_ready = record { few = i.few go; get = (let a = i.some go in let b = i.low go in omega arith) }

      module _ (r : RowWeight) (x : WeighIs w (get_or xs w.get blank) r) where
        pub weigh-next : Weighing r
        weigh-next = x.is (opens_in xs) j.depth n i go refl

        pub weigh_less : weighs_left r < weighs_left w
        unfolding weighs_left
        weigh_less = rw go (falls r.go (λ z. x.next z) (i.some go))
          where
            falls : (q : Bool) → (q ≡ true → r.get ≡ w.get + 1) → w.get < j.depth → waits q (r.depth - r.get) < waits true (w.depth - w.get)
            falls true u k = let g = u refl in let a = weigh-next.depth in let b = i.depth in omega arith
            falls false u k = omega arith

    module _ (over : w.go ≡ false) where
      pub once_ready : OnceReady w s
      once_ready = record { records = n; row = opens_in xs; weighed = i; over = over }

      pub close_ready : CloseReady w
      close_ready = record { most = i.most }

      module _ (m : ℕ) (k : NumberIs w j m) where
        pub numbered : Numbered j n (opens_in xs) m
        numbered = k.is n (opens_in xs) i over

        pub fine_open : m ≡ 0 → j.shut ≡ false
        fine_open z = by_cases (j.shut ≡ false) (λ l. absurd (let x = numbered.short l in omega arith)) (λ l o. absurd (let x = numbered.shut l o in omega arith)) (λ l o. o)

        pub fine_runs : m ≡ 0 → CanRun j n (opens_in xs)
        fine_runs z = by_cases (CanRun j n (opens_in xs)) (λ l. absurd (let x = numbered.short l in omega arith)) (λ l o. absurd (let x = numbered.shut l o in omega arith)) (λ l o. numbered.fine l o z)
