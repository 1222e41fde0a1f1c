-- A law for each way through `write_slip`.
use mathlib.Core.Path.{◌≡◌, refl, ap, sym, ◌∙◌}
use Prim.Native.Nat.{ℕ, ◌<◌, ◌≤◌}
use native.Mathlib.Omega.{arith}
use mathlib.Core.List.{List, []}
use lib.ListN.{length}
use borrow.Author.Tests.{le-leb, lt-leb}
use Rattle.wire.specs.Bytes.{over}
use Rattle.layout.specs.Result.{Result, accept, reject, check}
use Rattle.shared_seven_bit_groups.specs.Groups.{write_numbers}
use Rattle.b3d_spec.specs.Answers.{room_for, written, output_after}
use Rattle.b3d_spec.specs.declared.Written.{Written}
use Rattle.b3d_spec.proofs.AnswerLaws.{of_size}
use Rattle.slip.specs.Slips.{limits, first_over, write_slip, write_slip_answer, write_slip_output, slip_within, write_within}

module _ (ns out : List ℕ) where
  answered : (o : Result (List ℕ)) → write_slip ns (length out) ≡ o → (w : Written) → w ≡ written o → w ≡ write_slip_answer ns out
  unfolding write_slip_answer
  answered o e w h = h ∙ ap written (sym e)

  left_so : (o : Result (List ℕ)) → write_slip ns (length out) ≡ o → (ys : List ℕ) → ys ≡ output_after o out → ys ≡ write_slip_output ns out
  unfolding write_slip_output
  left_so o e ys h = h ∙ ap (λ (x : Result (List ℕ)). output_after x out) (sym e)

  module _ (k : ℕ) (e : k ≡ first_over limits ns) where
    -- a number is out of its range
    module _ (h : k < 12) where
      bad-number : write_slip ns (length out) ≡ reject 13 k
      unfolding write_within slip_within check
      bad-number = rw (← e, lt-leb 12 k h)

      pub slip-over : record { number = 13; place = k; size = 0 } ≡ write_slip_answer ns out
      unfolding written
      slip-over = answered (reject 13 k) bad-number (record { number = 13; place = k; size = 0 }) refl

      pub slip-over-kept : out ≡ write_slip_output ns out
      unfolding output_after
      slip-over-kept = left_so (reject 13 k) bad-number out refl

    -- none is
    module _ (h : 12 ≤ k) (size : ℕ) (l : size ≡ length (write_numbers ns [])) where
      room-for : write_slip ns (length out) ≡ room_for (length out) (write_numbers ns [])
      unfolding write_within slip_within check
      room-for = rw (← e, le-leb 12 k h)

      -- the output is too short
      module _ (i : length out < size) where
        too_short : write_slip ns (length out) ≡ reject 11 size
        unfolding room_for check
        too_short = room-for ∙ rw (← l, lt-leb size (length out) i)

        pub slip-short : record { number = 11; place = size; size = 0 } ≡ write_slip_answer ns out
        unfolding written
        slip-short = answered (reject 11 size) too_short (record { number = 11; place = size; size = 0 }) refl

        pub slip-kept : out ≡ write_slip_output ns out
        unfolding output_after
        slip-kept = left_so (reject 11 size) too_short out refl

      -- it is long enough
      module _ (i : size ≤ length out) where
        fits : write_slip ns (length out) ≡ accept (write_numbers ns [])
        unfolding room_for check
        fits = room-for ∙ rw (← l, le-leb size (length out) i)

        pub slip-room : length (write_numbers ns []) ≤ length out
        slip-room = omega (arith, l)

        pub slip-written : record { number = 0; place = 0; size = size } ≡ write_slip_answer ns out
        unfolding written
        slip-written = answered (accept (write_numbers ns [])) fits (record { number = 0; place = 0; size = size }) (of_size size (length (write_numbers ns [])) l)

        pub slip-output : (ys : List ℕ) → ys ≡ over (write_numbers ns []) out → ys ≡ write_slip_output ns out
        unfolding output_after
        slip-output ys f = left_so (accept (write_numbers ns [])) fits ys f

pub ruleset write_laws = (slip-over, slip-over-kept, slip-short, slip-kept, slip-room, slip-written, slip-output)
