-- The slips of worked files, proved by computing: what is answered, and what an output of so many bytes 9 holds afterwards.
use mathlib.Core.Path.{◌≡◌, refl}
use Prim.Native.Nat.{ℕ}
use mathlib.Core.List.{List, [], ◌∷◌, ◌++◌, map}
use Rattle.shared_seven_bit_groups.specs.Groups.{front_in, front, groups, write_numbers}
use Rattle.b3d_spec.specs.declared.Written.{Written}
use Rattle.b3d_spec.proofs.Computing.{computing}
use Rattle.b3d_spec.proofs.Cases.{P, H, T}
use Rattle.slip.specs.Slips.{first_over, limits_within, slip_within, write_within}
use Rattle.slip.proofs.Cases.{nines, zeros, wrote, refused}
use Rattle.slip_of_b3d.specs.FileSlips.{file_slip, file_slip_answer, file_slip_output}

pub record Case : Type 0 where
  pub file : List ℕ
  pub room : ℕ
  pub answer : Written
  pub leaves : List ℕ

abbrev pub cases : List Case
cases =
    record { file = P 1; room = 12; answer = wrote 12; leaves = 1 ∷ zeros 11 }
    -- one node
    ∷ record { file = H; room = 14; answer = wrote 12; leaves = 1 ∷ zeros 3 ++ 1 ∷ zeros 7 ++ nines 2 }
    ∷ record { file = H; room = 11; answer = refused 11 12; leaves = nines 11 }
    -- one node, one mesh, three vertices, one triangle set, one triangle
    ∷ record { file = T; room = 12; answer = wrote 12; leaves = 1 ∷ zeros 3 ++ 1 ∷ 1 ∷ 3 ∷ 1 ∷ 1 ∷ zeros 3 }
    -- a refused file, also where the output is too short
    ∷ record { file = P 100; room = 12; answer = refused 6 8; leaves = nines 12 }
    ∷ record { file = []; room = 0; answer = refused 1 0; leaves = [] }
    ∷ []

pub cases_hold : map {B = Written × List ℕ} (λ c. (file_slip_answer c.file (nines c.room), file_slip_output c.file (nines c.room))) cases
    ≡ map {B = Written × List ℕ} (λ c. (c.answer, c.leaves)) cases
unfolding computing front_in front groups write_numbers limits_within first_over slip_within write_within file_slip file_slip_answer file_slip_output
cases_hold = refl
