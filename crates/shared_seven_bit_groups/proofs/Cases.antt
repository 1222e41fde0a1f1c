-- Worked numbers, proved by computing: how they are written, what bytes give.
use mathlib.Core.Path.{◌≡◌, refl}
use Prim.Native.Nat.{ℕ}
use mathlib.Core.List.{List, [], ◌∷◌, map}
use Rattle.wire.specs.Test.{if}
use Rattle.layout.specs.Result.{Result, accept, reject, check}
use Rattle.layout.specs.Parts.{Step}
use Rattle.shared_seven_bit_groups.specs.Groups.{front_in, front, groups, groups_of, goes_on, last, read_in, read_number}

-- a number and its bytes
pub record Form : Type 0 where
  pub number : ℕ
  pub bytes : List ℕ

abbrev pub forms : List Form
forms =
    record { number = 0; bytes = 0x00 ∷ [] }
    ∷ record { number = 127; bytes = 0x7F ∷ [] }
    ∷ record { number = 128; bytes = 0x81 ∷ 0x00 ∷ [] }
    ∷ record { number = 300; bytes = 0x82 ∷ 0x2C ∷ [] }
    ∷ record { number = 16383; bytes = 0xFF ∷ 0x7F ∷ [] }
    ∷ record { number = 16384; bytes = 0x81 ∷ 0x80 ∷ 0x00 ∷ [] }
    ∷ record { number = 2097151; bytes = 0xFF ∷ 0xFF ∷ 0x7F ∷ [] }
    ∷ record { number = 4294967295; bytes = 0x8F ∷ 0xFF ∷ 0xFF ∷ 0xFF ∷ 0x7F ∷ [] }
    ∷ []

pub forms_hold : map (λ c. groups c.number []) forms ≡ map (λ c. c.bytes) forms
unfolding groups front front_in
forms_hold = refl

-- bytes from place 7 on, the most that the number may be, and what they give
pub record Case : Type 0 where
  pub most : ℕ
  pub from : List ℕ
  pub gives : Result (Step ℕ)

-- a number up to the place after it, and what is left
abbrev pub is : ℕ → ℕ → List ℕ → Result (Step ℕ)
is n p r = accept (record { value = n; place = p; left = r })

abbrev pub cases : List Case
cases =
    -- a number, with bytes after it
    record { most = 16383; from = 0x81 ∷ 0x00 ∷ 0x05 ∷ []; gives = is 128 9 (0x05 ∷ []) }
    -- cut: at the end of the bytes
    ∷ record { most = 16383; from = []; gives = reject 13 7 }
    ∷ record { most = 16383; from = 0x81 ∷ []; gives = reject 13 8 }
    -- an empty first group is wrong at once: a longer form
    ∷ record { most = 16383; from = 0x80 ∷ []; gives = reject 13 7 }
    ∷ record { most = 16383; from = 0x80 ∷ 0x05 ∷ []; gives = reject 13 7 }
    -- a top bit where no further group is allowed is wrong at once
    ∷ record { most = 16383; from = 0x81 ∷ 0x80 ∷ []; gives = reject 13 7 }
    ∷ record { most = 2097151; from = 0x81 ∷ 0x80 ∷ []; gives = reject 13 9 }
    ∷ record { most = 99; from = 0x81 ∷ []; gives = reject 13 7 }
    -- a group out of range
    ∷ record { most = 99; from = 0x63 ∷ []; gives = is 99 8 [] }
    ∷ record { most = 99; from = 0x64 ∷ []; gives = reject 13 7 }
    -- first groups that no last group can bring into range are wrong at once
    ∷ record { most = 300; from = 0x82 ∷ []; gives = reject 13 8 }
    ∷ record { most = 300; from = 0x82 ∷ 0x2C ∷ []; gives = is 300 9 [] }
    ∷ record { most = 300; from = 0x82 ∷ 0x2D ∷ []; gives = reject 13 7 }
    ∷ record { most = 300; from = 0x83 ∷ []; gives = reject 13 7 }
    -- numbers of four bytes
    ∷ record { most = 4294967295; from = 0x8F ∷ 0xFF ∷ 0xFF ∷ 0xFF ∷ 0x7F ∷ []; gives = is 4294967295 12 [] }
    ∷ record { most = 4294967295; from = 0x90 ∷ 0x80 ∷ 0x80 ∷ 0x80 ∷ []; gives = reject 13 7 }
    ∷ []

pub cases_hold : map (λ c. read_number c.most 7 c.from) cases ≡ map (λ c. c.gives) cases
unfolding read_number read_in last goes_on groups_of groups front front_in if check
cases_hold = refl
