-- What a number of a file must be, and which refusal it gets otherwise.
use Rattle.std.specs.Prelude.{ℕ, Bool, true, ◌||◌, leb, ltb, eqb}
use Rattle.layout.specs.Refusals as refusals

-- -1 by its bits: what 01 calls NONE
abbrev pub NONE : ℕ
NONE = 0xFFFFFFFF

-- the rule of one number; a negative number is, by its bits, above every bound here
pub data Rule : Type 0 where
  -- anything: a float, or a number that is not looked at
  any : Rule
  -- 0 to this bound
  up_to : ℕ → Rule
  -- this number and no other
  exactly : ℕ → Rule
  -- an id that names one of this number of things, from 0 on
  names : ℕ → Rule
  -- an id that names one of this number of things, or -1
  names_or_none : ℕ → Rule
  -- a float from 0 to 1, by its bits; minus zero is one (E8)
  unit : Rule

-- word w keeps the rule
abbrev pub holds : Rule → ℕ → Bool
holds any w = true
holds (up_to m) w = leb w m
holds (exactly m) w = eqb w m
holds (names n) w = ltb w n
holds (names_or_none n) w = eqb w NONE || ltb w n
holds unit w = leb w 0x3F800000 || eqb w 0x80000000

-- the refusal of a number that breaks the rule: 6 for a range, 7 for an id
abbrev pub refusal : Rule → ℕ
refusal any = refusals.range
refusal (up_to m) = refusals.range
refusal (exactly m) = refusals.range
refusal (names n) = refusals.no_such_id
refusal (names_or_none n) = refusals.no_such_id
refusal unit = refusals.range

-- a count or a length: any number that is not negative
abbrev pub count : Rule
count = up_to 2147483647
