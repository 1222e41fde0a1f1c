-- A name in the file or the fallback, for each outcome of the tests that the code makes.
use Prim.Native.Nat.{ℕ, ◌+◌, ◌-◌, ◌<◌, ◌≤◌}
use native.Mathlib.Nat.{add-sub_cancel_left}
use native.Mathlib.Omega.{arith}
use mathlib.Core.Path.{◌≡◌}
use mathlib.Core.List.{List}
use lib.ListN.{length, take, drop}
use borrow.Author.Tests.{lt-ltb, le-ltb, le-leb, lt-leb}
use Rattle.wire.specs.Test.{if}
use Rattle.b3d_list_name.specs.Name.{name_or}

module _ (s fallback : List ℕ) (place size : ℕ) where
  pub name-empty : size ≤ 0 → fallback ≡ name_or s fallback place size
  unfolding name_or if
  name-empty h = rw (le-ltb 0 size h)

  module _ (h : 0 < size) where
    pub name-found : place ≤ length s → size ≤ length s - place → take (place + size - place) (drop place s) ≡ name_or s fallback place size
    unfolding name_or if
    name-found k l = rw (lt-ltb 0 size h, le-leb (place + size) (length s) (omega arith), add-sub_cancel_left)

    past : length s < place + size → fallback ≡ name_or s fallback place size
    unfolding name_or if
    past k = rw (lt-ltb 0 size h, lt-leb (place + size) (length s) k)

    pub name-cut : length s - place < size → fallback ≡ name_or s fallback place size
    name-cut k = past (omega arith)

    pub name-after : length s < place → fallback ≡ name_or s fallback place size
    name-after k = past (omega arith)

pub ruleset naming = (name-empty, name-found, name-cut, name-after)
