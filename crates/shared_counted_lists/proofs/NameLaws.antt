-- A name behind its length: what each step of `pass_name` says of it.
use Rattle.layout.specs.Refused.{refusal_at}
use Rattle.std.specs.Prelude.{Ok, Err, Some, None}
use Rattle.std.specs.Prelude as std
use Prim.Native.Nat.{ℕ, ◌+◌, ◌-◌, ◌<◌, ◌≤◌}
use native.Mathlib.Omega.{arith}
use mathlib.Core.Path.{◌≡◌}
use mathlib.Core.List.{List}
use lib.ListN.{length}
use Rattle.wire.specs.Cursors.{Inside, left, number_at}
use Rattle.wire.specs.declared.Cursor.{Cursor}
use Rattle.wire.proofs.LeftLaws.{left-length}
use Rattle.layout.specs.Rules.{count}
use Rattle.layout.specs.Counted.{sized}
use Rattle.layout.proofs.CountLaws.{name-whole, name-short}
use Rattle.shared_counted_lists.specs.Runs.{Runs}
use Rattle.shared_counted_lists.proofs.NumberLaws.{head_cut, head-numbered, head_over, head-within}

module _ (s : List ℕ) (c : Cursor) (inside : Inside c (length s)) (r : std.Option (ℕ × Cursor)) (e : r ≡ number_at s c) where
  pub length_cut : r ≡ None → Runs (sized c.at (left c s)) c 4 (Err (refusal_at 5 c.at))
  unfolding sized
  length_cut w = record { is = rw (head_cut s c inside r e count w); passes = inside.before }

  module _ (k : ℕ) (n : Cursor) (w : r ≡ Some (k, n)) where
    pub length_over : 2147483647 < k → Runs (sized c.at (left c s)) c 4 (Err (refusal_at 6 c.at))
    unfolding sized
    length_over h = record { is = rw (head_over s c inside r e k n w 2147483647 h); passes = inside.before }

    module _ (h : k ≤ 2147483647) (m : ℕ) (q : m ≡ k) where
      pub name-before : n.at ≤ n.end
      name-before = let f = head-numbered s c inside r e k n w in omega arith

      after : Inside n (length s)
      after = let f = head-numbered s c inside r e k n w in record { before = omega arith; within = omega arith }

      pub name-cut : n.end - n.at < m → Runs (sized c.at (left c s)) c 4 (Err (refusal_at 5 n.at))
      unfolding sized
      name-cut l =
          let f = head-numbered s c inside r e k n w in
          let room : length (left n s) < k = omega (arith, left-length s n after) in
          record { is = rw (head-within s c inside r e k n w 2147483647 h, name-short k n.at (left n s) room); passes = omega arith }

      pub name-passed : m ≤ n.end - n.at → Runs (sized c.at (left c s)) c 4 (Ok (record { at = n.at + m; end = n.end }))
      unfolding sized
      name-passed l =
          let f = head-numbered s c inside r e k n w in
          let room : k ≤ length (left n s) = omega (arith, left-length s n after) in
          record { is = rw (head-within s c inside r e k n w 2147483647 h, name-whole k n.at (left n s) room, q, f.same); passes = (omega arith, omega arith, f.same) }

pub ruleset names = (name-before, length_cut, length_over, name-cut, name-passed)
