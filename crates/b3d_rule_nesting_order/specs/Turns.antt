-- How far the chunks inside a chunk have come, as the nesting rule has it; a tag's place in the table; what an entry owes.
use Rattle.std.specs.Prelude as std
use Rattle.std.specs.Prelude.{ℕ, Bool, false, ◌&&◌, ltb, Some, None}
use Rattle.std.proofs.Math.Option.{Option, none, some}
use Rattle.b3d_spec.specs.Nesting as nest
use Rattle.b3d_rule_nesting_table.specs.declared.Entry.{Entry}
use Rattle.b3d_rule_nesting_order.specs.declared.Reached.{Reached}

-- how far chunks have come by r, in the rule's terms
abbrev pub reached_of : Reached → nest.Reached
reached_of r = record { turn = r.turn; spent = r.spent }

-- how far chunks come with one more, or none where it may not stand, as code holds it
abbrev pub permit_of : Option nest.Reached → std.Option Reached
permit_of none = None
permit_of (some r) = Some (record { turn = r.turn; spent = r.spent })

-- no chunk was read yet
abbrev pub first : Reached
first = record { turn = 0; spent = false }

-- a chunk of entry e must stand, at a turn after lo and before hi
abbrev pub between : Entry → ℕ → ℕ → Bool
between e lo hi = e.must && (ltb lo e.turn && ltb e.turn hi)
