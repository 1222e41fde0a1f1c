-- What a function of a cycle is asked where its measure is t, and where it is below t: its own needs, and that.
use Prim.Native.Nat.{ℕ, ◌<◌}
use mathlib.Core.List.{List}
use borrow.Fn.Kinds.{ParamKind, In}
use borrow.Fn.PlainCycle.{Measures, is, falls, and}

abbrev pub asked_at : (n : ℕ) (ps : List (ParamKind n)) → Measures n ps ℕ → In n ps → ℕ → In n ps
asked_at n ps μ asks t = and n ps (is n ps μ t) asks

abbrev pub asked_below : (n : ℕ) (ps : List (ParamKind n)) → Measures n ps ℕ → In n ps → ℕ → In n ps
asked_below n ps μ asks t = and n ps (falls n ps ◌<◌ μ t) asks
