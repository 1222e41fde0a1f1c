-- What was promised of a mode holds of the number that names it.
use mathlib.Core.Path.{◌≡◌}
use Prim.Native.Nat.{ℕ}
use mathlib.Core.List.{List}
use Rattle.b3d_spec.specs.declared.Mode.{Mode}
use Rattle.b3d_spec.specs.declared.Written.{Written}
use Rattle.b3d_spec.specs.Rebuild.{Lent}
use Rattle.b3d_write.specs.Writes.{Writes}

pub mode_writes : (m k : Mode) → m ≡ k → (T : Lent) (ns out put : List ℕ) (w : Written) → Writes m T ns out put w → Writes k T ns out put w
mode_writes m k em T ns out put w h = rw (← em) h
