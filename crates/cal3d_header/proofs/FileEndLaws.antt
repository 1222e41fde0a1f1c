-- The end of a file: entries, and nothing behind them.
use Prim.Native.Nat.{ℕ, ◌-◌, ◌<◌}
use native.Mathlib.Omega.{arith}
use mathlib.Core.Path.{◌≡◌, ap, ◌∙◌}
use mathlib.Core.List.{List}
use lib.ListN.{length, length-drop}
use Rattle.wire.specs.Cursors.{Inside, left}
use Rattle.wire.specs.declared.Cursor.{Cursor}
use Rattle.wire.proofs.LeftLaws.{left-length}
use Rattle.layout.specs.Result.{Result, accept, reject, ◌>>=◌}
use Rattle.layout.specs.Parts.{Step}
use Rattle.layout.specs.Counted.{at_end}
use Rattle.layout.proofs.CountLaws.{Advances, end_none, end-some}

-- entries to the end of the file, and what they make
abbrev pub to_end : {A B : Type 0} → (A → B) → Result (Step A) → Result B
to_end make o = o >>= λ l. at_end l.place l.left >>= λ _. accept (make l.value)

module _ {A B C : Type 0} (make : A → B) (rest : B → Result C) (o : Result (Step A)) where
  pub ended-bad : (e p : ℕ) → o ≡ reject e p → (to_end make o >>= rest) ≡ reject e p
  ended-bad e p q = rw q

  module _ (x : Step A) (q : o ≡ accept x) where
    pub ended-spare : 0 < length x.left → (to_end make o >>= rest) ≡ reject 5 x.place
    ended-spare h = rw (q, end-some x.place x.left h)

    pub ended-done : length x.left ≡ 0 → (to_end make o >>= rest) ≡ rest (make x.value)
    ended-done h = rw (q, end_none x.place x.left h)

-- how many bytes a reading leaves
pub left_over : {A : Type 0} (read : ℕ → List ℕ → Result (Step A)) → Advances read → (s : List ℕ) (c : Cursor) → Inside c (length s) → (x : Step A) → read c.at (left c s) ≡ accept x → length x.left ≡ c.end - x.place
left_over read moves s c i x e =
    let m = moves c.at (left c s) x e in
    let l = left-length s c i in
    let d = ap length m.rest ∙ length-drop m.by (left c s) in
    omega (arith, m.to)
