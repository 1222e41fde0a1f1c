-- Past the last turn nothing may stand and nothing is owed.
use Rattle.std.specs.Prelude as std
use mathlib.Core.Path.{◌≡◌, refl, ap, sym, ◌∙◌}
use Prim.Native.Nat.{ℕ, ◌<◌, ◌≤◌}
use native.Mathlib.Omega.{arith}
use mathlib.Core.Bool.{Bool, true, false, ◌&&◌, ◌||◌}
use mathlib.Core.Option.{Option, none, some}
use mathlib.Core.List.{List, [], ◌∷◌}
use lib.Dec.{ltb, ltb→lt, nltb→le}
use borrow.Author.Tests.{lt-ltb, le-ltb, ne_eqb}
use Rattle.wire.specs.Test.{if}
use Rattle.layout.proofs.ResultLaws.{by_test}
use Rattle.b3d_spec.specs.declared.Tag.{Tag}
use Rattle.b3d_spec.specs.declared.Tag.TheVariants.{BB3D, TEXS, BRUS, NODE, MESH, VRTS, TRIS, BONE, KEYS, ANIM}
use Rattle.b3d_spec.specs.Tags.{is}
use Rattle.b3d_spec.specs.Nesting.{Often, Entry, entry, nesting, needed, Reached, required_between, end, may, after, next, reached_at}
use Rattle.b3d_rule_nesting_order.specs.declared.Reached.{Reached as Turns}
use Rattle.b3d_rule_nesting_order.specs.Turns.{reached_of, permit_of}
use Rattle.b3d_pieces_item_steps.specs.Nests.{last_turn}

-- every turn is before the fourth
abbrev Early : List Entry → Type 0
Early [] = Unit {0}
Early (entry t turn often ∷ l) = (turn < 4) × Early l

early : (k : Tag) → Early (nesting k)
early BB3D = (omega arith, (omega arith, (omega arith, tt)))
early TEXS = tt
early BRUS = tt
early NODE = (omega arith, (omega arith, (omega arith, (omega arith, (omega arith, tt)))))
early MESH = (omega arith, (omega arith, tt))
early VRTS = tt
early TRIS = tt
early BONE = tt
early KEYS = tt
early ANIM = tt

none_owed : (a b c d : Bool) → b ≡ false → d ≡ false → (a && (b && c)) || d ≡ false
none_owed true b c d e f = rw (e, f)
none_owed false b c d e f = f

owed_late : (l : List Entry) → Early l → (n : ℕ) → 4 ≤ n → required_between l n end ≡ false
owed_late [] h n k = refl
owed_late (entry t turn often ∷ l) h n k = none_owed (needed often) (ltb n turn) (ltb turn end) (required_between l n end) (le-ltb n turn (omega (arith, h.0))) (owed_late l h.1 n k)

may-late : (all : List Entry) (n : ℕ) (s : Bool) (turn : ℕ) (often : Often) → turn < 4 → 4 ≤ n → may all (reached_at n s) turn often ≡ false
may-late all n s turn often h k = rw (le-ltb n turn (omega arith), ne_eqb n turn (λ z. omega arith))

if_none : (b : Bool) (r : Reached) (x : Option Reached) → x ≡ none → if b (if {A = Option Reached} false (some r) none) x ≡ none
unfolding if
if_none true r x e = refl
if_none false r x e = e

next-late : (all l : List Entry) → Early l → (n : ℕ) (s : Bool) (t : Tag) → 4 ≤ n → next all l (reached_at n s) t ≡ none
unfolding next
next-late all [] h n s t k = refl
next-late all (entry u turn often ∷ l) h n s t k =
    ap (λ (b : Bool). if (is t u) (if {A = Option Reached} b (some (after (reached_at n s) turn often)) none) (next all l (reached_at n s) t)) (may-late all n s turn often h.0 k)
    ∙ if_none (is t u) (after (reached_at n s) turn often) (next all l (reached_at n s) t) (next-late all l h.1 n s t k)

module _ (k : Tag) (n : ℕ) where
  last-low : n < 4 → last_turn n ≡ n
  unfolding last_turn if
  last-low h = rw (lt-ltb n 4 h)

  last-high : 4 ≤ n → last_turn n ≡ 4
  unfolding last_turn if
  last-high h = rw (le-ltb n 4 h)

  owed_last : required_between (nesting k) (last_turn n) end ≡ required_between (nesting k) n end
  owed_last =
      by_test (ltb n 4)
      (λ t. ap (λ (m : ℕ). required_between (nesting k) m end) (last-low (ltb→lt n 4 t)))
      (λ t. let q = nltb→le n 4 t in ap (λ (m : ℕ). required_between (nesting k) m end) (last-high q) ∙ owed_late (nesting k) (early k) 4 (omega arith) ∙ sym (owed_late (nesting k) (early k) n q))

  next_last : (s : Bool) (t : Tag) → next (nesting k) (nesting k) (reached_at (last_turn n) s) t ≡ next (nesting k) (nesting k) (reached_at n s) t
  next_last s t =
      by_test (ltb n 4)
      (λ z. ap (λ (m : ℕ). next (nesting k) (nesting k) (reached_at m s) t) (last-low (ltb→lt n 4 z)))
      (λ z. let q = nltb→le n 4 z in
      ap (λ (m : ℕ). next (nesting k) (nesting k) (reached_at m s) t) (last-high q)
      ∙ next-late (nesting k) (nesting k) (early k) 4 s t (omega arith) ∙ sym (next-late (nesting k) (nesting k) (early k) n s t q))

-- ---- in the words of the code

pub turn_low : (n : ℕ) (s : Bool) (r : Turns) → n < 4 → r ≡ record { turn = n; spent = s } → r ≡ record { turn = last_turn n; spent = s }
turn_low n s r h q = rw (last-low BB3D n h) q

pub turn-high : (n : ℕ) (s : Bool) (r : Turns) → 4 ≤ n → r ≡ record { turn = 4; spent = s } → r ≡ record { turn = last_turn n; spent = s }
turn-high n s r h q = rw (last-high BB3D n h) q

pub turn_lacks : (k : Tag) (n : ℕ) (s : Bool) (x : Turns) → x ≡ record { turn = last_turn n; spent = s } → (r : Bool) → r ≡ required_between (nesting k) x.turn end → r ≡ required_between (nesting k) n end
turn_lacks k n s x e r q = q ∙ ap (λ (y : Turns). required_between (nesting k) y.turn end) e ∙ owed_last k n

pub turn-stands : (k : Tag) (n : ℕ) (s : Bool) (t : Tag) (x : Turns) → x ≡ record { turn = last_turn n; spent = s } → (r : std.Option Turns) → r ≡ permit_of (next (nesting k) (nesting k) (reached_of x) t) → r ≡ permit_of (next (nesting k) (nesting k) (reached_at n s) t)
turn-stands k n s t x e r q = q ∙ ap (λ (y : Turns). permit_of (next (nesting k) (nesting k) (reached_of y) t)) e ∙ ap permit_of (next_last k n s t)

pub ruleset nest_laws = (turn_low, turn-high, turn_lacks, turn-stands)
