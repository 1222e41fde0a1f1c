-- What holds of a tag that is one of some: by a test that is computed over the ten tags.
use mathlib.Core.Path.{◌≡◌, refl}
use Prim.Native.Nat.{ℕ}
use native.Mathlib.Omega.{arith}
use mathlib.Core.Bool.{Bool, true, false, not, ◌||◌, ◌&&◌}
use mathlib.Core.Option.{Option, none, some}
use mathlib.Core.List.{List}
use lib.Dec.{T, eqb, eqb→eq}
use mir.Facts.{and_yes}
use mir.Val.{has_key}
use types.Run.{OneOf, miss}
use denote.Enum.Declared.{tag_of}
use Rattle.layout.proofs.ResultLaws.{by_test}
use Rattle.b3d_spec.specs.declared.Tag.{Tag}
use Rattle.b3d_spec.specs.declared.Tag.TheVariants.{BB3D, TEXS, BRUS, NODE, MESH, VRTS, TRIS, BONE, KEYS, ANIM}
use Rattle.b3d_spec.specs.Nesting.{nesting, Reached, next}
use Rattle.b3d_spec.specs.contracts.Tag.{the_type}

-- the test holds of all ten
abbrev pub ten : (Tag → Bool) → Bool
ten f = f BB3D && (f TEXS && (f BRUS && (f NODE && (f MESH && (f VRTS && (f TRIS && (f BONE && (f KEYS && f ANIM))))))))

pub of-ten : (f : Tag → Bool) → T (ten f) → (t : Tag) → T (f t)
of-ten f h t =
    let (a, h₁) = and_yes (f BB3D) _ h in
    let (b, h₂) = and_yes (f TEXS) _ h₁ in
    let (c, h₃) = and_yes (f BRUS) _ h₂ in
    let (d, h₄) = and_yes (f NODE) _ h₃ in
    let (e, h₅) = and_yes (f MESH) _ h₄ in
    let (g, h₆) = and_yes (f VRTS) _ h₅ in
    let (i, h₇) = and_yes (f TRIS) _ h₆ in
    let (j, h₈) = and_yes (f BONE) _ h₇ in
    let (k, l) = and_yes (f KEYS) _ h₈ in
    elim t as (λ u. T (f u)) [ BB3D ↦ a | TEXS ↦ b | BRUS ↦ c | NODE ↦ d | MESH ↦ e | VRTS ↦ g | TRIS ↦ i | BONE ↦ j | KEYS ↦ k | ANIM ↦ l ]

-- a tag that is one of those numbered ks has what all of them have
pub one_of : (f : Tag → Bool) (ks : List ℕ) → T (ten (λ t. not (has_key ks (tag_of the_type t)) || f t)) → (t : Tag) → OneOf ks (tag_of the_type t) → T (f t)
one_of f ks h t o =
    by_test (has_key ks (tag_of the_type t)) (λ y. or_right (has_key ks (tag_of the_type t)) (f t) (of-ten (λ u. not (has_key ks (tag_of the_type u)) || f u) h t) y) (λ n. absurd (miss ks (tag_of the_type t) n o))
  where
    or_right : (a b : Bool) → T (not a || b) → T a → T b
    or_right true b h y = h
    or_right false b h y = absurd y

unfoldable pub is_none : Option Reached → Bool
is_none none = true
is_none (some q) = false

-- a tag that may not stand does not
pub never : {q : Reached} {A : Type 0} → none ≡ some q → A
never h = let z : ◌≡◌ {A = ℕ} 0 1 = cc in absurd (omega arith)

pub some_inj : {p q : Reached} → some p ≡ some q → q ≡ p
some_inj h = cc

-- ---- chunks that may stand here, and are left for what follows

unfoldable pub bool_same : Bool → Bool → Bool
bool_same true b = b
bool_same false b = not b

bool_same_equal : (a b : Bool) → T (bool_same a b) → a ≡ b
unfolding bool_same
bool_same_equal true true h = refl
bool_same_equal true false h = absurd h
bool_same_equal false true h = absurd h
bool_same_equal false false h = refl

-- both go on, to the same state
unfoldable pub same_turn : Option Reached → Option Reached → Bool
unfolding bool_same
same_turn (some a) (some b) = eqb a.turn b.turn && bool_same a.spent b.spent
same_turn (some a) none = false
same_turn none o = false

pub record Alike (x y : Option Reached) : Type 0 where
  pub to : Reached
  pub first : x ≡ some to
  pub second : y ≡ some to

alike : (x y : Option Reached) → T (same_turn x y) → Alike x y
unfolding same_turn bool_same
alike (some a) (some b) h =
    let (et, es) = and_yes (eqb a.turn b.turn) (bool_same a.spent b.spent) h in
    let e₁ : a.turn ≡ b.turn = eqb→eq a.turn b.turn et in
    let e₂ : a.spent ≡ b.spent = bool_same_equal a.spent b.spent es in
    record { to = b; first = λ i. some (record { turn = e₁ i; spent = e₂ i }); second = refl }
alike (some a) none h = absurd h
alike none y h = absurd h

-- those numbered ks that may stand inside k after q may stand just so after z; and none is one of the tags that the test takes
unfoldable pub plain : Tag → (Tag → Bool) → Reached → Reached → List ℕ → Bool
unfolding is_none same_turn bool_same
plain k takes q z ks =
    ten
    (λ t. not (has_key ks (tag_of the_type t))
    || (not (takes t) && (is_none (next (nesting k) (nesting k) q t) || same_turn (next (nesting k) (nesting k) q t) (next (nesting k) (nesting k) z t))))

some-here : (o x : Option Reached) (y : Reached) → o ≡ some y → T (is_none o || same_turn o x) → T (same_turn o x)
unfolding is_none same_turn bool_same
some-here none x y e h = never e
some-here (some a) x y e h = h

pub plain_here : (k : Tag) (takes : Tag → Bool) (q z : Reached) (ks : List ℕ) → T (plain k takes q z ks) → (t : Tag) → OneOf ks (tag_of the_type t)
    → (y : Reached) → next (nesting k) (nesting k) q t ≡ some y → T (not (takes t)) × Alike (next (nesting k) (nesting k) q t) (next (nesting k) (nesting k) z t)
unfolding plain is_none same_turn bool_same
plain_here k takes q z ks h t o y e =
    let f : Tag → Bool = λ u. not (takes u) && (is_none (next (nesting k) (nesting k) q u) || same_turn (next (nesting k) (nesting k) q u) (next (nesting k) (nesting k) z u)) in
    let (a, b) = and_yes (not (takes t)) _ (one_of f ks h t o) in
    (a, alike (next (nesting k) (nesting k) q t) (next (nesting k) (nesting k) z t) (some-here (next (nesting k) (nesting k) q t) (next (nesting k) (nesting k) z t) y e b))
