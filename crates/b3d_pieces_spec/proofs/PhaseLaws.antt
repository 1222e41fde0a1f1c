-- Which chunks may still come in a NODE and in a BB3D, by how far the nesting rule has come.
use mathlib.Core.Path.{◌≡◌, refl, sym, subst}
use Prim.Native.Nat.{ℕ}
use mathlib.Core.Bool.{Bool, true, false}
use mathlib.Core.Option.{Option, none, some}
use mathlib.Core.List.{List, [], ◌∷◌}
use Rattle.wire.specs.Test.{if}
use Rattle.layout.specs.Chunks.{done, stop, chunk}
use Rattle.b3d_spec.specs.declared.Tag.{Tag}
use Rattle.b3d_spec.specs.declared.Tag.TheVariants.{BB3D, TEXS, BRUS, NODE, MESH, BONE, KEYS, ANIM}
use Rattle.b3d_spec.specs.Tags.{is, Chunks}
use Rattle.b3d_spec.specs.Nesting.{nesting, Reached, start, required_between, end, next, onward, order, reached_at}
use Rattle.b3d_spec.proofs.Files.EntryLaws.{◌▸◌, same_tag, Either, Each, at_next}

-- In a NODE: nodes only; before them KEYS and ANIM; before those a MESH or a BONE.
-- In a BB3D: nothing; before that a NODE; before that a BRUS; before that a TEXS.
pub data Phase : Type 0 where
  only_nodes moving kinded empty rooted brushed textured : Phase

-- the tags that may come next, each with the phase after it
abbrev allowed : Phase → List (Tag × Phase)
allowed only_nodes = (NODE, only_nodes) ∷ []
allowed moving = (KEYS, moving) ∷ (ANIM, moving) ∷ (NODE, only_nodes) ∷ []
allowed kinded = (MESH, moving) ∷ (BONE, moving) ∷ (KEYS, moving) ∷ (ANIM, moving) ∷ (NODE, only_nodes) ∷ []
allowed empty = []
allowed rooted = (NODE, empty) ∷ []
allowed brushed = (BRUS, rooted) ∷ (NODE, empty) ∷ []
allowed textured = (TEXS, brushed) ∷ (BRUS, rooted) ∷ (NODE, empty) ∷ []

-- a tag of the list, with what is said of the phase after it
abbrev Among : List (Tag × Phase) → Tag → (Phase → Type 0) → Type 0
Among [] t P = ⊥
Among (a ∷ l) t P = Either (is t a.0) (P a.1) (Among l t P)

-- chunks that come in such an order from a phase on
abbrev pub Only : Phase → Chunks → Type 0
Only h done = Unit {0}
Only h (stop n p) = Unit {0}
Only h (chunk t p b r) = Among (allowed h) t (λ g. Only g r)

-- what is said at each tag that may come
abbrev Answers : List (Tag × Phase) → (Tag → Type 0) → Chunks → Type 0
Answers [] P r = Unit {0}
Answers (a ∷ l) P r = (Only a.1 r → P a.0) × Answers l P r

answer : (l : List (Tag × Phase)) (P : Tag → Type 0) (r : Chunks) → Answers l P r → (t : Tag) → Among l t (λ g. Only g r) → P t
answer [] P r f t x = absurd x
answer (a ∷ l) P r f t x = by (is t a.0) refl x (answer l P r f.1 t)
  where
    by : (b : Bool) → is t a.0 ≡ b → Either b (Only a.1 r) (Among l t (λ g. Only g r)) → (Among l t (λ g. Only g r) → P t) → P t
    by true e y g = subst P (sym (same_tag t a.0 e)) (f.0 y)
    by false e y g = g y

pub by_phase : (h : Phase) (P : Tag → Type 0) (r : Chunks) → Answers (allowed h) P r → (t : Tag) → Among (allowed h) t (λ g. Only g r) → P t
by_phase h P r f t x = answer (allowed h) P r f t x

-- ---- the nesting rule's order is such an order

-- how far the rule has come in each phase, inside a chunk of this tag
data At : Tag → Phase → Reached → Type 0 where
  nodes_at : At NODE only_nodes (reached_at 3 false)
  first_at : At NODE moving (reached_at 1 true)
  moving_at : (x : Bool) → At NODE moving (reached_at 2 x)
  kinded-at : At NODE kinded start
  empty-at : At BB3D empty (reached_at 3 true)
  rooted_at : At BB3D rooted (reached_at 2 true)
  brushed_at : At BB3D brushed (reached_at 1 true)
  textured_at : At BB3D textured start

either : (b : Bool) (A B C D : Type 0) → (A → C) → (B → D) → Either b A B → Either b C D
either true A B C D f g x = f x
either false A B C D f g x = g x

among : (l : List (Tag × Phase)) (t : Tag) (P Q : Phase → Type 0) → ((h : Phase) → P h → Q h) → Among l t P → Among l t Q
among [] t P Q f x = x
among (a ∷ l) t P Q f x = either (is t a.0) _ _ _ _ (f a.1) (among l t P Q f) x

onwards : (k : Tag) (h : Phase) (r : Reached) → At k h r → Each (nesting k) (λ t q. Among (allowed h) t (λ g. At k g q)) r (nesting k)
onwards k h r nodes_at = tt ▸ tt ▸ tt ▸ tt ▸ nodes_at ▸ tt
onwards k h r first_at = tt ▸ tt ▸ moving_at false ▸ moving_at true ▸ nodes_at ▸ tt
onwards k h r (moving_at true) = tt ▸ tt ▸ moving_at true ▸ tt ▸ nodes_at ▸ tt
onwards k h r (moving_at false) = tt ▸ tt ▸ moving_at false ▸ moving_at true ▸ nodes_at ▸ tt
onwards k h r kinded-at = first_at ▸ first_at ▸ moving_at false ▸ moving_at true ▸ nodes_at ▸ tt
onwards k h r empty-at = tt ▸ tt ▸ tt ▸ tt
onwards k h r rooted_at = tt ▸ tt ▸ empty-at ▸ tt
onwards k h r brushed_at = tt ▸ rooted_at ▸ empty-at ▸ tt
onwards k h r textured_at = brushed_at ▸ rooted_at ▸ empty-at ▸ tt

ordered : (k : Tag) (h : Phase) (r : Reached) → At k h r → (head : ℕ) (cs : Chunks) → Only h (order k head r cs)
unfolding order onward if
ordered k h r a head done = go (required_between (nesting k) r.turn end)
  where
    go : (b : Bool) → Only h (if b (stop 8 head) done)
    go true = tt
    go false = tt
ordered k h r a head (stop n p) = tt
ordered k h r a head (chunk t p b l) = go (next (nesting k) (nesting k) r t) refl (λ g q x. ordered k g q x head l)
  where
    go : (o : Option Reached) → next (nesting k) (nesting k) r t ≡ o → ((g : Phase) (q : Reached) → At k g q → Only g (order k head q l)) → Only h (onward o p (λ q. chunk t p b (order k head q l)))
    go none e f = tt
    go (some q) e f = among (allowed h) t (λ g. At k g q) (λ g. Only g (order k head q l)) (λ g x. f g q x) (at_next (nesting k) (λ t q. Among (allowed h) t (λ g. At k g q)) r (nesting k) (onwards k h r a) t q e)

pub in-node : (cs : Chunks) (head : ℕ) → Only kinded (order NODE head start cs)
in-node cs head = ordered NODE kinded start kinded-at head cs

pub in-file : (cs : Chunks) (head : ℕ) → Only textured (order BB3D head start cs)
in-file cs head = ordered BB3D textured start textured_at head cs
