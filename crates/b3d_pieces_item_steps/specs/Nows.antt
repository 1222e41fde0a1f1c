-- The machine's state that what is held stands for, with the chunks of the row; its invariant after n bytes; and the promise of a step.
use Rattle.std.specs.Prelude.{◌≡◌, ℕ, ◌+◌, ◌≤◌, Bool, List, ◌∷◌}
use Rattle.b3d_spec.specs.declared.Tag.{Tag}
use Rattle.b3d_spec.specs.declared.Tag.TheVariants.{NODE}
use Rattle.b3d_spec.specs.Tags.{is}
use Rattle.b3d_pieces_spec.specs.declared.Totals.{Totals}
use Rattle.b3d_pieces_spec.specs.declared.Open.{Open}
use Rattle.b3d_pieces_spec.specs.Machine.{State, live, fault, over, edge, enter}
use Rattle.b3d_pieces_spec.specs.Good.{Words, Deep, sum, load, OpenChunksFit, Off}
use Rattle.b3d_pieces_spec.specs.Limits.{most_counted}
use Rattle.b3d_pieces_item_steps.specs.declared.Now.{Now}
use Rattle.b3d_pieces_item_steps.specs.declared.Now.TheVariants.{Live, Push, Pop, Fault, Over}

-- true if the body of a chunk of tag t begins with a text
abbrev pub texted : Tag → Bool
texted t = is t NODE

-- the machine's state that is held, R being the open chunks of the row, the innermost first
abbrev pub state_with : List Open → Now → State
state_with R (Live at m g f) = live at m g f R
state_with R (Push at g f o) = enter (texted f.tag) at g f (o ∷ R)
state_with R (Pop at g) = edge at g R
state_with R (Fault n p) = fault n p
state_with R (Over g) = over g

-- the machine's invariant after n bytes, with the open chunks R of the row: open chunks and totals fit, and the present place is right
abbrev pub GoodNow : ℕ → List Open → Now → Type 0
GoodNow n R (Live at m g f) = OpenChunksFit at g (f ∷ R) × Off m at n
GoodNow n R (Push at g f o) = OpenChunksFit at g (f ∷ o ∷ R) × (at ≡ n)
GoodNow n R (Pop at g) = OpenChunksFit at g R × (at ≡ n)
GoodNow n R (Fault m p) = Unit {0}
GoodNow n R (Over g) = sum g ≤ n

-- no chunk is to be entered
abbrev pub NothingToEnter : Now → Type 0
NothingToEnter (Live at m g f) = Unit {0}
NothingToEnter (Push at g f o) = ⊥
NothingToEnter (Pop at g) = Unit {0}
NothingToEnter (Fault m p) = Unit {0}
NothingToEnter (Over g) = Unit {0}

-- what a step asks of the place `at`, the totals g and the innermost chunk f
pub record Ready (s at : ℕ) (g : Totals) (f : Open) : Type 0 where
  -- the rows counted and f's items leave room for s more
  pub few : sum g + f.count + s ≤ most_counted
  -- the place is at most one byte past the longest file
  pub place : at ≤ most_counted
  -- f's fixed data are words
  pub words : Words f.kept

-- the promise of one step, for every stack R of outer chunks, where f is the innermost chunk before it and r the result
pub record Gives (s n : ℕ) (g : Totals) (f : Open) (r : Now) (k : List Open → State) : Type 0 where
  -- r stands for the machine's state k R
  pub is : (R : List Open) → state_with R r ≡ k R
  -- if the invariant holds before with s rows to spare, it holds after n bytes
  pub good : (R : List Open) → Deep (f ∷ R) → sum g + load (f ∷ R) + s ≤ n → GoodNow n R r
  -- with nothing to spare the step opens no chunk
  pub calm : s ≡ 0 → NothingToEnter r

-- the machine's state where a part of f ended at `at`, R being the chunks around f
unfoldable pub edge_here : ℕ → Totals → Open → List Open → State
edge_here at g f R = edge at g (f ∷ R)
