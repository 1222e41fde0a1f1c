-- The two modes: what each reads and writes, by the lenient one and the colours in the tables.
use mathlib.Core.Logic.{◌⊎◌}
use mathlib.Core.Path.{◌≡◌, refl, ap, ap₂, sym, ◌∙◌, subst}
use Prim.Native.Nat.{ℕ}
use mathlib.Core.Bool.{Bool, true, false, not, ◌&&◌}
use mathlib.Core.Option.{none, some}
use mathlib.Core.List.{List, [], ◌∷◌, map}
use lib.Dec.{T}
use Rattle.wire.specs.Bytes.{word_at}
use Rattle.wire.specs.Test.{if}
use Rattle.layout.specs.WellFormed.{all}
use Rattle.layout.specs.Result.{accept, reject}
use Rattle.layout.specs.Rules.{unit, holds}
use Rattle.layout.proofs.HeldLaws.{held_got, held-yes, held-no, held-bad}
use Rattle.layout.proofs.AllLaws.{All, all_map}
use Rattle.b3d_spec.specs.Colours.{coloured, passes}
use Rattle.b3d_spec.specs.Names.{without_places, named, unplaced}
use Rattle.b3d_spec.specs.Parse.{parse}
use Rattle.b3d_spec.specs.Rebuild.{Lent, lent_rows, has_counted_rows, assembled, sound, rebuild}
use Rattle.b3d_spec.specs.Scene.{Scene}
use Rattle.b3d_spec.specs.Tables.{rows, tables, node_tables}
use Rattle.b3d_spec.specs.declared.Mode.{Mode}
use Rattle.b3d_spec.specs.declared.Mode.TheVariants.{Strict, Lenient}
use Rattle.b3d_spec.proofs.Files.ModeLaws.{parse-held}
use Rattle.b3d_spec.proofs.Rows.RenameLaws.{bare_same}

-- a mode takes the colours of a scene's tables
abbrev pub Passes : Mode → Scene → Type 0
Passes mode t = T (passes mode (λ k. rows k t))

-- the lenient one takes any
pub lenient_passes : (t : Scene) → Passes Lenient t
unfolding passes
lenient_passes t = tt

-- ---- reading

-- what a mode reads the lenient one reads, and the mode takes its colours
pub mode_got : (mode : Mode) (s : List ℕ) (t : Scene) → parse mode s ≡ accept t → (parse Lenient s ≡ accept t) × Passes mode t
mode_got Strict s t e = held_got s (λ u. passes Strict (λ k. rows k u)) (parse Strict s) (parse Lenient s) t (parse-held s) e
mode_got Lenient s t e = (e, lenient_passes t)

-- and the other way round
pub mode_yes : (mode : Mode) (s : List ℕ) (t : Scene) → parse Lenient s ≡ accept t → Passes mode t → parse mode s ≡ accept t
mode_yes Strict s t e h = held-yes s (λ u. passes Strict (λ k. rows k u)) (parse Strict s) (parse Lenient s) t (parse-held s) e h
mode_yes Lenient s t e h = e

-- a file of which only the strict mode makes nothing gets 6, at a number that is not from 0 to 1
pub mode_no : (s : List ℕ) (t : Scene) → parse Lenient s ≡ accept t → T (not (passes Strict (λ k. rows k t))) → (p : ℕ) × (parse Strict s ≡ reject 6 p) × (holds unit (word_at s p) ≡ false)
mode_no s t e h = held-no s (λ u. passes Strict (λ k. rows k u)) (parse Strict s) (parse Lenient s) t (parse-held s) e h

-- a refusal is the lenient one's, or such a 6
pub mode_bad : (s : List ℕ) (n p : ℕ) → parse Strict s ≡ reject n p → (parse Lenient s ≡ reject n p) ⊎ ((n ≡ 6) × (holds unit (word_at s p) ≡ false))
mode_bad s n p e = held-bad s (λ u. passes Strict (λ k. rows k u)) (parse Strict s) (parse Lenient s) n p (parse-held s) e

-- ---- colours by cells

unplaced-coloured : (rs : List (List ℕ)) → all (coloured 2) (map unplaced rs) ≡ all (coloured 2) rs
unfolding coloured unplaced
unplaced-coloured [] = refl
unplaced-coloured (r ∷ rs) = ap₂ ◌&&◌ (one r) (unplaced-coloured rs)
  where
    one : (x : List ℕ) → coloured 2 (unplaced x) ≡ coloured 2 x
    one [] = refl
    one (a ∷ x) = refl

-- tables that are the same but for name places
pub passes_same : (mode : Mode) (R S : ℕ → List (List ℕ)) → All (λ k. named unplaced k (R k) ≡ named unplaced k (S k)) tables → passes mode R ≡ passes mode S
unfolding passes tables node_tables named if
passes_same Strict R S h =
    ap₂ ◌&&◌ (sym (unplaced-coloured (R 2)) ∙ ap (all (coloured 2)) h.1.0 ∙ unplaced-coloured (S 2)) (ap (all (coloured 6)) h.1.1.1.1.0)
passes_same Lenient R S h = refl

pub passes-rows : (mode : Mode) (R S : ℕ → List (List ℕ)) → All (λ k. R k ≡ S k) tables → passes mode R ≡ passes mode S
passes-rows mode R S h = passes_same mode R S (all_map (λ k. R k ≡ S k) _ (λ k e. ap (named unplaced k) e) tables h)

pub passes_bare : (mode : Mode) (t u : Scene) → without_places t ≡ without_places u → Passes mode t → Passes mode u
passes_bare mode t u e h = subst T (passes_same mode (λ k. rows k t) (λ k. rows k u) (bare_same t u e)) h

-- ---- writing: the lenient verdict, and the colours of the lent tables

pub rebuild_mode : (mode : Mode) (L : Lent) (ns : List ℕ) → rebuild mode L ns ≡ if (passes mode (lent_rows L)) (rebuild Lenient L ns) none
unfolding rebuild passes if
rebuild_mode mode L ns = by (all (has_counted_rows L) tables) (passes mode (lent_rows L)) (sound ns L (assembled ns L))
  where
    by : (a b c : Bool) → if a (if (b && c) (some (assembled ns L)) none) none ≡ if b (if a (if c (some (assembled ns L)) none) none) none
    by true true c = refl
    by true false c = refl
    by false true c = refl
    by false false c = refl
