-- A path as code keeps it: three arrays, of the nodes, their ends and their bone limits, the root first.
use Rattle.std.specs.Prelude.{◌≡◌, ℕ, zero, suc, ◌≤◌, Bool, List, [], ◌∷◌, get_or}
use Rattle.b3d_check_spec.specs.Check.{Level, up_to, all_end}

-- the first d levels of the path in the arrays a of nodes, e of ends and v of bone limits, the last level first
unfoldable pub path_of : List ℕ → List ℕ → List ℕ → ℕ → List Level
path_of a e v zero = []
path_of a e v (suc d) = record { node = get_or a d 0; end = get_or e d 0; bones = get_or v d 0 } ∷ path_of a e v d

-- what `up_to` promises: of `depth` levels r are left when the path ends in p at row i; 0 where p is not on it, or a node that is left does not end at row i
pub record CutTo (a e : List ℕ) (depth i p r : ℕ) : Type 0 where
  -- no level is added
  pub low : r ≤ depth
  -- so it is for whatever bone limits
  pub is : (v : List ℕ) → path_of a e v r ≡ up_to i p (path_of a e v depth)

-- what `all_end` promises of its answer r
pub record Ending (e : List ℕ) (depth i : ℕ) (r : Bool) : Type 0 where
  -- r says whether the first `depth` levels end at row i, whatever their nodes and bone limits
  pub is : (a v : List ℕ) → r ≡ all_end i (path_of a e v depth)
