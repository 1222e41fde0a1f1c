-- The list of two files from their bytes and their twelve numbers.
use Rattle.std.specs.Prelude.{◌≡◌, ℕ, List, [], ◌∷◌, ◌++◌}
use Rattle.layout.specs.Result.{accept}
use Rattle.b3d_spec.specs.declared.Mode.TheVariants.{Lenient}
use Rattle.b3d_spec.specs.Answers.{judge}
use Rattle.b3d_spec.specs.Scene.{Scene}
use Rattle.b3d_spec.specs.Tables.{tables}
use Rattle.b3d_compare_spec.specs.Changes.{row_changes, twelve}
use Rattle.b3d_compare_spec.specs.List.{list_bytes}
use Rattle.b3d_compare_tables.specs.Tables.{table_bytes}

-- an accepted file, with its twelve numbers
pub record AcceptedFile (s x : List ℕ) : Type 0 where
  -- what it holds
  pub scene : Scene
  -- it is accepted under the lenient mode
  pub is : judge Lenient s ≡ accept scene
  -- version, n_texs and the ten counts
  pub numbers : x ≡ twelve scene

-- the entries of these tables
unfoldable pub tables_bytes : List ℕ → List ℕ → List ℕ → List ℕ
tables_bytes a b [] = []
tables_bytes a b (k ∷ ks) = table_bytes k a b ++ tables_bytes a b ks

-- the first bytes, if there are any; else the second
unfoldable pub or_else : List ℕ → List ℕ → List ℕ
or_else [] m = m
or_else (c ∷ l) m = c ∷ l

-- the entries of the twelve numbers, or where there are none those of the tables
unfoldable pub files_bytes : List ℕ → List ℕ → List ℕ → List ℕ → List ℕ
files_bytes a b x y = or_else (list_bytes (row_changes 0 a b 0 x y)) (tables_bytes a b tables)
