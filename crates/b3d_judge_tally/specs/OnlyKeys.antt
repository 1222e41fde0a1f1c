-- What 02's E12 says of the row limit: within the file size no table but that of the keys can pass it.
use Rattle.std.specs.Prelude.{◌≡◌, ℕ, ◌≤◌, List, [], ◌∷◌, length}
use Rattle.layout.specs.Lists.{All}
use Rattle.layout.specs.Result.{accept}
use Rattle.b3d_spec.specs.declared.Mode.{Mode}
use Rattle.b3d_spec.specs.Parse.{parse}
use Rattle.b3d_spec.specs.Rules.{row_limit}
use Rattle.b3d_spec.specs.Scene.{Scene}
use Rattle.b3d_spec.specs.Tables.{rows}

-- the tables but that of the keys, 1 to 9
abbrev pub other_tables : List ℕ
other_tables = 1 ∷ 2 ∷ 3 ∷ 4 ∷ 5 ∷ 6 ∷ 7 ∷ 8 ∷ 9 ∷ []

-- E12: in no file s that keeps the layout rules does a table other than that of the keys have more rows than the limit
abbrev pub OnlyKeys : Mode → List ℕ → Type 0
OnlyKeys mode s = (t : Scene) → parse mode s ≡ accept t → All (λ k. length (rows k t) ≤ row_limit) other_tables
