-- Entries of the names of two rows.
use Rattle.std.specs.Prelude as std
use Rattle.b3d_compare_spec.specs.declared.Difference.{Difference}
use Rattle.std.specs.Prelude.{◌≡◌, ℕ, ◌<◌, List, [], ◌∷◌, Some, None}
use Rattle.b3d_compare_spec.specs.Changes.{Change, word_changes}
use Rattle.b3d_compare_difference.specs.Spans.{Clean}
use Rattle.b3d_compare_entries.specs.Entries.{Lies, change_of}

-- the entries of the names of two rows, words 0 and 1
unfoldable pub name_entries : List ℕ → List ℕ → ℕ → ℕ → std.Option Difference → List Change
name_entries a b k r None = []
name_entries a b k r (Some d) = change_of a b k r 0 d ∷ []

-- spans that lie in their files
abbrev pub Fine : List ℕ → List ℕ → std.Option Difference → Type 0
Fine a b None = Unit {0}
Fine a b (Some d) = Clean d × Lies a b d

-- the names of rows x and y of files a and b, whatever the table of named rows
pub record NamesAre (a b x y : List ℕ) (n : std.Option Difference) : Type 0 where
  -- words 0 and 1 of the rows have these entries
  pub is : (k r : ℕ) → 0 < k → k < 4 → word_changes k a b r x y 0 2 ≡ name_entries a b k r n
  -- the two texts can be put
  pub fine : Fine a b n
