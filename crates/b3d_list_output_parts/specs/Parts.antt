-- The parts of the lister's text for an accepted file.
use Rattle.std.specs.Prelude.{◌≡◌, ℕ, ◌≤◌, List, [], ◌∷◌, ◌++◌, length}
use Rattle.layout.specs.Result.{Result, accept, reject}
use Rattle.b3d_spec.specs.Answers.{judge}
use Rattle.b3d_spec.specs.declared.Mode.TheVariants.{Strict}
use Rattle.b3d_spec.specs.Scene.{Scene}
use Rattle.b3d_spec.specs.Tables.{rows}
use Rattle.b3d_judge_file_body.specs.declared.Summary.{Summary}
use Rattle.b3d_judge_limits.specs.Rooms.{counts_in}
use Rattle.b3d_list_text.specs.Text.{number_line}
use Rattle.b3d_list_spec.specs.Listing.{most_listed, node_lines}

-- the first three lines, from the summary x of an accepted file
unfoldable pub head_lines : Summary → List ℕ
head_lines x = number_line (0 ∷ 0 ∷ []) ++ (number_line (x.version ∷ x.n_texs ∷ []) ++ number_line (counts_in x.tally))

-- the lines of the nodes of what was judged; nothing where refused
unfoldable pub node_lines_of : Result Scene → List ℕ
node_lines_of (accept t) = node_lines t.nodes
node_lines_of (reject n p) = []

-- what `put_nodes` asks of the file s
pub record Listable (s : List ℕ) (nodes : ℕ) : Type 0 where
  -- what the file holds
  pub scene : Scene
  -- the file is accepted under the strict mode
  pub accepted : judge Strict s ≡ accept scene
  -- it has `nodes` nodes
  pub count : nodes ≡ length (rows 3 scene)
  -- it is no longer than the lister reads
  pub short : length s ≤ most_listed
