-- What the lister prints for a file, as bytes.
use Rattle.std.specs.Prelude.{◌≡◌, ℕ, ◌≤◌, List, [], ◌∷◌, ◌++◌, length, take, ltb}
use Rattle.wire.specs.Bytes.{over}
use Rattle.wire.specs.Test.{if}
use Rattle.layout.specs.Result.{Result, accept, reject}
use Rattle.b3d_spec.specs.Answers.{judge}
use Rattle.b3d_spec.specs.declared.Mode.TheVariants.{Strict}
use Rattle.b3d_spec.specs.Scene.{Forest, no_nodes, node, Scene}
use Rattle.b3d_spec.specs.Tables.{counts}
use Rattle.b3d_list_text.specs.Text.{number_line, text_line}
use Rattle.b3d_list_lines.specs.Lines.{unnamed}

-- the most bytes of input that the lister reads, as 01 has it
abbrev pub most_listed : ℕ
most_listed = 65536

-- the most bytes that the lister prints: 14 numbers of at most ten digits with what follows each, and for the nodes no more than the file has behind its
-- first 12 bytes
abbrev pub most_printed : ℕ
most_printed = 65678

-- a name, or `unnamed` where it is empty
unfoldable pub name_or_word : List ℕ → List ℕ
name_or_word [] = unnamed
name_or_word (b ∷ bs) = b ∷ bs

-- a line for each node, in file order
unfoldable pub node_lines : Forest → List ℕ
node_lines no_nodes = []
node_lines (node d f g) = text_line (name_or_word d.name.bytes) ++ (node_lines f ++ node_lines g)

-- the lines for what was judged: number and place; where accepted, version and n_texs, the ten counts, and the nodes' names
unfoldable pub listed : Result Scene → List ℕ
listed (accept t) = number_line (0 ∷ 0 ∷ []) ++ (number_line (t.version ∷ t.slots ∷ []) ++ (number_line (counts t) ++ node_lines t.nodes))
listed (reject n p) = number_line (n ∷ p ∷ [])

-- what 01's lister prints for the input s: the lines of its verdict under the strict mode; `1 0` where it is over 65,536 bytes
unfoldable pub listing : List ℕ → List ℕ
listing s = if (ltb most_listed (length s)) (number_line (1 ∷ 0 ∷ [])) (listed (judge Strict s))

-- what `list` promises for a file s, of the output before it (xs) and after it (ys), and of the size
pub record Lists (s xs ys : List ℕ) (size : ℕ) : Type 0 where
  -- the output is the text, then what stood there
  pub text : ys ≡ over (listing s) xs
  -- the size is the text's length
  pub bytes : size ≡ length (listing s)
  -- the whole text has room
  pub inside : size ≤ length ys
  -- the first `size` bytes of the output are the text
  pub printed : take size ys ≡ listing s
