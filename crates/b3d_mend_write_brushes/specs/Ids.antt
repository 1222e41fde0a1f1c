-- What becomes of ids one after the other, each -1 or below a limit.
use Rattle.std.specs.Prelude.{ℕ, List, drop, replicate}
use Rattle.layout.specs.Parts.{words_of}
use Rattle.layout.specs.Rules.{names_or_none}
use Rattle.b3d_mend_spec.specs.Edits.{Edit}
use Rattle.b3d_mend_spec.specs.Walks.{word_edits}

unfoldable pub id_edits : ℕ → ℕ → ℕ → List ℕ → List Edit
id_edits limit n p s = word_edits (replicate n (names_or_none limit)) (words_of n (drop p s))
