-- What a comparison of two files answers, and what it leaves in the output, on every input. Both are read under the lenient mode: the first file's 1 to 10,
-- then the second's, then 11.
use Rattle.std.specs.Prelude.{ℕ, List, length, leb}
use Rattle.wire.specs.Bytes.{over}
use Rattle.wire.specs.Test.{if}
use Rattle.layout.specs.Result.{Result, accept, reject}
use Rattle.layout.specs.Refusals as refusals
use Rattle.b3d_spec.specs.declared.Mode.TheVariants.{Lenient}
use Rattle.b3d_spec.specs.Answers.{judge}
use Rattle.b3d_spec.specs.Scene.{Scene}
use Rattle.b3d_compare_spec.specs.declared.Compared.{Compared}
use Rattle.b3d_compare_spec.specs.Changes.{changes}
use Rattle.b3d_compare_spec.specs.List.{list_bytes}

pub data Comparison : Type 0 where
  -- the list
  listed : List ℕ → Comparison
  -- a refusal: its number, its place, and of which file, 1 or 2; 0 for the output
  refused : ℕ → ℕ → ℕ → Comparison

-- go on with the scene of file i, else refuse
unfoldable pub of_file : ℕ → Result Scene → (Scene → Comparison) → Comparison
of_file i (accept t) go = go t
of_file i (reject n p) go = refused n p i

unfoldable pub room_for : ℕ → List ℕ → Comparison
room_for room b = if (leb (length b) room) (listed b) (refused refusals.too_short (length b) 0)

unfoldable pub compare : List ℕ → List ℕ → ℕ → Comparison
compare a b room = of_file 1 (judge Lenient a) (λ t. of_file 2 (judge Lenient b) (λ u. room_for room (list_bytes (changes a b t u))))

unfoldable pub compared : Comparison → Compared
compared (listed b) = record { number = 0; place = 0; which = 0; size = length b }
compared (refused n p i) = record { number = n; place = p; which = i; size = 0 }

-- the output afterwards: the list, then what stood there; where refused, what stood there
unfoldable pub output_after : Comparison → List ℕ → List ℕ
output_after (listed b) out = over b out
output_after (refused n p i) out = out

unfoldable pub compare_answer : List ℕ → List ℕ → List ℕ → Compared
compare_answer a b out = compared (compare a b (length out))

unfoldable pub compare_output : List ℕ → List ℕ → List ℕ → List ℕ
compare_output a b out = output_after (compare a b (length out)) out
