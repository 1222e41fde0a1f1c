-- A file of some 4,000 bytes is read by computing: a node with a KEYS of 1,000 frames.
use mathlib.Core.Path.{◌≡◌, refl}
use Prim.Native.Nat.{ℕ}
use mathlib.Core.List.{List, [], ◌∷◌}
use lib.ListN.{length, replicate}
use Rattle.layout.specs.Write.{write_words}
use Rattle.b3d_spec.specs.declared.Mode.TheVariants.{Strict}
use Rattle.b3d_spec.specs.declared.Tag.TheVariants.{KEYS}
use Rattle.b3d_spec.specs.Tags.{code}
use Rattle.b3d_spec.specs.Answers.{read_answer}
use Rattle.b3d_spec.proofs.Computing.{computing}
use Rattle.b3d_spec.proofs.Cases.{file, a_node}

pub large : List ℕ
large = file 4065 1 (a_node 4053 [] (write_words (code KEYS ∷ 4004 ∷ 0 ∷ []) (write_words (replicate 1000 9) [])))

pub large_size : length large ≡ 4073
unfolding large
large_size = refl

pub large_read : read_answer Strict (λ k. 11000) large ≡ record { number = 0; place = 0; version = 1; n_texs = 0; counts = 0 ∷ 0 ∷ 1 ∷ 0 ∷ 0 ∷ 0 ∷ 0 ∷ 0 ∷ 1 ∷ 1000 ∷ [] }
unfolding computing large
large_read = refl
