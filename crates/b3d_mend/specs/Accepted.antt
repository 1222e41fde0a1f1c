-- A file that the reader accepts under the lenient mode.
use Rattle.std.specs.Prelude.{◌≡◌, ◌<◌, List, length, ℕ}
use Rattle.wire.specs.Bytes.{AllBytes}
use Rattle.layout.specs.Result.{accept}
use Rattle.b3d_spec.specs.declared.Mode.TheVariants.{Lenient}
use Rattle.b3d_spec.specs.Answers.{judge}
use Rattle.b3d_spec.specs.Scene.{Scene}

-- The file s says `scene`; its length is a number of four bytes.
pub record Accepted (s : List ℕ) : Type 0 where
  pub bytes : AllBytes s
  pub scene : Scene
  pub is : judge Lenient s ≡ accept scene
  pub small : length s < 0x100000000
