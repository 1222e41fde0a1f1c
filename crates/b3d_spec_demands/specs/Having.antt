-- Which file has which tables: the same words, name places aside, and the same names, compared by their bytes.
use Rattle.std.specs.Prelude.{◌≡◌, ℕ, ◌+◌, ◌-◌, ◌*◌, ◌≤◌, ◌<◌, List, [], map, length, take, drop, get_or, leb}
use Rattle.std.proofs.Math.Option.{Option, none, some}
use Rattle.wire.specs.Test.{if}
use Rattle.layout.specs.Result.{accept}
use Rattle.layout.specs.Lists.{All}
use Rattle.b3d_spec.specs.declared.Mode.{Mode}
use Rattle.b3d_spec.specs.Answers.{judge, read_answer, read_table}
use Rattle.b3d_spec.specs.Rebuild.{Lent, lent_rows}
use Rattle.b3d_spec.specs.Scene.{Scene}
use Rattle.layout.specs.Rows.{joined}
use Rattle.b3d_spec.specs.Tables.{width, rows, tables}
use Rattle.b3d_spec.specs.Names.{named, unplaced, unnamed}
use Rattle.b3d_spec.specs.Columns as columns

-- the bytes of ns that row r, which begins with a place and a length, names; none where they pass the end of ns
unfoldable pub name_of : List ℕ → List ℕ → Option (List ℕ)
name_of ns r = if (leb (get_or r columns.name_place 0 + get_or r columns.name_length 0) (length ns)) (some (take (get_or r columns.name_length 0) (drop (get_or r columns.name_place 0) ns))) none

-- the names of the rows rs of table k, in the bytes ns: tables 1 to 3 have one in each row, the others none
unfoldable pub names_of : List ℕ → ℕ → List (List ℕ) → List (Option (List ℕ))
names_of ns k rs = if (leb k 3) (map (name_of ns) rs) []

-- row r begins with the place and the length of a name in s: bytes without a zero, a zero behind them
pub record NameAt (s r : List ℕ) : Type 0 where
  -- the name and its zero lie in s
  pub inside : get_or r columns.name_place 0 + get_or r columns.name_length 0 < length s
  -- none of its bytes is zero
  pub no_zero : All (λ c. 0 < c) (take (get_or r columns.name_length 0) (drop (get_or r columns.name_place 0) s))
  -- the byte behind it is zero
  pub zero_behind : get_or s (get_or r columns.name_place 0 + get_or r columns.name_length 0) 0 ≡ 0

-- the file s is accepted in a mode, and has the lent tables T with names in ns: the same words, name places aside, and the same names
pub record Has (mode : Mode) (s : List ℕ) (T : Lent) (ns : List ℕ) : Type 0 where
  -- what s says
  pub scene : Scene
  -- s is accepted
  pub accepted : judge mode s ≡ accept scene
  -- the counted rows are lent
  pub lent : All (λ k. width k * T.count k ≤ length (T.words k)) tables
  -- the versions agree
  pub version : scene.version ≡ T.version
  -- n_texs agree
  pub slots : scene.slots ≡ T.slots
  -- the rows of each table agree, name places aside, and so their number
  pub cells : All (λ k. named unplaced k (rows k scene) ≡ named unplaced k (lent_rows T k)) tables
  -- the names agree, compared by their bytes
  pub names : All (λ k. names_of s k (rows k scene) ≡ names_of ns k (lent_rows T k)) tables

-- what the reader in a mode leaves of the file s in tables that held xs, with its answer's version, n_texs and counts
unfoldable pub filled : Mode → (ℕ → List ℕ) → List ℕ → Lent
filled mode xs s =
    let room : ℕ → ℕ = λ k. length (xs k) in
    record {
      version = (read_answer mode room s).version;
      slots = (read_answer mode room s).n_texs;
      count = λ k. get_or (read_answer mode room s).counts (k - 1) 0;
      words = λ k. read_table mode k room s (xs k);
    }

-- What 01 calls read back: by the reader, lent xs, at least the counted rows. The file b is accepted in a mode and fills just the tables T: the same
-- words, name places aside, and the same names, by their bytes.
pub record ReadBack (mode : Mode) (b : List ℕ) (T : Lent) (ns : List ℕ) (xs : ℕ → List ℕ) : Type 0 where
  -- the reader's number is 0
  pub accepted : (read_answer mode (λ k. length (xs k)) b).number ≡ 0
  -- its version is that of T
  pub version : (filled mode xs b).version ≡ T.version
  -- its n_texs is that of T
  pub slots : (filled mode xs b).slots ≡ T.slots
  -- its row counts are those of T
  pub counts : All (λ k. (filled mode xs b).count k ≡ T.count k) tables
  -- the rows of each table are those of T, name places aside
  pub cells : All (λ k. named unplaced k (lent_rows (filled mode xs b) k) ≡ named unplaced k (lent_rows T k)) tables
  -- the names are those of T, compared by their bytes
  pub names : All (λ k. names_of b k (lent_rows (filled mode xs b) k) ≡ names_of ns k (lent_rows T k)) tables

-- the tables of scene t with each name empty, its place and length 0
unfoldable pub emptied : Scene → Lent
emptied t = record { version = t.version; slots = t.slots; count = λ k. length (rows k t); words = λ k. joined (named unnamed k (rows k t)) }
