-- The laws that the rest rests on, in one place. Their proofs are in the files named.
use mathlib.Core.Logic.{◌⊎◌}
use mathlib.Core.Path.{◌≡◌, sym}
use Prim.Native.Nat.{ℕ, ◌≤◌}
use mathlib.Core.Bool.{false, not}
use mathlib.Core.Option.{none}
use mathlib.Core.List.{List}
use lib.ListN.{length}
use lib.Dec.{T as True}
use Rattle.wire.specs.Test.{if}
use Rattle.wire.specs.Bytes.{AllBytes, word_at}
use Rattle.layout.specs.Result.{accept, reject}
use Rattle.layout.specs.Rules.{unit, holds}
use Rattle.layout.proofs.RefusalLaws.{OneToNine}
use Rattle.layout.specs.Rows.{most_bytes}
use Rattle.b3d_spec.specs.declared.Mode.{Mode}
use Rattle.b3d_spec.specs.declared.Mode.TheVariants.{Strict, Lenient}
use Rattle.b3d_spec.specs.Scene.{Scene}
use Rattle.b3d_spec.specs.Colours.{passes}
use Rattle.b3d_spec.specs.Rebuild.{Lent, lent_rows, rebuild}
use Rattle.b3d_spec.specs.Tables.{rows}
use Rattle.b3d_spec.specs.Parse.{parse}
use Rattle.b3d_spec.specs.Encode.{encode}
use Rattle.b3d_spec.specs.Names.{without_places, cleared}
use Rattle.b3d_spec.specs.Sizes.{size_of}
use Rattle.b3d_spec.proofs.WellFormedLaws.{WellFormed}
use Rattle.b3d_spec.proofs.TwoModeLaws.{Passes, mode_got, mode_yes, mode_no, mode_bad, passes_bare, rebuild_mode}
use Rattle.b3d_spec.proofs.Files.FileLaws.{parse-back, parse-fine}
use Rattle.b3d_spec.proofs.Files.NameLaws.{encode_bare, Copied, copy-back, same_copy, shortest}
use Rattle.b3d_spec.proofs.Files.ByteLaws.{encode-bytes}
use Rattle.b3d_spec.proofs.Files.SizeLaws.{encode-size}
use Rattle.b3d_spec.proofs.RefusalLaws.{parse-refusal}
use Rattle.b3d_spec.proofs.Files.PlaceLaws.{NamesIn, parse_names}

-- a scene that fits, with colours that the mode takes, is what its file parses to, name places aside
pub back : (mode : Mode) (t : Scene) → WellFormed t → Passes mode t → length (encode t) ≤ most_bytes → (u : Scene) × (parse mode (encode t) ≡ accept u) × (without_places u ≡ without_places t)
back mode t f c le = let x = parse-back t f le in (x.0, mode_yes mode (encode t) x.0 x.1 (passes_bare mode t x.0 (sym x.2) c), x.2)

-- what parses fits, its file is no longer than the one it was read from, and the mode takes its colours
pub fine : (mode : Mode) (s : List ℕ) (t : Scene) → AllBytes s → parse mode s ≡ accept t → WellFormed t × (length (encode t) ≤ length s) × Passes mode t
fine mode s t b e = let g = mode_got mode s t e in let f = parse-fine s t b g.0 in (f.0, f.1, g.1)

-- no file of a scene, name places aside, is shorter than what `encode` writes
pub least : (mode : Mode) (s : List ℕ) (t u : Scene) → AllBytes s → parse mode s ≡ accept u → without_places u ≡ without_places t → length (encode t) ≤ length s
least mode s t u b e q = shortest s t u b (mode_got mode s u e).0 q

-- the strict mode gives what the lenient one gives where all colours pass
pub strict : (s : List ℕ) (t : Scene) → parse Strict s ≡ accept t → (parse Lenient s ≡ accept t) × Passes Strict t
strict = mode_got Strict

pub lenient : (s : List ℕ) (t : Scene) → parse Lenient s ≡ accept t → Passes Strict t → parse Strict s ≡ accept t
lenient = mode_yes Strict

-- else 6, at a number of the file that does not pass as a colour; every other refusal is that of the lenient mode
pub bad-colour : (s : List ℕ) (t : Scene) → parse Lenient s ≡ accept t → True (not (passes Strict (λ k. rows k t))) → (p : ℕ) × (parse Strict s ≡ reject 6 p) × (holds unit (word_at s p) ≡ false)
bad-colour = mode_no

pub no-colour : (s : List ℕ) (n p : ℕ) → parse Strict s ≡ reject n p → (parse Lenient s ≡ reject n p) ⊎ ((n ≡ 6) × (holds unit (word_at s p) ≡ false))
no-colour = mode_bad

-- the strict writer's verdict is the lenient one's where the colours of tables 2 and 5 pass, else there is no scene
pub verdict : (mode : Mode) (L : Lent) (ns : List ℕ) → rebuild mode L ns ≡ if (passes mode (lent_rows L)) (rebuild Lenient L ns) none
verdict = rebuild_mode

-- a file is bytes, and does not depend on name places
pub file-bytes : (t : Scene) → WellFormed t → AllBytes (encode t)
file-bytes = encode-bytes

pub file_bare : (t : Scene) → encode (without_places t) ≡ encode t
file_bare = encode_bare

-- how long it is, in numbers that can be added up
pub file-length : (t : Scene) → WellFormed t → length (encode t) ≡ size_of t
file-length = encode-size

-- a refusal has a number from 1 to 9
pub refused : (mode : Mode) (s : List ℕ) (n p : ℕ) → parse mode s ≡ reject n p → OneToNine n
refused = parse-refusal

-- each name stands in the file at its place
pub names_stand : (mode : Mode) (s : List ℕ) (t : Scene) → parse mode s ≡ accept t → NamesIn s t
names_stand mode s t e = parse_names s t (mode_got mode s t e).0

-- the lenient mode alone: the copy of an accepted file is accepted, holds the scene without names, and cleared again is itself
pub copy : (s : List ℕ) (t : Scene) → AllBytes s → parse Lenient s ≡ accept t → Copied t
copy = copy-back

-- equal copies are copies of scenes that differ in names alone
pub copy-differs : (t u : Scene) → WellFormed t → WellFormed u → length (encode (cleared t)) ≤ most_bytes → encode (cleared t) ≡ encode (cleared u) → cleared t ≡ cleared u
copy-differs = same_copy
