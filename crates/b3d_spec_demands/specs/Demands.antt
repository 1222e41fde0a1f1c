-- The demands, in the paper's words.
use Rattle.std.specs.Prelude.{◌⊎◌, ◌≡◌, false, not, ℕ, ◌*◌, ◌≤◌, ◌<◌, List, [], ◌∷◌, length, replicate, T}
use Rattle.wire.specs.Bytes.{AllBytes, over, word_at}
use Rattle.layout.specs.Result.{accept, reject}
use Rattle.layout.specs.Rules.{unit, holds as keeps}
use Rattle.layout.specs.Lists.{All}
use Rattle.layout.specs.Refusals as refusals
use Rattle.b3d_spec.specs.declared.Mode.{Mode}
use Rattle.b3d_spec.specs.declared.Mode.TheVariants.{Strict, Lenient}
use Rattle.b3d_spec.specs.Answers.{judge, read, read_answer, read_table, write, copy, clear}
use Rattle.b3d_spec.specs.Colours.{passes}
use Rattle.b3d_spec.specs.Names.{named, unplaced, unnamed, name_off}
use Rattle.b3d_spec.specs.Parse.{parse}
use Rattle.b3d_spec.specs.Rebuild.{Lent}
use Rattle.b3d_spec.specs.Rules.{row_limit}
use Rattle.b3d_spec.specs.Scene.{Scene}
use Rattle.b3d_spec.specs.Tables.{width, rows, table, tables, counts}
use Rattle.b3d_spec_demands.specs.Having.{NameAt, Has, emptied}

-- table k of scene t has no more rows than the limit
abbrev pub FewRows : Scene → ℕ → Type 0
FewRows t k = length (rows k t) ≤ row_limit

-- room k lent words have room for the rows of table k of scene t
abbrev pub HasRoom : (ℕ → ℕ) → Scene → ℕ → Type 0
HasRoom room t k = width k * length (rows k t) ≤ room k

-- table p is the lowest of the ten of which P does not hold
pub record Lowest (P : ℕ → Type 0) (p : ℕ) : Type 0 where
  -- p is a table's number
  pub from : 1 ≤ p
  -- there are ten tables
  pub to : p ≤ 10
  -- P does not hold of p
  pub fails : P p → ⊥
  -- P holds of each lower table
  pub before : (k : ℕ) → 1 ≤ k → k < p → P k

-- Demands 1 and 2 on the reader in a mode, for a file s and lent tables of `room` words.
pub record Reading (mode : Mode) (room : ℕ → ℕ) (s : List ℕ) : Type 0 where
  -- a file that is read keeps the layout rules, checks 1 to 9
  pub keeps : (t : Scene) → read mode room s ≡ accept t → parse mode s ≡ accept t
  -- none of its tables has more rows than the limit, check 10
  pub few : (t : Scene) → read mode room s ≡ accept t → All (FewRows t) tables
  -- each lent table has room for its rows, check 11
  pub fits : (t : Scene) → read mode room s ≡ accept t → All (HasRoom room t) tables
  -- a file that keeps these three is read
  pub accepted : (t : Scene) → parse mode s ≡ accept t → All (FewRows t) tables → All (HasRoom room t) tables → read mode room s ≡ accept t
  -- each table then holds the file's own rows, and the words past the last row stay as found
  pub holds : (t : Scene) → read mode room s ≡ accept t → (k : ℕ) (xs : List ℕ) → read_table mode k room s xs ≡ over (table k t) xs
  -- the answer is 0 at place 0, the file's version, n_texs and ten row counts
  pub says : (t : Scene) → read mode room s ≡ accept t
      → read_answer mode room s ≡ record { number = 0; place = 0; version = t.version; n_texs = t.slots; counts = counts t }
  -- each of its names stands in the file where the first two words of its row say
  pub names : AllBytes s → (t : Scene) → read mode room s ≡ accept t → All (λ k. All (NameAt s) (rows k t)) (1 ∷ 2 ∷ 3 ∷ [])
  -- a refusal changes no lent word
  pub untouched : (n p : ℕ) → read mode room s ≡ reject n p → (k : ℕ) (xs : List ℕ) → read_table mode k room s xs ≡ xs
  -- a refusal returns its number and place, with version, n_texs and counts all 0
  pub refuses : (n p : ℕ) → read mode room s ≡ reject n p
      → read_answer mode room s ≡ record { number = n; place = p; version = 0; n_texs = 0; counts = replicate 10 0 }
  -- 1 to 10 come first, whatever tables are lent
  pub first : (n p : ℕ) → judge mode s ≡ reject n p → read mode room s ≡ reject n p
  -- 10 is at the lowest table with more rows than the limit
  pub limit : (t : Scene) → parse mode s ≡ accept t → (p : ℕ) → Lowest (FewRows t) p → read mode room s ≡ reject refusals.too_many_rows p
  -- 11 is at the lowest table that is lent too short
  pub short : (t : Scene) → judge mode s ≡ accept t → (p : ℕ) → Lowest (HasRoom room t) p → read mode room s ≡ reject refusals.too_short p

-- Demand 2 on the writer in a mode, for lent tables T with names in ns.
pub record Writing (mode : Mode) (T : Lent) (ns : List ℕ) : Type 0 where
  -- 12 only where no accepted file has those names and, name places aside, those words
  pub unsound : (room : ℕ) → write mode T ns room ≡ reject refusals.no_such_tables 0 → (s : List ℕ) → AllBytes s → Has mode s T ns → ⊥
  -- 12 wherever no accepted file has those names and words
  pub no_file : ((s : List ℕ) → AllBytes s → Has mode s T ns → ⊥) → (room : ℕ) → write mode T ns room ≡ reject refusals.no_such_tables 0
  -- the file written is accepted and has just those names and words
  pub reads_back : (room : ℕ) (b : List ℕ) → write mode T ns room ≡ accept b → Has mode b T ns
  -- the reader, lent at least the counted rows, reads it back
  pub read_back : (room : ℕ) (b : List ℕ) (e : write mode T ns room ≡ accept b) (rooms : ℕ → ℕ) → All (λ k. width k * T.count k ≤ rooms k) tables
      → read mode rooms b ≡ accept (reads_back room b e).scene
  -- what is written are bytes
  pub bytes : (room : ℕ) (b : List ℕ) → write mode T ns room ≡ accept b → AllBytes b
  -- no file with those tables is shorter
  pub least : (room : ℕ) (b : List ℕ) → write mode T ns room ≡ accept b → (s : List ℕ) → AllBytes s → Has mode s T ns → length b ≤ length s
  -- one file is written into every output that has room for it
  pub enough : (room : ℕ) (b : List ℕ) → write mode T ns room ≡ accept b → (more : ℕ) → length b ≤ more → write mode T ns more ≡ accept b
  -- an output with less room gets 11 and the file's size, which comes after 12
  pub short : (room : ℕ) (b : List ℕ) → write mode T ns room ≡ accept b → (less : ℕ) → less < length b
      → write mode T ns less ≡ reject refusals.too_short (length b)
  -- an output as long as some file that has the tables has room for the file written
  pub given_room : (s : List ℕ) → AllBytes s → Has mode s T ns → (b : List ℕ) × (write mode T ns (length s) ≡ accept b)

-- What the two modes make of a file s (E8).
pub record Colours (s : List ℕ) : Type 0 where
  -- a file that the strict mode accepts is accepted by the lenient one, with the same numbers
  pub same : (t : Scene) → judge Strict s ≡ accept t → judge Lenient s ≡ accept t
  -- each colour in its tables then passes: it is from 0 to 1
  pub pass : (t : Scene) → judge Strict s ≡ accept t → T (passes Strict (λ k. rows k t))
  -- a file that the lenient mode accepts, and each of whose colours passes, is accepted by the strict one
  pub taken : (t : Scene) → judge Lenient s ≡ accept t → T (passes Strict (λ k. rows k t)) → judge Strict s ≡ accept t
  -- if one of its colours does not pass, the strict mode refuses it with 6, at a number of the file that does not pass
  pub refused : (t : Scene) → judge Lenient s ≡ accept t → T (not (passes Strict (λ k. rows k t))) → (p : ℕ) × (judge Strict s ≡ reject refusals.range p)
      × (keeps unit (word_at s p) ≡ false)
  -- each other refusal of the strict mode is the lenient one's
  pub others : (n p : ℕ) → judge Strict s ≡ reject n p → (judge Lenient s ≡ reject n p) ⊎ ((n ≡ refusals.range) × (keeps unit (word_at s p) ≡ false))

-- Two files, accepted in lenient mode, alike in what 01 calls a file's words: version, texture slots, row counts and every table word but the places and
-- lengths of names. The rows are compared as lists, so the counts with them.
pub record Alike (s v : List ℕ) : Type 0 where
  -- what s says
  pub one : Scene
  -- what v says
  pub other : Scene
  -- s is accepted
  pub one_is : judge Lenient s ≡ accept one
  -- v is accepted
  pub other_is : judge Lenient v ≡ accept other
  -- the versions agree
  pub version : one.version ≡ other.version
  -- n_texs agree
  pub slots : one.slots ≡ other.slots
  -- the rows of each table agree, name places and lengths left out
  pub cells : All (λ k. named name_off k (rows k one) ≡ named name_off k (rows k other)) tables

-- Demand 3 on the clearer, for a file s, in lenient mode. Private are: names, passed-over chunks, where ANIM stands among KEYS, TEXS without items, BRUS
-- without items and its n_texs; the copy depends on none of them.
pub record Clearing (s : List ℕ) : Type 0 where
  -- clearing depends on nothing but a file's words: alike files get the same answer and the same copy
  pub same : (v : List ℕ) → AllBytes v → Alike s v → (room : ℕ) → clear s room ≡ clear v room
  -- clearing depends on each of those words: accepted files with one copy are alike (E10)
  pub apart : (v : List ℕ) → AllBytes v → (t u : Scene) → judge Lenient s ≡ accept t → judge Lenient v ≡ accept u → copy t ≡ copy u → Alike s v
  -- an accepted file is cleared into each output that has room for its copy
  pub enough : (t : Scene) → judge Lenient s ≡ accept t → (room : ℕ) → length (copy t) ≤ room → clear s room ≡ accept (copy t)
  -- it is refused with 11, at the copy's length, where the output is shorter than the copy
  pub short : (t : Scene) → judge Lenient s ≡ accept t → (room : ℕ) → room < length (copy t) → clear s room ≡ reject refusals.too_short (length (copy t))
  -- the copy is what the writer makes of the copy's words: those of the file with each name empty, wherever the names stand
  pub as_written : (t : Scene) → judge Lenient s ≡ accept t → (T : Lent) (ns : List ℕ) → Has Lenient (copy t) T ns → (room : ℕ)
      → write Lenient T ns room ≡ clear s room
  -- the file's own tables with each name empty are such words, whatever bytes are lent for names
  pub emptied_has : (t : Scene) → judge Lenient s ≡ accept t → (ns : List ℕ) → Has Lenient (copy t) (emptied t) ns
  -- the copy is what the writer makes of the file's own tables with each name empty, whatever bytes are lent for names
  pub emptied_written : (t : Scene) → judge Lenient s ≡ accept t → (ns : List ℕ) (room : ℕ) → write Lenient (emptied t) ns room ≡ clear s room
  -- a file that is not accepted is refused as the reader refuses it
  pub first : (n p : ℕ) → judge Lenient s ≡ reject n p → (room : ℕ) → clear s room ≡ reject n p
  -- what the copy says
  pub scene : (t : Scene) → judge Lenient s ≡ accept t → Scene
  -- the copy is accepted
  pub accepted : (t : Scene) (e : judge Lenient s ≡ accept t) → judge Lenient (copy t) ≡ accept (scene t e)
  -- its version is the file's
  pub version : (t : Scene) (e : judge Lenient s ≡ accept t) → (scene t e).version ≡ t.version
  -- its n_texs is the file's
  pub slots : (t : Scene) (e : judge Lenient s ≡ accept t) → (scene t e).slots ≡ t.slots
  -- its table words are the file's, with each name empty, the places of names aside
  pub cells : (t : Scene) (e : judge Lenient s ≡ accept t) → All (λ k. named unplaced k (rows k (scene t e)) ≡ named unnamed k (rows k t)) tables
  -- the reader, lent tables that have room for the file, reads the copy back
  pub read_back : (t : Scene) (e : judge Lenient s ≡ accept t) (rooms : ℕ → ℕ) → All (HasRoom rooms t) tables → read Lenient rooms (copy t) ≡ accept (scene t e)
  -- what is written are bytes
  pub bytes : (t : Scene) → judge Lenient s ≡ accept t → AllBytes (copy t)
  -- cleared again, with any room, the copy gets the answer that the file gets, and gives its own bytes
  pub again : (t : Scene) → judge Lenient s ≡ accept t → (room : ℕ) → clear (copy t) room ≡ clear s room
