-- What holds of the list of differences, in the words of 02.
use Rattle.std.specs.Prelude.{◌≡◌, ◌⊎◌, ℕ, ◌+◌, ◌*◌, ◌<◌, ◌≤◌, List, [], ◌∷◌, ◌++◌, map, length, get_or}
use Rattle.std.proofs.Math.Option.{some}
use Rattle.wire.specs.Bytes.{AllBytes}
use Rattle.layout.specs.Lists.{All}
use Rattle.layout.specs.Result.{accept, reject}
use Rattle.layout.specs.Refusals as refusals
use Rattle.b3d_spec.specs.declared.Mode.TheVariants.{Lenient}
use Rattle.b3d_spec.specs.Answers.{judge}
use Rattle.b3d_spec.specs.Rebuild.{name_from, names}
use Rattle.b3d_spec.specs.Scene.{Scene}
use Rattle.b3d_spec.specs.Tables.{rows, tables}
use Rattle.b3d_compare_spec.specs.Words.{words_of}
use Rattle.b3d_compare_spec.specs.Changes.{Cell, cell_at, Change, twelve, rows_of, changes}
use Rattle.b3d_compare_spec.specs.List.{change_bytes, list_bytes, take_change, read_list}
use Rattle.b3d_compare_spec.specs.Compare.{listed, refused, compare}

-- x is one of these
abbrev pub In : {A : Type 0} → A → List A → Type 0
In x [] = ⊥
In x (y ∷ l) = (x ≡ y) ⊎ In x l

-- the order of table, row and word
abbrev pub Before : Change → Change → Type 0
Before c d = (c.table < d.table) ⊎ ((c.table ≡ d.table) × ((c.row < d.row) ⊎ ((c.row ≡ d.row) × (c.word < d.word))))

-- each before all that follow
abbrev pub InOrder : List Change → Type 0
InOrder [] = Unit {0}
InOrder (c ∷ l) = All (Before c) l × InOrder l

-- the scenes t and u of files a and b
module _ (a b : List ℕ) (t u : Scene) where
  -- word w of row r of table k, in the first file
  abbrev pub first_cell : ℕ → ℕ → ℕ → Cell
  first_cell k r w = cell_at k a (get_or (rows_of k t) r []) w

  -- in the second
  abbrev pub second_cell : ℕ → ℕ → ℕ → Cell
  second_cell k r w = cell_at k b (get_or (rows_of k u) r []) w

  -- the entry that these two make
  abbrev pub change_at : ℕ → ℕ → ℕ → Change
  change_at k r w = record { table = k; row = r; word = w; first = first_cell k r w; second = second_cell k r w }

  -- word w of row r of table k, one of these, is there in both and differs
  pub record Differs (ks : List ℕ) (k r w : ℕ) : Type 0 where
    -- the table is one of them, and has the row in both files, and the word
    pub table : In k ks
    pub first : r < length (rows_of k t)
    pub second : r < length (rows_of k u)
    pub word : w < words_of k
    -- the two cells are not the same
    pub differs : first_cell k r w ≡ second_cell k r w → ⊥

  -- an entry of the list: of a cell that differs
  pub record EntryIs (ks : List ℕ) (c : Change) : Type 0 where
    -- its table, row and word
    pub table : ℕ
    pub row : ℕ
    pub word : ℕ
    -- there the files differ
    pub of : Differs ks table row word
    -- and the entry has the two cells
    pub is : c ≡ change_at table row word

  -- a list has every cell that differs in these tables and nothing else, once each, in order
  pub record Exactly (ks : List ℕ) (l : List Change) : Type 0 where
    -- every cell that differs
    pub each : (k r w : ℕ) → Differs ks k r w → In (change_at k r w) l
    -- nothing else
    pub only : (c : Change) → In c l → EntryIs ks c
    -- each before the next, so once
    pub once : InOrder l

  -- nothing differs: version, n_texs and the counts, and every cell, names by their bytes
  pub record Agree : Type 0 where
    -- the twelve
    pub numbers : twelve t ≡ twelve u
    -- the cells of the ten tables
    pub cells : (k r w : ℕ) → In k tables → r < length (rows_of k t) → w < words_of k → first_cell k r w ≡ second_cell k r w

  -- what is listed
  pub record Listed : Type 0 where
    -- any of the twelve differs: those that do, and no more
    pub numbers : (twelve t ≡ twelve u → ⊥) → Exactly (0 ∷ []) (changes a b t u)
    -- otherwise every cell that differs
    pub cells : twelve t ≡ twelve u → Exactly tables (changes a b t u)
    -- an empty list exactly when nothing differs
    pub empty : changes a b t u ≡ [] → Agree
    -- and if nothing does
    pub nothing : Agree → changes a b t u ≡ []

  -- how the bytes of the list are read
  pub record Readable : Type 0 where
    -- an entry is read back from its bytes, whatever follows them
    pub entry : (c : Change) → In c (changes a b t u) → (r : List ℕ) → take_change (change_bytes c r) ≡ some (c, r)
    -- the whole list too
    pub list : read_list (list_bytes (changes a b t u)) ≡ some (changes a b t u)
    -- so two lists that are not the same have other bytes
    pub apart : (c d : List ℕ) (v w : Scene) → list_bytes (changes a b t u) ≡ list_bytes (changes c d v w) → changes a b t u ≡ changes c d v w

-- two files that are compared, the output having so much room
pub record Compares (a b : List ℕ) (room : ℕ) : Type 0 where
  -- the first file's 1 to 10
  pub first : (n p : ℕ) → judge Lenient a ≡ reject n p → compare a b room ≡ refused n p 1
  -- then the second's
  pub second : (t : Scene) (n p : ℕ) → judge Lenient a ≡ accept t → judge Lenient b ≡ reject n p → compare a b room ≡ refused n p 2
  -- then 11, exactly where the output is shorter than the list, with the size that is needed
  pub short : (t u : Scene) → judge Lenient a ≡ accept t → judge Lenient b ≡ accept u → room < length (list_bytes (changes a b t u))
      → compare a b room ≡ refused refusals.too_short (length (list_bytes (changes a b t u))) 0
  -- otherwise the list
  pub list : (t u : Scene) → judge Lenient a ≡ accept t → judge Lenient b ≡ accept u → length (list_bytes (changes a b t u)) ≤ room
      → compare a b room ≡ listed (list_bytes (changes a b t u))
  -- of two accepted files the list has what differs
  pub says : (t u : Scene) → judge Lenient a ≡ accept t → judge Lenient b ≡ accept u → Listed a b t u
  -- and its bytes can be read
  pub reads : (t u : Scene) → judge Lenient a ≡ accept t → judge Lenient b ≡ accept u → Readable a b t u
  -- it has at most 53 bytes for each of the first file's, and one for each of the second's
  pub most : AllBytes a → AllBytes b → (t u : Scene) → judge Lenient a ≡ accept t → judge Lenient b ≡ accept u
      → length (list_bytes (changes a b t u)) ≤ 53 * length a + length b
  -- the texts that are compared are the names of the first file: of textures, brushes and nodes
  pub first_names : (t : Scene) → judge Lenient a ≡ accept t → map (name_from a) (rows 1 t ++ (rows 2 t ++ rows 3 t)) ≡ names t
  -- of the second
  pub second_names : (u : Scene) → judge Lenient b ≡ accept u → map (name_from b) (rows 1 u ++ (rows 2 u ++ rows 3 u)) ≡ names u
  -- no byte is listed when nothing differs
  pub same : (t u : Scene) → judge Lenient a ≡ accept t → judge Lenient b ≡ accept u → Agree a b t u → compare a b room ≡ listed []
  -- and only then
  pub differs : compare a b room ≡ listed [] → (t u : Scene) → judge Lenient a ≡ accept t → judge Lenient b ≡ accept u → Agree a b t u
