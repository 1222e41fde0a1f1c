-- How long the list of two accepted files can be. An entry takes at most 15 bytes and its texts; each row takes bytes of the file, and so does each name.
use mathlib.Core.Path.{◌≡◌, refl, ap, ◌∙◌}
use Prim.Native.Nat.{ℕ, zero, suc, ◌+◌, ◌*◌, ◌<◌, ◌≤◌}
use native.Mathlib.Nat.{suc-mul, mul-le-mul_left}
use native.Mathlib.Omega.{arith}
use mathlib.Core.List.{List, [], ◌∷◌, ◌++◌, map}
use lib.ListN.{length, take, drop, get_or, length-append, length-map, length-take}
use Rattle.wire.specs.Bytes.{AllBytes, IsWord}
use Rattle.wire.specs.Test.{if}
use Rattle.layout.specs.Result.{accept}
use Rattle.layout.specs.Parts.{Name}
use Rattle.layout.specs.Rules.{NONE}
use Rattle.layout.proofs.AllLaws.{All, all_map, all_of_map}
use Rattle.layout.proofs.ResultLaws.{if_case}
use Rattle.shared_seven_bit_groups.proofs.GroupLaws.{groups-most}
use Rattle.b3d_spec.specs.declared.Mode.TheVariants.{Lenient}
use Rattle.b3d_spec.specs.declared.Counts.{Counts}
use Rattle.b3d_spec.specs.Answers.{judge}
use Rattle.b3d_spec.specs.Mask.{padded, key_mask}
use Rattle.b3d_spec.specs.Rebuild.{name_from, node_names, names}
use Rattle.b3d_spec.specs.Rules.{vertex_words, key_words}
use Rattle.b3d_spec.specs.Scene.{Texture, Brush, TriangleSet, Kind, pivot, mesh, bone, Keys, Data, Forest, no_nodes, node, Scene}
use Rattle.b3d_spec.specs.Sizes.{texture_size, texs_size, brush_size, brus_size, sets_size, kind_size, keys_size, nodes_size, size_of}
use Rattle.b3d_spec.specs.Tables.{start, reached, meshes_of, weights_of, texture_row, brush_row, triangle_rows, key_rows, with_meshes, with_node, with_forest, rows, tables, node_tables, part_tables, counts}
use Rattle.b3d_spec.proofs.AnswerLaws.{judge_got}
use Rattle.b3d_spec.proofs.WellFormedLaws.{slots-few}
use Rattle.b3d_spec.proofs.Files.FileLaws.{parse-size}
use Rattle.b3d_spec.proofs.Laws.{fine, file-length}
use Rattle.b3d_spec.proofs.Rows.CountLaws.{rises}
use Rattle.b3d_compare_spec.specs.declared.WordKind.{WordKind}
use Rattle.b3d_compare_spec.specs.declared.WordKind.TheVariants.{Whole, Float, Name as of_name, Length}
use Rattle.b3d_compare_spec.specs.Words.{word_kinds, words_of, kind_at}
use Rattle.b3d_compare_spec.specs.Changes.{Cell, number, text, told, same_cell, cell_of, cell_at, Change, word_changes, row_changes, table_changes, twelve, first_or, changes_in, changes}
use Rattle.b3d_compare_spec.specs.List.{list_bytes}
use Rattle.b3d_compare_spec.proofs.CellWordLaws.{Words, cell_words}
use Rattle.b3d_compare_spec.proofs.NameLaws.{map-append, names-told}
use Rattle.b3d_compare_spec.proofs.SizeLaws.{lead_size, text_size, change_length, list_length}
use Rattle.b3d_compare_spec.proofs.WalkLaws.{twelve-is, tables_step}
use Rattle.b3d_compare_spec.proofs.WordLaws.{few_words}

abbrev sum_of : (ℕ → ℕ) → List ℕ → ℕ
sum_of g [] = 0
sum_of g (k ∷ ks) = g k + sum_of g ks

-- ---- names

abbrev names_long : List Name → ℕ
names_long [] = 0
names_long (x ∷ l) = length x.bytes + names_long l

long-append : (l m : List Name) → names_long (l ++ m) ≡ names_long l + names_long m
long-append [] m = omega arith
long-append (x ∷ l) m = omega (arith, long-append l m)

-- ---- what the rows of a scene can take

-- for each row 15 bytes a word, of the tables of textures and brushes and of those of nodes
abbrev weigh : Counts → ℕ
weigh n = 315 * n.nodes + 135 * n.meshes + 630 * n.vertices + 60 * n.sets + 45 * n.triangles + 30 * n.weights + 60 * n.lists + 165 * n.keys

-- a texture takes 29 bytes of the file and its name, a brush as many and more
textures_heavy : (l : List Texture) → 135 * length l + 53 * names_long (map (λ (x : Texture). x.name) l) ≤ 53 * texture_size l
textures_heavy [] = omega arith
textures_heavy (x ∷ l) = omega (arith, textures_heavy l)

texs_heavy : (l : List Texture) → 135 * length l + 53 * names_long (map (λ (x : Texture). x.name) l) ≤ 53 * texs_size l
texs_heavy [] = omega arith
texs_heavy (x ∷ l) = omega (arith, textures_heavy l)

brushes_heavy : (n : ℕ) (l : List Brush) → 255 * length l + 53 * names_long (map (λ (x : Brush). x.name) l) ≤ 53 * brush_size n l
brushes_heavy n [] = omega arith
brushes_heavy n (x ∷ l) = omega (arith, brushes_heavy n l)

brus_heavy : (n : ℕ) (l : List Brush) → 255 * length l + 53 * names_long (map (λ (x : Brush). x.name) l) ≤ 53 * brus_size n l
brus_heavy n [] = omega arith
brus_heavy n (x ∷ l) = omega (arith, brushes_heavy n l)

-- a triangle takes 12 bytes, a set of them 12 more
sets_heavy : (l : List TriangleSet) → 60 * length l + 45 * length (triangle_rows l) ≤ 53 * sets_size l
unfolding triangle_rows
sets_heavy [] = omega arith
sets_heavy (x ∷ l) = omega (arith, sets_heavy l, length-append x.triangles (triangle_rows l))

-- a key takes 4 bytes at least, a list of them 12 more
keys_heavy : (l : List Keys) → 60 * length l + 165 * length (key_rows l) ≤ 53 * keys_size l
unfolding key_rows key_words
keys_heavy [] = omega arith
keys_heavy (x ∷ l) =
    let one : 4 ≤ 4 * key_words x.flags = omega arith in
    omega (
      arith,
      keys_heavy l,
      length-append (map (padded (key_mask x.flags)) x.items) (key_rows l),
      length-map x.items (padded (key_mask x.flags)),
      mul-le-mul_left (length x.items) one,
    )

-- a vertex takes 12 bytes at least and has 42 words, a weight takes 8
kind_heavy : (k : Kind) (n : Counts) → weigh (with_meshes (meshes_of k) n) + 30 * length (weights_of k) ≤ weigh n + 53 * kind_size k
unfolding with_meshes meshes_of weights_of vertex_words
kind_heavy pivot n = omega arith
kind_heavy (bone ws) n = omega arith
kind_heavy (mesh m) n =
    let twelve : 12 ≤ 4 * vertex_words m.flags m.sets m.size = omega arith in
    omega (arith, sets_heavy m.triangle_sets, mul-le-mul_left (length m.vertices) twelve)

-- a node takes 49 bytes and its name
node_heavy : (d : Data) (n : Counts) → weigh (with_node d n) + 53 * length d.name.bytes ≤ weigh n + 53 * (49 + length d.name.bytes + kind_size d.kind + keys_size d.keys)
unfolding with_node
node_heavy d n = omega (arith, kind_heavy d.kind n, keys_heavy d.keys)

nodes_heavy : (f : Forest) (n : Counts) (r : List Name) → weigh (with_forest f n) + 53 * names_long (node_names f r) ≤ weigh n + 53 * nodes_size f + 53 * names_long r
unfolding node_names with_forest
nodes_heavy no_nodes n r = omega arith
nodes_heavy (node d f g) n r =
    let m = with_node d n in
    omega (arith, node_heavy d n, nodes_heavy f m (node_names g r), nodes_heavy g (with_forest f m) r)

-- the rows of all tables, and 53 times the names
rows_weight : Scene → ℕ
rows_weight t = sum_of (λ k. length (rows k t) * (15 * words_of k)) tables

scene_heavy : (t : Scene) → rows_weight t + 53 * names_long (names t) + 636 ≤ 53 * size_of t
unfolding rows_weight names size_of start reached tables node_tables rows word_kinds if
scene_heavy t =
    let ts = map (λ (x : Texture). x.name) t.textures in
    let bs = map (λ (x : Brush). x.name) t.brushes in
    let ns = node_names t.nodes [] in
    let r = rises t.nodes NONE start in
    omega (
      arith,
      long-append ts (bs ++ ns),
      long-append bs ns,
      texs_heavy t.textures,
      brus_heavy t.slots t.brushes,
      nodes_heavy t.nodes start [],
      length-map t.textures texture_row,
      length-map t.brushes brush_row,
      r.0,
      r.1.0,
      r.1.1.0,
      r.1.1.1.0,
      r.1.1.1.1.0,
      r.1.1.1.1.1.0,
      r.1.1.1.1.1.1.0,
      r.1.1.1.1.1.1.1.0,
    )

-- an accepted file is as long as its scene at least
file_heavy : (s : List ℕ) (t : Scene) → AllBytes s → judge Lenient s ≡ accept t → rows_weight t + 53 * names_long (names t) + 636 ≤ 53 * length s
file_heavy s t b e =
    let f = fine Lenient s t b (judge_got Lenient s t e).0 in
    omega (arith, scene_heavy t, f.1, file-length t f.0)

-- the names of these rows
abbrev row_names : List ℕ → List (List ℕ) → ℕ
row_names s l = names_long (map (name_from s) l)

row-names : (s : List ℕ) (t : Scene) → judge Lenient s ≡ accept t → row_names s (rows 1 t) + (row_names s (rows 2 t) + row_names s (rows 3 t)) ≡ names_long (names t)
row-names s t e =
    let one = ap names_long (map-append (name_from s) (rows 1 t) (rows 2 t ++ rows 3 t)) ∙ long-append (map (name_from s) (rows 1 t)) (map (name_from s) (rows 2 t ++ rows 3 t)) in
    let two = ap names_long (map-append (name_from s) (rows 2 t) (rows 3 t)) ∙ long-append (map (name_from s) (rows 2 t)) (map (name_from s) (rows 3 t)) in
    omega (arith, ap names_long (names-told s t e), one, two)

-- ---- cells

abbrev Short : Cell → Type 0
Short (number n) = n < 4294967296
Short (text b) = length b < 4294967296
Short told = Unit {0}

lead_most : (x : Cell) → Short x → lead_size x ≤ 5
unfolding lead_size
lead_most (number n) h = groups-most 4 n (omega arith)
lead_most (text b) h = groups-most 4 (length b) (omega arith)
lead_most told h = omega arith

word-at : (x : List ℕ) (i : ℕ) → Words x → get_or x i 0 < 4294967296
word-at [] i h = omega arith
word-at (w ∷ x) zero h = h.0
word-at (w ∷ x) (suc i) h = word-at x i h.1

take-most : (n : ℕ) (l : List ℕ) → length (take n l) ≤ n
take-most n l = simp (length-take) (omega arith)

kind-short : (d : WordKind) (s x : List ℕ) (w : ℕ) → Words x → Short (cell_of d s x w)
unfolding cell_of name_from
kind-short Whole s x w h = word-at x w h
kind-short Float s x w h = word-at x w h
kind-short of_name s x w h = omega (arith, take-most (get_or x 1 0) (drop (get_or x 0 0) s), word-at x 1 h)
kind-short Length s x w h = tt

cell_short : (k : ℕ) (s x : List ℕ) (w : ℕ) → Words x → Short (cell_at k s x w)
unfolding cell_at
cell_short k s x w h = kind-short (kind_at k w) s x w h

-- ---- rows

-- the texts of n words from w on
unfoldable texts_in : ℕ → List ℕ → List ℕ → ℕ → ℕ → ℕ
texts_in k s x w zero = 0
texts_in k s x w (suc n) = text_size (cell_at k s x w) + texts_in k s x (w + 1) n

abbrev row_texts : ℕ → List ℕ → List ℕ → ℕ
row_texts k s x = texts_in k s x 0 (words_of k)

module _ (k : ℕ) (hk : k ≤ 10) (a b : List ℕ) where
  words-most : (r : ℕ) (x y : List ℕ) → r < 2097152 → Words x → Words y → (n w : ℕ) → w + n ≤ 128
      → length (list_bytes (word_changes k a b r x y w n)) ≤ 15 * n + texts_in k a x w n + texts_in k b y w n
  unfolding word_changes list_bytes texts_in
  words-most r x y hr hx hy zero w h = omega arith
  words-most r x y hr hx hy (suc n) w h =
      let rest = word_changes k a b r x y (w + 1) n in
      let c : Change = record { table = k; row = r; word = w; first = cell_at k a x w; second = cell_at k b y w } in
      let more = words-most r x y hr hx hy n (w + 1) (omega arith) in
      if_case (λ (l : List Change). length (list_bytes l) ≤ 15 * suc n + (text_size (cell_at k a x w) + texts_in k a x (w + 1) n) + (text_size (cell_at k b y w) + texts_in k b y (w + 1) n))
      (same_cell (cell_at k a x w) (cell_at k b y w)) rest (c ∷ rest) (λ _. omega (arith, more))
      (λ _. omega (
        arith,
        more,
        change_length c (list_bytes rest),
        groups-most 0 k (omega arith),
        groups-most 2 r (omega arith),
        groups-most 0 w (omega arith),
        lead_most (cell_at k a x w) (cell_short k a x w hx),
        lead_most (cell_at k b y w) (cell_short k b y w hy),
      ))

  row-most : (r : ℕ) (x y : List ℕ) → r < 2097152 → Words x → Words y → length (list_bytes (row_changes k a b r x y)) ≤ 15 * words_of k + row_texts k a x + row_texts k b y
  unfolding row_changes
  row-most r x y hr hx hy = words-most r x y hr hx hy (words_of k) 0 (omega (arith, few_words k))

-- ---- tables

abbrev table_texts : ℕ → List ℕ → List (List ℕ) → ℕ
table_texts k s [] = 0
table_texts k s (x ∷ l) = row_texts k s x + table_texts k s l

no_bytes : length (list_bytes []) ≡ 0
unfolding list_bytes
no_bytes = refl

module _ (k : ℕ) (hk : k ≤ 10) (a b : List ℕ) where
  rows-most : (xs ys : List (List ℕ)) (r : ℕ) → r + length xs ≤ 2097152 → All Words xs → All Words ys
      → length (list_bytes (table_changes k a b r xs ys)) ≤ length xs * (15 * words_of k) + table_texts k a xs + table_texts k b ys
  unfolding table_changes
  rows-most [] ys r h hx hy = omega (arith, no_bytes)
  rows-most (x ∷ xs) [] r h hx hy = omega (arith, no_bytes)
  rows-most (x ∷ xs) (y ∷ ys) r h hx hy =
      omega (
        arith,
        list_length (row_changes k a b r x y) (table_changes k a b (r + 1) xs ys),
        row-most k hk a b r x y (omega arith) hx.0 hy.0,
        rows-most xs ys (r + 1) (omega arith) hx.1 hy.1,
        suc-mul (length xs) (15 * words_of k),
      )

-- ---- texts of a table

names-told_in : (k : ℕ) (s : List ℕ) → ((x : List ℕ) → row_texts k s x ≡ length (name_from s x).bytes) → (l : List (List ℕ)) → table_texts k s l ≡ row_names s l
names-told_in k s h [] = refl
names-told_in k s h (x ∷ l) = omega (arith, h x, names-told_in k s h l)

none_told : (k : ℕ) (s : List ℕ) → ((x : List ℕ) → row_texts k s x ≡ 0) → (l : List (List ℕ)) → table_texts k s l ≡ 0
none_told k s h [] = refl
none_told k s h (x ∷ l) = omega (arith, h x, none_told k s h l)

module _ (s : List ℕ) where
  first-texts : (x : List ℕ) → row_texts 1 s x ≡ length (name_from s x).bytes
  unfolding texts_in text_size cell_at cell_of kind_at word_kinds if
  first-texts x = omega arith

  second-texts : (x : List ℕ) → row_texts 2 s x ≡ length (name_from s x).bytes
  unfolding texts_in text_size cell_at cell_of kind_at word_kinds if
  second-texts x = omega arith

  third_texts : (x : List ℕ) → row_texts 3 s x ≡ length (name_from s x).bytes
  unfolding texts_in text_size cell_at cell_of kind_at word_kinds if
  third_texts x = omega arith

  -- rows of numbers
  no-texts : All (λ k. (x : List ℕ) → row_texts k s x ≡ 0) (0 ∷ part_tables)
  unfolding texts_in text_size cell_at cell_of kind_at word_kinds if
  no-texts = ((λ x. refl), ((λ x. refl), ((λ x. refl), ((λ x. refl), ((λ x. refl), ((λ x. refl), ((λ x. refl), ((λ x. refl), tt))))))))

  -- the texts of all tables are the names of the file
  texts_are : (t : Scene) → judge Lenient s ≡ accept t → sum_of (λ k. table_texts k s (rows k t)) tables ≡ names_long (names t)
  unfolding tables node_tables
  texts_are t e =
      let n = no-texts.1 in
      omega (
        arith,
        row-names s t e,
        names-told_in 1 s first-texts (rows 1 t),
        names-told_in 2 s second-texts (rows 2 t),
        names-told_in 3 s third_texts (rows 3 t),
        none_told 4 s n.0 (rows 4 t),
        none_told 5 s n.1.0 (rows 5 t),
        none_told 6 s n.1.1.0 (rows 6 t),
        none_told 7 s n.1.1.1.0 (rows 7 t),
        none_told 8 s n.1.1.1.1.0 (rows 8 t),
        none_told 9 s n.1.1.1.1.1.0 (rows 9 t),
        none_told 10 s n.1.1.1.1.1.1.0 (rows 10 t),
      )

-- ---- the list

twelve-words : (s : List ℕ) (t : Scene) → AllBytes s → judge Lenient s ≡ accept t → Words (twelve t)
unfolding twelve counts
twelve-words s t b e =
    let g = judge_got Lenient s t e in
    let f = (fine Lenient s t b g.0).0 in
    let n : t.slots < 4294967296 = omega (arith, slots-few t.slots t.brushes f.slots) in
    (f.version.0, (n, all_of_map IsWord (λ (k : ℕ). length (rows k t)) tables (all_map (λ k. length (rows k t) ≤ 2097151) _ (λ k h. omega arith) tables g.1)))

first-most : (most : ℕ) (l m : List Change) → length (list_bytes l) ≤ most → length (list_bytes m) ≤ most → length (list_bytes (first_or l m)) ≤ most
unfolding first_or
first-most most [] m h i = i
first-most most (c ∷ l) m h i = h

module _ (a b : List ℕ) (t u : Scene) (ha : AllBytes a) (hb : AllBytes b) (e : judge Lenient a ≡ accept t) (f : judge Lenient b ≡ accept u) where
  abbrev Known : ℕ → Type 0
  Known k = (0 < k) × (k ≤ 10) × (length (rows k t) ≤ 2097151)

  tables-most : (ks : List ℕ) → All Known ks
      → length (list_bytes (changes_in a b t u ks)) ≤ sum_of (λ k. length (rows k t) * (15 * words_of k)) ks + sum_of (λ k. table_texts k a (rows k t)) ks + sum_of (λ k. table_texts k b (rows k u)) ks
  unfolding changes_in
  tables-most [] h = omega (arith, no_bytes)
  tables-most (k ∷ ks) h =
      omega (
        arith,
        ap (λ (l : List Change). length (list_bytes l)) (tables_step a b t u k ks h.0.0),
        list_length (table_changes k a b 0 (rows k t) (rows k u)) (changes_in a b t u ks),
        rows-most k h.0.1 a b (rows k t) (rows k u) 0 (omega (arith, h.0.2)) (cell_words a t ha e k) (cell_words b u hb f k),
        tables-most ks h.1,
      )

  known : All Known tables
  unfolding tables node_tables
  known =
      let h = (judge_got Lenient a t e).1 in (
        (omega arith, omega arith, h.0),
        (
          (omega arith, omega arith, h.1.0),
          (
            (omega arith, omega arith, h.1.1.0),
            (
              (omega arith, omega arith, h.1.1.1.0),
              (
                (omega arith, omega arith, h.1.1.1.1.0),
                (
                  (omega arith, omega arith, h.1.1.1.1.1.0),
                  (
                    (omega arith, omega arith, h.1.1.1.1.1.1.0),
                    (
                      (omega arith, omega arith, h.1.1.1.1.1.1.1.0),
                      (
                        (omega arith, omega arith, h.1.1.1.1.1.1.1.1.0),
                        ((omega arith, omega arith, h.1.1.1.1.1.1.1.1.1.0), tt),
                      ),
                    ),
                  ),
                ),
              ),
            ),
          ),
        ),
      )

  cells-most : length (list_bytes (changes_in a b t u tables)) ≤ 53 * length a + length b
  unfolding rows_weight
  cells-most = omega (arith, tables-most tables known, texts_are a t e, texts_are b u f, file_heavy a t ha e, file_heavy b u hb f)

  numbers-most : length (list_bytes (changes_in a b t u (0 ∷ []))) ≤ 53 * length a + length b
  numbers-most =
      omega (
        arith,
        ap (λ (l : List Change). length (list_bytes l)) (twelve-is a b t u),
        row-most 0 (omega arith) a b 0 (twelve t) (twelve u) (omega arith) (twelve-words a t ha e) (twelve-words b u hb f),
        few_words 0,
        (no-texts a).0 (twelve t),
        (no-texts b).0 (twelve u),
        file_heavy a t ha e,
      )

  -- a vertex of 12 bytes has 42 words of 15 bytes each in the list; no other row takes more of the list for each of its bytes
  pub list-most : length (list_bytes (changes a b t u)) ≤ 53 * length a + length b
  unfolding changes
  list-most = first-most (53 * length a + length b) (changes_in a b t u (0 ∷ [])) (changes_in a b t u tables) numbers-most cells-most

  -- so its size is a number of four bytes
  pub list-small : length (list_bytes (changes a b t u)) < 4294967296
  list-small = omega (arith, list-most, parse-size a t (judge_got Lenient a t e).0, parse-size b u (judge_got Lenient b u f).0)
