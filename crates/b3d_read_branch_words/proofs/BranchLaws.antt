-- Rows with and without their branch words: a law for each need of `below` and of `store_branch_words`.
use mathlib.Core.Path.{◌≡◌, refl, ap, sym, subst, ◌∙◌}
use Prim.Native.Nat.{ℕ, zero, suc, ◌+◌, ◌-◌, ◌*◌, ◌<◌, ◌≤◌}
use native.Mathlib.Omega.{arith}
use mathlib.Core.List.{List, [], ◌∷◌, ◌++◌, append_assoc}
use mir.Syntax.{w64}
use mir.Val.{Fits}
use lib.ListN.{length, drop, get_or, set, length-set, length-append, length-drop, drop_of_length-le, get_or-append}
use lib.Seq.{drop-drop, drop_at, get_or_at, get_or-drop, set_at}
use lib.Dec.{leb, leb→le, nleb→lt}
use borrow.Author.Tests.{lt-leb, le-leb}
use Rattle.wire.specs.Test.{if}
use Rattle.wire.specs.Bytes.{word_at}
use Rattle.layout.proofs.ResultLaws.{by_test}
use Rattle.b3d_spec.specs.Tables.{node_width}
use Rattle.b3d_read_branch_words.specs.Marks.{Mark, MarkAt, MarksAt, marks_before, rows_after, RowsAfter, Branchless, NameAt, Halfway, first_branch, BranchIs, Branched}

-- ---- nodes that begin before a place

before_stop : (e : ℕ) (m : Mark) (l : List Mark) → e ≤ m.head → marks_before e (m ∷ l) ≡ 0
unfolding marks_before if
before_stop e m l h = rw (le-leb e m.head h)

before_on : (e : ℕ) (m : Mark) (l : List Mark) → m.head < e → marks_before e (m ∷ l) ≡ suc (marks_before e l)
unfolding marks_before if
before_on e m l h = rw (lt-leb e m.head h)

before-few : (e : ℕ) (l : List Mark) → marks_before e l ≤ length l
unfolding marks_before
before-few e [] = omega arith
before-few e (m ∷ l) =
    by_test (leb e m.head) (λ t. omega (arith, before_stop e m l (leb→le e m.head t)))
    (λ t. omega (arith, before_on e m l (nleb→lt e m.head t), before-few e l))

-- those before a place are those before an earlier one and those behind them
part_none : (e k : ℕ) (l : List Mark) → k ≡ 0 → marks_before e l ≡ k + marks_before e (drop k l)
part_none e k l z = rw z (omega arith)

part-more : (e k n : ℕ) (m : Mark) (l : List Mark) → k ≡ suc n → marks_before e l ≡ n + marks_before e (drop n l) → suc (marks_before e l) ≡ k + marks_before e (drop k (m ∷ l))
part-more e k n m l z h = rw z (omega arith)

before-later : (d e : ℕ) → d ≤ e → (l : List Mark) → marks_before e l ≡ marks_before d l + marks_before e (drop (marks_before d l) l)
unfolding marks_before
before-later d e le [] = refl
before-later d e le (m ∷ l) =
    by_test (leb d m.head)
    (λ t. part_none e (marks_before d (m ∷ l)) (m ∷ l) (before_stop d m l (leb→le d m.head t)))
    (λ t. let h = nleb→lt d m.head t in
    before_on e m l (omega arith) ∙ part-more e (marks_before d (m ∷ l)) (marks_before d l) m l (before_on d m l h) (before-later d e le l))

-- ---- cells of rows

row-parts : (cells others t : List ℕ) (b : ℕ) → (cells ++ (b ∷ others)) ++ t ≡ cells ++ (b ∷ (others ++ t))
row-parts cells others t b = append_assoc cells (b ∷ others) t

row_drop : (cells others t : List ℕ) (b : ℕ) → length cells + 1 ≡ node_width → drop node_width ((cells ++ (b ∷ others)) ++ t) ≡ others ++ t
row_drop cells others t b h =
    let l : length (cells ++ (b ∷ [])) ≡ node_width = length-append cells (b ∷ []) ∙ h in
    ap (drop node_width) (row-parts cells others t b ∙ sym (append_assoc cells (b ∷ []) (others ++ t))) ∙ drop_at (cells ++ (b ∷ [])) (others ++ t) node_width l

row-set : (cells others t : List ℕ) (b c : ℕ) → length cells + 1 ≡ node_width → set ((cells ++ (b ∷ others)) ++ t) 20 c ≡ (cells ++ (c ∷ others)) ++ t
row-set cells others t b c h =
    let l : length cells ≡ 20 = omega arith in
    ap (λ (y : List ℕ). set y 20 c) (row-parts cells others t b) ∙ set_at cells b (others ++ t) c 20 l ∙ sym (row-parts cells others t c)

set-behind : (p q : List ℕ) (n c : ℕ) → set (p ++ q) (length p + n) c ≡ p ++ set q n c
set-behind [] q n c = let e : 0 + n ≡ n = omega arith in rw e
set-behind (a ∷ p) q n c = let e : suc (length p) + n ≡ suc (length p + n) = omega arith in rw e (ap (λ (y : List ℕ). a ∷ y) (set-behind p q n c))

module _ (s : List ℕ) where
  -- the rows are so long
  pub rows_long : (i : ℕ) (l : List Mark) → MarksAt s l → length (rows_after i l) ≡ node_width * length l
  unfolding rows_after
  rows_long i [] h = refl
  rows_long zero (m ∷ l) h =
      let b = marks_before m.end l in
      omega (arith, length-append m.cells (b ∷ rows_after zero l), rows_long zero l h.1, h.0.long)
  rows_long (suc i) (m ∷ l) h = omega (arith, length-append m.cells (0 ∷ rows_after i l), rows_long i l h.1, h.0.long)

  -- from the row k on
  rows-from : (i k : ℕ) (l : List Mark) (t : List ℕ) → MarksAt s l → k ≤ length l → drop (node_width * k) (rows_after i l ++ t) ≡ rows_after (i - k) (drop k l) ++ t
  unfolding rows_after
  rows-from i zero l t h le = let e : i - 0 ≡ i = omega arith in rw e
  rows-from i (suc k) [] t h le = absurd (omega arith)
  rows-from zero (suc k) (m ∷ l) t h le =
      let e : node_width * suc k ≡ node_width + node_width * k = omega arith in
      let z : 0 - suc k ≡ 0 - k = omega arith in
      let b = marks_before m.end l in
      rw (e, z) (sym (drop-drop (node_width * k) node_width ((m.cells ++ (b ∷ rows_after zero l)) ++ t)) ∙ ap (drop (node_width * k)) (row_drop m.cells (rows_after zero l) t b h.0.long) ∙ rows-from zero k l t h.1 (omega arith))
  rows-from (suc i) (suc k) (m ∷ l) t h le =
      let e : node_width * suc k ≡ node_width + node_width * k = omega arith in
      let z : suc i - suc k ≡ i - k = omega arith in
      rw (e, z) (sym (drop-drop (node_width * k) node_width ((m.cells ++ (0 ∷ rows_after i l)) ++ t)) ∙ ap (drop (node_width * k)) (row_drop m.cells (rows_after i l) t 0 h.0.long) ∙ rows-from i k l t h.1 (omega arith))

  -- the first cell of a row, and its branch word
  cell_name : (i : ℕ) (m : Mark) (l : List Mark) (t : List ℕ) → MarkAt s m → get_or (rows_after i (m ∷ l) ++ t) 0 0 ≡ m.head + 8
  unfolding rows_after
  cell_name zero m l t h = ap (λ (y : List ℕ). get_or y 0 0) (row-parts m.cells (rows_after zero l) t _) ∙ get_or-append m.cells _ 0 0 (omega (arith, h.long)) ∙ h.name
  cell_name (suc i) m l t h = ap (λ (y : List ℕ). get_or y 0 0) (row-parts m.cells (rows_after i l) t 0) ∙ get_or-append m.cells _ 0 0 (omega (arith, h.long)) ∙ h.name

  cell_branch : (m : Mark) (l : List Mark) (t : List ℕ) → MarkAt s m → get_or (rows_after zero (m ∷ l) ++ t) 20 0 ≡ marks_before m.end l
  unfolding rows_after
  cell_branch m l t h =
      let n : length m.cells ≡ 20 = omega (arith, h.long) in
      ap (λ (y : List ℕ). get_or y 20 0) (row-parts m.cells (rows_after zero l) t _) ∙ get_or_at m.cells _ (rows_after zero l ++ t) 0 20 n

  -- a branch word is stored
  rows-set : (i : ℕ) (l : List Mark) (t : List ℕ) → MarksAt s l → i < length l → set (rows_after (suc i) l ++ t) (node_width * i + 20) (first_branch (drop i l)) ≡ rows_after i l ++ t
  unfolding rows_after
  rows-set i [] t h lt = absurd (omega arith)
  rows-set zero (m ∷ l) t h lt = row-set m.cells (rows_after zero l) t 0 (marks_before m.end l) h.0.long
  rows-set (suc i) (m ∷ l) t h lt =
      let p = m.cells ++ (0 ∷ []) in
      let n : length p ≡ node_width = length-append m.cells (0 ∷ []) ∙ h.0.long in
      let e : node_width * suc i + 20 ≡ length p + (node_width * i + 20) = omega arith in
      let c = first_branch (drop i l) in
      let apart : (r : List ℕ) → (m.cells ++ (0 ∷ r)) ++ t ≡ p ++ (r ++ t) = λ r. row-parts m.cells r t 0 ∙ sym (append_assoc m.cells (0 ∷ []) (r ++ t)) in
      ap (λ (y : List ℕ). set y (node_width * suc i + 20) c) (apart (rows_after (suc i) l)) ∙ ap (λ (k : ℕ). set (p ++ (rows_after (suc i) l ++ t)) k c) e
      ∙ set-behind p (rows_after (suc i) l ++ t) (node_width * i + 20) c ∙ ap (λ (y : List ℕ). p ++ y) (rows-set i l t h.1 (omega arith)) ∙ sym (apart (rows_after i l))

  -- the node of which so many stand before
  record Found (k : ℕ) (l : List Mark) : Type 0 where
    node : Mark
    after : List Mark
    is : drop k l ≡ node ∷ after
    next : drop (k + 1) l ≡ after
    at : MarkAt s node

  found : (k : ℕ) (l : List Mark) → MarksAt s l → k < length l → Found k l
  found k [] h lt = absurd (omega arith)
  found zero (m ∷ l) h lt = record { node = m; after = l; is = refl; next = refl; at = h.0 }
  found (suc k) (m ∷ l) h lt =
      let f = found k l h.1 (omega arith) in
      let e : suc k + 1 ≡ suc (k + 1) = omega arith in
      record { node = f.node; after = f.after; is = f.is; next = ap (λ (j : ℕ). drop j (m ∷ l)) e ∙ f.next; at = f.at }

pub name_fits : (s : List ℕ) (name : ℕ) → NameAt s name → (w : ℕ) → w ≡ word_at s (name - 4) → Fits w64 (name + w)
name_fits s name h w e = record { fits = omega (arith, h.within, h.small) }

-- ---- the nodes below a node

-- the rows stand for the nodes l
module _ (s rows : List ℕ) (nodes i : ℕ) (l : List Mark) (others : List ℕ) (long : length l ≡ nodes) (r : RowsAfter s (suc i) l others rows) where
  node_at : (k : ℕ) → k < nodes → Found s k l
  node_at k lt = found s k l r.all (omega arith)

  cell_at : (k c : ℕ) → k < nodes → get_or rows (node_width * k + c) 0 ≡ get_or (rows_after (suc i - k) (drop k l) ++ others) c 0
  cell_at k c lt =
      ap (λ (y : List ℕ). get_or y (node_width * k + c) 0) r.is ∙ sym (get_or-drop (node_width * k) (rows_after (suc i) l ++ others) c 0)
      ∙ ap (λ (y : List ℕ). get_or y c 0) (rows-from s (suc i) k l others r.all (omega arith))

  name-at : (k : ℕ) (lt : k < nodes) → get_or rows (node_width * k) 0 ≡ (node_at k lt).node.head + 8
  name-at k lt =
      let f = node_at k lt in
      let e : node_width * k ≡ node_width * k + 0 = omega arith in
      ap (λ (j : ℕ). get_or rows j 0) e ∙ cell_at k 0 lt ∙ ap (λ (y : List Mark). get_or (rows_after (suc i - k) y ++ others) 0 0) f.is ∙ cell_name s (suc i - k) f.node f.after others f.at

  branch_at : (k : ℕ) (lt : k < nodes) → i < k → get_or rows (node_width * k + 20) 0 ≡ marks_before (node_at k lt).node.end (node_at k lt).after
  branch_at k lt up =
      let f = node_at k lt in
      let e : suc i - k ≡ 0 = omega arith in
      cell_at k 20 lt ∙ ap (λ (j : ℕ). get_or (rows_after j (drop k l) ++ others) 20 0) e ∙ ap (λ (y : List Mark). get_or (rows_after zero y ++ others) 20 0) f.is ∙ cell_branch s f.node f.after others f.at

  module _ (k : ℕ) (lt : k < nodes) (name : ℕ) (en : name ≡ get_or rows (node_width * k) 0) where
    name_is : name ≡ (node_at k lt).node.head + 8
    name_is = en ∙ name-at k lt

    end_is : (node_at k lt).node.end ≡ name + word_at s (name - 4)
    end_is =
        let f = node_at k lt in
        let e : name - 4 ≡ f.node.head + 4 = omega (arith, name_is) in
        f.at.end_is ∙ omega (arith, name_is, ap (word_at s) e)

    name-there : NameAt s name
    name-there = let f = node_at k lt in record { behind = omega (arith, name_is); before = omega (arith, end_is, f.at.within); within = omega (arith, end_is, f.at.within); small = r.small }

  rows_room : node_width * nodes ≤ length rows
  rows_room = omega (arith, ap length r.is, length-append (rows_after (suc i) l) others, rows_long s (suc i) l r.all)

-- of the nodes below i those before j are passed
pub record BelowLeft (s rows : List ℕ) (nodes i end j : ℕ) : Type 0 where
  pub some : Halfway s rows nodes i
  pub from : i + 1 ≤ j
  pub to : j ≤ nodes
  pub within : end ≤ length s
  pub same : (l : List Mark) (others : List ℕ) → length l ≡ nodes → RowsAfter s (suc i) l others rows → first_branch (drop i l) ≡ (j - (i + 1)) + marks_before end (drop j l)

module _ (s rows : List ℕ) (nodes i : ℕ) where
  module _ (v : Halfway s rows nodes i) where
    room : node_width * nodes ≤ length rows
    room = rows_room s rows nodes i v.marks v.others v.long v.rows_are

    pub below_index : node_width * i < length rows
    below_index = omega (arith, room, v.low)

    pub below_name : (own : ℕ) → own ≡ get_or rows (node_width * i) 0 → NameAt s own
    below_name own e = name-there s rows nodes i v.marks v.others v.long v.rows_are i v.low own e

    pub below_start : (own : ℕ) → own ≡ get_or rows (node_width * i) 0 → (end : ℕ) → end ≡ own + word_at s (own - 4) → BelowLeft s rows nodes i end (i + 1)
    below_start own eo end ee = record {
      some = v;
      from = omega arith;
      to = omega (arith, v.low);
      within = omega (arith, (below_name own eo).within);
      same = λ l others e r.
          let f = node_at s rows nodes i l others e r i v.low in
          let z : i + 1 - (i + 1) ≡ 0 = omega arith in
          ap first_branch f.is ∙ ap (λ (k : ℕ). marks_before k f.after) (end_is s rows nodes i l others e r i v.low own eo ∙ sym ee) ∙ ap (marks_before end) (sym f.next) ∙ omega (arith, z);
    }

  module _ (end j : ℕ) (w : BelowLeft s rows nodes i end j) where
    few : j - (i + 1) < 0x100000000
    few = omega (arith, w.to, w.some.few)

    pub below_done : nodes ≤ j → BranchIs s rows nodes i (j - (i + 1))
    unfolding marks_before
    below_done h = record {
      is = λ l others e r.
          let z : marks_before end (drop j l) ≡ 0 = ap (marks_before end) (drop_of_length-le l {i = j} (omega arith)) in
          omega (arith, w.same l others e r, z);
      small = few;
    }

    module _ (lt : j < nodes) where
      pub turn_index : node_width * j < length rows
      turn_index = omega (arith, room w.some)

      pub turn_cell : node_width * j + 20 < length rows
      turn_cell = omega (arith, room w.some)

      module _ (name : ℕ) (en : name ≡ get_or rows (node_width * j) 0) where
        pub turn_name : NameAt s name
        turn_name = name-there s rows nodes i w.some.marks w.some.others w.some.long w.some.rows_are j lt name en

        pub turn_fits : Fits w64 (end + 8)
        turn_fits = record { fits = omega (arith, w.within, w.some.rows_are.small) }

        pub turn_stop : end + 8 ≤ name → BranchIs s rows nodes i (j - (i + 1))
        turn_stop h = record {
          is = λ l others e r.
              let f = node_at s rows nodes i l others e r j lt in
              let z : marks_before end (drop j l) ≡ 0 = ap (marks_before end) f.is ∙ before_stop end f.node f.after (omega (arith, name_is s rows nodes i l others e r j lt name en)) in
              omega (arith, w.same l others e r, z);
          small = few;
        }

        module _ (h : name < end + 8) where
          -- the node j is below i
          one : (l : List Mark) (others : List ℕ) (e : length l ≡ nodes) (r : RowsAfter s (suc i) l others rows) → marks_before end (drop j l) ≡ suc (marks_before end (node_at s rows nodes i l others e r j lt).after)
          one l others e r =
              let f = node_at s rows nodes i l others e r j lt in
              ap (marks_before end) f.is ∙ before_on end f.node f.after (omega (arith, name_is s rows nodes i l others e r j lt name en))

          pub turn_one : BelowLeft s rows nodes i end (j + 1)
          turn_one = record {
            some = w.some;
            from = omega (arith, w.from);
            to = omega arith;
            within = w.within;
            same = λ l others e r.
                let f = node_at s rows nodes i l others e r j lt in
                omega (arith, w.same l others e r, one l others e r, ap (marks_before end) f.next, w.from);
          }

          module _ (stop : ℕ) (es : stop ≡ name + word_at s (name - 4)) (le : stop ≤ end) (word : ℕ) (ew : word ≡ get_or rows (node_width * j + 20) 0) where
            word_is : (l : List Mark) (others : List ℕ) (e : length l ≡ nodes) (r : RowsAfter s (suc i) l others rows)
                → word ≡ marks_before (node_at s rows nodes i l others e r j lt).node.end (node_at s rows nodes i l others e r j lt).after
            word_is l others e r = ew ∙ branch_at s rows nodes i l others e r j lt (omega (arith, w.from))

            after_long : (l : List Mark) (others : List ℕ) (e : length l ≡ nodes) (r : RowsAfter s (suc i) l others rows) → length (node_at s rows nodes i l others e r j lt).after ≡ nodes - (j + 1)
            after_long l others e r = let f = node_at s rows nodes i l others e r j lt in ap length (sym f.next) ∙ length-drop (j + 1) l ∙ omega arith

            word_low : j + 1 + word ≤ nodes
            word_low =
                let u = w.some in
                let f = node_at s rows nodes i u.marks u.others u.long u.rows_are j lt in
                omega (arith, word_is u.marks u.others u.long u.rows_are, before-few f.node.end f.after, after_long u.marks u.others u.long u.rows_are)

            pub jump_fits : Fits w64 (1 + word)
            jump_fits = record { fits = omega (arith, word_low, w.some.few) }

            pub jump_to : Fits w64 (j + (1 + word))
            jump_to = record { fits = omega (arith, word_low, w.some.few) }

            pub turn_jump : BelowLeft s rows nodes i end (j + (1 + word))
            turn_jump = record {
              some = w.some;
              from = omega (arith, w.from);
              to = omega (arith, word_low);
              within = w.within;
              same = λ l others e r.
                  let f = node_at s rows nodes i l others e r j lt in
                  let b = word_is l others e r in
                  let inner : f.node.end ≤ end = omega (arith, end_is s rows nodes i l others e r j lt name en) in
                  let sum : j + 1 + word ≡ j + (1 + word) = omega arith in
                  let to : drop word f.after ≡ drop (j + (1 + word)) l =
                  ap (drop word) (sym f.next) ∙ drop-drop word (j + 1) l ∙ ap (λ (k : ℕ). drop k l) sum in
                  let split : marks_before end f.after ≡ word + marks_before end (drop (j + (1 + word)) l) =
                  before-later f.node.end end inner f.after ∙ ap (λ (k : ℕ). k + marks_before end (drop k f.after)) (sym b) ∙ ap (λ (y : List Mark). word + marks_before end y) to in
                  omega (arith, w.same l others e r, one l others e r, split, w.from);
            }

pub ruleset below_laws = (below_index, below_name, below_start, below_done, turn_index, turn_cell, turn_name, turn_fits, turn_stop, turn_one, jump_fits, jump_to, turn_jump)

-- ---- the pass backward

-- the nodes from i on have their branch words
pub record PassLeft (s rows : List ℕ) (nodes : ℕ) (out : List ℕ) (i : ℕ) : Type 0 where
  pub low : i ≤ nodes
  pub some : Branchless s rows nodes
  pub long : length out ≡ length rows
  pub same : (l : List Mark) (others : List ℕ) → length l ≡ nodes → RowsAfter s nodes l others rows → RowsAfter s i l others out

module _ (s rows : List ℕ) (nodes : ℕ) where
  pub pass_start : Branchless s rows nodes → PassLeft s rows nodes rows nodes
  pass_start v = record { low = omega arith; some = v; long = refl; same = λ l others e r. r }

  module _ (out : List ℕ) (i : ℕ) (w : PassLeft s rows nodes out i) where
    pub pass_done : i ≤ 0 → Branched s rows nodes out
    pass_done h =
        let z : i ≡ 0 = omega arith in
        record { is = λ l others e r. (w.same l others e r).is ∙ ap (λ (k : ℕ). rows_after k l ++ others) z }

    module _ (h : 0 < i) where
      here : (l : List Mark) (others : List ℕ) → length l ≡ nodes → RowsAfter s nodes l others rows → RowsAfter s (suc (i - 1)) l others out
      here l others e r = let z : i ≡ suc (i - 1) = omega arith in subst (λ (k : ℕ). RowsAfter s k l others out) z (w.same l others e r)

      pub pass_half : Halfway s out nodes (i - 1)
      pass_half = let u = w.some in record { marks = u.marks; others = u.others; long = u.long; few = u.few; low = omega (arith, w.low); rows_are = here u.marks u.others u.long u.rows_are }

      pub pass_cell : node_width * (i - 1) + 20 < length out
      pass_cell = omega (arith, room s out nodes (i - 1) pass_half, w.low)

      pub pass_on : (r : ℕ) → BranchIs s out nodes (i - 1) r → (word : ℕ) → word ≡ r → PassLeft s rows nodes (set out (node_width * (i - 1) + 20) word) (i - 1)
      pass_on r x word e = record {
        low = omega (arith, w.low);
        some = w.some;
        long = length-set out (node_width * (i - 1) + 20) word ∙ w.long;
        same = λ l others n y.
            let b = here l others n y in
            record {
              is = ap (set out (node_width * (i - 1) + 20)) (e ∙ x.is l others n b) ∙ ap (λ (o : List ℕ). set o (node_width * (i - 1) + 20) (first_branch (drop (i - 1) l))) b.is
                  ∙ rows-set s (i - 1) l others b.all (omega (arith, w.low));
              all = b.all;
              small = b.small;
            };
      }

pub branch_small : (s rows : List ℕ) (nodes i r : ℕ) → BranchIs s rows nodes i r → r < 0x100000000
branch_small s rows nodes i r x = x.small

pub ruleset pass_laws = (pass_start, pass_done, pass_half, pass_cell, pass_on, branch_small)
