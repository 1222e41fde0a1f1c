-- Rows of nodes whose branch words count nodes that are still to come.
use mathlib.Core.Path.{◌≡◌, refl, ap, ap₂, sym, ◌∙◌}
use Prim.Native.Nat.{ℕ, zero, suc, ◌+◌, ◌*◌}
use native.Mathlib.Omega.{arith}
use mathlib.Core.List.{List, [], ◌∷◌, ◌++◌, append_assoc}
use lib.ListN.{length, drop, length-append}
use lib.Seq.{sets, sets-eq}
use lib.Dec.{leb}
use Rattle.wire.specs.Test.{if}
use Rattle.layout.specs.Rows.{joined}
use Rattle.b3d_spec.specs.Tables.{node_width}
use Rattle.b3d_spec.specs.Tags.{Chunks}
use Rattle.b3d_spec_plain_rows.specs.Rows.{nodes_before, file_rows}
use Rattle.b3d_read_branch_words.specs.Marks.{Mark, MarkAt, MarksAt, marks_before, rows_after, Branchless, Branched}
use Rattle.b3d_read_branch_words.proofs.BranchLaws.{rows_long}
use Rattle.b3d_read_node_table.specs.Bare.{Bare}

-- how many nodes of l, and then of the flat run cs, come before the first one that begins at place e or later
abbrev ahead : Chunks → ℕ → List Mark → ℕ
ahead cs e [] = nodes_before e cs
ahead cs e (m ∷ l) = if (leb e m.head) 0 (suc (ahead cs e l))

-- the rows of the nodes l, the flat run cs being to come
abbrev pub rows_ahead : Chunks → List Mark → List ℕ
rows_ahead cs [] = []
rows_ahead cs (m ∷ l) = m.cells ++ (ahead cs m.end l ∷ rows_ahead cs l)

-- runs with the same nodes
module _ (cs ds : Chunks) (same : (e : ℕ) → nodes_before e cs ≡ nodes_before e ds) where
  ahead-same : (e : ℕ) (l : List Mark) → ahead cs e l ≡ ahead ds e l
  ahead-same e [] = same e
  ahead-same e (m ∷ l) = ap (λ (k : ℕ). if (leb e m.head) 0 (suc k)) (ahead-same e l)

  pub rows_same : (l : List Mark) → rows_ahead cs l ≡ rows_ahead ds l
  rows_same [] = refl
  rows_same (m ∷ l) = ap₂ (λ (k : ℕ) (r : List ℕ). m.cells ++ (k ∷ r)) (ahead-same m.end l) (rows_same l)

-- a run that begins with a node
module _ (cs ds : Chunks) (m : Mark) (first : (e : ℕ) → nodes_before e cs ≡ if (leb e m.head) 0 (suc (nodes_before e ds))) where
  ahead-node : (e : ℕ) (l : List Mark) → ahead ds e (l ++ (m ∷ [])) ≡ ahead cs e l
  ahead-node e [] = sym (first e)
  ahead-node e (a ∷ l) = ap (λ (k : ℕ). if (leb e a.head) 0 (suc k)) (ahead-node e l)

  pub rows-node : (l : List Mark) → rows_ahead ds (l ++ (m ∷ [])) ≡ rows_ahead cs l ++ (m.cells ++ (nodes_before m.end ds ∷ []))
  rows-node [] = refl
  rows-node (a ∷ l) =
      ap₂ (λ (k : ℕ) (r : List ℕ). a.cells ++ (k ∷ r)) (ahead-node a.end l) (rows-node l) ∙ sym (append_assoc a.cells (ahead cs a.end l ∷ rows_ahead cs l) (m.cells ++ (nodes_before m.end ds ∷ [])))

-- a run without a node
module _ (cs : Chunks) (none : (e : ℕ) → nodes_before e cs ≡ 0) where
  ahead_none : (e : ℕ) (l : List Mark) → ahead cs e l ≡ marks_before e l
  unfolding marks_before
  ahead_none e [] = none e
  ahead_none e (m ∷ l) = ap (λ (k : ℕ). if (leb e m.head) 0 (suc k)) (ahead_none e l)

  pub rows_none : (l : List Mark) → rows_ahead cs l ≡ rows_after zero l
  unfolding rows_after
  rows_none [] = refl
  rows_none (m ∷ l) = ap₂ (λ (k : ℕ) (r : List ℕ). m.cells ++ (k ∷ r)) (ahead_none m.end l) (rows_none l)

pub ahead-long : (s : List ℕ) (cs : Chunks) (l : List Mark) → MarksAt s l → length (rows_ahead cs l) ≡ node_width * length l
ahead-long s cs [] h = refl
ahead-long s cs (m ∷ l) h = omega (arith, length-append m.cells (ahead cs m.end l ∷ rows_ahead cs l), ahead-long s cs l h.1, h.0.long)

-- one node more
pub bare_more : (l : List Mark) (m : Mark) → rows_after (suc (length l)) (l ++ (m ∷ [])) ≡ rows_after (length l) l ++ (m.cells ++ (0 ∷ []))
unfolding rows_after
bare_more [] m = refl
bare_more (a ∷ l) m = ap (λ (r : List ℕ). a.cells ++ (0 ∷ r)) (bare_more l m) ∙ sym (append_assoc a.cells (0 ∷ rows_after (length l) l) (m.cells ++ (0 ∷ [])))

pub marks-more : (s : List ℕ) (l : List Mark) (m : Mark) → MarksAt s l → MarkAt s m → MarksAt s (l ++ (m ∷ []))
marks-more s [] m h x = (x, tt)
marks-more s (a ∷ l) m h x = (h.0, marks-more s l m h.1 x)

-- ---- what is left to the pass backward

module _ (s out₀ out : List ℕ) (nodes : ℕ) (v : Bare s out₀ out nodes) where
  abbrev others : List ℕ
  others = drop (node_width * nodes) out₀

  rows_there : (i : ℕ) → sets out₀ 0 (rows_after i v.marks) ≡ rows_after i v.marks ++ others
  rows_there i =
      let r = rows_after i v.marks in
      let n : length r ≡ node_width * nodes = rows_long s i v.marks v.all ∙ ap (λ (k : ℕ). node_width * k) v.long in
      let z : length (rows_after zero v.marks) ≡ node_width * nodes = rows_long s zero v.marks v.all ∙ ap (λ (k : ℕ). node_width * k) v.long in
      let e : 0 + length r ≡ node_width * nodes = omega arith in
      sets-eq r out₀ 0 (omega (arith, v.room, ap length v.rows)) ∙ ap (λ (k : ℕ). r ++ drop k out₀) e

  pub bare_left : Branchless s out nodes
  bare_left = record { marks = v.marks; others = others; long = v.long; few = v.few; rows_are = record { is = v.stores ∙ rows_there nodes; all = v.all; small = v.small } }

  pub bare_done : (put : List ℕ) → Branched s out nodes put → put ≡ sets out₀ 0 (joined (file_rows 3 s))
  unfolding bare_left
  bare_done put x = x.is v.marks others v.long bare_left.rows_are ∙ sym (rows_there zero) ∙ ap (sets out₀ 0) (sym v.rows)

pub ruleset bare_laws = (bare_left, bare_done)
