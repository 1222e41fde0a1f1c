-- Table 3 has a row of each NODE: the loop of `store_bare_rows`.
use Rattle.std.specs.Prelude.{Some, None}
use Rattle.std.specs.Prelude as std
use Rattle.b3d_chunk_cursor.specs.declared.Named.{Named}
use mathlib.Core.Path.{◌≡◌, refl, ap, ap₂, sym, subst, ◌∙◌}
use Prim.Native.Nat.{ℕ, suc, ◌+◌, ◌-◌, ◌*◌, ◌/◌, ◌<◌, ◌≤◌}
use native.Mathlib.Nat.{div-le_self}
use native.Mathlib.Omega.{arith}
use mathlib.Core.Bool.{Bool, true, false, not}
use mathlib.Core.List.{List, [], ◌∷◌, ◌++◌, append_assoc, append-nil}
use mir.Syntax.{w64}
use mir.Val.{Fits}
use lib.ListN.{length, get_or, set, length-set, length-append, drop_of_length-le}
use lib.Seq.{sets, length-sets, get_or-set_same}
use lib.Dec.{T}
use Rattle.wire.specs.Test.{if}
use Rattle.wire.specs.Cursors.{Inside, left}
use Rattle.wire.specs.declared.Cursor.{Cursor}
use Rattle.wire.proofs.LeftLaws.{span, left-length}
use Rattle.layout.specs.Result.{Result}
use Rattle.layout.specs.Parts.{Name, Step, named as named_of}
use Rattle.layout.proofs.ChunkLaws.{split-none}
use Rattle.layout.proofs.ResultLaws.{if_yes, if_no}
use Rattle.layout.proofs.ListLaws.{sets_below}
use Rattle.layout.specs.Rows.{name_cells, joined}
use Rattle.b3d_spec.specs.declared.Counts.{Counts}
use Rattle.b3d_spec.specs.declared.Tag.{Tag}
use Rattle.b3d_spec.specs.declared.Tag.TheVariants.{NODE, MESH, BONE}
use Rattle.b3d_spec.specs.Rules.{node_row as node_words}
use Rattle.b3d_spec.specs.Tables.{start, kind_cells, anim_cells, node_row, node_width}
use Rattle.b3d_spec.specs.Tags.{Chunks, is, split, tag_of}
use Rattle.shared_table_words.proofs.StoreLaws.{sets-append}
use Rattle.b3d_chunk_cursor.specs.Chunks.{NextIs, named_at, NamedIn}
use Rattle.b3d_chunk_cursor.specs.declared.Next.{Next}
use Rattle.b3d_chunk_cursor.specs.declared.Next.TheVariants as next
use Rattle.b3d_spec_plain_rows.specs.Flat.{rest, flat_at, flat}
use Rattle.b3d_spec_plain_rows.specs.Rows.{Open, parent_at, counted, opened, kind_of, anim_of, nodes_before, row_of, node_rows, file_rows}
use Rattle.b3d_spec_plain_rows.proofs.FlatRunLaws.{run-done}
use Rattle.b3d_chunk_walk.specs.Walks.{NodeAt, NodeRead, ChunkIs, Steps}
use Rattle.b3d_chunk_walk.proofs.CountLaws.{tag_same, counted-nodes, counted-meshes, counted-weights}
use Rattle.b3d_chunk_walk.proofs.FlatLaws.{node-inside, node-cut, node_in, next-done, next-cut, next-node, next-other}
use Rattle.b3d_read_node_cells.specs.Parts.{told}
use Rattle.b3d_read_node_cells.proofs.OwnChunkLaws.{bone-count}
use Rattle.b3d_read_node_cells.proofs.CellLaws.{kind-long, anim-long}
use Rattle.b3d_read_node_parents.specs.Links.{Link, Linked, Climbable, ParentIs}
use Rattle.b3d_read_branch_words.specs.Marks.{Mark, MarksAt, rows_after}
use Rattle.b3d_read_branch_words.proofs.BranchLaws.{rows_long}
use Rattle.b3d_read_nodes.specs.RowWith.{row_with, RowRead}
use Rattle.b3d_read_nodes.proofs.CellLaws.{row-with, node-read}
use Rattle.b3d_read_nodes.proofs.NodeRowLaws.{row_told}
use Rattle.b3d_read_node_table.specs.Bare.{Bare}
use Rattle.b3d_read_node_table.proofs.RowsAheadLaws.{rows_ahead, rows_same, rows-node, rows_none, ahead-long, bare_more, marks-more}

-- ---- cells that stand

first_cell : (a : ℕ) (vs l : List ℕ) (i : ℕ) → i < length l → get_or (sets l i (a ∷ vs)) i 0 ≡ a
first_cell a vs l i h = sets_below vs (set l i a) (suc i) i (omega arith) ∙ get_or-set_same l i a 0 h

third_cell : (a b c : ℕ) (vs l : List ℕ) (i : ℕ) → i + 2 < length l → get_or (sets l i (a ∷ b ∷ c ∷ vs)) (i + 2) 0 ≡ c
third_cell a b c vs l i h =
    let e : i + 2 ≡ suc (suc i) = omega arith in
    rw e (first_cell c vs (set (set l i a) (suc i) b) (suc (suc i)) (omega (arith, length-set (set l i a) (suc i) b, length-set l i a)))

-- rows that stand before what is stored, and at a later place
linked-after : (s rows put : List ℕ) (p q : ℕ) → p ≤ q → (l : List Open) → ((j : ℕ) → j < node_width * length l → get_or put j 0 ≡ get_or rows j 0) → Linked s rows p l → Linked s put q l
linked-after s rows put p q le [] same h = tt
linked-after s rows put p q le (o ∷ l) same h =
    let k = h.0 in (
      record {
        head = k.head;
        before = omega (arith, k.before);
        within = k.within;
        index_is = k.index_is;
        name_is = same (node_width * length l) (omega arith) ∙ k.name_is;
        end_is = k.end_is;
        above_is = same (node_width * length l + 2) (omega arith) ∙ k.above_is;
      },
      linked-after s rows put p q le l (λ j x. same j (omega arith)) h.1,
    )

-- ---- a row

-- rows that differ in the branch word alone: the cells before it, the first and the third being these
record Front (place parent : ℕ) (row : ℕ → List ℕ) : Type 0 where
  size : ℕ
  others : List ℕ
  is : (below : ℕ) → row below ≡ (place ∷ size ∷ parent ∷ others) ++ (below ∷ [])
  long : length others + 4 ≡ node_width

row-front : (s : List ℕ) (p : ℕ) (b : Cursor) → NodeRead s p b → (cs : Chunks) (parent : ℕ) (n : Counts) → Front (p + 8) parent (λ below. row_with (named_of node_words (p + 8) (left b s)) cs parent below n)
unfolding row_with node_row name_cells
row-front s p b x cs parent n =
    let ws = x.step.value.1 in
    let ks = kind_cells (kind_of cs) n in
    let ac = anim_cells (anim_of cs) in
    let size = length x.step.value.0.bytes in
    record {
      size = size;
      others = ws ++ (ks ++ ac);
      is = λ below.
          ap (λ (o : Result (Step (Name × List ℕ))). row_with o cs parent below n) x.is
          ∙ ap₂ (λ (k : ℕ) (l : List ℕ). k ∷ size ∷ parent ∷ l) x.name (ap (λ (l : List ℕ). ws ++ l) (sym (append_assoc ks ac (below ∷ []))) ∙ sym (append_assoc ws (ks ++ ac) (below ∷ [])));
      long = omega (arith, length-append ws (ks ++ ac), length-append ks ac, x.ten, kind-long (kind_of cs) n, anim-long cs);
    }

-- ---- the loop

abbrev nodes_from : List ℕ → List Open → Counts → ℕ → List ℕ
nodes_from s l n at = joined (node_rows l n (flat_at s at))

-- the rows of so many nodes stand in the table, without their branch words; what is left stands from `at` on
pub record TreeLeft (s out₀ out : List ℕ) (at nodes meshes weights : ℕ) : Type 0 where
  pub opens : List Open
  pub counts : Counts
  pub nodes_are : counts.nodes ≡ nodes
  pub meshes_are : counts.meshes ≡ meshes
  pub weights_are : counts.weights ≡ weights
  pub long : length opens ≡ nodes
  pub linked : Linked s out at opens
  pub few_nodes : nodes ≤ at
  pub few_meshes : meshes ≤ at
  pub few_weights : weights ≤ at
  pub inside : at ≤ length s
  pub marks : List Mark
  pub marks_long : length marks ≡ nodes
  pub all : MarksAt s marks
  pub room : length (joined (file_rows 3 s)) ≤ length out₀
  pub rows : joined (file_rows 3 s) ≡ rows_ahead (flat_at s at) marks ++ nodes_from s opens counts at
  pub stores : out ≡ sets out₀ 0 (rows_after nodes marks)

module _ (s out₀ : List ℕ) where
  file_is : file_rows 3 s ≡ node_rows [] start (flat_at s 12)
  unfolding file_rows flat if
  file_is = refl

  pub tree_start : 12 ≤ length s → length (joined (file_rows 3 s)) ≤ length out₀ → TreeLeft s out₀ out₀ 12 0 0 0
  unfolding start rows_after
  tree_start h r = record {
    opens = [];
    counts = start;
    nodes_are = refl;
    meshes_are = refl;
    weights_are = refl;
    long = refl;
    linked = tt;
    few_nodes = omega arith;
    few_meshes = omega arith;
    few_weights = omega arith;
    inside = h;
    marks = [];
    marks_long = refl;
    all = tt;
    room = r;
    rows = ap joined file_is;
    stores = refl;
  }

  -- a file without a version
  pub tree_small : length s < 12 → length (joined (file_rows 3 s)) ≤ length out₀ → Bare s out₀ out₀ 0
  unfolding rest node_rows joined rows_after
  tree_small h r =
      let d : split 12 _ ≡ _ = ap (split 12) (drop_of_length-le s {i = 12} (omega arith)) ∙ split-none tag_of 12 in
      record {
        marks = [];
        long = refl;
        few = omega arith;
        small = omega arith;
        all = tt;
        room = r;
        rows = ap joined file_is ∙ ap (λ c. joined (node_rows [] start c)) (run-done s 12 d);
        stores = refl;
      }

  module _ (out : List ℕ) (at nodes meshes weights : ℕ) (v : TreeLeft s out₀ out at nodes meshes weights) where
    pub tree_inside : at ≤ length s
    tree_inside = v.inside

    pub tree_long : length out ≡ length out₀
    tree_long = ap length v.stores ∙ length-sets out₀ 0 (rows_after nodes v.marks)

    module _ (small : length s < 0x100000000) where
      pub tree_meshes : meshes < 0x100000000
      tree_meshes = omega (arith, v.few_meshes, v.inside)

      pub tree_weights : weights < 0x100000000
      tree_weights = omega (arith, v.few_weights, v.inside)

      pub more_nodes : Fits w64 (nodes + 1)
      more_nodes = record { fits = omega (arith, v.few_nodes, v.inside) }

      pub more_words : Fits w64 (node_width * nodes)
      more_words = record { fits = omega (arith, v.few_nodes, v.inside) }

      pub more_meshes : Fits w64 (meshes + 1)
      more_meshes = record { fits = omega (arith, v.few_meshes, v.inside) }

      -- the run ends
      ends : Steps s at None → Bare s out₀ out nodes
      unfolding joined
      ends x =
          let none : nodes_from s v.opens v.counts at ≡ [] = ap joined (x.is.nodes v.opens v.counts) in
          record {
            marks = v.marks;
            long = v.marks_long;
            few = omega (arith, v.few_nodes, v.inside);
            small = small;
            all = v.all;
            room = v.room;
            rows = v.rows ∙ ap (λ (l : List ℕ). rows_ahead (flat_at s at) v.marks ++ l) none ∙ append-nil (rows_ahead (flat_at s at) v.marks) ∙ rows_none (flat_at s at) x.is.before v.marks;
            stores = v.stores;
          }

    module _ (r : Next) (x : NextIs s (span at (length s)) r) where
      pub tree_done : length s < 0x100000000 → r ≡ next.Done → Bare s out₀ out nodes
      tree_done small w = ends small (next-done s at v.inside r x w)

      pub tree_cut : length s < 0x100000000 → (p : ℕ) → r ≡ next.Cut p → Bare s out₀ out nodes
      tree_cut small p w = ends small (next-cut s at v.inside r x p w)

      module _ (t : Tag) (p : ℕ) (b n : Cursor) (w : r ≡ next.Chunk t p b n) (node : Bool) (en : node ≡ is t NODE) where
        -- ---- into a NODE
        module _ (z : node ≡ true) where
          there : NodeAt s at p b
          there = next-node s at v.inside r x t p b n w node en z

          pub tree_body : Inside b (length s)
          tree_body = node-inside s at p b there

          pub tree_climb : length s < 0x100000000 → Climbable s out nodes p
          tree_climb small = record {
            opens = v.opens;
            linked = linked-after s out out at p there.from v.opens (λ j k. refl) v.linked;
            long = v.long;
            room = omega (arith, v.room, tree_long, ap length v.rows, length-append (rows_ahead (flat_at s at) v.marks) (nodes_from s v.opens v.counts at), ahead-long s (flat_at s at) v.marks v.all, v.marks_long);
            few = omega (arith, v.few_nodes, there.from, there.body.head, there.body.room, there.body.within);
            small = small;
          }

          module _ (a : std.Option Named) (ea : a ≡ named_at s b 10) (ia : NamedIn b 10 a) where
            pub tree_stop : length s < 0x100000000 → a ≡ None → Bare s out₀ out nodes
            tree_stop small u = ends small (node-cut s at p b there a ea ia u)

            module _ (g : Named) (u : a ≡ Some g) where
              it : ChunkIs s at NODE p b g.next.at
              it = (node_in s at p b there a ea ia g u).is

              pub tree_read : RowRead s p b g.length g.row
              tree_read = node-read s p b there.body a ea ia g u

              pub tree_next : g.next.at ≤ length s
              tree_next = it.to

              pub tree_less : length s - g.next.at < length s - at
              tree_less = omega (arith, it.more, it.to)

              front : (parent : ℕ) → Front (p + 8) parent (λ below. row_with (named_of node_words (p + 8) (left b s)) (flat_at s g.next.at) parent below (told meshes weights))
              front parent = row-front s p b (it.node tt) (flat_at s g.next.at) parent (told meshes weights)

              body_long : length (left b s) ≡ b.end - b.at
              body_long = left-length s b tree_body

              -- the node
              mark : ℕ → Mark
              mark parent = record { head = p; end = p + 8 + length (left b s); cells = (p + 8) ∷ (front parent).size ∷ parent ∷ (front parent).others }

              -- a row, and those after it
              one : nodes_from s v.opens v.counts at
                  ≡ ((mark (parent_at p v.opens)).cells ++ (nodes_before (p + 8 + length (left b s)) (flat_at s g.next.at) ∷ []))
                  ++ nodes_from s (opened p (left b s) nodes v.opens) (counted NODE p (left b s) v.counts) g.next.at
              unfolding node_rows joined if mark
              one =
                  let o = named_of node_words (p + 8) (left b s) in
                  let cs = flat_at s g.next.at in
                  let parent = parent_at p v.opens in
                  let end = p + 8 + length (left b s) in
                  let row-cells : row_of o cs parent end v.counts ≡ (mark parent).cells ++ (nodes_before end cs ∷ []) =
                  row_told o cs parent end v.counts ∙ ap₂ (λ (m k : ℕ). row_of o cs parent end (told m k)) v.meshes_are v.weights_are ∙ row-with o cs parent end (told meshes weights) ∙ (front parent).is (nodes_before end cs) in
                  ap (λ c. joined (node_rows v.opens v.counts c)) it.run
                  ∙ ap₂ (λ (r : List ℕ) (k : ℕ). r ++ nodes_from s (opened p (left b s) k v.opens) (counted NODE p (left b s) v.counts) g.next.at) row-cells v.nodes_are

              pub tree_room : node_width * nodes + node_width ≤ length out
              unfolding mark
              tree_room =
                  let parent = parent_at p v.opens in
                  let cells = (mark parent).cells in
                  let below = nodes_before (p + 8 + length (left b s)) (flat_at s g.next.at) in
                  let later = nodes_from s (opened p (left b s) nodes v.opens) (counted NODE p (left b s) v.counts) g.next.at in
                  omega (
                    arith,
                    v.room,
                    tree_long,
                    ap length v.rows,
                    length-append (rows_ahead (flat_at s at) v.marks) (nodes_from s v.opens v.counts at),
                    ahead-long s (flat_at s at) v.marks v.all,
                    v.marks_long,
                    ap length one,
                    length-append (cells ++ (below ∷ [])) later,
                    length-append cells (below ∷ []),
                    (front parent).long,
                  )

              pub tree_node : (parent : ℕ) → ParentIs s out nodes p parent → (put : List ℕ)
                  → put ≡ sets out (node_width * nodes) (row_with (named_of node_words (p + 8) (left b s)) (flat_at s g.next.at) parent 0 (told meshes weights)) → TreeLeft s out₀ put g.next.at (nodes + 1) meshes weights
              unfolding nodes_before if mark
              tree_node parent h put ep =
                  let l = v.opens in
                  let from-here : Linked s out p l = linked-after s out out at p it.from l (λ j i. refl) v.linked in
                  let pe : parent ≡ parent_at p l = h.is l from-here v.long in
                  let f = front parent in
                  let cells = (mark parent).cells in
                  let cells_are : put ≡ sets out (node_width * nodes) ((p + 8) ∷ f.size ∷ parent ∷ (f.others ++ (0 ∷ []))) = ep ∙ ap (sets out (node_width * nodes)) (f.is 0) in
                  let link : Link s put g.next.at l (record { end = p + 8 + length (left b s); index = nodes }) =
                  record {
                    head = p;
                    before = omega (arith, it.behind);
                    within = omega (arith, body_long, it.body.head, it.body.room, it.body.within);
                    index_is = sym v.long;
                    name_is = ap (λ (k : ℕ). get_or put (node_width * k) 0) v.long ∙ ap (λ (y : List ℕ). get_or y (node_width * nodes) 0) cells_are
                        ∙ first_cell (p + 8) (f.size ∷ parent ∷ (f.others ++ (0 ∷ []))) out (node_width * nodes) (omega (arith, tree_room));
                    end_is = ap (λ (k : ℕ). p + 8 + k) (sym it.size);
                    above_is = ap (λ (k : ℕ). get_or put (node_width * k + 2) 0) v.long ∙ ap (λ (y : List ℕ). get_or y (node_width * nodes + 2) 0) cells_are
                        ∙ third_cell (p + 8) f.size parent (f.others ++ (0 ∷ [])) out (node_width * nodes) (omega (arith, tree_room)) ∙ pe;
                  } in
                  let before : (j : ℕ) → j < node_width * length l → get_or put j 0 ≡ get_or out j 0 =
                  λ j i. ap (λ (y : List ℕ). get_or y j 0) cells_are ∙ sets_below ((p + 8) ∷ f.size ∷ parent ∷ (f.others ++ (0 ∷ []))) out (node_width * nodes) j (omega (arith, v.long)) in
                  let m = mark parent in
                  let rows = rows_after nodes v.marks in
                  let later = nodes_from s (opened p (left b s) nodes l) (counted NODE p (left b s) v.counts) g.next.at in
                  let below = nodes_before (p + 8 + length (left b s)) (flat_at s g.next.at) in
                  let one-here : nodes_from s l v.counts at ≡ (cells ++ (below ∷ [])) ++ later = one ∙ ap (λ (k : ℕ). ((mark k).cells ++ (below ∷ [])) ++ later) (sym pe) in
                  let base : 0 + length rows ≡ node_width * nodes = omega (arith, rows_long s nodes v.marks v.all, v.marks_long) in
                  let count : suc (length v.marks) ≡ nodes + 1 = omega (arith, v.marks_long) in
                  record {
                    opens = opened p (left b s) nodes l;
                    counts = counted NODE p (left b s) v.counts;
                    nodes_are = counted-nodes p (left b s) v.counts NODE ∙ ap (λ (k : ℕ). k + 1) v.nodes_are;
                    meshes_are = counted-meshes p (left b s) v.counts NODE ∙ v.meshes_are;
                    weights_are = counted-weights p (left b s) v.counts NODE ∙ v.weights_are;
                    long = omega (arith, v.long);
                    linked = (link, linked-after s out put at g.next.at (omega (arith, it.more)) l before v.linked);
                    few_nodes = omega (arith, v.few_nodes, it.more);
                    few_meshes = omega (arith, v.few_meshes, it.more);
                    few_weights = omega (arith, v.few_weights, it.more);
                    inside = it.to;
                    marks = v.marks ++ (m ∷ []);
                    marks_long = length-append v.marks (m ∷ []) ∙ ap (λ (k : ℕ). k + 1) v.marks_long;
                    all = marks-more s v.marks m v.all
                        (record { long = omega (arith, f.long); name = refl; end_is = ap (λ (k : ℕ). p + 8 + k) (sym it.size); within = omega (arith, body_long, it.body.head, it.body.room, it.body.within) });
                    room = v.room;
                    rows = v.rows ∙ ap (λ (y : List ℕ). rows_ahead (flat_at s at) v.marks ++ y) one-here ∙ sym (append_assoc (rows_ahead (flat_at s at) v.marks) (cells ++ (below ∷ [])) later)
                        ∙ ap (λ (y : List ℕ). y ++ later) (sym (rows-node (flat_at s at) (flat_at s g.next.at) m (λ e. ap (nodes_before e) it.run) v.marks));
                    stores = ep ∙ ap (sets out (node_width * nodes)) (f.is 0) ∙ ap₂ (λ (y : List ℕ) (k : ℕ). sets y k (cells ++ (0 ∷ []))) v.stores (sym base) ∙ sym (sets-append rows (cells ++ (0 ∷ [])) out₀ 0)
                        ∙ ap (λ (k : ℕ). sets out₀ 0 (rows_after k v.marks ++ (cells ++ (0 ∷ [])))) (sym v.marks_long) ∙ ap (sets out₀ 0) (sym (bare_more v.marks m)) ∙ ap (λ (k : ℕ). sets out₀ 0 (rows_after k (v.marks ++ (m ∷ [])))) count;
                  }

        -- ---- past another chunk
        module _ (z : node ≡ false) where
          past : ChunkIs s at t p b n.at
          past = (next-other s at v.inside r x t p b n w node en z).is

          pub past_less : length s - n.at < length s - at
          past_less = omega (arith, past.more, past.to)

          pub past_order : b.at ≤ b.end
          past_order = past.body.room

          no : (k : Tag) (ok : Bool) → ok ≡ is t k → ok ≡ false → T (not (is t k))
          no k ok e y = subst (λ (c : Bool). T (not c)) (sym y ∙ e) tt

          no_node : T (not (is t NODE))
          no_node = no NODE node en z

          same_meshes : T (not (is t MESH)) → (counted t p (left b s) v.counts).meshes ≡ meshes
          same_meshes y = counted-meshes p (left b s) v.counts t ∙ if_no (is t MESH) _ _ y ∙ v.meshes_are

          same_weights : T (not (is t BONE)) → (counted t p (left b s) v.counts).weights ≡ weights
          same_weights y = counted-weights p (left b s) v.counts t ∙ if_no (is t BONE) _ _ y ∙ v.weights_are

          passed : (m k : ℕ) → (counted t p (left b s) v.counts).meshes ≡ m → (counted t p (left b s) v.counts).weights ≡ k → m ≤ n.at → k ≤ n.at → TreeLeft s out₀ out n.at nodes m k
          unfolding node_rows nodes_before
          passed m k em ek fm fk = record {
            opens = v.opens;
            counts = counted t p (left b s) v.counts;
            nodes_are = counted-nodes p (left b s) v.counts t ∙ if_no (is t NODE) _ _ no_node ∙ v.nodes_are;
            meshes_are = em;
            weights_are = ek;
            long = v.long;
            linked = linked-after s out out at n.at (omega (arith, past.more)) v.opens (λ j i. refl) v.linked;
            few_nodes = omega (arith, v.few_nodes, past.more);
            few_meshes = fm;
            few_weights = fk;
            inside = past.to;
            marks = v.marks;
            marks_long = v.marks_long;
            all = v.all;
            room = v.room;
            rows = v.rows ∙ ap₂ (λ (a c : List ℕ). a ++ c)
                (rows_same (flat_at s at) (flat_at s n.at) (λ e. ap (nodes_before e) past.run ∙ if_no (is t NODE) _ (nodes_before e (flat_at s n.at)) no_node) v.marks)
                (ap (λ c. joined (node_rows v.opens v.counts c)) past.run ∙ ap joined (if_no (is t NODE) _ (node_rows v.opens (counted t p (left b s) v.counts) (flat_at s n.at)) no_node));
            stores = v.stores;
          }

          module _ (ok : Bool) (eo : ok ≡ is t MESH) where
            pub tree_mesh : ok ≡ true → TreeLeft s out₀ out n.at nodes (meshes + 1) weights
            tree_mesh u = passed (meshes + 1) weights
                (counted-meshes p (left b s) v.counts t ∙ if_yes (is t MESH) _ _ (subst T (sym u ∙ eo) tt) ∙ ap (λ (k : ℕ). k + 1) v.meshes_are)
                (same_weights (subst (λ (y : Tag). T (not (is y BONE))) (sym (tag_same t MESH (subst T (sym u ∙ eo) tt))) tt)) (omega (arith, v.few_meshes, past.more)) (omega (arith, v.few_weights, past.more))

            module _ (y : ok ≡ false) (bo : Bool) (eb : bo ≡ is t BONE) where
              pub more_weights : length s < 0x100000000 → Fits w64 (weights + (b.end - b.at) / 8)
              more_weights small = record { fits = omega (arith, v.few_weights, v.inside, div-le_self (b.end - b.at) 8, past.body.within) }

              pub tree_bone : bo ≡ true → TreeLeft s out₀ out n.at nodes meshes (weights + (b.end - b.at) / 8)
              tree_bone u = passed meshes (weights + (b.end - b.at) / 8) (same_meshes (no MESH ok eo y))
                  (counted-weights p (left b s) v.counts t ∙ if_yes (is t BONE) _ _ (subst T (sym u ∙ eb) tt)
                  ∙ omega (arith, v.weights_are, bone-count s b (record { before = past.body.room; within = past.body.within })))
                  (omega (arith, v.few_meshes, past.more))
                  (omega (arith, v.few_weights, div-le_self (b.end - b.at) 8, past.past no_node, past.from, past.body.head, past.body.room))

              pub tree_other : bo ≡ false → TreeLeft s out₀ out n.at nodes meshes weights
              tree_other u = passed meshes weights (same_meshes (no MESH ok eo y)) (same_weights (no BONE bo eb u)) (omega (arith, v.few_meshes, past.more)) (omega (arith, v.few_weights, past.more))

pub ruleset tree_laws = (tree_start, tree_small, tree_inside, tree_long, tree_meshes, tree_weights, more_nodes, more_words, more_meshes, tree_done, tree_cut, tree_body, tree_climb, tree_stop, tree_read, tree_next, tree_less, tree_room, tree_node, past_less, past_order, tree_mesh, more_weights, tree_bone, tree_other)
