-- A loop over nodes, each with what is its own, its parent on the path and what that says of bones.
use mathlib.Core.Path.{◌≡◌, refl, ap, ap₂, sym, ◌∙◌}
use Prim.Native.Nat.{ℕ, suc, ◌+◌, ◌-◌, ◌*◌, ◌≤◌, ◌<◌}
use native.Mathlib.Omega.{arith}
use mathlib.Core.Bool.{Bool, true, false, not, ◌&&◌}
use mathlib.Core.List.{List, [], ◌∷◌}
use lib.ListN.{length, drop, get_or, set, length-set}
use lib.Dec.{T, leb, ltb, eqb, leb→le}
use borrow.Author.Tests.{lt-ltb, le-ltb}
use mir.Syntax.{w64}
use mir.Val.{Fits}
use Rattle.wire.specs.Test.{if}
use Rattle.layout.proofs.ResultLaws.{if_case}
use Rattle.b3d_spec.specs.Rebuild.{Rows}
use Rattle.b3d_spec.specs.Rules.{levels}
use Rattle.b3d_spec.specs.Tables.{node_width}
use Rattle.b3d_spec.specs.declared.Counts.{Counts}
use Rattle.b3d_check_spec.specs.CellCounts.{mesh_counts, weight_counts, kind_counts, node_counts, cell_counts, cell_bone_limit}
use Rattle.b3d_check_spec.specs.Check.{node_valid, spent, Level, up_to, end_from, bone_limit_of, nodes_valid}
use Rattle.b3d_check_rows.specs.Rows.{row_at, rows_at}
use Rattle.b3d_check_rows.proofs.AndLaws.{and_stop, and_go}
use Rattle.b3d_check_rows.proofs.RowCellLaws.{row_cell, rows_none, rows_next}
use Rattle.b3d_check_spec.specs.Rooms.{Limited}
use Rattle.b3d_check_node_counts.specs.Parts.{part_rows, Below}
use Rattle.b3d_check_node_counts.proofs.AfterLaws.{kind-keeps}
use Rattle.b3d_check_node_counts.proofs.EndedLaws.{ended-spent}
use Rattle.b3d_check_node.proofs.BoundLaws.{after-below}
use Rattle.b3d_check_node_counts.specs.Ended.{ended}
use Rattle.b3d_check_parents.specs.Path.{path_of, CutTo, Ending}
use Rattle.b3d_check_parents.proofs.PathLaws.{path-length, path-told, path-set}

-- counts need the tables 4, 6 and 9 alone
pub counts-few : (n a : Counts) (x t₄ t₅ t₆ t₇ t₈ t₉ t₁₀ : List ℕ) → cell_counts (part_rows a t₄ [] t₆ [] [] t₉ []) x n ≡ cell_counts (part_rows a t₄ t₅ t₆ t₇ t₈ t₉ t₁₀) x n
unfolding cell_counts kind_counts part_rows if
counts-few n a x t₄ t₅ t₆ t₇ t₈ t₉ t₁₀ = refl

-- a node adds vertices or none
vertices_grow : (R : Rows) (x : List ℕ) (n : Counts) → n.vertices ≤ (cell_counts R x n).vertices
unfolding cell_counts node_counts kind_counts mesh_counts weight_counts
vertices_grow R x n =
    let y = drop 13 x in
    let grow : Counts → Type 0 = λ m. n.vertices ≤ m.vertices in
    if_case grow (eqb (get_or y 0 0) 1) _ _ (λ t. omega arith) (λ t. if_case grow (eqb (get_or y 0 0) 2) _ _ (λ u. omega arith) (λ u. omega arith))

-- a node's number is small
pub nodes-small : (a : Counts) → Limited a → (n : ℕ) → n < a.nodes → n < 0x100000000
nodes-small a l n h = omega (arith, l.nodes)

-- a level of the path, and the one above it
pub level_above : (d k : ℕ) → d < k → d - 1 < k
level_above d k h = omega arith

pub level_below : (d : ℕ) → d < 16 → Fits w64 (d + 1)
level_below d h = record { fits = omega arith }

-- a cell of its row is there
pub cell_there : (k n a l : ℕ) → n < a → node_width * a ≤ l → k < node_width → node_width * n + k < l
cell_there k n a l h r w = omega arith

-- where node n's is sound, so many rows are counted after it
module _ (ns : List ℕ) (brushes told : ℕ) (a : Counts) (t₃ t₄ t₅ t₆ t₇ t₈ t₉ t₁₀ : List ℕ) (n : Counts) (i : Below n a) (h : n.nodes < a.nodes)
    (r : Bool) (er : r ≡ node_valid ns brushes told (part_rows a t₄ t₅ t₆ t₇ t₈ t₉ t₁₀) (row_at node_width n.nodes t₃) n) (f : not r ≡ false) where
  pub nodes-after : Below (cell_counts (part_rows a t₄ [] t₆ [] [] t₉ []) (row_at node_width n.nodes t₃) n) a
  nodes-after = after-below ns brushes told n a t₃ t₄ t₅ t₆ t₇ t₈ t₉ t₁₀ (row_at node_width n.nodes t₃) i h r er f

  pub bones-small : (m : Counts) → m ≡ cell_counts (part_rows a t₄ [] t₆ [] [] t₉ []) (row_at node_width n.nodes t₃) n → Limited a → m.vertices < 0x100000000
  bones-small m em l = rw em (omega (arith, nodes-after.vertices, l.vertices))

module _ (a : Counts) (t₃ t₄ t₆ t₉ : List ℕ) (n m : Counts) (em : m ≡ cell_counts (part_rows a t₄ [] t₆ [] [] t₉ []) (row_at node_width n.nodes t₃) n) where
  one_more : m.nodes ≡ n.nodes + 1
  unfolding cell_counts node_counts
  one_more = ap (λ (k : Counts). k.nodes) em ∙ ap (λ (k : ℕ). k + 1) (kind-keeps _ n _).nodes

  pub nodes-less : n.nodes < a.nodes → a.nodes - m.nodes < a.nodes - n.nodes
  nodes-less h = omega (arith, one_more)

  pub bones_grow : n.vertices ≤ m.vertices
  bones_grow = rw em (vertices_grow (part_rows a t₄ [] t₆ [] [] t₉ []) (row_at node_width n.nodes t₃) n)

-- the nodes before n's are sound: what the rest says, on the path that the arrays hold, is what all from `from` on say below the root
pub record NodesFrom (ns : List ℕ) (brushes root end : ℕ) (R : Rows) (a : Counts) (t₃ path₀ ends₀ bones₀ : List ℕ) (from : Counts) (path ends bones : List ℕ) (depth : ℕ) (n : Counts) : Type 0 where
  pub below : Below n a
  pub path_long : length path ≡ length path₀
  pub path_room : 16 ≤ length path₀
  pub ends_long : length ends ≡ length ends₀
  pub ends_room : 16 ≤ length ends₀
  pub bones_long : length bones ≡ length bones₀
  pub bones_room : 16 ≤ length bones₀
  pub deep : depth ≤ 16
  pub same : nodes_valid ns brushes R (path_of path ends bones depth) (rows_at node_width n.nodes (a.nodes - n.nodes) t₃) n
      ≡ nodes_valid ns brushes R (record { node = 0; end = end; bones = root } ∷ []) (rows_at node_width from.nodes (a.nodes - from.nodes) t₃) from

module _ (ns : List ℕ) (brushes root end : ℕ) (a : Counts) (t₃ t₄ t₅ t₆ t₇ t₈ t₉ t₁₀ path₀ ends₀ bones₀ : List ℕ) (from : Counts) where
  abbrev R : Rows
  R = part_rows a t₄ t₅ t₆ t₇ t₈ t₉ t₁₀

  -- what is to be said of all
  abbrev All : Bool
  All = nodes_valid ns brushes R (record { node = 0; end = end; bones = root } ∷ []) (rows_at node_width from.nodes (a.nodes - from.nodes) t₃) from

  pub nodes_none : Below from a → 16 ≤ length path₀ → 16 ≤ length ends₀ → 16 ≤ length bones₀ → get_or path₀ 0 0 ≡ 0 → get_or ends₀ 0 0 ≡ end → get_or bones₀ 0 0 ≡ root
      → NodesFrom ns brushes root end (part_rows a t₄ t₅ t₆ t₇ t₈ t₉ t₁₀) a t₃ path₀ ends₀ bones₀ from path₀ ends₀ bones₀ 1 from
  unfolding path_of
  nodes_none h lp le lb ep ee eb =
      record { below = h; path_long = refl; path_room = lp; ends_long = refl; ends_room = le; bones_long = refl; bones_room = lb; deep = omega arith; same = rw (ep, ee, eb) }

  module _ (path ends bones : List ℕ) (depth : ℕ) (n : Counts) (i : NodesFrom ns brushes root end (part_rows a t₄ t₅ t₆ t₇ t₈ t₉ t₁₀) a t₃ path₀ ends₀ bones₀ from path ends bones depth n) where
    pub path_there : depth ≤ length path
    path_there = omega (arith, i.deep, i.path_long, i.path_room)

    pub ends_there : depth ≤ length ends
    ends_there = omega (arith, i.deep, i.ends_long, i.ends_room)

    -- no node is left
    module _ (h : a.nodes ≤ n.nodes) (b : Bool) (eb : Ending ends depth n.nodes b) where
      last : All ≡ (b && spent R n)
      unfolding nodes_valid
      last =
          let z : a.nodes - n.nodes ≡ 0 = omega arith in
          sym i.same ∙ ap (λ (l : List (List ℕ)). nodes_valid ns brushes R (path_of path ends bones depth) l n) (ap (λ (c : ℕ). rows_at node_width n.nodes c t₃) z ∙ rows_none node_width n.nodes t₃)
          ∙ ap (λ (c : Bool). c && spent R n) (sym (eb.is path bones))

      pub nodes_open : not b ≡ true → false ≡ nodes_valid ns brushes (part_rows a t₄ t₅ t₆ t₇ t₈ t₉ t₁₀) (record { node = 0; end = end; bones = root } ∷ []) (rows_at node_width from.nodes (a.nodes - from.nodes) t₃) from
      nodes_open f = and_stop b b _ refl f ∙ sym last

      pub nodes_done : not b ≡ false → (r : Bool) → r ≡ ended n a
          → r ≡ nodes_valid ns brushes (part_rows a t₄ t₅ t₆ t₇ t₈ t₉ t₁₀) (record { node = 0; end = end; bones = root } ∷ []) (rows_at node_width from.nodes (a.nodes - from.nodes) t₃) from
      nodes_done f r e = and_go b b _ r refl f (e ∙ ended-spent n a t₄ t₅ t₆ t₇ t₈ t₉ t₁₀) ∙ sym last

    module _ (h : n.nodes < a.nodes) (p : ℕ) (ep : p ≡ get_or t₃ (node_width * n.nodes + 2) 0) (d : ℕ) (e : CutTo path ends depth n.nodes p d) where
      abbrev x : List ℕ
      x = row_at node_width n.nodes t₃

      -- what is said below the level d, by what that says of bones
      abbrev turn : ℕ → Bool
      turn told =
          node_valid ns brushes told R x n
          && nodes_valid ns brushes R (record { node = n.nodes; end = end_from n.nodes x; bones = cell_bone_limit told R x n } ∷ path_of path ends bones d) (rows_at node_width (n.nodes + 1) (a.nodes - (n.nodes + 1)) t₃) (cell_counts R x n)

      step : All ≡ (ltb 0 d && (ltb d levels && turn (bone_limit_of (path_of path ends bones d))))
      unfolding nodes_valid
      step =
          let c : a.nodes - n.nodes ≡ suc (a.nodes - (n.nodes + 1)) = omega arith in
          let q : up_to n.nodes (get_or x 2 0) (path_of path ends bones depth) ≡ path_of path ends bones d = ap (λ (j : ℕ). up_to n.nodes j (path_of path ends bones depth)) (row_cell node_width n.nodes 2 t₃ (omega arith) ∙ sym ep) ∙ sym (e.is bones) in
          sym i.same
          ∙ ap (λ (l : List (List ℕ)). nodes_valid ns brushes R (path_of path ends bones depth) l n) (ap (λ (k : ℕ). rows_at node_width n.nodes k t₃) c ∙ rows_next node_width n.nodes (a.nodes - (n.nodes + 1)) t₃)
          ∙ ap (λ (l : List Level). ltb 0 (length l) && (ltb (length l) levels && (node_valid ns brushes (bone_limit_of l) R x n
          && nodes_valid ns brushes R (record { node = n.nodes; end = end_from n.nodes x; bones = cell_bone_limit (bone_limit_of l) R x n } ∷ l) (rows_at node_width (n.nodes + 1) (a.nodes - (n.nodes + 1)) t₃) (cell_counts R x n)))) q
          ∙ ap (λ (k : ℕ). ltb 0 k && (ltb k levels && turn (bone_limit_of (path_of path ends bones d)))) (path-length path ends bones d)

      pub nodes_wrong : d ≤ 0 → false ≡ nodes_valid ns brushes (part_rows a t₄ t₅ t₆ t₇ t₈ t₉ t₁₀) (record { node = 0; end = end; bones = root } ∷ []) (rows_at node_width from.nodes (a.nodes - from.nodes) t₃) from
      nodes_wrong z = rw (step, le-ltb 0 d z)

      module _ (z : 0 < d) where
        -- a bound that is no less than 16
        pub nodes_deep : (k : ℕ) → k ≤ d → T (leb 16 k) → false ≡ nodes_valid ns brushes (part_rows a t₄ t₅ t₆ t₇ t₈ t₉ t₁₀) (record { node = 0; end = end; bones = root } ∷ []) (rows_at node_width from.nodes (a.nodes - from.nodes) t₃) from
        nodes_deep k g t = let l = leb→le 16 k t in rw (step, lt-ltb 0 d z, le-ltb d 16 (omega arith))

        module _ (k : d < 16) (told : ℕ) (et : told ≡ get_or bones (d - 1) 0) (r : Bool) (er : r ≡ node_valid ns brushes told (part_rows a t₄ t₅ t₆ t₇ t₈ t₉ t₁₀) (row_at node_width n.nodes t₃) n) where
          on : All ≡ turn told
          on = step ∙ rw (lt-ltb 0 d z, lt-ltb d 16 k) (ap turn (path-told path ends bones d z ∙ sym et))

          pub nodes_stop : not r ≡ true → false ≡ nodes_valid ns brushes (part_rows a t₄ t₅ t₆ t₇ t₈ t₉ t₁₀) (record { node = 0; end = end; bones = root } ∷ []) (rows_at node_width from.nodes (a.nodes - from.nodes) t₃) from
          nodes_stop f = and_stop r (node_valid ns brushes told R x n) _ er f ∙ sym on

          module _ (f : not r ≡ false) where
            module _ (m : Counts) (em : m ≡ cell_counts (part_rows a t₄ [] t₆ [] [] t₉ []) (row_at node_width n.nodes t₃) n) where
              module _ (u : ℕ) (eu : u ≡ n.nodes + 1 + get_or t₃ (node_width * n.nodes + 20) 0) (v : ℕ) (ev : v ≡ if (eqb (get_or t₃ (node_width * n.nodes + 16) 0) 1) (m.vertices - n.vertices) told) where
                whole : m ≡ cell_counts R x n
                whole = em ∙ counts-few n a x t₄ t₅ t₆ t₇ t₈ t₉ t₁₀

                one : m.nodes ≡ n.nodes + 1
                one = one_more a t₃ t₄ t₆ t₉ n m em

                end_is : u ≡ end_from n.nodes x
                end_is = eu ∙ ap (λ (c : ℕ). n.nodes + 1 + c) (sym (row_cell node_width n.nodes 20 t₃ (omega arith)))

                bones_is : v ≡ cell_bone_limit told R x n
                unfolding cell_bone_limit
                bones_is = ev ∙ ap₂ (λ (c : ℕ) (q : Counts). if (eqb c 1) (q.vertices - n.vertices) told) (sym (row_cell node_width n.nodes 16 t₃ (omega arith))) whole

                pub nodes_next : NodesFrom ns brushes root end (part_rows a t₄ t₅ t₆ t₇ t₈ t₉ t₁₀) a t₃ path₀ ends₀ bones₀ from (set path d n.nodes) (set ends d u) (set bones d v) (d + 1) m
                nodes_next =
                    record {
                      below = rw em (nodes-after ns brushes told a t₃ t₄ t₅ t₆ t₇ t₈ t₉ t₁₀ n i.below h r er f);
                      path_long = length-set path d n.nodes ∙ i.path_long;
                      path_room = i.path_room;
                      ends_long = length-set ends d u ∙ i.ends_long;
                      ends_room = i.ends_room;
                      bones_long = length-set bones d v ∙ i.bones_long;
                      bones_room = i.bones_room;
                      deep = omega arith;
                      same =
                          ap (λ (l : List Level). nodes_valid ns brushes R l (rows_at node_width m.nodes (a.nodes - m.nodes) t₃) m)
                          (path-set path ends bones d n.nodes u v (omega (arith, i.path_long, i.path_room)) (omega (arith, i.ends_long, i.ends_room)) (omega (arith, i.bones_long, i.bones_room)))
                          ∙ (λ j. nodes_valid ns brushes R (record { node = n.nodes; end = end_is j; bones = bones_is j } ∷ path_of path ends bones d) (rows_at node_width (one j) (a.nodes - one j) t₃) (whole j))
                          ∙ and_go r (node_valid ns brushes told R x n) _ _ er f refl ∙ sym on;
                    }
