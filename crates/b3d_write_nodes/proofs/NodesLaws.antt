-- The loop of `write_nodes`: a law for each way.
use mathlib.Core.Path.{◌≡◌, refl, ap, sym, ◌∙◌, subst}
use mathlib.Core.Logic.{◌≢◌, ◌⊎◌, inl, inr}
use Prim.Native.Nat.{ℕ, ◌+◌, ◌-◌, ◌*◌, ◌<◌, ◌≤◌}
use native.Mathlib.Omega.{arith}
use mathlib.Core.Option.{Option}
use mathlib.Core.List.{List, [], ◌++◌}
use lib.ListN.{length, take, drop, get_or, length-drop}
use Rattle.layout.specs.Rules.{NONE}
use Rattle.shared_output.specs.Writing.{Room}
use Rattle.shared_output.proofs.PieceLaws.{Pieces, pieces_none, piece-room, piece-next, pieces-done}
use Rattle.b3d_spec.specs.declared.Counts.{Counts}
use Rattle.b3d_spec.specs.Encode.{node_chunks}
use Rattle.b3d_spec.specs.Rebuild.{Rows}
use Rattle.b3d_spec.specs.Scene.{Data, Forest, no_nodes, node}
use Rattle.b3d_spec.specs.Tables.{with_node, with_forest, node_width}
use Rattle.layout.specs.Write.{write_chunks as write_chunks_of}
use Rattle.b3d_spec.proofs.Rows.NodeRowLaws.{nodes-step}
use Rattle.b3d_spec.proofs.Rows.TreeLaws.{nodes_rise}
use Rattle.b3d_spec.proofs.Rows.RowListLaws.{cut-length}
use Rattle.b3d_check_spec.proofs.BelowLaws.{here-more, here_end}
use Rattle.b3d_check_spec.proofs.PlaceLaws.{cut_cell}
use Rattle.b3d_check_node_counts.specs.Parts.{Below}
use Rattle.b3d_write_node.specs.Own.{table_rows}
use Rattle.b3d_write_nodes.specs.Walk.{nodes_bytes, node_bytes, TablesSized, Stand, First, NodePlaced, Writable, WritesNodes, WritableFirst, WritesFirst}
use Rattle.b3d_write_nodes.proofs.NodeByteLaws.{nodes-both}
use Rattle.b3d_write_nodes.proofs.StandingLaws.{stand-first, stand-others, first-placed, placed-there}
use Rattle.b3d_write_nodes.proofs.TableLaws.{first_of, below_all, rows_3}

no-nodes : nodes_bytes no_nodes ≡ []
unfolding nodes_bytes node_chunks write_chunks_of
no-nodes = refl

-- of the nodes f that stand at the start, those left at m
pub record Left (ns : List ℕ) (R : Rows) (l b : ℕ) (above : Option ℕ) (f : Forest) (p : ℕ) (n : Counts) (S : Rows) (out₀ out : List ℕ) (at : ℕ) (m : Counts) : Type 0 where
  pub rest : Forest
  pub stand : Stand ns R l b above rest p m S
  pub pieces : Pieces 0 (nodes_bytes f) (nodes_bytes rest) out₀ out at
  pub counts : with_forest f n ≡ with_forest rest m

-- whatever nodes stand at the start, some of them are left; and some do
pub record NodesLeft (ns : List ℕ) (R : Rows) (l p : ℕ) (n : Counts) (out₀ out : List ℕ) (at : ℕ) (m : Counts) : Type 0 where
  pub first : Writable ns R l p n out₀
  pub each : (b : ℕ) (above : Option ℕ) (f : Forest) (S : Rows) → Stand ns R l b above f p n S → Room (nodes_bytes f) out₀ → Left ns R l b above f p n S out₀ out at m

module _ (ns : List ℕ) (a : Counts) (t₃ t₄ t₅ t₆ t₇ t₈ t₉ t₁₀ : List ℕ) (z : TablesSized a t₃ t₄ t₅ t₆ t₇ t₈ t₉ t₁₀) (l p : ℕ) (n : Counts) (out₀ : List ℕ) where
  abbrev R : Rows
  R = table_rows t₃ t₄ t₅ t₆ t₇ t₈ t₉ t₁₀

  pub nodes_start : Writable ns R l p n out₀ → NodesLeft ns R l p n out₀ out₀ 0 n
  nodes_start w = record {
    first = w;
    each = λ b above f S s r. record { rest = f; stand = s; pieces = pieces_none [] (nodes_bytes f) out₀ 0 refl r; counts = refl };
  }

  module _ (out : List ℕ) (at : ℕ) (m : Counts) (v : NodesLeft ns R l p n out₀ out at m) where
    -- those that were promised
    ours : Left ns R l v.first.brushes v.first.above v.first.forest p n v.first.after out₀ out at m
    ours = v.each v.first.brushes v.first.above v.first.forest v.first.after v.first.stand v.first.room

    below : Below m a
    below = below_all a t₃ t₄ t₅ t₆ t₇ t₈ t₉ t₁₀ z m ours.stand.there

    parent_low : p < NONE
    parent_low = omega (arith, ours.stand.low, below.nodes, z.limited.nodes)

    pub nodes_long : length out ≡ length out₀
    nodes_long = ours.pieces.wrote.long

    pub nodes_below : at < 4294967296
    nodes_below = ours.pieces.below

    pub nodes_inside : at ≤ length out
    nodes_inside = ours.pieces.inside

    pub nodes_index : m.nodes < a.nodes → node_width * m.nodes + 2 < length t₃
    nodes_index h = omega (arith, z.nodes)

    -- the parent cell of the row at m
    parent_cell : m.nodes < a.nodes → get_or (get_or (drop m.nodes (R 3)) 0 []) 2 0 ≡ get_or t₃ (node_width * m.nodes + 2) 0
    parent_cell h =
        ap (λ (r : List ℕ). get_or r 2 0) (first_of m.nodes (R 3) ∙ ap (λ (q : List (List ℕ)). get_or q m.nodes []) (rows_3 a t₃ t₄ t₅ t₆ t₇ t₈ t₉ t₁₀ z))
        ∙ cut_cell node_width a.nodes m.nodes 2 t₃ h (omega arith)

    table_length : length (R 3) ≡ a.nodes
    table_length = ap length (rows_3 a t₃ t₄ t₅ t₆ t₇ t₈ t₉ t₁₀ z) ∙ cut-length node_width a.nodes t₃

    -- no node is left where the table ends, or where the next row is under another node
    ended : a.nodes ≤ m.nodes ⊎ ((m.nodes < a.nodes) × (get_or t₃ (node_width * m.nodes + 2) 0 ≢ p)) → (b : ℕ) (above : Option ℕ) (S : Rows) (t : Forest) → Stand ns R l b above t p m S → t ≡ no_nodes
    ended e b above S no_nodes s = refl
    ended e b above S (node d ch sib) s =
        let k : Below (with_node d m) a = below_all a t₃ t₄ t₅ t₆ t₇ t₈ t₉ t₁₀ z (with_node d m) (placed-there ns R l m (first-placed ns R l b above d ch sib p m S s)) in
        absurd (elim e [
          | inl h ↦ omega (arith, k.nodes, nodes-step d m)
          | inr h ↦ h.1 (sym (parent_cell h.0) ∙ (here-more R d ch sib p m S s.here).1)
        ])

    whole : a.nodes ≤ m.nodes ⊎ ((m.nodes < a.nodes) × (get_or t₃ (node_width * m.nodes + 2) 0 ≢ p)) → WritesNodes ns R l p n out₀ out at m
    unfolding with_forest
    whole e = record {
      small = ours.pieces.below;
      bytes = λ b above f S s r.
          let y = v.each b above f S s r in
          let q = ended e b above S y.rest y.stand in
          pieces-done (subst (λ (w : List ℕ). Pieces 0 (nodes_bytes f) w out₀ out at) (ap nodes_bytes q ∙ no-nodes) y.pieces);
      counts = λ b above f S s r.
          let y = v.each b above f S s r in
          sym (y.counts ∙ ap (λ (t : Forest). with_forest t m) (ended e b above S y.rest y.stand));
    }

    pub nodes_end : a.nodes ≤ m.nodes → WritesNodes ns R l p n out₀ out at m
    nodes_end h = whole (inl h)

    pub nodes_other : m.nodes < a.nodes → (c : ℕ) → c ≡ get_or t₃ (node_width * m.nodes + 2) 0 → (c ≡ p → ⊥) → WritesNodes ns R l p n out₀ out at m
    nodes_other h c e d = whole (inr (h, (λ q. d (e ∙ q))))

    module _ (h : m.nodes < a.nodes) (c : ℕ) (ec : c ≡ get_or t₃ (node_width * m.nodes + 2) 0) (same : c ≡ p) where
      -- the first of those left
      record Next (b : ℕ) (above : Option ℕ) (t : Forest) (S : Rows) : Type 0 where
        own : Data
        children : Forest
        others : Forest
        is : t ≡ node own children others
        stand : First ns R l b above own children others p m S
        later : Stand ns R l b above others p (with_forest children (with_node own m)) S

      next : (b : ℕ) (above : Option ℕ) (t : Forest) (S : Rows) → Stand ns R l b above t p m S → Next b above t S
      next b above no_nodes S s =
          absurd (elim (here_end R p m S parent_low s.here) [
            | inl e ↦ (let q = ap length e in omega (arith, length-drop m.nodes (R 3), table_length))
            | inr d ↦ d (parent_cell h ∙ sym ec ∙ same)
          ])
      next b above (node d ch sib) S s = record { own = d; children = ch; others = sib; is = refl; stand = stand-first ns R l b above d ch sib p m S s; later = stand-others ns R l b above d ch sib p m S s }

      ours_next : Next v.first.brushes v.first.above ours.rest v.first.after
      ours_next = next v.first.brushes v.first.above ours.rest v.first.after ours.stand

      abbrev placed : (b : ℕ) (above : Option ℕ) (t : Forest) (S : Rows) → Next b above t S → NodePlaced ns R l m
      placed b above t S x = record { brushes = b; above = above; own = x.own; children = x.children; siblings = x.others; parent = p; after = S; stand = x.stand }

      -- what is left is the first of them and the others
      first_rest : (b : ℕ) (above : Option ℕ) (t : Forest) (S : Rows) (x : Next b above t S) → nodes_bytes t ≡ node_bytes x.own x.children ++ nodes_bytes x.others
      first_rest b above t S x = ap nodes_bytes x.is ∙ nodes-both x.own x.children x.others

      pub nodes-first : WritableFirst ns R l m (take (length out - at) (drop at out))
      nodes-first =
          let x = ours_next in
          record {
            placed = placed v.first.brushes v.first.above ours.rest v.first.after x;
            room = piece-room ours.pieces (node_bytes x.own x.children) (nodes_bytes x.others) (first_rest v.first.brushes v.first.above ours.rest v.first.after x);
          }

      module _ (zs : List ℕ) (size : ℕ) (k : Counts) (w : WritesFirst ns R l m (take (length out - at) (drop at out)) zs size k) where
        more : (b : ℕ) (above : Option ℕ) (f : Forest) (S : Rows) → Left ns R l b above f p n S out₀ out at m → Left ns R l b above f p n S out₀ (take at out ++ (zs ++ drop (length out - at) (drop at out))) (at + size) k
        unfolding with_forest
        more b above f S y =
            let x = next b above y.rest S y.stand in
            let e = first_rest b above y.rest S x in
            let r = piece-room y.pieces (node_bytes x.own x.children) (nodes_bytes x.others) e in
            let ek = w.counts (placed b above y.rest S x) r in
            record {
              rest = x.others;
              stand = rw ek x.later;
              pieces = piece-next y.pieces (node_bytes x.own x.children) (nodes_bytes x.others) e (w.bytes (placed b above y.rest S x) r);
              counts = y.counts ∙ ap (λ (t : Forest). with_forest t m) x.is ∙ ap (with_forest x.others) (sym ek);
            }

        pub nodes-more : NodesLeft ns R l p n out₀ (take at out ++ (zs ++ drop (length out - at) (drop at out))) (at + size) k
        nodes-more = record { first = v.first; each = λ b above f S s r. more b above f S (v.each b above f S s r) }

        -- the rows left are fewer
        pub nodes-less : a.nodes - k.nodes < a.nodes - m.nodes
        nodes-less =
            let y = nodes-first in
            less y.placed.own y.placed.children (w.counts y.placed y.room)
          where
            less : (d : Data) (ch : Forest) → k ≡ with_forest ch (with_node d m) → a.nodes - k.nodes < a.nodes - m.nodes
            less d ch e = let q = ap (λ (c : Counts). c.nodes) e in omega (arith, nodes-step d m, nodes_rise ch (with_node d m))

pub ruleset nodes_laws = (nodes_start, nodes_long, nodes_inside, nodes_index, nodes_end, nodes_other, nodes_below, nodes-first, nodes-more, nodes-less)

-- ---- the same laws by what the loop has at hand

module _ {ns : List ℕ} {a : Counts} {t₃ t₄ t₅ t₆ t₇ t₈ t₉ t₁₀ : List ℕ} (z : TablesSized a t₃ t₄ t₅ t₆ t₇ t₈ t₉ t₁₀) {l p : ℕ} {n : Counts} {out₀ out : List ℕ} {at : ℕ} {m : Counts}
    (v : NodesLeft ns (table_rows t₃ t₄ t₅ t₆ t₇ t₈ t₉ t₁₀) l p n out₀ out at m) where
  pub at_other : m.nodes < a.nodes → {c : ℕ} → c ≡ get_or t₃ (node_width * m.nodes + 2) 0 → (c ≡ p → ⊥) → WritesNodes ns (table_rows t₃ t₄ t₅ t₆ t₇ t₈ t₉ t₁₀) l p n out₀ out at m
  at_other h {c} e d = nodes_other ns a t₃ t₄ t₅ t₆ t₇ t₈ t₉ t₁₀ z l p n out₀ out at m v h c e d

  pub at-end : a.nodes ≤ m.nodes → WritesNodes ns (table_rows t₃ t₄ t₅ t₆ t₇ t₈ t₉ t₁₀) l p n out₀ out at m
  at-end h = nodes_end ns a t₃ t₄ t₅ t₆ t₇ t₈ t₉ t₁₀ z l p n out₀ out at m v h

  module _ (h : m.nodes < a.nodes) {c : ℕ} (e : c ≡ get_or t₃ (node_width * m.nodes + 2) 0) (d : c ≡ p) where
    pub at_first : WritableFirst ns (table_rows t₃ t₄ t₅ t₆ t₇ t₈ t₉ t₁₀) l m (take (length out - at) (drop at out))
    at_first = nodes-first ns a t₃ t₄ t₅ t₆ t₇ t₈ t₉ t₁₀ z l p n out₀ out at m v h c e d

    module _ {zs : List ℕ} {size : ℕ} {k : Counts} (w : WritesFirst ns (table_rows t₃ t₄ t₅ t₆ t₇ t₈ t₉ t₁₀) l m (take (length out - at) (drop at out)) zs size k) where
      pub at_more : NodesLeft ns (table_rows t₃ t₄ t₅ t₆ t₇ t₈ t₉ t₁₀) l p n out₀ (take at out ++ (zs ++ drop (length out - at) (drop at out))) (at + size) k
      at_more = nodes-more ns a t₃ t₄ t₅ t₆ t₇ t₈ t₉ t₁₀ z l p n out₀ out at m v h c e d zs size k w

      pub at_less : a.nodes - k.nodes < a.nodes - m.nodes
      at_less = nodes-less ns a t₃ t₄ t₅ t₆ t₇ t₈ t₉ t₁₀ z l p n out₀ out at m v h c e d zs size k w
