-- The parts of a node's own, in their order, and that the rest of its body comes after them.
use mathlib.Core.Path.{◌≡◌, refl, ap, ap₂, sym, ◌∙◌}
use Prim.Native.Nat.{ℕ, ◌+◌, ◌-◌, ◌*◌, ◌/◌, ◌<◌, ◌≤◌}
use native.Mathlib.Nat.{add-zero}
use native.Mathlib.Omega.{arith}
use mathlib.Core.List.{List, [], ◌∷◌, ◌++◌, append_assoc}
use lib.ListN.{length, take, drop, get_or}
use lib.Seq.{drop-drop, get_or-drop}
use Rattle.wire.specs.Test.{if}
use Rattle.layout.specs.Write.{Chunk, write_words, write_text, write_chunks}
use Rattle.layout.proofs.ListLaws.{cell_take}
use Rattle.layout.proofs.PartLaws.{words_append}
use Rattle.shared_output.proofs.AppendLaws.{text-append, before-append, chunks-append}
use Rattle.shared_output.specs.Writing.{Room, Put}
use Rattle.shared_output.proofs.PartLaws.{Both, both-begins, both-room, both-inside, both-room_2, both-done}
use Rattle.b3d_spec.specs.Encode.{write_keys, kind_chunks, key_chunks, anim_chunks, write_node}
use Rattle.b3d_spec.specs.Rebuild.{name_from, kind_from, data_from}
use Rattle.b3d_spec.specs.Scene.{Keys, Anim, no_anim, anim, Data}
use Rattle.b3d_spec.specs.Tags.{code}
use Rattle.b3d_spec.specs.declared.Counts.{Counts}
use Rattle.b3d_spec.specs.declared.Tag.{Tag}
use Rattle.b3d_spec.specs.declared.Tag.TheVariants.{KEYS}
use Rattle.b3d_spec.specs.Tables.{node_width}
use Rattle.b3d_write_row_runs.specs.Lent.{rows_in}
use Rattle.b3d_write_materials.specs.Named.{named_bytes}
use Rattle.b3d_write_row_runs.proofs.CutRowLaws.{part-take}
use Rattle.b3d_write_animation.specs.Animation.{move_chunks, moves_bytes}
use Rattle.b3d_write_node.specs.Own.{table_rows, kind_bytes, parts_bytes, own_bytes}
use Rattle.b3d_write_row_runs.proofs.CellLaws.{rows_row}
use Rattle.b3d_write_node.proofs.KindLaws.{kind-append}

-- ---- the kind, and what moves

module _ (ds : List ℕ) (i : ℕ) (ms vs ss ts ws ls ks : List ℕ) (n : Counts) where
  parts-both : Both (parts_bytes ds i ms vs ss ts ws ls ks n) (kind_bytes ms vs ss ts ws n (get_or ds (i + 13) 0) (get_or ds (i + 15) 0)) (moves_bytes ds i ls ks n)
  unfolding parts_bytes kind_bytes moves_bytes
  parts-both = record { is = kind-append (kind_from (table_rows [] ms vs ss ts ws [] []) n (get_or ds (i + 13) 0) (get_or ds (i + 15) 0)) (move_chunks ds i ls ks n) }

-- ---- the name and the words, and the parts

-- the body of a NODE: its name and words, then its chunks
node-split : (d : Data) (below : List (Chunk Tag))
    → write_node d below ≡ write_text d.name.bytes (write_words d.words []) ++ write_chunks code (kind_chunks d.kind (key_chunks d.keys (anim_chunks d.anim below)))
unfolding write_node
node-split d below =
    before-append (write_text d.name.bytes) (write_words d.words) (text-append d.name.bytes) (words_append d.words)
    (write_chunks code (kind_chunks d.kind (key_chunks d.keys (anim_chunks d.anim below))))

module _ (ns ds ms vs ss ts ws ls ks : List ℕ) (n : Counts) (h : n.nodes < length ds / node_width) where
  -- the row of the node
  abbrev x : List ℕ
  x = get_or (rows_in node_width ds) n.nodes []

  abbrev row : List ℕ
  row = drop (node_width * n.nodes) ds

  cell : (j : ℕ) → j < node_width → get_or x j 0 ≡ get_or ds (node_width * n.nodes + j) 0
  cell j k = rw (rows_row node_width ds n.nodes h) (cell_take node_width (node_width * n.nodes) j ds k)

  front : write_text (name_from ns x).bytes (write_words (take 10 (drop 3 x)) []) ≡ named_bytes ns ds (node_width * n.nodes) (node_width * n.nodes + 3) 10
  unfolding name_from named_bytes
  front =
      let name : take (get_or x 1 0) (drop (get_or x 0 0) ns) ≡ take (get_or ds (node_width * n.nodes + 1) 0) (drop (get_or ds (node_width * n.nodes) 0) ns) =
      rw (cell 0 (omega arith), cell 1 (omega arith), add-zero (node_width * n.nodes)) in
      let words : take 10 (drop 3 x) ≡ take 10 (drop (node_width * n.nodes + 3) ds) =
      rw (rows_row node_width ds n.nodes h, part-take 3 10 node_width row (omega arith), drop-drop 3 (node_width * n.nodes) ds) in
      ap₂ (λ (a b : List ℕ). write_text a (write_words b [])) name words

  last : take 4 (drop 3 (drop 13 x)) ≡ take 4 (drop (node_width * n.nodes + 16) ds)
  last = rw (drop-drop 3 13 x, rows_row node_width ds n.nodes h, part-take 16 4 node_width row (omega arith), drop-drop 16 (node_width * n.nodes) ds)

  own-both : Both (own_bytes ns ds ms vs ss ts ws ls ks n) (named_bytes ns ds (node_width * n.nodes) (node_width * n.nodes + 3) 10) (parts_bytes ds (node_width * n.nodes) ms vs ss ts ws ls ks n)
  unfolding own_bytes data_from parts_bytes kind_from table_rows if
  own-both =
      let k : get_or (drop 13 x) 0 0 ≡ get_or ds (node_width * n.nodes + 13) 0 = get_or-drop 13 x 0 0 ∙ cell 13 (omega arith) in
      let c : get_or (drop 13 x) 2 0 ≡ get_or ds (node_width * n.nodes + 15) 0 = get_or-drop 13 x 2 0 ∙ cell 15 (omega arith) in
      record { is = node-split (data_from ns (table_rows ds ms vs ss ts ws ls ks) x n) [] ∙ rw (front, k, c, last) }

  abbrev named : List ℕ
  named = named_bytes ns ds (node_width * n.nodes) (node_width * n.nodes + 3) 10

  abbrev kind : List ℕ
  kind = kind_bytes ms vs ss ts ws n (get_or ds (node_width * n.nodes + 13) 0) (get_or ds (node_width * n.nodes + 15) 0)

  abbrev moves : List ℕ
  moves = moves_bytes ds (node_width * n.nodes) ls ks n

  abbrev two : Both (named ++ kind) named kind
  two = record { is = refl }

  all : Both (own_bytes ns ds ms vs ss ts ws ls ks n) (named ++ kind) moves
  all = record { is = own-both.is ∙ ap (λ (l : List ℕ). named ++ l) (parts-both ds (node_width * n.nodes) ms vs ss ts ws ls ks n).is ∙ sym (append_assoc named kind moves) }

  -- one part after the other
  module _ (out : List ℕ) (r : Room (own_bytes ns ds ms vs ss ts ws ls ks n) out) where
    room_two : Room (named ++ kind) out
    room_two = both-room (own_bytes ns ds ms vs ss ts ws ls ks n) out r (named ++ kind) (both-begins all)

    pub own_room : Room (named_bytes ns ds (node_width * n.nodes) (node_width * n.nodes + 3) 10) out
    own_room = both-room (named ++ kind) out room_two named (both-begins two)

    module _ (ys : List ℕ) (a : ℕ) (w : Put (named_bytes ns ds (node_width * n.nodes) (node_width * n.nodes + 3) 10) out ys a) where
      pub own-inside : a ≤ length ys
      own-inside = both-inside (named ++ kind) out room_two named ys a w (both-begins two)

      pub own-kind : Room kind (take (length ys - a) (drop a ys))
      own-kind = both-room_2 (named ++ kind) out room_two named ys a w kind two

      module _ (zs : List ℕ) (b : ℕ) (v : Put kind (take (length ys - a) (drop a ys)) zs b) where
        -- the output with the first two
        abbrev mid : List ℕ
        mid = take a ys ++ (zs ++ drop (length ys - a) (drop a ys))

        put_two : Put (named ++ kind) out mid (a + b)
        put_two = both-done (named ++ kind) out room_two named ys a w kind two zs b v

        pub own-inside_2 : a + b ≤ length mid
        own-inside_2 = both-inside (own_bytes ns ds ms vs ss ts ws ls ks n) out r (named ++ kind) mid (a + b) put_two (both-begins all)

        pub own-moves : Room moves (take (length mid - (a + b)) (drop (a + b) mid))
        own-moves = both-room_2 (own_bytes ns ds ms vs ss ts ws ls ks n) out r (named ++ kind) mid (a + b) put_two moves all

        pub own-done : (us : List ℕ) (c : ℕ) → Put moves (take (length mid - (a + b)) (drop (a + b) mid)) us c
            → Put (own_bytes ns ds ms vs ss ts ws ls ks n) out (take (a + b) mid ++ (us ++ drop (length mid - (a + b)) (drop (a + b) mid))) (a + b + c)
        own-done = both-done (own_bytes ns ds ms vs ss ts ws ls ks n) out r (named ++ kind) mid (a + b) put_two moves all

-- ---- what comes after a node's own

moves-append : (l : List Keys) (a : Anim) (r : List (Chunk Tag)) → key_chunks l (anim_chunks a r) ≡ key_chunks l (anim_chunks a []) ++ r
moves-append [] no_anim r = refl
moves-append [] (anim ws) r = refl
moves-append (k ∷ l) a r = ap (λ (c : List (Chunk Tag)). record { tag = KEYS; body = write_keys k } ∷ c) (moves-append l a r)

-- the body of a NODE is its own and then the chunks of the nodes below
pub node-append : (d : Data) (below : List (Chunk Tag)) → write_node d below ≡ write_node d [] ++ write_chunks code below
node-append d below =
    let named : List ℕ = write_text d.name.bytes (write_words d.words []) in
    let moves : List (Chunk Tag) = key_chunks d.keys (anim_chunks d.anim []) in
    let kind : List ℕ = write_chunks code (kind_chunks d.kind []) in
    let rest : List ℕ = write_chunks code below in
    let chunks : write_chunks code (kind_chunks d.kind (key_chunks d.keys (anim_chunks d.anim below))) ≡ write_chunks code (kind_chunks d.kind moves) ++ rest =
    kind-append d.kind (key_chunks d.keys (anim_chunks d.anim below))
    ∙ ap (λ (c : List (Chunk Tag)). kind ++ write_chunks code c) (moves-append d.keys d.anim below)
    ∙ ap (λ (c : List ℕ). kind ++ c) (chunks-append code moves below)
    ∙ sym (append_assoc kind (write_chunks code moves) rest)
    ∙ ap (λ (c : List ℕ). c ++ rest) (sym (kind-append d.kind moves)) in
    node-split d below ∙ ap (λ (c : List ℕ). named ++ c) chunks ∙ sym (append_assoc named (write_chunks code (kind_chunks d.kind moves)) rest)
    ∙ ap (λ (c : List ℕ). c ++ rest) (sym (node-split d []))
