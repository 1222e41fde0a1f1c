-- A law for each way through `put_heads` and `put_nodes`.
use mathlib.Core.Path.{◌≡◌, ap, ap₂, sym, ◌∙◌}
use Prim.Native.Nat.{ℕ, ◌*◌, ◌<◌, ◌≤◌}
use native.Mathlib.Omega.{arith}
use mathlib.Core.List.{List, [], ◌∷◌}
use lib.ListN.{length}
use lib.Seq.{sets, length-sets}
use Rattle.wire.specs.Bytes.{AllBytes}
use Rattle.layout.specs.Result.{Result, accept}
use Rattle.b3d_spec.specs.declared.Mode.TheVariants.{Strict}
use Rattle.b3d_spec.specs.Answers.{judge, table_after}
use Rattle.b3d_spec.specs.Parse.{parse}
use Rattle.b3d_spec.specs.Scene.{Scene}
use Rattle.layout.specs.Rows.{joined}
use Rattle.b3d_spec.specs.Tables.{table, node_width}
use Rattle.b3d_spec.proofs.AnswerLaws.{judge_got, judge_lenient}
use Rattle.b3d_judge_file_body.specs.declared.Summary.{Summary}
use Rattle.b3d_judge_limits.specs.Rooms.{counts_in}
use Rattle.b3d_judge_limits.proofs.RoomLaws.{stored-over}
use Rattle.b3d_spec_plain_rows.specs.Rows.{file_rows}
use Rattle.b3d_spec_plain_rows.proofs.Laws.{rows_law}
use Rattle.b3d_list_text.specs.Puts.{Puts}
use Rattle.b3d_list_text.specs.Text.{number_line}
use Rattle.b3d_list_text.proofs.PutLaws.{put_both, put_inside}
use Rattle.b3d_list_output_parts.specs.Parts.{head_lines, node_lines_of, Listable}
use Rattle.b3d_list_spec.proofs.NameLineLaws.{nodes-count, table_room, table_lines}
use Rattle.b3d_list_lines.specs.Lines.{row_lines}

-- ---- `put_heads`

module _ (x : Summary) (xs ys : List ℕ) (p : ℕ) (h : Puts (number_line (0 ∷ 0 ∷ [])) xs 0 ys p) where
  pub heads_done : (v n : ℕ) → v ≡ x.version → n ≡ x.n_texs → (zs : List ℕ) (q : ℕ) → Puts (number_line (v ∷ n ∷ [])) ys p zs q
      → (us : List ℕ) (r : ℕ) → Puts (number_line (counts_in x.tally)) zs q us r → Puts (head_lines x) xs 0 us r
  unfolding head_lines
  heads_done v n e f zs q k us r l =
      rw (← e, ← f) (put_both (number_line (0 ∷ 0 ∷ [])) _ xs 0 ys p us r h (put_both (number_line (v ∷ n ∷ [])) (number_line (counts_in x.tally)) ys p zs q us r k l))

pub ruleset heads_laws = (heads_done, put_inside)

-- ---- `put_nodes`

module _ (s : List ℕ) (n : ℕ) (l : Listable s n) (b : AllBytes s) where
  parsed : parse Strict s ≡ accept l.scene
  parsed = (judge_got Strict s l.scene l.accepted).0

  pub nodes-small : length s < 0x100000000
  nodes-small = omega (arith, l.short)

  -- the rows of its bytes are those of what was read
  rows_are : joined (file_rows 3 s) ≡ table 3 l.scene
  unfolding table
  rows_are = ap joined (rows_law s l.scene (judge_lenient Strict s l.scene l.accepted) 3 (omega arith) (omega arith))

  pub table_ready : (room : ℕ) → 28077 ≡ room → length (joined (file_rows 3 s)) ≤ room
  table_ready room e = omega (arith, ap length rows_are, table_room s l.scene b parsed l.short)

  -- the table after it was filled is as long as before
  pub table-rows : (xs ws : List ℕ) → 28077 ≡ length xs → ws ≡ sets xs 0 (joined (file_rows 3 s)) → node_width * n ≤ length ws
  table-rows xs ws e f =
      let c : node_width * n ≤ 28077 = omega (arith, l.count, nodes-count s l.scene b parsed, l.short) in
      omega (arith, ap length f, length-sets xs 0 (joined (file_rows 3 s)))

  lines_are : (xs ws : List ℕ) → ws ≡ table_after 3 (judge Strict s) xs → row_lines s ws n ≡ node_lines_of (judge Strict s)
  unfolding table_after node_lines_of
  lines_are xs ws e =
      ap₂ (row_lines s) (e ∙ ap (λ (o : Result Scene). table_after 3 o xs) l.accepted) l.count
      ∙ table_lines s l.scene b parsed xs ∙ sym (ap node_lines_of l.accepted)

  pub nodes_done : (xs ws : List ℕ) → 28077 ≡ length xs → ws ≡ sets xs 0 (joined (file_rows 3 s)) → (out : List ℕ) (at : ℕ) (ys : List ℕ) (p : ℕ) → Puts (row_lines s ws n) out at ys p
      → Puts (node_lines_of (judge Strict s)) out at ys p
  unfolding table_after
  nodes_done xs ws e f out at ys p h =
      let r = table_room s l.scene b parsed l.short in
      let g : ws ≡ table_after 3 (judge Strict s) xs =
      f ∙ ap (sets xs 0) rows_are ∙ stored-over (table 3 l.scene) xs (omega arith) ∙ sym (ap (λ (o : Result Scene). table_after 3 o xs) l.accepted) in
      rw (← lines_are xs ws g) h

pub ruleset nodes_laws = (nodes-small, table_ready, table-rows, nodes_done)
