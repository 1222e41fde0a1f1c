-- A node's key lists and its ANIM.
use mathlib.Core.Path.{◌≡◌, refl, ap, sym, ◌∙◌}
use Prim.Native.Nat.{ℕ, suc, ◌+◌, ◌-◌, ◌*◌, ◌/◌, ◌<◌, ◌≤◌}
use native.Mathlib.Nat.{add-zero}
use native.Mathlib.Omega.{arith}
use mathlib.Core.List.{List, [], ◌∷◌, ◌++◌}
use lib.ListN.{length, take, drop, get_or, length-drop, drop_of_length-le}
use lib.Seq.{drop-cons, drop-drop}
use borrow.Author.Tests.{ne_eqb, eq-eqb}
use Rattle.wire.specs.Test.{if}
use Rattle.layout.specs.Write.{Chunk, write_words, write_chunks}
use Rattle.layout.proofs.ListLaws.{cell_take}
use Rattle.shared_output.proofs.AppendLaws.{chunks-append}
use Rattle.shared_output.proofs.PartLaws.{Both, Begins, both-begins, chunk-is}
use Rattle.b3d_spec.specs.Encode.{write_keys, key_chunks, anim_chunks}
use Rattle.b3d_spec.specs.Rebuild.{owned_by, keys_from, anim_from}
use Rattle.b3d_spec.specs.Scene.{Keys}
use Rattle.b3d_spec.specs.Tags.{code}
use Rattle.b3d_spec.specs.declared.Counts.{Counts}
use Rattle.b3d_spec.specs.declared.Tag.{Tag}
use Rattle.b3d_spec.specs.declared.Tag.TheVariants.{KEYS, ANIM}
use Rattle.b3d_spec.proofs.Rows.RowListLaws.{mine_take, mine_length}
use Rattle.b3d_check_spec.specs.CellCounts.{end_of}
use Rattle.b3d_write_row_runs.specs.Lent.{rows_in}
use Rattle.b3d_write_items.specs.Chunks.{anim_bytes}
use Rattle.b3d_write_item_lists.specs.Runs.{lists_bytes}
use Rattle.b3d_write_row_runs.proofs.CutRowLaws.{rows-length, row-end}
use Rattle.b3d_write_animation.specs.Animation.{anim_part, moves_bytes, MovesThere}
use Rattle.b3d_write_row_runs.proofs.CellLaws.{rows_cell}

-- ---- how many key lists a node has

-- those before i are the node's
pub record Counting (ls : List ℕ) (first node i : ℕ) : Type 0 where
  pub from : first ≤ i
  pub sum : length (owned_by node (drop first (rows_in 4 ls))) ≡ (i - first) + length (owned_by node (drop i (rows_in 4 ls)))

module _ (ls : List ℕ) (first node : ℕ) where
  pub count_none : Counting ls first node first
  count_none = record { from = omega arith; sum = omega arith }

  module _ (i : ℕ) (v : Counting ls first node i) where
    pub count_done : length ls / 4 ≤ i → (first ≤ length ls / 4 → i ≤ length ls / 4) → length ls / 4 - first ≡ length (owned_by node (drop first (rows_in 4 ls)))
    unfolding owned_by
    count_done h k =
        let l : length (rows_in 4 ls) ≤ i = rw (rows-length 4 ls) h in
        let none : length ls / 4 ≤ first → length (owned_by node (drop first (rows_in 4 ls))) ≡ 0 =
        λ q. let m : length (rows_in 4 ls) ≤ first = rw (rows-length 4 ls) q in rw (drop_of_length-le (rows_in 4 ls) m) in
        let one = rw (drop_of_length-le (rows_in 4 ls) l) at v.sum in
        grind (arith, one, none, k)

    module _ (h : i < length ls / 4) (k : ℕ) (e : k ≡ get_or ls (4 * i) 0) where
      next : drop i (rows_in 4 ls) ≡ get_or (rows_in 4 ls) i [] ∷ drop (suc i) (rows_in 4 ls)
      next = drop-cons (rows_in 4 ls) i [] (rw (rows-length 4 ls) h)

      cell : get_or (get_or (rows_in 4 ls) i []) 0 0 ≡ k
      cell = rows_cell 4 ls i 0 h (omega arith) ∙ rw (add-zero (4 * i)) (sym e)

      pub count_one : k ≡ node → Counting ls first node (i + 1)
      unfolding owned_by if
      count_one q =
          let more : length (owned_by node (drop i (rows_in 4 ls))) ≡ suc (length (owned_by node (drop (suc i) (rows_in 4 ls)))) = rw (next, eq-eqb (get_or (get_or (rows_in 4 ls) i []) 0 0) node (cell ∙ q)) in
          let s : i + 1 ≡ suc i = omega arith in
          record { from = omega arith; sum = rw s (omega (arith, v.sum, v.from)) }

      pub count_stop : (k ≡ node → ⊥) → i - first ≡ length (owned_by node (drop first (rows_in 4 ls)))
      unfolding owned_by if
      count_stop q =
          let none : length (owned_by node (drop i (rows_in 4 ls))) ≡ 0 = rw (next, ne_eqb (get_or (get_or (rows_in 4 ls) i []) 0 0) node (λ z. q (sym cell ∙ z))) in
          omega (arith, v.sum)

pub ruleset count_laws = (count_none, count_done, count_one, count_stop)

-- ---- ANIM

module _ (ds : List ℕ) (i : ℕ) where
  anim_cell : get_or (take 4 (drop i ds)) 0 0 ≡ get_or ds i 0
  anim_cell = cell_take 4 i 0 ds (omega arith) ∙ rw (add-zero i)

  pub anim_none : (get_or ds i 0 ≡ 1 → ⊥) → anim_part ds i ≡ []
  unfolding anim_part anim_from if write_chunks
  anim_none h = rw (anim_cell, ne_eqb (get_or ds i 0) 1 h)

  pub anim_is : get_or ds i 0 ≡ 1 → anim_part ds i ≡ anim_bytes (take 3 (drop (i + 1) ds))
  unfolding anim_part anim_from if write_chunks
  anim_is h = rw (anim_cell, h, row-end 4 1 (drop i ds) (omega arith), drop-drop 1 i ds) (chunk-is code ANIM [] (write_words (take 3 (drop (i + 1) ds)) []))

pub ruleset anim_laws = (anim_none, anim_is)

-- ---- both

pub keys-append : (l : List Keys) (r : List (Chunk Tag)) → key_chunks l r ≡ key_chunks l [] ++ r
keys-append [] r = refl
keys-append (k ∷ l) r = ap (λ (c : List (Chunk Tag)). record { tag = KEYS; body = write_keys k } ∷ c) (keys-append l r)

module _ (ds : List ℕ) (i : ℕ) (ls ks : List ℕ) (n : Counts) (count : ℕ) (e : count ≡ length (owned_by n.nodes (drop n.lists (rows_in 4 ls)))) where
  own-lists : owned_by n.nodes (drop n.lists (rows_in 4 ls)) ≡ take count (drop n.lists (rows_in 4 ls))
  own-lists = rw e (mine_take n.nodes (drop n.lists (rows_in 4 ls)))

  pub moves_both : Both (moves_bytes ds i ls ks n) (lists_bytes (take count (drop n.lists (rows_in 4 ls))) (drop n.keys (rows_in 11 ks))) (anim_part ds (i + 16))
  unfolding moves_bytes anim_part
  moves_both = record {
    is = rw own-lists (ap (write_chunks code) (keys-append (keys_from (take count (drop n.lists (rows_in 4 ls))) (drop n.keys (rows_in 11 ks))) (anim_chunks (anim_from (take 4 (drop (i + 16) ds))) []))
        ∙ chunks-append code (key_chunks (keys_from (take count (drop n.lists (rows_in 4 ls))) (drop n.keys (rows_in 11 ks))) []) (anim_chunks (anim_from (take 4 (drop (i + 16) ds))) []));
  }

  pub moves-begin : Begins (moves_bytes ds i ls ks n) (lists_bytes (take count (drop n.lists (rows_in 4 ls))) (drop n.keys (rows_in 11 ks)))
  moves-begin = both-begins moves_both

module _ (ls ks : List ℕ) (n : Counts) (h : MovesThere ls ks n) (count : ℕ) (e : count ≡ length (owned_by n.nodes (drop n.lists (rows_in 4 ls)))) where
  pub lists-there : n.lists + count ≤ length ls / 4
  lists-there = omega (arith, h.lists, rows-length 4 ls, length-drop n.lists (rows_in 4 ls), mine_length n.nodes (drop n.lists (rows_in 4 ls)))

  pub keys-there : end_of n.keys (take count (drop n.lists (rows_in 4 ls))) ≤ length ks / 11
  keys-there = rw (own-lists [] 0 ls ks n count e) at h.keys

pub ruleset moves_laws = (moves_both, moves-begin, lists-there, keys-there)
