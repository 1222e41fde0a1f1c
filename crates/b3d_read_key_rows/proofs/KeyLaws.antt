-- The runs of a key are its row by its mask.
use Prim.Native.Nat.{ℕ, ◌+◌, ◌-◌, ◌*◌, ◌/◌, ◌%◌, ◌≤◌}
use native.Mathlib.Omega.{arith}
use mathlib.Core.Path.{◌≡◌, ap, sym, ◌∙◌}
use mathlib.Core.List.{List, [], map, append-nil}
use lib.ListN.{length}
use lib.Seq.{sets}
use Rattle.wire.specs.Cursors.{Inside, left}
use Rattle.wire.specs.declared.Cursor.{Cursor}
use Rattle.layout.specs.Parts.{items_of}
use Rattle.b3d_spec.specs.Mask.{ones, padded, key_mask}
use Rattle.layout.specs.Rows.{joined}
use Rattle.b3d_rule_row_masks.specs.Runs.{run, set_runs, run_mask, key_runs}
use Rattle.b3d_rule_row_masks.proofs.MaskLaws.{key-mask}
use Rattle.shared_table_words.specs.Words.{words_at}
use Rattle.b3d_read_row_runs.specs.Pieces.{piece_at, rows_at}
use Rattle.b3d_read_row_runs.proofs.RunLaws.{Wide, parts-wide, length-piece}
use Rattle.b3d_read_row_runs.proofs.MaskLaws.{ones-run, ones-parts, spread_run, spread_parts, Makes, rows_are}
use Rattle.b3d_read_key_rows.specs.Keys.{key_at}

key-wide : (a b c : ℕ) → a ≤ 3 → b ≤ 3 → c ≤ 4 → Wide (key_at a b c) 11
key-wide a b c ha hb hc = parts-wide 1 a 3 b 4 (piece_at c (4 - c)) ha hb (record { wide = λ s p. omega (arith, length-piece c (4 - c) s p) })

key_makes : (f : ℕ) → Makes (key_mask f) (1 + f % 2 * 3 + f / 2 % 2 * 3 + f / 4 % 2 * 4) (key_at (f % 2 * 3) (f / 2 % 2 * 3) (f / 4 % 2 * 4))
unfolding key_runs run_mask set_runs ones padded
key_makes f =
    let a = f % 2 * 3 in
    let b = f / 2 % 2 * 3 in
    let c = f / 4 % 2 * 4 in
    let m = run c (4 - c) [] in
    let o : ones m ≡ c = omega (arith, ones-run c (4 - c) []) in
    let z : (s : List ℕ) (p : ℕ) → padded m (words_at c s p) ≡ piece_at c (4 - c) s p = λ s p. one c s p in
    rw (key-mask f) (record { many = ones-parts 1 a 3 b c m (piece_at c (4 - c)) ∙ ap (λ (k : ℕ). 1 + a + b + k) o; is = spread_parts 1 a 3 b c m (piece_at c (4 - c)) z })
  where
    one : (c : ℕ) (s : List ℕ) (p : ℕ) → padded (run c (4 - c) []) (words_at c s p) ≡ piece_at c (4 - c) s p
    one c s p = let e : c + 0 ≡ c = omega arith in rw e at (spread_run c (4 - c) 0 [] s p ∙ append-nil (piece_at c (4 - c) s p))

-- ---- as the code has them

module _ (f w : ℕ) (ew : w ≡ ones (key_mask f)) (a b d : ℕ) (ea : a ≡ f % 2 * 3) (eb : b ≡ f / 2 % 2 * 3) (ed : d ≡ f / 4 % 2 * 4) where
  pub keys-words : w ≡ 1 + a + b + d
  keys-words = rw (ea, eb, ed) (ew ∙ (key_makes f).many)

  pub keys-put : (s : List ℕ) (c : Cursor) → Inside c (length s) → (count : ℕ) → c.at + count * (4 * w) ≤ c.end → (base : ℕ) (out put : List ℕ) → put ≡ sets out base (rows_at (key_at a b d) w count s c.at)
      → put ≡ sets out base (joined (map (padded (key_mask f)) (items_of count w (left c s))))
  keys-put s c i count h base out put e =
      let k = key_makes f in
      let y : 1 + f % 2 * 3 + f / 2 % 2 * 3 + f / 4 % 2 * 4 ≡ w = sym k.many ∙ sym ew in
      e ∙ rw (ea, eb, ed) (ap (sets out base) (sym (rows_are (key_mask f) w (key_at (f % 2 * 3) (f / 2 % 2 * 3) (f / 4 % 2 * 4)) (rw y at k) s count c i h)))

pub keys-place : (s : List ℕ) (c : Cursor) → Inside c (length s) → (count w : ℕ) → c.at + count * (4 * w) ≤ c.end → c.at + count * (4 * w) ≤ length s
keys-place s c i count w h = omega (arith, i.within)

pub keys-wide : (f a b d : ℕ) → a ≡ f % 2 * 3 → b ≡ f / 2 % 2 * 3 → d ≡ f / 4 % 2 * 4 → Wide (key_at a b d) 11
keys-wide f a b d ea eb ed = key-wide a b d (omega arith) (omega arith) (omega arith)

pub ruleset keys_laws = (keys-words, keys-put, keys-place)
