-- The runs of a vertex are its row by its mask.
use Prim.Native.Nat.{ℕ, zero, suc, ◌+◌, ◌-◌, ◌*◌, ◌/◌, ◌%◌, ◌≤◌}
use native.Mathlib.Nat.{suc-mul}
use native.Mathlib.Omega.{arith}
use mathlib.Core.Path.{◌≡◌, refl, ap, sym, ◌∙◌}
use mathlib.Core.Bool.{false}
use mathlib.Core.List.{List, ◌∷◌, ◌++◌, map, append_assoc}
use lib.ListN.{length, replicate}
use lib.Seq.{sets}
use Rattle.wire.specs.Cursors.{Inside, left}
use Rattle.wire.specs.declared.Cursor.{Cursor}
use Rattle.layout.specs.Parts.{items_of}
use Rattle.b3d_spec.specs.Mask.{ones, padded, vertex_mask}
use Rattle.b3d_spec.specs.Rules.{vertex_words}
use Rattle.layout.specs.Rows.{joined}
use Rattle.b3d_spec.proofs.Rows.MaskLaws.{vertex-words}
use Rattle.b3d_rule_row_masks.specs.Runs.{run, set_runs, run_mask, vertex_runs}
use Rattle.b3d_rule_row_masks.proofs.MaskLaws.{vertex-mask, most-same}
use Rattle.shared_table_words.specs.Words.{words_at}
use Rattle.b3d_read_row_runs.specs.Pieces.{piece_at, rows_at}
use Rattle.b3d_read_row_runs.proofs.RunLaws.{Wide}
use Rattle.b3d_read_row_runs.proofs.MaskLaws.{ones-run, ones-parts, spread_run, spread_parts, Makes, rows_are}
use Rattle.b3d_read_vertex_rows.specs.Vertices.{sets_at, all_sets, vertex_at}
use Rattle.b3d_read_vertex_rows.proofs.SetLaws.{vertex-wide}

ones-off : (m : ℕ) → ones (replicate m false) ≡ 0
unfolding ones
ones-off zero = refl
ones-off (suc m) = ones-off m

ones-sets : (n size m : ℕ) → ones (set_runs n size (replicate m false)) ≡ n * size
unfolding set_runs
ones-sets zero size m = omega (arith, ones-off m)
ones-sets (suc n) size m = omega (arith, ones-run size (4 - size) (set_runs n size (replicate m false)), ones-sets n size m, suc-mul n size)

spread_none : (m : ℕ) (ws : List ℕ) → padded (replicate m false) ws ≡ replicate m 0
unfolding padded
spread_none zero ws = refl
spread_none (suc m) ws = ap (λ (r : List ℕ). 0 ∷ r) (spread_none m ws)

spread_sets : (n size m : ℕ) (s : List ℕ) (p : ℕ) → padded (set_runs n size (replicate m false)) (words_at (n * size) s p) ≡ sets_at n size s p ++ replicate m 0
unfolding set_runs sets_at
spread_sets zero size m s p = spread_none m (words_at (0 * size) s p)
spread_sets (suc n) size m s p =
    let e : suc n * size ≡ size + n * size = omega (arith, suc-mul n size) in
    rw e
    (spread_run size (4 - size) (n * size) (set_runs n size (replicate m false)) s p
    ∙ ap (λ (r : List ℕ). piece_at size (4 - size) s p ++ r) (spread_sets n size m s (p + 4 * size))
    ∙ sym (append_assoc (piece_at size (4 - size) s p) (sets_at n size s (p + 4 * size)) (replicate m 0)))

vertex_makes : (f n z : ℕ) → n ≤ 8 → z ≤ 4 → Makes (vertex_mask f n z) (3 + f % 2 * 3 + f / 2 % 2 * 4 + n * z) (vertex_at (f % 2 * 3) (f / 2 % 2 * 4) n z)
unfolding vertex_runs run_mask all_sets
vertex_makes f n z hn hz =
    let a = f % 2 * 3 in
    let b = f / 2 % 2 * 4 in
    let t : 4 * (8 - n) ≡ (8 - n) * 4 = omega arith in
    let m = set_runs n z (replicate ((8 - n) * 4) false) in
    let e : vertex_mask f n z ≡ run 3 0 (run a (3 - a) (run b (4 - b) m)) = vertex-mask f n z ∙ rw (most-same 8 n hn, most-same 4 z hz, t) in
    rw e (record { many = ones-parts 3 a 4 b (n * z) m (all_sets n z) ∙ ap (λ (k : ℕ). 3 + a + b + k) (ones-sets n z ((8 - n) * 4)); is = spread_parts 3 a 4 b (n * z) m (all_sets n z) (spread_sets n z ((8 - n) * 4)) })

-- ---- as the code has them

module _ (f n z : ℕ) (hf : f ≤ 3) (hn : n ≤ 8) (hz : z ≤ 4) (a b n' z' w : ℕ) (ea : a ≡ f % 2 * 3) (eb : b ≡ f / 2 % 2 * 4) (en : n' ≡ n) (ez : z' ≡ z) (ew : w ≡ vertex_words f n z) where
  pub fill_words : w ≡ 3 + a + b + n' * z'
  fill_words = rw (ea, eb, en, ez) (ew ∙ sym (vertex-words f n z hf hn hz) ∙ (vertex_makes f n z hn hz).many)

  module _ (s : List ℕ) (c : Cursor) (i : Inside c (length s)) (count : ℕ) (h : c.at + count * (4 * vertex_words f n z) ≤ c.end) where
    pub fill_place : c.at + count * (4 * w) ≤ length s
    fill_place = rw ew (omega (arith, i.within))

    pub fill_put : (base : ℕ) (out put : List ℕ) → put ≡ sets out base (rows_at (vertex_at a b n' z') w count s c.at)
        → put ≡ sets out base (joined (map (padded (vertex_mask f n z)) (items_of count (vertex_words f n z) (left c s))))
    fill_put base out put e =
        let k = vertex_makes f n z hn hz in
        let y : 3 + f % 2 * 3 + f / 2 % 2 * 4 + n * z ≡ vertex_words f n z = sym k.many ∙ vertex-words f n z hf hn hz in
        e ∙ rw (ea, eb, en, ez, ew) (ap (sets out base) (sym (rows_are (vertex_mask f n z) (vertex_words f n z) (vertex_at (f % 2 * 3) (f / 2 % 2 * 4) n z) (rw y at k) s count c i h)))

pub fill_wide : (f n z a b n' z' : ℕ) → a ≡ f % 2 * 3 → b ≡ f / 2 % 2 * 4 → n' ≡ n → z' ≡ z → n ≤ 8 → z ≤ 4 → Wide (vertex_at a b n' z') 42
fill_wide f n z a b n' z' ea eb en ez hn hz = vertex-wide a b n' z' (omega arith) (omega arith) (omega arith) (omega arith)

pub ruleset fill_laws = (fill_words, fill_place, fill_put)
