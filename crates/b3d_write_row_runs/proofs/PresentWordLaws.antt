-- A row by its runs is what the mask says of it.
use mathlib.Core.Path.{◌≡◌, refl, ap, ap₂, sym, ◌∙◌}
use Prim.Native.Nat.{ℕ, zero, suc, ◌+◌, ◌-◌, ◌*◌, ◌/◌, ◌<◌, ◌≤◌}
use native.Mathlib.Nat.{mul_comm, add-mul, mul-le-mul_right, div-mul-le_self}
use native.Mathlib.Omega.{arith}
use mathlib.Core.Bool.{Bool, true, false}
use mathlib.Core.List.{List, [], ◌∷◌, ◌++◌, map, append_assoc}
use lib.ListN.{length, take, drop, replicate}
use lib.Seq.{drop-nil, drop-drop, take-take}
use Rattle.layout.specs.Write.{write_words, write_items}
use Rattle.layout.proofs.PartLaws.{words_append}
use Rattle.shared_output.specs.Writing.{Room, Put}
use Rattle.shared_output.proofs.AppendLaws.{words-both}
use Rattle.shared_output.proofs.PartLaws.{Both, Begins, both-begins}
use Rattle.b3d_spec.specs.Mask.{present_words}
use Rattle.b3d_spec.specs.Rebuild.{cut}
use Rattle.b3d_rule_row_masks.specs.Runs.{run, set_runs, run_mask, width, Short}
use Rattle.b3d_rule_row_masks.specs.declared.RowRuns.{RowRuns}
use Rattle.b3d_rule_row_masks.proofs.MaskLaws.{mask-width}
use Rattle.b3d_write_row_runs.specs.Lent.{rows_in, each_row}
use Rattle.b3d_write_row_runs.specs.RowBytes.{sets_bytes, front_bytes, back_bytes, row_bytes}
use Rattle.b3d_write_row_runs.proofs.CutRowLaws.{rows-from}
use Rattle.b3d_write_row_runs.proofs.RowByRowLaws.{items-each, RowsFrom, rows_none, rows_room, rows_next}

-- ---- so many words, by their number

module _ (l : List ℕ) (n : ℕ) where
  pub few-is : (i : ℕ) → n ≡ i → write_words (take n l) [] ≡ write_words (take i l) []
  few-is i e = rw e

pub ruleset few_laws = (few-is)

-- ---- what a mask of runs takes of a row

squeeze_nil : (m : List Bool) → present_words m [] ≡ []
unfolding present_words
squeeze_nil [] = refl
squeeze_nil (b ∷ m) = refl

squeeze_off : (n : ℕ) (m : List Bool) (l : List ℕ) → present_words (replicate n false ++ m) l ≡ present_words m (drop n l)
unfolding present_words
squeeze_off zero m l = refl
squeeze_off (suc n) m [] = sym (squeeze_nil m)
squeeze_off (suc n) m (x ∷ l) = squeeze_off n m l

squeeze_run : (n k : ℕ) (m : List Bool) (l : List ℕ) → present_words (run n k m) l ≡ take n l ++ present_words m (drop k (drop n l))
unfolding present_words run
squeeze_run zero k m l = squeeze_off k m l
squeeze_run (suc n) k m [] = sym (ap (present_words m) (drop-nil k) ∙ squeeze_nil m)
squeeze_run (suc n) k m (x ∷ l) = ap (λ (r : List ℕ). x ∷ r) (squeeze_run n k m l)

squeeze_gone : (n : ℕ) (l : List ℕ) → present_words (replicate n false) l ≡ []
unfolding present_words
squeeze_gone zero l = refl
squeeze_gone (suc n) [] = refl
squeeze_gone (suc n) (x ∷ l) = squeeze_gone n l

squeeze_take : (m : List Bool) (l : List ℕ) → present_words m (take (length m) l) ≡ present_words m l
unfolding present_words
squeeze_take [] l = refl
squeeze_take (b ∷ m) [] = refl
squeeze_take (true ∷ m) (x ∷ l) = ap (λ (k : List ℕ). x ∷ k) (squeeze_take m l)
squeeze_take (false ∷ m) (x ∷ l) = squeeze_take m l

-- one run, as bytes: w words, of which n are there
bytes_run : (n w : ℕ) (m : List Bool) (ws : List ℕ) (p : ℕ) → n ≤ w
    → write_words (present_words (run n (w - n) m) (drop p ws)) [] ≡ write_words (take n (drop p ws)) [] ++ write_words (present_words m (drop (p + w) ws)) []
bytes_run n w m ws p h =
    let e : p + n + (w - n) ≡ p + w = omega arith in
    ap (λ (l : List ℕ). write_words l []) (squeeze_run n (w - n) m (drop p ws))
    ∙ rw (drop-drop n p ws, drop-drop (w - n) (p + n) ws, e) (words-both (take n (drop p ws)) (present_words m (drop (p + w) ws)))

bytes-sets : (n size k : ℕ) (ws : List ℕ) (p : ℕ) → size ≤ 4 → write_words (present_words (set_runs n size (replicate k false)) (drop p ws)) [] ≡ sets_bytes n size ws p
unfolding set_runs sets_bytes cut each_row
bytes-sets zero size k ws p h = ap (λ (l : List ℕ). write_words l []) (squeeze_gone k (drop p ws))
bytes-sets (suc n) size k ws p h =
    bytes_run size 4 (set_runs n size (replicate k false)) ws p h
    ∙ ap₂ ◌++◌ (sym (ap (λ (l : List ℕ). write_words l []) (take-take size 4 (drop p ws) h))) (bytes-sets n size k ws (p + 4) h ∙ rw (drop-drop 4 p ws))

module _ (g : RowRuns) (h : Short g) (ws : List ℕ) (p : ℕ) where
  bytes-row : write_words (present_words (run_mask g) (drop p ws)) [] ≡ row_bytes g ws p
  unfolding run_mask row_bytes front_bytes back_bytes
  bytes-row =
      let l = set_runs g.sets g.size (replicate g.rest false) in
      let k = run g.some (g.wide - g.some) l in
      let z : g.head - g.head ≡ 0 = omega arith in
      let first = rw z at (bytes_run g.head g.head (run g.three (3 - g.three) k) ws p (omega arith)) in
      let second = bytes_run g.three 3 k ws (p + g.head) h.three in
      let third = bytes_run g.some g.wide l ws (p + g.head + 3) h.some in
      first
      ∙ rw (second, third, bytes-sets g.sets g.size g.rest ws (p + g.head + 3 + g.wide) h.size)
      (sym (append_assoc (write_words (take g.head (drop p ws)) []) (write_words (take g.three (drop (p + g.head) ws)) [])
      (write_words (take g.some (drop (p + g.head + 3) ws)) [] ++ sets_bytes g.sets g.size ws (p + g.head + 3 + g.wide))))

  pub row-piece : (w : ℕ) → width g ≡ w → write_words (present_words (run_mask g) (take w (drop p ws))) [] ≡ row_bytes g ws p
  row-piece w e = let l : length (run_mask g) ≡ w = mask-width g h ∙ e in rw (← l, squeeze_take (run_mask g) (drop p ws)) bytes-row

pub masked_each : (m : List Bool) (rows : List (List ℕ)) → write_items write_words (map (present_words m) rows) ≡ each_row (λ x. write_words (present_words m x) []) rows
masked_each m rows = items-each write_words words_append (present_words m) rows

pub ruleset row_laws = (row-piece, masked_each)

-- ---- the parts of a row

module _ (head three : ℕ) (ws : List ℕ) (p : ℕ) where
  pub front-both : Both (front_bytes head three ws p) (write_words (take head (drop p ws)) []) (write_words (take three (drop (p + head) ws)) [])
  unfolding front_bytes
  front-both = record { is = refl }

  pub front-begins : Begins (front_bytes head three ws p) (write_words (take head (drop p ws)) [])
  front-begins = both-begins front-both

module _ (g : RowRuns) (ws : List ℕ) (p : ℕ) where
  pub back-begins : Begins (back_bytes g ws p) (write_words (take g.some (drop p ws)) [])
  unfolding back_bytes
  back-begins = both-begins (record { is = refl })

  module _ (h : ℕ) (e : g.head ≡ h) where
    pub row-both : Both (row_bytes g ws p) (front_bytes h g.three ws p) (back_bytes g ws (p + h + 3))
    unfolding row_bytes
    row-both = rw e (record { is = refl })

    pub row-begins : Begins (row_bytes g ws p) (front_bytes h g.three ws p)
    row-begins = both-begins row-both

pub ruleset part_laws = (front-both, front-begins, back-begins, row-both, row-begins)

-- ---- rows by a mask that is known

-- the rows that runs take of words, from word b on
abbrev pub squeezed : RowRuns → ℕ → ℕ → List ℕ → ℕ → List ℕ
squeezed g cells count ws b = write_items write_words (map (present_words (run_mask g)) (cut cells count (drop b ws)))

abbrev pub From : RowRuns → ℕ → List ℕ → ℕ → ℕ → List ℕ → List ℕ → ℕ → ℕ → Type 0
From g cells ws b count = RowsFrom (λ x. write_words (present_words (run_mask g) x) []) cells ws b count (squeezed g cells count ws b)

-- in a turn, b being the word at which row i begins
module _ (g : RowRuns) (cells : ℕ) (ws : List ℕ) (first count : ℕ) (h : Short g) (k : width g ≡ cells) (out₀ out : List ℕ) (at i : ℕ) (v : From g cells ws first count out₀ out at i) (l : i < count) (b : ℕ) where
  pub from_room : b ≡ first + i * cells → Room (row_bytes g ws b) (take (length out - at) (drop at out))
  from_room e = rows_room _ cells ws first count (squeezed g cells count ws first) out₀ out at i v l (row_bytes g ws b) b (row-piece g h ws b cells k) e

  pub from_next : (zs : List ℕ) (n : ℕ) → Put (row_bytes g ws b) (take (length out - at) (drop at out)) zs n → b ≡ first + i * cells
      → From g cells ws first count out₀ (take at out ++ (zs ++ drop (length out - at) (drop at out))) (at + n) (i + 1)
  from_next zs n p e = rows_next _ cells ws first count (squeezed g cells count ws first) out₀ out at i v l (row_bytes g ws b) b (row-piece g h ws b cells k) e zs n p

module _ (cells : ℕ) (ws : List ℕ) (first count : ℕ) (h : first + count ≤ length ws / cells) where
  pub known-there : cells * first + count * cells ≤ length ws
  known-there =
      let k : (first + count) * cells ≤ length ws / cells * cells = mul-le-mul_right cells h in
      rw (mul_comm cells first) (omega (arith, add-mul first count cells, div-mul-le_self (length ws) cells))

  module _ (m : List Bool) (g : RowRuns) (e : m ≡ run_mask g) where
    known-rows : write_items write_words (map (present_words m) (take count (drop first (rows_in cells ws)))) ≡ squeezed g cells count ws (cells * first)
    known-rows = rw (e, rows-from cells ws first count h)

    pub known_start : (out : List ℕ) → Room (write_items write_words (map (present_words m) (take count (drop first (rows_in cells ws))))) out → From g cells ws (cells * first) count out out 0 0
    known_start out r = rows_none _ cells ws (cells * first) count (squeezed g cells count ws (cells * first)) out (rw known-rows at r) known-there (masked_each (run_mask g) (cut cells count (drop (cells * first) ws)))

    pub known-put : (out put : List ℕ) (n : ℕ) → Put (squeezed g cells count ws (cells * first)) out put n → Put (write_items write_words (map (present_words m) (take count (drop first (rows_in cells ws))))) out put n
    known-put out put n p = rw known-rows p
