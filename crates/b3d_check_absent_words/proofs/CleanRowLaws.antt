-- A row is clean where the runs that are left out of it are 0.
use mathlib.Core.Path.{◌≡◌, refl, ap, sym, ◌∙◌}
use Prim.Native.Nat.{ℕ, zero, suc, ◌+◌, ◌-◌, ◌*◌, ◌<◌, ◌≤◌}
use native.Mathlib.Nat.{add-zero, suc-mul}
use native.Mathlib.Omega.{arith}
use mathlib.Core.Bool.{Bool, true, false, ◌&&◌}
use mathlib.Core.List.{List, [], ◌∷◌, ◌++◌}
use lib.ListN.{length, take, drop, get_or, replicate}
use lib.Seq.{drop-cons}
use lib.Dec.{eqb}
use Rattle.layout.specs.WellFormed.{all}
use Rattle.layout.proofs.TestLaws.{and_true, and_assoc}
use Rattle.b3d_check_spec.specs.Check.{clean}
use Rattle.b3d_rule_row_masks.specs.Runs.{run, set_runs, run_mask, width, Short, OfKey, OfVertex}
use Rattle.b3d_rule_row_masks.specs.declared.RowRuns.{RowRuns}
use Rattle.b3d_rule_row_masks.proofs.MaskLaws.{mask-width}
use Rattle.b3d_check_rows.specs.Rows.{row_at, rows_at}
use Rattle.b3d_check_absent_words.specs.Zeros.{every_at, zeros_at, sets_clean, row_clean}

-- ---- a loop over places

next_place : (i far first : ℕ) → first + i * far + far ≡ first + (i + 1) * far
next_place i far first = let e : i + 1 ≡ suc i = omega arith in rw e (omega (arith, suc-mul i far))

-- of n places from `first` on, i are passed, and ok says whether f holds at those
pub record EveryFrom (f : ℕ → Bool) (far n first : ℕ) (ok : Bool) (i : ℕ) : Type 0 where
  pub within : i ≤ n
  pub rest : (ok && every_at f far (n - i) (first + i * far)) ≡ every_at f far n first

module _ (f : ℕ → Bool) (far n first : ℕ) where
  pub every_none : EveryFrom f far n first true 0
  every_none = let e : first + 0 * far ≡ first = omega arith in let z : n - 0 ≡ n = omega arith in record { within = omega arith; rest = rw (e, z) }

  module _ (ok : Bool) (i : ℕ) (v : EveryFrom f far n first ok i) where
    pub every_done : n ≤ i → ok ≡ every_at f far n first
    unfolding every_at
    every_done h = let z : n - i ≡ 0 = omega arith in sym (and_true ok) ∙ rw z at v.rest

    pub every_next : i < n → (one : Bool) (p : ℕ) → one ≡ f p → p ≡ first + i * far → EveryFrom f far n first (ok && one) (i + 1)
    unfolding every_at
    every_next h one p e q =
        let z : n - i ≡ suc (n - (i + 1)) = omega arith in
        let k : first + i * far + far ≡ first + (i + 1) * far = next_place i far first in
        record { within = omega arith; rest = and_assoc ok one (every_at f far (n - (i + 1)) (first + (i + 1) * far)) ∙ (rw (e, q, ← k) (rw z at v.rest)) }

pub ruleset every_laws = (every_none, every_done, every_next)

-- ---- so many words, by their number

module _ (ws : List ℕ) (n p : ℕ) (r : Bool) where
  pub few-is : (i : ℕ) → n ≡ i → r ≡ zeros_at i ws p → r ≡ zeros_at n ws p
  few-is i e h = rw e h

  pub few-last : n ≤ 4 → (n ≡ 0 → ⊥) → (n ≡ 1 → ⊥) → (n ≡ 2 → ⊥) → (n ≡ 3 → ⊥) → r ≡ zeros_at 4 ws p → r ≡ zeros_at n ws p
  few-last h a b c d = few-is 4 (omega arith)

pub ruleset few_laws = (few-is, few-last)

-- ---- what a mask of runs asks of a row

module _ (ws : List ℕ) where
  clean-on : (n : ℕ) (m : List Bool) (p : ℕ) → p + n ≤ length ws → clean (replicate n true ++ m) (drop p ws) ≡ clean m (drop (p + n) ws)
  unfolding clean
  clean-on zero m p h = rw (add-zero p)
  clean-on (suc n) m p h =
      let e : p + suc n ≡ suc p + n = omega arith in
      rw (drop-cons ws p 0 (omega arith), e) (clean-on n m (suc p) (omega arith))

  clean-off : (k : ℕ) (m : List Bool) (p : ℕ) → p + k ≤ length ws → clean (replicate k false ++ m) (drop p ws) ≡ (zeros_at k ws p && clean m (drop (p + k) ws))
  unfolding clean every_at
  clean-off zero m p h = rw (add-zero p)
  clean-off (suc k) m p h =
      let e : p + suc k ≡ p + 1 + k = omega arith in
      let one : suc p ≡ p + 1 = omega arith in
      rw (drop-cons ws p 0 (omega arith), one, e, clean-off k m (p + 1) (omega arith)) (sym (and_assoc (eqb (get_or ws p 0) 0) (zeros_at k ws (p + 1)) (clean m (drop (p + 1 + k) ws))))

  -- one run: w words, of which n are there
  clean_run : (n w : ℕ) (m : List Bool) (p : ℕ) → n ≤ w → p + w ≤ length ws → clean (run n (w - n) m) (drop p ws) ≡ (zeros_at (w - n) ws (p + n) && clean m (drop (p + w) ws))
  unfolding run
  clean_run n w m p h l =
      let e : p + n + (w - n) ≡ p + w = omega arith in
      clean-on n (replicate (w - n) false ++ m) p (omega arith) ∙ clean-off (w - n) m (p + n) (omega arith) ∙ rw e

  clean-sets : (n size : ℕ) (m : List Bool) (p : ℕ) → size ≤ 4 → p + n * 4 ≤ length ws → clean (set_runs n size m) (drop p ws) ≡ (sets_clean n size ws p && clean m (drop (p + n * 4) ws))
  unfolding set_runs every_at
  clean-sets zero size m p h l = let e : p + 0 * 4 ≡ p = omega arith in rw e
  clean-sets (suc n) size m p h l =
      let e : p + suc n * 4 ≡ p + 4 + n * 4 = omega arith in
      clean_run size 4 (set_runs n size m) p h (omega arith)
      ∙ rw (e, clean-sets n size m (p + 4) h (omega arith)) (sym (and_assoc (zeros_at (4 - size) ws (p + size)) (sets_clean n size ws (p + 4)) (clean m (drop (p + 4 + n * 4) ws))))

  clean-rest : (k p : ℕ) → p + k ≤ length ws → clean (replicate k false) (drop p ws) ≡ zeros_at k ws p
  unfolding clean every_at
  clean-rest zero p h = refl
  clean-rest (suc k) p h =
      let one : suc p ≡ p + 1 = omega arith in
      rw (drop-cons ws p 0 (omega arith), one, clean-rest k (p + 1) (omega arith))

  clean_is : (g : RowRuns) → Short g → (p : ℕ) → p + width g ≤ length ws → clean (run_mask g) (drop p ws) ≡ row_clean g ws p
  unfolding run_mask row_clean width run
  clean_is g h p l =
      let m = replicate g.rest false in
      let k = set_runs g.sets g.size m in
      let q = p + g.head in
      clean-on g.head (run g.three (3 - g.three) (run g.some (g.wide - g.some) k)) p (omega arith)
      ∙ clean_run g.three 3 (run g.some (g.wide - g.some) k) q h.three (omega arith)
      ∙ ap (λ (b : Bool). zeros_at (3 - g.three) ws (q + g.three) && b)
      (clean_run g.some g.wide k (q + 3) h.some (omega arith)
      ∙ ap (λ (b : Bool). zeros_at (g.wide - g.some) ws (q + 3 + g.some) && b)
      (clean-sets g.sets g.size m (q + 3 + g.wide) h.size (omega arith)
      ∙ ap (λ (b : Bool). sets_clean g.sets g.size ws (q + 3 + g.wide) && b) (clean-rest g.rest (q + 3 + g.wide + g.sets * 4) (omega arith))))

-- ---- rows

clean-take : (m : List Bool) (l : List ℕ) → clean m (take (length m) l) ≡ clean m l
unfolding clean
clean-take [] l = refl
clean-take (b ∷ m) [] = refl
clean-take (true ∷ m) (x ∷ l) = clean-take m l
clean-take (false ∷ m) (x ∷ l) = rw (clean-take m l)

module _ (g : RowRuns) (h : Short g) (w : ℕ) (e : width g ≡ w) (i : ℕ) (ws : List ℕ) (l : w * i + w ≤ length ws) where
  pub clean-row : (r : Bool) → r ≡ row_clean g ws (w * i) → r ≡ clean (run_mask g) (row_at w i ws)
  unfolding row_at
  clean-row r q =
      let k : length (run_mask g) ≡ w = mask-width g h ∙ e in
      q ∙ sym (clean_is ws g h (w * i) (rw e l)) ∙ sym (clean-take (run_mask g) (drop (w * i) ws)) ∙ rw k

pub clean-known : (m : List Bool) (g : RowRuns) → m ≡ run_mask g → (w first count : ℕ) (ws : List ℕ) (r : Bool)
    → r ≡ all (clean (run_mask g)) (rows_at w first count ws) → r ≡ all (clean m) (rows_at w first count ws)
clean-known m g e w first count ws r h = rw e h

-- ---- a row as the code looks at it

module _ (g : RowRuns) (ws : List ℕ) (p : ℕ) (a b : Bool) where
  pub key_made : OfKey g → (c : Bool) → a ≡ zeros_at (3 - g.three) ws (p + 1 + g.three) → b ≡ zeros_at (3 - g.some) ws (p + 1 + 3 + g.some)
      → c ≡ zeros_at (4 - g.size) ws (p + 1 + 3 + 3 + g.size) → (a && (b && c)) ≡ row_clean g ws p
  unfolding row_clean every_at
  key_made k c ea eb ec = rw (k.head, k.wide, k.sets, k.rest, ea, eb, ec, and_true, and_true)

  pub vertex_made : OfVertex g → (c d : Bool) → a ≡ zeros_at (3 - g.three) ws (p + 3 + g.three) → b ≡ zeros_at (4 - g.some) ws (p + 3 + 3 + g.some)
      → c ≡ sets_clean g.sets g.size ws (p + 3 + 3 + 4) → d ≡ zeros_at g.rest ws (p + 3 + 3 + 4 + g.sets * 4) → (a && (b && (c && d))) ≡ row_clean g ws p
  unfolding row_clean
  vertex_made k c d ea eb ec ed = rw (k.head, k.wide, ea, eb, ec, ed)

-- where its runs stand
module _ (g : RowRuns) (h : Short g) (p n : ℕ) where
  module _ (k : OfKey g) (l : p + 11 ≤ n) where
    pub key-front : p + 1 + g.three + (3 - g.three) ≤ n
    key-front = omega (arith, h.three)

    pub key_middle : p + 1 + 3 + g.some + (3 - g.some) ≤ n
    key_middle = omega (arith, h.some, k.wide)

    pub key_back : p + 1 + 3 + 3 + g.size + (4 - g.size) ≤ n
    key_back = omega (arith, h.size)

  module _ (k : OfVertex g) (l : p + 42 ≤ n) where
    pub vertex-front : p + 3 + g.three + (3 - g.three) ≤ n
    vertex-front = omega (arith, h.three)

    pub vertex_middle : p + 3 + 3 + g.some + (4 - g.some) ≤ n
    vertex_middle = omega (arith, h.some, k.wide)

    pub vertex-sets : p + 3 + 3 + 4 + g.sets * 4 ≤ n
    vertex-sets = omega (arith, k.sets)

    pub vertex-back : p + 3 + 3 + 4 + g.sets * 4 + g.rest ≤ n
    vertex-back = omega (arith, k.sets)

pub ruleset place_laws = (key_made, key-front, key_middle, key_back, vertex_made, vertex-front, vertex_middle, vertex-sets, vertex-back)
