-- The cells that are left out of a row, by groups, from a word of the table on.
use Rattle.std.specs.Prelude.{ℕ, zero, suc, ◌+◌, ◌-◌, ◌*◌, Bool, true, ◌&&◌, List, get_or, eqb}
use Rattle.b3d_rule_row_masks.specs.declared.RowRuns.{RowRuns}

-- the test f holds at n places, the first being p and each `far` after the one before
unfoldable pub every_at : (ℕ → Bool) → ℕ → ℕ → ℕ → Bool
every_at f far zero p = true
every_at f far (suc n) p = f p && every_at f far n (p + far)

-- n words of ws are 0, from a given word on
abbrev pub zeros_at : ℕ → List ℕ → ℕ → Bool
zeros_at n ws = every_at (λ p. eqb (get_or ws p 0) 0) 1 n

-- in each of n sets of four words of ws, from a given word on, all but the first `size` are 0
abbrev pub sets_clean : ℕ → ℕ → List ℕ → ℕ → Bool
sets_clean n size ws = every_at (λ p. zeros_at (4 - size) ws (p + size)) 4 n

-- all cells that the groups g leave out of the row of ws at word p are 0
unfoldable pub row_clean : RowRuns → List ℕ → ℕ → Bool
row_clean g ws p =
    let q = p + g.head in
    let r = q + 3 in
    let s = r + g.wide in
    zeros_at (3 - g.three) ws (q + g.three)
    && (zeros_at (g.wide - g.some) ws (r + g.some) && (sets_clean g.sets g.size ws s && zeros_at g.rest ws (s + g.sets * 4)))
