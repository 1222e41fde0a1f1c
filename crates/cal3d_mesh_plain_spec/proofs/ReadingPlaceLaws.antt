-- A reading that gave a value: what stands at a place of the file, with no rule.
use Prim.Native.Nat.{ℕ, zero, suc, ◌+◌, ◌-◌, ◌*◌, ◌≤◌}
use native.Mathlib.Omega.{arith}
use mathlib.Core.Path.{◌≡◌, refl, sym, subst, ◌∙◌}
use mathlib.Core.List.{List, [], ◌∷◌}
use lib.ListN.{length}
use Rattle.wire.specs.Cursors.{Inside, left}
use Rattle.wire.proofs.LeftLaws.{span, left-length, left-drop}
use Rattle.layout.specs.Result.{Result, accept}
use Rattle.layout.specs.Parts.{Step, row}
use Rattle.layout.specs.Rules.{Rule}
use Rattle.layout.specs.Counted.{before, times}
use Rattle.layout.proofs.ResultLaws.{got_inj}
use Rattle.layout.proofs.CountLaws.{row_got, row-moves, times_got}
use Rattle.shared_table_words.specs.Words.{words_at}
use Rattle.shared_table_words.proofs.CopyLaws.{words-at}
use Rattle.cal3d_mesh_plain_spec.specs.Plain.{entries_at, end_after, word_rows}

-- the bytes of the file from a place on
abbrev pub after : List ℕ → ℕ → List ℕ
after s p = left (span p (length s)) s

-- this value was read, up to this place of the file
pub record Found {A : Type 0} (s : List ℕ) (x : Step A) (value : A) (end : ℕ) : Type 0 where
  pub is : x.value ≡ value
  pub to : x.place ≡ end
  pub rest : x.left ≡ after s end
  pub within : end ≤ length s

-- what a reading gives is this entry, wherever it starts
abbrev pub Finds : {A : Type 0} → List ℕ → (ℕ → List ℕ → Result (Step A)) → (ℕ → A) → (ℕ → ℕ) → Type 0
Finds {A} s read entry next = (p : ℕ) (x : Step A) → p ≤ length s → read p (after s p) ≡ accept x → Found s x (entry p) (next p)

module _ {A B : Type 0} (s : List ℕ) (x : Step A) (value : A) (end : ℕ) (f : Found s x value end) where
  -- what is read next starts there
  pub found-next : (read : ℕ → List ℕ → Result (Step B)) (y : Step B) → read x.place x.left ≡ accept y → read end (after s end) ≡ accept y
  found-next read y e = rw (f.to, f.rest) at e

  pub found_as : (y : Step B) (other : B) → y.value ≡ other → y.place ≡ x.place → y.left ≡ x.left → Found s y other end
  found_as y other e t l = record { is = e; to = t ∙ f.to; rest = l ∙ f.rest; within = f.within }

-- a row of numbers, whatever their rules
pub row_finds : (s : List ℕ) (rs : List Rule) → Finds s (row rs) (words_at (length rs) s) (λ p. p + 4 * length rs)
row_finds s rs p x h e =
    let c = span p (length s) in
    let i : Inside c (length s) = record { before = h; within = omega arith } in
    let g = row_got rs p (after s p) x e in
    let m = row-moves rs p (after s p) x e in
    let l = left-length s c i in
    let room : p + 4 * length rs ≤ length s = omega (arith, g.1) in
    let by : m.by ≡ 4 * length rs = omega (arith, g.2, m.to) in
    record {
      is = g.0 ∙ words-at (length rs) s c i room;
      to = g.2;
      rest = m.rest ∙ sym (left-drop s c m.by (span (p + 4 * length rs) (length s)) (omega arith) refl);
      within = room;
    }

-- an entry before others
before-found : {A : Type 0} (s : List ℕ) (y : Step A) (l : Step (List A)) (a : A) (others : List A) (p end : ℕ) → Found s y a p → Found s l others end → Found s (before y.value l) (a ∷ others) end
unfolding before
before-found s y l a others p end f g = record { is = rw (f.is, g.is); to = g.to; rest = g.rest; within = g.within }

-- entries by their count
pub times_finds : {A : Type 0} (s : List ℕ) (read : ℕ → List ℕ → Result (Step A)) (entry : ℕ → A) (next : ℕ → ℕ) → Finds s read entry next
    → (n : ℕ) → Finds s (times n read) (entries_at entry next n) (end_after next n)
unfolding times entries_at end_after
times_finds {A} s read entry next f zero p x h e =
    subst (λ (y : Step (List A)). Found s y [] p) (got_inj e) (record { is = refl; to = refl; rest = refl; within = h })
times_finds {A} s read entry next f (suc n) p x h e =
    times_got read n p (after s p) x e (λ y l ey el eb.
    let a = f p y h ey in
    let b = times_finds s read entry next f n (next p) l a.within (found-next s y (entry p) (next p) a (times n read) l el) in
    subst (λ (z : Step (List A)). Found s z (entry p ∷ entries_at entry next n (next p)) (end_after next n (next p))) eb
    (before-found s y l (entry p) (entries_at entry next n (next p)) (next p) (end_after next n (next p)) a b))

-- rows of so many words end by their number
pub rows_end : (width n p : ℕ) → end_after (λ q. q + 4 * width) n p ≡ p + 4 * width * n
unfolding end_after
rows_end width zero p = omega arith
rows_end width (suc n) p =
    let e : 4 * width * suc n ≡ 4 * width * n + 4 * width = omega arith in
    rows_end width n (p + 4 * width) ∙ omega arith

-- rows by their count, whatever their rules
pub rows-find : (s : List ℕ) (rs : List Rule) (n : ℕ) → Finds s (times n (row rs)) (word_rows (length rs) s n) (λ p. p + 4 * length rs * n)
unfolding word_rows
rows-find s rs n p x h e =
    subst (λ (q : ℕ). Found s x (word_rows (length rs) s n p) q) (rows_end (length rs) n p) (times_finds s (row rs) (words_at (length rs) s) (λ q. q + 4 * length rs) (row_finds s rs) n p x h e)
