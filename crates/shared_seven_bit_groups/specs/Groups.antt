-- Numbers in groups of seven bits: the highest group first, the top bit set on all but the last byte, in the shortest form. 128 is 81 00.
use Rattle.layout.specs.Refused.{refusal_at}
use Rattle.std.specs.Prelude as std
use Rattle.layout.specs.declared.Refusal.{Refusal}
use Rattle.std.specs.Prelude.{ℕ, zero, suc, ◌+◌, ◌-◌, ◌*◌, ◌/◌, ◌%◌, ◌≤◌, Bool, ◌&&◌, List, [], ◌∷◌, length, leb, ltb, Ok, Err}
use Rattle.wire.specs.Test.{if}
use Rattle.layout.specs.Result.{Result, accept, reject, check, ◌>>=◌}
use Rattle.layout.specs.Parts.{Step}
use Rattle.layout.specs.Refusals as refusals

-- ---- writing, before what follows

-- the groups before the last, which make the number w, each with its top bit set, before r; none if w is 0; the first argument bounds how many
unfoldable pub front_in : ℕ → ℕ → List ℕ → List ℕ
front_in zero w r = r
front_in (suc f) zero r = r
front_in (suc f) (suc w) r = front_in f (suc w / 128) ((suc w % 128 + 128) ∷ r)

-- the groups before the last, which make the number w, before r; w has no more groups than it is
unfoldable pub front : ℕ → List ℕ → List ℕ
front w r = front_in w w r

-- the number n in its groups, before r
unfoldable pub groups : ℕ → List ℕ → List ℕ
groups n r = front (n / 128) (n % 128 ∷ r)

-- how many groups the number n takes
unfoldable pub groups_of : ℕ → ℕ
groups_of n = length (groups n [])

-- the numbers of a list in their groups, one after the other, before r
unfoldable pub write_numbers : List ℕ → List ℕ → List ℕ
write_numbers [] r = r
write_numbers (n ∷ ns) r = groups n (write_numbers ns r)

-- ---- ranges

-- the second list has a number for each of the first, and none is more than its limit there
abbrev pub AtMost : List ℕ → List ℕ → Type 0
AtMost [] [] = Unit {0}
AtMost [] (n ∷ ns) = ⊥
AtMost (m ∷ ms) [] = ⊥
AtMost (m ∷ ms) (n ∷ ns) = (n ≤ m) × AtMost ms ns

-- ---- reading: 13 at the first byte of a number that its bytes so far make wrong, or at the end of the bytes where a number is cut

-- true if more groups may follow those that make the number w: the first is not empty, as in no shortest form, and with the lowest group after them the
-- number is at most `most`
unfoldable pub goes_on : ℕ → ℕ → Bool
goes_on most w = ltb 0 w && leb (w * 128) most

-- the last group makes the number n, which ends at p: refused with 13 at `start` if it is more than `most`
unfoldable pub last : ℕ → ℕ → ℕ → ℕ → List ℕ → Result (Step ℕ)
last start most n p s = do
  _ ← check (leb n most) refusals.no_slip start
  accept (record { value = n; place = p; left = s })

-- the number that begins at `start` and is at most `most`, from its group at p on, in at most this many groups more; the groups before make the number v
unfoldable pub read_in : ℕ → ℕ → ℕ → ℕ → ℕ → List ℕ → Result (Step ℕ)
read_in start most zero v p s = reject refusals.no_slip start
read_in start most (suc k) v p [] = reject refusals.no_slip p
read_in start most (suc k) v p (b ∷ s) =
    let w = v * 128 + (b - 128) in
    if (ltb b 128) (last start most (v * 128 + b) (p + 1) s) (check (goes_on most w) refusals.no_slip start >>= λ _. read_in start most k w (p + 1) s)

-- the number at p, which is at most `most`, in no more groups than `most` takes
unfoldable pub read_number : ℕ → ℕ → List ℕ → Result (Step ℕ)
read_number most p s = read_in p most (groups_of most) 0 p s

-- the numbers from p on, one for each limit of the list and at most that
unfoldable pub read_numbers : List ℕ → ℕ → List ℕ → Result (Step (List ℕ))
read_numbers [] p s = accept (record { value = []; place = p; left = s })
read_numbers (m ∷ ms) p s = do
  x ← read_number m p s
  l ← read_numbers ms x.place x.left
  accept (record { value = x.value ∷ l.value; place = l.place; left = l.left })

-- ---- what the code answers for what was read

-- what code answers for a number that was read
abbrev pub grouped : Result (Step ℕ) → std.Result (ℕ × ℕ) Refusal
grouped (accept x) = Ok (x.value, x.place)
grouped (reject n p) = Err (refusal_at n p)
