-- The laws of whole rows that are not looked at, in the words of the code.
use mathlib.Core.Path.{◌≡◌, refl, ap, sym, ◌∙◌}
use Prim.Native.Nat.{ℕ, zero, suc, ◌+◌, ◌-◌, ◌*◌, ◌/◌, ◌<◌, ◌≤◌}
use native.Mathlib.Omega.{arith}
use native.Mathlib.Nat.{suc-mul, mul-le-mul_right, div-mul-le_self}
use mathlib.Core.Bool.{Bool, true, false}
use mathlib.Core.List.{List, [], ◌∷◌}
use lib.ListN.{length, take, drop, take-append-drop, length-drop}
use lib.Seq.{slice, length-slice, length-take-le}
use lib.Dec.{eqb, ltb, ltb→lt, nltb→le}
use borrow.Author.Tests.{le-ltb}
use Rattle.wire.specs.Test.{if}
use Rattle.wire.specs.Bytes.{word}
use Rattle.layout.proofs.ResultLaws.{if_yes, by_test}
use Rattle.b3d_pieces_spec.specs.declared.Totals.{Totals}
use Rattle.b3d_pieces_spec.specs.declared.Kept.{Kept}
use Rattle.b3d_pieces_spec.specs.declared.Open.{Open}
use Rattle.b3d_pieces_spec.specs.declared.Part.TheVariants.{Row}
use Rattle.b3d_pieces_spec.specs.Bodies.{rule_at, none_kept, keep}
use Rattle.b3d_pieces_spec.specs.Machine.{State, live, rules, counting, begin, row_from, row_done, inner_done, word_done, row_byte, byte_in, step, run}
use Rattle.b3d_pieces_spec.proofs.RunLaws.{run-append, eqb_yes, row_on}
use Rattle.b3d_pieces_spec.proofs.ItemRunLaws.{edge_on}
use Rattle.b3d_pieces_spec.proofs.DepthLaws.{none-words}
use Rattle.b3d_pieces_rules.specs.Faults.{fault_in, row_fault}
use Rattle.b3d_pieces_byte_steps.proofs.RowLaws.{fault_0}
use Rattle.b3d_pieces_skip_numbers.specs.declared.RowPlace.{RowPlace}
use Rattle.b3d_pieces_skip_numbers.specs.declared.RowRules.{RowRules}
use Rattle.b3d_pieces_skip_numbers.specs.Places.{Plain, RulesAre, row_at, Sound, Advanced, Gathered}
use Rattle.b3d_pieces_skip_numbers.proofs.NumberLaws.{took-none, took-then, took-sound}
use Rattle.b3d_pieces_skip_rows.specs.Items.{WholeRows, Skips}

-- an item of f is a row of numbers that no rule refuses
record Free (g : Totals) (f : Open) : Type 0 where
  all : (i w : ℕ) → i ≤ 16777217 → 0 ≡ row_fault false f.tag f.kept g i w
  plain : Plain false f.tag

free : (q : RowRules) (g : Totals) (f : Open) → RulesAre q false g f → q.judged.past ≤ q.judged.first → q.again ≡ true → Free g f
free q g f h e a = record {
  all = λ i w l. by_test (ltb i q.judged.first) (λ t. h.judged.below i w (ltb→lt i q.judged.first t)) (λ t. let z = nltb→le i q.judged.first t in h.judged.above i w (omega arith) l);
  plain = h.again a;
}

-- ---- one row

module _ (g : Totals) (f : Open) (free : Free g f) (n : ℕ) (en : n ≡ length (rules false f g)) (nm : n ≤ 16777217) (R : List Open) where
  free_word : (start i w at c : ℕ) (k : Kept) → i ≤ 16777217 → word_done false start i w at k g (counting f c) R ≡ row_from false start (i + 1) (at + 4) (keep i w k) g (counting f c) R
  unfolding word_done if row_fault fault_in
  free_word start i w at c k u = rw (fault_0 (rule_at (rules false f g) i) w 0 (free.all i w u) refl)

  free_end : (start i at c : ℕ) (k : Kept) → i ≡ n → 0 < n → 4 * n ≤ f.end - at → row_from false start i at k g (counting f c) R ≡ live at (Row false at 0 0 0 none_kept) g (counting f (c + 1)) R
  unfolding row_from row_done inner_done begin if
  free_end start i at c k e h l =
      if_yes (eqb i (length (rules false f g))) _ _ (eqb_yes i (length (rules false f g)) (e ∙ en))
      ∙ rw free.plain.chunks (edge_on at g (counting f (c + 1)) R (λ z. omega arith) ∙ rw (free.plain.texts, le-ltb (f.end - at) (4 * length (rules false f g)) (rw (← en) l)))

  free_four : (start i at c a b d e : ℕ) (k : Kept) (s : List ℕ) → i ≤ 16777217
      → run (live at (Row false start i 0 0 k) g (counting f c) R) (a ∷ b ∷ d ∷ e ∷ s) ≡ run (row_from false start (i + 1) (at + 4) (keep i (word a b d e) k) g (counting f c) R) s
  unfolding step byte_in row_byte word
  free_four start i at c a b d e k s u = ap (λ (st : State). run st s) (free_word start i (a + 256 * b + 65536 * d + 16777216 * e) at c k u)

  free_row : (left start i at c : ℕ) (k : Kept) (s : List ℕ) → 0 < n → i + left ≡ n → length s ≡ 4 * left → 4 * n ≤ f.end - (at + 4 * left)
      → run (row_from false start i at k g (counting f c) R) s ≡ live (at + 4 * left) (Row false (at + 4 * left) 0 0 0 none_kept) g (counting f (c + 1)) R
  free_row zero start i at c k [] h e l m =
      let q : at ≡ at + 4 * 0 = omega arith in
      free_end start i at c k (omega arith) h (omega arith) ∙ ap (λ (a : ℕ). live a (Row false a 0 0 0 none_kept) g (counting f (c + 1)) R) q
  free_row zero start i at c k (a ∷ s) h e l m = absurd (omega arith)
  free_row (suc left) start i at c k [] h e l m = absurd (omega arith)
  free_row (suc left) start i at c k (b₁ ∷ []) h e l m = absurd (omega arith)
  free_row (suc left) start i at c k (b₁ ∷ b₂ ∷ []) h e l m = absurd (omega arith)
  free_row (suc left) start i at c k (b₁ ∷ b₂ ∷ b₃ ∷ []) h e l m = absurd (omega arith)
  free_row (suc left) start i at c k (b₁ ∷ b₂ ∷ b₃ ∷ b₄ ∷ s) h e l m =
      let q : at + 4 + 4 * left ≡ at + 4 * suc left = omega arith in
      let z : i ≡ length (rules false f g) → ⊥ = λ y. omega arith in
      ap (λ (st : State). run st (b₁ ∷ b₂ ∷ b₃ ∷ b₄ ∷ s)) (row_on false start g (counting f c) R i at k z)
      ∙ free_four start i at c b₁ b₂ b₃ b₄ k s (omega arith)
      ∙ free_row left start (i + 1) (at + 4) c (keep i (word b₁ b₂ b₃ b₄) k) s h (omega arith) (omega arith) (omega arith)
      ∙ ap (λ (a : ℕ). live a (Row false a 0 0 0 none_kept) g (counting f (c + 1)) R) q

  -- m rows and one
  free-rows : (m start at c : ℕ) (k : Kept) (s : List ℕ) → 0 < n → length s ≡ 4 * (suc m * n) → 4 * (suc m * n) + 4 * n ≤ f.end - at
      → run (row_from false start 0 at k g (counting f c) R) s ≡ live (at + 4 * (suc m * n)) (Row false (at + 4 * (suc m * n)) 0 0 0 none_kept) g (counting f (c + suc m)) R
  free-rows zero start at c k s h l e =
      let o : suc zero * n ≡ n = omega (arith, suc-mul zero n) in
      free_row n start 0 at c k s h (omega arith) (omega arith) (omega arith)
      ∙ ap (λ (a : ℕ). live (at + 4 * a) (Row false (at + 4 * a) 0 0 0 none_kept) g (counting f (c + 1)) R) (sym o)
  free-rows (suc m) start at c k s h l e =
      let o = suc-mul (suc m) n in
      let d : length (take (4 * n) s) ≡ 4 * n = length-take-le (4 * n) s (omega arith) in
      let u : length (drop (4 * n) s) ≡ 4 * (suc m * n) = length-drop (4 * n) s ∙ omega arith in
      let q : at + 4 * n + 4 * (suc m * n) ≡ at + 4 * (suc (suc m) * n) = omega arith in
      let v : c + 1 + suc m ≡ c + suc (suc m) = omega arith in
      ap (run (row_from false start 0 at k g (counting f c) R)) (sym (take-append-drop (4 * n) s))
      ∙ run-append (row_from false start 0 at k g (counting f c) R) (take (4 * n) s) (drop (4 * n) s)
      ∙ ap (λ (st : State). run st (drop (4 * n) s)) (free_row n start 0 at c k (take (4 * n) s) h (omega arith) d (omega arith) ∙ sym (row_on false (at + 4 * n) g (counting f (c + 1)) R 0 (at + 4 * n) none_kept (λ y. omega arith)))
      ∙ free-rows m (at + 4 * n) (at + 4 * n) (c + 1) none_kept (drop (4 * n) s) h u (omega arith)
      ∙ ap (λ (a : ℕ). live a (Row false a 0 0 0 none_kept) g (counting f (c + 1 + suc m)) R) q
      ∙ ap (λ (y : ℕ). live (at + 4 * (suc (suc m) * n)) (Row false (at + 4 * (suc (suc m) * n)) 0 0 0 none_kept) g (counting f y) R) v

-- ---- how many rows

pub whole-none : (a b n r : ℕ) → r ≡ 0 → WholeRows a b n r
whole-none a b n r e = rw e (record { here = omega arith; there = λ z. absurd (z refl); some = λ z. absurd (z refl); few = omega arith })

pub whole-some : (a b n r : ℕ) → (n ≡ 0 → ⊥) → (b / 4 / n ≡ 0 → ⊥) → r ≤ a / 4 / n → r ≤ b / 4 / n - 1 → WholeRows a b n r
whole-some a b n r z y u v =
    let p : 0 < n = omega arith in
    let i = mul-le-mul_right n u in
    let j = div-mul-le_self (a / 4) n in
    let w : suc r ≤ b / 4 / n = omega arith in
    let k = mul-le-mul_right n w in
    let l = div-mul-le_self (b / 4) n in
    let o = suc-mul r n in
    record { here = omega arith; there = λ _. omega arith; some = λ _. p; few = times r n p }
  where
    times : (r n : ℕ) → 0 < n → r ≤ r * n
    times zero n h = omega arith
    times (suc r) n h = let m = times r n h in let o = suc-mul r n in omega arith

pub ruleset whole_laws = (whole-none, whole-some)

module _ (last : ℕ) (q : RowRules) (x : RowPlace) (h : Sound last x) (r : RowPlace) where
  pub rows_none : r ≡ x → Skips last q x r
  rows_none e = rw e (record { sound = h; took = λ p l. took-none p last q x h x refl })

  pub rows-some : x.i ≡ 0 → x.j ≡ 0 → q.judged.past ≤ q.judged.first → q.again ≡ true → (left : ℕ) → left ≡ q.end - x.at → (m : ℕ) → WholeRows (last - x.from) left q.long m → (m ≡ 0 → ⊥)
      → r ≡ record { from = x.from + 4 * (m * q.long); at = x.at + 4 * (m * q.long); start = x.at + 4 * (m * q.long); i = 0; j = 0; acc = 0; kept = record { first = 0; second = 0; third = 0 }; count = x.count + m }
      → Skips last q x r
  rows-some ei ej en ag left el zero w z e = absurd (z refl)
  rows-some ei ej en ag left el (suc m) w z e =
      let n = q.long in
      let b = 4 * (suc m * n) in
      let u = w.here in
      let v = w.there z in
      let y = w.some z in
      let k = w.few in
      let o = suc-mul m n in
      let hf = h.from in
      let hp = h.place in
      let hc = h.count in
      let s : Sound last (record { from = x.from + b; at = x.at + b; start = x.at + b; i = 0; j = 0; acc = 0; kept = record { first = 0; second = 0; third = 0 }; count = x.count + suc m })
      = record { from = omega arith; three = omega arith; index = omega arith; low = omega arith; most = omega arith; words = none-words; count = omega arith; place = omega arith } in
      let nm : n ≤ 16777217 = omega arith in
      rw e (record {
        sound = s;
        took = λ p l. record {
          is = λ fixed g f d R. runs p (omega arith) fixed g f d (d.again ag) nm R;
          ahead = omega arith;
          sound = s;
          place = omega arith;
          count = omega arith;
        };
      })
    where
      low : x.acc ≡ 0
      low = let a : x.acc < 1 = rw ej at h.low in omega arith

      start_of : (f : Open) (g : Totals) (R : List Open) (at start i j acc : ℕ) (k : Kept) (c : ℕ) → i ≡ 0 → j ≡ 0 → acc ≡ 0 → (s : List ℕ) (n : ℕ) → n ≡ length (rules false f g) → 0 < n
          → run (live at (Row false start i j acc k) g (counting f c) R) s ≡ run (row_from false start 0 at k g (counting f c) R) s
      start_of f g R at start i j acc k c ei ej ea s n en y = rw (ei, ej, ea) (ap (λ (st : State). run st s) (sym (row_on false start g (counting f c) R 0 at k (λ e. omega arith))))

      runs : (p : List ℕ) → x.from + 4 * (suc m * q.long) ≤ length p → (fixed : Bool) (g : Totals) (f : Open) → RulesAre q fixed g f → Plain fixed f.tag → q.long ≤ 16777217 → (R : List Open)
          → run (row_at fixed g f x R) (slice x.from (x.from + 4 * (suc m * q.long)) p)
          ≡ live (x.at + 4 * (suc m * q.long)) (Row fixed (x.at + 4 * (suc m * q.long)) 0 0 0 none_kept) g (counting f (x.count + suc m)) R
      runs p l true g f d c nm R = let z : ◌≡◌ {A = ℕ} 0 1 = (let n = c.items in cc) in absurd (omega arith)
      runs p l false g f d c nm R =
          let n = q.long in
          let y = w.some z in
          let v = w.there z in
          let ef = d.end in
          start_of f g R x.at x.start x.i x.j x.acc x.kept x.count ei ej low (slice x.from (x.from + 4 * (suc m * n)) p) n d.long y
          ∙ free-rows g f (free q g f d en ag) n d.long nm R m x.start x.at x.count x.kept (slice x.from (x.from + 4 * (suc m * n)) p) y (length-slice x.from (x.from + 4 * (suc m * n)) p l ∙ omega arith) (omega arith)

pub ruleset rows_laws = (rows_none, rows-some)

-- ---- one after the other

module _ (p : List ℕ) (last : ℕ) (q : RowRules) (len : last ≤ length p) (x y : RowPlace) where
  pub gathered-then : Gathered p last x y → (z : RowPlace) → Advanced p last q y z → Advanced p last q x z
  gathered-then a z b = took-then p last q x y z len (a.took q) b

  pub both-took : (z : RowPlace) → Advanced p last q x y → Advanced p last q y z → Advanced p last q x z
  both-took z a b = took-then p last q x y z len a b

  pub all-took : (a b c : RowPlace) → Advanced p last q x a → Skips last q a b → Advanced p last q b c → Gathered p last c y → Advanced p last q x y
  all-took a b c ta tb tc td = took-then p last q x a y len ta (took-then p last q a b y len (tb.took p len) (took-then p last q b c y len tc (td.took q)))

pub gathered-sound : (p : List ℕ) (last : ℕ) (x y : RowPlace) → Gathered p last x y → Sound last y
gathered-sound p last x y a = a.sound

pub skips_sound : (last : ℕ) (q : RowRules) (x y : RowPlace) → Skips last q x y → Sound last y
skips_sound last q x y a = a.sound

pub ruleset then_laws = (took-none, took-sound, gathered-sound, skips_sound, gathered-then, both-took, all-took)
