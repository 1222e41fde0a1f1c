-- What is put of ids and of items.
use mathlib.Core.Path.{◌≡◌, refl, sym, ap, ap₂, ◌∙◌}
use Prim.Native.Nat.{ℕ, zero, ◌+◌, ◌-◌, ◌*◌, ◌<◌, ◌≤◌}
use native.Mathlib.Omega.{arith}
use mathlib.Core.Bool.{Bool, true, false}
use mathlib.Core.List.{List, [], ◌∷◌, ◌++◌, append_assoc, append-nil}
use native.Mathlib.Nat.{add-zero}
use lib.ListN.{length, take, drop, length-append, length-take, length-drop, take-append-drop}
use lib.Seq.{length-take-le, take-append-add, drop-drop}
use Rattle.wire.specs.Bytes.{bytes, word_at, AllBytes}
use Rattle.wire.specs.Test.{if}
use Rattle.wire.specs.Cursors.{Inside, left}
use Rattle.wire.specs.declared.Cursor.{Cursor}
use Rattle.wire.proofs.LeftLaws.{span, left-length, left-drop}
use Rattle.layout.specs.Parts.{words_of}
use Rattle.layout.specs.Rules.{Rule, names_or_none, NONE, holds}
use Rattle.shared_output.proofs.PartLaws.{Both}
use Rattle.shared_seven_bit_groups.specs.Groups.{write_numbers}
use Rattle.shared_seven_bit_groups.proofs.GroupLaws.{numbers-append}
use Rattle.shared_ids.specs.Ids.{id_row}
use Rattle.b3d_mend_spec.specs.Edits.{Edit, keep, mend, was, becomes, after}
use Rattle.b3d_mend_spec.specs.Report.{entries, entry_bytes, report_bytes}
use Rattle.b3d_mend_spec.specs.Mend.{all_hold}
use Rattle.b3d_mend_spec.specs.Walks.{word_edit, item_edit, item_edits}
use Rattle.b3d_mend_spec.proofs.WalkLaws.{edits-cut, edits-step}
use Rattle.b3d_mend_judge_items.specs.Ones.{one_if}
use Rattle.b3d_mend_judge_items.proofs.KeepLaws.{id-row-length}
use Rattle.shared_put_or_count.specs.Emits.{RoomFrom, Emits}
use Rattle.b3d_mend_write_spec.specs.Shown.{shown}
use Rattle.shared_put_or_count.proofs.PutLaws.{fits-same, emits_same, Left, left-none, left-done, left-fits, left_next}
use Rattle.b3d_mend_write_spec.proofs.ShowsLaws.{shown-none, shown-cons}
use Rattle.b3d_mend_write_items.specs.Runs.{Stay, AllStay}
use Rattle.b3d_mend_write_edits.proofs.SliceLaws.{words_left, word_slice}

-- ---- an id

-- a number set to v shows as many bytes as one set to w
set_long : (report : Bool) (p k : ℕ) (b : List ℕ) (v w : ℕ) → length (shown report p (mend k b (bytes v []) ∷ [])) ≡ length (shown report p (mend k b (bytes w []) ∷ []))
unfolding shown entries report_bytes entry_bytes after becomes
set_long false p k b v w = refl
set_long true p k b v w =
    let ns = p ∷ k ∷ length b ∷ 4 ∷ [] in
    let x = b ++ (bytes v [] ++ []) in
    let y = b ++ (bytes w [] ++ []) in
    ap length (numbers-append ns x) ∙ length-append (write_numbers ns []) x
    ∙ ap (λ (n : ℕ). length (write_numbers ns []) + n) (length-append b (bytes v [] ++ []) ∙ sym (length-append b (bytes w [] ++ [])))
    ∙ sym (ap length (numbers-append ns y) ∙ length-append (write_numbers ns []) y)

module _ (s : List ℕ) (p limit : ℕ) (inside : p + 4 ≤ length s) (h : AllBytes s) (id : ℕ) (ei : id ≡ word_at s p) (ok : Bool) (eo : ok ≡ holds (names_or_none limit) id) (report wet : Bool) (xs : List ℕ) (at : ℕ) where
  abbrev Id : List ℕ
  Id = shown report p (word_edit (names_or_none limit) (word_at s p) ∷ [])

  stays : ok ≡ true → Id ≡ shown report p (keep (take 4 (drop p s)) ∷ [])
  unfolding word_edit if
  stays e = let q = sym eo ∙ e in rw (← ei, q, ei, word_slice s p h inside)

  set : ok ≡ false → Id ≡ shown report p (mend 2 (take 4 (drop p s)) (bytes NONE []) ∷ [])
  unfolding word_edit if
  set e = let q = sym eo ∙ e in rw (← ei, q, ei, word_slice s p h inside)

  module _ (e : ok ≡ true) where
    pub id-kept-fits : RoomFrom wet Id at xs → RoomFrom wet (shown report p (keep (take 4 (drop p s)) ∷ [])) at xs
    id-kept-fits f = fits-same (stays e) wet xs at f

    pub id-kept : (ys : List ℕ) (n : ℕ) → Emits wet (shown report p (keep (take 4 (drop p s)) ∷ [])) xs at ys n → Emits wet Id xs at ys n
    id-kept ys n g = emits_same (stays e) wet xs at ys n g

  module _ (e : ok ≡ false) where
    -- whatever it is set to
    pub id-set-fits : RoomFrom wet Id at xs → (v : ℕ) → RoomFrom wet (shown report p (mend 2 (take 4 (drop p s)) (bytes v []) ∷ [])) at xs
    id-set-fits f v =
        let g = fits-same (set e) wet xs at f in
        let n = set_long report p 2 (take 4 (drop p s)) v NONE in
        record { room = omega (arith, n, g.room); small = omega (arith, n, g.small) }

    pub id-set : (ys : List ℕ) (n : ℕ) → Emits wet (shown report p (mend 2 (take 4 (drop p s)) (bytes NONE []) ∷ [])) xs at ys n → Emits wet Id xs at ys n
    id-set ys n g = emits_same (set e) wet xs at ys n g

pub ruleset id_laws = (id-kept-fits, id-kept, id-set-fits, id-set)

-- ---- an item

one-no : (b : Bool) (n : ℕ) → n ≡ one_if b → n ≡ 0 → b ≡ false
one-no true n e z = absurd (omega arith)
one-no false n e z = refl

one-yes : (b : Bool) (n : ℕ) → n ≡ one_if b → (n ≡ 0 → ⊥) → b ≡ true
one-yes true n e z = refl
one-yes false n e z = absurd (z e)

one-step : (rs : List Rule) (words : ℕ) → length rs ≡ words → 0 < words → (l : List ℕ) → 4 * words ≤ length l → item_edits rs l ≡ item_edit rs (words_of words l) ∷ item_edits rs (drop (4 * words) l)
one-step rs words n pos l h = rw (← n) (edits-step rs (omega (arith, n)) l (omega (arith, n)))

module _ (s : List ℕ) (words ids limit : ℕ) (b : AllBytes s) (pos : 0 < words) (le : ids ≤ words) where
  abbrev rules : List Rule
  rules = id_row ids (words - ids) limit

  -- the first item of a cursor, and those behind it
  module _ (c : Cursor) (i : Inside c (length s)) (whole : c.at + 4 * words ≤ c.end) where
    abbrev behind : List ℕ
    behind = left (span (c.at + 4 * words) c.end) s

    step : item_edits rules (left c s) ≡ item_edit rules (words_of words (left c s)) ∷ item_edits rules behind
    step =
        one-step rules words (id-row-length words ids limit le) pos (left c s) (omega (arith, left-length s c i))
        ∙ ap (λ (l : List ℕ). item_edit rules (words_of words (left c s)) ∷ item_edits rules l) (sym (left-drop s c (4 * words) (span (c.at + 4 * words) c.end) refl refl))

    item-stays : all_hold rules (words_of words (left c s)) ≡ true → item_edit rules (words_of words (left c s)) ≡ keep (take (4 * words) (drop c.at s))
    unfolding item_edit if
    item-stays e = rw (e, words_left s c words b i whole)

    item-goes : all_hold rules (words_of words (left c s)) ≡ false → item_edit rules (words_of words (left c s)) ≡ mend 3 (take (4 * words) (drop c.at s)) []
    unfolding item_edit if
    item-goes e = rw (e, words_left s c words b i whole)

    slice : length (take (4 * words) (drop c.at s)) ≡ 4 * words
    slice = simp (length-take, length-drop) (omega (arith, i.within))

    shown-first : (report : Bool) (e : Edit) → item_edit rules (words_of words (left c s)) ≡ e → length (was e) ≡ 4 * words
        → Both (shown report c.at (item_edits rules (left c s))) (shown report c.at (e ∷ [])) (shown report (c.at + 4 * words) (item_edits rules behind))
    shown-first report e q n = record {
      is =
          ap (shown report c.at) (step ∙ ap (λ (x : Edit). x ∷ item_edits rules behind) q) ∙ (shown-cons report c.at e (item_edits rules behind)).is
          ∙ ap (λ (k : ℕ). shown report c.at (e ∷ []) ++ shown report (c.at + k) (item_edits rules behind)) n;
    }

    first-stays : (report : Bool) → all_hold rules (words_of words (left c s)) ≡ true
        → Both (shown report c.at (item_edits rules (left c s))) (shown report c.at (keep (take (4 * words) (drop c.at s)) ∷ [])) (shown report (c.at + 4 * words) (item_edits rules behind))
    unfolding was
    first-stays report e = shown-first report (keep (take (4 * words) (drop c.at s))) (item-stays e) slice

    first_goes : (report : Bool) → all_hold rules (words_of words (left c s)) ≡ false
        → Both (shown report c.at (item_edits rules (left c s))) (shown report c.at (mend 3 (take (4 * words) (drop c.at s)) [] ∷ [])) (shown report (c.at + 4 * words) (item_edits rules behind))
    unfolding was
    first_goes report e = shown-first report (mend 3 (take (4 * words) (drop c.at s)) []) (item-goes e) slice

-- ---- items that stay, one after the other

keep_none : (report : Bool) (p : ℕ) → shown report p (keep [] ∷ []) ≡ []
unfolding shown entries report_bytes after becomes
keep_none true p = refl
keep_none false p = refl

keep_two : (report : Bool) (p q : ℕ) (a b : List ℕ) → shown report p (keep a ∷ []) ++ shown report q (keep b ∷ []) ≡ shown report p (keep (a ++ b) ∷ [])
unfolding shown entries report_bytes after becomes
keep_two true p q a b = refl
keep_two false p q a b = ap₂ (λ (x y : List ℕ). x ++ y) (append-nil a) (append-nil b) ∙ sym (append-nil (a ++ b))

take_more : (n k : ℕ) (l : List ℕ) → n ≤ length l → take n l ++ take k (drop n l) ≡ take (n + k) l
take_more n k l h = sym (take-append-add (take n l) (drop n l) k) ∙ ap₂ (λ (i : ℕ) (m : List ℕ). take (i + k) m) (length-take-le n l h) (take-append-drop n l)

module _ (s : List ℕ) (words ids limit : ℕ) (c : Cursor) where
  pub stay_none : Inside c (length s) → Stay s words ids limit c 0
  stay_none i = record {
    within = omega (arith, i.before);
    is = λ report. ap₂ (λ (l : List ℕ) (p : ℕ). l ++ shown report p (item_edits (id_row ids (words - ids) limit) (left (span p c.end) s))) (sym (keep_none report c.at)) (sym (add-zero c.at));
  }

  module _ (i : Inside c (length s)) (b : AllBytes s) (pos : 0 < words) (le : ids ≤ words) (n : ℕ) (r : Stay s words ids limit c n) where
    pub stay-from : c.at ≤ c.end
    stay-from = i.before

    pub stay-to : n ≤ c.end - c.at
    stay-to = omega (arith, r.within)

    pub stay-place : c.at + n ≤ c.end
    stay-place = r.within

    pub stay-end : c.end - c.at - n < 4 * words → AllStay s words ids limit c n
    stay-end h = record { stay = r; next = λ w. absurd (omega (arith, r.within)) }

    module _ (h : 4 * words ≤ c.end - c.at - n) where
      pub stay-inside : Inside (span (c.at + n) c.end) (length s)
      stay-inside = record { before = r.within; within = i.within }

      pub stay-whole : c.at + n + 4 * words ≤ c.end
      stay-whole = omega (arith, r.within)

      pub stay-next : n + 4 * words ≤ c.end
      stay-next = omega (arith, r.within)

      pub stay-less : c.end - c.at - (n + 4 * words) < c.end - c.at - n
      stay-less = omega (arith, r.within)

      module _ (one : ℕ) (eo : one ≡ one_if (all_hold (id_row ids (words - ids) limit) (words_of words (left (span (c.at + n) c.end) s)))) where
        pub stay-stop : one ≡ 0 → AllStay s words ids limit c n
        stay-stop z = record { stay = r; next = λ w. one-no (all_hold (id_row ids (words - ids) limit) (words_of words (left (span (c.at + n) c.end) s))) one eo z }

        joined : take n (drop c.at s) ++ take (4 * words) (drop (c.at + n) s) ≡ take (n + 4 * words) (drop c.at s)
        joined =
            ap (λ (l : List ℕ). take n (drop c.at s) ++ take (4 * words) l) (sym (drop-drop n c.at s))
            ∙ take_more n (4 * words) (drop c.at s) (omega (arith, length-drop c.at s, r.within, i.within))

        pub stay-more : (one ≡ 0 → ⊥) → Stay s words ids limit c (n + 4 * words)
        stay-more z =
            let e = one-yes (all_hold (id_row ids (words - ids) limit) (words_of words (left (span (c.at + n) c.end) s))) one eo z in
            let q : c.at + n + 4 * words ≡ c.at + (n + 4 * words) = omega arith in
            record {
              within = omega (arith, stay-whole);
              is = λ report.
                  r.is report
                  ∙ ap (λ (l : List ℕ). shown report c.at (keep (take n (drop c.at s)) ∷ []) ++ l) (first-stays s words ids limit b pos le (span (c.at + n) c.end) stay-inside stay-whole report e).is
                  ∙ sym (append_assoc (shown report c.at (keep (take n (drop c.at s)) ∷ [])) (shown report (c.at + n) (keep (take (4 * words) (drop (c.at + n) s)) ∷ []))
                  (shown report (c.at + n + 4 * words) (item_edits (id_row ids (words - ids) limit) (left (span (c.at + n + 4 * words) c.end) s))))
                  ∙ ap₂ (λ (l : List ℕ) (p : ℕ). l ++ shown report p (item_edits (id_row ids (words - ids) limit) (left (span p c.end) s)))
                  (keep_two report c.at (c.at + n) (take n (drop c.at s)) (take (4 * words) (drop (c.at + n) s)) ∙ ap (λ (l : List ℕ). shown report c.at (keep l ∷ [])) joined) q;
            }

pub ruleset stay_laws = (stay_none, stay-from, stay-to, stay-place, stay-end, stay-inside, stay-whole, stay-next, stay-less, stay-stop, stay-more)

-- ---- items

-- the items from a place on are left to be put
pub record Items (s : List ℕ) (words ids limit : ℕ) (from : Cursor) (report wet : Bool) (xs : List ℕ) (start : ℕ) (ys : List ℕ) (p at : ℕ) : Type 0 where
  pub to : p ≤ from.end
  pub within : from.end ≤ length s
  pub left : Left wet (shown report from.at (item_edits (id_row ids (words - ids) limit) (left from s))) xs start ys at (shown report p (item_edits (id_row ids (words - ids) limit) (left (span p from.end) s)))

module _ (s : List ℕ) (words ids limit : ℕ) (from : Cursor) (report wet : Bool) (xs : List ℕ) (start : ℕ) where
  abbrev All : List ℕ
  All = shown report from.at (item_edits (id_row ids (words - ids) limit) (left from s))

  pub items_start : Inside from (length s) → RoomFrom wet All start xs → Items s words ids limit from report wet xs start xs from.at start
  items_start i f = record { to = i.before; within = i.within; left = left-none wet All xs start f }

  module _ (ys : List ℕ) (p at : ℕ) (g : Items s words ids limit from report wet xs start ys p at) where
    pub items_inside : Inside (span p from.end) (length s)
    items_inside = record { before = g.to; within = g.within }

    module _ (k : ℕ) (run : AllStay s words ids limit (span p from.end) k) where
      pub run_to : p + k ≤ from.end
      run_to = run.stay.within

      pub run_inside : p + k ≤ length s
      run_inside = omega (arith, run.stay.within, g.within)

      run_both : Both (shown report p (item_edits (id_row ids (words - ids) limit) (left (span p from.end) s))) (shown report p (keep (take k (drop p s)) ∷ []))
          (shown report (p + k) (item_edits (id_row ids (words - ids) limit) (left (span (p + k) from.end) s)))
      run_both = record { is = run.stay.is report }

      pub run_fits : RoomFrom wet (shown report p (keep (take k (drop p s)) ∷ [])) at ys
      run_fits = left-fits wet All xs start ys at _ g.left _ _ run_both

      -- the items that stay are put
      module _ (zs : List ℕ) (m : ℕ) (e : Emits wet (shown report p (keep (take k (drop p s)) ∷ [])) ys at zs m) (pos : 0 < words) (le : ids ≤ words) where
        rest : Left wet All xs start zs m (shown report (p + k) (item_edits (id_row ids (words - ids) limit) (left (span (p + k) from.end) s)))
        rest = left_next wet All xs start ys at _ g.left _ _ run_both zs m e

        here : length (left (span (p + k) from.end) s) ≡ from.end - (p + k)
        here = left-length s (span (p + k) from.end) (record { before = run_to; within = g.within })

        pub items_done : from.end - (p + k) < 4 * words → Emits wet All xs start zs m
        items_done h =
            left-done wet All xs start zs m _ rest
            (ap (shown report (p + k)) (edits-cut (id_row ids (words - ids) limit) (left (span (p + k) from.end) s) (omega (arith, here, id-row-length words ids limit le))) ∙ shown-none report (p + k))

        -- the item behind them is taken out
        module _ (h : 4 * words ≤ from.end - (p + k)) (b : AllBytes s) where
          pub out_to : p + k + 4 * words ≤ from.end
          out_to = omega (arith, run_to)

          pub out_inside : p + k + 4 * words ≤ length s
          out_inside = omega (arith, out_to, g.within)

          out_both : Both (shown report (p + k) (item_edits (id_row ids (words - ids) limit) (left (span (p + k) from.end) s)))
              (shown report (p + k) (mend 3 (take (4 * words) (drop (p + k) s)) [] ∷ []))
              (shown report (p + k + 4 * words) (item_edits (id_row ids (words - ids) limit) (left (span (p + k + 4 * words) from.end) s)))
          out_both = first_goes s words ids limit b pos le (span (p + k) from.end) (record { before = run_to; within = g.within }) out_to report (run.next out_to)

          pub out_fits : RoomFrom wet (shown report (p + k) (mend 3 (take (4 * words) (drop (p + k) s)) [] ∷ [])) m zs
          out_fits = left-fits wet All xs start zs m _ rest _ _ out_both

          pub out_less : from.end - (p + k + 4 * words) < from.end - p
          out_less = omega (arith, out_to)

          pub out_next : (us : List ℕ) (o : ℕ) → Emits wet (shown report (p + k) (mend 3 (take (4 * words) (drop (p + k) s)) [] ∷ [])) zs m us o
              → Items s words ids limit from report wet xs start us (p + k + 4 * words) o
          out_next us o f = record { to = out_to; within = g.within; left = left_next wet All xs start zs m _ rest _ _ out_both us o f }

pub ruleset items_laws = (items_start, items_inside, run_to, run_inside, run_fits, items_done, out_to, out_inside, out_fits, out_less, out_next)
