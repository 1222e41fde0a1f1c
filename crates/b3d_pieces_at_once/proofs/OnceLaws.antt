-- The laws of bytes that are taken at once from a state, in the words of the code.
use mathlib.Core.Path.{◌≡◌, refl, ap, sym, subst, ◌∙◌}
use Prim.Native.Nat.{ℕ, ◌+◌, ◌-◌, ◌≤◌}
use native.Mathlib.Omega.{arith}
use mathlib.Core.Bool.{Bool, true, false, false≢true}
use mathlib.Core.List.{List}
use lib.ListN.{length}
use lib.Dec.{eqb, ltb, leb}
use borrow.Author.Tests.{ltb-true, ltb-false, eqb-true, eqb-false, ne_eqb}
use Rattle.wire.specs.Test.{if}
use Rattle.b3d_pieces_spec.specs.declared.Open.{Open}
use Rattle.b3d_pieces_spec.specs.declared.Part.{Part}
use Rattle.b3d_pieces_spec.specs.declared.Part.TheVariants.{Text, Row, Skip}
use Rattle.b3d_pieces_spec.specs.Machine.{rules}
use Rattle.b3d_pieces_spec.specs.Good.{Words}
use Rattle.b3d_pieces_item_steps.specs.declared.Now.{Now}
use Rattle.b3d_pieces_item_steps.specs.declared.Now.TheVariants.{Live}
use Rattle.b3d_pieces_judge_step.specs.declared.Judge.{Judge}
use Rattle.b3d_pieces_judge_step.specs.declared.Turn.{Turn}
use Rattle.b3d_pieces_judge_step.specs.Runs.{CanRun}
use Rattle.b3d_pieces_judge_step.proofs.RunLaws.{run-first}
use Rattle.b3d_pieces_skip_numbers.specs.declared.RowPlace.{RowPlace}
use Rattle.b3d_pieces_skip_numbers.specs.declared.RowRules.{RowRules}
use Rattle.b3d_pieces_skip_numbers.specs.Places.{RulesAre, Sound, Advanced, Gathered}
use Rattle.b3d_pieces_skip_rows.proofs.JudgedLaws.{every-row}
use Rattle.b3d_pieces_skip_lengths.specs.Ahead.{BytesBefore, UntilZero, RoomIs}
use Rattle.b3d_pieces_skip.specs.Passes.{moved_to, PassReady, PassIs}
use Rattle.b3d_pieces_skip.proofs.PassLaws.{pass_none, skip_moves, text-moves, from-sound, rows-move, room-live, room-fault, room-over, going_ready}
use Rattle.b3d_pieces_state.specs.declared.OpenRecord.{OpenRecord}
use Rattle.b3d_pieces_state.specs.declared.PieceFed.{PieceFed}
use Rattle.b3d_pieces_state.specs.declared.PieceState.{PieceState}
use Rattle.b3d_pieces_state.specs.Records.{open_in}
use Rattle.b3d_pieces_state.specs.States.{now_by, judge_in}
use Rattle.b3d_pieces_state.proofs.StateLaws.{now-text, now-row, now_skip, now-fault, now-over}
use Rattle.b3d_pieces_records_tests.specs.declared.RowWeight.{RowWeight}
use Rattle.b3d_pieces_records_tests.specs.Weights.{Numbered, NumberIs, place_of}
use Rattle.b3d_pieces_at_once.specs.declared.AtOnce.{AtOnce}
use Rattle.b3d_pieces_at_once.specs.Onces.{turn_at, counted_by, advanced_by, counting, rows_by, PartReady, MovedIs, OnceReady, OnceIs}

-- ---- what a state stands for

now-is : (s : PieceState) → (judge_in s).now ≡ now_by s
unfolding judge_in
now-is s = refl

size_is : (s : PieceState) → (judge_in s).size ≡ s.size
unfolding judge_in
size_is s = refl

-- what the judge holds after k bytes, with x at the present place
abbrev after : PieceState → Now → ℕ → Judge
after s x k =
    let j = judge_in s in
    record { size = j.size + k; worth = j.worth; letters = j.letters; length = j.length; shut = j.shut; depth = j.depth; now = x }

counted_is : (s : PieceState) (k : ℕ) → (s.kind ≡ 0 → ⊥) → (s.kind ≡ 1 → ⊥) → (s.kind ≡ 2 → ⊥) → judge_in (counted_by s k) ≡ after s (now_by s) k
unfolding judge_in now_by if
counted_is s k a b c = simp (ne_eqb s.kind 0 a, ne_eqb s.kind 1 b, ne_eqb s.kind 2 c)

text-is : (s : PieceState) (k : ℕ) → s.kind ≡ 0 → judge_in (advanced_by s k) ≡ after s (Live (s.at + k) (Text (eqb s.fixed 1) s.start) s.totals (open_in s.inner)) k
unfolding judge_in now_by if
text-is s k e = rw e

skip_is : (s : PieceState) (k : ℕ) → s.kind ≡ 2 → judge_in (advanced_by s k) ≡ after s (Live (s.at + k) (Skip s.start) s.totals (open_in s.inner)) k
unfolding judge_in now_by if
skip_is s k e = rw e

open_counting : (o : OpenRecord) (n : ℕ) → open_in (counting o n) ≡ (let f = open_in o in record { tag = f.tag; head = f.head; end = f.end; turn = f.turn; spent = f.spent; level = f.level; kept = f.kept; count = n; told = f.told })
unfolding open_in
open_counting o n = refl

row_is : (s : PieceState) (y : RowPlace) → s.kind ≡ 1
    → judge_in (rows_by s y) ≡ after s (Live y.at (Row (eqb s.fixed 1) y.start y.i y.j y.acc y.kept) s.totals (open_in (counting s.inner y.count))) y.from
unfolding judge_in now_by if
row_is s y e = rw e

-- ---- bytes that were taken

module _ (s : PieceState) (p : List ℕ) where
  abbrev t : Turn
  t = turn_at (judge_in s) 0 (length p)

  moved_by : (x : Now) (k : ℕ) (r : PieceState) → judge_in r ≡ after s x k → r.size ≡ s.size + k → PassIs t p (moved_to t x k) → MovedIs s p r
  moved_by x k r ej es h = record { grows = omega arith; pass = subst (PassIs t p) same h }
    where
      same : moved_to t x k ≡ turn_at (judge_in r) (r.size - s.size) (length p)
      same =
          let e : 0 + k ≡ r.size - s.size = omega arith in
          ap (λ (j : Judge). turn_at j (0 + k) (length p)) (sym ej) ∙ ap (λ (a : ℕ). turn_at (judge_in r) a (length p)) e

  pub moved_none : (r : PieceState) → r ≡ s → MovedIs s p r
  moved_none r q = rw q (record { grows = omega arith; pass = subst (λ (a : ℕ). PassIs t p (turn_at (judge_in s) a (length p))) (let e : 0 ≡ s.size - s.size = omega arith in e) (pass_none t p t refl) })

  -- ---- a part

  module _ (n : ℕ) where
    part-file : (m : Part) → PartReady s p n m → s.size + n ≤ 16777217
    part-file m h = let a = h.file in let b = size_is s in omega arith

    module _ (h : PartReady s p n (Skip s.start)) (k : ℕ) (b : BytesBefore s.at s.start n k) where
      pub skip_size : s.size + k ≤ 16777217
      skip_size = let a = part-file (Skip s.start) h in let m = b.most in omega arith

      pub skip_at : s.at + k ≤ 16777217
      skip_at = let a = skip_size in let o = h.off in let e = size_is s in omega arith

      pub skip_moved : s.kind ≡ 2 → (r : PieceState) → r ≡ advanced_by s k → MovedIs s p r
      skip_moved e r q = rw q (moved_by (Live (s.at + k) (Skip s.start) s.totals (open_in s.inner)) k (advanced_by s k) (skip_is s k e) refl
          (skip_moves t p n s.at s.totals (open_in s.inner) _ s.start h k b refl))

    module _ (h : PartReady s p n (Text (eqb s.fixed 1) s.start)) (f : Open) (ef : f ≡ open_in s.inner) (most : ℕ) (b : BytesBefore s.at f.end n most) where
      pub text_long : most ≤ length p
      text_long = let a = h.room in let m = b.most in omega arith

      module _ (k : ℕ) (u : UntilZero p 0 most k) where
        pub text-size : s.size + k ≤ 16777217
        text-size = let a = part-file (Text (eqb s.fixed 1) s.start) h in let m = b.most in let c = u.within in omega arith

        pub text_at : s.at + k ≤ 16777217
        text_at = let a = text-size in let o = h.off in let e = size_is s in omega arith

        pub text-moved : s.kind ≡ 0 → (r : PieceState) → r ≡ advanced_by s k → MovedIs s p r
        text-moved e r q = rw q (moved_by (Live (s.at + k) (Text (eqb s.fixed 1) s.start) s.totals (open_in s.inner)) k (advanced_by s k) (text-is s k e) refl
            (text-moves t p n s.at s.totals (open_in s.inner) (moved_to t (Live (s.at + k) (Text (eqb s.fixed 1) s.start) s.totals (open_in s.inner)) k) (eqb s.fixed 1) s.start h most
            (subst (λ (g : Open). BytesBefore s.at g.end n most) ef b) k (subst (λ (l : ℕ). UntilZero p 0 l k) (let z : most ≡ 0 + most = omega arith in z) u)
            (let z : k ≡ k - 0 = omega arith in ap (λ (l : ℕ). moved_to t (Live (s.at + l) (Text (eqb s.fixed 1) s.start) s.totals (open_in s.inner)) l) z)))

    module _ (f : Open) (ef : f ≡ open_in s.inner) (h : PartReady s p n (Row (eqb s.fixed 1) s.start s.index s.came s.value s.kept)) where
      abbrev x₀ : RowPlace
      x₀ = record { from = 0; at = s.at; start = s.start; i = s.index; j = s.came; acc = s.value; kept = s.kept; count = f.count }

      counts : f.count ≡ (open_in s.inner).count
      counts = ap (λ (g : Open). g.count) ef

      pub row_words : Words f.kept
      row_words = subst (λ (g : Open). Words g.kept) (sym ef) h.words

      pub row_long : n ≤ length p
      row_long = let a = h.room in omega arith

      pub row-sound : (x : RowPlace) → x ≡ x₀ → Sound n x
      row-sound x ex = subst (Sound n) (sym ex) (subst (λ (l : ℕ). Sound l x₀) (let z : 0 + n ≡ n = omega arith in z) (from-sound t p n x₀ (eqb s.fixed 1) s.totals (open_in s.inner) h refl counts))

      pub row_near : n + s.came ≤ 16777220
      row_near = let a = part-file (Row (eqb s.fixed 1) s.start s.index s.came s.value s.kept) h in let o = h.off.1 in omega arith

      pub row-size : (y : RowPlace) → Sound n y → s.size + y.from ≤ 16777217
      row-size y o = let a = part-file (Row (eqb s.fixed 1) s.start s.index s.came s.value s.kept) h in let b = o.from in omega arith

      module _ (x : RowPlace) (ex : x ≡ x₀) (w : RowRules) (ew : RulesAre w (eqb s.fixed 1) s.totals f) (y : RowPlace) (k : Advanced p n w x y) where
        pub row_moved : s.kind ≡ 1 → (r : PieceState) → r ≡ rows_by s y → MovedIs s p r
        row_moved e r q = rw q (moved_by (Live y.at (Row (eqb s.fixed 1) y.start y.i y.j y.acc y.kept) s.totals (open_in (counting s.inner y.count))) y.from (rows_by s y) (row_is s y e) refl
            (rows-move t p n x₀ (eqb s.fixed 1) s.totals (open_in s.inner) h refl counts w (subst (λ (g : Open). RulesAre w (eqb s.fixed 1) s.totals g) ef ew) y
            (subst (λ (l : ℕ). Advanced p l w x₀ y) (let z : n ≡ 0 + n = omega arith in z) (subst (λ (u : RowPlace). Advanced p n w u y) ex k)) _ same))
          where
            same : moved_to t (Live y.at (Row (eqb s.fixed 1) y.start y.i y.j y.acc y.kept) s.totals (open_in (counting s.inner y.count))) y.from
                ≡ moved_to t (Live y.at (Row (eqb s.fixed 1) y.start y.i y.j y.acc y.kept) s.totals (let f = open_in s.inner in record { tag = f.tag; head = f.head; end = f.end; turn = f.turn; spent = f.spent; level = f.level; kept = f.kept; count = y.count; told = f.told })) (y.from - 0)
            same =
                let z : y.from ≡ y.from - 0 = omega arith in
                ap (λ (g : Open). moved_to t (Live y.at (Row (eqb s.fixed 1) y.start y.i y.j y.acc y.kept) s.totals g) y.from) (open_counting s.inner y.count)
                ∙ ap (λ (l : ℕ). moved_to t (Live y.at (Row (eqb s.fixed 1) y.start y.i y.j y.acc y.kept) s.totals (let f = open_in s.inner in record { tag = f.tag; head = f.head; end = f.end; turn = f.turn; spent = f.spent; level = f.level; kept = f.kept; count = y.count; told = f.told })) l) z

      -- rules that are right of every row: each number is left to the machine
      abbrev left-rules : RowRules
      left-rules = record { long = length (rules (eqb s.fixed 1) f s.totals); judged = record { first = 0; past = 4294967295; colour = false; names = 0 }; again = false; end = f.end }

      leaves : RulesAre left-rules (eqb s.fixed 1) s.totals f
      leaves = record { long = refl; judged = (every-row left-rules.judged refl).is (eqb s.fixed 1) f.tag f.kept s.totals; again = λ z. absurd (false≢true z); end = refl }

      pub near_moved : (x : RowPlace) → x ≡ x₀ → (y : RowPlace) → Gathered p n x y → s.kind ≡ 1 → (r : PieceState) → r ≡ rows_by s y → MovedIs s p r
      near_moved x ex y k = row_moved x ex left-rules leaves y (k.took left-rules)

  -- ---- any

  module _ (h : PassReady t p) (n : ℕ) (m : RoomIs s.size (length p) n) (z : n ≡ 0 → ⊥) where
    room : RoomIs t.judge.size (t.end - t.at) n
    room = subst (λ (a : ℕ). RoomIs a (length p - 0) n) (sym (size_is s)) (subst (λ (a : ℕ). RoomIs s.size a n) (let e : length p ≡ length p - 0 = omega arith in e) m)

    pub any-text : s.kind ≡ 0 → PartReady s p n (Text (eqb s.fixed 1) s.start)
    any-text e = room-live t p h n room z s.at (Text (eqb s.fixed 1) s.start) s.totals (open_in s.inner) (now-is s ∙ sym (now-text s _ (open_in s.inner) refl e refl))

    pub any-row : s.kind ≡ 1 → PartReady s p n (Row (eqb s.fixed 1) s.start s.index s.came s.value s.kept)
    any-row e = room-live t p h n room z s.at (Row (eqb s.fixed 1) s.start s.index s.came s.value s.kept) s.totals (open_in s.inner) (now-is s ∙ sym (now-row s _ (open_in s.inner) refl e refl))

    pub any_skip : s.kind ≡ 2 → PartReady s p n (Skip s.start)
    any_skip e = room-live t p h n room z s.at (Skip s.start) s.totals (open_in s.inner) (now-is s ∙ sym (now_skip s _ (open_in s.inner) refl e refl))

    pub any-size : s.size + n ≤ 16777217
    any-size = m.file z

    module _ (a : s.kind ≡ 0 → ⊥) (b : s.kind ≡ 1 → ⊥) (c : s.kind ≡ 2 → ⊥) (r : PieceState) (q : r ≡ counted_by s n) where
      counts-on : PassIs t p (moved_to t (now_by s) n)
      counts-on = by_kind (eqb s.kind 3) refl
        where
          at-now : moved_to t (now_by s) n ≡ moved_to t t.judge.now n
          at-now = ap (λ (x : Now). moved_to t x n) (sym (now-is s))

          by_kind : (d : Bool) → eqb s.kind 3 ≡ d → PassIs t p (moved_to t (now_by s) n)
          by_kind true e = room-fault t p h n room z s.number s.at (now-is s ∙ sym (now-fault s _ (eqb-true s.kind 3 e) refl)) _ at-now
          by_kind false e = room-over t p h n room z s.totals (now-is s ∙ sym (now-over s _ a b c (eqb-false s.kind 3 e) refl)) _ at-now

      pub any-counted : MovedIs s p r
      any-counted = rw q (moved_by (now_by s) n (counted_by s n) (counted_is s n a b c) refl counts-on)

pub ruleset skip_laws = (skip_size, skip_at, skip_moved)

pub ruleset text_laws = (text_long, text-size, text_at, text-moved)

pub ruleset row_laws = (row_words, row_long, row-sound, row_near, row-size)

pub ruleset any_laws = (moved_none, any-text, any-row, any_skip, any-size, any-counted)

-- ---- a call

module _ (w : RowWeight) (s : PieceState) (h : OnceReady w s) where
  pub once-load : w.load ≤ 16777218
  once-load = h.weighed.most

  module _ (j : Judge) (ej : j ≡ judge_in s) (m : ℕ) (k : NumberIs w j m) where
    number_is : NumberIs w (judge_in s) m
    number_is = subst (λ (x : Judge). NumberIs w x m) ej k

    numbered : Numbered (judge_in s) h.records h.row m
    numbered = number_is.is h.records h.row h.weighed h.over

    runs : m ≡ 0 → CanRun (judge_in s) h.records h.row
    runs z = by-records (ltb h.records 19) refl
      where
        by-shut : 19 ≤ h.records → (o : Bool) → (judge_in s).shut ≡ o → CanRun (judge_in s) h.records h.row
        by-shut l true o = absurd (let x = numbered.shut l o in omega arith)
        by-shut l false o = numbered.fine l o z

        by-records : (b : Bool) → ltb h.records 19 ≡ b → CanRun (judge_in s) h.records h.row
        by-records true e = absurd (let x = numbered.short (ltb-true h.records 19 e) in omega arith)
        by-records false e = by-shut (ltb-false h.records 19 e) (judge_in s).shut refl

    pub once_ready : m ≡ 0 → (p : List ℕ) → PassReady (turn_at (judge_in s) 0 (length p)) p
    once_ready z p = going_ready (turn_at (judge_in s) 0 (length p)) h.row p (run-first (judge_in s) h.records h.row p (turn_at (judge_in s) 0 (length p)) (runs z) (record { judge = refl; at = refl; end = refl; get = refl })).going

    pub once-taken : m ≡ 0 → (p : List ℕ) (r : PieceState) → MovedIs s p r → (fed : PieceFed) → fed ≡ record { number = 0; place = 0; state = r }
        → (x : AtOnce) → x ≡ record { done = leb (length p) (r.size - s.size); at = r.size - s.size; fed = fed } → OnceIs w s p x
    unfolding place_of if
    once-taken z p r v fed ef x q = rw (q, ef) (record {
      number = subst (NumberIs w (judge_in s)) z number_is;
      place = refl;
      state = λ f. absurd (f refl);
      stop = λ f. absurd (f refl);
      pass = λ e. v.pass;
      done = λ e. refl;
    })

    pub once-refused : (m ≡ 0 → ⊥) → (p : List ℕ) (place : ℕ) → place ≡ place_of m → (fed : PieceFed) → fed ≡ record { number = m; place = place; state = s }
        → (x : AtOnce) → x ≡ record { done = true; at = 0; fed = fed } → OnceIs w s p x
    once-refused f p place ep fed ef x q = rw (q, ef) (record {
      number = number_is;
      place = ep;
      state = λ g. refl;
      stop = λ g. refl;
      pass = λ e. absurd (f e);
      done = λ e. absurd (f e);
    })

pub once-grows : (s : PieceState) (p : List ℕ) (r : PieceState) → MovedIs s p r → s.size ≤ r.size
once-grows s p r v = v.grows

pub ruleset once_laws = (once-load, once_ready, once-grows)
