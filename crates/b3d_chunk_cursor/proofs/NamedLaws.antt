-- A text and the words after it: the answers of `named_row`, and what they say to those who asked, in the terms of layout's `named`.
use Rattle.std.specs.Prelude.{Some, None}
use Rattle.std.specs.Prelude as std
use Rattle.b3d_chunk_cursor.specs.declared.Named.{Named}
use Prim.Native.Nat.{ℕ, ◌+◌, ◌-◌, ◌*◌, ◌<◌, ◌≤◌}
use native.Mathlib.Omega.{arith}
use mathlib.Core.Path.{◌≡◌, refl, sym, ap, subst, ◌∙◌}
use mathlib.Core.List.{List}
use lib.ListN.{length, take, replicate, length-replicate}
use lib.Dec.{ltb, ltb→lt, nltb→le}
use borrow.Author.Tests.{lt-ltb, le-ltb}
use Rattle.wire.specs.Test.{if}
use Rattle.wire.specs.Cursors.{Inside, left, text_at}
use Rattle.wire.specs.declared.Cursor.{Cursor}
use Rattle.wire.proofs.AnswerLaws.{texted, text-cut, left-length, left-drop}
use Rattle.layout.specs.Result.{accept, reject}
use Rattle.layout.specs.Parts.{text as text_of, words_of, judged, named as named_of}
use Rattle.layout.specs.Rules.{Rule, any}
use Rattle.layout.proofs.ResultLaws.{if_yes, if_no, by_test}
use Rattle.layout.proofs.StepLaws.{text_found, text_none, words-enough, words-short, judged-any}
use Rattle.b3d_chunk_cursor.specs.Chunks.{named_by, named_at, RowIn, NamedIn}

-- ---- the answers

module _ (s : List ℕ) (c : Cursor) (words : ℕ) (r : std.Option (ℕ × Cursor)) (e : r ≡ text_at s c) where
  pub no_text : r ≡ None → None ≡ named_at s c words
  unfolding named_at named_by
  no_text w = rw (← e, w)

  module _ (len : ℕ) (row : Cursor) (w : r ≡ Some (len, row)) where
    pub row_before : row.at ≤ row.end
    row_before = (texted s c len row (sym e ∙ w)).room

    pub short_row : row.end - row.at < 4 * words → None ≡ named_at s c words
    unfolding named_at named_by if
    short_row h = rw (← e, w, lt-ltb _ _ h)

    module _ (h : 4 * words ≤ row.end - row.at) where
      pub whole_row : Some (record { length = len; row = row; next = (record { at = row.at + 4 * words; end = row.end }) }) ≡ named_at s c words
      unfolding named_at named_by if
      whole_row = rw (← e, w, le-ltb _ _ h)

      pub row_in : RowIn c len row (record { at = row.at + 4 * words; end = row.end }) words
      row_in = let f = texted s c len row (sym e ∙ w) in record { row = f.to; after = refl; to = omega arith; row_same = f.same; same = f.same }

pub ruleset naming = (no_text, row_before, short_row, whole_row, row_in)

-- ---- what an answer says

-- a text that was read at c, as the definition reads it
pub text-is : (s : List ℕ) (c : Cursor) (len : ℕ) (w : Cursor) → text_at s c ≡ Some (len, w)
    → text_of c.at c.at (left c s) ≡ accept (record { value = take len (left c s); place = w.at; left = left w s })
text-is s c len w e =
    let f = texted s c len w e in
    let p : c.at + length (take len (left c s)) + 1 ≡ w.at = omega arith in
    ap (text_of c.at c.at) f.is ∙ (text_found c.at c.at (take len (left c s)) (left w s) f.nonzero ∙ ap (λ (q : ℕ). accept (record { value = take len (left c s); place = q; left = left w s })) p)

module _ (s : List ℕ) (c : Cursor) (words : ℕ) (i : Inside c (length s)) (rs : List Rule) (l : length rs ≡ words) where
  -- the name that stands at c, the words at w, and what follows those
  abbrev Says : std.Option Named → Type 0
  Says None = named_of rs c.at (left c s) ≡ reject 5 c.at
  Says (Some f) =
      named_of rs c.at (left c s)
      ≡ judged rs f.row.at (words_of words (left f.row s))
      (record { value = (record { place = c.at; bytes = take f.length (left c s) }, words_of words (left f.row s)); place = f.next.at; left = left f.next s })

  says : Says (named_at s c words)
  unfolding named_at named_by named_of
  says = go (text_at s c) refl
    where
      go : (t : std.Option (ℕ × Cursor)) → text_at s c ≡ t → Says (named_by words t)
      go None e = rw (text_none c.at c.at (left c s) (text-cut s c e))
      go (Some (len, w)) e =
          let f = texted s c len w e in
          let k : length (left w s) ≡ w.end - w.at = left-length s w (omega arith) in
          by_test (ltb (w.end - w.at) (4 * words))
          (λ t. let h = ltb→lt (w.end - w.at) (4 * words) t in
          rw (if_yes _ _ _ t, text-is s c len w e, words-short c.at (length rs) w.at (left w s) (omega arith)))
          (λ t. let h = nltb→le (w.end - w.at) (4 * words) t in
          rw (if_no _ _ _ t, text-is s c len w e, l, words-enough c.at words w.at (left w s) (omega arith), left-drop s w (4 * words) (record { at = w.at + 4 * words; end = w.end }) refl refl))

  module _ (r : std.Option Named) (e : r ≡ named_at s c words) where
    pub named-cut : r ≡ None → named_of rs c.at (left c s) ≡ reject 5 c.at
    named-cut q = subst Says (sym e ∙ q) says

    pub named-is : (f : Named) → r ≡ Some f
        → named_of rs c.at (left c s)
        ≡ judged rs f.row.at (words_of words (left f.row s))
        (record { value = (record { place = c.at; bytes = take f.length (left c s) }, words_of words (left f.row s)); place = f.next.at; left = left f.next s })
    named-is f q = subst Says (sym e ∙ q) says

-- of words that are not looked at
pub named-any : (s : List ℕ) (c : Cursor) (words : ℕ) → Inside c (length s) → (r : std.Option Named) → r ≡ named_at s c words → (f : Named) → r ≡ Some f
    → named_of (replicate words any) c.at (left c s)
    ≡ accept (record { value = (record { place = c.at; bytes = take f.length (left c s) }, words_of words (left f.row s)); place = f.next.at; left = left f.next s })
named-any s c words i r e f q =
    named-is s c words i (replicate words any) (length-replicate words any) r e f q ∙ judged-any words f.row.at (words_of words (left f.row s)) _

-- of the places
module _ (c : Cursor) (words : ℕ) (r : std.Option Named) (b : NamedIn c words r) (g : Named) (q : r ≡ Some g) where
  pub named-among : RowIn c g.length g.row g.next words
  named-among = subst (NamedIn c words) q b

  pub row_inside : (l : ℕ) → Inside c l → Inside g.row l
  row_inside l i = let f = named-among in omega arith

  pub row_room : g.row.at + 4 * words ≤ g.row.end
  row_room = let f = named-among in omega arith

  pub after-inside : (l : ℕ) → Inside c l → Inside g.next l
  after-inside l i = let f = named-among in omega arith

  pub after_less : g.next.end - g.next.at < c.end - c.at
  after_less = let f = named-among in omega arith

  pub after_same : (p : ℕ) → c.end ≡ p → g.next.end ≡ p
  after_same p e = named-among.same ∙ e

pub ruleset named-rows = (named-cut, named-is, named-any, named-among, row_inside, row_room, after-inside, after_less, after_same)
