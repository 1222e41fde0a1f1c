-- KEYS: what each step of `judge_keys` says of the keys that the body holds.
use Rattle.layout.specs.Refused.{refusal_at}
use Rattle.std.specs.Prelude.{Ok, Err, Some, None}
use Rattle.std.specs.Prelude as std
use Rattle.layout.specs.declared.Refusal.{Refusal}
use mathlib.Core.Path.{◌≡◌, ◌∙◌}
use Prim.Native.Nat.{ℕ, ◌≤◌, ◌<◌, ◌-◌}
use native.Mathlib.Omega.{arith}
use native.Mathlib.Nat.{mul-le-mul_left}
use mathlib.Core.List.{List}
use lib.ListN.{length}
use Rattle.wire.specs.Cursors.{left, number_at}
use Rattle.wire.specs.declared.Cursor.{Cursor}
use Rattle.layout.specs.Result.{Result}
use Rattle.layout.specs.Parts.{row, items}
use Rattle.b3d_spec.specs.Parse.{read_keys}
use Rattle.b3d_spec.specs.Rules.{key_flags, key_row, key_words}
use Rattle.b3d_judge_items.specs.Items.{counted, divided_at, CountedIn}
use Rattle.b3d_judge_items.proofs.DividedLaws.{divided_is, counted-room, counted-before}
use Rattle.b3d_spec_chunk_places.specs.Places.{Body}
use Rattle.b3d_judge_tally.specs.Answers.{Judges}
use Rattle.b3d_judge_tally.specs.Tally.{keys_tally, list_tally}
use Rattle.b3d_judge_tally.specs.declared.Tally.{Tally}
use Rattle.b3d_spec_chunk_places.proofs.HeadLaws.{head_cut, head-numbered, head-inside, head_over, head-within}
use Rattle.b3d_judge_bodies.proofs.AnswerLaws.{judges_bad, items-bad, items-good}
use Rattle.b3d_judge_tally.proofs.TallyLaws.{within-keys}

-- the keys from a cursor on
abbrev keys_at : List ℕ → Cursor → ℕ → Result (List (List ℕ))
keys_at s c flags = items (row (key_row flags)) c.at (left c s)

module _ (s : List ℕ) (at : ℕ) (b : Cursor) (body : Body at b (length s)) (r : std.Option (ℕ × Cursor)) (e : r ≡ number_at s b) where
  pub keys-cut : r ≡ None → Judges list_tally (read_keys at (left b s)) at b.end (Err (refusal_at 5 b.at))
  unfolding read_keys
  keys-cut w = judges_bad list_tally _ at b.end (refusal_at _ _) (rw (head_cut s at b body r e key_flags w)) body.room

  module _ (flags : ℕ) (c : Cursor) (w : r ≡ Some (flags, c)) where
    pub keys-over : 7 < flags → Judges list_tally (read_keys at (left b s)) at b.end (Err (refusal_at 6 b.at))
    unfolding read_keys
    keys-over h = judges_bad list_tally _ at b.end (refusal_at _ _) (rw (head_over s at b body r e flags c w 7 h)) body.room

    module _
        (h : flags ≤ 7) (words : ℕ) (v : words ≡ key_words flags) (pos : 1 ≤ words)
        (x : std.Result ℕ Refusal) (y : x ≡ divided_at c words) (z : CountedIn c words x) where
      found : x ≡ counted (keys_at s c flags)
      found = rw (← v) (y ∙ divided_is c words s (head-inside s at b body r e flags c w) pos)

      pub keys-bad : (n : Refusal) → x ≡ Err n → Judges list_tally (read_keys at (left b s)) at b.end (Err n)
      unfolding read_keys
      keys-bad n q =
          items-bad list_tally _ at b.end (keys_at s c flags) x found n q (λ g. rw (head-within s at b body r e flags c w 7 h, g))
          (omega (arith, counted-before c words x z n q, head-numbered s at b body r e flags c w))

      pub keys-all : (k : ℕ) → x ≡ Ok k → (t : Tally) → t ≡ keys_tally k words → Judges list_tally (read_keys at (left b s)) at b.end (Ok t)
      unfolding read_keys list_tally
      keys-all k q t u =
          let f = head-numbered s at b body r e flags c w in
          let m = counted-room c words x z k q in
          items-good list_tally _ at b.end (keys_at s c flags) x found k q (λ l. record { flags = flags; items = l }) (λ l g. rw (head-within s at b body r e flags c w 7 h, g))
          t (λ l i. rw (u, v, i)) (rw u (within-keys k words (b.end - at) (omega arith) (mul-le-mul_left k (omega arith))))

pub ruleset key_laws = (keys-cut, keys-over, keys-bad, keys-all)
