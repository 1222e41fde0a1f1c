-- By each case of an answer what the definitions read where the cursor stands.
use Rattle.std.specs.Prelude.{Some, None}
use Rattle.std.specs.Prelude as std
use Rattle.b3d_chunk_cursor.specs.declared.Named.{Named}
use Prim.Native.Nat.{ℕ}
use native.Mathlib.Omega.{arith}
use mathlib.Core.Path.{◌≡◌, refl, ap, sym, ◌∙◌}
use mathlib.Core.List.{List, [], ◌∷◌}
use mathlib.Core.Option.{Option, none, some}
use lib.ListN.{length, replicate, length-replicate}
use Rattle.wire.specs.Bytes.{word_at}
use Rattle.wire.specs.Cursors.{Inside, left, number_at, text_at, header_at}
use Rattle.wire.specs.declared.Cursor.{Cursor}
use Rattle.wire.specs.declared.Header.{Header}
use Rattle.wire.specs.declared.Header.TheVariants as header
use Rattle.wire.proofs.AnswerLaws.{numbered, number_cut, text-cut, left-length, left-drop}
use Rattle.layout.specs.Chunks.{keep}
use Rattle.layout.specs.Parts.{words_of, row, text as read_text, named as read_named}
use Rattle.layout.specs.Rules.{any}
use Rattle.layout.proofs.StepLaws.{row_any, any-short, word-left, text_none}
use Rattle.b3d_spec.specs.declared.Tag.{Tag}
use Rattle.b3d_spec.specs.Tags.{tag_of, split}
use Rattle.b3d_chunk_cursor.specs.Chunks.{tagged, named_at}
use Rattle.b3d_chunk_cursor.proofs.NamedLaws.{text-is, named-cut, named-any}
use Rattle.b3d_chunk_cursor.proofs.PassLaws.{pass_none, next-none, next-cut, next_known, pass_one}
use Rattle.b3d_chunk_cursor_answers.specs.Answers.{number_says, text_says, header_says, named_says, Answered}

module _ (s : List ℕ) (c : Cursor) (i : Inside c (length s)) where
  number-told : row (any ∷ []) c.at (left c s) ≡ number_says s c (number_at s c)
  number-told = go (number_at s c) refl
    where
      go : (r : std.Option (ℕ × Cursor)) → number_at s c ≡ r → row (any ∷ []) c.at (left c s) ≡ number_says s c r
      go None e = let short = number_cut s c e in any-short 1 c.at (left c s) (omega (arith, left-length s c i))
      go (Some (n, d)) e =
          let f = numbered s c n d e in
          let w : words_of 1 (left c s) ≡ word_at s c.at ∷ [] = word-left s c d 0 i f.room f.to f.same in
          let k : n ∷ [] ≡ words_of 1 (left c s) = ap (λ (x : ℕ). x ∷ []) f.is ∙ sym w in
          rw (k, left-drop s c 4 d f.to f.same, f.to) (row_any 1 c.at (left c s) (omega (arith, left-length s c i)))

  text-told : read_text c.at c.at (left c s) ≡ text_says s c (text_at s c)
  text-told = go (text_at s c) refl
    where
      go : (r : std.Option (ℕ × Cursor)) → text_at s c ≡ r → read_text c.at c.at (left c s) ≡ text_says s c r
      go None e = text_none c.at c.at (left c s) (text-cut s c e)
      go (Some (n, d)) e = text-is s c n d e

  header-told : split c.at (left c s) ≡ header_says s c (header_at s c)
  unfolding keep
  header-told = go (header_at s c) refl
    where
      known : (t : ℕ) (b n : Cursor) → header_at s c ≡ header.Whole t b n → (o : Option Tag) → tag_of t ≡ o → split c.at (left c s) ≡ keep o c.at (left b s) (split n.at (left n s))
      known t b n e none q = (pass_one s c c (pass_none s c i) (header_at s c) refl t b n e (tagged (tag_of t)) refl (ap tagged q)).rest
      known t b n e (some k) q = (next_known s c c (pass_none s c i) (header_at s c) refl t b n e (tagged (tag_of t)) refl k (ap tagged q)).says

      go : (r : Header) → header_at s c ≡ r → split c.at (left c s) ≡ header_says s c r
      go header.End e = (next-none s c c (pass_none s c i) (header_at s c) refl e).says
      go header.Cut e = (next-cut s c c (pass_none s c i) (header_at s c) refl e).says
      go (header.Whole t b n) e = known t b n e (tag_of t) refl

  named-told : (words : ℕ) → read_named (replicate words any) c.at (left c s) ≡ named_says s c words (named_at s c words)
  named-told words = go (named_at s c words) refl
    where
      go : (r : std.Option Named) → named_at s c words ≡ r → read_named (replicate words any) c.at (left c s) ≡ named_says s c words r
      go None e = named-cut s c words i (replicate words any) (length-replicate words any) (named_at s c words) refl e
      go (Some f) e = named-any s c words i (named_at s c words) refl f e

  pub answered : Answered s c
  answered = record { number = number-told; text = text-told; header = header-told; named = named-told }
