-- The textures of a TEXS: what the loop of `judge_textures` has passed, and what its answers say of `read_textures`.
use Rattle.layout.specs.Refused.{refusal_at}
use Rattle.std.specs.Prelude.{Ok, Err, Some, None}
use Rattle.std.specs.Prelude as std
use Rattle.layout.specs.declared.Refusal.{Refusal}
use Rattle.b3d_chunk_cursor.specs.declared.Named.{Named}
use Prim.Native.Nat.{ℕ, zero, suc, ◌≤◌, ◌<◌, ◌+◌, ◌-◌, ◌*◌}
use native.Mathlib.Omega.{arith}
use mathlib.Core.Path.{◌≡◌, refl, ap}
use mathlib.Core.List.{List}
use lib.ListN.{length}
use Rattle.wire.specs.Cursors.{left}
use Rattle.wire.specs.declared.Cursor.{Cursor}
use Rattle.layout.specs.Result.{Result, accept, reject}
use Rattle.layout.specs.Parts.{words_of, items}
use Rattle.layout.proofs.StepLaws.{judged-any}
use Rattle.b3d_spec.specs.Scene.{Texture}
use Rattle.b3d_spec.specs.Rules.{texture_row}
use Rattle.b3d_spec.specs.Parse.{read_texture, read_textures, texture_of}
use Rattle.b3d_chunk_cursor.specs.Chunks.{named_at, NamedIn}
use Rattle.b3d_judge_tally.specs.Tally.{texs_of, texs_tally, Within}
use Rattle.b3d_spec_chunk_places.specs.Places.{Body}
use Rattle.b3d_judge_tally.specs.Answers.{judged, Judges}
use Rattle.b3d_judge_tally.specs.declared.Tally.{Tally}
use Rattle.b3d_judge_tally.proofs.TallyLaws.{within_none}
use Rattle.b3d_judge_brush_items.proofs.CountLaws.{counted_from, Counting, count_none, count_done, count_cut, count_one}

-- ---- answers

within_texs : (k n : ℕ) → 8 + k * 29 ≤ n → Within (texs_of k) n
unfolding texs_of
within_texs zero n le = within_none n
within_texs (suc k) n le = record { rows = omega arith; copy = omega arith }

texs_good : (o : Result (List Texture)) (k : ℕ) → counted_from 0 o ≡ Ok k → Ok (texs_of k) ≡ judged texs_tally o
unfolding texs_tally
texs_good (accept l) k e =
    let z : 0 + length l ≡ k = cc in
    let q : k ≡ length l = omega arith in
    ap (λ (i : ℕ). Ok (texs_of i)) q
texs_good (reject n p) k e = let z : ◌≡◌ {A = ℕ} 0 1 = cc in absurd (omega arith)

texs_bad : (o : Result (List Texture)) (n : Refusal) → counted_from 0 o ≡ Err n → Err n ≡ judged texs_tally o
texs_bad (accept l) n e = let z : ◌≡◌ {A = ℕ} 0 1 = cc in absurd (omega arith)
texs_bad (reject m q) n e = cc

-- ---- the loop

-- so many textures have been passed, each the zero of a text and seven words at least
abbrev pub Textures : List ℕ → Cursor → Cursor → ℕ → Type 0
Textures s from c count = Counting read_texture 29 s from c count

module _ (s : List ℕ) (at : ℕ) (body : Cursor) (b : Body at body (length s)) where
  abbrev Answer : std.Result Tally Refusal → Type 0
  Answer r = Judges texs_tally (read_textures at (left body s)) at body.end r

  pub textures-none : Textures s body body 0
  textures-none = count_none read_texture 29 s body (record { before = b.room; within = b.within })

  module _ (c : Cursor) (count : ℕ) (k : Textures s body c count) where
    pub textures-done : c.end ≤ c.at → (t : Tally) → t ≡ texs_of count → Answer (Ok t)
    unfolding read_textures read_texture
    textures-done h t e = record {
      is = rw (e, ← b.head) (texs_good (items read_texture body.at (left body s)) count (count_done texture_of texture_row k h));
      within = rw e (within_texs count (body.end - at) (omega arith));
    }

    module _ (h : c.at < c.end) (r : std.Option Named) (e : r ≡ named_at s c 7) where
      pub textures-cut : r ≡ None → Answer (Err (refusal_at 5 c.at))
      unfolding read_textures read_texture
      textures-cut q = record {
        is = rw (← b.head) (texs_bad (items read_texture body.at (left body s)) (refusal_at 5 c.at) (count_cut texture_of texture_row k h refl e q));
        within = omega arith;
      }

      pub textures-one : (f : Named) → r ≡ Some f → NamedIn c 7 r → Textures s body f.next (count + 1)
      unfolding read_texture
      textures-one f q i = count_one texture_of texture_row k h refl e q i refl (judged-any 7 f.row.at (words_of 7 (left f.row s)))

pub ruleset textures = (textures-none, textures-done, textures-cut, textures-one)
