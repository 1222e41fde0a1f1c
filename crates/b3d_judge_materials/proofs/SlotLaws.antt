-- A BRUS: what the answers say of `read_brushes`.
use Rattle.layout.specs.Refused.{refusal_at}
use Rattle.std.specs.Prelude.{Ok, Err, Some, None}
use Rattle.std.specs.Prelude as std
use Rattle.layout.specs.declared.Refusal.{Refusal}
use Prim.Native.Nat.{ℕ, zero, suc, ◌≤◌, ◌<◌, ◌+◌, ◌-◌, ◌*◌}
use native.Mathlib.Omega.{arith}
use native.Mathlib.Nat.{mul-le-mul_left}
use mathlib.Core.Path.{◌≡◌, refl, sym, ap, subst, ◌∙◌}
use mathlib.Core.List.{List, [], ◌∷◌}
use lib.ListN.{length}
use borrow.Author.Tests.{lt-leb, le-leb}
use Rattle.wire.specs.Bytes.{word_at}
use Rattle.wire.specs.Cursors.{Inside, left, number_at}
use Rattle.wire.specs.declared.Cursor.{Cursor}
use Rattle.wire.proofs.LeftLaws.{left-length, left-four}
use Rattle.wire.proofs.AnswerLaws.{numbered, number_cut}
use Rattle.layout.specs.Result.{Result, accept, reject, check, ◌>>=◌}
use Rattle.layout.specs.Parts.{words, judged, row, items}
use Rattle.layout.specs.Rules.{Rule, holds, refusal}
use Rattle.layout.proofs.StepLaws.{row-short}
use Rattle.layout.specs.Rows.{most_bytes}
use Rattle.b3d_spec.specs.declared.Mode.{Mode}
use Rattle.b3d_spec.specs.Scene.{Brush}
use Rattle.b3d_spec.specs.Rules.{slots}
use Rattle.b3d_spec.specs.Parse.{read_brush, read_brushes, slots_of}
use Rattle.b3d_judge_tally.specs.Tally.{no_tally, brus_of, brus_tally, Within}
use Rattle.b3d_spec_chunk_places.specs.Places.{Body}
use Rattle.b3d_judge_materials.specs.Answers.{slotted, SlotsAre}
use Rattle.b3d_judge_brush_items.specs.Brushes.{counted_brushes, BrushesIn}
use Rattle.b3d_judge_tally.specs.declared.Tally.{Tally}
use Rattle.b3d_judge_tally.proofs.TallyLaws.{within_none}

-- ---- a head of one number

module _ (s : List ℕ) (c : Cursor) (i : Inside c (length s)) (rule : Rule) (r : std.Option (ℕ × Cursor)) (e : r ≡ number_at s c) where
  head_short : r ≡ None → row (rule ∷ []) c.at (left c s) ≡ reject 5 c.at
  head_short q = row-short (rule ∷ []) c.at (left c s) (omega (arith, left-length s c i, number_cut s c (sym e ∙ q)))

  head-is : (k : ℕ) (n : Cursor) → r ≡ Some (k, n)
      → row (rule ∷ []) c.at (left c s) ≡ (check (holds rule k) (refusal rule) c.at >>= λ _. accept (record { value = k ∷ []; place = n.at; left = left n s }))
  unfolding row words judged word_at
  head-is k n q = let f = numbered s c k n (sym e ∙ q) in rw (left-four s c n i f.room f.to f.same, f.is, f.to)

-- ---- answers

within_brus : (slots k n : ℕ) → 12 + k * (29 + 4 * slots) ≤ n → Within (brus_of slots k) n
unfolding brus_of
within_brus slots zero n le = within_none n
within_brus slots (suc k) n le =
    let h : 29 ≤ 29 + 4 * slots = omega arith in
    let m = mul-le-mul_left (suc k) h in
    record { rows = omega arith; copy = omega arith }

module _ (k : ℕ) where
  slots-not : (o : Result (List Brush)) (x : Refusal) → Err x ≡ counted_brushes o → Err x ≡ slotted (o >>= λ l. accept (k, l))
  slots-not (accept l) x e = let z : ◌≡◌ {A = ℕ} 0 1 = cc in absurd (omega arith)
  slots-not (reject n q) x e = cc

  -- without a brushOf there are no slots
  slots-none : (o : Result (List Brush)) → Ok 0 ≡ counted_brushes o → Ok (0, no_tally) ≡ slotted (o >>= λ l. accept (k, l))
  unfolding slots_of brus_tally brus_of
  slots-none (accept []) e = refl
  slots-none (accept (b ∷ l)) e = let z : 0 ≡ suc (length l) = cc in absurd (omega arith)
  slots-none (reject n q) e = let z : ◌≡◌ {A = ℕ} 0 1 = cc in absurd (omega arith)

  slots-some : (o : Result (List Brush)) (count : ℕ) → (count ≡ 0 → ⊥) → Ok count ≡ counted_brushes o → Ok (k, brus_of k count) ≡ slotted (o >>= λ l. accept (k, l))
  unfolding slots_of brus_tally
  slots-some (accept []) count h e = let z : count ≡ 0 = cc in absurd (h z)
  slots-some (accept (b ∷ l)) count h e = let z : count ≡ suc (length l) = cc in ap (λ (i : ℕ). Ok (k, brus_of k i)) z
  slots-some (reject n q) count h e = let z : ◌≡◌ {A = ℕ} 0 1 = cc in absurd (omega arith)

module _ (mode : Mode) (textures at : ℕ) (s : List ℕ) (body : Cursor) (b : Body at body (length s)) (r : std.Option (ℕ × Cursor)) (e : r ≡ number_at s body) where
  abbrev Answer : std.Result (ℕ × Tally) Refusal → Type 0
  Answer x = SlotsAre (read_brushes mode textures at (left body s)) at body.end x

  inside : Inside body (length s)
  inside = record { before = b.room; within = b.within }

  pub head_cut : r ≡ None → Answer (Err (refusal_at 5 body.at))
  unfolding read_brushes
  head_cut q = record { is = rw (← b.head, head_short s body inside slots r e q); within = b.room }

  module _ (k : ℕ) (n : Cursor) (q : r ≡ Some (k, n)) where
    pub head_over : 8 < k → Answer (Err (refusal_at 6 body.at))
    unfolding read_brushes check
    head_over h = record { is = rw (← b.head, head-is s body inside slots r e k n q, lt-leb _ _ h); within = b.room }

    module _ (h : k ≤ 8) (m : ℕ) (y : m ≡ k) (t : std.Result ℕ Refusal) (f : t ≡ counted_brushes (items (read_brush mode m textures) n.at (left n s))) (w : BrushesIn n m t) where
      abbrev all_k : Result (List Brush)
      all_k = items (read_brush mode k textures) n.at (left n s)

      after-head : read_brushes mode textures at (left body s) ≡ (all_k >>= λ l. accept (k, l))
      unfolding read_brushes check
      after-head = rw (← b.head, head-is s body inside slots r e k n q, le-leb _ _ h)

      pub brushes-not : (x : Refusal) → t ≡ Err x → Answer (Err x)
      brushes-not x v =
          let a = numbered s body k n (sym e ∙ q) in
          let z : x.place ≤ n.end = subst (BrushesIn n m) v w in
          record { is = rw after-head (slots-not k all_k x (sym v ∙ rw y at f)); within = omega arith }

      module _ (count : ℕ) (v : t ≡ Ok count) where
        room : count * (29 + 4 * m) ≤ n.end - n.at
        room = subst (BrushesIn n m) v w

        pub brushes-few : count ≤ most_bytes
        brushes-few =
            let a = numbered s body k n (sym e ∙ q) in
            let z : 1 ≤ 29 + 4 * m = omega arith in
            omega (arith, room, mul-le-mul_left count z)

        pub no-brush : count ≡ 0 → (u : Tally) → u ≡ no_tally → Answer (Ok (0, u))
        no-brush z u g = record { is = rw (g, after-head) (slots-none k all_k (rw z at (sym v ∙ rw y at f))); within = rw g (within_none _) }

        pub some-brush : (count ≡ 0 → ⊥) → (u : Tally) → u ≡ brus_of m count → Answer (Ok (k, u))
        some-brush z u g =
            let a = numbered s body k n (sym e ∙ q) in
            record { is = rw (g, y, after-head) (slots-some k all_k count z (sym v ∙ rw y at f)); within = rw g (within_brus m count (body.end - at) (omega (arith, room))) }

pub ruleset brus = (head_cut, head_over, brushes-not, brushes-few, no-brush, some-brush)
