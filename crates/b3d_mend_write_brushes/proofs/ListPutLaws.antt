-- What is put of brushes one after the other.
use Rattle.std.specs.Prelude.{Some, None}
use Rattle.std.specs.Prelude as std
use Rattle.b3d_chunk_cursor.specs.declared.Named.{Named}
use mathlib.Core.Path.{◌≡◌, refl, sym, ap, subst, ◌∙◌}
use Prim.Native.Nat.{ℕ, zero, suc, ◌+◌, ◌-◌, ◌*◌, ◌<◌, ◌≤◌}
use native.Mathlib.Omega.{arith}
use mathlib.Core.Bool.{Bool, true, false}
use mathlib.Core.List.{List, [], ◌∷◌, ◌++◌}
use lib.ListN.{length, take, replicate, length-append, length-replicate}
use lib.Dec.{ltb}
use Rattle.wire.specs.Test.{if}
use Rattle.wire.specs.Cursors.{Inside, left, text_at}
use Rattle.wire.specs.declared.Cursor.{Cursor}
use Rattle.wire.proofs.LeftLaws.{left-length, left-nil}
use Rattle.wire.proofs.AnswerLaws.{texted}
use Rattle.layout.specs.Result.{Result, accept, reject}
use Rattle.layout.specs.Parts.{Name, Step, words_of, named}
use Rattle.layout.specs.Rules.{Rule, any}
use Rattle.layout.specs.Write.{write_text}
use Rattle.layout.proofs.StepLaws.{named_shrinks, length-words-of}
use Rattle.shared_output.proofs.PartLaws.{Both}
use Rattle.shared_output.proofs.AppendLaws.{text-zero}
use Rattle.b3d_chunk_cursor.specs.Chunks.{named_by, named_at, NamedIn}
use Rattle.b3d_chunk_cursor.proofs.NamedLaws.{named-cut, named-any, named-among}
use Rattle.b3d_mend_spec.specs.Edits.{Edit, keep, was, before}
use Rattle.b3d_mend_spec.specs.Walks.{word_edit, word_edits, brush_of, brush_edits_in}
use Rattle.shared_put_or_count.specs.Emits.{RoomFrom, Emits}
use Rattle.b3d_mend_write_spec.specs.Shown.{shown}
use Rattle.shared_put_or_count.proofs.PutLaws.{Left, left-none, left-done, left-fits, left_next}
use Rattle.b3d_mend_write_spec.proofs.ShowsLaws.{shown-none, shown-append}
use Rattle.b3d_mend_write_items.proofs.SetPutLaws.{word-was}
use Rattle.b3d_mend_write_brushes.specs.Brushes.{BrushAt, brush_edits}
use Rattle.b3d_mend_write_brushes.specs.Lists.{brush_rules, brushes_at}

-- ---- one brush at a time, without fuel

brush-same : (rs : List Rule) (k k' : ℕ → List ℕ → List Edit) (o : Result (Step (Name × List ℕ))) → ((x : Step (Name × List ℕ)) → o ≡ accept x → k x.place x.left ≡ k' x.place x.left)
    → brush_of rs k o ≡ brush_of rs k' o
unfolding brush_of
brush-same rs k k' (accept x) h = ap (λ (l : List Edit). keep (write_text x.value.0.bytes []) ∷ (word_edits rs x.value.1 ++ l)) (h x refl)
brush-same rs k k' (reject n q) h = refl

fuel : (rs : List Rule) (f g p : ℕ) (s : List ℕ) → length s ≤ f → length s ≤ g → brush_edits_in f rs p s ≡ brush_edits_in g rs p s
unfolding brush_edits_in brush_of
fuel rs zero zero p s hf hg = refl
fuel rs zero (suc g) p [] hf hg = refl
fuel rs zero (suc g) p (c ∷ s) hf hg = absurd (omega arith)
fuel rs (suc f) zero p [] hf hg = refl
fuel rs (suc f) zero p (c ∷ s) hf hg = absurd (omega arith)
fuel rs (suc f) (suc g) p [] hf hg = refl
fuel rs (suc f) (suc g) p (c ∷ s) hf hg =
    brush-same rs (brush_edits_in f rs) (brush_edits_in g rs) (named (replicate (length rs) any) p (c ∷ s)) (λ x e.
    let n = named_shrinks (replicate (length rs) any) p (c ∷ s) x e in
    fuel rs f g x.place x.left (omega arith) (omega arith))

one-brush : (rs : List Rule) (p : ℕ) (s : List ℕ) (x : Step (Name × List ℕ)) → 0 < length s → named (replicate (length rs) any) p s ≡ accept x
    → brush_edits_in (length s) rs p s ≡ (keep (write_text x.value.0.bytes []) ∷ word_edits rs x.value.1) ++ brush_edits_in (length x.left) rs x.place x.left
unfolding brush_edits_in brush_of
one-brush rs p [] x h e = absurd (omega arith)
one-brush rs p (c ∷ s) x h e =
    let n = named_shrinks (replicate (length rs) any) p (c ∷ s) x e in
    ap (brush_of rs (brush_edits_in (length s) rs)) e
    ∙ ap (λ (l : List Edit). keep (write_text x.value.0.bytes []) ∷ (word_edits rs x.value.1 ++ l)) (fuel rs (length s) (length x.left) x.place x.left (omega arith) (omega arith))

no-brush : (rs : List Rule) (p : ℕ) (s : List ℕ) (n q : ℕ) → named (replicate (length rs) any) p s ≡ reject n q → brush_edits_in (length s) rs p s ≡ []
unfolding brush_edits_in brush_of
no-brush rs p [] n q e = refl
no-brush rs p (c ∷ s) n q e = ap (brush_of rs (brush_edits_in (length s) rs)) e

words_long : (rs : List Rule) (ws : List ℕ) → length ws ≡ length rs → length (before (word_edits rs ws)) ≡ 4 * length rs
unfolding word_edits before
words_long [] [] e = refl
words_long [] (w ∷ ws) e = absurd (omega arith)
words_long (r ∷ rs) [] e = absurd (omega arith)
words_long (r ∷ rs) (w ∷ ws) e = omega (arith, length-append (was (word_edit r w)) (before (word_edits rs ws)), word-was r w, words_long rs ws (omega arith))

rules-long : (slots textures : ℕ) → length (brush_rules slots textures) ≡ 7 + slots
rules-long slots textures = simp (length-append, length-replicate) (omega arith)

-- a row that begins with a name begins with a text
pub named-text : (s : List ℕ) (c : Cursor) (words : ℕ) (f : Named) → named_at s c words ≡ Some f → text_at s c ≡ Some (f.length, f.row)
unfolding named_at named_by if
named-text s c words f e = go (text_at s c) e
  where
    go : (t : std.Option (ℕ × Cursor)) → named_by words t ≡ Some f → t ≡ Some (f.length, f.row)
    go None h = let z : ◌≡◌ {A = ℕ} 0 1 = cc in absurd (omega arith)
    go (Some (k, v)) h = pick (ltb (v.end - v.at) (4 * words)) h
      where
        pick : (b : Bool) → ◌≡◌ {A = std.Option Named} (if b None (Some (record { length = k; row = v; next = (record { at = v.at + 4 * words; end = v.end }) }))) (Some f)
            → ◌≡◌ {A = std.Option (ℕ × Cursor)} (Some (k, v)) (Some (f.length, f.row))
        pick true q = let z : ◌≡◌ {A = ℕ} 0 1 = cc in absurd (omega arith)
        pick false q =
            let a : Named = record { length = k; row = v; next = (record { at = v.at + 4 * words; end = v.end }) } in
            let p : a ≡ f = cc in
            ap (λ (x : Named). Some (x.length, x.row)) p

-- ---- the loop

-- the brushes from a cursor on are left to be put
pub record Brushes (s : List ℕ) (slots textures : ℕ) (from : Cursor) (report wet : Bool) (xs : List ℕ) (start : ℕ) (ys : List ℕ) (c : Cursor) (at : ℕ) : Type 0 where
  pub inside : Inside c (length s)
  pub rest : Left wet (shown report from.at (brushes_at slots textures s from)) xs start ys at (shown report c.at (brushes_at slots textures s c))

module _ (s : List ℕ) (slots textures : ℕ) (from : Cursor) (report wet : Bool) (xs : List ℕ) (start : ℕ) where
  abbrev All : List ℕ
  All = shown report from.at (brushes_at slots textures s from)

  pub brushes_start : Inside from (length s) → RoomFrom wet All start xs → Brushes s slots textures from report wet xs start xs from start
  brushes_start i f = record { inside = i; rest = left-none wet All xs start f }

  module _ (ys : List ℕ) (c : Cursor) (at : ℕ) (g : Brushes s slots textures from report wet xs start ys c at) where
    none : brushes_at slots textures s c ≡ [] → Emits wet All xs start ys at
    none e = left-done wet All xs start ys at (shown report c.at (brushes_at slots textures s c)) g.rest (ap (shown report c.at) e ∙ shown-none report c.at)

    pub brushes_done : c.end ≤ c.at → Emits wet All xs start ys at
    unfolding brushes_at brush_edits_in
    brushes_done h = none (rw (left-nil s c h))

    module _ (h : c.at < c.end) (few : slots ≤ 8) (r : std.Option Named) (e : r ≡ named_at s c (7 + slots)) where
      pub brushes_cut : r ≡ None → Emits wet All xs start ys at
      unfolding brushes_at
      brushes_cut w =
          none (no-brush (brush_rules slots textures) c.at (left c s) 5 c.at (named-cut s c (7 + slots) g.inside (replicate (length (brush_rules slots textures)) any) (length-replicate (length (brush_rules slots textures)) any ∙ rules-long slots textures) r e w))

      module _ (b : NamedIn c (7 + slots) r) (d : Named) (q : r ≡ Some d) where
        pub brush_at : BrushAt s c d.row slots
        brush_at =
            let f = named-among c (7 + slots) r b d q in
            let t = texted s c d.length d.row (named-text s c (7 + slots) d (sym e ∙ q)) in
            let k : d.length ≡ d.row.at - (c.at + 1) = omega (arith, f.row) in
            record {
              inside = g.inside;
              before = omega (arith, f.row);
              same = f.row_same;
              room = omega (arith, f.after, f.to, f.same, f.row_same);
              few = few;
              text = subst (λ (i : ℕ). left c s ≡ take i (left c s) ++ 0 ∷ left d.row s) k t.is;
              long = subst (λ (i : ℕ). length (take i (left c s)) ≡ i) k t.long;
            }

        pub brush_next_inside : Inside d.next (length s)
        brush_next_inside = let f = named-among c (7 + slots) r b d q in record { before = f.to; within = omega (arith, g.inside.within, f.same) }

        pub brush_less : d.next.end - d.next.at < c.end - c.at
        brush_less = let f = named-among c (7 + slots) r b d q in omega (arith, f.row, f.after, f.to, f.same)

        step : brushes_at slots textures s c ≡ brush_edits slots textures c d.row s ++ brushes_at slots textures s d.next
        unfolding brushes_at brush_edits
        step =
            let f = named-among c (7 + slots) r b d q in
            let k : d.length ≡ d.row.at - (c.at + 1) = omega (arith, f.row) in
            let l = left-length s c g.inside in
            one-brush (brush_rules slots textures) c.at (left c s) (record { value = (record { place = c.at; bytes = take d.length (left c s) }, words_of (7 + slots) (left d.row s)); place = d.next.at; left = left d.next s }) (omega arith)
            (ap (λ (i : ℕ). named (replicate i any) c.at (left c s)) (rules-long slots textures) ∙ named-any s c (7 + slots) g.inside r e d q)
            ∙ ap (λ (i : ℕ). (keep (write_text (take i (left c s)) []) ∷ word_edits (brush_rules slots textures) (words_of (7 + slots) (left d.row s))) ++ brush_edits_in (length (left d.next s)) (brush_rules slots textures) d.next.at (left d.next s)) k

        size : c.at + length (before (brush_edits slots textures c d.row s)) ≡ d.next.at
        unfolding brush_edits before was
        size =
            let f = named-among c (7 + slots) r b d q in
            let a = brush_at in
            let i : Inside d.row (length s) = record { before = omega (arith, a.room); within = omega (arith, g.inside.within, f.row_same) } in
            let u = length-append (write_text (take (d.row.at - (c.at + 1)) (left c s)) []) (before (word_edits (brush_rules slots textures) (words_of (7 + slots) (left d.row s)))) in
            let t = ap length (text-zero (take (d.row.at - (c.at + 1)) (left c s))) in
            let z = length-append (take (d.row.at - (c.at + 1)) (left c s)) (0 ∷ []) in
            let v = words_long (brush_rules slots textures) (words_of (7 + slots) (left d.row s)) (length-words-of (7 + slots) (left d.row s) (omega (arith, left-length s d.row i, a.room)) ∙ sym (rules-long slots textures)) in
            let y = rules-long slots textures in
            omega (arith, a.long, a.before, f.after)

        two : Both (shown report c.at (brushes_at slots textures s c)) (shown report c.at (brush_edits slots textures c d.row s)) (shown report d.next.at (brushes_at slots textures s d.next))
        two = record {
          is =
              ap (shown report c.at) step ∙ (shown-append report c.at (brush_edits slots textures c d.row s) (brushes_at slots textures s d.next)).is
              ∙ ap (λ (k : ℕ). shown report c.at (brush_edits slots textures c d.row s) ++ shown report k (brushes_at slots textures s d.next)) size;
        }

        pub brush-fits : RoomFrom wet (shown report c.at (brush_edits slots textures c d.row s)) at ys
        brush-fits = left-fits wet All xs start ys at _ g.rest (shown report c.at (brush_edits slots textures c d.row s)) _ two

        pub brushes_next : (zs : List ℕ) (m : ℕ) → Emits wet (shown report c.at (brush_edits slots textures c d.row s)) ys at zs m → Brushes s slots textures from report wet xs start zs d.next m
        brushes_next zs m x = record { inside = brush_next_inside; rest = left_next wet All xs start ys at _ g.rest (shown report c.at (brush_edits slots textures c d.row s)) _ two zs m x }

pub ruleset brushes_laws = (brushes_start, brushes_done, brushes_cut, brush_at, brush_next_inside, brush_less, brush-fits, brushes_next)
