-- The chunks from a cursor on, one at a time: a law for each way through the loop.
use Rattle.std.specs.Prelude.{Some, None}
use Rattle.std.specs.Prelude as std
use mathlib.Core.Path.{◌≡◌, refl, sym, ap, ap₂, subst, ◌∙◌}
use mathlib.Core.Logic.{⊎_elim}
use Prim.Native.Nat.{ℕ, ◌+◌, ◌-◌, ◌<◌, ◌≤◌}
use native.Mathlib.Omega.{arith}
use mathlib.Core.Bool.{Bool, true, false}
use mathlib.Core.Option.{Option, none, some}
use mathlib.Core.List.{List, [], ◌∷◌, ◌++◌, append-nil}
use lib.ListN.{length, take, drop}
use borrow.Author.Tests.{lt-ltb, le-ltb}
use Rattle.wire.specs.Bytes.{word_at}
use Rattle.wire.specs.Test.{if}
use Rattle.wire.specs.Cursors.{Inside, left, header_at}
use Rattle.wire.specs.declared.Cursor.{Cursor}
use Rattle.wire.specs.declared.Header.{Header}
use Rattle.wire.specs.declared.Header.TheVariants as header
use Rattle.wire.proofs.LeftLaws.{span, left-four}
use Rattle.wire.proofs.AnswerLaws.{Framed, framed, header-end, header-cut}
use Rattle.layout.specs.Rows.{most_bytes}
use Rattle.shared_output.proofs.PartLaws.{Both}
use Rattle.shared_output.specs.Writing.{head}
use Rattle.b3d_spec.specs.Tags.{code, tag_of}
use Rattle.b3d_spec.specs.declared.Tag.{Tag}
use Rattle.b3d_chunk_cursor.specs.Chunks.{tagged}
use Rattle.b3d_spec_chunk_places.specs.Places.{Body}
use Rattle.b3d_mend_spec.specs.Edits.{keep, spare_out, after}
use Rattle.b3d_mend_spec.specs.Pieces.{Pieces, none_left, spare, past, piece, pieces, chunks_of}
use Rattle.b3d_mend_spec.specs.Report.{entries, report_bytes}
use Rattle.b3d_mend_judge_items.proofs.PieceStepLaws.{head_at, at-end, at-spare, at-past, at_piece}
use Rattle.shared_put_or_count.specs.Emits.{written, RoomFrom, Emits}
use Rattle.b3d_mend_write_spec.specs.Shown.{shown}
use Rattle.shared_put_or_count.proofs.PutLaws.{Left, left-none, left-done, left-fits, left_next, left-last}
use Rattle.b3d_mend_write_scopes.specs.Shown.{ChunkShown, walked, next_scope, walk_chunks, headed, shown_pieces, walk_inside, walk_chunk}
use Rattle.b3d_mend_write_scopes.specs.declared.Scope.{Scope}
use Rattle.b3d_mend_write_leaves.specs.Answers.{Walks}
use Rattle.b3d_mend_write_leaves.specs.declared.Walk.{Walk}
use Rattle.b3d_mend_write_edits.proofs.RestLaws.{left-whole}
use Rattle.b3d_mend_write_scopes.specs.Opens.{walk_from}
use Rattle.b3d_mend_write_edits.specs.Rests.{cut_shown}
use Rattle.b3d_mend_write_scopes.specs.Heads.{body_at}
use Rattle.b3d_mend_write_scopes.specs.HeadRooms.{head_wet, HeadRoom}
use Rattle.b3d_mend_write_scopes.proofs.HeadLaws.{chunk-fits, chunk-room, chunk-done}

-- ---- by the pieces

module _ (report : Bool) (one : Scope → Tag → ℕ → List ℕ → ChunkShown) where
  abbrev by : Scope → Pieces → ChunkShown
  by k x = let y = walk_chunks one k (chunks_of x) in walked (shown_pieces report x y.bodies) y.own

  by_none : (k : Scope) → by k none_left ≡ walked [] k.own
  unfolding walk_chunks shown_pieces chunks_of
  by_none k = refl

  by-spare : (k : Scope) (p : ℕ) (s : List ℕ) → by k (spare p s) ≡ walked (shown report p (spare_out s ∷ [])) k.own
  unfolding walk_chunks shown_pieces chunks_of
  by-spare k p s = refl

  by-past : (k : Scope) (p : ℕ) (s : List ℕ) → by k (past p s) ≡ walked (shown report p (keep s ∷ [])) k.own
  unfolding walk_chunks shown_pieces chunks_of
  by-past k p s = refl

  by-other : (k : Scope) (p : ℕ) (h b : List ℕ) (x : Pieces) → by k (piece none p h b x) ≡ walked (shown report 0 (keep (h ++ b) ∷ []) ++ (by k x).bytes) (by k x).count
  unfolding walk_chunks shown_pieces chunks_of piece
  by-other k p h b x = refl

  by-known : (k : Scope) (t : Tag) (p : ℕ) (h b : List ℕ) (x : Pieces)
      → by k (piece (some t) p h b x) ≡ let y = by (next_scope k t (one k t p b).count) x in walked (headed report t (one k t p b).bytes ++ y.bytes) y.count
  unfolding walk_chunks shown_pieces chunks_of piece
  by-known k t p h b x = refl

  inside-by : (k : Scope) (p : ℕ) (s : List ℕ) → walk_inside report one k p s ≡ by k (pieces p s)
  unfolding walk_inside
  inside-by k p s = refl

-- ---- at a cursor

keep_anywhere : (report : Bool) (p : ℕ) (b : List ℕ) → shown report 0 (keep b ∷ []) ≡ shown report p (keep b ∷ [])
unfolding shown entries report_bytes
keep_anywhere true p b = refl
keep_anywhere false p b = refl

-- a header and what follows it
with_head : (s : List ℕ) (p e : ℕ) → p + 8 ≤ e → e ≤ length s → head_at s p ++ left (span (p + 8) e) s ≡ left (span p e) s
with_head s p e h w =
    sym (rw (
      left-four s (span p e) (span (p + 4) e) (record { before = omega arith; within = w }) (omega arith) refl refl,
      left-four s (span (p + 4) e) (span (p + 8) e) (record { before = omega arith; within = w }) (omega arith) (omega arith) refl,
    ))

no-tag : (x : Option Tag) → None ≡ tagged x → x ≡ none
no-tag none e = refl
no-tag (some t) e = let z : ◌≡◌ {A = ℕ} 0 1 = cc in absurd (omega arith)

one_tag : (x : Option Tag) (t : Tag) → Some t ≡ tagged x → x ≡ some t
one_tag none t e = let z : ◌≡◌ {A = ℕ} 0 1 = cc in absurd (omega arith)
one_tag (some u) t e = cc

module _ (report : Bool) (l : ℕ) (k : Scope) (s : List ℕ) (c : Cursor) (i : Inside c (length s)) where
  found : (x : Pieces) → pieces c.at (left c s) ≡ x → walk_from report l k s c ≡ by report (walk_chunk report l) k x
  unfolding walk_from
  found x e = inside-by report (walk_chunk report l) k c.at (left c s) ∙ ap (by report (walk_chunk report l) k) e

  at_none : c.end ≤ c.at → walk_from report l k s c ≡ walked [] k.own
  at_none h = found none_left (at-end s c i h) ∙ by_none report (walk_chunk report l) k

  at_cut : header_at s c ≡ header.Cut → walk_from report l k s c ≡ walked (cut_shown report s c) k.own
  unfolding cut_shown if
  at_cut e =
      let z = header-cut s c e in
      ⊎_elim
      (λ h. found (spare c.at (left c s)) (at-spare s c i z.0 h) ∙ by-spare report (walk_chunk report l) k c.at (left c s)
      ∙ ap (λ (b : Bool). walked (if b (shown report c.at (spare_out (left c s) ∷ [])) (shown report c.at (keep (left c s) ∷ []))) k.own) (sym (lt-ltb _ _ h)))
      (λ h. found (past c.at (left c s)) (at-past s c i h.0 h.1) ∙ by-past report (walk_chunk report l) k c.at (left c s)
      ∙ ap (λ (b : Bool). walked (if b (shown report c.at (spare_out (left c s) ∷ [])) (shown report c.at (keep (left c s) ∷ []))) k.own) (sym (le-ltb _ _ h.0)))
      z.1

  module _ (t : ℕ) (b n : Cursor) (f : Framed s c t b n) where
    next-at : n.at ≡ c.at + 8 + word_at s (c.at + 4)
    next-at = f.after ∙ f.size

    next-before : n.at ≤ c.end
    next-before = omega (arith, f.inside, f.after)

    first : (o : Option Tag) → tag_of t ≡ o → walk_from report l k s c ≡ by report (walk_chunk report l) k (piece o c.at (head_at s c.at) (left (span (c.at + 8) n.at) s) (pieces n.at (left n s)))
    first o e =
        found (piece o c.at (head_at s c.at) (left (span (c.at + 8) n.at) s) (pieces n.at (left n s)))
        (at_piece s c i n.at next-at next-before
        ∙ ap₂ (λ (x : Option Tag) (y : ℕ). piece x c.at (head_at s c.at) (left (span (c.at + 8) n.at) s) (pieces n.at (left (span n.at y) s))) (ap tag_of (sym f.tag) ∙ e) (sym f.same))

    rest : (h : Scope) → by report (walk_chunk report l) h (pieces n.at (left n s)) ≡ walk_from report l h s n
    unfolding walk_from
    rest h = sym (inside-by report (walk_chunk report l) h n.at (left n s))

    stands : head_at s c.at ++ left (span (c.at + 8) n.at) s ≡ take (n.at - c.at) (drop c.at s)
    stands =
        with_head s c.at n.at (omega (arith, next-at)) (omega (arith, next-before, i.within))
        ∙ left-whole s (span c.at n.at) (record { before = omega (arith, next-at); within = omega (arith, next-before, i.within) })

    at_other : tag_of t ≡ none → walk_from report l k s c ≡ walked (shown report c.at (keep (take (n.at - c.at) (drop c.at s)) ∷ []) ++ (walk_from report l k s n).bytes) (walk_from report l k s n).count
    at_other e =
        first none e ∙ by-other report (walk_chunk report l) k c.at (head_at s c.at) (left (span (c.at + 8) n.at) s) (pieces n.at (left n s))
        ∙ ap₂ (λ (x : List ℕ) (y : ChunkShown). walked (x ++ y.bytes) y.count) (ap (λ (x : List ℕ). shown report 0 (keep x ∷ [])) stands ∙ keep_anywhere report c.at (take (n.at - c.at) (drop c.at s))) (rest k)

    body-left : left (span (c.at + 8) n.at) s ≡ left b s
    body-left = ap₂ (λ (x y : ℕ). left (span x y) s) (sym f.body) f.after

    at-known : (u : Tag) → tag_of t ≡ some u
        → walk_from report l k s c ≡ let w = walk_chunk report l k u c.at (left b s) in let y = walk_from report l (next_scope k u w.count) s n in walked (headed report u w.bytes ++ y.bytes) y.count
    at-known u e =
        first (some u) e ∙ by-known report (walk_chunk report l) k u c.at (head_at s c.at) (left (span (c.at + 8) n.at) s) (pieces n.at (left n s))
        ∙ ap (λ (x : List ℕ). let w = walk_chunk report l k u c.at x in let y = by report (walk_chunk report l) (next_scope k u w.count) (pieces n.at (left n s)) in walked (headed report u w.bytes ++ y.bytes) y.count) body-left
        ∙ ap (λ (y : ChunkShown). walked (headed report u (walk_chunk report l k u c.at (left b s)).bytes ++ y.bytes) y.count) (rest (next_scope k u (walk_chunk report l k u c.at (left b s)).count))

-- ---- the loop

-- a walk ends behind where it began
pub walked-order : {wet : Bool} {w : ChunkShown} {xs ys : List ℕ} {at : ℕ} {r : Walk} → Walks wet w xs at ys r → at ≤ r.at
walked-order g = omega (arith, g.put.to)

-- the chunks from a cursor on are left to be put
pub record Going (s : List ℕ) (l : ℕ) (from : Cursor) (scope : Scope) (report wet : Bool) (xs : List ℕ) (start : ℕ) (ys : List ℕ) (c : Cursor) (k : Scope) (at : ℕ) : Type 0 where
  pub inside : Inside c (length s)
  pub rest : Left wet (walk_from report l scope s from).bytes xs start ys at (walk_from report l k s c).bytes
  pub counted : (walk_from report l scope s from).count ≡ (walk_from report l k s c).count

module _ (s : List ℕ) (l : ℕ) (from : Cursor) (scope : Scope) (report wet : Bool) (xs : List ℕ) (start : ℕ) where
  pub going_start : Inside from (length s) → RoomFrom wet (walk_from report l scope s from).bytes start xs → Going s l from scope report wet xs start xs from scope start
  going_start i f = record { inside = i; rest = left-none wet (walk_from report l scope s from).bytes xs start f; counted = refl }

  module _ (ys : List ℕ) (c : Cursor) (k : Scope) (at : ℕ) (g : Going s l from scope report wet xs start ys c k at) (r : Header) (e : r ≡ header_at s c) where
    abbrev All : List ℕ
    All = (walk_from report l scope s from).bytes

    pub going_inside : Inside c (length s)
    going_inside = g.inside

    pub going_end : r ≡ header.End → Walks wet (walk_from report l scope s from) xs start ys (record { at = at; count = k.own })
    going_end w =
        let n = at_none report l k s c g.inside (header-end s c (sym e ∙ w)) in
        record {
          put = left-done wet All xs start ys at (walk_from report l k s c).bytes g.rest (ap (λ (x : ChunkShown). x.bytes) n);
          counted = sym (g.counted ∙ ap (λ (x : ChunkShown). x.count) n);
        }

    module _ (w : r ≡ header.Cut) where
      cut : walk_from report l k s c ≡ walked (cut_shown report s c) k.own
      cut = at_cut report l k s c g.inside (sym e ∙ w)

      cut_both : Both (walk_from report l k s c).bytes (cut_shown report s c) []
      cut_both = record { is = ap (λ (x : ChunkShown). x.bytes) cut ∙ sym (append-nil (cut_shown report s c)) }

      pub cut_fits : RoomFrom wet (cut_shown report s c) at ys
      cut_fits = left-fits wet All xs start ys at (walk_from report l k s c).bytes g.rest (cut_shown report s c) [] cut_both

      pub cut_done : (zs : List ℕ) (n : ℕ) → Emits wet (cut_shown report s c) ys at zs n → Walks wet (walk_from report l scope s from) xs start zs (record { at = n; count = k.own })
      cut_done zs n h = record {
        put = left-last wet All xs start ys at (walk_from report l k s c).bytes g.rest (cut_shown report s c) [] cut_both refl zs n h;
        counted = sym (g.counted ∙ ap (λ (x : ChunkShown). x.count) cut);
      }

    module _ (t : ℕ) (b n : Cursor) (w : r ≡ header.Whole t b n) where
      frame : Framed s c t b n
      frame = framed s c t b n (sym e ∙ w)

      pub whole_order : c.at ≤ n.at
      whole_order = omega (arith, next-at report l k s c g.inside t b n frame)

      pub whole_room : c.at + (n.at - c.at) ≤ length s
      whole_room = omega (arith, whole_order, next-before report l k s c g.inside t b n frame, g.inside.within)

      pub whole_less : n.end - n.at < c.end - c.at
      whole_less = omega (arith, next-at report l k s c g.inside t b n frame, next-before report l k s c g.inside t b n frame, frame.same)

      next-inside : Inside n (length s)
      next-inside = record { before = omega (arith, next-before report l k s c g.inside t b n frame, frame.same); within = omega (arith, frame.same, g.inside.within) }

      pub whole_body : length s ≤ most_bytes → Body c.at b (length s)
      whole_body h = record { head = frame.body; room = frame.room; within = omega (arith, frame.inside, g.inside.within); small = h }

      module _ (o : std.Option Tag) (eo : o ≡ tagged (tag_of t)) where
        module _ (q : o ≡ None) where
          away : walk_from report l k s c ≡ walked (shown report c.at (keep (take (n.at - c.at) (drop c.at s)) ∷ []) ++ (walk_from report l k s n).bytes) (walk_from report l k s n).count
          away = at_other report l k s c g.inside t b n frame (no-tag (tag_of t) (sym q ∙ eo))

          away_both : Both (walk_from report l k s c).bytes (shown report c.at (keep (take (n.at - c.at) (drop c.at s)) ∷ [])) (walk_from report l k s n).bytes
          away_both = record { is = ap (λ (x : ChunkShown). x.bytes) away }

          pub other_fits : RoomFrom wet (shown report c.at (keep (take (n.at - c.at) (drop c.at s)) ∷ [])) at ys
          other_fits = left-fits wet All xs start ys at _ g.rest _ _ away_both

          pub other_next : (zs : List ℕ) (m : ℕ) → Emits wet (shown report c.at (keep (take (n.at - c.at) (drop c.at s)) ∷ [])) ys at zs m → Going s l from scope report wet xs start zs n k m
          other_next zs m h = record {
            inside = next-inside;
            rest = left_next wet All xs start ys at _ g.rest _ _ away_both zs m h;
            counted = g.counted ∙ ap (λ (x : ChunkShown). x.count) away;
          }

        module _ (u : Tag) (q : o ≡ Some u) where
          abbrev one : ChunkShown
          one = walk_chunk report l k u c.at (left b s)

          here : walk_from report l k s c ≡ let y = walk_from report l (next_scope k u one.count) s n in walked (headed report u one.bytes ++ y.bytes) y.count
          here = at-known report l k s c g.inside t b n frame u (one_tag (tag_of t) u (sym q ∙ eo))

          here_both : Both (walk_from report l k s c).bytes (headed report u one.bytes) (walk_from report l (next_scope k u one.count) s n).bytes
          here_both = record { is = ap (λ (x : ChunkShown). x.bytes) here }

          known_fits : RoomFrom wet (headed report u one.bytes) at ys
          known_fits = left-fits wet All xs start ys at _ g.rest _ _ here_both

          pub known_small : at < 4294967296
          known_small = omega (arith, known_fits.small)

          -- its body, and then its header before it
          module _ (m : ℕ) (em : m ≡ body_at report at) where
            pub known_body : RoomFrom wet (walk_chunk report l k u c.at (left b s)).bytes m ys
            known_body = subst (λ (i : ℕ). RoomFrom wet one.bytes i ys) (sym em) (chunk-fits report wet u one.bytes ys at known_fits)

            module _ (zs : List ℕ) (a : Walk) (x : Walks wet (walk_chunk report l k u c.at (left b s)) ys m zs a) where
              put : Emits wet one.bytes ys (body_at report at) zs a.at
              put = subst (λ (i : ℕ). Emits wet one.bytes ys i zs a.at) em x.put

              size : a.at - m ≡ a.at - body_at report at
              size = ap (λ (i : ℕ). a.at - i) em

              pub known_head : HeadRoom report wet at (a.at - m) zs
              known_head = chunk-room report wet u one.bytes ys at known_fits zs a.at put (a.at - m) size

              pub known_next : (vs : List ℕ) → vs ≡ written (head_wet report wet) (head (code u) (a.at - m) []) at zs → (h : Scope) → h ≡ next_scope k u a.count → Going s l from scope report wet xs start vs n h a.at
              known_next vs ev h eh =
                  let z : h ≡ next_scope k u one.count = eh ∙ ap (next_scope k u) x.counted in
                  let done = chunk-done report wet u one.bytes ys at known_fits zs a.at put (a.at - m) size vs ev in
                  record {
                    inside = next-inside;
                    rest = subst (λ (v : Scope). Left wet All xs start vs a.at (walk_from report l v s n).bytes) (sym z) (left_next wet All xs start ys at _ g.rest _ _ here_both vs a.at done);
                    counted = g.counted ∙ ap (λ (y : ChunkShown). y.count) here ∙ ap (λ (v : Scope). (walk_from report l v s n).count) (sym z);
                  }
