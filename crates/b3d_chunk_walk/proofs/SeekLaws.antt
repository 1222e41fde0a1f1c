-- The loop of `seek`, and what its answer says.
use Rattle.std.specs.Prelude.{Some, None}
use Rattle.std.specs.Prelude as std
use Rattle.b3d_chunk_walk.specs.declared.Sought.{Sought}
use mathlib.Core.Path.{◌≡◌, refl, ap, sym, subst, ◌∙◌}
use Prim.Native.Nat.{ℕ, ◌-◌, ◌<◌, ◌≤◌}
use native.Mathlib.Omega.{arith}
use mathlib.Core.Bool.{Bool, true, false, not}
use mathlib.Core.List.{List}
use lib.ListN.{length}
use lib.Dec.{T, eqb→eq}
use borrow.Author.Tests.{eq-eqb}
use Rattle.wire.specs.Cursors.{Inside, left}
use Rattle.wire.specs.declared.Cursor.{Cursor}
use Rattle.layout.specs.Chunks.{done, stop, chunk}
use Rattle.layout.proofs.ResultLaws.{if_yes, if_no, by_test}
use Rattle.b3d_spec.specs.declared.Tag.{Tag}
use Rattle.b3d_spec.specs.Tags.{Chunks, code, is}
use Rattle.b3d_spec.proofs.Files.EntryLaws.{same_tag}
use Rattle.b3d_chunk_cursor.specs.Chunks.{Among, NextIs}
use Rattle.b3d_chunk_cursor.specs.declared.Next.{Next}
use Rattle.b3d_chunk_cursor.specs.declared.Next.TheVariants as next
use Rattle.b3d_chunk_cursor.proofs.NextLaws.{chunk-is, chunk-among, cut-is, done-is}
use Rattle.b3d_chunk_walk.specs.Seeks.{seek_of, ahead, Seeks}

-- from c on the same is found as from `from` on
pub record SeekLeft (s : List ℕ) (from : Cursor) (k : Tag) (c : Cursor) : Type 0 where
  pub inside : Inside c (length s)
  pub onward : from.at ≤ c.at
  pub same_end : c.end ≡ from.end
  pub same : seek_of k (ahead s from) ≡ seek_of k (ahead s c)

module _ (s : List ℕ) (from : Cursor) (k : Tag) where
  pub seek_start : Inside from (length s) → SeekLeft s from k from
  seek_start i = record { inside = i; onward = omega arith; same_end = refl; same = refl }

  module _ (c : Cursor) (v : SeekLeft s from k c) where
    pub seek_inside : Inside c (length s)
    seek_inside = v.inside

    module _ (r : Next) (x : NextIs s c r) where
      pub seek_done : r ≡ next.Done → Seeks s from k None
      unfolding seek_of
      seek_done w = record { says = v.same ∙ ap (seek_of k) (done-is s c r x w); among = tt }

      pub seek_cut : (p : ℕ) → r ≡ next.Cut p → Seeks s from k None
      unfolding seek_of
      seek_cut p w = record { says = v.same ∙ ap (seek_of k) (cut-is s c r x p w); among = tt }

      module _ (t : Tag) (p : ℕ) (b n : Cursor) (w : r ≡ next.Chunk t p b n) (ok : Bool) (eo : ok ≡ is t k) where
        pub seek_found : ok ≡ true → Seeks s from k (Some (record { at = p; body = b; next = n }))
        unfolding seek_of
        seek_found z =
            let f = chunk-among s c r x t p b n w in
            record {
              says = v.same ∙ ap (seek_of k) (chunk-is s c r x t p b n w) ∙ if_yes (is t k) _ _ (subst T (sym z ∙ eo) tt);
              among = record { from = omega (arith, f.from, v.onward); body = f.body; room = f.room; after = f.after; to = f.to; same = f.same ∙ v.same_end };
            }

        pub seek_on : ok ≡ false → SeekLeft s from k n
        unfolding seek_of
        seek_on z =
            let f = chunk-among s c r x t p b n w in
            let i = v.inside in
            record {
              inside = record { before = f.to; within = omega (arith, f.same, i.within) };
              onward = omega (arith, f.from, f.body, f.room, f.after, v.onward);
              same_end = f.same ∙ v.same_end;
              same = v.same ∙ ap (seek_of k) (chunk-is s c r x t p b n w) ∙ if_no (is t k) _ _ (subst (λ (y : Bool). T (not y)) (sym z ∙ eo) tt);
            }

        pub seek_less : n.end - n.at < c.end - c.at
        seek_less = let f = chunk-among s c r x t p b n w in omega arith

pub ruleset seek_laws = (seek_start, seek_inside, seek_done, seek_cut, seek_found, seek_on, seek_less)

-- ---- what an answer says to those who asked

module _ (s : List ℕ) (c : Cursor) (k : Tag) (r : std.Option Sought) (x : Seeks s c k r) where
  pub sought_none : r ≡ None → seek_of k (ahead s c) ≡ done
  sought_none w = (subst (Seeks s c k) w x).says

  module _ (g : Sought) (w : r ≡ Some g) where
    pub sought_is : seek_of k (ahead s c) ≡ chunk k g.at (left g.body s) (ahead s g.next)
    sought_is = (subst (Seeks s c k) w x).says

    pub sought_among : Among c g.at g.body g.next
    sought_among = (subst (Seeks s c k) w x).among

    module _ (l : ℕ) (i : Inside c l) where
      pub sought_body : Inside g.body l
      sought_body = let f = sought_among in omega arith

      pub sought_next : Inside g.next l
      sought_next = let f = sought_among in omega arith

    pub sought_less : g.next.end - g.next.at < c.end - c.at
    sought_less = let f = sought_among in omega arith

-- ---- what goes by the chunks of one tag alone

one_tag : (t k : Tag) → T (is t k) → t ≡ k
one_tag t k y = same_tag t k (eq-eqb (code t) (code k) (eqb→eq (code t) (code k) y))

pub by_seek : {A : Type 0} (k : Tag) (f : Chunks → A) → ((n p : ℕ) → f (stop n p) ≡ f done)
    → ((t : Tag) (p : ℕ) (b : List ℕ) (r : Chunks) → T (not (is t k)) → f (chunk t p b r) ≡ f r)
    → (cs : Chunks) → f cs ≡ f (seek_of k cs)
unfolding seek_of
by_seek k f ends other done = refl
by_seek k f ends other (stop n p) = ends n p
by_seek k f ends other (chunk t p b r) =
    by_test (is t k)
    (λ y. ap (λ (x : Tag). f (chunk x p b r)) (one_tag t k y) ∙ ap f (sym (if_yes (is t k) (chunk k p b r) (seek_of k r) y)))
    (λ y. other t p b r y ∙ by_seek k f ends other r ∙ ap f (sym (if_no (is t k) (chunk k p b r) (seek_of k r) y)))
