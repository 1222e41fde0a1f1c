-- A law for each way through `flat_next` and `enter`.
use Rattle.std.specs.Prelude.{Some, None}
use Rattle.std.specs.Prelude as std
use Rattle.b3d_chunk_cursor.specs.declared.Named.{Named}
use mathlib.Core.Path.{◌≡◌, refl, ap, sym, subst, ◌∙◌}
use Prim.Native.Nat.{ℕ, ◌+◌, ◌-◌, ◌≤◌}
use native.Mathlib.Omega.{arith}
use mathlib.Core.Bool.{Bool, true, false, not}
use mathlib.Core.List.{List}
use lib.ListN.{length, drop}
use lib.Seq.{take_all}
use lib.Dec.{T}
use Rattle.wire.specs.Cursors.{Inside, left}
use Rattle.wire.specs.declared.Cursor.{Cursor}
use Rattle.wire.proofs.LeftLaws.{span, left-length}
use Rattle.layout.specs.Chunks.{done, stop, chunk}
use Rattle.layout.specs.Result.{reject}
use Rattle.layout.specs.Parts.{named as named_of}
use Rattle.layout.proofs.StepLaws.{length-words-of}
use Rattle.b3d_spec.specs.declared.Tag.{Tag}
use Rattle.b3d_spec.specs.declared.Tag.TheVariants.{NODE}
use Rattle.b3d_spec.specs.Rules.{node_row}
use Rattle.b3d_spec.specs.Tags.{Chunks, split, is}
use Rattle.b3d_chunk_cursor.specs.Chunks.{NextIs, named_at, NamedIn}
use Rattle.b3d_chunk_cursor.specs.declared.Next.{Next}
use Rattle.b3d_chunk_cursor.specs.declared.Next.TheVariants as next
use Rattle.b3d_chunk_cursor.proofs.NamedLaws.{named-cut, named-any, named-among, row_inside, row_room}
use Rattle.b3d_chunk_cursor.proofs.NextLaws.{chunk-is, chunk-among, cut-is, done-is}
use Rattle.b3d_spec_plain_rows.specs.Flat.{rest, flat_at}
use Rattle.b3d_spec_plain_rows.specs.Rows.{node_rows, nodes_before, flat_rows, kind_of, anim_of}
use Rattle.b3d_spec_plain_rows.proofs.FlatRunLaws.{Here, Laid, rest_laid, run-done, run-stop, run_past, run_into, run_none}
use Rattle.b3d_chunk_walk.specs.Walks.{BodyAt, NodeAt, Ends, Steps}

-- a chunk that stands first
here_of : (s : List ℕ) (at : ℕ) (t : Tag) (p : ℕ) (b : List ℕ) (r : Chunks) → rest s at ≡ chunk t p b r → Here s at t p b
here_of s at t p b r e = (subst (Laid s (length s) at) e (rest_laid s at)).0

done-ends : Ends done
unfolding flat_rows node_rows nodes_before kind_of anim_of
done-ends = record { rows = λ k n. refl; nodes = λ l n. refl; before = λ e. refl; kind = refl; anim = refl }

stop-ends : (i p : ℕ) → Ends (stop i p)
unfolding flat_rows node_rows nodes_before kind_of anim_of
stop-ends i p = record { rows = λ k n. refl; nodes = λ l n. refl; before = λ e. refl; kind = refl; anim = refl }

-- ---- into a NODE

module _ (s : List ℕ) (at p : ℕ) (b : Cursor) (x : NodeAt s at p b) where
  pub node-inside : Inside b (length s)
  node-inside = record { before = x.body.room; within = x.body.within }

  pub here : Here s at x.tag p (left b s)
  here = here_of s at x.tag p (left b s) x.others x.first

  module _ (r : std.Option Named) (e : r ≡ named_at s b 10) (i : NamedIn b 10 r) where
    pub node-cut : r ≡ None → Steps s at None
    node-cut q =
        let c : named_of node_row (p + 8) (left b s) ≡ reject 5 b.at = ap (λ (k : ℕ). named_of node_row k (left b s)) (sym x.body.head) ∙ named-cut s b 10 node-inside node_row refl r e q in
        record { is = subst Ends (sym (run_none s at x.tag p (left b s) here 5 b.at x.node c)) (stop-ends 5 b.at) }

    pub node_in : (g : Named) → r ≡ Some g → Steps s at (Some (record { tag = NODE; at = p; body = b; next = g.next.at }))
    node_in g q =
        let f = named-among b 10 r i g q in
        let c = ap (λ (k : ℕ). named_of node_row k (left b s)) (sym x.body.head) ∙ named-any s b 10 node-inside r e g q in
        record {
          is = record {
            run = run_into s at x.tag p (left b s) here _ x.node c;
            size = here.size;
            node = λ y. record { step = _; is = c; name = x.body.head; ten = length-words-of 10 (left g.row s) (omega (arith, left-length s g.row (row_inside b 10 r i g q (length s) node-inside), row_room b 10 r i g q)) };
            body = x.body;
            from = x.from;
            more = omega (arith, x.from, x.body.head, f.row, f.after);
            behind = omega (arith, x.body.head, f.row, f.after);
            past = λ y. absurd y;
            to = omega (arith, x.body.within, f.to, f.same);
          };
        }

pub ruleset node_laws = (node-inside, node-cut, node_in)

-- ---- the next chunk

pub from-left : (s : List ℕ) (at : ℕ) → left (span at (length s)) s ≡ drop at s
unfolding left
from-left s at = ap (drop at) (take_all (length s) s (omega arith))

module _ (s : List ℕ) (at : ℕ) (le : at ≤ length s) (r : Next) (x : NextIs s (span at (length s)) r) where
  found : (cs : Chunks) → split at (left (span at (length s)) s) ≡ cs → rest s at ≡ cs
  unfolding rest
  found cs e = ap (split at) (sym (from-left s at)) ∙ e

  pub next-done : r ≡ next.Done → Steps s at None
  next-done w = record { is = subst Ends (sym (run-done s at (found done (done-is s (span at (length s)) r x w)))) done-ends }

  pub next-cut : (p : ℕ) → r ≡ next.Cut p → Steps s at None
  next-cut p w = record { is = subst Ends (sym (run-stop s at 3 p (found (stop 3 p) (cut-is s (span at (length s)) r x p w)))) (stop-ends 3 p) }

  module _ (t : Tag) (p : ℕ) (b n : Cursor) (w : r ≡ next.Chunk t p b n) where
    first : rest s at ≡ chunk t p (left b s) (split n.at (left n s))
    first = found _ (chunk-is s (span at (length s)) r x t p b n w)

    body : BodyAt s p b
    body = let f = chunk-among s (span at (length s)) r x t p b n w in record { head = f.body; room = f.room; within = omega arith }

    module _ (ok : Bool) (eo : ok ≡ is t NODE) where
      pub next-node : ok ≡ true → NodeAt s at p b
      next-node z =
          let f = chunk-among s (span at (length s)) r x t p b n w in
          record { tag = t; node = subst T (sym z ∙ eo) tt; from = f.from; body = body; others = _; first = first }

      pub next-other : ok ≡ false → Steps s at (Some (record { tag = t; at = p; body = b; next = n.at }))
      next-other z =
          let f = chunk-among s (span at (length s)) r x t p b n w in
          let h = here_of s at t p (left b s) _ first in
          let l = left-length s b (record { before = f.room; within = body.within }) in
          let q : p + 8 + length (left b s) ≡ n.at = omega arith in
          record {
            is = record {
              size = h.size;
              node = λ y. absurd (rw (sym eo ∙ z) at y);
              run = run_past s at t p (left b s) h (subst (λ (y : Bool). T (not y)) (sym z ∙ eo) tt) ∙ ap (λ (k : ℕ). chunk t p (left b s) (flat_at s k)) q;
              body = body;
              from = f.from;
              more = omega arith;
              behind = omega arith;
              past = λ y. omega arith;
              to = omega arith;
            };
          }

pub ruleset next_laws = (next-done, next-cut, next-node, next-other)
