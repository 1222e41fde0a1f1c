-- Chunks one after the other inside a chunk: where a loop over them has come to, with the tally of those before, and what one more adds.
use Rattle.std.specs.Prelude.{Ok, Err, Some}
use Rattle.std.specs.Prelude as std
use Rattle.layout.specs.declared.Refusal.{Refusal}
use Rattle.b3d_chunk_next_allowed.specs.declared.Enclosed.{Enclosed}
use mathlib.Core.Path.{◌≡◌, refl, sym, subst, ◌∙◌}
use Prim.Native.Nat.{ℕ, ◌≤◌, ◌<◌, ◌-◌}
use native.Mathlib.Omega.{arith}
use mathlib.Core.List.{List}
use lib.ListN.{length}
use Rattle.wire.specs.Cursors.{Inside}
use Rattle.wire.specs.declared.Cursor.{Cursor}
use Rattle.layout.specs.Result.{Result, accept, reject}
use Rattle.layout.specs.Rows.{most_bytes}
use Rattle.b3d_spec.specs.declared.Tag.{Tag}
use Rattle.b3d_rule_nesting_order.specs.declared.Reached.{Reached as State}
use Rattle.b3d_chunk_next_allowed.specs.Steps.{EnclosedIs}
use Rattle.b3d_chunk_next_allowed.proofs.InsideLaws.{step-among}
use Rattle.b3d_spec_chunk_places.specs.Places.{Body, Among}
use Rattle.b3d_chunk_next_allowed.proofs.RestLaws.{step-body}
use Rattle.b3d_judge_tally.specs.Tally.{no_tally, plus, Within}
use Rattle.b3d_judge_tally.specs.Answers.{judged, JudgedIn, Judges, judged_from}
use Rattle.b3d_judge_tally.specs.declared.Tally.{Tally}
use Rattle.b3d_judge_tally.proofs.TallyLaws.{within_none, within_more, within-plus}
use Rattle.b3d_judge_tally.proofs.ChainLaws.{judged-end}

-- at c, from `from` on, inside a chunk whose header is at `at`, with the tally m of the chunks before
pub record Going (s : List ℕ) (at : ℕ) (from c : Cursor) (m : Tally) : Type 0 where
  pub among : Among at c (length s)
  pub from_at : from.at ≤ c.at
  pub same : c.end ≡ from.end
  pub within : Within m (c.at - from.at)

-- one more chunk leaves less
pub going_less : (s : List ℕ) (at : ℕ) (c : Cursor) (k : Tag) (q : State) (r : std.Result (std.Option Enclosed) Refusal) → EnclosedIs s k at q c r
    → (g : Enclosed) → r ≡ Ok (Some g) → g.next.end - g.next.at < c.end - c.at
going_less s at c k q r x g w = let f = step-among s k at q c r x g w in omega arith

pub going_start : (s : List ℕ) (at : ℕ) (from : Cursor) (m : Tally) → Among at from (length s) → m ≡ no_tally → Going s at from from m
going_start s at from m g e = record { among = g; from_at = omega arith; same = refl; within = rw e (within_none (from.at - from.at)) }

module _ (s : List ℕ) (at : ℕ) (from c : Cursor) (m : Tally) (g : Going s at from c m) where
  pub going_inside : Inside c (length s)
  going_inside = record { before = g.among.room; within = g.among.within }

  pub going-head : at ≤ c.at
  going-head = omega (arith, g.among.head)

  pub going-small : Within m most_bytes
  going-small = within_more (c.at - from.at) most_bytes g.within (omega (arith, g.among.room, g.among.within, g.among.small))

  -- the answer where the chunks that are left are refused, or there are none: `whole` is what all of them make, `rest` what those that are left do
  module _ {A : Type 0} (tally : A → Tally) (whole rest : Result A) (so_far : judged tally whole ≡ judged_from m tally rest) where
    pub going-refused : (e : Refusal) → rest ≡ reject e.number e.place → e.place ≤ c.end → Judges tally whole from.at from.end (Err e)
    going-refused e h le = record { is = sym (so_far ∙ rw h); within = omega (arith, g.same) }

    pub going_done : (a : A) → rest ≡ accept a → tally a ≡ no_tally → Judges tally whole from.at from.end (Ok m)
    going_done a h e = record {
      is = sym (so_far ∙ rw h (judged-end tally m a e));
      within = within_more (c.at - from.at) (from.end - from.at) g.within (omega (arith, g.among.room, g.same));
    }

  -- one more chunk, with its body at b and the next at n
  module _ (k : Tag) (q : State) (r : std.Result (std.Option Enclosed) Refusal) (x : EnclosedIs s k at q c r) (d : Enclosed) (w : r ≡ Ok (Some d)) where
    pub going-body : Body d.at d.body (length s)
    going-body = step-body s k at q c r x at g.among d w

    pub going-to : (u : Tally) → Within u (d.next.at - from.at) → Going s at from d.next u
    going-to u h =
        let f = step-among s k at q c r x d w in
        record {
          among = record { head = omega (arith, g.among.head); room = f.to; within = omega (arith, g.among.within); small = g.among.small };
          from_at = omega (arith, g.from_at);
          same = f.same ∙ g.same;
          within = h;
        }

    -- by what is answered of it
    module _ {A : Type 0} (tally : A → Tally) (o : Result A) (j : std.Result Tally Refusal) (h : Judges tally o d.at d.body.end j) where
      pub going-place : (e : Refusal) → j ≡ Err e → e.place ≤ c.end
      going-place e y =
          let f = step-among s k at q c r x d w in
          let le : e.place ≤ d.body.end = subst (JudgedIn d.at d.body.end) y h.within in
          omega arith

      pub going-one : (a : Tally) → j ≡ Ok a → Within a (d.body.end - d.at)
      going-one a y = subst (JudgedIn d.at d.body.end) y h.within

      pub going-one-small : (a : Tally) → j ≡ Ok a → Within a most_bytes
      going-one-small a y = within_more (d.body.end - d.at) most_bytes (going-one a y) (let f = going-body in omega (arith, f.within, f.small))

      pub going_more : (a u : Tally) → j ≡ Ok a → u ≡ plus m a → Going s at from d.next u
      going_more a u y e =
          let f = step-among s k at q c r x d w in
          going-to u (rw e (within-plus m a (c.at - from.at) (d.body.end - d.at) (d.next.at - from.at) g.within (going-one a y) (omega (arith, g.from_at))))

pub ruleset going = (going_inside, going-head, going-small, going-body, going_less, going-one-small)
