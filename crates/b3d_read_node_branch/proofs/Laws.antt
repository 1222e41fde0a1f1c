-- The loop over the NODEs before a place.
use Rattle.std.specs.Prelude.{Some, None}
use Rattle.std.specs.Prelude as std
use Rattle.b3d_chunk_walk.specs.declared.FlatChunk.{FlatChunk}
use mathlib.Core.Path.{◌≡◌, ap, sym, subst, ◌∙◌}
use Prim.Native.Nat.{ℕ, suc, ◌+◌, ◌-◌, ◌<◌, ◌≤◌}
use native.Mathlib.Omega.{arith}
use mathlib.Core.Bool.{Bool, true, false, not}
use mathlib.Core.List.{List}
use lib.ListN.{length}
use lib.Dec.{T, leb, le→leb, leb→le}
use mir.Syntax.{w32}
use mir.Val.{Fits}
use Rattle.wire.specs.Test.{if}
use Rattle.wire.specs.declared.Cursor.{Cursor}
use Rattle.layout.proofs.ResultLaws.{if_yes, if_no, by_test}
use Rattle.b3d_spec.specs.declared.Tag.{Tag}
use Rattle.b3d_spec.specs.declared.Tag.TheVariants.{NODE}
use Rattle.b3d_spec.specs.Tags.{is}
use Rattle.b3d_spec_plain_rows.specs.Flat.{flat_at}
use Rattle.b3d_spec_plain_rows.specs.Rows.{nodes_before}
use Rattle.b3d_chunk_walk.specs.Walks.{ChunkIs, Ends, FlatIs, Steps}

-- from `at` on come those that are left after so many
pub record BeforeLeft (s : List ℕ) (end from at count : ℕ) : Type 0 where
  pub inside : at ≤ length s
  pub few : count ≤ at
  pub same : nodes_before end (flat_at s from) ≡ count + nodes_before end (flat_at s at)

module _ (s : List ℕ) (end from : ℕ) where
  pub before_start : from ≤ length s → BeforeLeft s end from from 0
  before_start h = record { inside = h; few = omega arith; same = omega arith }

  module _ (at count : ℕ) (v : BeforeLeft s end from at count) where
    pub before_inside : at ≤ length s
    before_inside = v.inside

    module _ (r : std.Option FlatChunk) (x : Steps s at r) where
      pub before_done : r ≡ None → count ≡ nodes_before end (flat_at s from)
      before_done w = let e : Ends (flat_at s at) = subst (FlatIs s at) w x.is in omega (arith, v.same, e.before end)

      module _ (f : FlatChunk) (w : r ≡ Some f) where
        step : ChunkIs s at f.tag f.at f.body f.next
        step = subst (FlatIs s at) w x.is

        pub before_less : length s - f.next < length s - at
        before_less = omega (arith, step.more, step.to)

        pub before_more : length s < 0x100000000 → Fits w32 (count + 1)
        before_more small = record { fits = omega (arith, v.few, step.more, step.to) }

        next : nodes_before end (flat_at s at) ≡ if (is f.tag NODE) (if (leb end f.at) 0 (suc (nodes_before end (flat_at s f.next)))) (nodes_before end (flat_at s f.next))
        unfolding nodes_before
        next = ap (nodes_before end) step.run

        module _ (ok : Bool) (eo : ok ≡ is f.tag NODE) where
          pub before_other : ok ≡ false → BeforeLeft s end from f.next count
          before_other z =
              let e = next ∙ if_no (is f.tag NODE) _ _ (subst (λ (y : Bool). T (not y)) (sym z ∙ eo) tt) in
              record { inside = step.to; few = omega (arith, v.few, step.more); same = omega (arith, v.same, e) }

          module _ (z : ok ≡ true) where
            node : nodes_before end (flat_at s at) ≡ if (leb end f.at) 0 (suc (nodes_before end (flat_at s f.next)))
            node = next ∙ if_yes (is f.tag NODE) _ _ (subst T (sym z ∙ eo) tt)

            pub before_stop : end ≤ f.at → count ≡ nodes_before end (flat_at s from)
            before_stop h = let e = node ∙ if_yes (leb end f.at) _ _ (le→leb end f.at h) in omega (arith, v.same, e)

            pub before_one : f.at < end → BeforeLeft s end from f.next (count + 1)
            before_one h =
                let e = node ∙ by_test (leb end f.at) (λ u. absurd (omega (arith, leb→le end f.at u))) (λ u. if_no (leb end f.at) 0 (suc (nodes_before end (flat_at s f.next))) u) in
                record { inside = step.to; few = omega (arith, v.few, step.more); same = omega (arith, v.same, e) }

pub ruleset before_laws = (before_start, before_inside, before_done, before_less, before_more, before_other, before_stop, before_one)
