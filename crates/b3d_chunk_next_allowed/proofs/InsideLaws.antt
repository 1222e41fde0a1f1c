-- What an answer of `first_inside` or `next_inside` says to those who asked.
use Rattle.std.specs.Prelude.{Ok, Err, Some, None}
use Rattle.std.specs.Prelude as std
use Rattle.b3d_chunk_next_allowed.specs.declared.Enclosed.{Enclosed}
use Rattle.layout.specs.declared.Refusal.{Refusal}
use mathlib.Core.Path.{◌≡◌, refl, subst}
use Prim.Native.Nat.{ℕ, ◌≤◌}
use mathlib.Core.Option.{some}
use mathlib.Core.List.{List}
use Rattle.wire.specs.Cursors.{left}
use Rattle.wire.specs.declared.Cursor.{Cursor}
use Rattle.layout.specs.Chunks.{done, stop, chunk}
use Rattle.b3d_spec.specs.declared.Tag.{Tag}
use Rattle.b3d_spec.specs.Tags.{split}
use Rattle.b3d_spec.specs.Nesting.{nesting, order}
use Rattle.b3d_spec.specs.Nesting as nest
use Rattle.b3d_chunk_cursor.specs.Chunks.{Among, NextIs}
use Rattle.b3d_chunk_cursor.specs.declared.Next.TheVariants as next
use Rattle.b3d_chunk_cursor.proofs.NextLaws.{chunk-among}
use Rattle.b3d_rule_nesting_order.specs.declared.Reached.{Reached}
use Rattle.b3d_rule_nesting_order.specs.Turns.{reached_of}
use Rattle.b3d_chunk_next_allowed.specs.Steps.{EnclosedIs}

module _ (s : List ℕ) (k : Tag) (head : ℕ) (q : Reached) (c : Cursor) (r : std.Result (std.Option Enclosed) Refusal) (x : EnclosedIs s k head q c r) where
  module _ (f : Enclosed) (w : r ≡ Ok (Some f)) where
    pub stepped : order k head (reached_of q) (split c.at (left c s)) ≡ chunk f.tag f.at (left f.body s) (order k head (reached_of f.reached) (split f.next.at (left f.next s)))
    stepped = (subst (EnclosedIs s k head q c) w x).says

    pub step-next : NextIs s c (next.Chunk f.tag f.at f.body f.next)
    step-next = (subst (EnclosedIs s k head q c) w x).within.next

    pub step-among : Among c f.at f.body f.next
    step-among = chunk-among s c (next.Chunk f.tag f.at f.body f.next) step-next f.tag f.at f.body f.next refl

    pub step-turn : nest.next (nesting k) (nesting k) (reached_of q) f.tag ≡ some (reached_of f.reached)
    step-turn = (subst (EnclosedIs s k head q c) w x).within.turn

  pub stopped : (e : Refusal) → r ≡ Err e → order k head (reached_of q) (split c.at (left c s)) ≡ stop e.number e.place
  stopped e w = (subst (EnclosedIs s k head q c) w x).says

  pub stop-before : (e : Refusal) → r ≡ Err e → e.place ≤ c.end
  stop-before e w = (subst (EnclosedIs s k head q c) w x).within

  pub ended : r ≡ (Ok None) → order k head (reached_of q) (split c.at (left c s)) ≡ done
  ended w = (subst (EnclosedIs s k head q c) w x).says

  pub end_next : r ≡ (Ok None) → NextIs s c next.Done
  end_next w = (subst (EnclosedIs s k head q c) w x).within
