-- What an answer of `next_chunk` says to those who asked: of the chunks that are left, and of the places of the cursors.
use Prim.Native.Nat.{ℕ, ◌-◌, ◌<◌, ◌≤◌}
use native.Mathlib.Omega.{arith}
use mathlib.Core.Path.{◌≡◌, subst, ◌∙◌}
use mathlib.Core.List.{List}
use Rattle.wire.specs.Cursors.{Inside, left}
use Rattle.wire.specs.declared.Cursor.{Cursor}
use Rattle.layout.specs.Chunks.{done, stop, chunk}
use Rattle.b3d_spec.specs.declared.Tag.{Tag}
use Rattle.b3d_spec.specs.Tags.{split}
use Rattle.b3d_chunk_cursor.specs.Chunks.{Among, NextIs}
use Rattle.b3d_chunk_cursor.specs.declared.Next.{Next}
use Rattle.b3d_chunk_cursor.specs.declared.Next.TheVariants as next

module _ (s : List ℕ) (c : Cursor) (r : Next) (x : NextIs s c r) where
  module _ (t : Tag) (p : ℕ) (b n : Cursor) (w : r ≡ next.Chunk t p b n) where
    pub chunk-is : split c.at (left c s) ≡ chunk t p (left b s) (split n.at (left n s))
    chunk-is = (subst (NextIs s c) w x).says

    pub chunk-among : Among c p b n
    chunk-among = (subst (NextIs s c) w x).among

    pub body-inside : (l : ℕ) → Inside c l → Inside b l
    body-inside l i = let f = chunk-among in omega arith

    pub next-inside : (l : ℕ) → Inside c l → Inside n l
    next-inside l i = let f = chunk-among in omega arith

    pub next-less : n.end - n.at < c.end - c.at
    next-less = let f = chunk-among in omega arith

    pub next-same : (q : ℕ) → c.end ≡ q → n.end ≡ q
    next-same q e = chunk-among.same ∙ e

  pub cut-is : (p : ℕ) → r ≡ next.Cut p → split c.at (left c s) ≡ stop 3 p
  cut-is p w = (subst (NextIs s c) w x).says

  pub cut-before : (p : ℕ) → r ≡ next.Cut p → p ≤ c.end
  cut-before p w = (subst (NextIs s c) w x).among

  pub done-is : r ≡ next.Done → split c.at (left c s) ≡ done
  done-is w = (subst (NextIs s c) w x).says
