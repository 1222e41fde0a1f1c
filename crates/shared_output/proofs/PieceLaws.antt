-- Pieces written one after the other, behind bytes that are left free for a header: what holds between two of them, what the next one asks and
-- gives, and what it all is in the end. A loop, two writes in a row and a chunk are cases of this.
use Prim.Native.Nat.{ℕ, ◌+◌, ◌-◌, ◌<◌, ◌≤◌}
use native.Mathlib.Omega.{arith}
use mathlib.Core.Path.{◌≡◌, refl, ap, sym, ◌∙◌}
use mathlib.Core.List.{List, [], ◌++◌, append_assoc, append-nil}
use lib.ListN.{length, take, drop, length-append}
use lib.Seq.{length-take-le}
use Rattle.shared_output.specs.Writing.{Wrote, Room, Put}
use Rattle.shared_output.proofs.WroteLaws.{wrote_free, wrote-part, wrote-before, part_length}

-- of all, what comes before `rest` is written behind `free` bytes, up to place `at`
pub record Pieces (free : ℕ) (all rest out₀ out : List ℕ) (at : ℕ) : Type 0 where
  pub front : List ℕ
  pub split : all ≡ front ++ rest
  pub place : at ≡ free + length front
  pub wrote : Wrote out₀ (take free out₀ ++ front) out
  pub room : free + length all ≤ length out₀
  pub small : free + length all < 4294967296
  -- of the place alone, for indices and sums
  pub inside : at ≤ length out
  pub below : at < 4294967296

-- room for w in the part from n on
pub room-part : (n : ℕ) (w ys : List ℕ) → n + length w ≤ length ys → length w < 4294967296 → Room w (take (length ys - n) (drop n ys))
room-part n w ys h s = record { room = rw part_length (omega arith); small = s }

-- none is written yet; `front` is what is to stand in the free bytes
pub pieces_none : (front all out : List ℕ) (free : ℕ) → length front ≡ free → Room (front ++ all) out → Pieces free all all out out free
pieces_none front all out free l r =
    let e = length-append front all in
    record {
      front = [];
      split = refl;
      place = omega arith;
      wrote = rw (append-nil (take free out)) (wrote_free free out (omega (arith, r.room)));
      room = omega (arith, r.room);
      small = omega (arith, r.small);
      inside = omega (arith, r.room);
      below = omega (arith, r.small);
    }

-- the rest is a piece and what comes after it
module _ {free : ℕ} {all rest out₀ out : List ℕ} {at : ℕ} (v : Pieces free all rest out₀ out at) (piece after : List ℕ) (e : rest ≡ piece ++ after) where
  pub piece_fits : at + length piece ≤ length out
  piece_fits = omega (arith, v.place, v.room, v.wrote.long, simp length-append at (ap length v.split), simp length-append at (ap length e))

  pub piece-room : Room piece (take (length out - at) (drop at out))
  piece-room =
      room-part at piece out piece_fits
      (omega (arith, v.small, simp length-append at (ap length v.split), simp length-append at (ap length e)))

  pub piece-next : {zs : List ℕ} {size : ℕ} → Put piece (take (length out - at) (drop at out)) zs size
      → Pieces free all after out₀ (take at out ++ (zs ++ drop (length out - at) (drop at out))) (at + size)
  piece-next {zs} w =
      let start : length (take free out₀) ≡ free = length-take-le free out₀ (omega (arith, v.room)) in
      let here : length (take free out₀ ++ v.front) ≡ at = length-append (take free out₀) v.front ∙ omega (arith, v.place) in
      let more = wrote-part at v.wrote here w.wrote in
      record {
        front = v.front ++ piece;
        split = v.split ∙ rw e (sym (append_assoc v.front piece after));
        place = omega (arith, v.place, w.bytes, length-append v.front piece);
        wrote = rw append_assoc at more;
        room = v.room;
        small = v.small;
        inside = omega (arith, piece_fits, w.bytes, more.long, v.wrote.long);
        below = omega (arith, v.place, v.small, w.bytes, simp length-append at (ap length v.split), simp length-append at (ap length e));
      }

-- all pieces are written behind no free byte
pub pieces-done : {all out₀ out : List ℕ} {at : ℕ} → Pieces 0 all [] out₀ out at → Put all out₀ out at
pieces-done {all} v =
    let whole : all ≡ v.front = v.split ∙ append-nil v.front in
    record { wrote = rw whole v.wrote; bytes = omega (arith, v.place, ap length whole); small = v.below }

-- all pieces are written, and the head is laid over the free bytes
pub pieces-headed : {free : ℕ} {all out₀ out zs : List ℕ} {at : ℕ} (head : List ℕ) → length head ≡ free → Pieces free all [] out₀ out at
    → Wrote out head zs → Put (head ++ all) out₀ zs at
pieces-headed {free} {all} {out₀} head l v w =
    let whole : all ≡ v.front = v.split ∙ append-nil v.front in
    let start : length (take free out₀) ≡ free = length-take-le free out₀ (omega (arith, v.room)) in
    record {
      wrote = rw whole (wrote-before (take free out₀) v.front v.wrote w (omega arith));
      bytes = rw (length-append head all) (omega (arith, v.place, ap length whole));
      small = v.below;
    }
