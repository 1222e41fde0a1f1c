-- Chunks behind their headers, parts one after the other, and a chunk copied as it stands: the laws of emit at the shapes of this crate.
use Prim.Native.Nat.{ℕ, ◌+◌, ◌-◌, ◌<◌, ◌≤◌}
use native.Mathlib.Omega.{arith}
use mathlib.Core.Path.{◌≡◌, refl, ap, sym, ◌∙◌}
use mathlib.Core.List.{List, [], ◌++◌}
use mir.Syntax.{w64}
use mir.Val.{Fits}
use lib.ListN.{length, take, drop, length-append, length-take}
use lib.Seq.{take_all}
use Rattle.wire.specs.Bytes.{bytes}
use Rattle.wire.specs.Cursors.{Inside, left}
use Rattle.wire.specs.declared.Cursor.{Cursor}
use Rattle.wire.proofs.LeftLaws.{span, left-length, left-take}
use Rattle.shared_output.specs.Writing.{Wrote, Room, Put, head, chunk}
use Rattle.shared_output.proofs.PartLaws.{Both, both-begins, both-room, both-inside, both-room_2, both-done, same-room, same-put, chunk-fits as fits, chunk-room as room-behind, chunk-long as long-enough, chunk_small as small-enough, chunk-done as done, two_room, two_inside, two_room_2, two_long, two_small, two_done}
use Rattle.b3d_clear_spec.specs.Copies.{chunk_of}

-- ---- a chunk: its body behind eight free bytes, then its header

chunk-is : (k : ℕ) (b : List ℕ) → chunk_of k b ≡ chunk k [] b
unfolding chunk head
chunk-is k b = let e : length b ≡ 0 + length b = omega arith in ap (λ (n : ℕ). bytes k (bytes n b)) e

module _ (k : ℕ) (b out : List ℕ) (r : Room (chunk_of k b) out) where
  room : Room (chunk k [] b) out
  room = same-room (chunk_of k b) (chunk k [] b) out r (chunk-is k b)

  pub chunk-fits : 8 ≤ length out
  chunk-fits = fits k [] b out 8 room refl

  pub chunk-room : Room b (take (length out - 8) (drop 8 out))
  chunk-room = room-behind k [] b out 8 room refl b refl

  module _ (ys : List ℕ) (n : ℕ) (w : Put b (take (length out - 8) (drop 8 out)) ys n) where
    pub chunk_asks : (8 ≤ length (take 8 out ++ (ys ++ drop (length out - 8) (drop 8 out)))) × (n < 4294967296)
    chunk_asks = (long-enough k [] b out 8 room refl b refl ys n w, w.small)

    pub chunk-done : (zs : List ℕ) → Wrote (take 8 out ++ (ys ++ drop (length out - 8) (drop 8 out))) (head k n []) zs → Put (chunk_of k b) out zs (n + 8)
    chunk-done zs h = same-put (chunk_of k b) (chunk k [] b) out zs (n + 8) (done k [] b out 8 room refl b refl ys n w zs h) (chunk-is k b)

pub ruleset chunk_laws = (chunk-fits, chunk-room, chunk_asks, chunk-done)

-- ---- a chunk whose body begins with a word, which goes with the header: twelve free bytes

open_is : (k first : ℕ) (b : List ℕ) → chunk_of k (bytes first b) ≡ chunk k (bytes first []) b
unfolding chunk head
open_is k first b = let e : length (bytes first b) ≡ 4 + length b = omega arith in ap (λ (n : ℕ). bytes k (bytes n (bytes first b))) e

module _ (k first : ℕ) (b out : List ℕ) (r : Room (chunk_of k (bytes first b)) out) where
  open_all : Room (chunk k (bytes first []) b) out
  open_all = same-room (chunk_of k (bytes first b)) (chunk k (bytes first []) b) out r (open_is k first b)

  pub open_fits : 12 ≤ length out
  open_fits = fits k (bytes first []) b out 12 open_all refl

  pub open_room : Room b (take (length out - 12) (drop 12 out))
  open_room = room-behind k (bytes first []) b out 12 open_all refl b refl

  module _ (ys : List ℕ) (n : ℕ) (w : Put b (take (length out - 12) (drop 12 out)) ys n) where
    pub open_asks : (12 ≤ length (take 12 out ++ (ys ++ drop (length out - 12) (drop 12 out)))) × (n < 4294967292)
    open_asks = (long-enough k (bytes first []) b out 12 open_all refl b refl ys n w, small-enough k (bytes first []) b out 12 open_all refl b refl ys n w 4294967292 refl)

    pub open_done : (zs : List ℕ) → Wrote (take 12 out ++ (ys ++ drop (length out - 12) (drop 12 out))) (head k n (bytes first [])) zs → Put (chunk_of k (bytes first b)) out zs (n + 12)
    open_done zs h = same-put (chunk_of k (bytes first b)) (chunk k (bytes first []) b) out zs (n + 12) (done k (bytes first []) b out 12 open_all refl b refl ys n w zs h) (open_is k first b)

pub ruleset open_laws = (open_fits, open_room, open_asks, open_done)

-- ---- one part and then another

module _ (a b out : List ℕ) (r : Room (a ++ b) out) where
  abbrev parts : Both (a ++ b) a b
  parts = record { is = refl }

  pub join-room : Room a out
  join-room = both-room (a ++ b) out r a (both-begins parts)

  module _ (ys : List ℕ) (n : ℕ) (w : Put a out ys n) where
    pub join-at : n ≤ length ys
    join-at = both-inside (a ++ b) out r a ys n w (both-begins parts)

    pub join-room_2 : Room b (take (length ys - n) (drop n ys))
    join-room_2 = both-room_2 (a ++ b) out r a ys n w b parts

    module _ (zs : List ℕ) (m : ℕ) (k : Put b (take (length ys - n) (drop n ys)) zs m) where
      pub join-done : Put (a ++ b) out (take n ys ++ (zs ++ drop (length ys - n) (drop n ys))) (n + m)
      join-done = both-done (a ++ b) out r a ys n w b parts zs m k

      pub join-sum : Fits w64 (n + m)
      join-sum = record { fits = omega (arith, join-done.small) }

      pub join-long : length (take n ys ++ (zs ++ drop (length ys - n) (drop n ys))) ≡ length out
      join-long = join-done.wrote.long

pub ruleset join_laws = (join-room, join-at, join-room_2, join-sum, join-done, join-long)

-- ---- a chunk of two parts

module _ (k : ℕ) (a b out : List ℕ) (r : Room (chunk_of k (a ++ b)) out) where
  abbrev both : Both (a ++ b) a b
  both = record { is = refl }

  pair_all : Room (chunk k [] (a ++ b)) out
  pair_all = same-room (chunk_of k (a ++ b)) (chunk k [] (a ++ b)) out r (chunk-is k (a ++ b))

  pub pair_room : Room a (take (length out - 8) (drop 8 out))
  pair_room = two_room k [] (a ++ b) out 8 pair_all refl a (both-begins both)

  module _ (ys : List ℕ) (n : ℕ) (w : Put a (take (length out - 8) (drop 8 out)) ys n) where
    abbrev mid : List ℕ
    mid = take 8 out ++ (ys ++ drop (length out - 8) (drop 8 out))

    pub pair_sum : Fits w64 (n + 8)
    pair_sum = record { fits = omega (arith, w.small) }

    pub pair_at : n + 8 ≤ length mid
    pair_at = two_inside k [] (a ++ b) out 8 pair_all refl a ys n w (both-begins both)

    pub pair_room_2 : Room b (take (length mid - (n + 8)) (drop (n + 8) mid))
    pair_room_2 = two_room_2 k [] (a ++ b) out 8 pair_all refl a ys n w b both

    module _ (us : List ℕ) (m : ℕ) (v : Put b (take (length mid - (n + 8)) (drop (n + 8) mid)) us m) where
      abbrev last : List ℕ
      last = take (n + 8) mid ++ (us ++ drop (length mid - (n + 8)) (drop (n + 8) mid))

      pub pair_asks : (8 ≤ length last) × (n + m < 4294967296)
      pair_asks = (two_long k [] (a ++ b) out 8 pair_all refl a ys n w b both us m v, two_small k [] (a ++ b) out 8 pair_all refl a ys n w b both us m v 4294967296 refl)

      pub pair_sum_2 : Fits w64 (n + m)
      pair_sum_2 = record { fits = omega (arith, w.small, v.small) }

      pub pair_sum_3 : Fits w64 (n + m + 8)
      pair_sum_3 = record { fits = omega (arith, w.small, v.small) }

      pub pair_done : (zs : List ℕ) → Wrote last (head k (n + m) []) zs → Put (chunk_of k (a ++ b)) out zs (n + m + 8)
      pair_done zs h =
          same-put (chunk_of k (a ++ b)) (chunk k [] (a ++ b)) out zs (n + m + 8) (two_done k [] (a ++ b) out 8 pair_all refl a ys n w b both us m v zs h) (chunk-is k (a ++ b))

pub ruleset pair_laws = (chunk-fits, pair_room, pair_sum, pair_at, pair_room_2, pair_sum_2, pair_sum_3, pair_asks, pair_done)

-- ---- a chunk that is copied as it stands

-- the bytes of a cursor, as they are copied
pub left-part : (s : List ℕ) (c : Cursor) → Inside c (length s) → take (c.end - c.at) (drop c.at s) ≡ left c s
unfolding left
left-part s c i =
    let whole : left (span 0 (length s)) s ≡ s = take_all (length s) s (omega arith) in
    let tail : left (span c.at (length s)) s ≡ drop c.at s = ap (drop c.at) whole in
    let here : Inside (span c.at (length s)) (length s) = record { before = omega (arith, i.before, i.within); within = omega arith } in
    sym (left-take s (span c.at (length s)) (c.end - c.at) c here (omega (arith, i.before, i.within)) refl (omega (arith, i.before)) ∙ ap (take (c.end - c.at)) tail)

module _ (s : List ℕ) (c : Cursor) (i : Inside c (length s)) (k : ℕ) (out : List ℕ) (r : Room (chunk_of k (left c s)) out) where
  pub copy-there : c.at + (c.end - c.at) ≤ length s
  copy-there = omega (arith, i.before, i.within)

  pub copy_room : c.end - c.at ≤ length (take (length out - 8) (drop 8 out))
  copy_room = omega (arith, (chunk-room k (left c s) out r).room, left-length s c i)

  pub copy-small : c.end - c.at < 4294967296
  copy-small = omega (arith, (chunk-room k (left c s) out r).small, left-length s c i)

  pub copy-sum : Fits w64 (c.end - c.at + 8)
  copy-sum = record { fits = omega (arith, copy-small) }

  pub copy_long : (w ys : List ℕ) → Wrote (take (length out - 8) (drop 8 out)) w ys → 8 ≤ length (take 8 out ++ (ys ++ drop (length out - 8) (drop 8 out)))
  copy_long w ys h = simp (length-append, length-take) (omega (arith, chunk-fits k (left c s) out r))

  pub copy_done : (ys : List ℕ) → Wrote (take (length out - 8) (drop 8 out)) (take (c.end - c.at) (drop c.at s)) ys → (tag : ℕ) → tag ≡ k
      → (zs : List ℕ) → Wrote (take 8 out ++ (ys ++ drop (length out - 8) (drop 8 out))) (head tag (c.end - c.at) []) zs → Put (chunk_of k (left c s)) out zs (c.end - c.at + 8)
  copy_done ys w tag e zs h =
      chunk-done k (left c s) out r ys (c.end - c.at) (record { wrote = rw (left-part s c i) at w; bytes = sym (left-length s c i); small = copy-small }) zs (rw e at h)

pub ruleset copy_laws = (chunk-fits, copy-there, copy_room, copy-small, copy-sum, copy_long, copy_done)
