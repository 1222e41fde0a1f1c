-- Two shapes of what a function writes by parts: one part after the other, and a body behind the head of its chunk, which is set last. Beside
-- the shape each law asks for what such a function has at hand: the room that it was promised, and what its callees left and answered.
use Prim.Native.Nat.{ℕ, ◌+◌, ◌-◌, ◌<◌, ◌≤◌}
use native.Mathlib.Omega.{arith}
use mathlib.Core.Path.{◌≡◌, refl, ap, sym, ◌∙◌}
use mathlib.Core.List.{List, [], ◌++◌, append-nil}
use lib.ListN.{length, take, drop, length-append}
use Rattle.layout.specs.Write.{write_chunk}
use Rattle.shared_output.specs.Writing.{Wrote, Room, Put, head, chunk}
use Rattle.shared_output.proofs.WroteLaws.{wrote_none}
use Rattle.shared_output.proofs.PieceLaws.{Pieces, pieces_none, piece-room, piece-next, pieces-done, pieces-headed}

-- all is a and then b
pub record Both (all a b : List ℕ) : Type 0 where
  pub is : all ≡ a ++ b

-- all is a and then something
pub record Begins (all a : List ℕ) : Type 0 where
  pub rest : List ℕ
  pub both : Both all a rest

pub both-begins : {all a b : List ℕ} → Both all a b → Begins all a
both-begins {all} {a} {b} e = record { rest = b; both = e }

-- ---- a at the start of the output, b in the part after it

module _ (all out : List ℕ) (r : Room all out) where
  pub both-room : (a : List ℕ) → Begins all a → Room a out
  both-room a e =
      let l : length all ≡ length a + length e.rest = ap length e.both.is ∙ length-append a e.rest in
      record { room = omega (arith, r.room); small = omega (arith, r.small) }

  module _ (a ys : List ℕ) (n : ℕ) (w : Put a out ys n) where
    first : (b : List ℕ) → Both all a b → Pieces 0 all b out ys n
    first b e =
        let l : length all ≡ length a + length b = ap length e.is ∙ length-append a b in
        record {
          front = a;
          split = e.is;
          place = omega (arith, w.bytes);
          wrote = w.wrote;
          room = omega (arith, r.room);
          small = omega (arith, r.small);
          inside = omega (arith, r.room, w.bytes, w.wrote.long);
          below = omega (arith, r.small, w.bytes);
        }

    pub both-inside : Begins all a → n ≤ length ys
    both-inside e = (first e.rest e.both).inside

    module _ (b : List ℕ) (e : Both all a b) where
      pub both-room_2 : Room b (take (length ys - n) (drop n ys))
      both-room_2 = piece-room (first b e) b [] (sym (append-nil b))

      module _ (zs : List ℕ) (m : ℕ) (k : Put b (take (length ys - n) (drop n ys)) zs m) where
        pub both-done : Put all out (take n ys ++ (zs ++ drop (length ys - n) (drop n ys))) (n + m)
        both-done = pieces-done (piece-next (first b e) b [] (sym (append-nil b)) k)

pub ruleset both_laws = (both-room, both-inside, both-room_2, both-done)

-- ---- the same bytes under another name, and no bytes

module _ (a b : List ℕ) where
  pub same-room : (out : List ℕ) → Room a out → a ≡ b → Room b out
  same-room out r e = rw e at r

  pub same-put : (xs ys : List ℕ) (n : ℕ) → Put b xs ys n → a ≡ b → Put a xs ys n
  same-put xs ys n p e = rw e p

pub none-put : (a xs : List ℕ) → a ≡ [] → Put a xs xs 0
none-put a xs e = rw e (record { wrote = wrote_none xs; bytes = refl; small = omega arith })

pub ruleset same_laws = (same-room, same-put, none-put)

-- ---- a chunk

-- the chunk of a layout
pub chunk-is : {Tag : Type 0} (code : Tag → ℕ) (t : Tag) (front body : List ℕ) → write_chunk code t (front ++ body) [] ≡ chunk (code t) front body
unfolding chunk head
chunk-is code t front body = rw (append-nil (front ++ body), length-append front body)

head_long : (tag n : ℕ) (front : List ℕ) → length (head tag n front) ≡ 8 + length front
unfolding head
head_long tag n front = omega arith

-- what is to stand behind the k bytes of its head
module _ (tag : ℕ) (front body out : List ℕ) (k : ℕ) (r : Room (chunk tag front body) out) (l : 8 + length front ≡ k) where
  free : Pieces k body body out out k
  unfolding chunk
  free = pieces_none (head tag (length body) front) body out k (head_long tag (length body) front ∙ l) r

  pub chunk-fits : k ≤ length out
  chunk-fits = free.inside

  module _ (body' : List ℕ) (e : body ≡ body') where
    pub chunk-room : Room body' (take (length out - k) (drop k out))
    chunk-room = piece-room free body' [] (e ∙ sym (append-nil body'))

    module _ (ys : List ℕ) (n : ℕ) (w : Put body' (take (length out - k) (drop k out)) ys n) where
      filled : Pieces k body [] out (take k out ++ (ys ++ drop (length out - k) (drop k out))) (k + n)
      filled = piece-next free body' [] (e ∙ sym (append-nil body')) w

      pub chunk-long : k ≤ length (take k out ++ (ys ++ drop (length out - k) (drop k out)))
      chunk-long = omega (arith, filled.inside)

      pub chunk_small : (most : ℕ) → 4294967296 - length front ≡ most → n < most
      chunk_small most h = omega (arith, filled.below)

      pub chunk-done : (zs : List ℕ) → Wrote (take k out ++ (ys ++ drop (length out - k) (drop k out))) (head tag n front) zs → Put (chunk tag front body) out zs (n + k)
      unfolding chunk
      chunk-done zs h =
          let at : k + n ≡ n + k = omega arith in
          let same : n ≡ length body = w.bytes ∙ ap length (sym e) in
          rw (← at) (pieces-headed (head tag (length body) front) (head_long tag (length body) front ∙ l) filled (rw same at h))

  -- the body by two parts, one after the other
  module _ (a : List ℕ) where
    pub two_room : Begins body a → Room a (take (length out - k) (drop k out))
    two_room e = piece-room free a e.rest e.both.is

    module _ (ys : List ℕ) (n : ℕ) (w : Put a (take (length out - k) (drop k out)) ys n) where
      -- the output with the first part
      abbrev mid : List ℕ
      mid = take k out ++ (ys ++ drop (length out - k) (drop k out))

      half : (b : List ℕ) → Both body a b → Pieces k body b out mid (n + k)
      half b e = let at : k + n ≡ n + k = omega arith in rw at at (piece-next free a b e.is w)

      pub two_inside : Begins body a → n + k ≤ length (take k out ++ (ys ++ drop (length out - k) (drop k out)))
      two_inside e = (half e.rest e.both).inside

      module _ (b : List ℕ) (e : Both body a b) where
        pub two_room_2 : Room b (take (length mid - (n + k)) (drop (n + k) mid))
        two_room_2 = piece-room (half b e) b [] (sym (append-nil b))

        module _ (us : List ℕ) (m : ℕ) (v : Put b (take (length mid - (n + k)) (drop (n + k) mid)) us m) where
          -- the output with the second part too
          abbrev last : List ℕ
          last = take (n + k) mid ++ (us ++ drop (length mid - (n + k)) (drop (n + k) mid))

          whole : Pieces k body [] out last (n + k + m)
          whole = piece-next (half b e) b [] (sym (append-nil b)) v

          pub two_long : k ≤ length last
          two_long = omega (arith, whole.inside)

          pub two_small : (most : ℕ) → 4294967296 - length front ≡ most → n + m < most
          two_small most h = omega (arith, whole.below)

          pub two_done : (zs : List ℕ) → Wrote last (head tag (n + m) front) zs → Put (chunk tag front body) out zs (n + m + k)
          unfolding chunk
          two_done zs h =
              let at : n + k + m ≡ n + m + k = omega arith in
              let same : n + m ≡ length body = omega (arith, w.bytes, v.bytes, ap length e.is, length-append a b) in
              rw (← at) (pieces-headed (head tag (length body) front) (head_long tag (length body) front ∙ l) whole (rw same at h))

pub ruleset chunk_laws = (chunk-fits, chunk-room, chunk-long, chunk_small, chunk-done)
