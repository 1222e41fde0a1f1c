-- What a function that writes asks of the output that it is lent, and what it leaves there.
use Rattle.std.specs.Prelude.{◌≡◌, ℕ, ◌+◌, ◌<◌, ◌≤◌, List, ◌++◌, length}
use Rattle.wire.specs.Bytes.{bytes, over}

-- w was written over the front of the output xs, where it has room
pub record Wrote (xs w ys : List ℕ) : Type 0 where
  -- ys is xs with w over its front
  pub is : ys ≡ over w xs
  -- the output is as long as it was
  pub long : length ys ≡ length xs

-- w can be written into the output
pub record Room (w out : List ℕ) : Type 0 where
  -- w has room in it
  pub room : length w ≤ length out
  -- the length of w is a number of four bytes
  pub small : length w < 4294967296

-- w was written into the output xs, which then is ys, and `size` was returned
pub record Put (w xs ys : List ℕ) (size : ℕ) : Type 0 where
  -- w stands over the front of the output
  pub wrote : Wrote xs w ys
  -- `size` is how long w is
  pub bytes : size ≡ length w
  -- `size` is a number of four bytes
  pub small : size < 4294967296

-- the header of a chunk with this tag, and `front`, with which its body begins; `size` bytes of the body come after that
unfoldable pub head : ℕ → ℕ → List ℕ → List ℕ
head tag size front = bytes tag (bytes (length front + size) front)

-- a chunk with this tag, its body being `front`, which is written together with the header, and then `body`
unfoldable pub chunk : ℕ → List ℕ → List ℕ → List ℕ
chunk tag front body = head tag (length body) front ++ body
