-- A law for each way through the functions of this crate.
use Prim.Native.Nat.{ℕ, suc, ◌+◌, ◌-◌, ◌<◌, ◌≤◌}
use native.Mathlib.Nat.{add-zero}
use native.Mathlib.Numerals.{add-one}
use native.Mathlib.Omega.{arith}
use mathlib.Core.Path.{◌≡◌, refl}
use mathlib.Core.List.{List, [], ◌∷◌, ◌++◌}
use lib.ListN.{length, take, drop, get_or, set, length-take, length-drop}
use lib.Seq.{take-suc, drop-cons, get_or-drop}
use Rattle.wire.specs.Bytes.{bytes, over}
use Rattle.layout.specs.Write.{write_words, write_text}
use Rattle.layout.proofs.PartLaws.{length-text}
use Rattle.shared_output.specs.Writing.{Wrote, Room, Put, head}
use Rattle.shared_output.proofs.WroteLaws.{wrote_none, wrote-over, wrote-part, wrote-byte, part_length}
use Rattle.shared_output.proofs.AppendLaws.{text-zero}
use Rattle.shared_output.proofs.PieceLaws.{Pieces, pieces_none, piece_fits, piece-next, pieces-done}

-- ---- headers

-- one number more
number_next : {xs p ys zs : List ℕ} (at n : ℕ) → Wrote xs p ys → length p ≡ at → at + 4 ≤ length xs → zs ≡ over (bytes n []) (take (length ys - at) (drop at ys))
    → Wrote xs (p ++ bytes n []) (take at ys ++ (zs ++ drop (length ys - at) (drop at ys)))
number_next {xs} {p} {ys} {zs} at n w l h e =
    wrote-part at w l (wrote-over (bytes n []) (take (length ys - at) (drop at ys)) zs (rw part_length (omega (arith, w.long))) e)

pub header-done : (tag size : ℕ) (xs ys zs : List ℕ) → (8 ≤ length xs) × (size < 4294967296) → ys ≡ over (bytes tag []) xs
    → zs ≡ over (bytes size []) (take (length ys - 4) (drop 4 ys)) → Wrote xs (head tag size []) (take 4 ys ++ (zs ++ drop (length ys - 4) (drop 4 ys)))
unfolding head
header-done tag size xs ys zs h e f =
    let z : 0 + size ≡ size = omega arith in
    rw z (number_next 4 size (wrote-over (bytes tag []) xs ys (omega arith) e) refl (omega arith) f)

pub opening_done : (tag size first : ℕ) (xs ys zs : List ℕ) → (12 ≤ length xs) × (size < 4294967292) → Wrote xs (head tag (size + 4) []) ys
    → zs ≡ over (bytes first []) (take (length ys - 8) (drop 8 ys)) → Wrote xs (head tag size (bytes first [])) (take 8 ys ++ (zs ++ drop (length ys - 8) (drop 8 ys)))
unfolding head
opening_done tag size first xs ys zs h w f =
    let z : 0 + (size + 4) ≡ 4 + size = omega arith in
    number_next 8 first (rw z at w) refl (omega arith) f

pub ruleset header_laws = (header-done, opening_done)

-- ---- bytes

-- i bytes are copied
pub record Copied (src : List ℕ) (from count : ℕ) (out₀ out : List ℕ) (i : ℕ) : Type 0 where
  pub some : i ≤ count
  pub there : from + count ≤ length src
  pub room : count ≤ length out₀
  pub wrote : Wrote out₀ (take i (drop from src)) out

module _ (src : List ℕ) (from count : ℕ) where
  pub copy_none : (out : List ℕ) → (from + count ≤ length src) × (count ≤ length out) → Copied src from count out out 0
  copy_none out h = record { some = omega arith; there = h.0; room = h.1; wrote = wrote_none out }

  module _ (out₀ out : List ℕ) (i : ℕ) (v : Copied src from count out₀ out i) where
    pub copy_long : length out ≡ length out₀
    copy_long = v.wrote.long

    pub copy_room : i < count → i < length out
    copy_room h = omega (arith, v.room, v.wrote.long)

    pub copy_one : i < count → Copied src from count out₀ (set out i (get_or src (from + i) 0)) (i + 1)
    copy_one h =
        let rest : i < length (drop from src) = simp length-drop (omega (arith, v.there)) in
        let l : length (take i (drop from src)) ≡ i = simp (length-take, length-drop) (omega (arith, v.there)) in
        let next : take (i + 1) (drop from src) ≡ take i (drop from src) ++ (get_or src (from + i) 0 ∷ []) =
        rw (add-one, ← get_or-drop from src i 0) (take-suc (drop from src) i 0 rest) in
        record {
          some = omega arith;
          there = v.there;
          room = v.room;
          wrote = rw next (wrote-byte (get_or src (from + i) 0) i v.wrote l (omega (arith, v.room)));
        }

    pub copy_done : count ≤ i → Wrote out₀ (take count (drop from src)) out
    copy_done h = let e : i ≡ count = omega (arith, v.some) in rw e at v.wrote

pub ruleset copy_laws = (copy_none, copy_long, copy_room, copy_one, copy_done)

-- ---- texts

module _ (names : List ℕ) (place size : ℕ) (out : List ℕ) (h : place + size ≤ length names) (r : Room (write_text (take size (drop place names)) []) out) where
  text_long : length (take size (drop place names)) ≡ size
  text_long = simp (length-take, length-drop) (omega arith)

  pub text-fits : size + 1 ≤ length out
  text-fits = omega (arith, r.room, length-text (take size (drop place names)) [], text_long)

  pub text_room : size ≤ length out
  text_room = omega (arith, text-fits)

  module _ (ys : List ℕ) (w : Wrote out (take size (drop place names)) ys) where
    pub text_end : size < length ys
    text_end = omega (arith, text-fits, w.long)

    pub text-done : Put (write_text (take size (drop place names)) []) out (set ys size 0) (size + 1)
    text-done = record {
      wrote = rw text-zero (wrote-byte 0 size w text_long (omega (arith, text-fits)));
      bytes = omega (arith, length-text (take size (drop place names)) [], text_long);
      small = omega (arith, r.small, length-text (take size (drop place names)) [], text_long);
    }

pub ruleset text_laws = (text_room, text_end, text-done)

-- ---- words

-- i words are written
pub record WordsLeft (words : List ℕ) (first count : ℕ) (out₀ out : List ℕ) (at i : ℕ) : Type 0 where
  pub some : i ≤ count
  pub there : first + count ≤ length words
  pub left : Pieces 0 (write_words (take count (drop first words)) []) (write_words (take (count - i) (drop (first + i) words)) []) out₀ out at

module _ (words : List ℕ) (first count : ℕ) where
  pub words_none : (out : List ℕ) → first + count ≤ length words → Room (write_words (take count (drop first words)) []) out → WordsLeft words first count out out 0 0
  words_none out h r =
      let e : count - 0 ≡ count = omega arith in
      record { some = omega arith; there = h; left = rw (e, add-zero first) (pieces_none [] (write_words (take count (drop first words)) []) out 0 refl r) }

  module _ (out₀ out : List ℕ) (at i : ℕ) (v : WordsLeft words first count out₀ out at i) where
    pub words_long : length out ≡ length out₀
    words_long = v.left.wrote.long

    module _ (h : i < count) where
      next : write_words (take (count - i) (drop (first + i) words)) []
          ≡ bytes (get_or words (first + i) 0) [] ++ write_words (take (count - (i + 1)) (drop (first + (i + 1)) words)) []
      next =
          let n : count - i ≡ suc (count - (i + 1)) = omega arith in
          let m : suc (first + i) ≡ first + (i + 1) = omega arith in
          rw (n, drop-cons words (first + i) 0 (omega (arith, v.there)), m)

      pub words_fits : at + 4 ≤ length out
      words_fits = piece_fits v.left (bytes (get_or words (first + i) 0) []) _ next

      pub words_part : 4 ≤ length (take (length out - at) (drop at out))
      words_part = rw part_length (omega (arith, words_fits))

      pub words_one : (zs : List ℕ) → zs ≡ over (bytes (get_or words (first + i) 0) []) (take (length out - at) (drop at out))
          → WordsLeft words first count out₀ (take at out ++ (zs ++ drop (length out - at) (drop at out))) (at + 4) (i + 1)
      words_one zs e = record {
        some = omega arith;
        there = v.there;
        left = piece-next v.left (bytes (get_or words (first + i) 0) []) _ next
            (record { wrote = wrote-over (bytes (get_or words (first + i) 0) []) (take (length out - at) (drop at out)) zs words_part e; bytes = refl; small = omega arith });
      }

    pub words_done : count ≤ i → Put (write_words (take count (drop first words)) []) out₀ out at
    words_done h = let e : count - i ≡ 0 = omega arith in pieces-done (rw e at v.left)

pub ruleset words_laws = (words_none, words_long, words_part, words_one, words_done)
