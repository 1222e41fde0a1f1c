-- How many bytes an entry takes, and lists one after the other.
use mathlib.Core.Path.{◌≡◌, refl, ap, sym, ◌∙◌}
use Prim.Native.Nat.{ℕ, ◌+◌, ◌<◌}
use native.Mathlib.Omega.{arith}
use mathlib.Core.List.{List, [], ◌∷◌, ◌++◌, append_assoc}
use lib.ListN.{length, length-append}
use Rattle.shared_seven_bit_groups.specs.Groups.{groups, groups_of}
use Rattle.shared_seven_bit_groups.proofs.GroupLaws.{count_is, groups-length, groups-append}
use Rattle.b3d_compare_spec.specs.Changes.{Cell, number, text, told, Change}
use Rattle.b3d_compare_spec.specs.List.{lead_bytes, text_bytes, change_bytes, list_bytes}

unfoldable pub lead_size : Cell → ℕ
lead_size (number n) = groups_of n
lead_size (text b) = groups_of (length b)
lead_size told = 0

unfoldable pub text_size : Cell → ℕ
text_size (number n) = 0
text_size (text b) = length b
text_size told = 0

pub lead_length : (x : Cell) (r : List ℕ) → length (lead_bytes x r) ≡ lead_size x + length r
unfolding lead_bytes lead_size
lead_length (number n) r = groups-length n r
lead_length (text b) r = groups-length (length b) r
lead_length told r = omega arith

pub text-length : (x : Cell) (r : List ℕ) → length (text_bytes x r) ≡ text_size x + length r
unfolding text_bytes text_size
text-length (number n) r = omega arith
text-length (text b) r = length-append b r
text-length told r = omega arith

abbrev pub cells_size : Cell → Cell → ℕ
cells_size x y = lead_size x + lead_size y + text_size x + text_size y

pub change_length : (c : Change) (r : List ℕ) → length (change_bytes c r) ≡ groups_of c.table + groups_of c.row + groups_of c.word + cells_size c.first c.second + length r
unfolding change_bytes
change_length c r =
    let x = c.first in
    let y = c.second in
    let g = text_bytes y r in
    let f = text_bytes x g in
    let e = lead_bytes y f in
    let d = lead_bytes x e in
    let w = groups c.word d in
    let v = groups c.row w in
    omega (arith, groups-length c.table v, groups-length c.row w, groups-length c.word d, lead_length x e, lead_length y f, text-length x g, text-length y r)

pub some_byte : (c : Change) (r : List ℕ) → length r < length (change_bytes c r)
some_byte c r = omega (arith, change_length c r, count_is c.table)

-- ---- before what follows

groups-before : (n : ℕ) (r q : List ℕ) → groups n (r ++ q) ≡ groups n r ++ q
groups-before n r q = groups-append n (r ++ q) ∙ sym (append_assoc (groups n []) r q) ∙ ap (λ (l : List ℕ). l ++ q) (sym (groups-append n r))

lead_before : (x : Cell) (r q : List ℕ) → lead_bytes x (r ++ q) ≡ lead_bytes x r ++ q
unfolding lead_bytes
lead_before (number n) r q = groups-before n r q
lead_before (text b) r q = groups-before (length b) r q
lead_before told r q = refl

text-before : (x : Cell) (r q : List ℕ) → text_bytes x (r ++ q) ≡ text_bytes x r ++ q
unfolding text_bytes
text-before (number n) r q = refl
text-before (text b) r q = sym (append_assoc b r q)
text-before told r q = refl

pub change_before : (c : Change) (r q : List ℕ) → change_bytes c (r ++ q) ≡ change_bytes c r ++ q
unfolding change_bytes
change_before c r q =
    let x = c.first in
    let y = c.second in
    rw (
      text-before y r q,
      text-before x (text_bytes y r) q,
      lead_before y (text_bytes x (text_bytes y r)) q,
      lead_before x (lead_bytes y (text_bytes x (text_bytes y r))) q,
      groups-before c.word (lead_bytes x (lead_bytes y (text_bytes x (text_bytes y r)))) q,
      groups-before c.row (groups c.word (lead_bytes x (lead_bytes y (text_bytes x (text_bytes y r))))) q,
    )
    (groups-before c.table (groups c.row (groups c.word (lead_bytes x (lead_bytes y (text_bytes x (text_bytes y r)))))) q)

pub list-append : (l m : List Change) → list_bytes (l ++ m) ≡ list_bytes l ++ list_bytes m
unfolding list_bytes
list-append [] m = refl
list-append (c ∷ l) m = ap (change_bytes c) (list-append l m) ∙ change_before c (list_bytes l) (list_bytes m)

pub list_length : (l m : List Change) → length (list_bytes (l ++ m)) ≡ length (list_bytes l) + length (list_bytes m)
list_length l m = ap length (list-append l m) ∙ length-append (list_bytes l) (list_bytes m)
