-- Bytes put one after the other, and what each function puts.
use mathlib.Core.Path.{◌≡◌, refl, sym, ap, ap₂, ◌∙◌}
use Prim.Native.Nat.{ℕ, ◌+◌, ◌-◌, ◌<◌, ◌≤◌}
use native.Mathlib.Omega.{arith}
use mathlib.Core.Bool.{Bool, true, false}
use mathlib.Core.List.{List, [], ◌++◌, append_assoc, append-nil}
use lib.ListN.{length, take, drop, length-append, length-take, length-drop, drop_of_length-le}
use lib.Seq.{sets, length-sets, sets-eq, take_all, drop-drop}
use Rattle.wire.specs.Bytes.{bytes, over}
use Rattle.shared_table_words.proofs.StoreLaws.{sets-append}
use Rattle.shared_output.specs.Writing.{Wrote}
use Rattle.shared_output.proofs.PartLaws.{Both}
use Rattle.shared_seven_bit_groups.specs.Groups.{groups, groups_of}
use Rattle.shared_seven_bit_groups.specs.Puts.{PutAt}
use Rattle.shared_put_or_count.specs.Emits.{written, room_of, RoomFrom, Emits}

-- ---- one after the other

written_both : (wet : Bool) (a b xs : List ℕ) (at : ℕ) → written wet (a ++ b) at xs ≡ written wet b (at + length a) (written wet a at xs)
unfolding written
written_both true a b xs at = sets-append a b xs at
written_both false a b xs at = refl

room-long : (wet : Bool) (xs ys : List ℕ) → length ys ≡ length xs → room_of wet ys ≡ room_of wet xs
room-long true xs ys e = e
room-long false xs ys e = refl

pub emits_none : (wet : Bool) (w xs : List ℕ) (at : ℕ) → w ≡ [] → Emits wet w xs at xs at
unfolding written
emits_none true w xs at e = rw e (record { is = refl; long = refl; to = omega arith })
emits_none false w xs at e = rw e (record { is = refl; long = refl; to = omega arith })

module _ {all a b : List ℕ} (two : Both all a b) (wet : Bool) (xs : List ℕ) (at : ℕ) where
  total : length all ≡ length a + length b
  total = ap length two.is ∙ length-append a b

  pub fits-first : RoomFrom wet all at xs → RoomFrom wet a at xs
  fits-first f = record { room = omega (arith, total, f.room); small = omega (arith, total, f.small) }

  module _ (ys : List ℕ) (m : ℕ) (e : Emits wet a xs at ys m) where
    pub fits-second : RoomFrom wet all at xs → RoomFrom wet b m ys
    fits-second f = record { room = omega (arith, total, f.room, e.to, room-long wet xs ys e.long); small = omega (arith, total, f.small, e.to) }

    pub emits_both : (zs : List ℕ) (n : ℕ) → Emits wet b ys m zs n → Emits wet all xs at zs n
    emits_both zs n g = record {
      is = g.is ∙ ap₂ (written wet b) e.to e.is ∙ sym (ap (λ (w : List ℕ). written wet w at xs) two.is ∙ written_both wet a b xs at);
      long = g.long ∙ e.long;
      to = omega (arith, total, g.to, e.to);
    }

-- the same bytes under another name
module _ {a b : List ℕ} (same : a ≡ b) (wet : Bool) (xs : List ℕ) (at : ℕ) where
  pub fits-same : RoomFrom wet a at xs → RoomFrom wet b at xs
  fits-same f = rw same at f

  pub emits_same : (ys : List ℕ) (n : ℕ) → Emits wet b xs at ys n → Emits wet a xs at ys n
  emits_same ys n e = rw same e

-- ---- parts one after the other, up to a place

-- all of it was to be put from `at` on; what is left from m on is `rest`
pub record Left (wet : Bool) (all xs : List ℕ) (at : ℕ) (ys : List ℕ) (m : ℕ) (rest : List ℕ) : Type 0 where
  pub front : List ℕ
  pub both : Both all front rest
  pub put : Emits wet front xs at ys m
  pub fits : RoomFrom wet rest m ys

pub left-none : (wet : Bool) (all xs : List ℕ) (at : ℕ) → RoomFrom wet all at xs → Left wet all xs at xs at all
left-none wet all xs at f = record { front = []; both = record { is = refl }; put = emits_none wet [] xs at refl; fits = f }

module _ (wet : Bool) (all xs : List ℕ) (at : ℕ) (ys : List ℕ) (m : ℕ) (rest : List ℕ) (l : Left wet all xs at ys m rest) where
  pub left-done : rest ≡ [] → Emits wet all xs at ys m
  left-done e = emits_both l.both wet xs at ys m l.put ys m (emits_none wet rest ys m e)

  module _ (a b : List ℕ) (two : Both rest a b) where
    pub left-fits : RoomFrom wet a m ys
    left-fits = fits-first two wet ys m l.fits

    pub left_next : (zs : List ℕ) (n : ℕ) → Emits wet a ys m zs n → Left wet all xs at zs n b
    left_next zs n e = record {
      front = l.front ++ a;
      both = record { is = l.both.is ∙ ap (λ (z : List ℕ). l.front ++ z) two.is ∙ sym (append_assoc l.front a b) };
      put = emits_both (record { is = refl }) wet xs at ys m l.put zs n e;
      fits = fits-second two wet ys m zs n e l.fits;
    }

    -- the last part
    pub left-last : b ≡ [] → (zs : List ℕ) (n : ℕ) → Emits wet a ys m zs n → Emits wet all xs at zs n
    left-last e zs n g = emits_both l.both wet xs at ys m l.put zs n (emits_both two wet ys m zs n g zs n (emits_none wet b zs n e))

-- ---- a part of the output

module _ (w xs : List ℕ) (at : ℕ) (h : at + length w ≤ length xs) where
  part : take (length xs - at) (drop at xs) ≡ drop at xs
  part = take_all (length xs - at) (drop at xs) (omega (arith, length-drop at xs))

  pub part-over : (last : List ℕ) → last ≡ over w (take (length xs - at) (drop at xs)) → take at xs ++ (last ++ drop (length xs - at) (drop at xs)) ≡ sets xs at w
  unfolding over
  part-over last e =
      rw (e, part, drop_of_length-le (drop at xs) {i = length xs - at} (omega (arith, length-drop at xs)), append-nil, drop-drop (length w) at xs)
      (sym (sets-eq w xs at h ∙ append_assoc (take at xs) w (drop (at + length w) xs)))

-- ---- what each function puts

fits_wet : (wet : Bool) (w xs : List ℕ) (at : ℕ) → RoomFrom wet w at xs → wet ≡ true → at + length w ≤ length xs
fits_wet true w xs at f e = f.room
fits_wet false w xs at f e = let z : ◌≡◌ {A = ℕ} 0 1 = cc in absurd (omega arith)

-- a wet walk
emits_wet : (wet : Bool) (w xs : List ℕ) (at : ℕ) → wet ≡ true → (ys : List ℕ) → ys ≡ sets xs at w → (next : ℕ) → next ≡ at + length w → Emits wet w xs at ys next
unfolding written
emits_wet true w xs at e ys h next q = record { is = h; long = ap length h ∙ length-sets xs at w; to = q }
emits_wet false w xs at e ys h next q = let z : ◌≡◌ {A = ℕ} 0 1 = cc in absurd (omega arith)

-- a dry one
emits_dry : (wet : Bool) (w xs : List ℕ) (at : ℕ) → wet ≡ false → (next : ℕ) → next ≡ at + length w → Emits wet w xs at xs next
unfolding written
emits_dry true w xs at e next q = let z : ◌≡◌ {A = ℕ} 0 1 = cc in absurd (omega arith)
emits_dry false w xs at e next q = record { is = refl; long = refl; to = q }

-- bytes of the file
module _ (file : List ℕ) (from count : ℕ) (inside : from + count ≤ length file) (wet : Bool) (xs : List ℕ) (at : ℕ) (f : RoomFrom wet (take count (drop from file)) at xs) where
  pub copy-length : length (take count (drop from file)) ≡ count
  copy-length = simp (length-take, length-drop) (omega arith)

  pub copy-small : at + count < 18446744073709551616
  copy-small = omega (arith, copy-length, f.small)

  pub copy_dry : wet ≡ false → Emits wet (take count (drop from file)) xs at xs (at + count)
  copy_dry e = emits_dry wet (take count (drop from file)) xs at e (at + count) (ap (λ (k : ℕ). at + k) (sym copy-length))

  module _ (e : wet ≡ true) where
    pub copy_start : at ≤ length xs
    copy_start = omega (arith, fits_wet wet (take count (drop from file)) xs at f e)

    pub copy_room : count ≤ length (take (length xs - at) (drop at xs))
    copy_room = simp (length-take, length-drop) (omega (arith, copy-length, fits_wet wet (take count (drop from file)) xs at f e))

    pub copy_wet : (last : List ℕ) → Wrote (take (length xs - at) (drop at xs)) (take count (drop from file)) last
        → Emits wet (take count (drop from file)) xs at (take at xs ++ (last ++ drop (length xs - at) (drop at xs))) (at + count)
    copy_wet last w =
        emits_wet wet (take count (drop from file)) xs at e _ (part-over (take count (drop from file)) xs at (fits_wet wet (take count (drop from file)) xs at f e) last w.is)
        (at + count) (ap (λ (k : ℕ). at + k) (sym copy-length))

pub ruleset copy_laws = (copy-small, copy_dry, copy_start, copy_room, copy_wet)

-- a number of four bytes
module _ (value : ℕ) (wet : Bool) (xs : List ℕ) (at : ℕ) (f : RoomFrom wet (bytes value []) at xs) where
  pub word_small : at + 4 < 18446744073709551616
  word_small = omega (arith, f.small)

  pub word_dry : wet ≡ false → Emits wet (bytes value []) xs at xs (at + 4)
  word_dry e = emits_dry wet (bytes value []) xs at e (at + 4) refl

  module _ (e : wet ≡ true) where
    pub word-start : at ≤ length xs
    word-start = omega (arith, fits_wet wet (bytes value []) xs at f e)

    pub word_room : 4 ≤ length (take (length xs - at) (drop at xs))
    word_room = simp (length-take, length-drop) (omega (arith, fits_wet wet (bytes value []) xs at f e))

    pub word_wet : (last : List ℕ) → last ≡ over (bytes value []) (take (length xs - at) (drop at xs))
        → Emits wet (bytes value []) xs at (take at xs ++ (last ++ drop (length xs - at) (drop at xs))) (at + 4)
    word_wet last w = emits_wet wet (bytes value []) xs at e _ (part-over (bytes value []) xs at (fits_wet wet (bytes value []) xs at f e) last w) (at + 4) refl

pub ruleset word_laws = (word_small, word_dry, word-start, word_room, word_wet)

-- a number in groups
module _ (n : ℕ) (wet : Bool) (xs : List ℕ) (at : ℕ) (f : RoomFrom wet (groups n []) at xs) where
  group-length : length (groups n []) ≡ groups_of n
  unfolding groups_of
  group-length = refl

  pub group-small : (k : ℕ) → k ≡ groups_of n → at + k < 18446744073709551616
  group-small k e = omega (arith, group-length, f.small)

  pub group_dry : wet ≡ false → (k : ℕ) → k ≡ groups_of n → Emits wet (groups n []) xs at xs (at + k)
  group_dry e k q = emits_dry wet (groups n []) xs at e (at + k) (ap (λ (j : ℕ). at + j) (q ∙ sym group-length))

  module _ (e : wet ≡ true) where
    pub group-room : at + groups_of n ≤ length xs
    group-room = omega (arith, group-length, fits_wet wet (groups n []) xs at f e)

    pub group_wet : (ys : List ℕ) (next : ℕ) → PutAt (groups n []) xs at ys next → Emits wet (groups n []) xs at ys next
    group_wet ys next p = emits_wet wet (groups n []) xs at e ys p.is next p.to

pub ruleset group_laws = (group-small, group_dry, group-room, group_wet)
