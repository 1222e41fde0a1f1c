-- The rows of a KEYS on any bytes: a law for each way through `store_keys`.
use mathlib.Core.Path.{◌≡◌, refl, ap, ap₂, sym, ◌∙◌}
use Prim.Native.Nat.{ℕ, ◌+◌, ◌-◌, ◌*◌, ◌/◌, ◌<◌, ◌≤◌, ◌^◌}
use native.Mathlib.Nat.{zero-div, div-mul-le_self, zero-mul, suc-mul}
use native.Mathlib.Omega.{arith}
use mathlib.Core.Bool.{Bool}
use mathlib.Core.List.{List, [], ◌∷◌, map}
use mir.Syntax.{w64}
use mir.Val.{Fits}
use lib.ListN.{length, drop, get_or, length-append, drop_of_length-le}
use lib.Seq.{sets}
use Rattle.wire.specs.Bytes.{word_at}
use Rattle.wire.specs.Cursors.{Inside, left}
use Rattle.wire.specs.declared.Cursor.{Cursor}
use Rattle.wire.proofs.LeftLaws.{span, left-length, left-four, left-drop}
use Rattle.layout.specs.Parts.{words_of, items_of}
use Rattle.layout.proofs.StepLaws.{length-items-of}
use Rattle.b3d_spec.specs.Mask.{mask, ones, padded, key_has, key_mask}
use Rattle.layout.specs.Rows.{joined}
use Rattle.b3d_spec.proofs.Rows.MaskLaws.{mask-length, spread_length}
use Rattle.b3d_spec_plain_rows.specs.Plain.{whole, plain_keys}
use Rattle.b3d_read_item_rows.specs.Items.{key_rows_of}

pub spread_cells : (m : List Bool) (l : List (List ℕ)) → length (joined (map (padded m) l)) ≡ length l * length m
unfolding joined
spread_cells m [] = sym (zero-mul (length m))
spread_cells m (x ∷ l) = rw (length-append (padded m x) (joined (map (padded m) l)), spread_length m x, spread_cells m l) (omega (arith, suc-mul (length l) (length m)))

module _ (s : List ℕ) (b : Cursor) (i : Inside b (length s)) where
  -- fewer bytes than the flags
  none : b.end - b.at < 4 → key_rows_of (left b s) ≡ []
  unfolding key_rows_of plain_keys whole
  none h =
      let l = left-length s b i in
      let z : drop 4 (left b s) ≡ [] = drop_of_length-le (left b s) {i = 4} (omega arith) in
      rw (z, zero-div)

  module _ (h : b.end - b.at < 4) (base : ℕ) where
    pub short-end : base ≡ base + length (joined (key_rows_of (left b s)))
    unfolding joined
    short-end = rw (none h) (omega arith)

    pub short-put : (out : List ℕ) → out ≡ sets out base (joined (key_rows_of (left b s)))
    unfolding joined
    short-put out = rw (none h)

  module _ (h : 4 ≤ b.end - b.at) (flags : ℕ) (ef : flags ≡ word_at s b.at) (width : ℕ) (ew : width ≡ ones (key_mask flags)) (count : ℕ) (ec : count ≡ (b.end - (b.at + 4)) / (4 * width)) where
    after : Cursor
    after = span (b.at + 4) b.end

    flags_are : get_or (words_of 1 (left b s)) 0 0 ≡ flags
    unfolding word_at after
    flags_are = rw (left-four s b (span (b.at + 4) b.end) i (omega arith) refl refl) (sym ef)

    rows_are : key_rows_of (left b s) ≡ map (padded (key_mask flags)) (items_of count width (left (span (b.at + 4) b.end) s))
    unfolding key_rows_of plain_keys whole
    rows_are =
        let d = left-drop s b 4 (span (b.at + 4) b.end) refl refl in
        let l = left-length s (span (b.at + 4) b.end) (record { before = omega arith; within = i.within }) in
        rw (flags_are, ← d, l, ← ew, ← ec)

    cells : length (joined (key_rows_of (left b s))) ≡ count * 11
    unfolding key_mask
    cells =
        let l = items_of count width (left (span (b.at + 4) b.end) s) in
        ap (λ (x : List (List ℕ)). length (joined x)) rows_are ∙ spread_cells (mask (key_has flags) 11 0) l
        ∙ ap₂ ◌*◌ (length-items-of count width (left (span (b.at + 4) b.end) s)) (mask-length (key_has flags) 11 0)

    pub keys-inside : Inside (span (b.at + 4) b.end) (length s)
    keys-inside = record { before = omega arith; within = i.within }

    pub keys-place : b.at + 4 + count * (4 * width) ≤ b.end
    keys-place = rw ec (omega (arith, div-mul-le_self (b.end - (b.at + 4)) (4 * width)))

    module _ (base : ℕ) (out : List ℕ) where
      pub keys-room : base + length (joined (key_rows_of (left b s))) ≤ length out → base + count * 11 ≤ length out
      keys-room room = omega (arith, cells)

      pub keys-put : (put : List ℕ) → put ≡ sets out base (joined (map (padded (key_mask flags)) (items_of count width (left (span (b.at + 4) b.end) s)))) → put ≡ sets out base (joined (key_rows_of (left b s)))
      keys-put put e = e ∙ ap (λ (l : List (List ℕ)). sets out base (joined l)) (sym rows_are)

    module _ (base : ℕ) (out : List ℕ) (room : base + length (joined (key_rows_of (left b s))) ≤ length out) where
      module _ (slice : length out * 4 < 2 ^ 63) where
        pub keys-many : Fits w64 (count * 11)
        keys-many = record { fits = omega (arith, cells) }

        pub keys-sum : Fits w64 (base + count * 11)
        keys-sum = record { fits = omega (arith, cells) }

    pub keys-end : (base : ℕ) → base + count * 11 ≡ base + length (joined (key_rows_of (left b s)))
    keys-end base = ap (λ (k : ℕ). base + k) (sym cells)

pub ruleset key_laws = (short-end, short-put, keys-inside, keys-place, keys-room, keys-put, keys-end, keys-many, keys-sum)
