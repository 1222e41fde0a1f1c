-- Items that are all there, copied: a law for each need of `store_items`.
use mathlib.Core.Path.{◌≡◌, refl, ap, sym, ◌∙◌}
use Prim.Native.Nat.{ℕ, ◌+◌, ◌-◌, ◌*◌, ◌/◌, ◌<◌, ◌≤◌, ◌^◌}
use native.Mathlib.Nat.{div-mul-le_self}
use native.Mathlib.Omega.{arith}
use mathlib.Core.List.{List}
use mir.Syntax.{w64}
use mir.Val.{Fits}
use lib.ListN.{length}
use lib.Seq.{sets}
use Rattle.wire.specs.Cursors.{Inside, left}
use Rattle.wire.specs.declared.Cursor.{Cursor}
use Rattle.wire.proofs.LeftLaws.{left-length}
use Rattle.layout.specs.Parts.{words_of}
use Rattle.layout.proofs.StepLaws.{length-words-of}
use Rattle.layout.specs.Rows.{joined}
use Rattle.b3d_spec_plain_rows.proofs.ItemLaws.{words-items}
use Rattle.b3d_spec_plain_rows.specs.Plain.{whole}

-- so many groups of w words are so many bytes
four : (k w : ℕ) → k * (4 * w) ≡ 4 * (k * w)
four k w = omega arith

module _ (s : List ℕ) (c : Cursor) (i : Inside c (length s)) (w n : ℕ) (en : n ≡ (c.end - c.at) / (4 * w) * w) where
  enough : (c.end - c.at) / (4 * w) * (4 * w) ≤ c.end - c.at
  enough = div-mul-le_self (c.end - c.at) (4 * w)

  place : c.at + 4 * n ≤ c.end
  place = rw en (omega (arith, four ((c.end - c.at) / (4 * w)) w, enough, i.before))

  are : joined (whole w (left c s)) ≡ words_of n (left c s)
  unfolding whole
  are =
      let l = left-length s c i in
      rw (l, en) (words-items ((c.end - c.at) / (4 * w)) w (left c s) (omega (arith, l, enough)))

  long : length (joined (whole w (left c s))) ≡ n
  long = ap length are ∙ length-words-of n (left c s) (omega (arith, left-length s c i, place, i.before))

module _ (s : List ℕ) (c : Cursor) (i : Inside c (length s)) (w base : ℕ) (out : List ℕ) (room : base + length (joined (whole w (left c s))) ≤ length out) where
  pub items-many : length out * 4 < 2 ^ 63 → Fits w64 ((c.end - c.at) / (4 * w) * w)
  items-many slice = record { fits = omega (arith, long s c i w ((c.end - c.at) / (4 * w) * w) refl) }

  module _ (n : ℕ) (en : n ≡ (c.end - c.at) / (4 * w) * w) where
    pub items-place : c.at + 4 * n ≤ c.end
    items-place = place s c i w n en

    pub items_room : base + n ≤ length out
    items_room = omega (arith, long s c i w n en)

    pub items_sum : length out * 4 < 2 ^ 63 → Fits w64 (base + n)
    items_sum slice = record { fits = omega (arith, long s c i w n en) }

    pub items-end : base + n ≡ base + length (joined (whole w (left c s)))
    items-end = ap (λ (k : ℕ). base + k) (sym (long s c i w n en))

  pub items-put : (put : List ℕ) → put ≡ sets out base (words_of ((c.end - c.at) / (4 * w) * w) (left c s)) → put ≡ sets out base (joined (whole w (left c s)))
  items-put put e = e ∙ ap (sets out base) (sym (are s c i w ((c.end - c.at) / (4 * w) * w) refl))

pub ruleset items_laws = (items-many, items-place, items_room, items_sum, items-end, items-put)
