-- Text that is put in one after the other.
use mathlib.Core.Path.{◌≡◌, refl, ap, sym, ◌∙◌}
use Prim.Native.Nat.{ℕ, suc, ◌+◌, ◌-◌, ◌<◌, ◌≤◌}
use native.Mathlib.Omega.{arith}
use mathlib.Core.List.{List, [], ◌∷◌, ◌++◌}
use lib.ListN.{length, drop, set, length-set, length-append}
use lib.Dec.{ltb, ltb→lt, nltb→le}
use lib.Seq.{sets, length-sets, set_out, sets-eq}
use Rattle.wire.specs.Bytes.{over}
use Rattle.layout.proofs.ResultLaws.{by_test}
use Rattle.shared_table_words.proofs.StoreLaws.{sets-append}
use Rattle.b3d_list_text.specs.Puts.{Puts}

-- what goes to the end or past it changes nothing
sets-past : (w xs : List ℕ) (i : ℕ) → length xs ≤ i → sets xs i w ≡ xs
sets-past [] xs i h = refl
sets-past (b ∷ w) xs i h = rw (set_out xs i b h) (sets-past w xs (suc i) (omega arith))

module _ (b : ℕ) (xs : List ℕ) (at : ℕ) where
  pub put_room : at < length xs → Puts (b ∷ []) xs at (set xs at b) (at + 1)
  put_room h = record { is = refl; long = length-set xs at b; reached = omega arith }

  pub put_full : length xs ≤ at → at ≤ length xs → Puts (b ∷ []) xs at xs at
  put_full h k = record { is = sym (sets-past (b ∷ []) xs at h); long = refl; reached = omega arith }

pub ruleset put_laws = (put_room, put_full)

pub put-none : (xs : List ℕ) (at : ℕ) → at ≤ length xs → Puts [] xs at xs at
put-none xs at h = record { is = refl; long = refl; reached = omega arith }

-- one text after the other is both
pub put_both : (v w xs : List ℕ) (at : ℕ) (ys : List ℕ) (p : ℕ) (zs : List ℕ) (q : ℕ) → Puts v xs at ys p → Puts w ys p zs q → Puts (v ++ w) xs at zs q
put_both v w xs at ys p zs q h k =
    let n = length-append v w in
    record {
      is =
          by_test (ltb (length xs) (at + length v))
          (λ t. let o = ltb→lt (length xs) (at + length v) t in
          k.is ∙ sets-past w ys p (omega (arith, h.long, h.reached)) ∙ h.is
          ∙ sym (sets-append v w xs at ∙ sets-past w (sets xs at v) (at + length v) (omega (arith, length-sets xs at v))))
          (λ t. let o = nltb→le (length xs) (at + length v) t in
          let e : p ≡ at + length v = omega (arith, h.reached) in
          k.is ∙ ap (λ (i : ℕ). sets ys i w) e ∙ ap (λ (l : List ℕ). sets l (at + length v) w) h.is ∙ sym (sets-append v w xs at));
      long = k.long ∙ h.long;
      reached = omega (arith, n, h.long, h.reached, k.reached);
    }

-- the next text begins in the output or at its end
pub put_inside : (w xs : List ℕ) (at : ℕ) (ys : List ℕ) (p : ℕ) → Puts w xs at ys p → p ≤ length ys
put_inside w xs at ys p h = omega (arith, h.long, h.reached)

-- where there is room for it the whole text is put in
module _ (w xs ys : List ℕ) (p : ℕ) (h : Puts w xs 0 ys p) (k : length w ≤ length xs) where
  pub put_whole : ys ≡ over w xs
  unfolding over
  put_whole = h.is ∙ sets-eq w xs 0 (omega arith) ∙ ap (λ (i : ℕ). w ++ drop i xs) (let e : 0 + length w ≡ length w = omega arith in e)

  pub put-size : p ≡ length w
  put-size = omega (arith, h.reached)

-- ---- a text put in part by part: what is left from here makes what was to be put from the start

pub record Putting (all xs : List ℕ) (at : ℕ) (left ys : List ℕ) (p : ℕ) : Type 0 where
  pub long : length ys ≡ length xs
  pub inside : p ≤ length ys
  pub rest : (zs : List ℕ) (q : ℕ) → Puts left ys p zs q → Puts all xs at zs q

pub putting_start : (all xs : List ℕ) (at : ℕ) → at ≤ length xs → Putting all xs at all xs at
putting_start all xs at h = record { long = refl; inside = h; rest = λ zs q k. k }

module _ (all xs : List ℕ) (at : ℕ) (left ys : List ℕ) (p : ℕ) (g : Putting all xs at left ys p) where
  pub putting_part : (v w zs : List ℕ) (q : ℕ) → left ≡ v ++ w → Puts v ys p zs q → Putting all xs at w zs q
  putting_part v w zs q e h =
      record {
        long = h.long ∙ g.long;
        inside = put_inside v ys p zs q h;
        rest = λ us r k. g.rest us r (rw e (put_both v w ys p zs q us r h k));
      }

  pub putting_done : left ≡ [] → Puts all xs at ys p
  putting_done e = g.rest ys p (rw e (put-none ys p g.inside))
