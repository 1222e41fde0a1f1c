-- The laws of `Wrote`: writes one after the other, a part that comes back, a write over what was left free in front.
use Prim.Native.Nat.{ℕ, suc, ◌+◌, ◌-◌, ◌<◌, ◌≤◌}
use native.Mathlib.Omega.{arith}
use mathlib.Core.Path.{◌≡◌, refl, ap, sym, ◌∙◌}
use mathlib.Core.List.{List, [], ◌∷◌, ◌++◌, append_assoc, append-nil}
use lib.ListN.{length, take, drop, get_or, set, length-append, length-set, length-take, length-drop, take-append-drop, drop_of_length-le}
use lib.Seq.{drop-cons, set_at, take_all, drop-drop, take_at, drop_at, length-take-le}
use Rattle.wire.specs.Bytes.{over}
use Rattle.shared_output.specs.Writing.{Wrote}

-- nothing is written yet
pub wrote_none : (xs : List ℕ) → Wrote xs [] xs
unfolding over
wrote_none xs = record { is = refl; long = refl }

-- a front that is left free: it is as it was
pub wrote_free : (n : ℕ) (xs : List ℕ) → n ≤ length xs → Wrote xs (take n xs) xs
unfolding over
wrote_free n xs h = record { is = rw (length-take-le n xs h) (sym (take-append-drop n xs)); long = refl }

-- what is written over the front of a list that is long enough
pub wrote-over : (w xs ys : List ℕ) → length w ≤ length xs → ys ≡ over w xs → Wrote xs w ys
unfolding over
wrote-over w xs ys h e = record { is = e; long = rw e (simp (length-append, length-drop) (omega arith)) }

pub wrote-room : {xs w ys : List ℕ} → Wrote xs w ys → length w ≤ length xs
unfolding over
wrote-room {xs} {w} {ys} h = omega (arith, h.long, simp (length-append, length-drop) at (ap length h.is))

-- how long a part from n on is
pub part_length : (n : ℕ) (ys : List ℕ) → length (take (length ys - n) (drop n ys)) ≡ length ys - n
part_length n ys = simp (length-take, length-drop) (omega arith)

-- the part of ys from n on, behind what is written, was lent, and came back with w in front
pub wrote-part : {xs p ys w zs : List ℕ} (n : ℕ) → Wrote xs p ys → length p ≡ n
    → Wrote (take (length ys - n) (drop n ys)) w zs
    → Wrote xs (p ++ w) (take n ys ++ (zs ++ drop (length ys - n) (drop n ys)))
unfolding over
wrote-part {xs} {p} {ys} {w} {zs} n h e g =
    let k : ℕ = length ys - n in
    let whole : length (drop n ys) ≤ k = simp length-drop (omega arith) in
    let front : take n ys ≡ p = ap (take n) h.is ∙ take_at p (drop (length p) xs) n e in
    let rest : drop n ys ≡ drop (length p) xs = ap (drop n) h.is ∙ drop_at p (drop (length p) xs) n e in
    let none : drop k (drop n ys) ≡ [] = drop_of_length-le (drop n ys) whole in
    let all : take k (drop n ys) ≡ drop (length p) xs = take_all k (drop n ys) whole ∙ rest in
    let written : zs ≡ w ++ drop (length p + length w) xs = g.is ∙ ap (λ (l : List ℕ). w ++ drop (length w) l) all ∙ ap (λ (l : List ℕ). w ++ l) (drop-drop (length w) (length p) xs) in
    record {
      is = rw (front, none, written, append-nil, length-append) (sym (append_assoc p w (drop (length p + length w) xs)));
      long = simp (length-append, length-take, length-drop) (omega (arith, wrote-room h, h.long, simp (length-take, length-drop) at g.long));
    }

-- h is laid over p, which stands before w
pub wrote-before : {xs ys h zs : List ℕ} (p w : List ℕ) → Wrote xs (p ++ w) ys → Wrote ys h zs → length h ≡ length p → Wrote xs (h ++ w) zs
unfolding over
wrote-before {xs} {ys} {h} {zs} p w a b e =
    let behind : drop (length h) ys ≡ w ++ drop (length (p ++ w)) xs =
    ap (drop (length h)) (a.is ∙ append_assoc p w (drop (length (p ++ w)) xs)) ∙ drop_at p (w ++ drop (length (p ++ w)) xs) (length h) (sym e) in
    let same : length (p ++ w) ≡ length (h ++ w) = simp length-append (omega arith) in
    record {
      is = b.is ∙ ap (λ (l : List ℕ). h ++ l) (behind ∙ ap (λ (n : ℕ). w ++ drop n xs) same) ∙ sym (append_assoc h w (drop (length (h ++ w)) xs));
      long = b.long ∙ a.long;
    }

-- one byte more
pub wrote-byte : {xs w ys : List ℕ} (v n : ℕ) → Wrote xs w ys → length w ≡ n → n < length xs → Wrote xs (w ++ (v ∷ [])) (set ys n v)
unfolding over
wrote-byte {xs} {w} {ys} v n h e lt =
    let next : ys ≡ w ++ (get_or xs n 0 ∷ drop (suc n) xs) = h.is ∙ rw (e, drop-cons xs n 0 lt) in
    let l : length (w ++ (v ∷ [])) ≡ suc n = length-append w (v ∷ []) ∙ omega (arith, e) in
    record {
      is = rw (next, l, set_at w (get_or xs n 0) (drop (suc n) xs) v n e, append_assoc);
      long = length-set ys n v ∙ h.long;
    }
