-- A header that is put after its body.
use mathlib.Core.Path.{◌≡◌, refl, sym, ap, ap₂, subst, ◌∙◌}
use Prim.Native.Nat.{ℕ, suc, ◌+◌, ◌-◌, ◌<◌, ◌≤◌}
use native.Mathlib.Omega.{arith}
use mathlib.Core.Bool.{Bool, true, false, not}
use mathlib.Core.List.{List, [], ◌∷◌, ◌++◌}
use lib.ListN.{length, take, drop, set, length-take, length-drop}
use lib.Seq.{sets, length-sets, set_comm}
use borrow.Author.Tests.{not-true, not-false}
use Rattle.wire.specs.Bytes.{bytes}
use Rattle.shared_output.specs.Writing.{Wrote, head}
use Rattle.b3d_spec.specs.declared.Tag.{Tag}
use Rattle.b3d_spec.specs.Tags.{code}
use Rattle.shared_put_or_count.specs.Emits.{written, RoomFrom, Emits}
use Rattle.shared_table_words.proofs.StoreLaws.{sets-append}
use Rattle.shared_put_or_count.proofs.PutLaws.{part-over}
use Rattle.b3d_mend_write_scopes.specs.Shown.{headed}
use Rattle.b3d_mend_write_scopes.specs.Heads.{body_at}
use Rattle.b3d_mend_write_scopes.specs.HeadRooms.{head_wet, head_end, HeadRoom}

eight : (tag size : ℕ) → length (head tag size []) ≡ 8
unfolding head
eight tag size = refl

-- ---- what `put_head` leaves

module _ (report wet : Bool) (at size : ℕ) (xs : List ℕ) (tag : ℕ) where
  pub head-report : report ≡ true → xs ≡ written (head_wet report wet) (head tag size []) at xs
  unfolding written
  head-report e = rw e

  pub head_dry : report ≡ false → not wet ≡ true → xs ≡ written (head_wet report wet) (head tag size []) at xs
  unfolding written
  head_dry e d = rw (e, not-true wet d)

  module _ (r : HeadRoom report wet at size xs) (e : report ≡ false) (d : not wet ≡ false) where
    room : at + 8 ≤ length xs
    room = subst (λ (b : Bool). at + 8 ≤ head_end b at xs) (ap₂ head_wet e (not-false wet d)) r.room

    pub head-start : at ≤ length xs
    head-start = omega (arith, room)

    pub head-fits : 8 ≤ length (take (length xs - at) (drop at xs))
    head-fits = simp (length-take, length-drop) (omega (arith, room))

    pub head-wet : (k : ℕ) → k ≡ tag → (last : List ℕ) → Wrote (take (length xs - at) (drop at xs)) (head k size []) last
        → take at xs ++ (last ++ drop (length xs - at) (drop at xs)) ≡ written (head_wet report wet) (head tag size []) at xs
    unfolding written
    head-wet k ek last w =
        rw (e, not-false wet d) (part-over (head tag size []) xs at (omega (arith, room, eight tag size)) last (rw ek at w.is))

pub ruleset head_laws = (head-report, head_dry, head-start, head-fits, head-wet)

-- ---- a body, then its header before it

set_before : (x xs : List ℕ) (i p v : ℕ) → i < p → set (sets xs p x) i v ≡ sets (set xs i v) p x
set_before [] xs i p v h = refl
set_before (u ∷ x) xs i p v h = set_before x (set xs p u) i (suc p) v (omega arith) ∙ ap (λ (l : List ℕ). sets l (suc p) x) (set_comm xs p i u v (λ e. absurd (omega arith)))

sets-before : (h x xs : List ℕ) (at p : ℕ) → at + length h ≤ p → sets (sets xs p x) at h ≡ sets (sets xs at h) p x
sets-before [] x xs at p le = refl
sets-before (v ∷ h) x xs at p le = ap (λ (l : List ℕ). sets l (suc at) h) (set_before x xs at p v (omega arith)) ∙ sets-before h x (set xs at v) (suc at) p (omega arith)

header_is : (t : Tag) (x : List ℕ) → headed false t x ≡ head (code t) (length x) [] ++ x
unfolding headed head
header_is t x = let e : length x ≡ 0 + length x = omega arith in ap (λ (n : ℕ). bytes (code t) (bytes n x)) e

header-long : (t : Tag) (x : List ℕ) → length (headed false t x) ≡ 8 + length x
unfolding headed
header-long t x = omega arith

report-long : (t : Tag) (x : List ℕ) → length (headed true t x) ≡ length x
unfolding headed
report-long t x = refl

report-chunk : (t : Tag) (n : ℕ) {x xs ys zs : List ℕ} {at m : ℕ} (w : Bool) → Emits w x xs at ys m → zs ≡ written false (head (code t) n []) at ys → Emits w (headed true t x) xs at zs m
unfolding headed written
report-chunk t n w h z = rw z h

dry_chunk : (t : Tag) (n : ℕ) {x xs ys zs : List ℕ} {at m : ℕ} → Emits false x xs (at + 8) ys m → zs ≡ written false (head (code t) n []) at ys → Emits false (headed false t x) xs at zs m
unfolding written
dry_chunk t n {x} h z = record { is = z ∙ h.is; long = ap length z ∙ h.long; to = omega (arith, h.to, header-long t x) }

wet_chunk : (t : Tag) (n : ℕ) {x xs ys zs : List ℕ} {at m : ℕ} → Emits true x xs (at + 8) ys m → n ≡ length x → zs ≡ written true (head (code t) n []) at ys → Emits true (headed false t x) xs at zs m
unfolding written
wet_chunk t n {x} {xs} {ys} {zs} {at} {m} h e z =
    let put : zs ≡ sets xs at (headed false t x) =
    z ∙ ap₂ (λ (l : List ℕ) (k : ℕ). sets l at (head (code t) k [])) h.is e
    ∙ sets-before (head (code t) (length x) []) x xs at (at + 8) (omega (arith, eight (code t) (length x)))
    ∙ ap (λ (k : ℕ). sets (sets xs at (head (code t) (length x) [])) (at + k) x) (sym (eight (code t) (length x)))
    ∙ sym (ap (sets xs at) (header_is t x) ∙ sets-append (head (code t) (length x) []) x xs at) in
    record { is = put; long = ap length put ∙ length-sets xs at (headed false t x); to = omega (arith, h.to, header-long t x) }

-- what the body needs of the room, and what both come to
module _ (report wet : Bool) (t : Tag) (x xs : List ℕ) (at : ℕ) (f : RoomFrom wet (headed report t x) at xs) where
  pub chunk-fits : RoomFrom wet x (body_at report at) xs
  unfolding headed
  chunk-fits = go report f
    where
      go : (b : Bool) → RoomFrom wet (headed b t x) at xs → RoomFrom wet x (body_at b at) xs
      go true g = g
      go false g = record { room = omega (arith, g.room, header-long t x); small = omega (arith, g.small, header-long t x) }

  module _ (ys : List ℕ) (m : ℕ) (e : Emits wet x xs (body_at report at) ys m) where
    pub chunk-room : (size : ℕ) → size ≡ m - body_at report at → HeadRoom report wet at size ys
    chunk-room size es = go report wet f e (es ∙ ap (λ (k : ℕ). k - body_at report at) e.to)
      where
        go : (b w : Bool) → RoomFrom w (headed b t x) at xs → Emits w x xs (body_at b at) ys m → size ≡ body_at b at + length x - body_at b at → HeadRoom b w at size ys
        go true true g h q = record { room = omega arith; small = omega (arith, g.small, report-long t x) }
        go true false g h q = record { room = omega arith; small = omega (arith, g.small, report-long t x) }
        go false true g h q = record { room = omega (arith, g.room, h.long, header-long t x); small = omega (arith, g.small, header-long t x) }
        go false false g h q = record { room = omega arith; small = omega (arith, g.small, header-long t x) }

    pub chunk-done : (size : ℕ) → size ≡ m - body_at report at → (zs : List ℕ) → zs ≡ written (head_wet report wet) (head (code t) size []) at ys → Emits wet (headed report t x) xs at zs m
    chunk-done size es zs ez = go report wet e (es ∙ ap (λ (k : ℕ). k - body_at report at) e.to) ez
      where
        go : (b w : Bool) → Emits w x xs (body_at b at) ys m → size ≡ body_at b at + length x - body_at b at → zs ≡ written (head_wet b w) (head (code t) size []) at ys → Emits w (headed b t x) xs at zs m
        go true w h q z = report-chunk t size w h z
        go false true h q z = wet_chunk t size h (omega arith) z
        go false false h q z = dry_chunk t size h z

pub ruleset chunk_laws = (chunk-fits, chunk-room, chunk-done)
