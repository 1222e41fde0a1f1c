-- What reader, writer and clearer have seen to where they accept, and that 1 to 10 are answered whatever is lent.
use mathlib.Core.Path.{◌≡◌, refl, sym, subst, ◌∙◌}
use Prim.Native.Nat.{ℕ, ◌*◌, ◌≤◌, ◌<◌}
use native.Mathlib.Omega.{arith}
use mathlib.Core.Bool.{Bool}
use mathlib.Core.Option.{Option, none, some}
use mathlib.Core.List.{List, [], ◌∷◌}
use lib.ListN.{length}
use lib.Dec.{T, leb, ltb, leb→le, le→leb, ltb→lt, nltb→le}
use borrow.Author.Tests.{lt-leb, le-leb, lt-ltb, le-ltb}
use Rattle.wire.specs.Test.{if}
use Rattle.layout.specs.Result.{Result, accept, reject, ◌>>=◌}
use Rattle.layout.proofs.AllLaws.{All, all_map}
use Rattle.layout.proofs.ResultLaws.{by_test, if_yes, if_no, by-check, by_got, bad_got, check-yes, got_inj, check-no, each_got, each-yes}
use Rattle.layout.specs.Rows.{each_of, most_bytes}
use Rattle.b3d_spec.specs.declared.Mode.{Mode}
use Rattle.b3d_spec.specs.declared.Mode.TheVariants.{Lenient}
use Rattle.b3d_spec.specs.declared.Written.{Written}
use Rattle.b3d_spec.proofs.TwoModeLaws.{mode_got}
use Rattle.b3d_spec.specs.Answers.{first_not, judge, read, room_for, shortest, write, clear}
use Rattle.b3d_spec.specs.Encode.{encode}
use Rattle.b3d_spec.specs.Parse.{parse}
use Rattle.b3d_spec.specs.Rebuild.{Lent, rebuild}
use Rattle.b3d_spec.specs.Rules.{row_limit}
use Rattle.b3d_spec.specs.Scene.{Scene}
use Rattle.b3d_spec.specs.Tables.{width, rows, tables}

-- ---- ten tables, each within a bound

-- the test holds of each just where the first without it is 0; else that is refused
module _ (n : ℕ) (ok : ℕ → Bool) where
  pub first-none : (ks : List ℕ) → All (λ k. 0 < k) ks → first_not ok ks ≡ 0 → each_of n ok ks ≡ accept tt
  unfolding first_not each_of
  first-none [] h e = refl
  first-none (k ∷ ks) h e =
      by_test (ok k)
      (λ t. rw (check-yes (ok k) n k t) (first-none ks h.1 (sym (if_yes (ok k) (first_not ok ks) k t) ∙ e)))
      (λ t. let z : k ≡ 0 = sym (if_no (ok k) (first_not ok ks) k t) ∙ e in absurd (omega (arith, h.0)))

  pub first_some : (ks : List ℕ) → (first_not ok ks ≡ 0 → ⊥) → each_of n ok ks ≡ reject n (first_not ok ks)
  unfolding first_not each_of
  first_some [] d = absurd (d refl)
  first_some (k ∷ ks) d =
      by_test (ok k)
      (λ t. let z = if_yes (ok k) (first_not ok ks) k t in rw (check-yes (ok k) n k t, z) (first_some ks (λ q. d (z ∙ q))))
      (λ t. rw (check-no (ok k) n k t, if_no (ok k) (first_not ok ks) k t))

-- a bound that is passed, or not kept
pub over-not : {A : Type 0} (a b : ℕ) (x y : A) → if (ltb a b) x y ≡ if (leb b a) y x
unfolding if
over-not a b x y =
    by_test (ltb a b)
    (λ t. rw (lt-ltb a b (ltb→lt a b t), lt-leb b a (ltb→lt a b t)))
    (λ t. rw (le-ltb a b (nltb→le a b t), le-leb b a (nltb→le a b t)))

module _ (n : ℕ) (size : ℕ → Scene → ℕ) (most : ℕ → ℕ) where
  abbrev Within : Scene → Type 0
  Within t = All (λ k. size k t ≤ most k) tables

  abbrev held : Scene → Result Scene
  held t = each_of n (λ k. leb (size k t) (most k)) tables >>= λ x. accept t

  within_got : (m : Result Scene) (t : Scene) → (m >>= held) ≡ accept t → (m ≡ accept t) × Within t
  within_got m t e =
      by_got m _ e (λ u eu e₁. by_got (each_of n _ tables) _ e₁ (λ x ex e₂.
      subst (λ (v : Scene). (m ≡ accept v) × Within v) (got_inj e₂)
      (eu, all_map (λ k. T (leb (size k u) (most k))) _ (λ k. leb→le (size k u) (most k)) tables (each_got n _ tables ex))))

  within-yes : (t : Scene) → Within t → held t ≡ accept t
  within-yes t h = rw (each-yes n (λ k. leb (size k t) (most k)) tables (all_map (λ k. size k t ≤ most k) _ (λ k. le→leb (size k t) (most k)) tables h))

-- ---- reader

-- no table has more rows than the limit; each has room
abbrev pub Small : Scene → Type 0
Small t = All (λ k. length (rows k t) ≤ row_limit) tables

abbrev pub Roomy : (ℕ → ℕ) → Scene → Type 0
Roomy room t = All (λ k. width k * length (rows k t) ≤ room k) tables

pub judge_got : (mode : Mode) (s : List ℕ) (t : Scene) → judge mode s ≡ accept t → (parse mode s ≡ accept t) × Small t
unfolding judge
judge_got mode s t e = within_got 10 (λ k t. length (rows k t)) (λ k. row_limit) (parse mode s) t e

pub judge-yes : (mode : Mode) (s : List ℕ) (t : Scene) → parse mode s ≡ accept t → Small t → judge mode s ≡ accept t
unfolding judge
judge-yes mode s t e h = rw e (within-yes 10 (λ k t. length (rows k t)) (λ k. row_limit) t h)

-- what a mode accepts the lenient one accepts
pub judge_lenient : (mode : Mode) (s : List ℕ) (t : Scene) → judge mode s ≡ accept t → judge Lenient s ≡ accept t
judge_lenient mode s t e = let g = judge_got mode s t e in judge-yes Lenient s t (mode_got mode s t g.0).0 g.1

-- a file that is not accepted gets its refusal with any tables, and under the lenient mode with any output
pub judge-first : (mode : Mode) (s : List ℕ) (n p : ℕ) → judge mode s ≡ reject n p → (room : ℕ → ℕ) → read mode room s ≡ reject n p
unfolding read
judge-first mode s n p e room = rw e

pub clear_first : (s : List ℕ) (n p : ℕ) → judge Lenient s ≡ reject n p → (size : ℕ) → clear s size ≡ reject n p
unfolding clear
clear_first s n p e size = rw e

pub read_got : (mode : Mode) (room : ℕ → ℕ) (s : List ℕ) (t : Scene) → read mode room s ≡ accept t → (judge mode s ≡ accept t) × Roomy room t
unfolding read
read_got mode room s t e = within_got 11 (λ k t. width k * length (rows k t)) room (judge mode s) t e

pub read-yes : (mode : Mode) (room : ℕ → ℕ) (s : List ℕ) (t : Scene) → judge mode s ≡ accept t → Roomy room t → read mode room s ≡ accept t
unfolding read
read-yes mode room s t e h = rw e (within-yes 11 (λ k t. width k * length (rows k t)) room t h)

-- ---- writer

room_got : (room : ℕ) (b c : List ℕ) → room_for room b ≡ accept c → (b ≡ c) × (length b ≤ room)
unfolding room_for
room_got room b c e = by-check (leb (length b) room) 11 (length b) _ e (λ t e₁. (got_inj e₁, leb→le (length b) room t))

shortest_got : (o : Option Scene) (b : List ℕ) → shortest o ≡ accept b → (t : Scene) × (o ≡ some t) × (encode t ≡ b) × (length b ≤ most_bytes)
unfolding shortest
shortest_got none b e = bad_got e
shortest_got (some t) b e =
    by-check (leb (length (encode t)) most_bytes) 12 0 _ e (λ h e₁. subst (λ (c : List ℕ). (u : Scene) × (some t ≡ some u) × (encode u ≡ c) × (length c ≤ most_bytes)) (got_inj e₁)
    (t, refl, refl, leb→le (length (encode t)) most_bytes h))

-- what is written is the shortest file of the tables' scene, within the limit and the output
pub write_got : (mode : Mode) (T : Lent) (ns : List ℕ) (room : ℕ) (b : List ℕ) → write mode T ns room ≡ accept b
    → (t : Scene) × (rebuild mode T ns ≡ some t) × (encode t ≡ b) × (length b ≤ most_bytes) × (length b ≤ room)
unfolding write
write_got mode T ns room b e =
    by_got (shortest (rebuild mode T ns)) _ e (λ c ec e₁. let x = shortest_got (rebuild mode T ns) c ec in
    let y = room_got room c b e₁ in
    subst (λ (d : List ℕ). (t : Scene) × (rebuild mode T ns ≡ some t) × (encode t ≡ d) × (length d ≤ most_bytes) × (length d ≤ room)) y.0 (x.0, x.1, x.2, x.3, y.1))

-- two answers of one size
pub of_size : (m n : ℕ) → m ≡ n → ◌≡◌ {A = Written} (record { number = 0; place = 0; size = m }) (record { number = 0; place = 0; size = n })
of_size m n e = rw e
