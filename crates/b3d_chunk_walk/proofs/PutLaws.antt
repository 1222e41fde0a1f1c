-- Rows of the parts of one chunk, stored one after the other in a loop of their own.
use mathlib.Core.Path.{◌≡◌, refl, ap}
use Prim.Native.Nat.{ℕ, ◌+◌, ◌-◌, ◌≤◌}
use native.Mathlib.Omega.{arith}
use mathlib.Core.List.{List, [], ◌++◌}
use lib.ListN.{length, length-append}
use lib.Seq.{sets}
use Rattle.shared_table_words.proofs.StoreLaws.{Storing, store_run, store_done}

-- all was to be stored from word `base` on; what is left is `rest`, from word `at` on
pub record Putting (out₀ : List ℕ) (base : ℕ) (all out : List ℕ) (at : ℕ) (rest : List ℕ) : Type 0 where
  pub stores : Storing out₀ base all out at rest
  pub reach : at + length rest ≡ base + length all

module _ {out₀ : List ℕ} {base : ℕ} {all : List ℕ} where
  pub put-start : (rest : List ℕ) → rest ≡ all → Putting out₀ base all out₀ base rest
  put-start rest e = rw e (record { stores = record { long = refl; same = refl }; reach = refl })

  module _ {out : List ℕ} {at : ℕ} {rest : List ℕ} (v : Putting out₀ base all out at rest) where
    pub put_long : length out ≡ length out₀
    put_long = v.stores.long

    pub put_room : base + length all ≤ length out₀ → (vs more : List ℕ) → rest ≡ vs ++ more → at + length vs ≤ length out
    put_room h vs more e = omega (arith, v.reach, v.stores.long, ap length e, length-append vs more)

    pub put_more : (vs more put : List ℕ) (to : ℕ) → rest ≡ vs ++ more → to ≡ at + length vs → put ≡ sets out at vs → Putting out₀ base all put to more
    put_more vs more put to e et ep =
        record { stores = rw (et, ep) (store_run v.stores vs e); reach = omega (arith, v.reach, ap length e, length-append vs more) }

    module _ (e : rest ≡ []) where
      pub put_done : out ≡ sets out₀ base all
      put_done = store_done v.stores e

      pub put_end : at ≡ base + length all
      put_end = omega (arith, v.reach, ap length e)
