-- The laws of a row's load, in the words of the code.
use mathlib.Core.Path.{◌≡◌, refl, sym, subst, ◌∙◌}
use Prim.Native.Nat.{ℕ, zero, suc, ◌+◌, ◌*◌, ◌<◌, ◌≤◌}
use native.Mathlib.Omega.{arith}
use native.Mathlib.Numerals.{add-one}
use mathlib.Core.Bool.{Bool, true, false}
use mathlib.Core.List.{List}
use lib.ListN.{length}
use lib.Dec.{leb}
use borrow.Author.Tests.{leb-true, leb-false}
use Rattle.b3d_pieces_spec.specs.declared.Open.{Open}
use Rattle.b3d_pieces_spec.specs.Good.{Words, Bound, Deep, load, extra}
use Rattle.b3d_pieces_step.specs.Turns.{stack_by}
use Rattle.b3d_pieces_step.proofs.TurnLaws.{stack-length}
use Rattle.b3d_pieces_valid_record.specs.Tests.{Weighs, OpenFits}
use Rattle.b3d_pieces_valid_record.proofs.OpenChunkTestLaws.{heavy}
use Rattle.b3d_pieces_valid_state.specs.Entry.{RowFits}

deep-at : (rs : ℕ → Open) (i n : ℕ) → i < n → Deep (stack_by rs n) → (Bound (rs i).tag (rs i).level i × Words (rs i).kept) × (load (stack_by rs (suc i)) ≤ load (stack_by rs n)) × Deep (stack_by rs i)
deep-at rs i zero h d = absurd (omega arith)
deep-at rs i (suc n) h d = go (leb (suc i) n) refl (λ l. deep-at rs i n l d.2)
  where
    go : (b : Bool) → leb (suc i) n ≡ b → (i < n → (Bound (rs i).tag (rs i).level i × Words (rs i).kept) × (load (stack_by rs (suc i)) ≤ load (stack_by rs n)) × Deep (stack_by rs i)) → (Bound (rs i).tag (rs i).level i × Words (rs i).kept) × (load (stack_by rs (suc i)) ≤ load (stack_by rs (suc n))) × Deep (stack_by rs i)
    go true e y = let x = y (leb-true (suc i) n e) in let l = x.1 in (x.0, omega arith, x.2)
    go false e y =
        let z : i ≡ n = last (leb-false (suc i) n e) in
        let s = stack-length rs n in
        rw z ((subst (λ (m : ℕ). Bound (rs n).tag (rs n).level m) s d.0, d.1), omega arith, d.2)
      where
        last : n < suc i → i ≡ n
        last l = omega arith

pub record Loaded (rs : ℕ → Open) (n total i : ℕ) : Type 0 where
  pub up_to : i ≤ n
  pub deep : Deep (stack_by rs i)
  pub load : load (stack_by rs i) ≡ total
  pub few : total ≤ 16777217

pub loaded_none : (rs : ℕ → Open) (n : ℕ) → Loaded rs n 0 0
loaded_none rs n = record { up_to = omega arith; deep = tt; load = refl; few = omega arith }

pub loaded_room : (row : List ℕ) (n total i : ℕ) → n ≤ 18 → 209 ≤ length row → i < n → i * 11 + 11 ≤ length row
loaded_room row n total i h l k = omega arith

module _ (rs : ℕ → Open) (n total i : ℕ) (h : Loaded rs n total i) (l : i < n) (f : Open) (ef : f ≡ rs i) (v : ℕ) (wv : Weighs (OpenFits f i) (f.count + extra f.tag) v) where
  same : Weighs (OpenFits (rs i) i) ((rs i).count + extra (rs i).tag) v
  same = rw (← ef) wv

  pub loaded_few : total + v ≤ 33554436
  loaded_few = let a = h.few in let b = wv.most in omega arith

  pub loaded_over : 16777217 < total + v → (r : ℕ) → r ≡ 16777218 → RowFits rs n r
  loaded_over o r q =
      heavy (load (stack_by rs n)) r q (λ p m.
      let x = deep-at rs i n l p in
      let y = x.1 in
      let w = h.load in
      let z = same.all x.0 (omega arith) in
      omega arith)

  pub loaded_next : total + v ≤ 16777217 → Loaded rs n (total + v) (i + 1)
  loaded_next m =
      let z = same.yes (omega arith) in
      let e = z.1 in
      let w = h.load in
      let s = stack-length rs i in
      let k : Loaded rs n (total + v) (suc i) = record {
        up_to = omega arith;
        deep = (subst (λ (x : ℕ). Bound (rs i).tag (rs i).level x) (sym s) z.0.0, z.0.1, h.deep);
        load = omega arith;
        few = m;
      } in
      rw (add-one i) k

pub loaded_all : (rs : ℕ → Open) (n total i : ℕ) → Loaded rs n total i → n ≤ i → (r : ℕ) → r ≡ total → RowFits rs n r
loaded_all rs n total i h l r q =
    let u = h.up_to in
    let e : i ≡ n = omega arith in
    let d : Deep (stack_by rs n) = subst (λ (x : ℕ). Deep (stack_by rs x)) e h.deep in
    let w : load (stack_by rs n) ≡ total = subst (λ (x : ℕ). load (stack_by rs x) ≡ total) e h.load in
    let f = h.few in
    record { yes = λ m. (d, q ∙ sym w); all = λ p m. q ∙ sym w; most = omega arith }

pub ruleset loaded_laws = (loaded_none, loaded_room, loaded_few, loaded_over, loaded_next, loaded_all)
