-- In an accepted file `start` and one `next` after the other give the rows of a table, in their order, and then none.
use mathlib.Core.Path.{◌≡◌, sym, ◌∙◌}
use Prim.Native.Nat.{ℕ, ◌≤◌}
use native.Mathlib.Omega.{arith}
use mathlib.Core.List.{List, [], ◌∷◌}
use lib.ListN.{length}
use Rattle.layout.specs.Result.{accept}
use Rattle.layout.specs.Rows.{size_fits}
use Rattle.layout.proofs.ResultLaws.{by-check}
use Rattle.b3d_spec.specs.declared.Mode.TheVariants.{Lenient}
use Rattle.b3d_spec.specs.Answers.{judge}
use Rattle.b3d_spec.specs.Parse.{parse}
use Rattle.b3d_spec.specs.Scene.{Scene}
use Rattle.b3d_spec.specs.Tables.{rows}
use Rattle.b3d_spec.proofs.AnswerLaws.{judge_got}
use Rattle.b3d_spec.proofs.Files.FileLaws.{size_bound}
use Rattle.b3d_spec_chunk_places.proofs.FileChunkLaws.{parse-low}
use Rattle.b3d_spec_plain_rows.proofs.Laws.{rows_law}
use Rattle.b3d_rows_nodes.proofs.DepthLaws.{accepted-shallow}
use Rattle.b3d_rows_state.specs.declared.RowState.{RowState}
use Rattle.b3d_rows_state.specs.States.{state_rows, CanGoOn, Startable, StateStarts, Yields}

-- the rows that come from a state on, and none behind them
pub state_yields : (s : List ℕ) (t : RowState) → CanGoOn s t → (rs : List (List ℕ)) → state_rows s t ≡ rs → Yields s t rs
state_yields s t can [] e = λ row put r l n. n.none l can e
state_yields s t can (cells ∷ rest) e = λ row put r l n.
    let g = n.row_comes l can (λ z. let q : ◌≡◌ {A = ℕ} 0 1 = cc in omega arith) in
    let z : g.comes.cells ∷ state_rows s r.state ≡ cells ∷ rest = sym g.comes.is ∙ e in
    let first : g.comes.cells ≡ cells = cc in
    let later : state_rows s r.state ≡ rest = cc in
    (g.number_is, g.rows_are, rw first at g.comes.stores, state_yields s r.state g.can rest later)

small : (s : List ℕ) (t : Scene) → parse Lenient s ≡ accept t → length s ≤ 16777216
unfolding parse
small s t e = by-check (size_fits (length s)) 1 0 _ e (λ z _. omega (arith, size_bound (length s) z))

module _ (s : List ℕ) (t : Scene) (e : judge Lenient s ≡ accept t) (k : ℕ) (lo : 1 ≤ k) (hi : k ≤ 10) where
  startable : Startable k s
  startable = record { low = lo; high = hi; long = parse-low Lenient s t (judge_got Lenient s t e).0; small = small s t (judge_got Lenient s t e).0 }

  pub accepted_yields : (x : RowState) → StateStarts k s x → Yields s x (rows k t)
  accepted_yields x v =
      let g = v.starts startable in
      state_yields s x g.can (rows k t) (g.rows (λ q. accepted-shallow s t e) ∙ rows_law s t e k lo hi)
