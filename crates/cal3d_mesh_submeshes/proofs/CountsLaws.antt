-- A submesh's numbers: what each step of `pass_counts` says of them.
use Rattle.layout.specs.Refused.{refusal_at}
use Rattle.std.specs.Prelude.{Ok, Err}
use Prim.Native.Nat.{ℕ, ◌+◌, ◌-◌, ◌*◌, ◌<◌, ◌≤◌}
use native.Mathlib.Omega.{arith}
use mathlib.Core.Path.{◌≡◌, refl, ◌∙◌}
use mathlib.Core.List.{List}
use lib.ListN.{length, drop}
use Rattle.wire.specs.Cursors.{Inside, left}
use Rattle.wire.specs.declared.Cursor.{Cursor}
use Rattle.wire.proofs.LeftLaws.{left-length}
use Rattle.layout.specs.Parts.{Step, words_of, row}
use Rattle.layout.specs.Rules.{names, count}
use Rattle.layout.proofs.StepLaws.{row-enough, row-short}
use Rattle.shared_ids.specs.Ids.{first_bad}
use Rattle.shared_counted_lists.specs.Runs.{Runs}
use Rattle.shared_ids.proofs.IdLaws.{after-good, after-bad, first_count}
use Rattle.cal3d_spec.specs.Rules.{submesh_numbers}

module _ (s : List ℕ) (c : Cursor) (inside : Inside c (length s)) where
  pub counts-cut : c.end - c.at < 24 → Runs (row submesh_numbers c.at (left c s)) c 24 (Err (refusal_at 5 c.at))
  counts-cut h = record { is = rw (row-short submesh_numbers c.at (left c s) (omega (arith, left-length s c inside))); passes = inside.before }

  module _ (room : 24 ≤ c.end - c.at) (g : ℕ) (e : g ≡ first_bad (names 2147483648) (words_of 5 (left (record { at = c.at + 4; end = c.end }) s))) where
    pub counts-bad : g < 5 → Runs (row submesh_numbers c.at (left c s)) c 24 (Err (refusal_at 6 (c.at + 4 + 4 * g)))
    counts-bad h =
        let l = left c s in
        let all = row-enough submesh_numbers c.at l (omega (arith, left-length s c inside)) in
        let wrong = after-bad {A = Step (List ℕ)} s c (record { at = c.at + 4; end = c.end }) count 1 5 (record { value = words_of 6 l; place = c.at + 24; left = drop 24 l }) inside (omega arith) refl refl g (e ∙ first_count _) h in
        record { is = rw (all ∙ wrong); passes = omega arith }

    pub counts-good : 5 ≤ g → g ≤ 5 → Runs (row submesh_numbers c.at (left c s)) c 24 (Ok (record { at = c.at + 24; end = c.end }))
    counts-good h k =
        let l = left c s in
        let all = row-enough submesh_numbers c.at l (omega (arith, left-length s c inside)) in
        let right = after-good {A = Step (List ℕ)} s c (record { at = c.at + 4; end = c.end }) count 1 5 (record { value = words_of 6 l; place = c.at + 24; left = drop 24 l }) inside (omega arith) refl refl g (e ∙ first_count _) h k in
        record { is = rw (all ∙ right); passes = (omega arith, omega arith, refl) }

pub ruleset counts = (counts-cut, counts-bad, counts-good)
