-- One bone: what each step of `judge_bone` says of it.
use Rattle.std.specs.Prelude.{Ok, Err}
use Rattle.std.specs.Prelude as std
use Rattle.layout.specs.declared.Refusal.{Refusal}
use Prim.Native.Nat.{ℕ, ◌+◌, ◌≤◌}
use native.Mathlib.Omega.{arith}
use mathlib.Core.Path.{◌≡◌, refl, ap, ◌∙◌}
use mathlib.Core.List.{List}
use lib.ListN.{length}
use Rattle.wire.specs.Cursors.{Inside, left}
use Rattle.wire.specs.declared.Cursor.{Cursor}
use Rattle.layout.specs.Result.{Result, accept, reject, ◌>>=◌}
use Rattle.layout.specs.Parts.{Name, Step, row, number}
use Rattle.layout.specs.Counted.{sized, times}
use Rattle.layout.proofs.ResultLaws.{by_got, got_inj}
use Rattle.layout.proofs.CountLaws.{Advances, moved_as, moved_on, row-moves, sized-moves, times-moves}
use Rattle.shared_counted_lists.specs.Runs.{Runs}
use Rattle.shared_counted_lists.proofs.RunLaws.{runs_bad, runs_place, runs_passed, runs_inside, runs_read}
use Rattle.cal3d_spec.specs.Rules.{bone_numbers, children_at, child_numbers}
use Rattle.cal3d_spec.specs.Skeletons.{read_bone}
use Rattle.shared_counted_lists.specs.Sums.{summed_of, SumPasses, Sums}
use Rattle.cal3d_skeleton_bones.specs.Bones.{read_links, link_count, child_count}

-- a bone behind its name, and its numbers and children alone, count and end alike
links_same : (end p : ℕ) (n : Name) (m : Result (Step (List ℕ))) (t : Step (List ℕ) → Result (Step (List (List ℕ))))
    → summed_of link_count end (m >>= λ x. t x >>= λ l. accept (record { value = (x.value, l.value); place = l.place; left = l.left }))
    ≡ summed_of child_count end (m >>= λ x. t x >>= λ l. accept (record { value = record { place = p; name = n; numbers = x.value; children = l.value }; place = l.place; left = l.left }))
links_same end p n (reject e q) t = refl
links_same end p n (accept x) t = go (t x)
  where
    go : (o : Result (Step (List (List ℕ))))
        → summed_of link_count end (o >>= λ l. accept (record { value = (x.value, l.value); place = l.place; left = l.left }))
        ≡ summed_of child_count end (o >>= λ l. accept (record { value = record { place = p; name = n; numbers = x.value; children = l.value }; place = l.place; left = l.left }))
    go (accept l) = refl
    go (reject e q) = refl

-- more bytes passed on the way
passes_on : (c n : Cursor) (k : ℕ) (x : std.Result (ℕ × Cursor) Refusal) → c.at + k ≤ n.at → n.end ≡ c.end → SumPasses n 80 x → SumPasses c (k + 80) x
passes_on c n k (Ok (j, m)) h e p = (omega arith, p.1, p.2 ∙ e)
passes_on c n k (Err f) h e p = omega arith

module _ (s : List ℕ) (c : Cursor) (bones : ℕ) (inside : Inside c (length s)) (r : std.Result Cursor Refusal) (v : Runs (sized c.at (left c s)) c 4 r) where
  pub bone-bad : (e : Refusal) → r ≡ Err e → Sums child_count (read_bone bones c.at (left c s)) c 84 (Err e)
  unfolding read_bone
  bone-bad e w = record { is = rw (runs_bad (sized c.at (left c s)) c 4 r v e w); passes = runs_place (sized c.at (left c s)) c 4 r v e w }

  module _ (n : Cursor) (w : r ≡ Ok n) where
    pub numbers_inside : Inside n (length s)
    numbers_inside = runs_inside (sized c.at (left c s)) c 4 r v n w (length s) inside

    pub bone_links : (x : std.Result (ℕ × Cursor) Refusal) → Sums link_count (read_links bones n.at (left n s)) n 80 x → Sums child_count (read_bone bones c.at (left c s)) c 84 x
    unfolding read_bone read_links
    bone_links x b =
        let h = runs_passed (sized c.at (left c s)) c 4 r v n w in
        let y = runs_read sized sized-moves s c inside 4 r v n w in
        record {
          is = b.is ∙ ap (λ (e : ℕ). summed_of link_count e (read_links bones n.at (left n s))) h.2 ∙ rw y.is (links_same c.end c.at y.value (row (bone_numbers bones) n.at (left n s)) (λ x. times (number x children_at) (row (child_numbers bones)) x.place x.left));
          passes = passes_on c n 4 x h.0 h.2 b.passes;
        }

pub ruleset bone = (bone-bad, numbers_inside, bone_links)

-- where a bone leaves off
pub bone-moves : (bones : ℕ) → Advances (read_bone bones)
unfolding read_bone
bone-moves bones p s x e =
    by_got (sized p s) _ e (λ n en e₁.
    by_got (row (bone_numbers bones) n.place n.left) _ e₁ (λ y ey e₂.
    by_got (times (number y children_at) (row (child_numbers bones)) y.place y.left) _ e₂ (λ l el e₃.
    let m = moved_on n y (sized-moves p s n en) (row-moves (bone_numbers bones) n.place n.left y ey) in
    let k = moved_on y l m (times-moves (row (child_numbers bones)) (row-moves (child_numbers bones)) (number y children_at) y.place y.left l el) in
    let q = got_inj e₃ in
    moved_as l x k (cc) (cc))))
