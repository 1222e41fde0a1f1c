-- The parts of a vertex: what each step of `pass_mapped`, `judge_influences` and `pass_cloth` says of them.
use Rattle.layout.specs.Refused.{refusal_at}
use Rattle.std.specs.Prelude.{Ok, Err, Some, None}
use Rattle.std.specs.Prelude as std
use Rattle.layout.specs.declared.Refusal.{Refusal}
use Prim.Native.Nat.{ℕ, zero, suc, ◌+◌, ◌-◌, ◌*◌, ◌<◌, ◌≤◌}
use native.Mathlib.Omega.{arith}
use mathlib.Core.Path.{◌≡◌, refl, ap, sym, subst, ◌∙◌}
use mathlib.Core.List.{List}
use lib.ListN.{length}
use Rattle.wire.specs.Cursors.{Inside, left, number_at}
use Rattle.wire.specs.declared.Cursor.{Cursor}
use Rattle.layout.specs.Result.{accept, ◌>>=◌}
use Rattle.layout.specs.Parts.{Step, row}
use Rattle.layout.specs.Rules.{any, count}
use Rattle.layout.specs.Counted.{times}
use Rattle.layout.proofs.ResultLaws.{by_got, got_inj}
use Rattle.layout.proofs.CountLaws.{Moved, Advances, moved_as, moved_on, row-moves, times-moves, times-length}
use Rattle.shared_ids.specs.Ids.{id_row}
use Rattle.shared_counted_lists.specs.Runs.{ran_of, Runs}
use Rattle.shared_counted_lists.specs.Sums.{Sums}
use Rattle.shared_counted_lists.proofs.NumberLaws.{head_cut, head-numbered, head_over, head-within, head_got}
use Rattle.shared_counted_lists.proofs.RunLaws.{runs_bad, runs_place, runs_passed, runs_inside, runs_read, passes_then, ran_as}
use Rattle.cal3d_spec.specs.Rules.{vertex_numbers, map_numbers, influences_head, influence_numbers, cloth_numbers}
use Rattle.cal3d_spec.specs.Meshes.{read_cloth}
use Rattle.cal3d_mesh_vertices.specs.Vertices.{read_mapped, read_influences, row_count}

-- ---- numbers and maps

module _ (s : List ℕ) (c : Cursor) (vertices maps : ℕ) (inside : Inside c (length s)) (x : std.Result Cursor Refusal) (u : Runs (row (vertex_numbers vertices) c.at (left c s)) c 32 x) where
  pub mapped_numbers : (e : Refusal) → x ≡ Err e → Runs (read_mapped vertices maps c.at (left c s)) c (32 + maps * 8) (Err e)
  unfolding read_mapped
  mapped_numbers e w =
      record { is = rw (runs_bad (row (vertex_numbers vertices) c.at (left c s)) c 32 x u e w); passes = runs_place (row (vertex_numbers vertices) c.at (left c s)) c 32 x u e w }

  module _ (m : Cursor) (w : x ≡ Ok m) where
    pub mapped_inside : Inside m (length s)
    mapped_inside = runs_inside (row (vertex_numbers vertices) c.at (left c s)) c 32 x u m w (length s) inside

    pub mapped_done : (r : std.Result Cursor Refusal) → Runs (times maps (row (id_row 0 (2 - 0) 0)) m.at (left m s)) m (maps * (4 * 2)) r → Runs (read_mapped vertices maps c.at (left c s)) c (32 + maps * 8) r
    unfolding read_mapped
    mapped_done r v =
        let h = runs_passed (row (vertex_numbers vertices) c.at (left c s)) c 32 x u m w in
        let y = runs_read (row (vertex_numbers vertices)) (row-moves (vertex_numbers vertices)) s c inside 32 x u m w in
        record {
          is = v.is ∙ ap (λ (e : ℕ). ran_of e (times maps (row map_numbers) m.at (left m s))) h.2
              ∙ rw y.is (sym (ran_as c.end (λ l. (y.value, l)) (times maps (row map_numbers) m.at (left m s))));
          passes = passes_then c m 32 (maps * 8) r h v.passes;
        }

pub mapped_moves : (vertices maps : ℕ) → Advances (read_mapped vertices maps)
unfolding read_mapped
mapped_moves vertices maps p s x e =
    by_got (row (vertex_numbers vertices) p s) _ e (λ y ey e₁.
    by_got (times maps (row map_numbers) y.place y.left) _ e₁ (λ m em e₂.
    let k = moved_on y m (row-moves (vertex_numbers vertices) p s y ey) (times-moves (row map_numbers) (row-moves map_numbers) maps y.place y.left m em) in
    let q = got_inj e₂ in
    moved_as m x k (cc) (cc)))

-- ---- influences

module _ (s : List ℕ) (c : Cursor) (bones : ℕ) (inside : Inside c (length s)) (r : std.Option (ℕ × Cursor)) (e : r ≡ number_at s c) where
  pub influences-cut : r ≡ None → Sums row_count (read_influences bones c.at (left c s)) c 4 (Err (refusal_at 5 c.at))
  unfolding read_influences
  influences-cut w = record { is = rw (head_cut s c inside r e count w); passes = inside.before }

  module _ (k : ℕ) (n : Cursor) (w : r ≡ Some (k, n)) where
    pub influences-over : 2147483647 < k → Sums row_count (read_influences bones c.at (left c s)) c 4 (Err (refusal_at 6 c.at))
    unfolding read_influences
    influences-over h = record { is = rw (head_over s c inside r e k n w 2147483647 h); passes = inside.before }

    pub influences-inside : Inside n (length s)
    influences-inside = let f = head-numbered s c inside r e k n w in record { before = omega arith; within = omega arith }

    module _ (h : k ≤ 2147483647) (m : ℕ) (q : m ≡ k) (x : std.Result Cursor Refusal) (v : Runs (times m (row (id_row 1 (2 - 1) bones)) n.at (left n s)) n (m * (4 * 2)) x) where
      all : read_influences bones c.at (left c s) ≡ times m (row (influence_numbers bones)) n.at (left n s)
      unfolding read_influences
      all = rw (head-within s c inside r e k n w 2147483647 h, ← q)

      pub influences-bad : (d : Refusal) → x ≡ Err d → Sums row_count (read_influences bones c.at (left c s)) c 4 (Err d)
      influences-bad d z =
          let f = head-numbered s c inside r e k n w in
          let g = runs_place (times m (row (influence_numbers bones)) n.at (left n s)) n (m * 8) x v d z in
          record { is = rw (all, runs_bad (times m (row (influence_numbers bones)) n.at (left n s)) n (m * 8) x v d z); passes = omega (arith, f.same) }

      pub influences-done : (next : Cursor) → x ≡ Ok next → Sums row_count (read_influences bones c.at (left c s)) c 4 (Ok (m, next))
      influences-done next z =
          let f = head-numbered s c inside r e k n w in
          let g = runs_passed (times m (row (influence_numbers bones)) n.at (left n s)) n (m * 8) x v next z in
          let y = runs_read (times m (row (influence_numbers bones))) (times-moves (row (influence_numbers bones)) (row-moves (influence_numbers bones)) m) s n influences-inside (m * 8) x v next z in
          let l = times-length (row (influence_numbers bones)) m n.at (left n s) _ y.is in
          let end : next.end ≡ c.end = g.2 ∙ f.same in
          record { is = rw (all, y.is, l, ← end); passes = (omega (arith, f.to), g.1, end) }

pub influences-moves : (bones : ℕ) → Advances (read_influences bones)
unfolding read_influences
influences-moves bones p s x e =
    by_got (row influences_head p s) _ e (λ k ek e₁.
    moved_on k x (row-moves influences_head p s k ek) (times-moves (row (influence_numbers bones)) (row-moves (influence_numbers bones)) _ k.place k.left x e₁))

-- ---- the cloth weight

module _ (s : List ℕ) (c : Cursor) (springs : ℕ) (inside : Inside c (length s)) where
  pub cloth-none : springs ≤ 0 → Runs (read_cloth springs c.at (left c s)) c 0 (Ok c)
  unfolding read_cloth
  cloth-none h = let e : springs ≡ 0 = omega arith in record { is = rw e; passes = (omega arith, inside.before, refl) }

  module _ (h : 0 < springs) (r : std.Option (ℕ × Cursor)) (e : r ≡ number_at s c) where
    some : (n : ℕ) → n ≡ springs → (read_cloth springs c.at (left c s) ≡ (row cloth_numbers c.at (left c s) >>= λ w. accept (record { value = Rattle.layout.specs.Parts.number w 0; place = w.place; left = w.left })))
    unfolding read_cloth
    some zero q = absurd (omega arith)
    some (suc n) q = rw (← q)

    pub cloth-cut : r ≡ None → Runs (read_cloth springs c.at (left c s)) c 0 (Err (refusal_at 5 c.at))
    cloth-cut w = record { is = rw (some springs refl, head_cut s c inside r e any w); passes = inside.before }

    pub cloth-done : (k : ℕ) (n : Cursor) → r ≡ Some (k, n) → Runs (read_cloth springs c.at (left c s)) c 0 (Ok n)
    cloth-done k n w =
        let f = head-numbered s c inside r e k n w in
        record { is = rw (some springs refl, head_got s c inside r e k n w any refl, ← f.same); passes = (omega (arith, f.to), omega (arith, f.to, f.same, f.room), f.same) }

pub cloth-moves : (springs : ℕ) → Advances (read_cloth springs)
unfolding read_cloth
cloth-moves zero p s x e = subst (λ (y : Step ℕ). Moved p s y) (got_inj e) (record { by = 0; to = omega arith; room = omega arith; rest = refl })
cloth-moves (suc springs) p s x e =
    by_got (row cloth_numbers p s) _ e (λ w ew e₁.
    let q = got_inj e₁ in
    moved_as w x (row-moves cloth_numbers p s w ew) (cc) (cc))

pub ruleset parts = (mapped_numbers, mapped_inside, mapped_done, influences-cut, influences-over, influences-inside, influences-bad, influences-done, cloth-none, cloth-cut, cloth-done)
