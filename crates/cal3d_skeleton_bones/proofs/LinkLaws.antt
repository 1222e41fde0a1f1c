-- A bone's numbers and its children: what each step of `judge_links` says of them.
use Rattle.std.specs.Prelude.{Ok, Err}
use Rattle.std.specs.Prelude as std
use Rattle.layout.specs.declared.Refusal.{Refusal}
use Prim.Native.Nat.{ℕ, ◌+◌, ◌-◌, ◌*◌, ◌<◌, ◌≤◌}
use native.Mathlib.Omega.{arith}
use mathlib.Core.Bool.{Bool, true, false, ◌||◌}
use mathlib.Core.Logic.{◌⊎◌, inl, inr}
use mathlib.Core.Path.{◌≡◌, ap, sym, ◌∙◌}
use mathlib.Core.List.{List}
use lib.ListN.{length, get_or}
use lib.Dec.{T, eqb, ltb, eqb→eq, ltb→lt}
use Rattle.wire.specs.Bytes.{word_at}
use Rattle.wire.specs.Cursors.{Inside, left}
use Rattle.wire.specs.declared.Cursor.{Cursor}
use Rattle.wire.proofs.LeftLaws.{left-length}
use Rattle.layout.specs.Result.{Result, accept, ◌>>=◌}
use Rattle.layout.specs.Parts.{Step, words_of, row}
use Rattle.layout.specs.Rules.{names_or_none, holds, NONE}
use Rattle.layout.specs.Counted.{times}
use Rattle.layout.proofs.ResultLaws.{by-check}
use Rattle.layout.proofs.StepLaws.{length-words-of, row-enough}
use Rattle.layout.proofs.CountLaws.{row-moves, row_got, times-moves, times-length}
use Rattle.shared_ids.specs.Ids.{id_row}
use Rattle.shared_counted_lists.specs.Runs.{Passes, Runs}
use Rattle.shared_ids.proofs.IdLaws.{word-at}
use Rattle.shared_counted_lists.proofs.LinkLaws.{link_judged}
use Rattle.shared_counted_lists.proofs.RunLaws.{Read, runs_bad, runs_place, runs_passed, runs_inside, runs_read}
use Rattle.cal3d_spec.specs.Rules.{bone_numbers, child_numbers}
use Rattle.shared_counted_lists.specs.Sums.{Sums}
use Rattle.cal3d_skeleton_bones.specs.Bones.{read_links, link_count}

or_split : (a b : Bool) → T (a || b) → T a ⊎ T b
or_split true b t = inl tt
or_split false b t = inr t

-- the parent among numbers that were read
pub numbers-parent : (bones p : ℕ) (s : List ℕ) (x : Step (List ℕ)) → row (bone_numbers bones) p s ≡ accept x → (get_or x.value 14 0 ≡ NONE) ⊎ (get_or x.value 14 0 < bones)
numbers-parent bones p s x e =
    let g = row_got (bone_numbers bones) p s x e in
    let w = get_or (words_of 20 s) 14 0 in
    let j = row-enough (bone_numbers bones) p s g.1 ∙ link_judged 14 4 bones p (words_of 20 s) _ (length-words-of 20 s g.1) in
    by-check (holds (names_or_none bones) w) 7 (p + 56) _ (sym j ∙ e) (λ t _.
    rw g.0 (elim (or_split (eqb w NONE) (ltb w bones) t) [ inl u ↦ inl (eqb→eq w NONE u) | inr u ↦ inr (ltb→lt w bones u) ]))

module _ (s : List ℕ) (c : Cursor) (bones : ℕ) (inside : Inside c (length s)) (x : std.Result Cursor Refusal) (u : Runs (row (bone_numbers bones) c.at (left c s)) c 80 x) where
  pub links_numbers : (e : Refusal) → x ≡ Err e → Sums link_count (read_links bones c.at (left c s)) c 80 (Err e)
  unfolding read_links
  links_numbers e w = record { is = rw (runs_bad (row (bone_numbers bones) c.at (left c s)) c 80 x u e w); passes = runs_place (row (bone_numbers bones) c.at (left c s)) c 80 x u e w }

  module _ (m : Cursor) (w : x ≡ Ok m) where
    pub links_room : c.at + 76 + 4 ≤ length s
    links_room = let h = runs_passed (row (bone_numbers bones) c.at (left c s)) c 80 x u m w in omega arith

    pub links_inside : Inside m (length s)
    links_inside = runs_inside (row (bone_numbers bones) c.at (left c s)) c 80 x u m w (length s) inside

    module _ (stored : ℕ) (q : stored ≡ word_at s (c.at + 76)) (n : ℕ) (z : n ≡ stored) where
      -- the children behind the numbers
      kids : Result (Step (List (List ℕ)))
      kids = times n (row (child_numbers bones)) m.at (left m s)

      all : (y : Read s (row (bone_numbers bones) c.at (left c s)) c m) → read_links bones c.at (left c s) ≡ (kids >>= λ l. accept (record { value = (y.value, l.value); place = l.place; left = l.left }))
      unfolding read_links kids
      all y =
          let g = row_got (bone_numbers bones) c.at (left c s) _ y.is in
          let k : get_or y.value 19 0 ≡ n = ap (λ (ws : List ℕ). get_or ws 19 0) g.0 ∙ word-at s c 20 19 inside (omega (arith, left-length s c inside, g.1)) (omega arith) ∙ sym (z ∙ q) in
          rw (y.is, k)

      module _ (r : std.Result Cursor Refusal) (v : Runs (times n (row (id_row 1 (1 - 1) bones)) m.at (left m s)) m (n * (4 * 1)) r) where
        numbers : Read s (row (bone_numbers bones) c.at (left c s)) c m
        numbers = runs_read (row (bone_numbers bones)) (row-moves (bone_numbers bones)) s c inside 80 x u m w

        went : Passes c 80 (Ok m)
        went = runs_passed (row (bone_numbers bones) c.at (left c s)) c 80 x u m w

        pub links_bad : (e : Refusal) → r ≡ Err e → Sums link_count (read_links bones c.at (left c s)) c 80 (Err e)
        unfolding kids
        links_bad e f =
            let h = went in
            let k = runs_place (times n (row (child_numbers bones)) m.at (left m s)) m (n * 4) r v e f in
            record { is = rw (all numbers, runs_bad (times n (row (child_numbers bones)) m.at (left m s)) m (n * 4) r v e f); passes = omega arith }

        pub links_done : (next : Cursor) → r ≡ Ok next → Sums link_count (read_links bones c.at (left c s)) c 80 (Ok (n, next))
        unfolding kids
        links_done next f =
            let h = went in
            let k = runs_passed (times n (row (child_numbers bones)) m.at (left m s)) m (n * 4) r v next f in
            let y = runs_read (times n (row (child_numbers bones))) (times-moves (row (child_numbers bones)) (row-moves (child_numbers bones)) n) s m links_inside (n * 4) r v next f in
            let l = times-length (row (child_numbers bones)) n m.at (left m s) _ y.is in
            let end : next.end ≡ c.end = k.2 ∙ h.2 in
            record { is = rw (all numbers, y.is, l, ← end); passes = (omega arith, k.1, end) }

pub ruleset links = (links_numbers, links_room, links_inside, links_bad, links_done)
