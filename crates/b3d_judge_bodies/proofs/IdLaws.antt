-- BONE and TRIS: what each step of `judge_bone` and `judge_triangles` says of the items, which begin with ids.
use Rattle.layout.specs.Refused.{refusal_at}
use Rattle.std.specs.Prelude.{Ok, Err, Some, None}
use Rattle.std.specs.Prelude as std
use Rattle.layout.specs.declared.Refusal.{Refusal}
use mathlib.Core.Path.{◌≡◌}
use Prim.Native.Nat.{ℕ, ◌-◌}
use native.Mathlib.Omega.{arith}
use mathlib.Core.Bool.{Bool, true, false, not}
use mathlib.Core.List.{List}
use lib.ListN.{length}
use Rattle.wire.specs.Cursors.{left, number_at}
use Rattle.wire.specs.declared.Cursor.{Cursor}
use Rattle.layout.specs.Rules.{holds}
use Rattle.b3d_spec.specs.Parse.{read_bone, read_triangles}
use Rattle.b3d_spec.specs.Rules.{brush_id}
use Rattle.b3d_judge_items.specs.Items.{id_items, counted, CountedIn}
use Rattle.b3d_judge_items.proofs.DividedLaws.{counted-room, counted-before}
use Rattle.b3d_spec_chunk_places.specs.Places.{Body}
use Rattle.b3d_judge_tally.specs.Answers.{Judges}
use Rattle.b3d_judge_tally.specs.Tally.{weights_tally, bone_tally, triangles_tally, set_tally}
use Rattle.b3d_judge_tally.specs.declared.Tally.{Tally}
use Rattle.b3d_spec_chunk_places.proofs.HeadLaws.{head_cut, head-numbered, head-refused, head-kept}
use Rattle.b3d_judge_bodies.proofs.AnswerLaws.{judges_bad, items-bad, items-good}
use Rattle.b3d_judge_tally.proofs.TallyLaws.{within-weights, within-triangles}

module _ (s : List ℕ) (at : ℕ) (b : Cursor) (body : Body at b (length s)) (vertices : ℕ) where
  -- ---- BONE

  module _ (x : std.Result ℕ Refusal) (y : x ≡ counted (id_items 1 1 vertices b.at (left b s))) (z : CountedIn b 2 x) where
    pub bone-bad : (n : Refusal) → x ≡ Err n → Judges bone_tally (read_bone vertices at (left b s)) at b.end (Err n)
    unfolding read_bone
    bone-bad n q =
        items-bad bone_tally _ at b.end (id_items 1 1 vertices b.at (left b s)) x y n q (λ g. rw (← body.head, g)) (counted-before b 2 x z n q)

    pub bone-all : (k : ℕ) → x ≡ Ok k → (t : Tally) → t ≡ weights_tally k → Judges bone_tally (read_bone vertices at (left b s)) at b.end (Ok t)
    unfolding read_bone bone_tally
    bone-all k q t u =
        let m = counted-room b 2 x z k q in
        items-good bone_tally _ at b.end (id_items 1 1 vertices b.at (left b s)) x y k q (λ l. l) (λ l g. rw (← body.head, g))
        t (λ l i. rw (u, i)) (rw u (within-weights k (b.end - at) (omega arith)))

  -- ---- TRIS

  module _ (brushes : ℕ) (r : std.Option (ℕ × Cursor)) (e : r ≡ number_at s b) where
    pub set-cut : r ≡ None → Judges set_tally (read_triangles brushes vertices at (left b s)) at b.end (Err (refusal_at 5 b.at))
    unfolding read_triangles
    set-cut w = judges_bad set_tally _ at b.end (refusal_at _ _) (rw (head_cut s at b body r e (brush_id brushes) w)) body.room

    module _ (brush : ℕ) (c : Cursor) (w : r ≡ Some (brush, c)) (ok : Bool) (a : ok ≡ holds (brush_id brushes) brush) where
      pub set-brush : not ok ≡ true → Judges set_tally (read_triangles brushes vertices at (left b s)) at b.end (Err (refusal_at 7 b.at))
      unfolding read_triangles
      set-brush h = judges_bad set_tally _ at b.end (refusal_at _ _) (rw (head-refused s at b body r e brush c w (brush_id brushes) ok a h)) body.room

      module _ (h : not ok ≡ false) (x : std.Result ℕ Refusal) (y : x ≡ counted (id_items 3 0 vertices c.at (left c s))) (z : CountedIn c 3 x) where
        pub set-bad : (n : Refusal) → x ≡ Err n → Judges set_tally (read_triangles brushes vertices at (left b s)) at b.end (Err n)
        unfolding read_triangles
        set-bad n q =
            items-bad set_tally _ at b.end (id_items 3 0 vertices c.at (left c s)) x y n q
            (λ g. rw (head-kept s at b body r e brush c w (brush_id brushes) ok a h, g))
            (omega (arith, counted-before c 3 x z n q, head-numbered s at b body r e brush c w))

        pub set_all : (k : ℕ) → x ≡ Ok k → (t : Tally) → t ≡ triangles_tally k → Judges set_tally (read_triangles brushes vertices at (left b s)) at b.end (Ok t)
        unfolding read_triangles set_tally
        set_all k q t u =
            let f = head-numbered s at b body r e brush c w in
            let m = counted-room c 3 x z k q in
            items-good set_tally _ at b.end (id_items 3 0 vertices c.at (left c s)) x y k q (λ l. record { brush = brush; triangles = l })
            (λ l g. rw (head-kept s at b body r e brush c w (brush_id brushes) ok a h, g))
            t (λ l i. rw (u, i)) (rw u (within-triangles k (b.end - at) (omega arith)))

pub ruleset bone_laws = (bone-bad, bone-all)

pub ruleset set_laws = (set-cut, set-brush, set-bad, set_all)
