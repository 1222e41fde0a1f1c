-- One bone's parts: what each step of `lay_bone` says of the bone that stands there.
use Rattle.std.specs.Prelude.{Ok, Err}
use Rattle.std.specs.Prelude as std
use Rattle.layout.specs.declared.Refusal.{Refusal}
use Prim.Native.Nat.{ℕ, zero, suc, ◌+◌, ◌-◌, ◌<◌, ◌≤◌}
use native.Mathlib.Omega.{arith}
use mathlib.Core.Path.{◌≡◌, refl, ap, sym, ◌∙◌}
use mathlib.Core.List.{List, [], ◌∷◌}
use lib.ListN.{length, drop, get_or}
use lib.Dec.{ltb, ltb→lt}
use Rattle.wire.specs.Bytes.{word}
use Rattle.wire.specs.Cursors.{Inside, left}
use Rattle.wire.specs.declared.Cursor.{Cursor}
use Rattle.wire.proofs.LeftLaws.{left-length, left-drop}
use Rattle.layout.specs.Result.{Result, accept, reject}
use Rattle.layout.specs.Parts.{Name, Step, words_of, words, judged, row, number}
use Rattle.layout.specs.Counted.{sized, before, times}
use Rattle.layout.specs.Rows.{name_cells, joined}
use Rattle.layout.specs.Rules.{names}
use Rattle.layout.proofs.AllLaws.{All}
use Rattle.layout.proofs.ResultLaws.{by_got, by-check, bad_got, got_inj}
use Rattle.layout.proofs.CountLaws.{moved_on, row-moves, row_got, times-moves, times-length, times_got, sized-moves, sized_got}
use Rattle.shared_counted_lists.specs.Runs.{Runs}
use Rattle.shared_ids.proofs.IdLaws.{word-at}
use Rattle.shared_counted_lists.proofs.RunLaws.{runs_bad, runs_passed, runs_inside, runs_read}
use Rattle.cal3d_spec.specs.Rules.{bone_numbers, children_at, child_numbers}
use Rattle.cal3d_spec.specs.Skeletons.{parent_of, list_of, read_bone}
use Rattle.shared_counted_lists.specs.Sums.{Sums}
use Rattle.cal3d_skeleton_bones.specs.Bones.{read_links, link_count, LaidAt, NoBone}
use Rattle.shared_counted_lists.proofs.SumLaws.{summed_bad, summed_got}

-- one id, and then others
id-read : (limit n p : ℕ) (s : List ℕ) (x : Step (List (List ℕ))) (y : Step (List ℕ)) (l : Step (List (List ℕ))) → row (names limit ∷ []) p s ≡ accept y → before y.value l ≡ x
    → (joined l.value ≡ words_of n y.left) × All (λ (k : ℕ). k < limit) (joined l.value)
    → (joined x.value ≡ words_of (suc n) s) × All (λ (k : ℕ). k < limit) (joined x.value)
unfolding row words judged joined before
id-read limit n p [] x y l ey q i = bad_got ey
id-read limit n p (a ∷ []) x y l ey q i = bad_got ey
id-read limit n p (a ∷ b ∷ []) x y l ey q i = bad_got ey
id-read limit n p (a ∷ b ∷ c ∷ []) x y l ey q i = bad_got ey
id-read limit n p (a ∷ b ∷ c ∷ d ∷ s) x y l ey q i =
    by-check (ltb (word a b c d) limit) 7 p _ ey (λ t e.
    let h = ltb→lt (word a b c d) limit t in
    let v : (word a b c d ∷ []) ∷ l.value ≡ x.value = ap (λ (z : Step (List ℕ)). z.value ∷ l.value) (got_inj e) ∙ ap (λ (z : Step (List (List ℕ))). z.value) q in
    let r : s ≡ y.left = ap (λ (z : Step (List ℕ)). z.left) (got_inj e) in
    rw (← v) (ap (λ (ws : List ℕ). word a b c d ∷ ws) (i.0 ∙ ap (words_of n) (sym r)), (h, i.1)))

-- ids that were read one after the other: the words that stand there, each below the limit
ids-read : (limit n p : ℕ) (s : List ℕ) (x : Step (List (List ℕ))) → times n (row (names limit ∷ [])) p s ≡ accept x
    → (joined x.value ≡ words_of n s) × All (λ (k : ℕ). k < limit) (joined x.value)
unfolding times joined
ids-read limit zero p s x e = let v : [] ≡ x.value = ap (λ (y : Step (List (List ℕ))). y.value) (got_inj e) in rw (← v) (refl, tt)
ids-read limit (suc n) p s x e =
    times_got (row (names limit ∷ [])) n p s x e (λ y l ey el q. id-read limit n p s x y l ey q (ids-read limit n y.place y.left l el))

-- numbers and children that were read at n
record Linked (s : List ℕ) (n : Cursor) (bones j : ℕ) (m : Cursor) : Type 0 where
  numbers : Step (List ℕ)
  children : Step (List (List ℕ))
  first : row (bone_numbers bones) n.at (left n s) ≡ accept numbers
  second : times (number numbers children_at) (row (child_numbers bones)) numbers.place numbers.left ≡ accept children
  many : length children.value ≡ j
  at : children.place ≡ m.at
  left_over : children.left ≡ left m s

module _ (s : List ℕ) (n : Cursor) (bones : ℕ) (x : std.Result (ℕ × Cursor) Refusal) (b : Sums link_count (read_links bones n.at (left n s)) n 80 x) where
  no_links : (e : Refusal) → x ≡ Err e → read_links bones n.at (left n s) ≡ reject e.number e.place
  no_links e q = summed_bad link_count n.end (read_links bones n.at (left n s)) e (sym q ∙ b.is)

  linked : (j : ℕ) (m : Cursor) → x ≡ Ok (j, m) → Linked s n bones j m
  unfolding read_links
  linked j m q =
      let g = summed_got link_count n.end (read_links bones n.at (left n s)) j m (sym q ∙ b.is) in
      by_got (row (bone_numbers bones) n.at (left n s)) _ g.1 (λ h eh e₁.
      by_got (times (number h children_at) (row (child_numbers bones)) h.place h.left) _ e₁ (λ l el e₂.
      let y = got_inj e₂ in
      let k = moved_on h l (row-moves (bone_numbers bones) n.at (left n s) h eh) (times-moves (row (child_numbers bones)) (row-moves (child_numbers bones)) (number h children_at) h.place h.left l el) in
      let p : l.place ≡ g.0.place = ap (λ (z : Step (List ℕ × List (List ℕ))). z.place) y in
      let a : m.at ≡ g.0.place = ap (λ (z : Cursor). z.at) g.3 in
      let e : m.end ≡ n.end = ap (λ (z : Cursor). z.end) g.3 in
      let c : length l.value ≡ link_count g.0.value = ap (λ (z : Step (List ℕ × List (List ℕ))). length z.value.1) y in
      record {
        numbers = h;
        children = l;
        first = eh;
        second = el;
        many = c ∙ sym g.2;
        at = p ∙ sym a;
        left_over = k.rest ∙ sym (left-drop s n k.by m (a ∙ sym p ∙ k.to) e);
      }))

module _ (s : List ℕ) (c : Cursor) (bones : ℕ) (inside : Inside c (length s)) (r : std.Result Cursor Refusal) (v : Runs (sized c.at (left c s)) c 4 r) where
  pub lay_no_name : (e : Refusal) → r ≡ Err e → NoBone (read_bone bones c.at (left c s))
  unfolding read_bone
  lay_no_name e w = let z : read_bone bones c.at (left c s) ≡ reject e.number e.place = rw (runs_bad (sized c.at (left c s)) c 4 r v e w) in record { none = λ x q. bad_got (sym z ∙ q) }

  module _ (n : Cursor) (w : r ≡ Ok n) (x : std.Result (ℕ × Cursor) Refusal) (b : Sums link_count (read_links bones n.at (left n s)) n 80 x) where
    pub lay_no_links : (e : Refusal) → x ≡ Err e → NoBone (read_bone bones c.at (left c s))
    unfolding read_bone read_links
    lay_no_links e q =
        record {
          none = λ z f. let y = runs_read sized sized-moves s c inside 4 r v n w in
              let g = no_links s n bones x b e q in
              by_got (sized c.at (left c s)) _ f (λ u eu f₁.
              let same = got_inj (sym eu ∙ y.is) in
              by_got (row (bone_numbers bones) u.place u.left) _ f₁ (λ h eh f₂.
              by_got (times (number h children_at) (row (child_numbers bones)) h.place h.left) _ f₂ (λ l el f₃.
              let first : row (bone_numbers bones) n.at (left n s) ≡ accept h = ap (λ (k : Step Name). row (bone_numbers bones) k.place k.left) (sym same) ∙ eh in
              let all : ◌≡◌ {A = Result (Step (List ℕ × List (List ℕ)))} (read_links bones n.at (left n s)) (accept (record { value = (h.value, l.value); place = l.place; left = l.left })) = rw (first, el) in
              bad_got (sym g ∙ all))));
        }

    pub lay_at : (j : ℕ) (m : Cursor) → x ≡ Ok (j, m) → LaidAt s bones (read_bone bones c.at (left c s)) c n.at j m
    unfolding name_cells read_bone parent_of list_of
    lay_at j m q =
        let h = runs_passed (sized c.at (left c s)) c 4 r v n w in
        let y = runs_read sized sized-moves s c inside 4 r v n w in
        let i = runs_inside (sized c.at (left c s)) c 4 r v n w (length s) inside in
        let k = linked s n bones x b j m q in
        let p = rw q at b.passes in
        let g = row_got (bone_numbers bones) n.at (left n s) k.numbers k.first in
        let count = sym (times-length (row (child_numbers bones)) (number k.numbers children_at) k.numbers.place k.numbers.left k.children k.second) in
        let move = row-moves (bone_numbers bones) n.at (left n s) k.numbers k.first in
        let by : move.by ≡ 80 = omega (arith, g.2) in
        let here : k.numbers.left ≡ left (record { at = n.at + 80; end = c.end }) s = move.rest ∙ ap (λ (i : ℕ). drop i (left n s)) by ∙ sym (left-drop s n 80 (record { at = n.at + 80; end = c.end }) refl (sym h.2)) in
        let kids = rw here at (ids-read bones (number k.numbers children_at) k.numbers.place k.numbers.left k.children k.second) in
        let room : n.at + 80 ≤ n.end = omega (arith, left-length s n i, g.1) in
        record {
          bone = record { place = c.at; name = y.value; numbers = k.numbers.value; children = k.children.value };
          is = rw (y.is, k.first, k.second, k.at, k.left_over);
          place = refl;
          label = let z = sized_got c.at (left c s) _ y.is in let e : length y.value.bytes ≡ n.at - (c.at + 4) = omega (arith, z.1) in rw (z.0, e);
          words = g.0 ∙ ap (λ (e : ℕ). words_of 20 (left (record { at = n.at; end = e }) s)) h.2;
          parent = ap (λ (ws : List ℕ). get_or ws 14 0) g.0 ∙ word-at s n 20 14 i (omega arith) (omega arith);
          many = k.many;
          kids = kids.0 ∙ ap (λ (i : ℕ). words_of i (left (record { at = n.at + 80; end = c.end }) s)) (count ∙ k.many);
          named = kids.1;
          behind = h.0;
          room = p.0;
          inside = p.1;
          same = p.2 ∙ h.2;
        }

pub ruleset lay = (lay_no_name, lay_no_links, lay_at)
