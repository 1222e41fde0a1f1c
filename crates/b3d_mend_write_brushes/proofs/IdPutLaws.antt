-- What is put of ids one after the other.
use mathlib.Core.Path.{◌≡◌, refl, sym, ap, subst, ◌∙◌}
use Prim.Native.Nat.{ℕ, suc, ◌+◌, ◌-◌, ◌*◌, ◌<◌, ◌≤◌}
use native.Mathlib.Omega.{arith}
use mathlib.Core.Bool.{Bool}
use mathlib.Core.List.{List, [], ◌∷◌, ◌++◌}
use lib.ListN.{length, drop, replicate}
use lib.Seq.{take_all}
use Rattle.wire.specs.Bytes.{word_at}
use Rattle.wire.specs.Cursors.{left}
use Rattle.wire.proofs.LeftLaws.{span, left-four}
use Rattle.layout.specs.Parts.{words_of}
use Rattle.layout.specs.Rules.{names_or_none}
use Rattle.shared_output.proofs.PartLaws.{Both}
use Rattle.b3d_mend_spec.specs.Edits.{Edit}
use Rattle.b3d_mend_spec.specs.Walks.{word_edit, word_edits}
use Rattle.shared_put_or_count.specs.Emits.{RoomFrom, Emits}
use Rattle.b3d_mend_write_spec.specs.Shown.{shown}
use Rattle.shared_put_or_count.proofs.PutLaws.{Left, left-none, left-done, left-fits, left_next}
use Rattle.b3d_mend_write_spec.proofs.ShowsLaws.{shown-none, shown-cons}
use Rattle.b3d_mend_write_items.proofs.SetPutLaws.{word-was}
use Rattle.b3d_mend_write_brushes.specs.Ids.{id_edits}

whole : (s : List ℕ) (n : ℕ) → left (span n (length s)) s ≡ drop n s
unfolding left
whole s n = ap (drop n) (take_all (length s) s (omega arith))

-- the first of several
ids_step : (limit k p : ℕ) (s : List ℕ) → p + 4 ≤ length s → id_edits limit (suc k) p s ≡ word_edit (names_or_none limit) (word_at s p) ∷ id_edits limit k (p + 4) s
unfolding id_edits word_edits word_at
ids_step limit k p s h =
    ap (λ (l : List ℕ). word_edits (replicate (suc k) (names_or_none limit)) (words_of (suc k) l))
    (sym (whole s p) ∙ left-four s (span p (length s)) (span (p + 4) (length s)) (record { before = omega arith; within = omega arith }) h refl refl)
    ∙ ap (λ (l : List ℕ). word_edit (names_or_none limit) (word_at s p) ∷ word_edits (replicate k (names_or_none limit)) (words_of k l)) (whole s (p + 4))

ids-none : (limit p : ℕ) (s : List ℕ) → id_edits limit 0 p s ≡ []
unfolding id_edits word_edits
ids-none limit p s = refl

-- the ids from the i-th on are left to be put
pub record Ids (s : List ℕ) (from n limit : ℕ) (report wet : Bool) (xs : List ℕ) (start : ℕ) (ys : List ℕ) (i at : ℕ) : Type 0 where
  pub some : i ≤ n
  pub rest : Left wet (shown report from (id_edits limit n from s)) xs start ys at (shown report (from + 4 * i) (id_edits limit (n - i) (from + 4 * i) s))

module _ (s : List ℕ) (from n limit : ℕ) (report wet : Bool) (xs : List ℕ) (start : ℕ) where
  abbrev All : List ℕ
  All = shown report from (id_edits limit n from s)

  pub ids_start : RoomFrom wet All start xs → Ids s from n limit report wet xs start xs 0 start
  ids_start f =
      let p : from ≡ from + 4 * 0 = omega arith in
      let k : n ≡ n - 0 = omega arith in
      record {
        some = omega arith;
        rest = subst (λ (q : ℕ). Left wet All xs start xs start (shown report q (id_edits limit (n - 0) q s))) p
            (subst (λ (q : ℕ). Left wet All xs start xs start (shown report from (id_edits limit q from s))) k (left-none wet All xs start f));
      }

  module _ (ys : List ℕ) (i at : ℕ) (g : Ids s from n limit report wet xs start ys i at) where
    abbrev here : ℕ
    here = from + 4 * i

    pub ids_done : n ≤ i → Emits wet All xs start ys at
    ids_done h =
        let z : n - i ≡ 0 = omega arith in
        left-done wet All xs start ys at _ g.rest (ap (λ (k : ℕ). shown report here (id_edits limit k here s)) z ∙ ap (shown report here) (ids-none limit here s) ∙ shown-none report here)

    module _ (h : i < n) (inside : from + 4 * n ≤ length s) where
      pub ids_inside : from + 4 * i + 4 ≤ length s
      ids_inside = omega arith

      abbrev first : Edit
      first = word_edit (names_or_none limit) (word_at s here)

      two : Both (shown report here (id_edits limit (n - i) here s)) (shown report here (first ∷ [])) (shown report (from + 4 * (i + 1)) (id_edits limit (n - (i + 1)) (from + 4 * (i + 1)) s))
      two =
          let k : n - i ≡ suc (n - (i + 1)) = omega arith in
          let p : here + 4 ≡ from + 4 * (i + 1) = omega arith in
          record {
            is =
                ap (λ (q : ℕ). shown report here (id_edits limit q here s)) k
                ∙ ap (shown report here) (ids_step limit (n - (i + 1)) here s ids_inside)
                ∙ (shown-cons report here first (id_edits limit (n - (i + 1)) (here + 4) s)).is
                ∙ ap (λ (q : ℕ). shown report here (first ∷ []) ++ shown report (here + q) (id_edits limit (n - (i + 1)) (here + 4) s)) (word-was (names_or_none limit) (word_at s here))
                ∙ ap (λ (q : ℕ). shown report here (first ∷ []) ++ shown report q (id_edits limit (n - (i + 1)) q s)) p;
          }

      pub ids_fits : RoomFrom wet (shown report (from + 4 * i) (word_edit (names_or_none limit) (word_at s (from + 4 * i)) ∷ [])) at ys
      ids_fits = left-fits wet All xs start ys at _ g.rest (shown report here (first ∷ [])) _ two

      pub ids_next : (zs : List ℕ) (m : ℕ) → Emits wet (shown report (from + 4 * i) (word_edit (names_or_none limit) (word_at s (from + 4 * i)) ∷ [])) ys at zs m
          → Ids s from n limit report wet xs start zs (i + 1) m
      ids_next zs m e = record { some = omega arith; rest = left_next wet All xs start ys at _ g.rest (shown report here (first ∷ [])) _ two zs m e }

pub ruleset ids_laws = (ids_start, ids_done, ids_inside, ids_fits, ids_next)
