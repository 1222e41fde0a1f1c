-- The laws of the close, in the words of the code.
use Rattle.layout.specs.Refused.{refusal_at}
use Rattle.std.specs.Prelude.{Ok, Err}
use Rattle.std.specs.Prelude as std
use Rattle.layout.specs.declared.Refusal.{Refusal}
use mathlib.Core.Path.{◌≡◌, refl, ap, sym, ◌∙◌}
use Prim.Native.Nat.{ℕ, ◌-◌, ◌<◌, ◌≤◌}
use native.Mathlib.Omega.{arith}
use mathlib.Core.Bool.{false}
use mathlib.Core.List.{List, [], ◌∷◌}
use lib.ListN.{replicate}
use lib.Dec.{leb}
use borrow.Author.Tests.{le-leb, lt-leb, le-ltb, eq-eqb, ne_eqb}
use Rattle.wire.specs.Test.{if}
use Rattle.layout.specs.Result.{Result, accept, reject, check, ◌>>=◌}
use Rattle.layout.specs.Rows.{size_fits}
use Rattle.b3d_spec.specs.declared.Answer.{Answer}
use Rattle.b3d_judge_tally.specs.declared.Tally.{Tally}
use Rattle.b3d_judge_limits.specs.Limits.{tallied, over_limit}
use Rattle.b3d_judge_limits.proofs.LimitLaws.{over_none, over-some}
use Rattle.b3d_pieces_spec.specs.declared.Totals.{Totals}
use Rattle.b3d_pieces_spec.specs.declared.Open.{Open}
use Rattle.b3d_pieces_spec.specs.declared.Part.{Part}
use Rattle.b3d_pieces_spec.specs.Close.{inside, Held, ended, whole_ended, limited, closing}
use Rattle.b3d_pieces_item_steps.specs.declared.Now.{Now}
use Rattle.b3d_pieces_item_steps.specs.declared.Now.TheVariants.{Live, Push, Pop, Fault, Over}
use Rattle.b3d_pieces_item_steps.specs.Nows.{state_with}
use Rattle.b3d_pieces_step.specs.Turns.{stack_by, pends}
use Rattle.b3d_pieces_step.proofs.TurnLaws.{none}
use Rattle.b3d_pieces_judge_step.specs.declared.Judge.{Judge}
use Rattle.b3d_pieces_judge_step.specs.Takes.{held_of}
use Rattle.b3d_pieces_answers.specs.Closes.{closing_of, rows_in, as_word, answer_by, word_answer, EndIs, Closes}

-- ---- tables

module _ (g : Totals) (k : ℕ) (e : k ≡ over_limit (tallied (rows_in g) 0)) where
  pub limited-yes : k ≡ 0 → limited g ≡ accept g
  unfolding limited
  limited-yes z = ap (λ (x : Result (Unit {0})). x >>= λ _. accept g) (over_none (rows_in g) 0 k e z)

  pub limited-no : (k ≡ 0 → ⊥) → limited g ≡ reject 10 k
  unfolding limited
  limited-no z = ap (λ (x : Result (Unit {0})). x >>= λ _. accept g) (over-some (rows_in g) 0 k e z)

-- ---- the machine's end

module _ (held : Now) (r : std.Result Totals Refusal) where
  pub end_live : (at : ℕ) (m : Part) (g : Totals) (f : Open) → held ≡ Live at m g f → r ≡ Ok g → EndIs held r
  unfolding ended
  end_live at m g f e q = rw (e, q) (record { is = λ c R. refl })

  pub end_push : (at : ℕ) (g : Totals) (f o : Open) → held ≡ Push at g f o → EndIs held r
  end_push at g f o e = rw e (record { is = λ c R. none (sym c) })

  pub end_pop : (at : ℕ) (g : Totals) → held ≡ Pop at g → EndIs held r
  end_pop at g e = rw e (record { is = λ c R. none (sym c) })

  pub end-fault : (n p : ℕ) → held ≡ Fault n p → r ≡ Err (refusal_at n p) → EndIs held r
  unfolding ended
  end-fault n p e q = rw (e, q) (record { is = λ c R. refl })

  pub end-over : (g : Totals) → held ≡ Over g → r ≡ Ok g → EndIs held r
  unfolding ended
  end-over g e q = rw (e, q) (record { is = λ c R. refl })

pub ruleset end_laws = (end_live, end_push, end_pop, end-fault, end-over)

-- ---- the whole

bad-size : (h : Held) → size_fits h.size ≡ false → closing h ≡ reject 1 0
unfolding closing check
bad-size h e = rw e

out_of : (o : Result Totals) (r : std.Result Totals Refusal) → r ≡ closing_of o → (n : Refusal) → r ≡ Err n → o ≡ reject n.number n.place
out_of (accept g) r e n q = let z : ◌≡◌ {A = ℕ} 0 1 = cc in absurd (omega arith)
out_of (reject m k) r e n q = let a : m ≡ n.number = cc in let b : k ≡ n.place = cc in rw (a, b)

out-good : (o : Result Totals) (r : std.Result Totals Refusal) → r ≡ closing_of o → (g : Totals) → r ≡ Ok g → o ≡ accept g
out-good (accept x) r e g q = let a : x ≡ g = cc in rw a
out-good (reject m k) r e g q = let z : ◌≡◌ {A = ℕ} 0 1 = cc in absurd (omega arith)

module _ (j : Judge) (r : std.Result Totals Refusal) where
  pub close-small : j.size < 12 → r ≡ Err (refusal_at 1 0) → Closes j r
  unfolding held_of
  close-small h q = record { is = λ c rs. q ∙ ap closing_of (sym (bad-size (held_of j rs) (rw (lt-leb 12 j.size h)))) }

  module _ (l : 12 ≤ j.size) where
    pub close_large : 16777216 < j.size → r ≡ Err (refusal_at 1 0) → Closes j r
    unfolding held_of
    close_large h q = record { is = λ c rs. q ∙ ap closing_of (sym (bad-size (held_of j rs) (rw (le-leb 12 j.size l) (lt-leb j.size 16777216 h)))) }

    module _ (m : j.size ≤ 16777216) where
      closing-is : (rs : ℕ → Open) → closing (held_of j rs) ≡ (whole_ended j.size (inside j.letters j.length (state_with (stack_by rs j.depth) j.now)) >>= limited)
      unfolding closing held_of check
      closing-is rs = rw (le-leb 12 j.size l, le-leb j.size 16777216 m, le-ltb j.size 8 (omega arith))

      tag-no : (j.letters ≡ 0x44334242 → ⊥) → (rs : ℕ → Open) → closing (held_of j rs) ≡ reject 2 0
      unfolding whole_ended check
      tag-no h rs = closing-is rs ∙ rw (ne_eqb j.letters 0x44334242 h)

      pub close-tag : (j.letters ≡ 0x44334242 → ⊥) → r ≡ Err (refusal_at 2 0) → Closes j r
      close-tag h q = record { is = λ c rs. q ∙ ap closing_of (sym (tag-no h rs)) }

      module _ (t : j.letters ≡ 0x44334242) where
        length-no : (j.length ≡ j.size - 8 → ⊥) → (rs : ℕ → Open) → closing (held_of j rs) ≡ reject 2 4
        unfolding whole_ended check
        length-no h rs = closing-is rs ∙ rw (eq-eqb j.letters 0x44334242 t, ne_eqb j.length (j.size - 8) h)

        pub close-length : (j.length ≡ j.size - 8 → ⊥) → r ≡ Err (refusal_at 2 4) → Closes j r
        close-length h q = record { is = λ c rs. q ∙ ap closing_of (sym (length-no h rs)) }

        module _ (u : j.length ≡ j.size - 8) (x : std.Result Totals Refusal) (ex : EndIs j.now x) where
          inner_is : (rs : ℕ → Open) → closing (held_of j rs) ≡ (ended (state_with (stack_by rs j.depth) j.now) >>= limited)
          unfolding whole_ended check
          inner_is rs = closing-is rs ∙ rw (eq-eqb j.letters 0x44334242 t, eq-eqb j.length (j.size - 8) u)

          pub close-fault : (n : Refusal) → x ≡ Err n → r ≡ Err n → Closes j r
          close-fault n e q = record { is = λ c rs. q ∙ ap closing_of (sym (inner_is rs ∙ ap (λ (o : Result Totals). o >>= limited) (out_of (ended (state_with (stack_by rs j.depth) j.now)) x (ex.is c (stack_by rs j.depth)) n e))) }

          module _ (g : Totals) (e : x ≡ Ok g) (c : Tally) (ec : c ≡ tallied (rows_in g) 0) (k : ℕ) (ek : k ≡ over_limit c) where
            got_is : pends j.now ≡ false → (rs : ℕ → Open) → closing (held_of j rs) ≡ limited g
            got_is c rs = inner_is rs ∙ ap (λ (o : Result Totals). o >>= limited) (out-good (ended (state_with (stack_by rs j.depth) j.now)) x (ex.is c (stack_by rs j.depth)) g e)

            pub close-good : k ≡ 0 → r ≡ Ok g → Closes j r
            close-good z q = record { is = λ c rs. q ∙ ap closing_of (sym (got_is c rs ∙ limited-yes g k (ek ∙ ap over_limit ec) z)) }

            pub close-over : (k ≡ 0 → ⊥) → r ≡ Err (refusal_at 10 k) → Closes j r
            close-over z q = record { is = λ c rs. q ∙ ap closing_of (sym (got_is c rs ∙ limited-no g k (ek ∙ ap over_limit ec) z)) }

pub ruleset close_laws = (close-small, close_large, close-tag, close-length, close-fault, close-good, close-over)

-- ---- the answer

pub word_low : (n r : ℕ) → n ≤ 4294967295 → r ≡ n → r ≡ as_word n
unfolding as_word if
word_low n r h q = rw (le-leb n 4294967295 h) q

pub word-high : (n r : ℕ) → 4294967295 < n → r ≡ 4294967295 → r ≡ as_word n
unfolding as_word if
word-high n r h q = rw (lt-leb n 4294967295 h) q

pub ruleset word_laws = (word_low, word-high)

abbrev saying : ℕ → ℕ → ℕ → ℕ → List ℕ → Answer
saying n p v s cs = record { number = n; place = p; version = v; n_texs = s; counts = cs }

pub refused-is : (n : Refusal) (x : ℕ) → x ≡ as_word n.place → (r : Answer) → r ≡ record { number = n.number; place = x; version = 0; n_texs = 0; counts = replicate 10 0 } → r ≡ word_answer (answer_by (Err n))
unfolding as_word if
refused-is n x e r q = q ∙ ap (λ (y : ℕ). saying n.number y 0 0 (replicate 10 0)) e

pub accepted-is : (g : Totals) (v s a b c d e f h i k l : ℕ) → v ≡ as_word g.version → s ≡ as_word g.slots → a ≡ as_word g.textures → b ≡ as_word g.brushes → c ≡ as_word g.rows.nodes
    → d ≡ as_word g.rows.meshes → e ≡ as_word g.rows.vertices → f ≡ as_word g.rows.sets → h ≡ as_word g.rows.triangles → i ≡ as_word g.rows.weights → k ≡ as_word g.rows.lists → l ≡ as_word g.rows.keys
    → (r : Answer) → r ≡ record { number = 0; place = 0; version = v; n_texs = s; counts = a ∷ b ∷ c ∷ d ∷ e ∷ f ∷ h ∷ i ∷ k ∷ l ∷ [] } → r ≡ word_answer (answer_by (Ok g))
accepted-is g v s a b c d e f h i k l ev es ea eb ec ed ee ef eh ei ek el r q =
    q ∙ same
  where
    zero_word : 0 ≡ as_word 0
    zero_word = word_low 0 0 (omega arith) refl

    same : saying 0 0 v s (a ∷ b ∷ c ∷ d ∷ e ∷ f ∷ h ∷ i ∷ k ∷ l ∷ []) ≡ word_answer (answer_by (Ok g))
    same = λ z. saying 0 (zero_word z) (ev z) (es z) (ea z ∷ eb z ∷ ec z ∷ ed z ∷ ee z ∷ ef z ∷ eh z ∷ ei z ∷ ek z ∷ el z ∷ [])
