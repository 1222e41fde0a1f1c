-- Runs over the chunks inside a chunk: headers, unknown chunks, the nesting rule.
use mathlib.Core.Path.{◌≡◌, refl, ap, sym, ◌∙◌}
use Prim.Native.Nat.{ℕ, zero, suc, ◌+◌, ◌-◌, ◌<◌, ◌≤◌}
use native.Mathlib.Omega.{arith}
use mathlib.Core.Bool.{Bool, true, false}
use mathlib.Core.Option.{Option, none, some}
use mathlib.Core.List.{List, [], ◌∷◌, ◌++◌}
use lib.ListN.{length, take, drop, length-take, length-drop, take-append-drop}
use lib.Dec.{eqb, ltb, leb, le→leb, ltb→lt, nltb→le}
use Rattle.wire.specs.Test.{if}
use Rattle.wire.specs.Bytes.{word}
use Rattle.layout.specs.Result.{Result}
use Rattle.layout.specs.Chunks.{done, stop, chunk, keep}
use Rattle.layout.proofs.ResultLaws.{if_yes, if_no, by_test}
use Rattle.layout.proofs.StepLaws.{row_any}
use Rattle.layout.proofs.ChunkLaws.{split-none, split-short, split-past, split_step}
use Rattle.b3d_spec.specs.declared.Tag.{Tag}
use Rattle.b3d_spec.specs.Tags.{Chunks, split, tag_of}
use Rattle.b3d_spec.specs.Rules.{header}
use Rattle.b3d_spec.specs.Nesting.{nesting, Reached, required_between, end, next, onward, order}
use Rattle.b3d_pieces_spec.specs.declared.Totals.{Totals}
use Rattle.b3d_pieces_spec.specs.declared.Kept.{Kept}
use Rattle.b3d_pieces_spec.specs.declared.Open.{Open}
use Rattle.b3d_pieces_spec.specs.Bodies.{inner_row, nests, text_items, closed}
use Rattle.b3d_pieces_spec.specs.Machine.{State, fault, rules, reaching, edge, opened, skip_from, stand, known, header_done, inner_done, row_done, byte_in, step, run}
use Rattle.b3d_pieces_spec.proofs.RunLaws.{after, after_bind, after_cong, run-append, run-fault, run-after, eqb_no, eqb_yes}
use Rattle.b3d_pieces_spec.proofs.ItemRunLaws.{edge_on, begin-short, begin-whole}
use Rattle.b3d_pieces_spec.proofs.CountLaws.{chunks_out}

pub by_option {ℓ} : {A : Type 0} {P : Type ℓ} (o : Option A) → (o ≡ none → P) → ((a : A) → o ≡ some a → P) → P
by_option none f g = f refl
by_option (some a) f g = g a refl

-- what holds of the tag of a chunk of chunks
pub record Holds (t : Tag) : Type 0 where
  pub deep : nests t ≡ true
  pub no_text : text_items t ≡ false
  pub heads : (k : Kept) (g : Totals) → inner_row t k g ≡ header

-- bytes that are passed over
pub skip_run : (at : ℕ) (u : List ℕ) (g : Totals) (f : Open) (R : List Open) (until : ℕ) → at + length u ≡ until → run (skip_from until at g f R) u ≡ edge until g (f ∷ R)
unfolding skip_from step byte_in
skip_run at [] g f R until e =
    let q : at ≡ until = omega arith in
    if_yes (eqb at until) _ _ (eqb_yes at until q) ∙ ap (λ (z : ℕ). edge z g (f ∷ R)) q
skip_run at (b ∷ u) g f R until e =
    ap (λ (st : State). run st (b ∷ u)) (if_no (eqb at until) _ _ (eqb_no at until (λ z. omega arith)))
    ∙ skip_run (at + 1) u g f R until (omega arith)

module _ (g : Totals) (f : Open) (R : List Open) (H : Holds f.tag) where
  -- eight bytes of a header
  header-run : (p a b c d e x h i : ℕ) (s : List ℕ) → p + 8 + length s ≡ f.end
      → run (edge p g (f ∷ R)) (a ∷ b ∷ c ∷ d ∷ e ∷ x ∷ h ∷ i ∷ s) ≡ run (header_done p (word a b c d) (word e x h i) (p + 8) g f R) s
  unfolding row_done inner_done
  header-run p a b c d e x h i s n =
      let u = a ∷ b ∷ c ∷ d ∷ e ∷ x ∷ h ∷ i ∷ s in
      let m : length (rules false f g) ≡ 2 = ap length (H.heads f.kept g) in
      ap (λ (st : State). run st u) (edge_on p g f R (λ z. omega arith))
      ∙ begin-whole g f R p u (omega arith) H.no_text (omega arith) (omega arith)
      ∙ rw (H.heads f.kept g, row_any 2 p u (omega arith), H.deep)

  -- fewer bytes
  cut-run : (p : ℕ) (s : List ℕ) → p + length s ≡ f.end → 0 < length s → length s < 8 → run (edge p g (f ∷ R)) s ≡ fault 3 p
  cut-run p s n h k =
      let m : length (rules false f g) ≡ 2 = ap length (H.heads f.kept g) in
      ap (λ (st : State). run st s) (edge_on p g f R (λ z. omega arith))
      ∙ begin-short g f R p s n H.no_text (omega arith) (omega arith)
      ∙ rw H.deep

module _ (f : Open) (R : List Open) (H : Holds f.tag) (one : Tag → Totals → ℕ → List ℕ → Result Totals) where
  -- the state where the chunk was left with these totals
  abbrev pub left : Totals → State
  left x = edge f.end (closed f.tag f.count f.kept f.told x) R

  -- what the chunks from a place on lead to
  abbrev pub rest : Totals → Reached → Chunks → State
  rest g r cs = after (chunks_out one (order f.tag f.head r cs) g) left

  owing : (o : Bool) (g : Totals) → if o (fault 8 f.head) (left g) ≡ after (chunks_out one (if {A = Chunks} o (stop 8 f.head) done) g) left
  unfolding if chunks_out
  owing true g = refl
  owing false g = refl

  -- the end of the chunk
  end-run : (p : ℕ) (g : Totals) (r : Reached) → p ≡ f.end → edge p g (reaching f r ∷ R) ≡ rest g r done
  unfolding edge order
  end-run p g r e =
      ap (λ (z : ℕ). edge z g (reaching f r ∷ R)) e
      ∙ if_yes (eqb f.end f.end) _ _ (eqb_yes f.end f.end refl)
      ∙ owing (required_between (nesting f.tag) r.turn end) g

  stopped : (p : ℕ) (g : Totals) (r : Reached) → fault 3 p ≡ rest g r (stop 3 p)
  unfolding order chunks_out
  stopped p g r = refl

  short : (r : Reached) (p : ℕ) (s : List ℕ) (g : Totals) → p + length s ≡ f.end → 0 < length s → length s < 8 → run (edge p g (reaching f r ∷ R)) s ≡ rest g r (split p s)
  short r p s g e h k = cut-run g (reaching f r) R H p s e h k ∙ stopped p g r ∙ ap (rest g r) (sym (split-short tag_of p s h k))

  -- a known chunk that may stand is opened and left
  module _ (each : (t : Tag) (r q : Reached) → next (nesting f.tag) (nesting f.tag) r t ≡ some q → (p : ℕ) (b : List ℕ) (g : Totals) (e : ℕ) → p + 8 + length b ≡ e
      → run (opened t p e (p + 8) g (reaching f q) R) b ≡ after (one t g p b) (λ x. edge e x (reaching f q ∷ R))) where
    -- the chunks after a place, if they have at most n bytes
    abbrev Later : ℕ → Type 0
    Later n = (r : Reached) (p : ℕ) (s : List ℕ) (g : Totals) → length s ≤ n → p + length s ≡ f.end → run (edge p g (reaching f r ∷ R)) s ≡ rest g r (split p s)

    known-run : (n : ℕ) → Later n → (r : Reached) (t : Tag) (p : ℕ) (b s : List ℕ) (g : Totals) (e : ℕ) → p + 8 + length b ≡ e → length s ≤ n → e + length s ≡ f.end
        → (o : Option Reached) → next (nesting f.tag) (nesting f.tag) r t ≡ o
        → run (stand o t p e (p + 8) g (reaching f r) R) (b ++ s) ≡ after (chunks_out one (onward o p (λ q. chunk t p b (order f.tag f.head q (split e s)))) g) left
    unfolding stand onward chunks_out
    known-run n ih r t p b s g e h k m none w = run-fault 4 p (b ++ s)
    known-run n ih r t p b s g e h k m (some q) w =
        run-append (opened t p e (p + 8) g (reaching f q) R) b s
        ∙ ap (λ (st : State). run st s) (each t r q w p b g e h)
        ∙ run-after (one t g p b) _ s
        ∙ after_cong (one t g p b) (λ x _. ih q e s x k m)
        ∙ sym (after_bind (one t g p b) _ _)

    tag-run : (n : ℕ) → Later n → (r : Reached) (p : ℕ) (b s : List ℕ) (g : Totals) (e : ℕ) → p + 8 + length b ≡ e → length s ≤ n → e + length s ≡ f.end
        → (o : Option Tag) → run (known o p e (p + 8) g (reaching f r) R) (b ++ s) ≡ rest g r (keep o p b (split e s))
    unfolding known keep order
    tag-run n ih r p b s g e h k m none =
        run-append (skip_from e (p + 8) g (reaching f r) R) b s
        ∙ ap (λ (st : State). run st s) (skip_run (p + 8) b g (reaching f r) R e h)
        ∙ ih r e s g k m
    tag-run n ih r p b s g e h k m (some t) = known-run n ih r t p b s g e h k m (next (nesting f.tag) (nesting f.tag) r t) refl

    eight-run : (n : ℕ) → Later n → (r : Reached) (p a b c d e x h i : ℕ) (s : List ℕ) (g : Totals) → length s ≤ n → p + 8 + length s ≡ f.end
        → run (edge p g (reaching f r ∷ R)) (a ∷ b ∷ c ∷ d ∷ e ∷ x ∷ h ∷ i ∷ s) ≡ rest g r (split p (a ∷ b ∷ c ∷ d ∷ e ∷ x ∷ h ∷ i ∷ s))
    unfolding header_done
    eight-run n ih r p a b c d e x h i s g k m =
        let w = word e x h i in
        let t = word a b c d in
        let lt = length-take w s in
        let ld = length-drop w s in
        header-run g (reaching f r) R H p a b c d e x h i s m
        ∙ by_test (ltb (f.end - (p + 8)) w)
        (λ z. let q = ltb→lt (f.end - (p + 8)) w z in
        ap (λ (st : State). run st s) (if_yes (ltb (f.end - (p + 8)) w) _ _ z)
        ∙ run-fault 3 p s
        ∙ stopped p g r
        ∙ ap (rest g r) (sym (split-past tag_of p a b c d e x h i s (omega arith))))
        (λ z. let q = nltb→le (f.end - (p + 8)) w z in
        ap (λ (st : State). run st s) (if_no (ltb (f.end - (p + 8)) w) _ _ z)
        ∙ ap (λ (u : List ℕ). run (known (tag_of t) p (p + 8 + w) (p + 8) g (reaching f r) R) u) (sym (take-append-drop w s))
        ∙ tag-run n ih r p (take w s) (drop w s) g (p + 8 + w) (omega arith) (omega arith) (omega arith) (tag_of t)
        ∙ ap (rest g r) (sym (split_step tag_of p a b c d e x h i s ∙ if_yes (leb w (length s)) _ _ (le→leb w (length s) (omega arith)))))

    chunks-in : (n : ℕ) → Later n
    chunks-in zero r p [] g h e = end-run p g r (omega arith) ∙ ap (rest g r) (sym (split-none tag_of p))
    chunks-in zero r p (a ∷ s) g h e = absurd (omega arith)
    chunks-in (suc n) r p [] g h e = end-run p g r (omega arith) ∙ ap (rest g r) (sym (split-none tag_of p))
    chunks-in (suc n) r p (a ∷ []) g h e = short r p (a ∷ []) g e (omega arith) (omega arith)
    chunks-in (suc n) r p (a ∷ b ∷ []) g h e = short r p (a ∷ b ∷ []) g e (omega arith) (omega arith)
    chunks-in (suc n) r p (a ∷ b ∷ c ∷ []) g h e = short r p (a ∷ b ∷ c ∷ []) g e (omega arith) (omega arith)
    chunks-in (suc n) r p (a ∷ b ∷ c ∷ d ∷ []) g h e = short r p (a ∷ b ∷ c ∷ d ∷ []) g e (omega arith) (omega arith)
    chunks-in (suc n) r p (a ∷ b ∷ c ∷ d ∷ w ∷ []) g h e = short r p (a ∷ b ∷ c ∷ d ∷ w ∷ []) g e (omega arith) (omega arith)
    chunks-in (suc n) r p (a ∷ b ∷ c ∷ d ∷ w ∷ x ∷ []) g h e = short r p (a ∷ b ∷ c ∷ d ∷ w ∷ x ∷ []) g e (omega arith) (omega arith)
    chunks-in (suc n) r p (a ∷ b ∷ c ∷ d ∷ w ∷ x ∷ y ∷ []) g h e = short r p (a ∷ b ∷ c ∷ d ∷ w ∷ x ∷ y ∷ []) g e (omega arith) (omega arith)
    chunks-in (suc n) r p (a ∷ b ∷ c ∷ d ∷ w ∷ x ∷ y ∷ z ∷ s) g h e = eight-run n (chunks-in n) r p a b c d w x y z s g (omega arith) (omega arith)

    -- the chunks inside a chunk, from its fixed data on
    pub chunks-run : (r : Reached) (p : ℕ) (s : List ℕ) (g : Totals) → p + length s ≡ f.end → run (edge p g (reaching f r ∷ R)) s ≡ rest g r (split p s)
    chunks-run r p s g e = chunks-in (length s) r p s g (omega arith) e
