-- Runs over chunks of fixed data and items.
use mathlib.Core.Path.{◌≡◌, refl, ap, sym, ◌∙◌}
use Prim.Native.Nat.{ℕ, ◌+◌, ◌-◌, ◌*◌, ◌<◌}
use native.Mathlib.Omega.{arith}
use mathlib.Core.Bool.{Bool, true, false, not}
use mathlib.Core.List.{List, [], ◌∷◌}
use lib.ListN.{length, drop, length-map, length-replicate, length-drop}
use lib.Dec.{T, eqb, ltb, eqb→eq, T_not, ltb→lt, nltb→le}
use Rattle.wire.specs.Test.{if}
use Rattle.layout.specs.Result.{Result, accept, ◌>>=◌}
use Rattle.layout.specs.Rules.{any}
use Rattle.layout.specs.Parts.{words_of, row, named, items}
use Rattle.layout.proofs.ResultLaws.{if_yes, if_no, by_test}
use Rattle.layout.proofs.HeldLaws.{loose}
use Rattle.layout.proofs.StepLaws.{row-short, row_any, row_shrinks, named_shrinks}
use Rattle.b3d_spec.specs.declared.Tag.{Tag}
use Rattle.b3d_spec.specs.declared.Tag.TheVariants.{TEXS, BRUS, VRTS, TRIS, BONE, KEYS, ANIM}
use Rattle.b3d_spec.specs.declared.Mode.TheVariants.{Strict}
use Rattle.b3d_spec.specs.Rules.{vertex_words, vertex_row, key_words}
use Rattle.b3d_spec.specs.Nesting.{nesting, required_between, end}
use Rattle.b3d_spec.proofs.Files.ModeLaws.{loose_vertex}
use Rattle.b3d_spec.proofs.Files.LeafLaws.{anim-whole, anim-other}
use Rattle.b3d_pieces_spec.specs.declared.Totals.{Totals}
use Rattle.b3d_pieces_spec.specs.declared.Kept.{Kept}
use Rattle.b3d_pieces_spec.specs.declared.Open.{Open}
use Rattle.b3d_pieces_spec.specs.Bodies.{fixed_row, inner_row, nests, text_items, wrong_for, none_kept, headed, closed}
use Rattle.b3d_pieces_spec.specs.Machine.{State, fault, fresh, numbered, counting, edge, fixed_done, fixed_row_from, enter, row_done, row_from, run}
use Rattle.b3d_pieces_spec.proofs.RunLaws.{after, after_bind, after_cong, run-fault, eqb_yes, row-whole, kept_of}
use Rattle.b3d_pieces_spec.proofs.ItemRunLaws.{row_goes, named-goes, begin-item, begin-named, items-run}
use Rattle.b3d_pieces_spec.proofs.CountLaws.{count_items, leaf_out, anim_out}

-- fixed data that other data may follow
module _ (g : Totals) (f : Open) (R : List Open) (more : (x y : ℕ) → wrong_for f.tag x y ≡ ltb x y) where
  pub fixed_run : (p : ℕ) (s : List ℕ) → p + length s ≡ f.end
      → run (fixed_row_from p g f R) s ≡ after (row (fixed_row f.tag g) p s) (λ x. run (fixed_done x.place (kept_of x.value) g f R) x.left)
  unfolding fixed_row_from row_done row_from
  fixed_run p s e =
      let rs = fixed_row f.tag g in
      let on = row_from true p 0 p none_kept g f R in
      rw (more (f.end - p) (4 * length rs))
      (by_test (ltb (f.end - p) (4 * length rs))
      (λ t. let q = ltb→lt (f.end - p) (4 * length rs) t in
      ap (λ (st : State). run st s) (if_yes (ltb (f.end - p) (4 * length rs)) (fault 5 p) on t) ∙ run-fault 5 p s ∙ rw (row-short rs p s (omega arith)))
      (λ t. let q = nltb→le (f.end - p) (4 * length rs) t in
      ap (λ (st : State). run st s) (if_no (ltb (f.end - p) (4 * length rs)) (fault 5 p) on t) ∙ row-whole true p g f R p s (omega arith)))

-- a chunk that ends
pub edge_leave : (p : ℕ) (g : Totals) (f : Open) (R : List Open) → p ≡ f.end → required_between (nesting f.tag) f.turn end ≡ false
    → edge p g (f ∷ R) ≡ edge p (closed f.tag f.count f.kept f.told g) R
unfolding edge if
edge_leave p g f R e o = rw o (if_yes (eqb p f.end) _ _ (eqb_yes p f.end e))

-- what holds of the tag of a chunk of items
pub record Leaf (t : Tag) : Type 0 where
  pub more : (x y : ℕ) → wrong_for t x y ≡ ltb x y
  pub flat : nests t ≡ false
  pub free : (n : ℕ) → required_between (nesting t) n end ≡ false
  pub same : (k : Kept) (g : Totals) → headed t k g ≡ g
  pub some : (k : Kept) (g : Totals) → 0 < length (inner_row t k g)

-- items to the end of a chunk with its fixed numbers, with a text before each or not
module _ (g : Totals) (R : List Open) (f : Open) (L : Leaf f.tag) where
  leave_run : {A : Type 0} (o : Result (List A))
      → after o (λ l. edge f.end g (counting f (length l) ∷ R)) ≡ after (o >>= λ l. accept (length l)) (λ n. edge f.end (closed f.tag n f.kept f.told g) R)
  leave_run o =
      after_cong o (λ l _. edge_leave f.end g (counting f (length l)) R refl (L.free f.turn))
      ∙ sym (after_bind o (λ l. accept (length l)) _)

  pub count_run : (w : Bool) → text_items f.tag ≡ w → (p : ℕ) (s : List ℕ) → p + length s ≡ f.end
      → run (edge p g (counting f 0 ∷ R)) s ≡ after (count_items w (inner_row f.tag f.kept g) p s) (λ n. edge f.end (closed f.tag n f.kept f.told g) R)
  unfolding count_items
  count_run true w p s h =
      let rs = inner_row f.tag f.kept g in
      items-run (named rs) (named_shrinks rs) (named-goes rs) g f R (λ c q b e n. begin-named g (counting f c) R q b e w L.flat n) p s h
      ∙ leave_run (items (named rs) p s)
  count_run false w p s h =
      let rs = inner_row f.tag f.kept g in
      let some = L.some f.kept g in
      items-run (row rs) (row_shrinks rs some) (row_goes rs) g f R (λ c q b e n. begin-item g (counting f c) R q b e w some L.flat) p s h
      ∙ leave_run (items (row rs) p s)

-- a whole chunk
pub leaf-run : (t : Tag) (L : Leaf t) (l p : ℕ) (b : List ℕ) (g : Totals) (R : List Open) (e : ℕ) → p + 8 + length b ≡ e
    → run (enter false (p + 8) g (fresh t p e l 0) R) b ≡ after (leaf_out t g p b) (λ x. edge e x R)
unfolding enter fixed_done leaf_out
leaf-run t L l p b g R e n =
    fixed_run g (fresh t p e l 0) R L.more (p + 8) b n
    ∙ after_cong (row (fixed_row t g) (p + 8) b) (λ h eh.
    rw (L.same (kept_of h.value) g)
    (count_run g R (numbered (fresh t p e l 0) (kept_of h.value)) L (text_items t) refl h.place h.left (row_goes (fixed_row t g) (p + 8) b h eh ∙ n)
    ∙ sym (after_bind (count_items (text_items t) (inner_row t (kept_of h.value) g) h.place h.left) _ _)))
    ∙ sym (after_bind (row (fixed_row t g) (p + 8) b) _ _)

-- ---- the tags of such chunks

pub texs_leaf : Leaf TEXS
texs_leaf = record { more = λ x y. refl; flat = refl; free = λ n. refl; same = λ k g. refl; some = λ k g. omega arith }

pub brus_leaf : Leaf BRUS
brus_leaf = record { more = λ x y. refl; flat = refl; free = λ n. refl; same = λ k g. refl; some = λ k g. omega arith }

pub vertex-row-length : (flags sets size : ℕ) → length (vertex_row Strict flags sets size) ≡ vertex_words flags sets size
vertex-row-length flags sets size =
    sym (length-map (vertex_row Strict flags sets size) loose) ∙ ap length (loose_vertex flags sets size) ∙ length-replicate (vertex_words flags sets size) any

pub vrts_leaf : Leaf VRTS
unfolding vertex_words
vrts_leaf = record {
  more = λ x y. refl;
  flat = refl;
  free = λ n. refl;
  same = λ k g. refl;
  some = λ k g. omega (arith, vertex-row-length k.first k.second k.third);
}

pub tris_leaf : Leaf TRIS
tris_leaf = record { more = λ x y. refl; flat = refl; free = λ n. refl; same = λ k g. refl; some = λ k g. omega arith }

pub bone-leaf : Leaf BONE
bone-leaf = record { more = λ x y. refl; flat = refl; free = λ n. refl; same = λ k g. refl; some = λ k g. omega arith }

pub keys-leaf : Leaf KEYS
unfolding key_words
keys-leaf = record {
  more = λ x y. refl;
  flat = refl;
  free = λ n. refl;
  same = λ k g. refl;
  some = λ k g. omega (arith, length-replicate (key_words k.first) any);
}

-- ---- ANIM

run_none : (st : State) (s : List ℕ) → length s ≡ 0 → run st s ≡ st
run_none st [] h = refl
run_none st (b ∷ s) h = absurd (omega arith)

not-not : (b : Bool) → T b → T (not (not b))
not-not true t = tt
not-not false t = absurd t

anim-valid : (l p : ℕ) (b : List ℕ) (g : Totals) (R : List Open)
    → run (enter false (p + 8) g (fresh ANIM p (p + 8 + length b) l 0) R) b ≡ after (anim_out g p b) (λ x. edge (p + 8 + length b) x R)
unfolding enter fixed_row_from fixed_done row_done row_from anim_out
anim-valid l p b g R =
    let e = p + 8 + length b in
    let f = fresh ANIM p e l 0 in
    let on = row_from true (p + 8) 0 (p + 8) none_kept g f R in
    by_test (eqb (e - (p + 8)) 12)
    (λ t. let q = eqb→eq (e - (p + 8)) 12 t in
    let n : length b ≡ 12 = omega arith in
    rw (anim-whole p b n)
    (ap (λ (st : State). run st b) (if_no (not (eqb (e - (p + 8)) 12)) (fault 5 (p + 8)) on (not-not (eqb (e - (p + 8)) 12) t))
    ∙ row-whole true (p + 8) g f R (p + 8) b (omega arith)
    ∙ rw (row_any 3 (p + 8) b (omega arith)) (run_none _ (drop 12 b) (let z = length-drop 12 b in omega arith)
    ∙ edge_leave (p + 8 + 12) g (numbered f (kept_of (words_of 3 b))) R (ap (λ (z : ℕ). p + 8 + z) (sym n)) refl ∙ ap (λ (z : ℕ). edge (p + 8 + z) (closed ANIM 0 none_kept 0 g) R) (sym n))))
    (λ t.
    rw (anim-other p b (λ n. T_not (eqb (e - (p + 8)) 12) t (eqb_yes (e - (p + 8)) 12 (omega arith))))
    (ap (λ (st : State). run st b) (if_yes (not (eqb (e - (p + 8)) 12)) (fault 5 (p + 8)) on t) ∙ run-fault 5 (p + 8) b))

pub anim-run : (l p : ℕ) (b : List ℕ) (g : Totals) (R : List Open) (e : ℕ) → p + 8 + length b ≡ e
    → run (enter false (p + 8) g (fresh ANIM p e l 0) R) b ≡ after (anim_out g p b) (λ x. edge e x R)
anim-run l p b g R e n = rw n at (anim-valid l p b g R)
