-- What reader and mender share: items one after the other, and the chunks inside a chunk, as each of the two has them.
use mathlib.Core.Path.{◌≡◌, refl, ap, sym, ◌∙◌, subst}
use Prim.Native.Nat.{ℕ, zero, suc}
use mathlib.Core.Bool.{Bool, true, false}
use mathlib.Core.Option.{Option, none, some}
use mathlib.Core.List.{List, [], ◌∷◌, ◌++◌}
use lib.ListN.{length}
use Rattle.wire.specs.Test.{if}
use Rattle.layout.specs.Chunks.{done, stop, chunk, ended}
use Rattle.layout.specs.Result.{Result, accept}
use Rattle.layout.specs.Parts.{Step, words, row, items_in, items}
use Rattle.layout.specs.Rules.{Rule}
use Rattle.layout.proofs.ResultLaws.{by_got}
use Rattle.layout.proofs.StepLaws.{judged_got}
use Rattle.b3d_spec.specs.declared.Tag.{Tag}
use Rattle.b3d_spec.specs.Nesting.{nesting, Reached, start, required_between, end, next, onward, order, inside}
use Rattle.b3d_spec.specs.Parse.{Animation}
use Rattle.b3d_spec.specs.Rules.{own_vertices, animated}
use Rattle.b3d_spec.specs.Scene.{Kind}
use Rattle.b3d_spec.specs.Tags.{Chunks}
use Rattle.b3d_mend_spec.specs.Pieces.{Pieces, none_left, spare, past, other, known, pieces, chunks_of}
use Rattle.b3d_mend_spec.proofs.QuietLeafLaws.{strict_of, split_strict}
use Rattle.b3d_mend_faults.specs.Faults.{Fault, FaultReading, end_faults, item_faults_in, item_faults, ChunkFaults, finished, refused, spare_at, chunk_at, found, onward_from, in_order, within}
use Rattle.b3d_mend_faults.proofs.AgreeLaws.{Agrees, Any, bind_agrees, both_agrees, At}

-- what was read as a row was read as words
pub row_words : (rs : List Rule) (p : ℕ) (s : List ℕ) (x : Step (List ℕ)) → row rs p s ≡ accept x → words p (length rs) p s ≡ accept x
unfolding row
row_words rs p s x e = by_got (words p (length rs) p s) _ e (λ y ey e₁. ey ∙ ap accept (judged_got rs p y.value y x e₁))

-- ---- items, of which each has `Each`, and a list of n has `Count`: of the faults l that were passed in the bytes s from place p on

module _ {A B : Type 0} (mends : Bool) (item : ℕ → List ℕ → FaultReading (Step A)) (read : ℕ → List ℕ → Result (Step B)) (Each : ℕ → List ℕ → List Fault → Step B → Type 0)
    (Count : ℕ → List ℕ → List Fault → ℕ → List B → Type 0) (none_yet : (p : ℕ) → Count p [] [] 0 [])
    (one_more : (p : ℕ) (s : List ℕ) (f g : List Fault) (y : Step B) (n : ℕ) (l : List B) → Each p s f y → Count y.place y.left g n l → Count p s (f ++ g) (suc n) (y.value ∷ l))
    (one : (p : ℕ) (s : List ℕ) → Agrees mends (λ (l : List Fault) (x : Step A) (y : Step B). At l x y × Each p s l y) (item p s) (read p s)) where
  in_agrees : (f p : ℕ) (s : List ℕ) → Agrees mends (Count p s) (item_faults_in f item p s) (items_in f read p s)
  unfolding item_faults_in items_in
  in_agrees zero p [] = none_yet p
  in_agrees zero p (c ∷ s) = refl
  in_agrees (suc f) p [] = none_yet p
  in_agrees (suc f) p (c ∷ s) =
      bind_agrees mends (λ (l : List Fault) (x : Step A) (y : Step B). At l x y × Each p (c ∷ s) l y) (Count p (c ∷ s)) (item p (c ∷ s)) (read p (c ∷ s)) _ _ (one p (c ∷ s)) (λ l x y h.
      both_agrees mends (Count y.place y.left) (λ (g : List Fault). Count p (c ∷ s) (l ++ g)) (item_faults_in f item x.place x.left) (items_in f read y.place y.left) suc (λ bs. y.value ∷ bs)
      (subst (λ (t : List ℕ). Agrees mends (Count y.place y.left) (item_faults_in f item x.place t) (items_in f read y.place y.left)) h.0.1
      (subst (λ (q : ℕ). Agrees mends (Count y.place y.left) (item_faults_in f item q y.left) (items_in f read y.place y.left)) h.0.0 (in_agrees f y.place y.left)))
      (λ g n bs k. one_more p (c ∷ s) l g y n bs h.1 k))

  pub items_agree : (p : ℕ) (s : List ℕ) → Agrees mends (Count p s) (item_faults item p s) (items read p s)
  unfolding item_faults items
  items_agree p s = in_agrees (length s) p s

-- ---- what is kept of a node

-- a kind has n vertices of its own
abbrev pub Own : ℕ → Kind → Type 0
Own n k = n ≡ own_vertices k

-- b says whether there is an ANIM
abbrev pub Moving : Bool → Animation → Type 0
Moving b m = b ≡ animated m.anim

-- ---- the chunks inside a chunk

-- as the mender has them, who leaves spare bytes out, or as the reader, who refuses them
abbrev pub seen : Bool → ChunkFaults → Chunks
seen mends finished = done
seen mends (refused n p) = stop n p
seen true (spare_at p l) = seen true l
seen false (spare_at p l) = stop 3 p
seen mends (chunk_at t p b l) = chunk t p b (seen mends l)

end_seen : (mends b : Bool) (h : ℕ) → if b (stop 8 h) done ≡ seen mends (if b (refused 8 h) finished)
unfolding if
end_seen mends true h = refl
end_seen mends false h = refl

onward_seen : (mends : Bool) (o : Option Reached) (t : Tag) (p : ℕ) (b : List ℕ) (f : Reached → Chunks) (g : Reached → ChunkFaults) → ((q : Reached) → f q ≡ seen mends (g q))
    → onward o p (λ q. chunk t p b (f q)) ≡ seen mends (onward_from o p (λ q. chunk_at t p b (g q)))
unfolding onward onward_from
onward_seen mends none t p b f g h = refl
onward_seen mends (some q) t p b f g h = ap (λ (z : Chunks). chunk t p b z) (h q)

order_seen : (mends : Bool) (k : Tag) (head : ℕ) (r : Reached) (l : ChunkFaults) → order k head r (seen mends l) ≡ seen mends (in_order k head r l)
unfolding order in_order
order_seen mends k head r finished = end_seen mends (required_between (nesting k) r.turn end) head
order_seen mends k head r (refused n p) = refl
order_seen true k head r (spare_at p l) = order_seen true k head r l
order_seen false k head r (spare_at p l) = refl
order_seen mends k head r (chunk_at t p b l) =
    onward_seen mends (next (nesting k) (nesting k) r t) t p b (λ q. order k head q (seen mends l)) (λ q. in_order k head q l) (λ q. order_seen mends k head q l)

strict_seen : (P : Pieces) → strict_of P ≡ seen false (found P)
unfolding strict_of found
strict_seen none_left = refl
strict_seen (spare p s) = refl
strict_seen (past p s) = refl
strict_seen (other o r) = strict_seen r
strict_seen (known t p b r) = ap (λ (z : Chunks). chunk t p b z) (strict_seen r)

mended_seen : (P : Pieces) → chunks_of P ≡ seen true (found P)
unfolding chunks_of found
mended_seen none_left = refl
mended_seen (spare p s) = refl
mended_seen (past p s) = refl
mended_seen (other o r) = mended_seen r
mended_seen (known t p b r) = ap (λ (z : Chunks). chunk t p b z) (mended_seen r)

pub inside_seen : (k : Tag) (head p : ℕ) (s : List ℕ) → inside k head p s ≡ seen false (within k head p s)
unfolding inside within
inside_seen k head p s = ap (order k head start) (split_strict p s ∙ strict_seen (pieces p s)) ∙ order_seen false k head start (found (pieces p s))

pub chunks_seen : (k : Tag) (head p : ℕ) (s : List ℕ) → order k head start (chunks_of (pieces p s)) ≡ seen true (within k head p s)
unfolding within
chunks_seen k head p s = ap (order k head start) (mended_seen (pieces p s)) ∙ order_seen true k head start (found (pieces p s))

-- the refusal that they end in
end_of : {A : Type 0} (mends : Bool) (l : ChunkFaults) (a : A) → Agrees mends Any (end_faults l) (ended (seen mends l) a)
unfolding end_faults ended
end_of mends finished a = tt
end_of mends (refused n p) a = refl
end_of true (spare_at p l) a = end_of true l a
end_of false (spare_at p l) a = refl
end_of mends (chunk_at t p s r) a = end_of mends r a

pub end_agrees : {A : Type 0} (mends : Bool) (l : ChunkFaults) (c : Chunks) (a : A) → c ≡ seen mends l → Agrees mends Any (end_faults l) (ended c a)
end_agrees mends l c a e = subst (λ (z : Chunks). Agrees mends Any (end_faults l) (ended z a)) (sym e) (end_of mends l a)
