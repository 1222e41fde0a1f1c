-- After the textures, the brushes and the root no chunk is left in a BB3D.
use mathlib.Core.Path.{◌≡◌, refl, subst}
use Prim.Native.Nat.{ℕ}
use mathlib.Core.Bool.{Bool, true, false}
use mathlib.Core.List.{List, [], ◌∷◌}
use Rattle.wire.specs.Test.{if}
use Rattle.layout.specs.Chunks.{done, stop, chunk, ended}
use Rattle.layout.specs.Result.{Result, accept, ◌>>=◌}
use Rattle.layout.proofs.ResultLaws.{by_got, bad_got, got_inj}
use Rattle.b3d_spec.specs.Nesting.{start, reached_at, next, onward, order}
use Rattle.b3d_spec.specs.Tags.{is, Chunks}
use Rattle.b3d_spec.specs.declared.Tag.{Tag}
use Rattle.b3d_spec.specs.declared.Tag.TheVariants.{BB3D, TEXS, BRUS, NODE}
use Rattle.b3d_spec.proofs.Files.EntryLaws.{Either}
use Rattle.b3d_spec.proofs.Files.TagCodeLaws.{by-tag}
use Rattle.b3d_spec.proofs.Files.TagLaws.{Nothing}
use Rattle.b3d_mend_spec.specs.Mend.{Mended, Taken, found, mend_one}

-- at most one chunk of this tag, and then P
abbrev pub Then : Tag → (Chunks → Type 0) → Chunks → Type 0
Then k P done = Unit {0}
Then k P (stop n p) = Unit {0}
Then k P (chunk t p b r) = Either (is t k) (P r) (P (chunk t p b r))

-- what is left after a chunk that may be missing
one_then : {A : Type 0} (k : Tag) (P : Chunks → Type 0) → P done → (a : A) (one : ℕ → List ℕ → Result (Mended A)) (cs : Chunks) (x : Taken A) → Then k P cs → mend_one k a one cs ≡ accept x → P x.rest
unfolding mend_one found if
one_then {A} k P d a one done x h e = subst (λ (y : Taken A). P y.rest) (got_inj e) d
one_then k P d a one (stop n p) x h e = bad_got e
one_then {A} k P d a one (chunk t p b r) x h e = go (is t k) h e
  where
    go : (c : Bool) → Either c (P r) (P (chunk t p b r))
        → if c (one p b >>= λ m. accept (record { value = m.value; bodies = m.edits ∷ []; rest = r })) (accept (record { value = a; bodies = []; rest = chunk t p b r })) ≡ accept x → P x.rest
    go true h e = by_got (one p b) _ e (λ m em e₁. subst (λ (y : Taken A). P y.rest) (got_inj e₁) h)
    go false h e = subst (λ (y : Taken A). P y.rest) (got_inj e) h

-- at most a root; at most brushes and then a root
abbrev pub Root : Chunks → Type 0
Root cs = Then NODE Nothing cs

abbrev pub Rest : Chunks → Type 0
Rest cs = Then BRUS Root cs

after-root : (head : ℕ) (cs : Chunks) → Nothing (order BB3D head (reached_at 3 true) cs)
unfolding order onward next if
after-root head done = tt
after-root head (stop n p) = tt
after-root head (chunk t p b r) =
    by-tag (λ k. Nothing (order BB3D head (reached_at 3 true) (chunk k p b r))) (tt, tt, tt, tt, tt, tt, tt, tt, tt, tt) t

after-brushes : (head : ℕ) (cs : Chunks) → Root (order BB3D head (reached_at 2 true) cs)
unfolding order onward next if
after-brushes head done = tt
after-brushes head (stop n p) = tt
after-brushes head (chunk t p b r) =
    by-tag (λ k. Root (order BB3D head (reached_at 2 true) (chunk k p b r))) (tt, tt, tt, after-root head r, tt, tt, tt, tt, tt, tt) t

after-textures : (head : ℕ) (cs : Chunks) → Rest (order BB3D head (reached_at 1 true) cs)
unfolding order onward next if
after-textures head done = tt
after-textures head (stop n p) = tt
after-textures head (chunk t p b r) =
    by-tag (λ k. Rest (order BB3D head (reached_at 1 true) (chunk k p b r))) (tt, tt, after-brushes head r, after-root head r, tt, tt, tt, tt, tt, tt) t

pub file-order : (head : ℕ) (cs : Chunks) → Then TEXS Rest (order BB3D head start cs)
unfolding order onward next if
file-order head done = tt
file-order head (stop n p) = tt
file-order head (chunk t p b r) =
    by-tag (λ k. Then TEXS Rest (order BB3D head start (chunk k p b r))) (tt, after-textures head r, after-brushes head r, after-root head r, tt, tt, tt, tt, tt, tt) t

-- no chunk and no refusal is the end
at-end : {A : Type 0} (cs : Chunks) (a b : A) → Nothing cs → ended cs a ≡ accept b → cs ≡ done
unfolding ended
at-end done a b h e = refl
at-end (stop n p) a b h e = bad_got e
at-end (chunk t p c r) a b h e = absurd h

pub file-end : {A B C D : Type 0} (a : A) (b : B) (c : C) (one : ℕ → List ℕ → Result (Mended A)) (two : ℕ → List ℕ → Result (Mended B)) (three : ℕ → List ℕ → Result (Mended C)) (cs : Chunks)
    (x : Taken A) (y : Taken B) (z : Taken C) → mend_one TEXS a one (order BB3D 0 start cs) ≡ accept x → mend_one BRUS b two x.rest ≡ accept y → mend_one NODE c three y.rest ≡ accept z
    → (d e : D) → ended z.rest d ≡ accept e → z.rest ≡ done
file-end a b c one two three cs x y z ex ey ez d e ed =
    at-end z.rest d e (one_then NODE Nothing tt c three y.rest z (one_then BRUS Root tt b two x.rest y (one_then TEXS Rest tt a one _ x (file-order 0 cs) ex) ey) ez) ed
