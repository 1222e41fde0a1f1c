-- Laws of KEYS and ANIM, and of `with_anim`.
use mathlib.Core.Path.{refl, ap, sym, ◌≡◌, ◌∙◌}
use Prim.Native.Nat.{ℕ}
use native.Mathlib.Omega.{arith}
use mathlib.Core.Bool.{Bool, true, false}
use mathlib.Core.List.{List, []}
use Rattle.wire.specs.Test.{if}
use Rattle.layout.specs.Result.{Result, accept, reject, ◌>>=◌}
use Rattle.layout.specs.Chunks.{done, stop, chunk}
use Rattle.layout.specs.Rows.{most_bytes}
use Rattle.b3d_spec.specs.declared.Tag.TheVariants.{KEYS, ANIM}
use Rattle.b3d_spec.specs.Tags.{Chunks, Found, is}
use Rattle.b3d_spec.specs.Scene.{Keys, anim}
use Rattle.b3d_spec.specs.Rules.{animated}
use Rattle.b3d_spec.specs.Parse.{Animation, with_keys, read_keys, read_anim, read_animation}
use Rattle.b3d_judge_tally.specs.Tally.{no_tally, list_tally, lists_tally, anim_tally, animation_tally, plus, bytes_tally, Within}
use Rattle.b3d_judge_tally.specs.declared.Tally.{Tally}
use Rattle.b3d_judge_tally.proofs.TallyLaws.{none-plus, plus_assoc, within_none, within-bytes}
use Rattle.b3d_judge_animation.specs.Answers.{moved, moved_from, anim_of}

-- ---- tallies of moves

-- a key list before others
pub keys-first : (m : Tally) (k : Keys) (o : Result (Found Animation))
    → moved_from m (o >>= λ x. accept (with_keys k x)) ≡ moved_from (plus m (list_tally k)) o
unfolding animation_tally lists_tally with_keys
keys-first m k (reject n p) = refl
keys-first m k (accept x) =
    ap (λ (t : Tally). accept (animated x.value.anim, t, x.rest))
    (ap (plus m) (plus_assoc (list_tally k) (lists_tally x.value.keys) (anim_tally x.value.anim))
    ∙ sym (plus_assoc m (list_tally k) (plus (lists_tally x.value.keys) (anim_tally x.value.anim))))

-- that there is an ANIM counts, not what it says
pub anim-same : (cs : Chunks) (m : Tally) (ws vs : List ℕ) → moved_from m (read_animation (anim ws) cs) ≡ moved_from m (read_animation (anim vs) cs)
unfolding read_animation animation_tally anim_tally if
anim-same done m ws vs = refl
anim-same (stop n p) m ws vs = refl
anim-same (chunk t p b r) m ws vs = go (λ k. anim-same r k ws vs) (is t KEYS) (is t ANIM) (read_keys p b)
  where
    keyed : (us : List ℕ) → Result Keys → Result (Found Animation)
    keyed us o = o >>= λ k. read_animation (anim us) r >>= λ l. accept (with_keys k l)

    go : ((k : Tally) → moved_from k (read_animation (anim ws) r) ≡ moved_from k (read_animation (anim vs) r)) → (a c : Bool) (o : Result Keys)
        → moved_from m (if a (keyed ws o) (if c (read_anim p b >>= λ us. read_animation (anim us) r) (accept (record { value = record { keys = []; anim = anim ws }; rest = chunk t p b r }))))
        ≡ moved_from m (if a (keyed vs o) (if c (read_anim p b >>= λ us. read_animation (anim us) r) (accept (record { value = record { keys = []; anim = anim vs }; rest = chunk t p b r }))))
    go ih true c (reject n q) = refl
    go ih true c (accept k) = keys-first m k (read_animation (anim ws) r) ∙ ih (plus m (list_tally k)) ∙ sym (keys-first m k (read_animation (anim vs) r))
    go ih false true o = refl
    go ih false false o = refl

pub moved-first : (o : Result (Found Animation)) → moved o ≡ moved_from no_tally o
moved-first (accept x) = ap (λ (t : Tally). accept (animated x.value.anim, t, x.rest)) (sym (none-plus (animation_tally x.value)))
moved-first (reject n p) = refl

-- ---- the ways of `with_anim`

pub bytes_small : (b : Tally) → b ≡ bytes_tally 20 → Within b most_bytes
bytes_small b e = rw e (within-bytes 20 most_bytes (omega arith))

pub none-small : (b : Tally) → b ≡ no_tally → Within b most_bytes
none-small b e = rw e (within_none most_bytes)

module _ (m b : Tally) where
  module _ (seen : Bool) (y : Tally) (ey : y ≡ plus m b) where
    pub anim_seen : seen ≡ true → b ≡ bytes_tally 20 → y ≡ plus m (anim_tally (anim_of seen))
    unfolding anim_tally
    anim_seen q e = ey ∙ rw (q, e)

    pub anim_unseen : seen ≡ false → b ≡ no_tally → y ≡ plus m (anim_tally (anim_of seen))
    unfolding anim_tally
    anim_unseen q e = ey ∙ rw (q, e)

pub ruleset anim_laws = (bytes_small, none-small, anim_seen, anim_unseen)
