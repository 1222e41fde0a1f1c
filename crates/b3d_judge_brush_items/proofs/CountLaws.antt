-- Items that are a text and a row, counted one by one: what each turn of a loop over them makes of those that are left.
use Rattle.layout.specs.Refused.{refusal_at}
use Rattle.std.specs.Prelude.{Ok, Err, Some, None}
use Rattle.std.specs.Prelude as std
use Rattle.layout.specs.declared.Refusal.{Refusal}
use Rattle.b3d_chunk_cursor.specs.declared.Named.{Named}
use Prim.Native.Nat.{ℕ, ◌+◌, ◌*◌, ◌<◌, ◌≤◌}
use native.Mathlib.Omega.{arith}
use native.Mathlib.Nat.{add-mul, zero-mul}
use mathlib.Core.Path.{◌≡◌, refl, ap, ◌∙◌}
use mathlib.Core.List.{List, ◌∷◌}
use lib.ListN.{length}
use Rattle.wire.specs.Cursors.{Inside, left}
use Rattle.wire.specs.declared.Cursor.{Cursor}
use Rattle.wire.proofs.LeftLaws.{left-length, left-nil}
use Rattle.layout.specs.Result.{Result, accept, reject, ◌>>=◌}
use Rattle.layout.specs.Parts.{Name, Step, words_of, judged, named as named_of, items}
use Rattle.layout.specs.Rules.{Rule}
use Rattle.layout.proofs.ResultLaws.{by_got, got_inj}
use Rattle.layout.proofs.StepLaws.{items-none, items-step, Shrinks, named_shrinks}
use Rattle.b3d_chunk_cursor.specs.Chunks.{named_at, NamedIn}
use Rattle.b3d_chunk_cursor.proofs.NamedLaws.{named-cut, named-is, named-among}

-- how many items there are after so many others, or the refusal
abbrev pub counted_from : {A : Type 0} → ℕ → Result (List A) → std.Result ℕ Refusal
counted_from k (accept l) = Ok (k + length l)
counted_from k (reject n p) = Err (refusal_at n p)

from_one : {A : Type 0} (k : ℕ) (v : A) (o : Result (List A)) → counted_from k (o >>= λ l. accept (v ∷ l)) ≡ counted_from (k + 1) o
from_one k v (accept l) = let e : k + length (v ∷ l) ≡ k + 1 + length l = omega arith in ap Ok e
from_one k v (reject n p) = refl

-- so many items, each of at least so many bytes, have been passed from `from` up to c
pub record Counting {A : Type 0} (read : ℕ → List ℕ → Result (Step A)) (size : ℕ) (s : List ℕ) (from c : Cursor) (count : ℕ) : Type 0 where
  pub inside : Inside c (length s)
  pub same : c.end ≡ from.end
  pub few : from.at + count ≤ c.at
  pub room : from.at + count * size ≤ c.at
  pub rest : counted_from 0 (items read from.at (left from s)) ≡ counted_from count (items read c.at (left c s))

pub count_none : {A : Type 0} (read : ℕ → List ℕ → Result (Step A)) (size : ℕ) (s : List ℕ) (from : Cursor) → Inside from (length s) → Counting read size s from from 0
count_none read size s from i = record { inside = i; same = refl; few = omega arith; room = omega (arith, zero-mul size); rest = refl }

module _ {A : Type 0} (make : Name × List ℕ → A) (rs : List Rule) where
  abbrev read_by : ℕ → List ℕ → Result (Step A)
  read_by p s = named_of rs p s >>= λ x. accept (record { value = make x.value; place = x.place; left = x.left })

  less : Shrinks read_by
  less p s x e =
      by_got (named_of rs p s) _ e (λ y ey e₁. let z = named_shrinks rs p s y ey in
      let q = ap (λ (v : Step A). length v.left) (got_inj e₁) in
      omega arith)

  module _ {size : ℕ} {s : List ℕ} {from c : Cursor} {count : ℕ} (k : Counting read_by size s from c count) where
    pub count_done : c.end ≤ c.at → counted_from 0 (items read_by from.at (left from s)) ≡ Ok count
    count_done h =
        let e : count + 0 ≡ count = omega arith in
        k.rest ∙ rw (left-nil s c h, items-none read_by less c.at, e)

    module _ (h : c.at < c.end) {words : ℕ} (l : length rs ≡ words) {r : (std.Option Named)} (e : r ≡ named_at s c words) where
      step : items read_by c.at (left c s) ≡ (read_by c.at (left c s) >>= λ x. items read_by x.place x.left >>= λ v. accept (x.value ∷ v))
      step = items-step read_by less c.at (left c s) (omega (arith, left-length s c k.inside))

      pub count_cut : r ≡ None → counted_from 0 (items read_by from.at (left from s)) ≡ Err (refusal_at 5 c.at)
      count_cut q = k.rest ∙ rw (step, named-cut s c words k.inside rs l r e q)

      module _ {g : Named} (q : r ≡ Some g) where
        pub count_bad : {m : Refusal} → ((a : Step (Name × List ℕ)) → judged rs g.row.at (words_of words (left g.row s)) a ≡ reject m.number m.place)
            → counted_from 0 (items read_by from.at (left from s)) ≡ Err m
        count_bad f = k.rest ∙ rw (step, named-is s c words k.inside rs l r e g q, f _)

        pub count_one : NamedIn c words r → size ≡ 1 + 4 * words
            → ((a : Step (Name × List ℕ)) → judged rs g.row.at (words_of words (left g.row s)) a ≡ accept a) → Counting read_by size s from g.next (count + 1)
        count_one b z f =
            let a = named-among c words r b g q in
            let m = add-mul count 1 size in
            record {
              inside = omega arith;
              same = a.same ∙ k.same;
              few = omega arith;
              room = omega arith;
              rest = k.rest ∙ rw (step, named-is s c words k.inside rs l r e g q, f _) (from_one count _ (items read_by g.next.at (left g.next s)));
            }
