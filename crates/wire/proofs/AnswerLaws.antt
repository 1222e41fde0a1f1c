-- What an answer says to those who asked: of the bytes read, and of the places of the cursors.
use Rattle.std.specs.Prelude.{Some, None}
use Rattle.std.specs.Prelude as std
use Prim.Native.Nat.{ℕ, zero, suc, ◌+◌, ◌-◌, ◌<◌, ◌≤◌}
use native.Mathlib.Omega.{arith}
use mathlib.Core.Bool.{Bool, true, false}
use mathlib.Core.Logic.{◌⊎◌, inl, inr}
use mathlib.Core.Option.{Option, none, some}
use mathlib.Core.Path.{◌≡◌, refl, ap, sym, subst, ◌∙◌}
use mathlib.Core.List.{List, [], ◌∷◌, ◌++◌}
use lib.ListN.{length, take, drop}
use lib.Seq.{length-take-le}
use borrow.Author.Tests.{ltb-true, ltb-false, leb-true, leb-false}
use Rattle.wire.specs.Bytes.{word_at}
use Rattle.wire.specs.Test.{if}
use Rattle.wire.specs.Cursors.{Inside, left, number_at, zero_at, text_of, text_at, header_at}
use Rattle.wire.specs.declared.Cursor.{Cursor}
use Rattle.wire.specs.declared.Header.{Header}
use Rattle.wire.specs.declared.Header.TheVariants as header
pub use Rattle.wire.proofs.LeftLaws.{NoZero, left-length, left-most, left-nil, left-cons, left-four, left-drop, left-take, left_split, left-bytes}

-- what holds of each outcome of a test holds of the choice
by-if : {A : Type 0} (P : A → Type 0) (t : Bool) (a b : A) → (t ≡ true → P a) → (t ≡ false → P b) → P (if t a b)
unfolding if
by-if P true a b f g = f refl
by-if P false a b f g = g refl

-- a number

-- k is the number where c stands, and n the cursor after it
pub record Numbered (s : List ℕ) (c : Cursor) (k : ℕ) (n : Cursor) : Type 0 where
  pub room : c.at + 4 ≤ c.end
  pub to : n.at ≡ c.at + 4
  pub same : n.end ≡ c.end
  pub is : k ≡ word_at s c.at

abbrev NumberSays : List ℕ → Cursor → std.Option (ℕ × Cursor) → Type 0
NumberSays s c (Some (k, n)) = Numbered s c k n
NumberSays s c None = c.end - c.at < 4

number-says : (s : List ℕ) (c : Cursor) → NumberSays s c (number_at s c)
unfolding number_at
number-says s c = by-if (NumberSays s c) _ _ _ (λ t. ltb-true _ _ t) (λ t. record { room = omega (arith, ltb-false); to = refl; same = refl; is = refl })

pub numbered : (s : List ℕ) (c : Cursor) (k : ℕ) (n : Cursor) → number_at s c ≡ Some (k, n) → Numbered s c k n
numbered s c k n e = subst (NumberSays s c) e (number-says s c)

pub number_cut : (s : List ℕ) (c : Cursor) → number_at s c ≡ None → c.end - c.at < 4
number_cut s c e = subst (NumberSays s c) e (number-says s c)

module _ (s : List ℕ) (c : Cursor) (r : std.Option (ℕ × Cursor)) (k : ℕ) (n : Cursor) (e : r ≡ number_at s c) (w : r ≡ Some (k, n)) where
  pub number-inside : (l : ℕ) → Inside c l → Inside n l
  number-inside l i = let f = numbered s c k n (sym e ∙ w) in omega arith

  pub number-less : n.end - n.at < c.end - c.at
  number-less = let f = numbered s c k n (sym e ∙ w) in omega arith

  pub number_same : (p : ℕ) → c.end ≡ p → n.end ≡ p
  number_same p q = (numbered s c k n (sym e ∙ w)).same ∙ q

pub ruleset numbers = (number-inside, number-less, number_same)

-- a text

-- the first zero of a list stands at n
record First (l : List ℕ) (n : ℕ) : Type 0 where
  room : n < length l
  nonzero : NoZero (take n l)
  is : l ≡ take n l ++ 0 ∷ drop (suc n) l

abbrev Stands : List ℕ → Option ℕ → Type 0
Stands l none = NoZero l
Stands l (some n) = First l n

zero-stands : (l : List ℕ) → Stands l (zero_at l)
unfolding zero_at
zero-stands [] = tt
zero-stands (zero ∷ l) = record { room = omega arith; nonzero = tt; is = refl }
zero-stands (suc b ∷ l) = go (zero_at l) refl (zero-stands l)
  where
    go : (o : Option ℕ) → zero_at l ≡ o → Stands l o → Stands (suc b ∷ l) (zero_at (suc b ∷ l))
    go none e z = rw e (omega arith, z)
    go (some n) e z = rw e (record { room = omega arith; nonzero = (omega arith, z.nonzero); is = ap (λ (r : List ℕ). suc b ∷ r) z.is })

-- a text of len bytes and its zero stand at c, and n is the cursor after them
pub record Texted (s : List ℕ) (c : Cursor) (len : ℕ) (n : Cursor) : Type 0 where
  pub to : n.at ≡ c.at + len + 1
  pub same : n.end ≡ c.end
  pub room : n.at ≤ n.end
  pub is : left c s ≡ take len (left c s) ++ 0 ∷ left n s
  pub long : length (take len (left c s)) ≡ len
  pub nonzero : NoZero (take len (left c s))

abbrev TextSays : List ℕ → Cursor → std.Option (ℕ × Cursor) → Type 0
TextSays s c (Some (len, n)) = Texted s c len n
TextSays s c None = NoZero (left c s)

text_says : (s : List ℕ) (c : Cursor) → TextSays s c (text_at s c)
unfolding text_at text_of
text_says s c = go (zero_at (left c s)) (zero-stands (left c s))
  where
    go : (o : Option ℕ) → Stands (left c s) o → TextSays s c (text_of c o)
    go none z = z
    go (some k) z =
        let fits : k ≤ length (left c s) = omega arith in
        record {
          to = refl;
          same = refl;
          room = omega (arith, left-most s c);
          is = rw (left-drop s c (suc k) (record { at = c.at + k + 1; end = c.end }) (omega arith) refl) z.is;
          long = length-take-le k (left c s) fits;
          nonzero = z.nonzero;
        }

pub texted : (s : List ℕ) (c : Cursor) (len : ℕ) (n : Cursor) → text_at s c ≡ Some (len, n) → Texted s c len n
texted s c len n e = subst (TextSays s c) e (text_says s c)

pub text-cut : (s : List ℕ) (c : Cursor) → text_at s c ≡ None → NoZero (left c s)
text-cut s c e = subst (TextSays s c) e (text_says s c)

module _ (s : List ℕ) (c : Cursor) (r : std.Option (ℕ × Cursor)) (len : ℕ) (n : Cursor) (e : r ≡ text_at s c) (w : r ≡ Some (len, n)) where
  pub text-inside : (l : ℕ) → Inside c l → Inside n l
  text-inside l i = let f = texted s c len n (sym e ∙ w) in omega arith

  pub text-less : n.end - n.at < c.end - c.at
  text-less = let f = texted s c len n (sym e ∙ w) in omega arith

  pub text_same : (p : ℕ) → c.end ≡ p → n.end ≡ p
  text_same p q = (texted s c len n (sym e ∙ w)).same ∙ q

pub ruleset texts = (text-inside, text-less, text_same)

-- a header

-- a chunk with tag t and body b stands at c, and n is the cursor after it
pub record Framed (s : List ℕ) (c : Cursor) (t : ℕ) (b n : Cursor) : Type 0 where
  pub before : c.at < c.end
  pub head : c.at + 8 ≤ c.end
  pub tag : t ≡ word_at s c.at
  pub body : b.at ≡ c.at + 8
  pub size : b.end ≡ c.at + 8 + word_at s (c.at + 4)
  pub room : b.at ≤ b.end
  pub inside : b.end ≤ c.end
  pub after : n.at ≡ b.end
  pub same : n.end ≡ c.end

-- something is left, but fewer bytes than a header, or than its length says
abbrev pub Short : List ℕ → Cursor → Type 0
Short s c = (c.at < c.end) × ((c.end - c.at < 8) ⊎ ((8 ≤ c.end - c.at) × (c.end - (c.at + 8) < word_at s (c.at + 4))))

abbrev HeaderSays : List ℕ → Cursor → Header → Type 0
HeaderSays s c (header.Whole t b n) = Framed s c t b n
HeaderSays s c header.End = c.end ≤ c.at
HeaderSays s c header.Cut = Short s c

header-says : (s : List ℕ) (c : Cursor) → HeaderSays s c (header_at s c)
unfolding header_at
header-says s c =
    by-if (HeaderSays s c) _ _ _ (λ t. leb-true _ _ t)
    (λ t. let before : c.at < c.end = leb-false _ _ t in
    by-if (HeaderSays s c) _ _ _ (λ u. (before, inl (ltb-true _ _ u)))
    (λ u. let head : 8 ≤ c.end - c.at = ltb-false _ _ u in
    by-if (HeaderSays s c) _ _ _ (λ v. (before, inr (head, ltb-true _ _ v)))
    (λ v. let fits : word_at s (c.at + 4) ≤ c.end - (c.at + 8) = ltb-false _ _ v in
    record { before = before; head = omega arith; tag = refl; body = refl; size = refl; room = omega arith; inside = omega arith; after = refl; same = refl })))

pub framed : (s : List ℕ) (c : Cursor) (t : ℕ) (b n : Cursor) → header_at s c ≡ header.Whole t b n → Framed s c t b n
framed s c t b n e = subst (HeaderSays s c) e (header-says s c)

pub header-end : (s : List ℕ) (c : Cursor) → header_at s c ≡ header.End → c.end ≤ c.at
header-end s c e = subst (HeaderSays s c) e (header-says s c)

pub header-cut : (s : List ℕ) (c : Cursor) → header_at s c ≡ header.Cut → Short s c
header-cut s c e = subst (HeaderSays s c) e (header-says s c)

module _ (s : List ℕ) (c : Cursor) (r : Header) (t : ℕ) (b n : Cursor) (e : r ≡ header_at s c) (w : r ≡ header.Whole t b n) where
  pub body-before : b.at ≡ c.at + 8
  body-before = (framed s c t b n (sym e ∙ w)).body

  pub body-inside : (l : ℕ) → Inside c l → Inside b l
  body-inside l i = let f = framed s c t b n (sym e ∙ w) in omega arith

  pub next-inside : (l : ℕ) → Inside c l → Inside n l
  next-inside l i = let f = framed s c t b n (sym e ∙ w) in omega arith

  pub next-less : n.end - n.at < c.end - c.at
  next-less = let f = framed s c t b n (sym e ∙ w) in omega arith

  pub next-same : (p : ℕ) → c.end ≡ p → n.end ≡ p
  next-same p q = (framed s c t b n (sym e ∙ w)).same ∙ q

pub ruleset headers = (body-before, body-inside, next-inside, next-less, next-same)
