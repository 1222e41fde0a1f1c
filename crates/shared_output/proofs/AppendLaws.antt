-- A part that is written before what follows is the part alone, and then what follows.
use mathlib.Core.Path.{◌≡◌, refl, ap, sym, ◌∙◌}
use Prim.Native.Nat.{ℕ}
use mathlib.Core.List.{List, [], ◌∷◌, ◌++◌, append_assoc}
use Rattle.wire.specs.Bytes.{bytes}
use Rattle.layout.specs.Write.{write_words, write_text, write_items, Chunk, write_chunk, write_chunks}

pub words-both : (ws vs : List ℕ) → write_words (ws ++ vs) [] ≡ write_words ws [] ++ write_words vs []
words-both [] vs = refl
words-both (w ∷ ws) vs = ap (λ (l : List ℕ). bytes w l) (words-both ws vs)

pub text-append : (cs r : List ℕ) → write_text cs r ≡ write_text cs [] ++ r
text-append [] r = refl
text-append (c ∷ cs) r = ap (λ (l : List ℕ). c ∷ l) (text-append cs r)

pub text-zero : (cs : List ℕ) → write_text cs [] ≡ cs ++ (0 ∷ [])
text-zero [] = refl
text-zero (c ∷ cs) = ap (λ (l : List ℕ). c ∷ l) (text-zero cs)

-- one part before another
pub before-append : (f g : List ℕ → List ℕ) → ((r : List ℕ) → f r ≡ f [] ++ r) → ((r : List ℕ) → g r ≡ g [] ++ r) → (r : List ℕ) → f (g r) ≡ f (g []) ++ r
before-append f g hf hg r =
    hf (g r) ∙ ap (λ (l : List ℕ). f [] ++ l) (hg r) ∙ sym (append_assoc (f []) (g []) r) ∙ ap (λ (l : List ℕ). l ++ r) (sym (hf (g [])))

pub items-append : {A : Type 0} (write : A → List ℕ → List ℕ) → ((a : A) (r : List ℕ) → write a r ≡ write a [] ++ r)
    → (l m : List A) → write_items write (l ++ m) ≡ write_items write l ++ write_items write m
items-append write h [] m = refl
items-append write h (a ∷ l) m =
    h a (write_items write (l ++ m)) ∙ ap (λ (x : List ℕ). write a [] ++ x) (items-append write h l m)
    ∙ sym (append_assoc (write a []) (write_items write l) (write_items write m)) ∙ ap (λ (x : List ℕ). x ++ write_items write m) (sym (h a (write_items write l)))

module _ {Tag : Type 0} (code : Tag → ℕ) where
  pub chunk-append : (t : Tag) (b r : List ℕ) → write_chunk code t b r ≡ write_chunk code t b [] ++ r
  chunk-append t b r = rw (append_assoc b [] r)

  -- the first chunk alone, and the others
  pub chunks-cons : (c : Chunk Tag) (l : List (Chunk Tag)) → write_chunks code (c ∷ l) ≡ write_chunks code (c ∷ []) ++ write_chunks code l
  unfolding write_chunks
  chunks-cons c l = chunk-append c.tag c.body (write_chunks code l)

  pub chunks-append : (l m : List (Chunk Tag)) → write_chunks code (l ++ m) ≡ write_chunks code l ++ write_chunks code m
  unfolding write_chunks
  chunks-append [] m = refl
  chunks-append (c ∷ l) m =
      ap (λ (x : List ℕ). write_chunk code c.tag c.body x) (chunks-append l m)
      ∙ chunk-append c.tag c.body (write_chunks code l ++ write_chunks code m)
      ∙ sym (append_assoc (write_chunk code c.tag c.body []) (write_chunks code l) (write_chunks code m))
      ∙ ap (λ (x : List ℕ). x ++ write_chunks code m) (sym (chunk-append c.tag c.body (write_chunks code l)))
