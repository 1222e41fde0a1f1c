-- A table without rows stays. Without meshes there are no vertices, sets and triangles; without key lists there are no keys.
use mathlib.Core.Path.{◌≡◌, refl, ap, sym, ◌∙◌}
use Prim.Native.Nat.{ℕ, ◌≤◌}
use native.Mathlib.Omega.{arith}
use mathlib.Core.List.{List, [], ◌∷◌, ◌++◌}
use lib.ListN.{length}
use lib.Seq.{sets}
use Rattle.layout.specs.Chunks.{done, stop, chunk}
use Rattle.layout.proofs.ResultLaws.{by_test}
use Rattle.b3d_spec.specs.declared.Counts.{Counts}
use Rattle.b3d_spec.specs.declared.Tag.{Tag}
use Rattle.layout.specs.Rows.{joined}
use Rattle.b3d_spec.specs.Tables.{start}
use Rattle.b3d_spec.specs.Tags.{Chunks, is}
use Rattle.b3d_spec_plain_rows.specs.Flat.{flat_at}
use Rattle.b3d_spec_plain_rows.specs.Rows.{counted, chunk_rows, flat_rows, file_rows}
use Rattle.b3d_chunk_walk.proofs.TableLaws.{Owns}
use Rattle.b3d_read_meshes.proofs.TableLaws.{meshes, vertices, sets as triangle_sets, triangles}
use Rattle.b3d_read_animation.proofs.TableLaws.{lists, keys}

nothing : (l : List (List ℕ)) → length l ≡ 0 → l ≡ []
nothing [] e = refl
nothing (r ∷ l) e = absurd (omega (arith, e))

-- a row for each chunk of a tag in table j: where there is none, table k has no row of such chunks
module _ {j k : ℕ} {o : Tag} {f g : ℕ → List ℕ → Counts → List (List ℕ)} (one : Owns j o f) (many : Owns k o g) (some : (p : ℕ) (b : List ℕ) (n : Counts) → f p b n ≡ [] → ⊥) where
  none_of : (cs : Chunks) (n m : Counts) → flat_rows j n cs ≡ [] → flat_rows k m cs ≡ []
  unfolding flat_rows
  none_of done n m e = refl
  none_of (stop i p) n m e = refl
  none_of (chunk t p b r) n m e =
      by_test (is t o)
      (λ y. absurd (some p b n (sym (one.own t p b n y) ∙ first (chunk_rows j t p b n) (flat_rows j (counted t p b n) r) e)))
      (λ y. ap (λ (l : List (List ℕ)). l ++ flat_rows k (counted t p b m) r) (many.other t p b m y)
      ∙ none_of r (counted t p b n) (counted t p b m) (sym (ap (λ (l : List (List ℕ)). l ++ flat_rows j (counted t p b n) r) (one.other t p b n y)) ∙ e))
    where
      first : (x y : List (List ℕ)) → x ++ y ≡ [] → x ≡ []
      first [] y h = refl
      first (r ∷ x) y h = let z : ◌≡◌ {A = ℕ} 0 1 = cc in absurd (omega arith)

  no_rows : (s : List ℕ) → length (file_rows j s) ≡ 0 → file_rows k s ≡ []
  no_rows s e = many.file s ∙ none_of (flat_at s 12) start start (sym (one.file s) ∙ nothing (file_rows j s) e)

a_row : {A : Type 0} (x : A) → x ∷ [] ≡ [] → ⊥
a_row x e = let z : ◌≡◌ {A = ℕ} 0 1 = cc in absurd (omega arith)

module _ (s out : List ℕ) where
  stays : (rows : List (List ℕ)) → rows ≡ [] → out ≡ sets out 0 (joined rows)
  unfolding joined
  stays rows e = sym (ap (λ (l : List (List ℕ)). sets out 0 (joined l)) e)

  pub empty-stays : (k n : ℕ) → n ≡ length (file_rows k s) → n ≡ 0 → out ≡ sets out 0 (joined (file_rows k s))
  empty-stays k n e z = stays (file_rows k s) (nothing (file_rows k s) (sym e ∙ z))

  module _ (n : ℕ) (e : n ≡ length (file_rows 4 s)) (z : n ≡ 0) where
    pub no-vertices : out ≡ sets out 0 (joined (file_rows 5 s))
    no-vertices = stays (file_rows 5 s) (no_rows meshes vertices (λ p b m. a_row _) s (sym e ∙ z))

    pub no-sets : out ≡ sets out 0 (joined (file_rows 6 s))
    no-sets = stays (file_rows 6 s) (no_rows meshes triangle_sets (λ p b m. a_row _) s (sym e ∙ z))

    pub no-triangles : out ≡ sets out 0 (joined (file_rows 7 s))
    no-triangles = stays (file_rows 7 s) (no_rows meshes triangles (λ p b m. a_row _) s (sym e ∙ z))

  pub no_keys : (n : ℕ) → n ≡ length (file_rows 9 s) → n ≡ 0 → out ≡ sets out 0 (joined (file_rows 10 s))
  no_keys n e z = stays (file_rows 10 s) (no_rows lists keys (λ p b m. a_row _) s (sym e ∙ z))

-- a table by its number
module _ (s : List ℕ) (k j : ℕ) (e : k ≡ j) where
  pub table_room : (n : ℕ) → length (joined (file_rows k s)) ≤ n → length (joined (file_rows j s)) ≤ n
  table_room n h = rw (← e) h

  pub table_filled : (out put : List ℕ) → put ≡ sets out 0 (joined (file_rows j s)) → put ≡ sets out 0 (joined (file_rows k s))
  table_filled out put h = rw e h

module _ (s : List ℕ) (k : ℕ) (low : 1 ≤ k) (high : k ≤ 3) (one : k ≡ 1 → ⊥) (two : k ≡ 2 → ⊥) where
  third : k ≡ 3
  third = omega (arith, low, high, one, two)

  pub third_room : (n : ℕ) → length (joined (file_rows k s)) ≤ n → length (joined (file_rows 3 s)) ≤ n
  third_room = table_room s k 3 third

  pub third_filled : (out put : List ℕ) → put ≡ sets out 0 (joined (file_rows 3 s)) → put ≡ sets out 0 (joined (file_rows k s))
  third_filled = table_filled s k 3 third

pub ruleset table_laws = (empty-stays, table_room, table_filled, third_room, third_filled)

pub ruleset empty_laws = (empty-stays, no-vertices, no-sets, no-triangles, no_keys)
