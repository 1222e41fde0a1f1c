-- Of tables held to a bound the first that fails is the lowest; names stand where their rows say.
use mathlib.Core.Path.{◌≡◌, refl, ap, sym, ◌∙◌, subst}
use Prim.Native.Nat.{ℕ, zero, suc, ◌+◌, ◌≤◌, ◌<◌}
use native.Mathlib.Omega.{arith}
use mathlib.Core.Bool.{Bool, true, false}
use mathlib.Core.Option.{Option, none}
use mathlib.Core.List.{List, [], ◌∷◌, ◌++◌, append_assoc}
use lib.ListN.{length, drop, get_or, length-append, length-drop}
use lib.Seq.{take-append_seam, get_or-append_seam, get_or-drop}
use lib.Dec.{T, leb, leb→le, le→leb, nleb→lt}
use Rattle.wire.specs.Test.{if}
use Rattle.wire.specs.Bytes.{AllBytes}
use Rattle.layout.specs.Result.{Result, accept, reject, check, ◌>>=◌}
use Rattle.layout.specs.Parts.{Name}
use Rattle.layout.specs.Rules.{NONE}
use Rattle.layout.proofs.WellFormedLaws.{FitText}
use Rattle.layout.proofs.AllLaws.{All, all_map, all-zip, all_append, all_of_map}
use Rattle.layout.proofs.ResultLaws.{by_test, bad_got}
use Rattle.layout.proofs.PlaceLaws.{NameIn}
use Rattle.layout.specs.Rows.{each_of, name_cells}
use Rattle.b3d_spec.specs.declared.Mode.{Mode}
use Rattle.b3d_spec.specs.declared.Counts.{Counts}
use Rattle.b3d_spec.specs.Parse.{parse}
use Rattle.b3d_spec.specs.Rules.{bone_limit_below, levels}
use Rattle.b3d_spec.specs.Scene.{Texture, Brush, Forest, no_nodes, node, Scene}
use Rattle.b3d_spec.specs.Tables.{start, texture_row, brush_row, node_row, own_rows, with_node, with_forest, forest_rows, rows, tables, node_tables}
use Rattle.b3d_spec.proofs.Laws.{fine}
use Rattle.b3d_spec.proofs.Files.PlaceLaws.{NodeNames}
use Rattle.b3d_spec.proofs.Laws.{names_stand}
use Rattle.b3d_spec.proofs.WellFormedLaws.{FitTexture, FitBrush, FitNodes}
use Rattle.b3d_spec_demands.specs.Having.{NameAt}
use Rattle.b3d_spec_demands.specs.Demands.{Lowest}

-- ---- the lowest table

-- a, the number after it, and so on
abbrev Run : ℕ → List ℕ → Type 0
Run a [] = Unit {0}
Run a (k ∷ ks) = (k ≡ a) × Run (suc a) ks

-- p is the first of these of which the test does not hold
record First (ok : ℕ → Bool) (a : ℕ) (ks : List ℕ) (p : ℕ) : Type 0 where
  from : a ≤ p
  to : p < a + length ks
  fails : T (ok p) → ⊥
  before : (k : ℕ) → a ≤ k → k < p → T (ok k)

module _ (n : ℕ) (ok : ℕ → Bool) where
  each_bad : (a : ℕ) (ks : List ℕ) → Run a ks → (m p : ℕ) → each_of n ok ks ≡ reject m p → (m ≡ n) × First ok a ks p
  unfolding each_of check
  each_bad a [] r m p e = bad_got (sym e)
  each_bad a (k ∷ ks) r m p e = by (each_bad (suc a) ks r.1 m p) (ok k) refl e
    where
      by : (each_of n ok ks ≡ reject m p → (m ≡ n) × First ok (suc a) ks p) → (b : Bool) → ok k ≡ b → (check b n k >>= λ u. each_of n ok ks) ≡ reject m p → (m ≡ n) × First ok a (k ∷ ks) p
      by rest true q f =
          let h = rest f in
          let c = h.1 in (
            h.0,
            record {
              from = omega (arith, c.from);
              to = omega (arith, c.to);
              fails = c.fails;
              before = λ j l u. by_test (leb (suc a) j) (λ t. c.before j (leb→le (suc a) j t) u)
                  (λ t. let z = nleb→lt (suc a) j t in let ej : k ≡ j = omega (arith, r.0) in subst (λ (i : ℕ). T (ok i)) ej (rw q tt));
            },
          )
      by rest false q f =
          let em : n ≡ m = cc in
          let ep : k ≡ p = cc in (
            sym em,
            record {
              from = omega (arith, r.0);
              to = omega (arith, r.0);
              fails = λ t. subst T q (subst (λ (i : ℕ). T (ok i)) (sym ep) t);
              before = λ j l u. absurd (omega (arith, r.0));
            },
          )

  each_first : (a : ℕ) (ks : List ℕ) → Run a ks → (p : ℕ) → First ok a ks p → each_of n ok ks ≡ reject n p
  unfolding each_of check
  each_first a [] r p h = absurd (omega (arith, h.from, h.to))
  each_first a (k ∷ ks) r p h = by (each_first (suc a) ks r.1 p) (ok k) refl
    where
      by : (First ok (suc a) ks p → each_of n ok ks ≡ reject n p) → (b : Bool) → ok k ≡ b → (check b n k >>= λ u. each_of n ok ks) ≡ reject n p
      by rest true q =
          by_test (leb (suc a) p)
          (λ t. rest (record { from = leb→le (suc a) p t; to = omega (arith, h.to); fails = h.fails; before = λ j l u. h.before j (omega arith) u }))
          (λ t. let z = nleb→lt (suc a) p t in let ek : k ≡ p = omega (arith, r.0, h.from) in absurd (h.fails (subst (λ (i : ℕ). T (ok i)) ek (rw q tt))))
      by rest false q =
          by_test (leb (suc a) p)
          (λ t. let le = leb→le (suc a) p t in absurd (subst T q (h.before k (omega (arith, r.0)) (omega (arith, r.0)))))
          (λ t. let z = nleb→lt (suc a) p t in let ek : k ≡ p = omega (arith, r.0, h.from) in ap (λ (i : ℕ). reject n i) ek)

ten-run : Run 1 tables
unfolding tables node_tables
ten-run = (refl, (refl, (refl, (refl, (refl, (refl, (refl, (refl, (refl, (refl, tt))))))))))

module _ (n : ℕ) (size most : ℕ → ℕ) where
  abbrev held : Result (Unit {0})
  held = each_of n (λ k. leb (size k) (most k)) tables

  pub lowest-is : (m p : ℕ) → held ≡ reject m p → (m ≡ n) × Lowest (λ k. size k ≤ most k) p
  unfolding tables node_tables
  lowest-is m p e =
      let h = each_bad n (λ k. leb (size k) (most k)) 1 tables ten-run m p e in
      let c = h.1 in
      (h.0, record { from = c.from; to = omega (arith, c.to); fails = λ le. c.fails (le→leb (size p) (most p) le); before = λ k a b. leb→le (size k) (most k) (c.before k a b) })

  pub is-lowest : (p : ℕ) → Lowest (λ k. size k ≤ most k) p → held ≡ reject n p
  unfolding tables node_tables
  is-lowest p h =
      each_first n (λ k. leb (size k) (most k)) 1 tables ten-run p
      (record { from = h.from; to = omega (arith, h.to); fails = λ t. h.fails (leb→le (size p) (most p) t); before = λ k a b. le→leb (size k) (most k) (h.before k a b) })

-- ---- names

name-at : (s : List ℕ) (n : Name) (w : List ℕ) → NameIn s n → FitText n.bytes → NameAt s (name_cells n ++ w)
unfolding name_cells
name-at s n w h f =
    let e : drop n.place s ≡ n.bytes ++ (0 ∷ h.after) = h.stands ∙ append_assoc n.bytes (0 ∷ []) h.after in
    let l : length (drop n.place s) ≡ length n.bytes + suc (length h.after) = ap length e ∙ length-append n.bytes (0 ∷ h.after) in
    record {
      inside = omega (arith, length-drop n.place s);
      no_zero = rw (e, take-append_seam n.bytes (0 ∷ h.after)) (all_map (λ (c : ℕ). (0 < c) × (c < 256)) (λ c. 0 < c) (λ c x. x.0) n.bytes f);
      zero_behind = sym (get_or-drop n.place s (length n.bytes) 0) ∙ ap (λ (z : List ℕ). get_or z (length n.bytes) 0) e ∙ get_or-append_seam n.bytes 0 h.after 0;
    }

nodes_at : (s : List ℕ) (f : Forest) (l b : ℕ) (above : Option ℕ) (p : ℕ) (n : Counts) → NodeNames s f → FitNodes l b above f → All (NameAt s) (forest_rows 3 f p n)
unfolding forest_rows own_rows node_row if
nodes_at s no_nodes l b above p n h k = tt
nodes_at s (node d ch sib) zero b above p n h k = absurd k
nodes_at s (node d ch sib) (suc l) b above p n h k = (
  name-at s d.name _ h.0 k.0.name,
  all_append (NameAt s) (forest_rows 3 ch n.nodes (with_node d n)) (forest_rows 3 sib p (with_forest ch (with_node d n)))
      (nodes_at s ch l b (bone_limit_below above d) n.nodes (with_node d n) h.1 k.1)
      (nodes_at s sib (suc l) b above p (with_forest ch (with_node d n)) h.2 k.2),
)

pub names_at : (mode : Mode) (s : List ℕ) (t : Scene) → AllBytes s → parse mode s ≡ accept t → All (λ k. All (NameAt s) (rows k t)) (1 ∷ 2 ∷ 3 ∷ [])
unfolding rows if texture_row brush_row
names_at mode s t b e =
    let f = (fine mode s t b e).0 in
    let h = names_stand mode s t e in (
      all_of_map (NameAt s) texture_row t.textures (all-zip (λ (x : Texture). NameIn s x.name) FitTexture _ (λ x i j. name-at s x.name x.words i j.0) t.textures h.textures f.textures),
      (
        all_of_map (NameAt s) brush_row t.brushes (all-zip (λ (x : Brush). NameIn s x.name) (FitBrush t.slots (length t.textures)) _ (λ x i j. name-at s x.name _ i j.0) t.brushes h.brushes f.brushes),
        (nodes_at s t.nodes levels (length t.brushes) none NONE start h.nodes f.nodes, tt),
      ),
    )
