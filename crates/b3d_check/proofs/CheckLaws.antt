-- The laws of the whole check.
use mathlib.Core.Path.{◌≡◌, refl, ap, sym, ◌∙◌, subst}
use Prim.Native.Nat.{ℕ, ◌≤◌}
use native.Mathlib.Omega.{arith}
use mathlib.Core.Bool.{Bool, true, false, not, ◌&&◌}
use mathlib.Core.List.{List}
use lib.ListN.{length, get_or}
use lib.Dec.{T, leb, eqb, leb→le, eqb→eq}
use borrow.Author.Tests.{not-false}
use Rattle.wire.specs.Test.{if}
use Rattle.layout.specs.WellFormed.{all}
use Rattle.layout.proofs.TestLaws.{and_true, and_assoc}
use Rattle.layout.proofs.ResultLaws.{if_case}
use Rattle.b3d_spec.specs.Colours.{passes}
use Rattle.b3d_spec.specs.Rebuild.{Lent, lent_rows, has_counted_rows, cut}
use Rattle.b3d_spec.specs.Tables.{width, tables, node_tables, node_width}
use Rattle.b3d_spec.specs.declared.Counts.{Counts}
use Rattle.b3d_spec.specs.declared.Mode.{Mode}
use Rattle.b3d_spec.specs.declared.Mode.TheVariants.{Strict, Lenient}
use Rattle.b3d_check_spec.specs.Check.{name_valid, brush_valid, slots_valid, tree_valid, check, check_in}
use Rattle.b3d_check_rows.specs.Rows.{rows_at}
use Rattle.b3d_check_rows.proofs.AndLaws.{and_stop, and_go}
use Rattle.b3d_check_rows.proofs.RowCellLaws.{rows_whole}
use Rattle.b3d_check_node_counts.specs.Parts.{part_rows}
use Rattle.b3d_check_table_lengths.specs.LentRooms.{part_counts, fits_in, rooms}
use Rattle.b3d_check_colours.specs.LentColours.{colours_part}
use Rattle.b3d_check.specs.Lent.{lent_of}
use Rattle.b3d_check.proofs.SameRowLaws.{Agree, same_tree}

-- ---- what the parts require

pub slots-eight : (slots brushes : ℕ) (r : Bool) → r ≡ slots_valid slots brushes → not r ≡ false → slots ≤ 8
unfolding slots_valid
slots-eight slots brushes r e f =
    if_case (λ (b : Bool). T b → slots ≤ 8) (eqb brushes 0) (eqb slots 0) (leb slots 8) (λ t k. let z = eqb→eq slots 0 k in omega arith) (λ t k. leb→le slots 8 k) (subst T (sym (sym e ∙ not-false r f)) tt)

-- ---- a law for each way through `sound`

regroup : (a b c d e f : Bool) → (a && (b && (c && (d && (e && f))))) ≡ ((a && (b && (c && (d && e)))) && f)
regroup a b c d e f = simp and_assoc

module _ (mode : Mode) (ns : List ℕ) (v slots : ℕ) (counts : List ℕ) (t₁ t₂ t₃ t₄ t₅ t₆ t₇ t₈ t₉ t₁₀ : List ℕ) (c₁ c₂ : ℕ) (a : Counts) (e₁ : c₁ ≡ get_or counts 0 0) (e₂ : c₂ ≡ get_or counts 1 0) (ea : a ≡ part_counts counts) where
  abbrev L : Lent
  L = lent_of v slots counts t₁ t₂ t₃ t₄ t₅ t₆ t₇ t₈ t₉ t₁₀

  abbrev slots_part : Bool
  slots_part = slots_valid slots (get_or counts 1 0)

  abbrev names : Bool
  names = all (name_valid ns) (cut 9 c₁ t₁)

  abbrev brushes : Bool
  brushes = all (brush_valid ns slots (get_or counts 0 0)) (cut 17 c₂ t₂)

  abbrev tree : Bool
  tree = tree_valid ns (get_or counts 1 0) (part_rows a t₄ t₅ t₆ t₇ t₈ t₉ t₁₀) (cut node_width a.nodes t₃)

  abbrev colours : Bool
  colours = colours_part mode c₂ t₂ a.vertices t₅

  abbrev rows_part : Bool
  rows_part = leb v 99 && (slots_part && (names && (brushes && tree)))

  agree : Agree (lent_rows L) (part_rows (part_counts counts) t₄ t₅ t₆ t₇ t₈ t₉ t₁₀)
  unfolding lent_rows lent_of width part_rows part_counts if
  agree = record { meshes = refl; vertices = refl; sets = refl; triangles = refl; weights = refl; lists = refl; keys = refl }

  roomy_all : rooms c₁ c₂ a (length t₁) (length t₂) (length t₃) (length t₄) (length t₅) (length t₆) (length t₇) (length t₈) (length t₉) (length t₁₀) ≡ all (has_counted_rows L) tables
  unfolding rooms fits_in has_counted_rows lent_of width tables node_tables part_counts if
  roomy_all = rw (e₁, e₂, ea, and_true)

  rows_all : (all (has_counted_rows L) tables && rows_part) ≡ check L ns
  unfolding check lent_of lent_rows width part_counts if
  rows_all = rw (e₁, e₂, ea, ← same_tree _ _ agree ns (get_or counts 1 0) (cut node_width (get_or counts 2 0) t₃))

  colours-all : (m : Mode) → colours_part m c₂ t₂ a.vertices t₅ ≡ passes m (lent_rows L)
  unfolding colours_part passes lent_of lent_rows width part_counts if
  colours-all Strict = rw (e₂, ea)
  colours-all Lenient = refl

  parts : (rooms c₁ c₂ a (length t₁) (length t₂) (length t₃) (length t₄) (length t₅) (length t₆) (length t₇) (length t₈) (length t₉) (length t₁₀) && (rows_part && colours)) ≡ check_in mode L ns
  unfolding check_in
  parts = rw roomy_all (sym (and_assoc (all (has_counted_rows L) tables) rows_part colours) ∙ rw (rows_all, colours-all mode))

  module _ (b₀ : Bool) (e₀ : b₀ ≡ rooms c₁ c₂ a (length t₁) (length t₂) (length t₃) (length t₄) (length t₅) (length t₆) (length t₇) (length t₈) (length t₉) (length t₁₀)) where
    pub no-rooms : not b₀ ≡ true → false ≡ check_in mode L ns
    no-rooms f = and_stop b₀ _ _ e₀ f ∙ parts

    module _ (f₀ : not b₀ ≡ false) where
      from-version : (r : Bool) → r ≡ (leb v 99 && (slots_part && (names && (brushes && (tree && colours))))) → r ≡ check_in mode L ns
      from-version r e = and_go b₀ _ _ r e₀ f₀ (e ∙ regroup (leb v 99) slots_part names brushes tree colours) ∙ parts

      pub no-version : not (leb v 99) ≡ true → false ≡ check_in mode L ns
      no-version k = from-version false (and_stop (leb v 99) _ _ refl k)

      module _ (k : not (leb v 99) ≡ false) (b : Bool) (eb : b ≡ slots_valid slots (get_or counts 1 0)) where
        pub no-slots : not b ≡ true → false ≡ check_in mode L ns
        no-slots f = from-version false (and_go (leb v 99) _ _ false refl k (and_stop b _ _ eb f))

        module _ (f : not b ≡ false) (c : Bool) (ec : c ≡ all (name_valid ns) (rows_at 9 0 c₁ t₁)) where
          from-names : (r : Bool) → r ≡ (names && (brushes && (tree && colours))) → r ≡ check_in mode L ns
          from-names r e = from-version r (and_go (leb v 99) _ _ r refl k (and_go b _ _ r eb f e))

          names_are : c ≡ names
          names_are = ec ∙ ap (all (name_valid ns)) (sym (rows_whole 9 c₁ t₁))

          pub no-textures : not c ≡ true → false ≡ check_in mode L ns
          no-textures g = from-names false (and_stop c _ _ names_are g)

          module _ (g : not c ≡ false) (d : Bool) (ed : d ≡ all (brush_valid ns slots (get_or counts 0 0)) (rows_at 17 0 c₂ t₂)) where
            brushes_are : d ≡ brushes
            brushes_are = ed ∙ ap (all (brush_valid ns slots (get_or counts 0 0))) (sym (rows_whole 17 c₂ t₂))

            pub no-brushes : not d ≡ true → false ≡ check_in mode L ns
            no-brushes h = from-names false (and_go c _ _ false names_are g (and_stop d _ _ brushes_are h))

            module _ (h : not d ≡ false) (q : Bool) (eq : q ≡ tree_valid ns (get_or counts 1 0) (part_rows a t₄ t₅ t₆ t₇ t₈ t₉ t₁₀) (cut node_width a.nodes t₃)) where
              from-tree : (r : Bool) → r ≡ (tree && colours) → r ≡ check_in mode L ns
              from-tree r e = from-names r (and_go c _ _ r names_are g (and_go d _ _ r brushes_are h e))

              pub no-tree : not q ≡ true → false ≡ check_in mode L ns
              no-tree l = from-tree false (and_stop q _ _ eq l)

              pub by-colours : not q ≡ false → (r : Bool) → r ≡ colours_part mode c₂ t₂ a.vertices t₅ → r ≡ check_in mode L ns
              by-colours l r e = from-tree r (and_go q _ _ r eq l e)
