-- Worked files with one colour, a brush's or a vertex's alpha, in both modes: on and just past each end of the range, and not a number.
use mathlib.Core.Path.{◌≡◌, refl}
use Prim.Native.Nat.{ℕ}
use mathlib.Core.List.{List, [], ◌∷◌, ◌++◌, map}
use lib.ListN.{replicate, get_or}
use Rattle.layout.specs.Result.{accept, reject}
use Rattle.layout.specs.Rules.{NONE}
use Rattle.b3d_spec.specs.Answers.{read_answer, shortest, write}
use Rattle.b3d_spec.specs.Colours.{coloured, passes}
use Rattle.b3d_spec.specs.WellFormed.{fits}
use Rattle.b3d_spec.specs.Rebuild.{Lent, cut, lent_rows, has_counted_rows, name_from, texture_from, brush_from, walk, tree, assembled, same, same_rows, node_names, names, stands, sound, rebuild}
use Rattle.b3d_spec.specs.declared.Mode.{Mode}
use Rattle.b3d_spec.specs.declared.Mode.TheVariants.{Strict, Lenient}
use Rattle.b3d_spec.specs.declared.Tag.TheVariants.{BRUS, MESH, VRTS, TRIS}
use Rattle.b3d_spec.proofs.Computing.{computing}
use Rattle.b3d_spec.proofs.Cases.{zeros}
use Rattle.b3d_spec.proofs.ExtraCases.{ws, part, file, a_node}

-- a brush with this alpha, at 37
abbrev brush : ℕ → List ℕ
brush alpha = file (part BRUS (zeros 5 ++ ws (0 ∷ 0 ∷ 0 ∷ alpha ∷ NONE ∷ 0 ∷ 0 ∷ [])))

-- a vertex with a normal and this alpha, at 129; red, the normal and the position are no colours or pass
abbrev vertices : List ℕ → List ℕ
vertices words = file (a_node [] (part MESH (ws (NONE ∷ []) ++ part VRTS (ws (3 ∷ 0 ∷ 0 ∷ []) ++ words) ++ part TRIS (ws (NONE ∷ [])))))

abbrev vertex : ℕ → List ℕ
vertex alpha = ws (NONE ∷ NONE ∷ NONE ∷ NONE ∷ NONE ∷ NONE ∷ 0x3F800000 ∷ 0x80000000 ∷ 0 ∷ alpha ∷ [])

-- the refusal and its place; 0 and 0 where accepted
abbrev says : Mode → List ℕ → ℕ × ℕ
says mode s = let a = read_answer mode (λ k. 126) s in (a.number, a.place)

-- zero, minus zero, 1; the next above 1, the smallest negative, two that are not numbers, and -1
pub alphas : List ℕ
alphas = 0 ∷ 0x80000000 ∷ 0x3F800000 ∷ 0x3F800001 ∷ 0x80000001 ∷ 0x7FC00000 ∷ 0xFFC00000 ∷ 0xBF800000 ∷ []

pub strict_brushes : map (λ a. says Strict (brush a)) alphas ≡ (0, 0) ∷ (0, 0) ∷ (0, 0) ∷ (6, 37) ∷ (6, 37) ∷ (6, 37) ∷ (6, 37) ∷ (6, 37) ∷ []
unfolding computing alphas
strict_brushes = refl

pub strict_vertices : map (λ a. says Strict (vertices (vertex a))) alphas ≡ (0, 0) ∷ (0, 0) ∷ (0, 0) ∷ (6, 129) ∷ (6, 129) ∷ (6, 129) ∷ (6, 129) ∷ (6, 129) ∷ []
unfolding computing alphas
strict_vertices = refl

pub lenient_brushes : map (λ a. says Lenient (brush a)) alphas ≡ replicate 8 (0, 0)
unfolding computing alphas
lenient_brushes = refl

pub lenient_vertices : map (λ a. says Lenient (vertices (vertex a))) alphas ≡ replicate 8 (0, 0)
unfolding computing alphas
lenient_vertices = refl

-- of two bad colours the first is named; one comes before a later vertex that is cut, after that its own is, and before the end of a MESH without TRIS
pub strict_order : says Strict (vertices (ws (NONE ∷ NONE ∷ NONE ∷ NONE ∷ NONE ∷ NONE ∷ 0 ∷ NONE ∷ 0 ∷ NONE ∷ [])))
    ∷ says Strict (vertices (vertex NONE ++ zeros 39)) ∷ says Strict (vertices (vertex 0 ++ (zeros 24 ++ (ws (NONE ∷ []) ++ zeros 9)))) ∷ says Lenient (vertices (vertex NONE ++ zeros 39))
    ∷ says Strict (file (a_node [] (part MESH (ws (NONE ∷ []) ++ part VRTS (ws (2 ∷ 0 ∷ 0 ∷ 0 ∷ 0 ∷ 0 ∷ 0 ∷ NONE ∷ 0 ∷ 0 ∷ [])))))) ∷ []
    ≡ (6, 121) ∷ (6, 129) ∷ (5, 133) ∷ (5, 133) ∷ (6, 109) ∷ []
unfolding computing
strict_order = refl

-- the writer, lent the brush: 12 in strict mode
abbrev lent : ℕ → Lent
lent alpha = record {
  version = 1;
  slots = 0;
  count = λ k. get_or (0 ∷ 0 ∷ 1 ∷ []) k 0;
  words = λ k. get_or ([] ∷ [] ∷ (0 ∷ 0 ∷ 0 ∷ 0 ∷ 0 ∷ alpha ∷ NONE ∷ 0 ∷ 0 ∷ replicate 8 NONE) ∷ []) k [];
}

pub strict_written : map (λ a. write Strict (lent a) [] 60) alphas ≡ accept (brush 0) ∷ accept (brush 0x80000000) ∷ accept (brush 0x3F800000) ∷ replicate 5 (reject 12 0)
unfolding computing alphas write shortest rebuild coloured passes cut lent_rows has_counted_rows name_from texture_from brush_from walk tree assembled same same_rows node_names names stands sound fits
strict_written = refl

pub lenient_written : map (λ a. write Lenient (lent a) [] 60) alphas ≡ map (λ a. accept (brush a)) alphas
unfolding computing alphas write shortest rebuild coloured passes cut lent_rows has_counted_rows name_from texture_from brush_from walk tree assembled same same_rows node_names names stands sound fits
lenient_written = refl
