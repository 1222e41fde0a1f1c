-- How many numbers a row has, by its tag.
use mathlib.Core.Path.{◌≡◌, sym, ◌∙◌}
use Prim.Native.Nat.{ℕ, ◌+◌, ◌*◌, ◌/◌, ◌%◌, ◌≤◌}
use native.Mathlib.Omega.{arith}
use native.Mathlib.Nat.{mul-le-mul}
use mathlib.Core.Bool.{Bool, true, false}
use lib.ListN.{length, length-replicate}
use Rattle.layout.specs.Rules.{names_or_none}
use Rattle.b3d_spec.specs.declared.Tag.{Tag}
use Rattle.b3d_spec.specs.declared.Tag.TheVariants.{BRUS, VRTS, KEYS}
use Rattle.b3d_spec.specs.Rules.{vertex_words, key_words}
use Rattle.b3d_pieces_spec.specs.declared.Totals.{Totals}
use Rattle.b3d_pieces_spec.specs.declared.Kept.{Kept}
use Rattle.b3d_pieces_spec.specs.Bodies.{fixed_row, inner_row, rules_of}
use Rattle.b3d_pieces_spec.specs.Good.{Words}
use Rattle.b3d_pieces_spec.proofs.LeafRunLaws.{vertex-row-length}

module _ (k : Kept) (g : Totals) (tag : Tag) (r : ℕ) where
  pub len_as : (u : Tag) → tag ≡ u → r ≡ length (inner_row u k g) → r ≡ length (inner_row tag k g)
  len_as u e q = rw e q

  pub len_brus : tag ≡ BRUS → r ≡ 7 + k.first → r ≡ length (inner_row tag k g)
  len_brus e q = rw e (let m = length-replicate k.first (names_or_none g.textures) in omega arith)

  pub len_vrts : tag ≡ VRTS → r ≡ vertex_words k.first k.second k.third → r ≡ length (inner_row tag k g)
  len_vrts e q = rw e (q ∙ sym (vertex-row-length k.first k.second k.third))

  pub len_keys : tag ≡ KEYS → r ≡ 1 + k.first / 1 % 2 * 3 + k.first / 2 % 2 * 3 + k.first / 4 % 2 * 4 → r ≡ length (inner_row tag k g)
  unfolding key_words
  len_keys e q = rw e (q ∙ simp length-replicate)

  pub len_fixed : (fixed : Bool) → fixed ≡ true → r ≡ length (fixed_row tag g) → r ≡ length (rules_of fixed tag k g)
  len_fixed fixed e q = rw e q

  pub len_inner : (fixed : Bool) → fixed ≡ false → r ≡ length (inner_row tag k g) → r ≡ length (rules_of fixed tag k g)
  len_inner fixed e q = rw e q

pub ruleset len_laws = (len_brus, len_vrts, len_keys, len_as)

pub ruleset row_len_laws = (len_fixed, len_inner)

pub vertex-fits : (k : Kept) → Words k → k.second * k.third ≤ 4294967295 * 4294967295
vertex-fits k w =
    let a : k.second ≤ 4294967295 = omega (arith, w.1) in
    let b : k.third ≤ 4294967295 = omega (arith, w.2) in
    mul-le-mul a b

pub len_of : (g : Totals) (t u : Tag) (r : ℕ) → t ≡ u → r ≡ length (fixed_row u g) → r ≡ length (fixed_row t g)
len_of g t u r e q = rw e q

pub ruleset fixed_len_laws = len_of
